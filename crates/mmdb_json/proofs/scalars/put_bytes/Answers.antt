use Rattle.std.proofs.Common.{refl}
use Rattle.base64.specs.GeneralPurpose.{encode_of}
use Rattle.base64.specs.Engines.{standard}
use Rattle.json.specs.Json.{string}
use Rattle.json.specs.Print.{quoted}
use Rattle.mmdb_format.specs.Contents.{bytes as byte_string}
use Rattle.mmdb_json.proofs.ScalarTexts.{grows, string_written, base64_utf8}
use Rattle.mmdb_json.proofs.scalars.put_bytes.Goals as goal

pub returns : goal.returns
returns c =
    let text = encode_of standard c.args.bytes.now in
    grows c.put_bytes.result (byte_string c.args.bytes.now) (string text) c.args.out.now c.put_bytes.new.self (quoted text) c.put_bytes.ensures refl (string_written text (base64_utf8 c.args.bytes.now)) refl
