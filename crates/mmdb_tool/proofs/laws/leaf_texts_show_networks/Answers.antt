use Rattle.std.proofs.Common.{sym}
use Rattle.mmdb_tool.proofs.LineLemmas.{shown_text}
use Rattle.mmdb_tool.proofs.laws.leaf_texts_show_networks.Goals as goal

pub returns : goal.returns
returns c db leaf as_ipv4 network shown = sym (shown_text db leaf as_ipv4 network shown)
