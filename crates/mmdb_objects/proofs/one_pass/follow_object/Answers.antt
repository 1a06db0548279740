use Rattle.std.proofs.Common.{rules, ◌≡◌, ◌+◌, ◌||◌, true, false, drop, refl, sym, arith}
use Rattle.std.specs.Str.{bytes_eq}
use Rattle.json.specs.Json.{no_members, member}
use Rattle.json.specs.Word.{head}
use Rattle.mmdb_objects.specs.Scanned.{lexemes_at, bytes_between}
use Rattle.mmdb_objects.proofs.FoundLaws.{first_members, no_member, last_member, next_member, text_found, text_goes_on, taken_found, taken_goes_on, mark_of}
use Rattle.mmdb_objects.proofs.ScanLaws.{inside}
use Rattle.mmdb_objects.proofs.one_pass.follow_object.Goals as goal
use Rattle.mmdb_objects.proofs.one_pass.follow_object.Goals.{then-is_other, else-is_other}

pub returns-then-byte-eq125-clause-value : goal.returns-then-byte-eq125-clause-value
returns-then-byte-eq125-clause-value c =
    let closes : head (drop c.space_end-at.result c.args.text.now) ≡ 125 = search rules in
    (no_members, no_member c.args.text.now c.args.from c.space_end-at.result c.args.depth c.space_end-at.ensures.same closes, record { text = refl; empty = refl; taken = refl })

pub loop-key-init : goal.loop-key-init
loop-key-init c =
    let first : head (drop c.space_end-at.result c.args.text.now) ≡ 34 = search rules in
    record {
      low = omega arith;
      within = inside c.args.text.now c.space_end-at.result first;
      first = first;
      reads = λ ms rest begins. (ms, first_members c.args.text.now c.args.from c.space_end-at.result c.args.depth ms rest c.space_end-at.ensures.same begins, refl, (λ e. e), refl);
    }

pub read_key-requires-clause-within : goal.read_key-requires-clause-within
read_key-requires-clause-within c = c.loop-key.invariant.within

pub read_key-requires-clause-first : goal.read_key-requires-clause-first
read_key-requires-clause-first c = c.loop-key.invariant.first

pub returns-then-next-clause-value : goal.returns-then-next-clause-value
returns-then-next-clause-value c =
    let text = c.args.text.now in
    let at = c.loop-key.at in
    let key = c.in_ok-key.key in
    let next = c.in_ok-next.next in
    let end = c.in_ok-member.member.end in
    let k = bytes_between text (at + 1) key.quote in
    let (j, has, is) = c.in_ok-member.ensures.value in
    let ended : next.is_end ≡ true = search rules in
    let (all, begins, e, some, taken) = c.loop-key.invariant.reads (member k j no_members) (lexemes_at text next.at)
    (last_member text at key.quote key.value.at end next.at c.args.depth j c.in_ok-key.ensures.key has (mark_of text end next.at next.is_end true ended c.in_ok-next.ensures.at)) in
    let same : c.is_name-is_named.result ≡ bytes_eq k c.args.name.now = c.is_name-is_named.ensures in
    let other : c.is_name-is_other.result ≡ bytes_eq k c.args.other.now = c.is_name-is_other.ensures in
    let now : c.if-is_other.is_taken ≡ (c.loop-key.is_taken || c.is_name-is_other.result) = elim c.if-is_other.branch [ then-is_other w ↦ search rules | else-is_other w ↦ search rules ] in (
      all,
      begins,
      record {
        text = text_found c.args.path.now c.args.name.now k j all _ _ c.is_name-is_named.result same is e;
        empty = sym (some refl);
        taken = taken_found c.args.other.now k j all c.loop-key.is_taken _ c.is_name-is_other.result other now taken;
      },
    )

pub loop-key-preserved : goal.loop-key-preserved
loop-key-preserved c =
    let text = c.args.text.now in
    let at = c.loop-key.at in
    let key = c.in_ok-key.key in
    let next = c.in_ok-next.next in
    let end = c.in_ok-member.member.end in
    let k = bytes_between text (at + 1) key.quote in
    let (j, has, is) = c.in_ok-member.ensures.value in
    let more : next.is_end ≡ false = search rules in
    let mark = mark_of text end next.at next.is_end false more c.in_ok-next.ensures.at in
    let first = c.in_ok-next.ensures.key more in
    let same : c.is_name-is_named.result ≡ bytes_eq k c.args.name.now = c.is_name-is_named.ensures in
    let other : c.is_name-is_other.result ≡ bytes_eq k c.args.other.now = c.is_name-is_other.ensures in
    let now : c.if-is_other.is_taken ≡ (c.loop-key.is_taken || c.is_name-is_other.result) = elim c.if-is_other.branch [ then-is_other w ↦ search rules | else-is_other w ↦ search rules ] in
    record {
      low = omega (arith, c.in_ok-member.ensures.bounds, c.in_ok-key.ensures.key.low, c.in_ok-key.ensures.key.high, mark.low, mark.high);
      within = first.0;
      first = first.1;
      reads = λ ms rest others.
          let (all, begins, e, some, taken) = c.loop-key.invariant.reads (member k j ms) rest
          (next_member text at key.quote key.value.at end next.at c.args.depth j ms rest c.in_ok-key.ensures.key has mark others) in
          (all, begins, text_goes_on c.args.path.now c.args.name.now k j ms all _ _ c.is_name-is_named.result same is e, (λ _. some refl), taken_goes_on c.args.other.now k j ms all c.loop-key.is_taken _ c.is_name-is_other.result other now taken);
    }
