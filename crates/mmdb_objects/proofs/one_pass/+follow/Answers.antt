use Rattle.std.proofs.Common.{rules, ◌≡◌, ◌+◌, ◌<◌, true, false, drop, refl, sym, ◌∙◌, length, arith}
use Rattle.std.specs.Str.{bytes_eq}
use Rattle.json.specs.Json.{no_members, member}
use Rattle.json.specs.Word.{head}
use Rattle.mmdb_objects.specs.Scanned.{lexemes_at, bytes_between}
use Rattle.mmdb_objects.proofs.FoundLaws.{object_followed, first_members, no_member, last_member, next_member, text_found, text_goes_on, mark_of}
use Rattle.mmdb_objects.proofs.ScanLaws.{inside}
use Rattle.mmdb_objects.proofs.one_pass.+follow.Goals as goal

pub follow-returns-clause-value : goal.follow-returns-clause-value
follow-returns-clause-value t c =
    let some : 0 < length c.args.path.now = grind (arith, c.if-is_empty.ensures) in
    let deep : 0 < c.args.depth = omega arith in
    let first : head (drop c.args.from c.args.text.now) ≡ 123 = sym c.byte_at.ensures ∙ c.if-byte_at-ne123.false in
    object_followed c.args.text.now c.args.from c.args.depth c.args.path.now _ c.in-Key.name c.follow_members.result some c.in-Key.is first deep c.follow_members.ensures.value

pub follow_members-returns-then-byte-eq125-clause-value : goal.follow_members-returns-then-byte-eq125-clause-value
follow_members-returns-then-byte-eq125-clause-value t c =
    let closes : head (drop c.space_end-at.result c.args.text.now) ≡ 125 = search rules in
    (no_members, no_member c.args.text.now c.args.from c.space_end-at.result c.args.depth c.space_end-at.ensures.same closes, refl)

pub follow_members-loop-key-init : goal.follow_members-loop-key-init
follow_members-loop-key-init t c =
    let first : head (drop c.space_end-at.result c.args.text.now) ≡ 34 = search rules in
    record {
      low = omega arith;
      within = inside c.args.text.now c.space_end-at.result first;
      first = first;
      reads = λ ms rest begins. (ms, first_members c.args.text.now c.args.from c.space_end-at.result c.args.depth ms rest c.space_end-at.ensures.same begins, refl);
    }

pub follow_members-read_key-requires-clause-within : goal.follow_members-read_key-requires-clause-within
follow_members-read_key-requires-clause-within t c = c.loop-key.invariant.within

pub follow_members-read_key-requires-clause-first : goal.follow_members-read_key-requires-clause-first
follow_members-read_key-requires-clause-first t c = c.loop-key.invariant.first

pub follow_members-returns-then-next-clause-value : goal.follow_members-returns-then-next-clause-value
follow_members-returns-then-next-clause-value t c =
    let text = c.args.text.now in
    let at = c.loop-key.at in
    let key = c.in_ok-key.key in
    let next = c.in_ok-next.next in
    let end = c.in_ok-member.member.end in
    let k = bytes_between text (at + 1) key.quote in
    let (j, has, is) = c.in_ok-member.ensures.value in
    let ended : next.is_end ≡ true = search rules in
    let (all, begins, e) = c.loop-key.invariant.reads (member k j no_members) (lexemes_at text next.at)
    (last_member text at key.quote key.value.at end next.at c.args.depth j c.in_ok-key.ensures.key has (mark_of text end next.at next.is_end true ended c.in_ok-next.ensures.at)) in
    let same : c.is_name-is_named.result ≡ bytes_eq k c.args.name.now = c.is_name-is_named.ensures in
    (all, begins, text_found c.args.path.now c.args.name.now k j all _ _ c.is_name-is_named.result same is e)

pub follow_members-loop-key-preserved : goal.follow_members-loop-key-preserved
follow_members-loop-key-preserved t c =
    let text = c.args.text.now in
    let at = c.loop-key.at in
    let key = c.in_ok-key.key in
    let next = c.in_ok-next.next in
    let end = c.in_ok-member.member.end in
    let k = bytes_between text (at + 1) key.quote in
    let (j, has, is) = c.in_ok-member.ensures.value in
    let more : next.is_end ≡ false = search rules in
    let mark = mark_of text end next.at next.is_end false more c.in_ok-next.ensures.at in
    let first = c.in_ok-next.ensures.key more in
    let same : c.is_name-is_named.result ≡ bytes_eq k c.args.name.now = c.is_name-is_named.ensures in
    record {
      low = omega (arith, c.in_ok-member.ensures.bounds, c.in_ok-key.ensures.key.low, c.in_ok-key.ensures.key.high, mark.low, mark.high);
      within = first.0;
      first = first.1;
      reads = λ ms rest others.
          let (all, begins, e) = c.loop-key.invariant.reads (member k j ms) rest
          (next_member text at key.quote key.value.at end next.at c.args.depth j ms rest c.in_ok-key.ensures.key has mark others) in
          (all, begins, text_goes_on c.args.path.now c.args.name.now k j ms all _ _ c.is_name-is_named.result same is e);
    }
