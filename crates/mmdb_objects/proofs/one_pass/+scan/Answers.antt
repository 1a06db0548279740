use Rattle.std.proofs.Common.{rules, ◌≡◌, ◌+◌, ◌-◌, ◌<◌, true, false, drop, arith}
use Rattle.json.specs.Json.{no_items, item, no_members, member, string, array, object}
use Rattle.json.specs.Word.{head}
use Rattle.mmdb_objects.specs.Scanned.{lexemes_at, bytes_between, HasWord, HasItems, HasMembers}
use Rattle.mmdb_objects.proofs.FoundLaws.{if_found, word_found, string_found, object_found, array_found, first_items, no_item, last_item, next_item, first_members, no_member, last_member, next_member, mark_of}
use Rattle.mmdb_objects.proofs.ScanLaws.{inside}
use Rattle.mmdb_objects.proofs.one_pass.+scan.Goals as goal

pub value_end-returns-in_ok-quote-clause-value : goal.value_end-returns-in_ok-quote-clause-value
value_end-returns-in_ok-quote-clause-value t c =
    let text = c.args.text.now in
    let first : head (drop c.args.from text) ≡ 34 = search rules in
    let closed = c.in_ok-quote.ensures in
    (string closed.bytes.0, string_found text closed.bytes.0 c.args.from c.in_ok-quote.quote c.args.depth first closed.bytes.1 closed.passed)

pub value_end-returns-then-depth-gt0-clause-value : goal.value_end-returns-then-depth-gt0-clause-value
value_end-returns-then-depth-gt0-clause-value t c =
    let text = c.args.text.now in
    let first : head (drop c.args.from text) ≡ 123 = search rules in
    let deep : 0 < c.args.depth = omega arith in
    if_found (λ end ms. HasMembers text (c.args.from + 1) end (c.args.depth - 1) ms) object text c.args.from c.args.depth c.members_end.result (λ end ms inside. object_found text c.args.from end c.args.depth ms first deep inside) c.members_end.ensures.value

pub value_end-returns-then-depth-gt0-2-clause-value : goal.value_end-returns-then-depth-gt0-2-clause-value
value_end-returns-then-depth-gt0-2-clause-value t c =
    let text = c.args.text.now in
    let first : head (drop c.args.from text) ≡ 91 = search rules in
    let deep : 0 < c.args.depth = omega arith in
    if_found (λ end js. HasItems text (c.args.from + 1) end (c.args.depth - 1) js) array text c.args.from c.args.depth c.items_end.result (λ end js inside. array_found text c.args.from end c.args.depth js first deep inside) c.items_end.ensures.value

pub value_end-returns-else-byte-eq91-clause-value : goal.value_end-returns-else-byte-eq91-clause-value
value_end-returns-else-byte-eq91-clause-value t c =
    if_found (λ end j. HasWord c.args.text.now c.args.from end j) (λ j. j) c.args.text.now c.args.from c.args.depth c.word_end.result (λ end j has. word_found c.args.text.now c.args.from end c.args.depth j has) c.word_end.ensures.word

pub items_end-returns-then-byte_at-eq93-clause-value : goal.items_end-returns-then-byte_at-eq93-clause-value
items_end-returns-then-byte_at-eq93-clause-value t c =
    let closes : head (drop c.space_end-at.result c.args.text.now) ≡ 93 = search rules in
    (no_items, no_item c.args.text.now c.args.from c.space_end-at.result c.args.depth c.space_end-at.ensures.same closes)

pub items_end-loop-item-init : goal.items_end-loop-item-init
items_end-loop-item-init t c = record {
  low = omega arith;
  high = omega arith;
  reads = λ js rest begins. (js, first_items c.args.text.now c.args.from c.space_end-at.result c.args.depth js rest c.space_end-at.ensures.same begins);
}

pub items_end-returns-then-byte-eq93-clause-value : goal.items_end-returns-then-byte-eq93-clause-value
items_end-returns-then-byte-eq93-clause-value t c =
    let text = c.args.text.now in
    let end = c.space_end-end.result in
    let (j, has) = c.in_ok-item.ensures.value in
    let closes : head (drop end text) ≡ 93 = search rules in
    c.loop-item.invariant.reads (item j no_items) (lexemes_at text (end + 1)) (last_item text c.loop-item.at c.in_ok-item.item end c.args.depth j has c.space_end-end.ensures.same closes)

pub items_end-loop-item-preserved : goal.items_end-loop-item-preserved
items_end-loop-item-preserved t c =
    let text = c.args.text.now in
    let end = c.space_end-end.result in
    let next = c.space_end-at-in-loop-item.result in
    let (j, has) = c.in_ok-item.ensures.value in
    let mark : head (drop end text) ≡ 44 = search rules in
    record {
      low = omega (arith, c.in_ok-item.ensures.bounds);
      high = omega arith;
      reads = λ js rest others. c.loop-item.invariant.reads (item j js) rest
          (next_item text c.loop-item.at c.in_ok-item.item end next c.args.depth j js rest has c.space_end-end.ensures.same mark c.space_end-at-in-loop-item.ensures.same others);
    }

pub value_end-returns-then-is_integer_start-clause-value : goal.value_end-returns-then-is_integer_start-clause-value
value_end-returns-then-is_integer_start-clause-value t c =
    if_found (λ end j. HasWord c.args.text.now c.args.from end j) (λ j. j) c.args.text.now c.args.from c.args.depth c.digits_word_end.result (λ end j has. word_found c.args.text.now c.args.from end c.args.depth j has) c.digits_word_end.ensures.word

pub members_end-returns-then-byte-eq125-clause-value : goal.members_end-returns-then-byte-eq125-clause-value
members_end-returns-then-byte-eq125-clause-value t c =
    let closes : head (drop c.space_end-at.result c.args.text.now) ≡ 125 = search rules in
    (no_members, no_member c.args.text.now c.args.from c.space_end-at.result c.args.depth c.space_end-at.ensures.same closes)

pub members_end-loop-key-init : goal.members_end-loop-key-init
members_end-loop-key-init t c =
    let first : head (drop c.space_end-at.result c.args.text.now) ≡ 34 = search rules in
    record {
      low = omega arith;
      within = inside c.args.text.now c.space_end-at.result first;
      first = first;
      reads = λ ms rest begins. (ms, first_members c.args.text.now c.args.from c.space_end-at.result c.args.depth ms rest c.space_end-at.ensures.same begins);
    }

pub members_end-read_key-requires-clause-within : goal.members_end-read_key-requires-clause-within
members_end-read_key-requires-clause-within t c = c.loop-key.invariant.within

pub members_end-read_key-requires-clause-first : goal.members_end-read_key-requires-clause-first
members_end-read_key-requires-clause-first t c = c.loop-key.invariant.first

pub members_end-returns-then-next-clause-value : goal.members_end-returns-then-next-clause-value
members_end-returns-then-next-clause-value t c =
    let text = c.args.text.now in
    let at = c.loop-key.at in
    let key = c.in_ok-key.key in
    let next = c.in_ok-next.next in
    let (j, has) = c.in_ok-value.ensures.value in
    let ended : next.is_end ≡ true = search rules in
    c.loop-key.invariant.reads (member (bytes_between text (at + 1) key.quote) j no_members) (lexemes_at text next.at)
    (last_member text at key.quote key.value.at c.in_ok-value.value next.at c.args.depth j c.in_ok-key.ensures.key has (mark_of text c.in_ok-value.value next.at next.is_end true ended c.in_ok-next.ensures.at))

pub members_end-loop-key-preserved : goal.members_end-loop-key-preserved
members_end-loop-key-preserved t c =
    let text = c.args.text.now in
    let at = c.loop-key.at in
    let key = c.in_ok-key.key in
    let next = c.in_ok-next.next in
    let (j, has) = c.in_ok-value.ensures.value in
    let more : next.is_end ≡ false = search rules in
    let mark = mark_of text c.in_ok-value.value next.at next.is_end false more c.in_ok-next.ensures.at in
    let begins = c.in_ok-next.ensures.key more in
    record {
      low = omega (arith, c.in_ok-value.ensures.bounds, c.in_ok-key.ensures.key.low, c.in_ok-key.ensures.key.high, mark.low, mark.high);
      within = begins.0;
      first = begins.1;
      reads = λ ms rest others. c.loop-key.invariant.reads (member (bytes_between text (at + 1) key.quote) j ms) rest
          (next_member text at key.quote key.value.at c.in_ok-value.value next.at c.args.depth j ms rest c.in_ok-key.ensures.key has mark others);
    }
