-- What the lines of a comparison say of all addresses.
use Rattle.std.proofs.Common.{◌≡◌, ◌∙◌, ◌⊎◌, inl, inr, ℕ, Bool, List, get_or, Option, ap, sym}
use Rattle.std.specs.Io.KnownBytes.{Appends}
use Rattle.std.proofs.lemmas.List.Elements.{All-contains_itself}
use Rattle.mmdb_blocks.specs.declared.kind.Kinds.{Kinds}
use Rattle.mmdb_layout.specs.declared.layout.Layout.{Layout}
use Rattle.mmdb_reader.specs.File.{Database}
use Rattle.mmdb_compare.specs.Agreeing.{AnswersAgree, IsRecordAt}
use Rattle.mmdb_compare.specs.Coming.{Coming}
use Rattle.mmdb_compare.specs.Coming.Answer.{Record, Nothing}
use Rattle.mmdb_compare.specs.Listed.{all_of}
use Rattle.mmdb_compare.specs.Same.{Sections}
use Rattle.mmdb_cmd_diff.specs.Comparing.{IsLeftOut, TellsAll}
use Rattle.mmdb_cmd_diff.specs.Lines.{Line, AreTrueLines, IsInLines}
use Rattle.mmdb_cmd_diff.specs.Showing.{Showing}
use Rattle.mmdb_cmd_diff.specs.Walked.{AreCompared, IsShownAt, all_at, both_of}
use Rattle.mmdb_cmd_diff.proofs.Walking.{has-record}

-- an address is in some of these lines, where it is not left out
in-one : (lines : List Line) (kinds : Kinds) (showing : Showing) (left : List Coming) (address : ℕ) → ((is_ipv4 : Bool) → ¬ IsLeftOut kinds showing (both_of left) is_ipv4 address) → (is_ipv4 : Bool)
    → IsInLines lines is_ipv4 address ⊎ IsLeftOut kinds showing (both_of left) is_ipv4 address → IsInLines lines is_ipv4 address
in-one lines kinds showing left address not_out is_ipv4 (inl there) = there
in-one lines kinds showing left address not_out is_ipv4 (inr out) = absurd (not_out is_ipv4 out)

-- What is written is true lines, and each address at which it is known what both databases have, and one has a record, is in one of them:
-- unless its kind is not wanted, both are shown the same there, or a record can't be read.
pub each-change : (layout : Layout) (kinds : Kinds) (showing : Showing) (left : List Coming) (a b : Option (List ℕ))
    → TellsAll layout showing (both_of left) (IsShownAt left) (IsLeftOut kinds showing (both_of left)) a b
    → (lines : List Line) × (text : List ℕ) × AreTrueLines layout showing (both_of left) lines text × Appends a b text
    × ((address : ℕ) → IsShownAt left address → ((is_ipv4 : Bool) → ¬ IsLeftOut kinds showing (both_of left) is_ipv4 address) → (is_ipv4 : Bool) × IsInLines lines is_ipv4 address)
each-change layout kinds showing left a b (lines, text, all, grown, told) =
    (lines, text, all, grown, λ address shown not_out. let (is_ipv4, there) = told address shown in (is_ipv4, in-one lines kinds showing left address not_out is_ipv4 there))

-- The record that the old database has at an address there is the one that a lookup finds,
pub old-found : (sections : Sections) (dbs : List Database) (left : List Coming) (compared : AreCompared sections dbs left) (address : ℕ) (offset : Option ℕ) → AnswersAgree
    → get_or (all_at left address) 0 Nothing ≡ Record offset → IsRecordAt compared.old address offset
old-found sections dbs left compared address offset agree is =
    let whole = all_of compared.old compared.range in
    let there = sym (ap (λ (l : List Coming). get_or (all_at l address) 0 Nothing) compared.left_is) ∙ is in
    let (c, of, answered) = has-record compared.old compared.range address whole.leaves whole.is_unknown offset (All-contains_itself whole.leaves) there in
    agree compared.old compared.range c address offset compared.can_ask_old of answered

-- and that of the new one.
pub new-found : (sections : Sections) (dbs : List Database) (left : List Coming) (compared : AreCompared sections dbs left) (address : ℕ) (offset : Option ℕ) → AnswersAgree
    → get_or (all_at left address) 1 Nothing ≡ Record offset → IsRecordAt compared.new address offset
new-found sections dbs left compared address offset agree is =
    let whole = all_of compared.new compared.range in
    let there = sym (ap (λ (l : List Coming). get_or (all_at l address) 1 Nothing) compared.left_is) ∙ is in
    let (c, of, answered) = has-record compared.new compared.range address whole.leaves whole.is_unknown offset (All-contains_itself whole.leaves) there in
    agree compared.new compared.range c address offset compared.can_ask_new of answered
