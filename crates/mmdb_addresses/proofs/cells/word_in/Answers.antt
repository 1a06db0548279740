use Rattle.std.proofs.Common.{◌∙◌, ap, subst}
use Rattle.mmdb_addresses.specs.Addresses.{Finds}
use Rattle.mmdb_addresses.specs.Cells.{without_opening, without_closing}
use Rattle.mmdb_addresses.specs.Words.{IsWord}
use Rattle.mmdb_addresses.proofs.cells.word_in.Goals as goal

pub returns : goal.returns
returns c =
    subst (λ w. Finds (IsWord w) c.word_address.result) (c.without_closing.ensures ∙ ap without_closing (c.without_opening.ensures ∙ ap without_opening c.first_word.ensures)) c.word_address.ensures
