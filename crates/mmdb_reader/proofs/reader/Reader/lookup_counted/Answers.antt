use Rattle.std.proofs.Common.{◌≡◌, ℕ, Option, Some, None}
use Rattle.std.specs.Prelude.{MatchOption}
use Rattle.std.specs.declared.net.ip_addr.IpAddr.{IpAddr}
use Rattle.mmdb_reader.specs.declared.reader.Leaf.{Leaf}
use Rattle.mmdb_reader.specs.File.{Database}
use Rattle.mmdb_reader.specs.Lookup.{CanAsk}
use Rattle.mmdb_reader.specs.Counting.{CountsNodes, CountsAnswer}
use Rattle.mmdb_reader.specs.Working.{IsLeafAt, block_of}
use Rattle.mmdb_reader.proofs.CountLemmas.{CountsNodes-answer}
use Rattle.mmdb_reader.proofs.reader.Reader.lookup_counted.Goals as goal

module _ (db : Database) (address : IpAddr) (old new : ℕ) where
  abbrev Found : Option Leaf → Type 0
  Found leaf = MatchOption leaf (¬ (CanAsk db address)) (λ leaf. IsLeafAt db address (block_of db leaf) leaf.number)

  abbrev Counted : Option Leaf → Type 0
  Counted leaf = MatchOption leaf (new ≡ old) (λ leaf. CountsNodes db address (block_of db leaf) old new)

  counts : (leaf : Option Leaf) → Found leaf → Counted leaf → CountsAnswer db address old new
  counts None none same other outcome answer = absurd (none answer.can_ask)
  counts (Some leaf) found counted other outcome answer = CountsNodes-answer db address (block_of db leaf) other leaf.number old new outcome found counted answer

  counts_none : (leaf : Option Leaf) → Found leaf → Counted leaf → ¬ (CanAsk db address) → new ≡ old
  counts_none None none same cannot = same
  counts_none (Some leaf) found counted cannot = absurd (cannot found.can_ask)

pub returns-clause-counted : goal.returns-clause-counted
returns-clause-counted g c = counts c.args.self.now c.args.address c.args.steps.now c.find_leaf-leaf.new.steps c.find_leaf-leaf.result c.find_leaf-leaf.ensures.found c.find_leaf-leaf.ensures.counted

pub returns-clause-not_counted : goal.returns-clause-not_counted
returns-clause-not_counted g c = counts_none c.args.self.now c.args.address c.args.steps.now c.find_leaf-leaf.new.steps c.find_leaf-leaf.result c.find_leaf-leaf.ensures.found c.find_leaf-leaf.ensures.counted
