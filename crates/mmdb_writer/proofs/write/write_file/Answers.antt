use Rattle.std.proofs.Common.{◌≡◌, inr, ℕ, List, length, refl, subst}
use Rattle.std.proofs.lemmas.Result.{err_from_is_err_and}
use Rattle.mmdb_format.specs.Error.{MemoryApart}
use Rattle.mmdb_format.specs.declared.error.MaxMindDbError.{MaxMindDbError}
use Rattle.mmdb_format.specs.declared.error.MaxMindDbError.TheVariants as readers
use Rattle.mmdb_nodes.specs.declared.tree.SearchTree.{SearchTree}
use Rattle.mmdb_writer.specs.declared.options.Options.{Options}
use Rattle.mmdb_nodes.specs.declared.entry.NodeEntry.{NodeEntry}
use Rattle.mmdb_nodes.specs.Trees.{LeadsByPrefix, HasSplitNodes}
use Rattle.mmdb_writer.specs.Making.{BeginsWith, IsCertified, IsNotMeant}
use Rattle.mmdb_writer.specs.Working.{AreInOrder}
use Rattle.mmdb_writer.proofs.write.write_file.Goals as goal

pub returns-then-is_certified-clause-ok : goal.returns-then-is_certified-clause-ok
returns-then-is_certified-clause-ok c =
    let options = c.args.options.now in
    let tree = c.in_ok-tree.tree in
    let len : ℕ = length c.args.section.now in
    record {
      entries = c.put_in_order.new.entries.items;
      order = c.in_ok-put_in_order.ensures.ok;
      tree = tree;
      leads = subst (λ (es : List NodeEntry). LeadsByPrefix options.ip_version len es tree) c.deref.ensures.value c.in_ok-tree.ensures.leads;
      split = subst (λ (es : List NodeEntry). HasSplitNodes options.ip_version es tree) c.deref.ensures.value c.in_ok-tree.ensures.split;
      one_way = c.in_ok-tree.ensures.one_way;
      serves = c.in_ok-tree.ensures.size;
      len = c.in_ok-tree.ensures.len;
      begins = c.in_ok-file.ensures.ok;
      certified = subst (λ (f : List ℕ). IsCertified f options tree len) c.deref-2.ensures.value (c.in_ok-is_certified.ensures.certified c.if-is_certified.true);
    }

-- an error that is none of memory says what it is for
apart_from_memory : (e : MaxMindDbError) (P : Type 0) → MemoryApart e P → ¬ (e ≡ readers.Memory) → P
apart_from_memory readers.Memory P h other = absurd (other refl)
apart_from_memory (readers.InvalidDatabase message offset) P h other = h
apart_from_memory (readers.Io e) P h other = h
apart_from_memory (readers.Decoding message offset path) P h other = h
apart_from_memory (readers.ResourceLimit message offset path) P h other = h
apart_from_memory (readers.InvalidNetwork e) P h other = h
apart_from_memory (readers.InvalidInput message) P h other = h

-- a file that is not read back
unread_file : (options : Options) (section : List ℕ) (given entries : List NodeEntry) (tree : SearchTree) (file : List ℕ) → AreInOrder options.ip_version (length section) given entries → LeadsByPrefix options.ip_version (length section) entries tree → BeginsWith tree.bytes.items section file
    → ¬ IsCertified file options tree (length section) → IsNotMeant options section given
unread_file options section given entries tree file order leads begins unread = record {
  entries = entries;
  order = record { ordered = order.ordered; stable = order.stable };
  why = inr (record { tree = tree; leads = leads; file = file; begins = begins; unread = unread });
}

pub returns-in_err-is_certified-clause-not_meant : goal.returns-in_err-is_certified-clause-not_meant
returns-in_err-is_certified-clause-not_meant c =
    let options = c.args.options.now in
    let tree = c.in_ok-tree.tree in
    let len : ℕ = length c.args.section.now in
    let p = err_from_is_err_and c.from_residual-in_err-is_certified.result c.from_residual-in_err-is_certified.ensures.1 in
    let leads = subst (λ (es : List NodeEntry). LeadsByPrefix options.ip_version len es tree) c.deref.ensures.value c.in_ok-tree.ensures.leads in
    rw p.1 (λ is.
    let unread = apart_from_memory c.in_err-is_certified.field-0.0 (¬ IsCertified c.deref-2.result.now options tree len) c.in_err-is_certified.ensures.unread (p.2.unread is) in
    unread_file options c.args.section.now c.args.entries.now.items c.put_in_order.new.entries.items tree c.in_ok-file.file.items c.in_ok-put_in_order.ensures.ok leads c.in_ok-file.ensures.ok
    (subst (λ (f : List ℕ). ¬ IsCertified f options tree len) c.deref-2.ensures.value unread))

pub returns-clause-not_meant : goal.returns-clause-not_meant
returns-clause-not_meant c = λ is.
    let options = c.args.options.now in
    let tree = c.in_ok-tree.tree in
    let len : ℕ = length c.args.section.now in
    let leads = subst (λ (es : List NodeEntry). LeadsByPrefix options.ip_version len es tree) c.deref.ensures.value c.in_ok-tree.ensures.leads in
    unread_file options c.args.section.now c.args.entries.now.items c.put_in_order.new.entries.items tree c.in_ok-file.file.items c.in_ok-put_in_order.ensures.ok leads c.in_ok-file.ensures.ok
    (subst (λ (f : List ℕ). ¬ IsCertified f options tree len) c.deref-2.ensures.value (c.in_ok-is_certified.ensures.rejected c.if-is_certified.false))
