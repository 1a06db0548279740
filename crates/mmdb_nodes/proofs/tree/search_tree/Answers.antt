use Rattle.std.proofs.Common.{rules, ◌≡◌, sym, subst, length, None, List}
use Rattle.mmdb_nodes.proofs.DifferLemmas.{one_or_more, blocks_differ}
use Rattle.mmdb_nodes.specs.declared.node.Node.{Node as SpecNode}
use Rattle.mmdb_nodes.specs.Entries.{width, offset_in}
use Rattle.mmdb_nodes.specs.Trees.{bits_in, tree_in, walked_in}
use Rattle.mmdb_nodes.specs.Working.{IsSound, AreNodes}
use Rattle.mmdb_nodes.proofs.EntryLemmas.{all_below, offset_below}
use Rattle.mmdb_nodes.proofs.LongestLemmas.{last_is_longest}
use Rattle.mmdb_nodes.proofs.ByteLemmas.{is_size, with_behind, bytes_lead, no_equal_leaves}
use Rattle.mmdb_nodes.proofs.CountLemmas.{clean}
use Rattle.mmdb_nodes.proofs.ForestLemmas.{one_way}
use Rattle.mmdb_nodes.proofs.tree.search_tree.Goals as goal

pub nodes_as_bytes-requires-clause-sound : goal.nodes_as_bytes-requires-clause-sound
nodes_as_bytes-requires-clause-sound c = subst (IsSound 0 c.args.data_len) (sym c.deref.ensures.value) c.in_ok-nodes.ensures.ok.sound

pub returns-clause-leads : goal.returns-clause-leads
returns-clause-leads c behind a lt =
    let nodes = c.in_ok-nodes.nodes.items in
    let size = bits_in c.in-Some.size in
    let count : c.len-2.result ≡ length c.in_ok-nodes.nodes.items = search rules in
    let are : AreNodes (bits_in c.in-Some.size) c.in_ok-nodes.nodes.items c.in_ok-bytes.bytes.items = subst (λ (xs : List SpecNode). AreNodes (bits_in c.in-Some.size) xs c.in_ok-bytes.bytes.items) c.deref.ensures.value c.in_ok-bytes.ensures in
    let of = c.in_ok-nodes.ensures.ok in (
      offset_in c.args.entries.now a,
      last_is_longest c.args.version c.args.data_len c.args.entries.now a c.requires.ordered c.requires.entries,
      bytes_lead (tree_in (record { bytes = c.in_ok-bytes.bytes; node_count = c.len-2.result; record_size = c.in-Some.size }) behind) nodes c.args.data_len (width c.args.version) a (offset_in c.args.entries.now a)
          count of.some (with_behind size nodes c.in_ok-bytes.bytes.items behind (is_size c.in-Some.size) are) of.sound (of.leads a lt)
          (offset_below c.args.data_len None c.args.entries.now a (all_below c.args.version c.args.data_len c.args.entries.now c.requires.entries) tt),
    )

pub returns-clause-clean : goal.returns-clause-clean
returns-clause-clean c start behind =
    let nodes = c.in_ok-nodes.nodes.items in
    let size = bits_in c.in-Some.size in
    let count : c.len-2.result ≡ length c.in_ok-nodes.nodes.items = search rules in
    let are : AreNodes (bits_in c.in-Some.size) c.in_ok-nodes.nodes.items c.in_ok-bytes.bytes.items = subst (λ (xs : List SpecNode). AreNodes (bits_in c.in-Some.size) xs c.in_ok-bytes.bytes.items) c.deref.ensures.value c.in_ok-bytes.ensures in
    let of = c.in_ok-nodes.ensures.ok in
    clean (walked_in c.args.version c.args.data_len start behind (record { bytes = c.in_ok-bytes.bytes; node_count = c.len-2.result; record_size = c.in-Some.size })) nodes
    count (with_behind size nodes c.in_ok-bytes.bytes.items behind (is_size c.in-Some.size) are) of.sound of.some (λ a lt. (offset_in c.args.entries.now a, of.leads a lt)) of.few

pub returns-clause-reduced : goal.returns-clause-reduced
returns-clause-reduced c behind node lt same =
    let nodes = c.in_ok-nodes.nodes.items in
    let size = bits_in c.in-Some.size in
    let count : c.len-2.result ≡ length c.in_ok-nodes.nodes.items = search rules in
    let are : AreNodes (bits_in c.in-Some.size) c.in_ok-nodes.nodes.items c.in_ok-bytes.bytes.items = subst (λ (xs : List SpecNode). AreNodes (bits_in c.in-Some.size) xs c.in_ok-bytes.bytes.items) c.deref.ensures.value c.in_ok-bytes.ensures in
    let of = c.in_ok-nodes.ensures.ok in
    no_equal_leaves (tree_in (record { bytes = c.in_ok-bytes.bytes; node_count = c.len-2.result; record_size = c.in-Some.size }) behind) nodes c.args.data_len
    count (with_behind size nodes c.in_ok-bytes.bytes.items behind (is_size c.in-Some.size) are) of.sound (one_or_more nodes of.reduced) node lt same

pub returns-clause-split : goal.returns-clause-split
returns-clause-split c behind bits some len on =
    let nodes = c.in_ok-nodes.nodes.items in
    let size = bits_in c.in-Some.size in
    let count : c.len-2.result ≡ length c.in_ok-nodes.nodes.items = search rules in
    let are : AreNodes (bits_in c.in-Some.size) c.in_ok-nodes.nodes.items c.in_ok-bytes.bytes.items = subst (λ (xs : List SpecNode). AreNodes (bits_in c.in-Some.size) xs c.in_ok-bytes.bytes.items) c.deref.ensures.value c.in_ok-bytes.ensures in
    blocks_differ c.args.version c.args.entries.now c.args.data_len nodes c.in_ok-nodes.ensures.ok (tree_in (record { bytes = c.in_ok-bytes.bytes; node_count = c.len-2.result; record_size = c.in-Some.size }) behind)
    count (with_behind size nodes c.in_ok-bytes.bytes.items behind (is_size c.in-Some.size) are) bits some len on

pub returns-clause-one_way : goal.returns-clause-one_way
returns-clause-one_way c behind one other on same =
    let nodes = c.in_ok-nodes.nodes.items in
    let size = bits_in c.in-Some.size in
    let count : c.len-2.result ≡ length c.in_ok-nodes.nodes.items = search rules in
    let are : AreNodes (bits_in c.in-Some.size) c.in_ok-nodes.nodes.items c.in_ok-bytes.bytes.items = subst (λ (xs : List SpecNode). AreNodes (bits_in c.in-Some.size) xs c.in_ok-bytes.bytes.items) c.deref.ensures.value c.in_ok-bytes.ensures in
    let of = c.in_ok-nodes.ensures.ok in
    one_way (tree_in (record { bytes = c.in_ok-bytes.bytes; node_count = c.len-2.result; record_size = c.in-Some.size }) behind) nodes c.args.data_len
    count (with_behind size nodes c.in_ok-bytes.bytes.items behind (is_size c.in-Some.size) are) of.sound of.forest of.some one other on same
