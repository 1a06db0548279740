-- How many nodes lookups read.
use Rattle.std.proofs.Common.{◌≡◌, ℕ, ◌+◌, ◌-◌, ◌≤◌, List, Bool, length, take, arith, subst, length-append}
use Rattle.std.proofs.lemmas.List.{length-take-le}
use Rattle.std.specs.declared.net.ip_addr.IpAddr.{IpAddr}
use Rattle.std.specs.declared.net.ip_addr.IpAddr.TheVariants.{V4, V6}
use Rattle.std.specs.declared.net.ipv4_addr.Ipv4Addr.{Ipv4Addr}
use Rattle.std.specs.declared.net.ipv6_addr.Ipv6Addr.{Ipv6Addr}
use Rattle.std.specs.Net.Addr.{ipv4_bits, ipv6_bits}
use Rattle.mmdb_net.specs.Bits.{bits_of}
use Rattle.mmdb_net.proofs.BitLaws.{length-bits_of}
use Rattle.mmdb_reader.specs.File.{Database, tree_of, before_ipv4}
use Rattle.mmdb_tree.specs.Descents.{Descends}
use Rattle.mmdb_tree.specs.declared.record.TreeRecord.{TreeRecord}
use Rattle.mmdb_reader.specs.Lookup.{Answers, block_at, address_bits}
use Rattle.mmdb_reader.specs.Working.{IsLeafAt}
use Rattle.mmdb_reader.specs.Counting.{CountsNodes}
use Rattle.mmdb_reader.proofs.LeafLemmas.{start-is}
use Rattle.mmdb_reader.proofs.LawLemmas.{one_leaf}

-- an IPv4 lookup that begins from an entry of the table
pub CountsNodes-v4 : (db : Database) (a : Ipv4Addr) (taken read old new : ℕ) → taken ≤ 32 → read ≡ taken - 16 → new ≡ old + read → CountsNodes db (V4 a) (block_at db (V4 a) taken) old new
CountsNodes-v4 db a taken read old new few past added =
    let cut : length (take taken (bits_of 32 (ipv4_bits a))) ≡ taken = length-take-le taken (bits_of 32 (ipv4_bits a)) (omega (arith, length-bits_of 32 (ipv4_bits a))) in
    let len = length-append (before_ipv4 db) (take taken (bits_of 32 (ipv4_bits a))) in
    record {
      least = omega arith;
      most = omega (arith, len, cut);
      ipv4 = λ _ _. omega (arith, len, cut, past, added);
    }

-- one where IPv4 begins on no node
pub CountsNodes-none : (db : Database) (a : Ipv4Addr) (leaf : List Bool) (start depth old new : ℕ) → Descends (tree_of db) 0 (before_ipv4 db) depth start → db.metadata.node_count ≤ start → new ≡ old → CountsNodes db (V4 a) leaf old new
CountsNodes-none db a leaf start depth old new d off same = record {
  least = omega arith;
  most = omega arith;
  ipv4 = λ _ on. absurd (let is = start-is db start depth d in omega (arith, is, on, off));
}

-- an IPv6 lookup
pub CountsNodes-v6 : (db : Database) (a : Ipv6Addr) (taken read old new : ℕ) → taken ≤ 128 → read ≡ taken - 16 → new ≡ old + read → CountsNodes db (V6 a) (block_at db (V6 a) taken) old new
CountsNodes-v6 db a taken read old new few past added =
    let cut : length (take taken (bits_of 128 (ipv6_bits a))) ≡ taken = length-take-le taken (bits_of 128 (ipv6_bits a)) (omega (arith, length-bits_of 128 (ipv6_bits a))) in
    record {
      least = omega arith;
      most = omega (arith, cut);
      ipv4 = λ other on. cc;
    }

-- the leaf of an answer is the one that was found
pub CountsNodes-answer : (db : Database) (address : IpAddr) (leaf other : List Bool) (number old new : ℕ) (outcome : TreeRecord) → IsLeafAt db address leaf number → CountsNodes db address leaf old new → Answers db address other outcome → CountsNodes db address other old new
CountsNodes-answer db address leaf other number old new outcome at counts answer =
    let P : List Bool → Type 0 = λ l. CountsNodes db address l old new in
    subst P (one_leaf db (address_bits db address) leaf other at.is_leaf answer.is_leaf at.on_address answer.on_address) counts
