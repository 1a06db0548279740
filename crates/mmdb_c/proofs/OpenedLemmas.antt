-- From what C holds to the answers of the database.
use Rattle.std.proofs.Common.{◌≡◌, ◌≢◌, ℕ, ◌+◌, ◌<◌, ◌≤◌, ◌==◌, List, [], ◌∷◌, ◌++◌, take, length, if◌then◌else◌, arith, sym, ap, ◌∙◌, refl, subst, inl, inr, length-append}
use Rattle.std.proofs.lemmas.Bool.{cases_Bool}
use Rattle.std.proofs.lemmas.List.{length-take-le}
use Rattle.std.specs.declared.net.ip_addr.IpAddr.TheVariants.{V4, V6}
use Rattle.std.specs.declared.net.ipv4_addr.Ipv4Addr.{Ipv4Addr}
use Rattle.std.specs.declared.net.ipv6_addr.Ipv6Addr.{Ipv6Addr}
use Rattle.std.specs.Net.Addr.{ipv4_bits, ipv6_bits}
use Rattle.mmdb_net.specs.Bits.{bits_of}
use Rattle.mmdb_net.proofs.BitLaws.{length-bits_of, length-zero_bits}
use Rattle.mmdb_reader.specs.File.{Database, tree_of, has_ipv6, before_ipv4}
use Rattle.mmdb_reader.specs.Source.{IsDatabaseOf, SourceDecides}
use Rattle.mmdb_reader.specs.Whole.{IsWhole}
use Rattle.mmdb_format.specs.declared.error.MaxMindDbError.{MaxMindDbError}
use Rattle.mmdb_format.specs.declared.error.MaxMindDbError.TheVariants.{InvalidDatabase, Io, Decoding, ResourceLimit, InvalidNetwork, InvalidInput, Memory}
use Rattle.mmdb_format.specs.Error.{MemoryApart, OfMemory, kind_of}
use Rattle.mmdb_tree.specs.Descents.{Descends}
use Rattle.mmdb_reader.specs.Lookup.{block_at, outcome_of}
use Rattle.mmdb_tree.proofs.DescentLemmas.{Descends-same}
use Rattle.mmdb_reader.proofs.LeafLemmas.{depth-le, IsLeafAt-v4, IsLeafAt-v6, IsLeafAt-none, ipv6_bits-unspecified}
use Rattle.mmdb_c.specs.declared.db.Facts.{Facts}
use Rattle.mmdb_c.specs.declared.db.Found.{Found}
use Rattle.mmdb_c.specs.Opened.{IsOf, IsOfFile, IsWholeFile, Reports, tree, outcome_reported}

pub IsOfFile-of : (file : List ℕ) (facts : Facts) (db : Database) → SourceDecides → IsDatabaseOf file db → IsOf db facts → IsOfFile file facts
IsOfFile-of file facts db decides h is other k = let P : Database → Type 0 = λ d. IsOf d facts in subst P (decides file db other h k) is

-- what an error says, unless it is for memory
pub apart-from-memory : (P : Type 0) (e : MaxMindDbError) → kind_of e ≢ OfMemory → MemoryApart e P → P
apart-from-memory P Memory other p = absurd (other refl)
apart-from-memory P (InvalidDatabase message offset) other p = p
apart-from-memory P (Io e) other p = p
apart-from-memory P (Decoding message offset path) other p = p
apart-from-memory P (ResourceLimit message offset path) other p = p
apart-from-memory P (InvalidNetwork e) other p = p
apart-from-memory P (InvalidInput message) other p = p

-- a statement follows from another where it is said apart from memory
pub apart-map : (P Q : Type 0) (e : MaxMindDbError) → (P → Q) → MemoryApart e P → MemoryApart e Q
apart-map P Q Memory f p = p
apart-map P Q (InvalidDatabase message offset) f p = f p
apart-map P Q (Io e) f p = f p
apart-map P Q (Decoding message offset path) f p = f p
apart-map P Q (ResourceLimit message offset path) f p = f p
apart-map P Q (InvalidNetwork e) f p = f p
apart-map P Q (InvalidInput message) f p = f p

pub not-whole-of : (file : List ℕ) (db : Database) → SourceDecides → IsDatabaseOf file db → ¬ IsWhole db → ¬ IsWholeFile file
not-whole-of file db decides h not w = not (subst IsWhole (decides file w.db db w.is h) w.whole)

module _ (file : List ℕ) (facts : Facts) (db : Database) (h : IsDatabaseOf file db) (is : IsOf db facts) (found : Found) (status : found.status ≤ 2) where
  tree_same : tree file facts ≡ tree_of db
  tree_same = rw (is.nodes, is.record_size, h.bytes) refl

  length-before : (if facts.ip_version == 6 then 96 else 0) ≡ length (before_ipv4 db)
  length-before = rw is.ip (elim (cases_Bool (has_ipv6 db)) [
    | inl six ↦ rw six (sym (length-zero_bits 96))
    | inr four ↦ rw four (sym (length-zero_bits 0))
  ])

  pub Reports-v4 : (a : Ipv4Addr) (bits taken number : ℕ) → ipv4_bits a ≡ bits → facts.ipv4_start < facts.node_count → Descends (tree file facts) facts.ipv4_start (bits_of 32 bits) taken number → outcome_reported found ≡ outcome_of db number → found.netmask ≡ (if facts.ip_version == 6 then 96 else 0) + taken → Reports db (V4 a) found
  Reports-v4 a bits taken number same on walked outcome mask =
      let d : Descends (tree_of db) facts.ipv4_start (bits_of 32 (ipv4_bits a)) taken number = Descends-same (tree_of db) (tree file facts) facts.ipv4_start (bits_of 32 (ipv4_bits a)) (bits_of 32 bits) taken number tree_same (ap (bits_of 32) (sym same)) walked in
      let inside : facts.ipv4_start < db.metadata.node_count = let n = is.nodes in omega (arith, n, on) in
      let l = IsLeafAt-v4 db facts.ipv4_start facts.ipv4_depth is.before a taken number inside d in
      let len : length (before_ipv4 db ++ take taken (bits_of 32 (ipv4_bits a))) ≡ length (before_ipv4 db) + taken = length-append (before_ipv4 db) _ ∙ ap (λ (n : ℕ). length (before_ipv4 db) + n) (length-take-le taken (bits_of 32 (ipv4_bits a)) d.walks.within) in
      record {
        leaf = block_at db (V4 a) taken;
        answers = record { can_ask = l.can_ask; is_leaf = l.is_leaf; on_address = l.on_address; outcome_is = ap (outcome_of db) l.reached ∙ sym outcome };
        status = status;
        netmask = mask ∙ ap (λ (n : ℕ). n + taken) length-before ∙ sym len;
      }

  abbrev unspecified : Ipv6Addr
  unspecified = record { segments = 0 ∷ 0 ∷ 0 ∷ 0 ∷ 0 ∷ 0 ∷ 0 ∷ 0 ∷ [] }

  pub Reports-none : (a : Ipv4Addr) → facts.node_count ≤ facts.ipv4_start → outcome_reported found ≡ outcome_of db facts.ipv4_start → found.netmask ≡ facts.ipv4_depth → Reports db (V4 a) found
  Reports-none a off outcome mask =
      let out : db.metadata.node_count ≤ facts.ipv4_start = let n = is.nodes in omega (arith, n, off) in
      let l = IsLeafAt-none db facts.ipv4_start facts.ipv4_depth is.before a unspecified out ipv6_bits-unspecified in
      let few = depth-le db facts.ipv4_start facts.ipv4_depth is.before in
      let len : length (take facts.ipv4_depth (bits_of 128 (ipv6_bits unspecified))) ≡ facts.ipv4_depth = length-take-le facts.ipv4_depth (bits_of 128 (ipv6_bits unspecified)) (omega (arith, few, length-bits_of 128 (ipv6_bits unspecified))) in
      record {
        leaf = block_at db (V6 unspecified) facts.ipv4_depth;
        answers = record { can_ask = l.can_ask; is_leaf = l.is_leaf; on_address = l.on_address; outcome_is = ap (outcome_of db) l.reached ∙ sym outcome };
        status = status;
        netmask = mask ∙ sym len;
      }

  pub Reports-v6 : (a : Ipv6Addr) (bits taken number : ℕ) → ipv6_bits a ≡ bits → db.metadata.ip_version ≡ 6 → Descends (tree file facts) 0 (bits_of 128 bits) taken number → outcome_reported found ≡ outcome_of db number → found.netmask ≡ taken → Reports db (V6 a) found
  Reports-v6 a bits taken number same six walked outcome mask =
      let d : Descends (tree_of db) 0 (bits_of 128 (ipv6_bits a)) taken number = Descends-same (tree_of db) (tree file facts) 0 (bits_of 128 (ipv6_bits a)) (bits_of 128 bits) taken number tree_same (ap (bits_of 128) (sym same)) walked in
      let l = IsLeafAt-v6 db a taken number six d in
      let len : length (take taken (bits_of 128 (ipv6_bits a))) ≡ taken = length-take-le taken (bits_of 128 (ipv6_bits a)) d.walks.within in
      record {
        leaf = block_at db (V6 a) taken;
        answers = record { can_ask = l.can_ask; is_leaf = l.is_leaf; on_address = l.on_address; outcome_is = ap (outcome_of db) l.reached ∙ sym outcome };
        status = status;
        netmask = mask ∙ sym len;
      }
