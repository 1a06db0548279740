-- What was counted so far, and what is still to come.
use Rattle.std.proofs.Common.{◌≡◌, ℕ, ◌+◌, ◌<◌, ◌≤◌, nat_eq, Bool, true, false, ◌||◌, List, [], ◌∷◌, length, slice_index, sym, ap, ◌∙◌, subst, refl, arith, add_assoc}
use Rattle.std.specs.List.{count_by}
use Rattle.std.specs.Set.{is_member}
use Rattle.std.specs.Cmp.{nat_eq_equiv}
use Rattle.std.proofs.lemmas.List.{length-map}
use Rattle.std.proofs.lemmas.List.Folds.{list_any-append}
use Rattle.std.proofs.lemmas.Map.Made.{length-from_keys}
use Rattle.mmdb_reader.specs.File.{Database}
use Rattle.mmdb_reader.specs.Items.{Item, item_of, items_of}
use Rattle.mmdb_reader.specs.Listing.{Listed, IsListing}
use Rattle.mmdb_reader.specs.Shown.{block_in}
use Rattle.mmdb_reader.specs.declared.options.WithinOptions.{WithinOptions}
use Rattle.mmdb_net.specs.declared.network.IpNetwork.{IpNetwork}
use Rattle.mmdb_report.specs.Reports.{most_items, ReportsOn, HasTooMany}
use Rattle.mmdb_report.specs.Counts.{is_ipv4_of, is_ipv6_of, is_without_data, is_fault, offsets_at, offsets_of, Counts}
use Rattle.mmdb_report.specs.Working.{IsEmpty, Adds, IsFullOrMemory, Makes, one_if, has_offset}
use Rattle.mmdb_report.specs.declared.report.Report.{Report}
use Rattle.mmdb_report.specs.declared.report.ReportError.{ReportError}
use Rattle.mmdb_report.specs.declared.report.ReportError.TheVariants.{TooMany}
use Rattle.mmdb_report.specs.declared.tally.Tally.{Tally}
use Rattle.mmdb_report.proofs.CountLemmas.{count_by-cons}

-- what was counted and what is still to come are all
pub record Shares (db : Database) (all rest : List Item) (tally : Tally) : Type 0 where
  pub items : length all ≡ tally.items + length rest
  pub ipv4 : (prefix : ℕ) → prefix ≤ 32 → count_by (is_ipv4_of db prefix) all ≡ slice_index tally.by_prefix_v4 prefix + count_by (is_ipv4_of db prefix) rest
  pub ipv6 : (prefix : ℕ) → prefix ≤ 128 → count_by (is_ipv6_of prefix) all ≡ slice_index tally.by_prefix_v6 prefix + count_by (is_ipv6_of prefix) rest
  pub without_data : count_by is_without_data all ≡ tally.without_data + count_by is_without_data rest
  pub faults : count_by is_fault all ≡ tally.faults + count_by is_fault rest
  pub offsets : (offset : ℕ) → is_member nat_eq (offsets_of all) offset ≡ (has_offset tally offset || is_member nat_eq (offsets_of rest) offset)

none_counted : (total none rest : ℕ) → none ≡ 0 → total ≡ rest → total ≡ none + rest
none_counted total none rest p q = omega arith

pub shares_first : (db : Database) (all : List Item) (tally : Tally) → IsEmpty tally → Shares db all all tally
shares_first db all tally e = record {
  items = none_counted _ _ _ e.items refl;
  ipv4 = λ p h. none_counted _ _ _ (e.ipv4 p) refl;
  ipv6 = λ p h. none_counted _ _ _ (e.ipv6 p) refl;
  without_data = none_counted _ _ _ e.without_data refl;
  faults = none_counted _ _ _ e.faults refl;
  offsets = λ q. rw e.offsets refl;
}

-- one more was counted
one_counted : {X : Type 0} (p : X → Bool) (all here rest : List X) (x : X) (old new : ℕ) → count_by p all ≡ old + count_by p here → here ≡ x ∷ rest → new ≡ old + one_if (p x) → count_by p all ≡ new + count_by p rest
one_counted p all here rest x old new before step more =
    before ∙ ap (λ h. old + count_by p h) step ∙ ap (λ n. old + n) (count_by-cons p x rest) ∙ sym (add_assoc old (one_if (p x)) (count_by p rest)) ∙ ap (λ n. n + count_by p rest) (sym more)

or-assoc : (a b c : Bool) → (a || (b || c)) ≡ ((a || b) || c)
or-assoc true b c = refl
or-assoc false b c = refl

one_longer : {X : Type 0} (old new : ℕ) (x : X) (rest : List X) → new ≡ old + 1 → old + length (x ∷ rest) ≡ new + length rest
one_longer old new x rest e = omega arith

pub shares_next : (db : Database) (all here rest : List Item) (item : Item) (old new : Tally) → Shares db all here old → here ≡ item ∷ rest → Adds db item old new → Shares db all rest new
shares_next db all here rest item old new s step more = record {
  items = s.items ∙ ap (λ h. old.items + length h) step ∙ one_longer old.items new.items item rest more.items;
  ipv4 = λ p h. one_counted _ all here rest item _ _ (s.ipv4 p h) step (more.ipv4 p h);
  ipv6 = λ p h. one_counted _ all here rest item _ _ (s.ipv6 p h) step (more.ipv6 p h);
  without_data = one_counted _ all here rest item _ _ s.without_data step more.without_data;
  faults = one_counted _ all here rest item _ _ s.faults step more.faults;
  offsets = λ q. s.offsets q ∙ ap (λ h. has_offset old q || is_member nat_eq (offsets_of h) q) step
      ∙ ap (λ b. has_offset old q || b) (list_any-append (nat_eq q) (offsets_at item) (offsets_of rest))
      ∙ or-assoc (has_offset old q) (is_member nat_eq (offsets_at item) q) (is_member nat_eq (offsets_of rest) q) ∙ ap (λ b. b || is_member nat_eq (offsets_of rest) q) (sym (more.offsets q));
}

-- all were counted
all_counted : {X : Type 0} (p : X → Bool) (all here : List X) (now : ℕ) → count_by p all ≡ now + count_by p here → here ≡ [] → now ≡ count_by p all
all_counted p all here now e none = let z : count_by p here ≡ 0 = ap (count_by p) none in omega arith

or-none : (a : Bool) → (a || false) ≡ a
or-none true = refl
or-none false = refl

pub counts_all : (db : Database) (all here : List Item) (tally : Tally) (report : Report) → Shares db all here tally → here ≡ [] → Makes tally report → Counts db all report
counts_all db all here tally report s none m = record {
  ipv4 = λ p h. ap (λ t. slice_index t p) m.ipv4 ∙ all_counted _ all here _ (s.ipv4 p h) none;
  ipv6 = λ p h. ap (λ t. slice_index t p) m.ipv6 ∙ all_counted _ all here _ (s.ipv6 p h) none;
  without_data = m.without_data ∙ all_counted _ all here _ s.without_data none;
  faults = m.faults ∙ all_counted _ all here _ s.faults none;
  distinct_offsets = m.offsets.0 ∙ length-from_keys nat_eq_equiv _ (offsets_of all) m.offsets.1
      (λ q. sym (s.offsets q ∙ ap (λ h. has_offset tally q || is_member nat_eq (offsets_of h) q) none ∙ or-none (has_offset tally q)));
}

pub counted_length : (db : Database) (all here : List Item) (tally : Tally) → Shares db all here tally → here ≡ [] → length all ≡ tally.items
counted_length db all here tally s none = let z : length here ≡ 0 = ap length none in let e = s.items in omega arith

pub more_than_counted : (db : Database) (all here rest : List Item) (item : Item) (tally : Tally) → Shares db all here tally → here ≡ item ∷ rest → tally.items < length all
more_than_counted db all here rest item tally s step = let z : length here ≡ length (item ∷ rest) = ap length step in let e = s.items in omega arith

-- The items that were to come are those of the list of the range.
items_listed : (first walked db : Database) (all come : List Item) (list : List Listed) → first ≡ walked → walked ≡ db → all ≡ come → come ≡ items_of walked list → all ≡ items_of db list
items_listed first walked db all come list p q r s = r ∙ s ∙ ap (λ d. items_of d list) q

length_listed : (db : Database) (all : List Item) (list : List Listed) → all ≡ items_of db list → length all ≡ length list
length_listed db all list e = ap length e ∙ length-map list (item_of db)

-- where all items were counted, the report is that of the list
pub reports_list : (first walked db : Database) (options : WithinOptions) (range : IpNetwork) (all come : List Item) (list : List Listed) (tally : Tally) (report : Report)
    → first ≡ walked → walked ≡ db → all ≡ come → come ≡ items_of walked list → IsListing walked options (block_in db range) list
    → length all ≡ tally.items → tally.items ≤ most_items → Counts first all report → ReportsOn db options range report
reports_list first walked db options range all come list tally report p q r s is long few counts =
    let same = items_listed first walked db all come list p q r s in
    let P : Database → Type 0 = λ d. IsListing d options (block_in db range) list in
    let Q : List Item → Type 0 = λ items. Counts db items report in
    let R : Database → Type 0 = λ d. Counts d all report in
    record {
      list = list;
      is_listing = subst P q is;
      fits = let e : length all ≡ length list = length_listed db all list same in omega arith;
      counts = subst Q same (subst R (p ∙ q) counts);
    }

-- where one more came than is counted, there are too many
pub has_too_many : (first walked db : Database) (options : WithinOptions) (range : IpNetwork) (all come : List Item) (list : List Listed) (counted : ℕ)
    → first ≡ walked → walked ≡ db → all ≡ come → come ≡ items_of walked list → IsListing walked options (block_in db range) list
    → counted < length all → counted ≡ most_items → HasTooMany db options range
has_too_many first walked db options range all come list counted p q r s is more full =
    let same = items_listed first walked db all come list p q r s in
    let P : Database → Type 0 = λ d. IsListing d options (block_in db range) list in
    record {
      list = list;
      is_listing = subst P q is;
      exceeds = let e : length all ≡ length list = length_listed db all list same in omega arith;
    }

pub full_of : (tally : Tally) (error : ReportError) → IsFullOrMemory tally error → error ≡ TooMany → tally.items ≡ most_items
full_of tally error is same = let P : ReportError → Type 0 = λ e. IsFullOrMemory tally e in subst P same is
