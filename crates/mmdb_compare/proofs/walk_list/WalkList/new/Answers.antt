use Rattle.std.proofs.Common.{◌<◌, ◌+◌, ℕ, List, take, length, get_or, subst, sym, arith, ◌≡◌}
use Rattle.std.specs.List.{All}
use Rattle.std.proofs.lemmas.Grind.{common_steps}
use Rattle.std.proofs.lemmas.List.{take_more}
use Rattle.std.proofs.lemmas.List.Elements.{All-push}
use Rattle.mmdb_net.specs.Network.{ip_of}
use Rattle.mmdb_reader.specs.Lookup.{CanAsk}
use Rattle.mmdb_compare.proofs.walk_list.WalkList.new.Goals as goal

-- what holds of the first ones holds with one more
more : {A : Type 0} (xs : List A) (P : A → Type 0) (n : ℕ) (x : A) → n < length xs → x ≡ get_or xs n x → All P (take n xs) → P x → All P (take (n + 1) xs)
more xs P n x lt is all one =
    subst (λ ys. All P ys) (sym (take_more xs n x lt)) (All-push P (take n xs) (get_or xs n x) all (subst P is one))

pub loop-place-preserved : goal.loop-place-preserved
loop-place-preserved g c = record {
  left = grind (arith, common_steps);
  databases = grind (arith, common_steps);
  asked = more c.args.databases.now (λ d. CanAsk d.reader.now (ip_of d.range)) c.loop-place.place c.index-databases-place.result (omega arith) c.index-databases-place.is c.loop-place.invariant.asked c.in-Ok.ensures.asked;
}
