-- What is known of whatever an option holds.
use Rattle.std.specs.Option.{IfSome}
use Rattle.std.proofs.Common.{◌≡◌, Option, Some, None, Bool, true, false, refl, subst, cond}
use Rattle.mmdb_format.specs.Header.{◌>>=◌}

pub if_bind : {A B : Type 0} (o : Option A) (f : A → Option B) (P : B → Type 0) → ((x : A) → o ≡ Some x → IfSome (f x) P) → IfSome (o >>= f) P
if_bind None f P h = tt
if_bind (Some x) f P h = h x refl

pub if_cond : {A : Type 0} (b : Bool) (x y : Option A) (P : A → Type 0) → (b ≡ true → IfSome x P) → (b ≡ false → IfSome y P) → IfSome (cond b x y) P
if_cond true x y P h k = h refl
if_cond false x y P h k = k refl

pub if_is : {A : Type 0} (o : Option A) (P : A → Type 0) (x : A) → IfSome o P → o ≡ Some x → P x
if_is None P x h e = absurd (cc)
if_is (Some y) P x h e = let f : y ≡ x = cc in subst P f h

pub if_weaker : {A : Type 0} (o : Option A) (P Q : A → Type 0) → ((x : A) → P x → Q x) → IfSome o P → IfSome o Q
if_weaker None P Q k h = tt
if_weaker (Some x) P Q k h = k x h
