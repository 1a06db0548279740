-- Known bytes that grow by a beginning of a text.
use Rattle.std.proofs.Common.{ℕ, List, [], ◌++◌, Option, Result, Ok, Err, OnErr, OnOk, Some, None, refl, sym, ap, ◌∙◌, append_assoc}
use Rattle.std.specs.Io.KnownBytes.{Appends, Keeps}
use Rattle.std.proofs.KnownBytes.{Appends-nil, Appends-trans}
use Rattle.mmdb_filter.specs.Lines.{AppendsFront}

-- what was written was written out since
pub appends_kept : (old now new : Option (List ℕ)) (text : List ℕ) → Appends old now text → Keeps now new → Appends old new text
appends_kept None now new text a k = tt
appends_kept (Some xs) None new text a k = absurd a
appends_kept (Some xs) (Some ys) None text a k = absurd k
appends_kept (Some xs) (Some ys) (Some zs) text a k = k ∙ a

pub front_none : (old : Option (List ℕ)) (text : List ℕ) → AppendsFront old old text
front_none old text = ([], text, refl, Appends-nil old)

pub front_whole : (old new : Option (List ℕ)) (xs ys : List ℕ) → Appends old new xs → AppendsFront old new (xs ++ ys)
front_whole old new xs ys a = (xs, ys, refl, a)

pub front_more : (old new : Option (List ℕ)) (xs ys : List ℕ) → AppendsFront old new xs → AppendsFront old new (xs ++ ys)
front_more old new xs ys a =
    let (front, rest, split, put) = a in
    (front, rest ++ ys, ap (λ t. t ++ ys) split ∙ append_assoc front rest ys, put)

pub front_then : (old mid new : Option (List ℕ)) (xs ys : List ℕ) → Appends old mid xs → AppendsFront mid new ys → AppendsFront old new (xs ++ ys)
front_then old mid new xs ys a b =
    let (front, rest, split, put) = b in
    (xs ++ front, rest, ap (λ t. xs ++ t) split ∙ sym (append_assoc xs front rest), Appends-trans old mid new xs front a put)

pub on_any_err : {T E A : Type 0} (r : Result T E) → A → OnErr r A
on_any_err (Ok x) a = tt
on_any_err (Err e) a = a

pub on_err : {T E A B : Type 0} (r : Result T E) → (A → B) → OnErr r A → OnErr r B
on_err (Ok x) f a = a
on_err (Err e) f a = f a

pub on_ok : {T E A B : Type 0} (r : Result T E) → (A → B) → OnOk r A → OnOk r B
on_ok (Ok x) f a = f a
on_ok (Err e) f a = a
