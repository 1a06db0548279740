use Rattle.std.proofs.Common.{rules, ◌≡◌, is_none, refl, subst, ◌∙◌}
use Rattle.mmdb_addresses.specs.Addresses.{ReadsAddress}
use Rattle.mmdb_objects.specs.Objects.{text_along}
use Rattle.mmdb_objects.proofs.ObjectLaws.{no_object, next_is_none, taken_is}
use Rattle.mmdb_objects.proofs.objects.line_of.Goals as goal

pub returns-in_default : goal.returns-in_default
returns-in_default c = λ j begins. no_object j (c.in_default.ensures j begins)

pub returns : goal.returns
returns c = λ j begins.
    let (members, is, here) = c.in-Some.ensures j begins in
    let empty : c.is_none-is_empty.result ≡ is_none c.next.result = search rules in
    let taken = taken_is c.args.name.now members j c.get.result is (c.get.ensures j begins) in (
      members,
      is,
      record {
        address = subst (λ x. ReadsAddress c.args.reading (text_along c.args.path.now x) c.address_along.result) is (c.address_along.ensures j begins);
        empty = empty ∙ next_is_none _ _ _ c.next.result members c.next.ensures.value here;
        taken = c.is_some.ensures ∙ taken ∙ refl;
      },
      refl,
    )
