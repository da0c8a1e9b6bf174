-- Values that may be equal.
use Rattle.std.proofs.Common.{◌≡◌, true, false, Ok, refl, sym, ap, ◌∙◌}
use Rattle.std.specs.Prelude.{if◌then◌else◌}
use Rattle.aml_kinds.specs.Kinds.{Kind, IntUpTo, BufOf, StrOf}
use Rattle.aml_judged.specs.Causes as cause
use Rattle.aml_judged.specs.Causes.{Refusal}
use Rattle.aml_judged.specs.Judged.{refuses}
use Rattle.aml_judged.specs.KindRules.{equal_kind}
use Rattle.aml_meaning.specs.Rules.{Place}
use Rattle.aml_kind_rules.specs.Tells.{are_alike, may_be_equal}

pub equal_by : (p : Place) (j : Kind) (q : Place) (k : Kind) → equal_kind p j q k ≡ (if are_alike j k then Ok tt else refuses cause.WrongKind (if may_be_equal j then q else p))
equal_by p (IntUpTo a) q (IntUpTo b) = refl
equal_by p (BufOf a) q (BufOf b) = refl
equal_by p (StrOf a) q (StrOf b) = refl
equal_by p j q k = refl

-- what two are found to be tells the rule's answer
pub alike : (p : Place) (j : Kind) (q : Place) (k : Kind) → are_alike j k ≡ true → Ok tt ≡ equal_kind p j q k
alike p j q k e = sym (equal_by p j q k ∙ ap (λ b. if b then Ok tt else refuses cause.WrongKind (if may_be_equal j then q else p)) e)

pub second_differs : (p : Place) (j : Kind) (q : Place) (k : Kind) → are_alike j k ≡ false → may_be_equal j ≡ true → refuses cause.WrongKind q ≡ equal_kind p j q k
second_differs p j q k e f = sym (
    equal_by p j q k
    ∙ ap (λ b. if b then Ok tt else refuses cause.WrongKind (if may_be_equal j then q else p)) e
    ∙ ap (λ b. refuses cause.WrongKind (if b then q else p)) f
    )

pub first_differs : (p : Place) (j : Kind) (q : Place) (k : Kind) → are_alike j k ≡ false → may_be_equal j ≡ false → refuses cause.WrongKind p ≡ equal_kind p j q k
first_differs p j q k e f = sym (
    equal_by p j q k
    ∙ ap (λ b. if b then Ok tt else refuses cause.WrongKind (if may_be_equal j then q else p)) e
    ∙ ap (λ b. refuses cause.WrongKind (if b then q else p)) f
    )
