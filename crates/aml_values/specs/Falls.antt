-- A package is deeper than those that stand in it.
use Rattle.std.specs.Prelude.{ℕ, suc, ◌+◌, ◌≤◌, List, [], ◌∷◌, max}
use Rattle.std.proofs.Common.{sym, subst, lit≤, zero-le, suc-le-suc, le_refl, add-one}
use Rattle.std.proofs.Math.Nat.{le_trans, max-le, le-max_left, le-max_right}
use denote.Param.Weighed.{most}
use Rattle.aml_values.specs.declared.value.Value as program
use Rattle.aml_values.specs.declared.value.Value.TheVariants as value
use Rattle.aml_values.specs.declared.value.Element as program_element
use Rattle.aml_values.specs.declared.value.Element.TheVariants as held
use Rattle.aml_values.specs.declared.package.Package.TheDeep.{deep-Element, deep-Value}
use Rattle.aml_values.specs.Values.{depth, element_depth, package_depth, greatest_depth}
use Rattle.aml_values.specs.Views.{view, element, elements_of}

-- what is one more than a number is at most its successor, beside nothing else
pub one_deeper : (m : ℕ) → max (m + 1) 0 ≤ suc m
one_deeper m = max-le (subst (λ n. n ≤ suc m) (sym (add-one m)) (le_refl (suc m))) zero-le

-- a part beside others is no deeper than the deepest of both
pub beside : (a b c d : ℕ) → a ≤ suc c → max b 0 ≤ suc d → max (max a b) 0 ≤ suc (max c d)
beside a b c d first rest =
    max-le (max-le (le_trans first (suc-le-suc (le-max_left c d)))
    (le_trans (le-max_left b 0) (le_trans rest (suc-le-suc (le-max_right c d))))) zero-le

value_falls : (v : program.Value) → deep-Value v ≤ suc (depth (view v))
value_falls (value.Int n) = lit≤ tt
value_falls (value.Buf bytes) = lit≤ tt
value_falls (value.Str characters) = lit≤ tt
value_falls (value.Pkg elements) = one_deeper (suc (greatest_depth elements))

element_falls : (e : program_element.Element) → deep-Element e ≤ suc (element_depth (element e))
element_falls (held.Value v) = max-le (value_falls v) zero-le
element_falls (held.Name object) = lit≤ tt
element_falls held.Unset = lit≤ tt

-- no element is as deep as the package
pub most_le-package_depth : (es : List program_element.Element) →
    max (most deep-Element es) 0 ≤ package_depth (elements_of es)
most_le-package_depth [] = lit≤ tt
most_le-package_depth (e ∷ es) =
    beside (deep-Element e) (most deep-Element es) (element_depth (element e))
    (greatest_depth (elements_of es)) (element_falls e) (most_le-package_depth es)
