-- How deep the elements of a package are.
use Rattle.std.proofs.Common.{◌≡◌, ◌<◌, ◌≤◌, ℕ, zero, suc, List, [], ◌∷◌, get_or, length, arith}
use Rattle.std.proofs.Math.Nat.{le_trans, le-max_left, le-max_right}
use Rattle.aml_values.specs.Values.{element_depth, greatest_depth}
use Rattle.aml_values.specs.Views.{element, elements_of}
use Rattle.aml_values.specs.declared.value.Element as program

-- no element is deeper than the deepest
pub element_le : (es : List program.Element) (i : ℕ) (d : program.Element) → i < length es → element_depth (element (get_or es i d)) ≤ greatest_depth (elements_of es)
element_le [] i d within = absurd (omega arith)
element_le (e ∷ es) zero d within = le-max_left (element_depth (element e)) (greatest_depth (elements_of es))
element_le (e ∷ es) (suc i) d within =
    le_trans (element_le es i d (omega arith)) (le-max_right (element_depth (element e)) (greatest_depth (elements_of es)))

-- nor is one that stands at a place
pub element_item : (es : List program.Element) (i : ℕ) (e : program.Element) → i < length es → e ≡ get_or es i e → element_depth (element e) ≤ greatest_depth (elements_of es)
element_item es i e within is = rw is (element_le es i e within)
