-- What stands in a term: the locals that it assigns, the Continues of a loop, its last statement.
use Rattle.std.specs.Prelude.{ℕ, ◌==◌, ◌&&◌, ◌||◌, List, [], ◌∷◌, Bool, true, false}
use Rattle.aml_operators.specs.declared.op.Op.{Op}
use Rattle.aml_operators.specs.declared.row.Letter.{Letter}
use Rattle.aml_operators.specs.declared.row.Letter.TheVariants.{One}
use Rattle.aml_operators.specs.declared.row.Piece.TheVariants as piece
use Rattle.aml_operators.specs.declared.row.Spot.TheVariants as spot
use Rattle.aml_operators.specs.Shape.{operator_of}
use Rattle.aml_operators.specs.Table.{letters_of}
use Rattle.aml_operators.specs.Tree.{Tree, Trees, Node, none, more}
use Rattle.aml_meaning.specs.declared.action.Action.{Action}
use Rattle.aml_meaning.specs.declared.action.Action.TheVariants.{Local, Argument, Binary, Unary, ByOne, Divide, Convert, Concatenate, Store, Return, While, Break, Continue, CondRefOf, Index, Unwritten}
use Rattle.aml_meaning.specs.Actions.{action}
use Rattle.aml_meaning.specs.Meaning.{takes_operand}

-- whether a term may be an operand
abbrev pub is_operand : Action → Trees → Bool
is_operand Store (more a (more g none)) = takes_operand (action (operator_of g))
is_operand a parts = true

-- how often a loop turns: once, as often as a local rises to a number or falls to one, or nobody
-- knows
pub data Shape : Type 0 where
  Once : Shape
  Up : (local limit : ℕ) → Shape
  Down : (local limit : ℕ) → Shape
  Endless : Shape

abbrev pub is_local : ℕ → Action → Bool
is_local l (Local k) = k == l
is_local l a = false

abbrev pub is_arg : ℕ → Action → Bool
is_arg l (Argument k) = k == l
is_arg l a = false

abbrev pub acts : (Action → Bool) → Tree → Bool
acts is (Node o at stop parts) = is (action o)

-- whether the only part, the second of two, the third of three, or one of the last two of four is
-- such
abbrev pub only : (Tree → Bool) → Trees → Bool
only is (more a none) = is a
only is parts = false

abbrev pub second : (Tree → Bool) → Trees → Bool
second is (more a (more g none)) = is g
second is parts = false

abbrev pub third : (Tree → Bool) → Trees → Bool
third is (more a (more b (more g none))) = is g
third is parts = false

abbrev pub third_or_fourth : (Tree → Bool) → Trees → Bool
third_or_fourth is (more a (more b (more r (more q none)))) = is r || is q
third_or_fourth is parts = false

-- whether a target is of a kind of place
abbrev pub targets : (Action → Bool) → Action → Trees → Bool
targets is (Binary f) parts = third (acts is) parts
targets is (Unary f) parts = second (acts is) parts
targets is (ByOne f) parts = only (acts is) parts
targets is Divide parts = third_or_fourth (acts is) parts
targets is (Convert f) parts = second (acts is) parts
targets is Concatenate parts = third (acts is) parts
targets is Store parts = second (acts is) parts
targets is CondRefOf parts = second (acts is) parts
targets is Index parts = third (acts is) parts
targets is a parts = false

abbrev pub is_target : Letter → Bool
is_target (One (piece.Term spot.Target)) = true
is_target l = false

-- the same of an operator outside the profile, by the letters of its row
abbrev pub lettered : (Action → Bool) → List Letter → Trees → Bool
lettered is letters none = false
lettered is [] (more t ts) = false
lettered is (l ∷ letters) (more t ts) = (is_target l && acts is t) || lettered is letters ts

abbrev pub outside_targets : (Action → Bool) → Action → Op → Trees → Bool
outside_targets is Unwritten o parts = lettered is (letters_of o) parts
outside_targets is a o parts = false

-- whether there is such a target anywhere in a term
abbrev mutual
  pub assigns : (Action → Bool) → Tree → Bool
  assigns is (Node o at stop parts) =
      (targets is (action o) parts || outside_targets is (action o) o parts) || assigns_in is parts

  pub assigns_in : (Action → Bool) → Trees → Bool
  assigns_in is none = false
  assigns_in is (more t ts) = assigns is t || assigns_in is ts

-- whether a Continue of the loop around a term stands in it
abbrev pub is_continue : Action → Bool
is_continue Continue = true
is_continue a = false

abbrev mutual
  pub continues : Tree → Bool
  continues (Node o at stop parts) = is_continue (action o) || continues_by (action o) parts

  pub continues_by : Action → Trees → Bool
  continues_by While (more t body) = continues t
  continues_by a none = false
  continues_by a (more t ts) = continues t || continues_in ts

  pub continues_in : Trees → Bool
  continues_in none = false
  continues_in (more t ts) = continues t || continues_in ts

-- whether a list's last statement is Break or Return
abbrev pub is_leave : Action → Bool
is_leave Break = true
is_leave Return = true
is_leave a = false

abbrev pub leaves : Trees → Bool
leaves none = false
leaves (more t none) = acts is_leave t
leaves (more t ts) = leaves ts
