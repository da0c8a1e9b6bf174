-- How often a loop turns (ACPI 6.5, 19.6, While; the shapes are the project's own): tried in the
-- order Once, Up, Down.
use Rattle.std.specs.Prelude.{ℕ, ◌%◌, ◌^◌, ◌==◌, ◌&&◌, ◌||◌, not, Bool, false, if◌then◌else◌, Option, Some, None}
use Rattle.aml_operators.specs.Literal.{literal_in}
use Rattle.aml_operators.specs.Tree.{Tree, Trees, Node, none, more}
use Rattle.aml_meaning.specs.declared.action.Action.{Action}
use Rattle.aml_meaning.specs.declared.action.Action.TheVariants.{Binary, ByOne, Compare, Literal, Local, While}
use Rattle.aml_meaning.specs.declared.action.Arithmetic.TheVariants as arithmetic
use Rattle.aml_meaning.specs.declared.action.Comparison.TheVariants as comparison
use Rattle.aml_meaning.specs.Actions.{action}
use Rattle.aml_bounds.specs.declared.shape.Step.{Step}
use Rattle.aml_bounds.specs.declared.shape.Step.TheVariants.{Falls, Rises}
use Rattle.aml_bounds.specs.declared.shape.Turns.{Turns}
use Rattle.aml_bounds.specs.declared.shape.Turns.TheVariants as turns
use Rattle.aml_bounds.specs.Shapes.{Shape, Once, Up, Down, Endless, acts, assigns, assigns_in, continues, continues_in, is_local, leaves, only}

abbrev pub is_number : ℕ → Option ℕ → Bool
is_number n (Some m) = m == n
is_number n None = false

abbrev pub shape_for : Step → ℕ → ℕ → Shape
shape_for Rises = Up
shape_for Falls = Down

-- just one step stands in a list, the local is no target beside it, and no Continue stands before
-- it
abbrev pub steps : (ℕ → Action → Trees → Bool) → ℕ → Trees → Bool
steps moves l none = false
steps moves l (more (Node o at stop parts) ts) =
    if moves l (action o) parts then not (assigns_in (is_local l) ts)
    else not (assigns (is_local l) (Node o at stop parts))
    && (not (continues (Node o at stop parts)) && steps moves l ts)

abbrev pub counted : (ℕ → ℕ → Shape) → (ℕ → Action → Trees → Bool) → ℕ → Option ℕ → Trees → Shape
counted shape moves l (Some c) body = if steps moves l body then shape l c else Endless
counted shape moves l None body = Endless

-- the turns that a shape tells
abbrev pub turns_of : Shape → Option Turns
turns_of Once = Some turns.Once
turns_of (Up l c) = Some (turns.Up l c)
turns_of (Down l c) = Some (turns.Down l c)
turns_of Endless = None

-- over integers of so many bits
module _ (width : ℕ) where
  -- the number of an integer literal, taken modulo 2 to the width
  abbrev pub spelled : Option ℕ → Option ℕ
  spelled (Some n) = Some (n % 2 ^ width)
  spelled None = None

  abbrev pub number : Action → Trees → Option ℕ
  number (Literal o) parts = spelled (literal_in o parts)
  number a parts = None

  abbrev pub number_of : Tree → Option ℕ
  number_of (Node o at stop parts) = number (action o) parts

  abbrev pub is_one : Tree → Bool
  is_one t = is_number 1 (number_of t)

  -- a statement that makes a local one more, or one less
  abbrev pub rises : ℕ → Action → Trees → Bool
  rises l (ByOne arithmetic.Add) parts = only (acts (is_local l)) parts
  rises l (Binary arithmetic.Add) (more a (more b (more g none))) = acts (is_local l) g
      && ((acts (is_local l) a && is_one b) || (is_one a && acts (is_local l) b))
  rises l a parts = false

  abbrev pub falls : ℕ → Action → Trees → Bool
  falls l (ByOne arithmetic.Subtract) parts = only (acts (is_local l)) parts
  falls l (Binary arithmetic.Subtract) (more a (more b (more g none))) =
      acts (is_local l) g && (acts (is_local l) a && is_one b)
  falls l a parts = false

  abbrev pub moves_of : Step → ℕ → Action → Trees → Bool
  moves_of Rises = rises
  moves_of Falls = falls

  abbrev pub against : (ℕ → ℕ → Shape) → (ℕ → Action → Trees → Bool) → Action → Trees →
      Tree → Trees → Shape
  against shape moves (Local l) none c body = counted shape moves l (number_of c) body
  against shape moves a parts c body = Endless

  abbrev pub against_tree : (ℕ → ℕ → Shape) → (ℕ → Action → Trees → Bool) → Tree →
      Tree → Trees → Shape
  against_tree shape moves (Node o at stop parts) c body =
      against shape moves (action o) parts c body

  abbrev pub compared : (ℕ → ℕ → Shape) → (ℕ → Action → Trees → Bool) → Trees → Trees → Shape
  compared shape moves (more test (more c none)) body = against_tree shape moves test c body
  compared shape moves parts body = Endless

  -- up to the number that the local stays below, or down to the one that it stays above
  abbrev pub shape_by : Action → Trees → Trees → Shape
  shape_by (Compare comparison.LLess) parts body = compared Up rises parts body
  shape_by (Compare comparison.LGreater) parts body = compared Down falls parts body
  shape_by (Local l) none body = counted Down falls l (Some 0) body
  shape_by a parts body = Endless

  abbrev pub shape_by_test : Tree → Trees → Shape
  shape_by_test (Node o at stop parts) body = shape_by (action o) parts body

  -- a loop's shape, by its test and its body
  abbrev pub shape_of : Tree → Trees → Shape
  shape_of (Node o at stop parts) body =
      if leaves body && not (continues_in body) then Once else shape_by (action o) parts body

  abbrev pub loop_turns : Action → Trees → Option Turns
  loop_turns While (more test body) = turns_of (shape_of test body)
  loop_turns a parts = None

  -- the turns of a While; no other term has any
  abbrev pub turns_in : Tree → Option Turns
  turns_in (Node o at stop parts) = loop_turns (action o) parts
