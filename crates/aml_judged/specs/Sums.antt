-- The cost that the judgement of a body carries is the sum that `aml_bounds` makes of the body, by
-- how often each loop turns and what each name costs.
use Rattle.std.specs.Prelude.{◌≡◌, ℕ, ◌-◌, ◌&&◌, ◌++◌, List, [], ◌∷◌, Option, Some, None, slice_get, ◌==◌, Bool, true, false, if◌then◌else◌}
use Rattle.aml_operators.specs.Shape.{operator_of}
use Rattle.aml_operators.specs.Tree.{Tree, Trees, Node, none, more}
use Rattle.aml_namespace.specs.declared.link.Link.{Link}
use Rattle.aml_namespace.specs.declared.link.Link.TheVariants as link
use Rattle.aml_kinds.specs.Kinds.{IntUpTo}
use Rattle.aml_regions.specs.declared.field.AnyField.{AnyField}
use Rattle.aml_meaning.specs.declared.action.Action.{Action}
use Rattle.aml_meaning.specs.declared.action.Action.TheVariants.{If, Invoke, While}
use Rattle.aml_meaning.specs.Actions.{action}
use Rattle.aml_meaning.specs.Fields.{read_count, write_count}
use Rattle.aml_meaning.specs.Meaning.{at_of, is_else}
use Rattle.aml_meaning.specs.Within.{Callee}
use Rattle.aml_bounds.specs.declared.turn_count.TurnCount.{TurnCount}
use Rattle.aml_bounds.specs.declared.turn_count.TurnCount.TheVariants as turn_count
use Rattle.aml_bounds.specs.Shapes.{Shape, Once, Up, Down, Endless}
use Rattle.aml_bounds.specs.Steps.{Knows, steps_of_all}
use Rattle.aml_calls.specs.Chains.{has_cycle}
use Rattle.aml_judged.specs.Known.{Slot, Env, in_loop}
use Rattle.aml_judged.specs.Judged.{Accepted, Around, Exits, Judged, Goes, Stops}
use Rattle.aml_judged.specs.Judge.{begun, judged, judged_test, judged_value, shape_of}
use Rattle.aml_judged.specs.Bodies.{entry, grown, judged_body, judged_statement}
use Rattle.aml_judged.specs.Verdicts.{AreAccepted, Judging, around_for}

-- what a name costs where it is read or called, and where it is stored into: a field's events, and
-- a method's bound
abbrev pub read_cost : Option AnyField → ℕ
read_cost (Some f) = read_count f
read_cost None = 0

abbrev pub write_cost : Option AnyField → ℕ
write_cost (Some f) = write_count f
write_cost None = 0

abbrev pub call_cost : Option Accepted → ℕ
call_cost (Some a) = a.bound
call_cost None = 0

-- a loop by its place, and how often it turns
pub record Loop : Type 0 where
  pub at : ℕ
  pub turns : TurnCount

-- the loops of what follows, from what is known behind a part
abbrev pub behind : {K : Type 0} → Judged K → (K → Env → List Loop) → List Loop
behind (Goes k env x n) loops = loops k env
behind (Stops r) loops = []

module _ (here : Around) where
  -- a loop of a shape turns as often as the judgement has it, by what is known before the loop
  abbrev pub falling_loop : ℕ → Option Slot → ℕ → List Loop
  falling_loop at (Some (Some (IntUpTo a))) c =
      record { at = at; turns = turn_count.AtMost (a - c) } ∷ []
  falling_loop at slot c = []

  abbrev pub loop_of : Shape → ℕ → Env → List Loop
  loop_of Once at env = record { at = at; turns = turn_count.Once } ∷ []
  loop_of (Up l c) at env = record { at = at; turns = turn_count.AtMost c } ∷ []
  loop_of (Down l c) at env = falling_loop at (slice_get env.locals l) c
  loop_of Endless at env = []

  -- what is known before its test
  abbrev pub before_test : Shape → Trees → Env → Env
  before_test Once body env = in_loop true env
  before_test shape body env = begun here body env

  abbrev pub test_of : Tree → Env → Judged Env
  test_of t env = judged_test here t (judged_value here t) env

  -- the loops that the judgement of a statement comes to; none stands in an operand that goes
  abbrev mutual
    pub loops_in : Tree → Env → List Loop
    loops_in (Node o at stop parts) env = loops_by (action o) at parts env

    pub loops_by : Action → ℕ → Trees → Env → List Loop
    loops_by If at (more t body) env =
        behind (test_of t env) (λ held failed.
        loops_in_block body held ++ loops_in_else body failed)
    loops_by While at (more t body) env =
        loop_of (shape_of here t body) at env ++
        behind (test_of t (before_test (shape_of here t body) body env)) (λ held failed.
        loops_in_all body held)
    loops_by a at parts env = []

    pub loops_in_all : Trees → Env → List Loop
    loops_in_all none env = []
    loops_in_all (more t ts) env =
        loops_in t env ++ behind (judged here t env) (λ y next. loops_in_all ts next)

    pub loops_in_block : Trees → Env → List Loop
    loops_in_block none env = []
    loops_in_block (more t ts) env = if is_else (operator_of t) then [] else
        loops_in t env ++ behind (judged here t env) (λ y next. loops_in_block ts next)

    pub loops_in_else : Trees → Env → List Loop
    loops_in_else none env = []
    loops_in_else (more (Node o at stop parts) ts) env =
        if is_else o then loops_in_all parts env else loops_in_else ts env

  abbrev pub named_cost : Link → ℕ
  named_cost (link.Field id) = read_cost (here.field id.0)
  named_cost (link.Method id) = call_cost (here.callee id.0).accepted
  named_cost l = 0

  abbrev pub stored_cost : Link → ℕ
  stored_cost (link.Field id) = write_cost (here.field id.0)
  stored_cost l = 0

  abbrev pub known_costs : (ℕ → TurnCount) → Knows
  known_costs turns = record {
    turns = turns;
    named = λ at. named_cost (here.link at);
    stored = λ at. stored_cost (here.link at);
  }

-- the loops of a body, whose own names are known from where they are made
abbrev pub loops_in_body : Around → Trees → Env → List Loop
loops_in_body here none env = []
loops_in_body here (more t ts) env =
    loops_in here t env ++
    behind (judged_statement here t env) (λ made next. loops_in_body (grown here made) ts next)

-- only calls take arguments, as in each body that is read: of the arguments of any other name none
-- is judged
abbrev pub may_take : Link → Trees → Bool
may_take (link.Method id) arguments = true
may_take link.OsInterfaces arguments = true
may_take l none = true
may_take l (more t ts) = false

module _ (links : ℕ → Link) where
  abbrev pub takes_rightly : Action → Trees → Bool
  takes_rightly Invoke (more name arguments) = may_take (links (at_of name)) arguments
  takes_rightly a parts = true

  abbrev mutual
    pub calls_alone_take : Tree → Bool
    calls_alone_take (Node o at stop parts) =
        takes_rightly (action o) parts && only_calls_take parts

    pub only_calls_take : Trees → Bool
    only_calls_take none = true
    only_calls_take (more t ts) = calls_alone_take t && only_calls_take ts

-- the places of the Whiles in a term, and in statements
abbrev pub while_place : Action → ℕ → List ℕ
while_place While at = at ∷ []
while_place a at = []

abbrev mutual
  pub while_places : Tree → List ℕ
  while_places (Node o at stop parts) = while_place (action o) at ++ while_places_in parts

  pub while_places_in : Trees → List ℕ
  while_places_in none = []
  while_places_in (more t ts) = while_places t ++ while_places_in ts

-- each of these loops turns as often as is told of its place
abbrev pub AreTurns : (ℕ → TurnCount) → List Loop → Type 0
AreTurns turns [] = Unit {0}
AreTurns turns (l ∷ ls) = (turns l.at ≡ l.turns) × AreTurns turns ls

abbrev pub turns_among : List Loop → ℕ → TurnCount
turns_among [] at = turn_count.Once
turns_among (l ∷ ls) at = if l.at == at then l.turns else turns_among ls at

pub record CostsAreSums : Type 0 where
  -- a body's cost is the sum by its loops' turns
  pub cost :
      (here : Around) (turns : ℕ → TurnCount) (body : Trees) (env end : Env) (x : Exits) (n : ℕ) →
      only_calls_take here.link body ≡ true → AreTurns turns (loops_in_body here body env) →
      judged_body here body env ≡ Goes tt end x n → n ≡ steps_of_all (known_costs here turns) body
  -- which may be looked up by place, where each While of the body has its own
  pub turns :
      (here : Around) (body : Trees) (env : Env) → has_cycle (while_places_in body) ≡ false →
      AreTurns (turns_among (loops_in_body here body env)) (loops_in_body here body env)
  -- so the bound of an accepted method is that sum
  pub bound :
      (all : Judging) (known : ℕ → Option Accepted) → AreAccepted all known →
      (k : ℕ) (a : Accepted) (m : Callee) → known k ≡ Some a → all.methods.callee k ≡ Some m →
      (turns : ℕ → TurnCount) → only_calls_take m.link m.body ≡ true →
      AreTurns turns (loops_in_body (around_for all known k m) m.body (entry (all.args k))) →
      a.bound ≡ steps_of_all (known_costs (around_for all known k m) turns) m.body
