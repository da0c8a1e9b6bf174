-- How many steps a method takes at most (ACPI 6.5, 19.6; the counting of steps is the project's
-- own): a sum over its terms, by how often each loop turns and what names cost. Whole numbers,
-- without limit.
use Rattle.std.specs.Prelude.{ℕ, suc, ◌+◌, ◌*◌, ◌^◌, ◌==◌, max, min, nat_lt, Option, Some, None, if◌then◌else◌}
use Rattle.aml_operators.specs.declared.op.Op.{Op}
use Rattle.aml_operators.specs.declared.op.Op.TheVariants as operator
use Rattle.aml_operators.specs.Tree.{Tree, Trees, Node, none, more}
use Rattle.aml_meaning.specs.declared.action.Action.{Action}
use Rattle.aml_meaning.specs.declared.action.Action.TheVariants.{Argument, Binary, ByOne, Compare, Concatenate, Convert, Debug, Dereference, Divide, If, Index, Invoke, LNot, Local, Name, Notify, Pause, Return, Store, Unary, While}
use Rattle.aml_meaning.specs.Actions.{action}
use Rattle.aml_meaning.specs.Meaning.{at_of, is_else}
use Rattle.aml_bounds.specs.declared.turn_count.TurnCount.{TurnCount}
use Rattle.aml_bounds.specs.declared.turn_count.TurnCount.TheVariants.{AtMost, Once}
use Rattle.aml_bounds.specs.declared.role.Role.{Role}
use Rattle.aml_bounds.specs.declared.role.Roles.{Roles}
use Rattle.aml_bounds.specs.declared.role.Roles.TheVariants.{All, Evaluated, Read, Written}
use Rattle.aml_bounds.specs.declared.role.Role.TheVariants.{Changed, Indexed, Operand, Skipped, Target}

-- what the steps of a body hang on, by places: how often the loop there turns; how many steps more
-- the name there takes where it is read or called, as the events of a field's read and the bound of
-- the method; and how many where it is stored into
pub record Knows : Type 0 where
  pub turns : ℕ → TurnCount
  pub named : ℕ → ℕ
  pub stored : ℕ → ℕ

-- what an operator does with its parts: operands and then targets, or a name and then operands;
-- Increment and Decrement read and write theirs, and a DerefOf reads what an Index leads to; of any
-- other operator no part is evaluated
abbrev pub operands_first : ℕ → ℕ → Role
operands_first n i = if nat_lt i n then Operand else Target

abbrev pub name_first : ℕ → Role
name_first i = if i == 0 then Skipped else Operand

abbrev pub role : Action → ℕ → Role
role (Binary f) i = operands_first 2 i
role (Compare f) i = operands_first 2 i
role Divide i = operands_first 2 i
role Concatenate i = operands_first 2 i
role (Unary f) i = operands_first 1 i
role (Convert f) i = operands_first 1 i
role LNot i = operands_first 1 i
role Store i = operands_first 1 i
role Return i = operands_first 1 i
role (Pause f) i = operands_first 1 i
role (ByOne f) i = Changed
role Dereference i = Indexed
role Invoke i = name_first i
role Notify i = name_first i
role other i = Skipped

-- the parts of an Index that is read are operands; where one is written, its index alone is
abbrev pub read_role : Action → ℕ → Role
read_role Index i = operands_first 2 i
read_role other i = Skipped

abbrev pub written_role : Action → ℕ → Role
written_role Index i = if i == 1 then Operand else Skipped
written_role other i = Skipped

-- statements and arguments
abbrev pub every_operand : ℕ → Role
every_operand i = Operand

-- the place of the first part
abbrev pub place_of_first : Trees → ℕ
place_of_first none = 0
place_of_first (more t ts) = at_of t

-- a loop that turns n times asks its test n + 1 times; one that ends in its first turn asks it once
abbrev pub turned : TurnCount → ℕ → ℕ → ℕ
turned Once test body = test + body
turned (AtMost n) test body = suc n * test + n * body

-- what a DerefOf takes for what it reads: an Index its step
abbrev pub index_steps : Action → ℕ
index_steps Index = 1
index_steps other = 0

-- a term's own step; a Name's data takes one too, and is no term
abbrev pub first_steps : Op → ℕ
first_steps operator.Name = 2
first_steps o = 1

module _ (here : Knows) where
  -- what a term takes beside its first step and its parts: a name what it costs, a Notify, a Sleep
  -- or a Stall its event
  abbrev pub extra_steps : Action → ℕ → Trees → ℕ
  extra_steps Name at parts = here.named at
  extra_steps Invoke at parts = here.named (place_of_first parts)
  extra_steps Notify at parts = 1
  extra_steps (Pause f) at parts = 1
  extra_steps other at parts = 0

  -- what a target takes: a step, and a field its events; none takes nothing
  abbrev pub target_steps : Action → ℕ → ℕ
  target_steps (Local k) at = 1
  target_steps (Argument k) at = 1
  target_steps Debug at = 1
  target_steps Name at = suc (here.stored at)
  target_steps Index at = 1
  target_steps other at = 0

  abbrev mutual
    -- the steps of a part in its role
    pub steps_as : Role → Tree → ℕ
    steps_as Skipped (Node o at stop parts) = 0
    steps_as Operand (Node o at stop parts) = first_steps o + steps_by (action o) at parts
    steps_as Target (Node o at stop parts) =
        target_steps (action o) at + steps_from (written_role (action o)) 0 parts
    steps_as Changed (Node o at stop parts) = (first_steps o + steps_by (action o) at parts)
        + (target_steps (action o) at + steps_from (written_role (action o)) 0 parts)
    steps_as Indexed (Node o at stop parts) =
        index_steps (action o) + steps_from (read_role (action o)) 0 parts

    -- an If takes the greater of its blocks
    pub steps_by : Action → ℕ → Trees → ℕ
    steps_by If at (more t body) =
        steps_as Operand t + max (steps_of_block body) (steps_of_else body)
    steps_by While at (more t body) =
        turned (here.turns at) (steps_as Operand t) (steps_from every_operand 0 body)
    steps_by a at none = extra_steps a at none
    steps_by a at (more t ts) =
        extra_steps a at (more t ts) + (steps_as (role a 0) t + steps_from (role a) 1 ts)

    -- those of parts from one of a number on
    pub steps_from : (ℕ → Role) → ℕ → Trees → ℕ
    steps_from roles i none = 0
    steps_from roles i (more t ts) = steps_as (roles i) t + steps_from roles (suc i) ts

    -- those of an If's own block, and of its Else
    pub steps_of_block : Trees → ℕ
    steps_of_block none = 0
    steps_of_block (more (Node o at stop parts) ts) =
        if is_else o then 0 else (first_steps o + steps_by (action o) at parts) + steps_of_block ts

    pub steps_of_else : Trees → ℕ
    steps_of_else none = 0
    steps_of_else (more (Node o at stop parts) ts) =
        if is_else o then steps_from every_operand 0 parts else steps_of_else ts

  -- the steps of a term, and of statements one by one
  abbrev pub steps_of : Tree → ℕ
  steps_of t = steps_as Operand t

  abbrev pub steps_of_all : Trees → ℕ
  steps_of_all ts = steps_from every_operand 0 ts

-- which roles parts have
abbrev pub roles_of : Roles → ℕ → Role
roles_of All i = Operand
roles_of (Evaluated a) i = role a i
roles_of (Read a) i = read_role a i
roles_of (Written a) i = written_role a i

-- as many steps no method may take
abbrev pub most_steps : ℕ
most_steps = 2 ^ 63

-- a number of steps, held there
abbrev pub held : ℕ → ℕ
held n = min n most_steps

-- a number of steps that a method may take
abbrev pub bounded : ℕ → Option ℕ
bounded n = if nat_lt n most_steps then Some n else None
