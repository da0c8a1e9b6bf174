-- Loops that the judgement of a body comes to, and the sum by their turns.
use Rattle.std.proofs.Common.{◌≡◌, ◌+◌, ◌*◌, ℕ, List, [], ◌∷◌, Some, None, refl}
use Rattle.std.specs.Prelude.{true, false}
use Rattle.aml_operators.specs.declared.op.Op.TheVariants as op
use Rattle.aml_operators.specs.Tree.{Tree, Trees, Node, more}
use Rattle.aml_namespace.specs.declared.link.Link.TheVariants as link
use Rattle.aml_kinds.specs.Kinds.{IntUpTo}
use Rattle.aml_bounds.specs.declared.turn_count.TurnCount.{TurnCount}
use Rattle.aml_bounds.specs.declared.turn_count.TurnCount.TheVariants.{AtMost, Once}
use Rattle.aml_bounds.specs.Steps.{steps_of_all}
use Rattle.aml_calls.specs.Chains.{has_cycle}
use Rattle.aml_judged.specs.Judged.{Always, Around}
use Rattle.aml_judged.specs.Bodies.{entry}
use Rattle.aml_judged.specs.Sums.{known_costs, Loop, loops_in_body, only_calls_take, turns_among, while_places_in}
use Rattle.aml_judged.proofs.Examples.{byte, here, known_here, leaf, no_link, one, rising, stored_zero, three, two}

-- no name is there, and the first argument is an integer up to 5
abbrev around : Around
around = here no_link known_here

abbrev loops : Trees → List Loop
loops body = loops_in_body around body (entry (IntUpTo 5 ∷ []))

abbrev sum : Trees → ℕ
sum body = steps_of_all (known_costs around (turns_among (loops body))) body

abbrev loop : ℕ → TurnCount → Loop
loop at turns = record { at = at; turns = turns }

-- Store (a byte, a local)
abbrev stored : ℕ → ℕ → Tree → Tree
stored n at l = Node op.Store at (at + 3) (two (byte n (at + 1)) l)

-- While (LGreater (Local0, 2)) {Decrement (Local0)}, and While (Local1) {Decrement (Local1)}
abbrev falling : ℕ → Tree
falling at = Node op.While at (at + 8) (two (Node op.LGreater (at + 2) (at + 6) (two (leaf op.Local0 (at + 3)) (byte 2 (at + 4)))) (Node op.Decrement (at + 6) (at + 8) (one (leaf op.Local0 (at + 7)))))

abbrev falling_to_zero : ℕ → Tree
falling_to_zero at = Node op.While at (at + 5) (two (leaf op.Local1 (at + 2)) (Node op.Decrement (at + 3) (at + 5) (one (leaf op.Local1 (at + 4)))))

abbrev up_to_four : Trees
up_to_four = two stored_zero rising

up_to_four_loops : loops up_to_four ≡ loop 46 (AtMost 4) ∷ []
up_to_four_loops = refl

up_to_four_sum : sum up_to_four ≡ 3 + 1 + 5 * 3 + 4 * 3
up_to_four_sum = refl

-- 7 - 2 turns, by what is known of the local
abbrev from_seven : Trees
from_seven = two (stored 7 43 (leaf op.Local0 45)) (falling 46)

from_seven_loops : loops from_seven ≡ loop 46 (AtMost 5) ∷ []
from_seven_loops = refl

from_seven_sum : sum from_seven ≡ 3 + 1 + 6 * 3 + 5 * 3
from_seven_sum = refl

-- While (One) {Noop Break}
abbrev left_at_once : Trees
left_at_once = one (Node op.While 43 48 (three (leaf op.One 45) (leaf op.Noop 46) (leaf op.Break 47)))

left_at_once_loops : loops left_at_once ≡ loop 43 Once ∷ []
left_at_once_loops = refl

left_at_once_sum : sum left_at_once ≡ 4
left_at_once_sum = refl

-- a loop in each block of an If, of which the sum has the greater
abbrev in_blocks : Trees
in_blocks = two (stored 7 40 (leaf op.Local0 42)) (Node op.If 43 80 (three (leaf op.Arg0 45) (falling 46) (Node op.Else 54 80 (two (stored 9 56 (leaf op.Local0 58)) (falling 60)))))

in_blocks_loops : loops in_blocks ≡ loop 46 (AtMost 5) ∷ loop 60 (AtMost 7) ∷ []
in_blocks_loops = refl

in_blocks_sum : sum in_blocks ≡ 3 + 1 + 1 + 3 + 1 + 8 * 3 + 7 * 3
in_blocks_sum = refl

-- a loop in a loop turns by what is known within
abbrev in_a_loop : Trees
in_a_loop = two stored_zero (Node op.While 46 80 (more (Node op.LLess 48 52 (two (leaf op.Local0 49) (byte 4 50))) (three (stored 9 52 (leaf op.Local1 54)) (falling_to_zero 55) (Node op.Increment 78 80 (one (leaf op.Local0 79))))))

in_a_loop_loops : loops in_a_loop ≡ loop 46 (AtMost 4) ∷ loop 55 (AtMost 9) ∷ []
in_a_loop_loops = refl

in_a_loop_sum : sum in_a_loop ≡ 3 + 1 + 5 * 3 + 4 * (3 + (1 + 10 * 1 + 9 * 3) + 3)
in_a_loop_sum = refl

-- what the law wants of these bodies
in_a_loop_takes : only_calls_take no_link in_a_loop ≡ true
in_a_loop_takes = refl

in_a_loop_places : has_cycle (while_places_in in_a_loop) ≡ false
in_a_loop_places = refl

-- a call costs its method's bound, and its arguments
abbrev calling : Trees
calling = one (Node op.Return 43 50 (one (Node op.Invocation 44 50 (two (leaf op.NameString 44) (leaf op.One 48)))))

abbrev around_call : Around
around_call = here (λ at. link.Method (record { 0 = 1 })) (λ k. record { reaches = false; deep = false; accepted = Some (record { args = IntUpTo 3 ∷ []; result = Always (IntUpTo 3); bound = 10; least = None }) })

calling_sum : steps_of_all (known_costs around_call (turns_among [])) calling ≡ 1 + 1 + 10 + 1
calling_sum = refl

calling_takes : only_calls_take around_call.link calling ≡ true
calling_takes = refl

-- of a name that is no method's no argument is judged
none_taken : only_calls_take (λ at. link.Data (record { 0 = 1 })) calling ≡ false
none_taken = refl
