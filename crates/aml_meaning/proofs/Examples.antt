-- Bodies and what they come to, computed.
use Rattle.std.proofs.Common.{◌≡◌, ℕ, List, true, false, ◌+◌, ◌-◌, ◌^◌, [], ◌∷◌, Some, refl, None}
use Rattle.std.specs.Prelude.{nat_le, if◌then◌else◌}
use Rattle.aml_operators.specs.declared.op.Op.{Op}
use Rattle.aml_operators.specs.declared.op.Op.TheVariants.{Index, Return, Add, Subtract, Arg0, One, NullName, Local0, Timer, Store, Invocation, NameString, While, Decrement, Break, If, Else, Sleep, Notify, Name}
use Rattle.aml_operators.specs.Tree.{Tree, Trees, Node, none, more}
use Rattle.aml_values.specs.Values.{Buf, Int}
use Rattle.aml_namespace.specs.declared.link.Link.TheVariants.{Data, Missing, Own}
use Rattle.aml_meaning.specs.declared.error.AmlCause.TheVariants as cause
use Rattle.aml_meaning.specs.State.{State, Goes, Halts, NoAnswer, Spent, error}
use Rattle.aml_regions.specs.Events.{Event, Log, Slept}
use Rattle.aml_meaning.specs.Parts.{◌>>=◌, give, stop_with, tick, paid, get_local, get_arg, set_local, set_arg, sleep}
use Rattle.aml_meaning.specs.Mutexes.{none_held}
use Rattle.aml_meaning.specs.Owns.{get_own, make_own, own_field}
use Rattle.aml_meaning.specs.Changes.{change}
use Rattle.aml_meaning.specs.Loops.{loop, spent, turned}
use Rattle.aml_meaning.specs.Calls.{framed}
use Rattle.aml_meaning.specs.Meaning.{Setting}
use Rattle.aml_meaning.specs.Whole.{before, evaluated}

abbrev of_width : ℕ → Setting
of_width bits = record { table = 0; opcode = 0; width = bits; link = λ at. Missing; lone = λ at. true; field = λ k. None; buffer_field = λ k. None; object = λ id. None; literal = λ op parts. Int 0; call = λ p k values. stop_with (error cause.Outside p.table p.at); is_interface = λ text. false }

-- a world that kept these events, and refused no call
abbrev heard : List Event → Log
heard events = record { events = events; refusals = 0 }

-- so many steps, and nothing else
abbrev steps : ℕ → State
steps n = before (record { contents = []; kinds = [] }) n (heard [])

-- Return (Add (Arg0, One))
abbrev sum_of_two : Trees
sum_of_two = more (Node Return 0 5 (more (Node Add 1 5 (more (Node Arg0 2 3 none) (more (Node One 3 4 none) (more (Node NullName 4 5 none) none)))) none)) none

-- Return (Add (Arg0, One, Local0))
abbrev sum_stored : Trees
sum_stored = more (Node Return 0 5 (more (Node Add 1 5 (more (Node Arg0 2 3 none) (more (Node One 3 4 none) (more (Node Local0 4 5 none) none)))) none)) none

-- Return (Local0)
abbrev local_returned : Trees
local_returned = more (Node Return 0 2 (more (Node Local0 1 2 none) none)) none

four_steps : evaluated (of_width 64) sum_of_two (Int 41 ∷ []) [] (steps 4) ≡ Goes (Some (Int 42)) (steps 0)
unfolding framed none_held ◌>>=◌ give stop_with tick paid get_arg
four_steps = refl

three_steps : evaluated (of_width 64) sum_of_two (Int 41 ∷ []) [] (steps 3) ≡ Spent (steps 0)
unfolding framed none_held ◌>>=◌ give stop_with tick paid get_arg
three_steps = refl

wraps_at_64 : evaluated (of_width 64) sum_of_two (Int (2 ^ 64 - 1) ∷ []) [] (steps 4) ≡ Goes (Some (Int 0)) (steps 0)
unfolding framed none_held ◌>>=◌ give stop_with tick paid get_arg
wraps_at_64 = refl

wraps_at_32 : evaluated (of_width 32) sum_of_two (Int (2 ^ 32 - 1) ∷ []) [] (steps 4) ≡ Goes (Some (Int 0)) (steps 0)
unfolding framed none_held ◌>>=◌ give stop_with tick paid get_arg
wraps_at_32 = refl

a_local_costs_one : evaluated (of_width 64) sum_stored (Int 41 ∷ []) [] (steps 4) ≡ Spent (steps 0)
unfolding framed none_held ◌>>=◌ give stop_with tick paid get_arg
a_local_costs_one = refl

unset_is_an_error : evaluated (of_width 64) local_returned [] [] (steps 2) ≡ Halts (error cause.Unset 0 1) (steps 0)
unfolding framed none_held ◌>>=◌ give stop_with tick paid get_local
unset_is_an_error = refl

one_step : evaluated (of_width 64) local_returned [] [] (steps 1) ≡ Spent (steps 0)
unfolding framed none_held ◌>>=◌ give stop_with tick paid get_local
one_step = refl

five_steps : evaluated (of_width 64) sum_stored (Int 41 ∷ []) [] (steps 5) ≡ Goes (Some (Int 42)) (steps 0)
unfolding framed none_held ◌>>=◌ give stop_with tick paid get_arg set_local
five_steps = refl

-- Store (Arg0, Local0), Return (Local0)
kept : evaluated (of_width 64) (more (Node Store 0 3 (more (Node Arg0 1 2 none) (more (Node Local0 2 3 none) none))) (more (Node Return 3 5 (more (Node Local0 4 5 none) none)) none)) (Int 41 ∷ []) [] (steps 5) ≡ Goes (Some (Int 41)) (steps 0)
unfolding framed none_held ◌>>=◌ give stop_with tick paid get_local get_arg set_local
kept = refl

not_passed_is_unset : evaluated (of_width 64) sum_of_two [] [] (steps 4) ≡ Halts (error cause.Unset 0 2) (steps 1)
unfolding framed none_held ◌>>=◌ give stop_with tick paid get_arg
not_passed_is_unset = refl

the_end_gives_none : evaluated (of_width 64) none [] [] (steps 0) ≡ Goes None (steps 0)
unfolding framed none_held ◌>>=◌ give
the_end_gives_none = refl

no_meaning_is_an_error : evaluated (of_width 64) (more (Node Timer 0 1 none) none) [] [] (steps 1) ≡ Halts (error cause.Outside 0 0) (steps 0)
unfolding framed none_held ◌>>=◌ give stop_with tick paid
no_meaning_is_an_error = refl

no_meaning_takes_a_step : evaluated (of_width 64) (more (Node Timer 0 1 none) none) [] [] (steps 0) ≡ Spent (steps 0)
unfolding framed none_held ◌>>=◌ give stop_with tick paid
no_meaning_takes_a_step = refl

-- Store (One, Timer): the target's own step, then its place
no_target_is_an_error : evaluated (of_width 64) (more (Node Store 0 3 (more (Node One 1 2 none) (more (Node Timer 2 3 none) none))) none) [] [] (steps 3) ≡ Halts (error cause.Outside 0 2) (steps 0)
unfolding framed none_held ◌>>=◌ give stop_with tick paid
no_target_is_an_error = refl

-- Return (Subtract (Arg0, One))
abbrev difference : Trees
difference = more (Node Return 0 5 (more (Node Subtract 1 5 (more (Node Arg0 2 3 none) (more (Node One 3 4 none) (more (Node NullName 4 5 none) none)))) none)) none

below_zero_at_64 : evaluated (of_width 64) difference (Int 0 ∷ []) [] (steps 4) ≡ Goes (Some (Int (2 ^ 64 - 1))) (steps 0)
unfolding framed none_held ◌>>=◌ give stop_with tick paid get_arg
below_zero_at_64 = refl

below_zero_at_32 : evaluated (of_width 32) difference (Int 0 ∷ []) [] (steps 4) ≡ Goes (Some (Int (2 ^ 32 - 1))) (steps 0)
unfolding framed none_held ◌>>=◌ give stop_with tick paid get_arg
below_zero_at_32 = refl

-- Return (FOO_), where nothing has that name: a step for each of the two terms
missing_name : evaluated (of_width 64) (more (Node Return 0 5 (more (Node Invocation 1 5 (more (Node NameString 1 5 none) none)) none)) none) [] [] (steps 2) ≡ Halts (error cause.Missing 0 1) (steps 0)
unfolding framed none_held ◌>>=◌ give stop_with tick paid
missing_name = refl

-- While (Arg0) { Decrement (Arg0) }, Return (Arg0)
abbrev counted_down : Trees
counted_down = more (Node While 0 5 (more (Node Arg0 2 3 none) (more (Node Decrement 3 5 (more (Node Arg0 4 5 none) none)) none))) (more (Node Return 5 7 (more (Node Arg0 6 7 none) none)) none)

two_turns : evaluated (of_width 64) counted_down (Int 2 ∷ []) [] (steps 12) ≡ Goes (Some (Int 0)) (steps 0)
unfolding framed none_held ◌>>=◌ give stop_with tick paid get_arg set_arg loop turned spent
two_turns = refl

one_step_less : evaluated (of_width 64) counted_down (Int 2 ∷ []) [] (steps 11) ≡ Spent (steps 0)
unfolding framed none_held ◌>>=◌ give stop_with tick paid get_arg set_arg loop turned spent
one_step_less = refl

no_turn : evaluated (of_width 64) counted_down (Int 0 ∷ []) [] (steps 4) ≡ Goes (Some (Int 0)) (steps 0)
unfolding framed none_held ◌>>=◌ give stop_with tick paid get_arg loop turned spent
no_turn = refl

-- While (One) { Break }
a_break_ends_its_loop : evaluated (of_width 64) (more (Node While 0 4 (more (Node One 2 3 none) (more (Node Break 3 4 none) none))) none) [] [] (steps 3) ≡ Goes None (steps 0)
unfolding framed none_held ◌>>=◌ give stop_with tick paid loop turned spent
a_break_ends_its_loop = refl

a_break_without_a_loop : evaluated (of_width 64) (more (Node Break 0 1 none) none) [] [] (steps 1) ≡ Halts (error cause.Outside 0 0) (steps 0)
unfolding framed none_held ◌>>=◌ stop_with tick paid
a_break_without_a_loop = refl

-- If (Arg0) { Return (One) } Else { Return (Arg0) }
abbrev either : Trees
either = more (Node If 0 9 (more (Node Arg0 2 3 none) (more (Node Return 3 5 (more (Node One 4 5 none) none)) (more (Node Else 5 9 (more (Node Return 7 9 (more (Node Arg0 8 9 none) none)) none)) none)))) none

its_own_block : evaluated (of_width 64) either (Int 7 ∷ []) [] (steps 4) ≡ Goes (Some (Int 1)) (steps 0)
unfolding framed none_held ◌>>=◌ give stop_with tick paid get_arg
its_own_block = refl

its_else : evaluated (of_width 64) either (Int 0 ∷ []) [] (steps 4) ≡ Goes (Some (Int 0)) (steps 0)
unfolding framed none_held ◌>>=◌ give stop_with tick paid get_arg
its_else = refl

-- Sleep (One): a step for each term and one for the event
abbrev asleep : Trees
asleep = more (Node Sleep 0 3 (more (Node One 2 3 none) none)) none

a_sleep : evaluated (of_width 64) asleep [] (Slept 1 None ∷ []) (steps 3) ≡ Goes None (before (record { contents = []; kinds = [] }) 0 (heard (Slept 1 None ∷ [])))
unfolding framed none_held ◌>>=◌ give stop_with tick paid sleep
a_sleep = refl

-- others left other contents
a_sleep_with_others : evaluated (of_width 64) asleep [] (Slept 1 (Some (Some (Int 6) ∷ [])) ∷ []) (before (record { contents = Some (Int 5) ∷ []; kinds = [] }) 3 (heard [])) ≡ Goes None (before (record { contents = Some (Int 6) ∷ []; kinds = [] }) 0 (heard (Slept 1 (Some (Some (Int 6) ∷ [])) ∷ [])))
unfolding framed none_held ◌>>=◌ give stop_with tick paid sleep
a_sleep_with_others = refl

a_sleep_without_answer : evaluated (of_width 64) asleep [] [] (steps 3) ≡ NoAnswer (steps 0)
unfolding framed none_held ◌>>=◌ give stop_with tick paid sleep
a_sleep_without_answer = refl

no_sleep : evaluated (of_width 64) asleep [] [] (steps 2) ≡ Spent (steps 0)
unfolding framed none_held ◌>>=◌ give stop_with tick paid sleep
no_sleep = refl

-- Notify (FOO_, Local0), where nothing has that name: the value is not looked at
no_notice : evaluated (of_width 64) (more (Node Notify 0 6 (more (Node NameString 1 5 none) (more (Node Local0 5 6 none) none))) none) [] [] (steps 1) ≡ Halts (error cause.Missing 0 1) (steps 0)
unfolding framed none_held ◌>>=◌ give stop_with tick paid
no_notice = refl

-- Notify (Local0, One): the value first, and then what is notified
a_local_is_not_notified : evaluated (of_width 64) (more (Node Notify 0 3 (more (Node Local0 1 2 none) (more (Node One 2 3 none) none))) none) [] [] (steps 2) ≡ Halts (error cause.Kind 0 1) (steps 0)
unfolding framed none_held ◌>>=◌ give stop_with tick paid
a_local_is_not_notified = refl

-- a body whose first own name stands from this place on
abbrev owning_from : ℕ → Setting
owning_from from = record (of_width 64) { link = λ at. if nat_le from at then Own 0 else Missing }

-- Name (OWN0, One)
abbrev definition : ℕ → Tree
definition at = Node Name at (at + 6) (more (Node NameString (at + 1) (at + 5) none) (more (Node One (at + 5) (at + 6) none) none))

-- Name (OWN0, One), Return (OWN0)
abbrev own_returned : Trees
own_returned = more (definition 0) (more (Node Return 6 11 (more (Node Invocation 7 11 (more (Node NameString 7 11 none) none)) none)) none)

an_own_name : evaluated (owning_from 6) own_returned [] [] (steps 4) ≡ Goes (Some (Int 1)) (steps 0)
unfolding framed none_held ◌>>=◌ give stop_with tick paid get_own make_own own_field
an_own_name = refl

one_step_less_of_it : evaluated (owning_from 6) own_returned [] [] (steps 3) ≡ Spent (steps 0)
unfolding framed none_held ◌>>=◌ give stop_with tick paid get_own make_own own_field
one_step_less_of_it = refl

-- the same segment twice
made_once : evaluated (owning_from 6) (more (definition 0) (more (definition 6) none)) [] [] (steps 3) ≡ Halts (error cause.Outside 0 6) (steps 0)
unfolding framed none_held ◌>>=◌ give stop_with tick paid make_own
made_once = refl

-- If (One) {Name (OWN0, One)}
made_in_no_block : evaluated (owning_from 9) (more (Node If 0 9 (more (Node One 2 3 none) (more (definition 3) none))) none) [] [] (steps 3) ≡ Halts (error cause.Outside 0 3) (steps 0)
unfolding framed none_held ◌>>=◌ give stop_with tick paid
made_in_no_block = refl

-- a body whose names all name one data name
abbrev over_data : Setting
over_data = record (of_width 64) { link = λ at. Data (record { 0 = 0 }) }

-- so many steps, and a buffer that this name holds
abbrev over_buffer : List ℕ → ℕ → State
over_buffer bytes n = before (record { contents = Some (Buf bytes) ∷ []; kinds = [] }) n (heard [])

-- Store (One, Index (BUF0, at)), by the opcode of the index
abbrev byte_stored_at : Op → Trees
byte_stored_at index = more (Node Store 0 9 (more (Node One 1 2 none) (more (Node Index 2 9 (more (Node Invocation 3 7 (more (Node NameString 3 7 none) none)) (more (Node index 7 8 none) (more (Node NullName 8 9 none) none)))) none))) none

a_byte_stored : evaluated over_data (byte_stored_at One) [] [] (over_buffer (7 ∷ 8 ∷ []) 4) ≡ Goes None (over_buffer (7 ∷ 1 ∷ []) 0)
unfolding framed none_held ◌>>=◌ give stop_with tick paid change
a_byte_stored = refl

no_step_for_the_byte : evaluated over_data (byte_stored_at One) [] [] (over_buffer (7 ∷ 8 ∷ []) 3) ≡ Spent (over_buffer (7 ∷ 8 ∷ []) 0)
unfolding framed none_held ◌>>=◌ give stop_with tick paid change
no_step_for_the_byte = refl

past_the_end : evaluated over_data (byte_stored_at One) [] [] (over_buffer (7 ∷ []) 4) ≡ Halts (error cause.Index 0 2) (over_buffer (7 ∷ []) 0)
unfolding framed none_held ◌>>=◌ give stop_with tick paid change
past_the_end = refl

-- where nothing has that name, its index is not evaluated
no_buffer_there : evaluated (of_width 64) (byte_stored_at Local0) [] [] (steps 3) ≡ Halts (error cause.Missing 0 3) (steps 0)
unfolding framed none_held ◌>>=◌ give stop_with tick paid
no_buffer_there = refl
