-- Bodies that are judged as the worked rows say.
use Rattle.std.proofs.Common.{◌≡◌, ℕ, ◌-◌, ◌+◌, ◌*◌, ◌^◌, List, [], ◌∷◌, Option, Some, None, Ok, Err, refl}
use Rattle.std.specs.Prelude.{Bool, true, false, nat_le, if◌then◌else◌}
use Rattle.aml_operators.specs.declared.op.Op.{Op}
use Rattle.aml_operators.specs.declared.op.Op.TheVariants as op
use Rattle.aml_operators.specs.Tree.{Tree, Trees, Node, none, more}
use Rattle.aml_namespace.specs.declared.link.Link.{Link}
use Rattle.aml_namespace.specs.declared.link.Link.TheVariants as link
use Rattle.aml_values.specs.Values.{Buf}
use Rattle.aml_kinds.specs.Kinds.{Kind, IntUpTo}
use Rattle.aml_judged.specs.Causes as cause
use Rattle.aml_judged.specs.Causes.{Cause, Refusal}
use Rattle.aml_judged.specs.Judged.{Yield, Always, Sometimes, Never, Accepted, Seen, Around}
use Rattle.aml_judged.specs.Bodies.{shared_only, judged_method, entry}
use Rattle.aml_judged.specs.Verdicts.{verdict_of, Verdict}

abbrev pub one : Tree → Trees
one a = more a none

abbrev pub two : Tree → Tree → Trees
two a b = more a (more b none)

abbrev pub three : Tree → Tree → Tree → Trees
three a b c = more a (more b (more c none))

abbrev pub leaf : Op → ℕ → Tree
leaf o at = Node o at at none

abbrev pub byte : ℕ → ℕ → Tree
byte n at = Node op.ByteConst at at (one (Node (op.Number n) at at none))

abbrev pub nothing : ℕ → Tree
nothing at = leaf op.NullName at

abbrev pub known_here : ℕ → Seen
known_here k = record { reaches = false; deep = false; accepted = None }

abbrev pub here : (ℕ → Link) → (ℕ → Seen) → Around
here link callee = record { table = 0; width = 64; link = link; lone = λ at. true; object = λ k. None; field = λ k. None; buffer_field = λ k. None; literal = λ o ts. Buf (0 ∷ 0 ∷ []); kinds = shared_only []; callee = callee }

abbrev pub no_link : ℕ → Link
no_link at = link.Missing

abbrev pub late : Refusal
late = record { table = 0; at = 36; why = cause.BoundTooLarge }

abbrev pub verdict : List Kind → Trees → Verdict
verdict args body = verdict_of true late args (judged_method (here no_link known_here) 36 body (entry args))

abbrev pub refused : ℕ → Cause → Verdict
refused at why = Err (record { table = 0; at = at; why = why })

abbrev pub returned_int : ℕ → Yield → Verdict
returned_int n y = Ok (record { args = []; result = y; bound = n; least = None })

-- Return (Add (Arg0, One))
abbrev plus_one : Trees
plus_one = one (Node op.Return 43 48 (one (Node op.Add 44 48 (three (leaf op.Arg0 45) (leaf op.One 46) (nothing 47)))))

one_more : verdict (IntUpTo (2 ^ 64 - 1) ∷ []) plus_one ≡ Ok (record { args = IntUpTo (2 ^ 64 - 1) ∷ []; result = Always (IntUpTo (2 ^ 64 - 1)); bound = 4; least = None })
one_more = refl

abbrev stored_arg : Tree
stored_arg = Node op.Store 43 46 (two (byte 200 44) (leaf op.Local0 45))

-- a loop that rises to 4 takes 33 steps; without the store its local is unset
abbrev pub rising : Tree
rising = Node op.While 46 54 (two (Node op.LLess 48 52 (two (leaf op.Local0 49) (byte 4 50))) (Node op.Increment 52 54 (one (leaf op.Local0 53))))

abbrev pub stored_zero : Tree
stored_zero = Node op.Store 43 46 (two (leaf op.Zero 44) (leaf op.Local0 45))

rises_to_four : verdict [] (three stored_zero rising (Node op.Return 54 56 (one (leaf op.Local0 55)))) ≡ returned_int 33 (Always (IntUpTo (2 ^ 64 - 1)))
rises_to_four = refl

rising_unset : verdict [] (two rising (Node op.Return 54 56 (one (leaf op.Local0 55)))) ≡ refused 49 cause.Unset
rising_unset = refl

-- a Continue before the step
continue_before : verdict (IntUpTo 1 ∷ []) (two stored_zero (Node op.While 46 58 (three (Node op.LLess 48 52 (two (leaf op.Local0 49) (byte 4 50))) (Node op.If 52 56 (two (leaf op.Arg0 54) (leaf op.Continue 55))) (Node op.Increment 56 58 (one (leaf op.Local0 57)))))) ≡ refused 46 cause.LoopShape
continue_before = refl

-- behind the step it may stand
continue_behind : verdict (IntUpTo 1 ∷ []) (two stored_zero (Node op.While 46 58 (three (Node op.LLess 48 52 (two (leaf op.Local0 49) (byte 4 50))) (Node op.Increment 56 58 (one (leaf op.Local0 57))) (Node op.If 52 56 (two (leaf op.Arg0 54) (leaf op.Continue 55)))))) ≡ Ok (record { args = IntUpTo 1 ∷ []; result = Never; bound = 3 + 1 + 5 * 3 + 4 * (3 + 3); least = None })
continue_behind = refl

-- While (One) {Noop Break}
loop_with_a_break : verdict [] (one (Node op.While 43 48 (three (leaf op.One 45) (leaf op.Noop 46) (leaf op.Break 47)))) ≡ returned_int 4 Never
loop_with_a_break = refl

loop_of_no_shape : verdict [] (one (Node op.While 43 48 (two (leaf op.One 45) (leaf op.Noop 46)))) ≡ refused 43 cause.LoopShape
loop_of_no_shape = refl

-- the bound takes the greater of an If's blocks, whichever that is
greater_else : verdict (IntUpTo 1 ∷ []) (one (Node op.If 43 60 (three (leaf op.Arg0 45) (leaf op.Noop 46) (Node op.Else 47 60 (three (leaf op.Noop 49) (leaf op.Noop 50) (leaf op.Noop 51)))))) ≡ Ok (record { args = IntUpTo 1 ∷ []; result = Never; bound = 5; least = None })
greater_else = refl

-- a loop that falls from a local's greatest: 7 - 2 turns
falling : verdict [] (two (Node op.Store 43 46 (two (byte 7 44) (leaf op.Local0 45))) (Node op.While 46 54 (two (Node op.LGreater 48 52 (two (leaf op.Local0 49) (byte 2 50))) (Node op.Decrement 52 54 (one (leaf op.Local0 53)))))) ≡ returned_int (3 + 1 + 6 * 3 + 5 * 3) Never
falling = refl

-- While (Local0) with Subtract (Local0, 1, Local0): 3 turns
falling_to_zero : verdict [] (two (Node op.Store 43 46 (two (byte 3 44) (leaf op.Local0 45))) (Node op.While 46 54 (two (leaf op.Local0 48) (Node op.Subtract 49 53 (three (leaf op.Local0 50) (leaf op.One 51) (leaf op.Local0 52)))))) ≡ returned_int (3 + 1 + 4 * 1 + 3 * 4) Never
falling_to_zero = refl

-- While (One) { Return (1) }: the failed test counts as an end
sometimes : verdict [] (one (Node op.While 43 48 (two (leaf op.One 45) (Node op.Return 46 48 (one (leaf op.One 47)))))) ≡ returned_int 4 (Sometimes (IntUpTo 1))
sometimes = refl

-- a Break outside a loop
break_outside : verdict [] (one (leaf op.Break 43)) ≡ refused 43 cause.OutsideProfile
break_outside = refl

-- a store into the counting local beside its step
stored_beside : verdict [] (two stored_zero (Node op.While 46 54 (three (Node op.LLess 48 52 (two (leaf op.Local0 49) (byte 4 50))) (Node op.Increment 52 54 (one (leaf op.Local0 53))) (Node op.If 55 60 (two (leaf op.Local1 56) stored_zero))))) ≡ refused 46 cause.LoopShape
stored_beside = refl

-- 2^64 - 1 turns
too_large : verdict [] (two stored_zero (Node op.While 46 54 (two (Node op.LLess 48 52 (two (leaf op.Local0 49) (leaf op.Ones 50))) (Node op.Increment 52 54 (one (leaf op.Local0 53)))))) ≡ refused 36 cause.BoundTooLarge
too_large = refl

-- the causes at a call, in the order of their asking
abbrev seen : Bool → Bool → Option Accepted → ℕ → Seen
seen reaches deep accepted k = record { reaches = reaches; deep = deep; accepted = accepted }

abbrev to_method : ℕ → Link
to_method at = link.Method (record { 0 = 1 })

-- Return (M (x)), by what is seen of M, which takes an integer up to 3
abbrev calling : Op → (ℕ → Seen) → Verdict
calling argument callee = verdict_of true late [] (judged_method (here to_method callee) 36 (one (Node op.Return 43 50 (one (Node op.Invocation 44 50 (two (leaf op.NameString 44) (leaf argument 48)))))) (entry []))

abbrev accepted : Yield → Option Accepted
accepted y = Some (record { args = IntUpTo 3 ∷ []; result = y; bound = 10; least = None })

-- V5 before the argument's V4, V4 before V10, V10 before V14, V12 before V14, V14 before V3
cycle_first : calling op.Local0 (seen true true (accepted Never)) ≡ refused 44 cause.Cycle
cycle_first = refl

argument_then : calling op.Local0 (seen false true (accepted Never)) ≡ refused 48 cause.Unset
argument_then = refl

result_then : calling op.Ones (seen false true (accepted Never)) ≡ refused 44 cause.NoResult
result_then = refl

refused_then : calling op.Ones (seen false true None) ≡ refused 44 cause.CalleeRefused
refused_then = refl

depth_then : calling op.Ones (seen false true (accepted (Always (IntUpTo 1)))) ≡ refused 44 cause.Depth
depth_then = refl

kinds_last : calling op.Ones (seen false false (accepted (Always (IntUpTo 1)))) ≡ refused 48 cause.WrongKind
kinds_last = refl

-- 1 + 1 + 1 + 10 steps
fine_call : calling op.One (seen false false (accepted (Always (IntUpTo 1)))) ≡ returned_int 13 (Always (IntUpTo 1))
fine_call = refl

-- V6 before the causes of the test, and V3 of two operands before what is stored
shape_first : verdict [] (one (Node op.While 43 48 (two (leaf op.Local0 45) (leaf op.Noop 46)))) ≡ refused 43 cause.LoopShape
shape_first = refl

-- a divisor that is zero modulo 2^32, and one that is a local; Mod (Arg0, 15)
abbrev remainder : Tree → Trees
remainder b = one (Node op.Return 43 55 (one (Node op.Mod 44 55 (three (leaf op.Arg0 45) b (nothing 54)))))

abbrev verdict_at : ℕ → Trees → Verdict
verdict_at width body = verdict_of true late (IntUpTo 100 ∷ []) (judged_method (record { table = 0; width = width; link = no_link; lone = λ at. true; object = λ k. None; field = λ k. None; buffer_field = λ k. None; literal = λ o ts. Buf (0 ∷ 0 ∷ []); kinds = shared_only []; callee = known_here }) 36 body (entry (IntUpTo 100 ∷ [])))

abbrev qword : ℕ → Tree
qword n = Node op.QWordConst 46 54 (one (Node (op.Number n) 47 54 none))

great_divisor : verdict_at 64 (remainder (qword (2 ^ 32))) ≡ Ok (record { args = IntUpTo 100 ∷ []; result = Always (IntUpTo 100); bound = 4; least = None })
great_divisor = refl

great_divisor_narrow : verdict_at 32 (remainder (qword (2 ^ 32))) ≡ refused 46 cause.Divisor
great_divisor_narrow = refl

mod_fifteen : verdict_at 64 (remainder (qword 15)) ≡ Ok (record { args = IntUpTo 100 ∷ []; result = Always (IntUpTo 14); bound = 4; least = None })
mod_fifteen = refl

divisor_local : verdict_at 64 (remainder (leaf op.Arg0 46)) ≡ refused 46 cause.Divisor
divisor_local = refl

-- narrowing: below 4 in the block
narrowed : verdict_at 64 (one (Node op.If 43 60 (two (Node op.LLess 44 48 (two (leaf op.Local0 45) (byte 4 46))) (Node op.Return 49 51 (one (leaf op.Local0 50)))))) ≡ refused 45 cause.Unset
narrowed = refl

narrowed_result : verdict [] (three stored_arg (Node op.If 46 60 (two (Node op.LLess 47 50 (two (leaf op.Local0 48) (byte 4 49))) (Node op.Return 51 53 (one (leaf op.Local0 52))))) (Node op.Return 54 56 (one (leaf op.One 55)))) ≡ returned_int (3 + 4 + 2 + 2) (Always (IntUpTo 3))
narrowed_result = refl

-- behind a Return nothing counts, neither its value nor a loop's Break
dead_code : verdict [] (two (Node op.Return 43 45 (one (leaf op.One 44))) (Node op.Return 46 49 (one (byte 9 47)))) ≡ returned_int 4 (Always (IntUpTo 1))
dead_code = refl

-- own names: behind its definition, at place 50 and further, the name is the body's own
abbrev pub owning : ℕ → Link
owning at = if nat_le 50 at then link.Own 0 else link.Missing

abbrev pub verdict_owning : Trees → Verdict
verdict_owning body = verdict_of true late [] (judged_method (here owning known_here) 36 body (entry []))

abbrev pub defined : ℕ → Tree → Tree
defined at what = Node op.Name at at (two (leaf op.NameString at) what)

own_integer : verdict_owning (three (defined 43 (byte 5 44)) (Node op.Store 48 52 (two (leaf op.Ones 49) (leaf op.NameString 51))) (Node op.Return 53 55 (one (leaf op.NameString 54)))) ≡ returned_int (2 + 3 + 2) (Always (IntUpTo (2 ^ 64 - 1)))
own_integer = refl

own_buffer : verdict_owning (three (defined 43 (leaf op.Buffer 44)) (Node op.Store 48 52 (two (leaf op.Ones 49) (leaf op.NameString 51))) (Node op.Return 53 55 (one (leaf op.NameString 54)))) ≡ refused 51 cause.WrongKind
own_buffer = refl

own_twice : verdict_owning (two (defined 43 (byte 5 44)) (defined 50 (byte 6 51))) ≡ refused 50 cause.LocalName
own_twice = refl

before_its_definition : verdict_owning (two (Node op.Return 43 45 (one (leaf op.NameString 44))) (defined 46 (byte 5 47))) ≡ refused 44 cause.Unresolved
before_its_definition = refl

-- a target of an operator outside the profile spoils a loop's shape, which is told before the operator
abbrev counting_with : Tree → Trees
counting_with t = two stored_zero (Node op.While 46 60 (three (Node op.LLess 48 52 (two (leaf op.Local0 49) (byte 4 50))) (Node op.Increment 52 54 (one (leaf op.Local0 53))) t))

shape_before_operator : verdict [] (counting_with (Node op.ToHexString 55 58 (two (leaf op.One 56) (leaf op.Local0 57)))) ≡ refused 46 cause.LoopShape
shape_before_operator = refl

operator_otherwise : verdict [] (counting_with (Node op.ToHexString 55 58 (two (leaf op.One 56) (leaf op.Local1 57)))) ≡ refused 55 cause.OutsideProfile
operator_otherwise = refl

-- what CopyObject writes is no target
copied_otherwise : verdict [] (counting_with (Node op.CopyObject 55 58 (two (leaf op.One 56) (leaf op.Local0 57)))) ≡ refused 55 cause.OutsideProfile
copied_otherwise = refl
