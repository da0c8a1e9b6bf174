-- Bodies that take and release mutexes, judged as the worked rows say.
use Rattle.std.proofs.Common.{◌≡◌, ℕ, ◌%◌, List, [], ◌∷◌, Option, Some, None, Ok, refl}
use Rattle.std.specs.Prelude.{true, false, ◌==◌, if◌then◌else◌}
use Rattle.aml_operators.specs.declared.op.Op.{Op}
use Rattle.aml_operators.specs.declared.op.Op.TheVariants as op
use Rattle.aml_operators.specs.Tree.{Tree, Trees, Node, none, more, joined}
use Rattle.aml_namespace.specs.declared.link.Link.{Link}
use Rattle.aml_namespace.specs.declared.link.Link.TheVariants as link
use Rattle.aml_objects.specs.declared.object.Object.{Object}
use Rattle.aml_objects.specs.declared.object.Object.TheVariants as object
use Rattle.aml_kinds.specs.Kinds.{Kind, IntUpTo}
use Rattle.aml_judged.specs.Causes as cause
use Rattle.aml_judged.specs.Judged.{Yield, Always, Never, Seen}
use Rattle.aml_judged.specs.Bodies.{judged_method, entry}
use Rattle.aml_judged.specs.Verdicts.{verdict_of, Verdict}
use Rattle.aml_judged.proofs.Examples.{here, known_here, late, one, two, three, leaf, byte, refused, stored_zero}

abbrev mutex : ℕ → Link
mutex k = link.Object (record { 0 = k })

-- the name at a place is that of the object with its last digit, and at 100 that of a method: 2, 3 and 4 are mutexes of levels 2, 3
-- and 3, 5 is the global lock, 6 is no mutex, and 0 is not there
abbrev named : ℕ → Link
named at = if at == 100 then link.Method (record { 0 = 1 }) else (if at % 10 == 0 then link.Missing else mutex (at % 10))

abbrev objects : ℕ → Option Object
objects k = if k == 2 then Some (object.Mutex 2) else (if k == 3 then Some (object.Mutex 3) else (if k == 4 then Some (object.Mutex 3) else (if k == 5 then Some object.GlobalLock else None)))

abbrev holding_with : (ℕ → Link) → (ℕ → Seen) → List Kind → Trees → Verdict
holding_with names callee args body = verdict_of true late args (judged_method (record (here names callee) { object = objects }) 36 body (entry args))

abbrev holding : Trees → Verdict
holding body = holding_with named known_here [] body

-- with an argument
abbrev asking : Trees → Verdict
asking body = holding_with named known_here (IntUpTo 1 ∷ []) body

-- an operator's place, and that of the mutex's name
abbrev acquired : ℕ → Tree → Tree
acquired at o = Node op.Acquire at at (two o (leaf (op.Number 65535) at))

abbrev takes : ℕ → ℕ → Tree
takes at from = acquired at (leaf op.NameString from)

abbrev drops : ℕ → ℕ → Tree
drops at from = Node op.Release at at (one (leaf op.NameString from))

abbrev returns : ℕ → Tree
returns at = Node op.Return at at (one (leaf op.One 99))

abbrev four : Tree → Tree → Tree → Tree → Trees
four a b c d = more a (three b c d)

abbrev five : Tree → Tree → Tree → Tree → Tree → Trees
five a b c d e = more a (four b c d e)

abbrev taking : ℕ → Yield → Option ℕ → Verdict
taking n y least = Ok (record { args = []; result = y; bound = n; least = least })

-- the worked rows: all names are those of a mutex of level 3, but that at 67, which is of level 2
abbrev rows : ℕ → Link
rows at = if at == 67 then mutex 2 else mutex 3

abbrev row : List Kind → Trees → Verdict
row args body = holding_with rows known_here args body

taken_and_released : row [] (three (takes 50 52) (drops 58 60) (returns 64)) ≡ taking 4 (Always (IntUpTo 1)) (Some 3)
taken_and_released = refl

still_held : row [] (two (takes 50 52) (returns 58)) ≡ refused 58 cause.StillHeld
still_held = refl

lower_level : row [] (two (takes 57 59) (takes 65 67)) ≡ refused 65 cause.Level
lower_level = refl

never_taken : row [] (one (drops 50 52)) ≡ refused 50 cause.NotHeld
never_taken = refl

taken_by_one_way : row (IntUpTo 1 ∷ []) (two (Node op.If 50 61 (two (leaf op.Arg0 52) (takes 53 55))) (drops 61 63)) ≡ refused 50 cause.HeldDiffers
taken_by_one_way = refl

-- one of the same level may be taken, and one that is held
same_level : holding (four (takes 50 53) (takes 60 64) (drops 70 74) (drops 80 83)) ≡ taking 4 Never (Some 3)
same_level = refl

taken_twice : holding (four (takes 50 53) (takes 60 63) (drops 70 73) (drops 80 83)) ≡ taking 4 Never (Some 3)
taken_twice = refl

-- the least level is that of any Acquire
least_of_two : holding (four (takes 50 52) (takes 60 63) (drops 70 73) (drops 80 82)) ≡ taking 4 Never (Some 2)
least_of_two = refl

-- the last that was taken is released first
out_of_order : holding (three (takes 50 53) (takes 60 64) (drops 70 73)) ≡ refused 70 cause.NotHeld
out_of_order = refl

-- at the body's end this is told at the Method opcode, and before a bound that is too large
held_at_the_end : holding (one (takes 50 53)) ≡ refused 36 cause.StillHeld
held_at_the_end = refl

held_before_the_bound : holding (three (takes 50 53) stored_zero (Node op.While 60 70 (two (Node op.LLess 61 65 (two (leaf op.Local0 62) (leaf op.Ones 63))) (Node op.Increment 66 68 (one (leaf op.Local0 67)))))) ≡ refused 36 cause.StillHeld
held_before_the_bound = refl

-- a Return's operand comes first
operand_first : holding (two (takes 50 53) (Node op.Return 58 60 (one (leaf op.Local0 59)))) ≡ refused 59 cause.Unset
operand_first = refl

-- behind a Return nothing has to be released; what is taken there counts for the least level
taken_in_dead_code : holding (three (returns 50) (takes 60 63) (returns 70)) ≡ taking 5 (Always (IntUpTo 1)) (Some 3)
taken_in_dead_code = refl

level_in_dead_code : holding (three (returns 50) (takes 60 63) (takes 70 72)) ≡ refused 70 cause.Level
level_in_dead_code = refl

release_in_dead_code : holding (two (returns 50) (drops 60 63)) ≡ refused 60 cause.NotHeld
release_in_dead_code = refl

-- an If's ends: both hold the same, or one does not count
abbrev if_asked : ℕ → Trees → Trees → Tree
if_asked at block otherwise = Node op.If at at (more (leaf op.Arg0 at) (joined block (one (Node op.Else at at otherwise))))

both_take : asking (two (if_asked 50 (one (takes 60 63)) (one (takes 70 73))) (drops 80 83)) ≡ Ok (record { args = IntUpTo 1 ∷ []; result = Never; bound = 4; least = Some 3 })
both_take = refl

one_returns : asking (four (takes 40 43) (if_asked 50 (two (drops 60 63) (returns 65)) none) (drops 70 73) (returns 80)) ≡ Ok (record { args = IntUpTo 1 ∷ []; result = Always (IntUpTo 1); bound = 9; least = Some 3 })
one_returns = refl

-- a Return in a block holds nothing, whatever the other block holds
returned_held : asking (two (if_asked 50 (two (takes 60 63) (returns 65)) none) (returns 80)) ≡ refused 65 cause.StillHeld
returned_held = refl

-- and where none counts, what the first holds goes on
first_goes_on : asking (three (takes 40 43) (if_asked 50 (three (drops 60 63) (returns 65) (takes 70 73)) (two (drops 80 83) (returns 85))) (drops 90 93)) ≡ Ok (record { args = IntUpTo 1 ∷ []; result = Always (IntUpTo 1); bound = 8; least = Some 3 })
first_goes_on = refl

other_is_gone : asking (three (takes 40 43) (if_asked 50 (two (drops 60 63) (returns 65)) (three (drops 80 83) (returns 85) (takes 70 73))) (drops 90 93)) ≡ refused 90 cause.NotHeld
other_is_gone = refl

-- a loop's ends
abbrev rising_with : Tree → Tree
rising_with t = Node op.While 46 60 (three (Node op.LLess 48 52 (two (leaf op.Local0 49) (byte 4 50))) (Node op.Increment 52 54 (one (leaf op.Local0 53))) t)

turns_take : holding (two stored_zero (rising_with (takes 55 63))) ≡ refused 46 cause.HeldDiffers
turns_take = refl

continue_takes : holding (two stored_zero (Node op.While 46 60 (four (Node op.LLess 48 52 (two (leaf op.Local0 49) (byte 4 50))) (Node op.Increment 52 54 (one (leaf op.Local0 53))) (takes 55 63) (leaf op.Continue 65)))) ≡ refused 46 cause.HeldDiffers
continue_takes = refl

break_takes : holding (two stored_zero (Node op.While 46 60 (five (Node op.LLess 48 52 (two (leaf op.Local0 49) (byte 4 50))) (Node op.Increment 52 54 (one (leaf op.Local0 53))) (Node op.If 55 60 (three (leaf op.Local0 56) (takes 57 63) (leaf op.Break 65))) (leaf op.Noop 66) (leaf op.Noop 67)))) ≡ refused 46 cause.HeldDiffers
break_takes = refl

-- kinds are told before
kinds_first : holding (three stored_zero (Node op.Store 45 46 (two (leaf op.One 45) (leaf op.Local1 45))) (Node op.While 46 60 (four (Node op.LLess 48 52 (two (leaf op.Local0 49) (byte 4 50))) (Node op.Increment 52 54 (one (leaf op.Local0 53))) (Node op.Store 55 58 (two (leaf op.String 56) (leaf op.Local1 57))) (takes 58 63)))) ≡ refused 46 cause.WrongKind
kinds_first = refl

turns_take_and_release : holding (three stored_zero (Node op.While 46 60 (four (Node op.LLess 48 52 (two (leaf op.Local0 49) (byte 4 50))) (Node op.Increment 52 54 (one (leaf op.Local0 53))) (takes 55 63) (drops 65 73))) (returns 80)) ≡ taking 41 (Always (IntUpTo 1)) (Some 3)
turns_take_and_release = refl

once_takes : holding (two (Node op.While 43 48 (three (leaf op.One 45) (takes 46 53) (leaf op.Break 55))) (returns 60)) ≡ refused 43 cause.HeldDiffers
once_takes = refl

-- what a test takes is held behind it, and behind the loop
test_takes : holding (three (Node op.While 43 48 (two (takes 45 53) (leaf op.Break 55))) (drops 60 63) (returns 70)) ≡ taking 6 (Always (IntUpTo 1)) (Some 3)
test_takes = refl

-- the operand: V1, then V3, then the global lock at the operator's place, then the level
missing : holding (one (takes 50 60)) ≡ refused 60 cause.Unresolved
missing = refl

not_a_mutex : holding (one (takes 50 66)) ≡ refused 66 cause.WrongKind
not_a_mutex = refl

local_is_none : holding (one (acquired 50 (leaf op.Local0 53))) ≡ refused 53 cause.WrongKind
local_is_none = refl

global_lock : holding (one (takes 50 65)) ≡ refused 50 cause.OutsideProfile
global_lock = refl

debug_is_none : holding (one (acquired 50 (leaf op.Debug 53))) ≡ refused 53 cause.OutsideProfile
debug_is_none = refl

released_missing : holding (one (drops 50 60)) ≡ refused 60 cause.Unresolved
released_missing = refl

released_lock : holding (one (drops 50 65)) ≡ refused 50 cause.OutsideProfile
released_lock = refl

-- Acquire gives zero
gives_zero : holding (three (Node op.Store 43 60 (two (takes 44 53) (leaf op.Local0 55))) (drops 60 63) (Node op.Return 70 72 (one (leaf op.Local0 71)))) ≡ taking 6 (Always (IntUpTo 0)) (Some 3)
gives_zero = refl

-- a call, by the least level of its method
abbrev takes_least : ℕ → ℕ → Seen
takes_least l k = record { reaches = false; deep = false; accepted = Some (record { args = IntUpTo 3 ∷ []; result = Never; bound = 10; least = Some l }) }

abbrev calls : Op → ℕ → Verdict
calls argument l = holding_with named (takes_least l) [] (three (takes 50 53) (Node op.Invocation 60 70 (two (leaf op.NameString 100) (leaf argument 65))) (drops 70 73))

called_below : calls op.One 2 ≡ refused 100 cause.Level
called_below = refl

called_at : calls op.One 3 ≡ taking 14 Never (Some 3)
called_at = refl

arguments_first : calls op.Ones 2 ≡ refused 65 cause.WrongKind
arguments_first = refl

-- its least level is the caller's, too
called_alone : holding_with named (takes_least 2) [] (one (Node op.Invocation 60 70 (two (leaf op.NameString 100) (leaf op.One 65)))) ≡ taking 12 Never (Some 2)
called_alone = refl

called_in_dead_code : holding_with named (takes_least 2) [] (two (returns 50) (Node op.Invocation 60 70 (two (leaf op.NameString 100) (leaf op.One 65)))) ≡ taking 14 (Always (IntUpTo 1)) (Some 2)
called_in_dead_code = refl
