-- An accepted body for each operator, with what it gives and what it costs.
use Rattle.std.proofs.Common.{◌≡◌, ℕ, ◌^◌, ◌-◌, true, List, [], ◌∷◌, Some, None, Ok, refl, sym, ap, arith}
use Rattle.aml_operators.specs.declared.op.Op.{Op}
use Rattle.aml_operators.specs.declared.op.Op.TheVariants as op
use Rattle.aml_operators.specs.Tree.{Tree, Trees, Node}
use Rattle.aml_namespace.specs.declared.link.Link.TheVariants as link
use Rattle.aml_objects.specs.declared.object.Object.TheVariants as object
use Rattle.aml_kinds.specs.Kinds.{Kind, IntUpTo, BufOf, Mixed}
use Rattle.aml_values.specs.Values.{Str}
use Rattle.aml_judged.specs.Causes as cause
use Rattle.aml_judged.specs.Judged.{Yield, Always, Never}
use Rattle.aml_judged.specs.Bodies.{judged_method, entry}
use Rattle.aml_judged.specs.Verdicts.{verdict_of, Verdict}
use Rattle.aml_judged.proofs.Examples.{here, known_here, late, no_link, one, two, three, leaf, byte, nothing, refused}
use Rattle.std.specs.Int.Count.{count_leading_zeros, leading_unique}

-- the arguments are an integer up to 5, one up to 9, and two buffers of 2 bytes
abbrev args : List Kind
args = IntUpTo 5 ∷ IntUpTo 9 ∷ BufOf 2 ∷ BufOf 2 ∷ []

abbrev any : Kind
any = IntUpTo (2 ^ 64 - 1)

abbrev verdict : Trees → Verdict
verdict body = verdict_of true late args (judged_method (here no_link known_here) 36 body (entry args))

abbrev accepted : ℕ → Yield → Verdict
accepted n y = Ok (record { args = args; result = y; bound = n; least = None })

abbrev returned : Tree → Verdict
returned t = verdict (one (Node op.Return 43 60 (one t)))

-- of the first two arguments, of the first and a literal, of the first alone, and without a target
abbrev of_two : Op → Verdict
of_two o = returned (Node o 44 50 (three (leaf op.Arg0 45) (leaf op.Arg1 46) (nothing 47)))

abbrev by_three : Op → Verdict
by_three o = returned (Node o 44 50 (three (leaf op.Arg0 45) (byte 3 46) (nothing 48)))

abbrev of_one : Op → Verdict
of_one o = returned (Node o 44 50 (two (leaf op.Arg0 45) (nothing 47)))

abbrev compares : Op → Verdict
compares o = returned (Node o 44 50 (two (leaf op.Arg0 45) (leaf op.Arg1 46)))

adds : of_two op.Add ≡ accepted 4 (Always (IntUpTo 14))
adds = refl

subtracts : of_two op.Subtract ≡ accepted 4 (Always any)
subtracts = refl

multiplies : of_two op.Multiply ≡ accepted 4 (Always (IntUpTo 45))
multiplies = refl

ands : of_two op.And ≡ accepted 4 (Always (IntUpTo 5))
ands = refl

nands : of_two op.Nand ≡ accepted 4 (Always any)
nands = refl

-- the least number of ones that is at least 9
abbrev ones : ℕ
ones = 2 ^ (64 - count_leading_zeros 64 9) - 1

ones_are : ones ≡ 15
ones_are = ap (λ n. 2 ^ (64 - n) - 1) (sym (leading_unique 64 9 60 4 refl (omega arith) (omega arith)))

ors : of_two op.Or ≡ accepted 4 (Always (IntUpTo ones))
ors = refl

nors : of_two op.Nor ≡ accepted 4 (Always any)
nors = refl

xors : of_two op.Xor ≡ accepted 4 (Always (IntUpTo ones))
xors = refl

shifts_left_unknown : of_two op.ShiftLeft ≡ accepted 4 (Always any)
shifts_left_unknown = refl

shifts_right_unknown : of_two op.ShiftRight ≡ accepted 4 (Always (IntUpTo 5))
shifts_right_unknown = refl

shifts_left : by_three op.ShiftLeft ≡ accepted 4 (Always (IntUpTo 40))
shifts_left = refl

shifts_right : by_three op.ShiftRight ≡ accepted 4 (Always (IntUpTo 0))
shifts_right = refl

takes_rest : by_three op.Mod ≡ accepted 4 (Always (IntUpTo 2))
takes_rest = refl

flips : of_one op.Not ≡ accepted 3 (Always any)
flips = refl

finds_left : of_one op.FindSetLeftBit ≡ accepted 3 (Always (IntUpTo 64))
finds_left = refl

finds_right : of_one op.FindSetRightBit ≡ accepted 3 (Always (IntUpTo 64))
finds_right = refl

keeps_integer : of_one op.ToInteger ≡ accepted 3 (Always (IntUpTo 5))
keeps_integer = refl

makes_buffer : of_one op.ToBuffer ≡ accepted 3 (Always (BufOf 8))
makes_buffer = refl

and_holds : compares op.LAnd ≡ accepted 4 (Always any)
and_holds = refl

or_holds : compares op.LOr ≡ accepted 4 (Always any)
or_holds = refl

is_equal : compares op.LEqual ≡ accepted 4 (Always any)
is_equal = refl

is_greater : compares op.LGreater ≡ accepted 4 (Always any)
is_greater = refl

is_less : compares op.LLess ≡ accepted 4 (Always any)
is_less = refl

is_not : returned (Node op.LNot 44 46 (one (leaf op.Arg0 45))) ≡ accepted 3 (Always any)
is_not = refl

makes_integer : returned (Node op.ToInteger 44 50 (two (leaf op.Arg2 45) (nothing 47))) ≡ accepted 3 (Always (IntUpTo 65535))
makes_integer = refl

joins : returned (Node op.Concatenate 44 50 (three (leaf op.Arg2 45) (leaf op.Arg3 46) (nothing 47))) ≡ accepted 4 (Always (BufOf 4))
joins = refl

-- SizeOf takes one step with what it measures
measures : returned (Node op.SizeOf 44 50 (one (leaf op.Arg2 45))) ≡ accepted 2 (Always (IntUpTo 2))
measures = refl

-- Increment and Decrement read and store
rises : verdict (one (Node op.Increment 43 45 (one (leaf op.Arg0 44)))) ≡ accepted 3 Never
rises = refl

falls : returned (Node op.Decrement 44 46 (one (leaf op.Arg0 45))) ≡ accepted 4 (Always any)
falls = refl

stops_here : verdict (two (leaf op.BreakPoint 43) (leaf op.Noop 44)) ≡ accepted 2 Never
stops_here = refl

stalls : verdict (one (Node op.Stall 43 46 (one (leaf op.Arg0 45)))) ≡ accepted 3 Never
stalls = refl

-- a device, told of an integer
abbrev notifying : Verdict
notifying = verdict_of true late args (judged_method (record (here (λ at. link.Object (record { 0 = 0 })) known_here) { object = λ k. Some object.Device }) 36 (one (Node op.Notify 43 48 (two (leaf op.NameString 44) (leaf op.Arg0 47)))) (entry args))

notifies : notifying ≡ accepted 3 Never
notifies = refl

-- `_OSI` of a string, and of an integer
abbrev asked : Tree → Verdict
asked t = verdict_of true late args (judged_method (record (here (λ at. link.OsInterfaces) known_here) { literal = λ o ts. Str (87 ∷ []) }) 36 (one (Node op.Return 43 60 (one (Node op.Invocation 44 60 (two (leaf op.NameString 44) t))))) (entry args))

asks : asked (leaf op.String 48) ≡ accepted 3 (Always any)
asks = refl

asks_integer : asked (leaf op.Arg0 48) ≡ refused 48 cause.WrongKind
asks_integer = refl

-- what is of any kind may be stored into a local, an argument, Debug and nothing, and returned, and is no operand
abbrev mixed : Trees → Verdict
mixed body = verdict_of true late (Mixed ∷ []) (judged_method (here no_link known_here) 36 body (entry (Mixed ∷ [])))

mixed_stored : mixed (three (Node op.Store 43 46 (two (leaf op.Arg0 44) (leaf op.Local0 45))) (Node op.Store 46 49 (two (leaf op.Local0 47) (leaf op.Debug 48))) (Node op.Return 49 51 (one (leaf op.Local0 50)))) ≡ Ok (record { args = Mixed ∷ []; result = Always Mixed; bound = 8; least = None })
mixed_stored = refl

mixed_added : mixed (one (Node op.Add 43 47 (three (leaf op.Arg0 44) (leaf op.One 45) (nothing 46)))) ≡ refused 44 cause.WrongKind
mixed_added = refl

mixed_measured : mixed (one (Node op.SizeOf 43 45 (one (leaf op.Arg0 44)))) ≡ refused 44 cause.WrongKind
mixed_measured = refl
