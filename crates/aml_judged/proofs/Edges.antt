-- Kind rules at their edges: the greatest operand that is still within and the least that is not, and each cause of a rule at its place.
use Rattle.std.proofs.Common.{ℕ, ◌≡◌, ◌-◌, ◌^◌, [], Some, None, Ok, refl, ◌∷◌}
use Rattle.std.specs.Prelude.{true, false}
use Rattle.aml_operators.specs.declared.op.Op.{Op}
use Rattle.aml_operators.specs.declared.op.Op.TheVariants as op
use Rattle.aml_operators.specs.Tree.{Tree, Node, more}
use Rattle.aml_namespace.specs.declared.link.Link.{Link}
use Rattle.aml_namespace.specs.declared.link.Link.TheVariants as link
use Rattle.aml_kinds.specs.Kinds.{Kind, IntUpTo, BufOf, StrOf, PkgOf, AnyPkg, bare, with, ValueOf, AnyName, Anything}
use Rattle.aml_meaning.specs.declared.action.Arithmetic.TheVariants as arithmetic
use Rattle.aml_meaning.specs.declared.action.Bitwise.TheVariants as bitwise
use Rattle.aml_meaning.specs.declared.action.Comparison.TheVariants as comparison
use Rattle.aml_meaning.specs.declared.action.Conversion.TheVariants as conversion
use Rattle.aml_meaning.specs.Rules.{Place}
use Rattle.aml_judged.specs.Causes as cause
use Rattle.aml_judged.specs.Judged.{Always, Never, refuses}
use Rattle.aml_judged.specs.KindRules.{source_kind, given_kind, field_kind, applied, transformed_kind, divided_kind, compared_kind, converted_kind, concatenated_kind, size_kind, interface_kind, led_kind, may_replace}
use Rattle.aml_judged.specs.Bodies.{judged_method, entry}
use Rattle.aml_judged.specs.Verdicts.{verdict_of, Verdict}
use Rattle.aml_judged.proofs.Examples.{verdict_owning, defined, here, known_here, late, one, two, three, leaf, byte, nothing, verdict, refused, returned_int}

-- the operator's place, and its operands'
abbrev at_op : Place
at_op = record { table = 0; at = 1 }

abbrev first : Place
first = record { table = 0; at = 2 }

abbrev then : Place
then = record { table = 0; at = 3 }

add_within : applied 64 arithmetic.Add (2 ^ 64 - 2) 1 None ≡ 2 ^ 64 - 1
add_within = refl

add_over : applied 32 arithmetic.Add (2 ^ 32 - 1) 1 None ≡ 2 ^ 32 - 1
add_over = refl

multiply_within : applied 32 arithmetic.Multiply 65535 65537 None ≡ 4294967295
multiply_within = refl

multiply_over : applied 32 arithmetic.Multiply 65536 65536 None ≡ 4294967295
multiply_over = refl

subtract_any : applied 32 arithmetic.Subtract 3 1 None ≡ 4294967295
subtract_any = refl

and_lesser : applied 64 arithmetic.And 255 15 None ≡ 15
and_lesser = refl

left_within : applied 32 arithmetic.ShiftLeft 255 24 (Some 24) ≡ 4278190080
left_within = refl

left_over : applied 32 arithmetic.ShiftLeft 256 24 (Some 24) ≡ 4294967295
left_over = refl

left_unknown : applied 32 arithmetic.ShiftLeft 1 1 None ≡ 4294967295
left_unknown = refl

right_known : applied 32 arithmetic.ShiftRight 256 4 (Some 4) ≡ 16
right_known = refl

right_unknown : applied 32 arithmetic.ShiftRight 256 4 None ≡ 256
right_unknown = refl

remainder_lesser : applied 64 arithmetic.Mod 3 15 (Some 15) ≡ 3
remainder_lesser = refl

find_left : transformed_kind 32 bitwise.FindSetLeftBit first (IntUpTo 5) ≡ Ok (IntUpTo 32)
find_left = refl

find_in_buffer : transformed_kind 32 bitwise.FindSetRightBit first (BufOf 5) ≡ refuses cause.WrongKind first
find_in_buffer = refl

division : divided_kind 64 first (IntUpTo 100) then (IntUpTo 7) (Some 7) ≡ Ok (record { quotient = IntUpTo 14; remainder = IntUpTo 6 })
division = refl

division_by_zero : divided_kind 64 first (IntUpTo 100) then (IntUpTo 0) (Some 0) ≡ refuses cause.Divisor then
division_by_zero = refl

division_by_local : divided_kind 64 first (IntUpTo 100) then (IntUpTo 7) None ≡ refuses cause.Divisor then
division_by_local = refl

-- a divisor that is no integer is of the wrong kind first
division_by_buffer : divided_kind 64 first (IntUpTo 100) then (BufOf 1) None ≡ refuses cause.WrongKind then
division_by_buffer = refl

-- two that must agree: the first, where no second could fit it
equal_strings : compared_kind 64 comparison.LEqual first (StrOf 1) then (StrOf 9) ≡ Ok (IntUpTo (2 ^ 64 - 1))
equal_strings = refl

equal_package : compared_kind 64 comparison.LEqual first AnyPkg then AnyPkg ≡ refuses cause.WrongKind first
equal_package = refl

equal_mixed : compared_kind 64 comparison.LEqual first (BufOf 1) then (StrOf 1) ≡ refuses cause.WrongKind then
equal_mixed = refl

less_strings : compared_kind 64 comparison.LLess first (IntUpTo 1) then (StrOf 1) ≡ refuses cause.WrongKind then
less_strings = refl

to_integer_short : converted_kind 64 conversion.ToInteger at_op first (BufOf 3) ≡ Ok (IntUpTo (2 ^ 24 - 1))
to_integer_short = refl

to_integer_long : converted_kind 32 conversion.ToInteger at_op first (BufOf 5) ≡ Ok (IntUpTo (2 ^ 32 - 1))
to_integer_long = refl

to_integer_empty : converted_kind 32 conversion.ToInteger at_op first (BufOf 0) ≡ refuses cause.Index at_op
to_integer_empty = refl

to_integer_text : converted_kind 32 conversion.ToInteger at_op first (StrOf 5) ≡ refuses cause.WrongKind first
to_integer_text = refl

to_buffer_integer : converted_kind 32 conversion.ToBuffer at_op first (IntUpTo 5) ≡ Ok (BufOf 4)
to_buffer_integer = refl

joined_within : concatenated_kind at_op first (BufOf 65535) then (BufOf 1) ≡ Ok (BufOf 65536)
joined_within = refl

joined_over : concatenated_kind at_op first (StrOf 65535) then (StrOf 2) ≡ refuses cause.OutsideProfile at_op
joined_over = refl

joined_integer : concatenated_kind at_op first (IntUpTo 1) then (BufOf 2) ≡ refuses cause.WrongKind first
joined_integer = refl

joined_unlike : concatenated_kind at_op first (BufOf 1) then (StrOf 2) ≡ refuses cause.WrongKind then
joined_unlike = refl

size_exact : size_kind 32 first (PkgOf (with AnyName (with Anything bare))) ≡ Ok (IntUpTo 2)
size_exact = refl

size_any : size_kind 32 first AnyPkg ≡ Ok (IntUpTo 65535)
size_any = refl

size_integer : size_kind 32 first (IntUpTo 1) ≡ refuses cause.WrongKind first
size_integer = refl

interface_integer : interface_kind 32 first (IntUpTo 1) ≡ refuses cause.WrongKind first
interface_integer = refl

byte_last : led_kind at_op first (BufOf 4) then (IntUpTo 3) None ≡ Ok (IntUpTo 255)
byte_last = refl

byte_past : led_kind at_op first (BufOf 4) then (IntUpTo 4) None ≡ refuses cause.Index at_op
byte_past = refl

byte_by_text : led_kind at_op first (StrOf 4) then (StrOf 1) None ≡ refuses cause.WrongKind then
byte_by_text = refl

byte_of_integer : led_kind at_op first (IntUpTo 4) then (IntUpTo 1) None ≡ refuses cause.WrongKind first
byte_of_integer = refl

-- an element by a literal index has its own kind, else the join of all
abbrev pair : Kind
pair = PkgOf (with (ValueOf (IntUpTo 3)) (with (ValueOf (IntUpTo 9)) bare))

element_literal : led_kind at_op first pair then (IntUpTo 0) (Some 0) ≡ Ok (IntUpTo 3)
element_literal = refl

element_joined : led_kind at_op first pair then (IntUpTo 1) None ≡ Ok (IntUpTo 9)
element_joined = refl

element_past : led_kind at_op first pair then (IntUpTo 2) (Some 2) ≡ refuses cause.Index at_op
element_past = refl

element_name : led_kind at_op first (PkgOf (with AnyName bare)) then (IntUpTo 0) (Some 0) ≡ refuses cause.WrongKind at_op
element_name = refl

element_unset : led_kind at_op first (PkgOf (with Anything bare)) then (IntUpTo 0) (Some 0) ≡ refuses cause.Unset at_op
element_unset = refl

element_unknown : led_kind at_op first AnyPkg then (IntUpTo 0) (Some 0) ≡ refuses cause.Index at_op
element_unknown = refl

replaced_within : may_replace (IntUpTo 3) (IntUpTo 3) ≡ true
replaced_within = refl

replaced_over : may_replace (IntUpTo 4) (IntUpTo 3) ≡ false
replaced_over = refl

replaced_package : may_replace AnyPkg AnyPkg ≡ false
replaced_package = refl

-- bodies: what is evaluated, and where a cause stands
returns_buffer : verdict [] (one (Node op.Return 43 45 (one (leaf op.String 44)))) ≡ returned_int 2 (Always (BufOf 2))
returns_buffer = refl

debug_stored : verdict [] (one (Node op.Store 43 46 (two (leaf op.One 44) (leaf op.Debug 45)))) ≡ returned_int 3 Never
debug_stored = refl

sleeps : verdict [] (one (Node op.Sleep 43 46 (one (leaf op.One 45)))) ≡ returned_int 3 Never
sleeps = refl

stalls_text : verdict [] (one (Node op.Stall 43 46 (one (leaf op.String 45)))) ≡ refused 45 cause.WrongKind
stalls_text = refl

notifies_nothing : verdict [] (one (Node op.Notify 43 47 (two (leaf op.NameString 44) (leaf op.Local0 46)))) ≡ refused 44 cause.Unresolved
notifies_nothing = refl

-- the value's causes come before the wrong kind of what is notified
notifies_local : verdict [] (one (Node op.Notify 43 47 (two (leaf op.Local1 44) (leaf op.Local0 46)))) ≡ refused 46 cause.Unset
notifies_local = refl

notifies_local_then : verdict [] (one (Node op.Notify 43 47 (two (leaf op.Local1 44) (leaf op.One 46)))) ≡ refused 44 cause.WrongKind
notifies_local_then = refl

size_of_unset : verdict [] (one (Node op.Return 43 46 (one (Node op.SizeOf 44 46 (one (leaf op.Local0 45)))))) ≡ refused 45 cause.Unset
size_of_unset = refl

size_of_debug : verdict [] (one (Node op.Return 43 46 (one (Node op.SizeOf 44 46 (one (leaf op.Debug 45)))))) ≡ refused 45 cause.OutsideProfile
size_of_debug = refl

referred : verdict [] (one (Node op.Return 43 47 (one (Node op.CondRefOf 44 47 (two (leaf op.NameString 45) (nothing 46)))))) ≡ returned_int 2 (Always (IntUpTo (2 ^ 64 - 1)))
referred = refl

referred_into : verdict [] (one (Node op.Return 43 47 (one (Node op.CondRefOf 44 47 (two (leaf op.NameString 45) (leaf op.Local0 46)))))) ≡ refused 44 cause.OutsideProfile
referred_into = refl

-- DerefOf of an Index costs 2 + x + i; of anything else it is outside, at the DerefOf
led : verdict [] (one (Node op.Return 43 50 (one (Node op.DerefOf 44 50 (one (Node op.Index 45 50 (three (leaf op.String 46) (leaf op.One 47) (nothing 48)))))))) ≡ returned_int 5 (Always (IntUpTo 255))
led = refl

led_past : verdict [] (one (Node op.Return 43 50 (one (Node op.DerefOf 44 50 (one (Node op.Index 45 50 (three (leaf op.String 46) (byte 2 47) (nothing 48)))))))) ≡ refused 45 cause.Index
led_past = refl

led_into : verdict [] (one (Node op.Return 43 50 (one (Node op.DerefOf 44 50 (one (Node op.Index 45 50 (three (leaf op.Local0 46) (leaf op.One 47) (leaf op.Local1 48)))))))) ≡ refused 45 cause.OutsideProfile
led_into = refl

led_other : verdict [] (one (Node op.Return 43 50 (one (Node op.DerefOf 44 50 (one (leaf op.Local0 45)))))) ≡ refused 44 cause.OutsideProfile
led_other = refl

-- Divide costs 1 + its operands + its targets, and stores the remainder first
divides : verdict [] (two (Node op.Divide 43 49 (more (byte 100 44) (three (byte 7 46) (leaf op.Local0 47) (leaf op.Local1 48)))) (Node op.Return 50 52 (one (leaf op.Local0 51)))) ≡ returned_int 7 (Always (IntUpTo 6))
divides = refl

-- of an argument as of a local: below 4 in the block
narrowed_argument : verdict (IntUpTo 100 ∷ []) (two (Node op.If 43 60 (two (Node op.LLess 44 48 (two (leaf op.Arg0 45) (byte 4 46))) (Node op.Return 49 51 (one (leaf op.Arg0 50))))) (Node op.Return 54 56 (one (leaf op.One 55)))) ≡ Ok (record { args = IntUpTo 100 ∷ []; result = Always (IntUpTo 3); bound = 8; least = None })
narrowed_argument = refl

-- a field that cannot be read and written is told at its use, at its name
abbrev field_there : ℕ → Link
field_there at = link.Field (record { 0 = 0 })

region_refused : verdict_of true late [] (judged_method (here field_there known_here) 36 (one (Node op.Return 43 45 (one (leaf op.NameString 44)))) (entry [])) ≡ refused 44 cause.Region
region_refused = refl

-- it is told before the kind of what is stored
region_stored : verdict_of true late [] (judged_method (here field_there known_here) 36 (one (Node op.Store 43 48 (two (leaf op.String 44) (leaf op.NameString 46)))) (entry [])) ≡ refused 46 cause.Region
region_stored = refl

-- and nothing of SizeOf, which it is the wrong kind for
region_sized : verdict_of true late [] (judged_method (here field_there known_here) 36 (one (Node op.Return 43 48 (one (Node op.SizeOf 44 48 (one (leaf op.NameString 46)))))) (entry [])) ≡ refused 46 cause.WrongKind
region_sized = refl

-- a written Index of an own buffer of two bytes costs 1 + its index
abbrev indexing : Op → Tree → Verdict
indexing what index = verdict_owning (two (defined 43 (leaf op.Buffer 44)) (Node op.Store 45 60 (two (leaf what 46) (Node op.Index 47 60 (three (leaf op.NameString 51) index (nothing 54))))))

index_last : indexing op.Ones (leaf op.One 52) ≡ returned_int 6 Never
index_last = refl

index_past : indexing op.Ones (byte 2 52) ≡ refused 47 cause.Index
index_past = refl

-- V3 of what is stored comes last, at the Index; the causes of the index come before
index_stored : indexing op.String (leaf op.One 52) ≡ refused 47 cause.WrongKind
index_stored = refl

index_first : indexing op.String (leaf op.Local0 52) ≡ refused 52 cause.Unset
index_first = refl

index_unlike : indexing op.String (leaf op.String 52) ≡ refused 52 cause.WrongKind
index_unlike = refl

-- a field of a buffer: its source is no buffer's name, or it lies outside, told at its name
source_unlike : source_kind first (record { source = link.Missing; byte = 0; bit = 0; bits = 8 }) None ≡ refuses cause.WrongKind first
source_unlike = refl

source_last : source_kind first (record { source = link.Missing; byte = 1; bit = 0; bits = 8 }) (Some (BufOf 2)) ≡ Ok tt
source_last = refl

source_past : source_kind first (record { source = link.Missing; byte = 1; bit = 1; bits = 8 }) (Some (BufOf 2)) ≡ refuses cause.Index first
source_past = refl

-- a wide field takes a buffer of just its bytes, any field an integer
wide_taken : given_kind 32 first 40 (BufOf 5) ≡ Ok tt
wide_taken = refl

wide_unlike : given_kind 32 first 40 (BufOf 4) ≡ refuses cause.WrongKind first
wide_unlike = refl

field_narrow : field_kind 32 32 ≡ IntUpTo (2 ^ 32 - 1)
field_narrow = refl

field_wide : field_kind 32 33 ≡ BufOf 5
field_wide = refl
