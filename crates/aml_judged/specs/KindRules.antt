-- The kinds of what operators give, by the kinds of their operands (ACPI 6.5, 19.6; the kinds
-- themselves are the project's own). Each rule asks its operands in the order of their evaluation,
-- and tells the first cause.
use Rattle.std.specs.Prelude.{ℕ, zero, suc, ◌+◌, ◌-◌, ◌*◌, ◌/◌, ◌%◌, ◌^◌, ◌==◌, ◌&&◌, max, min, nat_le, nat_lt, Bool, true, false, if◌then◌else◌, Option, Some, None, Result, Ok}
use Rattle.std.specs.Int.Count.{count_leading_zeros}
use Rattle.aml_kinds.specs.Kinds.{Kind, IntUpTo, BufOf, StrOf, PkgOf, AnyPkg, Shape, bare, with, places, ElementKind, ValueOf, AnyName, Anything}
use Rattle.aml_kinds.specs.Fits.{most_elements}
use Rattle.aml_kinds.specs.Joins.{join_elements}
use Rattle.aml_meaning.specs.declared.action.Arithmetic.{Arithmetic}
use Rattle.aml_meaning.specs.declared.action.Arithmetic.TheVariants as arithmetic
use Rattle.aml_meaning.specs.declared.action.Bitwise.{Bitwise}
use Rattle.aml_meaning.specs.declared.action.Bitwise.TheVariants as bitwise
use Rattle.aml_meaning.specs.declared.action.Comparison.{Comparison}
use Rattle.aml_meaning.specs.declared.action.Comparison.TheVariants as comparison
use Rattle.aml_meaning.specs.declared.action.Conversion.{Conversion}
use Rattle.aml_meaning.specs.declared.action.Conversion.TheVariants as conversion
use Rattle.aml_meaning.specs.Buffers.{most_bytes}
use Rattle.aml_meaning.specs.BufferFields.{first_bit}
use Rattle.aml_meaning.specs.declared.buffer_field.BufferField.{BufferField}
use Rattle.aml_meaning.specs.Rules.{Place}
use Rattle.aml_judged.specs.Causes as cause
use Rattle.aml_judged.specs.Causes.{Refusal}
use Rattle.aml_judged.specs.Known.{greatest}
use Rattle.aml_judged.specs.Judged.{refuses, then_rule}

-- a number, where it is an integer of the width; else the greatest integer
abbrev pub capped : ℕ → ℕ → ℕ
capped width n = if nat_le n (greatest width) then n else greatest width

-- as many ones as a number has bits: the least 2 ^ k - 1 that is at least the number
abbrev pub ones_over : ℕ → ℕ → ℕ
ones_over width n =
    if nat_le n (greatest width) then 2 ^ (64 - count_leading_zeros 64 n) - 1 else greatest width

-- the greatest of what two integers give, of which the second may be a literal with a number (19.6,
-- Add, Multiply, And, Or, XOr, ShiftLeft, ShiftRight, Mod); a difference, Nand and Nor may be any
-- integer
abbrev pub applied : ℕ → Arithmetic → ℕ → ℕ → Option ℕ → ℕ
applied width arithmetic.Add a b o = capped width (a + b)
applied width arithmetic.Multiply a b o = capped width (a * b)
applied width arithmetic.And a b o = min a b
applied width arithmetic.Or a b o = ones_over width (max a b)
applied width arithmetic.Xor a b o = ones_over width (max a b)
applied width arithmetic.ShiftLeft a b (Some c) = capped width (a * 2 ^ c)
applied width arithmetic.ShiftRight a b (Some c) = a / 2 ^ c
applied width arithmetic.ShiftRight a b None = a
applied width arithmetic.Mod a b (Some (suc c)) = min a c
applied width f a b o = greatest width

abbrev pub integer_kind : Place → Kind → Result ℕ Refusal
integer_kind p (IntUpTo a) = Ok a
integer_kind p k = refuses cause.WrongKind p

-- a divisor is a literal that is not zero
abbrev pub divisor_kind : Place → Option ℕ → ℕ → Result ℕ Refusal
divisor_kind p (Some (suc c)) a = Ok a
divisor_kind p o a = refuses cause.Divisor p

abbrev pub second_kind : Arithmetic → Place → Kind → Option ℕ → Result ℕ Refusal
second_kind arithmetic.Mod p k o = then_rule (integer_kind p k) (divisor_kind p o)
second_kind f p k o = integer_kind p k

abbrev pub combined_kind :
    ℕ → Arithmetic → Place → Kind → Place → Kind → Option ℕ → Result Kind Refusal
combined_kind width f p j q k o =
    then_rule (integer_kind p j) (λ a.
    then_rule (second_kind f q k o) (λ b. Ok (IntUpTo (applied width f a b o))))

-- the greatest of what one integer gives: of a bit that is found its number, counted from 1 (19.6,
-- Not, FindSetLeftBit, FindSetRightBit)
abbrev pub transformed_most : ℕ → Bitwise → ℕ
transformed_most width bitwise.Not = greatest width
transformed_most width bitwise.FindSetLeftBit = width
transformed_most width bitwise.FindSetRightBit = width

abbrev pub transformed_kind : ℕ → Bitwise → Place → Kind → Result Kind Refusal
transformed_kind width f p k =
    then_rule (integer_kind p k) (λ a. Ok (IntUpTo (transformed_most width f)))

-- what Divide gives (19.6, Divide)
pub record DivisionKinds : Type 0 where
  pub quotient : Kind
  pub remainder : Kind

abbrev pub quotient_most : ℕ → Option ℕ → ℕ
quotient_most a (Some (suc c)) = a / suc c
quotient_most a o = a

abbrev pub divided_kind : ℕ → Place → Kind → Place → Kind → Option ℕ → Result DivisionKinds Refusal
divided_kind width p j q k o =
    then_rule (integer_kind p j) (λ a.
    then_rule (second_kind arithmetic.Mod q k o) (λ b.
    Ok (record {
      quotient = IntUpTo (quotient_most a o);
      remainder = IntUpTo (applied width arithmetic.Mod a b o);
    })))

-- two of one kind are wanted: the first is wrong where no second could fit it, else the second is
abbrev pub equal_kind : Place → Kind → Place → Kind → Result (Unit {0}) Refusal
equal_kind p (IntUpTo a) q (IntUpTo b) = Ok tt
equal_kind p (BufOf a) q (BufOf b) = Ok tt
equal_kind p (StrOf a) q (StrOf b) = Ok tt
equal_kind p (IntUpTo a) q k = refuses cause.WrongKind q
equal_kind p (BufOf a) q k = refuses cause.WrongKind q
equal_kind p (StrOf a) q k = refuses cause.WrongKind q
equal_kind p j q k = refuses cause.WrongKind p

-- LEqual takes two of one kind, every other two integers (19.6, LAnd, LOr, LEqual, LGreater, LLess)
abbrev pub compared_kind : ℕ → Comparison → Place → Kind → Place → Kind → Result Kind Refusal
compared_kind width comparison.LEqual p j q k =
    then_rule (equal_kind p j q k) (λ u. Ok (IntUpTo (greatest width)))
compared_kind width f p j q k =
    then_rule (integer_kind p j) (λ a.
    then_rule (integer_kind q k) (λ b. Ok (IntUpTo (greatest width))))

abbrev pub negated_kind : ℕ → Place → Kind → Result Kind Refusal
negated_kind width p k = then_rule (integer_kind p k) (λ a. Ok (IntUpTo (greatest width)))

-- the greatest of what a buffer of so many bytes becomes (19.6, ToInteger): an integer has so many
-- of its bits, and an empty one none
abbrev pub buffer_most : ℕ → ℕ → ℕ
buffer_most width n = 2 ^ min (8 * n) width - 1

abbrev pub buffer_integer : ℕ → Place → ℕ → Result Kind Refusal
buffer_integer width op n =
    if n == 0 then refuses cause.Index op else Ok (IntUpTo (buffer_most width n))

-- with the operator's place and the operand's (19.6, ToBuffer, ToInteger)
abbrev pub converted_kind : ℕ → Conversion → Place → Place → Kind → Result Kind Refusal
converted_kind width conversion.ToBuffer op p (IntUpTo a) = Ok (BufOf (width / 8))
converted_kind width conversion.ToBuffer op p (BufOf n) = Ok (BufOf n)
converted_kind width conversion.ToInteger op p (IntUpTo a) = Ok (IntUpTo a)
converted_kind width conversion.ToInteger op p (BufOf n) = buffer_integer width op n
converted_kind width f op p k = refuses cause.WrongKind p

-- no more bytes than a buffer may have; more are outside the profile (own)
abbrev pub limited_kind : Place → ℕ → Kind → Result Kind Refusal
limited_kind op n k = if nat_le n most_bytes then Ok k else refuses cause.OutsideProfile op

-- two buffers or two strings (19.6, Concatenate)
abbrev pub concatenated_kind : Place → Place → Kind → Place → Kind → Result Kind Refusal
concatenated_kind op p (BufOf a) q (BufOf b) = limited_kind op (a + b) (BufOf (a + b))
concatenated_kind op p (StrOf a) q (StrOf b) = limited_kind op (a + b) (StrOf (a + b))
concatenated_kind op p (BufOf a) q k = refuses cause.WrongKind q
concatenated_kind op p (StrOf a) q k = refuses cause.WrongKind q
concatenated_kind op p j q k = refuses cause.WrongKind p

-- how large something is (19.6, SizeOf)
abbrev pub size_kind : ℕ → Place → Kind → Result Kind Refusal
size_kind width p (BufOf n) = Ok (IntUpTo (n % 2 ^ width))
size_kind width p (StrOf n) = Ok (IntUpTo (n % 2 ^ width))
size_kind width p (PkgOf s) = Ok (IntUpTo (places s % 2 ^ width))
size_kind width p AnyPkg = Ok (IntUpTo most_elements)
size_kind width p k = refuses cause.WrongKind p

-- `_OSI` wants a string (5.7.2)
abbrev pub interface_kind : ℕ → Place → Kind → Result Kind Refusal
interface_kind width p (StrOf n) = Ok (IntUpTo (greatest width))
interface_kind width p k = refuses cause.WrongKind p

-- what may be notified is wanted (19.6, Notify)
abbrev pub notice_kind : Place → Bool → Result (Unit {0}) Refusal
notice_kind p true = Ok tt
notice_kind p false = refuses cause.WrongKind p

-- the place of a shape with a number, and the join of all its places
abbrev pub place_numbered : Shape → ℕ → Option ElementKind
place_numbered bare i = None
place_numbered (with e es) zero = Some e
place_numbered (with e es) (suc i) = place_numbered es i

abbrev pub joined_with : ElementKind → Option ElementKind → ElementKind
joined_with e None = e
joined_with e (Some d) = join_elements e d

abbrev pub joined_places : Shape → Option ElementKind
joined_places bare = None
joined_places (with e es) = Some (joined_with e (joined_places es))

-- what stands at an index that may be a literal
abbrev pub place_led : Shape → Option ℕ → Option ElementKind
place_led s (Some i) = place_numbered s i
place_led s None = joined_places s

-- an element that may be unset cannot be read, nor can a name
abbrev pub element_read_kind : Place → Option ElementKind → Result Kind Refusal
element_read_kind op (Some (ValueOf k)) = Ok k
element_read_kind op (Some AnyName) = refuses cause.WrongKind op
element_read_kind op (Some Anything) = refuses cause.Unset op
element_read_kind op None = refuses cause.Index op

-- an index is below the length
abbrev pub inside : Place → ℕ → ℕ → Result Kind Refusal → Result Kind Refusal
inside op a n k = if nat_lt a n then k else refuses cause.Index op

-- what an Index leads to: a byte of a buffer or a string, or an element of a package (19.6,
-- DerefOf, Index)
abbrev pub led_kind : Place → Place → Kind → Place → Kind → Option ℕ → Result Kind Refusal
led_kind op p (BufOf n) q k o = then_rule (integer_kind q k) (λ a. inside op a n (Ok (IntUpTo 255)))
led_kind op p (StrOf n) q k o = then_rule (integer_kind q k) (λ a. inside op a n (Ok (IntUpTo 255)))
led_kind op p (PkgOf s) q k o =
    then_rule (integer_kind q k) (λ a.
    inside op a (places s) (element_read_kind op (place_led s o)))
led_kind op p AnyPkg q k o = then_rule (integer_kind q k) (λ a. refuses cause.Index op)
led_kind op p j q k o = refuses cause.WrongKind p

-- a byte of a buffer's name is written: the name's kind is asked first, then the index, whether it
-- lies inside, and last the integer, whose place as a target's is the Index (19.6, Index)
abbrev pub byte_written_kind :
    Place → Place → Option Kind → Place → Kind → Kind → Result (Unit {0}) Refusal
byte_written_kind op p (Some (BufOf n)) q k v =
    then_rule (integer_kind q k) (λ a.
    if nat_lt a n then then_rule (integer_kind op v) (λ b. Ok tt) else refuses cause.Index op)
byte_written_kind op p old q k v = refuses cause.WrongKind p

-- a field of so many bits: an integer where integers have as many, else a buffer (5.5.2.4; 19.6,
-- Field)
abbrev pub field_kind : ℕ → ℕ → Kind
field_kind width bits = if nat_le bits width then IntUpTo (2 ^ bits - 1) else BufOf ((bits + 7) / 8)

-- what a field of so many bits takes: integers, and a wide one a buffer of just its bytes (own)
abbrev pub given_kind : ℕ → Place → ℕ → Kind → Result (Unit {0}) Refusal
given_kind width p bits (IntUpTo a) = Ok tt
given_kind width p bits (BufOf n) =
    if nat_lt width bits && (n == (bits + 7) / 8) then Ok tt else refuses cause.WrongKind p
given_kind width p bits k = refuses cause.WrongKind p

-- a field of a buffer, by the kind of its source: it is a buffer's, and all its bits lie inside
-- (19.6, CreateField)
abbrev pub source_kind : Place → BufferField → Option Kind → Result (Unit {0}) Refusal
source_kind p f (Some (BufOf n)) =
    if nat_le (first_bit f + f.bits) (8 * n) then Ok tt else refuses cause.Index p
source_kind p f old = refuses cause.WrongKind p

abbrev pub buffer_field_stored_kind :
    ℕ → Place → BufferField → Option Kind → Kind → Result (Unit {0}) Refusal
buffer_field_stored_kind width p f old k =
    then_rule (source_kind p f old) (λ u. given_kind width p f.bits k)

-- whether what is of the first kind may be stored into a data name of the second; a package may not
abbrev pub may_replace : Kind → Kind → Bool
may_replace (IntUpTo a) (IntUpTo b) = nat_le a b
may_replace (BufOf n) (BufOf m) = n == m
may_replace (StrOf n) (StrOf m) = n == m
may_replace j k = false
