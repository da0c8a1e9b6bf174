-- Bodies that make fields of buffers, and use their own names, judged.
use Rattle.std.proofs.Common.{◌≡◌, ℕ, ◌+◌, ◌*◌, ◌^◌, ◌-◌, [], refl}
use Rattle.std.specs.Prelude.{true, false, nat_le, if◌then◌else◌}
use Rattle.aml_operators.specs.declared.op.Op.TheVariants as op
use Rattle.aml_operators.specs.Tree.{Tree, Trees, Node, none, more}
use Rattle.aml_namespace.specs.declared.link.Link.{Link}
use Rattle.aml_namespace.specs.declared.link.Link.TheVariants as link
use Rattle.aml_kinds.specs.Kinds.{IntUpTo}
use Rattle.aml_judged.specs.Causes as cause
use Rattle.aml_judged.specs.Judged.{Always, Never}
use Rattle.aml_judged.specs.Bodies.{judged_method, entry}
use Rattle.aml_judged.specs.Verdicts.{verdict_of, Verdict}
use Rattle.aml_judged.proofs.Examples.{here, known_here, late, one, two, three, leaf, byte, nothing, refused, returned_int, defined, stored_zero}

-- names from 70 on are the second own name of the body, those from 50 to 69 the first, and the others are not there
abbrev owned : ℕ → Link
owned at = if nat_le 70 at then link.Own 1 else (if nat_le 50 at then link.Own 0 else link.Missing)

abbrev owning : Trees → Verdict
owning body = verdict_of true late [] (judged_method (here owned known_here) 36 body (entry []))

abbrev four : Tree → Tree → Tree → Tree → Trees
four a b c d = more a (three b c d)

-- a buffer of two bytes, or an integer
abbrev buffer : Tree
buffer = defined 43 (leaf op.Buffer 44)

abbrev integer : Tree
integer = defined 43 (byte 5 44)

-- CreateByteField (the first own name, a literal, a further name)
abbrev byte_field : ℕ → Tree
byte_field index = Node op.CreateByteField 45 49 (three (leaf op.NameString 51) (byte index 46) (leaf op.NameString 48))

-- CreateField (the first own name, 0, a literal, a further name)
abbrev bit_field : ℕ → Tree
bit_field bits = Node op.CreateField 45 49 (four (leaf op.NameString 51) (leaf op.Zero 46) (byte bits 47) (leaf op.NameString 48))

abbrev stored : Tree → Tree
stored what = Node op.Store 60 80 (two what (leaf op.NameString 71))

abbrev returned : Tree
returned = Node op.Return 60 80 (one (leaf op.NameString 71))

last_byte_stored : owning (three buffer (byte_field 1) (stored (leaf op.Ones 61))) ≡ returned_int 6 Never
last_byte_stored = refl

last_byte_read : owning (three buffer (byte_field 1) returned) ≡ returned_int 5 (Always (IntUpTo 255))
last_byte_read = refl

-- it lies outside its buffer: that is told at its use, at its name
past_stored : owning (three buffer (byte_field 2) (stored (leaf op.Ones 61))) ≡ refused 71 cause.Index
past_stored = refl

past_read : owning (three buffer (byte_field 2) returned) ≡ refused 71 cause.Index
past_read = refl

past_unused : owning (two buffer (byte_field 2)) ≡ returned_int 3 Never
past_unused = refl

-- all bits of the buffer, and one more
all_bits : owning (three buffer (bit_field 16) returned) ≡ returned_int 5 (Always (IntUpTo 65535))
all_bits = refl

one_bit_more : owning (three buffer (bit_field 17) returned) ≡ refused 71 cause.Index
one_bit_more = refl

-- a field without bits comes first, then a source that is no buffer, then where it lies, and last what is stored
no_bits : owning (three integer (bit_field 0) (stored (leaf op.Local0 61))) ≡ refused 61 cause.Unset
no_bits = refl

no_bits_then : owning (three integer (bit_field 0) (stored (leaf op.String 61))) ≡ refused 71 cause.Region
no_bits_then = refl

no_bits_read : owning (three integer (bit_field 0) returned) ≡ refused 71 cause.Region
no_bits_read = refl

-- a field of at most 2,048 bits may be used
many_bits : owning (three buffer (Node op.CreateField 45 49 (four (leaf op.NameString 51) (leaf op.Zero 46) (Node op.WordConst 47 47 (one (Node (op.Number 2049) 47 47 none))) (leaf op.NameString 48))) returned) ≡ refused 71 cause.Region
many_bits = refl

no_buffer_read : owning (three integer (bit_field 17) returned) ≡ refused 71 cause.WrongKind
no_buffer_read = refl

no_buffer : owning (three integer (bit_field 17) (stored (leaf op.String 61))) ≡ refused 71 cause.WrongKind
no_buffer = refl

outside_then : owning (three buffer (bit_field 17) (stored (leaf op.String 61))) ≡ refused 71 cause.Index
outside_then = refl

text_stored : owning (three buffer (bit_field 16) (stored (leaf op.String 61))) ≡ refused 71 cause.WrongKind
text_stored = refl

-- SizeOf of a field, and an Index of it that is written
field_sized : owning (three buffer (byte_field 1) (Node op.Return 60 80 (one (Node op.SizeOf 61 72 (one (leaf op.NameString 71)))))) ≡ refused 71 cause.WrongKind
field_sized = refl

field_indexed : owning (three buffer (byte_field 1) (Node op.Store 60 80 (two (leaf op.One 61) (Node op.Index 62 79 (three (leaf op.NameString 71) (leaf op.Zero 75) (nothing 76)))))) ≡ refused 71 cause.WrongKind
field_indexed = refl

-- the place of a definition is asked first, and then its parts: an index that is no literal, a source that is no name, that is not there, and that is a field
abbrev field_of : Tree → Tree → ℕ → Tree
field_of source index name = Node op.CreateByteField 45 49 (three source index (leaf op.NameString name))

index_computed : owning (two buffer (field_of (leaf op.NameString 51) (leaf op.Local0 46) 48)) ≡ refused 45 cause.OutsideProfile
index_computed = refl

source_local : owning (two buffer (field_of (leaf op.Local0 51) (leaf op.Zero 46) 48)) ≡ refused 45 cause.OutsideProfile
source_local = refl

source_missing : owning (two buffer (field_of (leaf op.NameString 47) (leaf op.Zero 46) 48)) ≡ refused 45 cause.OutsideProfile
source_missing = refl

source_field : owning (three buffer (byte_field 1) (Node op.CreateByteField 90 99 (three (leaf op.NameString 71) (leaf op.Zero 91) (leaf op.NameString 48)))) ≡ refused 90 cause.OutsideProfile
source_field = refl

made_twice : owning (two buffer (field_of (leaf op.Local0 51) (leaf op.Local0 46) 52)) ≡ refused 45 cause.LocalName
made_twice = refl

-- a name with a prefix, or of more segments
abbrev prefixed : Trees → Verdict
prefixed body = verdict_of true late [] (judged_method (record (here owned known_here) { lone = λ at. false }) 36 body (entry []))

name_prefixed : prefixed (one integer) ≡ refused 43 cause.LocalName
name_prefixed = refl

field_prefixed : prefixed (one (field_of (leaf op.Local0 51) (leaf op.Local0 46) 48)) ≡ refused 45 cause.LocalName
field_prefixed = refl

-- a definition below the top of a body, whatever its parts
abbrev within_an_if : Tree → Trees
within_an_if t = one (Node op.If 40 49 (two (leaf op.One 42) t))

name_below : owning (within_an_if (defined 43 (byte 5 44))) ≡ refused 43 cause.LocalName
name_below = refl

field_below : owning (within_an_if (field_of (leaf op.Local0 51) (leaf op.Local0 46) 48)) ≡ refused 45 cause.LocalName
field_below = refl

-- own names in a loop that is counted keep their kinds
abbrev counted : Tree → Tree
counted t = Node op.While 54 69 (three (Node op.LLess 55 58 (two (leaf op.Local0 56) (byte 4 57))) t (Node op.Increment 66 68 (one (leaf op.Local0 67))))

own_in_a_loop : owning (four integer stored_zero (counted (Node op.Store 59 64 (two (leaf op.Local0 60) (leaf op.NameString 61)))) (Node op.Return 80 82 (one (leaf op.NameString 61)))) ≡ returned_int (2 + 3 + (1 + 5 * 3 + 4 * (3 + 3)) + 2) (Always (IntUpTo (2 ^ 64 - 1)))
own_in_a_loop = refl

own_unlike_in_a_loop : owning (three integer stored_zero (counted (Node op.Store 59 64 (two (leaf op.String 60) (leaf op.NameString 61))))) ≡ refused 61 cause.WrongKind
own_unlike_in_a_loop = refl

field_in_a_loop : owning (four buffer (byte_field 0) stored_zero (counted (Node op.Store 59 64 (two (leaf op.Local0 60) (leaf op.NameString 71))))) ≡ returned_int (2 + 1 + 3 + (1 + 5 * 3 + 4 * (3 + 3))) Never
field_in_a_loop = refl
