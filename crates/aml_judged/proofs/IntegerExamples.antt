-- Which bodies evaluate integers alone.
use Rattle.std.proofs.Common.{◌≡◌, ℕ, [], ◌∷◌, Option, Some, None, refl}
use Rattle.std.specs.Prelude.{Bool, true, false, ◌==◌, if◌then◌else◌}
use Rattle.aml_operators.specs.declared.op.Op.TheVariants as op
use Rattle.aml_operators.specs.Tree.{Trees, Node, none}
use Rattle.aml_namespace.specs.declared.link.Link.{Link}
use Rattle.aml_namespace.specs.declared.link.Link.TheVariants as link
use Rattle.aml_values.specs.Values.{Value, Int, Str}
use Rattle.aml_kinds.specs.Kinds.{IntUpTo, BufOf}
use Rattle.aml_contents.specs.Contents.{ContentKinds}
use Rattle.aml_regions.specs.declared.field.AnyField.{AnyField}
use Rattle.aml_regions.specs.declared.field.AnyField.TheVariants.{Plain}
use Rattle.aml_regions.specs.declared.field.OtherBits.TheVariants as others
use Rattle.aml_regions.specs.declared.field.UnitWidth.TheVariants as unit
use Rattle.aml_meaning.specs.Definitions.{mean_body}
use Rattle.aml_meaning.specs.Parts.{M, ◌>>=◌, give, stop_with, tick, paid, get_arg, set_local}
use Rattle.aml_meaning.specs.Mutexes.{acquire, release}
use Rattle.aml_meaning.specs.State.{Goes, State, entered}
use Rattle.aml_meaning.specs.Whole.{before}
use Rattle.aml_meaning.specs.Within.{Callee, Methods, setting_for}
use Rattle.aml_judged.specs.Integers.{integers_in}
use Rattle.aml_judged.proofs.Examples.{one, two, three, leaf, byte, nothing, defined, stored_zero, rising}

-- field 0 has 8 bits, and field 1 has 65
abbrev field : ℕ → Option AnyField
field k = Some (Plain (record { space = 1; place = 96; length = 16; layout = record { at = 0; bits = if k == 0 then 8 else 65; width = unit.Byte; others = others.Zeros } }))

abbrev methods : Methods
methods = record { width = 64; object = λ k. None; field = field; buffer_field = λ k. None; callee = λ k. None; is_interface = λ text. false }

-- name 0 holds integers, and name 1 buffers
abbrev kinds : ContentKinds
kinds = Some (IntUpTo 255) ∷ Some (BufOf 2) ∷ []

-- all names of a body are one
abbrev naming : Link → Callee
naming l = record { table = 0; opcode = 36; link = λ at. l; lone = λ at. true; literal = λ o ts. Int 0; body = none }

-- method 1 is integer-only, and no other is
abbrev are_integers : Link → Trees → Bool
are_integers l body = integers_in methods (naming l) kinds (λ k. k == 1) body

abbrev data_name : ℕ → Link
data_name k = link.Data (record { 0 = k })

abbrev returned : Trees
returned = one (Node op.Return 43 48 (one (leaf op.NameString 44)))

counts : are_integers link.Missing (two stored_zero rising) ≡ true
counts = refl

reads_integer : are_integers (data_name 0) returned ≡ true
reads_integer = refl

reads_buffer : are_integers (data_name 1) returned ≡ false
reads_buffer = refl

reads_narrow : are_integers (link.Field (record { 0 = 0 })) returned ≡ true
reads_narrow = refl

reads_wide : are_integers (link.Field (record { 0 = 1 })) returned ≡ false
reads_wide = refl

-- an integer that is stored into a wide field
writes_wide : are_integers (link.Field (record { 0 = 1 })) (one (Node op.Store 43 48 (two (leaf op.One 44) (leaf op.NameString 45)))) ≡ false
writes_wide = refl

calls_such : are_integers (link.Method (record { 0 = 1 })) (one (Node op.Invocation 43 48 (two (leaf op.NameString 44) (leaf op.One 47)))) ≡ true
calls_such = refl

calls_other : are_integers (link.Method (record { 0 = 2 })) (one (Node op.Invocation 43 48 (two (leaf op.NameString 44) (leaf op.One 47)))) ≡ false
calls_other = refl

-- SizeOf and CondRefOf of a buffer's name, a written Index of it
sizes : are_integers (data_name 1) (one (Node op.Return 43 48 (one (Node op.SizeOf 44 48 (one (leaf op.NameString 45)))))) ≡ false
sizes = refl

refers_to_buffer : are_integers (data_name 1) (one (Node op.Return 43 48 (one (Node op.CondRefOf 44 48 (two (leaf op.NameString 45) (nothing 46)))))) ≡ false
refers_to_buffer = refl

refers_to_integer : are_integers (data_name 0) (one (Node op.Return 43 48 (one (Node op.CondRefOf 44 48 (two (leaf op.NameString 45) (nothing 46)))))) ≡ true
refers_to_integer = refl

refers_to_nothing : are_integers link.Missing (one (Node op.Return 43 48 (one (Node op.CondRefOf 44 48 (two (leaf op.NameString 45) (nothing 46)))))) ≡ true
refers_to_nothing = refl

writes_byte : are_integers (data_name 1) (one (Node op.Store 43 48 (two (leaf op.One 44) (Node op.Index 45 48 (three (leaf op.NameString 46) (leaf op.Zero 47) (nothing 48)))))) ≡ false
writes_byte = refl

-- mutexes and devices hold no value and count for nothing
abbrev acquired : Trees
acquired = one (Node op.Acquire 43 48 (two (leaf op.NameString 44) (leaf (op.Number 65535) 47)))

takes_mutex : are_integers (link.Object (record { 0 = 3 })) acquired ≡ true
takes_mutex = refl

notifies_device : are_integers (link.Object (record { 0 = 3 })) (one (Node op.Notify 43 48 (two (leaf op.NameString 44) (leaf op.One 47)))) ≡ true
notifies_device = refl

-- no definition stands in it
makes_a_name : are_integers link.Missing (one (defined 43 (byte 5 44))) ≡ false
makes_a_name = refl

-- the copy of a string wants memory, and that of an integer none: Store (Arg0, Local0)
abbrev holding : Value → State
holding v = record (before (record { contents = []; kinds = [] }) 9 (record { events = []; refusals = 0 })) { frame = entered true 0 (v ∷ []) }

abbrev copied : M (Unit {0})
copied = mean_body (setting_for methods (λ p k values. give None) (naming link.Missing)) (one (Node op.Store 43 46 (two (leaf op.Arg0 44) (leaf op.Local0 45))))

copies_string : copied.wants [] (holding (Str (65 ∷ []))) ≡ true
unfolding ◌>>=◌ give stop_with tick paid get_arg set_local
copies_string = refl

copies_integer : copied.wants [] (holding (Int 5)) ≡ false
unfolding ◌>>=◌ give stop_with tick paid get_arg set_local
copies_integer = refl

-- a mutex that is taken wants memory where mutexes are watched, and else none
abbrev taking : M (Unit {0})
taking = acquire 0 43 (record { object = record { 0 = 3 }; level = 0 })

abbrev watching : Bool → State
watching watched = record (holding (Int 5)) { frame = entered watched 0 [] }

takes_memory_watched : taking.wants [] (watching true) ≡ true
unfolding acquire
takes_memory_watched = refl

takes_none_unwatched : taking.wants [] (watching false) ≡ false
unfolding acquire
takes_none_unwatched = refl

-- where they are not, none is kept as held, and one that was never taken is released
keeps_none : taking.run [] (watching false) ≡ Goes tt (watching false)
unfolding acquire
keeps_none = refl

releases_any : (release 0 43 (record { object = record { 0 = 3 }; level = 0 })).run [] (watching false) ≡ Goes tt (watching false)
unfolding release
releases_any = refl
