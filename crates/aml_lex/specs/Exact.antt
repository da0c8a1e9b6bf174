-- What a reader's answer says of the spellings in the bytes.
use Rattle.std.specs.Prelude.{◌≡◌, ℕ, ◌+◌, ◌-◌, ◌<◌, ◌≤◌, ◌⊎◌, ◌++◌, List, [], ◌∷◌, length, take, drop, Option, Some, None, Result, Ok, Err}
use Rattle.aml_lex.specs.declared.fault.LexCause.{LexCause}
use Rattle.aml_lex.specs.declared.fault.LexCause.TheVariants.{BadPkgLength, Overrun}
use Rattle.aml_lex.specs.declared.fault.LexFault.{LexFault}
use Rattle.aml_lex.specs.Read.{fault_of, truncated}
use Rattle.aml_lex.specs.Spelling.{SpellsPkgLength, SpellsInteger}

abbrev pub AreBytes : List ℕ → Type 0
AreBytes [] = Unit {0}
AreBytes (b ∷ more) = (b < 256) × AreBytes more

-- there are bytes that complete these to a spelling
abbrev pub Begins : {V : Type 0} → (V → List ℕ → Type 0) → List ℕ → Type 0
Begins {V = V} Spells bytes =
    (value : V) × (more : List ℕ) × AreBytes more × Spells value (bytes ++ more)

-- no front of these bytes is a spelling
abbrev pub HasNoFront : {V : Type 0} → (V → List ℕ → Type 0) → List ℕ → Type 0
HasNoFront {V = V} Spells bytes =
    (value : V) (front more : List ℕ) → bytes ≡ front ++ more → Spells value front → ⊥

-- of one byte list at most one front is a spelling, and of one value
abbrev pub HasOneFront : {V : Type 0} → (V → List ℕ → Type 0) → Type 0
HasOneFront {V = V} Spells =
    (v w : V) (front more front' more' : List ℕ) → front ++ more ≡ front' ++ more' →
    Spells v front → Spells w front' → (v ≡ w) × (front ≡ front')

-- the bytes before a place begin a spelling, and with the byte at the place they don't
abbrev pub EndsAt : {V : Type 0} → (V → List ℕ → Type 0) → List ℕ → ℕ → Type 0
EndsAt Spells bytes place = (place < length bytes) × Begins Spells (take place bytes)
    × (Begins Spells (take (place + 1) bytes) → ⊥)

-- the fault from a place on where no front is a spelling: that of the end, where all the bytes
-- begin one, or one of such a cause at the first byte that ends this
abbrev pub Refuses : {V : Type 0} → (V → List ℕ → Type 0) → LexCause → List ℕ →
    ℕ → LexFault → Type 0
Refuses Spells cause bytes at fault =
    HasNoFront Spells (drop at bytes)
    × (((fault ≡ truncated (length bytes)) × Begins Spells (drop at bytes))
    ⊎ ((place : ℕ) × (fault ≡ fault_of cause (at + place)) × EndsAt Spells (drop at bytes) place))

-- a spelling of the value stands between the two places
abbrev pub Stands : {V : Type 0} → (V → List ℕ → Type 0) → List ℕ → ℕ → V → ℕ → Type 0
Stands Spells bytes at value next =
    (at ≤ next) × (next ≤ length bytes) × Spells value (take (next - at) (drop at bytes))

-- a reader's answer at a place
abbrev pub Reads : {V : Type 0} → (V → List ℕ → Type 0) → LexCause → List ℕ → ℕ →
    Result (V × ℕ) LexFault → Type 0
Reads Spells cause bytes at (Ok r) = Stands Spells bytes at r.0 r.1
Reads Spells cause bytes at (Err fault) = Refuses Spells cause bytes at fault

-- the same for a package length: no byte is wrong there, so the fault is that of the end
abbrev pub ReadsPkgLength : List ℕ → ℕ → Result (ℕ × ℕ) LexFault → Type 0
ReadsPkgLength bytes at (Ok r) = Stands SpellsPkgLength bytes at r.0 r.1
ReadsPkgLength bytes at (Err fault) =
    HasNoFront SpellsPkgLength (drop at bytes) × (fault ≡ truncated (length bytes))
    × Begins SpellsPkgLength (drop at bytes)

-- the same for integer data: no value just where there is a first byte and no spelling begins with
-- it
abbrev pub ReadsInteger : List ℕ → ℕ → Result (Option (ℕ × ℕ)) LexFault → Type 0
ReadsInteger bytes at (Ok (Some r)) = Stands SpellsInteger bytes at r.0 r.1
ReadsInteger bytes at (Ok None) =
    HasNoFront SpellsInteger (drop at bytes) × (at < length bytes)
    × (Begins SpellsInteger (take 1 (drop at bytes)) → ⊥)
ReadsInteger bytes at (Err fault) =
    HasNoFront SpellsInteger (drop at bytes) × (fault ≡ truncated (length bytes))
    × Begins SpellsInteger (drop at bytes)

-- a package whose package length stands between a place and the next one: its value goes from the
-- place to the end, holds its own bytes, and doesn't go past the bytes. Its end and the next place;
-- or the fault of the package length; or that of a value below its own bytes, or past the end
abbrev pub ReadsPackage : List ℕ → ℕ → Result (ℕ × ℕ) LexFault → Type 0
ReadsPackage bytes at (Ok r) =
    (r.1 ≤ r.0) × (r.0 ≤ length bytes)
    × ((value : ℕ) × (r.0 ≡ at + value) × Stands SpellsPkgLength bytes at value r.1)
ReadsPackage bytes at (Err fault) =
    ReadsPkgLength bytes at (Err fault)
    ⊎ ((value next : ℕ) × Stands SpellsPkgLength bytes at value next
    × (((at + value < next) × (fault ≡ fault_of BadPkgLength at))
    ⊎ ((next ≤ at + value) × (length bytes < at + value) × (fault ≡ fault_of Overrun at))))

-- wherever a spelling of a value stands, it is what is read
abbrev pub IsRead : {V : Type 0} → (V → List ℕ → Type 0) →
    (List ℕ → ℕ → Result (V × ℕ) LexFault) → Type 0
IsRead {V = V} Spells read = (bytes : List ℕ) (at : ℕ) (value : V) (next : ℕ) →
    Stands Spells bytes at value next → read bytes at ≡ Ok (value, next)

abbrev pub IsReadIfAny : {V : Type 0} → (V → List ℕ → Type 0) →
    (List ℕ → ℕ → Result (Option (V × ℕ)) LexFault) → Type 0
IsReadIfAny {V = V} Spells read = (bytes : List ℕ) (at : ℕ) (value : V) (next : ℕ) →
    Stands Spells bytes at value next → read bytes at ≡ Ok (Some (value, next))
