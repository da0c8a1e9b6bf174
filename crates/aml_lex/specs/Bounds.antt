-- Where an answer ends and where a fault stands.
use Rattle.std.specs.Prelude.{◌≡◌, ◌<◌, ◌≤◌, ℕ, List, length, Option, Some, Result, Ok, Err}
use Rattle.aml_lex.specs.declared.fault.LexFault.{LexFault}

-- an answer's next place lies behind the place, within the bytes
abbrev pub EndsWithin : {V : Type 0} → (List ℕ → ℕ → Result (V × ℕ) LexFault) → Type 0
EndsWithin {V = V} read =
    (bytes : List ℕ) (at : ℕ) (r : V × ℕ) → read bytes at ≡ Ok r → (at < r.1) × (r.1 ≤ length bytes)

-- the same where there may be no value
abbrev pub EndsWithinIfAny : {V : Type 0} → (List ℕ → ℕ → Result (Option (V × ℕ)) LexFault) → Type 0
EndsWithinIfAny {V = V} read = (bytes : List ℕ) (at : ℕ) (r : V × ℕ) → read bytes at ≡ Ok (Some r) →
    (at < r.1) × (r.1 ≤ length bytes)

-- a package ends behind its package length, within the bytes
abbrev pub PackageWithin : (List ℕ → ℕ → Result (ℕ × ℕ) LexFault) → Type 0
PackageWithin read = (bytes : List ℕ) (at : ℕ) (r : ℕ × ℕ) → read bytes at ≡ Ok r →
    (at < r.1) × (r.1 ≤ r.0) × (r.0 ≤ length bytes)

-- a fault stands within the bytes or at their end
abbrev pub FaultsWithin : {X : Type 0} → (List ℕ → ℕ → Result X LexFault) → Type 0
FaultsWithin read = (bytes : List ℕ) (at : ℕ) (fault : LexFault) → read bytes at ≡ Err fault →
    fault.at ≤ length bytes
