-- What reading from the first byte of a list finds, and the same at a place in longer bytes.
use Rattle.std.specs.Prelude.{ℕ, ◌+◌, Bool, List, [], ◌∷◌, length, take, drop, nat_lt, cond, if◌then◌else◌, Result, Ok, Err}
use Rattle.aml_lex.specs.declared.fault.LexCause.{LexCause}
use Rattle.aml_lex.specs.declared.fault.LexCause.TheVariants.{Truncated}
use Rattle.aml_lex.specs.declared.fault.LexFault.{LexFault}

-- a value and how many bytes spell it, that the bytes end too early, or the first byte that is
-- wrong
pub data Read (V : Type 0) : Type 0 where
  Found : (value : V) (len : ℕ) → Read V
  Ends : Read V
  Wrong : (place : ℕ) → Read V

-- what is read behind so many bytes, its value made another by a function
abbrev pub behind : {V W : Type 0} → ℕ → (V → W) → Read V → Read W
behind len f (Found value more) = Found (f value) (len + more)
behind len f Ends = Ends
behind len f (Wrong place) = Wrong (len + place)

-- a first part, and behind it the part that its value asks for
abbrev pub then_read : {V W : Type 0} → Read V → (V → List ℕ → Read W) → List ℕ → Read W
then_read (Found value len) next bytes = behind len (λ w. w) (next value (drop len bytes))
then_read Ends next bytes = Ends
then_read (Wrong place) next bytes = Wrong place

-- bytes, each of which passes its test
abbrev pub tested_read : List (ℕ → Bool) → List ℕ → Read (List ℕ)
tested_read [] bytes = Found [] 0
tested_read (test ∷ tests) [] = Ends
tested_read (test ∷ tests) (b ∷ bs) =
    cond (test b) (behind 1 (λ front. b ∷ front) (tested_read tests bs)) (Wrong 0)

-- so many bytes
abbrev pub bytes_read : ℕ → List ℕ → Read (List ℕ)
bytes_read size bytes = if nat_lt (length bytes) size then Ends else Found (take size bytes) size

abbrev pub fault_of : LexCause → ℕ → LexFault
fault_of cause at = record { cause = cause; at = at }

-- the fault of bytes that end too early
abbrev pub truncated : ℕ → LexFault
truncated end = fault_of Truncated end

-- what is read at a place in bytes with such an end, where a wrong byte has such a cause
abbrev pub placed : {V : Type 0} → LexCause → ℕ → ℕ → Read V → Result (V × ℕ) LexFault
placed cause at end (Found value len) = Ok (value, at + len)
placed cause at end Ends = Err (truncated end)
placed cause at end (Wrong place) = Err (fault_of cause (at + place))

-- the same with the place behind it alone
abbrev pub place_behind : {V : Type 0} → LexCause → ℕ → ℕ → Read V → Result ℕ LexFault
place_behind cause at end (Found value len) = Ok (at + len)
place_behind cause at end Ends = Err (truncated end)
place_behind cause at end (Wrong place) = Err (fault_of cause (at + place))
