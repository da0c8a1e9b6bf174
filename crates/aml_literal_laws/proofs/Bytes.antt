-- What is taken from bytes, and zeros, are bytes.
use Rattle.std.proofs.Common.{◌≡◌, ℕ, zero, suc, ◌+◌, ◌*◌, ◌-◌, ◌<◌, List, [], ◌∷◌, ◌++◌, take, drop, length, get_or, replicate, Result, Ok, Err, ap, arith}
use Rattle.std.specs.Prelude.{Bool, true, false, if◌then◌else◌, nat_lt, slice_index}
use Rattle.byteorder.specs.Endian.{little_number}
use Rattle.aml_operators.specs.declared.op.Op.{Op}
use Rattle.aml_operators.specs.declared.op.Op.TheVariants as op
use Rattle.aml_operators.specs.Tree.{Trees, none, more, stop_of}
use Rattle.aml_lex.specs.Standing.{bytes_between}
use Rattle.aml_tree.specs.declared.fault.Refusal.{Refusal}
use Rattle.aml_tree.specs.Fault.{truncated}
use Rattle.aml_tree.specs.Leaf.{little_endian_at}
use Rattle.aml_namespace.specs.Made.{at_of}
use Rattle.aml_contents.specs.FirstContents.{filled, first_bytes, initialiser_in, text_in, bytes_in}
use Rattle.aml_judged.specs.Safe.{AreBytes}

pub each_is_a_byte : (bytes : List ℕ) → ((i : ℕ) → get_or bytes i 0 < 256) → AreBytes bytes
each_is_a_byte [] h = tt
each_is_a_byte (b ∷ bytes) h = (h 0, each_is_a_byte bytes (λ i. h (suc i)))

pub taken : (n : ℕ) (bytes : List ℕ) → AreBytes bytes → AreBytes (take n bytes)
taken zero bytes h = tt
taken (suc n) [] h = tt
taken (suc n) (b ∷ bytes) h = (h.0, taken n bytes h.1)

dropped : (n : ℕ) (bytes : List ℕ) → AreBytes bytes → AreBytes (drop n bytes)
dropped zero bytes h = h
dropped (suc n) [] h = tt
dropped (suc n) (b ∷ bytes) h = dropped n bytes h.1

appended : (xs ys : List ℕ) → AreBytes xs → AreBytes ys → AreBytes (xs ++ ys)
appended [] ys h g = g
appended (x ∷ xs) ys h g = (h.0, appended xs ys h.1 g)

zeros : (n : ℕ) → AreBytes (replicate n 0)
zeros zero = tt
zeros (suc n) = (omega arith, zeros n)

-- bytes with zeros behind them
pub filled_bytes : (size : ℕ) (bytes : List ℕ) → AreBytes bytes → AreBytes (filled size bytes)
filled_bytes size bytes h = appended (take size bytes) (replicate (size - length bytes) 0) (taken size bytes h) (zeros (size - length bytes))

between : (bytes : List ℕ) (at stop : ℕ) → AreBytes bytes → AreBytes (bytes_between bytes at stop)
between bytes at stop h = dropped at (take stop bytes) (taken stop bytes h)

-- those of a buffer's initialiser and of a string
first_are : (bytes : List ℕ) (parts : Trees) → AreBytes bytes → AreBytes (first_bytes bytes parts)
first_are bytes none h = tt
first_are bytes (more part rest) h = between bytes (at_of part) (stop_of part) h

initialiser_are : (bytes : List ℕ) (parts : Trees) → AreBytes bytes → AreBytes (initialiser_in bytes parts)
initialiser_are bytes none h = tt
initialiser_are bytes (more size rest) h = first_are bytes rest h

text_are : (bytes : List ℕ) (parts : Trees) → AreBytes bytes → AreBytes (text_in bytes parts)
text_are bytes none h = tt
text_are bytes (more text rest) h = between bytes (at_of text) (stop_of text - 1) h

pub bytes_in_are : (bytes : List ℕ) (o : Op) (parts : Trees) → AreBytes bytes → AreBytes (bytes_in bytes o parts)
bytes_in_are bytes op.Buffer parts h = initialiser_are bytes parts h
bytes_in_are bytes op.String parts h = text_are bytes parts h
bytes_in_are bytes o parts h = tt

-- a number of one byte
index_lt : (bytes : List ℕ) → AreBytes bytes → slice_index bytes 0 < 256
index_lt [] h = omega arith
index_lt (b ∷ bytes) h = h.0

-- as it is read, by whether the bytes end before it
abbrev byte_read : List ℕ → ℕ → Bool → Result (ℕ × ℕ) Refusal
byte_read bytes at b = if b then Err (truncated (length bytes)) else Ok (little_number 1 (drop at bytes), at + 1)

abbrev Reads : Result (ℕ × ℕ) Refusal → ℕ × ℕ → Type 0
Reads r q = r ≡ Ok q

same_number : (p q : ℕ × ℕ) → Reads (Ok p) q → p.0 ≡ q.0
same_number p q e = let same : p ≡ q = cc in ap (λ (r : ℕ × ℕ). r.0) same

pub byte_lt : (bytes : List ℕ) (at n stop : ℕ) → AreBytes bytes → little_endian_at 1 bytes at ≡ Ok (n, stop) → n < 256
unfolding little_endian_at
byte_lt bytes at n stop h e = by (nat_lt (length bytes) (at + 1)) e
  where
    by : (b : Bool) → byte_read bytes at b ≡ Ok (n, stop) → n < 256
    by true e = absurd cc
    by false e =
        let first = index_lt (drop at bytes) (dropped at bytes h) in
        let same : slice_index (drop at bytes) 0 + 256 * 0 ≡ n = same_number (little_number 1 (drop at bytes), at + 1) (n, stop) e in
        omega (arith, first, same)
