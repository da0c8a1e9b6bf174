-- Each reading function is a reader of its spellings.
use Rattle.std.proofs.Common.{◌≡◌, ℕ, zero, suc, ◌+◌, ◌-◌, ◌/◌, ◌<◌, ◌≤◌, List, [], ◌∷◌, ◌++◌, length, take, replicate, refl, sym, ap, ◌∙◌, subst, arith, append_assoc, length-append, inl, inr, Bool, true, false, cond}
use Rattle.std.specs.Prelude.{nat_lt, ◌==◌}
use Rattle.std.proofs.Math.Seq.{take-append_seam}
use Rattle.std.proofs.lemmas.List.{length-take-le, length-replicate}
use Rattle.std.proofs.lemmas.Bool.{ltb-true, ltb-false}
use Rattle.aml_lex.specs.Numbers.{little, pkg_value}
use Rattle.aml_lex.specs.Read.{Found, Ends, Wrong, behind, bytes_read}
use Rattle.aml_lex.specs.Reading.{pkg_length_read, integer_read, string_read}
use Rattle.aml_lex.specs.Exact.{AreBytes}
use Rattle.aml_lex.specs.Spelling.{SpellsPkgLength, SpellsInteger, IsText, SpellsString}
use Rattle.aml_lex.proofs.Readers.{IsRight, IsReader, prefixed}
use Rattle.std.proofs.lemmas.Bool.Decides.{eqb_tells}

-- so many bytes
abbrev SpellsBytes : ℕ → List ℕ → List ℕ → Type 0
SpellsBytes size value bytes = (length bytes ≡ size) × (value ≡ bytes)

zeros_are_bytes : (n : ℕ) → AreBytes (replicate n zero)
zeros_are_bytes zero = tt
zeros_are_bytes (suc n) = (omega arith, zeros_are_bytes n)

bytes_right : (size : ℕ) (bytes : List ℕ) (v : Bool) → nat_lt (length bytes) size ≡ v → IsRight (SpellsBytes size) (bytes_read size) bytes (cond v Ends (Found (take size bytes) size))
bytes_right size bytes true e =
    let short : length bytes < size = ltb-true _ _ e in
    let zeros = replicate (size - length bytes) zero in
    let l : length (bytes ++ zeros) ≡ size = omega (arith, length-append bytes zeros, length-replicate (size - length bytes) zero) in
    (bytes ++ zeros, zeros, zeros_are_bytes (size - length bytes), (l, refl))
bytes_right size bytes false e =
    let le : size ≤ length bytes = ltb-false _ _ e in
    (le, (length-take-le size bytes le, refl))

bytes_full : (size : ℕ) (front more : List ℕ) (v : Bool) → length front ≡ size → nat_lt (length (front ++ more)) size ≡ v → cond v Ends (Found (take size (front ++ more)) size) ≡ Found front (length front)
bytes_full size front more true n e = absurd (let lt : length (front ++ more) < size = ltb-true _ _ e in omega (arith, length-append front more))
bytes_full size front more false n e = rw (← n, take-append_seam front more) refl

bytes_reader : (size : ℕ) → IsReader (SpellsBytes size) (bytes_read size)
bytes_reader size = record {
  full = λ value front more s. rw s.1 (bytes_full size front more (nat_lt (length (front ++ more)) size) s.0 refl);
  right = λ bytes. bytes_right size bytes (nat_lt (length bytes) size) refl;
}

-- package lengths
pkg_length_right : (bytes : List ℕ) → IsRight SpellsPkgLength pkg_length_read bytes (pkg_length_read bytes)
pkg_length_right [] = (0, 0 ∷ [], (omega arith, tt), (refl, refl))
pkg_length_right (lead ∷ more) =
    prefixed (SpellsBytes (lead / 64)) SpellsPkgLength (bytes_read (lead / 64)) pkg_length_read (λ front. pkg_value lead front) (lead ∷ []) more (bytes_read (lead / 64) more)
    (λ value l s. (s.0, ap (λ x. pkg_value lead x) s.1)) (λ p rest lt. refl) ((bytes_reader (lead / 64)).right more)

pkg_length_full : (value : ℕ) (front more : List ℕ) → SpellsPkgLength value front → pkg_length_read (front ++ more) ≡ Found value (length front)
pkg_length_full value [] more s = absurd s
pkg_length_full value (lead ∷ front) more s =
    let n : 1 + length front ≡ suc (length front) = omega arith in
    rw ((bytes_reader (lead / 64)).full front front more (s.0, refl), n, s.1) refl

pub pkg_length_reader : IsReader SpellsPkgLength pkg_length_read
pkg_length_reader = record { full = pkg_length_full; right = pkg_length_right }

-- a fact of a byte, by whether it is this number
pub by_byte : (P : ℕ → Type 0) (b k : ℕ) → P k → ((b == k) ≡ false → P b) → P b
by_byte P b k here other = elim (eqb_tells b k) [ inl p ↦ subst P (sym p.1) here | inr p ↦ other p.0 ]

-- integer data
abbrev IntegerRight : ℕ → List ℕ → Type 0
IntegerRight b more = IsRight SpellsInteger integer_read (b ∷ more) (integer_read (b ∷ more))

-- a byte that announces a number of such a size
announced : (size b : ℕ) (more : List ℕ) → ((l : List ℕ) → integer_read (b ∷ l) ≡ behind 1 little (bytes_read size l)) → ((l : List ℕ) → length l ≡ size → SpellsInteger (little l) (b ∷ l)) → IsRight SpellsInteger integer_read (b ∷ more) (behind 1 little (bytes_read size more))
announced size b more same up =
    prefixed (SpellsBytes size) SpellsInteger (bytes_read size) integer_read little (b ∷ []) more (bytes_read size more)
    (λ value l s. rw s.1 (up l s.0)) (λ place rest lt. same (take (suc place) more ++ rest)) ((bytes_reader size).right more)

integer_none : (b : ℕ) (more : List ℕ) → ((l : List ℕ) → integer_read (b ∷ l) ≡ Wrong 0) → IntegerRight b more
integer_none b more same = rw (same more) (omega arith, (0, 0 ∷ [], (omega arith, tt), inl (refl, refl, refl)), λ rest. same rest)

integer_right : (bytes : List ℕ) → IsRight SpellsInteger integer_read bytes (integer_read bytes)
integer_right [] = (0, 0 ∷ [], (omega arith, tt), inl (refl, refl, refl))
integer_right (b ∷ more) =
    by_byte (λ x. IntegerRight x more) b 0x00 (omega arith, inl (refl, refl, refl)) (λ e0.
    by_byte (λ x. IntegerRight x more) b 0x01 (omega arith, inr (inl (refl, refl, refl))) (λ e1.
    by_byte (λ x. IntegerRight x more) b 0x0A (announced 1 0x0A more (λ l. refl) (λ l n. inr (inr (inr (inl (refl, n, refl)))))) (λ eA.
    by_byte (λ x. IntegerRight x more) b 0x0B (announced 2 0x0B more (λ l. refl) (λ l n. inr (inr (inr (inr (inl (refl, n, refl))))))) (λ eB.
    by_byte (λ x. IntegerRight x more) b 0x0C (announced 4 0x0C more (λ l. refl) (λ l n. inr (inr (inr (inr (inr (inl (refl, n, refl)))))))) (λ eC.
    by_byte (λ x. IntegerRight x more) b 0x0E (announced 8 0x0E more (λ l. refl) (λ l n. inr (inr (inr (inr (inr (inr (refl, n, refl)))))))) (λ eE.
    by_byte (λ x. IntegerRight x more) b 0xFF (omega arith, inr (inr (inl (refl, refl, refl)))) (λ eF.
    integer_none b more (λ l. rw (e0, e1, eA, eB, eC, eE, eF) refl))))))))

announced_full : (size b value : ℕ) (front more : List ℕ) → ((l : List ℕ) → integer_read (b ∷ l) ≡ behind 1 little (bytes_read size l)) → length front ≡ size → value ≡ little front → integer_read (b ∷ (front ++ more)) ≡ Found value (suc (length front))
announced_full size b value front more same n e =
    let k : 1 + length front ≡ suc (length front) = omega arith in
    rw (same (front ++ more), (bytes_reader size).full front front more (n, refl), k, e) refl

integer_full : (value : ℕ) (front more : List ℕ) → SpellsInteger value front → integer_read (front ++ more) ≡ Found value (length front)
integer_full value [] more s = absurd s
integer_full value (b ∷ front) more s = elim s [
  | inl p ↦ rw (p.0, p.1, p.2) refl
  | inr s1 ↦ elim s1 [
    | inl p ↦ rw (p.0, p.1, p.2) refl
    | inr s2 ↦ elim s2 [
      | inl p ↦ rw (p.0, p.1, p.2) refl
      | inr s3 ↦ elim s3 [
        | inl p ↦ rw p.0 (announced_full 1 0x0A value front more (λ l. refl) p.1 p.2)
        | inr s4 ↦ elim s4 [
          | inl p ↦ rw p.0 (announced_full 2 0x0B value front more (λ l. refl) p.1 p.2)
          | inr s5 ↦ elim s5 [
            | inl p ↦ rw p.0 (announced_full 4 0x0C value front more (λ l. refl) p.1 p.2)
            | inr p ↦ rw p.0 (announced_full 8 0x0E value front more (λ l. refl) p.1 p.2)
          ]
        ]
      ]
    ]
  ]
]

pub integer_reader : IsReader SpellsInteger integer_read
integer_reader = record { full = integer_full; right = integer_right }

-- string data
text_byte : (b : ℕ) → (b == 0x00) ≡ false → 0x01 ≤ b
text_byte b e = elim (eqb_tells b 0) [ inl p ↦ absurd (let t : true ≡ false = sym p.0 ∙ e in cc) | inr p ↦ omega (arith, p.1) ]

string_more : (b : ℕ) (more : List ℕ) (v : Bool) → (b == 0x00) ≡ false → nat_lt 0x7F b ≡ v → IsRight SpellsString string_read more (string_read more) → IsRight SpellsString string_read (b ∷ more) (cond v (Wrong 0) (behind 1 (λ text. b ∷ text) (string_read more)))
string_more b more true e0 e h = (omega arith, ([], 0 ∷ [], (omega arith, tt), (tt, refl)), λ rest. rw (e0, e) refl)
string_more b more false e0 e h =
    prefixed SpellsString SpellsString string_read string_read (λ text. b ∷ text) (b ∷ []) more (string_read more)
    (λ text l s. ((text_byte b e0, ltb-false _ _ e, s.0), ap (λ x. b ∷ x) s.1)) (λ place rest lt. rw (e0, e) refl) h

string_null : (more : List ℕ) → IsRight SpellsString string_read (0x00 ∷ more) (string_read (0x00 ∷ more))
string_null more = (omega arith, (tt, refl))

string_other : (b : ℕ) (more : List ℕ) → (b == 0x00) ≡ false → IsRight SpellsString string_read more (string_read more) → IsRight SpellsString string_read (b ∷ more) (string_read (b ∷ more))
string_other b more e h = rw e (string_more b more (nat_lt 0x7F b) e refl h)

string_right : (bytes : List ℕ) → IsRight SpellsString string_read bytes (string_read bytes)
string_right [] = ([], 0 ∷ [], (omega arith, tt), (tt, refl))
string_right (b ∷ more) = by_byte (λ x. IsRight SpellsString string_read (x ∷ more) (string_read (x ∷ more))) b 0x00 (string_null more) (λ e. string_other b more e (string_right more))

char_tests : (b : ℕ) → 0x01 ≤ b → b ≤ 0x7F → ((b == 0x00) ≡ false) × (nat_lt 0x7F b ≡ false)
char_tests b low high = (elim (eqb_tells b 0) [ inl p ↦ absurd (omega (arith, p.1)) | inr p ↦ p.0 ], at_test (nat_lt 0x7F b) refl)
  where
    at_test : (v : Bool) → nat_lt 0x7F b ≡ v → v ≡ false
    at_test true e = absurd (let lt : 0x7F < b = ltb-true _ _ e in omega arith)
    at_test false e = refl

text_full : (text more : List ℕ) → IsText text → string_read (text ++ (0x00 ∷ more)) ≡ Found text (suc (length text))
text_full [] more h = refl
text_full (b ∷ text) more h =
    let t = char_tests b h.0 h.1 in
    let n : 1 + suc (length text) ≡ suc (suc (length text)) = omega arith in
    rw (t.0, t.1, text_full text more h.2, n) refl

string_full : (text front more : List ℕ) → SpellsString text front → string_read (front ++ more) ≡ Found text (length front)
string_full text front more s =
    let n : length (text ++ 0x00 ∷ []) ≡ suc (length text) = omega (arith, length-append text (0x00 ∷ [])) in
    rw (s.1, append_assoc text (0x00 ∷ []) more, n) (text_full text more s.0)

pub string_reader : IsReader SpellsString string_read
string_reader = record { full = string_full; right = string_right }
