-- Reading functions that find what a relation spells, and how they are put together.
use Rattle.std.proofs.Common.{◌≡◌, ℕ, zero, suc, ◌+◌, ◌-◌, ◌<◌, ◌≤◌, List, [], ◌∷◌, ◌++◌, length, take, drop, refl, sym, ap, ◌∙◌, subst, arith, append_assoc, add-one, length-append, length-drop, inl, inr}
use Rattle.std.proofs.Math.Seq.{take-append-add, take-append_seam, drop-append_seam}
use Rattle.std.proofs.lemmas.List.{append-nil, length-take-le, take-append-drop}
use Rattle.aml_lex.specs.declared.fault.LexCause.{LexCause}
use Rattle.aml_lex.specs.Read.{Read, Found, Ends, Wrong, behind, then_read, placed}
use Rattle.aml_lex.specs.Exact.{AreBytes, Begins, HasNoFront, HasOneFront, EndsAt, Stands, Reads}

-- what is found is a spelling; bytes that end too early begin one; and up to a wrong byte they begin one,
-- while the reader stops there whatever stands behind it
abbrev pub IsRight : {V : Type 0} → (V → List ℕ → Type 0) → (List ℕ → Read V) → List ℕ → Read V → Type 0
IsRight Spells read bytes (Found value len) = (len ≤ length bytes) × Spells value (take len bytes)
IsRight Spells read bytes Ends = Begins Spells bytes
IsRight Spells read bytes (Wrong place) = (place < length bytes) × Begins Spells (take place bytes) × ((more : List ℕ) → read (take (suc place) bytes ++ more) ≡ Wrong place)

-- a reader of a relation: it finds each spelling, whatever stands behind it, and is right on all bytes
pub record IsReader {V : Type 0} (Spells : V → List ℕ → Type 0) (read : List ℕ → Read V) : Type 0 where
  pub full : (value : V) (front more : List ℕ) → Spells value front → read (front ++ more) ≡ Found value (length front)
  pub right : (bytes : List ℕ) → IsRight Spells read bytes (read bytes)

pub bytes_append : (xs ys : List ℕ) → AreBytes xs → AreBytes ys → AreBytes (xs ++ ys)
bytes_append [] ys h k = k
bytes_append (x ∷ xs) ys h k = (h.0, bytes_append xs ys h.1 k)

-- behind a front that is no part of the choice
pub prefixed : {V W : Type 0} (Spells : V → List ℕ → Type 0) (Spelled : W → List ℕ → Type 0) (inner : List ℕ → Read V) (read : List ℕ → Read W) (f : V → W) (front rest : List ℕ) (x : Read V) → ((value : V) (l : List ℕ) → Spells value l → Spelled (f value) (front ++ l)) → ((p : ℕ) (more : List ℕ) → p < length rest → read (front ++ (take (suc p) rest ++ more)) ≡ behind (length front) f (inner (take (suc p) rest ++ more))) → IsRight Spells inner rest x → IsRight Spelled read (front ++ rest) (behind (length front) f x)
prefixed Spells Spelled inner read f front rest (Found value len) up same h =
    (omega (arith, h.0, length-append front rest), rw (take-append-add front rest len) (up value (take len rest) h.1))
prefixed Spells Spelled inner read f front rest Ends up same h =
    (f h.0, h.1, h.2, rw (append_assoc front rest h.1) (up h.0 (rest ++ h.1) h.3))
prefixed Spells Spelled inner read f front rest (Wrong p) up same h =
    let b = h.1 in (
      omega (arith, h.0, length-append front rest),
      (f b.0, b.1, b.2, rw (take-append-add front rest p, append_assoc front (take p rest) b.1) (up b.0 (take p rest ++ b.1) b.3)),
      λ more. let e : suc (length front + p) ≡ length front + suc p = omega arith in
          rw (e, take-append-add front rest (suc p), append_assoc front (take (suc p) rest) more) (same p more h.0 ∙ ap (behind (length front) f) (h.2 more)),
    )

-- a choice that the first byte makes
pub chosen : {V : Type 0} (Spells Spelled : V → List ℕ → Type 0) (inner read : List ℕ → Read V) (b : ℕ) (rest : List ℕ) (x : Read V) → ((value : V) (l : List ℕ) → Spells value l → Spelled value l) → ((l : List ℕ) → read (b ∷ l) ≡ inner (b ∷ l)) → IsRight Spells inner (b ∷ rest) x → IsRight Spelled read (b ∷ rest) x
chosen Spells Spelled inner read b rest (Found value len) up same h = (h.0, up value (take len (b ∷ rest)) h.1)
chosen Spells Spelled inner read b rest Ends up same h = (h.0, h.1, h.2, up h.0 ((b ∷ rest) ++ h.1) h.3)
chosen Spells Spelled inner read b rest (Wrong p) up same h =
    let s = h.1 in
    (h.0, (s.0, s.1, s.2, up s.0 (take p (b ∷ rest) ++ s.1) s.3), λ more. same (take p rest ++ more) ∙ h.2 more)

-- a reader of an equal relation
pub along : {V : Type 0} (Spells Spelled : V → List ℕ → Type 0) (read : List ℕ → Read V) → ((value : V) (l : List ℕ) → Spells value l → Spelled value l) → ((value : V) (l : List ℕ) → Spelled value l → Spells value l) → IsReader Spells read → IsReader Spelled read
along {V = V} Spells Spelled read up down is = record {
  full = λ value front more s. is.full value front more (down value front s);
  right = λ bytes. over bytes (read bytes) (is.right bytes);
}
  where
    over : (bytes : List ℕ) (x : Read V) → IsRight Spells read bytes x → IsRight Spelled read bytes x
    over bytes (Found value len) h = (h.0, up value (take len bytes) h.1)
    over bytes Ends h = (h.0, h.1, h.2, up h.0 (bytes ++ h.1) h.3)
    over bytes (Wrong p) h = let s = h.1 in (h.0, (s.0, s.1, s.2, up s.0 (take p bytes ++ s.1) s.3), h.2)

-- some spelling, of bytes
some_at : {V : Type 0} (Spells : V → List ℕ → Type 0) (read : List ℕ → Read V) (x : Read V) → IsRight Spells read [] x → (value : V) × (l : List ℕ) × AreBytes l × Spells value l
some_at Spells read (Found value len) h = let e : len ≡ zero = omega (arith, h.0) in (value, [], tt, rw e at h.1)
some_at Spells read Ends h = h
some_at Spells read (Wrong p) h = absurd (omega (arith, h.0))

pub some_spelling : {V : Type 0} (Spells : V → List ℕ → Type 0) (read : List ℕ → Read V) → IsReader Spells read → (value : V) × (l : List ℕ) × AreBytes l × Spells value l
some_spelling Spells read is = some_at Spells read (read []) (is.right [])

-- a part, and behind it the part that its value asks for
abbrev pub Then : {V W : Type 0} → (V → List ℕ → Type 0) → (V → W → List ℕ → Type 0) → W → List ℕ → Type 0
Then {V = V} First Next w bytes = (v : V) × (front : List ℕ) × (rest : List ℕ) × (bytes ≡ front ++ rest) × First v front × Next v w rest

module _ {V W : Type 0} (First : V → List ℕ → Type 0) (Next : V → W → List ℕ → Type 0) (first : List ℕ → Read V) (next : V → List ℕ → Read W) (is_first : IsReader First first) (is_next : (v : V) → IsReader (Next v) (next v)) where
  then_full : (w : W) (front more : List ℕ) → Then First Next w front → then_read (first (front ++ more)) next (front ++ more) ≡ Found w (length front)
  then_full w front more s =
      let a = s.1 in
      let b = s.2 in
      rw (s.3, append_assoc a b more, is_first.full s.0 a (b ++ more) s.4, drop-append_seam a (b ++ more), (is_next s.0).full w b more s.5, length-append a b) refl

  then_right : (bytes : List ℕ) (x : Read V) → IsRight First first bytes x → IsRight (Then First Next) (λ l. then_read (first l) next l) bytes (then_read x next bytes)
  then_right bytes (Found v len) h =
      let front = take len bytes in
      let rest = drop len bytes in
      let n : length front ≡ len = length-take-le len bytes h.0 in
      let whole : front ++ rest ≡ bytes = take-append-drop len bytes in
      let step : IsRight (Then First Next) (λ l. then_read (first l) next l) (front ++ rest) (behind (length front) (λ w. w) (next v rest)) =
      prefixed (Next v) (Then First Next) (next v) (λ l. then_read (first l) next l) (λ w. w) front rest (next v rest)
      (λ w l s. (v, front, l, refl, h.1, s))
      (λ p more lt. rw (is_first.full v front (take (suc p) rest ++ more) h.1, drop-append_seam front (take (suc p) rest ++ more)) refl)
      ((is_next v).right rest) in
      subst (λ (l : List ℕ). IsRight (Then First Next) (λ l. then_read (first l) next l) l (behind len (λ w. w) (next v rest))) whole
      (subst (λ (k : ℕ). IsRight (Then First Next) (λ l. then_read (first l) next l) (front ++ rest) (behind k (λ w. w) (next v rest))) n step)
  then_right bytes Ends h =
      let t = some_spelling (Next h.0) (next h.0) (is_next h.0) in
      (t.0, h.1 ++ t.1, bytes_append h.1 t.1 h.2 t.2, (h.0, bytes ++ h.1, t.1, sym (append_assoc bytes h.1 t.1), h.3, t.3))
  then_right bytes (Wrong p) h =
      let s = h.1 in
      let t = some_spelling (Next s.0) (next s.0) (is_next s.0) in (
        h.0,
        (t.0, s.1 ++ t.1, bytes_append s.1 t.1 s.2 t.2, (s.0, take p bytes ++ s.1, t.1, sym (append_assoc (take p bytes) s.1 t.1), s.3, t.3)),
        λ more. rw (h.2 more) refl,
      )

  pub then_reader : IsReader (Then First Next) (λ l. then_read (first l) next l)
  then_reader = record {
    full = then_full;
    right = λ bytes. then_right bytes (first bytes) (is_first.right bytes);
  }

-- a value made another by a function
abbrev pub With : {V W : Type 0} → (V → W) → (V → List ℕ → Type 0) → W → List ℕ → Type 0
With {V = V} f Spells w bytes = (v : V) × (w ≡ f v) × Spells v bytes

pub with_reader : {V W : Type 0} (f : V → W) (Spells : V → List ℕ → Type 0) (read : List ℕ → Read V) → IsReader Spells read → IsReader (With f Spells) (λ l. behind 0 f (read l))
with_reader f Spells read is = record {
  full = λ w front more s. (let z : 0 + length front ≡ length front = omega arith in rw (s.1, is.full s.0 front more s.2, z) refl);
  right = λ bytes. prefixed Spells (With f Spells) read (λ l. behind 0 f (read l)) f [] bytes (read bytes) (λ v l s. (v, refl, s)) (λ p more lt. refl) (is.right bytes);
}

-- what a reader's answer at a place says
module _ {V : Type 0} (Spells : V → List ℕ → Type 0) (read : List ℕ → Read V) (is : IsReader Spells read) where
  pub no_front : (bytes : List ℕ) → ((value : V) (len : ℕ) → read bytes ≡ Found value len → ⊥) → HasNoFront Spells bytes
  no_front bytes none value front more e s = none value (length front) (rw e (is.full value front more s))

  pub ends_at : (bytes : List ℕ) (p : ℕ) → IsRight Spells read bytes (Wrong p) → EndsAt Spells bytes p
  ends_at bytes p h = (
    h.0,
    h.1,
    λ b. let l = take (p + 1) bytes ++ b.1 in
        let found : read l ≡ Found b.0 (length l) = rw append-nil at (is.full b.0 l [] b.3) in
        let wrong : read l ≡ Wrong p = rw (add-one p) (h.2 b.1) in
        cc,
  )

  module _ (cause : LexCause) (bytes : List ℕ) (at : ℕ) where
    pub placed_right : (x : Read V) → at ≤ length bytes → read (drop at bytes) ≡ x → IsRight Spells read (drop at bytes) x → Reads Spells cause bytes at (placed cause at (length bytes) x)
    placed_right (Found value len) le e h =
        let n : at + len - at ≡ len = omega arith in
        (omega arith, omega (arith, h.0, length-drop at bytes), rw n h.1)
    placed_right Ends le e h = (no_front (drop at bytes) (λ value len f. cc), inl (refl, h))
    placed_right (Wrong p) le e h = (no_front (drop at bytes) (λ value len f. cc), inr (p, refl, ends_at (drop at bytes) p h))

    pub reads : at ≤ length bytes → Reads Spells cause bytes at (placed cause at (length bytes) (read (drop at bytes)))
    reads le = placed_right (read (drop at bytes)) le refl (is.right (drop at bytes))

  pub one_front : HasOneFront Spells
  one_front v w front more front' more' e s t =
      let a : read (front ++ more) ≡ Found v (length front) = is.full v front more s in
      let b : read (front' ++ more') ≡ Found w (length front') = is.full w front' more' t in
      let n : length front ≡ length front' = cc in
      let same : v ≡ w = cc in
      (same, sym (take-append_seam front more) ∙ (rw (n, e) (take-append_seam front' more')))

  -- where a spelling stands, it is found
  pub found_at : (bytes : List ℕ) (at : ℕ) (value : V) (next : ℕ) → Stands Spells bytes at value next → (read (drop at bytes) ≡ Found value (next - at)) × (at + (next - at) ≡ next)
  found_at bytes at value next s =
      let rest = drop at bytes in
      let short : next - at ≤ length rest = omega (arith, s.0, s.1, length-drop at bytes) in
      let found : read (take (next - at) rest ++ drop (next - at) rest) ≡ Found value (length (take (next - at) rest)) = is.full value (take (next - at) rest) (drop (next - at) rest) s.2 in
      let whole : take (next - at) rest ++ drop (next - at) rest ≡ rest = take-append-drop (next - at) rest in
      let size : length (take (next - at) rest) ≡ next - at = length-take-le (next - at) rest short in
      (rw (whole, size) at found, omega (arith, s.0))
