-- The reading function of name strings is a reader of their spellings.
use Rattle.std.proofs.Common.{◌≡◌, ℕ, zero, suc, ◌+◌, ◌<◌, ◌≤◌, List, [], ◌∷◌, ◌++◌, length, take, drop, replicate, refl, sym, ap, ◌∙◌, subst, arith, append_assoc, add-one, length-append, inl, inr, Bool, true, false, cond}
use Rattle.std.specs.Prelude.{◌==◌}
use Rattle.std.specs.List.{concat}
use Rattle.std.proofs.Math.Seq.{drop-append_seam}
use Rattle.std.proofs.lemmas.List.{length-replicate}
use Rattle.std.proofs.lemmas.Bool.Decides.{eqb_tells}
use Rattle.aml_lex.specs.Characters.{is_lead_name_char}
use Rattle.aml_lex.specs.NameStrings.{NameString}
use Rattle.aml_lex.specs.Read.{Read, Found, Wrong, behind, tested_read}
use Rattle.aml_lex.specs.Reading.{seg_tests, seg_read, segs_read, counted_read, path_read, named, carets, relative_read, is_rooted, name_string_read}
use Rattle.aml_lex.specs.Exact.{AreBytes}
use Rattle.aml_lex.specs.Spelling.{IsNameSeg, AreNameSegs, SpellsPath, SpellsName}
use Rattle.aml_lex.proofs.Readers.{IsRight, IsReader, prefixed, chosen, along, Then, then_reader, With, with_reader}
use Rattle.aml_lex.proofs.Spelled.{by_byte}

-- bytes that pass one test each
abbrev Passes : List (ℕ → Bool) → List ℕ → Type 0
Passes [] [] = Unit {0}
Passes [] (b ∷ bytes) = ⊥
Passes (test ∷ tests) [] = ⊥
Passes (test ∷ tests) (b ∷ bytes) = (test b ≡ true) × Passes tests bytes

abbrev SpellsTested : List (ℕ → Bool) → List ℕ → List ℕ → Type 0
SpellsTested tests value bytes = (value ≡ bytes) × Passes tests bytes

-- tests that some byte passes
abbrev Passable : List (ℕ → Bool) → Type 0
Passable [] = Unit {0}
Passable (test ∷ tests) = ((b : ℕ) × (b < 256) × (test b ≡ true)) × Passable tests

passing : (tests : List (ℕ → Bool)) → Passable tests → (bytes : List ℕ) × AreBytes bytes × Passes tests bytes
passing [] p = ([], tt, tt)
passing (test ∷ tests) p =
    let w = passing tests p.1 in
    let b = p.0 in
    (b.0 ∷ w.0, (b.1, w.1), (b.2, w.2))

tested_first : (test : ℕ → Bool) (tests : List (ℕ → Bool)) (b : ℕ) (bytes : List ℕ) (v : Bool) → test b ≡ v → Passable (test ∷ tests) → IsRight (SpellsTested tests) (tested_read tests) bytes (tested_read tests bytes) → IsRight (SpellsTested (test ∷ tests)) (tested_read (test ∷ tests)) (b ∷ bytes) (cond v (behind 1 (λ front. b ∷ front) (tested_read tests bytes)) (Wrong 0))
tested_first test tests b bytes true e p h =
    prefixed (SpellsTested tests) (SpellsTested (test ∷ tests)) (tested_read tests) (tested_read (test ∷ tests)) (λ front. b ∷ front) (b ∷ []) bytes (tested_read tests bytes)
    (λ value l s. (ap (λ x. b ∷ x) s.0, (e, s.1))) (λ place more lt. rw e refl) h
tested_first test tests b bytes false e p h =
    let w = passing (test ∷ tests) p in
    (omega arith, (w.0, w.0, w.1, (refl, w.2)), λ more. rw e refl)

tested_right : (tests : List (ℕ → Bool)) → Passable tests → (bytes : List ℕ) → IsRight (SpellsTested tests) (tested_read tests) bytes (tested_read tests bytes)
tested_right [] p bytes = (omega arith, (refl, tt))
tested_right (test ∷ tests) p [] = let w = passing (test ∷ tests) p in (w.0, w.0, w.1, (refl, w.2))
tested_right (test ∷ tests) p (b ∷ bytes) = tested_first test tests b bytes (test b) refl p (tested_right tests p.1 bytes)

tested_full : (tests : List (ℕ → Bool)) (front more : List ℕ) → Passes tests front → tested_read tests (front ++ more) ≡ Found front (length front)
tested_full [] [] more s = refl
tested_full [] (b ∷ front) more s = absurd s
tested_full (test ∷ tests) [] more s = absurd s
tested_full (test ∷ tests) (b ∷ front) more s =
    let n : 1 + length front ≡ suc (length front) = omega arith in
    rw (s.0, tested_full tests front more s.1, n) refl

-- a segment
abbrev SpellsSeg : List ℕ → List ℕ → Type 0
SpellsSeg value bytes = (value ≡ bytes) × IsNameSeg bytes

seg_of_passes : (bytes : List ℕ) → Passes seg_tests bytes → IsNameSeg bytes
seg_of_passes [] h = absurd h
seg_of_passes (a ∷ []) h = absurd h.1
seg_of_passes (a ∷ b ∷ []) h = absurd h.1.1
seg_of_passes (a ∷ b ∷ c ∷ []) h = absurd h.1.1.1
seg_of_passes (a ∷ b ∷ c ∷ d ∷ []) h = (h.0, h.1.0, h.1.1.0, h.1.1.1.0)
seg_of_passes (a ∷ b ∷ c ∷ d ∷ e ∷ bytes) h = absurd h.1.1.1.1

passes_of_seg : (bytes : List ℕ) → IsNameSeg bytes → Passes seg_tests bytes
passes_of_seg [] h = absurd h
passes_of_seg (a ∷ []) h = absurd h
passes_of_seg (a ∷ b ∷ []) h = absurd h
passes_of_seg (a ∷ b ∷ c ∷ []) h = absurd h
passes_of_seg (a ∷ b ∷ c ∷ d ∷ []) h = (h.0, (h.1, (h.2, (h.3, tt))))
passes_of_seg (a ∷ b ∷ c ∷ d ∷ e ∷ bytes) h = absurd h

letter : (0x41 < 256)
letter = omega arith

seg_reader : IsReader SpellsSeg seg_read
seg_reader = along (SpellsTested seg_tests) SpellsSeg seg_read (λ value l s. (s.0, seg_of_passes l s.1)) (λ value l s. (s.0, passes_of_seg l s.1))
    record {
      full = λ value front more s. rw s.0 (tested_full seg_tests front more s.1);
      right = tested_right seg_tests ((0x41, letter, refl), ((0x41, letter, refl), ((0x41, letter, refl), ((0x41, letter, refl), tt))));
    }

-- so many segments
abbrev SpellsSegs : ℕ → List (List ℕ) → List ℕ → Type 0
SpellsSegs n segs bytes = (length segs ≡ n) × AreNameSegs segs × (bytes ≡ concat segs)

no_segs : (segs : List (List ℕ)) (front more : List ℕ) → SpellsSegs 0 segs front → Found [] 0 ≡ Found segs (length front)
no_segs [] front more s = rw s.2 refl
no_segs (seg ∷ segs) front more s = absurd (omega (arith, s.0))

segs_join : (n : ℕ) (segs : List (List ℕ)) (bytes : List ℕ) → Then SpellsSeg (λ seg. With (λ segs'. seg ∷ segs') (SpellsSegs n)) segs bytes → SpellsSegs (suc n) segs bytes
segs_join n segs bytes s =
    let first = s.4 in
    let more = s.5 in
    let rest = more.2 in
    rw more.1 (ap suc rest.0, (rw first.0 first.1, rest.1), rw (s.3, first.0, rest.2) refl)

segs_part : (n : ℕ) (segs : List (List ℕ)) (bytes : List ℕ) → SpellsSegs (suc n) segs bytes → Then SpellsSeg (λ seg. With (λ segs'. seg ∷ segs') (SpellsSegs n)) segs bytes
segs_part n [] bytes s = absurd (omega (arith, s.0))
segs_part n (seg ∷ segs) bytes s = (seg, seg, concat segs, s.2, (refl, s.1.0), (segs, refl, (omega (arith, s.0), s.1.1, refl)))

segs_reader : (n : ℕ) → IsReader (SpellsSegs n) (segs_read n)
segs_reader zero = record {
  full = no_segs;
  right = λ bytes. (omega arith, (refl, tt, refl));
}
segs_reader (suc n) =
    along (Then SpellsSeg (λ seg. With (λ segs. seg ∷ segs) (SpellsSegs n))) (SpellsSegs (suc n)) (segs_read (suc n)) (segs_join n) (segs_part n)
    (then_reader SpellsSeg (λ seg. With (λ segs. seg ∷ segs) (SpellsSegs n)) seg_read (λ seg rest. behind 0 (λ segs. seg ∷ segs) (segs_read n rest)) seg_reader
    (λ seg. with_reader (λ segs. seg ∷ segs) (SpellsSegs n) (segs_read n) (segs_reader n)))

-- a count and its segments
abbrev SpellsCounted : List (List ℕ) → List ℕ → Type 0
SpellsCounted segs bytes = (1 ≤ length segs) × AreNameSegs segs × (bytes ≡ length segs ∷ concat segs)

abbrev some_seg : List ℕ
some_seg = 0x41 ∷ 0x41 ∷ 0x41 ∷ 0x41 ∷ []

counted_start : (value : List (List ℕ)) × (more : List ℕ) × AreBytes more × SpellsCounted value more
counted_start = (some_seg ∷ [], 1 ∷ some_seg, (omega arith, (letter, (letter, (letter, (letter, tt))))), (omega arith, ((refl, refl, refl, refl), tt), refl))

counted_behind : (count : ℕ) (more : List ℕ) → (count == 0) ≡ false → 1 ≤ count → IsRight SpellsCounted counted_read (count ∷ more) (behind 1 (λ segs. segs) (segs_read count more))
counted_behind count more e le =
    prefixed (SpellsSegs count) SpellsCounted (segs_read count) counted_read (λ segs. segs) (count ∷ []) more (segs_read count more)
    (λ value l s. (rw s.0 le, s.1, rw (s.0, s.2) refl)) (λ place rest lt. rw e refl) ((segs_reader count).right more)

counted_test : (count : ℕ) (more : List ℕ) (v : Bool) → (count == 0) ≡ v → (v ≡ false → 1 ≤ count) → IsRight SpellsCounted counted_read (count ∷ more) (cond v (Wrong 0) (behind 1 (λ segs. segs) (segs_read count more)))
counted_test count more true e le = (omega arith, counted_start, λ rest. rw e refl)
counted_test count more false e le = counted_behind count more e (le refl)

least_one : (count : ℕ) → (count == 0) ≡ false → 1 ≤ count
least_one count e = elim (eqb_tells count 0) [ inl p ↦ absurd (let t : true ≡ false = sym p.0 ∙ e in cc) | inr p ↦ omega (arith, p.1) ]

counted_right : (bytes : List ℕ) → IsRight SpellsCounted counted_read bytes (counted_read bytes)
counted_right [] = counted_start
counted_right (count ∷ more) = counted_test count more (count == 0) refl (least_one count)

not_zero : (count : ℕ) → 1 ≤ count → (count == 0) ≡ false
not_zero count le = elim (eqb_tells count 0) [ inl p ↦ absurd (omega (arith, p.1)) | inr p ↦ p.0 ]

counted_full : (segs : List (List ℕ)) (front more : List ℕ) → SpellsCounted segs front → counted_read (front ++ more) ≡ Found segs (length front)
counted_full segs front more s =
    let n : 1 + length (concat segs) ≡ suc (length (concat segs)) = omega arith in
    rw (s.2, not_zero (length segs) s.0, (segs_reader (length segs)).full segs (concat segs) more (refl, s.1, refl), n) refl

-- the path behind a prefix
path_start : (value : List (List ℕ)) × (more : List ℕ) × AreBytes more × SpellsPath value more
path_start = ([], 0 ∷ [], (omega arith, tt), (tt, inl (refl, refl)))

other_path : (b : ℕ) (l : List ℕ) → (b == 0x00) ≡ false → (b == 0x2E) ≡ false → (b == 0x2F) ≡ false → path_read (b ∷ l) ≡ segs_read 1 (b ∷ l)
other_path b l e0 e2 e3 = rw (e0, e2, e3) refl

abbrev PathRight : ℕ → List ℕ → Type 0
PathRight b more = IsRight SpellsPath path_read (b ∷ more) (path_read (b ∷ more))

path_of_one : (segs : List (List ℕ)) (l : List ℕ) → SpellsSegs 1 segs l → SpellsPath segs l
path_of_one segs l s = (s.1, inr (inl (s.0, s.2)))

path_null : (more : List ℕ) → PathRight 0x00 more
path_null more = (omega arith, (tt, inl (refl, refl)))

path_two : (more : List ℕ) → PathRight 0x2E more
path_two more =
    prefixed (SpellsSegs 2) SpellsPath (segs_read 2) path_read (λ segs. segs) (0x2E ∷ []) more (segs_read 2 more)
    (λ value l s. (s.1, inr (inr (inl (s.0, ap (λ x. 0x2E ∷ x) s.2))))) (λ place rest lt. refl) ((segs_reader 2).right more)

path_counted : (more : List ℕ) → PathRight 0x2F more
path_counted more =
    prefixed SpellsCounted SpellsPath counted_read path_read (λ segs. segs) (0x2F ∷ []) more (counted_read more)
    (λ value l s. (s.1, inr (inr (inr (s.0, ap (λ x. 0x2F ∷ x) s.2))))) (λ place rest lt. refl) (counted_right more)

path_one : (b : ℕ) (more : List ℕ) → (b == 0x00) ≡ false → (b == 0x2E) ≡ false → (b == 0x2F) ≡ false → PathRight b more
path_one b more e0 e2 e3 =
    let same : segs_read 1 (b ∷ more) ≡ path_read (b ∷ more) = sym (other_path b more e0 e2 e3) in
    subst (λ (x : Read (List (List ℕ))). IsRight SpellsPath path_read (b ∷ more) x) same
    (chosen (SpellsSegs 1) SpellsPath (segs_read 1) path_read b more (segs_read 1 (b ∷ more)) path_of_one (λ l. other_path b l e0 e2 e3) ((segs_reader 1).right (b ∷ more)))

path_right : (bytes : List ℕ) → IsRight SpellsPath path_read bytes (path_read bytes)
path_right [] = path_start
path_right (b ∷ more) =
    by_byte (λ x. PathRight x more) b 0x00 (path_null more) (λ e0.
    by_byte (λ x. PathRight x more) b 0x2E (path_two more) (λ e2.
    by_byte (λ x. PathRight x more) b 0x2F (path_counted more) (λ e3. path_one b more e0 e2 e3)))

-- a byte that leads a segment is none that it isn't
not_lead : (b k : ℕ) → is_lead_name_char b ≡ true → is_lead_name_char k ≡ false → (b == k) ≡ false
not_lead b k leads other = elim (eqb_tells b k) [ inl p ↦ absurd (let t : is_lead_name_char b ≡ is_lead_name_char k = ap is_lead_name_char p.1 in let f : true ≡ false = sym leads ∙ t ∙ other in cc) | inr p ↦ p.0 ]

-- one segment's bytes, and its first
one_seg : (segs : List (List ℕ)) → AreNameSegs segs → length segs ≡ 1 → (b : ℕ) × (l : List ℕ) × (concat segs ≡ b ∷ l) × (is_lead_name_char b ≡ true)
one_seg [] h n = absurd (omega arith)
one_seg ([] ∷ segs) h n = absurd h.0
one_seg ((b ∷ l) ∷ segs) h n = (b, l ++ concat segs, refl, lead_of b l h.0)
  where
    lead_of : (b : ℕ) (l : List ℕ) → IsNameSeg (b ∷ l) → is_lead_name_char b ≡ true
    lead_of b [] s = absurd s
    lead_of b (x ∷ []) s = absurd s
    lead_of b (x ∷ y ∷ []) s = absurd s
    lead_of b (x ∷ y ∷ z ∷ []) s = s.0
    lead_of b (x ∷ y ∷ z ∷ u ∷ l) s = absurd s

-- a path's first byte
path_head : (segs : List (List ℕ)) (path : List ℕ) → SpellsPath segs path → (b : ℕ) × (l : List ℕ) × (path ≡ b ∷ l) × ((b == 0x5E) ≡ false) × ((b == 0x5C) ≡ false)
path_head segs path s = elim s.1 [ inl p ↦ (0x00, [], p.1, refl, refl) | inr q ↦ elim q [ inl p ↦ (let w = one_seg segs s.0 p.0 in (w.0, w.1, p.1 ∙ w.2, not_lead w.0 0x5E w.3 refl, not_lead w.0 0x5C w.3 refl)) | inr r ↦ elim r [ inl p ↦ (0x2E, concat segs, p.1, refl, refl) | inr p ↦ (0x2F, length segs ∷ concat segs, p.1, refl, refl) ] ] ]

path_full_one : (segs : List (List ℕ)) (more : List ℕ) → AreNameSegs segs → length segs ≡ 1 → path_read (concat segs ++ more) ≡ Found segs (length (concat segs))
path_full_one segs more are n =
    let w = one_seg segs are n in
    let e : path_read (concat segs ++ more) ≡ segs_read 1 (concat segs ++ more) = rw w.2 (other_path w.0 (w.1 ++ more) (not_lead w.0 0x00 w.3 refl) (not_lead w.0 0x2E w.3 refl) (not_lead w.0 0x2F w.3 refl)) in
    e ∙ (segs_reader 1).full segs (concat segs) more (n, are, refl)

path_full_two : (segs : List (List ℕ)) (more : List ℕ) → AreNameSegs segs → length segs ≡ 2 → path_read (0x2E ∷ (concat segs ++ more)) ≡ Found segs (suc (length (concat segs)))
path_full_two segs more are n =
    let k : 1 + length (concat segs) ≡ suc (length (concat segs)) = omega arith in
    rw ((segs_reader 2).full segs (concat segs) more (n, are, refl), k) refl

path_full_counted : (segs : List (List ℕ)) (more : List ℕ) → AreNameSegs segs → 1 ≤ length segs → path_read (0x2F ∷ length segs ∷ (concat segs ++ more)) ≡ Found segs (suc (suc (length (concat segs))))
path_full_counted segs more are n =
    let k : 1 + suc (length (concat segs)) ≡ suc (suc (length (concat segs))) = omega arith in
    rw (counted_full segs (length segs ∷ concat segs) more (n, are, refl), k) refl

path_full : (segs : List (List ℕ)) (path more : List ℕ) → SpellsPath segs path → path_read (path ++ more) ≡ Found segs (length path)
path_full segs path more s = elim s.1 [ inl p ↦ rw (p.1, p.0) refl | inr q ↦ elim q [ inl p ↦ rw p.1 (path_full_one segs more s.0 p.0) | inr r ↦ elim r [ inl p ↦ rw p.1 (path_full_two segs more s.0 p.0) | inr p ↦ rw p.1 (path_full_counted segs more s.0 p.0) ] ] ]

path_reader : IsReader SpellsPath path_read
path_reader = record { full = path_full; right = path_right }

-- `^`s and a path
abbrev caret_list : ℕ → List ℕ
caret_list n = replicate n 0x5E

abbrev SpellsRelative : NameString → List ℕ → Type 0
SpellsRelative name bytes =
    (path : List ℕ) × SpellsPath name.segs path × (name.rooted ≡ false) × (bytes ≡ replicate name.parents 0x5E ++ path)

-- the `^`s that bytes begin with, and what stands behind them
carets_split : (bytes : List ℕ) → (caret_list (carets bytes) ++ drop (carets bytes) bytes ≡ bytes) × (carets (drop (carets bytes) bytes) ≡ 0)
carets_split [] = (refl, refl)
carets_split (b ∷ more) = at_test b more (b == 0x5E) refl (carets_split more)
  where
    at_test : (b : ℕ) (more : List ℕ) (v : Bool) → (b == 0x5E) ≡ v → (caret_list (carets more) ++ drop (carets more) more ≡ more) × (carets (drop (carets more) more) ≡ 0) → (caret_list (cond v (carets more + 1) 0) ++ drop (cond v (carets more + 1) 0) (b ∷ more) ≡ b ∷ more) × (carets (drop (cond v (carets more + 1) 0) (b ∷ more)) ≡ 0)
    at_test b more true e h =
        let same : b ≡ 0x5E = elim (eqb_tells b 0x5E) [ inl p ↦ p.1 | inr p ↦ absurd (let t : true ≡ false = sym e ∙ p.0 in cc) ] in
        rw add-one (rw same (ap (λ x. 0x5E ∷ x) h.0), h.1)
    at_test b more false e h = (refl, rw e refl)

carets_of : (n : ℕ) (l : List ℕ) → carets l ≡ 0 → carets (caret_list n ++ l) ≡ n
carets_of zero l e = e
carets_of (suc n) l e = rw (carets_of n l e) (omega arith)

-- bytes that share a first byte which is no `^`
no_carets : (rest more : List ℕ) (place : ℕ) → place < length rest → carets rest ≡ 0 → carets (take (suc place) rest ++ more) ≡ 0
no_carets [] more place lt e = absurd (omega arith)
no_carets (b ∷ rest) more place lt e = at_test (b == 0x5E) refl
  where
    at_test : (v : Bool) → (b == 0x5E) ≡ v → carets (b ∷ (take place rest ++ more)) ≡ 0
    at_test true t = absurd (let k : carets (b ∷ rest) ≡ carets rest + 1 = rw t refl in omega arith)
    at_test false t = rw t refl

relative_of : (n : ℕ) (l : List ℕ) → carets l ≡ 0 → relative_read (caret_list n ++ l) ≡ behind n (named false n) (path_read l)
relative_of n l e =
    let d : drop n (caret_list n ++ l) ≡ l = (let k : length (caret_list n) ≡ n = length-replicate {A = ℕ} n 0x5E in rw k at (drop-append_seam (caret_list n) l)) in
    rw (carets_of n l e, d) refl

relative_right : (bytes : List ℕ) → IsRight SpellsRelative relative_read bytes (relative_read bytes)
relative_right bytes =
    let n = carets bytes in
    let front = caret_list n in
    let rest = drop n bytes in
    let split = carets_split bytes in
    let k : length front ≡ n = length-replicate {A = ℕ} n 0x5E in
    let step : IsRight SpellsRelative relative_read (front ++ rest) (behind (length front) (named false n) (path_read rest)) =
    prefixed SpellsPath SpellsRelative path_read relative_read (named false n) front rest (path_read rest)
    (λ value l s. (l, s, refl, refl))
    (λ place more lt. relative_of n (take (suc place) rest ++ more) (no_carets rest more place lt split.1) ∙ rw k refl)
    (path_right rest) in
    subst (λ (l : List ℕ). IsRight SpellsRelative relative_read l (behind n (named false n) (path_read rest))) split.0
    (subst (λ (m : ℕ). IsRight SpellsRelative relative_read (front ++ rest) (behind m (named false n) (path_read rest))) k step)

carets_of_path : (segs : List (List ℕ)) (path more : List ℕ) → SpellsPath segs path → carets (path ++ more) ≡ 0
carets_of_path segs path more s = let w = path_head segs path s in rw (w.2, w.3) refl

relative_full : (name : NameString) (front more : List ℕ) → SpellsRelative name front → relative_read (front ++ more) ≡ Found name (length front)
relative_full name front more s =
    let path = s.0 in
    let n = name.parents in
    let l : n + length path ≡ length (caret_list n ++ path) = omega (arith, length-append (caret_list n) path, length-replicate {A = ℕ} n 0x5E) in
    let named_so : named false n name.segs ≡ name = ap (λ r. named r n name.segs) (sym s.2) in
    rw (s.3, append_assoc (caret_list n) path more, relative_of n (path ++ more) (carets_of_path name.segs path more s.1), path_full name.segs path more s.1, l, named_so) refl

-- name strings
relative_is_name : (name : NameString) (l : List ℕ) → SpellsRelative name l → SpellsName name l
relative_is_name name l s = (s.0, s.1, inr (s.2, s.3))

name_rooted : (more : List ℕ) → IsRight SpellsName name_string_read (0x5C ∷ more) (name_string_read (0x5C ∷ more))
name_rooted more =
    prefixed SpellsPath SpellsName path_read name_string_read (named true 0) (0x5C ∷ []) more (path_read more)
    (λ value l s. (l, s, inl (refl, refl, refl))) (λ place rest lt. refl) (path_right more)

name_relative : (b : ℕ) (more : List ℕ) → (b == 0x5C) ≡ false → IsRight SpellsName name_string_read (b ∷ more) (name_string_read (b ∷ more))
name_relative b more e =
    let same : relative_read (b ∷ more) ≡ name_string_read (b ∷ more) = rw e refl in
    subst (λ (x : Read NameString). IsRight SpellsName name_string_read (b ∷ more) x) same
    (chosen SpellsRelative SpellsName relative_read name_string_read b more (relative_read (b ∷ more)) relative_is_name (λ l. rw e refl) (relative_right (b ∷ more)))

name_string_right : (bytes : List ℕ) → IsRight SpellsName name_string_read bytes (name_string_read bytes)
name_string_right [] = (named false 0 [], 0 ∷ [], (omega arith, tt), (0 ∷ [], (tt, inl (refl, refl)), inr (refl, refl)))
name_string_right (b ∷ more) = by_byte (λ x. IsRight SpellsName name_string_read (x ∷ more) (name_string_read (x ∷ more))) b 0x5C (name_rooted more) (name_relative b more)

rooted_full : (name : NameString) (path more : List ℕ) → SpellsPath name.segs path → name.rooted ≡ true → name.parents ≡ 0 → name_string_read (0x5C ∷ (path ++ more)) ≡ Found name (suc (length path))
rooted_full name path more s r p =
    let k : 1 + length path ≡ suc (length path) = omega arith in
    let named_so : named true 0 name.segs ≡ name = ap (λ x. named x 0 name.segs) (sym r) ∙ ap (λ x. named name.rooted x name.segs) (sym p) in
    rw (path_full name.segs path more s, k, named_so) refl

not_rooted : (n : ℕ) (segs : List (List ℕ)) (path more : List ℕ) → SpellsPath segs path → is_rooted ((caret_list n ++ path) ++ more) ≡ false
not_rooted zero segs path more s = let w = path_head segs path s in rw (w.2, w.4) refl
not_rooted (suc n) segs path more s = refl

name_string_full : (name : NameString) (front more : List ℕ) → SpellsName name front → name_string_read (front ++ more) ≡ Found name (length front)
name_string_full name front more s = elim s.2 [
  | inl p ↦ rw p.2 (rooted_full name s.0 more s.1 p.0 p.1)
  | inr p ↦ (let no : is_rooted (front ++ more) ≡ false = rw p.1 (not_rooted name.parents name.segs s.0 more s.1) in rw no (relative_full name front more (s.0, s.1, p.0, p.1)))
]

pub name_string_reader : IsReader SpellsName name_string_read
name_string_reader = record { full = name_string_full; right = name_string_right }
