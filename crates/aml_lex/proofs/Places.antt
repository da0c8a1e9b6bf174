-- What is read from a list, at a place in longer bytes.
use Rattle.std.proofs.Common.{◌≡◌, ℕ, zero, suc, ◌+◌, ◌-◌, ◌<◌, ◌≤◌, List, [], ◌∷◌, length, get_or, take, drop, refl, sym, ap, ◌∙◌, arith, add-one, drop-cons, Ok, Err, Bool, true, false, cond}
use Rattle.std.proofs.lemmas.List.{drop-drop}
use Rattle.aml_lex.specs.declared.fault.LexCause.{LexCause}
use Rattle.aml_lex.specs.declared.fault.LexCause.TheVariants.{BadName}
use Rattle.aml_lex.specs.declared.fault.LexFault.{LexFault}
use Rattle.aml_lex.specs.Read.{Read, Found, Ends, Wrong, behind, then_read, tested_read, placed, place_behind}
use Rattle.aml_lex.specs.NameStrings.{segments_of}
use Rattle.aml_lex.specs.Reading.{seg_tests, seg_read, segs_read, counted_read, path_read, is_rooted, carets, named, name_string_at, with_value}

-- what is read so many bytes on is read at a place so much greater
pub placed_behind : {V : Type 0} (cause : LexCause) (at end len : ℕ) (r : Read V) → placed cause at end (behind len (λ v. v) r) ≡ placed cause (at + len) end r
placed_behind cause at end len (Found v m) = let e : at + (len + m) ≡ at + len + m = omega arith in rw e refl
placed_behind cause at end len Ends = refl
placed_behind cause at end len (Wrong p) = let e : at + (len + p) ≡ at + len + p = omega arith in rw e refl

pub behind_place : {V W : Type 0} (cause : LexCause) (at end len : ℕ) (f : V → W) (r : Read V) → place_behind cause at end (behind len f r) ≡ place_behind cause (at + len) end r
behind_place cause at end len f (Found v m) = let e : at + (len + m) ≡ at + len + m = omega arith in rw e refl
behind_place cause at end len f Ends = refl
behind_place cause at end len f (Wrong p) = let e : at + (len + p) ≡ at + len + p = omega arith in rw e refl

-- a fault and an answer, with the value and without it
pub fault_with_value : {V : Type 0} (cause : LexCause) (at end : ℕ) (fault : LexFault) (r : Read V) → Err fault ≡ place_behind cause at end r → placed cause at end r ≡ Err fault
fault_with_value cause at end fault (Found v m) e = cc
fault_with_value cause at end fault Ends e = cc
fault_with_value cause at end fault (Wrong p) e = cc

-- one byte that passes its test, before the others
module _ (cause : LexCause) (at end : ℕ) where
  one_ok : (v : Bool) (b next : ℕ) (r : Read (List ℕ)) → Ok next ≡ place_behind cause at end (cond v (Found (b ∷ []) 1) (Wrong 0)) → place_behind cause at end (cond v (behind 1 (λ front. b ∷ front) r) (Wrong 0)) ≡ place_behind cause next end r
  one_ok true b next r e = let n : next ≡ at + 1 = cc in rw n (behind_place cause at end 1 (λ front. b ∷ front) r)
  one_ok false b next r e = cc

  one_err : (v : Bool) (b : ℕ) (fault : LexFault) (r : Read (List ℕ)) → Err fault ≡ place_behind cause at end (cond v (Found (b ∷ []) 1) (Wrong 0)) → place_behind cause at end (cond v (behind 1 (λ front. b ∷ front) r) (Wrong 0)) ≡ Err fault
  one_err true b fault r e = cc
  one_err false b fault r e = sym e

  first_ok : (test : ℕ → Bool) (tests : List (ℕ → Bool)) (bytes : List ℕ) (next : ℕ) → Ok next ≡ place_behind cause at end (tested_read (test ∷ []) bytes) → place_behind cause at end (tested_read (test ∷ tests) bytes) ≡ place_behind cause next end (tested_read tests (drop 1 bytes))
  first_ok test tests [] next e = cc
  first_ok test tests (b ∷ more) next e = one_ok (test b) b next (tested_read tests more) e

  first_err : (test : ℕ → Bool) (tests : List (ℕ → Bool)) (bytes : List ℕ) (fault : LexFault) → Err fault ≡ place_behind cause at end (tested_read (test ∷ []) bytes) → place_behind cause at end (tested_read (test ∷ tests) bytes) ≡ Err fault
  first_err test tests [] fault e = sym e
  first_err test tests (b ∷ more) fault e = one_err (test b) b fault (tested_read tests more) e

pub tested_ok : (cause : LexCause) (bytes : List ℕ) (at end next : ℕ) (test : ℕ → Bool) (tests : List (ℕ → Bool)) → next ≡ at + 1 → Ok next ≡ place_behind cause at end (tested_read (test ∷ []) (drop at bytes)) → place_behind cause at end (tested_read (test ∷ tests) (drop at bytes)) ≡ place_behind cause next end (tested_read tests (drop next bytes))
tested_ok cause bytes at end next test tests n e =
    let d : drop 1 (drop at bytes) ≡ drop next bytes = rw n (drop-drop 1 at bytes) in
    first_ok cause at end test tests (drop at bytes) next e ∙ ap (λ l. place_behind cause next end (tested_read tests l)) d

pub tested_err : (cause : LexCause) (bytes : List ℕ) (at end : ℕ) (fault : LexFault) (test : ℕ → Bool) (tests : List (ℕ → Bool)) → Err fault ≡ place_behind cause at end (tested_read (test ∷ []) (drop at bytes)) → place_behind cause at end (tested_read (test ∷ tests) (drop at bytes)) ≡ Err fault
tested_err cause bytes at end fault test tests e = first_err cause at end test tests (drop at bytes) fault e

-- one segment before the others
module _ (cause : LexCause) (at end : ℕ) (n : ℕ) (bytes : List ℕ) where
  seg_then_ok : (next : ℕ) (r : Read (List ℕ)) → Ok next ≡ place_behind cause at end r → next ≡ at + 4 → place_behind cause at end (then_read r (λ seg rest. behind 0 (λ segs. seg ∷ segs) (segs_read n rest)) bytes) ≡ place_behind cause next end (segs_read n (drop 4 bytes))
  seg_then_ok next (Found seg len) e four =
      let l : len ≡ 4 = let o : next ≡ at + len = cc in omega arith in
      rw (l, four) (behind_place cause at end 4 (λ w. w) (behind 0 (λ segs. seg ∷ segs) (segs_read n (drop 4 bytes))) ∙ behind_place cause (at + 4) end 0 (λ segs. seg ∷ segs) (segs_read n (drop 4 bytes)) ∙ (let z : at + 4 + 0 ≡ at + 4 = omega arith in rw z refl))
  seg_then_ok next Ends e four = cc
  seg_then_ok next (Wrong p) e four = cc

  seg_then_err : (fault : LexFault) (r : Read (List ℕ)) → Err fault ≡ place_behind cause at end r → place_behind cause at end (then_read r (λ seg rest. behind 0 (λ segs. seg ∷ segs) (segs_read n rest)) bytes) ≡ Err fault
  seg_then_err fault (Found seg len) e = cc
  seg_then_err fault Ends e = sym e
  seg_then_err fault (Wrong p) e = sym e

pub segs_ok : (cause : LexCause) (bytes : List ℕ) (at end next left n : ℕ) → left ≡ n + 1 → next ≡ at + 4 → Ok next ≡ place_behind cause at end (seg_read (drop at bytes)) → place_behind cause at end (segs_read left (drop at bytes)) ≡ place_behind cause next end (segs_read n (drop next bytes))
segs_ok cause bytes at end next left n one four e =
    let d : drop 4 (drop at bytes) ≡ drop next bytes = rw four (drop-drop 4 at bytes) in
    rw (one, add-one) (seg_then_ok cause at end n (drop at bytes) next (seg_read (drop at bytes)) e four ∙ ap (λ l. place_behind cause next end (segs_read n l)) d)

pub segs_err : (cause : LexCause) (bytes : List ℕ) (at end left n : ℕ) (fault : LexFault) → left ≡ n + 1 → Err fault ≡ place_behind cause at end (seg_read (drop at bytes)) → Err fault ≡ place_behind cause at end (segs_read left (drop at bytes))
segs_err cause bytes at end left n fault one e = rw (one, add-one) (sym (seg_then_err cause at end n (drop at bytes) fault (seg_read (drop at bytes)) e))

-- a value made another by a function, so many bytes on
pub placed_with : {V W : Type 0} (cause : LexCause) (at end len : ℕ) (f : V → W) (r : Read V) → placed cause at end (behind len f r) ≡ with_value f (placed cause (at + len) end r)
placed_with cause at end len f (Found v m) = let e : at + (len + m) ≡ at + len + m = omega arith in rw e refl
placed_with cause at end len f Ends = refl
placed_with cause at end len f (Wrong p) = let e : at + (len + p) ≡ at + len + p = omega arith in rw e refl

-- what bytes that pass their tests are
abbrev IsFront : ℕ → List ℕ → Read (List ℕ) → Type 0
IsFront size bytes (Found value len) = (len ≡ size) × (size ≤ length bytes) × (value ≡ take size bytes)
IsFront size bytes Ends = Unit {0}
IsFront size bytes (Wrong p) = Unit {0}

tested_more : (v : Bool) (size b : ℕ) (bytes : List ℕ) (r : Read (List ℕ)) → IsFront size bytes r → IsFront (suc size) (b ∷ bytes) (cond v (behind 1 (λ front. b ∷ front) r) (Wrong 0))
tested_more true size b bytes (Found value len) h = (omega (arith, h.0), omega (arith, h.1), ap (λ l. b ∷ l) h.2)
tested_more true size b bytes Ends h = tt
tested_more true size b bytes (Wrong p) h = tt
tested_more false size b bytes r h = tt

tested_front : (tests : List (ℕ → Bool)) (bytes : List ℕ) → IsFront (length tests) bytes (tested_read tests bytes)
tested_front [] bytes = (refl, omega arith, refl)
tested_front (test ∷ tests) [] = tt
tested_front (test ∷ tests) (b ∷ bytes) = tested_more (test b) (length tests) b bytes (tested_read tests bytes) (tested_front tests bytes)

abbrev AreSegments : List ℕ → Read (List (List ℕ)) → Type 0
AreSegments bytes (Found value len) = value ≡ segments_of (take len bytes)
AreSegments bytes Ends = Unit {0}
AreSegments bytes (Wrong p) = Unit {0}

first_segment : (bytes : List ℕ) (m : ℕ) → 4 ≤ length bytes → take 4 bytes ∷ segments_of (take m (drop 4 bytes)) ≡ segments_of (take (4 + (0 + m)) bytes)
first_segment [] m le = absurd (omega arith)
first_segment (a ∷ []) m le = absurd (omega arith)
first_segment (a ∷ b ∷ []) m le = absurd (omega arith)
first_segment (a ∷ b ∷ c ∷ []) m le = absurd (omega arith)
first_segment (a ∷ b ∷ c ∷ d ∷ more) m le = let e : 4 + (0 + m) ≡ suc (suc (suc (suc m))) = omega arith in rw e refl

segments_behind : (bytes seg : List ℕ) (len : ℕ) (r : Read (List (List ℕ))) → (len ≡ 4) × (4 ≤ length bytes) × (seg ≡ take 4 bytes) → AreSegments (drop 4 bytes) r → AreSegments bytes (behind len (λ w. w) (behind 0 (λ segs. seg ∷ segs) r))
segments_behind bytes seg len (Found value m) h are = rw (h.0, h.2, are) (first_segment bytes m h.1)
segments_behind bytes seg len Ends h are = tt
segments_behind bytes seg len (Wrong p) h are = tt

segments_then : (n : ℕ) (bytes : List ℕ) (r : Read (List ℕ)) → IsFront 4 bytes r → ((rest : List ℕ) → AreSegments rest (segs_read n rest)) → AreSegments bytes (then_read r (λ seg rest. behind 0 (λ segs. seg ∷ segs) (segs_read n rest)) bytes)
segments_then n bytes (Found seg len) h all = segments_behind bytes seg len (segs_read n (drop len bytes)) h (rw h.0 (all (drop 4 bytes)))
segments_then n bytes Ends h all = tt
segments_then n bytes (Wrong p) h all = tt

pub segments_read : (n : ℕ) (bytes : List ℕ) → AreSegments bytes (segs_read n bytes)
segments_read zero bytes = refl
segments_read (suc n) bytes = segments_then n bytes (seg_read bytes) (tested_front seg_tests bytes) (segments_read n)

with_segments : (cause : LexCause) (at end next : ℕ) (bytes : List ℕ) (r : Read (List (List ℕ))) → AreSegments bytes r → place_behind cause at end r ≡ Ok next → placed cause at end r ≡ Ok (segments_of (take (next - at) bytes), next)
with_segments cause at end next bytes (Found value len) are e =
    let n : next ≡ at + len = cc in
    let l : at + len - at ≡ len = omega arith in
    rw (n, l, are) refl
with_segments cause at end next bytes Ends are e = cc
with_segments cause at end next bytes (Wrong p) are e = cc

-- the bytes of segments, by the place behind them
pub segments_placed : (cause : LexCause) (at end next n : ℕ) (bytes : List ℕ) → place_behind cause at end (segs_read n bytes) ≡ Ok next → placed cause at end (segs_read n bytes) ≡ Ok (segments_of (take (next - at) bytes), next)
segments_placed cause at end next n bytes e = with_segments cause at end next bytes (segs_read n bytes) (segments_read n bytes) e

-- a path that its first byte announces
pub path_two : (bytes : List ℕ) (at end : ℕ) → at < length bytes → get_or bytes at 0 ≡ 0x2E → placed BadName at end (path_read (drop at bytes)) ≡ placed BadName (at + 1) end (segs_read 2 (drop (at + 1) bytes))
path_two bytes at end lt e = rw (drop-cons bytes at 0 lt, e, add-one at) (placed_behind BadName at end 1 (segs_read 2 (drop (suc at) bytes)) ∙ rw (add-one at) refl)

pub path_counted : (bytes : List ℕ) (at end : ℕ) → at < length bytes → get_or bytes at 0 ≡ 0x2F → placed BadName at end (path_read (drop at bytes)) ≡ placed BadName (at + 1) end (counted_read (drop (at + 1) bytes))
path_counted bytes at end lt e = rw (drop-cons bytes at 0 lt, e, add-one at) (placed_behind BadName at end 1 (counted_read (drop (suc at) bytes)) ∙ rw (add-one at) refl)

-- a name string by its prefix
pub rooted_at : (bytes : List ℕ) (at : ℕ) → is_rooted (drop at bytes) ≡ true → name_string_at bytes at ≡ with_value (named true 0) (placed BadName (at + 1) (length bytes) (path_read (drop (at + 1) bytes)))
unfolding name_string_at
rooted_at bytes at e = rw (e, drop-drop 1 at bytes) (placed_with BadName at (length bytes) 1 (named true 0) (path_read (drop (at + 1) bytes)))

pub relative_at : (bytes : List ℕ) (at parents : ℕ) → is_rooted (drop at bytes) ≡ false → parents ≡ carets (drop at bytes) → name_string_at bytes at ≡ with_value (named false parents) (placed BadName (at + parents) (length bytes) (path_read (drop (at + parents) bytes)))
unfolding name_string_at
relative_at bytes at parents e n = rw (e, ← n, drop-drop parents at bytes) (placed_with BadName at (length bytes) parents (named false parents) (path_read (drop (at + parents) bytes)))
