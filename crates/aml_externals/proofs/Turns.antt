-- One more step of a list whose dead Ifs are opened.
use Rattle.std.proofs.Common.{◌≡◌, ℕ, zero, suc, ◌+◌, ◌-◌, ◌*◌, ◌%◌, ◌≤◌, ◌<◌, List, [], ◌++◌, length, take, drop, length-drop, refl, sym, ◌∙◌, arith, append_assoc}
use Rattle.std.specs.Prelude.{slice_set, slice_index}
use Rattle.std.proofs.lemmas.List.{append-nil, take_all, take-append-drop, take-set, drop-set-add, drop-set-lt, drop-drop, drop-take, take-take}
use Rattle.std.proofs.Math.Seq.{take-add, take-set-lt}
use Rattle.std.proofs.Math.ListN.{drop_of_length-le, set}
use Rattle.std.proofs.lemmas.Slice.{take-put_mid, drop-put_mid}
use borrow.Rule.Slice.PartMut.{put_mid, mid_of}
use Rattle.aml_externals.specs.declared.step.Step.TheVariants.{Dead, Enter, Over, Stop}
use Rattle.aml_externals.specs.DeadIfs.{dead_end}
use Rattle.aml_externals.specs.Steps.{step_of}
use Rattle.aml_externals.specs.Table.{with_checksum}
use Rattle.aml_externals.specs.Opened.{Opened, kept, joined, entered, opened_until, opened}

pub joined_associates : (a b c : Opened) → joined a (joined b c) ≡ joined (joined a b) c
joined_associates a b c =
    let e : a.0 ++ (b.0 ++ c.0) ≡ (a.0 ++ b.0) ++ c.0 = sym (append_assoc a.0 b.0 c.0) in
    let f : a.1 + (b.1 + c.1) ≡ (a.1 + b.1) + c.1 = omega arith in
    rw (e, f)

pub joined_first : (r : Opened) → joined ([], 0) r ≡ r
joined_first r = let e : 0 + r.1 ≡ r.1 = omega arith in rw e

-- what stands from a place on, as code lends it
pub part_is : (list : List ℕ) (at : ℕ) → take (length list - at) (drop at list) ≡ drop at list
part_is list at = take_all (length list - at) (drop at list) (omega (arith, length-drop {A = ℕ}))

-- a list within a definition, as code lends it
pub inside_is : (list : List ℕ) (at from size : ℕ) → from ≤ size → drop from (take size (drop at list)) ≡ take (at + size - (at + from)) (drop (at + from) list)
inside_is list at from size le =
    let k : ℕ = at + size - (at + from) in
    let s : from + k ≡ size = omega arith in
    rw (s, drop-drop from at list) at (drop-take from k (drop at list))

-- nothing stands in no bytes
pub step_of_none : (d : ℕ) → step_of d [] ≡ Stop
unfolding step_of dead_end
step_of_none d = refl

-- a list's depth is one above that of its definitions' lists
pub opened_deep : (d : ℕ) (bytes : List ℕ) → 0 < d → opened d bytes ≡ opened_until (opened (d - 1)) d (length bytes) bytes
unfolding opened
opened_deep zero bytes lt = absurd (omega arith)
opened_deep (suc d) bytes lt = let e : suc d - 1 ≡ d = omega arith in rw e

pub opened_flat : (bytes : List ℕ) → opened 0 bytes ≡ (bytes, 0)
unfolding opened
opened_flat bytes = refl

module _ (below : List ℕ → Opened) where
  -- a list ends where no definition stands
  pub until_stop : (d n : ℕ) (list : List ℕ) → step_of d list ≡ Stop → opened_until below d n list ≡ kept list
  until_stop d zero list e = refl
  until_stop d (suc n) list e = rw e

  pub stop_on : (d n : ℕ) (list : List ℕ) (at count : ℕ) (whole : Opened) → step_of d (drop at list) ≡ Stop
      → whole ≡ joined (take at list, count) (opened_until below d n (drop at list)) → (list, count) ≡ whole
  stop_on d n list at count whole is e =
      let u : opened_until below d n (drop at list) ≡ kept (drop at list) = until_stop d n (drop at list) is in
      let f : whole ≡ (take at list ++ drop at list, count + 0) = rw u at e in
      let g : count + 0 ≡ count = omega arith in
      sym (rw (take-append-drop at list, g) at f)

  pub end_on : (d n : ℕ) (list : List ℕ) (at count : ℕ) (whole : Opened) → length list ≤ at
      → whole ≡ joined (take at list, count) (opened_until below d n (drop at list)) → (list, count) ≡ whole
  end_on d n list at count whole le e =
      let none : drop at list ≡ [] = drop_of_length-le list le in
      (let is : step_of d (drop at list) ≡ Stop = rw none (step_of_none d) in stop_on d n list at count whole is e)

  pub over_on : (d n : ℕ) (list : List ℕ) (at count size : ℕ) (whole : Opened) → step_of d (drop at list) ≡ Over size → 0 < size → at < length list → length list ≤ at + n
      → whole ≡ joined (take at list, count) (opened_until below d n (drop at list))
      → (m : ℕ) × (length list ≤ at + size + m) × (whole ≡ joined (take (at + size) list, count) (opened_until below d m (drop (at + size) list)))
  over_on d zero list at count size whole is ahead within le e = absurd (omega arith)
  over_on d (suc m) list at count size whole is ahead within le e =
      let f : whole ≡ joined (take at list, count) (joined (take size (drop at list), 0) (opened_until below d m (drop size (drop at list)))) = rw is at e in
      let z : count + 0 ≡ count = omega arith in
      let t : take (at + size) list ≡ take at list ++ take size (drop at list) = take-add at size list in
      let u : drop (at + size) list ≡ drop size (drop at list) = sym (drop-drop size at list) in
      (m, omega arith, rw (t, u, ← z) (f ∙ joined_associates (take at list, count) (take size (drop at list), 0) (opened_until below d m (drop size (drop at list)))))

  pub dead_on : (d n : ℕ) (list : List ℕ) (at count size : ℕ) (whole : Opened) → step_of d (drop at list) ≡ Dead size → 0 < size → at < length list → length list ≤ at + n
      → whole ≡ joined (take at list, count) (opened_until below d n (drop at list))
      → (m : ℕ) × (length list ≤ at + size + m) × (whole ≡ joined (take (at + size) (slice_set list at 16), count + 1) (opened_until below d m (drop (at + size) (slice_set list at 16))))
  dead_on d zero list at count size whole is ahead within le e = absurd (omega arith)
  dead_on d (suc m) list at count size whole is ahead within le e =
      let f : whole ≡ joined (take at list, count) (joined (set (take size (drop at list)) 0 16, 1) (opened_until below d m (drop size (drop at list)))) = rw is at e in
      let here : at + 0 ≡ at = omega arith in
      let w : drop at (set list at 16) ≡ set (drop at list) 0 16 = rw here at (drop-set-add at list 0 16) in
      let t : take (at + size) (set list at 16) ≡ take at list ++ set (take size (drop at list)) 0 16 =
      take-add at size (set list at 16) ∙ rw (take-set list at 16, w, take-set-lt size (drop at list) 0 16 ahead) in
      let b : at < at + size = omega arith in
      let u : drop (at + size) (set list at 16) ≡ drop size (drop at list) = drop-set-lt (at + size) list at 16 b ∙ sym (drop-drop size at list) in
      (m, omega arith, rw (t, u) (f ∙ joined_associates (take at list, count) (set (take size (drop at list)) 0 16, 1) (opened_until below d m (drop size (drop at list)))))

  pub enter_on : (d n : ℕ) (list inner : List ℕ) (at count more from size : ℕ) (whole : Opened) → step_of d (drop at list) ≡ Enter from size → 0 < size → from ≤ size → at + size ≤ length list → length list ≤ at + n
      → length inner ≡ at + size - (at + from)
      → (inner, more) ≡ below (mid_of (at + from) (at + size - (at + from)) list)
      → whole ≡ joined (take at list, count) (opened_until below d n (drop at list))
      → (m : ℕ) × (length list ≤ at + size + m) × (whole ≡ joined (take (at + size) (put_mid (at + from) (at + size - (at + from)) list inner), count + more) (opened_until below d m (drop (at + size) (put_mid (at + from) (at + size - (at + from)) list inner))))
  enter_on d zero list inner at count more from size whole is ahead inside within le same opens e = absurd (omega arith)
  enter_on d (suc m) list inner at count more from size whole is ahead inside within le same opens e =
      let k : ℕ = at + size - (at + from) in
      let rest : Opened = opened_until below d m (drop size (drop at list)) in
      let front : take from (take size (drop at list)) ≡ take from (drop at list) = take-take from size (drop at list) inside in
      let f : whole ≡ joined (take at list, count) (joined (joined (take from (take size (drop at list)), 0) (below (drop from (take size (drop at list))))) rest) = rw is at e in
      let mid : drop from (take size (drop at list)) ≡ take k (drop (at + from) list) = inside_is list at from size inside in
      let g : whole ≡ joined (take at list, count) (joined (joined (take from (drop at list), 0) (inner, more)) rest) = rw (front, mid, ← opens) at f in
      let z : count + (0 + more) ≡ count + more = omega arith in
      let t : take (at + size) (put_mid (at + from) k list inner) ≡ take at list ++ (take from (drop at list) ++ inner) =
      take-put_mid (at + from) k list inner (at + size) (omega arith) (omega arith) ∙ rw (take-add at from list) (append_assoc (take at list) (take from (drop at list)) inner) in
      let u : drop (at + size) (put_mid (at + from) k list inner) ≡ drop size (drop at list) =
      drop-put_mid (at + from) k list inner (at + size) (omega arith) (omega arith) same ∙ sym (drop-drop size at list) in
      (m, omega arith, rw (t, u, ← z) (g ∙ joined_associates (take at list, count) (joined (take from (drop at list), 0) (inner, more)) rest))

-- a list that is the rest of a table, changed
pub whole_part : (at : ℕ) (old new : List ℕ) → put_mid at (length old - at) old new ≡ take at old ++ new
whole_part at old new =
    let none : drop (length old - at) (drop at old) ≡ [] = drop_of_length-le (drop at old) (omega (arith, length-drop {A = ℕ})) in
    rw (none, append-nil new)

-- a table whose rest was changed
pub module_on : (f : List ℕ → Opened) (at : ℕ) (old new : List ℕ) (count raised : ℕ) → (new, count) ≡ f (take (length old - at) (drop at old))
    → raised ≡ (slice_index (put_mid at (length old - at) old new) 9 + 0x90 * count) % 256
    → (slice_set (put_mid at (length old - at) old new) 9 raised, count) ≡ with_checksum (entered f at old)
module_on f at old new count raised gives is =
    let part = part_is old at in
    let q : f (drop at old) ≡ (new, count) = sym (rw part at gives) in
    let w : put_mid at (length old - at) old new ≡ take at old ++ new = whole_part at old new in
    let z : 0 + count ≡ count = omega arith in
    let e : slice_set (put_mid at (length old - at) old new) 9 raised ≡ slice_set (take at old ++ new) 9 ((slice_index (take at old ++ new) 9 + 0x90 * count) % 256) = rw (is, w) refl in
    rw (q, z, e) refl
