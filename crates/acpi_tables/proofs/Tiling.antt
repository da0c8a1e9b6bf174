-- Structures that fill their bytes are those that a walk finds.
use Rattle.std.proofs.Common.{◌≡◌, ◌+◌, ◌≤◌, ℕ, zero, suc, List, [], ◌∷◌, ◌++◌, length, take, drop, slice_index, arith, refl, ◌∙◌, ap, subst, sym, inl, inr, length-append, length-drop}
use Rattle.std.specs.List.{sum_by}
use Rattle.std.proofs.Math.Seq.{take-append_seam, drop-append_seam}
use Rattle.std.proofs.Math.ListN.{get_or-append}
use Rattle.std.proofs.lemmas.Bool.{cases_Bool}
use Rattle.std.proofs.lemmas.List.{take-append-drop, length-take-le, get_or-take}
use Rattle.std.proofs.lemmas.List.Sums.{sum_by-cons}
use Rattle.acpi_tables.specs.Structure.{layout_size, begins_structure, structures, IsStructure, AreStructures}
use Rattle.acpi_tables.specs.Madt.{structures_end}
use Rattle.acpi_tables.specs.Laws.{StructuresAreFound}
use Rattle.acpi_tables.proofs.Structures.{IsFront, front_true, front_passes, no_structures, first_of_structures, none_short, layout_least}

-- what stands at a front is a structure
front_is : (bytes : List ℕ) → IsFront bytes → IsStructure (take (slice_index bytes 1) bytes)
front_is bytes f =
    let k = slice_index bytes 1 in
    let least : 2 ≤ layout_size (slice_index bytes 0) = layout_least (slice_index bytes 0) in
    let d = f.laid_out in
    let w = f.within in
    let n = length-take-le k bytes w in
    let zeroth = get_or-take k bytes 0 0 (omega arith) in
    let first = get_or-take k bytes 1 0 (omega arith) in
    record {
      least = omega arith;
      told = first ∙ sym n;
      laid_out = rw (n, zeroth) d;
    }

empty : (bytes : List ℕ) → length bytes ≤ 0 → bytes ≡ []
empty [] h = refl
empty (x ∷ xs) h = absurd (omega arith)

-- structures that reach the end are all the bytes
pub filled : (n : ℕ) (bytes : List ℕ) → length bytes ≤ n → sum_by length (structures bytes) ≡ length bytes → AreStructures (structures bytes) bytes
filled zero bytes h e = rw (none_short bytes (omega arith)) (empty bytes h)
filled (suc n) bytes h e =
    elim (cases_Bool (begins_structure bytes)) [
      | inl t ↦
          let f = front_true bytes t in
          let k = slice_index bytes 1 in
          let least : 2 ≤ layout_size (slice_index bytes 0) = layout_least (slice_index bytes 0) in
          let d = f.laid_out in
          let w = f.within in
          let first = first_of_structures bytes f in
          let parts : length (take k bytes) + sum_by length (structures (drop k bytes)) ≡ length bytes =
          sym (sum_by-cons length (take k bytes) (structures (drop k bytes))) ∙ (rw first at e) in
          let behind : length (drop k bytes) ≤ n = omega (arith, length-drop k bytes) in
          let same : sum_by length (structures (drop k bytes)) ≡ length (drop k bytes) =
          omega (arith, length-drop k bytes, length-take-le k bytes w) in
          rw first (front_is bytes f, (drop k bytes, sym (take-append-drop k bytes), filled n (drop k bytes) behind same))
      | inr t ↦
          let none : structures bytes ≡ [] = no_structures bytes (λ f. let p = front_passes bytes f in cc) in
          let z : 0 ≡ length bytes = rw none at e in
          rw none (empty bytes (omega arith))
    ]

-- a structure before other bytes stands at their front
begins : (s rest : List ℕ) → IsStructure s → IsFront (s ++ rest)
begins s rest i =
    let l = i.least in
    let zeroth : slice_index (s ++ rest) 0 ≡ slice_index s 0 = get_or-append s rest 0 0 (omega arith) in
    let first : slice_index (s ++ rest) 1 ≡ slice_index s 1 = get_or-append s rest 0 1 (omega arith) in
    let t = i.told in
    let d = i.laid_out in
    record {
      least = omega (arith, length-append s rest);
      laid_out = rw (zeroth, first, t) d;
      within = omega (arith, length-append s rest);
    }

-- bytes have one division into structures
pub unique : (ss : List (List ℕ)) (bytes : List ℕ) → AreStructures ss bytes → structures bytes ≡ ss
unique [] bytes e = none_short bytes (omega (arith, ap length e))
unique (s ∷ ss) bytes (i, (rest, e, more)) =
    let l = i.least in
    let told : slice_index (s ++ rest) 1 ≡ length s = get_or-append s rest 0 1 (omega arith) ∙ i.told in
    let first = first_of_structures (s ++ rest) (begins s rest i) in
    let split = rw (told, take-append_seam s rest, drop-append_seam s rest) at first in
    ap structures e ∙ (split ∙ ap (λ r. s ∷ r) (unique ss rest more))

-- and it covers them
pub covers : (ss : List (List ℕ)) (bytes : List ℕ) → AreStructures ss bytes → sum_by length ss ≡ length bytes
covers [] bytes e = sym (ap length e)
covers (s ∷ ss) bytes (i, (rest, e, more)) =
    sum_by-cons length s ss ∙ omega (arith, covers ss rest more, ap length e, length-append s rest)

-- so they are all the bytes just where they are found and cover them
pub are_found : StructuresAreFound
are_found ss bytes = (
  λ are. (unique ss bytes are, covers ss bytes are),
  λ (same, all). subst (λ found. AreStructures found bytes) same (filled (length bytes) bytes (omega arith) (ap (sum_by length) same ∙ all)),
)

-- and the structures from 44 on reach the end just where they are all the bytes
pub reaches : (bytes : List ℕ) → 44 ≤ length bytes → (ss : List (List ℕ)) × AreStructures ss (drop 44 bytes) → structures_end bytes ≡ length bytes
reaches bytes h (ss, are) =
    let same = unique ss (drop 44 bytes) are in
    let all : sum_by length (structures (drop 44 bytes)) ≡ length (drop 44 bytes) = ap (sum_by length) same ∙ covers ss (drop 44 bytes) are in
    omega (arith, length-drop 44 bytes)

pub divided : (bytes : List ℕ) → 44 ≤ length bytes → structures_end bytes ≡ length bytes → (ss : List (List ℕ)) × AreStructures ss (drop 44 bytes)
divided bytes h e =
    (structures (drop 44 bytes), filled (length (drop 44 bytes)) (drop 44 bytes) (omega arith) (omega (arith, length-drop 44 bytes)))
