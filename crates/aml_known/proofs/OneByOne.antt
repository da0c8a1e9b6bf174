-- Slots that are changed one by one.
use Rattle.std.proofs.Common.{◌≡◌, ◌<◌, ◌≤◌, ◌++◌, ℕ, zero, suc, List, [], ◌∷◌, length, get_or, take, drop, set, Bool, refl, ap, arith}
use Rattle.std.specs.Prelude.{if◌then◌else◌}
use Rattle.aml_judged.specs.Known.{Slot, join_slot, join_slots, widened_slot, widened, lower_slot, lower}

-- the joins of what is left, behind those that are made
abbrev pub joined_from : ℕ → List Slot → List Slot → List Slot
joined_from i js ks = take i js ++ join_slots (drop i js) (drop i ks)

pub one_joined : (i : ℕ) (js ks : List Slot) (d j k slot : Slot) → i < length js → i < length ks → get_or js i d ≡ j → get_or ks i d ≡ k → slot ≡ join_slot j k → joined_from (suc i) (set js i slot) ks ≡ joined_from i js ks
one_joined i [] ks d j k slot lt ltk ej ek e = absurd (omega (arith, lt))
one_joined i (x ∷ xs) [] d j k slot lt ltk ej ek e = absurd (omega (arith, ltk))
one_joined zero (x ∷ xs) (y ∷ ys) d j k slot lt ltk ej ek e = rw (ej, ek, e) refl
one_joined (suc i) (x ∷ xs) (y ∷ ys) d j k slot lt ltk ej ek e =
    ap (λ zs. x ∷ zs) (one_joined i xs ys d j k slot (omega (arith, lt)) (omega (arith, ltk)) ej ek e)

-- what is left with its targets in a loop widened, of which the first has a number, behind those that are done
abbrev pub widened_from : (ℕ → Bool) → ℕ → ℕ → ℕ → List Slot → List Slot
widened_from is width m i js = take i js ++ widened is width m (drop i js)

pub one_widened : (is : ℕ → Bool) (width m i : ℕ) (js : List Slot) (d j slot : Slot) → i < length js → get_or js i d ≡ j → slot ≡ (if is m then widened_slot width j else j) → widened_from is width (suc m) (suc i) (set js i slot) ≡ widened_from is width m i js
one_widened is width m i [] d j slot lt ej e = absurd (omega (arith, lt))
one_widened is width m zero (x ∷ xs) d j slot lt ej e = rw (ej, e) refl
one_widened is width m (suc i) (x ∷ xs) d j slot lt ej e =
    ap (λ zs. x ∷ zs) (one_widened is width m i xs d j slot (omega (arith, lt)) ej e)

-- one slot is lowered, where there is such a slot
pub one_lowered : (i most : ℕ) (js : List Slot) (d j slot : Slot) → i < length js → get_or js i d ≡ j → slot ≡ lower_slot j most → set js i slot ≡ lower js i most
one_lowered i most [] d j slot lt ej e = absurd (omega (arith, lt))
one_lowered zero most (x ∷ xs) d j slot lt ej e = rw (ej, e) refl
one_lowered (suc i) most (x ∷ xs) d j slot lt ej e = ap (λ zs. x ∷ zs) (one_lowered i most xs d j slot (omega (arith, lt)) ej e)

pub none_lowered : (i most : ℕ) (js : List Slot) → length js ≤ i → js ≡ lower js i most
none_lowered i most [] le = refl
none_lowered zero most (x ∷ xs) le = absurd (omega (arith, le))
none_lowered (suc i) most (x ∷ xs) le = ap (λ zs. x ∷ zs) (none_lowered i most xs (omega (arith, le)))
