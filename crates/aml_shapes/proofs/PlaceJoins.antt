-- What all places of a shape are joined to, from the last to the first.
use Rattle.std.proofs.Common.{◌≡◌, ◌<◌, ◌≤◌, ◌+◌, ◌-◌, ℕ, zero, suc, List, ◌∷◌, length, drop, get_or, Option, Some, None, refl, sym, ap, ◌∙◌, arith}
use Rattle.std.specs.Option.{option_map}
use Rattle.std.proofs.lemmas.List.{drop_all, drop_more}
use Rattle.aml_kinds.specs.Kinds.{Shape, bare, Anything}
use Rattle.aml_contents.specs.DataKinds.{counted_places}
use Rattle.aml_known.specs.Views.{AreApart, element_kind_of}
use Rattle.aml_judged.specs.KindRules.{joined_places, joined_with}
use Rattle.aml_shapes.specs.Keys.{part_kind, shape_with}
use Rattle.aml_known.specs.declared.known.ElementKnown.{ElementKnown}
use Rattle.aml_known.specs.declared.known.ElementKnown.TheVariants as element
use Rattle.aml_shapes.specs.declared.key.Part.{Part}

-- what the places from a number on are joined to
abbrev pub JoinsFrom : Option ElementKnown → ℕ → List Part → ℕ → Type 0
JoinsFrom joined count parts i =
    (shapes : ℕ → Shape) → AreApart shapes → option_map (element_kind_of shapes) joined ≡ joined_places (shape_with shapes (count - i) (drop i parts))

unset_joined : (n : ℕ) → joined_places (counted_places (suc n) bare) ≡ Some Anything
unset_joined zero = refl
unset_joined (suc n) = ap (λ e. Some (joined_with Anything e)) (unset_joined n)

from_past : (count : ℕ) (parts : List Part) (i : ℕ) (shapes : ℕ → Shape) → length parts ≤ i → shape_with shapes (count - i) (drop i parts) ≡ counted_places (count - i) bare
from_past count parts i shapes le = ap (shape_with shapes (count - i)) (drop_all i parts le)

pub from_full : (count : ℕ) (parts : List Part) (i : ℕ) → length parts ≤ i → i ≡ count → JoinsFrom None count parts i
from_full count parts i le is shapes are =
    let none : 0 ≡ count - i = omega arith in
    ap (λ n. joined_places (counted_places n bare)) none ∙ sym (ap joined_places (from_past count parts i shapes le))

pub from_unset : (count : ℕ) (parts : List Part) (i : ℕ) → length parts ≤ i → i < count → JoinsFrom (Some element.Unset) count parts i
from_unset count parts i le lt shapes are =
    let some : suc (count - i - 1) ≡ count - i = omega arith in
    sym (unset_joined (count - i - 1)) ∙ ap (λ n. joined_places (counted_places n bare)) some ∙ sym (ap joined_places (from_past count parts i shapes le))

-- one place more, before the others
pub from_more : (count : ℕ) (parts : List Part) (i : ℕ) (d p : Part) (joined : Option ElementKnown) (known first : ElementKnown) → i < length parts → i < count → p ≡ get_or parts i d
    → ((shapes : ℕ → Shape) → element_kind_of shapes first ≡ part_kind shapes p)
    → ((shapes : ℕ → Shape) → AreApart shapes → element_kind_of shapes known ≡ joined_with (element_kind_of shapes first) (option_map (element_kind_of shapes) joined))
    → JoinsFrom joined count parts (i + 1) → JoinsFrom (Some known) count parts i
from_more count parts i d p joined known first there lt is first_is known_is rest shapes are =
    let here : drop i parts ≡ p ∷ drop (i + 1) parts = drop_more parts i d there ∙ ap (λ q. q ∷ drop (i + 1) parts) (sym is) in
    let less : count - i ≡ suc (count - (i + 1)) = omega arith in
    let inner = shape_with shapes (count - (i + 1)) (drop (i + 1) parts) in
    ap Some (known_is shapes are ∙ ap (λ e. joined_with e (option_map (element_kind_of shapes) joined)) (first_is shapes) ∙ ap (joined_with (part_kind shapes p)) (rest shapes are))
    ∙ sym (ap (λ n. joined_places (shape_with shapes n (drop i parts))) less ∙ ap (λ ps. joined_places (shape_with shapes (suc (count - (i + 1))) ps)) here)
