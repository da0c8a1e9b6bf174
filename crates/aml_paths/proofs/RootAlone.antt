-- The root, when no other path is made.
use Rattle.std.proofs.Common.{◌≡◌, ℕ, zero, suc, ◌<◌, ◌≤◌, List, [], ◌∷◌, take, Option, Some, None, refl, sym, ap, ◌∙◌, subst, arith, option_and_then}
use Rattle.std.specs.BTreeMap.{BTreeMap, is_at}
use Rattle.std.specs.Map.{lookup}
use Rattle.std.proofs.lemmas.Option.{same_Some, slice_get_within}
use Rattle.aml_paths.specs.declared.chains.Spot.{Spot}
use Rattle.aml_paths.specs.declared.place.Place.{Place}
use Rattle.aml_paths.specs.Chains.{AreChained, AreLasts, StandsOnChain, number_on_chain, root_spot, spots_of}
use Rattle.aml_paths.specs.Paths.{AreDistinct, Path, number_below, path_number, root}
use Rattle.aml_paths.specs.Trie.{AreNumbered, place_order}
use Rattle.aml_paths.proofs.Chained.{found_on_chain}

abbrev paths : List Path
paths = root ∷ []

abbrev spots : List Spot
spots = root_spot ∷ []

alone : AreDistinct paths
alone zero path is = ap (path_number paths) (sym (same_Some root path is))
alone (suc i) path is = absurd cc

begins : (k : ℕ) → k ≤ 0 → number_on_chain spots 0 k ≡ path_number paths (take k root)
begins zero le = refl
begins (suc k) le = absurd (omega arith)

stands : StandsOnChain paths spots 0 root_spot
stands = record {
  depth = refl;
  within = omega arith;
  top = omega arith;
  top_begins = refl;
  begins = λ k from to. begins k to;
  above = λ k lt. absurd (omega arith);
}

chained : AreChained spots paths
chained zero spot is = subst (λ (s : Spot). StandsOnChain paths spots 0 s) (same_Some root_spot spot is) stands
chained (suc i) spot is = absurd cc

below_nothing : (segment : List ℕ) (n : ℕ) → n < 1 → number_below paths n (segment ∷ []) ≡ None
below_nothing segment zero lt = refl
below_nothing segment (suc n) lt = absurd (omega arith)

unknown : (segment : List ℕ) (top depth : ℕ) (o : Option ℕ) → number_on_chain spots top depth ≡ o → option_and_then (λ (n : ℕ). number_below paths n (segment ∷ [])) o ≡ None
unknown segment top depth None is = refl
unknown segment top depth (Some n) is =
    let found = found_on_chain spots top depth n is in
    below_nothing segment n (slice_get_within spots n found.0 found.1)

pub root_numbered : (numbers : BTreeMap Place ℕ) → numbers.entries ≡ [] → AreNumbered numbers []
root_numbered numbers none = record {
  leads = λ i step is. absurd cc;
  distinct = alone;
  chained = chained;
  known = λ segment top depth. ap (lookup (is_at (place_order (record { segment = segment; top = top; depth = depth })))) none ∙ sym (unknown segment.bytes top depth (number_on_chain spots top depth) refl);
}

pub no_lasts : AreLasts [] (spots_of [])
no_lasts number spot is last = absurd cc
