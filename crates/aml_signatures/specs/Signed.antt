-- Signatures as others see them.
use Rattle.std.specs.Prelude.{ℕ, List, Option, map, vec_items}
use Rattle.std.specs.Option.{option_map}
use Rattle.std.specs.Ordering.{nat_cmp}
use Rattle.std.specs.Cmp.Lexicographic.{slice_cmp}
use Rattle.std.specs.BTreeMap.{get_by}
use Rattle.aml_signatures.specs.declared.argument_kind.ArgumentKind.{ArgumentKind}
use Rattle.aml_signatures.specs.declared.signatures.Signatures.{Signatures}

-- the kinds that they tell of the method with this printed path
abbrev pub kinds_told : Signatures → List ℕ → Option (List ArgumentKind)
kinds_told signatures path =
    option_map vec_items (get_by (λ k. slice_cmp nat_cmp path (vec_items k)) signatures.kinds)

-- the paths of which they tell kinds, in the order of their bytes
abbrev pub paths_told : Signatures → List (List ℕ)
paths_told signatures = map vec_items (map (λ e. e.0) signatures.kinds.entries)
