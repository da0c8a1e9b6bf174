-- Kinds that are filled up to a number.
use Rattle.std.proofs.Common.{◌≡◌, ℕ, zero, suc, List, [], ◌∷◌, ◌++◌, refl, ap, get_or, map, ◌∙◌}
use Rattle.std.proofs.lemmas.List.{map-append}
use Rattle.aml_objects.specs.declared.width.Width.{Width}
use Rattle.aml_signatures.specs.ArgumentKinds.{cut_to, filled}
use Rattle.aml_signatures.specs.declared.argument_kind.ArgumentKind.{ArgumentKind}
use Rattle.aml_signatures.specs.declared.argument_kind.ArgumentKind.TheVariants.{Int}

filled_more : (count : ℕ) (kinds : List ArgumentKind) → filled (suc count) kinds ≡ filled count kinds ++ (get_or kinds count Int ∷ [])
filled_more zero [] = refl
filled_more zero (kind ∷ kinds) = refl
filled_more (suc count) [] = ap (λ l. Int ∷ l) (filled_more count [])
filled_more (suc count) (kind ∷ kinds) = ap (λ l. kind ∷ l) (filled_more count kinds)

-- one more, cut to a width
pub cut_more : (width : Width) (count : ℕ) (kinds : List ArgumentKind)
    → map (cut_to width) (filled (suc count) kinds) ≡ map (cut_to width) (filled count kinds) ++ (cut_to width (get_or kinds count Int) ∷ [])
cut_more width count kinds = ap (map (cut_to width)) (filled_more count kinds) ∙ map-append (cut_to width) (filled count kinds) (get_or kinds count Int ∷ [])
