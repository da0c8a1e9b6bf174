-- The kinds that data names have by what they hold first.
use Rattle.std.proofs.Common.{◌≡◌, ◌<◌, ◌+◌, ◌++◌, ℕ, List, [], ◌∷◌, Option, map, take, length, refl, sym, ap, ◌∙◌}
use Rattle.std.specs.Option.{option_map}
use Rattle.std.proofs.lemmas.List.{map_push}
use Rattle.aml_objects.specs.Entries.{object_at}
use Rattle.aml_namespace.specs.Load.{Shown}
use Rattle.aml_kinds.specs.Kinds.{Shape}
use Rattle.aml_contents.specs.DataKinds.{object_kind}
use Rattle.aml_contents.specs.FirstContents.{first_content}
use Rattle.aml_contents.proofs.DataKinds.{object_told}
use Rattle.aml_contents.proofs.FirstNames.{kinds_in, kinds_next}
use Rattle.aml_known.specs.declared.known.Known.{Known}
use Rattle.aml_known.specs.Views.{kind_of}
use Rattle.aml_shapes.specs.Numbers.{AreKnown, Keeps, numbered}
use Rattle.aml_shapes.proofs.Grown.{all_stay}

-- one object more, while the shapes grow
pub objects_more : (ns : Shown) (old new : List Shape) (i : ℕ) (ks : List (Option Known)) (k : Option Known) → i < length ns.entries → Keeps old new → AreKnown (length old) ks → map (option_map (kind_of (numbered old))) ks ≡ kinds_in ns (take i ns.entries) → option_map (kind_of (numbered new)) k ≡ object_kind ns (object_at ns.entries i) → map (option_map (kind_of (numbered new))) (ks ++ k ∷ []) ≡ kinds_in ns (take (i + 1) ns.entries)
objects_more ns old new i ks k there keeps are before this =
    let kinds = map (option_map (kind_of (numbered old))) ks in
    kinds_next ns i kinds (map (option_map (kind_of (numbered new))) (ks ++ k ∷ [])) (first_content ns (object_at ns.entries i)) there before refl
    (map_push (option_map (kind_of (numbered new))) ks k
    ∙ ap (λ es. es ++ option_map (kind_of (numbered new)) k ∷ []) (all_stay old new keeps ks are)
    ∙ ap (λ e. kinds ++ e ∷ []) (this ∙ sym (object_told ns (object_at ns.entries i))))
