-- Kinds of integers, one by one.
use Rattle.std.proofs.Common.{◌≡◌, ◌+◌, ◌<◌, ◌≤◌, ℕ, List, ◌∷◌, length, drop, Option, Some, None, refl, sym, ap, ◌∙◌, drop-cons, add-one}
use Rattle.std.specs.Prelude.{true, false, ◌&&◌, nat_le, slice_index_or}
use Rattle.std.proofs.lemmas.List.{at_drop_all}
use Rattle.aml_kinds.specs.Kinds.{Shape}
use Rattle.aml_known.specs.declared.known.Known.{Known}
use Rattle.aml_known.specs.Views.{kind_of, kinds_of}
use Rattle.aml_judged.specs.Integers.{are_integers, is_integer}

-- the first of the kinds that are left, and those behind it
pub next_integer : (shapes : ℕ → Shape) (ks : List Known) (i : ℕ) (d : Known) → i < length ks → are_integers (kinds_of shapes (drop i ks)) ≡ (is_integer (Some (kind_of shapes (slice_index_or ks i d))) && are_integers (kinds_of shapes (drop (i + 1) ks)))
next_integer shapes ks i d lt =
    ap (λ js. are_integers (kinds_of shapes js)) (drop-cons ks i d lt ∙ ap (λ n. slice_index_or ks i d ∷ drop n ks) (sym (add-one i)))

pub none_left : (shapes : ℕ → Shape) (ks : List Known) (i : ℕ) → length ks ≤ i → are_integers (kinds_of shapes (drop i ks)) ≡ true
none_left shapes ks i le = at_drop_all (λ js. are_integers (kinds_of shapes js)) ks i le
