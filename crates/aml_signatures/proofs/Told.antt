-- What a map of paths tells once one more is put into it.
use Rattle.std.proofs.Common.{◌≡◌, ℕ, List, Bool, true, false, Option, Some, None, Global, cond, sym, subst, refl, length, codes, inr, ◌∙◌, ap}
use Rattle.std.specs.Prelude.{◌==◌, Vec, is_some, nat_eq, vec_items}
use Rattle.std.specs.List.{starts_with}
use Rattle.std.specs.Option.{option_map}
use Rattle.std.specs.BTreeMap.{BTreeMap, get_by, is_at, UpdatesBy}
use Rattle.std.specs.Cmp.{eq_by_cmp_equiv}
use Rattle.std.specs.Cmp.Lexicographic.{slice_cmp, nat_list_cmp_total, nat_list_eq_equiv}
use Rattle.std.specs.Map.{lookup, IsKeyTest, AreApart, KeepsOthers}
use Rattle.std.specs.Ordering.{is_eq, nat_cmp}
use Rattle.std.specs.declared.cmp.Ordering.{Ordering}
use Rattle.std.specs.Str.{bytes_eq}
use Rattle.std.proofs.lemmas.Map.Text.{is_eq-slice_cmp}
use Rattle.std.proofs.lemmas.Slice.Eq.{bytes_eq-Decides}
use Rattle.aml_signatures.specs.Signed.{kinds_told}
use Rattle.aml_signatures.specs.Text.{AreSignature, LineSigns, words_of}
use Rattle.aml_signatures.specs.declared.argument_kind.ArgumentKind.{ArgumentKind}
use Rattle.aml_signatures.specs.declared.signatures.Signatures.{Signatures}

-- how a path compares to those that are kept
abbrev pub path_cmp : {A : Type 0} → List ℕ → Vec ℕ A → Ordering
path_cmp path key = slice_cmp nat_cmp path (vec_items key)

apart : (path other key : List ℕ) → bytes_eq path other ≡ false → is_eq (slice_cmp nat_cmp path key) ≡ true → is_eq (slice_cmp nat_cmp other key) ≡ false
apart path other key n y =
    is_eq-slice_cmp other key
    ∙ (nat_list_eq_equiv.symm other key ∙ sym (nat_list_eq_equiv.congr path key other (sym (is_eq-slice_cmp path key) ∙ y)) ∙ n)

module _ {K X : Type 0} (eq : K → K → Bool) (test : K → Bool) (old new : List (K × X)) where
  others_kept : KeepsOthers eq test old new → (other : K → Bool) → IsKeyTest eq other → AreApart test other → lookup other new ≡ lookup other old
  unfolding KeepsOthers
  others_kept h = h

module _ {A X : Type 0} (old new : BTreeMap (Vec ℕ A) X) (key : Vec ℕ A) (w : X)
    (updates : UpdatesBy (λ x y. slice_cmp nat_cmp (vec_items x) (vec_items y)) (path_cmp (vec_items key)) old new (Some w)) (path : List ℕ) where
  put_by : (same : Bool) → bytes_eq (vec_items key) path ≡ same → get_by (path_cmp path) new ≡ cond same (Some w) (get_by (path_cmp path) old)
  put_by true same = subst (λ p. get_by (path_cmp p) new ≡ Some w) ((bytes_eq-Decides (vec_items key) path).0 same) updates.1
  put_by false same =
      others_kept _ _ old.entries new.entries updates.3 (is_at (path_cmp path))
      (λ x y. (eq_by_cmp_equiv nat_list_cmp_total).congr path (vec_items x) (vec_items y)) (λ k. apart (vec_items key) path (vec_items k) same)

  pub path_put : get_by (path_cmp path) new ≡ cond (bytes_eq (vec_items key) path) (Some w) (get_by (path_cmp path) old)
  path_put = put_by (bytes_eq (vec_items key) path) refl

untold : {A : Type 0} (o : Option (Vec ArgumentKind A)) → is_some o ≡ false → option_map vec_items o ≡ None
untold None h = refl
untold (Some kinds) h = absurd (cc)

told_by : (same : Bool) (kinds : Vec ArgumentKind Global) (o : Option (Vec ArgumentKind Global))
    → option_map vec_items (cond same (Some kinds) o) ≡ cond same (Some (vec_items kinds)) (option_map vec_items o)
told_by true kinds o = refl
told_by false kinds o = refl

-- a line adds its signature, once that is put into the map
pub signs_put : (line path : List ℕ) (old new : Signatures) (key : Vec ℕ Global) (kinds : Vec ArgumentKind Global)
    → (length line == 0) ≡ false → starts_with nat_eq line (codes "#") ≡ false → AreSignature (words_of line) (record { path = path; kinds = vec_items kinds })
    → is_some (get_by (path_cmp path) old.kinds) ≡ false → vec_items key ≡ path
    → UpdatesBy (λ x y. slice_cmp nat_cmp (vec_items x) (vec_items y)) (path_cmp (vec_items key)) old.kinds new.kinds (Some kinds)
    → LineSigns line (kinds_told old) (kinds_told new)
signs_put line path old new key kinds some counts are free is updates =
    inr (
      rw (some, counts) refl,
      (
        record { path = path; kinds = vec_items kinds },
        are,
        untold _ free,
        λ other.
            ap (option_map vec_items) (path_put old.kinds new.kinds key kinds updates other)
            ∙ (told_by (bytes_eq (vec_items key) other) kinds (get_by (path_cmp other) old.kinds)
            ∙ ap (λ l. cond (bytes_eq l other) (Some (vec_items kinds)) (kinds_told old other)) is),
      ),
    )
