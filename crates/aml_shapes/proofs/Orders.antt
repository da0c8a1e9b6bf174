-- Keys that their order does not tell apart are the same, and found as the same.
use Rattle.std.proofs.Common.{◌≡◌, ℕ, List, [], ◌∷◌, refl, ap, ◌∙◌}
use Rattle.std.specs.declared.cmp.Ordering.{Ordering}
use Rattle.std.specs.declared.cmp.Ordering.TheVariants.{Less, Equal, Greater}
use Rattle.std.specs.BTreeMap.{BTreeMap, get}
use Rattle.std.specs.Ordering.{is_eq, nat_cmp, ordering_then}
use Rattle.std.specs.Cmp.Lexicographic.{slice_cmp}
use Rattle.std.specs.Map.{lookup}
use Rattle.std.proofs.lemmas.Cmp.{tied_itself}
use Rattle.std.proofs.lemmas.Map.Lookups.{exact_unsigned}
use Rattle.aml_shapes.specs.Keys.{IsSameKey, key_order}
use Rattle.aml_shapes.specs.declared.key.Part.{Part}
use Rattle.aml_shapes.specs.declared.key.Part.TheVariants as part
use Rattle.aml_shapes.specs.declared.key.ShapeKey.{ShapeKey}
use Rattle.aml_shapes.specs.contracts.key.PartOrd.TheImpl as part_ord
use Rattle.aml_shapes.specs.contracts.key.ShapeKeyOrd.TheImpl.Laws as key_laws

abbrev part_order : Part → Part → Ordering
part_order = (part_ord.ghosts).cmp

then_first : (x y : Ordering) → ordering_then x y ≡ Equal → x ≡ Equal
then_first Less y e = e
then_first Equal y e = refl
then_first Greater y e = e

then_second : (x y : Ordering) → ordering_then x y ≡ Equal → y ≡ Equal
then_second Less y e = absurd cc
then_second Equal y e = e
then_second Greater y e = absurd cc

part_told : (p q : Part) → part_order p q ≡ Equal → p ≡ q
part_told part.Name part.Name e = refl
part_told (part.Int m) (part.Int n) e = ap part.Int (exact_unsigned m n e)
part_told (part.Buf m) (part.Buf n) e = ap part.Buf (exact_unsigned m n e)
part_told (part.Str m) (part.Str n) e = ap part.Str (exact_unsigned m n e)
part_told (part.Pkg m) (part.Pkg n) e = ap part.Pkg (exact_unsigned m n e)
part_told p q e = absurd cc

parts_told : (ps qs : List Part) → slice_cmp part_order ps qs ≡ Equal → ps ≡ qs
parts_told [] [] e = refl
parts_told [] (q ∷ qs) e = absurd cc
parts_told (p ∷ ps) [] e = absurd cc
parts_told (p ∷ ps) (q ∷ qs) e =
    let first : p ≡ q = part_told p q (then_first (part_order p q) (slice_cmp part_order ps qs) e) in
    let rest : ps ≡ qs = parts_told ps qs (then_second (part_order p q) (slice_cmp part_order ps qs) e) in cc

abbrev order_by : ℕ → List Part → ShapeKey → Ordering
order_by count parts k = ordering_then (nat_cmp count k.places) (slice_cmp part_order parts k.parts.items)

pub order_tells : (a b : ShapeKey) → key_order a b ≡ Equal → IsSameKey a b
order_tells a b e =
    let count = nat_cmp a.places b.places in
    let parts = slice_cmp part_order a.parts.items b.parts.items in
    (exact_unsigned a.places b.places (then_first count parts e), parts_told a.parts.items b.parts.items (then_second count parts e))

order_same : (a b : ShapeKey) → IsSameKey a b → key_order a ≡ key_order b
order_same a b same = ap (λ n. order_by n a.parts.items) same.0 ∙ ap (order_by b.places) same.1

pub order_ties : (a b : ShapeKey) → IsSameKey a b → key_order a b ≡ Equal
order_ties a b same = ap (λ order. order b) (order_same a b same) ∙ tied_itself key_laws.total-law b

pub get_same : (numbers : BTreeMap ShapeKey ℕ) (a b : ShapeKey) → IsSameKey a b → get key_order numbers a ≡ get key_order numbers b
get_same numbers a b same = ap (λ order. lookup (λ k. is_eq (order k)) numbers.entries) (order_same a b same)
