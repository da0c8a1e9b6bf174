-- The elements of packages, listed and counted.
use Rattle.std.proofs.Common.{◌≡◌, ◌≤◌, ◌+◌, ◌-◌, ◌++◌, ◌∙◌, ℕ, zero, suc, List, [], ◌∷◌, map, take, drop, length, refl, sym, ap, arith}
use Rattle.std.specs.Prelude.{replicate}
use Rattle.std.proofs.lemmas.List.{length-map, replicate_more, take-map}
use Rattle.aml_operators.specs.declared.term.Term.{Term}
use Rattle.aml_operators.specs.Tree.{view, views}
use Rattle.aml_paths.specs.declared.scope.Scope.{Scope}
use Rattle.aml_namespace.specs.Load.{Shown}
use Rattle.aml_namespace.proofs.Weights.{weights}
use Rattle.aml_values.specs.declared.value.Element as program
use Rattle.aml_values.specs.Values.{Element, Unset, listed, more, none}
use Rattle.aml_values.specs.Views.{element, elements_of}
use Rattle.aml_contents.specs.FirstContents.{counted, element_in, elements_behind, elements_in}

-- unset elements alone
pub unset_counted : (n : ℕ) → listed (replicate n Unset) ≡ counted n none
unset_counted zero = refl
unset_counted (suc n) = ap (more Unset) (unset_counted n)

counted_listed : (n : ℕ) (es : List Element) → listed (take n es ++ replicate (n - length es) Unset) ≡ counted n (listed es)
counted_listed zero [] = refl
counted_listed zero (e ∷ es) = let nothing : 0 - suc (length es) ≡ 0 = omega arith in rw nothing
counted_listed (suc n) [] = let all : suc n - 0 ≡ suc n = omega arith in rw all (ap (more Unset) (unset_counted n))
counted_listed (suc n) (e ∷ es) =
    let less : suc n - suc (length es) ≡ n - length es = omega arith in rw less (ap (more e) (counted_listed n es))

left_over : (n m : ℕ) (es : List Element) → m ≡ length (take n es) → n - m ≡ n - length es
left_over zero m es is = omega arith
left_over (suc n) m [] is = ap (λ (k : ℕ). suc n - k) is
left_over (suc n) m (e ∷ es) is =
    let rest : n - length (take n es) ≡ n - length es = left_over n (length (take n es)) es refl in omega (arith, is, rest)

-- so many elements of terms, with unset ones behind them
pub counted_elements : (f : Term → Element) (n : ℕ) (ts kept : List Term) (es made : List program.Element) → kept ≡ take n ts → map element es ≡ map f kept → map element made ≡ map element es ++ replicate (n - length es) Unset → elements_of made ≡ counted n (listed (map f ts))
counted_elements f n ts kept es made is each all =
    let first : map element es ≡ take n (map f ts) = each ∙ ap (map f) is ∙ sym (take-map f n ts) in
    let many : length es ≡ length (take n (map f ts)) = sym (length-map es element) ∙ ap length first in
    let left : n - length es ≡ n - length (map f ts) = left_over n (length es) (map f ts) many in
    let whole : map element made ≡ take n (map f ts) ++ replicate (n - length (map f ts)) Unset = all ∙ rw (first, left) in
    ap listed whole ∙ counted_listed n (map f ts)

module _ (ns : Shown) (table : ℕ) (scope : Scope) where
  abbrev element_at : Term → Element
  element_at t = element_in ns table scope (view t)

  elements_listed : (ts : List Term) → elements_in ns table scope (views ts) ≡ listed (map element_at ts)
  elements_listed [] = refl
  elements_listed (t ∷ ts) = ap (more (element_at t)) (elements_listed ts)

  behind_listed : (ts : List Term) → elements_behind ns table scope (views ts) ≡ listed (map element_at (drop 1 ts))
  behind_listed [] = refl
  behind_listed (t ∷ ts) = elements_listed ts

  -- so many elements of a package, behind their number
  pub counted_behind : (n : ℕ) (parts kept : List Term) (es made : List program.Element) → kept ≡ take n (drop 1 parts) → map element es ≡ map element_at kept → map element made ≡ map element es ++ replicate (n - length es) Unset → elements_of made ≡ counted n (elements_behind ns table scope (views parts))
  counted_behind n parts kept es made is each all =
      counted_elements element_at n (drop 1 parts) kept es made is each all ∙ ap (counted n) (sym (behind_listed parts))

weights_taken : (n : ℕ) (ts : List Term) → weights (views (take n ts)) ≤ weights (views ts)
weights_taken zero ts = omega arith
weights_taken (suc n) [] = omega arith
weights_taken (suc n) (t ∷ ts) = let rest = weights_taken n ts in omega (arith, rest)

weights_behind : (ts : List Term) → weights (views (drop 1 ts)) ≤ weights (views ts)
weights_behind [] = omega arith
weights_behind (t ∷ ts) = omega arith

-- some of the terms behind the first weigh no more than all
pub lighter_kept : (n : ℕ) (parts kept : List Term) → kept ≡ take n (drop 1 parts) → weights (views kept) ≤ weights (views parts)
lighter_kept n parts kept is =
    let same = ap (λ (ts : List Term). weights (views ts)) is in
    let taken = weights_taken n (drop 1 parts) in
    let behind = weights_behind parts in
    omega (arith, same, taken, behind)

-- one more unset element behind some
pub unset_more : (n k : ℕ) → k ≤ n → replicate (n - k) Unset ++ Unset ∷ [] ≡ replicate (n + 1 - k) Unset
unset_more n k le = let one : n - k + 1 ≡ n + 1 - k = omega arith in replicate_more (n - k) Unset ∙ ap (λ (m : ℕ). replicate m Unset) one
