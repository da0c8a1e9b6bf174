-- Joins of kinds: their order makes no difference.
use Rattle.std.proofs.Common.{◌≡◌, ℕ, ◌==◌, max, Bool, true, false, ap, refl, sym, ◌∙◌, subst, arith}
use Rattle.aml_values.proofs.Same.{same_number, number_same}
use Rattle.aml_kinds.specs.Kinds.{Kind, IntUpTo, BufOf, StrOf, PkgOf, AnyPkg, Mixed, Shape}
use Rattle.aml_kinds.specs.SameKinds.{same_shape}
use Rattle.aml_kinds.specs.Joins.{join, if_same}
use Rattle.aml_kinds.proofs.SameKinds.{same_shape-equal, shape_same}

-- of two choices that are made together, for one kind
either_way : (a b : Bool) (j k other : Kind) → (a ≡ true → b ≡ true) → (b ≡ true → a ≡ true) → (a ≡ true → j ≡ k) → if_same a j other ≡ if_same b k other
either_way true true j k other f g h = h refl
either_way true false j k other f g h = let wrong : false ≡ true = f refl in cc
either_way false true j k other f g h = let wrong : false ≡ true = g refl in cc
either_way false false j k other f g h = refl

number_back : (m n : ℕ) → (m == n) ≡ true → (n == m) ≡ true
number_back m n e = subst (λ x. (x == m) ≡ true) (same_number m n e) (number_same m)

shape_back : (s t : Shape) → same_shape s t ≡ true → same_shape t s ≡ true
shape_back s t e = subst (λ x. same_shape x s ≡ true) (same_shape-equal s t e) (shape_same s)

any_right : (j : Kind) → join j AnyPkg ≡ join AnyPkg j
any_right (IntUpTo m) = refl
any_right (BufOf m) = refl
any_right (StrOf m) = refl
any_right (PkgOf s) = refl
any_right AnyPkg = refl
any_right Mixed = refl

mixed_right : (j : Kind) → join j Mixed ≡ Mixed
mixed_right (IntUpTo m) = refl
mixed_right (BufOf m) = refl
mixed_right (StrOf m) = refl
mixed_right (PkgOf s) = refl
mixed_right AnyPkg = refl
mixed_right Mixed = refl

pub join_comm : (j k : Kind) → join j k ≡ join k j
join_comm (IntUpTo m) (IntUpTo n) = let e : max m n ≡ max n m = omega arith in ap IntUpTo e
join_comm (BufOf m) (BufOf n) =
    either_way (m == n) (n == m) (BufOf m) (BufOf n) Mixed (number_back m n) (number_back n m) (λ e. ap BufOf (same_number m n e))
join_comm (StrOf m) (StrOf n) =
    either_way (m == n) (n == m) (StrOf m) (StrOf n) Mixed (number_back m n) (number_back n m) (λ e. ap StrOf (same_number m n e))
join_comm (PkgOf s) (PkgOf t) =
    either_way (same_shape s t) (same_shape t s) (PkgOf s) (PkgOf t) AnyPkg (shape_back s t) (shape_back t s) (λ e. ap PkgOf (same_shape-equal s t e))
join_comm j (IntUpTo n) = refl
join_comm j (BufOf n) = refl
join_comm j (StrOf n) = refl
join_comm j (PkgOf t) = refl
join_comm j AnyPkg = any_right j
join_comm j Mixed = mixed_right j

-- a choice made before a join
left : (b : Bool) (j other k : Kind) → join (if_same b j other) k ≡ if_same b (join j k) (join other k)
left true j other k = refl
left false j other k = refl

right : (b : Bool) (i j other : Kind) → join i (if_same b j other) ≡ if_same b (join i j) (join i other)
right true i j other = refl
right false i j other = refl

-- a choice of what is the same either way
no_choice : (b : Bool) (k : Kind) → if_same b k k ≡ k
no_choice true k = refl
no_choice false k = refl

-- two choices, of which the second counts just where the first was made
chosen_twice : (a b c : Bool) (j other : Kind) → (a ≡ true → c ≡ b) → if_same a (if_same c j other) other ≡ if_same b (if_same a j other) other
chosen_twice true b c j other h = ap (λ x. if_same x j other) (h refl)
chosen_twice false b c j other h = sym (no_choice b other)

-- the same where the third is any package
assoc_any : (i j : Kind) → join (join i j) AnyPkg ≡ join i (join j AnyPkg)
assoc_any (IntUpTo l) (IntUpTo m) = refl
assoc_any (IntUpTo l) j = refl
assoc_any (BufOf l) (BufOf m) = left (l == m) (BufOf l) Mixed AnyPkg ∙ no_choice (l == m) Mixed
assoc_any (BufOf l) j = refl
assoc_any (StrOf l) (StrOf m) = left (l == m) (StrOf l) Mixed AnyPkg ∙ no_choice (l == m) Mixed
assoc_any (StrOf l) j = refl
assoc_any (PkgOf r) (PkgOf s) =
    left (same_shape r s) (PkgOf r) AnyPkg AnyPkg ∙ no_choice (same_shape r s) AnyPkg
assoc_any (PkgOf r) j = refl
assoc_any AnyPkg (PkgOf s) = refl
assoc_any AnyPkg j = refl
assoc_any Mixed j = refl

pub join_assoc : (i j k : Kind) → join (join i j) k ≡ join i (join j k)
join_assoc AnyPkg j k =
    join_comm (join AnyPkg j) k ∙ ap (join k) (sym (any_right j)) ∙ sym (assoc_any k j) ∙ any_right (join k j) ∙ ap (join AnyPkg) (join_comm k j)
join_assoc (IntUpTo l) (IntUpTo m) (IntUpTo n) =
    let e : max (max l m) n ≡ max l (max m n) = omega arith in ap IntUpTo e
join_assoc (BufOf l) (BufOf m) (BufOf n) =
    left (l == m) (BufOf l) Mixed (BufOf n) ∙ chosen_twice (l == m) (m == n) (l == n) (BufOf l) Mixed (λ e. ap (λ x. x == n) (same_number l m e)) ∙ sym (right (m == n) (BufOf l) (BufOf m) Mixed)
join_assoc (BufOf l) (BufOf m) k = left (l == m) (BufOf l) Mixed k ∙ no_choice (l == m) Mixed
join_assoc i (BufOf m) (BufOf n) = sym (right (m == n) i (BufOf m) Mixed ∙ no_choice (m == n) Mixed)
join_assoc (StrOf l) (StrOf m) (StrOf n) =
    left (l == m) (StrOf l) Mixed (StrOf n) ∙ chosen_twice (l == m) (m == n) (l == n) (StrOf l) Mixed (λ e. ap (λ x. x == n) (same_number l m e)) ∙ sym (right (m == n) (StrOf l) (StrOf m) Mixed)
join_assoc (StrOf l) (StrOf m) k = left (l == m) (StrOf l) Mixed k ∙ no_choice (l == m) Mixed
join_assoc i (StrOf m) (StrOf n) = sym (right (m == n) i (StrOf m) Mixed ∙ no_choice (m == n) Mixed)
join_assoc (PkgOf r) (PkgOf s) (PkgOf t) =
    left (same_shape r s) (PkgOf r) AnyPkg (PkgOf t) ∙ chosen_twice (same_shape r s) (same_shape s t) (same_shape r t) (PkgOf r) AnyPkg (λ e. ap (λ x. same_shape x t) (same_shape-equal r s e)) ∙ sym (right (same_shape s t) (PkgOf r) (PkgOf s) AnyPkg)
join_assoc i j AnyPkg = assoc_any i j
join_assoc (PkgOf r) (PkgOf s) k =
    left (same_shape r s) (PkgOf r) AnyPkg k ∙ no_choice (same_shape r s) Mixed
join_assoc i (PkgOf s) (PkgOf t) =
    sym (right (same_shape s t) i (PkgOf s) AnyPkg ∙ no_choice (same_shape s t) Mixed)
join_assoc i j (IntUpTo n) = refl
join_assoc i j (BufOf n) = refl
join_assoc i j (StrOf n) = refl
join_assoc i j (PkgOf t) = refl
join_assoc i j Mixed = mixed_right (join i j) ∙ sym (ap (join i) (mixed_right j) ∙ mixed_right i)

pub join_same : (k : Kind) → join k k ≡ k
join_same (IntUpTo n) = let e : max n n ≡ n = omega arith in ap IntUpTo e
join_same (BufOf n) = ap (λ b. if_same b (BufOf n) Mixed) (number_same n)
join_same (StrOf n) = ap (λ b. if_same b (StrOf n) Mixed) (number_same n)
join_same (PkgOf s) = ap (λ b. if_same b (PkgOf s) AnyPkg) (shape_same s)
join_same AnyPkg = refl
join_same Mixed = refl
