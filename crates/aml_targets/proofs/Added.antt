-- Marks that are added one by one.
use Rattle.std.proofs.Common.{◌≡◌, ◌+◌, ◌<◌, ◌≤◌, ℕ, suc, List, [], ◌∷◌, length, drop, get_or, refl, sym, ap, ◌∙◌, inl, inr, ◌⊎◌, arith, drop-cons, add-one}
use Rattle.std.specs.Prelude.{Bool, true, false, ◌||◌, ◌==◌, slice_set, min}
use Rattle.std.proofs.lemmas.Bool.Decides.{eqb_tells, leb_tells}
use Rattle.std.proofs.lemmas.List.{at_drop_all, drop_all, get_or-set_other, get_or-set_same}
use Rattle.std.proofs.lemmas.Option.{unwrap_or-slice_get}
use Rattle.aml_operators.specs.declared.term.Term.{Term}
use Rattle.aml_operators.specs.declared.row.Letter.{Letter}
use Rattle.aml_operators.specs.Tree.{Trees, none, more, view, views}
use Rattle.aml_meaning.specs.declared.action.Action.{Action}
use Rattle.aml_bounds.specs.Shapes.{is_arg, is_local, lettered}
use Rattle.aml_targets.specs.Marks.{Adds, is_marked}
use Rattle.aml_targets.specs.declared.targets.Targets.{Targets}

or_assoc : (a b c : Bool) → ((a || b) || c) ≡ (a || (b || c))
or_assoc true b c = refl
or_assoc false b c = refl

pub or_false : (a : Bool) → (a || false) ≡ a
or_false true = refl
or_false false = refl

pub views_at : (ts : List Term) (i : ℕ) (t : Term) → i < length ts → t ≡ get_or ts i t → views (drop i ts) ≡ more (view t) (views (drop (i + 1) ts))
views_at ts i t lt e =
    let one : drop i ts ≡ t ∷ drop (i + 1) ts = drop-cons ts i t lt ∙ ap (λ x. x ∷ drop (suc i) ts) (sym e) ∙ ap (λ n. t ∷ drop n ts) (sym (add-one i)) in
    ap views one

no_letters : (is : Action → Bool) (ts : Trees) → lettered is [] ts ≡ false
no_letters is none = refl
no_letters is (more t ts) = refl

no_parts : (is : Action → Bool) (letters : List Letter) → lettered is letters none ≡ false
no_parts is letters = refl

pub adds_nothing : (found : (Action → Bool) → Bool) (t : Targets) → ((is : Action → Bool) → found is ≡ false) → Adds found t t
adds_nothing found t nothing = record {
  locals = λ i lt. sym (ap (λ b. is_marked t.locals i || b) (nothing (is_local i)) ∙ or_false (is_marked t.locals i));
  args = λ i lt. sym (ap (λ b. is_marked t.args i || b) (nothing (is_arg i)) ∙ or_false (is_marked t.args i));
}

pub adds_as : (found other : (Action → Bool) → Bool) (old new : Targets) → ((is : Action → Bool) → found is ≡ other is) → Adds found old new → Adds other old new
adds_as found other old new same adds = record {
  locals = λ i lt. adds.locals i lt ∙ ap (λ b. is_marked old.locals i || b) (same (is_local i));
  args = λ i lt. adds.args i lt ∙ ap (λ b. is_marked old.args i || b) (same (is_arg i));
}

pub adds_both : (first second : (Action → Bool) → Bool) (old mid new : Targets) → Adds first old mid → Adds second mid new → Adds (λ is. first is || second is) old new
adds_both first second old mid new f s = record {
  locals = λ i lt. s.locals i lt ∙ ap (λ b. b || second (is_local i)) (f.locals i lt) ∙ or_assoc (is_marked old.locals i) (first (is_local i)) (second (is_local i));
  args = λ i lt. s.args i lt ∙ ap (λ b. b || second (is_arg i)) (f.args i lt) ∙ or_assoc (is_marked old.args i) (first (is_arg i)) (second (is_arg i));
}

or_true : (a : Bool) → (a || true) ≡ true
or_true true = refl
or_true false = refl

-- one mark more
pub one_marked : (marks : List Bool) (k i : ℕ) → i < length marks → is_marked (slice_set marks k true) i ≡ (is_marked marks i || (k == i))
one_marked marks k i lt = elim (eqb_tells k i) [
  | inl p ↦ unwrap_or-slice_get (slice_set marks k true) i false
      ∙ ap (λ j. get_or (slice_set marks j true) i false) p.1
      ∙ get_or-set_same marks i true false lt
      ∙ sym (ap (λ b. is_marked marks i || b) p.0 ∙ or_true (is_marked marks i))
  | inr p ↦ unwrap_or-slice_get (slice_set marks k true) i false
      ∙ get_or-set_other marks k i true false (λ e. p.1 (sym e))
      ∙ sym (unwrap_or-slice_get marks i false)
      ∙ sym (ap (λ b. is_marked marks i || b) p.0 ∙ or_false (is_marked marks i))
]

-- what is marked, with what is left, is what was marked with what is found
pub record Leaves (left found : (Action → Bool) → Bool) (old new : Targets) : Type 0 where
  pub locals : (i : ℕ) → i < 8 → (is_marked new.locals i || left (is_local i)) ≡ (is_marked old.locals i || found (is_local i))
  pub args : (i : ℕ) → i < 7 → (is_marked new.args i || left (is_arg i)) ≡ (is_marked old.args i || found (is_arg i))

pub leaves_all : (found : (Action → Bool) → Bool) (old : Targets) → Leaves found found old old
leaves_all found old = record { locals = λ i lt. refl; args = λ i lt. refl }

-- one more is marked
pub leaves_less : (first rest left found : (Action → Bool) → Bool) (old mid new : Targets) → ((is : Action → Bool) → left is ≡ (first is || rest is)) → Leaves left found old mid → Adds first mid new → Leaves rest found old new
leaves_less first rest left found old mid new parts leaves adds = record {
  locals = λ i lt.
      ap (λ b. b || rest (is_local i)) (adds.locals i lt)
      ∙ or_assoc (is_marked mid.locals i) (first (is_local i)) (rest (is_local i))
      ∙ ap (λ b. is_marked mid.locals i || b) (sym (parts (is_local i)))
      ∙ leaves.locals i lt;
  args = λ i lt.
      ap (λ b. b || rest (is_arg i)) (adds.args i lt)
      ∙ or_assoc (is_marked mid.args i) (first (is_arg i)) (rest (is_arg i))
      ∙ ap (λ b. is_marked mid.args i || b) (sym (parts (is_arg i)))
      ∙ leaves.args i lt;
}

pub leaves_nothing : (left found : (Action → Bool) → Bool) (old new : Targets) → ((is : Action → Bool) → left is ≡ false) → Leaves left found old new → Adds found old new
leaves_nothing left found old new nothing leaves = record {
  locals = λ i lt.
      sym (ap (λ b. is_marked new.locals i || b) (nothing (is_local i)) ∙ or_false (is_marked new.locals i))
      ∙ leaves.locals i lt;
  args = λ i lt.
      sym (ap (λ b. is_marked new.args i || b) (nothing (is_arg i)) ∙ or_false (is_marked new.args i))
      ∙ leaves.args i lt;
}

pub none_left : (ts : List Term) (i : ℕ) → length ts ≤ i → views (drop i ts) ≡ none
none_left ts i le = at_drop_all views ts i le

-- no letter or no part is left
pub lettered_out : (is : Action → Bool) (letters : List Letter) (ts : List Term) (i : ℕ) → (length letters ≤ i) ⊎ (length ts ≤ i) → lettered is (drop i letters) (views (drop i ts)) ≡ false
lettered_out is letters ts i (inl le) = ap (λ ls. lettered is ls (views (drop i ts))) (drop_all i letters le) ∙ no_letters is (views (drop i ts))
lettered_out is letters ts i (inr le) = ap (lettered is (drop i letters)) (none_left ts i le) ∙ no_parts is (drop i letters)

pub either_short : (a b i : ℕ) → min a b ≤ i → (a ≤ i) ⊎ (b ≤ i)
either_short a b i le = elim (leb_tells a i) [ inl p ↦ inl p.1 | inr p ↦ inr (omega (arith, p.1, le)) ]
