-- Where a body's names stand, one count of what names take serves all its statements.
use Rattle.std.proofs.Common.{◌≡◌, ℕ, zero, suc, ◌+◌, ◌≤◌, ◌<◌, List, [], ◌∷◌, ◌++◌, slice_get, Option, Some, None, Bool, true, false, refl, sym, ap, ◌∙◌, subst, arith, option_map, append_assoc}
use Rattle.std.specs.Prelude.{◌||◌, is_some, nat_le, option_and_then, position, if◌then◌else◌}
use Rattle.std.specs.List.{cons_option, list_any}
use Rattle.std.specs.Cmp.{nat_eq_equiv, partial_equiv_from_equiv}
use Rattle.std.specs.Cmp.Lexicographic.{lists_per}
use Rattle.std.proofs.lemmas.Bool.Decides.{nat_tests}
use Rattle.std.proofs.lemmas.List.{append-nil}
use Rattle.std.proofs.lemmas.List.Folds.{list_any-append}
use Rattle.aml_lex.specs.NameStrings.{NameString}
use Rattle.aml_lex.specs.Names.{lone_segment}
use Rattle.aml_lex.specs.declared.names.NameSeg.{NameSeg}
use Rattle.aml_operators.specs.declared.row.Code.TheVariants as code
use Rattle.aml_operators.specs.declared.row.Spot.TheVariants as spot
use Rattle.aml_operators.specs.Tree.{Tree, stop_of}
use Rattle.aml_tree.specs.Body.{AreStatements, greatest_depth, is_own_segment, made_place, owns_behind, same_segment, segment_at, with_made, with_owns}
use Rattle.aml_tree.specs.Grammar.{AreTerms, IsTerm}
use Rattle.aml_tree.specs.OperatorAt.{AgreeWithin}
use Rattle.aml_tree.proofs.Bounds.{term_in}
use Rattle.aml_tree.proofs.SameArity.{term_too}
use Rattle.aml_own_names.specs.declared.own_names.OwnName.{OwnName}
use Rattle.aml_own_names.specs.Laws.{OneCountServes}
use Rattle.aml_own_names.specs.OwnNames.{StandAtTop, own_made, own_names, own_number, standing, with_standing}

abbrev segment_of : List ℕ → NameSeg
segment_of bytes = record { bytes = bytes }

abbrev own_of : ℕ → List ℕ → OwnName
own_of from bytes = record { segment = segment_of bytes; from = from }

abbrev is_of : List ℕ → OwnName → Bool
is_of segment own = same_segment own.segment (segment_of segment)

-- whether a segment's first own name stands at a place, going from name to name
abbrev stands : List OwnName → ℕ → List ℕ → Bool
stands [] at segment = false
stands (own ∷ rest) at segment = if is_of segment own then nat_le own.from at else stands rest at segment

some_if : (b : Bool) (i : ℕ) → is_some (if b then Some i else None) ≡ b
some_if true i = refl
some_if false i = refl

first_found : (p : OwnName → Bool) (x : OwnName) (xs : List OwnName) → p x ≡ true → position p (x ∷ xs) ≡ Some 0
first_found p x xs passes = grind (arith, nat_tests, passes)

found_behind : (p : OwnName → Bool) (x : OwnName) (xs : List OwnName) → p x ≡ false → position p (x ∷ xs) ≡ option_map suc (position p xs)
found_behind p x xs fails = grind (arith, nat_tests, fails)

abbrev place_if : ℕ → ℕ → Option OwnName → Option ℕ
place_if at i slot = option_and_then (λ own. if nat_le own.from at then Some i else None) slot

slot_on : (at i : ℕ) (slot : Option OwnName) → is_some (place_if at (suc i) slot) ≡ is_some (place_if at i slot)
slot_on at i None = refl
slot_on at i (Some own) = some_if (nat_le own.from at) (suc i) ∙ sym (some_if (nat_le own.from at) i)

one_on : (own : OwnName) (rest : List OwnName) (at : ℕ) (i : Option ℕ) → is_some (option_and_then (standing (own ∷ rest) at) (option_map suc i)) ≡ is_some (option_and_then (standing rest at) i)
one_on own rest at None = refl
one_on own rest at (Some i) = slot_on at i (slice_get rest i)

number_by : (own : OwnName) (rest : List OwnName) (at : ℕ) (segment : List ℕ) (b : Bool) → is_of segment own ≡ b → is_some (own_number rest at segment) ≡ stands rest at segment
    → is_some (own_number (own ∷ rest) at segment) ≡ (if b then nat_le own.from at else stands rest at segment)
number_by own rest at segment true is more =
    ap (λ i. is_some (option_and_then (standing (own ∷ rest) at) i)) (first_found (is_of segment) own rest is) ∙ some_if (nat_le own.from at) 0
number_by own rest at segment false is more =
    ap (λ i. is_some (option_and_then (standing (own ∷ rest) at) i)) (found_behind (is_of segment) own rest is)
    ∙ one_on own rest at (position (is_of segment) rest) ∙ more

number_stands : (owns : List OwnName) (at : ℕ) (segment : List ℕ) → is_some (own_number owns at segment) ≡ stands owns at segment
number_stands [] at segment = refl
number_stands (own ∷ rest) at segment = number_by own rest at segment (is_of segment own) refl (number_stands rest at segment)

-- own names that stand at a place, and ones that don't yet
abbrev Earlier : ℕ → List OwnName → Type 0
Earlier at [] = Unit {0}
Earlier at (own ∷ rest) = (own.from ≤ at) × Earlier at rest

abbrev Later : ℕ → List OwnName → Type 0
Later at [] = Unit {0}
Later at (own ∷ rest) = (at < own.from) × Later at rest

earlier_still : (at next : ℕ) (owns : List OwnName) → at ≤ next → Earlier at owns → Earlier next owns
earlier_still at next [] le h = tt
earlier_still at next (own ∷ rest) le h = (omega (arith, le, h.0), earlier_still at next rest le h.1)

later_still : (at next : ℕ) (owns : List OwnName) → at ≤ next → Later next owns → Later at owns
later_still at next [] le h = tt
later_still at next (own ∷ rest) le h = (omega (arith, le, h.0), later_still at next rest le h.1)

earlier_too : (at : ℕ) (owns : List OwnName) (own : OwnName) → Earlier at owns → own.from ≤ at → Earlier at (owns ++ own ∷ [])
earlier_too at [] own h le = (le, tt)
earlier_too at (first ∷ rest) own h le = (h.0, earlier_too at rest own h.1 le)

is_le : (m n : ℕ) → m ≤ n → nat_le m n ≡ true
is_le m n le = grind (arith, nat_tests, le)

not_le : (m n : ℕ) → n < m → nat_le m n ≡ false
not_le m n lt = grind (arith, nat_tests, lt)

later_by : (own : OwnName) (at : ℕ) (b rest : Bool) → at < own.from → rest ≡ false → (if b then nat_le own.from at else rest) ≡ false
later_by own at true rest lt none = not_le own.from at lt
later_by own at false rest lt none = none

none_later : (owns : List OwnName) (at : ℕ) (segment : List ℕ) → Later at owns → stands owns at segment ≡ false
none_later [] at segment h = refl
none_later (own ∷ rest) at segment h = later_by own at (is_of segment own) (stands rest at segment) h.0 (none_later rest at segment h.1)

earlier_by : (own : OwnName) (at : ℕ) (b all front rest : Bool) → own.from ≤ at → all ≡ (front || rest) → (if b then nat_le own.from at else all) ≡ ((b || front) || rest)
earlier_by own at true all front rest le more = is_le own.from at le
earlier_by own at false all front rest le more = more

stands_behind : (front rest : List OwnName) (at : ℕ) (segment : List ℕ) → Earlier at front → stands (front ++ rest) at segment ≡ (list_any (is_of segment) front || stands rest at segment)
stands_behind [] rest at segment h = refl
stands_behind (own ∷ front) rest at segment h =
    earlier_by own at (is_of segment own) (stands (front ++ rest) at segment) (list_any (is_of segment) front) (stands rest at segment) h.0 (stands_behind front rest at segment h.1)

or_false : (b : Bool) → (b || false) ≡ b
or_false true = refl
or_false false = refl

or_swap : (a b : Bool) → (a || b) ≡ (b || (a || false))
or_swap true true = refl
or_swap true false = refl
or_swap false true = refl
or_swap false false = refl

same_sym : (a b : NameSeg) → same_segment a b ≡ same_segment b a
same_sym a b = (lists_per (partial_equiv_from_equiv nat_eq_equiv)).symm a.bytes b.bytes

-- the grammar keeps just the segments of these own names
abbrev Keeps : List NameSeg → List OwnName → Type 0
Keeps kept owns = (segment : List ℕ) → is_own_segment kept (Some segment) ≡ list_any (is_of segment) owns

module _ (kept : List NameSeg) (front : List OwnName) (from : ℕ) where
  abbrev with_one : Option (List ℕ) → List OwnName
  with_one o = front ++ cons_option (option_map (own_of from) o) []

  keeps_one : (o : Option (List ℕ)) → Keeps kept front → Keeps (with_made kept o) (with_one o)
  keeps_one None h segment = h segment ∙ ap (list_any (is_of segment)) (sym (append-nil front))
  keeps_one (Some bytes) h segment =
      ap (λ b. b || is_own_segment kept (Some segment)) (same_sym (segment_of segment) (segment_of bytes))
      ∙ ap (λ b. is_of segment (own_of from bytes) || b) (h segment)
      ∙ or_swap (is_of segment (own_of from bytes)) (list_any (is_of segment) front)
      ∙ sym (list_any-append (is_of segment) front (own_of from bytes ∷ []))

  earlier_one : (o : Option (List ℕ)) → Earlier from front → Earlier from (with_one o)
  earlier_one None h = subst (Earlier from) (sym (append-nil front)) h
  earlier_one (Some bytes) h = earlier_too from front (own_of from bytes) h (omega arith)

  moved : (rest : List OwnName) (o : Option (List ℕ)) → front ++ cons_option (option_map (own_of from) o) rest ≡ with_one o ++ rest
  moved rest None = ap (λ f. f ++ rest) (sym (append-nil front))
  moved rest (Some bytes) = sym (append_assoc front (own_of from bytes ∷ []) rest)

later_one : (at from : ℕ) (rest : List OwnName) (o : Option (List ℕ)) → at < from → Later at rest → Later at (cons_option (option_map (own_of from) o) rest)
later_one at from rest None lt h = h
later_one at from rest (Some bytes) lt h = (lt, h)

module _ (arity : NameString → ℕ → ℕ) (bytes : List ℕ) where
  -- what statements make stands behind the first of them
  all_later : (kept : List NameSeg) (from stop : ℕ) (ts : List Tree) (last : List NameSeg) → AreStatements arity kept bytes from ts stop last → Later from (own_names bytes ts)
  all_later kept from stop [] last h = tt
  all_later kept from stop (t ∷ ts) last h =
      let w = term_in code.Body (with_owns arity kept) greatest_depth from spot.Statement bytes from t h.0 in
      let r = all_later (owns_behind kept bytes t) (stop_of t) stop ts last h.1 in
      later_one from (stop_of t) (own_names bytes ts) (segment_at bytes (made_place t)) w.0 (later_still from (stop_of t) (own_names bytes ts) (omega (arith, w)) r)

  module _ (all : List OwnName) where
    agree_by : (kept : List NameSeg) (at : ℕ) (name : NameString) (o : Option (List ℕ)) → ((segment : List ℕ) → is_own_segment kept (Some segment) ≡ is_some (own_number all at segment))
        → (if is_own_segment kept o then 0 else arity name at) ≡ (if is_some (option_and_then (own_number all at) o) then 0 else arity name at)
    agree_by kept at name None h = refl
    agree_by kept at name (Some segment) h = ap (λ b. if b then 0 else arity name at) (h segment)

    module _ (kept : List NameSeg) (front rest : List OwnName) (whole : all ≡ front ++ rest) (keeps : Keeps kept front) where
      agree : (from stop : ℕ) → Earlier from front → ((at : ℕ) → at < stop → Later at rest) → AgreeWithin (with_owns arity kept) (with_standing arity all) from stop
      agree from stop before behind name at above below = agree_by kept at name (lone_segment name) (λ segment.
          keeps segment
          ∙ sym (or_false (list_any (is_of segment) front))
          ∙ ap (λ b. list_any (is_of segment) front || b) (sym (none_later rest at segment (behind at below)))
          ∙ sym (stands_behind front rest at segment (earlier_still from at front above before))
          ∙ ap (λ owns. stands owns at segment) (sym whole)
          ∙ sym (number_stands all at segment))

    serves : (own : ℕ) (kept : List NameSeg) (front : List OwnName) (from stop : ℕ) (ts : List Tree) (last : List NameSeg)
        → all ≡ front ++ own_names bytes ts → Keeps kept front → Earlier from front → AreStatements arity kept bytes from ts stop last
        → AreTerms (with_standing arity all) (IsTerm code.Body (with_standing arity all) greatest_depth) own spot.Statement bytes from stop ts
    serves own kept front from stop [] last whole keeps before h = h.0
    serves own kept front from stop (t ∷ ts) last whole keeps before h =
        let o = segment_at bytes (made_place t) in
        let w = term_in code.Body (with_owns arity kept) greatest_depth from spot.Statement bytes from t h.0 in
        let r = all_later (owns_behind kept bytes t) (stop_of t) stop ts last h.1 in
        let later : (at : ℕ) → at < stop_of t → Later at (own_names bytes (t ∷ ts)) = λ at lt. later_one at (stop_of t) (own_names bytes ts) o lt (later_still at (stop_of t) (own_names bytes ts) (omega (arith, lt)) r) in (
          term_too (with_owns arity kept) (with_standing arity all) code.Body greatest_depth own spot.Statement bytes from t
              (agree kept front (own_names bytes (t ∷ ts)) whole keeps from (stop_of t) before later) h.0,
          serves own (owns_behind kept bytes t) (with_one kept front (stop_of t) o) (stop_of t) stop ts last
              (whole ∙ moved kept front (stop_of t) (own_names bytes ts) o)
              (keeps_one kept front (stop_of t) o keeps)
              (earlier_one kept front (stop_of t) o (earlier_still from (stop_of t) front (omega (arith, w)) before))
              h.1,
        )

pub one_count_serves : OneCountServes
one_count_serves arity bytes from ts h = serves arity bytes (own_names bytes ts) from [] [] from _ ts h.0 refl (λ segment. refl) tt h.1
