-- The answers of searches that are kept.
use Rattle.std.proofs.Common.{◌≡◌, ℕ, List, [], ◌∷◌, ◌++◌, slice_get, Option, Some, Result, Ok, Err, OnOk, Bool, true, false, refl, sym, ap, ◌∙◌, arith}
use Rattle.std.specs.Prelude.{OnErr}
use Rattle.std.specs.Ordering.{nat_cmp}
use Rattle.std.specs.BTreeMap.{BTreeMap, IsUnchanged, Updates, get, is_at}
use Rattle.std.specs.Map.{lookup}
use Rattle.std.proofs.lemmas.Bool.{eqb-false, eqb-true}
use Rattle.std.proofs.lemmas.Bool.Decides.{nat_tests}
use Rattle.std.proofs.lemmas.List.{same_from_push}
use Rattle.std.proofs.lemmas.Option.{same_Some}
use Rattle.std.proofs.Math.Dec.{eqb}
use Rattle.aml_arities.specs.declared.counted.Counted.{Counted}
use Rattle.aml_paths.specs.declared.paths.Step.{Step}
use Rattle.aml_arities.specs.Answered.{AreAnswers, IsAnswerAt}
use Rattle.aml_arities.specs.Counted.{all_paths, told}
use Rattle.aml_paths.specs.Paths.{Path, path_at}
use Rattle.aml_paths.specs.Resolve.{upward_search}
use Rattle.aml_paths.specs.Trie.{path_of}

module _ (c : Counted) where
  -- the answer at a path is that of the search from the path above it
  pub answer_at : (n : ℕ) (step : Step) → slice_get (all_paths c) n ≡ Some (path_of (all_paths c) step)
      → IsAnswerAt c n (upward_search (told c) (path_at (all_paths c) step.parent) step.segment.bytes)
  answer_at n step leads = λ path segment at.
      let above = path_at (all_paths c) step.parent in
      let same = same_from_push above path step.segment.bytes segment (same_Some (path_of (all_paths c) step) (path ++ segment ∷ []) (sym leads ∙ at)) in
      sym (ap (λ (p : Path). upward_search (told c) p step.segment.bytes) same.0 ∙ ap (upward_search (told c) path) same.1)

  module _ (old new : BTreeMap ℕ (Option ℕ)) (right : AreAnswers c old) where
    same_answers : IsUnchanged old new → AreAnswers c new
    same_answers same = λ n kept got. right n kept (sym (ap (λ (es : List (ℕ × Option ℕ)). lookup (is_at (nat_cmp n)) es) same) ∙ got)

    module _ (n : ℕ) (answer : Option ℕ) (at : IsAnswerAt c n answer) where
      more_by : Updates nat_cmp old new n (Some answer) → (m : ℕ) (kept : Option ℕ) (b : Bool) → eqb m n ≡ b → get nat_cmp new m ≡ Some kept → IsAnswerAt c m kept
      more_by updates m kept true same got = λ path segment there.
          let is = eqb-true m n same in
          let one = same_Some answer kept (sym updates.1 ∙ ap (get nat_cmp new) (sym is) ∙ got) in
          at path segment (sym (ap (slice_get (all_paths c)) is) ∙ there) ∙ one
      more_by updates m kept false other got =
          let apart = eqb-false m n other in
          right m kept (sym (updates.2 m (grind (arith, nat_tests, apart))) ∙ got)

      -- with one answer more all are right, and where memory is wanted for it none changes
      pub answers_more : {X E : Type 0} (r : Result X E) → OnOk r (Updates nat_cmp old new n (Some answer)) → OnErr r (IsUnchanged old new) → AreAnswers c new
      answers_more (Ok x) updates same = λ m kept got. more_by updates m kept (eqb m n) refl got
      answers_more (Err e) updates same = same_answers same
