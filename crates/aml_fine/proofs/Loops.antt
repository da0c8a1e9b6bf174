-- Loops that are fine, where the kinds of names stay.
use Rattle.std.proofs.Common.{◌≡◌, ℕ, suc, Result, Ok, ◌∙◌, subst}
use Rattle.aml_regions.specs.Events.{AreWords}
use Rattle.aml_meaning.specs.State.{State}
use Rattle.aml_meaning.specs.Parts.{M}
use Rattle.aml_meaning.specs.Loops.{loop}
use Rattle.aml_meaning.specs.Runs.{Halt, Runs}
use Rattle.aml_meaning.proofs.Loops.{Turns}
use Rattle.aml_fine.specs.Fine.{Fine, TakesAStep}
use Rattle.aml_fine.proofs.Fine.{fine_moved, words_behind}
use Rattle.aml_fine.proofs.Turns.{over_loop_next, over_turns, turn_body, turn_first}

module _ (test : M ℕ) (body : M (Unit {0})) (s : State) where
  pub loop_first : Fine (loop test body) s → Fine test s
  loop_first h = turn_first _ test body s (suc s.steps) (over_turns _ test body s h)

  module _ (v : ℕ) (s1 : State) (r : Runs (Ok v) test s s1) (same : s1.names.kinds ≡ s.names.kinds) (nonzero : v ≡ 0 → ⊥) where
    tested : Fine (loop test body) s → AreWords s.names.kinds s1.log
    tested h = words_behind (Ok v) test s s1 h.words r same

    pub loop_body : Fine (loop test body) s → Fine body s1
    loop_body h = fine_moved body s s1 same (turn_body _ test body s v s1 r (tested h) nonzero (suc s.steps) (over_turns _ test body s h))

    pub loop_next : TakesAStep test → (s2 : State) (b : Result (Unit {0}) Halt) → Turns b → Fine (loop test body) s → Runs b body s1 s2 → s2.names.kinds ≡ s1.names.kinds → Fine (loop test body) s2
    loop_next step s2 b t h q stay =
        let kinds : s2.names.kinds ≡ s.names.kinds = stay ∙ same in
        let words : AreWords s1.names.kinds s2.log = words_behind b body s1 s2 (loop_body h).words q stay in
        fine_moved (loop test body) s s2 kinds (over_loop_next _ test body s v s1 r (tested h) nonzero step s2 b t h q (subst (λ ks. AreWords ks s2.log) same words))
