use Rattle.std.proofs.Common.{◌≡◌, ◌<◌, ◌+◌, ◌++◌, ◌∷◌, [], List, length, get_or, take, slice_get, Some, None, sym, ap, ◌∙◌, subst}
use Rattle.std.proofs.lemmas.List.{take_more}
use Rattle.std.proofs.lemmas.Option.{slice_get-get_or}
use Rattle.aml_paths.specs.declared.paths.Step.{Step}
use Rattle.aml_paths.specs.Paths.{Path, number_below}
use Rattle.aml_paths.specs.Trie.{path_of, paths_of}
use Rattle.aml_paths.proofs.Copies.{nothing, parent_there, step_new}
use Rattle.aml_paths.proofs.Tries.{paths_push}
use Rattle.aml_paths.proofs.paths.Paths.copy.Goals as goal

pub add_below-requires-clause-there : goal.add_below-requires-clause-there
add_below-requires-clause-there c =
    let self = c.args.self.now in
    let i = c.loop-step.step-index in
    let step = get_or c.deref-step-items.result.now i nothing in
    let is = slice_get-get_or c.deref-step-items.result.now i nothing c.loop-step-test.true in
    let here = subst (λ (steps : List Step). slice_get steps i ≡ Some step) c.loop-step.invariant.items is in
    subst (λ (paths : List Path). step.parent < length paths) (sym c.loop-step.invariant.made) (parent_there self.numbers self.steps.items self.numbered i step here)

pub add_below-requires-clause-new : goal.add_below-requires-clause-new
add_below-requires-clause-new c =
    let self = c.args.self.now in
    let i = c.loop-step.step-index in
    let step = get_or c.deref-step-items.result.now i nothing in
    let is = slice_get-get_or c.deref-step-items.result.now i nothing c.loop-step-test.true in
    let here = subst (λ (steps : List Step). slice_get steps i ≡ Some step) c.loop-step.invariant.items is in
    subst (λ (paths : List Path). number_below paths step.parent (step.segment.bytes ∷ []) ≡ None) (sym c.loop-step.invariant.made) (step_new self.numbers self.steps.items self.numbered i step here)

pub loop-step-preserved : goal.loop-step-preserved
loop-step-preserved c =
    let i = c.loop-step.step-index in
    let all = c.deref-step-items.result.now in
    let steps = c.args.self.now.steps.items in
    let step = get_or all i nothing in
    let items = c.loop-step.invariant.items in
    record {
      items = items;
      made = c.in_ok-add_below.ensures.ok
          ∙ ap (λ (paths : List Path). paths ++ path_of paths step ∷ []) c.loop-step.invariant.made
          ∙ sym (paths_push (take i steps) step)
          ∙ ap (λ (first : List Step). paths_of (take i first ++ step ∷ [])) (sym items)
          ∙ ap paths_of (sym (take_more all i nothing c.loop-step-test.true))
          ∙ ap (λ (first : List Step). paths_of (take (i + 1) first)) items;
    }
