use Rattle.std.proofs.Common.{List, [], ℕ, sym, subst}
use Rattle.aml_paths.specs.declared.paths.Step.{Step}
use Rattle.aml_paths.specs.Chains.{AreLasts, spots_of}
use Rattle.aml_paths.specs.Trie.{AreNumbered}
use Rattle.aml_paths.proofs.Marked.{no_marks}
use Rattle.aml_paths.proofs.RootAlone.{no_lasts, root_numbered}
use Rattle.aml_paths.proofs.paths.Paths.new.Goals as goal

pub invariant_of-result : goal.invariant_of-result
invariant_of-result c = record {
  numbered = subst (AreNumbered c.new-2.result) (sym c.new.ensures.items) (root_numbered c.new-2.result c.new-2.ensures.empty);
  ended = subst (λ (steps : List Step). AreLasts c.new-3.result.items (spots_of steps)) (sym c.new.ensures.items)
      (subst (λ (lasts : List ℕ). AreLasts lasts (spots_of [])) (sym c.new-3.ensures.items) no_lasts);
  marked = no_marks c.new-2.result c.new-4.result.items c.new-2.ensures.empty;
}
