use Rattle.std.proofs.Common.{◌≡◌, List, take, slice_get, Some, sym, ap, subst}
use Rattle.aml_arities.specs.Counted.{all_paths}
use Rattle.aml_paths.specs.Paths.{Path}
use Rattle.aml_arities.proofs.Telling.{counted}
use Rattle.aml_arities.proofs.counted.Counted.settle_chains.Goals as goal

pub returns : goal.returns
returns c =
    let old = c.args.self.now in
    let same = c.settle_chains.ensures in
    record {
      told_is = λ path. ap (λ (ps : List Path). counted (all_paths old) old.counts ps path) same;
      named_are = ap (take old.named) same;
      paths_stay = λ i path is. subst (λ (ps : List Path). slice_get ps i ≡ Some path) (sym same) is;
    }
