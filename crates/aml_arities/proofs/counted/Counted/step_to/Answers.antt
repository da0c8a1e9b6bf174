use Rattle.std.proofs.Common.{List, [], ◌∷◌, ◌++◌, take, sym, ap, ◌∙◌}
use Rattle.std.proofs.lemmas.List.{take-append-le}
use Rattle.aml_arities.specs.Counted.{all_paths}
use Rattle.aml_paths.specs.Paths.{Path, path_at}
use Rattle.aml_paths.specs.Steps.{paths_seen}
use Rattle.aml_paths.proofs.PathNumbers.{number_below_at, path_at_there, path_number_there}
use Rattle.aml_paths.proofs.Seen.{earlier_paths_stay}
use Rattle.aml_arities.proofs.Telling.{counted, on_ok, told_stays}
use Rattle.aml_arities.proofs.counted.Counted.step_to.Goals as goal

pub returns-in-Some-clause-leads : goal.returns-in-Some-clause-leads
returns-in-Some-clause-leads c =
    let paths = all_paths c.args.self.now in
    let at = path_at paths c.args.at in
    path_number_there paths _ c.in-Some.number (sym (number_below_at paths c.args.at at _ (path_at_there paths c.args.at c.requires)) ∙ sym c.child.ensures ∙ c.in-Some.is)

pub returns-in-None-clause-stays : goal.returns-in-None-clause-stays
returns-in-None-clause-stays c =
    let old = c.args.self.now in
    let paths = all_paths old in
    let added = path_at paths c.args.at ++ c.args.segment.bytes ∷ [] in
    let new = sym (number_below_at paths c.args.at (path_at paths c.args.at) (c.args.segment.bytes ∷ []) (path_at_there paths c.args.at c.requires)) ∙ sym c.child.ensures ∙ c.in-None.is in
    on_ok c.add.result (λ more. record {
      told_is = λ path. ap (λ (ps : List Path). counted paths old.counts ps path) more ∙ told_stays paths old.counts old.within added new path;
      named_are = ap (take old.named) more ∙ take-append-le old.named paths (added ∷ []) old.named_there;
      paths_stay = λ i path is. earlier_paths_stay paths (paths_seen c.add.new.self) added i path more is;
    }) c.add.ensures.ok
