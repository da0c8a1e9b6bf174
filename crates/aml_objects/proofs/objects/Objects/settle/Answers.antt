use Rattle.std.proofs.Common.{List, ℕ, length, drop, map, ap, ◌∙◌, arith}
use Rattle.std.specs.Borrow.{Bor}
use Rattle.std.specs.List.{zip}
use Rattle.std.proofs.lemmas.List.{take_all}
use Rattle.aml_objects.specs.Kept.{entries_seen}
use Rattle.aml_objects.specs.Settled.{found_entry, named_at}
use Rattle.aml_paths.specs.Steps.{paths_seen}
use Rattle.aml_objects.proofs.Kept.{as_many, zip_map}
use Rattle.aml_objects.proofs.objects.Objects.settle.Goals as goal

-- each entry has been found
pub returns-clause-ok : goal.returns-clause-ok
returns-clause-ok c =
    let self = c.args.self.now in
    let paths = drop 1 (paths_seen self.paths) in
    let entries = self.entries.items in
    let find = found_entry (named_at (map (λ (t : Bor (List ℕ)). t.now) c.args.tables.now) (entries_seen self)) in
    let items = ap length c.loop-entry.invariant.items in
    ap (zip paths) (c.loop-entry.invariant.found ∙ ap (map find) (take_all _ _ (omega (arith, c.loop-entry-test.false)) ∙ c.loop-entry.invariant.items))
    ∙ zip_map find paths entries (as_many self)
