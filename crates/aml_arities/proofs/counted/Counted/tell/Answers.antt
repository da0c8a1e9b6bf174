use Rattle.std.proofs.Common.{sym, refl, ◌∙◌}
use Rattle.std.specs.BTreeMap.{get}
use Rattle.std.specs.Ordering.{nat_cmp}
use Rattle.aml_arities.specs.Counted.{all_paths}
use Rattle.aml_arities.proofs.Telling.{known_tells, new_tells}
use Rattle.aml_paths.proofs.Options.{none_in, some_in}
use Rattle.aml_arities.proofs.counted.Counted.tell.Goals as goal

pub returns-then-contains_key : goal.returns-then-contains_key
returns-then-contains_key c =
    let old = c.args.self.now in
    let paths = all_paths old in
    let known = some_in (get nat_cmp old.counts c.args.number) (sym c.contains_key.ensures ∙ c.if-contains_key.true) in
    record { told_is = known_tells paths old.paths.numbered.distinct c.args.number c.requires c.args.args old.counts known.0 known.1; named_are = refl }

pub returns : goal.returns
returns c =
    let old = c.args.self.now in
    let paths = all_paths old in
    let absent = none_in (get nat_cmp old.counts c.args.number) (sym c.contains_key.ensures ∙ c.if-contains_key.false) in
    record { told_is = new_tells paths old.paths.numbered.distinct c.args.number c.requires c.args.args old.counts c.insert.new.self absent c.in_ok-insert.ensures.updates; named_are = refl }
