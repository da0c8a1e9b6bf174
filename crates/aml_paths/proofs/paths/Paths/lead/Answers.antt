use Rattle.std.proofs.Common.{◌≡◌, ◌-◌, suc, length, sym, ◌∙◌, arith}
use Rattle.aml_lex.specs.Names.{name_of}
use Rattle.aml_paths.specs.Paths.{path_at}
use Rattle.aml_paths.specs.Steps.{paths_seen}
use Rattle.aml_paths.proofs.Spelled.{leads_below, leads_nowhere}
use Rattle.aml_paths.proofs.paths.Paths.lead.Goals as goal

pub returns-in-None : goal.returns-in-None
returns-in-None c =
    let paths = paths_seen c.args.self.now in
    let name = name_of c.args.name.now in
    let count = c.segs-count.result in
    let some : length name.segs ≡ suc (count - 1) = omega (arith, c.segs-count.ensures, c.if-count-eq0.false) in
    leads_nowhere paths (path_at paths c.args.scope) name c.in-Some.base c.in-Some.ensures.there c.in-Some.ensures.found (count - 1) some (sym c.below.ensures ∙ c.in-None.is)

pub returns-in-Some-below : goal.returns-in-Some-below
returns-in-Some-below c =
    let paths = paths_seen c.args.self.now in
    let name = name_of c.args.name.now in
    let count = c.segs-count.result in
    let some : length name.segs ≡ suc (count - 1) = omega (arith, c.segs-count.ensures, c.if-count-eq0.false) in
    leads_below paths (path_at paths c.args.scope) name c.in-Some.base c.in-Some.ensures.there c.in-Some.ensures.found (count - 1) c.in-Some-below.parent c.seg.result some (sym c.below.ensures ∙ c.in-Some-below.is) c.seg.ensures
