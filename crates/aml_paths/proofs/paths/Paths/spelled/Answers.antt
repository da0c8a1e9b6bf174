use Rattle.std.proofs.Common.{◌∙◌}
use Rattle.aml_lex.specs.Names.{name_of}
use Rattle.aml_paths.specs.Paths.{path_at}
use Rattle.aml_paths.specs.Steps.{paths_seen}
use Rattle.aml_paths.proofs.Spelled.{spelled_number}
use Rattle.aml_paths.proofs.paths.Paths.spelled.Goals as goal

pub returns : goal.returns
returns c =
    let paths = paths_seen c.args.self.now in
    let base = c.in_ok-base in
    c.below.ensures ∙ spelled_number paths (path_at paths c.args.scope) (name_of c.args.name.now) base.field-0 base.ensures.there base.ensures.found c.segs.result c.segs.ensures
