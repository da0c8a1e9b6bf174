use Rattle.std.proofs.Common.{Some, sym, ap, ◌∙◌}
use Rattle.aml_lex.specs.Names.{name_of}
use Rattle.aml_paths.specs.Paths.{path_at, number_above}
use Rattle.aml_paths.specs.Steps.{paths_seen}
use Rattle.std.specs.Option.{option_map}
use Rattle.aml_paths.specs.Paths.{root}
use Rattle.aml_paths.proofs.PathNumbers.{path_at_is}
use Rattle.aml_paths.proofs.Seen.{seen_closed, seen_distinct, seen_root}
use Rattle.aml_paths.proofs.Spelled.{base_relative, base_rooted, path_at-above}
use Rattle.aml_paths.proofs.paths.Paths.base.Goals as goal

pub returns-then-rooted-clause-found : goal.returns-then-rooted-clause-found
returns-then-rooted-clause-found c =
    let held = c.args.self.now in
    ap Some (path_at_is (paths_seen held) 0 root (seen_root held))
    ∙ sym (base_rooted (path_at (paths_seen held) c.args.scope) (name_of c.args.name.now) (sym c.rooted.ensures ∙ c.if-rooted.true))

pub returns-clause-found : goal.returns-clause-found
returns-clause-found c =
    let held = c.args.self.now in
    let paths = paths_seen held in
    let name = name_of c.args.name.now in
    ap (option_map (path_at paths)) c.above.ensures
    ∙ ap (λ carets. option_map (path_at paths) (number_above paths c.args.scope carets)) c.parents.ensures
    ∙ path_at-above paths (seen_distinct held) (seen_closed held) c.args.scope name.parents c.requires
    ∙ sym (base_relative (path_at paths c.args.scope) name (sym c.rooted.ensures ∙ c.if-rooted.false))
