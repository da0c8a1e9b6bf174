use Rattle.std.proofs.Common.{◌≡◌, suc, ◌+◌, slice_get, sym, ap, ◌∙◌, arith, option_and_then}
use Rattle.aml_lex.specs.Names.{name_of}
use Rattle.aml_objects.specs.Entries.{paths_in}
use Rattle.aml_objects.specs.Kept.{entries_seen}
use Rattle.aml_objects.specs.LookUp.{looked_up, named_in}
use Rattle.aml_paths.specs.Paths.{Path}
use Rattle.aml_objects.proofs.objects.Objects.look_up.Goals as goal

pub returns-in-At : goal.returns-in-At
returns-in-At c =
    let entries = entries_seen c.args.self.now in
    let next : c.in-At.id.0 + 1 ≡ suc c.in-At.id.0 = omega arith in
    c.named_in-in-At.ensures ∙ ap (λ n. option_and_then (λ (path : Path). named_in entries path (name_of c.args.name.now)) (slice_get (paths_in entries) n)) next ∙ ap (λ scope. looked_up entries scope (name_of c.args.name.now)) (sym c.in-At.is)
