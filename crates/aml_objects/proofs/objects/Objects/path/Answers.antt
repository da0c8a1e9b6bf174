use Rattle.std.proofs.Common.{◌≡◌, suc, ◌+◌, slice_get, sym, ap, ◌∙◌, arith}
use Rattle.aml_paths.specs.Steps.{paths_seen}
use Rattle.aml_objects.proofs.Kept.{kept_count, kept_path}
use Rattle.aml_objects.proofs.objects.Objects.path.Goals as goal

pub path-requires : goal.path-requires
path-requires c = omega (arith, kept_count c.args.self.now, c.len.ensures, c.if-number-len.false)

pub returns-in-Ok : goal.returns-in-Ok
returns-in-Ok c =
    let next : c.args.number + 1 ≡ suc c.args.number = omega arith in
    sym c.in-Ok.ensures ∙ ap (slice_get (paths_seen c.args.self.now.paths)) next ∙ kept_path c.args.self.now c.args.number
