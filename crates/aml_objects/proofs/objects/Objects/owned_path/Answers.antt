use Rattle.std.proofs.Common.{◌≡◌, ◌+◌, suc, ◌∷◌, [], get_or, slice_get, sym, ap, ◌∙◌, arith}
use Rattle.std.proofs.lemmas.Option.{slice_get-get_or}
use Rattle.aml_objects.specs.Entries.{owner}
use Rattle.aml_paths.specs.Steps.{path_seen, paths_seen}
use Rattle.aml_objects.proofs.Kept.{kept_count, kept_length, kept_owned}
use Rattle.aml_objects.proofs.objects.Objects.owned_path.Goals as goal

pub path-requires : goal.path-requires
path-requires c = let count = kept_count c.args.self.now in omega (arith, count, c.requires)

pub returns : goal.returns
returns c =
    let self = c.args.self.now in
    let next : c.args.number + 1 ≡ suc c.args.number = omega arith in
    let there = kept_length self in
    let path = path_seen c.in_ok-path.path.items in
    let entry = c.index.result.now in
    kept_owned self c.args.number path (get_or self.entries.items c.args.number entry) (ap (slice_get (paths_seen self.paths)) (sym next) ∙ c.in_ok-path.ensures) (slice_get-get_or self.entries.items c.args.number entry (omega (arith, there, c.requires)))
    ∙ ap (λ n. (path, record { 0 = n }) ∷ []) (ap (owner c.args.number) (sym c.index.ensures) ∙ sym c.owner.ensures)

pub overflow_add-number : goal.overflow_add-number
overflow_add-number c = let there = kept_length c.args.self.now in omega (arith, there, c.requires, c.args.self.now.entries.small)
