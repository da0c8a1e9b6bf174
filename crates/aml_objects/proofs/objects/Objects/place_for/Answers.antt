use Rattle.std.proofs.Common.{Err, sym, ap, ◌∙◌, arith}
use Rattle.aml_lex.specs.Names.{name_of}
use Rattle.aml_paths.specs.declared.resolve.Lead.TheVariants.{Nowhere, At, Below}
use Rattle.aml_objects.specs.Entries.{paths_in}
use Rattle.aml_objects.specs.Kept.{entries_seen}
use Rattle.aml_paths.specs.Paths.{path_at}
use Rattle.aml_paths.specs.Resolve.{spelled}
use Rattle.aml_objects.proofs.Entering.{places_at, places_below, places_nowhere}
use Rattle.aml_objects.proofs.Kept.{kept_closed, kept_count, kept_distinct, kept_leads}
use Rattle.aml_objects.proofs.objects.Objects.place_for.Goals as goal

pub lead-requires : goal.lead-requires
lead-requires c = omega (arith, kept_count c.args.self.now, c.requires)

pub checked-requires : goal.checked-requires
checked-requires c = omega (arith, kept_count c.args.self.now, c.in-Below.ensures.0)

pub returns-in-Nowhere : goal.returns-in-Nowhere
returns-in-Nowhere c =
    let held = c.args.self.now in
    let entries = entries_seen held in
    let path = spelled (path_at (paths_in entries) c.args.scope) (name_of c.args.name.now) in
    places_nowhere entries (kept_distinct held) (kept_closed held) path (kept_leads held c.args.scope (name_of c.args.name.now) Nowhere c.in-Nowhere.ensures)

pub returns-in-At : goal.returns-in-At
returns-in-At c =
    let held = c.args.self.now in
    let entries = entries_seen held in
    let path = spelled (path_at (paths_in entries) c.args.scope) (name_of c.args.name.now) in
    places_at entries (kept_distinct held) (kept_closed held) c.in-At.path path (kept_leads held c.args.scope (name_of c.args.name.now) (At c.in-At.path) c.in-At.ensures) ∙ ap Err (sym c.already_there.ensures)

pub returns-in-Below : goal.returns-in-Below
returns-in-Below c =
    let held = c.args.self.now in
    let entries = entries_seen held in
    let path = spelled (path_at (paths_in entries) c.args.scope) (name_of c.args.name.now) in
    let below = c.in-Below in
    places_below entries (kept_distinct held) (kept_closed held) c.checked.result below.parent below.segment path (kept_leads held c.args.scope (name_of c.args.name.now) (Below below.parent below.segment) below.ensures) c.checked.ensures
