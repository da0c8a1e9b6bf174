use Rattle.std.proofs.Common.{Bor, List, ℕ, map, subst}
use Rattle.acpi_listing.specs.Files.{ListsFiles}
use Rattle.acpi_listing.specs.Steps.{Writes}
use Rattle.acpi_words.specs.declared.words.Request.TheVariants.{Tables, Names, Verify, Eval, Resources, Routing}
use Rattle.acpi_listing.proofs.Telling.{obeyed}
use Rattle.acpi_listing.proofs.program.obey.Goals as goal

pub returns-in-Tables : goal.returns-in-Tables
returns-in-Tables g c =
    let answers = g.F.Source.answers in
    let old = c.args.files.now in
    let new = c.list_files.new.files in
    let held = g.W.Write.contents c.args.out.now in
    let holds = g.W.Write.contents c.list_files.new.out in
    let now = λ (name : Bor (List ℕ)). name.now in
    obeyed answers (map g.S.AsStr.text c.args.words.now) old new held holds (Tables c.in-Tables.names) c.list_files.result
    (rw c.in-Tables.is at c.in_ok-names.ensures)
    (subst (λ names. Writes (ListsFiles answers 0 (map now names)) old new held holds c.list_files.result) c.as_slice.ensures.value c.list_files.ensures)

pub returns-in-Names : goal.returns-in-Names
returns-in-Names g c =
    obeyed g.F.Source.answers (map g.S.AsStr.text c.args.words.now) c.args.files.now c.list_names_of.new.files
    (g.W.Write.contents c.args.out.now) (g.W.Write.contents c.list_names_of.new.out) (Names c.in-Names.inputs) c.list_names_of.result
    (rw c.in-Names.is at c.in_ok-names.ensures) c.list_names_of.ensures

pub returns-in-Verify : goal.returns-in-Verify
returns-in-Verify g c =
    obeyed g.F.Source.answers (map g.S.AsStr.text c.args.words.now) c.args.files.now c.verify_files.new.files
    (g.W.Write.contents c.args.out.now) (g.W.Write.contents c.verify_files.new.out) (Verify c.in-Verify.request) c.verify_files.result
    (rw c.in-Verify.is at c.in_ok-names.ensures) c.verify_files.ensures

pub returns-in-Eval : goal.returns-in-Eval
returns-in-Eval g c =
    obeyed g.F.Source.answers (map g.S.AsStr.text c.args.words.now) c.args.files.now c.evaluate.new.files
    (g.W.Write.contents c.args.out.now) (g.W.Write.contents c.evaluate.new.out) (Eval c.in-Eval.request) c.evaluate.result
    (rw c.in-Eval.is at c.in_ok-names.ensures) c.evaluate.ensures

pub returns-in-Resources : goal.returns-in-Resources
returns-in-Resources g c =
    obeyed g.F.Source.answers (map g.S.AsStr.text c.args.words.now) c.args.files.now c.list_resources_of.new.files
    (g.W.Write.contents c.args.out.now) (g.W.Write.contents c.list_resources_of.new.out) (Resources c.in-Resources.request) c.list_resources_of.result
    (rw c.in-Resources.is at c.in_ok-names.ensures) c.list_resources_of.ensures

pub returns-in-Routing : goal.returns-in-Routing
returns-in-Routing g c =
    obeyed g.F.Source.answers (map g.S.AsStr.text c.args.words.now) c.args.files.now c.list_routes_of.new.files
    (g.W.Write.contents c.args.out.now) (g.W.Write.contents c.list_routes_of.new.out) (Routing c.in-Routing.request) c.list_routes_of.result
    (rw c.in-Routing.is at c.in_ok-names.ensures) c.list_routes_of.ensures
