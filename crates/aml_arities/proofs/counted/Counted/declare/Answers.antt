use Rattle.std.proofs.Common.{◌≡◌, ◌<◌, ◌++◌, List, ℕ, Option, map, slice_get, Some, sym, ap, ◌∙◌, subst, arith}
use Rattle.std.specs.Borrow.{Bor}
use Rattle.std.specs.Option.{option_map}
use Rattle.std.proofs.lemmas.Option.{slice_get-get_or, slice_get-map}
use Rattle.aml_lex.specs.Names.{name_of}
use Rattle.aml_arities.specs.Counted.{Tells, all_paths, named_paths}
use Rattle.aml_paths.specs.Scopes.{scope_number}
use Rattle.aml_paths.specs.Paths.{Path, path_at}
use Rattle.aml_paths.proofs.PathNumbers.{path_at_is, path_at_there}
use Rattle.aml_paths.proofs.Positions.{slice_get_taken}
use Rattle.aml_arities.proofs.Telling.{on_ok, path_declared, tells_on}
use Rattle.aml_arities.proofs.counted.Counted.declare.Goals as goal

pub returns : goal.returns
returns c =
    let old = c.args.self.now in
    let mid = c.path_to.new.self in
    let paths = all_paths old in
    let e = c.args.external in
    let tables = map (λ (t : Bor (List ℕ)). t.now) c.args.tables.now in
    let scope = c.number_of_scope-scope.result in
    let number : scope ≡ scope_number e.name.scope = omega (arith, c.number_of_scope-scope.ensures, c.if-scope-self.false) in
    let there : scope < old.named = omega (arith, c.if-scope-self.false) in
    let at_scope = slice_get_taken paths old.named scope (path_at paths scope) there (path_at_there paths scope (omega (arith, there, old.named_there))) in
    let name = name_of c.in-Some-name_there.name in
    let at_name = sym c.name_there.ensures ∙ ap (option_map name_of) c.in-Some-name_there.is in
    let base = path_at paths c.in-Some-base.base in
    let at_base = sym c.base.ensures.found ∙ ap (option_map (path_at paths)) c.in-Some-base.is in
    let item = c.in-Some.ensures.lookup in
    let given : slice_get c.args.tables.now e.name.table ≡ Some c.in-Some.bytes.now = slice_get-get_or c.args.tables.now e.name.table c.in-Some.bytes.now item.3.0 ∙ ap Some (sym item.1) in
    let at_table = slice_get-map (λ (t : Bor (List ℕ)). t.now) c.args.tables.now e.name.table ∙ ap (option_map (λ (t : Bor (List ℕ)). t.now)) given in
    let path = path_declared tables (named_paths old) e (path_at paths scope) c.in-Some.bytes.now.now name base (ap (slice_get (named_paths old)) (sym number) ∙ at_scope) at_table at_name at_base in
    let same = path ∙ ap Some (sym (path_at_is (all_paths mid) c.in_ok-number.number (base ++ name.segs) c.in_ok-number.ensures.leads)) in
    on_ok c.tell.result (λ told. subst (λ (p : Option Path). Tells old c.tell.new.self p e.args) (sym same) (tells_on old mid c.tell.new.self (Some (path_at (all_paths mid) c.in_ok-number.number)) e.args c.in_ok-number.ensures.stays told)) c.tell.ensures
