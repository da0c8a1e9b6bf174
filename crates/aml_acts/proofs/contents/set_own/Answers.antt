use Rattle.std.proofs.Common.{◌≡◌, true, false, arith, sym, ◌∙◌}
use Rattle.std.specs.Prelude.{is_ok}
use Rattle.aml_meaning.proofs.Owned.{runs_set_own, runs_set_own_spent, runs_set_own_stop}
use Rattle.aml_acts.proofs.Statements.{never_stored, of_err, of_ok, stored_as_held}
use Rattle.aml_values.specs.Views.{view}
use Rattle.aml_machine.specs.Views.{frame_of, names_of}
use Rattle.aml_scene.specs.Tells.{is_package}
use Rattle.aml_acts.proofs.contents.set_own.Goals as goal

pub returns-then-machine-eq0-clause-means : goal.returns-then-machine-eq0-clause-means
returns-then-machine-eq0-clause-means c = λ log. runs_set_own_spent _ _ _ _ _ _ _ _ _ (omega arith) (omega arith)

pub returns-then-is_package-clause-means : goal.returns-then-is_package-clause-means
returns-then-is_package-clause-means c = λ log.
    rw c.fails.ensures (runs_set_own_stop _ _ _ _ _ _ _ _ _ (omega (arith, c.if-machine-eq0.false)) (never_stored (names_of c.args.machine.now.frame.owns).kinds c.args.number (view c.args.value) (sym c.is_package.ensures ∙ c.if-is_package.true)))

pub returns-then-is_ok-clause-means : goal.returns-then-is_ok-clause-means
returns-then-is_ok-clause-means c = λ log.
    let names = names_of c.args.machine.now.frame.owns in
    let is : is_ok c.set.result ≡ true = sym c.is_ok.ensures.value ∙ c.if-is_ok.true in
    let plain : is_package (view c.args.value) ≡ false = sym c.is_package.ensures ∙ c.if-is_package.false in
    let may = stored_as_held names.kinds c.args.number (view c.args.value) plain ∙ sym c.set.ensures.fits ∙ is in
    rw (of_ok c.set.result _ is c.set.ensures.put, c.set.ensures.kinds) (runs_set_own (frame_of c.args.machine.now.frame) (names_of c.args.machine.now.names) log c.args.scene.now.table c.args.at c.args.number (view c.args.value) _ _ (omega (arith, c.if-machine-eq0.false)) may)

pub returns-else-is_ok-clause-means : goal.returns-else-is_ok-clause-means
returns-else-is_ok-clause-means c = λ log.
    let names = names_of c.args.machine.now.frame.owns in
    let is : is_ok c.set.result ≡ false = sym c.is_ok.ensures.value ∙ c.if-is_ok.false in
    let plain : is_package (view c.args.value) ≡ false = sym c.is_package.ensures ∙ c.if-is_package.false in
    let may = stored_as_held names.kinds c.args.number (view c.args.value) plain ∙ sym c.set.ensures.fits ∙ is in
    rw (of_err c.set.result _ is c.set.ensures.kept, c.set.ensures.kinds, c.fails-else-is_ok.ensures) (runs_set_own_stop (frame_of c.args.machine.now.frame) (names_of c.args.machine.now.names) log c.args.scene.now.table c.args.at c.args.number (view c.args.value) _ _ (omega (arith, c.if-machine-eq0.false)) may)
