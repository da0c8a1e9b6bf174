use Rattle.std.proofs.Common.{◌∙◌, refl, sym}
use Rattle.aml_operators.specs.Tree.{trees}
use Rattle.std.proofs.lemmas.Result.{err_from_is_err_and}
use Rattle.aml_meaning.proofs.Runs.{runs_give, runs_no_memory, runs_stop_with, runs_with_memory}
use Rattle.aml_quick.specs.Settings.{count_of}
use Rattle.aml_quick.proofs.Forms.{parts_there}
use Rattle.aml_direct.proofs.Simple.{data_row}
use Rattle.aml_direct.proofs.Sizes.{none_anywhere}
use Rattle.aml_direct.proofs.data.data_literal.Goals as goal

pub computed_at-requires-clause-there : goal.computed_at-requires-clause-there
computed_at-requires-clause-there c =
    parts_there (count_of c.args.here.scene.now) c.args.op c.args.bytes.now c.args.at c.requires.there.own c.requires.there.stop c.requires.there.parts (data_row c.args.op c.requires.datum) c.requires.there.lie

pub data_value-requires-clause-there : goal.data_value-requires-clause-there
data_value-requires-clause-there c =
    let p = parts_there (count_of c.args.here.scene.now) c.args.op c.args.bytes.now c.args.at c.requires.there.own c.requires.there.stop c.requires.there.parts (data_row c.args.op c.requires.datum) c.requires.there.lie in
    record { there = p; told = none_anywhere c.args.op c.args.own c.requires.there.own (trees c.requires.there.parts) (sym (c.computed_at.ensures p) ∙ c.in-None.is) }

pub returns-in-Some : goal.returns-in-Some
returns-in-Some c = λ around s stop parts lie.
    let p = parts_there (count_of c.args.here.scene.now) c.args.op c.args.bytes.now c.args.at c.args.own stop parts (data_row c.args.op c.requires.datum) lie in
    record { runs = rw (← c.computed_at.ensures p, c.in-Some.is, c.fails.ensures) (runs_stop_with _ _); next = tt }

pub returns-in_ok-read-in-None : goal.returns-in_ok-read-in-None
returns-in_ok-read-in-None c = λ around s stop parts lie.
    let p = parts_there (count_of c.args.here.scene.now) c.args.op c.args.bytes.now c.args.at c.args.own stop parts (data_row c.args.op c.requires.datum) lie in
    let told = sym (c.computed_at.ensures p) ∙ c.in-None.is in
    record {
      runs = rw (told, c.in_ok-read-in-None.ensures.value (record { there = p; told = told })) (runs_with_memory (runs_give _ _));
      next = sym (c.in_ok-read-in-None.ensures.place (record { there = p; told = told }));
    }

pub returns-in_err-read-in-None : goal.returns-in_err-read-in-None
returns-in_err-read-in-None c = λ around s stop parts lie.
    let q = parts_there (count_of c.args.here.scene.now) c.args.op c.args.bytes.now c.args.at c.args.own stop parts (data_row c.args.op c.requires.datum) lie in
    let told = sym (c.computed_at.ensures q) ∙ c.in-None.is in
    let p = err_from_is_err_and c.from_residual.result c.from_residual.ensures.1 in
    rw (p.1, p.2, told) (record { runs = runs_no_memory _ _ (λ script. refl); next = tt })
