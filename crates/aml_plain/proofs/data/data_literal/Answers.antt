use Rattle.std.proofs.Common.{refl}
use Rattle.std.proofs.lemmas.Result.{err_from_is_err_and}
use Rattle.aml_meaning.proofs.Runs.{runs_give, runs_no_memory, runs_stop_with, runs_with_memory}
use Rattle.aml_plain.proofs.data.data_literal.Goals as goal

pub returns-in-Some : goal.returns-in-Some
returns-in-Some c = λ around s. rw (← c.computed_size.ensures, c.in-Some.is, c.fails.ensures) (runs_stop_with _ _)

pub returns-in_err-value-in-None : goal.returns-in_err-value-in-None
returns-in_err-value-in-None c = λ around s.
    let p = err_from_is_err_and c.from_residual.result c.from_residual.ensures.1 in
    rw (p.1, p.2, ← c.computed_size.ensures, c.in-None.is) (runs_no_memory _ _ (λ script. refl))

pub returns-in_ok-value-in-None : goal.returns-in_ok-value-in-None
returns-in_ok-value-in-None c = λ around s. rw (← c.computed_size.ensures, c.in-None.is, c.in_ok-value-in-None.ensures) (runs_with_memory (runs_give _ _))
