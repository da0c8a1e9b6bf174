use Rattle.std.proofs.Common.{◌∙◌, List, ap}
use Rattle.std.specs.Prelude.{Bool}
use Rattle.aml_calls.specs.Spread.{is_seen}
use Rattle.aml_calls.proofs.Spreading.{answers}
use Rattle.aml_calls.proofs.reach.reached.Goals as goal

pub returns : goal.returns
returns c =
    let seen = c.is_seen.ensures ∙ ap (λ (xs : List Bool). is_seen xs c.args.to.0) c.deref-2.ensures.value in
    answers c.args.pairs.now c.args.from.0 c.args.to.0 _ c.is_seen.result seen c.in_ok-spread-2.ensures
