use Rattle.std.proofs.Common.{◌≡◌, ◌∙◌, Some, ap, sym}
use Rattle.std.specs.Option.{option_map}
use Rattle.std.proofs.lemmas.Result.{IfOk-weaker}
use Rattle.aml_judged.specs.Judged.{either}
use Rattle.aml_judged.specs.Known.{join_env}
use Rattle.aml_known.specs.Views.{env_of}
use Rattle.aml_known.proofs.exits.either.Goals as goal

pub returns-in-Some : goal.returns-in-Some
returns-in-Some c = λ shapes lists are say.
    let see = env_of shapes lists in
    let other = see c.args.other in
    IfOk-weaker c.join.result (λ both. see both ≡ join_env (see c.in-Some.env) other) (λ both. Some (see both) ≡ either join_env (option_map see c.args.one) (Some other)) (λ both e. ap Some e ∙ sym (ap (λ o. either join_env (option_map see o) (Some other)) c.in-Some.is)) (c.join.ensures shapes lists are say)
