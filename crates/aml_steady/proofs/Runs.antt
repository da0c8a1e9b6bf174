-- What an evaluator answers of a part that keeps the kinds of names has them as they were.
use Rattle.std.proofs.Common.{◌≡◌, Result, Ok, Err, sym, ap, ◌∙◌, subst}
use Rattle.aml_meaning.specs.State.{State, Out, with_steps}
use Rattle.aml_meaning.specs.Parts.{M}
use Rattle.aml_meaning.specs.Runs.{Halt, NoMemory, OutOfSteps, By, Gives, Runs}
use Rattle.aml_meaning.proofs.Runs.{prefix_refl}
use Rattle.aml_steady.specs.Steady.{KeepsKinds, RunsKeepKinds}
use Rattle.aml_steady.proofs.KindsStay.{HasKinds}

-- whatever steps are left behind it, and also where it rests for want of memory
kinds_given : {V : Type 0} (r : Result V Halt) (old new : State) (run : State → Out V) → ((s : State) → HasKinds s.names.kinds (run s)) → Gives r old new run → new.names.kinds ≡ old.names.kinds
kinds_given (Ok v) old new run h g = subst (λ o. HasKinds old.names.kinds o) (g 0) (h (with_steps old _))
kinds_given (Err (By stop)) old new run h g = subst (λ o. HasKinds old.names.kinds o) (g 0) (h (with_steps old _))
kinds_given (Err OutOfSteps) old new run h g = subst (λ o. HasKinds old.names.kinds o) g (h old)
kinds_given (Err NoMemory) old new run h g = sym (ap (λ n. n.kinds) g.2.names) ∙ h (with_steps old g.0)

pub kinds_run : {V : Type 0} (r : Result V Halt) (m : M V) (old new : State) → KeepsKinds m → Runs r m old new → new.names.kinds ≡ old.names.kinds
kinds_run r m old new h runs = kinds_given r old new (m.run new.log) (h new.log) (runs.gives new.log (prefix_refl new.log))

pub runs_keep : RunsKeepKinds
runs_keep result m old new h runs = kinds_run result m old new h runs
