use Rattle.std.proofs.Common.{◌≡◌, ℕ, List}
use Rattle.aml_judged.specs.Known.{same_mutexes}
use Rattle.aml_meaning.specs.declared.mutex.TakenMutex.{TakenMutex}
use Rattle.aml_known.specs.Views.{Says}
use Rattle.aml_known.proofs.locks.Locks.is_same_up_to.Given as goal

-- what is left of both is the same just where they are
abbrev pub invariant-ends : goal.invariant-ends
invariant-ends l = (lists : ℕ → List TakenMutex) → Says lists l.self.takings.items → same_mutexes (lists l.one) (lists l.other) ≡ same_mutexes (lists l.end) (lists l.other_end)

abbrev pub decreases-ends : goal.decreases-ends
decreases-ends l = l.end
