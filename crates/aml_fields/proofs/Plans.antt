-- Fields, however their units are reached.
use Rattle.std.proofs.Common.{◌≡◌, ℕ, ◌+◌, ◌-◌, List, Result, Ok, Err, refl, subst, arith}
use Rattle.aml_paths.specs.declared.memory.NoMemory.{NoMemory}
use Rattle.aml_regions.specs.Events.{Log}
use Rattle.aml_regions.specs.declared.field.AnyField.{AnyField}
use Rattle.aml_regions.specs.declared.field.AnyField.TheVariants.{Plain, Banked, Indexed}
use Rattle.aml_regions.specs.Fields.{layout_of}
use Rattle.aml_meaning.specs.Fields.{Takes, banked_plan, indexed_plan, plan_of, region_plan}
use Rattle.aml_meaning.specs.Parts.{M}
use Rattle.aml_meaning.specs.Runs as runs
use Rattle.aml_meaning.specs.State.{Frame, Names}
use Rattle.aml_fields.proofs.Events.{runs_memory_fewer}

pub plan_layout : (f : AnyField) → (plan_of f).layout ≡ layout_of f
unfolding plan_of region_plan banked_plan indexed_plan
plan_layout (Plain r) = refl
plan_layout (Banked b) = refl
plan_layout (Indexed x) = refl

-- events behind others
pub takes_then : {V : Type 0} (result : Result V NoMemory) (a b old mid new : ℕ) → mid ≡ old - a → Takes result b mid new → Takes result (a + b) old new
takes_then (Ok v) a b old mid new e takes = omega (arith, e, takes)
takes_then (Err w) a b old mid new e takes = omega (arith, e, takes)

-- how many steps are left is known, but for want of memory, which says nothing of them
pub steps_left : {V W : Type 0} (t : Result V NoMemory → Result W runs.Halt) → ((e : NoMemory) → t (Err e) ≡ Err runs.NoMemory) → (result : Result V NoMemory) (m : M W) (frame : Frame) (names : Names) (events limit left : ℕ) (log log1 : Log) → Takes result events limit left → runs.Runs (t result) m (runs.state frame names limit log) (runs.state frame names left log1) → runs.Runs (t result) m (runs.state frame names limit log) (runs.state frame names (limit - events) log1)
steps_left t fails (Ok v) m frame names events limit left log log1 takes went = subst (λ n. runs.Runs (t (Ok v)) m (runs.state frame names limit log) (runs.state frame names n log1)) takes went
steps_left t fails (Err e) m frame names events limit left log log1 takes went = rw (fails e) (runs_memory_fewer m _ _ (limit - events) takes (rw (fails e) at went))
