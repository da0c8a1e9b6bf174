use Rattle.std.proofs.Common.{◌≡◌, ◌≤◌, ◌-◌, ◌*◌, min, Result}
use Rattle.aml_regions.specs.Fields.{bits_of, end, first}
use Rattle.aml_meaning.specs.Fields.{bits_written, cost_from, plan_writes, write_from}
use Rattle.aml_meaning.specs.State.{Frame, Names, State}
use Rattle.aml_meaning.specs.Runs.{Halt, Runs, state}
use Rattle.aml_fields.proofs.write.write_units.Given as goal

-- what the rest does, all does
abbrev pub invariant-loop-unit : goal.invariant-loop-unit
invariant-loop-unit g l =
    let p = g.U.Units.plan l.units in
    let f = l.layout in
    let log = g.W.World.log in
    let bit = g.B.Bits.bit l.value in
    record {
      wide : l.width ≡ bits_of f.width;
      low : first f ≤ l.unit;
      last : l.unit-end ≡ end f;
      done : l.done ≡ min f.bits (l.unit * bits_of f.width - f.at);
      steps : l.left - cost_from f p.read_events p.write_events (end f - l.unit) l.unit ≡ l.fn.left - plan_writes p;
      kept : (log l.world).refusals ≡ (log l.fn.world).refusals;
      written : (frame : Frame) (names : Names) (r : Result (Unit {0}) Halt) (last : State) →
          Runs r (write_from f p.read p.write bit (end f - l.unit) l.unit) (state frame names l.left (log l.world)) last →
          Runs r (bits_written p bit) (state frame names l.fn.left (log l.fn.world)) last;
    }
