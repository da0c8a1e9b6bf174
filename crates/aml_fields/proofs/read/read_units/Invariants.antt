use Rattle.std.proofs.Common.{◌≡◌, ◌≤◌, ◌-◌, ℕ, ◌*◌, length, List, min, Result}
use Rattle.aml_regions.specs.Fields.{bits_of, end, field_bit, first}
use Rattle.aml_meaning.specs.Fields.{plan_reads, read_from}
use Rattle.aml_meaning.specs.State.{Frame, Names, State}
use Rattle.aml_meaning.specs.Runs.{Halt, Runs, state}
use Rattle.aml_fields.specs.Gathered.{bits_read}
use Rattle.aml_fields.proofs.read.read_units.Given as goal

-- what was read gives the bits before the unit, and what the rest gives, all give
abbrev pub invariant-loop-unit : goal.invariant-loop-unit
invariant-loop-unit g l =
    let p = g.U.Units.plan l.units in
    let f = l.layout in
    let log = g.W.World.log in
    let made = g.G.Gathers.made (g.G.Gathers.size l.fn.gathered) in
    record {
      wide : l.width ≡ bits_of f.width;
      low : first f ≤ l.unit;
      last : l.unit-end ≡ end f;
      done : l.done ≡ min f.bits (l.unit * bits_of f.width - f.at);
      steps : l.left - (end f - l.unit) * p.read_events ≡ l.fn.left - plan_reads p;
      kept : (log l.world).refusals ≡ (log l.fn.world).refusals;
      name : g.G.Gathers.name l.gathered ≡ g.G.Gathers.name l.fn.gathered;
      size : g.G.Gathers.size l.gathered ≡ g.G.Gathers.size l.fn.gathered;
      read : (answers : List ℕ) × (length answers ≡ l.unit - first f) × (g.G.Gathers.value l.gathered ≡ made l.done (field_bit f answers))
          × ((frame : Frame) (names : Names) (r : Result g.G.Gathers.Value Halt) (last : State) →
          Runs r (read_from p.read (λ xs. made f.bits (field_bit f xs)) (end f - l.unit) l.unit answers) (state frame names l.left (log l.world)) last →
          Runs r (bits_read p made) (state frame names l.fn.left (log l.fn.world)) last);
    }
