-- An own name that is not made.
use Rattle.std.proofs.Common.{ℕ, Option, Err, refl}
use Rattle.aml_values.specs.Values.{Value}
use Rattle.aml_regions.specs.Events.{Log}
use Rattle.aml_meaning.specs.declared.buffer_field.BufferField.{BufferField}
use Rattle.aml_meaning.specs.State.{Frame, Names}
use Rattle.aml_meaning.specs.Owns.{make_own}
use Rattle.aml_meaning.specs.Runs.{NoMemory, Runs, state}
use Rattle.aml_meaning.proofs.Runs.{runs_no_memory}

-- none is made for want of memory, whatever the frame has then
pub runs_unmade : (frame left : Frame) (names : Names) (steps : ℕ) (log : Log) (width : ℕ) (held : Option Value) (field : Option BufferField) → Runs (Err NoMemory) (make_own width held field) (state frame names steps log) (state left names steps log)
unfolding make_own
runs_unmade frame left names steps log width held field =
    let h = runs_no_memory (make_own width held field) (state frame names steps log) (λ script. refl) in
    record {
      grows = h.grows;
      words = h.words;
      falls = h.falls;
      gives = λ script pre. let g = h.gives script pre in (g.0, g.1, record { steps = g.2.steps; names = g.2.names; log = g.2.log });
      spares = h.spares;
    }
