use Rattle.std.proofs.Common.{◌≡◌, ◌+◌, ◌/◌, Bool, List, ℕ, Result, length, refl, arith, rules}
use Rattle.aml_paths.specs.declared.memory.NoMemory.{NoMemory}
use Rattle.aml_meaning.specs.Fields.{bytes_read, plan_of, plan_reads, read_bytes, read_count, told_bytes}
use Rattle.aml_meaning.specs.Parts.{M}
use Rattle.aml_meaning.specs.Runs.{Runs}
use Rattle.aml_meaning.specs.State.{State}
use Rattle.aml_fields.proofs.Plans.{plan_layout, steps_left}
use Rattle.aml_fields.proofs.wide.read_wide_field.Goals as goal

-- what the gathered bytes are at last, the field's bytes are
told_at_last : (r : Result Bool NoMemory) (last bytes : List ℕ) (m : M (List ℕ)) (s0 s1 : State) → last ≡ bytes → Runs (told_bytes r bytes) m s0 s1 → Runs (told_bytes r last) m s0 s1
told_at_last r last bytes m s0 s1 same runs = rw same runs

pub read_units-requires-clause-room : goal.read_units-requires-clause-room
read_units-requires-clause-room g c = rw (plan_layout c.args.field.now) (omega (arith, c.requires.size))

pub returns-clause-means : goal.returns-clause-means
unfolding read_bytes read_count bytes_read
returns-clause-means g c = λ frame names.
    let field = c.args.field.now in
    let size : length c.args.bytes.now ≡ ((plan_of field).layout.bits + 7) / 8 = rw (plan_layout field) c.requires.size in
    let bytes = c.read_units.new.gathered.bytes.now in
    told_at_last c.read_units.result _ bytes _ _ _ (search rules)
    (steps_left (λ r. told_bytes r bytes) (λ e. refl) c.read_units.result _ frame names (plan_reads (plan_of field)) c.args.limit _ _ _ c.read_units.ensures.takes (rw size at c.read_units.ensures.means frame names))
