use Rattle.std.proofs.Common.{◌∙◌, ℕ, ◌/◌, ◌≤◌, ap, arith, take}
use Rattle.std.specs.Prelude.{slice_index}
use Rattle.std.specs.Int.{byte_at}
use Rattle.aml_regions.specs.Bytes.{byte_of, with_run}
use Rattle.aml_regions.proofs.Places.{front_byte, front_length, on_ok_more, run_same}
use Rattle.aml_regions.proofs.bytes.put_unit.Goals as goal

pub returns-clause-put : goal.returns-clause-put
returns-clause-put c =
    let value = c.args.value in
    let run = c.to_le_bytes-run.result in
    let space = c.args.access.space in
    let at = c.args.access.address in
    let old = byte_of c.args.bytes.now in
    let count : ℕ = c.args.access.width / 8 in
    let most : count ≤ 8 = omega arith in
    let front = slice_index (take count run) in
    on_ok_more c.put_run.result
    (λ same s a. same s a ∙ (ap (λ n. with_run old space at n front s a) (front_length run value count c.to_le_bytes-run.ensures most)
    ∙ run_same old space at count front (λ i. byte_at i value) (λ i within. front_byte run value count i c.to_le_bytes-run.ensures most within) s a))
    c.put_run.ensures.put
