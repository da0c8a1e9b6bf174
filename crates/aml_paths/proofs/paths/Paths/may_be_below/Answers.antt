use Rattle.std.proofs.Common.{sym, ap, ◌∙◌, slice_index}
use Rattle.std.specs.Int.{bit_at}
use Rattle.aml_paths.proofs.Places.{place_at}
use Rattle.aml_paths.proofs.paths.Paths.may_be_below.Goals as goal

pub returns : goal.returns
returns c = λ no depth.
    let held = c.args.self.now in
    let segment = c.args.segment in
    let top = c.args.top in
    let off = ap (bit_at (slice_index held.marks.items top)) (sym c.group_of.ensures.is)
    ∙ ap (λ marks. bit_at (slice_index marks top) c.group_of.result) (sym c.deref.ensures.value) ∙ c.may_stand.ensures no in
    sym (held.numbered.known segment top depth) ∙ held.marked (place_at segment top depth) off
