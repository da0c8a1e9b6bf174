use Rattle.std.proofs.Common.{◌<◌, length, sym, ap, ◌∙◌, arith}
use Rattle.std.specs.Int.{bit_at}
use Rattle.aml_paths.proofs.Marked.{marked_here, others_kept}
use Rattle.aml_paths.proofs.marks.mark_below.Goals as goal

pub returns-clause-kept : goal.returns-clause-kept
returns-clause-kept c = λ t g off.
    let marks = c.reach.marks.items in
    let there : c.args.top < length marks = omega (arith, c.len.ensures, c.reach-test.false) in
    ap (λ m. bit_at m g) (sym (c.reach.invariant t))
    ∙ others_kept marks c.args.top c.args.group c.index_mut.result.now there c.index_mut.ensures.value c.requires t g off

pub returns-clause-marked : goal.returns-clause-marked
returns-clause-marked c =
    let marks = c.reach.marks.items in
    let there : c.args.top < length marks = omega (arith, c.len.ensures, c.reach-test.false) in
    marked_here marks c.args.top c.args.group c.index_mut.result.now there c.index_mut.ensures.value c.requires
