use Rattle.std.proofs.Common.{◌≡◌, ◌∷◌, [], ◌++◌, sym, ap, ◌∙◌, arith}
use Rattle.std.specs.BTreeMap.{get}
use Rattle.std.specs.Option.{option_copied}
use Rattle.std.specs.Ordering.{nat_cmp}
use Rattle.aml_arities.specs.Counted.{all_paths, told}
use Rattle.aml_paths.specs.Paths.{Path, root, path_at}
use Rattle.aml_paths.specs.Resolve.{upward_search}
use Rattle.aml_paths.proofs.Nearest.{found_below_root, found_within, parent_before, told_above, told_answer, told_first, told_here, told_nowhere}
use Rattle.aml_paths.proofs.PathNumbers.{path_at_is}
use Rattle.aml_paths.proofs.Seen.{seen_closed, seen_distinct, seen_root}
use Rattle.aml_paths.proofs.Upward.{found_above}
use Rattle.aml_arities.proofs.answered.Answered.nearest_count.Goals as goal

pub returns-in_err-found : goal.returns-in_err-found
returns-in_err-found c =
    let held = c.args.self.now.counted in
    c.from_residual.ensures ∙ sym (c.up.invariant.left
    ∙ told_nowhere (all_paths held) (seen_distinct held.paths) (seen_closed held.paths) c.args.segment.bytes c.up.number c.up.invariant.there (get nat_cmp held.counts) (sym c.nearest.ensures ∙ c.in_err-found.was))

pub last_step-parent-requires : goal.last_step-parent-requires
last_step-parent-requires c =
    let held = c.args.self.now.counted in
    let nearest = sym c.nearest.ensures ∙ c.in_ok-found.was in
    record {
      below_root = found_below_root (all_paths held) (seen_distinct held.paths) (seen_closed held.paths) c.args.segment.bytes c.up.number c.up.invariant.there c.in_ok-found.found nearest (seen_root held.paths);
      there = found_within (all_paths held) (seen_distinct held.paths) (seen_closed held.paths) c.args.segment.bytes c.up.number c.up.invariant.there c.in_ok-found.found nearest;
    }

pub returns-in-Some : goal.returns-in-Some
returns-in-Some c =
    let held = c.args.self.now.counted in
    let nearest = sym c.nearest.ensures ∙ c.in_ok-found.was in
    sym (c.up.invariant.left
    ∙ told_first (all_paths held) (seen_distinct held.paths) (seen_closed held.paths) c.args.segment.bytes c.up.number c.up.invariant.there c.in_ok-found.found nearest (get nat_cmp held.counts) c.in-Some.count (sym c.count_at.ensures ∙ c.in-Some.is))

pub returns-in-Some-get : goal.returns-in-Some-get
returns-in-Some-get c =
    let held = c.args.self.now.counted in
    let nearest = sym c.nearest.ensures ∙ c.in_ok-found.was in
    let answer = c.in-Some-get.answer.now in
    sym (c.up.invariant.left
    ∙ told_answer (all_paths held) (seen_distinct held.paths) (seen_closed held.paths) c.args.segment.bytes c.up.number c.up.invariant.there c.in_ok-found.found nearest (get nat_cmp held.counts) answer
    (c.args.self.now.right c.in_ok-found.found answer (sym c.get.ensures.value ∙ ap option_copied c.in-Some-get.is)))

pub last_step-number-requires : goal.last_step-number-requires
last_step-number-requires c =
    let held = c.args.self.now.counted in
    let nearest = sym c.nearest.ensures ∙ c.in_ok-found.was in
    let within = found_within (all_paths held) (seen_distinct held.paths) (seen_closed held.paths) c.args.segment.bytes c.up.number c.up.invariant.there c.in_ok-found.found nearest in
    record { below_root = omega arith; there = omega (arith, within, c.last_step-parent.ensures.earlier) }

pub returns-then-parent-eq-ROOT : goal.returns-then-parent-eq-ROOT
returns-then-parent-eq-ROOT c =
    let held = c.args.self.now.counted in
    let paths = all_paths held in
    let segment = c.args.segment.bytes in
    let count = get nat_cmp held.counts in
    let found = c.in_ok-found.found in
    let nearest = sym c.nearest.ensures ∙ c.in_ok-found.was in
    let step = c.last_step-parent in
    let on = told_above paths (seen_distinct held.paths) (seen_closed held.paths) segment c.up.number c.up.invariant.there found nearest step.result step.ensures.leads count in
    let here = told_here paths (seen_distinct held.paths) (seen_closed held.paths) segment c.up.number c.up.invariant.there found nearest step.result step.ensures.leads count in
    let untold = here ∙ sym c.count_at.ensures ∙ c.in_default.is in
    let at_root : path_at paths step.result.parent ≡ root = ap (path_at paths) c.if-parent-eq-ROOT.true ∙ path_at_is paths 0 root (seen_root held.paths) in
    sym (c.up.invariant.left ∙ on
    ∙ ap (λ (p : Path). upward_search (told held) p segment) at_root
    ∙ sym (ap (λ (p : Path). told held (p ++ segment ∷ [])) at_root)
    ∙ untold)

pub up-smaller : goal.up-smaller
up-smaller c =
    let held = c.args.self.now.counted in
    let nearest = sym c.nearest.ensures ∙ c.in_ok-found.was in
    let within = found_within (all_paths held) (seen_distinct held.paths) (seen_closed held.paths) c.args.segment.bytes c.up.number c.up.invariant.there c.in_ok-found.found nearest in
    let step = c.last_step-parent in
    let before = parent_before (all_paths held) (seen_distinct held.paths) (seen_closed held.paths) c.args.segment.bytes c.up.number c.up.invariant.there c.in_ok-found.found nearest step.result step.ensures.leads (omega (arith, within, step.ensures.earlier)) in
    omega (arith, before, c.last_step-number.ensures.earlier)

pub up-preserved : goal.up-preserved
up-preserved c =
    let held = c.args.self.now.counted in
    let paths = all_paths held in
    let segment = c.args.segment.bytes in
    let count = get nat_cmp held.counts in
    let found = c.in_ok-found.found in
    let nearest = sym c.nearest.ensures ∙ c.in_ok-found.was in
    let within = found_within paths (seen_distinct held.paths) (seen_closed held.paths) segment c.up.number c.up.invariant.there found nearest in
    let step = c.last_step-parent in
    let above = c.last_step-number in
    let on = told_above paths (seen_distinct held.paths) (seen_closed held.paths) segment c.up.number c.up.invariant.there found nearest step.result step.ensures.leads count in
    let here = told_here paths (seen_distinct held.paths) (seen_closed held.paths) segment c.up.number c.up.invariant.there found nearest step.result step.ensures.leads count in
    let path = path_at_is paths step.result.parent _ above.ensures.leads in
    let missing = sym (ap (λ (p : Path). told held (p ++ segment ∷ [])) path) ∙ here ∙ sym c.count_at.ensures ∙ c.in_default.is in
    record {
      there = omega (arith, above.ensures.earlier, step.ensures.earlier, within);
      left = c.up.invariant.left ∙ on
          ∙ ap (λ (p : Path). upward_search (told held) p segment) path
          ∙ found_above (told held) segment (path_at paths above.result.parent) above.result.segment.bytes missing;
    }
