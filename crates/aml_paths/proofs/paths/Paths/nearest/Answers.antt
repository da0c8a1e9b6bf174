use Rattle.std.proofs.Common.{◌≡◌, ap, sym, ◌∙◌, arith}
use Rattle.aml_paths.specs.Chains.{spots_of}
use Rattle.aml_paths.specs.Paths.{path_at, root}
use Rattle.aml_paths.specs.Steps.{paths_seen}
use Rattle.aml_paths.proofs.Nearest.{found_above_chain, found_nowhere, found_on_chain}
use Rattle.aml_paths.proofs.PathNumbers.{path_at_is}
use Rattle.aml_paths.proofs.Seen.{seen_closed, seen_distinct, seen_root}
use Rattle.aml_paths.proofs.paths.Paths.nearest.Goals as goal

pub returns-in-Some : goal.returns-in-Some
returns-in-Some c =
    let held = c.args.self.now in
    let paths = paths_seen held in
    let spot = c.spot-spot.result in
    let stands = held.numbered.chained c.up.number spot c.spot-spot.ensures in
    sym (c.up.invariant.left ∙ found_on_chain paths (seen_distinct held) (seen_closed held) c.args.segment.bytes (spots_of held.steps.items) c.up.number spot stands c.in-Some.found (sym c.last_below_chain.ensures ∙ c.in-Some.is))

pub returns-then-spot-eq-ROOT : goal.returns-then-spot-eq-ROOT
returns-then-spot-eq-ROOT c =
    let held = c.args.self.now in
    let paths = paths_seen held in
    let spot = c.spot-spot.result in
    let stands = held.numbered.chained c.up.number spot c.spot-spot.ensures in
    let at_root : path_at paths spot.top ≡ root = ap (path_at paths) c.if-spot-eq-ROOT.true ∙ path_at_is paths 0 root (seen_root held) in
    sym (c.up.invariant.left ∙ found_nowhere paths (seen_distinct held) (seen_closed held) c.args.segment.bytes (spots_of held.steps.items) c.up.number spot stands (sym c.last_below_chain.ensures ∙ c.in_default.is) at_root)

pub last_step-number-requires-clause-there : goal.last_step-number-requires-clause-there
last_step-number-requires-clause-there c =
    let top = (c.args.self.now.numbered.chained c.up.number c.spot-spot.result c.spot-spot.ensures).top in
    omega (arith, top, c.up.invariant.there)

pub up-smaller : goal.up-smaller
up-smaller c =
    let top = (c.args.self.now.numbered.chained c.up.number c.spot-spot.result c.spot-spot.ensures).top in
    omega (arith, top, c.last_step-number.ensures.earlier)

pub up-preserved : goal.up-preserved
up-preserved c =
    let held = c.args.self.now in
    let paths = paths_seen held in
    let spot = c.spot-spot.result in
    let step = c.last_step-number in
    let stands = held.numbered.chained c.up.number spot c.spot-spot.ensures in
    record {
      there = let top = stands.top in omega (arith, top, step.ensures.earlier, c.up.invariant.there);
      left = c.up.invariant.left ∙ found_above_chain paths (seen_distinct held) (seen_closed held) c.args.segment.bytes (spots_of held.steps.items) c.up.number spot stands (sym c.last_below_chain.ensures ∙ c.in_default.is) step.result step.ensures.leads;
    }
