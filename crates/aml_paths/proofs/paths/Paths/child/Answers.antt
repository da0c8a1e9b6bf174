use Rattle.std.proofs.Common.{sym, ap, ◌∙◌, arith}
use Rattle.std.specs.BTreeMap.{get}
use Rattle.aml_lex.specs.declared.names.NameSeg.{NameSeg}
use Rattle.aml_paths.specs.Trie.{place_order}
use Rattle.aml_paths.proofs.Chained.{below_chain_at, known_below}
use Rattle.aml_paths.proofs.paths.Paths.child.Goals as goal

pub returns-then-not-may_be_below : goal.returns-then-not-may_be_below
returns-then-not-may_be_below c =
    let held = c.args.self.now in
    let spot = c.spot-spot.result in
    sym (sym (below_chain_at held.numbers held.steps.items held.numbered c.args.at c.args.segment spot (omega arith) c.spot-spot.ensures) ∙ c.may_be_below.ensures c.if-not-may_be_below.true spot.depth)

pub returns : goal.returns
returns c =
    let held = c.args.self.now in
    let spot = c.spot-spot.result in
    let here = ap (λ (s : NameSeg). get place_order held.numbers (record { segment = s; top = spot.top; depth = spot.depth })) c.of.ensures in
    c.copied.ensures ∙ c.get.ensures.value ∙ here ∙ known_below held.numbers held.steps.items held.numbered c.args.at c.args.segment spot (omega arith) c.spot-spot.ensures
