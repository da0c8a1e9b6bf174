use Rattle.std.proofs.Common.{sym, ap, ◌∙◌}
use Rattle.aml_paths.specs.declared.place.Place.{Place}
use Rattle.aml_paths.specs.Chains.{number_below_chain, spots_of}
use Rattle.aml_paths.specs.Steps.{paths_seen}
use Rattle.aml_paths.proofs.Places.{is_of_another, is_place_at, known_on_chain, last_found, none_found, other_found, range_of, unlike}
use Rattle.aml_paths.proofs.Upward.{greatest_none}
use Rattle.aml_paths.proofs.paths.Paths.last_below_chain.Goals as goal
use Rattle.aml_paths.proofs.paths.Paths.last_below_chain.Goals.{then-place-spot-via-then-place-spot, then-place-spot-via-else-place-spot+then-ne}

pub returns-then-not-may_be_below : goal.returns-then-not-may_be_below
returns-then-not-may_be_below c =
    let held = c.args.self.now in
    let spot = c.args.spot in
    sym (greatest_none (number_below_chain (paths_seen held) (spots_of held.steps.items) spot.top c.args.segment.bytes) spot.depth (λ depth le. c.may_be_below.ensures c.if-not-may_be_below.true depth))

pub returns-in_err-place : goal.returns-in_err-place
returns-in_err-place c =
    let held = c.args.self.now in
    let segment = c.args.segment in
    let spot = c.args.spot in
    c.from_residual.ensures ∙ sym (sym (known_on_chain held.numbers held.steps.items (paths_seen held) held.numbered.known segment spot.top spot.depth) ∙ none_found held.numbers segment spot.top spot.depth c.range.result (range_of held.numbers segment spot.top spot.depth c.range.result c.of.result c.of.ensures (c.range.ensures.in_range tt)) c.in_err-place.ensures.steps.0)

pub returns-then-place-spot : goal.returns-then-place-spot
returns-then-place-spot c =
    let held = c.args.self.now in
    let segment = c.args.segment in
    let spot = c.args.spot in
    let place = c.in_ok-place.place.now in
    sym (sym (known_on_chain held.numbers held.steps.items (paths_seen held) held.numbered.known segment spot.top spot.depth)
    ∙ other_found held.numbers segment spot.top spot.depth c.range.result c.next_back.new.self place c.in_ok-place.number.now (range_of held.numbers segment spot.top spot.depth c.range.result c.of.result c.of.ensures (c.range.ensures.in_range tt)) c.in_ok-place.ensures.steps
    (λ one. elim c.then-place-spot.branch [
      | then-place-spot-via-then-place-spot w ↦ w.if-place-spot.true (ap (λ (p : Place). p.top) one)
      | then-place-spot-via-else-place-spot+then-ne w ↦ is_of_another place segment spot.top (w.if-ne.ensures ∙ unlike place w.of-else-place-spot.result segment w.of-else-place-spot.ensures) one
    ]))

pub returns : goal.returns
returns c =
    let held = c.args.self.now in
    let segment = c.args.segment in
    let spot = c.args.spot in
    let place = c.in_ok-place.place.now in
    sym (sym (known_on_chain held.numbers held.steps.items (paths_seen held) held.numbered.known segment spot.top spot.depth)
    ∙ last_found held.numbers segment spot.top spot.depth c.range.result c.next_back.new.self place c.in_ok-place.number.now (range_of held.numbers segment spot.top spot.depth c.range.result c.of.result c.of.ensures (c.range.ensures.in_range tt)) c.in_ok-place.ensures.steps
    (is_place_at place segment spot.top c.if-place-spot.false (c.if-ne.ensures ∙ unlike place c.of-else-place-spot.result segment c.of-else-place-spot.ensures)))
