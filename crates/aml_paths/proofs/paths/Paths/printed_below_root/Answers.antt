use Rattle.std.proofs.Common.{◌<◌, ◌∷◌, [], List, ℕ, length, drop, sym, ap, ◌∙◌, arith}
use Rattle.std.proofs.lemmas.List.{drop-drop, get_or-drop, length-drop}
use Rattle.aml_paths.specs.Paths.{number_below}
use Rattle.aml_paths.specs.Printed.{segments_in}
use Rattle.std.proofs.Common.{option_and_then}
use Rattle.aml_paths.specs.Steps.{paths_seen}
use Rattle.aml_paths.proofs.PrintedPaths.{four_from, leads_from_root, leads_last, leads_nowhere, leads_on, leads_short, no_dot}
use Rattle.aml_paths.proofs.Seen.{seen_closed, seen_distinct, seen_root}
use Rattle.aml_paths.proofs.Tries.{length-paths_of}
use Rattle.aml_paths.proofs.Ways.{number_below_within}
use Rattle.aml_paths.proofs.paths.Paths.printed_below_root.Goals as goal

pub loop-at-init : goal.loop-at-init
loop-at-init c =
    let held = c.args.self.now in
    let count = length-paths_of held.steps.items in
    record {
      there = omega (arith, count);
      within = omega arith;
      left = leads_from_root (paths_seen held) (segments_in c.args.text.now) (seen_root held);
    }

pub returns-then-text-at-ne46 : goal.returns-then-text-at-ne46
returns-then-text-at-ne46 c =
    let held = c.args.self.now in
    let text = c.args.text.now in
    let at = c.loop-at.at in
    let long : 4 < length (drop at text) = let l = length-drop at text in omega (arith, l, c.loop-at-test.true) in
    sym (c.loop-at.invariant.left ∙ no_dot (paths_seen held) (seen_distinct held) (seen_closed held) c.loop-at.number (drop at text) long (λ dot. c.if-text-at-ne46.true (sym (get_or-drop at text 4 0) ∙ dot)))

pub returns-in_err-number : goal.returns-in_err-number
returns-in_err-number c =
    let held = c.args.self.now in
    let text = c.args.text.now in
    let at = c.loop-at.at in
    let n = c.loop-at.number in
    let long : 4 < length (drop at text) = let l = length-drop at text in omega (arith, l, c.loop-at-test.true) in
    let dot = get_or-drop at text 4 0 ∙ c.if-text-at-ne46.false in
    let none = ap (λ (s : List ℕ). number_below (paths_seen held) n (s ∷ [])) (four_from text at ∙ sym c.segment_at-segment.ensures) ∙ sym c.child.ensures ∙ c.in_err-number.was in
    c.from_residual.ensures ∙ sym (c.loop-at.invariant.left ∙ leads_nowhere (paths_seen held) (seen_distinct held) (seen_closed held) n (drop at text) long dot none)

pub loop-at-preserved : goal.loop-at-preserved
loop-at-preserved c =
    let held = c.args.self.now in
    let text = c.args.text.now in
    let at = c.loop-at.at in
    let n = c.loop-at.number in
    let next = c.in_ok-number.number in
    let l = length-drop at text in
    let long : 4 < length (drop at text) = omega (arith, l, c.loop-at-test.true) in
    let dot = get_or-drop at text 4 0 ∙ c.if-text-at-ne46.false in
    let down = sym c.child.ensures ∙ c.in_ok-number.was in
    let below = ap (λ (s : List ℕ). number_below (paths_seen held) n (s ∷ [])) (four_from text at ∙ sym c.segment_at-segment.ensures) ∙ down in
    record {
      there = number_below_within (paths_seen held) (seen_distinct held) n _ next down;
      within = omega (arith, c.loop-at-test.true);
      left = c.loop-at.invariant.left ∙ leads_on (paths_seen held) (seen_distinct held) (seen_closed held) n (drop at text) next long dot below
          ∙ ap (λ (rest : List ℕ). option_and_then (number_below (paths_seen held) next) (segments_in rest)) (drop-drop 5 at text);
    }

pub returns-then-text-at-lt4 : goal.returns-then-text-at-lt4
returns-then-text-at-lt4 c =
    let held = c.args.self.now in
    let text = c.args.text.now in
    let at = c.loop-at.at in
    let l = length-drop at text in
    sym (c.loop-at.invariant.left ∙ leads_short (paths_seen held) (seen_distinct held) (seen_closed held) c.loop-at.number (drop at text) (omega (arith, l, c.if-text-at-lt4.true)))

pub returns : goal.returns
returns c =
    let held = c.args.self.now in
    let text = c.args.text.now in
    let at = c.loop-at.at in
    let n = c.loop-at.number in
    let l = length-drop at text in
    let four = leads_last (paths_seen held) (seen_distinct held) (seen_closed held) n (drop at text) (omega (arith, l, c.loop-at-test.false, c.if-text-at-lt4.false)) in
    let same = ap (λ (s : List ℕ). number_below (paths_seen held) n (s ∷ [])) (four_from text at ∙ sym c.segment_at.ensures) in
    c.child-2.ensures ∙ sym (c.loop-at.invariant.left ∙ four ∙ same)
