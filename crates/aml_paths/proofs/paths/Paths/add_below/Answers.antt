use Rattle.std.proofs.Common.{◌≡◌, List, Some, length, slice_index, sym, ap, ◌∙◌, subst, arith}
use Rattle.std.specs.BTreeMap.{Updates}
use Rattle.std.specs.Int.{bit_at}
use Rattle.std.proofs.lemmas.Grind.{common_steps}
use Rattle.aml_lex.specs.declared.names.NameSeg.{NameSeg}
use Rattle.aml_paths.specs.declared.paths.Step.{Step}
use Rattle.aml_paths.specs.declared.place.Place.{Place}
use Rattle.aml_paths.specs.Chains.{AreLasts, spots_of}
use Rattle.aml_paths.specs.Steps.{paths_seen}
use Rattle.aml_paths.specs.Trie.{AreNumbered, paths_of, place_order}
use Rattle.aml_paths.proofs.Added.{AreNumbered-push, AreNumbered-same}
use Rattle.aml_paths.proofs.Marked.{marks_kept, marks_push, marks_same}
use Rattle.aml_paths.proofs.Chained.{lasts_kept, lasts_push, length-spots_of, spots_push}
use Rattle.aml_paths.proofs.Seen.{seen_closed, seen_distinct}
use Rattle.aml_paths.proofs.Tries.{length-paths_of, paths_push}
use Rattle.aml_paths.proofs.paths.Paths.add_below.Goals as goal

pub invariant_of-self : goal.invariant_of-self
invariant_of-self c =
    let old = c.args.self.now in
    let steps = old.steps.items in
    record {
      numbered = old.numbered;
      ended = lasts_kept old.lasts.items c.note_last.new.lasts.items steps c.len-number.result c.len-number.ensures c.note_last.ensures.kept old.ended;
      marked = old.marked;
    }

pub invariant_of-self-in-Break-branch-2 : goal.invariant_of-self-in-Break-branch-2
invariant_of-self-in-Break-branch-2 c =
    let old = c.args.self.now in
    let steps = old.steps.items in
    record {
      numbered = old.numbered;
      ended = lasts_kept old.lasts.items c.note_last.new.lasts.items steps c.len-number.result c.len-number.ensures c.note_last.ensures.kept old.ended;
      marked = marks_kept old.marks.items c.mark_below.new.marks.items old.numbers c.mark_below.ensures.kept old.marked;
    }

pub invariant_of-self-in-Break-branch-3 : goal.invariant_of-self-in-Break-branch-3
invariant_of-self-in-Break-branch-3 c =
    let old = c.args.self.now in
    let steps = old.steps.items in
    let same : c.push.new.self.items ≡ steps = grind (arith, common_steps) in
    record {
      numbered = subst (AreNumbered old.numbers) (sym same) old.numbered;
      ended = subst (λ (s : List Step). AreLasts c.note_last.new.lasts.items (spots_of s)) (sym same)
          (lasts_kept old.lasts.items c.note_last.new.lasts.items steps c.len-number.result c.len-number.ensures c.note_last.ensures.kept old.ended);
      marked = marks_kept old.marks.items c.mark_below.new.marks.items old.numbers c.mark_below.ensures.kept old.marked;
    }

pub invariant_of-self-in-Ok : goal.invariant_of-self-in-Ok
invariant_of-self-in-Ok c =
    let old = c.args.self.now in
    let steps = old.steps.items in
    let above = c.spot-above.result in
    let spot = c.spot_below-spot.result in
    let step : Step = record { segment = c.args.segment; parent = c.args.at; spot = spot } in
    let updates = subst (λ (s : NameSeg). Updates place_order old.numbers c.insert.new.self (record { segment = s; top = above.top; depth = above.depth }) (Some c.len-number.result)) c.of.ensures c.in-Ok.ensures.updates in
    let numbered = AreNumbered-push old.numbers c.insert.new.self steps step above c.len-number.result c.len-number.ensures old.numbered c.requires.there c.requires.new c.spot-above.ensures c.spot_below-spot.ensures updates in
    let count : length (spots_of steps) ≡ length (paths_of steps) = length-spots_of steps ∙ sym (length-paths_of steps) in
    let next : c.len-number.result ≡ length (spots_of steps) = c.len-number.ensures ∙ sym count in
    let lasts = lasts_push (paths_seen old) (seen_distinct old) (seen_closed old) (spots_of steps) count old.numbered.chained c.args.at above c.spot-above.ensures spot c.spot_below-spot.ensures
    old.lasts.items c.note_last.new.lasts.items old.ended
    (λ t i at lt. c.note_last.ensures.kept t i at (omega (arith, next, lt)))
    (λ i at. c.in_ok-note_last.ensures.noted i at ∙ next) in
    let place : Place = record { segment = c.args.segment; top = above.top; depth = above.depth } in
    let set = ap (bit_at (slice_index c.mark_below.new.marks.items above.top)) (sym c.group_of.ensures.is) ∙ c.in_ok-mark_below.ensures.marked in
    record {
      numbered = subst (AreNumbered c.insert.new.self) (sym c.in_ok-push.ensures.items) numbered;
      ended = subst (λ (s : List Step). AreLasts c.note_last.new.lasts.items (spots_of s)) (sym c.in_ok-push.ensures.items)
          (subst (AreLasts c.note_last.new.lasts.items) (sym (spots_push steps step)) lasts);
      marked = marks_push old.marks.items c.mark_below.new.marks.items old.numbers c.insert.new.self place (Some c.len-number.result) c.mark_below.ensures.kept set updates old.marked;
    }

pub invariant_of-self-in-Err : goal.invariant_of-self-in-Err
invariant_of-self-in-Err c =
    let old = c.args.self.now in
    let steps = old.steps.items in
    let same : c.pop.new.self.items ≡ steps = grind (arith, common_steps) in
    record {
      numbered = AreNumbered-same old.numbers c.insert.new.self steps c.pop.new.self.items c.in-Err.ensures.err same old.numbered;
      ended = subst (λ (s : List Step). AreLasts c.note_last.new.lasts.items (spots_of s)) (sym same)
          (lasts_kept old.lasts.items c.note_last.new.lasts.items steps c.len-number.result c.len-number.ensures c.note_last.ensures.kept old.ended);
      marked = marks_same c.mark_below.new.marks.items old.numbers c.insert.new.self c.in-Err.ensures.err
          (marks_kept old.marks.items c.mark_below.new.marks.items old.numbers c.mark_below.ensures.kept old.marked);
    }

pub returns-in-Ok-clause-ok : goal.returns-in-Ok-clause-ok
returns-in-Ok-clause-ok c =
    let step : Step = record { segment = c.args.segment; parent = c.args.at; spot = c.spot_below-spot.result } in
    ap paths_of c.in_ok-push.ensures.items ∙ paths_push c.args.self.now.steps.items step
