use Rattle.std.proofs.Common.{◌∷◌, [], ◌++◌, Some, take, sym, ap, ◌∙◌, append_assoc}
use Rattle.std.proofs.lemmas.List.{append-nil, take_more}
use Rattle.std.proofs.lemmas.Option.{get_or_from_slice_get, slice_get_within}
use Rattle.aml_lex.specs.Names.{name_of}
use Rattle.aml_arities.specs.Counted.{all_paths}
use Rattle.aml_paths.specs.Paths.{Path, path_at}
use Rattle.aml_paths.proofs.PathNumbers.{path_at_is, path_at_there}
use Rattle.aml_arities.proofs.Telling.{stays_itself, stays_on}
use Rattle.aml_arities.proofs.counted.Counted.path_to.Goals as goal

pub loop-i-init : goal.loop-i-init
loop-i-init c =
    let old = c.args.self.now in
    let paths = all_paths old in
    record {
      leads = path_at_there paths c.args.base c.requires ∙ ap Some (sym (append-nil (path_at paths c.args.base)));
      stays = stays_itself old;
    }

pub loop-i-preserved : goal.loop-i-preserved
loop-i-preserved c =
    let old = c.args.self.now in
    let base = path_at (all_paths old) c.args.base in
    let segs = (name_of c.args.name.now).segs in
    let i = c.loop-i.i in
    let segment = c.seg.result.bytes in
    let here = path_at_is (all_paths c.loop-i.self) c.loop-i.number (base ++ take i segs) c.loop-i.invariant.leads in
    let last = get_or_from_slice_get segs i segment segment c.seg.ensures in
    let longer = take_more segs i segment (slice_get_within segs i segment c.seg.ensures) ∙ ap (λ s. take i segs ++ s ∷ []) last in
    record {
      leads = c.in_ok-number.ensures.leads
          ∙ ap Some (ap (λ (p : Path). p ++ segment ∷ []) here ∙ append_assoc base (take i segs) (segment ∷ []) ∙ ap (λ (rest : Path). base ++ rest) (sym longer));
      stays = stays_on old c.loop-i.self c.step_to.new.self c.loop-i.invariant.stays c.in_ok-number.ensures.stays;
    }
