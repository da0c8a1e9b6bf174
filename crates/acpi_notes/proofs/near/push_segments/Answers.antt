use Rattle.std.proofs.Common.{◌++◌, Some, None, rules, sym, ap, ◌∙◌, arith}
use Rattle.std.specs.Prelude.{string_bytes}
use Rattle.std.proofs.lemmas.Result.{on_ok_weaker}
use Rattle.std.proofs.lemmas.Str.Pattern.{split_parts}
use Rattle.acpi_notes.specs.Near.{padded, printed_segments}
use Rattle.acpi_notes.proofs.Segments.{one_more, segments_more, segments_one}
use Rattle.acpi_notes.proofs.near.push_segments.Goals as goal

pub loop-segment-preserved : goal.loop-segment-preserved
loop-segment-preserved c =
    let segment = c.in-Some.segment.now in
    let behind = c.in-Some.behind.now in
    let parts = split_parts 46 c.loop-segment.rest.now (Some (c.in-Some.segment, c.in-Some.behind)) c.in-Some.ensures.cases (omega arith) in
    let left = ap printed_segments parts.0 ∙ segments_more segment behind parts.1 in
    let dot = ap (λ d. string_bytes c.push_padded.new.path ++ d) (c.push.ensures.ascii (omega arith)) in (
      search rules,
      one_more (string_bytes c.loop-segment.path) _ _ (padded segment) (printed_segments behind) _ c.in_ok-push_padded.ensures
          (c.in_ok-push.ensures.bytes ∙ dot)
          (ap (λ l. string_bytes c.loop-segment.path ++ l) (sym left) ∙ c.loop-segment.invariant.1),
    )

pub returns : goal.returns
returns c =
    let lacks = split_parts 46 c.loop-segment.rest.now None c.in_default.ensures.cases (omega arith) in
    let last = ap (λ l. string_bytes c.loop-segment.path ++ l) (sym (segments_one c.loop-segment.rest.now lacks)) ∙ c.loop-segment.invariant.1 in
    on_ok_weaker c.push_padded-2.result (λ e. e ∙ last) c.push_padded-2.ensures
