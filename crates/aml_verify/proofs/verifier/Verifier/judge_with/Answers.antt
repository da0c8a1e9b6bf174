use Rattle.std.proofs.Common.{List, map, refl, sym, ap, ◌∙◌, ℕ}
use Rattle.aml_calls.specs.Pairs.{numbers}
use Rattle.aml_known.specs.Views.{kinds_of}
use Rattle.aml_namespace.specs.Shows.{shown}
use Rattle.aml_operators.specs.Tree.{view}
use Rattle.aml_own_names.specs.OwnNames.{own_names}
use Rattle.aml_own_names.specs.OwnNamesSeen.{owns_seen}
use Rattle.aml_shapes.specs.Numbers.{numbered}
use Rattle.aml_signatures.specs.Signed.{kinds_told}
use Rattle.aml_verify.proofs.Judged.{accepted_marked, accepted_said, is_refused, refused_marked, refused_said, still_at_work}
use Rattle.aml_verify.specs.declared.verdict.Verdict.TheVariants as verdict
use Rattle.aml_verify.proofs.verifier.Verifier.judge_with.Goals as goal

pub returns-in-Ok-clause-said : goal.returns-in-Ok-clause-said
returns-in-Ok-clause-said c = λ is. let v = c.args.self.now in
    let bytes_are = c.body_bytes-bytes.ensures c.args.method c.requires.there in
    accepted_said (shown v.read.namespace.now) (kinds_told v.signatures.now) v.shapes c.deref.result.now v.heights v.components (numbers v.order.items) v.judged c.deref-2.result.now
    (still_at_work (shown v.read.namespace.now) (kinds_told v.signatures.now) v.shapes v.shared.items c.deref.result.now v.heights v.components (numbers v.order.items) v.judged v.verdicts.items c.deref-2.result.now c.deref.ensures.value c.deref-2.ensures.value is.at_work)
    c.args.id.0 c.args.method c.requires.next c.requires.there c.args.body.now c.requires.read
    c.body_bytes-bytes.result.now bytes_are (owns_seen c.args.kept.now.owns) ((is.keeps c.args.id.0 c.args.kept.now c.requires.kept).owns c.args.method c.requires.there (map view c.args.body.now) c.requires.read.is ∙ ap (λ (b : List ℕ). own_names b (map view c.args.body.now)) (sym bytes_are))
    c.new.result.items c.new.ensures.items c.new-2.result.items c.new-2.ensures.items
    c.is_short-short.result _ c.in-Ok.accepted c.is_short-short.ensures (c.in_ok-args.ensures _ c.args.method refl) (c.in-Ok.ensures c.are_apart.ensures)

pub returns-in-Err-Refused-clause-said : goal.returns-in-Err-Refused-clause-said
returns-in-Err-Refused-clause-said c = λ is. let v = c.args.self.now in
    let bytes_are = c.body_bytes-bytes.ensures c.args.method c.requires.there in
    refused_said (shown v.read.namespace.now) (kinds_told v.signatures.now) v.shapes c.deref.result.now v.heights v.components (numbers v.order.items) v.judged c.deref-2.result.now
    (still_at_work (shown v.read.namespace.now) (kinds_told v.signatures.now) v.shapes v.shared.items c.deref.result.now v.heights v.components (numbers v.order.items) v.judged v.verdicts.items c.deref-2.result.now c.deref.ensures.value c.deref-2.ensures.value is.at_work)
    c.args.id.0 c.args.method c.requires.next c.requires.there c.args.body.now c.requires.read
    c.body_bytes-bytes.result.now bytes_are (owns_seen c.args.kept.now.owns) ((is.keeps c.args.id.0 c.args.kept.now c.requires.kept).owns c.args.method c.requires.there (map view c.args.body.now) c.requires.read.is ∙ ap (λ (b : List ℕ). own_names b (map view c.args.body.now)) (sym bytes_are))
    c.new.result.items c.new.ensures.items c.new-2.result.items c.new-2.ensures.items
    c.is_short-short.result _ c.in-Err-Refused.refusal c.refused-finding.result c.is_short-short.ensures (c.in_ok-args.ensures _ c.args.method refl) (is_refused (numbered v.shapes) _ c.in-Err-Refused.field-0 c.in-Err-Refused.refusal c.in-Err-Refused.field-0-is (c.in-Err-Refused.ensures c.are_apart.ensures))

pub returns-in-Ok-clause-marks : goal.returns-in-Ok-clause-marks
returns-in-Ok-clause-marks c = λ is. let v = c.args.self.now in
    let bytes_are = c.body_bytes-bytes.ensures c.args.method c.requires.there in
    let works = still_at_work (shown v.read.namespace.now) (kinds_told v.signatures.now) v.shapes v.shared.items c.deref.result.now v.heights v.components (numbers v.order.items) v.judged v.verdicts.items c.deref-2.result.now c.deref.ensures.value c.deref-2.ensures.value is.at_work in
    accepted_marked (shown v.read.namespace.now) (kinds_told v.signatures.now) v.shapes c.deref.result.now v.heights v.components (numbers v.order.items) v.judged c.deref-2.result.now works
    c.args.id.0 c.args.method c.requires.next c.requires.there c.args.body.now c.requires.read
    c.body_bytes-bytes.result.now bytes_are (owns_seen c.args.kept.now.owns) ((is.keeps c.args.id.0 c.args.kept.now c.requires.kept).owns c.args.method c.requires.there (map view c.args.body.now) c.requires.read.is ∙ ap (λ (b : List ℕ). own_names b (map view c.args.body.now)) (sym bytes_are))
    c.new.result.items c.new.ensures.items c.new-2.result.items c.new-2.ensures.items
    v.integers.items c.deref-3.result.now (kinds_of (numbered v.shapes) c.deref-4.result.now) c.in-Ok.accepted c.integers_alone-alone.result (returns-in-Ok-clause-said c is)
    (ap (kinds_of (numbered v.shapes)) c.deref-4.ensures.value ∙ c.in_ok-args.ensures (numbered v.shapes) c.args.method refl) c.deref-3.ensures.value c.integers_alone-alone.ensures

pub returns-in-Err-Refused-clause-marks : goal.returns-in-Err-Refused-clause-marks
returns-in-Err-Refused-clause-marks c = λ is. let v = c.args.self.now in
    refused_marked (shown v.read.namespace.now) (kinds_told v.signatures.now) (numbered v.shapes) c.args.id.0 c.args.method (verdict.Refused c.in-Err-Refused.refusal c.refused-finding.result) v.integers.items c.requires.there refl (returns-in-Err-Refused-clause-said c is)

pub invariant_of-names : goal.invariant_of-names
invariant_of-names c =
    record { meant = rw (c.body_bytes-bytes.ensures c.args.method c.requires.there) (c.args.self.now.read.meant c.args.id.0 c.args.kept.now c.requires.kept c.args.method c.requires.there) }
