use Rattle.std.proofs.Common.{◌≡◌, List, ◌++◌, OnOk, sym, ap, ◌∙◌, subst}
use Rattle.aml_operators.specs.Tree.{more, view, views}
use Rattle.aml_arities.specs.declared.external.External.{External}
use Rattle.aml_objects.specs.Kept.{Makes, entries_seen, here_of}
use Rattle.aml_namespace.proofs.Defined.{declared_device, declared_power, declared_processor, declared_scope, declared_zone, defined_device, defined_power, defined_processor, defined_scope, defined_zone}
use Rattle.aml_namespace.proofs.define.+define.Goals as goal

pub define-returns-in-Scope-clause-made : goal.define-returns-in-Scope-clause-made
define-returns-in-Scope-clause-made t c =
    let parts = ap views (sym c.deref.ensures.value) ∙ c.first_and_rest.ensures.views in
    let made = defined_scope (here_of c.args.here) (entries_seen c.args.objects.now) c.args.term.now (view c.first_and_rest.result.0.now) (views c.first_and_rest.result.1.now) c.in-Scope.is parts in
    subst (Makes c.define_reopened.result (entries_seen c.define_reopened.new.objects)) (sym made) c.define_reopened.ensures.made

pub define-returns-in-Device-clause-made : goal.define-returns-in-Device-clause-made
define-returns-in-Device-clause-made t c =
    let parts = ap views (sym c.deref.ensures.value) ∙ c.first_and_rest-in-Device.ensures.views in
    let made = defined_device (here_of c.args.here) (entries_seen c.args.objects.now) c.args.term.now (view c.first_and_rest-in-Device.result.0.now) (views c.first_and_rest-in-Device.result.1.now) c.in-Device.is parts in
    subst (Makes c.define_within.result (entries_seen c.define_within.new.objects)) (sym made) c.define_within.ensures.made

pub define-returns-in-ThermalZone-clause-made : goal.define-returns-in-ThermalZone-clause-made
define-returns-in-ThermalZone-clause-made t c =
    let parts = ap views (sym c.deref.ensures.value) ∙ c.first_and_rest-in-ThermalZone.ensures.views in
    let made = defined_zone (here_of c.args.here) (entries_seen c.args.objects.now) c.args.term.now (view c.first_and_rest-in-ThermalZone.result.0.now) (views c.first_and_rest-in-ThermalZone.result.1.now) c.in-ThermalZone.is parts in
    subst (Makes c.define_within-in-ThermalZone.result (entries_seen c.define_within-in-ThermalZone.new.objects)) (sym made) c.define_within-in-ThermalZone.ensures.made

pub define-returns-in-PowerResource-clause-made : goal.define-returns-in-PowerResource-clause-made
define-returns-in-PowerResource-clause-made t c =
    let parts = ap views (sym c.deref.ensures.value) ∙ c.first_and_rest-in-PowerResource.ensures.views
    ∙ ap (λ r. more (view c.first_and_rest-in-PowerResource.result.0.now) r) c.first_and_rest-in-PowerResource-2.ensures.views
    ∙ ap (λ r. more (view c.first_and_rest-in-PowerResource.result.0.now) (more (view c.first_and_rest-in-PowerResource-2.result.0.now) r)) c.first_and_rest-in-PowerResource-3.ensures.views in
    let made = defined_power (here_of c.args.here) (entries_seen c.args.objects.now) c.args.term.now (view c.first_and_rest-in-PowerResource.result.0.now) (view c.first_and_rest-in-PowerResource-2.result.0.now) (view c.first_and_rest-in-PowerResource-3.result.0.now) (views c.first_and_rest-in-PowerResource-3.result.1.now) c.in-PowerResource.is parts in
    subst (Makes c.define_within-in-PowerResource.result (entries_seen c.define_within-in-PowerResource.new.objects)) (sym made) c.define_within-in-PowerResource.ensures.made

pub define-returns-in-Processor-clause-made : goal.define-returns-in-Processor-clause-made
define-returns-in-Processor-clause-made t c =
    let parts = ap views (sym c.deref.ensures.value) ∙ c.first_and_rest-in-Processor.ensures.views
    ∙ ap (λ r. more (view c.first_and_rest-in-Processor.result.0.now) r) c.first_and_rest-in-Processor-2.ensures.views
    ∙ ap (λ r. more (view c.first_and_rest-in-Processor.result.0.now) (more (view c.first_and_rest-in-Processor-2.result.0.now) r)) c.first_and_rest-in-Processor-3.ensures.views
    ∙ ap (λ r. more (view c.first_and_rest-in-Processor.result.0.now) (more (view c.first_and_rest-in-Processor-2.result.0.now) (more (view c.first_and_rest-in-Processor-3.result.0.now) r))) c.first_and_rest-in-Processor-4.ensures.views in
    let made = defined_processor (here_of c.args.here) (entries_seen c.args.objects.now) c.args.term.now (view c.first_and_rest-in-Processor.result.0.now) (view c.first_and_rest-in-Processor-2.result.0.now) (view c.first_and_rest-in-Processor-3.result.0.now) (view c.first_and_rest-in-Processor-4.result.0.now) (views c.first_and_rest-in-Processor-4.result.1.now) c.in-Processor.is parts in
    subst (Makes c.define_within-in-Processor.result (entries_seen c.define_within-in-Processor.new.objects)) (sym made) c.define_within-in-Processor.ensures.made

pub define-returns-in-Scope-clause-declares : goal.define-returns-in-Scope-clause-declares
define-returns-in-Scope-clause-declares t c =
    let parts = ap views (sym c.deref.ensures.value) ∙ c.first_and_rest.ensures.views in
    let more = declared_scope (here_of c.args.here) (entries_seen c.args.objects.now) c.args.term.now (view c.first_and_rest.result.0.now) (views c.first_and_rest.result.1.now) c.in-Scope.is parts in
    subst (λ (declares : List External). OnOk c.define_reopened.result (c.define_reopened.new.externals.items ≡ c.args.externals.now.items ++ declares)) (sym more) c.define_reopened.ensures.declares

pub define-returns-in-Device-clause-declares : goal.define-returns-in-Device-clause-declares
define-returns-in-Device-clause-declares t c =
    let parts = ap views (sym c.deref.ensures.value) ∙ c.first_and_rest-in-Device.ensures.views in
    let more = declared_device (here_of c.args.here) (entries_seen c.args.objects.now) c.args.term.now (view c.first_and_rest-in-Device.result.0.now) (views c.first_and_rest-in-Device.result.1.now) c.in-Device.is parts in
    subst (λ (declares : List External). OnOk c.define_within.result (c.define_within.new.externals.items ≡ c.args.externals.now.items ++ declares)) (sym more) c.define_within.ensures.declares

pub define-returns-in-ThermalZone-clause-declares : goal.define-returns-in-ThermalZone-clause-declares
define-returns-in-ThermalZone-clause-declares t c =
    let parts = ap views (sym c.deref.ensures.value) ∙ c.first_and_rest-in-ThermalZone.ensures.views in
    let more = declared_zone (here_of c.args.here) (entries_seen c.args.objects.now) c.args.term.now (view c.first_and_rest-in-ThermalZone.result.0.now) (views c.first_and_rest-in-ThermalZone.result.1.now) c.in-ThermalZone.is parts in
    subst (λ (declares : List External). OnOk c.define_within-in-ThermalZone.result (c.define_within-in-ThermalZone.new.externals.items ≡ c.args.externals.now.items ++ declares)) (sym more) c.define_within-in-ThermalZone.ensures.declares

pub define-returns-in-PowerResource-clause-declares : goal.define-returns-in-PowerResource-clause-declares
define-returns-in-PowerResource-clause-declares t c =
    let parts = ap views (sym c.deref.ensures.value) ∙ c.first_and_rest-in-PowerResource.ensures.views
    ∙ ap (λ r. more (view c.first_and_rest-in-PowerResource.result.0.now) r) c.first_and_rest-in-PowerResource-2.ensures.views
    ∙ ap (λ r. more (view c.first_and_rest-in-PowerResource.result.0.now) (more (view c.first_and_rest-in-PowerResource-2.result.0.now) r)) c.first_and_rest-in-PowerResource-3.ensures.views in
    let more = declared_power (here_of c.args.here) (entries_seen c.args.objects.now) c.args.term.now (view c.first_and_rest-in-PowerResource.result.0.now) (view c.first_and_rest-in-PowerResource-2.result.0.now) (view c.first_and_rest-in-PowerResource-3.result.0.now) (views c.first_and_rest-in-PowerResource-3.result.1.now) c.in-PowerResource.is parts in
    subst (λ (declares : List External). OnOk c.define_within-in-PowerResource.result (c.define_within-in-PowerResource.new.externals.items ≡ c.args.externals.now.items ++ declares)) (sym more) c.define_within-in-PowerResource.ensures.declares

pub define-returns-in-Processor-clause-declares : goal.define-returns-in-Processor-clause-declares
define-returns-in-Processor-clause-declares t c =
    let parts = ap views (sym c.deref.ensures.value) ∙ c.first_and_rest-in-Processor.ensures.views
    ∙ ap (λ r. more (view c.first_and_rest-in-Processor.result.0.now) r) c.first_and_rest-in-Processor-2.ensures.views
    ∙ ap (λ r. more (view c.first_and_rest-in-Processor.result.0.now) (more (view c.first_and_rest-in-Processor-2.result.0.now) r)) c.first_and_rest-in-Processor-3.ensures.views
    ∙ ap (λ r. more (view c.first_and_rest-in-Processor.result.0.now) (more (view c.first_and_rest-in-Processor-2.result.0.now) (more (view c.first_and_rest-in-Processor-3.result.0.now) r))) c.first_and_rest-in-Processor-4.ensures.views in
    let more = declared_processor (here_of c.args.here) (entries_seen c.args.objects.now) c.args.term.now (view c.first_and_rest-in-Processor.result.0.now) (view c.first_and_rest-in-Processor-2.result.0.now) (view c.first_and_rest-in-Processor-3.result.0.now) (view c.first_and_rest-in-Processor-4.result.0.now) (views c.first_and_rest-in-Processor-4.result.1.now) c.in-Processor.is parts in
    subst (λ (declares : List External). OnOk c.define_within-in-Processor.result (c.define_within-in-Processor.new.externals.items ≡ c.args.externals.now.items ++ declares)) (sym more) c.define_within-in-Processor.ensures.declares
