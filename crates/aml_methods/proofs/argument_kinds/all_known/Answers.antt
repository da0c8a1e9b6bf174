use Rattle.std.proofs.Common.{◌++◌, [], ◌∷◌, List, map, take, ap, sym, ◌∙◌}
use Rattle.std.proofs.lemmas.List.{map_push, take_all, take_more}
use Rattle.aml_kinds.specs.Kinds.{Kind}
use Rattle.aml_known.specs.Views.{kind_of, kinds_of}
use Rattle.aml_signatures.specs.ArgumentKinds.{kind_of_argument}
use Rattle.aml_methods.proofs.argument_kinds.all_known.Goals as goal

pub loop-kind-preserved : goal.loop-kind-preserved
loop-kind-preserved c = λ shapes.
    let kinds = c.args.kinds.now in
    let told = kind_of_argument c.args.width in
    let i = c.loop-kind.kind-index in
    ap (kinds_of shapes) c.in_ok-push.ensures.items
    ∙ map_push (kind_of shapes) c.loop-kind.args.items c.known.result
    ∙ ap (λ (ks : List Kind). ks ++ kind_of shapes c.known.result ∷ []) (c.loop-kind.invariant shapes)
    ∙ ap (λ (k : Kind). map told (take i kinds) ++ k ∷ []) (c.known.ensures shapes)
    ∙ sym (map_push told (take i kinds) _)
    ∙ ap (map told) (sym (take_more kinds i _ c.loop-kind-test.true))

pub returns : goal.returns
returns c = λ shapes. c.loop-kind.invariant shapes ∙ ap (map (kind_of_argument c.args.width)) (take_all c.loop-kind.kind-index c.args.kinds.now c.loop-kind-test.false)
