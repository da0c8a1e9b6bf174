use Rattle.std.proofs.Common.{◌≡◌, ◌++◌, ◌∷◌, [], add-one, ap, arith, get_or, ◌∙◌}
use Rattle.std.specs.Prelude.{unwrap_or}
use Rattle.aml_signatures.specs.ArgumentKinds.{cut_to}
use Rattle.aml_signatures.specs.declared.argument_kind.ArgumentKind.TheVariants.{Int}
use Rattle.aml_signatures.proofs.Filled.{cut_more}
use Rattle.aml_signatures.proofs.signatures.completed.Goals as goal

pub loop-i-preserved : goal.loop-i-preserved
loop-i-preserved c =
    let width = c.args.width in
    let named = c.args.named.now in
    let i = c.loop-i.i in
    let kind = c.unwrap_or-kind.ensures ∙ (ap (λ o. unwrap_or o Int) c.copied.ensures ∙ c.get.ensures.lookup.4 (omega arith) Int) in
    let cut : c.cut_to.result ≡ cut_to width (get_or named i Int) = c.cut_to.ensures ∙ ap (cut_to width) kind in
    let more = cut_more width i named in
    (rw add-one (rw (c.in_ok-push.ensures.items, cut, more) (ap (λ kinds. kinds ++ (cut_to width (get_or named i Int) ∷ [])) c.loop-i.invariant.0)), omega (arith, c.loop-i.invariant.1, c.in_ok-push.ensures.len))
