use Rattle.std.proofs.Common.{◌∙◌, ap, sym, subst}
use Rattle.std.specs.Prelude.{unwrap_or, IsSome, if◌then◌else◌}
use Rattle.std.specs.BTreeMap.{get}
use Rattle.aml_regions.specs.Bytes.{byte_of, place_cmp}
use Rattle.aml_regions.proofs.Places.{place_is_at, unwrap_put, some_put}
use Rattle.aml_regions.proofs.bytes.put.Goals as goal

pub returns-in-Ok-clause-put : goal.returns-in-Ok-clause-put
returns-in-Ok-clause-put c = λ s a.
    let known = c.in-Ok.ensures.updates.0 (s, a) in
    ap (λ o. unwrap_or o 0) known
    ∙ (unwrap_put _ c.args.byte (get place_cmp c.args.bytes.now (s, a))
    ∙ ap (λ b. if b then c.args.byte else byte_of c.args.bytes.now s a) (place_is_at c.args.space c.args.address s a))

pub returns-in-Ok-clause-stay : goal.returns-in-Ok-clause-stay
returns-in-Ok-clause-stay c = λ a kept.
    let known = c.in-Ok.ensures.updates.0 (c.args.space, a) in
    subst IsSome (sym known) (some_put _ c.args.byte (get place_cmp c.args.bytes.now (c.args.space, a)) kept)
