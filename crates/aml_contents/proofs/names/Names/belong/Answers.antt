use Rattle.std.proofs.Common.{◌≡◌, ◌≤◌, true, false, length, sym, ◌∙◌, arith, refl}
use Rattle.aml_namespace.specs.Shows.{shown}
use Rattle.aml_contents.specs.Held.{content_kinds}
use Rattle.aml_contents.proofs.BelongLaws.{is_kind_there, further, all_belong, belong_there}
use Rattle.aml_contents.proofs.ContentLaws.{kinds_length}
use Rattle.aml_contents.proofs.names.Names.belong.Goals as goal

pub loop-i-preserved : goal.loop-i-preserved
loop-i-preserved c =
    let ns = shown c.args.namespace.now in
    let kinds = content_kinds c.args.self.now in
    let this : is_kind_there ns ns.entries kinds c.loop-i.i ≡ true = rw (sym c.object.ensures, sym c.kind.ensures) (sym c.is_kind_of.ensures ∙ c.if-not-is_kind_of.false) in
    record { as_many = c.loop-i.invariant.as_many; belong = further (is_kind_there ns ns.entries kinds) c.loop-i.i c.loop-i.invariant.belong this }

pub returns : goal.returns
returns c =
    let ns = shown c.args.namespace.now in
    let held = c.args.self.now in
    let all : length (content_kinds held) ≤ c.loop-i.i = omega (arith, c.loop-i-test.false, c.len-i-end.ensures, kinds_length held.kinds.items, held.kinds.ok.0) in
    ((λ h. all_belong ns (content_kinds held) c.loop-i.i c.loop-i.invariant.as_many all c.loop-i.invariant.belong), (λ h. refl))

pub returns-then-not-is_kind_of : goal.returns-then-not-is_kind_of
returns-then-not-is_kind_of c =
    let ns = shown c.args.namespace.now in
    let kinds = content_kinds c.args.self.now in
    let other : is_kind_there ns ns.entries kinds c.loop-i.i ≡ false = rw (sym c.object.ensures, sym c.kind.ensures) (sym c.is_kind_of.ensures ∙ c.if-not-is_kind_of.true) in
    ((λ h. absurd cc), (λ h. sym other ∙ belong_there ns kinds c.loop-i.i h))
