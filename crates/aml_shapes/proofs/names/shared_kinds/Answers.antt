use Rattle.std.proofs.Common.{◌≡◌, ◌<◌, ◌++◌, List, [], ◌∷◌, Option, length, map, sym, ap, subst, ◌∙◌, arith}
use Rattle.std.specs.Option.{option_map}
use Rattle.aml_namespace.specs.Shows.{shown}
use Rattle.aml_known.specs.declared.known.Known.{Known}
use Rattle.aml_known.specs.Views.{kind_of}
use Rattle.aml_shapes.specs.Numbers.{AreKnown, numbered}
use Rattle.aml_shapes.proofs.Grown.{known_push}
use Rattle.aml_shapes.proofs.NamesTold.{objects_more}
use Rattle.aml_shapes.proofs.PartsTold.{keeps_on}
use Rattle.aml_shapes.proofs.names.shared_kinds.Goals as goal

pub loop-i-preserved : goal.loop-i-preserved
loop-i-preserved c =
    let ns = shown c.args.namespace.now in
    let old = c.loop-i.table in
    let new = c.object_kind.new.table in
    let ks = c.loop-i.kinds.items in
    let k = c.in_ok-kind.kind in
    let there : c.loop-i.i < length ns.entries = omega (arith, c.loop-i-test.true, c.len-i-end.ensures) in
    let before = c.loop-i.invariant in
    let told = c.in_ok-kind.ensures in
    let pushed : c.push.new.self.items ≡ ks ++ k ∷ [] = c.in_ok-push.ensures.items in
    record {
      kinds = ap (map (option_map (kind_of (numbered new)))) pushed ∙ objects_more ns old new c.loop-i.i ks k there told.keeps before.known before.kinds told.known.1;
      known = subst (λ (each : List (Option Known)). AreKnown (length new) each) (sym pushed) (known_push (length old) (length new) ks k told.keeps.longer before.known told.known.0);
      keeps = keeps_on _ old new before.keeps told.keeps;
    }
