use Rattle.std.proofs.Common.{◌≡◌, ◌<◌, ◌≤◌, length, get_or, Some, sym, ap, subst, ◌∙◌, List, arith}
use Rattle.std.proofs.lemmas.Bool.Decides.{nat_tests}
use Rattle.aml_kinds.specs.Kinds.{shaped}
use Rattle.std.specs.Prelude.{map}
use Rattle.aml_shapes.specs.Keys.{part_kind}
use Rattle.aml_shapes.specs.declared.key.Part.{Part}
use Rattle.aml_shapes.proofs.Keys.{no_place, set_place, unset_place}
use Rattle.aml_shapes.proofs.key.ShapeKey.place.Goals as goal

pub returns-then-number-self : goal.returns-then-number-self
returns-then-number-self c = λ shapes.
    let key = c.args.self.now in
    sym (no_place key.places (shaped (map (part_kind shapes) key.parts.items)) c.args.number (omega arith))

pub returns-in-Some : goal.returns-in-Some
returns-in-Some c = λ shapes.
    let key = c.args.self.now in
    let i = c.args.number in
    let part = c.in-Some.part.now in
    let lt : i < length c.deref.result.now = grind (arith, nat_tests, c.in-Some.ensures.lookup.0) in
    let there : i < length key.parts.items = subst (λ (ps : List Part). i < length ps) c.deref.ensures.value lt in
    let is : part ≡ get_or key.parts.items i part = c.in-Some.ensures.lookup.1 ∙ ap (λ (ps : List Part). get_or ps i part) c.deref.ensures.value in
    ap Some (c.known.ensures shapes ∙ ap (part_kind shapes) is) ∙ sym (set_place shapes key.places key.parts.items i part there (omega arith))

pub returns-in-None : goal.returns-in-None
returns-in-None c = λ shapes.
    let key = c.args.self.now in
    let i = c.args.number in
    let past : length c.deref.result.now ≤ i = grind (arith, nat_tests, c.in-None.ensures.lookup.0) in
    let behind : length key.parts.items ≤ i = subst (λ (ps : List Part). length ps ≤ i) c.deref.ensures.value past in
    sym (unset_place shapes key.places key.parts.items i behind (omega arith))
