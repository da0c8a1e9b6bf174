use Rattle.std.proofs.Common.{◌≡◌, ◌∙◌, ℕ, List, Option, Some, None, length, take, ap, sym, subst, refl, arith}
use Rattle.std.proofs.lemmas.List.{length-take-le}
use Rattle.aml_lex.specs.Reading.{name_string_at}
use Rattle.aml_operators.specs.declared.op.Op.{Op}
use Rattle.aml_operators.specs.Tree.{stop_of, trees}
use Rattle.aml_contents.specs.BodyData.{computed_size}
use Rattle.aml_literals.specs.There.{PartsThere, computed_in}
use Rattle.aml_literals.proofs.Elements.{is_data, is_literal}
use Rattle.aml_literals.proofs.Parts.{is_read, of_read}
use Rattle.aml_direct.proofs.Sizes.{buffer_computed, buffer_size, buffer_told, counted_computed, counted_elements, counted_size, counted_told, data_opens, element_ahead, element_kind, element_named, element_operator, leads, literal_plain, plain_elements, plain_told, size_ahead, sized_data, some_there, none_there, string_told, tells_here, tells_none, tells_on}
use Rattle.aml_direct.proofs.computed.+computed.Goals as goal

abbrev Tells : List ℕ → ℕ → ℕ → Option ℕ → Op → Type 0
Tells bytes at own x o = (p : PartsThere o bytes at) → x ≡ computed_size o own (trees p.parts)

pub computed_at-returns-in-String : goal.computed_at-returns-in-String
computed_at-returns-in-String t c =
    subst (Tells c.args.bytes.now c.args.at c.args.own None) (sym c.in-String.is) (λ p. sym (string_told c.args.bytes.now c.args.at c.args.own p))

pub computed_at-package-stop-requires : goal.computed_at-package-stop-requires
computed_at-package-stop-requires t c = data_opens c.args.op c.args.bytes.now c.args.at c.requires.datum c.in_default.not-String c.requires.there

-- a package whose count is a byte
pub computed_at-first_computed-requires : goal.computed_at-first_computed-requires
computed_at-first_computed-requires t c =
    let r = c.package-stop.result in
    let long : length (take r.0 c.args.bytes.now) ≡ r.0 = length-take-le r.0 c.args.bytes.now c.package-stop.ensures.within in
    let p = subst (λ (o : Op). PartsThere o c.args.bytes.now c.args.at) c.in-Package.is c.requires.there in
    (omega (arith, long, c.package-stop.ensures.ahead, c.package-stop.ensures.own, c.package-stop.ensures.within, c.decreases), plain_elements c.args.bytes.now c.args.at r c.package-stop.ensures.is c.package-stop.ensures.within p)

pub computed_at-returns-in-Package : goal.computed_at-returns-in-Package
computed_at-returns-in-Package t c =
    let r = c.package-stop.result in
    subst (Tells c.args.bytes.now c.args.at c.args.own c.first_computed.result) (sym c.in-Package.is)
    (λ p. c.first_computed.ensures (plain_elements c.args.bytes.now c.args.at r c.package-stop.ensures.is c.package-stop.ensures.within p) ∙ sym (plain_told c.args.bytes.now c.args.at r c.package-stop.ensures.is c.package-stop.ensures.within p c.args.own))

-- a buffer
pub computed_at-past_literal-requires : goal.computed_at-past_literal-requires
computed_at-past_literal-requires t c =
    buffer_size c.args.bytes.now c.args.at c.package-stop.result c.package-stop.ensures.is c.package-stop.ensures.within (subst (λ (o : Op). PartsThere o c.args.bytes.now c.args.at) c.in-Buffer.is c.requires.there)

pub computed_at-returns-in-Some : goal.computed_at-returns-in-Some
computed_at-returns-in-Some t c =
    let r = c.package-stop.result in
    let bytes = c.args.bytes.now in
    let at = c.args.at in
    subst (Tells bytes at c.args.own None) (sym c.in-Buffer.is)
    (λ p. sym (buffer_told bytes at r c.package-stop.ensures.is c.package-stop.ensures.within p c.args.own (c.in-Some.ensures.told (buffer_size bytes at r c.package-stop.ensures.is c.package-stop.ensures.within p)).0))

pub computed_at-returns-in-None : goal.computed_at-returns-in-None
computed_at-returns-in-None t c =
    let r = c.package-stop.result in
    let bytes = c.args.bytes.now in
    let at = c.args.at in
    subst (Tells bytes at c.args.own (Some c.args.own)) (sym c.in-Buffer.is)
    (λ p. sym (buffer_computed bytes at r c.package-stop.ensures.is c.package-stop.ensures.within p c.args.own (c.in-None.ensures.computed (buffer_size bytes at r c.package-stop.ensures.is c.package-stop.ensures.within p))))

-- a package whose count is a term
pub computed_at-past_literal-requires-in_default-op :
    goal.computed_at-past_literal-requires-in_default-op
computed_at-past_literal-requires-in_default-op t c =
    let is = sized_data c.args.op c.requires.datum c.in_default.not-String c.in_default-op.not-Buffer c.in_default-op.not-Package in
    counted_size c.args.bytes.now c.args.at c.package-stop.result c.package-stop.ensures.is c.package-stop.ensures.within (subst (λ (o : Op). PartsThere o c.args.bytes.now c.args.at) is c.requires.there)

pub computed_at-first_computed-requires-in-Some-past_literal :
    goal.computed_at-first_computed-requires-in-Some-past_literal
computed_at-first_computed-requires-in-Some-past_literal t c =
    let r = c.package-stop.result in
    let bytes = c.args.bytes.now in
    let at = c.args.at in
    let is = sized_data c.args.op c.requires.datum c.in_default.not-String c.in_default-op.not-Buffer c.in_default-op.not-Package in
    let p = subst (λ (o : Op). PartsThere o bytes at) is c.requires.there in
    let s = counted_size bytes at r c.package-stop.ensures.is c.package-stop.ensures.within p in
    let ends = (c.in-Some-past_literal.ensures.told s).1 in
    let ahead = size_ahead (take r.0 bytes) r.1 s in
    let long : length (take r.0 bytes) ≡ r.0 = length-take-le r.0 bytes c.package-stop.ensures.within in
    (omega (arith, long, ends, ahead, c.package-stop.ensures.ahead, c.package-stop.ensures.own, c.package-stop.ensures.within, c.decreases), counted_elements bytes at r c.package-stop.ensures.is c.package-stop.ensures.within c.in-Some-past_literal.start p ends)

pub computed_at-returns-in-Some-past_literal : goal.computed_at-returns-in-Some-past_literal
computed_at-returns-in-Some-past_literal t c =
    let r = c.package-stop.result in
    let bytes = c.args.bytes.now in
    let at = c.args.at in
    let is = sized_data c.args.op c.requires.datum c.in_default.not-String c.in_default-op.not-Buffer c.in_default-op.not-Package in
    subst (Tells bytes at c.args.own c.first_computed-in-Some-past_literal.result) (sym is)
    (λ p.
    let told = c.in-Some-past_literal.ensures.told (counted_size bytes at r c.package-stop.ensures.is c.package-stop.ensures.within p) in
    c.first_computed-in-Some-past_literal.ensures (counted_elements bytes at r c.package-stop.ensures.is c.package-stop.ensures.within c.in-Some-past_literal.start p told.1)
    ∙ sym (counted_told bytes at r c.package-stop.ensures.is c.package-stop.ensures.within c.in-Some-past_literal.start p c.args.own told.1 told.0))

pub computed_at-returns-in-None-past_literal : goal.computed_at-returns-in-None-past_literal
computed_at-returns-in-None-past_literal t c =
    let r = c.package-stop.result in
    let bytes = c.args.bytes.now in
    let at = c.args.at in
    let is = sized_data c.args.op c.requires.datum c.in_default.not-String c.in_default-op.not-Buffer c.in_default-op.not-Package in
    subst (Tells bytes at c.args.own (Some c.args.own)) (sym is)
    (λ p. sym (counted_computed bytes at r c.package-stop.ensures.is c.package-stop.ensures.within p c.args.own (c.in-None-past_literal.ensures.computed (counted_size bytes at r c.package-stop.ensures.is c.package-stop.ensures.within p))))

-- an element that is a name
pub computed_in-name_end-requires : goal.computed_in-name_end-requires
computed_in-name_end-requires t c =
    let n = element_named c.args.bytes.now c.args.at (sym c.op_at.ensures.is ∙ c.in_default.is) c.requires in
    is_read (name_string_at c.args.bytes.now c.args.at) (n.0, n.1) n.2

pub computed_in-returns-in_default-clause-is : goal.computed_in-returns-in_default-clause-is
computed_in-returns-in_default-clause-is t c = λ e.
    let n = element_named c.args.bytes.now c.args.at (sym c.op_at.ensures.is ∙ c.in_default.is) e in
    sym (ap computed_in n.3)

pub computed_in-returns-in_default-clause-place : goal.computed_in-returns-in_default-clause-place
computed_in-returns-in_default-clause-place t c = λ e.
    let n = element_named c.args.bytes.now c.args.at (sym c.op_at.ensures.is ∙ c.in_default.is) e in
    ap stop_of n.3 ∙ of_read (name_string_at c.args.bytes.now c.args.at) (n.0, n.1) (λ r. r.1 ≡ c.name_end.result) n.2 c.name_end.ensures.is

-- other data
pub computed_in-computed_at-requires : goal.computed_in-computed_at-requires
computed_in-computed_at-requires t c =
    let is = sym c.op_at.ensures.is ∙ c.in-Some.is in
    let which = element_kind c.args.bytes.now c.args.at c.in-Some.op c.in-Some.next is c.requires in
    (omega (arith, c.in-Some.ensures.within, c.decreases), (is_data c.in-Some.op c.in-Data.field-0 which (sym c.action_of.ensures ∙ c.in-Data.is), (element_operator c.args.bytes.now c.args.at c.in-Some.op c.in-Some.next is c.requires).0))

pub computed_in-past_data-requires-clause-datum : goal.computed_in-past_data-requires-clause-datum
computed_in-past_data-requires-clause-datum t c =
    is_data c.in-Some.op c.in-Data.field-0 (element_kind c.args.bytes.now c.args.at c.in-Some.op c.in-Some.next (sym c.op_at.ensures.is ∙ c.in-Some.is) c.requires) (sym c.action_of.ensures ∙ c.in-Data.is)

pub computed_in-past_data-requires-clause-there : goal.computed_in-past_data-requires-clause-there
computed_in-past_data-requires-clause-there t c = (element_operator c.args.bytes.now c.args.at c.in-Some.op c.in-Some.next (sym c.op_at.ensures.is ∙ c.in-Some.is) c.requires).0

pub computed_in-returns-in-Data-clause-is : goal.computed_in-returns-in-Data-clause-is
computed_in-returns-in-Data-clause-is t c = λ e.
    let p = element_operator c.args.bytes.now c.args.at c.in-Some.op c.in-Some.next (sym c.op_at.ensures.is ∙ c.in-Some.is) e in
    c.computed_at.ensures p.0 ∙ sym (ap computed_in p.1)

pub computed_in-returns-in-Data-clause-place : goal.computed_in-returns-in-Data-clause-place
computed_in-returns-in-Data-clause-place t c = λ e.
    let p = element_operator c.args.bytes.now c.args.at c.in-Some.op c.in-Some.next (sym c.op_at.ensures.is ∙ c.in-Some.is) e in
    ap stop_of p.1 ∙ c.past_data.ensures.is p.0

pub computed_in-returns-in-Data-clause-ahead : goal.computed_in-returns-in-Data-clause-ahead
computed_in-returns-in-Data-clause-ahead t c = omega (arith, c.in-Some.ensures.within, c.past_data.ensures.ahead)

-- an integer literal
pub computed_in-literal_number-requires : goal.computed_in-literal_number-requires
computed_in-literal_number-requires t c =
    let is = sym c.op_at.ensures.is ∙ c.in-Some.is in
    let which = element_kind c.args.bytes.now c.args.at c.in-Some.op c.in-Some.next is c.requires in
    record {
      literal = is_literal c.in-Some.op which (λ x e. c.in_default-action_of.not-Data x (c.action_of.ensures ∙ e));
      there = (element_operator c.args.bytes.now c.args.at c.in-Some.op c.in-Some.next is c.requires).0;
    }

pub computed_in-returns-in_default-action_of : goal.computed_in-returns-in_default-action_of
computed_in-returns-in_default-action_of t c =
    let is = sym c.op_at.ensures.is ∙ c.in-Some.is in
    let op = c.in-Some.op in
    let which = element_kind c.args.bytes.now c.args.at op c.in-Some.next is c.requires in
    let act = is_literal op which (λ x e. c.in_default-action_of.not-Data x (c.action_of.ensures ∙ e)) in
    let mine = element_operator c.args.bytes.now c.args.at op c.in-Some.next is c.requires in
    let ends : stop_of c.requires.tree ≡ c.literal_number.result.1 = ap stop_of mine.1 ∙ c.literal_number.ensures.place mine.0 in
    let ahead = element_ahead c.args.bytes.now c.args.at c.requires in
    record {
      is = λ e.
          let p = element_operator c.args.bytes.now c.args.at op c.in-Some.next is e in
          sym (ap computed_in p.1 ∙ literal_plain c.args.bytes.now c.in-Some.next op c.args.at act p.0);
      place = λ e.
          let p = element_operator c.args.bytes.now c.args.at op c.in-Some.next is e in
          ap stop_of p.1 ∙ c.literal_number.ensures.place p.0;
      ahead = omega (arith, ends, ahead);
    }

-- elements, one after the other
pub first_computed-elements-init : goal.first_computed-elements-init
first_computed-elements-init t c = record { ahead = omega arith; tells = λ e. (e, refl) }

pub first_computed-computed_in-from-requires : goal.first_computed-computed_in-from-requires
first_computed-computed_in-from-requires t c =
    (omega (arith, c.elements.invariant.ahead, c.decreases), (leads c.args.bytes.now c.elements.at c.elements-test.true (c.elements.invariant.tells c.requires).0).there)

pub first_computed-returns-then-is_some : goal.first_computed-returns-then-is_some
first_computed-returns-then-is_some t c = λ e.
    tells_here c.args.bytes.now c.elements.at c.elements-test.true c.computed_in-from.result.0 c.computed_in-from.ensures.is (some_there c.computed_in-from.result.0 (sym c.is_some.ensures ∙ c.if-is_some.true)) e.parts (c.elements.invariant.tells e)

pub first_computed-elements-preserved : goal.first_computed-elements-preserved
first_computed-elements-preserved t c = record {
  ahead = omega (arith, c.elements.invariant.ahead, c.computed_in-from.ensures.ahead);
  tells = λ e. tells_on c.args.bytes.now c.elements.at c.elements-test.true c.computed_in-from.result.0 c.computed_in-from.result.1 c.computed_in-from.ensures.is c.computed_in-from.ensures.place (none_there c.computed_in-from.result.0 (sym c.is_some.ensures ∙ c.if-is_some.false)) e.parts (c.elements.invariant.tells e);
}

pub first_computed-returns : goal.first_computed-returns
first_computed-returns t c = λ e. tells_none c.args.bytes.now c.elements.at c.elements-test.false e.parts (c.elements.invariant.tells e)
