use Rattle.std.proofs.Common.{◌≡◌, ◌+◌, ◌∙◌, ℕ, List, IfOk, length, take, map, ap, sym, subst, arith}
use Rattle.std.proofs.lemmas.List.{length-take-le, map_push}
use Rattle.std.proofs.lemmas.Result.{IfOk-weaker}
use Rattle.aml_lex.specs.Reading.{name_string_at}
use Rattle.aml_operators.specs.declared.op.Op.{Op}
use Rattle.aml_operators.specs.Tree.{stop_of, trees}
use Rattle.aml_paths.specs.declared.scope.Scope.TheVariants.{At}
use Rattle.aml_namespace.specs.Load.{Shown}
use Rattle.aml_namespace.specs.Shows.{shown}
use Rattle.aml_values.specs.declared.value.Value as program
use Rattle.aml_values.specs.Values.{Element, Named}
use Rattle.aml_values.specs.Views as seen
use Rattle.aml_contents.specs.BodyData.{body_data}
use Rattle.aml_contents.specs.FirstContents.{element_in}
use Rattle.aml_literals.specs.There.{DataThere, ElementThere, ElementsThere, RestThere, first_element}
use Rattle.aml_literals.proofs.Elements.{AreMade, all_made, data_element, element_data, first_is, first_none, first_read, has_elements, is_data, is_literal, literal_element, none_made, one_made, other_data, package_value, rest_none, rest_read}
use Rattle.aml_literals.proofs.Parts.{is_read, of_read, package_opens, package_there}
use Rattle.aml_literals.proofs.Terms.{element_action, element_name, element_op, element_within}
use Rattle.aml_literals.proofs.data.+data.Goals as goal

-- a name
pub element-name_end-requires : goal.element-name_end-requires
element-name_end-requires t c =
    let n = element_name c.args.bytes.now c.args.at (sym c.op_at.ensures.is ∙ c.in_default.is) c.requires in
    is_read (name_string_at c.args.bytes.now c.args.at) (n.0, n.1) n.2

pub element-returns-in_default-clause-element : goal.element-returns-in_default-clause-element
element-returns-in_default-clause-element t c = λ e.
    let n = element_name c.args.bytes.now c.args.at (sym c.op_at.ensures.is ∙ c.in_default.is) e in
    ap Named c.named-named.ensures ∙ sym (ap (element_in (shown c.args.namespace.now) c.args.site.table (At c.args.site.method)) n.3)

pub element-returns-in_default-clause-place : goal.element-returns-in_default-clause-place
element-returns-in_default-clause-place t c = λ e.
    let n = element_name c.args.bytes.now c.args.at (sym c.op_at.ensures.is ∙ c.in_default.is) e in
    ap stop_of n.3 ∙ of_read (name_string_at c.args.bytes.now c.args.at) (n.0, n.1) (λ r. r.1 ≡ c.name_end.result) n.2 c.name_end.ensures.is

-- other data
pub element-value-requires : goal.element-value-requires
element-value-requires t c =
    let is = sym c.op_at.ensures.is ∙ c.in-Some.is in
    let op = c.in-Some.op in
    let which = element_action c.args.bytes.now c.args.at op c.in-Some.next is c.requires in
    (omega (arith, c.in-Some.ensures.within, c.decreases), (is_data op c.in-Data.field-0 which (sym c.action_of.ensures ∙ c.in-Data.is), (element_data c.args.bytes.now c.args.at op c.in-Some.next is c.requires).data_there))

pub element-returns-in_ok-value-in-Data-clause-element :
    goal.element-returns-in_ok-value-in-Data-clause-element
element-returns-in_ok-value-in-Data-clause-element t c = λ e.
    let is = sym c.op_at.ensures.is ∙ c.in-Some.is in
    let op = c.in-Some.op in
    let ns = shown c.args.namespace.now in
    let which = element_action c.args.bytes.now c.args.at op c.in-Some.next is e in
    let act = is_data op c.in-Data.field-0 which (sym c.action_of.ensures ∙ c.in-Data.is) in
    let d = element_data c.args.bytes.now c.args.at op c.in-Some.next is e in
    let there = d.data_there.there in
    data_element ns c.args.site.table c.args.site.method.0 c.args.at there.stop op (trees there.parts) e.tree (seen.view c.in_ok-value-in-Data.value) act d.is (c.in_ok-value-in-Data.ensures.value d.data_there)

pub element-returns-in_ok-value-in-Data-clause-place :
    goal.element-returns-in_ok-value-in-Data-clause-place
element-returns-in_ok-value-in-Data-clause-place t c = λ e.
    let is = sym c.op_at.ensures.is ∙ c.in-Some.is in
    let d = element_data c.args.bytes.now c.args.at c.in-Some.op c.in-Some.next is e in
    ap stop_of d.is ∙ c.in_ok-value-in-Data.ensures.place d.data_there

pub element-returns-in_ok-value-in-Data-clause-ahead :
    goal.element-returns-in_ok-value-in-Data-clause-ahead
element-returns-in_ok-value-in-Data-clause-ahead t c =
    let e = c.requires in
    let is = sym c.op_at.ensures.is ∙ c.in-Some.is in
    let d = element_data c.args.bytes.now c.args.at c.in-Some.op c.in-Some.next is e in
    let place : stop_of e.tree ≡ c.in_ok-value-in-Data.stop = ap stop_of d.is ∙ c.in_ok-value-in-Data.ensures.place d.data_there in
    let within = element_within c.args.bytes.now c.args.at e in
    omega (arith, place, within)

-- an integer literal
pub element-literal_number-number-requires : goal.element-literal_number-number-requires
element-literal_number-number-requires t c =
    let is = sym c.op_at.ensures.is ∙ c.in-Some.is in
    let op = c.in-Some.op in
    let which = element_action c.args.bytes.now c.args.at op c.in-Some.next is c.requires in
    record {
      literal = is_literal op which (λ x e. c.in_default-action_of.not-Data x (c.action_of.ensures ∙ e));
      there = (element_op c.args.bytes.now c.args.at op c.in-Some.next is c.requires).parts;
    }

pub element-returns-in_default-action_of : goal.element-returns-in_default-action_of
element-returns-in_default-action_of t c =
    let is = sym c.op_at.ensures.is ∙ c.in-Some.is in
    let op = c.in-Some.op in
    let ns = shown c.args.namespace.now in
    let number = c.literal_number-number.result.0 in
    let mine = element_op c.args.bytes.now c.args.at op c.in-Some.next is c.requires in
    let ends : stop_of c.requires.tree ≡ c.literal_number-number.result.1 = ap stop_of mine.is ∙ c.literal_number-number.ensures.place mine.parts in
    let within = element_within c.args.bytes.now c.args.at c.requires in
    record {
      element = λ e.
          let there = element_op c.args.bytes.now c.args.at op c.in-Some.next is e in
          let which = element_action c.args.bytes.now c.args.at op c.in-Some.next is e in
          let act = is_literal op which (λ x a. c.in_default-action_of.not-Data x (c.action_of.ensures ∙ a)) in
          literal_element ns c.args.site.table (At c.args.site.method) c.args.at there.parts.stop op (trees there.parts.parts) e.tree number c.wrapped.result c.width.result act there.is (c.literal_number-number.ensures.number there.parts) c.wrapped.ensures c.width.ensures;
      place = λ e.
          let there = element_op c.args.bytes.now c.args.at op c.in-Some.next is e in
          ap stop_of there.is ∙ c.literal_number-number.ensures.place there.parts;
      ahead = omega (arith, ends, within);
    }

-- the elements of a package, one after another
pub elements-each-init : goal.elements-each-init
elements-each-init t c =
    let ns = shown c.args.namespace.now in
    let scope = At c.args.site.method in
    record {
      ahead = omega arith;
      made = λ e. subst (λ (xs : List Element). AreMade ns c.args.site.table scope c.args.count 0 xs c.args.bytes.now c.args.start e.parts) (sym (ap (map seen.element) c.new-made.ensures.items))
          (none_made ns c.args.site.table scope c.args.count c.args.bytes.now c.args.start e);
    }

pub elements-next_element-requires : goal.elements-next_element-requires
elements-next_element-requires t c =
    (omega (arith, c.each.invariant.ahead, c.decreases), (c.each.invariant.made c.requires).0)

pub elements-each-preserved : goal.elements-each-preserved
elements-each-preserved t c =
    let ns = shown c.args.namespace.now in
    let scope = At c.args.site.method in
    let next = c.in_ok-element.next in
    let x = c.in_ok-element.element in
    let pushed = ap (map seen.element) c.in_ok-push.ensures.items ∙ map_push seen.element c.each.made.items x in
    record {
      ahead = omega (arith, c.each.invariant.ahead, c.in_ok-element.ensures.ahead);
      made = λ e. subst (λ (xs : List Element). AreMade ns c.args.site.table scope c.args.count (c.each.counter + 1) xs c.args.bytes.now next e.parts) (sym pushed)
          (one_made ns c.args.site.table scope c.args.count c.each.counter (map seen.element c.each.made.items) c.args.bytes.now c.each.at next (seen.element x) e.parts c.each-test.true c.in_ok-element.ensures.first c.in_ok-element.ensures.rest (c.each.invariant.made e));
    }

pub elements-returns : goal.elements-returns
elements-returns t c = λ e.
    all_made (shown c.args.namespace.now) c.args.site.table (At c.args.site.method) c.args.count c.each.counter (map seen.element c.each.made.items) c.args.bytes.now c.each.at e.parts c.each-test.false (c.each.invariant.made e)

-- the first of those that are left, or none
pub next_element-element-requires : goal.next_element-element-requires
next_element-element-requires t c =
    (omega (arith, c.decreases), (first_is c.args.bytes.now c.args.at c.if-at-bytes.true c.requires).there)

pub next_element-returns-then-at-bytes-clause-first :
    goal.next_element-returns-then-at-bytes-clause-first
next_element-returns-then-at-bytes-clause-first t c =
    let ns = shown c.args.namespace.now in
    let scope = At c.args.site.method in
    IfOk-weaker c.element.result
    (λ r. (e : ElementThere c.args.bytes.now c.args.at) → seen.element r.0 ≡ element_in ns c.args.site.table scope e.tree)
    (λ r. (e : ElementsThere c.args.bytes.now c.args.at) → seen.element r.0 ≡ first_element ns c.args.site.table scope e.parts)
    (λ r is. first_read c.args.bytes.now c.args.at ns c.args.site.table scope c.if-at-bytes.true (seen.element r.0) is)
    c.element.ensures.element

pub next_element-returns-then-at-bytes-clause-rest :
    goal.next_element-returns-then-at-bytes-clause-rest
next_element-returns-then-at-bytes-clause-rest t c =
    IfOk-weaker c.element.result
    (λ r. (e : ElementThere c.args.bytes.now c.args.at) → stop_of e.tree ≡ r.1)
    (λ r. (e : ElementsThere c.args.bytes.now c.args.at) → RestThere c.args.bytes.now r.1 e.parts)
    (λ r place. rest_read c.args.bytes.now c.args.at c.if-at-bytes.true r.1 place)
    c.element.ensures.place

pub next_element-returns-else-at-bytes-clause-first :
    goal.next_element-returns-else-at-bytes-clause-first
next_element-returns-else-at-bytes-clause-first t c = λ e.
    first_none c.args.bytes.now c.args.at (shown c.args.namespace.now) c.args.site.table (At c.args.site.method) c.if-at-bytes.false e

pub next_element-returns-else-at-bytes-clause-rest :
    goal.next_element-returns-else-at-bytes-clause-rest
next_element-returns-else-at-bytes-clause-rest t c = λ e.
    rest_none c.args.bytes.now c.args.at c.if-at-bytes.false e

-- a string or a buffer
abbrev IsValue : Shown → ℕ → ℕ → List ℕ → ℕ → Op → program.Value × ℕ → Type 0
IsValue ns table method bytes at o r = (d : DataThere o bytes at) → seen.view r.0 ≡ body_data ns table method o (trees d.there.parts)

abbrev EndsAt : List ℕ → ℕ → Op → program.Value × ℕ → Type 0
EndsAt bytes at o r = (d : DataThere o bytes at) → d.there.stop ≡ r.1

pub value-returns-in-String-clause-value : goal.value-returns-in-String-clause-value
value-returns-in-String-clause-value t c =
    subst (λ (o : Op). IfOk c.string.result (IsValue (shown c.args.namespace.now) c.args.site.table c.args.site.method.0 c.args.bytes.now c.args.at o)) (sym c.in-String.is) c.string.ensures.value

pub value-returns-in-String-clause-place : goal.value-returns-in-String-clause-place
value-returns-in-String-clause-place t c =
    subst (λ (o : Op). IfOk c.string.result (EndsAt c.args.bytes.now c.args.at o)) (sym c.in-String.is) c.string.ensures.place

pub value-returns-in-Buffer-clause-value : goal.value-returns-in-Buffer-clause-value
value-returns-in-Buffer-clause-value t c =
    subst (λ (o : Op). IfOk c.buffer.result (IsValue (shown c.args.namespace.now) c.args.site.table c.args.site.method.0 c.args.bytes.now c.args.at o)) (sym c.in-Buffer.is) c.buffer.ensures.value

pub value-returns-in-Buffer-clause-place : goal.value-returns-in-Buffer-clause-place
value-returns-in-Buffer-clause-place t c =
    subst (λ (o : Op). IfOk c.buffer.result (EndsAt c.args.bytes.now c.args.at o)) (sym c.in-Buffer.is) c.buffer.ensures.place

-- a package
pub value-package-stop-requires : goal.value-package-stop-requires
value-package-stop-requires t c =
    package_opens c.args.op c.args.bytes.now c.args.at (other_data c.args.op c.requires.datum c.in_default.not-String c.in_default.not-Buffer) c.requires.there

pub value-count_at-count-requires : goal.value-count_at-count-requires
value-count_at-count-requires t c =
    package_there c.args.op c.args.bytes.now c.args.at c.package-stop.result (other_data c.args.op c.requires.datum c.in_default.not-String c.in_default.not-Buffer) c.package-stop.ensures.is c.requires.there

pub value-elements-requires : goal.value-elements-requires
value-elements-requires t c =
    let stop = c.package-stop.result.0 in
    let inside = take stop c.args.bytes.now in
    let long : length inside ≡ stop = length-take-le stop c.args.bytes.now c.package-stop.ensures.within in
    let p = package_there c.args.op c.args.bytes.now c.args.at c.package-stop.result (other_data c.args.op c.requires.datum c.in_default.not-String c.in_default.not-Buffer) c.package-stop.ensures.is c.requires.there in (
      omega (arith, long, c.package-stop.ensures, c.count_at-count.ensures.ahead, c.count_at-count.ensures.within, c.decreases),
      (has_elements inside c.package-stop.result.1 c.args.op p c.count_at-count.result (c.count_at-count.ensures.is p)).rest,
    )

pub value-returns-in_ok-package_of-in_default : goal.value-returns-in_ok-package_of-in_default
value-returns-in_ok-package_of-in_default t c =
    let stop = c.package-stop.result.0 in
    let inside = take stop c.args.bytes.now in
    let ok = other_data c.args.op c.requires.datum c.in_default.not-String c.in_default.not-Buffer in
    let told = c.count_at-count.result in
    let long : length inside ≡ stop = length-take-le stop c.args.bytes.now c.package-stop.ensures.within in
    record {
      value = λ d.
          let p = package_there c.args.op c.args.bytes.now c.args.at c.package-stop.result ok c.package-stop.ensures.is d in
          let count = c.count_at-count.ensures.is p in
          let has = has_elements inside c.package-stop.result.1 c.args.op p told count in
          c.in_ok-package_of-in_default.ensures
          ∙ package_value (shown c.args.namespace.now) c.args.site.table c.args.site.method.0 c.args.op d.there.parts told inside d.there.stop (seen.elements_of c.in_ok-elements-in_default.elements.items) count has (c.in_ok-elements-in_default.ensures has.rest);
      place = λ d.
          let p = package_there c.args.op c.args.bytes.now c.args.at c.package-stop.result ok c.package-stop.ensures.is d in
          let has = has_elements inside c.package-stop.result.1 c.args.op p told (c.count_at-count.ensures.is p) in
          has.fills ∙ long;
    }
