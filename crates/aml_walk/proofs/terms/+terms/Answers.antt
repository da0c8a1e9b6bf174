use Rattle.aml_bounds.specs.Loops as loops
use Rattle.aml_causes.specs.declared.cause.Cause.TheVariants as cause
use Rattle.aml_judged.specs.Judge.{held_kind, judged_act, refusal}
use Rattle.aml_judged.specs.KindRules.{integer_kind, notice_kind}
use Rattle.aml_walk.proofs.BlocksGoing.{from_apart, from_other, from_within}
use Rattle.aml_walk.proofs.BlocksLists.{all_done, all_more, all_stops, block_done, block_ends, block_halts, block_next, otherwise_done, otherwise_here, otherwise_next}
use Rattle.aml_walk.proofs.BlocksLoops.{endless, falling_stops, falling_test_stops, falls_often, no_condition, often_away, often_differs, often_judges, often_test_stops, often_turn_stops, often_wants, once_differs, once_judges, once_test_stops, once_turn_stops, once_wants, turns_down, turns_once, turns_up, while_goes, while_stops}
use Rattle.aml_walk.proofs.BlocksTests.{if_block_stops, if_differs, if_else_stops, if_goes, if_test_stops, if_wants, no_integer, no_test, placed_at, test_stops, tests}
use Rattle.aml_walk.proofs.BlocksTurns.{turn_stops, turns}
use Rattle.aml_walk.proofs.BlocksWeights.{behind, first_and, first_weighs, lighter_parts}
use Rattle.aml_judging.proofs.Going.{gives_judges, gives_stops, leads_begin}
use Rattle.aml_judging.proofs.OnlyParts.{one_part, two_parts}
use Rattle.aml_walk.proofs.OperatorsAsks.{asks_binary, asks_by_one, asks_compared, asks_concatenated, asks_converted, asks_divided, asks_negated, asks_unary, dividing, dividing_goes, giving, quotient_stops, remainder_stops}
use Rattle.aml_walk.proofs.OperatorsGoing.{first_stops, gives, not_placed, one_on, one_refused, one_stops, placed_on, second_stops, stop_value, storing, storing_goes, storing_stops, two_on, two_refused, value_on}
use Rattle.aml_walk.proofs.OperatorsParts.{four_parts, other_than_four, other_than_one, other_than_three, other_than_two, placed, three_parts}
use Rattle.aml_walk.proofs.OperatorsStated.{always_judges, data_judges, data_stops, no_operand, no_value, operand_goes, operand_stops, stated, stated_elsewhere}
use Rattle.aml_judging.proofs.Stops.{free_judges, refused_judges}
use Rattle.aml_walk.proofs.StoresActs.{given_back, given_stops, no_notice, not_integer, notice_none, notice_stops, noticed_leads, paid_off, pause_leads, pause_stops, still_held}
use Rattle.aml_walk.proofs.StoresCalls.{asked_judges, asked_none, asked_stops, call_goes, call_reaches, call_stops, invoked_object, named_judges, named_none}
use Rattle.aml_walk.proofs.StoresLists.{value_more, value_stops, value_unkept, values_begin, values_end}
use Rattle.aml_walk.proofs.StoresParts.{not_dereferenced, not_invoking, not_led, not_notifying, not_paused, not_returned, not_written, some_parts}
use Rattle.aml_walk.proofs.StoresReads.{byte_written_same, dereferenced_is, led_elsewhere, led_first_stops, led_judges, led_second_stops, led_stops, led_targeted, not_in_place, obeys_led, store_is, stored_elsewhere, written_judges, written_none, written_stops}
use Rattle.aml_walk.proofs.StoresWeights.{lighter_behind, parts_and_two}
use Rattle.aml_walk.proofs.terms.+terms.Goals as goal
use Rattle.aml_walk.proofs.terms.+terms.Goals.{stores::dereferenced-in_default-via-else-parts-lt1+else-parts-lt2, stores::dereferenced-in_default-via-then-parts-lt1, blocks::falling-in-None-1, blocks::falling-in-Some+in-Buf-1, stores::led-in_default-via-else-parts-lt3+else-parts-lt4, stores::led-in_default-via-then-parts-lt3, calls::notifies-in_default-via-else-parts-lt2+else-parts-lt3, calls::notifies-in_default-via-then-parts-lt2, calls::pauses-in_default-via-else-parts-lt1+else-parts-lt2, calls::pauses-in_default-via-then-parts-lt1, calls::returned-in_default-via-else-parts-lt1+else-parts-lt2, calls::returned-in_default-via-then-parts-lt1, stores::store_byte-in_default-via-else-parts-lt3+else-parts-lt4, stores::store_byte-in_default-via-then-parts-lt3}
use Rattle.aml_judging.specs.Turns.{falling_rule, often_rule, once_rule}
use Rattle.aml_findings.specs.Views.{seen_of}
use Rattle.aml_known.specs.Views.{env_of, kind_of, kinds_of, yield_of}
use Rattle.aml_known.specs.declared.accepted.Yield.TheVariants as yield
use Rattle.aml_known.specs.declared.known.Known.{Known}
use Rattle.aml_known.specs.declared.known.Known.TheVariants as kinds
use Rattle.aml_known.specs.declared.stop.Stop.TheVariants as stop
use Rattle.aml_meaning.specs.Rules.{Place}
use Rattle.aml_meaning.specs.declared.action.Action.TheVariants as does
use Rattle.aml_namespace.proofs.Weights.{lighter_item, weight_of, weights}
use Rattle.aml_operators.proofs.Views.{view_out}
use Rattle.aml_operators.specs.Tree.{view, views}
use Rattle.aml_operators.specs.declared.term.Term.{Term}
use Rattle.aml_operators.specs.declared.term.Term.TheViews.{out-Term}
use Rattle.aml_rules.specs.Tells.{place_of}
use Rattle.std.proofs.Common.{Err, List, Ok, Some, Vec, ap, arith, inl, inr, length, refl, sym, true, ℕ, ◌+◌, ◌-◌, ◌∙◌, ◌≡◌}
use Rattle.std.proofs.lemmas.List.{drop_all, take_rest}
use Rattle.std.proofs.lemmas.Result.{err_from_is_err_and}
use Rattle.std.specs.declared.alloc.Global.{Global}

pub acts::statement-act-given-requires : goal.acts::statement-act-given-requires
acts::statement-act-given-requires g t c =
    let weighs = weight_of (view c.args.term.now) (views (out-Term c.args.term.now).parts.items) (out-Term c.args.term.now).op (out-Term c.args.term.now).at (out-Term c.args.term.now).end (view_out c.args.term.now) in
    rw c.deref.ensures.value (λ κs within. (omega (arith, weighs), within))

pub acts::statement-returns-in-Nothing : goal.acts::statement-returns-in-Nothing
acts::statement-returns-in-Nothing g t c =
    let defines = sym c.definition_of.ensures ∙ c.in-Nothing.is in
    rw (view_out c.args.term.now) (stated (g.A.Around.around c.args.here.now) (out-Term c.args.term.now).op (out-Term c.args.term.now).at (out-Term c.args.term.now).end (views (out-Term c.args.term.now).parts.items) defines c.step.ensures (rw c.deref.ensures.value at c.act-given.ensures))

pub acts::statement-returns-in_default : goal.acts::statement-returns-in_default
acts::statement-returns-in_default g t c =
    rw (view_out c.args.term.now, c.stop.ensures) (stated_elsewhere (g.A.Around.around c.args.here.now) (out-Term c.args.term.now).op (out-Term c.args.term.now).at (out-Term c.args.term.now).end (views (out-Term c.args.term.now).parts.items) c.step.ensures (λ e. c.in_default.not-Nothing (c.definition_of.ensures ∙ e)))

pub acts::value-act-requires : goal.acts::value-act-requires
acts::value-act-requires g t c =
    let weighs = weight_of (view c.args.term.now) (views (out-Term c.args.term.now).parts.items) (out-Term c.args.term.now).op (out-Term c.args.term.now).at (out-Term c.args.term.now).end (view_out c.args.term.now) in
    rw c.deref-2.ensures.value (λ κs within. (omega (arith, weighs), within))

pub acts::value-returns-then-not-is_operand : goal.acts::value-returns-then-not-is_operand
acts::value-returns-then-not-is_operand g t c =
    let not = rw c.deref.ensures.value at (sym c.is_operand.ensures ∙ c.if-not-is_operand.true) in
    rw (view_out c.args.term.now, c.stop.ensures) (no_operand (g.A.Around.around c.args.here.now) (out-Term c.args.term.now).op (out-Term c.args.term.now).at (out-Term c.args.term.now).end (views (out-Term c.args.term.now).parts.items) c.step.ensures not)

pub acts::value-returns-in_err-given : goal.acts::value-returns-in_err-given
acts::value-returns-in_err-given g t c =
    let p = err_from_is_err_and c.from_residual.result c.from_residual.ensures.1 in
    let may = rw c.deref.ensures.value at (sym c.is_operand.ensures ∙ c.if-not-is_operand.false) in
    rw (view_out c.args.term.now, p.1, p.2) (operand_stops (g.A.Around.around c.args.here.now) (out-Term c.args.term.now).op (out-Term c.args.term.now).at (out-Term c.args.term.now).end (views (out-Term c.args.term.now).parts.items) c.step.ensures may (rw c.deref-2.ensures.value at c.in_err-given.ensures))

pub acts::value-returns-in_err-kind : goal.acts::value-returns-in_err-kind
acts::value-returns-in_err-kind g t c =
    let p = err_from_is_err_and c.from_residual-in_err-kind.result c.from_residual-in_err-kind.ensures.1 in
    let may = rw c.deref.ensures.value at (sym c.is_operand.ensures ∙ c.if-not-is_operand.false) in
    rw (view_out c.args.term.now, p.1, p.2) (no_value (g.A.Around.around c.args.here.now) (out-Term c.args.term.now).op (out-Term c.args.term.now).at (out-Term c.args.term.now).end (views (out-Term c.args.term.now).parts.items) c.step.ensures may (rw c.deref-2.ensures.value at c.in_ok-given.ensures) c.in_err-kind.ensures)

pub acts::value-returns : goal.acts::value-returns
acts::value-returns g t c =
    let may = rw c.deref.ensures.value at (sym c.is_operand.ensures ∙ c.if-not-is_operand.false) in
    rw (view_out c.args.term.now) (operand_goes (g.A.Around.around c.args.here.now) (out-Term c.args.term.now).op (out-Term c.args.term.now).at (out-Term c.args.term.now).end (views (out-Term c.args.term.now).parts.items) c.step.ensures may (rw c.deref-2.ensures.value at c.in_ok-given.ensures) c.in_ok-kind.ensures)

pub acts::act-binary-requires : goal.acts::act-binary-requires
acts::act-binary-requires g t c = λ κs within. (omega arith, within)

pub acts::act-unary-requires : goal.acts::act-unary-requires
acts::act-unary-requires g t c = λ κs within. (omega arith, within)

pub acts::act-by_one-requires : goal.acts::act-by_one-requires
acts::act-by_one-requires g t c = λ κs within. (omega arith, within)

pub acts::act-compared-requires : goal.acts::act-compared-requires
acts::act-compared-requires g t c = λ κs within. (omega arith, within)

pub acts::act-negated-requires : goal.acts::act-negated-requires
acts::act-negated-requires g t c = λ κs within. (omega arith, within)

pub acts::act-divided-requires : goal.acts::act-divided-requires
acts::act-divided-requires g t c = λ κs within. (omega arith, within)

pub acts::act-converted-requires : goal.acts::act-converted-requires
acts::act-converted-requires g t c = λ κs within. (omega arith, within)

pub acts::act-concatenated-requires : goal.acts::act-concatenated-requires
acts::act-concatenated-requires g t c = λ κs within. (omega arith, within)

pub acts::act-dereferenced-requires : goal.acts::act-dereferenced-requires
acts::act-dereferenced-requires g t c = λ κs within. (omega arith, within)

pub acts::act-stored-requires : goal.acts::act-stored-requires
acts::act-stored-requires g t c = λ κs within. (omega arith, within)

pub acts::act-returned-requires : goal.acts::act-returned-requires
acts::act-returned-requires g t c = λ κs within. (omega arith, within)

pub acts::act-branch-alloc-requires : goal.acts::act-branch-alloc-requires
acts::act-branch-alloc-requires g t c = λ κs within. (omega arith, within)

pub acts::act-looped-requires : goal.acts::act-looped-requires
acts::act-looped-requires g t c = λ κs within. (omega arith, within)

pub acts::act-notifies-requires : goal.acts::act-notifies-requires
acts::act-notifies-requires g t c = λ κs within. (omega arith, within)

pub acts::act-pauses-requires : goal.acts::act-pauses-requires
acts::act-pauses-requires g t c = λ κs within. (omega arith, within)

pub acts::act-invoked-requires : goal.acts::act-invoked-requires
acts::act-invoked-requires g t c = λ κs within. (omega arith, within)

pub acts::act-returns-in-Binary : goal.acts::act-returns-in-Binary
acts::act-returns-in-Binary g t c = rw (← c.action_of.ensures, c.in-Binary.is) (c.binary.ensures c.args.wanted)

pub acts::act-returns-in-Unary : goal.acts::act-returns-in-Unary
acts::act-returns-in-Unary g t c = rw (← c.action_of.ensures, c.in-Unary.is) (c.unary.ensures c.args.wanted)

pub acts::act-returns-in-ByOne : goal.acts::act-returns-in-ByOne
acts::act-returns-in-ByOne g t c = rw (← c.action_of.ensures, c.in-ByOne.is) (c.by_one.ensures c.args.wanted)

pub acts::act-returns-in-Compare : goal.acts::act-returns-in-Compare
acts::act-returns-in-Compare g t c = rw (← c.action_of.ensures, c.in-Compare.is) (c.compared.ensures c.args.wanted)

pub acts::act-returns-in-LNot : goal.acts::act-returns-in-LNot
acts::act-returns-in-LNot g t c = rw (← c.action_of.ensures, c.in-LNot.is) (c.negated.ensures c.args.wanted)

pub acts::act-returns-in-Divide : goal.acts::act-returns-in-Divide
acts::act-returns-in-Divide g t c = rw (← c.action_of.ensures, c.in-Divide.is) (c.divided.ensures c.args.wanted)

pub acts::act-returns-in-Convert : goal.acts::act-returns-in-Convert
acts::act-returns-in-Convert g t c = rw (← c.action_of.ensures, c.in-Convert.is) (c.converted.ensures c.args.wanted)

pub acts::act-returns-in-Concatenate : goal.acts::act-returns-in-Concatenate
acts::act-returns-in-Concatenate g t c = rw (← c.action_of.ensures, c.in-Concatenate.is) (c.concatenated.ensures c.args.wanted)

pub acts::act-returns-in-Dereference : goal.acts::act-returns-in-Dereference
acts::act-returns-in-Dereference g t c = rw (← c.action_of.ensures, c.in-Dereference.is) (c.dereferenced.ensures c.args.wanted)

pub acts::act-returns-in-Store : goal.acts::act-returns-in-Store
acts::act-returns-in-Store g t c = rw (← c.action_of.ensures, c.in-Store.is) (c.stored.ensures c.args.wanted)

pub acts::act-returns-in-Return : goal.acts::act-returns-in-Return
acts::act-returns-in-Return g t c = rw (← c.action_of.ensures, c.in-Return.is) (c.returned.ensures c.args.wanted)

pub acts::act-returns-in-If : goal.acts::act-returns-in-If
acts::act-returns-in-If g t c = rw (← c.action_of.ensures, c.in-If.is) (c.branch-alloc.ensures c.args.wanted)

pub acts::act-returns-in-While : goal.acts::act-returns-in-While
acts::act-returns-in-While g t c = rw (← c.action_of.ensures, c.in-While.is) (c.looped.ensures c.args.wanted)

pub acts::act-returns-in-Notify : goal.acts::act-returns-in-Notify
acts::act-returns-in-Notify g t c = rw (← c.action_of.ensures, c.in-Notify.is) (c.notifies.ensures c.args.wanted)

pub acts::act-returns-in-Pause : goal.acts::act-returns-in-Pause
acts::act-returns-in-Pause g t c = rw (← c.action_of.ensures, c.in-Pause.is) (c.pauses.ensures c.args.wanted)

pub acts::act-returns-in-Invoke : goal.acts::act-returns-in-Invoke
acts::act-returns-in-Invoke g t c = rw (← c.action_of.ensures, c.in-Invoke.is) c.invoked.ensures

pub acts::act-returns-in-SizeOf : goal.acts::act-returns-in-SizeOf
acts::act-returns-in-SizeOf g t c = rw (← c.action_of.ensures, c.in-SizeOf.is) (c.sized.ensures c.args.wanted)

pub acts::act-returns-in-Acquire : goal.acts::act-returns-in-Acquire
acts::act-returns-in-Acquire g t c = rw (← c.action_of.ensures, c.in-Acquire.is) (c.acquires.ensures c.args.wanted)

pub acts::act-returns-in-Release : goal.acts::act-returns-in-Release
acts::act-returns-in-Release g t c = rw (← c.action_of.ensures, c.in-Release.is) (c.releases.ensures c.args.wanted)

pub acts::act-returns-in-CondRefOf : goal.acts::act-returns-in-CondRefOf
acts::act-returns-in-CondRefOf g t c = rw (← c.action_of.ensures, c.in-CondRefOf.is) (c.asked.ensures c.args.wanted c.args.progress.now)

pub acts::act-returns-in-Name : goal.acts::act-returns-in-Name
acts::act-returns-in-Name g t c = rw (← c.action_of.ensures, c.in-Name.is) (c.name_read.ensures c.args.wanted (views c.args.parts.now))

pub acts::act-returns-in-Break : goal.acts::act-returns-in-Break
acts::act-returns-in-Break g t c = rw (← c.action_of.ensures, c.in-Break.is) c.breaks.ensures

pub acts::act-returns-in-Continue : goal.acts::act-returns-in-Continue
acts::act-returns-in-Continue g t c = rw (← c.action_of.ensures, c.in-Continue.is) c.continues.ensures

pub acts::act-returns-in-Nothing : goal.acts::act-returns-in-Nothing
acts::act-returns-in-Nothing g t c = rw (← c.action_of.ensures, c.in-Nothing.is) (gives_judges {see = yield_of (g.A.Shapes.numbered c.args.here.now)} c.args.progress.now yield.Never (λ env. refl))

pub acts::act-returns-in-Literal : goal.acts::act-returns-in-Literal
acts::act-returns-in-Literal g t c = rw (← c.action_of.ensures, c.in-Literal.is) (always_judges c.args.progress.now c.literal.result (λ env. c.literal.ensures c.args.wanted c.args.at env))

pub acts::act-returns-in_err-data-in-Data : goal.acts::act-returns-in_err-data-in-Data
acts::act-returns-in_err-data-in-Data g t c =
    let p = err_from_is_err_and c.from_residual.result c.from_residual.ensures.1 in
    rw (← c.action_of.ensures, c.in-Data.is, p.1, p.2) (data_stops c.args.progress.now c.in_err-data-in-Data.field-0.0 (λ env. c.in_err-data-in-Data.ensures c.args.wanted env))

pub acts::act-returns-in_ok-data-in-Data : goal.acts::act-returns-in_ok-data-in-Data
acts::act-returns-in_ok-data-in-Data g t c = rw (← c.action_of.ensures, c.in-Data.is) (data_judges c.args.progress.now c.in_ok-data-in-Data.field-0 (λ env. c.in_ok-data-in-Data.ensures c.args.wanted env))

pub acts::act-returns-in_err-slot-in-Local : goal.acts::act-returns-in_err-slot-in-Local
acts::act-returns-in_err-slot-in-Local g t c =
    let p = err_from_is_err_and c.from_residual-in_err-slot-in-Local.result c.from_residual-in_err-slot-in-Local.ensures.1 in
    rw (← c.action_of.ensures, c.in-Local.is, p.1, p.2) (refused_judges c.args.progress.now c.in_err-slot-in-Local.field-0.0 (λ lists apart says. c.in_err-slot-in-Local.ensures (env_of (g.A.Shapes.numbered c.args.here.now) lists c.args.progress.now.env)))

pub acts::act-returns-in_ok-slot-in-Local : goal.acts::act-returns-in_ok-slot-in-Local
acts::act-returns-in_ok-slot-in-Local g t c = rw (← c.action_of.ensures, c.in-Local.is) (free_judges c.args.progress.now (yield.Always c.in_ok-slot-in-Local.field-0) (λ lists apart says. c.in_ok-slot-in-Local.ensures (env_of (g.A.Shapes.numbered c.args.here.now) lists c.args.progress.now.env)))

pub acts::act-returns-in_err-slot-in-Argument : goal.acts::act-returns-in_err-slot-in-Argument
acts::act-returns-in_err-slot-in-Argument g t c =
    let p = err_from_is_err_and c.from_residual-in_err-slot-in-Argument.result c.from_residual-in_err-slot-in-Argument.ensures.1 in
    rw (← c.action_of.ensures, c.in-Argument.is, p.1, p.2) (refused_judges c.args.progress.now c.in_err-slot-in-Argument.field-0.0 (λ lists apart says. c.in_err-slot-in-Argument.ensures (env_of (g.A.Shapes.numbered c.args.here.now) lists c.args.progress.now.env)))

pub acts::act-returns-in_ok-slot-in-Argument : goal.acts::act-returns-in_ok-slot-in-Argument
acts::act-returns-in_ok-slot-in-Argument g t c = rw (← c.action_of.ensures, c.in-Argument.is) (free_judges c.args.progress.now (yield.Always c.in_ok-slot-in-Argument.field-0) (λ lists apart says. c.in_ok-slot-in-Argument.ensures (env_of (g.A.Shapes.numbered c.args.here.now) lists c.args.progress.now.env)))

pub acts::act-returns-in-Index : goal.acts::act-returns-in-Index
acts::act-returns-in-Index g t c = elim c.in-Index.is [
  | inl e ↦ rw (← c.action_of.ensures, e, c.stop.ensures) (refused_judges c.args.progress.now (refusal (g.A.Around.around c.args.here.now) cause.OutsideProfile c.args.at) (λ lists apart says. refl))
  | inr (inl e) ↦ rw (← c.action_of.ensures, e, c.stop.ensures) (refused_judges c.args.progress.now (refusal (g.A.Around.around c.args.here.now) cause.OutsideProfile c.args.at) (λ lists apart says. refl))
  | inr (inr (inl e)) ↦ rw (← c.action_of.ensures, e, c.stop.ensures) (refused_judges c.args.progress.now (refusal (g.A.Around.around c.args.here.now) cause.OutsideProfile c.args.at) (λ lists apart says. refl))
  | inr (inr (inr e)) ↦ rw (← c.action_of.ensures, e, c.stop.ensures) (refused_judges c.args.progress.now (refusal (g.A.Around.around c.args.here.now) cause.OutsideProfile c.args.at) (λ lists apart says. refl))
]

pub operators::binary-returns-in_default : goal.operators::binary-returns-in_default
operators::binary-returns-in_default g t c = λ w.
    let differs : length c.args.parts.now ≡ 3 → ⊥ = λ same. elim c.in_default.branch [
      | goal.operators::binary-in_default-via-then-parts-lt3 w ↦ grind (arith, same, w)
      | goal.operators::binary-in_default-via-else-parts-lt3+else-parts-lt4 w ↦ grind (arith, same, w)
    ] in
    rw c.stop.ensures (other_than_three (g.A.Around.around c.args.here.now) c.args.at (judged_act (g.A.Around.around c.args.here.now) w (does.Binary c.args.f) c.args.at) c.args.progress.now c.args.parts.now differs refl (λ t. refl) (λ t u. refl) (λ t u v x us. refl))

pub operators::binary-value-requires : goal.operators::binary-value-requires
operators::binary-value-requires g t c =
    let less = lighter_item c.args.parts.now 0 c.a-item.result (omega (arith, c.in-len3.len_at_least)) c.a-item.is in
    λ κs within. (omega (arith, less), within)

pub operators::binary-value-requires-2 : goal.operators::binary-value-requires-2
operators::binary-value-requires-2 g t c =
    let less = lighter_item c.args.parts.now 1 c.b-item.result (omega (arith, c.in-len3.len_at_least)) c.b-item.is in
    λ κs within. (omega (arith, less), within)

pub operators::binary-returns-in_err-j : goal.operators::binary-returns-in_err-j
operators::binary-returns-in_err-j g t c = λ w.
    let p = err_from_is_err_and c.from_residual.result c.from_residual.ensures.1 in
    let parts = three_parts c.args.parts.now c.a-item.result c.b-item.result c.target-item.result c.in-len3.len_at_least c.in-len3.len_below c.a-item.is c.b-item.is c.target-item.is in
    rw (parts, p.1, p.2) (first_stops (g.A.Around.around c.args.here.now) (view c.a-item.result) (view c.b-item.result) (asks_binary (g.A.Around.around c.args.here.now) c.args.f (view c.a-item.result) (view c.b-item.result)) (storing (g.A.Around.around c.args.here.now) (view c.target-item.result)) c.in_err-j.ensures)

pub operators::binary-returns-in_err-k : goal.operators::binary-returns-in_err-k
operators::binary-returns-in_err-k g t c = λ w.
    let p = err_from_is_err_and c.from_residual-in_err-k.result c.from_residual-in_err-k.ensures.1 in
    let parts = three_parts c.args.parts.now c.a-item.result c.b-item.result c.target-item.result c.in-len3.len_at_least c.in-len3.len_below c.a-item.is c.b-item.is c.target-item.is in
    rw (parts, p.1, p.2) (second_stops (g.A.Around.around c.args.here.now) (view c.a-item.result) (view c.b-item.result) (asks_binary (g.A.Around.around c.args.here.now) c.args.f (view c.a-item.result) (view c.b-item.result)) (storing (g.A.Around.around c.args.here.now) (view c.target-item.result)) c.in_ok-j.ensures c.in_err-k.ensures)

pub operators::binary-returns-in_err-given : goal.operators::binary-returns-in_err-given
operators::binary-returns-in_err-given g t c = λ w.
    let p = err_from_is_err_and c.from_residual-in_err-given.result c.from_residual-in_err-given.ensures.1 in
    let parts = three_parts c.args.parts.now c.a-item.result c.b-item.result c.target-item.result c.in-len3.len_at_least c.in-len3.len_below c.a-item.is c.b-item.is c.target-item.is in
    let asks = rw (c.number_of-number.ensures, c.width.ensures, c.width-2.ensures, placed (g.A.Around.around c.args.here.now) c.a-item.result _ c.place.ensures, placed (g.A.Around.around c.args.here.now) c.b-item.result _ c.place-2.ensures) at (c.in_err-given.ensures (g.A.Shapes.numbered c.args.here.now)) in
    rw (parts, p.1, p.2) (two_refused (g.A.Around.around c.args.here.now) (view c.a-item.result) (view c.b-item.result) (asks_binary (g.A.Around.around c.args.here.now) c.args.f (view c.a-item.result) (view c.b-item.result)) (storing (g.A.Around.around c.args.here.now) (view c.target-item.result)) c.in_ok-j.ensures c.in_ok-k.ensures asks)

pub operators::binary-store-requires : goal.operators::binary-store-requires
operators::binary-store-requires g t c =
    let less = lighter_item c.args.parts.now 2 c.target-item.result (omega (arith, c.in-len3.len_at_least)) c.target-item.is in
    λ κs within. (omega (arith, less), within)

pub operators::binary-returns-in_err-store : goal.operators::binary-returns-in_err-store
operators::binary-returns-in_err-store g t c = λ w.
    let p = err_from_is_err_and c.from_residual-in_err-store.result c.from_residual-in_err-store.ensures.1 in
    let parts = three_parts c.args.parts.now c.a-item.result c.b-item.result c.target-item.result c.in-len3.len_at_least c.in-len3.len_below c.a-item.is c.b-item.is c.target-item.is in
    let asks = rw (c.number_of-number.ensures, c.width.ensures, c.width-2.ensures, placed (g.A.Around.around c.args.here.now) c.a-item.result _ c.place.ensures, placed (g.A.Around.around c.args.here.now) c.b-item.result _ c.place-2.ensures) at (c.in_ok-given.ensures (g.A.Shapes.numbered c.args.here.now)) in
    rw (parts, p.1, p.2) (two_on (g.A.Around.around c.args.here.now) (view c.a-item.result) (view c.b-item.result) (asks_binary (g.A.Around.around c.args.here.now) c.args.f (view c.a-item.result) (view c.b-item.result)) (storing (g.A.Around.around c.args.here.now) (view c.target-item.result)) c.in_ok-j.ensures c.in_ok-k.ensures asks (storing_stops (g.A.Around.around c.args.here.now) (view c.target-item.result) c.in_ok-given.given c.in_err-store.ensures))

pub operators::binary-returns : goal.operators::binary-returns
operators::binary-returns g t c = λ w.
    let parts = three_parts c.args.parts.now c.a-item.result c.b-item.result c.target-item.result c.in-len3.len_at_least c.in-len3.len_below c.a-item.is c.b-item.is c.target-item.is in
    let asks = rw (c.number_of-number.ensures, c.width.ensures, c.width-2.ensures, placed (g.A.Around.around c.args.here.now) c.a-item.result _ c.place.ensures, placed (g.A.Around.around c.args.here.now) c.b-item.result _ c.place-2.ensures) at (c.in_ok-given.ensures (g.A.Shapes.numbered c.args.here.now)) in
    rw parts (two_on (g.A.Around.around c.args.here.now) (view c.a-item.result) (view c.b-item.result) (asks_binary (g.A.Around.around c.args.here.now) c.args.f (view c.a-item.result) (view c.b-item.result)) (storing (g.A.Around.around c.args.here.now) (view c.target-item.result)) c.in_ok-j.ensures c.in_ok-k.ensures asks (storing_goes (g.A.Around.around c.args.here.now) (view c.target-item.result) c.in_ok-given.given c.in_ok-store.ensures))

pub operators::compared-returns-in_default : goal.operators::compared-returns-in_default
operators::compared-returns-in_default g t c = λ w.
    let differs : length c.args.parts.now ≡ 2 → ⊥ = λ same. elim c.in_default.branch [
      | goal.operators::compared-in_default-via-then-parts-lt2 w ↦ grind (arith, same, w)
      | goal.operators::compared-in_default-via-else-parts-lt2+else-parts-lt3 w ↦ grind (arith, same, w)
    ] in
    rw c.stop.ensures (other_than_two (g.A.Around.around c.args.here.now) c.args.at (judged_act (g.A.Around.around c.args.here.now) w (does.Compare c.args.f) c.args.at) c.args.progress.now c.args.parts.now differs refl (λ t. refl) (λ t u v us. refl))

pub operators::compared-value-requires : goal.operators::compared-value-requires
operators::compared-value-requires g t c =
    let less = lighter_item c.args.parts.now 0 c.a-item.result (omega (arith, c.in-len2.len_at_least)) c.a-item.is in
    λ κs within. (omega (arith, less), within)

pub operators::compared-value-requires-2 : goal.operators::compared-value-requires-2
operators::compared-value-requires-2 g t c =
    let less = lighter_item c.args.parts.now 1 c.b-item.result (omega (arith, c.in-len2.len_at_least)) c.b-item.is in
    λ κs within. (omega (arith, less), within)

pub operators::compared-returns-in_err-j : goal.operators::compared-returns-in_err-j
operators::compared-returns-in_err-j g t c = λ w.
    let p = err_from_is_err_and c.from_residual.result c.from_residual.ensures.1 in
    let parts = two_parts c.args.parts.now c.a-item.result c.b-item.result c.in-len2.len_at_least c.in-len2.len_below c.a-item.is c.b-item.is in
    rw (parts, p.1, p.2) (first_stops (g.A.Around.around c.args.here.now) (view c.a-item.result) (view c.b-item.result) (asks_compared (g.A.Around.around c.args.here.now) c.args.f (view c.a-item.result) (view c.b-item.result)) (giving (g.A.Around.around c.args.here.now)) c.in_err-j.ensures)

pub operators::compared-returns-in_err-k : goal.operators::compared-returns-in_err-k
operators::compared-returns-in_err-k g t c = λ w.
    let p = err_from_is_err_and c.from_residual-in_err-k.result c.from_residual-in_err-k.ensures.1 in
    let parts = two_parts c.args.parts.now c.a-item.result c.b-item.result c.in-len2.len_at_least c.in-len2.len_below c.a-item.is c.b-item.is in
    rw (parts, p.1, p.2) (second_stops (g.A.Around.around c.args.here.now) (view c.a-item.result) (view c.b-item.result) (asks_compared (g.A.Around.around c.args.here.now) c.args.f (view c.a-item.result) (view c.b-item.result)) (giving (g.A.Around.around c.args.here.now)) c.in_ok-j.ensures c.in_err-k.ensures)

pub operators::compared-returns-in_err-given : goal.operators::compared-returns-in_err-given
operators::compared-returns-in_err-given g t c = λ w.
    let p = err_from_is_err_and c.from_residual-in_err-given.result c.from_residual-in_err-given.ensures.1 in
    let parts = two_parts c.args.parts.now c.a-item.result c.b-item.result c.in-len2.len_at_least c.in-len2.len_below c.a-item.is c.b-item.is in
    let asks = rw (c.width.ensures, placed (g.A.Around.around c.args.here.now) c.a-item.result _ c.place.ensures, placed (g.A.Around.around c.args.here.now) c.b-item.result _ c.place-2.ensures) at (c.in_err-given.ensures (g.A.Shapes.numbered c.args.here.now)) in
    rw (parts, p.1, p.2) (two_refused (g.A.Around.around c.args.here.now) (view c.a-item.result) (view c.b-item.result) (asks_compared (g.A.Around.around c.args.here.now) c.args.f (view c.a-item.result) (view c.b-item.result)) (giving (g.A.Around.around c.args.here.now)) c.in_ok-j.ensures c.in_ok-k.ensures asks)

pub operators::compared-returns : goal.operators::compared-returns
operators::compared-returns g t c = λ w.
    let parts = two_parts c.args.parts.now c.a-item.result c.b-item.result c.in-len2.len_at_least c.in-len2.len_below c.a-item.is c.b-item.is in
    let asks = rw (c.width.ensures, placed (g.A.Around.around c.args.here.now) c.a-item.result _ c.place.ensures, placed (g.A.Around.around c.args.here.now) c.b-item.result _ c.place-2.ensures) at (c.in_ok-given.ensures (g.A.Shapes.numbered c.args.here.now)) in
    rw parts (two_on (g.A.Around.around c.args.here.now) (view c.a-item.result) (view c.b-item.result) (asks_compared (g.A.Around.around c.args.here.now) c.args.f (view c.a-item.result) (view c.b-item.result)) (giving (g.A.Around.around c.args.here.now)) c.in_ok-j.ensures c.in_ok-k.ensures asks (gives (g.A.Around.around c.args.here.now) c.in_ok-given.given c.value-2.new.progress))

pub operators::divided-returns-in_default : goal.operators::divided-returns-in_default
operators::divided-returns-in_default g t c = λ w.
    let differs : length c.args.parts.now ≡ 4 → ⊥ = λ same. elim c.in_default.branch [
      | goal.operators::divided-in_default-via-then-parts-lt4 w ↦ grind (arith, same, w)
      | goal.operators::divided-in_default-via-else-parts-lt4+else-parts-lt5 w ↦ grind (arith, same, w)
    ] in
    rw c.stop.ensures (other_than_four (g.A.Around.around c.args.here.now) c.args.at (judged_act (g.A.Around.around c.args.here.now) w does.Divide c.args.at) c.args.progress.now c.args.parts.now differs refl (λ t. refl) (λ t u. refl) (λ t u v. refl) (λ t u v x y us. refl))

pub operators::divided-value-requires : goal.operators::divided-value-requires
operators::divided-value-requires g t c =
    let less = lighter_item c.args.parts.now 0 c.a-item.result (omega (arith, c.in-len4.len_at_least)) c.a-item.is in
    λ κs within. (omega (arith, less), within)

pub operators::divided-value-requires-2 : goal.operators::divided-value-requires-2
operators::divided-value-requires-2 g t c =
    let less = lighter_item c.args.parts.now 1 c.b-item.result (omega (arith, c.in-len4.len_at_least)) c.b-item.is in
    λ κs within. (omega (arith, less), within)

pub operators::divided-returns-in_err-j : goal.operators::divided-returns-in_err-j
operators::divided-returns-in_err-j g t c = λ w.
    let p = err_from_is_err_and c.from_residual.result c.from_residual.ensures.1 in
    let parts = four_parts c.args.parts.now c.a-item.result c.b-item.result c.remainder-item.result c.quotient-item.result c.in-len4.len_at_least c.in-len4.len_below c.a-item.is c.b-item.is c.remainder-item.is c.quotient-item.is in
    rw (parts, p.1, p.2) (first_stops (g.A.Around.around c.args.here.now) (view c.a-item.result) (view c.b-item.result) (asks_divided (g.A.Around.around c.args.here.now) (view c.a-item.result) (view c.b-item.result)) (dividing (g.A.Around.around c.args.here.now) (view c.remainder-item.result) (view c.quotient-item.result)) c.in_err-j.ensures)

pub operators::divided-returns-in_err-k : goal.operators::divided-returns-in_err-k
operators::divided-returns-in_err-k g t c = λ w.
    let p = err_from_is_err_and c.from_residual-in_err-k.result c.from_residual-in_err-k.ensures.1 in
    let parts = four_parts c.args.parts.now c.a-item.result c.b-item.result c.remainder-item.result c.quotient-item.result c.in-len4.len_at_least c.in-len4.len_below c.a-item.is c.b-item.is c.remainder-item.is c.quotient-item.is in
    rw (parts, p.1, p.2) (second_stops (g.A.Around.around c.args.here.now) (view c.a-item.result) (view c.b-item.result) (asks_divided (g.A.Around.around c.args.here.now) (view c.a-item.result) (view c.b-item.result)) (dividing (g.A.Around.around c.args.here.now) (view c.remainder-item.result) (view c.quotient-item.result)) c.in_ok-j.ensures c.in_err-k.ensures)

pub operators::divided-returns-in_err-given : goal.operators::divided-returns-in_err-given
operators::divided-returns-in_err-given g t c = λ w.
    let p = err_from_is_err_and c.from_residual-in_err-given.result c.from_residual-in_err-given.ensures.1 in
    let parts = four_parts c.args.parts.now c.a-item.result c.b-item.result c.remainder-item.result c.quotient-item.result c.in-len4.len_at_least c.in-len4.len_below c.a-item.is c.b-item.is c.remainder-item.is c.quotient-item.is in
    let asks = rw (c.number_of-number.ensures, c.width.ensures, c.width-2.ensures, placed (g.A.Around.around c.args.here.now) c.a-item.result _ c.place.ensures, placed (g.A.Around.around c.args.here.now) c.b-item.result _ c.place-2.ensures) at (c.in_err-given.ensures (g.A.Shapes.numbered c.args.here.now)) in
    rw (parts, p.1, p.2) (two_refused (g.A.Around.around c.args.here.now) (view c.a-item.result) (view c.b-item.result) (asks_divided (g.A.Around.around c.args.here.now) (view c.a-item.result) (view c.b-item.result)) (dividing (g.A.Around.around c.args.here.now) (view c.remainder-item.result) (view c.quotient-item.result)) c.in_ok-j.ensures c.in_ok-k.ensures asks)

pub operators::divided-store-requires : goal.operators::divided-store-requires
operators::divided-store-requires g t c =
    let less = lighter_item c.args.parts.now 2 c.remainder-item.result (omega (arith, c.in-len4.len_at_least)) c.remainder-item.is in
    λ κs within. (omega (arith, less), within)

pub operators::divided-store-requires-2 : goal.operators::divided-store-requires-2
operators::divided-store-requires-2 g t c =
    let less = lighter_item c.args.parts.now 3 c.quotient-item.result (omega (arith, c.in-len4.len_at_least)) c.quotient-item.is in
    λ κs within. (omega (arith, less), within)

pub operators::divided-returns-in_err-store : goal.operators::divided-returns-in_err-store
operators::divided-returns-in_err-store g t c = λ w.
    let p = err_from_is_err_and c.from_residual-in_err-store.result c.from_residual-in_err-store.ensures.1 in
    let parts = four_parts c.args.parts.now c.a-item.result c.b-item.result c.remainder-item.result c.quotient-item.result c.in-len4.len_at_least c.in-len4.len_below c.a-item.is c.b-item.is c.remainder-item.is c.quotient-item.is in
    let asks = rw (c.number_of-number.ensures, c.width.ensures, c.width-2.ensures, placed (g.A.Around.around c.args.here.now) c.a-item.result _ c.place.ensures, placed (g.A.Around.around c.args.here.now) c.b-item.result _ c.place-2.ensures) at (c.in_ok-given.ensures (g.A.Shapes.numbered c.args.here.now)) in
    rw (parts, p.1, p.2) (two_on (g.A.Around.around c.args.here.now) (view c.a-item.result) (view c.b-item.result) (asks_divided (g.A.Around.around c.args.here.now) (view c.a-item.result) (view c.b-item.result)) (dividing (g.A.Around.around c.args.here.now) (view c.remainder-item.result) (view c.quotient-item.result)) c.in_ok-j.ensures c.in_ok-k.ensures asks (remainder_stops (g.A.Around.around c.args.here.now) (view c.remainder-item.result) (view c.quotient-item.result) c.in_ok-given.given c.in_err-store.ensures))

pub operators::divided-returns-in_err-store-2 : goal.operators::divided-returns-in_err-store-2
operators::divided-returns-in_err-store-2 g t c = λ w.
    let p = err_from_is_err_and c.from_residual-in_err-store-2.result c.from_residual-in_err-store-2.ensures.1 in
    let parts = four_parts c.args.parts.now c.a-item.result c.b-item.result c.remainder-item.result c.quotient-item.result c.in-len4.len_at_least c.in-len4.len_below c.a-item.is c.b-item.is c.remainder-item.is c.quotient-item.is in
    let asks = rw (c.number_of-number.ensures, c.width.ensures, c.width-2.ensures, placed (g.A.Around.around c.args.here.now) c.a-item.result _ c.place.ensures, placed (g.A.Around.around c.args.here.now) c.b-item.result _ c.place-2.ensures) at (c.in_ok-given.ensures (g.A.Shapes.numbered c.args.here.now)) in
    rw (parts, p.1, p.2) (two_on (g.A.Around.around c.args.here.now) (view c.a-item.result) (view c.b-item.result) (asks_divided (g.A.Around.around c.args.here.now) (view c.a-item.result) (view c.b-item.result)) (dividing (g.A.Around.around c.args.here.now) (view c.remainder-item.result) (view c.quotient-item.result)) c.in_ok-j.ensures c.in_ok-k.ensures asks (quotient_stops (g.A.Around.around c.args.here.now) (view c.remainder-item.result) (view c.quotient-item.result) c.in_ok-given.given c.in_ok-store.ensures c.in_err-store-2.ensures))

pub operators::divided-returns : goal.operators::divided-returns
operators::divided-returns g t c = λ w.
    let parts = four_parts c.args.parts.now c.a-item.result c.b-item.result c.remainder-item.result c.quotient-item.result c.in-len4.len_at_least c.in-len4.len_below c.a-item.is c.b-item.is c.remainder-item.is c.quotient-item.is in
    let asks = rw (c.number_of-number.ensures, c.width.ensures, c.width-2.ensures, placed (g.A.Around.around c.args.here.now) c.a-item.result _ c.place.ensures, placed (g.A.Around.around c.args.here.now) c.b-item.result _ c.place-2.ensures) at (c.in_ok-given.ensures (g.A.Shapes.numbered c.args.here.now)) in
    rw parts (two_on (g.A.Around.around c.args.here.now) (view c.a-item.result) (view c.b-item.result) (asks_divided (g.A.Around.around c.args.here.now) (view c.a-item.result) (view c.b-item.result)) (dividing (g.A.Around.around c.args.here.now) (view c.remainder-item.result) (view c.quotient-item.result)) c.in_ok-j.ensures c.in_ok-k.ensures asks (dividing_goes (g.A.Around.around c.args.here.now) (view c.remainder-item.result) (view c.quotient-item.result) c.in_ok-given.given c.in_ok-store.ensures c.in_ok-store-2.ensures))

pub operators::concatenated-returns-in_default : goal.operators::concatenated-returns-in_default
operators::concatenated-returns-in_default g t c = λ w.
    let differs : length c.args.parts.now ≡ 3 → ⊥ = λ same. elim c.in_default.branch [
      | goal.operators::concatenated-in_default-via-then-parts-lt3 w ↦ grind (arith, same, w)
      | goal.operators::concatenated-in_default-via-else-parts-lt3+else-parts-lt4 w ↦ grind (arith, same, w)
    ] in
    rw c.stop.ensures (other_than_three (g.A.Around.around c.args.here.now) c.args.at (judged_act (g.A.Around.around c.args.here.now) w does.Concatenate c.args.at) c.args.progress.now c.args.parts.now differs refl (λ t. refl) (λ t u. refl) (λ t u v x us. refl))

pub operators::concatenated-value-requires : goal.operators::concatenated-value-requires
operators::concatenated-value-requires g t c =
    let less = lighter_item c.args.parts.now 0 c.a-item.result (omega (arith, c.in-len3.len_at_least)) c.a-item.is in
    λ κs within. (omega (arith, less), within)

pub operators::concatenated-value-requires-2 : goal.operators::concatenated-value-requires-2
operators::concatenated-value-requires-2 g t c =
    let less = lighter_item c.args.parts.now 1 c.b-item.result (omega (arith, c.in-len3.len_at_least)) c.b-item.is in
    λ κs within. (omega (arith, less), within)

pub operators::concatenated-returns-in_err-j : goal.operators::concatenated-returns-in_err-j
operators::concatenated-returns-in_err-j g t c = λ w.
    let p = err_from_is_err_and c.from_residual.result c.from_residual.ensures.1 in
    let parts = three_parts c.args.parts.now c.a-item.result c.b-item.result c.target-item.result c.in-len3.len_at_least c.in-len3.len_below c.a-item.is c.b-item.is c.target-item.is in
    rw (parts, p.1, p.2) (first_stops (g.A.Around.around c.args.here.now) (view c.a-item.result) (view c.b-item.result) (asks_concatenated (g.A.Around.around c.args.here.now) c.args.at (view c.a-item.result) (view c.b-item.result)) (storing (g.A.Around.around c.args.here.now) (view c.target-item.result)) c.in_err-j.ensures)

pub operators::concatenated-returns-in_err-k : goal.operators::concatenated-returns-in_err-k
operators::concatenated-returns-in_err-k g t c = λ w.
    let p = err_from_is_err_and c.from_residual-in_err-k.result c.from_residual-in_err-k.ensures.1 in
    let parts = three_parts c.args.parts.now c.a-item.result c.b-item.result c.target-item.result c.in-len3.len_at_least c.in-len3.len_below c.a-item.is c.b-item.is c.target-item.is in
    rw (parts, p.1, p.2) (second_stops (g.A.Around.around c.args.here.now) (view c.a-item.result) (view c.b-item.result) (asks_concatenated (g.A.Around.around c.args.here.now) c.args.at (view c.a-item.result) (view c.b-item.result)) (storing (g.A.Around.around c.args.here.now) (view c.target-item.result)) c.in_ok-j.ensures c.in_err-k.ensures)

pub operators::concatenated-returns-in_err-given : goal.operators::concatenated-returns-in_err-given
operators::concatenated-returns-in_err-given g t c = λ w.
    let p = err_from_is_err_and c.from_residual-in_err-given.result c.from_residual-in_err-given.ensures.1 in
    let parts = three_parts c.args.parts.now c.a-item.result c.b-item.result c.target-item.result c.in-len3.len_at_least c.in-len3.len_below c.a-item.is c.b-item.is c.target-item.is in
    let asks = rw (c.place.ensures, placed (g.A.Around.around c.args.here.now) c.a-item.result _ c.place-2.ensures, placed (g.A.Around.around c.args.here.now) c.b-item.result _ c.place-3.ensures) at (c.in_err-given.ensures (g.A.Shapes.numbered c.args.here.now)) in
    rw (parts, p.1, p.2) (two_refused (g.A.Around.around c.args.here.now) (view c.a-item.result) (view c.b-item.result) (asks_concatenated (g.A.Around.around c.args.here.now) c.args.at (view c.a-item.result) (view c.b-item.result)) (storing (g.A.Around.around c.args.here.now) (view c.target-item.result)) c.in_ok-j.ensures c.in_ok-k.ensures asks)

pub operators::concatenated-store-requires : goal.operators::concatenated-store-requires
operators::concatenated-store-requires g t c =
    let less = lighter_item c.args.parts.now 2 c.target-item.result (omega (arith, c.in-len3.len_at_least)) c.target-item.is in
    λ κs within. (omega (arith, less), within)

pub operators::concatenated-returns-in_err-store : goal.operators::concatenated-returns-in_err-store
operators::concatenated-returns-in_err-store g t c = λ w.
    let p = err_from_is_err_and c.from_residual-in_err-store.result c.from_residual-in_err-store.ensures.1 in
    let parts = three_parts c.args.parts.now c.a-item.result c.b-item.result c.target-item.result c.in-len3.len_at_least c.in-len3.len_below c.a-item.is c.b-item.is c.target-item.is in
    let asks = rw (c.place.ensures, placed (g.A.Around.around c.args.here.now) c.a-item.result _ c.place-2.ensures, placed (g.A.Around.around c.args.here.now) c.b-item.result _ c.place-3.ensures) at (c.in_ok-given.ensures (g.A.Shapes.numbered c.args.here.now)) in
    rw (parts, p.1, p.2) (two_on (g.A.Around.around c.args.here.now) (view c.a-item.result) (view c.b-item.result) (asks_concatenated (g.A.Around.around c.args.here.now) c.args.at (view c.a-item.result) (view c.b-item.result)) (storing (g.A.Around.around c.args.here.now) (view c.target-item.result)) c.in_ok-j.ensures c.in_ok-k.ensures asks (storing_stops (g.A.Around.around c.args.here.now) (view c.target-item.result) c.in_ok-given.given c.in_err-store.ensures))

pub operators::concatenated-returns : goal.operators::concatenated-returns
operators::concatenated-returns g t c = λ w.
    let parts = three_parts c.args.parts.now c.a-item.result c.b-item.result c.target-item.result c.in-len3.len_at_least c.in-len3.len_below c.a-item.is c.b-item.is c.target-item.is in
    let asks = rw (c.place.ensures, placed (g.A.Around.around c.args.here.now) c.a-item.result _ c.place-2.ensures, placed (g.A.Around.around c.args.here.now) c.b-item.result _ c.place-3.ensures) at (c.in_ok-given.ensures (g.A.Shapes.numbered c.args.here.now)) in
    rw parts (two_on (g.A.Around.around c.args.here.now) (view c.a-item.result) (view c.b-item.result) (asks_concatenated (g.A.Around.around c.args.here.now) c.args.at (view c.a-item.result) (view c.b-item.result)) (storing (g.A.Around.around c.args.here.now) (view c.target-item.result)) c.in_ok-j.ensures c.in_ok-k.ensures asks (storing_goes (g.A.Around.around c.args.here.now) (view c.target-item.result) c.in_ok-given.given c.in_ok-store.ensures))

pub operators::unary-returns-in_default : goal.operators::unary-returns-in_default
operators::unary-returns-in_default g t c = λ w.
    let differs : length c.args.parts.now ≡ 2 → ⊥ = λ same. elim c.in_default.branch [
      | goal.operators::unary-in_default-via-then-parts-lt2 w ↦ grind (arith, same, w)
      | goal.operators::unary-in_default-via-else-parts-lt2+else-parts-lt3 w ↦ grind (arith, same, w)
    ] in
    rw c.stop.ensures (other_than_two (g.A.Around.around c.args.here.now) c.args.at (judged_act (g.A.Around.around c.args.here.now) w (does.Unary c.args.f) c.args.at) c.args.progress.now c.args.parts.now differs refl (λ t. refl) (λ t u v us. refl))

pub operators::unary-value-requires : goal.operators::unary-value-requires
operators::unary-value-requires g t c =
    let less = lighter_item c.args.parts.now 0 c.a-item.result (omega (arith, c.in-len2.len_at_least)) c.a-item.is in
    λ κs within. (omega (arith, less), within)

pub operators::unary-returns-in_err-k : goal.operators::unary-returns-in_err-k
operators::unary-returns-in_err-k g t c = λ w.
    let p = err_from_is_err_and c.from_residual.result c.from_residual.ensures.1 in
    let parts = two_parts c.args.parts.now c.a-item.result c.target-item.result c.in-len2.len_at_least c.in-len2.len_below c.a-item.is c.target-item.is in
    rw (parts, p.1, p.2) (one_stops (g.A.Around.around c.args.here.now) (view c.a-item.result) (asks_unary (g.A.Around.around c.args.here.now) c.args.f (view c.a-item.result)) (storing (g.A.Around.around c.args.here.now) (view c.target-item.result)) c.in_err-k.ensures)

pub operators::unary-returns-in_err-given : goal.operators::unary-returns-in_err-given
operators::unary-returns-in_err-given g t c = λ w.
    let p = err_from_is_err_and c.from_residual-in_err-given.result c.from_residual-in_err-given.ensures.1 in
    let parts = two_parts c.args.parts.now c.a-item.result c.target-item.result c.in-len2.len_at_least c.in-len2.len_below c.a-item.is c.target-item.is in
    let asks = rw (c.width.ensures, placed (g.A.Around.around c.args.here.now) c.a-item.result _ c.place.ensures) at (c.in_err-given.ensures (g.A.Shapes.numbered c.args.here.now)) in
    rw (parts, p.1, p.2) (one_refused (g.A.Around.around c.args.here.now) (view c.a-item.result) (asks_unary (g.A.Around.around c.args.here.now) c.args.f (view c.a-item.result)) (storing (g.A.Around.around c.args.here.now) (view c.target-item.result)) c.in_ok-k.ensures asks)

pub operators::unary-store-requires : goal.operators::unary-store-requires
operators::unary-store-requires g t c =
    let less = lighter_item c.args.parts.now 1 c.target-item.result (omega (arith, c.in-len2.len_at_least)) c.target-item.is in
    λ κs within. (omega (arith, less), within)

pub operators::unary-returns-in_err-store : goal.operators::unary-returns-in_err-store
operators::unary-returns-in_err-store g t c = λ w.
    let p = err_from_is_err_and c.from_residual-in_err-store.result c.from_residual-in_err-store.ensures.1 in
    let parts = two_parts c.args.parts.now c.a-item.result c.target-item.result c.in-len2.len_at_least c.in-len2.len_below c.a-item.is c.target-item.is in
    let asks = rw (c.width.ensures, placed (g.A.Around.around c.args.here.now) c.a-item.result _ c.place.ensures) at (c.in_ok-given.ensures (g.A.Shapes.numbered c.args.here.now)) in
    rw (parts, p.1, p.2) (one_on (g.A.Around.around c.args.here.now) (view c.a-item.result) (asks_unary (g.A.Around.around c.args.here.now) c.args.f (view c.a-item.result)) (storing (g.A.Around.around c.args.here.now) (view c.target-item.result)) c.in_ok-k.ensures asks (storing_stops (g.A.Around.around c.args.here.now) (view c.target-item.result) c.in_ok-given.given c.in_err-store.ensures))

pub operators::unary-returns : goal.operators::unary-returns
operators::unary-returns g t c = λ w.
    let parts = two_parts c.args.parts.now c.a-item.result c.target-item.result c.in-len2.len_at_least c.in-len2.len_below c.a-item.is c.target-item.is in
    let asks = rw (c.width.ensures, placed (g.A.Around.around c.args.here.now) c.a-item.result _ c.place.ensures) at (c.in_ok-given.ensures (g.A.Shapes.numbered c.args.here.now)) in
    rw parts (one_on (g.A.Around.around c.args.here.now) (view c.a-item.result) (asks_unary (g.A.Around.around c.args.here.now) c.args.f (view c.a-item.result)) (storing (g.A.Around.around c.args.here.now) (view c.target-item.result)) c.in_ok-k.ensures asks (storing_goes (g.A.Around.around c.args.here.now) (view c.target-item.result) c.in_ok-given.given c.in_ok-store.ensures))

pub operators::by_one-returns-in_default : goal.operators::by_one-returns-in_default
operators::by_one-returns-in_default g t c = λ w.
    let differs : length c.args.parts.now ≡ 1 → ⊥ = λ same. elim c.in_default.branch [
      | goal.operators::by_one-in_default-via-then-parts-lt1 w ↦ grind (arith, same, w)
      | goal.operators::by_one-in_default-via-else-parts-lt1+else-parts-lt2 w ↦ grind (arith, same, w)
    ] in
    rw c.stop.ensures (other_than_one (g.A.Around.around c.args.here.now) c.args.at (judged_act (g.A.Around.around c.args.here.now) w (does.ByOne c.args.f) c.args.at) c.args.progress.now c.args.parts.now differs refl (λ t u us. refl))

pub operators::by_one-value-requires : goal.operators::by_one-value-requires
operators::by_one-value-requires g t c =
    let less = lighter_item c.args.parts.now 0 c.a-item.result (omega (arith, c.in-len1.len_at_least)) c.a-item.is in
    λ κs within. (omega (arith, less), within)

pub operators::by_one-returns-in_err-placed : goal.operators::by_one-returns-in_err-placed
operators::by_one-returns-in_err-placed g t c = λ w.
    let p = err_from_is_err_and c.from_residual.result c.from_residual.ensures.1 in
    let parts = one_part c.args.parts.now c.a-item.result c.in-len1.len_at_least c.in-len1.len_below c.a-item.is in
    rw (parts, p.1, p.2) (not_placed (g.A.Around.around c.args.here.now) (view c.a-item.result) (asks_by_one (g.A.Around.around c.args.here.now) c.args.f (view c.a-item.result)) (storing (g.A.Around.around c.args.here.now) (view c.a-item.result)) c.in_err-placed.ensures)

pub operators::by_one-returns-in_err-k : goal.operators::by_one-returns-in_err-k
operators::by_one-returns-in_err-k g t c = λ w.
    let p = err_from_is_err_and c.from_residual-in_err-k.result c.from_residual-in_err-k.ensures.1 in
    let parts = one_part c.args.parts.now c.a-item.result c.in-len1.len_at_least c.in-len1.len_below c.a-item.is in
    rw (parts, p.1, p.2) (placed_on (g.A.Around.around c.args.here.now) (view c.a-item.result) (asks_by_one (g.A.Around.around c.args.here.now) c.args.f (view c.a-item.result)) (storing (g.A.Around.around c.args.here.now) (view c.a-item.result)) c.in_ok-placed.ensures (one_stops (g.A.Around.around c.args.here.now) (view c.a-item.result) (asks_by_one (g.A.Around.around c.args.here.now) c.args.f (view c.a-item.result)) (storing (g.A.Around.around c.args.here.now) (view c.a-item.result)) c.in_err-k.ensures))

pub operators::by_one-returns-in_err-given : goal.operators::by_one-returns-in_err-given
operators::by_one-returns-in_err-given g t c = λ w.
    let p = err_from_is_err_and c.from_residual-in_err-given.result c.from_residual-in_err-given.ensures.1 in
    let parts = one_part c.args.parts.now c.a-item.result c.in-len1.len_at_least c.in-len1.len_below c.a-item.is in
    let asks = rw (c.width.ensures, placed (g.A.Around.around c.args.here.now) c.a-item.result _ c.place-from.ensures) at (c.in_err-given.ensures (g.A.Shapes.numbered c.args.here.now)) in
    rw (parts, p.1, p.2) (placed_on (g.A.Around.around c.args.here.now) (view c.a-item.result) (asks_by_one (g.A.Around.around c.args.here.now) c.args.f (view c.a-item.result)) (storing (g.A.Around.around c.args.here.now) (view c.a-item.result)) c.in_ok-placed.ensures (one_refused (g.A.Around.around c.args.here.now) (view c.a-item.result) (asks_by_one (g.A.Around.around c.args.here.now) c.args.f (view c.a-item.result)) (storing (g.A.Around.around c.args.here.now) (view c.a-item.result)) c.in_ok-k.ensures asks))

pub operators::by_one-store-requires : goal.operators::by_one-store-requires
operators::by_one-store-requires g t c =
    let less = lighter_item c.args.parts.now 0 c.a-item.result (omega (arith, c.in-len1.len_at_least)) c.a-item.is in
    λ κs within. (omega (arith, less), within)

pub operators::by_one-returns-in_err-store : goal.operators::by_one-returns-in_err-store
operators::by_one-returns-in_err-store g t c = λ w.
    let p = err_from_is_err_and c.from_residual-in_err-store.result c.from_residual-in_err-store.ensures.1 in
    let parts = one_part c.args.parts.now c.a-item.result c.in-len1.len_at_least c.in-len1.len_below c.a-item.is in
    let asks = rw (c.width.ensures, placed (g.A.Around.around c.args.here.now) c.a-item.result _ c.place-from.ensures) at (c.in_ok-given.ensures (g.A.Shapes.numbered c.args.here.now)) in
    rw (parts, p.1, p.2) (placed_on (g.A.Around.around c.args.here.now) (view c.a-item.result) (asks_by_one (g.A.Around.around c.args.here.now) c.args.f (view c.a-item.result)) (storing (g.A.Around.around c.args.here.now) (view c.a-item.result)) c.in_ok-placed.ensures (one_on (g.A.Around.around c.args.here.now) (view c.a-item.result) (asks_by_one (g.A.Around.around c.args.here.now) c.args.f (view c.a-item.result)) (storing (g.A.Around.around c.args.here.now) (view c.a-item.result)) c.in_ok-k.ensures asks (storing_stops (g.A.Around.around c.args.here.now) (view c.a-item.result) c.in_ok-given.given c.in_err-store.ensures)))

pub operators::by_one-returns : goal.operators::by_one-returns
operators::by_one-returns g t c = λ w.
    let parts = one_part c.args.parts.now c.a-item.result c.in-len1.len_at_least c.in-len1.len_below c.a-item.is in
    let asks = rw (c.width.ensures, placed (g.A.Around.around c.args.here.now) c.a-item.result _ c.place-from.ensures) at (c.in_ok-given.ensures (g.A.Shapes.numbered c.args.here.now)) in
    rw parts (placed_on (g.A.Around.around c.args.here.now) (view c.a-item.result) (asks_by_one (g.A.Around.around c.args.here.now) c.args.f (view c.a-item.result)) (storing (g.A.Around.around c.args.here.now) (view c.a-item.result)) c.in_ok-placed.ensures (one_on (g.A.Around.around c.args.here.now) (view c.a-item.result) (asks_by_one (g.A.Around.around c.args.here.now) c.args.f (view c.a-item.result)) (storing (g.A.Around.around c.args.here.now) (view c.a-item.result)) c.in_ok-k.ensures asks (storing_goes (g.A.Around.around c.args.here.now) (view c.a-item.result) c.in_ok-given.given c.in_ok-store.ensures)))

pub operators::negated-returns-in_default : goal.operators::negated-returns-in_default
operators::negated-returns-in_default g t c = λ w.
    let differs : length c.args.parts.now ≡ 1 → ⊥ = λ same. elim c.in_default.branch [
      | goal.operators::negated-in_default-via-then-parts-lt1 w ↦ grind (arith, same, w)
      | goal.operators::negated-in_default-via-else-parts-lt1+else-parts-lt2 w ↦ grind (arith, same, w)
    ] in
    rw c.stop.ensures (other_than_one (g.A.Around.around c.args.here.now) c.args.at (judged_act (g.A.Around.around c.args.here.now) w does.LNot c.args.at) c.args.progress.now c.args.parts.now differs refl (λ t u us. refl))

pub operators::negated-value-requires : goal.operators::negated-value-requires
operators::negated-value-requires g t c =
    let less = lighter_item c.args.parts.now 0 c.a-item.result (omega (arith, c.in-len1.len_at_least)) c.a-item.is in
    λ κs within. (omega (arith, less), within)

pub operators::negated-returns-in_err-k : goal.operators::negated-returns-in_err-k
operators::negated-returns-in_err-k g t c = λ w.
    let p = err_from_is_err_and c.from_residual.result c.from_residual.ensures.1 in
    let parts = one_part c.args.parts.now c.a-item.result c.in-len1.len_at_least c.in-len1.len_below c.a-item.is in
    rw (parts, p.1, p.2) (one_stops (g.A.Around.around c.args.here.now) (view c.a-item.result) (asks_negated (g.A.Around.around c.args.here.now) (view c.a-item.result)) (giving (g.A.Around.around c.args.here.now)) c.in_err-k.ensures)

pub operators::negated-returns-in_err-given : goal.operators::negated-returns-in_err-given
operators::negated-returns-in_err-given g t c = λ w.
    let p = err_from_is_err_and c.from_residual-in_err-given.result c.from_residual-in_err-given.ensures.1 in
    let parts = one_part c.args.parts.now c.a-item.result c.in-len1.len_at_least c.in-len1.len_below c.a-item.is in
    let asks = rw (c.width.ensures, placed (g.A.Around.around c.args.here.now) c.a-item.result _ c.place.ensures) at (c.in_err-given.ensures (g.A.Shapes.numbered c.args.here.now)) in
    rw (parts, p.1, p.2) (one_refused (g.A.Around.around c.args.here.now) (view c.a-item.result) (asks_negated (g.A.Around.around c.args.here.now) (view c.a-item.result)) (giving (g.A.Around.around c.args.here.now)) c.in_ok-k.ensures asks)

pub operators::negated-returns : goal.operators::negated-returns
operators::negated-returns g t c = λ w.
    let parts = one_part c.args.parts.now c.a-item.result c.in-len1.len_at_least c.in-len1.len_below c.a-item.is in
    let asks = rw (c.width.ensures, placed (g.A.Around.around c.args.here.now) c.a-item.result _ c.place.ensures) at (c.in_ok-given.ensures (g.A.Shapes.numbered c.args.here.now)) in
    rw parts (one_on (g.A.Around.around c.args.here.now) (view c.a-item.result) (asks_negated (g.A.Around.around c.args.here.now) (view c.a-item.result)) (giving (g.A.Around.around c.args.here.now)) c.in_ok-k.ensures asks (gives (g.A.Around.around c.args.here.now) c.in_ok-given.given c.value.new.progress))

pub operators::converted-returns-in_default : goal.operators::converted-returns-in_default
operators::converted-returns-in_default g t c = λ w.
    let differs : length c.args.parts.now ≡ 2 → ⊥ = λ same. elim c.in_default.branch [
      | goal.operators::converted-in_default-via-then-parts-lt2 w ↦ grind (arith, same, w)
      | goal.operators::converted-in_default-via-else-parts-lt2+else-parts-lt3 w ↦ grind (arith, same, w)
    ] in
    rw c.stop.ensures (other_than_two (g.A.Around.around c.args.here.now) c.args.at (judged_act (g.A.Around.around c.args.here.now) w (does.Convert c.args.f) c.args.at) c.args.progress.now c.args.parts.now differs refl (λ t. refl) (λ t u v us. refl))

pub operators::converted-value-requires : goal.operators::converted-value-requires
operators::converted-value-requires g t c =
    let less = lighter_item c.args.parts.now 0 c.a-item.result (omega (arith, c.in-len2.len_at_least)) c.a-item.is in
    λ κs within. (omega (arith, less), within)

pub operators::converted-returns-in_err-k : goal.operators::converted-returns-in_err-k
operators::converted-returns-in_err-k g t c = λ w.
    let p = err_from_is_err_and c.from_residual.result c.from_residual.ensures.1 in
    let parts = two_parts c.args.parts.now c.a-item.result c.target-item.result c.in-len2.len_at_least c.in-len2.len_below c.a-item.is c.target-item.is in
    rw (parts, p.1, p.2) (one_stops (g.A.Around.around c.args.here.now) (view c.a-item.result) (asks_converted (g.A.Around.around c.args.here.now) c.args.f c.args.at (view c.a-item.result)) (storing (g.A.Around.around c.args.here.now) (view c.target-item.result)) c.in_err-k.ensures)

pub operators::converted-returns-in_err-given : goal.operators::converted-returns-in_err-given
operators::converted-returns-in_err-given g t c = λ w.
    let p = err_from_is_err_and c.from_residual-in_err-given.result c.from_residual-in_err-given.ensures.1 in
    let parts = two_parts c.args.parts.now c.a-item.result c.target-item.result c.in-len2.len_at_least c.in-len2.len_below c.a-item.is c.target-item.is in
    let asks = rw (c.width.ensures, c.place.ensures, placed (g.A.Around.around c.args.here.now) c.a-item.result _ c.place-2.ensures) at (c.in_err-given.ensures (g.A.Shapes.numbered c.args.here.now)) in
    rw (parts, p.1, p.2) (one_refused (g.A.Around.around c.args.here.now) (view c.a-item.result) (asks_converted (g.A.Around.around c.args.here.now) c.args.f c.args.at (view c.a-item.result)) (storing (g.A.Around.around c.args.here.now) (view c.target-item.result)) c.in_ok-k.ensures asks)

pub operators::converted-store-requires : goal.operators::converted-store-requires
operators::converted-store-requires g t c =
    let less = lighter_item c.args.parts.now 1 c.target-item.result (omega (arith, c.in-len2.len_at_least)) c.target-item.is in
    λ κs within. (omega (arith, less), within)

pub operators::converted-returns-in_err-store : goal.operators::converted-returns-in_err-store
operators::converted-returns-in_err-store g t c = λ w.
    let p = err_from_is_err_and c.from_residual-in_err-store.result c.from_residual-in_err-store.ensures.1 in
    let parts = two_parts c.args.parts.now c.a-item.result c.target-item.result c.in-len2.len_at_least c.in-len2.len_below c.a-item.is c.target-item.is in
    let asks = rw (c.width.ensures, c.place.ensures, placed (g.A.Around.around c.args.here.now) c.a-item.result _ c.place-2.ensures) at (c.in_ok-given.ensures (g.A.Shapes.numbered c.args.here.now)) in
    rw (parts, p.1, p.2) (one_on (g.A.Around.around c.args.here.now) (view c.a-item.result) (asks_converted (g.A.Around.around c.args.here.now) c.args.f c.args.at (view c.a-item.result)) (storing (g.A.Around.around c.args.here.now) (view c.target-item.result)) c.in_ok-k.ensures asks (storing_stops (g.A.Around.around c.args.here.now) (view c.target-item.result) c.in_ok-given.given c.in_err-store.ensures))

pub operators::converted-returns : goal.operators::converted-returns
operators::converted-returns g t c = λ w.
    let parts = two_parts c.args.parts.now c.a-item.result c.target-item.result c.in-len2.len_at_least c.in-len2.len_below c.a-item.is c.target-item.is in
    let asks = rw (c.width.ensures, c.place.ensures, placed (g.A.Around.around c.args.here.now) c.a-item.result _ c.place-2.ensures) at (c.in_ok-given.ensures (g.A.Shapes.numbered c.args.here.now)) in
    rw parts (one_on (g.A.Around.around c.args.here.now) (view c.a-item.result) (asks_converted (g.A.Around.around c.args.here.now) c.args.f c.args.at (view c.a-item.result)) (storing (g.A.Around.around c.args.here.now) (view c.target-item.result)) c.in_ok-k.ensures asks (storing_goes (g.A.Around.around c.args.here.now) (view c.target-item.result) c.in_ok-given.given c.in_ok-store.ensures))

pub stores::stored-returns-in_default : goal.stores::stored-returns-in_default
stores::stored-returns-in_default g t c = λ w.
    let differs : length c.args.parts.now ≡ 2 → ⊥ = λ same. elim c.in_default.branch [
      | goal.stores::stored-in_default-via-then-parts-lt2 w ↦ grind (arith, same, w)
      | goal.stores::stored-in_default-via-else-parts-lt2+else-parts-lt3 w ↦ grind (arith, same, w)
    ] in
    rw c.stop.ensures (other_than_two (g.A.Around.around c.args.here.now) c.args.at (judged_act (g.A.Around.around c.args.here.now) w does.Store c.args.at) c.args.progress.now c.args.parts.now differs refl (λ t. refl) (λ t u v us. refl))

pub stores::stored-value-requires : goal.stores::stored-value-requires
stores::stored-value-requires g t c =
    let less = lighter_item c.args.parts.now 0 c.a-item.result (omega (arith, c.in-len2.len_at_least)) c.a-item.is in
    λ κs within. (omega (arith, less), within)

pub stores::stored-store-requires : goal.stores::stored-store-requires
stores::stored-store-requires g t c =
    let less = lighter_item c.args.parts.now 1 c.target-item.result (omega (arith, c.in-len2.len_at_least)) c.target-item.is in
    λ κs within. (omega (arith, less), within)

pub stores::stored-returns-in_err-given : goal.stores::stored-returns-in_err-given
stores::stored-returns-in_err-given g t c = λ w.
    let p = err_from_is_err_and c.from_residual.result c.from_residual.ensures.1 in
    let parts = two_parts c.args.parts.now c.a-item.result c.target-item.result c.in-len2.len_at_least c.in-len2.len_below c.a-item.is c.target-item.is in
    rw (parts, p.1, p.2) (stop_value (g.A.Around.around c.args.here.now) (view c.a-item.result) (storing (g.A.Around.around c.args.here.now) (view c.target-item.result)) c.in_err-given.ensures)

pub stores::stored-returns-in_err-store : goal.stores::stored-returns-in_err-store
stores::stored-returns-in_err-store g t c = λ w.
    let p = err_from_is_err_and c.from_residual-in_err-store.result c.from_residual-in_err-store.ensures.1 in
    let parts = two_parts c.args.parts.now c.a-item.result c.target-item.result c.in-len2.len_at_least c.in-len2.len_below c.a-item.is c.target-item.is in
    rw (parts, p.1, p.2) (value_on (g.A.Around.around c.args.here.now) (view c.a-item.result) (storing (g.A.Around.around c.args.here.now) (view c.target-item.result)) c.in_ok-given.ensures (storing_stops (g.A.Around.around c.args.here.now) (view c.target-item.result) c.in_ok-given.given c.in_err-store.ensures))

pub stores::stored-returns : goal.stores::stored-returns
stores::stored-returns g t c = λ w.
    let parts = two_parts c.args.parts.now c.a-item.result c.target-item.result c.in-len2.len_at_least c.in-len2.len_below c.a-item.is c.target-item.is in
    rw parts (value_on (g.A.Around.around c.args.here.now) (view c.a-item.result) (storing (g.A.Around.around c.args.here.now) (view c.target-item.result)) c.in_ok-given.ensures (storing_goes (g.A.Around.around c.args.here.now) (view c.target-item.result) c.in_ok-given.given c.in_ok-store.ensures))

pub stores::store-store_byte-requires : goal.stores::store-store_byte-requires
stores::store-store_byte-requires g t c =
    let whole = parts_and_two c.args.target.now in
    let same = ap (λ (ts : List Term). weights (views ts)) c.deref.ensures.value in
    λ κs within. (omega (arith, whole, same, c.decreases), within)

pub stores::store-returns-in-Index : goal.stores::store-returns-in-Index
stores::store-returns-in-Index g t c =
    let is = store_is (g.A.Around.around c.args.here.now) c.args.target.now (kind_of (g.A.Shapes.numbered c.args.here.now) c.args.kind) in
    rw (is, ← c.action_of.ensures, c.in-Index.is, ← c.deref.ensures.value) c.store_byte.ensures

pub stores::store-returns-in_default : goal.stores::store-returns-in_default
stores::store-returns-in_default g t c =
    let is = store_is (g.A.Around.around c.args.here.now) c.args.target.now (kind_of (g.A.Shapes.numbered c.args.here.now) c.args.kind) in
    let put = stored_elsewhere (g.A.Around.around c.args.here.now) c.action_of.result (out-Term c.args.target.now).at (views (out-Term c.args.target.now).parts.items) (kind_of (g.A.Shapes.numbered c.args.here.now) c.args.kind) (λ h. c.in_default.not-Index h) in
    rw (is, ← c.action_of.ensures, put) c.put.ensures

pub stores::store_byte-bounds-parts-0 : goal.stores::store_byte-bounds-parts-0
stores::store_byte-bounds-parts-0 g t c = omega arith

pub stores::store_byte-bounds-parts-1 : goal.stores::store_byte-bounds-parts-1
stores::store_byte-bounds-parts-1 g t c = omega arith

pub stores::store_byte-bounds-parts-2 : goal.stores::store_byte-bounds-parts-2
stores::store_byte-bounds-parts-2 g t c = omega arith

pub stores::store_byte-returns-in_default : goal.stores::store_byte-returns-in_default
stores::store_byte-returns-in_default g t c =
    let differs : length c.args.parts.now ≡ 3 → ⊥ = λ same. elim c.in_default.branch [
      | stores::store_byte-in_default-via-then-parts-lt3 v ↦ grind (arith, same, v)
      | stores::store_byte-in_default-via-else-parts-lt3+else-parts-lt4 v ↦ grind (arith, same, v)
    ] in
    rw c.stop.ensures (not_written (g.A.Shapes.numbered c.args.here.now) (g.A.Around.around c.args.here.now) true c.args.at c.args.progress.now (kind_of (g.A.Shapes.numbered c.args.here.now) c.args.kind) c.args.parts.now differs)

pub stores::store_byte-value-requires : goal.stores::store_byte-value-requires
stores::store_byte-value-requires g t c =
    let less = lighter_item c.args.parts.now 1 c.index-item.result (omega (arith, c.in-len3.len_at_least)) c.index-item.is in
    λ κs within. (omega (arith, less, c.decreases), within)

pub stores::store_byte-returns-in_err-from : goal.stores::store_byte-returns-in_err-from
stores::store_byte-returns-in_err-from g t c =
    let p = err_from_is_err_and c.from_residual.result c.from_residual.ensures.1 in
    rw (p.1, p.2) (written_none (g.A.Shapes.numbered c.args.here.now) (g.A.Around.around c.args.here.now) c.args.at c.of-item.result c.index-item.result c.own-item.result c.args.parts.now (kind_of (g.A.Shapes.numbered c.args.here.now) c.args.kind) c.args.progress.now (three_parts c.args.parts.now c.of-item.result c.index-item.result c.own-item.result c.in-len3.len_at_least c.in-len3.len_below c.of-item.is c.index-item.is c.own-item.is) c.in_err-from.field-0.0 c.in_err-from.ensures)

pub stores::store_byte-returns-in_err-j : goal.stores::store_byte-returns-in_err-j
stores::store_byte-returns-in_err-j g t c =
    let p = err_from_is_err_and c.from_residual-in_err-j.result c.from_residual-in_err-j.ensures.1 in
    rw (p.1, p.2) (written_stops (g.A.Shapes.numbered c.args.here.now) (g.A.Around.around c.args.here.now) c.args.at c.of-item.result c.index-item.result c.own-item.result c.args.parts.now (kind_of (g.A.Shapes.numbered c.args.here.now) c.args.kind) c.args.progress.now (three_parts c.args.parts.now c.of-item.result c.index-item.result c.own-item.result c.in-len3.len_at_least c.in-len3.len_below c.of-item.is c.index-item.is c.own-item.is) c.in_ok-from.from c.in_ok-from.ensures c.in_err-j.field-0.0 c.in_err-j.ensures)

pub stores::store_byte-returns-in_err-byte_written_kind : goal.stores::store_byte-returns-in_err-byte_written_kind
stores::store_byte-returns-in_err-byte_written_kind g t c =
    let p = err_from_is_err_and c.from_residual-in_err-byte_written_kind.result c.from_residual-in_err-byte_written_kind.ensures.1 in
    rw (p.1, p.2) (not_in_place (g.A.Shapes.numbered c.args.here.now) (g.A.Around.around c.args.here.now) c.args.at c.of-item.result c.index-item.result c.own-item.result c.args.parts.now (kind_of (g.A.Shapes.numbered c.args.here.now) c.args.kind) c.args.progress.now (three_parts c.args.parts.now c.of-item.result c.index-item.result c.own-item.result c.in-len3.len_at_least c.in-len3.len_below c.of-item.is c.index-item.is c.own-item.is) c.in_ok-from.from c.in_ok-from.ensures c.in_ok-j.ensures c.in_err-byte_written_kind.field-0.0 (byte_written_same (Err c.in_err-byte_written_kind.field-0.0) (kind_of (g.A.Shapes.numbered c.args.here.now) c.in_ok-j.j) (kind_of (g.A.Shapes.numbered c.args.here.now) c.args.kind) (c.in_err-byte_written_kind.ensures (g.A.Shapes.numbered c.args.here.now)) c.place.ensures c.place-2.ensures (c.held_kind-old.ensures ∙ ap (held_kind (g.A.Around.around c.args.here.now)) c.link.ensures) c.place-3.ensures))

pub stores::store_byte-returns : goal.stores::store_byte-returns
stores::store_byte-returns g t c = written_judges (g.A.Shapes.numbered c.args.here.now) (g.A.Around.around c.args.here.now) c.args.at c.of-item.result c.index-item.result c.own-item.result c.args.parts.now (kind_of (g.A.Shapes.numbered c.args.here.now) c.args.kind) c.args.progress.now (three_parts c.args.parts.now c.of-item.result c.index-item.result c.own-item.result c.in-len3.len_at_least c.in-len3.len_below c.of-item.is c.index-item.is c.own-item.is) c.in_ok-from.from c.in_ok-from.ensures c.in_ok-j.ensures (byte_written_same (Ok tt) (kind_of (g.A.Shapes.numbered c.args.here.now) c.in_ok-j.j) (kind_of (g.A.Shapes.numbered c.args.here.now) c.args.kind) (c.in_ok-byte_written_kind.ensures (g.A.Shapes.numbered c.args.here.now)) c.place.ensures c.place-2.ensures (c.held_kind-old.ensures ∙ ap (held_kind (g.A.Around.around c.args.here.now)) c.link.ensures) c.place-3.ensures) c.step.ensures

pub stores::dereferenced-bounds-parts-0 : goal.stores::dereferenced-bounds-parts-0
stores::dereferenced-bounds-parts-0 g t c = omega arith

pub stores::dereferenced-returns-in_default : goal.stores::dereferenced-returns-in_default
stores::dereferenced-returns-in_default g t c = λ w.
    let differs : length c.args.parts.now ≡ 1 → ⊥ = λ same. elim c.in_default.branch [
      | stores::dereferenced-in_default-via-then-parts-lt1 v ↦ grind (arith, same, v)
      | stores::dereferenced-in_default-via-else-parts-lt1+else-parts-lt2 v ↦ grind (arith, same, v)
    ] in
    rw c.stop.ensures (not_dereferenced (g.A.Shapes.numbered c.args.here.now) (g.A.Around.around c.args.here.now) w c.args.at c.args.progress.now c.args.parts.now differs)

pub stores::dereferenced-led-requires : goal.stores::dereferenced-led-requires
stores::dereferenced-led-requires g t c =
    let less = lighter_item c.args.parts.now 0 c.of-item.result (omega (arith, c.in-len1.len_at_least)) c.of-item.is in
    let whole = parts_and_two c.of-item.result in
    let same = ap (λ (ts : List Term). weights (views ts)) c.deref.ensures.value in
    λ κs within. (omega (arith, less, whole, same, c.decreases), within)

pub stores::dereferenced-returns-in-Index : goal.stores::dereferenced-returns-in-Index
stores::dereferenced-returns-in-Index g t c = λ w.
    let is = dereferenced_is (g.A.Around.around c.args.here.now) w c.args.at c.of-item.result c.args.parts.now (one_part c.args.parts.now c.of-item.result c.in-len1.len_at_least c.in-len1.len_below c.of-item.is) in
    rw (is, ← c.action_of.ensures, c.in-Index.is, ← c.deref.ensures.value) c.led.ensures

pub stores::dereferenced-returns-in_default-action_of : goal.stores::dereferenced-returns-in_default-action_of
stores::dereferenced-returns-in_default-action_of g t c = λ w.
    let is = dereferenced_is (g.A.Around.around c.args.here.now) w c.args.at c.of-item.result c.args.parts.now (one_part c.args.parts.now c.of-item.result c.in-len1.len_at_least c.in-len1.len_below c.of-item.is) in
    let other = led_elsewhere (g.A.Around.around c.args.here.now) c.action_of.result c.args.at (out-Term c.of-item.result).at (views (out-Term c.of-item.result).parts.items) (λ h. c.in_default-action_of.not-Index h) in
    rw (c.stop-in_default-action_of.ensures, is, ← c.action_of.ensures, other) (gives_stops {see = yield_of (g.A.Shapes.numbered c.args.here.now)} c.args.progress.now (refusal (g.A.Around.around c.args.here.now) cause.OutsideProfile c.args.at) (λ env. refl))

pub stores::led-bounds-parts-0 : goal.stores::led-bounds-parts-0
stores::led-bounds-parts-0 g t c = omega arith

pub stores::led-bounds-parts-1 : goal.stores::led-bounds-parts-1
stores::led-bounds-parts-1 g t c = omega arith

pub stores::led-bounds-parts-2 : goal.stores::led-bounds-parts-2
stores::led-bounds-parts-2 g t c = omega arith

pub stores::led-returns-in_default : goal.stores::led-returns-in_default
stores::led-returns-in_default g t c =
    let differs : length c.args.parts.now ≡ 3 → ⊥ = λ same. elim c.in_default.branch [
      | stores::led-in_default-via-then-parts-lt3 v ↦ grind (arith, same, v)
      | stores::led-in_default-via-else-parts-lt3+else-parts-lt4 v ↦ grind (arith, same, v)
    ] in
    rw c.stop.ensures (not_led (g.A.Shapes.numbered c.args.here.now) (g.A.Around.around c.args.here.now) true c.args.at c.args.progress.now c.args.from c.args.parts.now differs)

pub stores::led-value-requires : goal.stores::led-value-requires
stores::led-value-requires g t c =
    let less = lighter_item c.args.parts.now 0 c.a-item.result (omega (arith, c.in-len3.len_at_least)) c.a-item.is in
    λ κs within. (omega (arith, less, c.decreases), within)

pub stores::led-value-requires-2 : goal.stores::led-value-requires-2
stores::led-value-requires-2 g t c =
    let less = lighter_item c.args.parts.now 1 c.index-item.result (omega (arith, c.in-len3.len_at_least)) c.index-item.is in
    λ κs within. (omega (arith, less, c.decreases), within)

pub stores::led-returns-in_err-untargeted : goal.stores::led-returns-in_err-untargeted
stores::led-returns-in_err-untargeted g t c =
    let p = err_from_is_err_and c.from_residual.result c.from_residual.ensures.1 in
    rw (p.1, p.2) (led_targeted (g.A.Shapes.numbered c.args.here.now) (g.A.Around.around c.args.here.now) c.args.at c.args.from c.a-item.result c.index-item.result c.own-item.result c.args.parts.now c.args.progress.now (three_parts c.args.parts.now c.a-item.result c.index-item.result c.own-item.result c.in-len3.len_at_least c.in-len3.len_below c.a-item.is c.index-item.is c.own-item.is) c.step.ensures c.in_err-untargeted.field-0.0 c.in_err-untargeted.ensures)

pub stores::led-returns-in_err-j : goal.stores::led-returns-in_err-j
stores::led-returns-in_err-j g t c =
    let p = err_from_is_err_and c.from_residual-in_err-j.result c.from_residual-in_err-j.ensures.1 in
    rw (p.1, p.2) (led_first_stops (g.A.Shapes.numbered c.args.here.now) (g.A.Around.around c.args.here.now) c.args.at c.args.from c.a-item.result c.index-item.result c.own-item.result c.args.parts.now c.args.progress.now (three_parts c.args.parts.now c.a-item.result c.index-item.result c.own-item.result c.in-len3.len_at_least c.in-len3.len_below c.a-item.is c.index-item.is c.own-item.is) c.step.ensures c.in_ok-untargeted.ensures c.in_err-j.field-0.0 c.in_err-j.ensures)

pub stores::led-returns-in_err-k : goal.stores::led-returns-in_err-k
stores::led-returns-in_err-k g t c =
    let p = err_from_is_err_and c.from_residual-in_err-k.result c.from_residual-in_err-k.ensures.1 in
    rw (p.1, p.2) (led_second_stops (g.A.Shapes.numbered c.args.here.now) (g.A.Around.around c.args.here.now) c.args.at c.args.from c.a-item.result c.index-item.result c.own-item.result c.args.parts.now c.args.progress.now (three_parts c.args.parts.now c.a-item.result c.index-item.result c.own-item.result c.in-len3.len_at_least c.in-len3.len_below c.a-item.is c.index-item.is c.own-item.is) c.step.ensures c.in_ok-untargeted.ensures c.in_ok-j.ensures c.in_err-k.field-0.0 c.in_err-k.ensures)

pub stores::led-returns-in_err-given : goal.stores::led-returns-in_err-given
stores::led-returns-in_err-given g t c =
    let p = err_from_is_err_and c.from_residual-in_err-given.result c.from_residual-in_err-given.ensures.1 in
    rw (p.1, p.2) (led_stops (g.A.Shapes.numbered c.args.here.now) (g.A.Around.around c.args.here.now) c.args.at c.args.from c.a-item.result c.index-item.result c.own-item.result c.args.parts.now c.args.progress.now (three_parts c.args.parts.now c.a-item.result c.index-item.result c.own-item.result c.in-len3.len_at_least c.in-len3.len_below c.a-item.is c.index-item.is c.own-item.is) c.step.ensures c.in_ok-untargeted.ensures c.in_ok-j.ensures c.in_ok-k.ensures c.in_err-given.field-0.0 (obeys_led (kind_of (g.A.Shapes.numbered c.args.here.now)) (Err c.in_err-given.field-0.0) (kind_of (g.A.Shapes.numbered c.args.here.now) c.in_ok-j.j) (kind_of (g.A.Shapes.numbered c.args.here.now) c.in_ok-k.k) c.in_err-given.ensures c.place-operator.ensures c.place.ensures c.place-2.ensures (c.number_of-number.ensures ∙ ap (λ (n : ℕ). loops.number_of n (view c.index-item.result)) c.width.ensures)))

pub stores::led-returns : goal.stores::led-returns
stores::led-returns g t c = led_judges (g.A.Shapes.numbered c.args.here.now) (g.A.Around.around c.args.here.now) c.args.at c.args.from c.a-item.result c.index-item.result c.own-item.result c.args.parts.now c.args.progress.now (three_parts c.args.parts.now c.a-item.result c.index-item.result c.own-item.result c.in-len3.len_at_least c.in-len3.len_below c.a-item.is c.index-item.is c.own-item.is) c.step.ensures c.in_ok-untargeted.ensures c.in_ok-j.ensures c.in_ok-k.ensures c.in_ok-given.given (obeys_led (kind_of (g.A.Shapes.numbered c.args.here.now)) (Ok c.in_ok-given.given) (kind_of (g.A.Shapes.numbered c.args.here.now) c.in_ok-j.j) (kind_of (g.A.Shapes.numbered c.args.here.now) c.in_ok-k.k) c.in_ok-given.ensures c.place-operator.ensures c.place.ensures c.place-2.ensures (c.number_of-number.ensures ∙ ap (λ (n : ℕ). loops.number_of n (view c.index-item.result)) c.width.ensures))

pub calls::invoked-returns-in_default : goal.calls::invoked-returns-in_default
calls::invoked-returns-in_default g t c = rw c.stop.ensures (not_invoking (g.A.Shapes.numbered c.args.here.now) (g.A.Around.around c.args.here.now) c.args.wanted c.args.at c.args.progress.now c.args.parts.now (omega (arith, c.in_default.len_below)))

pub calls::invoked-slice_bounds-arguments-count : goal.calls::invoked-slice_bounds-arguments-count
calls::invoked-slice_bounds-arguments-count g t c = omega arith

pub calls::invoked-bounds-parts-0 : goal.calls::invoked-bounds-parts-0
calls::invoked-bounds-parts-0 g t c = omega arith

pub calls::invoked-slice_bounds-arguments-start : goal.calls::invoked-slice_bounds-arguments-start
calls::invoked-slice_bounds-arguments-start g t c = omega arith

pub calls::invoked-slice_bounds-arguments-end : goal.calls::invoked-slice_bounds-arguments-end
calls::invoked-slice_bounds-arguments-end g t c = omega arith

pub calls::invoked-values-requires : goal.calls::invoked-values-requires
calls::invoked-values-requires g t c =
    let less = lighter_behind c.args.parts.now 1 in
    let same = ap (λ (ts : List Term). weights (views ts)) (take_rest c.args.parts.now 1) in
    λ κs within. (omega (arith, less, same, c.decreases), within)

pub calls::invoked-values-requires-in-OsInterfaces : goal.calls::invoked-values-requires-in-OsInterfaces
calls::invoked-values-requires-in-OsInterfaces g t c =
    let less = lighter_behind c.args.parts.now 1 in
    let same = ap (λ (ts : List Term). weights (views ts)) (take_rest c.args.parts.now 1) in
    λ κs within. (omega (arith, less, same, c.decreases), within)

pub calls::invoked-returns-in_err-not_reaching-in-Method : goal.calls::invoked-returns-in_err-not_reaching-in-Method
calls::invoked-returns-in_err-not_reaching-in-Method g t c =
    let p = err_from_is_err_and c.from_residual.result c.from_residual.ensures.1 in
    rw (p.1, p.2) (call_reaches (g.A.Shapes.numbered c.args.here.now) (g.A.Around.around c.args.here.now) c.args.wanted c.args.at c.called_name-item.result _ c.args.parts.now c.link.result c.args.progress.now (some_parts c.args.parts.now c.called_name-item.result c.in-len1-up.len_at_least c.called_name-item.is) c.link.ensures c.in-Method.id (seen_of (g.A.Shapes.numbered c.args.here.now) c.callee-method.result) c.in-Method.is c.callee-method.ensures c.in_err-not_reaching-in-Method.field-0.0 c.in_err-not_reaching-in-Method.ensures)

pub calls::invoked-returns-in_err-kinds-in-Method : goal.calls::invoked-returns-in_err-kinds-in-Method
calls::invoked-returns-in_err-kinds-in-Method g t c =
    let p = err_from_is_err_and c.from_residual-in_err-kinds-in-Method.result c.from_residual-in_err-kinds-in-Method.ensures.1 in
    rw (p.1, p.2) (call_stops (g.A.Shapes.numbered c.args.here.now) (g.A.Around.around c.args.here.now) c.args.wanted c.args.at c.called_name-item.result _ c.args.parts.now c.link.result c.args.progress.now (some_parts c.args.parts.now c.called_name-item.result c.in-len1-up.len_at_least c.called_name-item.is) c.link.ensures c.in-Method.id (seen_of (g.A.Shapes.numbered c.args.here.now) c.callee-method.result) c.in-Method.is c.callee-method.ensures c.in_ok-not_reaching-in-Method.ensures (λ (ks : Vec Known Global). kinds_of (g.A.Shapes.numbered c.args.here.now) ks.items) c.in_err-kinds-in-Method.field-0.0 c.in_err-kinds-in-Method.ensures)

pub calls::invoked-returns-in_ok-kinds-in-Method : goal.calls::invoked-returns-in_ok-kinds-in-Method
calls::invoked-returns-in_ok-kinds-in-Method g t c =
    let call = rw c.deref.ensures.value at c.called.ensures in
    call_goes (g.A.Shapes.numbered c.args.here.now) (g.A.Around.around c.args.here.now) c.args.wanted c.args.at c.called_name-item.result _ c.args.parts.now c.link.result c.args.progress.now (some_parts c.args.parts.now c.called_name-item.result c.in-len1-up.len_at_least c.called_name-item.is) c.link.ensures c.in-Method.id (seen_of (g.A.Shapes.numbered c.args.here.now) c.callee-method.result) c.in-Method.is c.callee-method.ensures c.in_ok-not_reaching-in-Method.ensures (λ (ks : Vec Known Global). kinds_of (g.A.Shapes.numbered c.args.here.now) ks.items) c.called.result c.in_ok-kinds-in-Method.ensures call

pub calls::invoked-returns-in_err-kinds-in-OsInterfaces : goal.calls::invoked-returns-in_err-kinds-in-OsInterfaces
calls::invoked-returns-in_err-kinds-in-OsInterfaces g t c =
    let p = err_from_is_err_and c.from_residual-in_err-kinds-in-OsInterfaces.result c.from_residual-in_err-kinds-in-OsInterfaces.ensures.1 in
    rw (p.1, p.2) (asked_stops (g.A.Shapes.numbered c.args.here.now) (g.A.Around.around c.args.here.now) c.args.wanted c.args.at c.called_name-item.result _ c.args.parts.now c.link.result c.args.progress.now (some_parts c.args.parts.now c.called_name-item.result c.in-len1-up.len_at_least c.called_name-item.is) c.link.ensures c.in-OsInterfaces.is (λ (ks : Vec Known Global). kinds_of (g.A.Shapes.numbered c.args.here.now) ks.items) c.in_err-kinds-in-OsInterfaces.field-0.0 c.in_err-kinds-in-OsInterfaces.ensures)

pub calls::invoked-returns-in_err-given-in-OsInterfaces : goal.calls::invoked-returns-in_err-given-in-OsInterfaces
calls::invoked-returns-in_err-given-in-OsInterfaces g t c =
    let p = err_from_is_err_and c.from_residual-in_err-given-in-OsInterfaces.result c.from_residual-in_err-given-in-OsInterfaces.ensures.1 in
    let asks = rw c.deref-in-OsInterfaces.ensures.value at c.in_err-given-in-OsInterfaces.ensures in
    rw (p.1, p.2) (asked_none (g.A.Shapes.numbered c.args.here.now) (g.A.Around.around c.args.here.now) c.args.wanted c.args.at c.called_name-item.result _ c.args.parts.now c.link.result c.args.progress.now (some_parts c.args.parts.now c.called_name-item.result c.in-len1-up.len_at_least c.called_name-item.is) c.link.ensures c.in-OsInterfaces.is (λ (ks : Vec Known Global). kinds_of (g.A.Shapes.numbered c.args.here.now) ks.items) c.in_ok-kinds-in-OsInterfaces.ensures c.in_err-given-in-OsInterfaces.field-0.0 asks)

pub calls::invoked-returns-in_ok-given-in-OsInterfaces : goal.calls::invoked-returns-in_ok-given-in-OsInterfaces
calls::invoked-returns-in_ok-given-in-OsInterfaces g t c =
    let asks = rw c.deref-in-OsInterfaces.ensures.value at c.in_ok-given-in-OsInterfaces.ensures in
    asked_judges (g.A.Shapes.numbered c.args.here.now) (g.A.Around.around c.args.here.now) c.args.wanted c.args.at c.called_name-item.result _ c.args.parts.now c.link.result c.args.progress.now (some_parts c.args.parts.now c.called_name-item.result c.in-len1-up.len_at_least c.called_name-item.is) c.link.ensures c.in-OsInterfaces.is (λ (ks : Vec Known Global). kinds_of (g.A.Shapes.numbered c.args.here.now) ks.items) c.in_ok-kinds-in-OsInterfaces.ensures c.read.result c.in_ok-given-in-OsInterfaces.given c.read.ensures.given asks c.read.ensures.paid

pub calls::invoked-returns-in-Object : goal.calls::invoked-returns-in-Object
calls::invoked-returns-in-Object g t c = rw c.stop_for.ensures (invoked_object (g.A.Shapes.numbered c.args.here.now) (g.A.Around.around c.args.here.now) c.args.wanted c.args.at c.called_name-item.result _ c.args.parts.now c.link.result c.args.progress.now (some_parts c.args.parts.now c.called_name-item.result c.in-len1-up.len_at_least c.called_name-item.is) c.link.ensures c.in-Object.id c.in-Object.is)

pub calls::invoked-returns-in_err-given-in_default-link : goal.calls::invoked-returns-in_err-given-in_default-link
calls::invoked-returns-in_err-given-in_default-link g t c =
    let p = err_from_is_err_and c.from_residual-in_err-given-in_default-link.result c.from_residual-in_err-given-in_default-link.ensures.1 in
    rw (p.1, p.2) (named_none (g.A.Shapes.numbered c.args.here.now) (g.A.Around.around c.args.here.now) c.args.wanted c.args.at c.called_name-item.result _ c.args.parts.now c.link.result c.args.progress.now (some_parts c.args.parts.now c.called_name-item.result c.in-len1-up.len_at_least c.called_name-item.is) c.link.ensures (λ id h. c.in_default-link.not-Method id h) (λ h. c.in_default-link.not-OsInterfaces h) (λ id h. c.in_default-link.not-Object id h) c.in_err-given-in_default-link.field-0.0 c.in_err-given-in_default-link.ensures)

pub calls::invoked-returns-in_ok-given-in_default-link : goal.calls::invoked-returns-in_ok-given-in_default-link
calls::invoked-returns-in_ok-given-in_default-link g t c = named_judges (g.A.Shapes.numbered c.args.here.now) (g.A.Around.around c.args.here.now) c.args.wanted c.args.at c.called_name-item.result _ c.args.parts.now c.link.result c.args.progress.now (some_parts c.args.parts.now c.called_name-item.result c.in-len1-up.len_at_least c.called_name-item.is) c.link.ensures (λ id h. c.in_default-link.not-Method id h) (λ h. c.in_default-link.not-OsInterfaces h) (λ id h. c.in_default-link.not-Object id h) c.read-in_default-link.result c.in_ok-given-in_default-link.given c.read-in_default-link.ensures.given c.in_ok-given-in_default-link.ensures c.read-in_default-link.ensures.paid

pub calls::values-offset_bounds-terms-term-index : goal.calls::values-offset_bounds-terms-term-index
calls::values-offset_bounds-terms-term-index g t c = omega arith

pub calls::values-loop-term-smaller : goal.calls::values-loop-term-smaller
calls::values-loop-term-smaller g t c = omega arith

pub calls::values-loop-term-init : goal.calls::values-loop-term-init
calls::values-loop-term-init g t c = values_begin (g.A.Shapes.numbered c.args.here.now) (g.A.Around.around c.args.here.now) c.args.terms.now _ c.args.progress.now c.new-kinds.ensures.items

pub calls::values-loop-term-preserved : goal.calls::values-loop-term-preserved
calls::values-loop-term-preserved g t c = value_more (g.A.Shapes.numbered c.args.here.now) (g.A.Around.around c.args.here.now) c.args.terms.now c.loop-term.term-index c.term-item.result c.loop-term.kinds.items c.loop-term-test.true c.term-item.is c.loop-term.invariant c.in_ok-kind.ensures c.push.new.kinds.items c.in_ok-push.ensures

pub calls::values-value-requires : goal.calls::values-value-requires
calls::values-value-requires g t c =
    let less = lighter_item c.args.terms.now c.loop-term.term-index c.term-item.result c.loop-term-test.true c.term-item.is in
    λ κs within. (omega (arith, less, c.decreases), within)

pub calls::values-returns-in_err-kind : goal.calls::values-returns-in_err-kind
calls::values-returns-in_err-kind g t c =
    let p = err_from_is_err_and c.from_residual.result c.from_residual.ensures.1 in
    rw (p.1, p.2) (value_stops (g.A.Shapes.numbered c.args.here.now) (g.A.Around.around c.args.here.now) c.args.terms.now c.loop-term.term-index c.term-item.result c.loop-term.kinds.items c.loop-term-test.true c.term-item.is c.loop-term.invariant (λ (ks : Vec Known Global). kinds_of (g.A.Shapes.numbered c.args.here.now) ks.items) c.in_err-kind.field-0.0 c.in_err-kind.ensures)

pub calls::values-returns-in_err-push : goal.calls::values-returns-in_err-push
calls::values-returns-in_err-push g t c =
    let p = err_from_is_err_and c.from_residual-in_err-push.result c.from_residual-in_err-push.ensures.1 in
    rw (p.1, p.2) (value_unkept (g.A.Shapes.numbered c.args.here.now) (g.A.Around.around c.args.here.now) c.args.terms.now c.loop-term.term-index c.term-item.result c.loop-term.kinds.items c.loop-term-test.true c.term-item.is c.loop-term.invariant c.in_ok-kind.ensures (λ (ks : Vec Known Global). kinds_of (g.A.Shapes.numbered c.args.here.now) ks.items))

pub calls::values-returns : goal.calls::values-returns
calls::values-returns g t c = values_end (g.A.Shapes.numbered c.args.here.now) (g.A.Around.around c.args.here.now) (λ (ks : Vec Known Global). kinds_of (g.A.Shapes.numbered c.args.here.now) ks.items) _ c.loop-term.kinds.items c.loop-term.kinds (drop_all c.loop-term.term-index c.args.terms.now (omega (arith, c.loop-term-test.false))) refl c.loop-term.invariant

pub calls::notifies-bounds-parts-0 : goal.calls::notifies-bounds-parts-0
calls::notifies-bounds-parts-0 g t c = omega arith

pub calls::notifies-bounds-parts-1 : goal.calls::notifies-bounds-parts-1
calls::notifies-bounds-parts-1 g t c = omega arith

pub calls::notifies-returns-in_default : goal.calls::notifies-returns-in_default
calls::notifies-returns-in_default g t c = λ w.
    let differs : length c.args.parts.now ≡ 2 → ⊥ = λ same. elim c.in_default.branch [
      | calls::notifies-in_default-via-then-parts-lt2 v ↦ grind (arith, same, v)
      | calls::notifies-in_default-via-else-parts-lt2+else-parts-lt3 v ↦ grind (arith, same, v)
    ] in
    rw c.stop.ensures (not_notifying (g.A.Shapes.numbered c.args.here.now) (g.A.Around.around c.args.here.now) w c.args.at c.args.progress.now c.args.parts.now differs)

pub calls::notifies-value-requires : goal.calls::notifies-value-requires
calls::notifies-value-requires g t c =
    let less = lighter_item c.args.parts.now 1 c.number-item.result (omega (arith, c.in-len2.len_at_least)) c.number-item.is in
    λ κs within. (omega (arith, less, c.decreases), within)

pub calls::notifies-returns-in_err-may : goal.calls::notifies-returns-in_err-may
calls::notifies-returns-in_err-may g t c = λ w.
    let p = err_from_is_err_and c.from_residual.result c.from_residual.ensures.1 in
    rw (p.1, p.2) (notice_none (g.A.Shapes.numbered c.args.here.now) (g.A.Around.around c.args.here.now) w c.args.at c.object-item.result c.number-item.result c.args.parts.now c.args.progress.now (two_parts c.args.parts.now c.object-item.result c.number-item.result c.in-len2.len_at_least c.in-len2.len_below c.object-item.is c.number-item.is) c.in_err-may.field-0.0 c.in_err-may.ensures)

pub calls::notifies-returns-in_err-kind : goal.calls::notifies-returns-in_err-kind
calls::notifies-returns-in_err-kind g t c = λ w.
    let p = err_from_is_err_and c.from_residual-in_err-kind.result c.from_residual-in_err-kind.ensures.1 in
    rw (p.1, p.2) (notice_stops (g.A.Shapes.numbered c.args.here.now) (g.A.Around.around c.args.here.now) w c.args.at c.object-item.result c.number-item.result c.args.parts.now c.args.progress.now (two_parts c.args.parts.now c.object-item.result c.number-item.result c.in-len2.len_at_least c.in-len2.len_below c.object-item.is c.number-item.is) c.in_ok-may.may c.in_ok-may.ensures c.in_err-kind.field-0.0 c.in_err-kind.ensures)

pub calls::notifies-returns-in_err-notice_kind : goal.calls::notifies-returns-in_err-notice_kind
calls::notifies-returns-in_err-notice_kind g t c = λ w.
    let p = err_from_is_err_and c.from_residual-in_err-notice_kind.result c.from_residual-in_err-notice_kind.ensures.1 in
    rw (p.1, p.2) (no_notice (g.A.Shapes.numbered c.args.here.now) (g.A.Around.around c.args.here.now) w c.args.at c.object-item.result c.number-item.result c.args.parts.now c.args.progress.now (two_parts c.args.parts.now c.object-item.result c.number-item.result c.in-len2.len_at_least c.in-len2.len_below c.object-item.is c.number-item.is) c.in_ok-may.may c.in_ok-may.ensures c.in_ok-kind.ensures c.in_err-notice_kind.field-0.0 (c.in_err-notice_kind.ensures ∙ ap (λ (p : Place). notice_kind p c.in_ok-may.may) c.place.ensures))

pub calls::notifies-returns-in_err-integer_kind : goal.calls::notifies-returns-in_err-integer_kind
calls::notifies-returns-in_err-integer_kind g t c = λ w.
    let p = err_from_is_err_and c.from_residual-in_err-integer_kind.result c.from_residual-in_err-integer_kind.ensures.1 in
    rw (p.1, p.2) (not_integer (g.A.Shapes.numbered c.args.here.now) (g.A.Around.around c.args.here.now) (out-Term c.number-item.result).at (kind_of (g.A.Shapes.numbered c.args.here.now) c.in_ok-kind.kind) (noticed_leads (g.A.Shapes.numbered c.args.here.now) (g.A.Around.around c.args.here.now) w c.args.at c.object-item.result c.number-item.result c.args.parts.now c.args.progress.now (two_parts c.args.parts.now c.object-item.result c.number-item.result c.in-len2.len_at_least c.in-len2.len_below c.object-item.is c.number-item.is) c.in_ok-may.may c.in_ok-may.ensures c.in_ok-kind.ensures (c.in_ok-notice_kind.ensures ∙ ap (λ (p : Place). notice_kind p c.in_ok-may.may) c.place.ensures)) c.in_err-integer_kind.field-0.0 (c.in_err-integer_kind.ensures (g.A.Shapes.numbered c.args.here.now) ∙ ap (λ (p : Place). integer_kind p (kind_of (g.A.Shapes.numbered c.args.here.now) c.in_ok-kind.kind)) c.place-2.ensures))

pub calls::notifies-returns : goal.calls::notifies-returns
calls::notifies-returns g t c = λ w. paid_off (g.A.Shapes.numbered c.args.here.now) (g.A.Around.around c.args.here.now) (out-Term c.number-item.result).at (kind_of (g.A.Shapes.numbered c.args.here.now) c.in_ok-kind.kind) (noticed_leads (g.A.Shapes.numbered c.args.here.now) (g.A.Around.around c.args.here.now) w c.args.at c.object-item.result c.number-item.result c.args.parts.now c.args.progress.now (two_parts c.args.parts.now c.object-item.result c.number-item.result c.in-len2.len_at_least c.in-len2.len_below c.object-item.is c.number-item.is) c.in_ok-may.may c.in_ok-may.ensures c.in_ok-kind.ensures (c.in_ok-notice_kind.ensures ∙ ap (λ (p : Place). notice_kind p c.in_ok-may.may) c.place.ensures)) c.in_ok-integer_kind.field-0 (c.in_ok-integer_kind.ensures (g.A.Shapes.numbered c.args.here.now) ∙ ap (λ (p : Place). integer_kind p (kind_of (g.A.Shapes.numbered c.args.here.now) c.in_ok-kind.kind)) c.place-2.ensures) c.step.ensures

pub calls::pauses-bounds-parts-0 : goal.calls::pauses-bounds-parts-0
calls::pauses-bounds-parts-0 g t c = omega arith

pub calls::pauses-returns-in_default : goal.calls::pauses-returns-in_default
calls::pauses-returns-in_default g t c = λ w.
    let differs : length c.args.parts.now ≡ 1 → ⊥ = λ same. elim c.in_default.branch [
      | calls::pauses-in_default-via-then-parts-lt1 v ↦ grind (arith, same, v)
      | calls::pauses-in_default-via-else-parts-lt1+else-parts-lt2 v ↦ grind (arith, same, v)
    ] in
    rw c.stop.ensures (not_paused (g.A.Shapes.numbered c.args.here.now) (g.A.Around.around c.args.here.now) w c.args.at c.args.progress.now c.args.f c.args.parts.now differs)

pub calls::pauses-value-requires : goal.calls::pauses-value-requires
calls::pauses-value-requires g t c =
    let less = lighter_item c.args.parts.now 0 c.number-item.result (omega (arith, c.in-len1.len_at_least)) c.number-item.is in
    λ κs within. (omega (arith, less, c.decreases), within)

pub calls::pauses-returns-in_err-kind : goal.calls::pauses-returns-in_err-kind
calls::pauses-returns-in_err-kind g t c = λ w.
    let p = err_from_is_err_and c.from_residual.result c.from_residual.ensures.1 in
    rw (p.1, p.2) (pause_stops (g.A.Shapes.numbered c.args.here.now) (g.A.Around.around c.args.here.now) w c.args.at c.args.f c.number-item.result c.args.parts.now c.args.progress.now (one_part c.args.parts.now c.number-item.result c.in-len1.len_at_least c.in-len1.len_below c.number-item.is) c.in_err-kind.field-0.0 c.in_err-kind.ensures)

pub calls::pauses-returns-in_err-integer_kind : goal.calls::pauses-returns-in_err-integer_kind
calls::pauses-returns-in_err-integer_kind g t c = λ w.
    let p = err_from_is_err_and c.from_residual-in_err-integer_kind.result c.from_residual-in_err-integer_kind.ensures.1 in
    rw (p.1, p.2) (not_integer (g.A.Shapes.numbered c.args.here.now) (g.A.Around.around c.args.here.now) (out-Term c.number-item.result).at (kind_of (g.A.Shapes.numbered c.args.here.now) c.in_ok-kind.kind) (pause_leads (g.A.Shapes.numbered c.args.here.now) (g.A.Around.around c.args.here.now) w c.args.at c.args.f c.number-item.result c.args.parts.now c.args.progress.now (one_part c.args.parts.now c.number-item.result c.in-len1.len_at_least c.in-len1.len_below c.number-item.is) c.in_ok-kind.ensures) c.in_err-integer_kind.field-0.0 (c.in_err-integer_kind.ensures (g.A.Shapes.numbered c.args.here.now) ∙ ap (λ (p : Place). integer_kind p (kind_of (g.A.Shapes.numbered c.args.here.now) c.in_ok-kind.kind)) c.place.ensures))

pub calls::pauses-returns : goal.calls::pauses-returns
calls::pauses-returns g t c = λ w. paid_off (g.A.Shapes.numbered c.args.here.now) (g.A.Around.around c.args.here.now) (out-Term c.number-item.result).at (kind_of (g.A.Shapes.numbered c.args.here.now) c.in_ok-kind.kind) (pause_leads (g.A.Shapes.numbered c.args.here.now) (g.A.Around.around c.args.here.now) w c.args.at c.args.f c.number-item.result c.args.parts.now c.args.progress.now (one_part c.args.parts.now c.number-item.result c.in-len1.len_at_least c.in-len1.len_below c.number-item.is) c.in_ok-kind.ensures) c.in_ok-integer_kind.field-0 (c.in_ok-integer_kind.ensures (g.A.Shapes.numbered c.args.here.now) ∙ ap (λ (p : Place). integer_kind p (kind_of (g.A.Shapes.numbered c.args.here.now) c.in_ok-kind.kind)) c.place.ensures) c.step.ensures

pub calls::returned-bounds-parts-0 : goal.calls::returned-bounds-parts-0
calls::returned-bounds-parts-0 g t c = omega arith

pub calls::returned-returns-in_default : goal.calls::returned-returns-in_default
calls::returned-returns-in_default g t c = λ w.
    let differs : length c.args.parts.now ≡ 1 → ⊥ = λ same. elim c.in_default.branch [
      | calls::returned-in_default-via-then-parts-lt1 v ↦ grind (arith, same, v)
      | calls::returned-in_default-via-else-parts-lt1+else-parts-lt2 v ↦ grind (arith, same, v)
    ] in
    rw c.stop.ensures (not_returned (g.A.Shapes.numbered c.args.here.now) (g.A.Around.around c.args.here.now) w c.args.at c.args.progress.now c.args.parts.now differs)

pub calls::returned-value-requires : goal.calls::returned-value-requires
calls::returned-value-requires g t c =
    let less = lighter_item c.args.parts.now 0 c.given-item.result (omega (arith, c.in-len1.len_at_least)) c.given-item.is in
    λ κs within. (omega (arith, less, c.decreases), within)

pub calls::returned-returns-in_err-kind : goal.calls::returned-returns-in_err-kind
calls::returned-returns-in_err-kind g t c = λ w.
    let p = err_from_is_err_and c.from_residual.result c.from_residual.ensures.1 in
    rw (p.1, p.2) (given_stops (g.A.Shapes.numbered c.args.here.now) (g.A.Around.around c.args.here.now) w c.args.at c.given-item.result c.args.parts.now c.args.progress.now (one_part c.args.parts.now c.given-item.result c.in-len1.len_at_least c.in-len1.len_below c.given-item.is) c.in_err-kind.field-0.0 c.in_err-kind.ensures)

pub calls::returned-returns-in_err-none_held : goal.calls::returned-returns-in_err-none_held
calls::returned-returns-in_err-none_held g t c = λ w.
    let p = err_from_is_err_and c.from_residual-in_err-none_held.result c.from_residual-in_err-none_held.ensures.1 in
    rw (p.1, p.2) (still_held (g.A.Shapes.numbered c.args.here.now) (g.A.Around.around c.args.here.now) w c.args.at c.given-item.result c.args.parts.now c.args.progress.now (one_part c.args.parts.now c.given-item.result c.in-len1.len_at_least c.in-len1.len_below c.given-item.is) c.in_ok-kind.ensures c.in_err-none_held.field-0.0 c.in_err-none_held.ensures)

pub calls::returned-returns : goal.calls::returned-returns
calls::returned-returns g t c = λ w. given_back (g.A.Shapes.numbered c.args.here.now) (g.A.Around.around c.args.here.now) w c.args.at c.given-item.result c.args.parts.now c.args.progress.now (one_part c.args.parts.now c.given-item.result c.in-len1.len_at_least c.in-len1.len_below c.given-item.is) c.in_ok-kind.ensures c.in_ok-none_held.ensures c.returns.ensures

pub blocks::all-offset_bounds-statements-term-index : goal.blocks::all-offset_bounds-statements-term-index
blocks::all-offset_bounds-statements-term-index g t c = omega arith

pub blocks::all-loop-term-smaller : goal.blocks::all-loop-term-smaller
blocks::all-loop-term-smaller g t c = omega arith

pub blocks::block-offset_bounds-statements-term-index : goal.blocks::block-offset_bounds-statements-term-index
blocks::block-offset_bounds-statements-term-index g t c = omega arith

pub blocks::block-loop-term-smaller : goal.blocks::block-loop-term-smaller
blocks::block-loop-term-smaller g t c = omega arith

pub blocks::otherwise-offset_bounds-statements-term-index : goal.blocks::otherwise-offset_bounds-statements-term-index
blocks::otherwise-offset_bounds-statements-term-index g t c = omega arith

pub blocks::otherwise-loop-term-smaller : goal.blocks::otherwise-loop-term-smaller
blocks::otherwise-loop-term-smaller g t c = omega arith

pub blocks::all-statement-requires : goal.blocks::all-statement-requires
blocks::all-statement-requires g t c =
    let less = lighter_item c.args.statements.now c.loop-term.term-index c.term-item.result c.loop-term-test.true c.term-item.is in
    λ κs within. (omega (arith, less, c.decreases), within)

pub blocks::all-loop-term-init : goal.blocks::all-loop-term-init
blocks::all-loop-term-init g t c = leads_begin c.args.progress.now

pub blocks::block-statement-requires : goal.blocks::block-statement-requires
blocks::block-statement-requires g t c =
    let less = lighter_item c.args.statements.now c.loop-term.term-index c.term-item.result c.loop-term-test.true c.term-item.is in
    λ κs within. (omega (arith, less, c.decreases), within)

pub blocks::block-loop-term-init : goal.blocks::block-loop-term-init
blocks::block-loop-term-init g t c = leads_begin c.args.progress.now

pub blocks::all-loop-term-preserved : goal.blocks::all-loop-term-preserved
blocks::all-loop-term-preserved g t c = all_more (g.A.Shapes.numbered c.args.here.now) (g.A.Around.around c.args.here.now) c.args.statements.now c.args.progress.now c.loop-term.progress c.loop-term.term-index c.term-item.result c.loop-term-test.true c.term-item.is c.loop-term.invariant c.in_ok-statement.ensures

pub blocks::all-returns-in_err-statement : goal.blocks::all-returns-in_err-statement
blocks::all-returns-in_err-statement g t c =
    let p = err_from_is_err_and c.from_residual.result c.from_residual.ensures.1 in
    rw (p.1, p.2) (all_stops (g.A.Shapes.numbered c.args.here.now) (g.A.Around.around c.args.here.now) c.args.statements.now c.args.progress.now c.loop-term.progress c.loop-term.term-index c.term-item.result c.loop-term-test.true c.term-item.is c.in_err-statement.field-0.0 c.loop-term.invariant c.in_err-statement.ensures)

pub blocks::all-returns : goal.blocks::all-returns
blocks::all-returns g t c = all_done (g.A.Shapes.numbered c.args.here.now) (g.A.Around.around c.args.here.now) c.args.statements.now c.args.progress.now c.loop-term.progress c.loop-term.term-index c.loop-term-test.false c.loop-term.invariant

pub blocks::block-returns-then-is_else : goal.blocks::block-returns-then-is_else
blocks::block-returns-then-is_else g t c = block_ends (g.A.Shapes.numbered c.args.here.now) (g.A.Around.around c.args.here.now) c.args.statements.now c.args.progress.now c.loop-term.progress c.loop-term.term-index c.term-item.result c.loop-term-test.true c.term-item.is (sym c.is_else.ensures ∙ c.if-is_else.true) c.loop-term.invariant

pub blocks::block-loop-term-preserved : goal.blocks::block-loop-term-preserved
blocks::block-loop-term-preserved g t c = block_next (g.A.Shapes.numbered c.args.here.now) (g.A.Around.around c.args.here.now) c.args.statements.now c.args.progress.now c.loop-term.progress c.loop-term.term-index c.term-item.result c.loop-term-test.true c.term-item.is (sym c.is_else.ensures ∙ c.if-is_else.false) c.loop-term.invariant c.in_ok-statement.ensures

pub blocks::block-returns-in_err-statement : goal.blocks::block-returns-in_err-statement
blocks::block-returns-in_err-statement g t c =
    let p = err_from_is_err_and c.from_residual.result c.from_residual.ensures.1 in
    rw (p.1, p.2) (block_halts (g.A.Shapes.numbered c.args.here.now) (g.A.Around.around c.args.here.now) c.args.statements.now c.args.progress.now c.loop-term.progress c.loop-term.term-index c.term-item.result c.loop-term-test.true c.term-item.is c.in_err-statement.field-0.0 (sym c.is_else.ensures ∙ c.if-is_else.false) c.loop-term.invariant c.in_err-statement.ensures)

pub blocks::block-returns : goal.blocks::block-returns
blocks::block-returns g t c = block_done (g.A.Shapes.numbered c.args.here.now) (g.A.Around.around c.args.here.now) c.args.statements.now c.args.progress.now c.loop-term.progress c.loop-term.term-index c.loop-term-test.false c.loop-term.invariant

pub blocks::otherwise-all-requires : goal.blocks::otherwise-all-requires
blocks::otherwise-all-requires g t c =
    let less = lighter_parts c.args.statements.now c.deref.result.now c.loop-term.term-index c.term-item.result c.loop-term-test.true c.term-item.is c.deref.ensures.value in
    λ κs within. (omega (arith, less, c.decreases), within)

pub blocks::otherwise-loop-term-init : goal.blocks::otherwise-loop-term-init
blocks::otherwise-loop-term-init g t c = (refl, refl)

pub blocks::otherwise-loop-term-preserved : goal.blocks::otherwise-loop-term-preserved
blocks::otherwise-loop-term-preserved g t c = (otherwise_next (g.A.Shapes.numbered c.args.here.now) (g.A.Around.around c.args.here.now) c.args.statements.now c.args.progress.now c.loop-term.progress c.loop-term.term-index c.term-item.result c.loop-term-test.true c.term-item.is (sym c.is_else.ensures ∙ c.if-is_else.false) c.loop-term.invariant.0, c.loop-term.invariant.1)

pub blocks::otherwise-returns-then-is_else : goal.blocks::otherwise-returns-then-is_else
blocks::otherwise-returns-then-is_else g t c = otherwise_here (g.A.Shapes.numbered c.args.here.now) (g.A.Around.around c.args.here.now) c.args.statements.now c.args.progress.now c.loop-term.progress c.loop-term.term-index c.term-item.result c.loop-term-test.true c.term-item.is c.deref.result.now c.all.result (sym c.is_else.ensures ∙ c.if-is_else.true) c.deref.ensures.value c.loop-term.invariant.0 c.loop-term.invariant.1 c.all.ensures

pub blocks::otherwise-returns : goal.blocks::otherwise-returns
blocks::otherwise-returns g t c = otherwise_done (g.A.Shapes.numbered c.args.here.now) (g.A.Around.around c.args.here.now) c.args.statements.now c.args.progress.now c.loop-term.progress c.loop-term.term-index c.loop-term-test.false c.loop-term.invariant.0 c.loop-term.invariant.1

pub blocks::test-value-requires : goal.blocks::test-value-requires
blocks::test-value-requires g t c = λ κs within. (omega (arith, c.decreases), within)

pub blocks::test-returns-in_err-kind : goal.blocks::test-returns-in_err-kind
blocks::test-returns-in_err-kind g t c =
    let p = err_from_is_err_and c.from_residual.result c.from_residual.ensures.1 in
    rw (p.1, p.2) (test_stops (g.A.Shapes.numbered c.args.here.now) (g.A.Around.around c.args.here.now) (view c.args.term.now) c.in_err-kind.field-0.0 c.in_err-kind.ensures)

pub blocks::test-returns-in_err-integer_kind : goal.blocks::test-returns-in_err-integer_kind
blocks::test-returns-in_err-integer_kind g t c =
    let p = err_from_is_err_and c.from_residual-in_err-integer_kind.result c.from_residual-in_err-integer_kind.ensures.1 in
    rw (p.1, p.2) (no_integer (g.A.Shapes.numbered c.args.here.now) (g.A.Around.around c.args.here.now) (view c.args.term.now) c.args.progress.now c.value.new.progress c.in_ok-kind.kind c.in_ok-kind.ensures c.in_err-integer_kind.field-0.0 (place_of c.place.result) (c.place.ensures ∙ sym (placed_at (g.A.Around.around c.args.here.now) c.args.term.now)) (c.in_err-integer_kind.ensures (g.A.Shapes.numbered c.args.here.now)))

pub blocks::test-returns : goal.blocks::test-returns
blocks::test-returns g t c = tests (g.A.Shapes.numbered c.args.here.now) (g.A.Around.around c.args.here.now) (view c.args.term.now) c.args.progress.now c.value.new.progress c.in_ok-kind.kind c.in_ok-kind.ensures c.in_ok-integer_kind.field-0 (place_of c.place.result) c.narrowed.result (c.place.ensures ∙ sym (placed_at (g.A.Around.around c.args.here.now) c.args.term.now)) (c.in_ok-integer_kind.ensures (g.A.Shapes.numbered c.args.here.now)) c.narrowed.ensures

pub blocks::branch-returns-in_default : goal.blocks::branch-returns-in_default
blocks::branch-returns-in_default g t c = λ w.
    rw c.stop.ensures (no_test (g.A.Shapes.numbered c.args.here.now) (g.A.Around.around c.args.here.now) w c.args.at c.args.parts.now c.args.progress.now _ (omega (arith, c.in_default.len_below)) refl)

pub blocks::branch-slice_bounds-statements-count : goal.blocks::branch-slice_bounds-statements-count
blocks::branch-slice_bounds-statements-count g t c = omega arith

pub blocks::branch-bounds-parts-0 : goal.blocks::branch-bounds-parts-0
blocks::branch-bounds-parts-0 g t c = omega arith

pub blocks::branch-slice_bounds-statements-start : goal.blocks::branch-slice_bounds-statements-start
blocks::branch-slice_bounds-statements-start g t c = omega arith

pub blocks::branch-slice_bounds-statements-end : goal.blocks::branch-slice_bounds-statements-end
blocks::branch-slice_bounds-statements-end g t c = omega arith

pub blocks::branch-test-requires : goal.blocks::branch-test-requires
blocks::branch-test-requires g t c =
    let all = first_weighs c.args.parts.now c.condition-item.result c.in-len1-up.len_at_least c.condition-item.is in
    λ κs within. (omega (arith, all, c.decreases), within)

pub blocks::branch-block-requires : goal.blocks::branch-block-requires
blocks::branch-block-requires g t c =
    let all = first_weighs c.args.parts.now c.condition-item.result c.in-len1-up.len_at_least c.condition-item.is in
    λ κs within. (omega (arith, all, c.decreases), within)

pub blocks::branch-otherwise-requires : goal.blocks::branch-otherwise-requires
blocks::branch-otherwise-requires g t c =
    let all = first_weighs c.args.parts.now c.condition-item.result c.in-len1-up.len_at_least c.condition-item.is in
    λ κs within. (omega (arith, all, c.decreases), within)

pub blocks::branch-returns-in_err-held : goal.blocks::branch-returns-in_err-held
blocks::branch-returns-in_err-held g t c = λ w.
    let p = err_from_is_err_and c.from_residual.result c.from_residual.ensures.1 in
    let first = first_and c.args.parts.now c.condition-item.result c.in-len1-up.len_at_least c.condition-item.is in
    rw (first, p.1, p.2) (if_test_stops (g.A.Shapes.numbered c.args.here.now) (g.A.Around.around c.args.here.now) w c.args.at (view c.condition-item.result) (views (behind c.args.parts.now)) c.in_err-held.field-0.0 c.in_err-held.ensures)

pub blocks::branch-returns-in_err-block : goal.blocks::branch-returns-in_err-block
blocks::branch-returns-in_err-block g t c = λ w.
    let p = err_from_is_err_and c.from_residual-in_err-block.result c.from_residual-in_err-block.ensures.1 in
    let first = first_and c.args.parts.now c.condition-item.result c.in-len1-up.len_at_least c.condition-item.is in
    let under = from_other c.test.new.progress c.replace-failed.new.dest c.replace-before.new.dest (Err c.in_err-block.field-0.0) c.replace-failed.ensures.after c.replace-before.ensures.after c.in_err-block.ensures in
    rw (first, p.1, p.2) (if_block_stops (g.A.Shapes.numbered c.args.here.now) (g.A.Around.around c.args.here.now) w c.args.at (view c.condition-item.result) (views (behind c.args.parts.now)) c.args.progress.now c.test.new.progress c.in_ok-held.held c.in_ok-held.ensures c.block.new.progress c.in_err-block.field-0.0 under)

pub blocks::branch-returns-in_err-otherwise : goal.blocks::branch-returns-in_err-otherwise
blocks::branch-returns-in_err-otherwise g t c = λ w.
    let p = err_from_is_err_and c.from_residual-in_err-otherwise.result c.from_residual-in_err-otherwise.ensures.1 in
    let first = first_and c.args.parts.now c.condition-item.result c.in-len1-up.len_at_least c.condition-item.is in
    let under = from_other c.test.new.progress c.replace-failed.new.dest c.replace-before.new.dest (Ok tt) c.replace-failed.ensures.after c.replace-before.ensures.after c.in_ok-block.ensures in
    let other = from_other c.block.new.progress c.replace-end.new.dest c.replace-cost.new.dest (Err c.in_err-otherwise.field-0.0) (c.replace-end.ensures.after ∙ c.replace-failed.ensures.value) c.replace-cost.ensures.after c.in_err-otherwise.ensures in
    rw (first, p.1, p.2) (if_else_stops (g.A.Shapes.numbered c.args.here.now) (g.A.Around.around c.args.here.now) w c.args.at (view c.condition-item.result) (views (behind c.args.parts.now)) c.args.progress.now c.test.new.progress c.in_ok-held.held c.in_ok-held.ensures c.block.new.progress under c.otherwise.new.progress c.in_err-otherwise.field-0.0 other)

pub blocks::branch-returns-in_err-agrees : goal.blocks::branch-returns-in_err-agrees
blocks::branch-returns-in_err-agrees g t c = λ w.
    let p = err_from_is_err_and c.from_residual-in_err-agrees.result c.from_residual-in_err-agrees.ensures.1 in
    let first = first_and c.args.parts.now c.condition-item.result c.in-len1-up.len_at_least c.condition-item.is in
    let under = from_other c.test.new.progress c.replace-failed.new.dest c.replace-before.new.dest (Ok tt) c.replace-failed.ensures.after c.replace-before.ensures.after c.in_ok-block.ensures in
    let other = from_other c.block.new.progress c.replace-end.new.dest c.replace-cost.new.dest (Ok tt) (c.replace-end.ensures.after ∙ c.replace-failed.ensures.value) c.replace-cost.ensures.after c.in_ok-otherwise.ensures in
    rw (first, p.1, p.2) (if_wants (g.A.Shapes.numbered c.args.here.now) (g.A.Around.around c.args.here.now) w c.args.at (view c.condition-item.result) (views (behind c.args.parts.now)) c.args.progress.now c.test.new.progress c.in_ok-held.held c.in_ok-held.ensures c.block.new.progress under c.otherwise.new.progress other)

pub blocks::branch-returns-then-not-branch : goal.blocks::branch-returns-then-not-branch
blocks::branch-returns-then-not-branch g t c = λ w.
    let first = first_and c.args.parts.now c.condition-item.result c.in-len1-up.len_at_least c.condition-item.is in
    let under = from_other c.test.new.progress c.replace-failed.new.dest c.replace-before.new.dest (Ok tt) c.replace-failed.ensures.after c.replace-before.ensures.after c.in_ok-block.ensures in
    let other = from_other c.block.new.progress c.replace-end.new.dest c.replace-cost.new.dest (Ok tt) (c.replace-end.ensures.after ∙ c.replace-failed.ensures.value) c.replace-cost.ensures.after c.in_ok-otherwise.ensures in
    rw (first, c.stop-then-not-branch.ensures) (if_differs (g.A.Shapes.numbered c.args.here.now) (g.A.Around.around c.args.here.now) w c.args.at (view c.condition-item.result) (views (behind c.args.parts.now)) c.args.progress.now c.test.new.progress c.in_ok-held.held c.in_ok-held.ensures c.block.new.progress under c.otherwise.new.progress other c.replace-end.result c.in_ok-agrees.field-0 _ c.replace-end.ensures.value c.if-not-branch.true (c.in_ok-agrees.ensures (g.A.Shapes.numbered c.args.here.now)) refl)

pub blocks::branch-returns-in_err-progress : goal.blocks::branch-returns-in_err-progress
blocks::branch-returns-in_err-progress g t c = λ w.
    let p = err_from_is_err_and c.from_residual-in_err-progress.result c.from_residual-in_err-progress.ensures.1 in
    let first = first_and c.args.parts.now c.condition-item.result c.in-len1-up.len_at_least c.condition-item.is in
    let under = from_other c.test.new.progress c.replace-failed.new.dest c.replace-before.new.dest (Ok tt) c.replace-failed.ensures.after c.replace-before.ensures.after c.in_ok-block.ensures in
    let other = from_other c.block.new.progress c.replace-end.new.dest c.replace-cost.new.dest (Ok tt) (c.replace-end.ensures.after ∙ c.replace-failed.ensures.value) c.replace-cost.ensures.after c.in_ok-otherwise.ensures in
    rw (first, p.1, p.2) (if_wants (g.A.Shapes.numbered c.args.here.now) (g.A.Around.around c.args.here.now) w c.args.at (view c.condition-item.result) (views (behind c.args.parts.now)) c.args.progress.now c.test.new.progress c.in_ok-held.held c.in_ok-held.ensures c.block.new.progress under c.otherwise.new.progress other)

pub blocks::branch-returns : goal.blocks::branch-returns
blocks::branch-returns g t c = λ w.
    let first = first_and c.args.parts.now c.condition-item.result c.in-len1-up.len_at_least c.condition-item.is in
    let under = from_other c.test.new.progress c.replace-failed.new.dest c.replace-before.new.dest (Ok tt) c.replace-failed.ensures.after c.replace-before.ensures.after c.in_ok-block.ensures in
    let other = from_other c.block.new.progress c.replace-end.new.dest c.replace-cost.new.dest (Ok tt) (c.replace-end.ensures.after ∙ c.replace-failed.ensures.value) c.replace-cost.ensures.after c.in_ok-otherwise.ensures in
    rw first (if_goes (g.A.Shapes.numbered c.args.here.now) (g.A.Around.around c.args.here.now) w c.args.at (view c.condition-item.result) (views (behind c.args.parts.now)) c.args.progress.now c.test.new.progress c.in_ok-held.held c.in_ok-held.ensures c.block.new.progress under c.otherwise.new.progress other c.replace-end.result c.in_ok-agrees.field-0 c.in_ok-progress.field-0 c.replace-before.result c.replace-cost.result c.max.result c.sum-progress.result c.replace-end.ensures.value c.if-not-branch.false (c.in_ok-agrees.ensures (g.A.Shapes.numbered c.args.here.now)) (c.in_ok-progress.ensures (g.A.Shapes.numbered c.args.here.now)) c.replace-before.ensures.value c.replace-cost.ensures.value c.max.ensures c.sum-progress.ensures)

pub blocks::looped-returns-in_default : goal.blocks::looped-returns-in_default
blocks::looped-returns-in_default g t c = λ w.
    rw c.stop.ensures (no_condition (g.A.Shapes.numbered c.args.here.now) (g.A.Around.around c.args.here.now) w c.args.at c.args.parts.now c.args.progress.now _ (omega (arith, c.in_default.len_below)) refl)

pub blocks::looped-slice_bounds-body-count : goal.blocks::looped-slice_bounds-body-count
blocks::looped-slice_bounds-body-count g t c = omega arith

pub blocks::looped-bounds-parts-0 : goal.blocks::looped-bounds-parts-0
blocks::looped-bounds-parts-0 g t c = omega arith

pub blocks::looped-slice_bounds-body-start : goal.blocks::looped-slice_bounds-body-start
blocks::looped-slice_bounds-body-start g t c = omega arith

pub blocks::looped-slice_bounds-body-end : goal.blocks::looped-slice_bounds-body-end
blocks::looped-slice_bounds-body-end g t c = omega arith

pub blocks::looped-once-requires : goal.blocks::looped-once-requires
blocks::looped-once-requires g t c =
    let all = first_weighs c.args.parts.now c.condition-item.result c.in-len1-up.len_at_least c.condition-item.is in
    λ κs within. (omega (arith, all, c.decreases), within)

pub blocks::looped-often-requires : goal.blocks::looped-often-requires
blocks::looped-often-requires g t c =
    let all = first_weighs c.args.parts.now c.condition-item.result c.in-len1-up.len_at_least c.condition-item.is in
    λ κs within. (omega (arith, all, c.decreases), within)

pub blocks::looped-falling-requires : goal.blocks::looped-falling-requires
blocks::looped-falling-requires g t c =
    let all = first_weighs c.args.parts.now c.condition-item.result c.in-len1-up.len_at_least c.condition-item.is in
    λ κs within. (omega (arith, all, c.decreases), within)

pub blocks::looped-returns-in_err-once-in-Some-Once : goal.blocks::looped-returns-in_err-once-in-Some-Once
blocks::looped-returns-in_err-once-in-Some-Once g t c = λ w.
    let p = err_from_is_err_and c.from_residual.result c.from_residual.ensures.1 in
    let first = first_and c.args.parts.now c.condition-item.result c.in-len1-up.len_at_least c.condition-item.is in
    let shape = turns_once (g.A.Shapes.numbered c.args.here.now) (g.A.Around.around c.args.here.now) w c.args.at (view c.condition-item.result) (views (behind c.args.parts.now)) (rw (c.in-Some-Once.field-0-is, c.width.ensures) at c.in-Some-Once.ensures) in
    rw (first, p.1, p.2) (while_stops (g.A.Shapes.numbered c.args.here.now) (g.A.Around.around c.args.here.now) w c.args.at (view c.condition-item.result) (views (behind c.args.parts.now)) (once_rule (g.A.Around.around c.args.here.now) c.args.at (view c.condition-item.result) (views (behind c.args.parts.now))) c.in_err-once-in-Some-Once.field-0.0 shape c.in_err-once-in-Some-Once.ensures)

pub blocks::looped-returns-in_ok-once-in-Some-Once : goal.blocks::looped-returns-in_ok-once-in-Some-Once
blocks::looped-returns-in_ok-once-in-Some-Once g t c = λ w.
    let first = first_and c.args.parts.now c.condition-item.result c.in-len1-up.len_at_least c.condition-item.is in
    let shape = turns_once (g.A.Shapes.numbered c.args.here.now) (g.A.Around.around c.args.here.now) w c.args.at (view c.condition-item.result) (views (behind c.args.parts.now)) (rw (c.in-Some-Once.field-0-is, c.width.ensures) at c.in-Some-Once.ensures) in
    rw first (while_goes (g.A.Shapes.numbered c.args.here.now) (g.A.Around.around c.args.here.now) w c.args.at (view c.condition-item.result) (views (behind c.args.parts.now)) (once_rule (g.A.Around.around c.args.here.now) c.args.at (view c.condition-item.result) (views (behind c.args.parts.now))) shape c.in_ok-once-in-Some-Once.ensures)

pub blocks::looped-returns-in_err-often-in-Some-Up : goal.blocks::looped-returns-in_err-often-in-Some-Up
blocks::looped-returns-in_err-often-in-Some-Up g t c = λ w.
    let p = err_from_is_err_and c.from_residual-in_err-often-in-Some-Up.result c.from_residual-in_err-often-in-Some-Up.ensures.1 in
    let first = first_and c.args.parts.now c.condition-item.result c.in-len1-up.len_at_least c.condition-item.is in
    let shape = turns_up (g.A.Shapes.numbered c.args.here.now) (g.A.Around.around c.args.here.now) w c.args.at (view c.condition-item.result) (views (behind c.args.parts.now)) c.in-Some-Up.field-0-0 c.in-Some-Up.limit (rw (c.in-Some-Up.field-0-is, c.width.ensures) at c.in-Some-Up.ensures) in
    rw (first, p.1, p.2) (while_stops (g.A.Shapes.numbered c.args.here.now) (g.A.Around.around c.args.here.now) w c.args.at (view c.condition-item.result) (views (behind c.args.parts.now)) (often_rule (g.A.Around.around c.args.here.now) c.in-Some-Up.limit c.args.at (view c.condition-item.result) (views (behind c.args.parts.now))) c.in_err-often-in-Some-Up.field-0.0 shape c.in_err-often-in-Some-Up.ensures)

pub blocks::looped-returns-in_ok-often-in-Some-Up : goal.blocks::looped-returns-in_ok-often-in-Some-Up
blocks::looped-returns-in_ok-often-in-Some-Up g t c = λ w.
    let first = first_and c.args.parts.now c.condition-item.result c.in-len1-up.len_at_least c.condition-item.is in
    let shape = turns_up (g.A.Shapes.numbered c.args.here.now) (g.A.Around.around c.args.here.now) w c.args.at (view c.condition-item.result) (views (behind c.args.parts.now)) c.in-Some-Up.field-0-0 c.in-Some-Up.limit (rw (c.in-Some-Up.field-0-is, c.width.ensures) at c.in-Some-Up.ensures) in
    rw first (while_goes (g.A.Shapes.numbered c.args.here.now) (g.A.Around.around c.args.here.now) w c.args.at (view c.condition-item.result) (views (behind c.args.parts.now)) (often_rule (g.A.Around.around c.args.here.now) c.in-Some-Up.limit c.args.at (view c.condition-item.result) (views (behind c.args.parts.now))) shape c.in_ok-often-in-Some-Up.ensures)

pub blocks::looped-returns-in_err-falling-in-Some-Down : goal.blocks::looped-returns-in_err-falling-in-Some-Down
blocks::looped-returns-in_err-falling-in-Some-Down g t c = λ w.
    let p = err_from_is_err_and c.from_residual-in_err-falling-in-Some-Down.result c.from_residual-in_err-falling-in-Some-Down.ensures.1 in
    let first = first_and c.args.parts.now c.condition-item.result c.in-len1-up.len_at_least c.condition-item.is in
    let shape = turns_down (g.A.Shapes.numbered c.args.here.now) (g.A.Around.around c.args.here.now) w c.args.at (view c.condition-item.result) (views (behind c.args.parts.now)) c.in-Some-Down.local c.in-Some-Down.limit (rw (c.in-Some-Down.field-0-is, c.width.ensures) at c.in-Some-Down.ensures) in
    rw (first, p.1, p.2) (while_stops (g.A.Shapes.numbered c.args.here.now) (g.A.Around.around c.args.here.now) w c.args.at (view c.condition-item.result) (views (behind c.args.parts.now)) (falling_rule (g.A.Around.around c.args.here.now) c.in-Some-Down.local c.in-Some-Down.limit c.args.at (view c.condition-item.result) (views (behind c.args.parts.now))) c.in_err-falling-in-Some-Down.field-0.0 shape c.in_err-falling-in-Some-Down.ensures)

pub blocks::looped-returns-in_ok-falling-in-Some-Down : goal.blocks::looped-returns-in_ok-falling-in-Some-Down
blocks::looped-returns-in_ok-falling-in-Some-Down g t c = λ w.
    let first = first_and c.args.parts.now c.condition-item.result c.in-len1-up.len_at_least c.condition-item.is in
    let shape = turns_down (g.A.Shapes.numbered c.args.here.now) (g.A.Around.around c.args.here.now) w c.args.at (view c.condition-item.result) (views (behind c.args.parts.now)) c.in-Some-Down.local c.in-Some-Down.limit (rw (c.in-Some-Down.field-0-is, c.width.ensures) at c.in-Some-Down.ensures) in
    rw first (while_goes (g.A.Shapes.numbered c.args.here.now) (g.A.Around.around c.args.here.now) w c.args.at (view c.condition-item.result) (views (behind c.args.parts.now)) (falling_rule (g.A.Around.around c.args.here.now) c.in-Some-Down.local c.in-Some-Down.limit c.args.at (view c.condition-item.result) (views (behind c.args.parts.now))) shape c.in_ok-falling-in-Some-Down.ensures)

pub blocks::looped-returns-in-None : goal.blocks::looped-returns-in-None
blocks::looped-returns-in-None g t c = λ w.
    let first = first_and c.args.parts.now c.condition-item.result c.in-len1-up.len_at_least c.condition-item.is in
    rw (first, c.stop_for.ensures) (endless (g.A.Shapes.numbered c.args.here.now) (g.A.Around.around c.args.here.now) w c.args.at (view c.condition-item.result) (views (behind c.args.parts.now)) c.args.progress.now _ (rw c.width.ensures at c.in-None.ensures) refl)

pub blocks::turn-all-requires : goal.blocks::turn-all-requires
blocks::turn-all-requires g t c = λ κs within. (omega (arith, c.decreases), within)

pub blocks::turn-returns-in_err-all : goal.blocks::turn-returns-in_err-all
blocks::turn-returns-in_err-all g t c =
    let p = err_from_is_err_and c.from_residual.result c.from_residual.ensures.1 in
    let apart = from_apart c.args.progress.now c.replace-env.new.dest c.replace-exits.new.dest c.replace-cost.new.dest (Err c.in_err-all.field-0.0) c.replace-env.ensures.after c.replace-exits.ensures.after c.replace-cost.ensures.after c.in_err-all.ensures in
    rw (p.1, p.2) (turn_stops (g.A.Shapes.numbered c.args.here.now) (g.A.Around.around c.args.here.now) (views c.args.body.now) c.args.held c.args.progress.now c.new.result (c.new.ensures (g.A.Shapes.numbered c.args.here.now)) c.all.new.progress c.in_err-all.field-0.0 apart)

pub blocks::turn-returns : goal.blocks::turn-returns
blocks::turn-returns g t c =
    let apart = from_apart c.args.progress.now c.replace-env.new.dest c.replace-exits.new.dest c.replace-cost.new.dest (Ok tt) c.replace-env.ensures.after c.replace-exits.ensures.after c.replace-cost.ensures.after c.in_ok-all.ensures in
    turns (g.A.Shapes.numbered c.args.here.now) (g.A.Around.around c.args.here.now) (views c.args.body.now) c.args.held c.args.progress.now c.new.result (c.new.ensures (g.A.Shapes.numbered c.args.here.now)) c.all.new.progress c.replace.new.dest c.replace.result c.replace-2.new.dest c.replace-2.result c.replace-3.new.dest c.replace-3.result (c.replace.ensures.after ∙ c.replace-env.ensures.value) (c.replace-2.ensures.after ∙ c.replace-exits.ensures.value) (c.replace-3.ensures.after ∙ c.replace-cost.ensures.value) c.replace.ensures.value c.replace-2.ensures.value c.replace-3.ensures.value apart

pub blocks::once-test-requires : goal.blocks::once-test-requires
blocks::once-test-requires g t c = λ κs within. (omega (arith, c.decreases), within)

pub blocks::once-turn-requires : goal.blocks::once-turn-requires
blocks::once-turn-requires g t c = λ κs within. (omega (arith, c.decreases), within)

pub blocks::often-test-requires : goal.blocks::often-test-requires
blocks::often-test-requires g t c = λ κs within. (omega (arith, c.decreases), within)

pub blocks::often-turn-requires : goal.blocks::often-turn-requires
blocks::often-turn-requires g t c = λ κs within. (omega (arith, c.decreases), within)

pub blocks::once-returns-in_err-held : goal.blocks::once-returns-in_err-held
blocks::once-returns-in_err-held g t c =
    let p = err_from_is_err_and c.from_residual.result c.from_residual.ensures.1 in
    let within = from_within c.args.progress.now c.replace-outer.new.dest (Err c.in_err-held.field-0.0) c.replace-outer.ensures.after c.in_err-held.ensures in
    rw (p.1, p.2) (once_test_stops (g.A.Shapes.numbered c.args.here.now) (g.A.Around.around c.args.here.now) c.args.at (view c.args.condition.now) (views c.args.body.now) c.args.progress.now c.in_err-held.field-0.0 within)

pub blocks::once-returns-in_err-turn : goal.blocks::once-returns-in_err-turn
blocks::once-returns-in_err-turn g t c =
    let p = err_from_is_err_and c.from_residual-in_err-turn.result c.from_residual-in_err-turn.ensures.1 in
    let within = from_within c.args.progress.now c.replace-outer.new.dest (Ok c.in_ok-held.held) c.replace-outer.ensures.after c.in_ok-held.ensures in
    rw (p.1, p.2) (once_turn_stops (g.A.Shapes.numbered c.args.here.now) (g.A.Around.around c.args.here.now) c.args.at (view c.args.condition.now) (views c.args.body.now) c.args.progress.now c.test.new.progress c.in_ok-held.held within c.in_err-turn.field-0.0 c.in_err-turn.ensures)

pub blocks::once-returns-in_err-exit_holds : goal.blocks::once-returns-in_err-exit_holds
blocks::once-returns-in_err-exit_holds g t c =
    let p = err_from_is_err_and c.from_residual-in_err-exit_holds.result c.from_residual-in_err-exit_holds.ensures.1 in
    let within = from_within c.args.progress.now c.replace-outer.new.dest (Ok c.in_ok-held.held) c.replace-outer.ensures.after c.in_ok-held.ensures in
    rw (p.1, p.2) (once_wants (g.A.Shapes.numbered c.args.here.now) (g.A.Around.around c.args.here.now) c.args.at (view c.args.condition.now) (views c.args.body.now) c.args.progress.now c.test.new.progress c.in_ok-held.held within c.turn.new.progress c.in_ok-turn.turn c.in_ok-turn.ensures c.turn.new.progress refl)

pub blocks::once-returns-then-not-branch : goal.blocks::once-returns-then-not-branch
blocks::once-returns-then-not-branch g t c =
    let within = from_within c.args.progress.now c.replace-outer.new.dest (Ok c.in_ok-held.held) c.replace-outer.ensures.after c.in_ok-held.ensures in
    rw c.stop.ensures (once_differs (g.A.Shapes.numbered c.args.here.now) (g.A.Around.around c.args.here.now) c.args.at (view c.args.condition.now) (views c.args.body.now) c.args.progress.now c.test.new.progress c.in_ok-held.held within c.turn.new.progress c.in_ok-turn.turn c.in_ok-turn.ensures c.in_ok-exit_holds.field-0 _ c.if-not-branch.true (c.in_ok-exit_holds.ensures (g.A.Around.around c.args.here.now) (g.A.Shapes.numbered c.args.here.now)) refl)

pub blocks::once-returns-in_err-past : goal.blocks::once-returns-in_err-past
blocks::once-returns-in_err-past g t c =
    let p = err_from_is_err_and c.from_residual-in_err-past.result c.from_residual-in_err-past.ensures.1 in
    let within = from_within c.args.progress.now c.replace-outer.new.dest (Ok c.in_ok-held.held) c.replace-outer.ensures.after c.in_ok-held.ensures in
    rw (p.1, p.2) (once_wants (g.A.Shapes.numbered c.args.here.now) (g.A.Around.around c.args.here.now) c.args.at (view c.args.condition.now) (views c.args.body.now) c.args.progress.now c.test.new.progress c.in_ok-held.held within c.turn.new.progress c.in_ok-turn.turn c.in_ok-turn.ensures c.past.new.progress (c.in_err-past.ensures (g.A.Around.around c.args.here.now) (g.A.Shapes.numbered c.args.here.now)).still)

pub blocks::once-returns : goal.blocks::once-returns
blocks::once-returns g t c =
    let within = from_within c.args.progress.now c.replace-outer.new.dest (Ok c.in_ok-held.held) c.replace-outer.ensures.after c.in_ok-held.ensures in
    once_judges (g.A.Shapes.numbered c.args.here.now) (g.A.Around.around c.args.here.now) c.args.at (view c.args.condition.now) (views c.args.body.now) c.args.progress.now c.test.new.progress c.in_ok-held.held within c.turn.new.progress c.in_ok-turn.turn c.in_ok-turn.ensures c.past.new.progress c.in_ok-exit_holds.field-0 c.replace-outer.result c.replace-outer.ensures.value c.if-not-branch.false (c.in_ok-exit_holds.ensures (g.A.Around.around c.args.here.now) (g.A.Shapes.numbered c.args.here.now)) (c.in_ok-past.ensures (g.A.Around.around c.args.here.now) (g.A.Shapes.numbered c.args.here.now))

pub blocks::often-returns-in_err-held : goal.blocks::often-returns-in_err-held
blocks::often-returns-in_err-held g t c =
    let p = err_from_is_err_and c.from_residual.result c.from_residual.ensures.1 in
    let begins = from_other c.args.progress.now c.begun-start.result c.replace-before.new.dest (Err c.in_err-held.field-0.0) refl c.replace-before.ensures.after c.in_err-held.ensures in
    rw (p.1, p.2) (often_test_stops (g.A.Shapes.numbered c.args.here.now) (g.A.Around.around c.args.here.now) c.args.at (view c.args.condition.now) (views c.args.body.now) c.args.turns c.args.progress.now c.begun-start.result c.begun-start.ensures c.in_err-held.field-0.0 begins)

pub blocks::often-returns-in_err-turn : goal.blocks::often-returns-in_err-turn
blocks::often-returns-in_err-turn g t c =
    let p = err_from_is_err_and c.from_residual-in_err-turn.result c.from_residual-in_err-turn.ensures.1 in
    let begins = from_other c.args.progress.now c.begun-start.result c.replace-before.new.dest (Ok c.in_ok-held.held) refl c.replace-before.ensures.after c.in_ok-held.ensures in
    rw (p.1, p.2) (often_turn_stops (g.A.Shapes.numbered c.args.here.now) (g.A.Around.around c.args.here.now) c.args.at (view c.args.condition.now) (views c.args.body.now) c.args.turns c.args.progress.now c.begun-start.result c.begun-start.ensures c.test.new.progress c.in_ok-held.held begins c.in_err-turn.field-0.0 c.in_err-turn.ensures)

pub blocks::often-returns-then-not-comes_back : goal.blocks::often-returns-then-not-comes_back
blocks::often-returns-then-not-comes_back g t c =
    let begins = from_other c.args.progress.now c.begun-start.result c.replace-before.new.dest (Ok c.in_ok-held.held) refl c.replace-before.ensures.after c.in_ok-held.ensures in
    rw c.stop_for.ensures (often_away (g.A.Shapes.numbered c.args.here.now) (g.A.Around.around c.args.here.now) c.args.at (view c.args.condition.now) (views c.args.body.now) c.args.turns c.args.progress.now c.begun-start.result c.begun-start.ensures c.test.new.progress c.in_ok-held.held begins c.turn.new.progress c.in_ok-turn.turn c.in_ok-turn.ensures c.comes_back.result _ c.if-not-comes_back.true (c.comes_back.ensures (g.A.Around.around c.args.here.now) (g.A.Shapes.numbered c.args.here.now)) refl)

pub blocks::often-returns-in_err-holds_back : goal.blocks::often-returns-in_err-holds_back
blocks::often-returns-in_err-holds_back g t c =
    let p = err_from_is_err_and c.from_residual-in_err-holds_back.result c.from_residual-in_err-holds_back.ensures.1 in
    let begins = from_other c.args.progress.now c.begun-start.result c.replace-before.new.dest (Ok c.in_ok-held.held) refl c.replace-before.ensures.after c.in_ok-held.ensures in
    rw (p.1, p.2) (often_wants (g.A.Shapes.numbered c.args.here.now) (g.A.Around.around c.args.here.now) c.args.at (view c.args.condition.now) (views c.args.body.now) c.args.turns c.args.progress.now c.begun-start.result c.begun-start.ensures c.test.new.progress c.in_ok-held.held begins c.turn.new.progress c.in_ok-turn.turn c.in_ok-turn.ensures c.turn.new.progress refl)

pub blocks::often-returns-then-not-branch : goal.blocks::often-returns-then-not-branch
blocks::often-returns-then-not-branch g t c =
    let begins = from_other c.args.progress.now c.begun-start.result c.replace-before.new.dest (Ok c.in_ok-held.held) refl c.replace-before.ensures.after c.in_ok-held.ensures in
    rw c.stop.ensures (often_differs (g.A.Shapes.numbered c.args.here.now) (g.A.Around.around c.args.here.now) c.args.at (view c.args.condition.now) (views c.args.body.now) c.args.turns c.args.progress.now c.begun-start.result c.begun-start.ensures c.test.new.progress c.in_ok-held.held begins c.turn.new.progress c.in_ok-turn.turn c.in_ok-turn.ensures c.comes_back.result c.if-not-comes_back.false (c.comes_back.ensures (g.A.Around.around c.args.here.now) (g.A.Shapes.numbered c.args.here.now)) c.in_ok-holds_back.field-0 _ c.if-not-branch.true (c.in_ok-holds_back.ensures (g.A.Around.around c.args.here.now) (g.A.Shapes.numbered c.args.here.now)) refl)

pub blocks::often-returns-in_err-past : goal.blocks::often-returns-in_err-past
blocks::often-returns-in_err-past g t c =
    let p = err_from_is_err_and c.from_residual-in_err-past.result c.from_residual-in_err-past.ensures.1 in
    let begins = from_other c.args.progress.now c.begun-start.result c.replace-before.new.dest (Ok c.in_ok-held.held) refl c.replace-before.ensures.after c.in_ok-held.ensures in
    rw (p.1, p.2) (often_wants (g.A.Shapes.numbered c.args.here.now) (g.A.Around.around c.args.here.now) c.args.at (view c.args.condition.now) (views c.args.body.now) c.args.turns c.args.progress.now c.begun-start.result c.begun-start.ensures c.test.new.progress c.in_ok-held.held begins c.turn.new.progress c.in_ok-turn.turn c.in_ok-turn.ensures c.past.new.progress (c.in_err-past.ensures (g.A.Around.around c.args.here.now) (g.A.Shapes.numbered c.args.here.now)).still)

pub blocks::often-returns : goal.blocks::often-returns
blocks::often-returns g t c =
    let begins = from_other c.args.progress.now c.begun-start.result c.replace-before.new.dest (Ok c.in_ok-held.held) refl c.replace-before.ensures.after c.in_ok-held.ensures in
    often_judges (g.A.Shapes.numbered c.args.here.now) (g.A.Around.around c.args.here.now) c.args.at (view c.args.condition.now) (views c.args.body.now) c.args.turns c.args.progress.now c.begun-start.result c.begun-start.ensures c.test.new.progress c.in_ok-held.held begins c.turn.new.progress c.in_ok-turn.turn c.in_ok-turn.ensures c.comes_back.result c.if-not-comes_back.false (c.comes_back.ensures (g.A.Around.around c.args.here.now) (g.A.Shapes.numbered c.args.here.now)) c.replace-before.result c.sum-progress.result c.product-cost.result c.sum.result c.past.new.progress c.in_ok-holds_back.field-0 c.if-not-branch.false (c.in_ok-holds_back.ensures (g.A.Around.around c.args.here.now) (g.A.Shapes.numbered c.args.here.now)) c.replace-before.ensures.value c.sum-progress.ensures c.sum.ensures c.product-cost.ensures (c.in_ok-past.ensures (g.A.Around.around c.args.here.now) (g.A.Shapes.numbered c.args.here.now))

pub blocks::falling-often-requires : goal.blocks::falling-often-requires
blocks::falling-often-requires g t c = λ κs within. (omega (arith, c.decreases), within)

pub blocks::falling-test-requires : goal.blocks::falling-test-requires
blocks::falling-test-requires g t c = λ κs within. (omega (arith, c.decreases), within)

pub blocks::falling-returns-in-Some-Int : goal.blocks::falling-returns-in-Some-Int
blocks::falling-returns-in-Some-Int g t c = falls_often (g.A.Shapes.numbered c.args.here.now) (g.A.Around.around c.args.here.now) c.args.at (view c.args.condition.now) (views c.args.body.now) c.args.local c.args.limit c.args.progress.now c.kind_at.result (c.kind_at.ensures (g.A.Shapes.numbered c.args.here.now)) c.in-Some-Int.greatest c.saturating_sub-turns.result c.often.result (cc) c.saturating_sub-turns.ensures c.often.ensures

pub blocks::falling-returns-in_err-test : goal.blocks::falling-returns-in_err-test
blocks::falling-returns-in_err-test g t c =
    let p = err_from_is_err_and c.from_residual.result c.from_residual.ensures.1 in
    let others : (n : ℕ) → c.kind_at.result ≡ Some (kinds.Int n) → ⊥ = λ n e. elim c.match-kind_at.branch [
      | blocks::falling-in-Some+in-Buf-1 w ↦ grind (arith, e, w)
      | blocks::falling-in-None-1 w ↦ grind (arith, e, w)
    ] in
    rw (p.1, p.2) (falling_test_stops (g.A.Shapes.numbered c.args.here.now) (g.A.Around.around c.args.here.now) c.args.at (view c.args.condition.now) (views c.args.body.now) c.args.local c.args.limit c.args.progress.now c.kind_at.result (c.kind_at.ensures (g.A.Shapes.numbered c.args.here.now)) c.begun-progress.result c.begun-progress.ensures others c.in_err-test.field-0.0 c.in_err-test.ensures)

pub blocks::falling-returns : goal.blocks::falling-returns
blocks::falling-returns g t c =
    let others : (n : ℕ) → c.kind_at.result ≡ Some (kinds.Int n) → ⊥ = λ n e. elim c.match-kind_at.branch [
      | blocks::falling-in-Some+in-Buf-1 w ↦ grind (arith, e, w)
      | blocks::falling-in-None-1 w ↦ grind (arith, e, w)
    ] in
    rw c.stop.ensures (falling_stops (g.A.Shapes.numbered c.args.here.now) (g.A.Around.around c.args.here.now) c.args.at (view c.args.condition.now) (views c.args.body.now) c.args.local c.args.limit c.args.progress.now c.kind_at.result (c.kind_at.ensures (g.A.Shapes.numbered c.args.here.now)) c.begun-progress.result c.begun-progress.ensures others c.in_ok-test.field-0 _ c.in_ok-test.ensures refl)
