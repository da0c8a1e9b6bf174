use Rattle.std.proofs.Common.{◌∙◌, sym, ap, arith}
use Rattle.std.specs.Option.{option_map}
use Rattle.std.proofs.lemmas.Result.{err_from_is_err_and}
use Rattle.aml_namespace.specs.Shows.{shown}
use Rattle.aml_objects.specs.declared.object.CreatedFieldSize.TheVariants as size
use Rattle.aml_operators.specs.Tree.{stop_of}
use Rattle.aml_meaning.specs.Definitions.{makes_own}
use Rattle.aml_meaning.proofs.Runs.{runs_stop, runs_then}
use Rattle.aml_bodies.proofs.Around.{around_there}
use Rattle.aml_places.proofs.Parts.{counted_field}
use Rattle.aml_quick.specs.Settings.{calls_of, count_of, setting_of}
use Rattle.aml_direct.proofs.Calls.{is_read}
use Rattle.aml_direct.proofs.Fields.{counted_is, counted_stops, make_counted, no_index, no_size, not_own, term_behind}
use Rattle.aml_direct.proofs.define.counted_field.Goals as goal

pub returns-in_err-take_step-clause-means : goal.returns-in_err-take_step-clause-means
returns-in_err-take_step-clause-means c = λ around log stop parts lie.
    let p = err_from_is_err_and c.from_residual.result c.from_residual.ensures.1 in
    rw (p.1, p.2) (record { runs = runs_stop _ (c.in_err-take_step.ensures.means log); next = tt })

pub returns-in_err-take_step-clause-falls : goal.returns-in_err-take_step-clause-falls
returns-in_err-take_step-clause-falls c = c.in_err-take_step.ensures.falls

pub behind_source-requires : goal.behind_source-requires
behind_source-requires c = let k = counted_field (count_of c.args.here.scene.now) c.args.bytes.now c.requires.own c.args.at c.requires.stop c.requires.parts c.requires.lie in record { it = k.a; lies = k.lies }

pub returns-in_default-clause-means : goal.returns-in_default-clause-means
returns-in_default-clause-means c = λ around log stop parts lie.
    let k = counted_field (count_of c.args.here.scene.now) c.args.bytes.now c.args.own c.args.at stop parts lie in
    let no = rw c.in_default.is at (c.behind_source.ensures around k.a k.lies) in
    record { runs = rw c.fails.ensures (runs_then _ (c.in_ok-take_step.ensures.means log) (rw (counted_is (count_of c.args.here.scene.now) (setting_of c.args.here around) c.args.bytes.now c.args.own c.args.at stop parts k) (no c.args.own _ _ _ _))); next = tt }

pub returns-in_default-clause-falls : goal.returns-in_default-clause-falls
returns-in_default-clause-falls c = c.in_ok-take_step.ensures.falls

pub literal_there-requires : goal.literal_there-requires
literal_there-requires c =
    let around = around_there (shown c.args.here.scene.now.namespace.now) in
    let k = counted_field (count_of c.args.here.scene.now) c.args.bytes.now c.requires.own c.args.at c.requires.stop c.requires.parts c.requires.lie in
    let source = c.in-Some.ensures around k.a k.lies in
    record { it = k.i; lies = (term_behind (count_of c.args.here.scene.now) c.args.bytes.now (stop_of k.a) c.in-Some.index k.i source.1 k.index) }

pub returns-in_default-literal_there-clause-means : goal.returns-in_default-literal_there-clause-means
returns-in_default-literal_there-clause-means c = λ around log stop parts lie.
    let k = counted_field (count_of c.args.here.scene.now) c.args.bytes.now c.args.own c.args.at stop parts lie in
    let source = c.in-Some.ensures around k.a k.lies in
    let no = rw c.in_default-literal_there.is at (c.literal_there.ensures k.i (term_behind (count_of c.args.here.scene.now) c.args.bytes.now (stop_of k.a) c.in-Some.index k.i source.1 k.index)) in
    record { runs = rw c.fails-in_default-literal_there.ensures (runs_then _ (c.in_ok-take_step.ensures.means log) (rw (counted_is (count_of c.args.here.scene.now) (setting_of c.args.here around) c.args.bytes.now c.args.own c.args.at stop parts k) (no_index (setting_of c.args.here around) c.args.own _ _ _ _ _ no))); next = tt }

pub returns-in_default-literal_there-clause-falls : goal.returns-in_default-literal_there-clause-falls
returns-in_default-literal_there-clause-falls c = c.in_ok-take_step.ensures.falls

pub literal_there-requires-2 : goal.literal_there-requires-2
literal_there-requires-2 c =
    let around = around_there (shown c.args.here.scene.now.namespace.now) in
    let k = counted_field (count_of c.args.here.scene.now) c.args.bytes.now c.requires.own c.args.at c.requires.stop c.requires.parts c.requires.lie in
    let source = c.in-Some.ensures around k.a k.lies in
    let index = c.in-Some-literal_there.ensures k.i (term_behind (count_of c.args.here.scene.now) c.args.bytes.now (stop_of k.a) c.in-Some.index k.i source.1 k.index) in
    record { it = k.b; lies = (term_behind (count_of c.args.here.scene.now) c.args.bytes.now (stop_of k.i) c.in-Some-literal_there.size k.b index.1 k.bits) }

pub returns-in_default-literal_there-2-clause-means : goal.returns-in_default-literal_there-2-clause-means
returns-in_default-literal_there-2-clause-means c = λ around log stop parts lie.
    let k = counted_field (count_of c.args.here.scene.now) c.args.bytes.now c.args.own c.args.at stop parts lie in
    let source = c.in-Some.ensures around k.a k.lies in
    let index = c.in-Some-literal_there.ensures k.i (term_behind (count_of c.args.here.scene.now) c.args.bytes.now (stop_of k.a) c.in-Some.index k.i source.1 k.index) in
    let no = rw c.in_default-literal_there-2.is at (c.literal_there-2.ensures k.b (term_behind (count_of c.args.here.scene.now) c.args.bytes.now (stop_of k.i) c.in-Some-literal_there.size k.b index.1 k.bits)) in
    record { runs = rw c.fails-in_default-literal_there-2.ensures (runs_then _ (c.in_ok-take_step.ensures.means log) (rw (counted_is (count_of c.args.here.scene.now) (setting_of c.args.here around) c.args.bytes.now c.args.own c.args.at stop parts k) (no_size (setting_of c.args.here around) c.args.own _ _ _ _ _ (ap (option_map size.Bits) no)))); next = tt }

pub returns-in_default-literal_there-2-clause-falls : goal.returns-in_default-literal_there-2-clause-falls
returns-in_default-literal_there-2-clause-falls c = c.in_ok-take_step.ensures.falls

pub returns-then-not-makes_own-clause-means : goal.returns-then-not-makes_own-clause-means
returns-then-not-makes_own-clause-means c = λ around log stop parts lie.
    let k = counted_field (count_of c.args.here.scene.now) c.args.bytes.now c.args.own c.args.at stop parts lie in
    let source = c.in-Some.ensures around k.a k.lies in
    let index = c.in-Some-literal_there.ensures k.i (term_behind (count_of c.args.here.scene.now) c.args.bytes.now (stop_of k.a) c.in-Some.index k.i source.1 k.index) in
    let bits = c.in-Some-literal_there-2.ensures k.b (term_behind (count_of c.args.here.scene.now) c.args.bytes.now (stop_of k.i) c.in-Some-literal_there.size k.b index.1 k.bits) in
    record { runs = rw c.fails-then-not-makes_own.ensures (runs_then _ (c.in_ok-take_step.ensures.means log) (rw (counted_is (count_of c.args.here.scene.now) (setting_of c.args.here around) c.args.bytes.now c.args.own c.args.at stop parts k) (not_own (setting_of c.args.here around) c.args.own _ _ _ (ap (makes_own (setting_of c.args.here around)) bits.1 ∙ sym (c.makes_own.ensures (calls_of c.args.here around)) ∙ c.if-not-makes_own.true)))); next = tt }

pub returns-then-not-makes_own-clause-falls : goal.returns-then-not-makes_own-clause-falls
returns-then-not-makes_own-clause-falls c = c.in_ok-take_step.ensures.falls

pub returns-in_err-make_field-clause-means : goal.returns-in_err-make_field-clause-means
returns-in_err-make_field-clause-means c = λ around log stop parts lie.
    let p = err_from_is_err_and c.from_residual-in_err-make_field.result c.from_residual-in_err-make_field.ensures.1 in
    let k = counted_field (count_of c.args.here.scene.now) c.args.bytes.now c.args.own c.args.at stop parts lie in
    let source = c.in-Some.ensures around k.a k.lies in
    let index = c.in-Some-literal_there.ensures k.i (term_behind (count_of c.args.here.scene.now) c.args.bytes.now (stop_of k.a) c.in-Some.index k.i source.1 k.index) in
    let bits = c.in-Some-literal_there-2.ensures k.b (term_behind (count_of c.args.here.scene.now) c.args.bytes.now (stop_of k.i) c.in-Some-literal_there.size k.b index.1 k.bits) in
    rw (p.1, p.2) (record { runs = runs_then _ (c.in_ok-take_step.ensures.means log) (rw (counted_is (count_of c.args.here.scene.now) (setting_of c.args.here around) c.args.bytes.now c.args.own c.args.at stop parts k) (make_counted (setting_of c.args.here around) c.args.own _ _ _ _ _ _ _ (ap (makes_own (setting_of c.args.here around)) bits.1 ∙ sym (c.makes_own.ensures (calls_of c.args.here around)) ∙ c.if-not-makes_own.false) source.0 index.0 (ap (option_map size.Bits) bits.0 ∙ sym c.counted-long.ensures) (c.in_err-make_field.ensures.means (calls_of c.args.here around) log))); next = tt })

pub returns-in_err-make_field-clause-falls : goal.returns-in_err-make_field-clause-falls
returns-in_err-make_field-clause-falls c = omega (arith, c.in_ok-take_step.ensures.falls, c.in_err-make_field.ensures.steps)

pub name_end-requires : goal.name_end-requires
name_end-requires c =
    let around = around_there (shown c.args.here.scene.now.namespace.now) in
    let k = counted_field (count_of c.args.here.scene.now) c.args.bytes.now c.requires.own c.args.at c.requires.stop c.requires.parts c.requires.lie in
    let source = c.in-Some.ensures around k.a k.lies in
    let index = c.in-Some-literal_there.ensures k.i (term_behind (count_of c.args.here.scene.now) c.args.bytes.now (stop_of k.a) c.in-Some.index k.i source.1 k.index) in
    let bits = c.in-Some-literal_there-2.ensures k.b (term_behind (count_of c.args.here.scene.now) c.args.bytes.now (stop_of k.i) c.in-Some-literal_there.size k.b index.1 k.bits) in
    rw (← bits.1) (is_read k.name.spelt)

pub returns-clause-means : goal.returns-clause-means
returns-clause-means c = λ around log stop parts lie.
    let k = counted_field (count_of c.args.here.scene.now) c.args.bytes.now c.args.own c.args.at stop parts lie in
    let source = c.in-Some.ensures around k.a k.lies in
    let index = c.in-Some-literal_there.ensures k.i (term_behind (count_of c.args.here.scene.now) c.args.bytes.now (stop_of k.a) c.in-Some.index k.i source.1 k.index) in
    let bits = c.in-Some-literal_there-2.ensures k.b (term_behind (count_of c.args.here.scene.now) c.args.bytes.now (stop_of k.i) c.in-Some-literal_there.size k.b index.1 k.bits) in
    record {
      runs = runs_then _ (c.in_ok-take_step.ensures.means log) (rw (counted_is (count_of c.args.here.scene.now) (setting_of c.args.here around) c.args.bytes.now c.args.own c.args.at stop parts k) (make_counted (setting_of c.args.here around) c.args.own _ _ _ _ _ _ _ (ap (makes_own (setting_of c.args.here around)) bits.1 ∙ sym (c.makes_own.ensures (calls_of c.args.here around)) ∙ c.if-not-makes_own.false) source.0 index.0 (ap (option_map size.Bits) bits.0 ∙ sym c.counted-long.ensures) (c.in_ok-make_field.ensures.means (calls_of c.args.here around) log)));
      next = counted_stops (count_of c.args.here.scene.now) (setting_of c.args.here around) c.args.bytes.now c.args.own c.args.at stop parts c.name_end.result k (rw bits.1 c.name_end.ensures.is);
    }

pub returns-clause-falls : goal.returns-clause-falls
returns-clause-falls c = omega (arith, c.in_ok-take_step.ensures.falls, c.in_ok-make_field.ensures.steps)
