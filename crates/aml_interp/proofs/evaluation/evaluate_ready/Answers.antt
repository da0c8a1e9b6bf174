use Rattle.std.proofs.Common.{◌≡◌, Some, ◌∙◌, ap, sym, map}
use Rattle.aml_interp.proofs.Answered.{answers_by, kinds_stay, memory_told, refused_told, value_told, wants_by}
use Rattle.aml_interp.proofs.Taken.{taken}
use Rattle.aml_interp.proofs.evaluation.evaluate_ready.Goals as goal
use Rattle.aml_interp.specs.Answers.{bound_of}
use Rattle.aml_machine.specs.Views.{names_of}
use Rattle.aml_values.specs.Views.{view}

pub unreachable-requires : goal.unreachable-requires
unreachable-requires g c =
    let t = taken _ _ c.requires.accepted in
    let e : Some t.0.bound ≡ c.bound_of.result = sym t.2 ∙ ap bound_of (sym c.verdict.ensures) ∙ sym c.bound_of.ensures in
    cc

pub evaluate_direct-answer-requires-clause-known : goal.evaluate_direct-answer-requires-clause-known
evaluate_direct-answer-requires-clause-known g c =
    let t = taken _ _ c.requires.accepted in
    rw c.namespace-namespace.ensures (c.requires.ready.there c.args.method.0 t.0 t.1)

pub evaluate_direct-answer-requires-clause-kept : goal.evaluate_direct-answer-requires-clause-kept
evaluate_direct-answer-requires-clause-kept g c = rw (c.namespace-namespace.ensures, c.kept_bodies-kept.ensures) c.requires.ready.sound

pub evaluate_direct-answer-requires-clause-first : goal.evaluate_direct-answer-requires-clause-first
evaluate_direct-answer-requires-clause-first g c =
    let t = taken _ _ c.requires.accepted in
    rw c.kept_bodies-kept.ensures (c.requires.ready.kept c.args.method.0 t.0 t.1)

pub returns : goal.returns
returns g c =
    let t = taken _ _ c.requires.accepted in
    let steps : Some c.in-Some.steps ≡ Some t.0.bound = sym c.in-Some.is ∙ c.bound_of.ensures ∙ ap bound_of c.verdict.ensures ∙ t.2 in
    let same : c.in-Some.steps ≡ t.0.bound = cc in
    let evaluates = rw (c.namespace-namespace.ensures, same) at c.evaluate_direct-answer.ensures.means in
    let did = answers_by c.args.checked.now c.args.method.0 (map view c.args.arguments.items) (names_of c.args.names.now) (g.W.World.log c.args.world.now)
    (names_of c.evaluate_direct-answer.new.names) (g.W.World.log c.evaluate_direct-answer.new.world) c.evaluate_direct-answer.result t.0 t.1 evaluates in
    let spares = rw (c.namespace-namespace.ensures, same) at c.evaluate_direct-answer.ensures.spares in
    let wants = wants_by c.args.checked.now c.args.method.0 (map view c.args.arguments.items) (names_of c.args.names.now) (g.W.World.log c.args.world.now)
    (names_of c.evaluate_direct-answer.new.names) (g.W.World.log c.evaluate_direct-answer.new.world) c.evaluate_direct-answer.result t.0 t.1 spares in
    record {
      done = rw c.value_of.ensures (value_told c.args.checked.now c.args.method.0 (map view c.args.arguments.items) (names_of c.args.names.now) (g.W.World.log c.args.world.now)
          (names_of c.evaluate_direct-answer.new.names) (g.W.World.log c.evaluate_direct-answer.new.world) c.evaluate_direct-answer.result did);
      memory = rw c.value_of.ensures (memory_told c.args.checked.now c.args.method.0 (map view c.args.arguments.items) (names_of c.args.names.now) (g.W.World.log c.args.world.now)
          (names_of c.evaluate_direct-answer.new.names) (g.W.World.log c.evaluate_direct-answer.new.world) c.evaluate_direct-answer.result did);
      refused = rw c.value_of.ensures (refused_told c.args.checked.now c.args.method.0 (map view c.args.arguments.items) (names_of c.args.names.now) (g.W.World.log c.args.world.now)
          (names_of c.evaluate_direct-answer.new.names) (g.W.World.log c.evaluate_direct-answer.new.world) c.evaluate_direct-answer.result did wants);
      names = kinds_stay c.args.checked.now c.args.method.0 (map view c.args.arguments.items) (names_of c.args.names.now) (g.W.World.log c.args.world.now)
          (names_of c.evaluate_direct-answer.new.names) (g.W.World.log c.evaluate_direct-answer.new.world) t.0 c.requires.ready t.1 c.evaluate_direct-answer.result evaluates
          ∙ c.requires.names;
    }
