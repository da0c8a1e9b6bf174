use Rattle.std.proofs.Common.{◌∙◌, sym, ap}
use Rattle.aml_operators.specs.Literal.{literal_of}
use Rattle.aml_operators.specs.Tree.{stop_of}
use Rattle.aml_places.proofs.Inversion.{form}
use Rattle.aml_quick.specs.Settings.{count_of}
use Rattle.aml_direct.proofs.Fields.{literal_itself, named_number, other_number, parts_there}
use Rattle.aml_direct.proofs.define.literal_there.Goals as goal

pub returns-in_err-op : goal.returns-in_err-op
returns-in_err-op c = λ t lies. rw c.from_residual.ensures (named_number (count_of c.args.here.scene.now) c.args.bytes.now c.args.at t lies (sym c.in_err-op.ensures.is))

pub literal_number-requires-clause-literal : goal.literal_number-requires-clause-literal
literal_number-requires-clause-literal c = literal_itself c.in_ok-op.op c.in-Literal.field-0 (sym c.action_of.ensures ∙ c.in-Literal.is)

pub literal_number-requires-clause-there : goal.literal_number-requires-clause-there
literal_number-requires-clause-there c =
    let is = sym c.in_ok-op.ensures.is in
    let f = form (count_of c.args.here.scene.now) c.args.bytes.now c.args.at c.in_ok-op.op c.in_ok-op.next is c.requires.it c.requires.lies in
    parts_there (count_of c.args.here.scene.now) c.args.bytes.now c.args.at c.in_ok-op.op c.in_ok-op.next c.requires.it is f

pub returns-in-Literal : goal.returns-in-Literal
returns-in-Literal c = λ t lies.
    let is = sym c.in_ok-op.ensures.is in
    let f = form (count_of c.args.here.scene.now) c.args.bytes.now c.args.at c.in_ok-op.op c.in_ok-op.next is t lies in
    let there = parts_there (count_of c.args.here.scene.now) c.args.bytes.now c.args.at c.in_ok-op.op c.in_ok-op.next t is f in
    (ap literal_of f.is ∙ c.literal_number.ensures.number there, ap stop_of f.is ∙ c.literal_number.ensures.place there)

pub returns-in_default : goal.returns-in_default
returns-in_default c = λ t lies.
    other_number (count_of c.args.here.scene.now) c.args.bytes.now c.args.at t lies c.in_ok-op.op c.in_ok-op.next (sym c.in_ok-op.ensures.is)
    (λ x e. c.in_default.not-Literal x (c.action_of.ensures ∙ e))
