use Rattle.std.proofs.Common.{◌≡◌, ◌∙◌, ap, sym, arith}
use Rattle.aml_operators.specs.Literal.{literal_of}
use Rattle.aml_operators.specs.Tree.{stop_of}
use Rattle.aml_literals.proofs.Terms.{size_is_op, size_literal, size_op, size_within}
use Rattle.aml_literals.proofs.numbers.literal_at.Goals as goal

pub unreachable-requires : goal.unreachable-requires
unreachable-requires c =
    size_is_op c.args.bytes.now c.args.at (sym c.op_at.ensures.is ∙ c.in_default.is) c.requires

pub literal_number-requires-clause-literal : goal.literal_number-requires-clause-literal
literal_number-requires-clause-literal c =
    size_literal c.args.bytes.now c.args.at c.in-Some.op c.in-Some.next (sym c.op_at.ensures.is ∙ c.in-Some.is) c.requires

pub literal_number-requires-clause-there : goal.literal_number-requires-clause-there
literal_number-requires-clause-there c =
    (size_op c.args.bytes.now c.args.at c.in-Some.op c.in-Some.next (sym c.op_at.ensures.is ∙ c.in-Some.is) c.requires).parts

pub returns-clause-number : goal.returns-clause-number
returns-clause-number c = λ s.
    let is = size_op c.args.bytes.now c.args.at c.in-Some.op c.in-Some.next (sym c.op_at.ensures.is ∙ c.in-Some.is) s in
    ap literal_of is.is ∙ c.literal_number.ensures.number is.parts

pub returns-clause-place : goal.returns-clause-place
returns-clause-place c = λ s.
    let is = size_op c.args.bytes.now c.args.at c.in-Some.op c.in-Some.next (sym c.op_at.ensures.is ∙ c.in-Some.is) s in
    ap stop_of is.is ∙ c.literal_number.ensures.place is.parts

pub returns-clause-ahead : goal.returns-clause-ahead
returns-clause-ahead c =
    let s = c.requires in
    let is = size_op c.args.bytes.now c.args.at c.in-Some.op c.in-Some.next (sym c.op_at.ensures.is ∙ c.in-Some.is) s in
    let w = size_within c.args.bytes.now c.args.at s in
    let place : stop_of s.tree ≡ c.literal_number.result.1 = ap stop_of is.is ∙ c.literal_number.ensures.place is.parts in
    omega (arith, w, place)

pub returns-clause-within : goal.returns-clause-within
returns-clause-within c =
    let s = c.requires in
    let is = size_op c.args.bytes.now c.args.at c.in-Some.op c.in-Some.next (sym c.op_at.ensures.is ∙ c.in-Some.is) s in
    let w = size_within c.args.bytes.now c.args.at s in
    let place : stop_of s.tree ≡ c.literal_number.result.1 = ap stop_of is.is ∙ c.literal_number.ensures.place is.parts in
    omega (arith, w, place)
