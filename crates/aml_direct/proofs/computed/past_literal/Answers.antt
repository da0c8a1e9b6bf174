use Rattle.std.proofs.Common.{sym, ◌∙◌, ap}
use Rattle.aml_operators.specs.Tree.{stop_of}
use Rattle.aml_direct.proofs.Sizes.{literal_size, named_size, other_size, size_parts}
use Rattle.aml_direct.proofs.Terms.{own_literal}
use Rattle.aml_direct.proofs.computed.past_literal.Goals as goal

pub returns-in_default : goal.returns-in_default
returns-in_default c = record { told = tt; computed = λ s. named_size c.args.bytes.now c.args.at (sym c.op_at.ensures.is ∙ c.in_default.is) s }

pub literal_number-requires-clause-literal : goal.literal_number-requires-clause-literal
literal_number-requires-clause-literal c = own_literal _ _ (sym c.action_of.ensures ∙ c.in-Literal.is)

pub literal_number-requires-clause-there : goal.literal_number-requires-clause-there
literal_number-requires-clause-there c = (size_parts c.args.bytes.now c.args.at c.in-Some.op c.in-Some.next (sym c.op_at.ensures.is ∙ c.in-Some.is) c.requires).0

pub returns-in-Literal-clause-told : goal.returns-in-Literal-clause-told
returns-in-Literal-clause-told c = λ s.
    let is = sym c.op_at.ensures.is ∙ c.in-Some.is in
    let p = size_parts c.args.bytes.now c.args.at c.in-Some.op c.in-Some.next is s in
    (literal_size c.args.bytes.now c.args.at c.in-Some.op c.in-Some.next c.literal_number.result.0 is c.literal_number.ensures.number s, ap stop_of p.1 ∙ c.literal_number.ensures.place p.0)

pub returns-in_default-action_of : goal.returns-in_default-action_of
returns-in_default-action_of c = record {
  told = tt;
  computed = λ s. other_size c.args.bytes.now c.args.at c.in-Some.op c.in-Some.next (sym c.op_at.ensures.is ∙ c.in-Some.is) (λ e. c.in_default-action_of.not-Literal _ (c.action_of.ensures ∙ e)) s;
}
