use Rattle.std.proofs.Common.{◌∙◌, ap, sym}
use Rattle.aml_operators.specs.Tree.{views}
use Rattle.aml_meaning.specs.declared.action.Action.TheVariants as does
use Rattle.aml_bounds.specs.Shapes.{targets}
use Rattle.aml_targets.proofs.Written.{changed, last_of_four, second_of_two, third_of_three}
use Rattle.aml_targets.proofs.operands.written_parts.Goals as goal

pub returns-in-Binary : goal.returns-in-Binary
returns-in-Binary c = λ is.
    let taken = c.parts_from in
    ap (λ a. targets is a (views c.args.parts.now)) (sym c.action_of.ensures ∙ c.in-Binary.is)
    ∙ third_of_three is (does.Binary c.in-Binary.field-0) c.args.parts.now taken.result.now tt (record { some = taken.ensures.some; others = taken.ensures.others })

pub returns-in-Concatenate : goal.returns-in-Concatenate
returns-in-Concatenate c = λ is.
    let taken = c.parts_from-in-Concatenate in
    ap (λ a. targets is a (views c.args.parts.now)) (sym c.action_of.ensures ∙ c.in-Concatenate.is)
    ∙ third_of_three is does.Concatenate c.args.parts.now taken.result.now tt (record { some = taken.ensures.some; others = taken.ensures.others })

pub returns-in-Index : goal.returns-in-Index
returns-in-Index c = λ is.
    let taken = c.parts_from-in-Index in
    ap (λ a. targets is a (views c.args.parts.now)) (sym c.action_of.ensures ∙ c.in-Index.is)
    ∙ third_of_three is does.Index c.args.parts.now taken.result.now tt (record { some = taken.ensures.some; others = taken.ensures.others })

pub returns-in-Unary : goal.returns-in-Unary
returns-in-Unary c = λ is.
    let taken = c.parts_from-in-Unary in
    ap (λ a. targets is a (views c.args.parts.now)) (sym c.action_of.ensures ∙ c.in-Unary.is)
    ∙ second_of_two is (does.Unary c.in-Unary.field-0) c.args.parts.now taken.result.now tt (record { some = taken.ensures.some; others = taken.ensures.others })

pub returns-in-Convert : goal.returns-in-Convert
returns-in-Convert c = λ is.
    let taken = c.parts_from-in-Convert in
    ap (λ a. targets is a (views c.args.parts.now)) (sym c.action_of.ensures ∙ c.in-Convert.is)
    ∙ second_of_two is (does.Convert c.in-Convert.field-0) c.args.parts.now taken.result.now tt (record { some = taken.ensures.some; others = taken.ensures.others })

pub returns-in-Store : goal.returns-in-Store
returns-in-Store c = λ is.
    let taken = c.parts_from-in-Store in
    ap (λ a. targets is a (views c.args.parts.now)) (sym c.action_of.ensures ∙ c.in-Store.is)
    ∙ second_of_two is does.Store c.args.parts.now taken.result.now tt (record { some = taken.ensures.some; others = taken.ensures.others })

pub returns-in-CondRefOf : goal.returns-in-CondRefOf
returns-in-CondRefOf c = λ is.
    let taken = c.parts_from-in-CondRefOf in
    ap (λ a. targets is a (views c.args.parts.now)) (sym c.action_of.ensures ∙ c.in-CondRefOf.is)
    ∙ second_of_two is does.CondRefOf c.args.parts.now taken.result.now tt (record { some = taken.ensures.some; others = taken.ensures.others })

pub returns-in-ByOne : goal.returns-in-ByOne
returns-in-ByOne c = λ is.
    let taken = c.parts_from-in-ByOne in
    ap (λ a. targets is a (views c.args.parts.now)) (sym c.action_of.ensures ∙ c.in-ByOne.is)
    ∙ changed is (does.ByOne c.in-ByOne.field-0) c.args.parts.now taken.result.now tt (record { some = taken.ensures.some; others = taken.ensures.others })

pub returns-in-Divide : goal.returns-in-Divide
returns-in-Divide c = λ is.
    let taken = c.parts_from-in-Divide in
    ap (λ a. targets is a (views c.args.parts.now)) (sym c.action_of.ensures ∙ c.in-Divide.is)
    ∙ last_of_four is c.args.parts.now taken.result.now (record { some = taken.ensures.some; others = taken.ensures.others })
