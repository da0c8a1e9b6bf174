use Rattle.std.proofs.Common.{◌∙◌, ◌+◌, Vec, List, ℕ, sym, ap, subst}
use Rattle.std.specs.declared.alloc.Global.{Global}
use Rattle.aml_paths.specs.declared.scope.ObjectId.{ObjectId}
use Rattle.aml_calls.specs.Pairs.{numbers}
use Rattle.aml_calls.specs.Search.{is_begun}
use Rattle.aml_calls.proofs.GoingOn.{numbers_push}
use Rattle.aml_calls.proofs.Others.{left_all, left_more, left_same, LeftSoFar, mark_any}
use Rattle.aml_calls.proofs.order.others.Goals as goal
use Rattle.aml_calls.proofs.order.others.Goals.{then-is_begun+in_ok-push, else-is_begun}

pub marks-preserved : goal.marks-preserved
marks-preserved c =
    let marks = c.args.marks.now in
    let i = c.marks.number in
    let ks = numbers c.marks.others.items in
    let mark = ap is_begun (mark_any marks i _ c.marks-test.true) ∙ sym c.is_begun.ensures in
    elim c.if-is_begun.branch [
      | then-is_begun+in_ok-push w ↦ subst (λ (v : Vec ObjectId Global). LeftSoFar marks (i + 1) (numbers v.items)) (sym w.others-is)
          (subst (λ (js : List ℕ). LeftSoFar marks (i + 1) js) (sym (ap numbers w.in_ok-push.ensures.items ∙ numbers_push c.marks.others.items _)) (left_more marks i ks c.marks-test.true (mark ∙ w.if-is_begun.true) c.marks.invariant))
      | else-is_begun w ↦ subst (λ (v : Vec ObjectId Global). LeftSoFar marks (i + 1) (numbers v.items)) (sym w.others-is) (left_same marks i ks c.marks-test.true (mark ∙ w.if-is_begun.false) c.marks.invariant)
    ]

pub returns : goal.returns
returns c = left_all c.args.marks.now c.marks.number (numbers c.marks.others.items) c.marks-test.false c.marks.auto.number-end c.marks.invariant
