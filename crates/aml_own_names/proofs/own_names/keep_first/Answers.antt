use Rattle.std.proofs.Common.{ℕ, Some, sym, ◌∙◌, subst}
use Rattle.std.specs.BTreeMap.{Updates, get}
use Rattle.aml_lex.specs.Order.{segment_order}
use Rattle.aml_own_names.proofs.OwnFirsts.{firsts_more, firsts_same}
use Rattle.aml_paths.proofs.Options.{none_in, some_in}
use Rattle.aml_own_names.proofs.own_names.keep_first.Goals as goal

pub returns-then-contains_key : goal.returns-then-contains_key
returns-then-contains_key c = λ owns number held.
    let firsts = c.args.firsts.now in
    let own = c.args.own in
    let known = some_in (get segment_order firsts own.segment) (sym c.contains_key.ensures ∙ c.if-contains_key.true) in
    firsts_same owns own firsts held known.0 known.1

pub returns : goal.returns
returns c = λ owns number held.
    let firsts = c.args.firsts.now in
    let own = c.args.own in
    let absent = none_in (get segment_order firsts own.segment) (sym c.contains_key.ensures ∙ c.if-contains_key.false) in
    let updates = subst (λ (n : ℕ). Updates segment_order firsts c.insert.new.self own.segment (Some n)) number c.in_ok-insert.ensures.updates in
    firsts_more owns own firsts held c.insert.new.self absent updates
