use Rattle.std.proofs.Common.{◌≡◌, List, [], length, take, sym, subst, arith}
use Rattle.std.proofs.lemmas.List.{length-take, take_more}
use Rattle.aml_own_names.specs.declared.own_names.OwnName.{OwnName}
use Rattle.aml_own_names.specs.OwnNames.{HasFirsts}
use Rattle.aml_own_names.proofs.own_names.firsts_of.Goals as goal

pub loop-number-preserved : goal.loop-number-preserved
loop-number-preserved c =
    let owns = c.args.owns.now in
    let n = c.loop-number.number in
    let nothing : OwnName = record { segment = record { bytes = [] }; from = 0 } in
    let count : n ≡ length (take n owns) = omega (arith, length-take n owns, c.loop-number-test.true) in
    let kept = c.in_ok-keep_first.ensures (take n owns) count c.loop-number.invariant in
    subst (λ (os : List OwnName). HasFirsts c.keep_first.new.firsts os) (sym (take_more owns n nothing c.loop-number-test.true)) kept
