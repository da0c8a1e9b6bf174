use Rattle.std.proofs.Common.{◌≡◌, ◌≤◌, ◌+◌, ◌-◌, length, Option, subst, sym, arith}
use Rattle.aml_known.specs.declared.known.ElementKnown.{ElementKnown}
use Rattle.aml_shapes.proofs.PlaceJoins.{JoinsFrom, from_full, from_more, from_unset}
use Rattle.aml_shapes.proofs.joined.joined_places.Goals as goal
use Rattle.aml_shapes.proofs.joined.joined_places.Goals.{then-left-key, else-left-key}

pub loop-left-init : goal.loop-left-init
loop-left-init c =
    let count = c.args.key.now.places in
    let parts = c.args.key.now.parts.items in
    let left = c.len-left.result in
    let within : left ≤ length parts = omega arith in
    let all : length parts ≤ left = omega arith in (
      within,
      elim c.if-left-key.branch [
        | then-left-key w ↦ subst (λ (joined : Option ElementKnown). JoinsFrom joined count parts left) (sym w.joined-is) (from_full count parts left all (omega arith))
        | else-left-key w ↦ subst (λ (joined : Option ElementKnown). JoinsFrom joined count parts left) (sym w.joined-is) (from_unset count parts left all (omega arith))
      ],
    )

pub loop-left-preserved : goal.loop-left-preserved
loop-left-preserved c =
    let count = c.args.key.now.places in
    let parts = c.args.key.now.parts.items in
    let i = c.loop-left.left - 1 in
    let next : i + 1 ≡ c.loop-left.left = omega arith in
    (omega arith, from_more count parts i c.index.result.now c.index.result.now c.loop-left.joined c.joined_with.result c.known.result (omega arith) (omega arith) c.index.ensures c.known.ensures c.joined_with.ensures (subst (λ n. JoinsFrom c.loop-left.joined count parts n) (sym next) c.loop-left.invariant.1))
