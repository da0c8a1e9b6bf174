use Rattle.std.proofs.Common.{arith}
use Rattle.aml_paths.specs.declared.scope.ObjectId.{ObjectId}
use Rattle.aml_calls.proofs.GoingOn.{among_at}
use Rattle.aml_components.proofs.Raising.{begins_more}
use Rattle.aml_components.proofs.heights.first_heights.Goals as goal

pub index_mut-requires : goal.index_mut-requires
index_mut-requires c =
    let row = c.args.endless.now in
    let none : ObjectId = record { 0 = 0 } in
    let below = c.requires _ (among_at row c.endless.method-index none c.endless-test.true) in
    omega (arith, below, c.endless.invariant.sized, c.endless.heights.ok.0)

pub endless-preserved : goal.endless-preserved
endless-preserved c =
    let row = c.args.endless.now in
    let none : ObjectId = record { 0 = 0 } in
    let below = c.requires _ (among_at row c.endless.method-index none c.endless-test.true) in
    begins_more row c.endless.method-index none c.args.room c.endless.heights.items
    c.endless-test.true below c.endless.invariant
