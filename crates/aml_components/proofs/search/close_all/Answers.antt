use Rattle.std.proofs.Common.{arith}
use Rattle.aml_paths.specs.declared.scope.ObjectId.{ObjectId}
use Rattle.aml_calls.proofs.GoingOn.{among_at}
use Rattle.aml_components.proofs.Cutting.{closed_more}
use Rattle.aml_components.proofs.search.close_all.Goals as goal

pub index_mut-requires : goal.index_mut-requires
index_mut-requires c =
    let row = c.args.methods.now in
    let none : ObjectId = record { 0 = 0 } in
    let below = c.requires _ (among_at row c.methods.method-index none c.methods-test.true) in
    omega (arith, below, c.methods.invariant.sized, c.methods.marks.ok.0, c.args.marks.now.ok.0)

pub methods-preserved : goal.methods-preserved
methods-preserved c =
    let row = c.args.methods.now in
    let none : ObjectId = record { 0 = 0 } in
    let below = c.requires _ (among_at row c.methods.method-index none c.methods-test.true) in
    closed_more row c.methods.method-index none c.args.number c.args.marks.now.items
    c.methods.marks.items c.methods-test.true (omega (arith, below, c.args.marks.now.ok.0))
    c.methods.invariant
