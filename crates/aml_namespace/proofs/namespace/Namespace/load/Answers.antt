use Rattle.std.proofs.Common.{List, ℕ, length, sym, ap, ◌∙◌, subst}
use Rattle.aml_namespace.specs.Bodies.{BodiesWithin}
use Rattle.aml_objects.specs.Entries.{Entries}
use Rattle.aml_objects.specs.Kept.{entries_seen}
use Rattle.aml_namespace.specs.Load.{AllMake}
use Rattle.aml_objects.specs.Settled.{settled}
use Rattle.aml_namespace.specs.Shows.{bytes_in}
use Rattle.aml_namespace.proofs.Settling.{settled_bodies}
use Rattle.aml_namespace.proofs.Sound.{bodies_within}
use Rattle.aml_namespace.proofs.namespace.Namespace.load.Goals as goal

-- the bodies lie within the tables that are kept
pub invariant_of-result-clause-bodies : goal.invariant_of-result-clause-bodies
invariant_of-result-clause-bodies c =
    let tables = bytes_in c.args.tables.now in
    let entries = entries_seen c.load_tables.new.objects in
    let made = subst (λ (before : Entries). AllMake 0 tables before entries) c.in_ok-objects.ensures c.in-Ok.ensures.0 in
    let settled_are = c.in_ok-settle.ensures.ok ∙ ap (settled tables) c.settle_chains.ensures in
    let within = settled_bodies tables entries (bodies_within tables (length c.args.host.os.now) entries made) in
    let kept = subst (BodiesWithin tables) (sym settled_are) within in
    subst (λ (ts : List (List ℕ)). BodiesWithin ts (entries_seen c.settle.new.self)) (ap bytes_in (sym c.in_ok-from_slice.ensures.items)) kept
