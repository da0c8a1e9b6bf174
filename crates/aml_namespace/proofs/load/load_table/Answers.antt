use Rattle.std.proofs.Common.{◌≡◌, List, ℕ, ◌++◌, map, Ok, refl, subst}
use Rattle.acpi_tables.specs.Table.{IsTableOf}
use Rattle.aml_operators.specs.declared.term.Term.{Term}
use Rattle.aml_operators.specs.Tree.{view, views}
use Rattle.aml_namespace.specs.Define.{all_defined}
use Rattle.aml_namespace.specs.Externals.{all_declared}
use Rattle.aml_objects.specs.Kept.{entries_seen}
use Rattle.aml_namespace.specs.Load.{at_root}
use Rattle.aml_namespace.proofs.load.load_table.Goals as goal

-- the table's terms make and declare this
pub returns-clause-declares : goal.returns-clause-declares
returns-clause-declares c =
    let here = at_root c.args.table c.args.bytes.now in
    let before = entries_seen c.args.objects.now in
    let after = entries_seen c.define_all.new.objects in (
      record {
        table = subst (λ (s : List ℕ). IsTableOf s c.args.bytes.now) c.signature_of.ensures (c.in-Ok.ensures.table.0 refl);
        terms = map view c.in-Ok-read_module.terms.items;
        module_of = c.in-Ok-read_module.ensures;
        makes = subst (λ (ts : List Term). all_defined here before (views ts) ≡ Ok after) c.deref.ensures.value c.in_ok-define_all.ensures.made;
      },
      subst (λ (ts : List Term). c.define_all.new.externals.items ≡ c.args.externals.now.items ++ all_declared here before (views ts)) c.deref.ensures.value c.in_ok-define_all.ensures.declares,
    )
