-- What a term makes, by its operator and its parts.
use Rattle.std.proofs.Common.{◌≡◌, ap, ◌∙◌}
use Rattle.aml_operators.specs.declared.op.Op.{Op}
use Rattle.aml_operators.specs.declared.op.Op.TheVariants as op
use Rattle.aml_operators.specs.declared.term.Term.{Term}
use Rattle.aml_operators.specs.declared.term.Term.TheViews.{out-Term}
use Rattle.aml_operators.specs.Tree.{Tree, Trees, Node, more, view, views}
use Rattle.aml_operators.proofs.Views.{view_out}
use Rattle.aml_objects.specs.declared.object.Object.TheVariants as object
use Rattle.aml_namespace.specs.Define.{all_defined, defined, holding, reopening}
use Rattle.aml_objects.specs.Enter.{Here}
use Rattle.aml_objects.specs.Entries.{Entries}
use Rattle.aml_namespace.specs.Externals.{all_declared, declared, declared_holding, declared_reopening}

module _ (here : Here) (entries : Entries) (t : Term) where
  -- a term by its operator and its parts
  as_node : (o : Op) (parts : Trees) → (out-Term t).op ≡ o → views (out-Term t).parts.items ≡ parts → view t ≡ Node o (out-Term t).at (out-Term t).end parts
  as_node o parts is are =
      view_out t ∙ ap (λ (p : Op). Node p (out-Term t).at (out-Term t).end (views (out-Term t).parts.items)) is ∙ ap (Node o (out-Term t).at (out-Term t).end) are

  pub defined_scope : (name : Tree) (body : Trees) → (out-Term t).op ≡ op.Scope → views (out-Term t).parts.items ≡ more name body → defined here entries (view t) ≡ reopening here entries name (λ inner. all_defined inner entries body)
  defined_scope name body is are = ap (defined here entries) (as_node op.Scope (more name body) is are)

  pub defined_device : (name : Tree) (body : Trees) → (out-Term t).op ≡ op.Device → views (out-Term t).parts.items ≡ more name body → defined here entries (view t) ≡ holding here entries object.Device name (λ inner es. all_defined inner es body)
  defined_device name body is are = ap (defined here entries) (as_node op.Device (more name body) is are)

  pub defined_zone : (name : Tree) (body : Trees) → (out-Term t).op ≡ op.ThermalZone → views (out-Term t).parts.items ≡ more name body → defined here entries (view t) ≡ holding here entries object.ThermalZone name (λ inner es. all_defined inner es body)
  defined_zone name body is are = ap (defined here entries) (as_node op.ThermalZone (more name body) is are)

  pub defined_power : (name level order : Tree) (body : Trees) → (out-Term t).op ≡ op.PowerResource → views (out-Term t).parts.items ≡ more name (more level (more order body)) → defined here entries (view t) ≡ holding here entries object.PowerResource name (λ inner es. all_defined inner es body)
  defined_power name level order body is are = ap (defined here entries) (as_node op.PowerResource (more name (more level (more order body))) is are)

  pub defined_processor : (name id block size : Tree) (body : Trees) → (out-Term t).op ≡ op.Processor → views (out-Term t).parts.items ≡ more name (more id (more block (more size body))) → defined here entries (view t) ≡ holding here entries object.Processor name (λ inner es. all_defined inner es body)
  defined_processor name id block size body is are = ap (defined here entries) (as_node op.Processor (more name (more id (more block (more size body)))) is are)

  pub declared_scope : (name : Tree) (body : Trees) → (out-Term t).op ≡ op.Scope → views (out-Term t).parts.items ≡ more name body → declared here entries (view t) ≡ declared_reopening here entries name (λ inner. all_declared inner entries body)
  declared_scope name body is are = ap (declared here entries) (as_node op.Scope (more name body) is are)

  pub declared_device : (name : Tree) (body : Trees) → (out-Term t).op ≡ op.Device → views (out-Term t).parts.items ≡ more name body → declared here entries (view t) ≡ declared_holding here entries object.Device name (λ inner es. all_declared inner es body)
  declared_device name body is are = ap (declared here entries) (as_node op.Device (more name body) is are)

  pub declared_zone : (name : Tree) (body : Trees) → (out-Term t).op ≡ op.ThermalZone → views (out-Term t).parts.items ≡ more name body → declared here entries (view t) ≡ declared_holding here entries object.ThermalZone name (λ inner es. all_declared inner es body)
  declared_zone name body is are = ap (declared here entries) (as_node op.ThermalZone (more name body) is are)

  pub declared_power : (name level order : Tree) (body : Trees) → (out-Term t).op ≡ op.PowerResource → views (out-Term t).parts.items ≡ more name (more level (more order body)) → declared here entries (view t) ≡ declared_holding here entries object.PowerResource name (λ inner es. all_declared inner es body)
  declared_power name level order body is are = ap (declared here entries) (as_node op.PowerResource (more name (more level (more order body))) is are)

  pub declared_processor : (name id block size : Tree) (body : Trees) → (out-Term t).op ≡ op.Processor → views (out-Term t).parts.items ≡ more name (more id (more block (more size body))) → declared here entries (view t) ≡ declared_holding here entries object.Processor name (λ inner es. all_declared inner es body)
  declared_processor name id block size body is are = ap (declared here entries) (as_node op.Processor (more name (more id (more block (more size body)))) is are)
