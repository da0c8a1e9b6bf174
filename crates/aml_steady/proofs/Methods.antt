-- Statements, methods and calls have what all parts have.
use Rattle.std.proofs.Common.{ℕ, zero, suc, List, Option, Some, None}
use Rattle.std.specs.Option.{option_map}
use Rattle.aml_operators.specs.Literal.{literal_of}
use Rattle.aml_operators.specs.Tree.{Tree, Trees, Node, none, more}
use Rattle.aml_namespace.specs.declared.link.Link.{Link}
use Rattle.aml_namespace.specs.declared.link.Link.TheVariants as link
use Rattle.aml_objects.specs.declared.object.CreatedFieldSize.{CreatedFieldSize}
use Rattle.aml_objects.specs.declared.object.CreatedFieldSize.TheVariants as size
use Rattle.aml_values.specs.Values.{Value}
use Rattle.aml_meaning.specs.declared.definition.Definition.{Definition}
use Rattle.aml_meaning.specs.declared.definition.Definition.TheVariants as makes
use Rattle.aml_meaning.specs.declared.error.AmlCause.TheVariants as why
use Rattle.aml_meaning.specs.declared.buffer_field.BufferField.{BufferField}
use Rattle.aml_meaning.specs.State.{error}
use Rattle.aml_meaning.specs.Parts.{M, tick, stop_with}
use Rattle.aml_meaning.specs.BufferFields.{made_buffer_field}
use Rattle.aml_meaning.specs.Calls.{framed}
use Rattle.aml_meaning.specs.Rules.{Place}
use Rattle.aml_meaning.specs.Meaning.{Setting, at_of, mean, outside, value}
use Rattle.aml_meaning.specs.Definitions.{definition, source_of, makes_own, define, own_source, field_source, make_field, made, defined, stated, statement, mean_body, mean_method}
use Rattle.aml_meaning.specs.Within.{Callee, Methods, call_within, callee_or, setting_for}
use Rattle.aml_steady.proofs.Closed.{CallsHave, Closed, has_choice, has_define_field, has_define_own}
use Rattle.aml_steady.proofs.Names.{has_outside}
use Rattle.aml_steady.proofs.Terms.{has_mean, has_value}

-- the source of a field of a buffer, and the field that is made
module _ (Has : (V : Type 0) → M V → Type 0) (is : Closed Has) (here : Setting) where
  pub has_own_source : (at k : ℕ) (field : Option BufferField) → Has _ (own_source here at k field)
  has_own_source at k None = is.gives _
  has_own_source at k (Some f) = has_outside Has is here Link at

  pub has_field_source : (at : ℕ) (l : Link) → Has _ (field_source here at l)
  has_field_source at (link.Data id) = is.gives _
  has_field_source at (link.Own k) = is.joined _ _ (is.reads_own_field k) (λ f. has_own_source at k f)
  has_field_source at other = has_outside Has is here Link at

  pub has_make_field : (at : ℕ) (from index : Option ℕ) (counted : Option CreatedFieldSize) → Has _ (make_field here at from index counted)
  has_make_field at (Some from) (Some index) (Some counted) =
      is.joined _ _ (has_field_source at (here.link from)) (λ source. has_define_field Has is here.width (made_buffer_field here.width source counted index))
  has_make_field at from index counted = has_outside Has is here (Unit {0}) at

module _ (Has : (V : Type 0) → M V → Type 0) (is : Closed Has) (here : Setting) (calls : CallsHave Has here.call) where
  pub has_define : (held : Tree) → Has _ (define here held)
  has_define held = is.joined (value here held) _ (has_value Has is here calls held) (λ v. has_define_own Has is here.width v)

  pub has_made : (what : Definition) (at : ℕ) (parts : Trees) → Has _ (made here what at parts)
  has_made makes.Name at (more name (more held none)) =
      has_choice Has is (makes_own here (at_of name)) (define here held) (outside here at) (has_define held) (has_outside Has is here (Unit {0}) at)
  has_made (makes.Field counted) at (more source (more index (more name none))) =
      has_choice Has is (makes_own here (at_of name)) (make_field here at (source_of source) (literal_of index) (Some counted)) (outside here at)
      (has_make_field Has is here at (source_of source) (literal_of index) (Some counted)) (has_outside Has is here (Unit {0}) at)
  has_made makes.CountedField at (more source (more index (more count (more name none)))) =
      has_choice Has is (makes_own here (at_of name)) (make_field here at (source_of source) (literal_of index) (option_map size.Bits (literal_of count))) (outside here at)
      (has_make_field Has is here at (source_of source) (literal_of index) (option_map size.Bits (literal_of count))) (has_outside Has is here (Unit {0}) at)
  has_made what at parts = has_outside Has is here (Unit {0}) at

  pub has_defined : (what : Definition) (at : ℕ) (parts : Trees) → Has _ (defined here what at parts)
  has_defined what at parts = is.joined tick _ is.ticks (λ u. has_made what at parts)

  pub has_stated : (what : Definition) (t : Tree) → Has _ (stated here what t)
  has_stated makes.Nothing t = is.joined (mean here t) _ (has_mean Has is here calls t) (λ v. is.gives tt)
  has_stated makes.Name (Node op at stop parts) = has_defined makes.Name at parts
  has_stated (makes.Field counted) (Node op at stop parts) = has_defined (makes.Field counted) at parts
  has_stated makes.CountedField (Node op at stop parts) = has_defined makes.CountedField at parts

  pub has_statement : (t : Tree) → Has _ (statement here t)
  has_statement (Node op at stop parts) = has_stated (definition op) (Node op at stop parts)

  pub has_mean_body : (ts : Trees) → Has _ (mean_body here ts)
  has_mean_body none = is.gives tt
  has_mean_body (more t ts) = is.joined (statement here t) _ (has_statement t) (λ u. has_mean_body ts)

  pub has_mean_method : (body : Trees) → Has _ (mean_method here body)
  has_mean_method body = is.joined (mean_body here body) _ (has_mean_body body) (λ u. is.holds_none here.table here.opcode)

module _ (Has : (V : Type 0) → M V → Type 0) (is : Closed Has) where
  pub has_callee_or : (p : Place) (m : Option Callee) (enter : Callee → M (Option Value)) → ((c : Callee) → Has _ (enter c)) → Has _ (callee_or p m enter)
  has_callee_or p None enter h = is.stops (Option Value) (error why.Outside p.table p.at)
  has_callee_or p (Some m) enter h = h m

  pub has_call_within : (methods : Methods) (within : ℕ) (p : Place) (k : ℕ) (values : List Value) → Has _ (call_within methods within p k values)
  unfolding call_within
  has_call_within methods zero p k values =
      has_callee_or p (methods.callee k) (λ m. stop_with (error why.Depth p.table p.at)) (λ m. is.stops (Option Value) (error why.Depth p.table p.at))
  has_call_within methods (suc d) p k values =
      has_callee_or p (methods.callee k) (λ m. framed m.table values (mean_method (setting_for methods (call_within methods d) m) m.body))
      (λ m. is.frames m.table values (mean_method (setting_for methods (call_within methods d) m) m.body)
      (has_mean_method Has is (setting_for methods (call_within methods d) m) (has_call_within methods d) m.body))
