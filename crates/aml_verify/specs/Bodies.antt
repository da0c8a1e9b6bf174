-- What is known around a body, as its judgement has it.
use Rattle.std.specs.Prelude.{◌≡◌, ℕ, List, ◌++◌, ◌∷◌, [], map, not, Option}
use Rattle.std.specs.Option.{option_map}
use Rattle.aml_components.specs.Components.{are_together}
use Rattle.aml_components.specs.declared.components.Components.{Components}
use Rattle.aml_components.specs.Heights.{is_short_in}
use Rattle.aml_components.specs.declared.heights.Heights.{Heights}
use Rattle.aml_contents.specs.Contents.{ContentKinds}
use Rattle.aml_contents.specs.BodyData.{body_data}
use Rattle.aml_judged.specs.Judged.{Around, Seen}
use Rattle.aml_kinds.specs.Kinds.{Shape}
use Rattle.aml_known.specs.declared.known.Known.{Known}
use Rattle.aml_known.specs.Views.{kind_of}
use Rattle.aml_meaning.specs.declared.buffer_field.BufferField.{BufferField}
use Rattle.aml_meaning.specs.BufferFields.{buffer_field_numbered}
use Rattle.aml_meaning.specs.Methods.{is_lone}
use Rattle.aml_meaning.specs.Reached.{field_numbered}
use Rattle.aml_objects.specs.Entries.{object_at}
use Rattle.aml_namespace.specs.Load.{Shown}
use Rattle.aml_namespace.specs.Names.{link_with_owns}
use Rattle.aml_namespace.specs.Shows.{shown}
use Rattle.aml_objects.specs.Widths.{bits_of}
use Rattle.aml_own_names.specs.declared.own_names.OwnName.{OwnName}
use Rattle.aml_own_names.specs.OwnNamesSeen.{owns_seen}
use Rattle.aml_shapes.specs.Numbers.{numbered}
use Rattle.aml_verify.specs.declared.body.Body.{Body}
use Rattle.aml_verify.specs.Said.{accepted_by, verdict_at}
use Rattle.aml_verify.specs.declared.verdict.Verdict.{Verdict}

-- what the method with a number sees of another, by what is said of methods so far
abbrev pub callee_by : List Shape → Heights → Components → List (Option Verdict) → ℕ → ℕ → Seen
callee_by shapes heights components verdicts k j = record {
  reaches = are_together components j k;
  deep = not (is_short_in heights 63 j);
  accepted = accepted_by (numbered shapes) (verdict_at verdicts j);
}

abbrev pub kinds_by : List Shape → List (Option Known) → ContentKinds
kinds_by shapes ks = map (option_map (kind_of (numbered shapes))) ks

-- what is known around the body of the method with a number, in a namespace: its table and its
-- bytes, its own names, and of those that are made so far what they hold and which fields they are
module _ (ns : Shown) (shapes : List Shape) (shared : List (Option Known)) (callee : ℕ → Seen) where
  abbrev pub around_by : ℕ → ℕ → List ℕ → List OwnName → List (Option Known) →
      List (Option BufferField) → Around
  around_by k table bytes owns held fields = record {
    table = table;
    width = bits_of ns.width;
    link = link_with_owns ns.entries k bytes owns;
    lone = is_lone bytes;
    object = object_at ns.entries;
    field = field_numbered ns;
    buffer_field = buffer_field_numbered ns;
    literal = body_data ns table k;
    kinds = record {
      shared = kinds_by shapes shared;
      owns = kinds_by shapes held;
      fields = fields;
    };
    callee = callee;
  }

abbrev pub around_body : Body → Around
around_body b = around_by (shown b.names.namespace.now) b.shapes.now b.shared.now
    (callee_by b.shapes.now b.heights.now b.components.now b.verdicts.now b.names.method.0)
    b.names.method.0 b.table b.names.bytes.now (owns_seen b.names.owns.now) b.held.items
    b.fields.items

-- with one own name more, which holds what is of a kind, or is a field; and all else the same
pub record IsGrown (old new : Body) (kind : Option Known) (field : Option BufferField) : Type 0
  where
    pub same : new ≡ record old { held = new.held; fields = new.fields }
    pub held : new.held.items ≡ old.held.items ++ kind ∷ []
    pub fields : new.fields.items ≡ old.fields.items ++ field ∷ []
