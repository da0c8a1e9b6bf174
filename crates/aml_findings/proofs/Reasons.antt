-- A fault that is told of a field is why it cannot be read and written.
use Rattle.std.proofs.Common.{◌≡◌, ◌∙◌, ◌&&◌, ℕ, Bool, true, false, Option, Some, None, IfSome, refl, sym, ap}
use Rattle.std.specs.Prelude.{if◌then◌else◌, option_and_then}
use Rattle.std.specs.Option.{is_none, option_map}
use Rattle.aml_paths.specs.declared.scope.ObjectId.{ObjectId}
use Rattle.aml_objects.specs.Entries.{object_at}
use Rattle.aml_objects.specs.declared.object.Field.{Field}
use Rattle.aml_objects.specs.declared.object.Object.{Object}
use Rattle.aml_objects.specs.declared.object.Object.TheVariants as object
use Rattle.aml_objects.specs.declared.object.Through.{Through}
use Rattle.aml_objects.specs.declared.object.Through.TheVariants as through
use Rattle.aml_namespace.specs.Load.{Shown}
use Rattle.aml_regions.specs.Fields.{bits_of, is_known_space, layout_of}
use Rattle.aml_regions.specs.declared.field.AnyField.{AnyField}
use Rattle.aml_regions.specs.declared.field.AnyField.TheVariants.{Plain, Banked, Indexed}
use Rattle.aml_regions.specs.declared.field.FieldLayout.{FieldLayout}
use Rattle.aml_regions.specs.declared.field.OtherBits.{OtherBits}
use Rattle.aml_regions.specs.declared.field.RegionField.{RegionField}
use Rattle.aml_regions.specs.declared.field.UnitWidth.{UnitWidth}
use Rattle.aml_meaning.specs.Reached.{banked, field_layout, in_region, indexed, is_laid_out, is_sound, is_sound_field, laid_out, named, other_bits, placed, plain_field, reached_through, unit_width, usable}
use Rattle.aml_judged.specs.Judged.{Around}
use Rattle.aml_findings.specs.Faults.{FaultsAreReasons, accessed_finding, bounded_finding, in_region_finding, is_counted, is_reserved, named_object, reached_finding, sized_finding, unit_bits}
use Rattle.aml_findings.specs.declared.finding.FieldFault.{FieldFault}
use Rattle.aml_findings.specs.declared.finding.FieldFault.TheVariants as fault
use Rattle.aml_findings.specs.declared.finding.Finding.TheVariants as finding

-- what stands behind a connection, or has no unit, or no rule, has no layout
connected : (b : Bool) (l : Option FieldLayout) → b ≡ true → (if b then None else l) ≡ None
connected true l e = refl
connected false l e = cc

unruled : (f : Field) (b : Bool) (w : Option UnitWidth) → (if b then None else laid_out f w None) ≡ None
unruled f true w = refl
unruled f false None = refl
unruled f false (Some w) = refl

unwide : (f : Field) (b : Bool) (o : Option OtherBits) → (if b then None else laid_out f None o) ≡ None
unwide f true o = refl
unwide f false o = refl

reserved : (o : Option OtherBits) → is_none o ≡ true → o ≡ None
reserved None e = refl
reserved (Some others) e = cc

unaccessed : (w : Option UnitWidth) → option_map bits_of w ≡ None → w ≡ None
unaccessed None e = refl
unaccessed (Some width) e = cc

-- a layout has the bits of its field
laid_bits : (f : Field) (b : Bool) (w : Option UnitWidth) (o : Option OtherBits) → IfSome (if b then None else laid_out f w o) (λ l. l.bits ≡ f.bits)
laid_bits f true w o = tt
laid_bits f false None o = tt
laid_bits f false (Some w) None = tt
laid_bits f false (Some w) (Some o) = refl

false_first : (a b : Bool) → a ≡ false → (a && b) ≡ false
false_first true b e = cc
false_first false b e = refl

false_second : (a b : Bool) → b ≡ false → (a && b) ≡ false
false_second true b e = e
false_second false b e = refl

-- what is not laid out is not sound, however its units are reached
unsound_region : (r : RegionField) → is_laid_out r.layout ≡ false → is_sound r ≡ false
unsound_region r e = false_first _ _ (false_first _ _ (false_second (is_known_space r.space) (is_laid_out r.layout) e))

unsound : (any : AnyField) → is_laid_out (layout_of any) ≡ false → is_sound_field any ≡ false
unsound (Plain r) e = unsound_region r e
unsound (Banked b) e = false_first (is_sound b.field) (is_sound b.bank) (unsound_region b.field e)
unsound (Indexed x) e = false_first _ _ (false_first _ _ (false_first (is_laid_out x.layout) _ e))

unlaid : (l : FieldLayout) (bits : ℕ) → l.bits ≡ bits → is_counted bits ≡ false → is_laid_out l ≡ false
unlaid l bits same e = false_first (is_counted l.bits) _ (ap is_counted same ∙ e)

-- a region field, however it is found, has the layout that is asked for
abbrev with_layout : FieldLayout → Option RegionField → Type 0
with_layout l o = IfSome o (λ g. g.layout ≡ l)

abbrev has_layout : FieldLayout → Option AnyField → Type 0
has_layout l o = IfSome o (λ any. layout_of any ≡ l)

by_space : (l : FieldLayout) (b : Bool) (g : RegionField) → g.layout ≡ l → with_layout l (if b then Some g else None)
by_space l true g e = e
by_space l false g e = tt

by_plain : (l : FieldLayout) (o : Option RegionField) → with_layout l o → has_layout l (option_map Plain o)
by_plain l None h = tt
by_plain l (Some g) h = h

module _ (ns : Shown) where
  by_region : (l : FieldLayout) (space : ℕ) (place length : Option ℕ) → with_layout l (placed ns l space place length)
  by_region l space None length = tt
  by_region l space (Some p) None = tt
  by_region l space (Some p) (Some n) = by_space l (is_known_space space) _ refl

  by_object : (l : FieldLayout) (o : Option Object) → with_layout l (in_region ns l o)
  by_object l (Some (object.Region r)) = by_region l r.space r.place r.length
  by_object l o = tt

  by_bank : (l : FieldLayout) (field bank : Option RegionField) (value : Option ℕ) → with_layout l field → has_layout l (banked ns field bank value)
  by_bank l (Some field) (Some bank) (Some value) h = h
  by_bank l field bank value h = tt

  by_index : (l : FieldLayout) (index window : Option RegionField) → has_layout l (indexed ns l index window)
  by_index l (Some index) (Some window) = refl
  by_index l index window = tt

  by_way : (l : FieldLayout) (way : Through) → has_layout l (reached_through ns way l)
  by_way l (through.Region region) = by_plain l (in_region ns l (named ns region)) (by_object l (named ns region))
  by_way l (through.Index index window) = by_index l (plain_field ns (named ns index)) (plain_field ns (named ns window))
  by_way l (through.Bank region bank value) = by_bank l (in_region ns l (named ns region)) (plain_field ns (named ns bank)) value (by_object l (named ns region))

  abbrev sound_alone : AnyField → Option AnyField
  sound_alone any = if is_sound_field any then Some any else None

  unsound_any : (l : FieldLayout) (o : Option AnyField) → has_layout l o → is_laid_out l ≡ false → option_and_then sound_alone o ≡ None
  unsound_any l None h e = refl
  unsound_any l (Some any) h e = rw (unsound any (ap is_laid_out h ∙ e)) refl

  uncounted : (f : Field) (o : Option FieldLayout) → IfSome o (λ l. l.bits ≡ f.bits) → is_counted f.bits ≡ false → option_and_then sound_alone (option_and_then (reached_through ns f.through) o) ≡ None
  uncounted f None h e = refl
  uncounted f (Some l) h e = unsound_any l (reached_through ns f.through l) (by_way l f.through) (unlaid l f.bits h e)

  -- where there is no layout, or no way leads to its units, nothing can be read
  no_layout : (f : Field) → field_layout f ≡ None → usable ns f ≡ None
  no_layout f e = ap (λ l. option_and_then sound_alone (option_and_then (reached_through ns f.through) l)) e

  no_way : (f : Field) (o : Option FieldLayout) → ((l : FieldLayout) → reached_through ns f.through l ≡ None) → option_and_then sound_alone (option_and_then (reached_through ns f.through) o) ≡ None
  no_way f None h = refl
  no_way f (Some l) h = ap (option_and_then sound_alone) (h l)

  module _ (here : Around) (f : Field) (unit : ℕ) (told : FieldFault) where
    no_space : (b : Bool) (space : ℕ) (place length : Option ℕ) → is_known_space space ≡ b → (if b then bounded_finding here f unit place length else finding.Fault (fault.Space space)) ≡ finding.Fault told → (l : FieldLayout) → placed ns l space place length ≡ None
    no_space b space None length known h l = refl
    no_space b space (Some p) None known h l = refl
    no_space true space (Some p) (Some n) known h l = cc
    no_space false space (Some p) (Some n) known h l = rw known refl

    no_region : (o : Option Object) → in_region_finding here f unit o ≡ finding.Fault told → (l : FieldLayout) → in_region ns l o ≡ None
    no_region (Some (object.Region r)) h l = no_space (is_known_space r.space) r.space r.place r.length refl h l
    no_region o h l = refl

    same_object : ((k : ℕ) → here.object k ≡ object_at ns.entries k) → (id : Option ObjectId) → named_object here id ≡ option_and_then (λ (k : ObjectId). object_at ns.entries k.0) id
    same_object same None = refl
    same_object same (Some k) = same k.0

    no_reach : ((k : ℕ) → here.object k ≡ object_at ns.entries k) → (way : Through) → reached_finding here f unit way ≡ finding.Fault told → (l : FieldLayout) → reached_through ns way l ≡ None
    no_reach same (through.Region region) h l =
        ap (option_map Plain) (no_region (named ns region) (ap (in_region_finding here f unit) (sym (same_object same region.object)) ∙ h) l)
    no_reach same (through.Index index window) h l = cc
    no_reach same (through.Bank region bank value) h l = cc

  module _ (here : Around) (same : (k : ℕ) → here.object k ≡ object_at ns.entries k) (f : Field) (told : FieldFault) where
    by_access : (unit : Option ℕ) → unit_bits f.rule.access ≡ unit → accessed_finding here f unit ≡ finding.Fault told → usable ns f ≡ None
    by_access None e h =
        no_layout f (ap (λ w. if f.is_connected then None else laid_out f w (other_bits f.rule.update)) (unaccessed (unit_width f.rule.access) e) ∙ unwide f f.is_connected (other_bits f.rule.update))
    by_access (Some unit) e h = no_way f (field_layout f) (no_reach here f unit told same f.through h)

    by_list : (connected_there counted reserved_there : Bool) → f.is_connected ≡ connected_there → is_counted f.bits ≡ counted → is_reserved f.rule.update ≡ reserved_there → (if connected_there then finding.Fault fault.Connected else if counted then if reserved_there then finding.Fault fault.Update else accessed_finding here f (unit_bits f.rule.access) else sized_finding f.bits) ≡ finding.Fault told → usable ns f ≡ None
    by_list true counted rule e c r h = no_layout f (connected f.is_connected _ e)
    by_list false false rule e c r h =
        uncounted f (field_layout f) (laid_bits f f.is_connected (unit_width f.rule.access) (other_bits f.rule.update)) c
    by_list false true true e c r h =
        no_layout f (ap (λ o. if f.is_connected then None else laid_out f (unit_width f.rule.access) o) (reserved (other_bits f.rule.update) r) ∙ unruled f f.is_connected (unit_width f.rule.access))
    by_list false true false e c r h = by_access (unit_bits f.rule.access) refl h

pub faults_are_reasons : FaultsAreReasons
faults_are_reasons here ns f told same h =
    by_list ns here same f told f.is_connected (is_counted f.bits) (is_reserved f.rule.update) refl refl refl h
