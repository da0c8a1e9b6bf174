-- What is found sound can be read and written, and nothing else can.
use Rattle.std.proofs.Common.{◌≡◌, Bool, true, false, IsTrue, ◌↔◌, refl, sym}
use Rattle.std.proofs.lemmas.Bool.{true≢false, and_from, and_parts, ltb-true, leb-true, eqb-true, lt-ltb, le-leb, eq-eqb, false_from_ne_true}
use Rattle.aml_regions.specs.Fields.{IsLaidOut, IsSound, IsSoundField}
use Rattle.aml_regions.specs.declared.field.AnyField.{AnyField}
use Rattle.aml_regions.specs.declared.field.AnyField.TheVariants.{Plain, Banked, Indexed}
use Rattle.aml_regions.specs.declared.field.FieldLayout.{FieldLayout}
use Rattle.aml_regions.specs.declared.field.RegionField.{RegionField}
use Rattle.aml_meaning.specs.Reached.{is_laid_out, is_sound, is_sound_field}

laid_out_found : (f : FieldLayout) → is_laid_out f ≡ true → IsLaidOut f
laid_out_found f e =
    let p = and_parts _ _ e in
    let q = and_parts _ _ p.0 in
    record { some = ltb-true _ _ q.0; most = leb-true _ _ q.1; bits = ltb-true _ _ p.1 }

found_laid_out : (f : FieldLayout) → IsLaidOut f → is_laid_out f ≡ true
found_laid_out f h = and_from _ _ (and_from _ _ (lt-ltb _ _ h.some) (le-leb _ _ h.most)) (lt-ltb _ _ h.bits)

sound_found : (r : RegionField) → is_sound r ≡ true → IsSound r
sound_found r e =
    let p = and_parts _ _ e in
    let q = and_parts _ _ p.0 in
    let s = and_parts _ _ q.0 in
    record { space = s.0; layout = laid_out_found r.layout s.1; units = leb-true _ _ q.1; region = leb-true _ _ p.1 }

found_sound : (r : RegionField) → IsSound r → is_sound r ≡ true
found_sound r h =
    and_from _ _ (and_from _ _ (and_from _ _ h.space (found_laid_out r.layout h.layout)) (le-leb _ _ h.units)) (le-leb _ _ h.region)

field_found : (f : AnyField) → is_sound_field f ≡ true → IsSoundField f
field_found (Plain r) e = sound_found r e
field_found (Banked b) e =
    let p = and_parts _ _ e in
    record { field = sound_found b.field p.0; bank = sound_found b.bank p.1 }
field_found (Indexed x) e =
    let p = and_parts _ _ e in
    let q = and_parts _ _ p.0 in
    let s = and_parts _ _ q.0 in
    record { layout = laid_out_found x.layout s.0; index_field = sound_found x.index_field s.1; data_field = sound_found x.data_field q.1; wide = eqb-true _ _ p.1 }

found_field : (f : AnyField) → IsSoundField f → is_sound_field f ≡ true
found_field (Plain r) h = found_sound r h
found_field (Banked b) h = and_from _ _ (found_sound b.field h.field) (found_sound b.bank h.bank)
found_field (Indexed x) h =
    and_from _ _ (and_from _ _ (and_from _ _ (found_laid_out x.layout h.layout) (found_sound x.index_field h.index_field)) (found_sound x.data_field h.data_field)) (eq-eqb _ _ h.wide)

-- what a test answers that decides whether a field is sound
pub found_by : (f : AnyField) (b : Bool) → IsTrue b ↔ IsSoundField f → b ≡ is_sound_field f
found_by f true h = sym (found_field f (h.0 refl))
found_by f false h = sym (false_from_ne_true (is_sound_field f) (λ e. true≢false (sym (h.1 (field_found f e)))))
