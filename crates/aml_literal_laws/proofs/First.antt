-- What the data names of a loaded namespace hold first is of their kinds.
use Rattle.std.proofs.Common.{◌≡◌, ℕ, zero, suc, ◌≤◌, ◌^◌, ◌-◌, List, [], ◌∷◌, None, length, map, take, Option, Some, Result, Ok, Err, refl, subst, sym, arith}
use Rattle.std.specs.Prelude.{Bool, true, false, nat_le, ◌&&◌, if◌then◌else◌}
use Rattle.std.proofs.lemmas.Bool.Decides.{nat_tests}
use Rattle.std.proofs.lemmas.Option.{same_Some}
use Rattle.aml_operators.specs.declared.op.Op.{Op}
use Rattle.aml_operators.specs.declared.op.Op.TheVariants as op
use Rattle.aml_operators.specs.Tree.{Tree, Trees, Node, none}
use Rattle.aml_tree.specs.declared.body.Span.{Span}
use Rattle.aml_tree.specs.declared.fault.Refusal.{Refusal}
use Rattle.aml_tree.specs.Answers.{Answers}
use Rattle.aml_tree.specs.Body.{greatest_depth, no_arguments}
use Rattle.aml_tree.specs.Data.{FaultyData, IsData, data_at}
use Rattle.aml_tree.proofs.RightTerms.{term_right}
use Rattle.aml_operators.specs.declared.row.Code.TheVariants as code
use Rattle.aml_operators.specs.declared.row.Spot.TheVariants as spot
use Rattle.aml_paths.specs.Paths.{Path}
use Rattle.aml_paths.specs.declared.scope.Scope.{Scope}
use Rattle.aml_paths.specs.declared.scope.Scope.TheVariants.{Root}
use Rattle.aml_objects.specs.declared.object.Content.{Content}
use Rattle.aml_objects.specs.declared.object.Entry.{Entry}
use Rattle.aml_objects.specs.declared.object.Entry.TheVariants.{Own, Alias}
use Rattle.aml_objects.specs.declared.object.Object.TheVariants as object
use Rattle.aml_objects.specs.declared.object.Source.{Source}
use Rattle.aml_objects.specs.declared.object.Source.TheVariants as source
use Rattle.aml_objects.specs.declared.width.Width.{Width}
use Rattle.aml_objects.specs.Entries.{Entries, object_at, own_object}
use Rattle.aml_objects.specs.declared.object.DataName.{DataName}
use Rattle.aml_objects.specs.declared.object.Object.{Object}
use Rattle.aml_literal_laws.specs.Stands.{DataStands, StandsFrom}
use Rattle.aml_objects.specs.Widths.{bits_of}
use Rattle.aml_namespace.specs.Bodies.{bytes_of}
use Rattle.aml_namespace.specs.Load.{Shown}
use Rattle.aml_values.specs.Values as value
use Rattle.aml_values.specs.Values.{Value, Int, Buf, Str, Pkg}
use Rattle.aml_kinds.specs.Fits.{fits}
use Rattle.aml_contents.specs.Contents.{Contents, ContentKinds, are_fitting, content_at, is_fitting}
use Rattle.aml_contents.specs.FirstContents.{bytes_in, data_in, first_content, first_kinds, number_of, package_elements, term_or_zero, value_from, value_in}
use Rattle.aml_contents.specs.FirstKinds.{first_kind, greatest_of, name_kind}
use Rattle.aml_judged.specs.Safe.{AreBytes, AreWords, FitContents, FitNames, IsWord}
use Rattle.aml_judged.proofs.Fits.{both, fits_by}
use Rattle.aml_literal_laws.specs.Laws.{FirstNamesFit, LeftNamesFit, TablesAreBytes, first_names}
use Rattle.aml_literal_laws.specs.Whole.{AreWhole}
use Rattle.aml_literal_laws.proofs.Bytes.{bytes_in_are, taken}
use Rattle.aml_literal_laws.proofs.Counted.{AreCounted, IsCounted, IsShort, data_counted}
use Rattle.aml_literal_laws.proofs.Loaded.{AreRight, IsRightEntry, IsRightOption, loaded_right, option_right}
use Rattle.aml_literal_laws.proofs.Whole.{AreNarrowKinds, IsNarrow, narrow_by, whole_contents}
use Rattle.aml_literal_laws.proofs.Words.{behind_words, told_word}

-- data that is read, or Zero
read_counted : (bytes : List ℕ) (at : ℕ) (r : Result Tree Refusal) → AreBytes bytes → Answers r (IsData bytes at) (FaultyData bytes at) → IsCounted (term_or_zero r)
read_counted bytes at (Ok t) b h = data_counted bytes at t b h
read_counted bytes at (Err f) b h = (tt, tt)

span_counted : (bytes : List ℕ) (span : Span) → AreBytes bytes → IsCounted (data_in bytes span)
span_counted bytes span b = by (nat_le span.at span.end && nat_le span.end (length bytes))
  where
    by : (there : Bool) → IsCounted (if there then term_or_zero (data_at (take span.end bytes) span.at) else Node op.Zero 0 0 none)
    by true = read_counted (take span.end bytes) span.at (data_at (take span.end bytes) span.at) (taken span.end bytes b) (term_right code.Module no_arguments greatest_depth span.at spot.Data (take span.end bytes) span.at)
    by false = (tt, tt)

at_most : (m n : ℕ) → m ≤ n → nat_le m n ≡ true
at_most m n h = grind (arith, nat_tests)

-- a value of the width is of the kind that a name has that holds it first
value_fits : (width : Width) (v : Value) → IsWord (bits_of width) v → fits v (name_kind (greatest_of width) v) ≡ true
value_fits width (Int n) h = at_most n (2 ^ bits_of width - 1) (omega (arith, h))
value_fits width (Buf bytes) h = fits_by (Buf bytes)
value_fits width (Str characters) h = fits_by (Str characters)
value_fits width (Pkg es) h = fits_by (Pkg es)

-- and that kind is narrow
name_narrow : (width : Width) (v : Value) → IsWord (bits_of width) v → IsNarrow (bits_of width) (name_kind (greatest_of width) v)
name_narrow width (Int n) h = omega (arith, h)
name_narrow width (Buf bytes) h = tt
name_narrow width (Str characters) h = tt
name_narrow width (Pkg es) h = narrow_by (bits_of width) (Pkg es) h

module _ (ns : Shown) (bytes : TablesAreBytes ns.tables) (os : AreBytes ns.os) where
  abbrev IsWide : Value → Type 0
  IsWide v = IsWord (bits_of ns.width) v

  package_words : (table : ℕ) (scope : Scope) (o : Op) (parts : Trees) → AreCounted parts → AreWords (bits_of ns.width) (package_elements ns table scope o parts)
  package_words table scope op.Package parts h = behind_words ns table scope (bytes.each table) parts h
  package_words table scope op.VarPackage parts h = behind_words ns table scope (bytes.each table) parts h
  package_words table scope o parts h = tt

  term_word : (table : ℕ) (scope : Scope) (told : Content) (t : Tree) → IsShort told → IsCounted t → IsWide (value_in ns table scope told t)
  term_word table scope told (Node o at stop parts) short h =
      told_word ns table scope (bytes.each table) told (number_of o parts) (bytes_in (bytes_of ns.tables table) o parts) (package_elements ns table scope o parts) short (bytes_in_are (bytes_of ns.tables table) o parts (bytes.each table)) (package_words table scope o parts h.1)

  source_word : (told : Content) (from : Source) → IsShort told → IsWide (value_from ns told from)
  source_word told source.Revision short = told_word ns 0 Root (bytes.each 0) told 2 [] value.none short tt tt
  source_word told source.OsName short = told_word ns 0 Root (bytes.each 0) told 0 ns.os value.none short os tt
  source_word told (source.Term table span scope) short = term_word table scope told (data_in (bytes_of ns.tables table) span) short (span_counted (bytes_of ns.tables table) span (bytes.each table))

  abbrev held : Entry → Option Value
  held e = first_content ns (own_object e)

  held_word : (e : Entry) (v : Value) → IsRightEntry ns.tables e → held e ≡ Some v → IsWide v
  held_word (Own (object.Data d)) v short is = subst IsWide (same_Some _ v is) (source_word d.content d.source short.0)
  held_word (Own o) v short is = absurd cc
  held_word (Alias id) v short is = absurd cc

  held_fits : (e : Entry) → IsRightEntry ns.tables e → is_fitting (held e) (first_kind (greatest_of ns.width) (held e)) ≡ true
  held_fits (Own (object.Data d)) short = value_fits ns.width (value_from ns d.content d.source) (source_word d.content d.source short.0)
  held_fits (Own o) short = refl
  held_fits (Alias id) short = refl

  abbrev all_held : Entries → Contents
  all_held es = map (λ (e : Path × Entry). held e.1) es

  all_words : (es : Entries) (i : ℕ) (v : Value) → AreRight ns.tables es → content_at (all_held es) i ≡ Some v → IsWide v
  all_words [] i v short is = absurd cc
  all_words (e ∷ es) zero v short is = held_word e.1 v short.0 is
  all_words (e ∷ es) (suc i) v short is = all_words es i v short.1 is

  all_fit : (es : Entries) → AreRight ns.tables es → are_fitting (all_held es) (map (first_kind (greatest_of ns.width)) (all_held es)) ≡ true
  all_fit [] short = refl
  all_fit (e ∷ es) short = both (is_fitting (held e.1) (first_kind (greatest_of ns.width) (held e.1))) _ (held_fits e.1 short.0) (all_fit es short.1)

  names_fit : AreRight ns.tables ns.entries → FitNames (bits_of ns.width) (first_kinds ns) (first_names ns)
  names_fit short = record {
    kinds_stay = refl;
    fitting = all_fit ns.entries short;
    words = λ i v is. all_words ns.entries i v short is;
  }

  held_narrow : (v : Option Value) → ((x : Value) → v ≡ Some x → IsWide x) → (vs : ContentKinds) → AreNarrowKinds (bits_of ns.width) vs → AreNarrowKinds (bits_of ns.width) (first_kind (greatest_of ns.width) v ∷ vs)
  held_narrow None word vs h = h
  held_narrow (Some v) word vs h = (name_narrow ns.width v (word v refl), h)

  all_narrow : (es : Entries) → AreRight ns.tables es → AreNarrowKinds (bits_of ns.width) (map (first_kind (greatest_of ns.width)) (all_held es))
  all_narrow [] short = tt
  all_narrow (e ∷ es) short = held_narrow (held e.1) (λ x is. held_word e.1 x short.0 is) _ (all_narrow es short.1)

  contents_fit : AreRight ns.tables ns.entries → (contents : Contents) → are_fitting contents (first_kinds ns) ≡ true → AreWhole (bits_of ns.width) contents (first_kinds ns) → FitContents (bits_of ns.width) (first_kinds ns) contents
  contents_fit short contents fit whole = record {
    fitting = fit;
    words = λ i v is. whole_contents (bits_of ns.width) contents (first_kinds ns) i v fit (all_narrow ns.entries short) whole is;
  }

pub first_names_fit : FirstNamesFit
first_names_fit tables os ns loaded bytes text =
    names_fit ns (subst TablesAreBytes (sym loaded.tables_are) bytes) (subst AreBytes (sym loaded.os_is) text)
    (subst (λ l. AreRight l ns.entries) (sym loaded.tables_are) (loaded_right tables os ns loaded bytes.each))

pub left_names_fit : LeftNamesFit
left_names_fit tables os ns loaded bytes text contents fit whole =
    contents_fit ns (subst TablesAreBytes (sym loaded.tables_are) bytes) (subst AreBytes (sym loaded.os_is) text)
    (subst (λ l. AreRight l ns.entries) (sym loaded.tables_are) (loaded_right tables os ns loaded bytes.each)) contents fit whole

-- the data of each name stands in its table
entry_stands : (tables : List (List ℕ)) (o : Option Object) (d : DataName) → (o ≡ Some (object.Data d)) → IsRightOption tables o → StandsFrom tables d.content d.source
entry_stands tables (Some (object.Data e)) d is short =
    let same : e ≡ d = cc in
    subst (λ (x : DataName). StandsFrom tables x.content x.source) same short.1
entry_stands tables (Some o) d is short = absurd cc
entry_stands tables None d is short = absurd cc

entries_stand : (tables : List (List ℕ)) (es : Entries) (i : ℕ) (d : DataName) → AreRight tables es → object_at es i ≡ Some (object.Data d) → StandsFrom tables d.content d.source
entries_stand tables [] i d short is = absurd cc
entries_stand tables (e ∷ es) zero d short is = entry_stands tables (own_object e.1) d is (option_right tables e.1 short.0)
entries_stand tables (e ∷ es) (suc i) d short is = entries_stand tables es i d short.1 is

pub data_stands : DataStands
data_stands tables os ns loaded bytes i d is =
    entries_stand ns.tables ns.entries i d (subst (λ l. AreRight l ns.entries) (sym loaded.tables_are) (loaded_right tables os ns loaded bytes.each)) is
