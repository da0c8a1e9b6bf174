-- What names hold first, name by name.
use Rattle.std.proofs.Common.{◌≡◌, ◌<◌, ◌≤◌, ◌+◌, ◌-◌, ◌^◌, ◌++◌, ◌∙◌, ℕ, zero, suc, List, [], ◌∷◌, Option, Some, None, map, take, length, refl, ap, arith}
use Rattle.std.specs.Prelude.{replicate}
use Rattle.std.proofs.Math.Nat.{mod-mod}
use Rattle.std.proofs.lemmas.List.{length-replicate, length-take, map-append, take_all}
use Rattle.std.proofs.Common.{length-append}
use Rattle.aml_operators.specs.Tree.{Tree, Node}
use Rattle.aml_objects.specs.declared.object.Content.{Content}
use Rattle.aml_objects.specs.declared.object.Content.TheVariants as content
use Rattle.aml_objects.specs.declared.object.Entry.{Entry}
use Rattle.aml_objects.specs.declared.object.Object.{Object}
use Rattle.aml_objects.specs.declared.object.Object.TheVariants as object
use Rattle.aml_paths.specs.declared.scope.Scope.{Scope}
use Rattle.aml_objects.specs.declared.object.Source.{Source}
use Rattle.aml_objects.specs.declared.object.Source.TheVariants as source
use Rattle.aml_objects.specs.declared.width.Width.{Width}
use Rattle.aml_objects.specs.Entries.{Entries, object_at, own_object}
use Rattle.aml_namespace.specs.Load.{Shown}
use Rattle.aml_paths.specs.Paths.{Path}
use Rattle.aml_objects.specs.Widths.{bits_of}
use Rattle.aml_values.specs.Values.{Elements, Value, none}
use Rattle.aml_contents.specs.Contents.{Contents, ContentKinds}
use Rattle.aml_contents.specs.FirstContents.{filled, first_content, first_contents, first_kinds, value_from, value_in, value_told}
use Rattle.aml_contents.specs.FirstKinds.{first_kind, greatest_of, held_first, within_width}

pub length-filled : (size : ℕ) (bytes : List ℕ) → length (filled size bytes) ≡ size
length-filled size bytes =
    let parts = length-append (take size bytes) (replicate (size - length bytes) 0) in
    let first = length-take size bytes in
    let rest = length-replicate {A = ℕ} (size - length bytes) 0 in
    omega (arith, parts, first, rest)

-- the integers of a value of which it is told what it is are those of the width already
told_within : (width : Width) (told : Content) (number : ℕ) (bytes : List ℕ) (es : Elements) → within_width width (value_told width told number bytes es) ≡ value_told width told number bytes es
told_within width content.Integer number bytes es = rw (mod-mod number (2 ^ bits_of width))
told_within width (content.Buffer size) number bytes es = refl
told_within width (content.String size) number bytes es = refl
told_within width (content.Package size) number bytes es = refl

term_within : (ns : Shown) (table : ℕ) (scope : Scope) (told : Content) (t : Tree) → within_width ns.width (value_in ns table scope told t) ≡ value_in ns table scope told t
term_within ns table scope told (Node o at stop parts) = told_within ns.width told _ _ _

within_from : (ns : Shown) (told : Content) (from : Source) → within_width ns.width (value_from ns told from) ≡ value_from ns told from
within_from ns told source.Revision = told_within ns.width told 2 [] none
within_from ns told source.OsName = told_within ns.width told 0 ns.os none
within_from ns told (source.Term table span scope) = term_within ns table scope told _

object_within : (ns : Shown) (o : Option Object) → held_first ns.width (first_content ns o) ≡ first_content ns o
object_within ns (Some (object.Data d)) = ap Some (within_from ns d.content d.source)
object_within ns (Some o) = refl
object_within ns None = refl

module _ (ns : Shown) where
  abbrev pub contents_in : Entries → Contents
  contents_in entries = map (λ (e : Path × Entry). first_content ns (own_object e.1)) entries

  abbrev pub kinds_in : Entries → ContentKinds
  kinds_in entries = map (first_kind (greatest_of ns.width)) (contents_in entries)

  next_content : (entries : Entries) (i : ℕ) → i < length entries → contents_in (take (suc i) entries) ≡ contents_in (take i entries) ++ first_content ns (object_at entries i) ∷ []
  next_content [] i there = absurd (omega (arith, there))
  next_content (e ∷ entries) zero there = refl
  next_content (e ∷ entries) (suc i) there = ap (λ (c : Contents). first_content ns (own_object e.1) ∷ c) (next_content entries i (omega (arith, there)))

  -- one more content behind those of the first entries
  pub contents_next : (i : ℕ) (old new : Contents) (held : Option Value) → i < length ns.entries → old ≡ contents_in (take i ns.entries) → held ≡ first_content ns (object_at ns.entries i) → new ≡ old ++ held_first ns.width held ∷ [] → new ≡ contents_in (take (i + 1) ns.entries)
  contents_next i old new held there so_far is added =
      let next = next_content ns.entries i there in
      let one : i + 1 ≡ suc i = omega arith in
      let same : held_first ns.width held ≡ first_content ns (object_at ns.entries i) = ap (held_first ns.width) is ∙ object_within ns (object_at ns.entries i) in
      rw (one, next) (added ∙ rw (so_far, same))

  pub kinds_next : (i : ℕ) (old new : ContentKinds) (held : Option Value) → i < length ns.entries → old ≡ kinds_in (take i ns.entries) → held ≡ first_content ns (object_at ns.entries i) → new ≡ old ++ first_kind (greatest_of ns.width) held ∷ [] → new ≡ kinds_in (take (i + 1) ns.entries)
  kinds_next i old new held there so_far is added =
      let next = next_content ns.entries i there in
      let one : i + 1 ≡ suc i = omega arith in
      rw (one, next, map-append (first_kind (greatest_of ns.width)) (contents_in (take i ns.entries)) (first_content ns (object_at ns.entries i) ∷ [])) (added ∙ rw (so_far, is))

  -- behind the last entry all are there
  pub contents_all : (i : ℕ) → length ns.entries ≤ i → contents_in (take i ns.entries) ≡ first_contents ns
  contents_all i past = rw (take_all i ns.entries past)

  pub kinds_all : (i : ℕ) → length ns.entries ≤ i → kinds_in (take i ns.entries) ≡ first_kinds ns
  kinds_all i past = rw (take_all i ns.entries past)
