-- How many terms a name takes in a body, by what it means there.
use Rattle.std.proofs.Common.{◌≡◌, ℕ, List, Option, Some, None, refl, sym, ap, ◌∙◌}
use Rattle.std.specs.Prelude.{is_some, option_and_then, if◌then◌else◌}
use Rattle.aml_lex.specs.NameStrings.{NameString}
use Rattle.aml_lex.specs.Names.{lone_segment}
use Rattle.aml_lex.specs.Standing.{name_there}
use Rattle.aml_own_names.specs.OwnNames.{own_at, own_number}
use Rattle.aml_namespace.specs.declared.link.Link.{Link}
use Rattle.aml_namespace.specs.declared.link.Link.TheVariants as link
use Rattle.aml_objects.specs.declared.object.Object.{Object}
use Rattle.aml_objects.specs.declared.object.Object.TheVariants as object
use Rattle.aml_objects.specs.Entries.{object_at}
use Rattle.aml_namespace.specs.Laws.{LinksCount}
use Rattle.aml_namespace.specs.Load.{Shown}
use Rattle.aml_namespace.specs.Names.{args_of, count_of, counts, link_args, link_at, link_of, linked, named_within, own_or}

by_object : (ns : Shown) (i : ℕ) (o : Option Object) → object_at ns.entries i ≡ o → (link_of i o ≡ link.Missing → ⊥) → args_of o ≡ link_args ns (link_of i o)
by_object ns i None e h = absurd (h refl)
by_object ns i (Some (object.Method m)) e h = ap args_of (sym e)
by_object ns i (Some object.OsInterfaces) e h = refl
by_object ns i (Some o) e h = refl

by_number : (ns : Shown) (id : ℕ) (name : NameString) (n : Option ℕ) → (linked ns.entries n ≡ link.Missing → ⊥) → count_of ns id name n ≡ link_args ns (linked ns.entries n)
by_number ns id name None h = absurd (h refl)
by_number ns id name (Some i) h = by_object ns i (object_at ns.entries i) refl h

-- what a name names in the namespace tells how many terms it takes
by_link : (ns : Shown) (id : ℕ) (bytes : List ℕ) (at : ℕ) (name : NameString) → name_there bytes at ≡ Some name → (link_at ns.entries id bytes at ≡ link.Missing → ⊥) → counts ns id name at ≡ link_args ns (link_at ns.entries id bytes at)
by_link ns id bytes at name e h =
    let q : link_at ns.entries id bytes at ≡ linked ns.entries (named_within ns.entries id name) = rw e refl in
    by_number ns id name (named_within ns.entries id name) (λ m. h (q ∙ m)) ∙ ap (link_args ns) (sym q)

-- an own name takes none
by_own : (ns : Shown) (own : Option ℕ) (l : Link) (n : ℕ) → ((l ≡ link.Missing → ⊥) → n ≡ link_args ns l) → (own_or own l ≡ link.Missing → ⊥) → (if is_some own then 0 else n) ≡ link_args ns (own_or own l)
by_own ns None l n more h = more h
by_own ns (Some i) l n more h = refl

pub links_count : LinksCount
links_count ns id bytes owns at name e h =
    let q : own_at bytes owns at ≡ option_and_then (own_number owns at) (lone_segment name) = rw e refl in
    ap (λ own. if is_some own then 0 else counts ns id name at) (sym q)
    ∙ by_own ns (own_at bytes owns at) (link_at ns.entries id bytes at) (counts ns id name at) (by_link ns id bytes at name e) h
