-- What tables add: the bodies of methods lie within their tables, and faults stand within theirs.
use Rattle.std.proofs.Common.{◌≡◌, ℕ, zero, suc, ◌<◌, ◌≤◌, List, [], ◌∷◌, ◌++◌, length, drop, slice_get, Option, Some, refl, sym, ap, ◌∙◌, subst, arith}
use Rattle.std.specs.Prelude.{unwrap_or}
use Rattle.std.proofs.lemmas.Option.{same_Some, slice_get_within}
use Rattle.aml_operators.specs.Tree.{trees}
use Rattle.aml_tree.proofs.Names.{module_spelled}
use Rattle.aml_tree.proofs.Shaped.{module_shaped}
use Rattle.aml_objects.specs.declared.object.Entry.{Entry}
use Rattle.aml_objects.specs.declared.object.Entry.TheVariants.{Own, Alias}
use Rattle.aml_objects.specs.declared.object.Method.{Method}
use Rattle.aml_objects.specs.declared.object.Object.{Object}
use Rattle.aml_objects.specs.declared.object.Object.TheVariants as object
use Rattle.aml_namespace.specs.Bodies.{BodiesWithin, bytes_of}
use Rattle.aml_objects.specs.Entries.{Entries, object_at}
use Rattle.aml_namespace.specs.Load.{AllMake, Makes, at_root}
use Rattle.aml_objects.specs.Predefined.{predefined_entries}
use Rattle.aml_namespace.proofs.Additions.{Adds, AreSound, IsSound, adds_all}

-- a method's body lies in one of these tables
abbrev LiesIn : List (List ℕ) → Entry → Type 0
LiesIn tables (Own (object.Method m)) = (m.table < length tables) × (m.body.at ≤ m.body.end) × (m.body.end ≤ length (bytes_of tables m.table))
LiesIn tables entry = Unit {0}

abbrev AllLieIn : List (List ℕ) → Entries → Type 0
AllLieIn tables [] = Unit {0}
AllLieIn tables (e ∷ es) = LiesIn tables e.1 × AllLieIn tables es

-- what is behind the first tables
pub slice_get-drop : (tables : List (List ℕ)) (n : ℕ) (bytes : List ℕ) (more : List (List ℕ)) → drop n tables ≡ bytes ∷ more → slice_get tables n ≡ Some bytes
slice_get-drop [] zero bytes more is = absurd cc
slice_get-drop [] (suc n) bytes more is = absurd cc
slice_get-drop (b ∷ tables) zero bytes more is = cc
slice_get-drop (b ∷ tables) (suc n) bytes more is = slice_get-drop tables n bytes more is

pub drop-drop : (tables : List (List ℕ)) (n : ℕ) (bytes : List ℕ) (more : List (List ℕ)) → drop n tables ≡ bytes ∷ more → drop (suc n) tables ≡ more
drop-drop [] zero bytes more is = absurd cc
drop-drop [] (suc n) bytes more is = absurd cc
drop-drop (b ∷ tables) zero bytes more is = cc
drop-drop (b ∷ tables) (suc n) bytes more is = drop-drop tables n bytes more is

module _ (tables : List (List ℕ)) where
  method_lies : (n : ℕ) (bytes : List ℕ) (m : Method) → slice_get tables n ≡ Some bytes → IsSound n (length bytes) (Own (object.Method m)) → LiesIn tables (Own (object.Method m))
  method_lies n bytes m is sound =
      let there : n < length tables = slice_get_within tables n bytes is in
      let mine : bytes_of tables m.table ≡ bytes = ap (bytes_of tables) sound.0 ∙ ap (λ (o : Option (List ℕ)). unwrap_or o []) is in
      let long = ap length mine in
      (omega (arith, sound.0, there), sound.1, omega (arith, sound.2, long))

  entry_lies : (n : ℕ) (bytes : List ℕ) (entry : Entry) → slice_get tables n ≡ Some bytes → IsSound n (length bytes) entry → LiesIn tables entry
  entry_lies n bytes (Own (object.Method m)) is sound = method_lies n bytes m is sound
  entry_lies n bytes (Own o) is sound = tt
  entry_lies n bytes (Alias id) is sound = tt

  all_lie : (n : ℕ) (bytes : List ℕ) (es : Entries) → slice_get tables n ≡ Some bytes → AreSound n (length bytes) es → AllLieIn tables es
  all_lie n bytes [] is sound = tt
  all_lie n bytes (e ∷ es) is sound = (entry_lies n bytes e.1 is sound.0, all_lie n bytes es is sound.1)

  both_lie : (es fs : Entries) → AllLieIn tables es → AllLieIn tables fs → AllLieIn tables (es ++ fs)
  both_lie [] fs h g = g
  both_lie (e ∷ es) fs h g = (h.0, both_lie es fs h.1 g)

  made_lies : (n : ℕ) (bytes : List ℕ) (before after : Entries) → slice_get tables n ≡ Some bytes → Makes n bytes before after → AllLieIn tables before → AllLieIn tables after
  made_lies n bytes before after is made h =
      let shaped = (module_shaped bytes made.terms made.module_of).1 in
      let spelled = module_spelled bytes made.terms made.module_of in
      let adds = subst (Adds n (length bytes) before) made.makes (adds_all (at_root n bytes) before (trees made.terms) shaped spelled) in
      subst (AllLieIn tables) (sym adds.1) (both_lie before adds.0 h (all_lie n bytes adds.0 is adds.2))

  all_made_lie : (n : ℕ) (rest : List (List ℕ)) (before after : Entries) → drop n tables ≡ rest → AllMake n rest before after → AllLieIn tables before → AllLieIn tables after
  all_made_lie n [] before after is made h = subst (AllLieIn tables) made h
  all_made_lie n (bytes ∷ rest) before after is made h =
      all_made_lie (suc n) rest made.0 after (drop-drop tables n bytes rest is) made.2
      (made_lies n bytes before made.0 (slice_get-drop tables n bytes rest is) made.1 h)

  lies_at : (es : Entries) (i : ℕ) (m : Method) → AllLieIn tables es → object_at es i ≡ Some (object.Method m) → LiesIn tables (Own (object.Method m))
  lies_at [] i m h is = absurd cc
  lies_at ((path, Own o) ∷ es) zero m h is = let same : o ≡ object.Method m = same_Some o (object.Method m) is in subst (λ (x : Object). LiesIn tables (Own x)) same h.0
  lies_at ((path, Alias id) ∷ es) zero m h is = absurd cc
  lies_at (e ∷ es) (suc i) m h is = lies_at es i m h.1 is

-- the body of each method of loaded tables lies within its table
pub bodies_within : (tables : List (List ℕ)) (os_length : ℕ) (entries : Entries) → AllMake 0 tables (predefined_entries os_length) entries → BodiesWithin tables entries
bodies_within tables os_length entries made i m is =
    lies_at tables entries i m (all_made_lie tables 0 tables (predefined_entries os_length) entries refl made (tt, (tt, (tt, (tt, (tt, (tt, (tt, (tt, (tt, tt)))))))))) is
