-- What is told of paths, when a path is added, and when one is told of.
use Rattle.std.proofs.Common.{◌≡◌, ℕ, zero, suc, ◌<◌, List, [], ◌∷◌, ◌++◌, length, take, slice_get, Option, Some, None, Result, Ok, Err, OnOk, Bool, true, false, cond, refl, sym, ap, ◌∙◌, arith, option_and_then}
use Rattle.std.specs.Option.{option_map, option_or}
use Rattle.std.specs.Ordering.{nat_cmp}
use Rattle.std.specs.BTreeMap.{BTreeMap, Updates, get}
use Rattle.std.proofs.lemmas.Bool.Decides.{nat_tests}
use Rattle.std.proofs.lemmas.Option.{same_Some, slice_get_within}
use Rattle.aml_lex.specs.NameStrings.{NameString}
use Rattle.aml_lex.specs.Names.{lone_segment}
use Rattle.aml_lex.specs.Standing.{name_there}
use Rattle.aml_arities.specs.declared.counted.Counted.{Counted}
use Rattle.aml_arities.specs.declared.external.External.{External}
use Rattle.aml_arities.specs.Counted.{Stays, Tells, TellsAll, all_paths, told}
use Rattle.aml_paths.specs.Scopes.{scope_number}
use Rattle.aml_paths.specs.Paths.{AreDistinct, Path, path_at, path_number, same_path}
use Rattle.aml_paths.specs.Resolve.{base_of, greatest, resolve, resolve_by, spelled}
use Rattle.aml_arities.specs.Told.{declared_path, first_told, told_under}
use Rattle.aml_arities.specs.Counts.{CountsWithin}
use Rattle.aml_paths.proofs.PathNumbers.{path_at_is, path_at_there, path_decides, path_number_new, path_number_other, path_number_stays, path_number_there}

pub or_none : {X : Type 0} (o : Option X) → option_or o None ≡ o
or_none None = refl
or_none (Some x) = refl

pub or_assoc : {X : Type 0} (a b c : Option X) → option_or a (option_or b c) ≡ option_or (option_or a b) c
or_assoc None b c = refl
or_assoc (Some x) b c = refl

module _ (paths : List Path) (counts : BTreeMap ℕ ℕ) where
  abbrev pub counted : List Path → Path → Option ℕ
  counted ps path = option_and_then (get nat_cmp counts) (path_number ps path)

  module _ (within : CountsWithin counts (length paths)) (added : Path) (new : path_number paths added ≡ None) where
    abbrev more : List Path
    more = paths ++ added ∷ []

    unknown : (path : Path) (b : Bool) → same_path path added ≡ b → path_number paths path ≡ None → counted more path ≡ None
    unknown path true same none =
        let is = (path_decides path added).0 same in
        ap (option_and_then (get nat_cmp counts)) (ap (path_number more) is ∙ path_number_new paths added new) ∙ within (length paths) (omega arith)
    unknown path false same none =
        ap (option_and_then (get nat_cmp counts)) (path_number_other paths added path (λ e. absurd (let yes = (path_decides path added).1 e in let no : true ≡ false = sym yes ∙ same in cc)) ∙ none)

    stays_by : (path : Path) (o : Option ℕ) → path_number paths path ≡ o → counted more path ≡ counted paths path
    stays_by path None is = unknown path (same_path path added) refl is ∙ sym (ap (option_and_then (get nat_cmp counts)) is)
    stays_by path (Some n) is = ap (option_and_then (get nat_cmp counts)) (path_number_stays paths added path n is ∙ sym is)

    -- with a path more, nothing more is told
    pub told_stays : (path : Path) → counted more path ≡ counted paths path
    told_stays path = stays_by path (path_number paths path) refl

-- where a path is told of
module _ (paths : List Path) (distinct : AreDistinct paths) (number : ℕ) (there : number < length paths) (args : ℕ) where
  abbrev path_of : Path
  path_of = path_at paths number

  at_number : path_number paths path_of ≡ Some number
  at_number = distinct number path_of (path_at_there paths number there)

  abbrev tells : Path → Option ℕ
  tells path = told_under (Some path_of) args path

  tells_same : (path : Path) → same_path path path_of ≡ true → tells path ≡ Some args
  tells_same path same = ap (λ (b : Bool). cond b (Some args) None) same

  tells_other : (path : Path) → same_path path path_of ≡ false → tells path ≡ None
  tells_other path same = ap (λ (b : Bool). cond b (Some args) None) same

  -- nothing new, where it was told of
  known_by : (counts : BTreeMap ℕ ℕ) (m : ℕ) (path : Path) (b : Bool) → get nat_cmp counts number ≡ Some m → same_path path path_of ≡ b → counted paths counts paths path ≡ option_or (counted paths counts paths path) (tells path)
  known_by counts m path true known same =
      let is = (path_decides path path_of).0 same in
      let was : counted paths counts paths path ≡ Some m = ap (option_and_then (get nat_cmp counts)) (ap (path_number paths) is ∙ at_number) ∙ known in
      was ∙ sym (ap (λ (o : Option ℕ). option_or o (tells path)) was)
  known_by counts m path false known same =
      sym (ap (option_or (counted paths counts paths path)) (tells_other path same) ∙ or_none (counted paths counts paths path))

  pub known_tells : (counts : BTreeMap ℕ ℕ) (m : ℕ) → get nat_cmp counts number ≡ Some m → (path : Path) → counted paths counts paths path ≡ option_or (counted paths counts paths path) (tells path)
  known_tells counts m known path = known_by counts m path (same_path path path_of) known refl

  module _ (counts changed : BTreeMap ℕ ℕ) (absent : get nat_cmp counts number ≡ None) (updates : Updates nat_cmp counts changed number (Some args)) where
    elsewhere : (n : ℕ) → (n ≡ number → ⊥) → get nat_cmp changed n ≡ get nat_cmp counts n
    elsewhere n apart = updates.2 n (grind (arith, nat_tests, apart))

    told_by : (path : Path) (o : Option ℕ) (b : Bool) → path_number paths path ≡ o → same_path path path_of ≡ b → counted paths changed paths path ≡ option_or (counted paths counts paths path) (tells path)
    told_by path o true is same =
        let path_is = (path_decides path path_of).0 same in
        let at = ap (path_number paths) path_is ∙ at_number in
        let now : counted paths changed paths path ≡ Some args = ap (option_and_then (get nat_cmp changed)) at ∙ updates.1 in
        let was : counted paths counts paths path ≡ None = ap (option_and_then (get nat_cmp counts)) at ∙ absent in
        now ∙ sym (ap (λ (p : Option ℕ). option_or p (tells path)) was ∙ tells_same path same)
    told_by path None false is same =
        ap (option_and_then (get nat_cmp changed)) is
        ∙ sym (ap (λ (p : Option ℕ). option_or p (tells path)) (ap (option_and_then (get nat_cmp counts)) is) ∙ tells_other path same)
    told_by path (Some n) false is same =
        let apart : n ≡ number → ⊥ = λ e.
        let at : slice_get paths number ≡ Some path = ap (slice_get paths) (sym e) ∙ path_number_there paths path n is in
        let path_is = same_Some path path_of (sym at ∙ path_at_there paths number there) in
        let no : true ≡ false = sym ((path_decides path path_of).1 path_is) ∙ same in absurd cc in
        ap (option_and_then (get nat_cmp changed)) is ∙ elsewhere n apart
        ∙ sym (ap (option_or (counted paths counts paths path)) (tells_other path same) ∙ or_none (counted paths counts paths path) ∙ ap (option_and_then (get nat_cmp counts)) is)

    -- what was not told of is now
    pub new_tells : (path : Path) → counted paths changed paths path ≡ option_or (counted paths counts paths path) (tells path)
    new_tells path = told_by path (path_number paths path) (same_path path path_of) refl refl

-- what one more declaration tells
module _ (tables : List (List ℕ)) (paths : List Path) where
  pub first_told-push : (es : List External) (e : External) (path : Path) → first_told tables paths (es ++ e ∷ []) path ≡ option_or (first_told tables paths es path) (told_under (declared_path tables paths e) e.args path)
  first_told-push [] e path = or_none (told_under (declared_path tables paths e) e.args path)
  first_told-push (d ∷ es) e path =
      let first = told_under (declared_path tables paths d) d.args path in
      ap (option_or first) (first_told-push es e path)
      ∙ or_assoc first (first_told tables paths es path) (told_under (declared_path tables paths e) e.args path)

pub on_ok : {X E : Type 0} {P Q : Type 0} (r : Result X E) → (P → Q) → OnOk r P → OnOk r Q
on_ok (Ok x) f p = f p
on_ok (Err e) f p = p

pub stays_itself : (c : Counted) → Stays c c
stays_itself c = record { told_is = λ path. refl; named_are = refl; paths_stay = λ i path is. is }

pub stays_on : (old mid new : Counted) → Stays old mid → Stays mid new → Stays old new
stays_on old mid new first then = record {
  told_is = λ path. then.told_is path ∙ first.told_is path;
  named_are = then.named_are ∙ first.named_are;
  paths_stay = λ i path is. then.paths_stay i path (first.paths_stay i path is);
}

pub tells_on : (old mid new : Counted) (path : Option Path) (args : ℕ) → Stays old mid → Tells mid new path args → Tells old new path args
tells_on old mid new path args first then = record {
  told_is = λ p. then.told_is p ∙ ap (λ (o : Option ℕ). option_or o (told_under path args p)) (first.told_is p);
  named_are = then.named_are ∙ first.named_are;
}

-- the path that a declaration spells, where its parts are there
pub path_declared : (tables : List (List ℕ)) (paths : List Path) (e : External) (scope : Path) (bytes : List ℕ) (name : NameString) (base : Path)
    → slice_get paths (scope_number e.name.scope) ≡ Some scope → slice_get tables e.name.table ≡ Some bytes → name_there bytes e.name.at ≡ Some name → base_of scope name ≡ Some base
    → declared_path tables paths e ≡ Some (base ++ name.segs)
path_declared tables paths e scope bytes name base at_scope at_table at_name at_base =
    ap (option_and_then (λ (s : Path). option_and_then (spelled s) (option_and_then (λ (b : List ℕ). name_there b e.name.at) (slice_get tables e.name.table)))) at_scope
    ∙ ap (λ (o : Option (List ℕ)). option_and_then (spelled scope) (option_and_then (λ (b : List ℕ). name_there b e.name.at) o)) at_table
    ∙ ap (option_and_then (spelled scope)) at_name
    ∙ ap (option_map (λ (b : Path). b ++ name.segs)) at_base

taken_there : {X : Type 0} (n : ℕ) (xs : List X) (i : ℕ) (x : X) → slice_get (take n xs) i ≡ Some x → slice_get xs i ≡ Some x
taken_there zero xs i x is = absurd cc
taken_there (suc n) [] i x is = absurd cc
taken_there (suc n) (y ∷ xs) zero x is = is
taken_there (suc n) (y ∷ xs) (suc i) x is = taken_there n xs i x is

-- what is told of what a name names, as the declarations tell it
module _ (tables : List (List ℕ)) (paths : List Path) (externals : List External) (c : Counted) (tells : TellsAll tables paths externals c) (scope : ℕ) (path : Path) (is : slice_get paths scope ≡ Some path) where
  pub scope_there : slice_get (all_paths c) scope ≡ Some path
  scope_there = taken_there c.named (all_paths c) scope path (ap (λ (ps : List Path). slice_get ps scope) tells.named_are ∙ is)

  pub scope_within : scope < length (all_paths c)
  scope_within = slice_get_within (all_paths c) scope path scope_there

  pub told_as_declared : (name : NameString) → resolve (told c) (path_at (all_paths c) scope) name ≡ resolve (first_told tables paths externals) path name
  told_as_declared name =
      let same : told c ≡ first_told tables paths externals = λ i p. tells.told_is p i in
      ap (λ (p : Path). resolve (told c) p name) (path_at_is (all_paths c) scope path scope_there)
      ∙ ap (λ (find : Path → Option ℕ). resolve find path name) same

nowhere : (n : ℕ) → greatest {X = ℕ} (λ k. None) n ≡ None
nowhere zero = refl
nowhere (suc n) = nowhere n

no_path : (o : Option Path) → option_and_then {U = ℕ} (λ (p : Path). None) o ≡ None
no_path None = refl
no_path (Some p) = refl

none_by : (path : Path) (name : NameString) (o : Option (List ℕ)) → resolve_by {X = ℕ} (λ (p : Path). None) path name o ≡ None
none_by path name None = no_path (spelled path name)
none_by path name (Some segment) = nowhere (length path)

-- where nothing is declared, nothing is told
pub none_declared : (tables : List (List ℕ)) (paths : List Path) (path : Path) (name : NameString) → resolve (first_told tables paths []) path name ≡ None
none_declared tables paths path name = none_by path name (lone_segment name)
