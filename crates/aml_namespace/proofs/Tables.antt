-- Loading tables one behind the other.
use Rattle.std.proofs.Common.{◌≡◌, ℕ, zero, suc, ◌+◌, ◌<◌, ◌≤◌, inl, inr, List, [], ◌∷◌, ◌++◌, length, get_or, drop, map, slice_get, Some, Err, refl, sym, ap, ◌∙◌, subst, arith}
use Rattle.std.proofs.lemmas.List.{append_assoc, append-nil, drop_all}
use Rattle.aml_operators.specs.Tree.{trees}
use Rattle.aml_arities.specs.declared.external.External.{External}
use Rattle.aml_namespace.specs.Externals.{all_declared}
use Rattle.acpi_tables.specs.Bytes.{number_at}
use Rattle.aml_objects.specs.declared.fault.LoadFault.{LoadFault}
use Rattle.aml_objects.specs.declared.fault.LoadFault.TheVariants.{NoMemory, Refused}
use Rattle.aml_namespace.specs.Loads.{LoadsAll, LoadsTable}
use Rattle.aml_objects.specs.declared.fault.LoadRefusal.{LoadRefusal}
use Rattle.aml_objects.specs.Entries.{Entries}
use Rattle.aml_namespace.specs.Load.{AllDeclare, AllFail, AllMake, Fails, Makes, at_root, first_width}
use Rattle.aml_objects.specs.Widths.{width_by}
use Rattle.aml_paths.proofs.Positions.{drop_from}

-- behind the first tables: what the others make, all make, and where one of the others fails first, so do all
pub record LeftToLoad (tables : List (List ℕ)) (before : Entries) (n : ℕ) (now : Entries) : Type 0 where
  pub makes : (after : Entries) → AllMake n (drop n tables) now after → AllMake 0 tables before after
  pub fails : (f : LoadRefusal) → AllFail n (drop n tables) now f → AllFail 0 tables before f

pub LeftToLoad-none : (tables : List (List ℕ)) (before : Entries) → LeftToLoad tables before 0 before
LeftToLoad-none tables before = record { makes = λ after h. h; fails = λ f h. h }

module _ (tables : List (List ℕ)) (before now : Entries) (n : ℕ) (bytes : List ℕ) (is : slice_get tables n ≡ Some bytes) (left : LeftToLoad tables before n now) where
  next : drop n tables ≡ bytes ∷ drop (n + 1) tables
  next = drop_from tables n bytes is

  same_next : n + 1 ≡ suc n
  same_next = omega arith

  -- one more table
  pub LeftToLoad-more : (after : Entries) → Makes n bytes now after → LeftToLoad tables before (n + 1) after
  LeftToLoad-more after made = record {
    makes = λ last h. left.makes last (subst (λ (ts : List (List ℕ)). AllMake n ts now last) (sym next) (after, made, subst (λ (k : ℕ). AllMake k (drop (n + 1) tables) after last) same_next h));
    fails = λ f h. left.fails f (subst (λ (ts : List (List ℕ)). AllFail n ts now f) (sym next) (inr (after, made, subst (λ (k : ℕ). AllFail k (drop (n + 1) tables) after f) same_next h)));
  }

  pub LeftToLoad-fault : (f : LoadRefusal) → Fails n bytes now f → AllFail 0 tables before f
  LeftToLoad-fault f fault = left.fails f (subst (λ (ts : List (List ℕ)). AllFail n ts now f) (sym next) (inl fault))

pub LeftToLoad-all : (tables : List (List ℕ)) (before : Entries) (n : ℕ) (now : Entries) → length tables ≤ n → LeftToLoad tables before n now → AllMake 0 tables before now
LeftToLoad-all tables before n now past left = left.makes now (subst (λ (ts : List (List ℕ)). AllMake n ts now now) (sym (drop_all n tables past)) refl)

-- the first table tells the width
pub first_tells : (tables : List (List ℕ)) (bytes : List ℕ) → slice_get tables 0 ≡ Some bytes → width_by (number_at 8 1 bytes) ≡ first_width tables
first_tells [] bytes is = absurd cc
first_tells (first ∷ tables) bytes is = let same : first ≡ bytes = cc in ap (λ (b : List ℕ). width_by (number_at 8 1 b)) (sym same)

-- a fault of one table is that of all
pub fault_of_all : (tables : List (List ℕ)) (before now left after : Entries) (n : ℕ) (bytes : List ℕ) (fault : LoadFault) → slice_get tables n ≡ Some bytes → LeftToLoad tables before n now → LoadsTable n bytes now left (Err fault) → LoadsAll tables before after (Err fault)
fault_of_all tables before now left after n bytes NoMemory is behind h = tt
fault_of_all tables before now left after n bytes (Refused f) is behind h = LeftToLoad-fault tables before now n bytes is behind f h

pub slice_get-map : {X Y : Type 0} (f : X → Y) (xs : List X) (n : ℕ) (d : X) → n < length xs → slice_get (map f xs) n ≡ Some (f (get_or xs n d))
slice_get-map f [] n d lt = absurd (omega arith)
slice_get-map f (x ∷ xs) zero d lt = refl
slice_get-map f (x ∷ xs) (suc n) d lt = slice_get-map f xs n d (omega arith)

-- the first of them tells it
pub first_told : (tables : List (List ℕ)) (bytes : List ℕ) (n revision : ℕ) → slice_get tables n ≡ Some bytes → n ≡ 0 → revision ≡ number_at 8 1 bytes → width_by revision ≡ first_width tables
first_told tables bytes n revision is first told = ap width_by told ∙ first_tells tables bytes (subst (λ (k : ℕ). slice_get tables k ≡ Some bytes) first is)

-- behind the first tables: what the others declare stands behind what those did
abbrev pub LeftToDeclare : List (List ℕ) → Entries → ℕ → Entries → List External → Type 0
LeftToDeclare tables before n now externals = (rest : List External) → AllDeclare n (drop n tables) now rest → AllDeclare 0 tables before (externals ++ rest)

module _ (tables : List (List ℕ)) (before now : Entries) (n : ℕ) (bytes : List ℕ) (is : slice_get tables n ≡ Some bytes) (externals : List External) (left : LeftToDeclare tables before n now externals) where
  -- one more table
  pub LeftToDeclare-more : (after : Entries) (makes : Makes n bytes now after) (more : List External) → more ≡ externals ++ all_declared (at_root n bytes) now (trees makes.terms) → LeftToDeclare tables before (n + 1) after more
  LeftToDeclare-more after makes more same rest h =
      let mine = all_declared (at_root n bytes) now (trees makes.terms) in
      let next_is : drop n tables ≡ bytes ∷ drop (n + 1) tables = drop_from tables n bytes is in
      let number : n + 1 ≡ suc n = omega arith in
      let others = subst (λ (k : ℕ). AllDeclare k (drop (n + 1) tables) after rest) number h in
      let all = left (mine ++ rest) (subst (λ (ts : List (List ℕ)). AllDeclare n ts now (mine ++ rest)) (sym next_is) (after, makes, rest, others, refl)) in
      subst (AllDeclare 0 tables before) (sym (append_assoc externals mine rest) ∙ ap (λ (l : List External). l ++ rest) (sym same)) all

pub LeftToDeclare-all : (tables : List (List ℕ)) (before : Entries) (n : ℕ) (now : Entries) (externals : List External) → length tables ≤ n → LeftToDeclare tables before n now externals → AllDeclare 0 tables before externals
LeftToDeclare-all tables before n now externals past left =
    subst (AllDeclare 0 tables before) (append-nil externals) (left [] (subst (λ (ts : List (List ℕ)). AllDeclare n ts now []) (sym (drop_all n tables past)) refl))
