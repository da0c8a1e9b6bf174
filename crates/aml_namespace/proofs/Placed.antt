-- The faults of a load stand within their tables.
use Rattle.std.proofs.Common.{◌≡◌, ℕ, suc, ◌≤◌, inl, inr, List, [], ◌∷◌, ◌++◌, length, drop, slice_get, Some, Bool, true, false, refl, sym, ap, ◌∙◌, subst, arith, append_assoc}
use Rattle.std.specs.Prelude.{nat_lt, nat_eq, not, sum, ◌==◌, ◌%◌}
use Rattle.std.specs.List.{starts_with}
use Rattle.std.proofs.lemmas.Bool.{ltb-false}
use Rattle.std.proofs.lemmas.List.{append-nil}
use Rattle.std.proofs.lemmas.Option.{slice_get_within}
use Rattle.aml_operators.specs.Tree.{trees}
use Rattle.aml_tree.proofs.Faults.{module_fault}
use Rattle.aml_tree.proofs.Names.{module_spelled}
use Rattle.aml_tree.proofs.Shaped.{module_shaped}
use Rattle.acpi_tables.specs.declared.fault.TableCause.TheVariants.{Short, BadLength, BadSum, BadSignature}
use Rattle.acpi_tables.specs.declared.fault.TableFault.{TableFault}
use Rattle.acpi_tables.specs.Bytes.{number_at}
use Rattle.acpi_tables.specs.Fault.{check, first_fault}
use Rattle.aml_objects.specs.declared.fault.LoadRefusal.{LoadRefusal}
use Rattle.aml_objects.specs.Entries.{Entries}
use Rattle.aml_namespace.specs.Laws.{DefinitionsStay, FaultsWithin, StandsWithin}
use Rattle.aml_namespace.specs.Load.{AllFail, AllMake, Fails, Makes, at_root, signature_of}
use Rattle.aml_objects.specs.Predefined.{predefined_entries}
use Rattle.aml_namespace.proofs.Additions.{Adds, adds_all}
use Rattle.aml_namespace.proofs.Sound.{drop-drop, slice_get-drop}

-- a fault of the table with a number, of so many bytes
abbrev StandsAt : ℕ → ℕ → LoadRefusal → Type 0
StandsAt n end f = (f.table ≡ n) × (f.at ≤ end)

-- where a table is refused
table_placed : (b c d e : Bool) (n : ℕ) (f : TableFault) → (b ≡ false → 36 ≤ n) → first_fault (check b Short n ∷ check c BadLength 4 ∷ check d BadSum 9 ∷ check e BadSignature 0 ∷ []) ≡ Some f → f.at ≤ n
table_placed true c d e n f long is = let same : record { cause = Short; at = n } ≡ f = cc in subst (λ (y : TableFault). y.at ≤ n) same (omega arith)
table_placed false true d e n f long is = let same : record { cause = BadLength; at = 4 } ≡ f = cc in subst (λ (y : TableFault). y.at ≤ n) same (let l : 36 ≤ n = long refl in omega arith)
table_placed false false true e n f long is = let same : record { cause = BadSum; at = 9 } ≡ f = cc in subst (λ (y : TableFault). y.at ≤ n) same (let l : 36 ≤ n = long refl in omega arith)
table_placed false false false true n f long is = let same : record { cause = BadSignature; at = 0 } ≡ f = cc in subst (λ (y : TableFault). y.at ≤ n) same (omega arith)
table_placed false false false false n f long is = absurd cc

one_placed : (n : ℕ) (bytes : List ℕ) (before : Entries) (f : LoadRefusal) → Fails n bytes before f → StandsAt n (length bytes) f
one_placed n bytes before f (inl h) =
    let w = table_placed (nat_lt (length bytes) 36) (not (number_at 4 4 bytes == length bytes)) (not (sum bytes % 256 == 0)) (not (starts_with nat_eq bytes (signature_of n))) (length bytes) h.0 (λ e. ltb-false _ _ e) h.1 in
    subst (λ (y : LoadRefusal). StandsAt n (length bytes) y) (sym h.2) (refl, w)
one_placed n bytes before f (inr (inl h)) = let w = module_fault bytes h.1.0 h.1.1 in subst (λ (y : LoadRefusal). StandsAt n (length bytes) y) (sym h.1.2) (refl, w)
one_placed n bytes before f (inr (inr h)) =
    let shaped = (module_shaped bytes h.1.0 h.1.1).1 in
    let spelled = module_spelled bytes h.1.0 h.1.1 in
    subst (Adds n (length bytes) before) h.1.2 (adds_all (at_root n bytes) before (trees h.1.0) shaped spelled)

stands_within : (tables : List (List ℕ)) (n : ℕ) (bytes : List ℕ) (f : LoadRefusal) → slice_get tables n ≡ Some bytes → StandsAt n (length bytes) f → StandsWithin tables f
stands_within tables n bytes f is h =
    let there = slice_get_within tables n bytes is in
    record {
      table = omega (arith, h.0, there);
      place = rw (ap (slice_get tables) h.0 ∙ is) h.1;
    }

module _ (tables : List (List ℕ)) where
  all_placed : (n : ℕ) (rest : List (List ℕ)) (before : Entries) (f : LoadRefusal) → drop n tables ≡ rest → AllFail n rest before f → StandsWithin tables f
  all_placed n [] before f is h = absurd h
  all_placed n (bytes ∷ rest) before f is (inl h) = stands_within tables n bytes f (slice_get-drop tables n bytes rest is) (one_placed n bytes before f h)
  all_placed n (bytes ∷ rest) before f is (inr h) = all_placed (suc n) rest h.0 f (drop-drop tables n bytes rest is) h.2

pub faults_within : FaultsWithin
faults_within tables os f h = all_placed tables 0 tables (predefined_entries (length os)) f refl h

-- what a table makes stands behind what was there
one_adds : (n : ℕ) (bytes : List ℕ) (before after : Entries) → Makes n bytes before after → (added : Entries) × (after ≡ before ++ added)
one_adds n bytes before after made =
    let shaped = (module_shaped bytes made.terms made.module_of).1 in
    let spelled = module_spelled bytes made.terms made.module_of in
    let adds = subst (Adds n (length bytes) before) made.makes (adds_all (at_root n bytes) before (trees made.terms) shaped spelled) in
    (adds.0, adds.1)

all_add : (n : ℕ) (tables : List (List ℕ)) (before after : Entries) → AllMake n tables before after → (added : Entries) × (after ≡ before ++ added)
all_add n [] before after made = ([], sym made ∙ sym (append-nil before))
all_add n (bytes ∷ tables) before after made =
    let first = one_adds n bytes before made.0 made.1 in
    let others = all_add (suc n) tables made.0 after made.2 in
    (first.0 ++ others.0, others.1 ∙ ap (λ (es : Entries). es ++ others.0) first.1 ∙ append_assoc before first.0 others.0)

stay_from : (n : ℕ) (tables more : List (List ℕ)) (before after : Entries) → AllMake n (tables ++ more) before after → (first added : Entries) × AllMake n tables before first × (after ≡ first ++ added)
stay_from n [] more before after made = let adds = all_add n more before after made in (before, adds.0, refl, adds.1)
stay_from n (bytes ∷ tables) more before after made =
    let others = stay_from (suc n) tables more made.0 after made.2 in
    (others.0, others.1, (made.0, made.1, others.2), others.3)

pub definitions_stay : DefinitionsStay
definitions_stay tables more before after made = stay_from 0 tables more before after made
