-- Laws of reading files one after the other.
use Rattle.std.proofs.Common.{add-one, ◌≡◌, ℕ, ◌+◌, ◌<◌, ◌≤◌, List, [], ◌∷◌, ◌++◌, Result, Ok, Err, ap, ◌∙◌, append-nil, append_assoc, drop, drop-cons, get_or, inl, inr, length, map, refl, subst, sym}
use Rattle.std.specs.Prelude.{IsErrAnd, Vec, vec_items}
use Rattle.std.proofs.lemmas.List.{drop_all, map-append}
use Rattle.acpi_sources.specs.Files.{Answers, Opens, OpensAll, files_of}
use Rattle.acpi_sources.specs.declared.fault.Fault.{Fault}
use Rattle.acpi_sources.specs.Faults.{nowhere}
use Rattle.acpi_sources.specs.declared.fault.FaultCause.TheVariants as cause

-- the names from one on
pub names_from : {X : Type 0} (now : X → List ℕ) (xs : List X) (i : ℕ) (d : X) → i < length xs
    → map now (drop i xs) ≡ now (get_or xs i d) ∷ map now (drop (i + 1) xs)
names_from now xs i d below = rw add-one (ap (map now) (drop-cons xs i d below))

-- files behind others that were read
abbrev pub behind : List (List ℕ) → Result (List (List ℕ)) Fault → Result (List (List ℕ)) Fault
behind done (Ok more) = Ok (done ++ more)
behind done (Err f) = Err f

-- what comes of the names that are left is, behind what was read, what comes of all
abbrev pub AllLeft : {F : Type 0} → Answers F → F → List (List ℕ) → List (List ℕ) → F → List (List ℕ) → Type 0
AllLeft answers old names done mid left =
    (r : Result (List (List ℕ)) Fault) (new : _) → OpensAll answers mid left r new → OpensAll answers old names (behind done r) new

-- one more file
one_more : {F : Type 0} (answers : Answers F) (mid next : F) (name bytes : List ℕ) (names : List (List ℕ)) (r : Result (List (List ℕ)) Fault) (new : F)
    → Opens answers mid name (Ok bytes) next → OpensAll answers next names r new → OpensAll answers mid (name ∷ names) (behind (bytes ∷ []) r) new
one_more answers mid next name bytes names (Ok more) new opens all = (bytes, next, more, opens, all, refl)
one_more answers mid next name bytes names (Err f) new opens fails = inr (inr (bytes, next, opens, fails))

behind_both : (done : List (List ℕ)) (bytes : List ℕ) (r : Result (List (List ℕ)) Fault) → behind done (behind (bytes ∷ []) r) ≡ behind (done ++ (bytes ∷ [])) r
behind_both done bytes (Ok more) = ap (λ all. Ok all) (sym (append_assoc done (bytes ∷ []) more))
behind_both done bytes (Err f) = refl

file_more : {F : Type 0} (answers : Answers F) (old mid next : F) (names : List (List ℕ)) (name bytes : List ℕ) (left done : List (List ℕ))
    → AllLeft answers old names done mid (name ∷ left) → Opens answers mid name (Ok bytes) next
    → AllLeft answers old names (done ++ (bytes ∷ [])) next left
file_more answers old mid next names name bytes left done so opens = λ r new all.
    subst (λ x. OpensAll answers old names x new) (behind_both done bytes r)
    (so (behind (bytes ∷ []) r) new (one_more answers mid next name bytes left r new opens all))

-- a file that cannot be had
file_stops : {F : Type 0} (answers : Answers F) (old mid new : F) (names : List (List ℕ)) (name : List ℕ) (left done : List (List ℕ)) (f : Fault)
    → AllLeft answers old names done mid (name ∷ left) → Opens answers mid name (Err f) new → OpensAll answers old names (Err f) new
file_stops answers old mid new names name left done f so opens = so (Err f) new (inr (inl opens))

-- want of memory
no_memory : {F : Type 0} (answers : Answers F) (mid : F) (left : List (List ℕ)) → OpensAll answers mid left (Err (nowhere cause.NoMemory)) mid
no_memory answers mid [] = (refl, refl)
no_memory answers mid (name ∷ left) = inl (refl, refl)

memory_stops : {F : Type 0} (answers : Answers F) (old mid : F) (names left done : List (List ℕ))
    → AllLeft answers old names done mid left → OpensAll answers old names (Err (nowhere cause.NoMemory)) mid
memory_stops answers old mid names left done so = so (Err (nowhere cause.NoMemory)) mid (no_memory answers mid left)

files_end : {F : Type 0} (answers : Answers F) (old new : F) (names done : List (List ℕ))
    → AllLeft answers old names done new [] → OpensAll answers old names (Ok done) new
files_end answers old new names done so =
    subst (λ all. OpensAll answers old names (Ok all) new) (append-nil done) (so (Ok []) new (refl, refl))

-- the loop over names: one more file was read and kept
pub read_more : {F X B : Type 0} (answers : Answers F) (old mid next : F) (now : X → List ℕ) (xs : List X) (i : ℕ) (d : X) (read grown : List (Vec ℕ B)) (bytes : Vec ℕ B)
    → i < length xs → AllLeft answers old (map now xs) (map vec_items read) mid (map now (drop i xs))
    → Opens answers mid (now (get_or xs i d)) (Ok (vec_items bytes)) next → grown ≡ read ++ (bytes ∷ [])
    → AllLeft answers old (map now xs) (map vec_items grown) next (map now (drop (i + 1) xs))
read_more answers old mid next now xs i d read grown bytes below left opens grows =
    let kept = ap (map vec_items) grows ∙ map-append vec_items read (bytes ∷ []) in
    subst (λ done. AllLeft answers old (map now xs) done next (map now (drop (i + 1) xs))) (sym kept)
    (file_more answers old mid next (map now xs) (now (get_or xs i d)) (vec_items bytes) (map now (drop (i + 1) xs)) (map vec_items read)
    (subst (AllLeft answers old (map now xs) (map vec_items read) mid) (names_from now xs i d below) left) opens)

-- a file that cannot be had
pub read_stops : {F X B : Type 0} (answers : Answers F) (old mid new : F) (now : X → List ℕ) (xs : List X) (i : ℕ) (d : X) (done : List (List ℕ)) (f : Fault) (r : Result (Vec (Vec ℕ B) B) Fault)
    → IsErrAnd r (λ e. e ≡ f) → i < length xs → AllLeft answers old (map now xs) done mid (map now (drop i xs))
    → Opens answers mid (now (get_or xs i d)) (Err f) new → OpensAll answers old (map now xs) (files_of r) new
read_stops answers old mid new now xs i d done f (Ok v) is below left opens = absurd is
read_stops answers old mid new now xs i d done f (Err e) is below left opens =
    subst (λ x. OpensAll answers old (map now xs) (Err x) new) (sym is)
    (file_stops answers old mid new (map now xs) (now (get_or xs i d)) (map now (drop (i + 1) xs)) done f
    (subst (AllLeft answers old (map now xs) done mid) (names_from now xs i d below) left) opens)

-- a file that was read, and no memory to keep it
pub read_unkept : {F X B : Type 0} (answers : Answers F) (old mid next : F) (now : X → List ℕ) (xs : List X) (i : ℕ) (d : X) (done : List (List ℕ)) (bytes : List ℕ) (r : Result (Vec (Vec ℕ B) B) Fault)
    → IsErrAnd r (λ e. e ≡ nowhere cause.NoMemory) → i < length xs → AllLeft answers old (map now xs) done mid (map now (drop i xs))
    → Opens answers mid (now (get_or xs i d)) (Ok bytes) next → OpensAll answers old (map now xs) (files_of r) next
read_unkept answers old mid next now xs i d done bytes (Ok v) is below left opens = absurd is
read_unkept answers old mid next now xs i d done bytes (Err e) is below left opens =
    subst (λ x. OpensAll answers old (map now xs) (Err x) next) (sym is)
    (memory_stops answers old next (map now xs) (map now (drop (i + 1) xs)) (done ++ (bytes ∷ []))
    (file_more answers old mid next (map now xs) (now (get_or xs i d)) bytes (map now (drop (i + 1) xs)) done
    (subst (AllLeft answers old (map now xs) done mid) (names_from now xs i d below) left) opens))

-- all files were read
pub read_all : {F X : Type 0} (answers : Answers F) (old new : F) (now : X → List ℕ) (xs : List X) (i : ℕ) (done : List (List ℕ))
    → length xs ≤ i → AllLeft answers old (map now xs) done new (map now (drop i xs)) → OpensAll answers old (map now xs) (Ok done) new
read_all answers old new now xs i done all left =
    files_end answers old new (map now xs) done (subst (λ rest. AllLeft answers old (map now xs) done new (map now rest)) (drop_all i xs all) left)
