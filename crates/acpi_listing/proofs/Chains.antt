-- Laws of chains of steps.
use Rattle.std.proofs.Common.{◌≡◌, ℕ, List, [], ◌++◌, Option, Result, Ok, Err, ap, inl, inr, refl, sym, subst}
use Rattle.std.specs.Prelude.{IsErrAnd}
use Rattle.std.specs.Io.KnownBytes.{Appends}
use Rattle.std.proofs.KnownBytes.{Appends-trans, Appends-nil}
use Rattle.acpi_text.specs.declared.writing.RunFault.{RunFault}
use Rattle.acpi_listing.specs.Steps.{Step, Then, Quietly, Obtains, Ends, Prints, Tells, Still, Writes}
use Rattle.acpi_sources.specs.declared.fault.Fault.{Fault}
use Rattle.acpi_listing.specs.declared.stop.Stop.{Stop}
use Rattle.acpi_listing.specs.declared.stop.Stop.TheVariants.{Fault as Faulty, Run}
use Rattle.acpi_sources.specs.declared.status.Status.{Status}

-- a step gave a value, so the chain goes on
pub goes_on : {F V W : Type 0} (first : Step F V) (next : V → Step F W) (old mid new : F) (held between holds : Option (List ℕ)) (v : V) (r : Result W Stop)
    → Writes first old mid held between (Ok v) → Writes (next v) mid new between holds r → Writes (Then first next) old new held holds r
goes_on first next old mid new held between holds v (Ok w) (front, did, wrote) (back, does, writes) =
    (front ++ back, (v, mid, front, back, did, does, refl), Appends-trans held between holds front back wrote writes)
goes_on first next old mid new held between holds v (Err e) (front, did, wrote) (back, does, writes) =
    (front ++ back, inr (v, mid, front, back, did, does, refl), Appends-trans held between holds front back wrote writes)

-- a step stopped, and so does the chain
pub stops : {F V W : Type 0} (first : Step F V) (next : V → Step F W) (old new : F) (held holds : Option (List ℕ)) (e : Stop) (r : Result W Stop)
    → IsErrAnd r (λ s. s ≡ e) → Writes first old new held holds (Err e) → Writes (Then first next) old new held holds r
stops first next old new held holds e (Ok w) is stopped = absurd is
stops first next old new held holds e (Err s) is (text, did, wrote) =
    subst (λ stop. Writes (Then first next) old new held holds (Err stop)) (sym is) (text, inl did, wrote)

-- a step that wrote nothing
pub quiet : {F V W : Type 0} (does : F → Result V Fault → F → Type 0) (next : V → Step F W) (old mid new : F) (held holds : Option (List ℕ)) (v : V) (r : Result W Stop)
    → does old (Ok v) mid → Writes (next v) mid new held holds r → Writes (Then (Quietly does) next) old new held holds r
quiet does next old mid new held holds v r did = goes_on (Quietly does) next old mid new held held holds v r ([], (did, refl), Appends-nil held)

pub quiet_fault : {F V W : Type 0} (does : F → Result V Fault → F → Type 0) (next : V → Step F W) (old new : F) (held : Option (List ℕ)) (f : Fault) (r : Result W Stop)
    → IsErrAnd r (λ s. s ≡ Faulty f) → does old (Err f) new → Writes (Then (Quietly does) next) old new held held r
quiet_fault does next old new held f r is did = stops (Quietly does) next old new held held (Faulty f) r is ([], (did, refl), Appends-nil held)

-- a step that left the source alone too
pub given : {F V W : Type 0} (is : Result V Fault → Type 0) (next : V → Step F W) (old new : F) (held holds : Option (List ℕ)) (v : V) (r : Result W Stop)
    → is (Ok v) → Writes (next v) old new held holds r → Writes (Then (Obtains is) next) old new held holds r
given is next old new held holds v r did = quiet (λ o x n. is x × (n ≡ o)) next old old new held holds v r (did, refl)

pub given_fault : {F V W : Type 0} (is : Result V Fault → Type 0) (next : V → Step F W) (old : F) (held : Option (List ℕ)) (f : Fault) (r : Result W Stop)
    → IsErrAnd r (λ s. s ≡ Faulty f) → is (Err f) → Writes (Then (Obtains is) next) old old held held r
given_fault is next old held f r same did = quiet_fault (λ o x n. is x × (n ≡ o)) next old old held f r same (did, refl)

-- the end
pub ended : {F : Type 0} (old : F) (held : Option (List ℕ)) (status n : Status) → n ≡ status → Writes (Ends status) old old held held (Ok n)
ended old held status n is = ([], ((ap (λ m. Ok m) is, refl), refl), Appends-nil held)

-- a text that was written whole, or not
pub printed : {F : Type 0} (old : F) (held holds : Option (List ℕ)) (line : List ℕ) (u : Unit {0}) → Appends held holds line → Writes (Prints line) old old held holds (Ok u)
printed old held holds line u wrote = (line, (refl, refl), wrote)

pub cut_off : {F : Type 0} (old : F) (held holds : Option (List ℕ)) (line : List ℕ) (f : RunFault)
    → ((front : List ℕ) × (rest : List ℕ) × (line ≡ front ++ rest) × Appends held holds front) → Writes (Prints line) old old held holds (Err (Run f))
cut_off old held holds line f (front, rest, split, wrote) = (front, ((rest, split), refl), wrote)

-- a last line, and its status
pub told : {F : Type 0} (old : F) (held holds : Option (List ℕ)) (line : List ℕ) (status n : Status)
    → n ≡ status → Appends held holds line → Writes (Tells line status) old old held holds (Ok n)
told old held holds line status n is wrote =
    goes_on (Prints line) (λ _. Ends status) old old old held holds holds tt (Ok n) (printed old held holds line tt wrote) (ended old holds status n is)

pub half_told : {F : Type 0} (old : F) (held holds : Option (List ℕ)) (line : List ℕ) (status : Status) (f : RunFault) (r : Result Status Stop)
    → IsErrAnd r (λ s. s ≡ Run f) → ((front : List ℕ) × (rest : List ℕ) × (line ≡ front ++ rest) × Appends held holds front)
    → Writes (Tells line status) old old held holds r
half_told old held holds line status f r is part = stops (Prints line) (λ _. Ends status) old old held holds (Run f) r is (cut_off old held holds line f part)

-- steps without a source
pub still : {F V : Type 0} (does : Step (Unit {0}) V) (old : F) (held holds : Option (List ℕ)) (r : Result V Stop)
    → Writes does tt tt held holds r → Writes (Still does) old old held holds r
still does old held holds r (text, did, wrote) = (text, (did, refl), wrote)
