-- A log that began with a text, and went on.
use Rattle.std.specs.Prelude.{slice_get, Some}
use Rattle.std.proofs.lemmas.Option.{same_Some}
use Rattle.aml_contents.specs.FirstContents.{first_kinds}
use Rattle.aml_namespace.specs.Load.{Shown}
use Rattle.acpi_listing.specs.Commands.{AreStill}
use Rattle.std.proofs.Common.{◌≡◌, ◌+◌, ◌<◌, ◌∙◌, ℕ, zero, suc, List, [], ◌∷◌, ◌++◌, ap, arith, drop, refl, subst, sym}
use Rattle.aml_regions.specs.Events.{Event, IsWord, Log, Stalled}
use Rattle.aml_regions.specs.EventViews.{events_of}
use Rattle.aml_regions.specs.Registers.{contents}
use Rattle.aml_regions.specs.Text.{TextSets}
use Rattle.aml_registers.specs.Answers.{AreAnswered, LeaveNames, doubled, number_of, start_of}
use Rattle.aml_registers.specs.declared.registers.Registers.{Registers}

-- a log of a text at its front, and events behind it
abbrev pub log_with : List ℕ → List Event → ℕ → Log
log_with text events refusals = record { events = start_of text ∷ events; refusals = refusals }

-- the number of a text tells it
some_number : (a n : ℕ) → 0 < n → 0 < doubled a n
some_number zero n lt = lt
some_number (suc a) n lt = let more = some_number a n lt in omega (arith, more)

same_parts : (a b m n : ℕ) → doubled a (1 + (m + m)) ≡ doubled b (1 + (n + n)) → (a ≡ b) × (m ≡ n)
same_parts zero zero m n e = (refl, omega (arith, e))
same_parts zero (suc b) m n e = absurd (omega (arith, e))
same_parts (suc a) zero m n e = absurd (omega (arith, e))
same_parts (suc a) (suc b) m n e =
    let half : doubled a (1 + (m + m)) ≡ doubled b (1 + (n + n)) = omega (arith, e) in
    let parts = same_parts a b m n half in
    (ap suc parts.0, parts.1)

same_list : (xs ys : List ℕ) → number_of xs ≡ number_of ys → xs ≡ ys
same_list [] [] e = refl
same_list [] (y ∷ ys) e = let some = some_number y (1 + (number_of ys + number_of ys)) (omega arith) in absurd (omega (arith, e, some))
same_list (x ∷ xs) [] e = let some = some_number x (1 + (number_of xs + number_of xs)) (omega arith) in absurd (omega (arith, e, some))
same_list (x ∷ xs) (y ∷ ys) e =
    let parts = same_parts x y (number_of xs) (number_of ys) e in
    ap (λ (l : List ℕ). x ∷ l) (same_list xs ys parts.1) ∙ ap (λ z. z ∷ ys) parts.0

-- the number at the front of a log
abbrev number_first : List Event → ℕ
number_first (Stalled n ∷ more) = n
number_first log = 0

-- it stays
pub same_text : (old new : List ℕ) (events growth : List Event) → start_of new ∷ events ≡ (start_of old ∷ []) ++ growth → new ≡ old
same_text old new events growth is = same_list new old (ap number_first is)

-- so the reads among what it went on with are answered as these registers answer them
pub answered : (first left : Registers) → TextSets first.text.items (contents first.file) → (events : List Event)
    → start_of left.text.items ∷ events_of left.file.events.items ≡ (start_of first.text.items ∷ []) ++ events → AreAnswered (contents first.file) events
answered first left sets events is =
    let same : left.text.items ≡ first.text.items = same_text first.text.items left.text.items (events_of left.file.events.items) events is in
    subst (AreAnswered (contents first.file)) (ap (drop 1) is)
    (left.answers (contents first.file) (subst (λ (text : List ℕ). TextSets text (contents first.file)) (sym same) sets))

-- the text at the front tells nothing of names
pub begins_still : (ns : Shown) (text : List ℕ) → AreStill ns (start_of text ∷ [])
begins_still ns text = record { words = record { each = fits }; left = none_left }
  where
    fits : (i : ℕ) (event : Event) → slice_get (start_of text ∷ []) i ≡ Some event → IsWord (first_kinds ns) event
    fits zero event is = let same : start_of text ≡ event = same_Some _ event is in subst (IsWord (first_kinds ns)) same tt
    fits (suc i) event is = absurd cc

    none_left : LeaveNames (start_of text ∷ [])
    none_left zero milliseconds contents is = absurd cc
    none_left (suc i) milliseconds contents is = absurd cc
