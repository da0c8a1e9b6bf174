-- Which events answer a read, and which a Sleep.
use Rattle.std.proofs.Common.{◌≡◌, ◌==◌, ◌&&◌, ℕ, Bool, true, false, Option, Some, refl, sym, ap}
use Rattle.std.specs.Cmp.{unsigned_Decides, first_so, second_so}
use Rattle.aml_regions.specs.declared.access.Access.{Access}
use Rattle.aml_regions.specs.Events.{Event, Read, Written, Notified, Slept, Stalled, same_access}
use Rattle.aml_contents.specs.Contents.{Contents}
use Rattle.aml_meaning.specs.State.{State, NoAnswer, with_steps}
use Rattle.aml_meaning.specs.Parts.{paid, read_unit, sleep, woken}
use Rattle.aml_meaning.specs.Whole.{ReadIsAnswered, OtherAnswerIsNone, SleepIsAnswered, OtherIsNoSleep}
use Rattle.aml_meaning.proofs.Told.{woken_there}

same_self : (a : Access) → same_access a a ≡ true
same_self a = rw ((unsigned_Decides a.space a.space).1 refl, (unsigned_Decides a.address a.address).1 refl, (unsigned_Decides a.width a.width).1 refl) refl

same_means : (a b : Access) → same_access a b ≡ true → a ≡ b
same_means a b same =
    let behind = second_so (a.space == b.space) ((a.address == b.address) && (a.width == b.width)) same in
    let space = (unsigned_Decides a.space b.space).0 (first_so (a.space == b.space) ((a.address == b.address) && (a.width == b.width)) same) in
    let address = (unsigned_Decides a.address b.address).0 (first_so (a.address == b.address) (a.width == b.width) behind) in
    let width = (unsigned_Decides a.width b.width).0 (second_so (a.address == b.address) (a.width == b.width) behind) in
    λ i. record { space = space i; address = address i; width = width i }

not_true : (b : Bool) → (b ≡ true → ⊥) → b ≡ false
not_true true h = absurd (h refl)
not_true false h = refl

pub read_is_answered : ReadIsAnswered
unfolding read_unit paid
read_is_answered access value n script s there left = rw (left, there, same_self access) refl

pub other_answer_is_none : OtherAnswerIsNone
unfolding read_unit paid
other_answer_is_none access other value n script s there differs left = rw (left, there, not_true (same_access access other) (λ same. differs (same_means access other same))) refl

pub sleep_is_answered : SleepIsAnswered
unfolding sleep paid
sleep_is_answered n k left script s there steps = rw (steps, there) (woken_there n left (with_steps s k))

-- an event that is no Sleep of as many milliseconds
not_woken : (n : ℕ) (event : Event) (s : State) → ((left : Option Contents) → event ≡ Slept n left → ⊥) → woken n (Some event) s ≡ NoAnswer s
not_woken n (Read access v) s differs = refl
not_woken n (Written access v) s differs = refl
not_woken n (Notified object v) s differs = refl
not_woken n (Slept m left) s differs = rw (not_true (n == m) (λ same. differs left (ap (λ i. Slept i left) (sym ((unsigned_Decides n m).0 same))))) refl
not_woken n (Stalled v) s differs = refl

pub other_is_no_sleep : OtherIsNoSleep
unfolding sleep paid
other_is_no_sleep n k event script s there differs steps = rw (steps, there) (not_woken n event (with_steps s k) differs)
