-- What is fine and what is not, worked out.
use Rattle.std.proofs.Common.{◌≡◌, ℕ, zero, suc, ◌<◌, List, [], ◌∷◌, Some, refl, subst, arith}
use Rattle.std.specs.Prelude.{slice_get}
use Rattle.aml_values.specs.Values.{Buf}
use Rattle.aml_kinds.specs.Kinds.{BufOf}
use Rattle.aml_contents.specs.Contents.{ContentKinds}
use Rattle.aml_regions.specs.Events.{Event, Slept, AreWords, IsWord}
use Rattle.aml_meaning.specs.Loops.{loop, turned, spent}
use Rattle.aml_meaning.specs.Parts.{M, ◌>>=◌, give, stop_with, tick, paid}
use Rattle.aml_meaning.specs.State.{State, Broke}
use Rattle.aml_meaning.specs.Whole.{before}
use Rattle.aml_meaning.proofs.Runs.{prefix_refl}
use Rattle.aml_judged.specs.Verdicts.{Judging}
use Rattle.aml_fine.specs.Fine.{Fine}
use Rattle.aml_fine.specs.Laws.{AnswersFit}

no_events : (kinds : ContentKinds) → AreWords kinds []
no_events kinds = record { each = λ i event e. absurd cc }

-- as a method begins, with so many steps, where names hold nothing
abbrev begins : ℕ → State
begins n = before (record { contents = []; kinds = [] }) n (record { events = []; refusals = 0 })

-- a test that takes a step
abbrev gives_number : ℕ → M ℕ
gives_number v = tick >>= (λ u. give v)

abbrev nothing : M (Unit {0})
nothing = give tt

abbrev breaks : M (Unit {0})
breaks = stop_with (Broke 0)

-- with a step it is fine, and without one it is not
one_step : (v : ℕ) → Fine (gives_number v) (begins 1)
unfolding ◌>>=◌ give tick paid
one_step v = record { words = no_events []; runs = λ script pre w. tt }

no_step : (v : ℕ) → Fine (gives_number v) (begins 0) → ⊥
unfolding ◌>>=◌ give tick paid
no_step v h = h.runs [] (prefix_refl []) h.words

-- a loop whose test gives 0, and one that a Break ends
ends_at_once : Fine (loop (gives_number 0) nothing) (begins 1)
unfolding ◌>>=◌ give tick paid loop
ends_at_once = record { words = no_events []; runs = λ script pre w. tt }

ends_by_break : Fine (loop (gives_number 1) breaks) (begins 1)
unfolding ◌>>=◌ give tick paid loop stop_with turned
ends_by_break = record { words = no_events []; runs = λ script pre w. tt }

-- a loop without end is never fine
without_end : Fine (loop (gives_number 1) nothing) (begins 3) → ⊥
unfolding ◌>>=◌ give tick paid loop turned spent
without_end h = h.runs [] (prefix_refl []) h.words

-- what fits the kind of a buffer by its length may have no bytes: so answers fit a verdict only where
-- what Sleeps leave is asked for beside kinds
abbrev no_byte : List Event
no_byte = Slept 0 (Some (Some (Buf (256 ∷ [])) ∷ [])) ∷ []

abbrev a_buffer : ContentKinds
a_buffer = Some (BufOf 1) ∷ []

fits_by_length : (i : ℕ) (event : Event) → slice_get no_byte i ≡ Some event → IsWord a_buffer event
fits_by_length zero event e = let is : Slept 0 (Some (Some (Buf (256 ∷ [])) ∷ [])) ≡ event = cc in subst (IsWord a_buffer) is refl
fits_by_length (suc i) event e = absurd cc

too_large : 256 < 256 → ⊥
too_large h = omega (arith, h)

buffers_fit_by_length : (all : Judging) (n : ℕ) → AnswersFit all (before (record { contents = Some (Buf (0 ∷ [])) ∷ []; kinds = a_buffer }) n (record { events = []; refusals = 0 })) → ⊥
buffers_fit_by_length all n h =
    let fit = h no_byte (record { growth = no_byte; is = refl }) (record { each = fits_by_length }) in
    let left = fit.left 0 0 (Some (Buf (256 ∷ [])) ∷ []) refl in
    too_large (left.words 0 (Buf (256 ∷ [])) refl).0
