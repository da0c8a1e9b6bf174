-- What runs at a Sleep: other methods, each over a copy of the names.
use Rattle.std.specs.Prelude.{◌≡◌, ◌⊎◌, ℕ, List, [], Option, Some, None, slice_get, true}
use Rattle.aml_contents.specs.Belongs.{Belong}
use Rattle.aml_contents.specs.Held.{content_kinds}
use Rattle.aml_contents.specs.declared.names.Names as program_names
use Rattle.aml_interp.specs.Answers.{IsCutShort, IsDone}
use Rattle.aml_machine.specs.Views.{names_of}
use Rattle.aml_meaning.specs.State as state
use Rattle.aml_namespace.specs.Shows.{shown}
use Rattle.aml_paths.specs.declared.scope.ObjectId.{ObjectId}
use Rattle.aml_regions.specs.EventViews.{events_of}
use Rattle.aml_regions.specs.Events.{Log}
use Rattle.aml_regions.specs.declared.registers.RegisterFile.{RegisterFile}
use Rattle.aml_values.specs.declared.value.Value as program_value
use Rattle.aml_verify.specs.Accepts.{takes}
use Rattle.aml_verify.specs.Said.{verdict_at}
use Rattle.aml_verify.specs.declared.checked.Checked.{Checked}

-- what registers have kept
abbrev pub log_of : RegisterFile → Log
log_of file = record { events = events_of file.events.items; refusals = file.refusals }

-- methods that are accepted and take no arguments
abbrev pub AreCallable : Checked → List ObjectId → Type 0
AreCallable c methods =
    (i : ℕ) (id : ObjectId) → slice_get methods i ≡ Some id →
    takes (verdict_at c.verdicts.items id.0) [] ≡ true

module _ (c : Checked) (methods : List ObjectId) (n : ℕ) (names : program_names.Names)
    (log log_left : Log) where
  -- what names hold behind the run of a method, which is the definition's, from those names and fed
  -- with the answers among the events that its world gained; and it is done
  pub record IsTurn (left : program_names.Names) : Type 0 where
    pub id : ObjectId
    pub there : slice_get methods n ≡ Some id
    pub value : Option program_value.Value
    pub done : IsDone c id.0 [] (names_of names) log value (names_of left) log_left
    pub kinds : content_kinds left ≡ content_kinds names

  -- it runs, unless no method has this number or the names are not the namespace's
  abbrev pub Turns : Option program_names.Names → Type 0
  Turns (Some left) = IsTurn left
  Turns None =
      ((id : ObjectId) → slice_get methods n ≡ Some id →
      Belong (shown c.namespace.now) (content_kinds names) → ⊥)
      × (log_left ≡ log)

  -- for want of memory it did not run, or went no further than some of its steps take it
  pub record IsCut : Type 0 where
    pub id : ObjectId
    pub there : slice_get methods n ≡ Some id
    pub held : state.Names
    pub short : IsCutShort c id.0 [] (names_of names) log held log_left

  abbrev pub IsTurnCutShort : Type 0
  IsTurnCutShort = (log_left ≡ log) ⊎ IsCut
