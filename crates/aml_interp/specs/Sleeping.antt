-- A world at whose Sleeps others run, and what each call on it leaves alone.
use Rattle.std.specs.Prelude.{◌≡◌, ◌⊎◌, ◌++◌, ◌∷◌, [], ℕ, Option, unwrap_or}
use Rattle.std.specs.Option.{option_map}
use Rattle.aml_contents.specs.Held.{contents}
use Rattle.aml_contents.specs.declared.names.Names.{Names}
use Rattle.aml_interp.specs.Turns.{IsTurnCutShort, Turns, log_of}
use Rattle.aml_interp.specs.declared.others.Others.{Others}
use Rattle.aml_regions.specs.EventViews.{events_of}
use Rattle.aml_regions.specs.Events.{Log, Slept}
use Rattle.aml_regions.specs.Worlds.{counted}

-- what whoever sleeps is told, and how many calls were refused
abbrev pub log_mine : Others → Log
log_mine world = record { events = events_of world.mine.events.items; refusals = world.refused }

-- nothing of those that run at Sleeps changes: their verdicts, who they are, their registers, and
-- which of them is next
pub record IsSetAside (old new : Others) : Type 0 where
  pub checked : new.checked ≡ old.checked
  pub methods : new.methods ≡ old.methods
  pub theirs : new.theirs ≡ old.theirs
  pub slept : new.slept ≡ old.slept

-- the method runs whose number is that of the Sleeps before this one, over the others' registers:
-- names hold what it left, or what they held where none ran, and the Sleep tells just that; and
-- then the next one is due
pub record TakesTurn (milliseconds : ℕ) (old new : Others) (names names_left : Names) : Type 0
  where
    pub turned : Option Names
    pub turns : Turns old.checked.now old.methods.items old.slept names (log_of old.theirs)
        (log_of new.theirs) turned
    pub left : names_left ≡ unwrap_or turned names
    pub told : (log_mine new).events
        ≡ (log_mine old).events ++ Slept milliseconds (option_map contents turned) ∷ []
    pub checked : new.checked ≡ old.checked
    pub methods : new.methods ≡ old.methods
    pub slept : new.slept ≡ counted old.slept

-- behind a Sleep that is refused the others' registers are as a turn left them that was cut short,
-- or a whole one whose contents could not be noted
abbrev pub LeavesTurn : Others → Others → Names → Type 0
LeavesTurn old new names =
    IsTurnCutShort old.checked.now old.methods.items old.slept names (log_of old.theirs)
    (log_of new.theirs)
    ⊎ ((turned : Option Names) × Turns old.checked.now old.methods.items old.slept names
    (log_of old.theirs) (log_of new.theirs) turned)
