-- Events that come again in the same order.
use Rattle.std.specs.Prelude.{ℕ, zero, suc, List, [], ◌++◌, Bool, true, false, ◌∷◌}
use Rattle.aml_regions.specs.declared.access.Access.{Access}
use Rattle.aml_regions.specs.Events.{Event, Read, Written}

-- 16 bits at the region's first address
abbrev pub the_unit : Access
the_unit = record { space = 0; address = 16; width = 16 }

-- a turn is a read, and if the unit is written too, a write of one value behind it
abbrev pub turn_of : Bool → ℕ → List Event
turn_of false value = Read the_unit 42330 ∷ []
turn_of true value = Read the_unit 42330 ∷ Written the_unit value ∷ []

abbrev pub turns_of : ℕ → List Event → List Event
turns_of zero turn = []
turns_of (suc n) turn = turns_of n turn ++ turn

-- so many turns, and perhaps a read once more
abbrev pub log_of : Bool → ℕ → List Event → List Event
log_of false n turn = turns_of n turn
log_of true n turn = turns_of n turn ++ Read the_unit 42330 ∷ []
