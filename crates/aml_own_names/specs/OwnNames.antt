-- The own names of a method's body (ACPI 6.5, 5.3 and 5.5.2): those that a Name or a CreateField
-- form at its top makes for one call.
use Rattle.std.specs.Prelude.{◌≡◌, ℕ, List, slice_get, position, nat_le, Option, Some, None, is_some, option_and_then, option_map, if◌then◌else◌}
use Rattle.std.specs.BTreeMap.{BTreeMap, get}
use Rattle.std.specs.List.{filter_map}
use Rattle.aml_lex.specs.NameStrings.{NameString}
use Rattle.aml_lex.specs.Names.{lone_segment}
use Rattle.aml_lex.specs.declared.names.NameSeg.{NameSeg}
use Rattle.aml_operators.specs.declared.row.Code.TheVariants as code
use Rattle.aml_operators.specs.declared.row.Spot.TheVariants as spot
use Rattle.aml_operators.specs.Tree.{Tree, stop_of}
use Rattle.aml_tree.specs.Body.{greatest_depth, made_place, same_segment, segment_at}
use Rattle.aml_tree.specs.Grammar.{AreTerms, IsTerm}
use Rattle.aml_lex.specs.Order.{segment_order}
use Rattle.aml_own_names.specs.declared.own_names.OwnName.{OwnName}

-- the own name that a statement makes, where its name is one segment without prefix: it stands from
-- behind the statement on
abbrev pub own_made : List ℕ → Tree → Option OwnName
own_made bytes t =
    option_map (λ segment. record { segment = record { bytes = segment }; from = stop_of t })
    (segment_at bytes (made_place t))

-- the own names that the statements at the top of a body make, in order of definition
abbrev pub own_names : List ℕ → List Tree → List OwnName
own_names bytes body = filter_map (own_made bytes) body

-- the number of the first own name of a segment: a later one changes nothing
abbrev pub first_own : List OwnName → List ℕ → Option ℕ
first_own owns segment =
    position (λ own. same_segment own.segment (record { bytes = segment })) owns

-- the number of an own name where it stands at a place
abbrev pub standing : List OwnName → ℕ → ℕ → Option ℕ
standing owns at i =
    option_and_then (λ own. if nat_le own.from at then Some i else None) (slice_get owns i)

-- the number of the own name that a segment means at a place
abbrev pub own_number : List OwnName → ℕ → List ℕ → Option ℕ
own_number owns at segment = option_and_then (standing owns at) (first_own owns segment)

-- the number of the own name that the name at a place of these bytes means
abbrev pub own_at : List ℕ → List OwnName → ℕ → Option ℕ
own_at bytes owns at = option_and_then (own_number owns at) (segment_at bytes (Some at))

-- a map has the number of the first own name of each segment, and no other number
abbrev pub HasFirsts : BTreeMap NameSeg ℕ → List OwnName → Type 0
HasFirsts firsts owns =
    (segment : NameSeg) → get segment_order firsts segment ≡ first_own owns segment.bytes

-- how many terms a name takes at a place of a body: an own name that stands there none
abbrev pub with_standing : (NameString → ℕ → ℕ) → List OwnName → NameString → ℕ → ℕ
with_standing arity owns name at =
    if is_some (option_and_then (own_number owns at) (lone_segment name)) then 0 else arity name at

-- terms between two places at the top of a body
abbrev pub StandAtTop : (NameString → ℕ → ℕ) → List ℕ → ℕ → ℕ → List Tree → Type 0
StandAtTop arity bytes from stop ts =
    AreTerms arity (IsTerm code.Body arity greatest_depth) from spot.Statement bytes from stop ts
