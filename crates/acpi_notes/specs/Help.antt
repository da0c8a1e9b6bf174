-- Which help the words of a command line ask for.
use Rattle.std.specs.Prelude.{ℕ, ◌-◌, ◌||◌, length, List, Bool, true, Option, Some, None, codes, not, option_and_then, slice_get, if◌then◌else◌}
use Rattle.std.specs.List.{list_any}
use Rattle.std.specs.Str.{bytes_eq}
use Rattle.acpi_notes.specs.declared.help.TheConstants.{COMMANDS, EVAL, NAMES, RESOURCES, ROUTING, TABLES, VERIFY, VERSION}
use Rattle.acpi_notes.specs.declared.help.Help.{Help}
use Rattle.acpi_notes.specs.declared.help.Help.TheVariants.{Version, Commands, Tables, Names, Verify, Eval, Resources, Routing}

abbrev pub asks_for_help : List ℕ → Bool
asks_for_help word = bytes_eq word (codes "--help") || bytes_eq word (codes "-h")

-- by the first word, and by whether a word asks for help
abbrev pub help_for : List ℕ → Bool → Option Help
help_for first asks =
    if bytes_eq first (codes "--version") || bytes_eq first (codes "-V") then Some Version
    else if not asks then None
    else if bytes_eq first (codes "tables") then Some Tables
    else if bytes_eq first (codes "names") then Some Names
    else if bytes_eq first (codes "verify") then Some Verify
    else if bytes_eq first (codes "eval") then Some Eval
    else if bytes_eq first (codes "resources") then Some Resources
    else if bytes_eq first (codes "routing") then Some Routing
    else Some Commands

-- whether one of the words asks for help
abbrev pub ask_for_help : List (List ℕ) → Bool
ask_for_help words = list_any asks_for_help words

-- by the first word, and whether one asks for it; by the last where the first is `help`
abbrev pub help_by : List (List ℕ) → List ℕ → List ℕ → Option Help
help_by words first last =
    if bytes_eq first (codes "help") then help_for last true
    else help_for first (ask_for_help words)

abbrev pub help_of : List (List ℕ) → Option Help
help_of words =
    option_and_then (λ first. option_and_then (help_by words first)
    (slice_get words (length words - 1))) (slice_get words 0)

-- the help of each, as the program has it
abbrev pub help_text : Help → List ℕ
help_text Version = VERSION.now
help_text Commands = COMMANDS.now
help_text Tables = TABLES.now
help_text Names = NAMES.now
help_text Verify = VERIFY.now
help_text Eval = EVAL.now
help_text Resources = RESOURCES.now
help_text Routing = ROUTING.now
