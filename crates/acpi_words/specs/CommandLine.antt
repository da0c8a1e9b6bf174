-- The command line that the program takes: its commands, their options and files.
use Rattle.std.specs.Prelude.{ℕ, List, true, Some, codes}
use Rattle.clap.specs.Words.{App, Rule, new_app, new_rule, with_rule, with_subcommand}
use Rattle.clap.specs.Lexer.{usize_max}
use Rattle.clap.specs.Simple.{on_top}
use Rattle.clap.specs.declared.builder.action.ArgAction.TheVariants.{Append, Set, SetTrue}
use Rattle.clap.specs.declared.builder.value_parser.ValueParser.TheVariants.{Unsigned}

-- one file or more
abbrev pub files_rule : Rule
files_rule = record (new_rule (codes "files")) {
  required = true;
  action = Some Append;
  range = Some (record { start_inclusive = 1; end_inclusive = usize_max });
}

-- an option with one value
abbrev pub option_rule : List ℕ → Rule
option_rule name = record (new_rule name) { long = Some name; action = Some Set }

-- an option without a value
abbrev pub flag_rule : List ℕ → Rule
flag_rule name = record (new_rule name) { long = Some name; action = Some SetTrue }

-- whether Externals in an If that never runs are read
abbrev pub dead_externals_rule : Rule
dead_externals_rule = flag_rule (codes "dead-externals")

-- the file whose text tells the kinds of arguments
abbrev pub kinds_rule : Rule
kinds_rule = option_rule (codes "kinds")

-- whether people are told why methods are refused
abbrev pub explain_rule : Rule
explain_rule = flag_rule (codes "explain")

abbrev pub method_rule : Rule
method_rule = record (option_rule (codes "method")) { required = true }

abbrev pub args_rule : Rule
args_rule = option_rule (codes "args")

-- the file whose text sets registers
abbrev pub regs_rule : Rule
regs_rule = option_rule (codes "regs")

-- a number below 2^64
abbrev pub plain_rule : Rule
plain_rule = record (option_rule (codes "plain")) {
  parser = Some (Unsigned 0 18446744073709551615);
}

-- the text that `_OSI` knows
abbrev pub osi_rule : Rule
osi_rule = option_rule (codes "osi")

-- a command that takes files alone
abbrev pub files_app : List ℕ → App
files_app name = with_rule (new_app name) files_rule

abbrev pub names_app : App
names_app = with_rule (with_rule (new_app (codes "names")) dead_externals_rule) files_rule

abbrev pub verify_app : App
verify_app =
    with_rule (with_rule (with_rule (with_rule (new_app (codes "verify")) kinds_rule) explain_rule)
    dead_externals_rule) files_rule

-- `eval` without the options of its tables and of the system
abbrev pub method_app : App
method_app =
    with_rule (with_rule (with_rule (with_rule (new_app (codes "eval")) method_rule) args_rule)
    regs_rule) plain_rule

abbrev pub eval_app : App
eval_app =
    with_rule (with_rule (with_rule (with_rule method_app kinds_rule) osi_rule) dead_externals_rule)
    files_rule

abbrev pub object_rule : Rule
object_rule = record (option_rule (codes "object")) { required = true }

-- a command that asks for an object, without the options of its tables
abbrev pub object_app : List ℕ → App
object_app name = with_rule (with_rule (with_rule (new_app name) object_rule) regs_rule) kinds_rule

abbrev pub resources_app : App
resources_app =
    with_rule (with_rule (object_app (codes "resources")) dead_externals_rule) files_rule

-- the file of the MADT
abbrev pub madt_rule : Rule
madt_rule = option_rule (codes "madt")

abbrev pub routing_app : App
routing_app =
    with_rule (with_rule (with_rule (object_app (codes "routing")) madt_rule) dead_externals_rule)
    files_rule

-- the words have no program's name in front, and one of the commands is wanted
abbrev pub commands_app : App
commands_app = on_top (λ s. record s { no_binary_name = true; subcommand_required = true })
    (new_app (codes "acpicheck"))

abbrev pub acpicheck_app : App
acpicheck_app =
    with_subcommand (with_subcommand (with_subcommand (with_subcommand (with_subcommand
    (with_subcommand commands_app (files_app (codes "tables")).top) names_app.top) verify_app.top)
    eval_app.top) resources_app.top) routing_app.top
