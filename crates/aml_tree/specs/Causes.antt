-- What is wrong, as it is printed: a number and a name.
use Rattle.std.specs.Prelude.{ℕ, List, codes}
use Rattle.aml_lex.specs.Causes.{lex_cause_text}
use Rattle.aml_tree.specs.declared.fault.TreeCause.{TreeCause}
use Rattle.aml_tree.specs.declared.fault.TreeCause.TheVariants.{Lexical, UnknownOpcode, TooDeep, TooLarge, ModuleCode}

abbrev pub tree_cause_text : TreeCause → List ℕ
tree_cause_text (Lexical cause) = lex_cause_text cause
tree_cause_text UnknownOpcode = codes "E204 UnknownOpcode"
tree_cause_text TooDeep = codes "E205 TooDeep"
tree_cause_text TooLarge = codes "E208 TooLarge"
tree_cause_text ModuleCode = codes "E209 ModuleCode"
