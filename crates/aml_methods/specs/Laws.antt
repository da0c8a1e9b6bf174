-- That there is what the methods of a namespace are judged by: the law.
use Rattle.aml_judged.specs.Verdicts.{Judging}
use Rattle.aml_methods.specs.Judgings.{IsJudging, Told}
use Rattle.aml_namespace.specs.Load.{Shown}

-- each namespace has a judging of its methods, whatever signatures tell of them
abbrev pub JudgingsAreThere : Type 0
JudgingsAreThere = (ns : Shown) (told : Told) → (all : Judging) × IsJudging ns told all
