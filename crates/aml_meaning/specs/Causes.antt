-- What is wrong, as it is printed: a number and a name.
use Rattle.std.specs.Prelude.{ℕ, List, codes}
use Rattle.aml_meaning.specs.declared.error.AmlCause.{AmlCause}
use Rattle.aml_meaning.specs.declared.error.AmlCause.TheVariants.{Unset, Kind, Divisor, Index, Missing, Outside, Region, NoValue, Depth, Level, NotHeld, StillHeld}

abbrev pub aml_cause_text : AmlCause → List ℕ
aml_cause_text Unset = codes "A1 Unset"
aml_cause_text Kind = codes "A2 Kind"
aml_cause_text Divisor = codes "A3 Divisor"
aml_cause_text Index = codes "A4 Index"
aml_cause_text Missing = codes "A5 Missing"
aml_cause_text Outside = codes "A6 Outside"
aml_cause_text Region = codes "A7 Region"
aml_cause_text NoValue = codes "A8 NoValue"
aml_cause_text Depth = codes "A9 Depth"
aml_cause_text Level = codes "A10 Level"
aml_cause_text NotHeld = codes "A11 NotHeld"
aml_cause_text StillHeld = codes "A12 StillHeld"
