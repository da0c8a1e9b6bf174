-- What causes mean, in words.
use Rattle.std.specs.Prelude.{ℕ, List, codes}
use Rattle.aml_causes.specs.declared.cause.Cause.{Cause}
use Rattle.aml_causes.specs.declared.cause.Cause.TheVariants as cause

-- what it means that a method is refused for a cause
abbrev pub cause_words : Cause → List ℕ
cause_words cause.Unresolved =
    codes "a name names nothing: no loaded table defines it, or not where the name is looked up"
cause_words cause.OutsideProfile = codes "an operator or a form that this program does not evaluate, and nothing need be wrong with the table"
cause_words cause.WrongKind = codes "a value or an object of the wrong kind"
cause_words cause.Unset =
    codes "a local, an argument or an element of a package may be unset where it is read"
cause_words cause.Cycle =
    codes "the method that is called calls, itself or through others, the one that calls it"
cause_words cause.LoopShape = codes "nothing tells how often a While turns at most"
cause_words cause.Index = codes "an index need not be below the length of what it is an index of"
cause_words cause.Divisor =
    codes "the second operand of Divide or Mod is no integer literal, or is zero"
cause_words cause.Region = codes "a field that cannot be read and written here"
cause_words cause.NoResult =
    codes "a value is wanted of a call, and the method that is called need not give one"
cause_words cause.BoundTooLarge = codes "the method may take 2^63 steps or more"
cause_words cause.CalleeRefused = codes "the method that is called is refused itself"
cause_words cause.LocalName =
    codes "a Name or a CreateField form that does not stand at the top of the method's body, or whose name is not one segment without prefix, or comes twice"
cause_words cause.Depth = codes "a chain of more than 64 methods, each of which calls the next"
cause_words cause.Level =
    codes "a mutex is taken whose sync level is below that of one that the method holds, or a method is called that takes such a one"
cause_words cause.NotHeld = codes
    "a mutex is released that is not the one which the method took last of those that it holds"
cause_words cause.StillHeld = codes "the method ends while it holds a mutex"
cause_words cause.HeldDiffers = codes "ways meet on which the method holds different mutexes"
