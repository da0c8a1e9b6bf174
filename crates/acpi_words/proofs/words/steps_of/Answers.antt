use Rattle.std.proofs.Common.{◌<◌, ◌^◌, ◌∙◌, sym, subst, codes}
use Rattle.std.specs.Str.Parse.{ParsesUnsigned, ExplainsUnsignedError, HasUnsignedDigitsIfOk}
use Rattle.clap.specs.Words.{found_of}
use Rattle.clap.proofs.WalkLemmas.{one_text-rows}
use Rattle.acpi_words.proofs.Asked.{steps_read}
use Rattle.acpi_words.proofs.words.steps_of.Goals as goal

pub returns-in-Some : goal.returns-in-Some
returns-in-Some c =
    let found = found_of c.args.found.now in
    let steps = steps_read (λ bs r. ParsesUnsigned 64 10 bs r × ExplainsUnsignedError 10 bs r × HasUnsignedDigitsIfOk bs r) _ c.in-Some.steps (λ t r g. g.0) c.in-Some.ensures.none c.in-Some.ensures.value in
    (steps.0, sym (one_text-rows found (codes "plain")) ∙ steps.1, steps.2)

pub returns-in-None : goal.returns-in-None
returns-in-None c = λ text n is count.
    let (e, gives) = c.in-None.ensures.value text (one_text-rows (found_of c.args.found.now) (codes "plain") ∙ is) in
    gives.0 (count.0, subst (λ m. m < 2 ^ 64) count.2 count.1)
