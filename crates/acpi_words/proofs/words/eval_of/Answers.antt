use Rattle.std.proofs.Common.{◌∙◌, inr, sym, codes}
use Rattle.clap.specs.Words.{found_of}
use Rattle.clap.proofs.WalkLemmas.{first_value-rows}
use Rattle.acpi_words.proofs.Asked.{missing}
use Rattle.acpi_words.proofs.words.eval_of.Goals as goal

pub returns-in_default : goal.returns-in_default
returns-in_default c =
    inr (c.nowhere.ensures, λ r parts. missing _ r.method.now (c.in_default.ensures ∙ first_value-rows (found_of c.args.found.now) (codes "method")) parts.1)

pub returns : goal.returns
returns c =
    let found = found_of c.args.found.now in (
      c.in_ok-inputs_of.ensures,
      sym (first_value-rows found (codes "method")) ∙ sym c.in-Some.ensures,
      sym (first_value-rows found (codes "args")) ∙ sym c.get_str-2.ensures,
      sym (first_value-rows found (codes "regs")) ∙ sym c.get_str-3.ensures,
      sym (first_value-rows found (codes "kinds")) ∙ sym c.get_str-4.ensures,
      c.steps_of.ensures,
      sym (first_value-rows found (codes "osi")) ∙ sym c.get_str-5.ensures,
    )
