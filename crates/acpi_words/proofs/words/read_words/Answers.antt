use Rattle.std.proofs.Common.{◌∙◌, ap, inl, inr, map, subst, sym}
use Rattle.clap.specs.Words.{IsAmong, fault_of, is_simple, is_simple_and_free, kind_of, subcommand_of}
use Rattle.acpi_words.proofs.Asked.{asked, asks_nothing, takes_simple_words, takes_words}
use Rattle.acpi_words.proofs.words.read_words.Goals as goal

pub returns-in-Err : goal.returns-in-Err
returns-in-Err g c =
    let words = map g.S.AsStr.text c.args.words.now in
    let is = c.in_ok-command.ensures in
    let k = kind_of c.in-Err.error in
    elim (c.in-Err.ensures.kinds (ap is_simple_and_free is ∙ takes_simple_words)) [
      | inl memory ↦ inl (c.fault_of_kind.ensures.memory (c.kind.ensures ∙ memory))
      | inr among ↦ elim c.fault_of_kind.ensures.faults [
        | inl line ↦ inr (line, asks_nothing words k (subst (λ a. IsAmong k (fault_of a words)) is among))
        | inr memory ↦ inl memory
      ]
    ]

pub returns : goal.returns
returns g c =
    let words = map g.S.AsStr.text c.args.words.now in
    let is = c.in_ok-command.ensures in
    asked words _ c.request_of.result
    (ap (λ a. fault_of a words) (sym is) ∙ c.in-Ok.ensures.kinds (ap is_simple_and_free is ∙ takes_simple_words))
    ((c.in-Ok.ensures.matches (ap is_simple is ∙ takes_words)).1 ∙ ap (λ a. subcommand_of a words) is)
    c.request_of.ensures
