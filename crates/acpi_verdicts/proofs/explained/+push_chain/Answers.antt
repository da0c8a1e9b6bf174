use Rattle.std.proofs.Common.{◌++◌, ◌-◌, Bor, List, ℕ, ap, refl, map, ◌∙◌}
use Rattle.std.specs.Prelude.{codes}
use Rattle.std.proofs.lemmas.Result.{IfOk-equal}
use Rattle.acpi_verdicts.proofs.Lines.{chain_on, three_behind}
use Rattle.acpi_verdicts.specs.Explained.{chain_text, reason_text}
use Rattle.acpi_verdicts.proofs.explained.+push_chain.Goals as goal

pub returns-clause-text : goal.returns-clause-text
returns-clause-text t c =
    let names = map (λ (name : Bor (List ℕ)). name.now) c.args.names.now in
    let more = chain_text (c.args.most - 1) names c.args.checked.now c.in-Some.callee in
    IfOk-equal c.push_chain.result c.push_chain.new.text.items (c.extend_from_slice.new.self.items ++ more) _
    c.push_chain.ensures.text
    (three_behind c.args.text.now.items c.push_reason.new.text.items c.extend_from_slice.new.self.items _
    (reason_text names c.args.checked.now c.args.id) (codes "  ") more
    c.in_ok-push_reason.ensures.text c.in_ok-extend_from_slice.ensures.items refl
    ∙ ap (λ told. c.args.text.now.items ++ told)
    (chain_on c.args.most names c.args.checked.now c.args.id c.in-Some.callee c.if-most-eq0.false c.in-Some.ensures))
