use Rattle.std.proofs.Common.{◌≡◌, ◌++◌, ℕ, List, map, ap, sym, ◌∙◌}
use Rattle.aml_objects.specs.declared.width.Width.{Width}
use Rattle.aml_namespace.specs.Shows.{shown}
use Rattle.aml_path_text.specs.Paths.{path_of}
use Rattle.aml_paths.specs.Printed.{path_text}
use Rattle.aml_signatures.specs.ArgumentKinds.{argument_kinds, kind_of_argument}
use Rattle.aml_signatures.specs.Signed.{kinds_told}
use Rattle.aml_methods.proofs.argument_kinds.arguments.Goals as goal

pub returns-in-Ok : goal.returns-in-Ok
returns-in-Ok c = λ shapes m counts.
    let ns = shown c.args.namespace.now in
    let told = kinds_told c.args.signatures.now in
    let width = c.width-width.result in
    let text : List ℕ = path_text (path_of ns.entries c.args.id.0) in
    let path : c.deref.result.now ≡ text =
    c.deref.ensures.value ∙ c.in_ok-push_path.ensures ∙ ap (λ (line : List ℕ). line ++ text) c.new-path.ensures.items in
    c.in-Ok.ensures shapes
    ∙ ap (map (kind_of_argument width)) (c.deref-2.ensures.value ∙ c.in_ok-kinds.ensures.kinds)
    ∙ ap (λ (p : List ℕ). map (kind_of_argument width) (argument_kinds told p c.args.count width)) path
    ∙ ap (λ (n : ℕ). map (kind_of_argument width) (argument_kinds told text n width)) (sym counts)
    ∙ ap (λ (w : Width). map (kind_of_argument w) (argument_kinds told text m.args w)) c.width-width.ensures
