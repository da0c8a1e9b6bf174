use Rattle.std.proofs.Common.{◌≢◌, ◌++◌, ℕ, List, None, codes, inr, ◌∙◌}
use Rattle.std.proofs.lemmas.Bool.Decides.{Decides-eqb}
use Rattle.std.proofs.lemmas.Slice.Eq.{bytes_eq-Decides, strip_prefix_is}
use Rattle.acpi_words.proofs.Elements.{integer_only}
use Rattle.acpi_words.proofs.arguments.read_argument.Goals as goal

pub returns-in-None : goal.returns-in-None
returns-in-None c =
    let element = c.args.element.now in
    let text = c.as_bytes-text.result.now in
    let is = c.as_bytes-text.ensures.value in
    let no_package : element ≢ codes "pkg" =
    λ e. let same = (bytes_eq-Decides element (codes "pkg")).1 e in absurd (cc (same, c.eq.ensures, c.if-eq.false)) in
    let no_buffer : (rest : List ℕ) → element ≢ codes "buf:" ++ rest =
    λ rest e. strip_prefix_is Decides-eqb text (codes "buf:") None c.in_default.ensures.cases rest (is ∙ e) in
    let no_string : (rest : List ℕ) → element ≢ codes "str:" ++ rest =
    λ rest e. strip_prefix_is Decides-eqb text (codes "str:") None c.in_default-strip_prefix.ensures.cases rest (is ∙ e) in
    inr (c.nowhere.ensures, integer_only element no_package no_buffer no_string c.in-None.ensures)
