use Rattle.std.proofs.Common.{◌≡◌, ◌++◌, ℕ, List, Bool, true, length, take, drop, ap, ◌∙◌, arith, subst, sym}
use Rattle.std.proofs.Math.Seq.{take-append_seam}
use Rattle.acpi_tables.specs.Header.{IsTable}
use Rattle.aml_externals.specs.Opened.{Opened, kept}
use Rattle.aml_externals.specs.Table.{table_opened}
use Rattle.acpi_sources.specs.Files.{Prepares}
use Rattle.acpi_sources.proofs.source.read_prepared.Goals as goal

-- a table that was opened in place
opens : (dead : Bool) (lent given opened whole : List ℕ) (n : ℕ) → dead ≡ true → lent ≡ given → whole ≡ opened
    → (IsTable lent → (opened, n) ≡ table_opened lent) → ((IsTable lent → ⊥) → (opened, n) ≡ kept lent) → Prepares dead given whole
opens dead lent given opened whole n is same back table other =
    let first : Opened → List ℕ = λ r. r.0 in
    subst (λ d. Prepares d given whole) (sym is) (
      λ h. back ∙ ap first (table (subst IsTable (sym same) h)) ∙ ap (λ b. first (table_opened b)) same,
      λ no_table. back ∙ ap first (other (λ h. no_table (subst IsTable same h))) ∙ same,
    )

pub returns : goal.returns
returns g c =
    let given = c.in_ok-bytes.bytes.items in
    let opened = c.open_dead_externals.new.table in
    let long : c.in_ok-bytes.bytes.len ≡ length opened = omega (arith, ap length c.deref_mut.ensures.value) in
    let back = ap (λ n. take n (opened ++ drop (length opened) given)) long ∙ take-append_seam opened (drop (length opened) given) in (
      given,
      c.in_ok-bytes.ensures,
      opens c.args.dead_externals c.deref_mut.result.now given opened _ c.open_dead_externals.result c.if-not-dead_externals.false c.deref_mut.ensures.value back
          c.open_dead_externals.ensures.opened c.open_dead_externals.ensures.left,
    )
