use Rattle.std.proofs.Common.{◌≡◌, ◌∷◌, [], length, true, false, Option, Some, None, ℕ, refl, sym, ap, ◌∙◌, arith}
use Rattle.std.specs.Prelude.{is_none, is_some, nat_le, not}
use Rattle.std.proofs.lemmas.Bool.{le-leb, lt-leb}
use Rattle.aml_objects.specs.Enter.{greatest_count}
use Rattle.aml_objects.specs.Entries.{paths_in, scope_opened}
use Rattle.aml_objects.specs.Kept.{entries_seen}
use Rattle.aml_paths.specs.Paths.{number_below}
use Rattle.aml_objects.proofs.Entering.{checked_is, number_is}
use Rattle.aml_objects.proofs.Kept.{kept_closed, kept_distinct, kept_there}
use Rattle.aml_objects.proofs.objects.Objects.checked.Goals as goal

none_from : (o : Option ℕ) → is_some o ≡ false → o ≡ None
none_from None e = refl
none_from (Some n) e = absurd cc

pub returns-then-is_none : goal.returns-then-is_none
returns-then-is_none c =
    let held = c.args.self.now in
    let entries = entries_seen held in
    let new : is_some (number_below (paths_in entries) c.args.parent (c.args.segment.bytes ∷ [])) ≡ false = ap is_some (sym c.child.ensures) ∙ sym c.if-is_some.ensures in
    let shut : is_none (scope_opened entries c.args.parent) ≡ true = ap is_none (sym c.scope_opened.ensures.value) ∙ ap not c.if-is_none.ensures in
    checked_is entries (kept_distinct held) (kept_closed held) c.args.parent c.args.segment (kept_there held c.args.parent c.requires) false true (nat_le greatest_count (length entries)) new shut refl

pub returns-then-len-ge-GREATEST_COUNT : goal.returns-then-len-ge-GREATEST_COUNT
returns-then-len-ge-GREATEST_COUNT c =
    let held = c.args.self.now in
    let entries = entries_seen held in
    let new : is_some (number_below (paths_in entries) c.args.parent (c.args.segment.bytes ∷ [])) ≡ false = ap is_some (sym c.child.ensures) ∙ sym c.if-is_some.ensures in
    let opens : is_none (scope_opened entries c.args.parent) ≡ false = ap is_none (sym c.scope_opened.ensures.value) ∙ ap not c.if-is_none.ensures in
    let full : nat_le greatest_count (length entries) ≡ true = le-leb greatest_count (length entries) (omega (arith, c.len.ensures, c.if-len-ge-GREATEST_COUNT.true)) in
    checked_is entries (kept_distinct held) (kept_closed held) c.args.parent c.args.segment (kept_there held c.args.parent c.requires) false false true new opens full

pub returns : goal.returns
returns c =
    let held = c.args.self.now in
    let entries = entries_seen held in
    let new : is_some (number_below (paths_in entries) c.args.parent (c.args.segment.bytes ∷ [])) ≡ false = ap is_some (sym c.child.ensures) ∙ sym c.if-is_some.ensures in
    let opens : is_none (scope_opened entries c.args.parent) ≡ false = ap is_none (sym c.scope_opened.ensures.value) ∙ ap not c.if-is_none.ensures in
    let room : nat_le greatest_count (length entries) ≡ false = lt-leb greatest_count (length entries) (omega (arith, c.len.ensures, c.if-len-ge-GREATEST_COUNT.false)) in
    let there = kept_there held c.args.parent c.requires in (
      c.requires,
      number_is entries (kept_distinct held) (kept_closed held) c.args.parent c.args.segment there ∙ none_from (number_below (paths_in entries) c.args.parent (c.args.segment.bytes ∷ [])) new,
      checked_is entries (kept_distinct held) (kept_closed held) c.args.parent c.args.segment there false false false new opens room,
    )
