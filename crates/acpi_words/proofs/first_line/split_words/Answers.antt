use Rattle.std.proofs.Common.{◌≡◌, ◌⊎◌, ◌-◌, ℕ, List, Bor, Some, None, rules, arith, sym, subst, inl, inr, map, vec_items, vec_len}
use Rattle.std.proofs.lemmas.Str.Pattern.{split_parts}
use Rattle.acpi_words.specs.FirstLine.{HasNoSpace}
use Rattle.acpi_words.proofs.LineWords.{Continues, line_more, line_done}
use Rattle.acpi_words.proofs.first_line.split_words.Goals as goal
use Rattle.acpi_words.proofs.first_line.split_words.Goals.{else-loop-rest-test, then-loop-rest-test+in_default}

pub loop-rest-preserved : goal.loop-rest-preserved
loop-rest-preserved c =
    let parts = split_parts 32 c.loop-rest.rest.now (Some (c.in-Some.word, c.in-Some.behind)) c.in-Some.ensures.cases (omega arith) in
    let now = λ (word : Bor (List ℕ)). word.now in
    let (text, below, so) = c.loop-rest.invariant in
    let count = vec_len c.loop-rest.words in (
      search rules,
      omega (arith, c.in_ok-push.ensures.len),
      subst (λ n. Continues 65536 n c.args.line.now c.in-Some.behind.now (map now (vec_items c.push.new.self))) (sym c.in_ok-push.ensures.len)
          (line_more now 65536 count c.args.line.now c.loop-rest.rest.now c.in-Some.behind.now c.loop-rest.words.items c.push.new.self.items c.in-Some.word
          (omega arith) parts.1 parts.0 c.in_ok-push.ensures.items so),
    )

pub returns : goal.returns
returns c =
    let now = λ (word : Bor (List ℕ)). word.now in
    let (text, below, so) = c.loop-rest.invariant in
    let count = vec_len c.loop-rest.words in
    let last : HasNoSpace c.loop-rest.rest.now ⊎ (65536 - count ≡ 1) = elim c.loop-rest-test.branch [
      | else-loop-rest-test w ↦ inr (omega arith)
      | then-loop-rest-test+in_default w ↦ inl (split_parts 32 c.loop-rest.rest.now None w.in_default.ensures.cases (omega arith))
    ] in
    line_done now 65536 count c.args.line.now c.loop-rest.words.items c.push-2.new.self.items c.loop-rest.rest last c.in_ok-push-2.ensures.items so
