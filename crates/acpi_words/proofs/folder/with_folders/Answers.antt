use Rattle.std.proofs.Common.{◌++◌, [], ◌∷◌, ◌∙◌, ap, false, map, subst, sym, vec_items}
use Rattle.std.specs.Prelude.{not, string_bytes}
use Rattle.std.proofs.lemmas.List.{map_push}
use Rattle.acpi_words.specs.Folders.{HasFolders, StandsFor, takes_value}
use Rattle.acpi_words.proofs.FoldersNamed.{folders_more, may_follow, may_follow_more}
use Rattle.acpi_words.proofs.folder.with_folders.Goals as goal

-- one word more, and what stands for it
pub loop-word-preserved : goal.loop-word-preserved
loop-word-preserved g c =
    let (has, may) = c.loop-word.invariant in
    let (added, is, stands) = c.in_ok-push_word.ensures in
    let word = string_bytes c.in-Some-word.word in
    let before = map string_bytes c.loop-word.yielded in
    let words = map_push string_bytes c.loop-word.yielded c.in-Some-word.word in (
      subst (λ ws. HasFolders false ws (map string_bytes (vec_items c.push_word.new.words))) (sym words)
          (subst (HasFolders false (before ++ (word ∷ []))) (sym is)
          (folders_more false before (map string_bytes c.loop-word.all.items) word added has (subst (λ b. StandsFor b word added) may stands))),
      ap not (c.takes_value-next_may_be.ensures ∙ ap takes_value c.as_str-in-loop-word.ensures.value)
          ∙ sym (ap (may_follow false) words ∙ may_follow_more false before word),
    )
