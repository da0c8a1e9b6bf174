use Rattle.std.proofs.Common.{◌+◌, ◌++◌, [], ◌∷◌, ◌∙◌, ap, append_assoc, arith, map, sym}
use Rattle.std.specs.Prelude.{string_bytes}
use Rattle.std.proofs.lemmas.List.{length_push, map_push}
use Rattle.acpi_words.proofs.folder.push_files.Goals as goal

-- the folder's name alone
pub returns-then-is_empty : goal.returns-then-is_empty
returns-then-is_empty g c =
    (string_bytes c.args.folder ∷ [], ap (map string_bytes) c.in_ok-push.ensures.items ∙ map_push string_bytes c.args.words.now.items c.args.folder, omega arith)

-- one file more
pub loop-file-preserved : goal.loop-file-preserved
loop-file-preserved g c =
    let (added, is, long) = c.loop-file.invariant in
    let path = c.in-Some.file.path in
    let last = string_bytes path ∷ [] in (
      added ++ last,
      ap (map string_bytes) c.in_ok-push-2.ensures.items ∙ map_push string_bytes c.loop-file.words.items path ∙ ap (λ l. l ++ last) is
          ∙ append_assoc (map string_bytes c.args.words.now.items) added last,
      length_push added (string_bytes path) ∙ ap (λ n. n + 1) long ∙ sym (length_push c.loop-file.yielded c.in-Some.file),
    )
