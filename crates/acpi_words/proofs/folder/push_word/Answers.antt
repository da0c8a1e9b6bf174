use Rattle.std.proofs.Common.{[], ◌∷◌, ◌∙◌, ap, inl, map, refl}
use Rattle.std.specs.Prelude.{string_bytes}
use Rattle.std.proofs.lemmas.List.{map_push}
use Rattle.acpi_words.proofs.folder.push_word.Goals as goal

-- the word itself
pub returns-then-not-may_be_file : goal.returns-then-not-may_be_file
returns-then-not-may_be_file g c =
    (string_bytes c.args.word ∷ [], ap (map string_bytes) c.in_ok-push.ensures.items ∙ map_push string_bytes c.args.words.now.items c.args.word, inl refl)
