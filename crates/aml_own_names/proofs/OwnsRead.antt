-- The own names that the grammar keeps, and those of the body.
use Rattle.std.proofs.Common.{◌≡◌, ℕ, List, [], ◌∷◌, ◌++◌, Option, Some, None, map, reverse, option_map, refl, sym, ap, ◌∙◌, append_assoc}
use Rattle.std.specs.List.{cons_option}
use Rattle.std.proofs.lemmas.List.{append-nil, reverse-append}
use Rattle.aml_lex.specs.NameStrings.{NameString}
use Rattle.aml_lex.specs.declared.names.NameSeg.{NameSeg}
use Rattle.aml_operators.specs.Tree.{Tree, stop_of}
use Rattle.aml_tree.specs.Body.{AreStatements, made_place, owns_behind, segment_at, with_made}
use Rattle.aml_own_names.specs.declared.own_names.OwnName.{OwnName}
use Rattle.aml_own_names.specs.Laws.{OwnNamesAreTheGrammars}
use Rattle.aml_own_names.specs.OwnNames.{own_names}

abbrev segments : List OwnName → List NameSeg
segments owns = map (λ (own : OwnName). own.segment) owns

abbrev own_of : ℕ → List ℕ → OwnName
own_of from bytes = record { segment = record { bytes = bytes }; from = from }

made : (before : List NameSeg) (from : ℕ) (rest : List OwnName) (o : Option (List ℕ)) → reverse (segments rest) ++ with_made before o ≡ reverse (segments (cons_option (option_map (own_of from) o) rest)) ++ before
made before from rest None = refl
made before from rest (Some bytes) =
    let first : NameSeg = record { bytes = bytes } in
    sym (ap (λ (s : List NameSeg). s ++ before) (reverse-append (first ∷ []) (segments rest)) ∙ append_assoc (reverse (segments rest)) (first ∷ []) before)

module _ (arity : NameString → ℕ → ℕ) (bytes : List ℕ) where
  read : (before : List NameSeg) (from stop : ℕ) (body : List Tree) (last : List NameSeg) → AreStatements arity before bytes from body stop last → last ≡ reverse (segments (own_names bytes body)) ++ before
  read before from stop [] last h = h.1
  read before from stop (t ∷ ts) last h =
      read (owns_behind before bytes t) (stop_of t) stop ts last h.1
      ∙ made before (stop_of t) (own_names bytes ts) (segment_at bytes (made_place t))

pub owns_read : OwnNamesAreTheGrammars
owns_read arity bytes from stop body last h = read arity bytes [] from stop body last h ∙ append-nil (reverse (segments (own_names bytes body)))
