-- What is read is a term, or faulty.
use Rattle.std.proofs.Common.{◌≡◌, ℕ, zero, suc, inl, inr, List, Some, refl, ap, ◌∙◌}
use Rattle.std.specs.Prelude.{◌==◌, ◌&&◌, slice_get}
use Rattle.std.proofs.lemmas.Option.{slice_get_within}
use Rattle.aml_operators.specs.declared.row.Code.{Code}
use Rattle.aml_operators.specs.declared.row.Spot.{Spot}
use Rattle.aml_lex.specs.NameStrings.{NameString}
use Rattle.aml_tree.specs.Leaf.{byte_at}
use Rattle.aml_tree.specs.Opening.{opening_at, may_be_none}
use Rattle.aml_tree.specs.Begins.{Begins, FaultyBegin}
use Rattle.aml_tree.specs.Answers.{Answers}
use Rattle.aml_tree.proofs.Combining.{and_answers, weaker, by_test}
use Rattle.aml_tree.proofs.Leaves.{Ended, byte_is}
use Rattle.aml_tree.proofs.Beginnings.{opening_right, begins_in}
use Rattle.aml_tree.specs.Reading.{deepest_at, term_at}
use Rattle.aml_tree.specs.Grammar.{Follows, IsTerm, Faulty, FaultyForm}
use Rattle.aml_tree.proofs.Bounds.{term_in}
use Rattle.aml_tree.proofs.Right.{form_right}
use Rattle.aml_tree.proofs.Beginnings.{targets, no_target}

deepest_right : (code : Code) (arity : NameString → ℕ → ℕ) (asker : ℕ) (s : Spot) (bytes : List ℕ) (at : ℕ) → Answers (deepest_at s bytes at) (IsTerm code arity zero asker s bytes at) (Faulty code arity zero asker s bytes at)
unfolding deepest_at
deepest_right code arity asker s bytes at =
    and_answers (byte_at bytes at) (λ b. slice_get bytes at ≡ Some b) (Ended bytes at) _ (IsTerm code arity zero asker s bytes at) (Faulty code arity zero asker s bytes at) (byte_is bytes at)
    (λ b h. by_test (may_be_none s && (b == 0)) _ _ (IsTerm code arity zero asker s bytes at) (Faulty code arity zero asker s bytes at)
    (λ z. let t = targets s b z in ((t.0, h ∙ ap Some t.1), refl))
    (λ z. inr (slice_get_within bytes at b h, no_target s bytes at b h z, refl)))
    (λ f h. inl h)

pub term_right : (code : Code) (arity : NameString → ℕ → ℕ) (d asker : ℕ) (s : Spot) (bytes : List ℕ) (at : ℕ) → Answers (term_at code arity d asker s bytes at) (IsTerm code arity d asker s bytes at) (Faulty code arity d asker s bytes at)
unfolding term_at
term_right code arity zero asker s bytes at = deepest_right code arity asker s bytes at
term_right code arity (suc d) asker s bytes at =
    and_answers (opening_at code asker s bytes at) (Begins code s bytes at) (FaultyBegin code asker s bytes at) _ (IsTerm code arity (suc d) asker s bytes at) (Faulty code arity (suc d) asker s bytes at) (opening_right code asker s bytes at)
    (λ o e. weaker _ (Follows arity (IsTerm code arity d) o bytes at) (FaultyForm arity (IsTerm code arity d) (Faulty code arity d) o bytes at) (IsTerm code arity (suc d) asker s bytes at) (Faulty code arity (suc d) asker s bytes at)
    (form_right arity (term_at code arity d) (IsTerm code arity d) (Faulty code arity d) (term_right code arity d) (term_in code arity d) o bytes at (begins_in code s bytes at o e))
    (λ t h. (o, e, h))
    (λ f h. inr (o, e, h)))
    (λ f e. inl e)
