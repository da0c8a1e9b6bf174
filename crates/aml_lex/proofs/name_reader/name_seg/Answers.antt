use Rattle.std.proofs.Common.{[], ◌∷◌, ◌∙◌, sym, true, false}
use Rattle.std.proofs.lemmas.Result.{err_from_is_err_and}
use Rattle.aml_lex.specs.declared.fault.LexCause.TheVariants.{BadName}
use Rattle.aml_lex.specs.Characters.{fits_name}
use Rattle.std.proofs.Common.{ℕ, Bool, List}
use Rattle.aml_lex.proofs.Places.{tested_ok, tested_err}
use Rattle.aml_lex.proofs.name_reader.name_seg.Goals as goal

-- the tests behind the first, the second and the third byte
abbrev one : List (ℕ → Bool)
one = fits_name false ∷ []

abbrev two : List (ℕ → Bool)
two = fits_name false ∷ one

abbrev three : List (ℕ → Bool)
three = fits_name false ∷ two

pub returns-in_err-third-clause-gives : goal.returns-in_err-third-clause-gives
returns-in_err-third-clause-gives c =
    let p = err_from_is_err_and c.from_residual-in_err-third.result c.from_residual-in_err-third.ensures.1 in
    rw (p.1, p.2) (sym (tested_ok BadName c.args.bytes.now _ _ _ (fits_name true) three c.in_ok-second.ensures.size c.in_ok-second.ensures.gives
    ∙ tested_err BadName c.args.bytes.now _ _ _ (fits_name false) two c.in_err-third.ensures.gives))

pub returns-in_err-fourth-clause-gives : goal.returns-in_err-fourth-clause-gives
returns-in_err-fourth-clause-gives c =
    let p = err_from_is_err_and c.from_residual-in_err-fourth.result c.from_residual-in_err-fourth.ensures.1 in
    rw (p.1, p.2) (sym (tested_ok BadName c.args.bytes.now _ _ _ (fits_name true) three c.in_ok-second.ensures.size c.in_ok-second.ensures.gives
    ∙ tested_ok BadName c.args.bytes.now _ _ _ (fits_name false) two c.in_ok-third.ensures.size c.in_ok-third.ensures.gives
    ∙ tested_err BadName c.args.bytes.now _ _ _ (fits_name false) one c.in_err-fourth.ensures.gives))

pub returns-clause-gives : goal.returns-clause-gives
returns-clause-gives c =
    c.name_char-4.ensures.gives
    ∙ sym (tested_ok BadName c.args.bytes.now _ _ _ (fits_name true) three c.in_ok-second.ensures.size c.in_ok-second.ensures.gives
    ∙ tested_ok BadName c.args.bytes.now _ _ _ (fits_name false) two c.in_ok-third.ensures.size c.in_ok-third.ensures.gives
    ∙ tested_ok BadName c.args.bytes.now _ _ _ (fits_name false) one c.in_ok-fourth.ensures.size c.in_ok-fourth.ensures.gives)
