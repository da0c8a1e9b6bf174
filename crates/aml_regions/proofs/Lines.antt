-- What lines set, one after the other.
use Rattle.std.proofs.Common.{◌≡◌, ℕ, ◌+◌, List, [], ◌∷◌, ◌++◌, refl, sym, ap, ◌∙◌, inl, inr, true, length, append_assoc}
use Rattle.std.specs.Prelude.{slice_index}
use Rattle.aml_regions.specs.Bytes.{SameBytes}
use Rattle.aml_regions.specs.Text.{AreSetting, FailsToSet, Lacks, LineFails, LineSets, LinesSet, Setting, counts_nothing, lines_of, with_setting, with_settings, words_of}
use Rattle.aml_regions.specs.declared.fault.RegistersFault.{RegistersFault}
use Rattle.aml_regions.specs.declared.fault.RegistersFault.TheVariants.{NoMemory, BadRegs}
use Rattle.aml_regions.proofs.Parts.{parts_more}
use Rattle.aml_regions.proofs.Places.{run_over}

-- no more is set by a line that does not count
pub lines_nothing : (before : List (List ℕ)) (settings : List Setting) (line : List ℕ) → LinesSet before settings → counts_nothing line ≡ true → LinesSet (before ++ (line ∷ [])) settings
lines_nothing [] settings line h nothing = inl (nothing, h)
lines_nothing (first ∷ before) settings line (inl h) nothing = inl (h.0, lines_nothing before settings line h.1 nothing)
lines_nothing (first ∷ before) settings line (inr h) nothing = inr (h.0, h.1, h.2, h.3, lines_nothing before h.1 line h.4 nothing)

-- one setting more
pub lines_more : (before : List (List ℕ)) (settings : List Setting) (line : List ℕ) (s : Setting) → LinesSet before settings → AreSetting (words_of line) s → LinesSet (before ++ (line ∷ [])) (settings ++ (s ∷ []))
lines_more [] settings line s h is = inr (s, [], rw h refl, is, refl)
lines_more (first ∷ before) settings line s (inl h) is = inl (h.0, lines_more before settings line s h.1 is)
lines_more (first ∷ before) settings line s (inr h) is =
    inr (h.0, h.1 ++ (s ∷ []), ap (λ l. l ++ (s ∷ [])) h.2, h.3, lines_more before h.1 line s h.4 is)

settings_more : (old : ℕ → ℕ → ℕ) (settings : List Setting) (s : Setting) → with_settings old (settings ++ (s ∷ [])) ≡ with_setting (with_settings old settings) s
settings_more old [] s = refl
settings_more old (t ∷ settings) s = settings_more (with_setting old t) settings s

-- what lines have set, and the next one sets
pub record Done (before : List (List ℕ)) (bytes : ℕ → ℕ → ℕ) : Type 0 where
  pub settings : List Setting
  pub set : LinesSet before settings
  pub same : SameBytes (with_settings (λ _ _. 0) settings) bytes

pub done_more : (before : List (List ℕ)) (line : List ℕ) (old new : ℕ → ℕ → ℕ) → Done before old → LineSets line old new → Done (before ++ (line ∷ [])) new
done_more before line old new done (inl h) = record {
  settings = done.settings;
  set = lines_nothing before done.settings line done.set h.0;
  same = λ space address. h.1 space address ∙ done.same space address;
}
done_more before line old new done (inr h) = record {
  settings = done.settings ++ (h.0 ∷ []);
  set = lines_more before done.settings line h.0 done.set h.1;
  same = λ space address. h.2 space address
      ∙ (run_over old (with_settings (λ _ _. 0) done.settings) h.0.space h.0.address (length h.0.run) (slice_index h.0.run) space address (done.same space address)
      ∙ ap (λ bytes. bytes space address) (sym (settings_more (λ _ _. 0) done.settings h.0)));
}

-- the next line stands behind those before
pub next_line : (text line rest : List ℕ) (before : List (List ℕ)) (now : List ℕ) → Lacks 10 line → now ≡ line ++ (10 ∷ rest) → lines_of text ≡ before ++ lines_of now → lines_of text ≡ (before ++ (line ∷ [])) ++ lines_of rest
next_line text line rest before now lacks is all =
    all ∙ ap (λ l. before ++ l) (ap lines_of is ∙ parts_more 10 line rest lacks) ∙ sym (append_assoc before (line ∷ []) (lines_of rest))

-- a line that fails is the first bad one
pub first_bad : (text line : List ℕ) (before behind : List (List ℕ)) (bytes : ℕ → ℕ → ℕ) (number : ℕ) (fault : RegistersFault) → Done before bytes → lines_of text ≡ before ++ (line ∷ behind) → number ≡ length before + 1 → LineFails line number fault → FailsToSet text fault
first_bad text line before behind bytes number NoMemory done all count fails = tt
first_bad text line before behind bytes number (BadRegs n) done all count fails =
    (before, behind, line, all, (done.settings, done.set), fails.1, fails.0 ∙ count)
