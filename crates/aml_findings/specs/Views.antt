-- What is known around a body, in the words of the judgement.
use Rattle.std.specs.Prelude.{ℕ, Option}
use Rattle.std.specs.Option.{option_map}
use Rattle.aml_kinds.specs.Kinds.{Kind, Shape}
use Rattle.aml_known.specs.declared.known.Known.{Known}
use Rattle.aml_known.specs.Views.{accepted_of, kind_of}
use Rattle.aml_judged.specs.Judged as judged
use Rattle.aml_judged.specs.Bodies as bodies
use Rattle.aml_findings.specs.declared.around.Seen.{Seen}
use Rattle.aml_findings.specs.declared.around.Made.{Made}
use Rattle.aml_findings.specs.declared.around.Made.TheVariants as made

module _ (shapes : ℕ → Shape) where
  abbrev pub content_of : Option Known → Option Kind
  content_of k = option_map (kind_of shapes) k

  abbrev pub seen_of : Seen → judged.Seen
  seen_of m = record {
    reaches = m.reaches;
    deep = m.deep;
    accepted = option_map (λ a. accepted_of shapes a.now) m.accepted;
  }

  -- what a statement at the top of a body makes
  abbrev pub made_of : Made → bodies.Made
  made_of made.Nothing = bodies.Nothing
  made_of (made.Holding k) = bodies.Holding (kind_of shapes k)
  made_of (made.Field f) = bodies.Field f
