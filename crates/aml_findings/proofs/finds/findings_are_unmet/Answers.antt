use Rattle.aml_findings.proofs.Unmet.{combined_are_unmet, compared_are_unmet, concatenated_are_unmet, converted_are_unmet, integers_are_unmet, released_are_unmet, still_held_are_told}
use Rattle.aml_findings.proofs.finds.findings_are_unmet.Goals as goal

pub returns : goal.returns
returns c = record {
  integers = integers_are_unmet;
  combined = combined_are_unmet;
  compared = compared_are_unmet;
  converted = converted_are_unmet;
  concatenated = concatenated_are_unmet;
  released = released_are_unmet;
  still_held = still_held_are_told;
}
