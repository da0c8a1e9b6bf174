use Rattle.std.proofs.Common.{◌≡◌, ◌+◌, ◌-◌, ◌*◌, ◌≤◌}
use Rattle.aml_regions.specs.Fields.{end, first}
use Rattle.aml_meaning.specs.Fields.{all_units_cost, cost_from}
use Rattle.aml_fields.proofs.count.write_events.Given as goal

-- what was counted, and what the rest costs
abbrev pub invariant-loop-unit : goal.invariant-loop-unit
invariant-loop-unit l = record {
  low : first l.layout ≤ l.unit;
  last : l.unit-end ≡ end l.layout;
  most : l.events ≤ (l.unit - first l.layout) * (l.one.read + l.one.write);
  cost : l.events + cost_from l.layout l.one.read l.one.write (end l.layout - l.unit) l.unit ≡ all_units_cost l.layout l.one.read l.one.write;
}
