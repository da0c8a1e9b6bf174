use Rattle.std.proofs.Common.{◌≡◌, ◌≤◌, ◌-◌, ◌++◌, map, length, max}
use Rattle.std.specs.Prelude.{replicate}
use Rattle.aml_values.specs.Values.{Unset}
use Rattle.aml_values.specs.Views.{element}
use Rattle.aml_contents.proofs.first_data.with_unset.Given as goal

-- the elements, and unset ones up to the number so far
abbrev pub invariant-unset : goal.invariant-unset
invariant-unset l = record {
  past : length l.fn.elements.items ≤ l.counter;
  within : l.counter ≤ max (length l.fn.elements.items) l.fn.size;
  made : map element l.made.items ≡ map element l.fn.elements.items ++ replicate (l.counter - length l.fn.elements.items) Unset;
}
