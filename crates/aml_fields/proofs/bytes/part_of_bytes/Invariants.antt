use Rattle.std.proofs.Common.{◌≡◌, ◌+◌, ◌-◌, ◌≤◌}
use Rattle.aml_regions.specs.Bits.{byte_bit, number}
use Rattle.aml_fields.proofs.bytes.part_of_bytes.Given as goal

abbrev pub invariant-loop-done : goal.invariant-loop-done
invariant-loop-done l = record {
  most : l.done ≤ l.k;
  value : l.value ≡ number l.done (λ i. byte_bit l.bytes (l.from + i));
}

abbrev pub decreases-loop-done : goal.decreases-loop-done
decreases-loop-done l = l.k - l.done
