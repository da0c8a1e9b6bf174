use Rattle.std.specs.Prelude.{◌≡◌, ◌+◌, ◌-◌, ◌*◌, ◌/◌, ◌<◌, ◌≤◌, ◌^◌}
use Rattle.aml_regions.specs.Bytes.{byte_of, number_from}
use Rattle.aml_regions.proofs.bytes.unit.Given as goal

-- the number of the bytes behind those that are left
abbrev pub invariant-loop-left : goal.invariant-loop-left
invariant-loop-left l = record {
  most : l.left ≤ l.access.width / 8;
  value : l.value ≡ number_from (l.access.width / 8 - l.left) (byte_of l.bytes l.access.space) (l.access.address + l.left);
  fits : l.value < 2 ^ (8 * (l.access.width / 8 - l.left));
}

abbrev pub decreases-loop-left : goal.decreases-loop-left
decreases-loop-left l = l.left
