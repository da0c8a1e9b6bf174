use Rattle.std.proofs.Common.{◌+◌, ◌-◌, ◌/◌, ◌<◌, ◌^◌, arith}
use Rattle.aml_regions.specs.Bytes.{byte_of}
use Rattle.aml_regions.proofs.Places.{number_none, none_fits, number_more, number_fits, number_room}
use Rattle.aml_regions.proofs.bytes.unit.Goals as goal

pub loop-left-init : goal.loop-left-init
loop-left-init c = record {
  most = omega arith;
  value = number_none _ _ _ (omega arith);
  fits = none_fits _ (omega arith);
}

pub overflow_mul-value : goal.overflow_mul-value
overflow_mul-value c =
    let room : c.loop-left.value < 2 ^ 56 =
    number_room (c.args.access.width / 8 - c.loop-left.left) c.loop-left.value (omega arith) c.loop-left.invariant.fits in
    record { fits = omega arith }

pub overflow_add-value : goal.overflow_add-value
overflow_add-value c =
    let room : c.loop-left.value < 2 ^ 56 =
    number_room (c.args.access.width / 8 - c.loop-left.left) c.loop-left.value (omega arith) c.loop-left.invariant.fits in
    record { fits = omega arith }

pub loop-left-preserved : goal.loop-left-preserved
loop-left-preserved c =
    let behind = c.args.access.width / 8 - c.loop-left.left in
    record {
      most = omega arith;
      value = number_more behind _ _ (c.args.access.address + c.loop-left.left) c.loop-left.value c.byte-next.result
          (byte_of c.args.bytes.now c.args.access.space) (omega arith) (omega arith) c.byte-next.ensures c.loop-left.invariant.value;
      fits = number_fits behind _ c.loop-left.value c.byte-next.result (omega arith) c.loop-left.invariant.fits (omega arith);
    }
