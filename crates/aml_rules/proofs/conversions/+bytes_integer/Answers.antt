use Rattle.std.proofs.Common.{◌<◌, ◌^◌, arith}
use Rattle.aml_rules.proofs.Spelled.{room}
use Rattle.aml_rules.proofs.conversions.+bytes_integer.Goals as goal

pub overflow_mul-result : goal.overflow_mul-result
overflow_mul-result t c =
    let below : c.bytes_integer.result < 256 ^ 7 = room c.args.bytes.now _ c.requires c.in-len1-up.len_at_least c.bytes_integer.ensures.fits in omega (arith, below)

pub overflow_add-result : goal.overflow_add-result
overflow_add-result t c =
    let below : c.bytes_integer.result < 256 ^ 7 = room c.args.bytes.now _ c.requires c.in-len1-up.len_at_least c.bytes_integer.ensures.fits in omega (arith, below)
