use Rattle.std.proofs.Common.{◌∙◌, ap}
use Rattle.std.specs.Int.{bit_at}
use Rattle.aml_regions.specs.BufferFields.{stored}
use Rattle.aml_fields.proofs.Gathering.{bytes_more}
use Rattle.aml_fields.proofs.gather.GatheredBytesGathers.put.Goals as goal

pub returns-clause-more : goal.returns-clause-more
returns-clause-more c = λ before bit goes is.
    let a = c.args in
    c.write_buffer_field.ensures ∙ ap (stored a.done a.take (bit_at a.part)) is ∙ bytes_more before bit a.done a.take a.part goes _
