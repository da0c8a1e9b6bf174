use Rattle.std.proofs.Common.{◌∙◌, ap}
use Rattle.aml_judged.specs.Integers.{is_integer, is_narrow, is_narrow_buffer_field}
use Rattle.aml_integers.proofs.names.name.Goals as goal

pub returns-in-Data : goal.returns-in-Data
returns-in-Data g c = λ only. rw c.in-Data.is (c.is_integer.ensures (g.A.Shapes.numbered c.args.here.now) ∙ ap is_integer c.shared.ensures)

pub returns-in-Field : goal.returns-in-Field
returns-in-Field g c = λ only.
    rw c.in-Field.is (c.is_narrow.ensures ∙ ap (is_narrow (g.A.Around.around c.args.here.now).width) c.field.ensures.is)

pub returns-in-BufferField : goal.returns-in-BufferField
returns-in-BufferField g c = λ only.
    rw c.in-BufferField.is (c.is_narrow_buffer_field.ensures ∙ ap (is_narrow_buffer_field (g.A.Around.around c.args.here.now).width) c.buffer_field.ensures)
