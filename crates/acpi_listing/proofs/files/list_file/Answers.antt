use Rattle.std.proofs.Common.{refl}
use Rattle.acpi_listing.proofs.FilesListed.{file_unread, file_faulty, file_cut}
use Rattle.acpi_listing.proofs.files.list_file.Goals as goal

pub returns-in_err-bytes : goal.returns-in_err-bytes
returns-in_err-bytes g c =
    file_unread g.F.Source.answers c.args.number c.args.name.now _ _ _ _ c.from_residual.result c.from_residual.ensures.1 c.in_err-bytes.ensures

pub returns-in_err-list_tables-in-Ok : goal.returns-in_err-list_tables-in-Ok
returns-in_err-list_tables-in-Ok g c =
    file_cut g.F.Source.answers c.args.number c.args.name.now c.in_ok-bytes.bytes.items c.deref.result.now c.in-Ok.table _ _ _ _ _ c.from_residual-in_err-list_tables-in-Ok.result
    c.from_residual-in_err-list_tables-in-Ok.ensures.1 c.deref.ensures.value c.in_ok-bytes.ensures (c.in-Ok.ensures.table.0 refl, c.in-Ok.ensures.says) c.in_err-list_tables-in-Ok.ensures

pub returns : goal.returns
returns g c =
    file_faulty g.F.Source.answers c.args.number c.args.name.now c.in_ok-bytes.bytes.items c.deref.result.now c.in-Err.fault _ _ _ c.of_table.result
    c.deref.ensures.value c.in_ok-bytes.ensures c.in-Err.ensures.fault c.of_table.ensures
