use Rattle.std.proofs.Common.{◌≡◌, ◌<◌, length, get_or, arith}
use Rattle.std.proofs.lemmas.Grind.{common_steps}
use Rattle.aml_lex.proofs.Places.{path_two, path_counted}
use Rattle.aml_lex.proofs.name_reader.name_path.Goals as goal

pub returns-in-Some-eq46-clause-gives : goal.returns-in-Some-eq46-clause-gives
returns-in-Some-eq46-clause-gives c =
    let lt : c.args.at < length c.args.bytes.now = grind (arith, common_steps) in
    let first : get_or c.args.bytes.now c.args.at 0 ≡ 0x2E = grind (arith, common_steps) in
    rw (path_two c.args.bytes.now c.args.at (length c.args.bytes.now) lt first) c.name_segs.ensures.gives

pub returns-in-Some-eq47-clause-gives : goal.returns-in-Some-eq47-clause-gives
returns-in-Some-eq47-clause-gives c =
    let lt : c.args.at < length c.args.bytes.now = grind (arith, common_steps) in
    let first : get_or c.args.bytes.now c.args.at 0 ≡ 0x2F = grind (arith, common_steps) in
    rw (path_counted c.args.bytes.now c.args.at (length c.args.bytes.now) lt first) c.counted_segs.ensures.gives
