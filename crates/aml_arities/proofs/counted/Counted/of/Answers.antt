use Rattle.std.proofs.Common.{List, ℕ, Option, get_or, map, take, sym, ap, ◌∙◌, arith}
use Rattle.std.specs.Borrow.{Bor}
use Rattle.std.specs.Option.{option_or}
use Rattle.std.proofs.lemmas.List.{take_all, take_more}
use Rattle.aml_arities.specs.declared.external.External.{External}
use Rattle.aml_paths.specs.declared.scope.Scope.TheVariants.{Root}
use Rattle.aml_arities.specs.Counted.{told}
use Rattle.aml_paths.specs.Paths.{Path}
use Rattle.aml_paths.specs.Steps.{paths_seen}
use Rattle.aml_arities.specs.Told.{declared_path, first_told, told_under}
use Rattle.aml_arities.proofs.Telling.{first_told-push}
use Rattle.aml_arities.proofs.counted.Counted.of.Goals as goal

pub loop-external-preserved : goal.loop-external-preserved
loop-external-preserved c =
    let paths = paths_seen c.args.paths.now in
    let tables = map (λ (t : Bor (List ℕ)). t.now) c.args.tables.now in
    let all = c.args.externals.now in
    let i = c.loop-external.external-index in
    let tells = c.in_ok-declare.ensures in
    let before = c.loop-external.invariant in
    let nothing : External = record { name = record { table = 0; at = 0; scope = Root }; args = 0 } in
    let e = get_or all i nothing in
    record {
      named_are = tells.named_are ∙ before.named_are;
      told_is = λ path.
          tells.told_is path
          ∙ ap (λ (ps : List Path). option_or (told c.loop-external.counted path) (told_under (declared_path tables ps e) e.args path)) before.named_are
          ∙ ap (λ (o : Option ℕ). option_or o (told_under (declared_path tables paths e) e.args path)) (before.told_is path)
          ∙ sym (first_told-push tables paths (take i all) e path)
          ∙ ap (λ (es : List External). first_told tables paths es path) (sym (take_more all i nothing c.loop-external-test.true));
    }

pub returns : goal.returns
returns c =
    let paths = paths_seen c.args.paths.now in
    let tables = map (λ (t : Bor (List ℕ)). t.now) c.args.tables.now in
    let all = c.args.externals.now in
    let i = c.loop-external.external-index in
    let stays = c.in_ok-settle_chains.ensures in
    let before = c.loop-external.invariant in
    let every = take_all i all (omega (arith, c.loop-external-test.false)) in
    record {
      named_are = stays.named_are ∙ before.named_are;
      told_is = λ path. stays.told_is path ∙ before.told_is path ∙ ap (λ (es : List External). first_told tables paths es path) every;
    }
