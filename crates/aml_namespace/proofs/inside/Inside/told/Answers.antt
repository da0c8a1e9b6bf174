use Rattle.std.proofs.Common.{◌≡◌, suc, ◌+◌, List, [], ap, sym, ◌∙◌, arith, slice_get, option_and_then}
use Rattle.aml_lex.specs.Names.{name_of}
use Rattle.aml_arities.specs.declared.external.External.{External}
use Rattle.aml_objects.specs.Entries.{paths_in}
use Rattle.aml_objects.specs.Kept.{entries_seen}
use Rattle.aml_paths.specs.Paths.{Path, path_at}
use Rattle.aml_paths.specs.Resolve.{resolve}
use Rattle.aml_namespace.specs.Shows.{bytes_in}
use Rattle.aml_arities.specs.Told.{first_told}
use Rattle.aml_objects.proofs.Kept.{scope_there}
use Rattle.aml_arities.proofs.Telling.{none_declared, scope_within, told_as_declared}
use Rattle.aml_namespace.proofs.inside.Inside.told.Goals as goal

pub count-requires : goal.count-requires
count-requires c =
    let ns = c.args.self.now.namespace.now in
    let paths = paths_in (entries_seen ns.objects) in
    let scope = c.args.self.now.method + 1 in
    let there = scope_there (entries_seen ns.objects) scope (omega (arith, c.len.ensures, c.if-self-len.false)) in
    scope_within (bytes_in ns.tables.items) paths ns.externals.items c.in-Some.answered.counted (c.args.self.now.told c.in-Some.answered c.in-Some.is) scope (path_at paths scope) there

pub returns-in-Some : goal.returns-in-Some
returns-in-Some c =
    let ns = c.args.self.now.namespace.now in
    let paths = paths_in (entries_seen ns.objects) in
    let scope = c.args.self.now.method + 1 in
    let next : scope ≡ suc c.args.self.now.method = omega arith in
    let there = scope_there (entries_seen ns.objects) scope (omega (arith, c.len.ensures, c.if-self-len.false)) in
    let find = first_told (bytes_in ns.tables.items) paths ns.externals.items in
    let name = name_of c.args.name.now in
    c.count.ensures
    ∙ told_as_declared (bytes_in ns.tables.items) paths ns.externals.items c.in-Some.answered.counted (c.args.self.now.told c.in-Some.answered c.in-Some.is) scope (path_at paths scope) there name
    ∙ sym (ap (option_and_then (λ (p : Path). resolve find p name)) there)
    ∙ ap (λ n. option_and_then (λ (p : Path). resolve find p name) (slice_get paths n)) next

pub returns-in-None : goal.returns-in-None
returns-in-None c =
    let ns = c.args.self.now.namespace.now in
    let paths = paths_in (entries_seen ns.objects) in
    let tables = bytes_in ns.tables.items in
    let scope = c.args.self.now.method + 1 in
    let next : scope ≡ suc c.args.self.now.method = omega arith in
    let there = scope_there (entries_seen ns.objects) scope (omega (arith, c.len.ensures, c.if-self-len.false)) in
    let name = name_of c.args.name.now in
    sym (ap (λ (es : List External). option_and_then (λ (p : Path). resolve (first_told tables paths es) p name) (slice_get paths (suc c.args.self.now.method))) (c.args.self.now.untold c.in-None.is)
    ∙ sym (ap (λ n. option_and_then (λ (p : Path). resolve (first_told tables paths []) p name) (slice_get paths n)) next)
    ∙ ap (option_and_then (λ (p : Path). resolve (first_told tables paths []) p name)) there
    ∙ none_declared tables paths (path_at paths scope) name)
