use Rattle.std.proofs.Common.{◌≢◌, codes}
use Rattle.std.proofs.lemmas.Slice.Eq.{bytes_eq-Decides}
use Rattle.aml_signatures.proofs.Named.{unnamed}
use Rattle.aml_signatures.proofs.words.kind_named.Goals as goal

pub returns-else-eq-2 : goal.returns-else-eq-2
returns-else-eq-2 c =
    let word = c.args.word.now in
    let no_int : word ≢ codes "int" = λ e. let same = (bytes_eq-Decides word (codes "int")).1 e in absurd (cc (same, c.eq.ensures, c.if-eq.false)) in
    let no_pkg : word ≢ codes "pkg" = λ e. let same = (bytes_eq-Decides word (codes "pkg")).1 e in absurd (cc (same, c.eq-else-eq.ensures, c.if-eq-2.false)) in
    unnamed word no_int no_pkg c.in_default.ensures c.in_default-number_behind.ensures c.in_default-number_behind-2.ensures
