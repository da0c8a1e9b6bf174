use Rattle.std.proofs.Common.{◌≡◌, ◌+◌, ◌-◌, ◌≤◌, ◌<◌, [], ◌∷◌, length, length-take, length-drop, take, drop, sym, ap, ◌∙◌, arith}
use Rattle.std.proofs.lemmas.Grind.{common_steps}
use Rattle.std.specs.Prelude.{IsOk}
use Rattle.aml_lex.specs.Reading.{pkg_length_at}
use Rattle.aml_operators.specs.declared.row.Letter.TheVariants.{One, Sized, Package, Branch, Terms, Fields, Bytes}
use Rattle.aml_places.proofs.Past.{behind_branch, behind_piece, behind_size, bits_piece, bits_piece_ends, bits_there, branch_stands, connection_begins, connection_buffer, connection_name, argued, first_argument, first_piece, first_size, in_branch, in_length, in_package, last_argument, name_alone_ends, name_piece, name_piece_ends, name_stands, next_arguments, not_err, number_piece_ends, package_stands, passed, piece_ends, size_ends, text_piece, text_piece_ends}
use Rattle.aml_quick.specs.Settings.{count_of}
use Rattle.aml_direct.proofs.past.+past.Goals as goal

-- past
pub past-past_parts-requires : goal.past-past_parts-requires
past-past_parts-requires t c =
    let f = passed (count_of c.args.scene.now) c.args.spot c.in-Some.op c.args.bytes.now c.args.at c.in-Some.next c.requires.it (sym c.op_at.ensures.is ∙ c.in-Some.is) c.requires.lies in
    let w = c.in-Some.ensures.within in
    (omega (arith, w, c.row_of.ensures.short), (record { own = c.args.at; stop = f.stop; parts = f.parts; lie = rw c.row_of.ensures.letters f.lie }, w.1))

pub past-returns-in-Some-clause-is : goal.past-returns-in-Some-clause-is
past-returns-in-Some-clause-is t c = λ u lies.
    let f = passed (count_of c.args.scene.now) c.args.spot c.in-Some.op c.args.bytes.now c.args.at c.in-Some.next u (sym c.op_at.ensures.is ∙ c.in-Some.is) lies in
    rw f.is (c.past_parts.ensures.is c.args.at f.stop f.parts (rw c.row_of.ensures.letters f.lie))

pub past-returns-in-Some-clause-ahead : goal.past-returns-in-Some-clause-ahead
past-returns-in-Some-clause-ahead t c =
    let w = c.in-Some.ensures.within in
    omega (arith, w, c.past_parts.ensures.ahead)

pub past-past_name-requires : goal.past-past_name-requires
past-past_name-requires t c = (omega arith, (sym c.op_at.ensures.is ∙ c.in-None.is, c.requires))

-- past_name
pub past_name-name_end-next-requires : goal.past_name-name_end-next-requires
past_name-name_end-next-requires t c = name_stands (count_of c.args.scene.now) c.args.bytes.now c.args.at c.requires.name c.args.spot c.requires.stands.it c.requires.stands.lies

pub past_name-past_arguments-requires : goal.past_name-past_arguments-requires
past_name-past_arguments-requires t c =
    let f = argued (count_of c.args.scene.now) c.args.bytes.now c.args.at c.requires.name c.args.spot c.requires.stands.it c.taken.result c.name_end-next.result (sym c.naming_of.ensures ∙ c.in-Invoked.is) (λ name. sym (c.taken.ensures name)) c.name_end-next.ensures.is c.requires.stands.lies in
    (omega (arith, c.name_end-next.ensures), record { stop = f.stop; terms = f.terms; are = f.are; lie = f.lie })

pub past_name-returns-in-Invoked-clause-is : goal.past_name-returns-in-Invoked-clause-is
past_name-returns-in-Invoked-clause-is t c = λ u lies.
    let f = argued (count_of c.args.scene.now) c.args.bytes.now c.args.at c.requires.name c.args.spot u c.taken.result c.name_end-next.result (sym c.naming_of.ensures ∙ c.in-Invoked.is) (λ name. sym (c.taken.ensures name)) c.name_end-next.ensures.is lies in
    rw f.is (c.past_arguments.ensures.is f.stop f.terms f.lie f.are)

pub past_name-returns-in-Invoked-clause-ahead : goal.past_name-returns-in-Invoked-clause-ahead
past_name-returns-in-Invoked-clause-ahead t c = omega (arith, c.past_arguments.ensures.ahead, c.name_end-next.ensures)

pub past_name-returns-in_default-clause-is : goal.past_name-returns-in_default-clause-is
past_name-returns-in_default-clause-is t c = λ u lies.
    name_alone_ends (count_of c.args.scene.now) c.args.bytes.now c.args.at c.requires.name c.args.spot u c.name_end-next.result (λ e. c.in_default.not-Invoked (c.naming_of.ensures ∙ e)) c.name_end-next.ensures.is lies

-- past_arguments
pub past_arguments-past-at-requires : goal.past_arguments-past-at-requires
past_arguments-past-at-requires t c =
    let few : c.arguments.counter < length c.requires.terms = omega (arith, c.arguments-test.true, c.requires.are) in
    (omega (arith, c.arguments.invariant.ahead), first_argument (count_of c.args.scene.now) c.args.bytes.now c.arguments.at c.requires.stop c.arguments.counter c.requires.terms few (c.arguments.invariant.left c.requires.stop c.requires.terms c.requires.lie c.requires.are))

pub past_arguments-arguments-preserved : goal.past_arguments-arguments-preserved
past_arguments-arguments-preserved t c = record {
  ahead = omega (arith, c.arguments.invariant.ahead, c.past-at.ensures.ahead);
  left = λ stop ts lie are.
      let few : c.arguments.counter < length ts = omega (arith, c.arguments-test.true, are) in
      next_arguments (count_of c.args.scene.now) c.args.bytes.now c.arguments.at stop c.arguments.counter c.past-at.result ts few c.past-at.ensures.is (c.arguments.invariant.left stop ts lie are);
}

pub past_arguments-returns-clause-is : goal.past_arguments-returns-clause-is
past_arguments-returns-clause-is t c = λ stop ts lie are.
    let all : length ts ≤ c.arguments.counter = omega (arith, c.arguments-test.false, are) in
    last_argument (count_of c.args.scene.now) c.args.bytes.now c.arguments.at stop c.arguments.counter ts all (c.arguments.invariant.left stop ts lie are)

-- past_parts
pub past_parts-past_piece-next-requires : goal.past_parts-past_piece-next-requires
past_parts-past_piece-next-requires t c =
    let e : c.args.letters.now ≡ One c.in-One.piece ∷ take (length c.args.letters.now - 1) (drop 1 c.args.letters.now) = grind (arith, common_steps) in
    let h = rw e at c.requires.stands in
    (omega (arith, c.in-One.len_at_least), first_piece (count_of c.args.scene.now) c.in-One.piece _ c.args.bytes.now c.args.at h)

pub past_parts-past_parts-requires : goal.past_parts-past_parts-requires
past_parts-past_parts-requires t c =
    let e : c.args.letters.now ≡ One c.in-One.piece ∷ take (length c.args.letters.now - 1) (drop 1 c.args.letters.now) = grind (arith, common_steps) in
    let h = rw e at c.requires.stands in
    let ends = piece_ends (count_of c.args.scene.now) c.in-One.piece _ c.args.bytes.now h.own c.args.at h.stop h.parts h.lie c.past_piece-next.result c.past_piece-next.ensures.is c.requires.within in
    (omega (arith, c.in-One.len_at_least, ends, simp (length-take, length-drop) at (ap length e)), (record { own = h.own; stop = h.stop; parts = h.lie.1.1; lie = behind_piece (count_of c.args.scene.now) c.in-One.piece _ c.args.bytes.now h.own c.args.at h.stop h.parts h.lie c.past_piece-next.result c.past_piece-next.ensures.is }, ends.1))

pub past_parts-returns-in-One-clause-is : goal.past_parts-returns-in-One-clause-is
past_parts-returns-in-One-clause-is t c = λ own stop parts lie.
    let e : c.args.letters.now ≡ One c.in-One.piece ∷ take (length c.args.letters.now - 1) (drop 1 c.args.letters.now) = grind (arith, common_steps) in
    let h = rw e at lie in
    c.past_parts.ensures.is own stop h.1.1 (behind_piece (count_of c.args.scene.now) c.in-One.piece _ c.args.bytes.now own c.args.at stop parts h c.past_piece-next.result c.past_piece-next.ensures.is)

pub past_parts-past-next-requires : goal.past_parts-past-next-requires
past_parts-past-next-requires t c =
    let e : c.args.letters.now ≡ Sized c.in-Sized._limit ∷ take (length c.args.letters.now - 1) (drop 1 c.args.letters.now) = grind (arith, common_steps) in
    let h = rw e at c.requires.stands in
    (omega (arith, c.in-Sized.len_at_least), first_size (count_of c.args.scene.now) c.in-Sized._limit _ c.args.bytes.now c.args.at h)

pub past_parts-past_parts-requires-in-Sized : goal.past_parts-past_parts-requires-in-Sized
past_parts-past_parts-requires-in-Sized t c =
    let e : c.args.letters.now ≡ Sized c.in-Sized._limit ∷ take (length c.args.letters.now - 1) (drop 1 c.args.letters.now) = grind (arith, common_steps) in
    let h = rw e at c.requires.stands in
    let ends = size_ends (count_of c.args.scene.now) c.in-Sized._limit _ c.args.bytes.now h.own c.args.at h.stop h.parts h.lie c.past-next.result c.past-next.ensures.is in
    (omega (arith, c.in-Sized.len_at_least, ends, simp (length-take, length-drop) at (ap length e)), (record { own = h.own; stop = h.stop; parts = h.lie.1.1; lie = behind_size (count_of c.args.scene.now) c.in-Sized._limit _ c.args.bytes.now h.own c.args.at h.stop h.parts h.lie c.past-next.result c.past-next.ensures.is }, ends.1))

pub past_parts-returns-in-Sized-clause-is : goal.past_parts-returns-in-Sized-clause-is
past_parts-returns-in-Sized-clause-is t c = λ own stop parts lie.
    let e : c.args.letters.now ≡ Sized c.in-Sized._limit ∷ take (length c.args.letters.now - 1) (drop 1 c.args.letters.now) = grind (arith, common_steps) in
    let h = rw e at lie in
    c.past_parts-in-Sized.ensures.is own stop h.1.1 (behind_size (count_of c.args.scene.now) c.in-Sized._limit _ c.args.bytes.now own c.args.at stop parts h c.past-next.result c.past-next.ensures.is)

pub past_parts-package-end-requires : goal.past_parts-package-end-requires
past_parts-package-end-requires t c =
    let e : c.args.letters.now ≡ Package ∷ take (length c.args.letters.now - 1) (drop 1 c.args.letters.now) = grind (arith, common_steps) in
    let h = rw e at c.requires.stands in
    package_stands (count_of c.args.scene.now) _ c.args.bytes.now h.own c.args.at h.stop h.parts h.lie

pub past_parts-past_parts-requires-in-Package : goal.past_parts-past_parts-requires-in-Package
past_parts-past_parts-requires-in-Package t c =
    let e : c.args.letters.now ≡ Package ∷ take (length c.args.letters.now - 1) (drop 1 c.args.letters.now) = grind (arith, common_steps) in
    let h = rw e at c.requires.stands in
    let long = in_length (count_of c.args.scene.now) [] c.args.bytes.now 0 c.args.at 0 [] c.package-end.result c.package-end.ensures.is c.package-end.ensures.within in
    let lie = in_package (count_of c.args.scene.now) _ c.args.bytes.now h.own c.args.at h.stop h.parts c.package-end.result c.package-end.ensures.is h.lie in
    (omega (arith, c.in-Package.len_at_least, c.package-end.ensures, long, simp (length-take, length-drop) at (ap length e)), (record { own = h.own; stop = h.stop; parts = h.parts; lie = lie }, omega (arith, long, c.package-end.ensures.own)))

pub past_parts-returns-in-Package-clause-is : goal.past_parts-returns-in-Package-clause-is
past_parts-returns-in-Package-clause-is t c = λ own stop parts lie.
    let e : c.args.letters.now ≡ Package ∷ take (length c.args.letters.now - 1) (drop 1 c.args.letters.now) = grind (arith, common_steps) in
    let h = rw e at lie in
    c.past_parts-in-Package.ensures.is own stop parts (in_package (count_of c.args.scene.now) _ c.args.bytes.now own c.args.at stop parts c.package-end.result c.package-end.ensures.is h)

pub past_parts-returns-in-Package-clause-ahead : goal.past_parts-returns-in-Package-clause-ahead
past_parts-returns-in-Package-clause-ahead t c = omega (arith, c.past_parts-in-Package.ensures.ahead, c.package-end.ensures.ahead)

pub past_parts-package-end-requires-in-Branch : goal.past_parts-package-end-requires-in-Branch
past_parts-package-end-requires-in-Branch t c =
    let e : c.args.letters.now ≡ Branch ∷ take (length c.args.letters.now - 1) (drop 1 c.args.letters.now) = grind (arith, common_steps) in
    let h = rw e at c.requires.stands in
    branch_stands (count_of c.args.scene.now) _ c.args.bytes.now h.own c.args.at h.stop h.parts h.lie

pub past_parts-past_parts-inside-requires : goal.past_parts-past_parts-inside-requires
past_parts-past_parts-inside-requires t c =
    let e : c.args.letters.now ≡ Branch ∷ take (length c.args.letters.now - 1) (drop 1 c.args.letters.now) = grind (arith, common_steps) in
    let h = rw e at c.requires.stands in
    let long = in_length (count_of c.args.scene.now) [] c.args.bytes.now 0 c.args.at 0 [] c.package-end-in-Branch.result c.package-end-in-Branch.ensures.is c.package-end-in-Branch.ensures.within in
    let lie = in_branch (count_of c.args.scene.now) _ c.args.bytes.now h.own c.args.at h.stop h.parts c.package-end-in-Branch.result c.package-end-in-Branch.ensures.is h.lie in
    (omega (arith, c.in-Branch.len_at_least, c.package-end-in-Branch.ensures, long, simp (length-take, length-drop) at (ap length e)), (record { own = h.own; stop = h.lie.1.2; parts = h.lie.1.3; lie = lie }, omega (arith, long, c.package-end-in-Branch.ensures.own)))

pub past_parts-past_else-requires : goal.past_parts-past_else-requires
past_parts-past_else-requires t c =
    let e : c.args.letters.now ≡ Branch ∷ take (length c.args.letters.now - 1) (drop 1 c.args.letters.now) = grind (arith, common_steps) in
    let h = rw e at c.requires.stands in
    let lie = in_branch (count_of c.args.scene.now) _ c.args.bytes.now h.own c.args.at h.stop h.parts c.package-end-in-Branch.result c.package-end-in-Branch.ensures.is h.lie in
    let mid = c.past_parts-inside.ensures.is h.own h.lie.1.2 h.lie.1.3 lie in
    record { count = count_of c.args.scene.now; stop = h.stop; parts = h.lie.1.4; lie = behind_branch (count_of c.args.scene.now) _ c.args.bytes.now h.own c.args.at h.stop h.parts c.package-end-in-Branch.result c.package-end-in-Branch.ensures.is h.lie c.past_parts-inside.result mid }

pub past_parts-returns-in-Branch-clause-is : goal.past_parts-returns-in-Branch-clause-is
past_parts-returns-in-Branch-clause-is t c = λ own stop parts lie.
    let e : c.args.letters.now ≡ Branch ∷ take (length c.args.letters.now - 1) (drop 1 c.args.letters.now) = grind (arith, common_steps) in
    let h = rw e at lie in
    let inside = in_branch (count_of c.args.scene.now) _ c.args.bytes.now own c.args.at stop parts c.package-end-in-Branch.result c.package-end-in-Branch.ensures.is h in
    let mid = c.past_parts-inside.ensures.is own h.1.2 h.1.3 inside in
    sym (c.past_else.ensures.is (count_of c.args.scene.now) stop h.1.4 (behind_branch (count_of c.args.scene.now) _ c.args.bytes.now own c.args.at stop parts c.package-end-in-Branch.result c.package-end-in-Branch.ensures.is h c.past_parts-inside.result mid))

pub past_parts-returns-in-empty-clause-is : goal.past_parts-returns-in-empty-clause-is
past_parts-returns-in-empty-clause-is t c = λ own stop parts lie.
    let e : c.args.letters.now ≡ [] = grind (arith, common_steps) in
    let h = rw e at lie in h.1.1

pub past_parts-returns-in-Branch-clause-ahead : goal.past_parts-returns-in-Branch-clause-ahead
past_parts-returns-in-Branch-clause-ahead t c = omega (arith, c.package-end-in-Branch.ensures.ahead, c.past_parts-inside.ensures.ahead, c.past_else.ensures.ahead)

-- past_piece
pub past_piece-past-requires : goal.past_piece-past-requires
past_piece-past-requires t c =
    let h = rw c.in-Term.is at c.requires in
    (omega arith, h)

pub past_piece-returns-in-Term-clause-is : goal.past_piece-returns-in-Term-clause-is
past_piece-returns-in-Term-clause-is t c = λ u lies. let h = rw c.in-Term.is at lies in c.past.ensures.is u h

pub past_piece-name_end-requires : goal.past_piece-name_end-requires
past_piece-name_end-requires t c = let h = rw c.in-NameString.is at c.requires in name_piece (count_of c.args.scene.now) c.args.bytes.now c.args.at h.it h.lies

pub past_piece-returns-in-NameString-clause-is : goal.past_piece-returns-in-NameString-clause-is
past_piece-returns-in-NameString-clause-is t c = λ u lies. let h = rw c.in-NameString.is at lies in name_piece_ends (count_of c.args.scene.now) c.args.bytes.now c.args.at c.name_end.result u c.name_end.ensures.is h

pub past_piece-overflow_add-result : goal.past_piece-overflow_add-result
past_piece-overflow_add-result t c =
    let h = rw c.in-Number.is at c.requires in
    let n = number_piece_ends (count_of c.args.scene.now) c.in-Number.size c.args.bytes.now c.args.at h.it h.lies in
    omega (arith, n, c.size.ensures.value)

pub past_piece-returns-in-Number-clause-is : goal.past_piece-returns-in-Number-clause-is
past_piece-returns-in-Number-clause-is t c = λ u lies.
    let h = rw c.in-Number.is at lies in
    let n = number_piece_ends (count_of c.args.scene.now) c.in-Number.size c.args.bytes.now c.args.at u h in
    n.0 ∙ ap (λ k. c.args.at + k) (sym c.size.ensures.value)

pub past_piece-pkg_length-requires : goal.past_piece-pkg_length-requires
past_piece-pkg_length-requires t c =
    let h = rw c.in-Bits.is at c.requires in
    bits_there (count_of c.args.scene.now) c.args.bytes.now c.args.at h.it h.lies

pub past_piece-unreachable-requires : goal.past_piece-unreachable-requires
past_piece-unreachable-requires t c =
    let h = rw c.in-Bits.is at c.requires in
    let ok : IsOk (pkg_length_at c.args.bytes.now c.args.at) = bits_piece (count_of c.args.scene.now) c.args.bytes.now c.args.at h.it h.lies in
    not_err (pkg_length_at c.args.bytes.now c.args.at) c.in-Err.field-0 ok (sym c.pkg_length.ensures.gives ∙ c.in-Err.is)

pub past_piece-returns-in-Ok-clause-is : goal.past_piece-returns-in-Ok-clause-is
past_piece-returns-in-Ok-clause-is t c = λ u lies.
    let h = rw c.in-Bits.is at lies in
    bits_piece_ends (count_of c.args.scene.now) c.args.bytes.now c.args.at (c.in-Ok.field-0-0, c.in-Ok.stop) u (sym c.pkg_length.ensures.gives ∙ c.in-Ok.is) h

pub past_piece-text_end-requires : goal.past_piece-text_end-requires
past_piece-text_end-requires t c = let h = rw c.in-Text.is at c.requires in text_piece (count_of c.args.scene.now) c.args.bytes.now c.args.at h.it h.lies

pub past_piece-returns-in-Text-clause-is : goal.past_piece-returns-in-Text-clause-is
past_piece-returns-in-Text-clause-is t c = λ u lies. let h = rw c.in-Text.is at lies in text_piece_ends (count_of c.args.scene.now) c.args.bytes.now c.args.at c.text_end.result u c.text_end.ensures.is h

pub past_piece-bounds-bytes-at : goal.past_piece-bounds-bytes-at
past_piece-bounds-bytes-at t c =
    let h = rw c.in-Connection.is at c.requires in
    connection_begins (count_of c.args.scene.now) c.args.bytes.now c.args.at h.it h.lies

pub past_piece-past-requires-then-bytes-at-eq17 : goal.past_piece-past-requires-then-bytes-at-eq17
past_piece-past-requires-then-bytes-at-eq17 t c =
    let h = rw c.in-Connection.is at c.requires in
    (omega arith, record { it = h.it; lies = connection_buffer (count_of c.args.scene.now) c.args.bytes.now c.args.at h.it c.if-bytes-at-eq17.true h.lies })

pub past_piece-returns-then-bytes-at-eq17-clause-is : goal.past_piece-returns-then-bytes-at-eq17-clause-is
past_piece-returns-then-bytes-at-eq17-clause-is t c = λ u lies.
    let h = rw c.in-Connection.is at lies in
    c.past-then-bytes-at-eq17.ensures.is u (connection_buffer (count_of c.args.scene.now) c.args.bytes.now c.args.at u c.if-bytes-at-eq17.true h)

pub past_piece-name_end-requires-else-bytes-at-eq17 : goal.past_piece-name_end-requires-else-bytes-at-eq17
past_piece-name_end-requires-else-bytes-at-eq17 t c =
    let h = rw c.in-Connection.is at c.requires in
    name_piece (count_of c.args.scene.now) c.args.bytes.now c.args.at h.it (connection_name (count_of c.args.scene.now) c.args.bytes.now c.args.at h.it c.if-bytes-at-eq17.false h.lies)

pub past_piece-returns-else-bytes-at-eq17-clause-is : goal.past_piece-returns-else-bytes-at-eq17-clause-is
past_piece-returns-else-bytes-at-eq17-clause-is t c = λ u lies.
    let h = rw c.in-Connection.is at lies in
    name_piece_ends (count_of c.args.scene.now) c.args.bytes.now c.args.at c.name_end-else-bytes-at-eq17.result u c.name_end-else-bytes-at-eq17.ensures.is (connection_name (count_of c.args.scene.now) c.args.bytes.now c.args.at u c.if-bytes-at-eq17.false h)

pub past_parts-returns-in-One-clause-ahead : goal.past_parts-returns-in-One-clause-ahead
past_parts-returns-in-One-clause-ahead t c = omega (arith, c.past_parts.ensures.ahead, c.past_piece-next.ensures.ahead)

pub past_parts-returns-in-Sized-clause-ahead : goal.past_parts-returns-in-Sized-clause-ahead
past_parts-returns-in-Sized-clause-ahead t c = omega (arith, c.past_parts-in-Sized.ensures.ahead, c.past-next.ensures.ahead)

pub past_parts-returns-in-Terms-clause-is : goal.past_parts-returns-in-Terms-clause-is
past_parts-returns-in-Terms-clause-is t c = λ own stop parts lie.
    let e : c.args.letters.now ≡ Terms c.in-Terms._spot ∷ take (length c.args.letters.now - 1) (drop 1 c.args.letters.now) = grind (arith, common_steps) in
    let h = rw e at lie in h.1.1

pub past_parts-returns-in-Fields-clause-is : goal.past_parts-returns-in-Fields-clause-is
past_parts-returns-in-Fields-clause-is t c = λ own stop parts lie.
    let e : c.args.letters.now ≡ Fields ∷ take (length c.args.letters.now - 1) (drop 1 c.args.letters.now) = grind (arith, common_steps) in
    let h = rw e at lie in h.1.1

pub past_parts-returns-in-Bytes-clause-is : goal.past_parts-returns-in-Bytes-clause-is
past_parts-returns-in-Bytes-clause-is t c = λ own stop parts lie.
    let e : c.args.letters.now ≡ Bytes ∷ take (length c.args.letters.now - 1) (drop 1 c.args.letters.now) = grind (arith, common_steps) in
    let h = rw e at lie in h.1.1
