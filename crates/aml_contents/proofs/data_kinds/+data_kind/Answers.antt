use Rattle.std.proofs.Common.{◌≡◌, ◌<◌, ◌-◌, ◌∙◌, Some, length, sym, ap, refl, arith}
use Rattle.std.specs.Prelude.{◌==◌}
use Rattle.aml_operators.specs.declared.row.Code.TheVariants as code
use Rattle.aml_operators.specs.declared.row.Spot.TheVariants as spot
use Rattle.aml_tree.specs.Body.{no_arguments}
use Rattle.aml_tree.specs.Reading.{term_at}
use Rattle.aml_kinds.specs.KindViews.{element_kind, shape_of}
use Rattle.aml_contents.specs.DataKinds.{element_compared, elements_compared, place_at, seen}
use Rattle.aml_contents.proofs.DataWalk.{none_deeper, package_compared, places_many, walked_none, walked_on, walked_fault, walked_all}
use Rattle.aml_contents.proofs.data_kinds.+data_kind.Goals as goal

pub element-returns-then-depth-eq0-clause-gives : goal.element-returns-then-depth-eq0-clause-gives
element-returns-then-depth-eq0-clause-gives t c =
    rw c.if-depth-eq0.true (none_deeper (element_compared c.args.width (element_kind c.args.wanted.now)) c.args.own c.args.bytes.now c.args.at)

pub element-returns-in_ok-end-in-Package-clause-gives : goal.element-returns-in_ok-end-in-Package-clause-gives
element-returns-in_ok-end-in-Package-clause-gives t c =
    let term = term_at code.Module no_arguments c.args.depth c.args.own spot.Element c.args.bytes.now c.args.at in
    let opened = rw c.in-Package.is at c.in_ok-head.ensures.is in
    package_compared c.args.width (c.args.depth - 1) c.args.bytes.now c.args.at c.in_ok-head.stop c.in-Package.count c.in-Package.start term opened (element_kind c.args.wanted.now) (shape_of c.wanted_places-places.result.now) c.in_ok-end-in-Package.end c.in_ok-end-in-Package.same c.is_wanted_package.result c.wanted_places-places.ensures c.is_wanted_package.ensures c.in_ok-end-in-Package.ensures.gives

pub elements-loop-at-init : goal.elements-loop-at-init
elements-loop-at-init t c =
    let s = shape_of c.args.places.now in
    record {
      walked = walked_none c.args.width c.args.count s c.args.depth c.args.own c.args.bytes.now c.args.start (length c.args.places.now == c.args.count) (ap (λ n. n == c.args.count) (sym (places_many c.args.places.now)));
      unset = refl;
      ahead = omega arith;
      within = omega (arith, c.requires);
      few = omega arith;
    }

pub elements-loop-at-preserved : goal.elements-loop-at-preserved
elements-loop-at-preserved t c =
    let s = shape_of c.args.places.now in
    let e : Some (c.in_ok-next.next, c.in_ok-next.fits) ≡ seen (element_compared c.args.width (place_at s c.loop-at.i)) (term_at code.Module no_arguments c.args.depth c.args.own spot.Element c.args.bytes.now c.loop-at.at) = rw (sym c.place_at-wanted.ensures) c.in_ok-next.ensures.gives in
    let ahead : c.loop-at.at < c.in_ok-next.next = c.in_ok-next.ensures.ahead in
    let on = walked_on c.args.width c.args.count s c.args.depth c.args.own c.args.bytes.now c.args.start c.loop-at.at c.loop-at.i c.loop-at.same c.in_ok-next.next c.in_ok-next.fits c.loop-at.invariant.walked c.loop-at-test.true ahead e in
    record {
      walked = rw (c.is_same_so_far-same.ensures, sym (places_many c.args.places.now)) on;
      unset = c.loop-at.invariant.unset;
      ahead = omega (arith, c.loop-at.invariant.ahead, ahead);
      within = c.in_ok-next.ensures.within;
      few = omega (arith, c.loop-at.invariant.few, ahead);
    }

pub elements-returns-in_err-next-clause-gives : goal.elements-returns-in_err-next-clause-gives
elements-returns-in_err-next-clause-gives t c = λ number.
    let s = shape_of c.args.places.now in
    c.from_residual.ensures ∙ walked_fault c.args.width c.args.count s c.args.depth c.args.own c.args.bytes.now c.args.start (elements_compared c.args.width c.args.count s) (element_kind c.place_at-wanted.result.now) c.loop-at.at c.loop-at.i c.loop-at.same c.loop-at.invariant.walked c.loop-at-test.true c.in_err-next.ensures.gives number

pub elements-returns-clause-gives : goal.elements-returns-clause-gives
elements-returns-clause-gives t c = λ number.
    ap (λ b. Some (c.loop-at.at, b)) c.is_rest_unset.ensures ∙ walked_all c.args.width c.args.count (shape_of c.args.places.now) c.args.depth c.args.own c.args.bytes.now c.args.start c.loop-at.at c.loop-at.i c.loop-at.same c.loop-at.invariant.walked c.loop-at-test.false number
