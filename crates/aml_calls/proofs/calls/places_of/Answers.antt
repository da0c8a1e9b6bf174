use Rattle.std.proofs.Common.{◌≡◌, ◌<◌, ◌+◌, ◌-◌, ◌∙◌, ℕ, List, sym, subst, drop, length, arith}
use Rattle.std.proofs.Math.ListN.{set}
use Rattle.std.proofs.lemmas.List.{length-set}
use Rattle.std.specs.Prelude.{slice_get, vec_len}
use Rattle.aml_calls.specs.Pairs.{callees_at, calls_in, numbers, Pair}
use Rattle.aml_calls.proofs.Among.{first_among}
use Rattle.aml_calls.proofs.Places.{among_named, no_places, none_left, place_kept}
use Rattle.aml_calls.proofs.calls.places_of.Invariants.{Placed}
use Rattle.aml_calls.proofs.calls.places_of.Goals as goal

pub places-init : goal.places-init
places-init c =
    let ps = c.args.pairs.now in
    let same = c.in_ok-places.ensures.items_if_clones_equal (λ y e. e) in
    record {
      sized = omega (arith, c.in_ok-places.ensures.len, c.in_ok-places.places.ok.0);
      within = omega arith;
      are = λ k. subst (λ (xs : List ℕ). callees_at ps (slice_get xs k) ≡ calls_in (drop (length ps) ps) k) (sym same) (no_places ps c.args.room k ∙ sym (none_left ps k));
    }

pub index_mut-requires : goal.index_mut-requires
index_mut-requires c =
    let ps = c.args.pairs.now in
    let p = c.index-pairs-i.result in
    let is = c.index-pairs-i.is in
    let lt : c.places.i - 1 < length ps = omega (arith, c.places-test.true, c.places.invariant.within) in
    let below = c.requires p.0.0 (among_named ps (c.places.i - 1) p lt is p.0.0 (first_among p.0.0 (numbers p.1.items))) in
    subst (λ (q : Pair). q.0.0 < vec_len c.places.places) is (omega (arith, below, c.places.invariant.sized, c.places.places.ok.0))

pub places-preserved : goal.places-preserved
places-preserved c =
    let ps = c.args.pairs.now in
    let i = c.places.i - 1 in
    let p = c.index-pairs-i.result in
    let is = c.index-pairs-i.is in
    let lt : i < length ps = omega (arith, c.places-test.true, c.places.invariant.within) in
    let below = c.requires p.0.0 (among_named ps i p lt is p.0.0 (first_among p.0.0 (numbers p.1.items))) in
    let back : c.places.i ≡ i + 1 = omega (arith, c.places-test.true) in
    let new : Placed ps (set c.places.places.items p.0.0 i) c.args.room i = record {
      sized = length-set c.places.places.items p.0.0 i ∙ c.places.invariant.sized;
      within = omega (arith, lt);
      are = place_kept ps c.places.places.items i p lt is (omega (arith, below, c.places.invariant.sized))
          (λ k. subst (λ n. callees_at ps (slice_get c.places.places.items k) ≡ calls_in (drop n ps) k) back (c.places.invariant.are k));
    } in
    subst (λ (q : Pair). Placed ps (set c.places.places.items q.0.0 i) c.args.room i) is new
