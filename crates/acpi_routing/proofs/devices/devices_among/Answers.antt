use Rattle.std.proofs.Common.{◌≡◌, ap, sym, ◌∙◌, ◌+◌, Some, None, drop, get_or, refl}
use Rattle.std.specs.Prelude.{Option}
use Rattle.aml_paths.specs.declared.scope.ObjectId.{ObjectId}
use Rattle.aml_values.specs.Views.{element, elements_of}
use Rattle.aml_values.specs.declared.value.Element as program
use Rattle.acpi_routing.specs.Devices.{device_of, devices_among, in_front, once}
use Rattle.acpi_routing.proofs.Kept.{ahead, ahead_more, from_here, unseen_none}
use Rattle.acpi_routing.proofs.devices.devices_among.Goals as goal
use Rattle.acpi_routing.proofs.devices.devices_among.Goals.{in-Some+in_ok-add_device, in_default}

pub loop-each-init : goal.loop-each-init
loop-each-init c = record {
  kept = rw c.new-devices.ensures.items (unseen_none (once (devices_among (elements_of c.args.elements.now))));
  seen = λ number. rw (c.new-devices.ensures.items, c.new-seen.ensures.empty) refl;
}

pub loop-each-preserved : goal.loop-each-preserved
loop-each-preserved c =
    let es = c.args.elements.now in
    let i = c.loop-each.each-index in
    let e = c.each-item.result in
    let left = devices_among (elements_of (drop (i + 1) es)) in
    let here : c.device_of.result ≡ device_of (element (get_or es i e)) =
    c.device_of.ensures ∙ ap (λ (x : program.Element). device_of (element x)) c.each-item.is in
    let before = from_here es i e c.loop-each-test.true in
    elim c.match-device_of.branch [
      | in-Some+in_ok-add_device w ↦
          let d = w.in-Some.device in
          let named : device_of (element (get_or es i e)) ≡ Some d = sym here ∙ w.in-Some.is in
          record {
            kept = rw (w.devices-is, w.in_ok-add_device.ensures.added)
                (ahead_more c.loop-each.devices.items d left
                ∙ ap (ahead c.loop-each.devices.items) (sym (before ∙ ap (λ (o : Option ObjectId). in_front o left) named))
                ∙ c.loop-each.invariant.kept);
            seen = rw (w.devices-is, w.seen-is) w.in_ok-add_device.ensures.kept;
          }
      | in_default w ↦
          let unnamed : device_of (element (get_or es i e)) ≡ None = sym here ∙ w.in_default.is in
          record {
            kept = rw w.devices-is
                (ap (ahead c.loop-each.devices.items) (sym (before ∙ ap (λ (o : Option ObjectId). in_front o left) unnamed))
                ∙ c.loop-each.invariant.kept);
            seen = rw (w.devices-is, w.seen-is) c.loop-each.invariant.seen;
          }
    ]
