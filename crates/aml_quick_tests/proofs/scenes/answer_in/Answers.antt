use Rattle.aml_quick_tests.proofs.scenes.answer_in.Goals as goal

pub invariant_of-here : goal.invariant_of-here
invariant_of-here c = record { sound = rw (c.namespace-namespace.ensures, c.kept_bodies.ensures) c.requires }
