-- The laws, gathered.
use Rattle.std.proofs.Common.{Result, Ok, Err}
use Rattle.aml_meaning.specs.Runs.{Halt, NoMemory, OutOfSteps, By}
use Rattle.aml_meaning.specs.State.{Error, Returned, Broke, Continued}
use Rattle.aml_meaning.proofs.Loops.{Turns}
use Rattle.aml_fine.specs.Laws.{CallsAreFine, EndsATurn, FineLends, LoopsAreFine}
use Rattle.aml_fine.proofs.Calls.{fine_call, no_break, no_continue}
use Rattle.aml_fine.proofs.Fine.{fine_first, fine_lift_first, fine_next, fine_stop, fine_sure, fine_tick}
use Rattle.aml_fine.proofs.Loops.{loop_body, loop_first, loop_next}

pub fine_lends : (V W : Type 0) → FineLends V W
fine_lends V W = record {
  first = fine_first;
  next = fine_next;
  step = fine_tick;
  rule = fine_lift_first;
  no_error = fine_stop;
  sure = fine_sure;
}

turn : (r : Result (Unit {0}) Halt) → EndsATurn r → Turns r
turn (Ok u) h = tt
turn (Err (By (Continued at))) h = tt
turn (Err (By (Broke at))) h = h
turn (Err (By (Returned v))) h = h
turn (Err (By (Error e))) h = h
turn (Err OutOfSteps) h = h
turn (Err NoMemory) h = h

pub loops_are_fine : LoopsAreFine
loops_are_fine test body s = record {
  first = loop_first test body s;
  body_fine = λ v behind h r same nonzero. loop_body test body s v behind r same nonzero h;
  again = λ v behind next r step h runs same nonzero ends turned stay. loop_next test body s v behind runs same nonzero step next r (turn r ends) h turned stay;
}

pub calls_are_fine : CallsAreFine
calls_are_fine = record {
  enters = fine_call;
  stays = λ table values body s h. record {
    broke = λ at behind r same. no_break table values body s at behind h r same;
    continued = λ at behind r same. no_continue table values body s at behind h r same;
  };
}
