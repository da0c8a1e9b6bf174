use Rattle.std.proofs.Common.{◌≡◌, ◌++◌, take}
use Rattle.aml_components.specs.Search.{calls_from}
use Rattle.aml_components.proofs.search.await_calls.Given as goal

-- the calls so far wait
abbrev pub invariant-callees : goal.invariant-callees
invariant-callees l =
    l.waiting.items ≡ l.initial.waiting.items ++ calls_from l.from (take l.callee-index l.callees)
