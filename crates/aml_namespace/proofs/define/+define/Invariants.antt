use Rattle.std.proofs.Common.{◌≡◌, ◌+◌, ◌≤◌, ◌++◌, drop, length}
use Rattle.aml_operators.specs.Tree.{view, views}
use Rattle.aml_namespace.specs.Define.{all_defined}
use Rattle.aml_namespace.specs.Externals.{all_declared}
use Rattle.aml_objects.specs.Kept.{entries_seen, here_of}
use Rattle.aml_namespace.proofs.Weights.{weight, weights}
use Rattle.aml_namespace.proofs.define.+define.Given as goal

-- what is made so far, and the terms that are left, make the whole
abbrev pub invariant-define_all-loop-term : goal.invariant-define_all-loop-term
invariant-define_all-loop-term l = record {
  grown : length (entries_seen l.initial.objects) ≤ length (entries_seen l.objects);
  made : all_defined (here_of l.here) (entries_seen l.initial.objects) (views l.terms) ≡ all_defined (here_of l.here) (entries_seen l.objects) (views (drop l.term-index l.terms));
  declares : l.initial.externals.items ++ all_declared (here_of l.here) (entries_seen l.initial.objects) (views l.terms) ≡ l.externals.items ++ all_declared (here_of l.here) (entries_seen l.objects) (views (drop l.term-index l.terms));
}

abbrev pub decreases-define : goal.decreases-define
decreases-define l = weight (view l.term.now)

abbrev pub decreases-define_all : goal.decreases-define_all
decreases-define_all l = weights (views l.terms.now)

abbrev pub decreases-define_within : goal.decreases-define_within
decreases-define_within l = weights (views l.body.now) + 1

abbrev pub decreases-define_reopened : goal.decreases-define_reopened
decreases-define_reopened l = weights (views l.body.now) + 1
