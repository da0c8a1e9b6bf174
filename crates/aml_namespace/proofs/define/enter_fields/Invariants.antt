use Rattle.std.proofs.Common.{◌≡◌, ◌≤◌, drop, length}
use Rattle.aml_operators.specs.Tree.{views}
use Rattle.aml_namespace.specs.Define.{fields_from}
use Rattle.aml_namespace.specs.FieldLists.{list_start}
use Rattle.aml_objects.specs.Kept.{entries_seen, here_of}
use Rattle.aml_namespace.proofs.define.enter_fields.Given as goal

-- what is made so far, and the items that are left, make the whole
abbrev pub invariant-loop-item : goal.invariant-loop-item
invariant-loop-item l = record {
  grown : length (entries_seen l.initial.objects) ≤ length (entries_seen l.objects);
  made : fields_from (here_of l.here) l.through (list_start l.flags) (entries_seen l.initial.objects) (views l.items) ≡ fields_from (here_of l.here) l.through l.cursor (entries_seen l.objects) (views (drop l.item-index l.items));
}
