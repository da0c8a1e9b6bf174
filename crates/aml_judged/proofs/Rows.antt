-- Worked rows: bodies at their bytes' places, with the verdicts that stand in the tables of rows.
use Rattle.std.proofs.Common.{◌≡◌, ℕ, ◌+◌, ◌^◌, ◌-◌, List, [], ◌∷◌, Option, Some, None, Ok, refl}
use Rattle.std.specs.Prelude.{true, false, ◌==◌, if◌then◌else◌}
use Rattle.aml_operators.specs.declared.op.Op.TheVariants as op
use Rattle.aml_operators.specs.Tree.{Tree, Trees, Node, none, more}
use Rattle.aml_namespace.specs.declared.link.Link.{Link}
use Rattle.aml_namespace.specs.declared.link.Link.TheVariants as link
use Rattle.aml_paths.specs.declared.scope.Scope.TheVariants as scope
use Rattle.aml_namespace.specs.Load.{Shown}
use Rattle.aml_objects.specs.declared.object.AccessType.TheVariants as access
use Rattle.aml_objects.specs.declared.object.Entry.TheVariants as entry_is
use Rattle.aml_objects.specs.declared.object.Object.TheVariants as object
use Rattle.aml_objects.specs.declared.object.Reference.{Reference}
use Rattle.aml_objects.specs.declared.object.Through.TheVariants as through
use Rattle.aml_objects.specs.declared.object.UpdateRule.TheVariants as update
use Rattle.aml_objects.specs.declared.width.Width.TheVariants as width_of
use Rattle.aml_values.specs.Values.{Buf}
use Rattle.aml_kinds.specs.Kinds.{Kind, IntUpTo, BufOf}
use Rattle.aml_regions.specs.declared.field.AnyField.{AnyField}
use Rattle.aml_regions.specs.declared.field.AnyField.TheVariants.{Plain}
use Rattle.aml_regions.specs.declared.field.OtherBits.{OtherBits}
use Rattle.aml_regions.specs.declared.field.OtherBits.TheVariants as others
use Rattle.aml_regions.specs.declared.field.UnitWidth.TheVariants as unit
use Rattle.aml_meaning.specs.Fields.{read_count, write_count, plan_reads, plan_writes, plan_of, region_plan}
use Rattle.aml_meaning.specs.Reached.{field_numbered}
use Rattle.aml_judged.specs.Causes as cause
use Rattle.aml_judged.specs.Judged.{Yield, Always, Never, Around}
use Rattle.aml_judged.specs.Bodies.{shared_only, judged_method, entry}
use Rattle.aml_judged.specs.Verdicts.{verdict_of, Verdict}
use Rattle.aml_judged.proofs.Examples.{here, known_here, late, one, two, three, leaf, byte, nothing, refused, stored_zero}
use Rattle.aml_regions.specs.Fields.{count, first, end}

abbrev four : Tree → Tree → Tree → Tree → Trees
four a b c d = more a (three b c d)

abbrev data_name : ℕ → Link
data_name at = link.Data (record { 0 = 0 })

-- integers of a width, and one data name of a kind, which all names name
abbrev around : ℕ → Kind → Around
around width kind = record (here data_name known_here) { width = width; kinds = shared_only (Some kind ∷ []) }

abbrev judged_at : ℕ → Kind → List Kind → Trees → Verdict
judged_at width kind args body = verdict_of true late args (judged_method (around width kind) 36 body (entry args))

abbrev accepted : List Kind → ℕ → Yield → Verdict
accepted args n y = Ok (record { args = args; result = y; bound = n; least = None })

abbrev any : Kind
any = IntUpTo (2 ^ 64 - 1)

-- Return (Add (Arg0, One))
row_1 : judged_at 64 any (any ∷ []) (one (Node op.Return 43 48 (one (Node op.Add 44 48 (three (leaf op.Arg0 45) (leaf op.One 46) (nothing 47)))))) ≡ accepted (any ∷ []) 4 (Always any)
row_1 = refl

-- Store (0xAB, FLD0): 8 bits at bit 4, units of a byte, at SystemIO 0x60, 4 bytes
abbrev field : OtherBits → ℕ → Option AnyField
field rest k = Some (Plain (record { space = 1; place = 96; length = 4; layout = record { at = 4; bits = 8; width = unit.Byte; others = rest } }))

abbrev to_field : ℕ → Link
to_field at = link.Field (record { 0 = 0 })

abbrev field_row : OtherBits → Trees → Verdict
field_row rest body = verdict_of true late [] (judged_method (record (here to_field known_here) { field = field rest }) 36 body (entry []))

abbrev field_stored : Trees
field_stored = one (Node op.Store 69 76 (two (byte 171 70) (leaf op.NameString 72)))

row_8 : field_row others.Preserve field_stored ≡ accepted [] 7 Never
unfolding write_count plan_writes plan_of region_plan count first end
row_8 = refl

row_9_ones : field_row others.Ones field_stored ≡ accepted [] 5 Never
unfolding write_count plan_writes plan_of region_plan count first end
row_9_ones = refl

row_9_zeros : field_row others.Zeros field_stored ≡ accepted [] 5 Never
unfolding write_count plan_writes plan_of region_plan count first end
row_9_zeros = refl

-- Return (LAnd (Zero, FLD0)) reads the field all the same
row_17 : field_row others.Preserve (one (Node op.Return 69 76 (one (Node op.LAnd 70 76 (two (leaf op.Zero 71) (leaf op.NameString 72)))))) ≡ accepted [] 6 (Always any)
unfolding read_count plan_reads plan_of region_plan count first end
row_17 = refl

-- Store (0xAB, FLD0): 8 bits at bit 32, units of four bytes, in a region of so many bytes; the second unit
-- ends at byte 8
abbrev region_name : Reference
region_name = record {
  name = record { table = 0; at = 41; scope = scope.Root };
  object = Some (record { 0 = 0 });
}

abbrev in_dwords : ℕ → Shown
in_dwords length = record {
  tables = [];
  os = [];
  width = width_of.Bits64;
  entries =
      ([], entry_is.Own (object.Region (record { space = 1; place = Some 96; length = Some length }))) ∷ (
        [],
        entry_is.Own (object.Field (record {
          through = through.Region region_name;
          bit = 32;
          bits = 8;
          rule = record { access = access.DWord; lock = false; update = update.Preserve };
          is_connected = false;
        })),
      ) ∷ [];
  externals = [];
  interfaces = [];
}

abbrev second_field : ℕ → Link
second_field at = link.Field (record { 0 = 1 })

abbrev dword_row : ℕ → Trees → Verdict
dword_row length body = verdict_of true late [] (judged_method (record (here second_field known_here) { field = field_numbered (in_dwords length) }) 36 body (entry []))

abbrev field_returned : Trees
field_returned = one (Node op.Return 69 76 (one (leaf op.NameString 72)))

row_10_outside : dword_row 6 field_stored ≡ refused 72 cause.Region
unfolding end
row_10_outside = refl

row_10_outside_read : dword_row 6 field_returned ≡ refused 72 cause.Region
unfolding end
row_10_outside_read = refl

row_10_one_short : dword_row 7 field_stored ≡ refused 72 cause.Region
unfolding end
row_10_one_short = refl

row_10_inside : dword_row 8 field_stored ≡ accepted [] 5 Never
unfolding write_count plan_writes plan_of region_plan count first end
row_10_inside = refl

-- While (LLess (Local0, 4)) {Increment (Local0)} behind a Store of Zero, and without it
abbrev rising : ℕ → Tree → Tree
rising at limit = Node op.While at (at + 8) (two (Node op.LLess (at + 2) (at + 6) (two (leaf op.Local0 (at + 3)) limit)) (Node op.Increment (at + 6) (at + 8) (one (leaf op.Local0 (at + 7)))))

abbrev local_returned : Tree
local_returned = Node op.Return 54 56 (one (leaf op.Local0 55))

row_11 : judged_at 64 any [] (three stored_zero (rising 46 (byte 4 50)) local_returned) ≡ accepted [] 33 (Always any)
row_11 = refl

row_11_unset : judged_at 64 any [] (two (rising 43 (byte 4 47)) local_returned) ≡ refused 46 cause.Unset
row_11_unset = refl

-- a Continue before the step
row_12 : judged_at 64 any (any ∷ []) (two stored_zero (Node op.While 46 58 (three (Node op.LLess 48 52 (two (leaf op.Local0 49) (byte 4 50))) (Node op.If 52 56 (two (leaf op.Arg0 54) (leaf op.Continue 55))) (Node op.Increment 56 58 (one (leaf op.Local0 57)))))) ≡ refused 46 cause.LoopShape
row_12 = refl

row_13 : judged_at 64 any [] (one (Node op.While 43 48 (three (leaf op.One 45) (leaf op.Noop 46) (leaf op.Break 47)))) ≡ accepted [] 4 Never
row_13 = refl

row_13_endless : judged_at 64 any [] (one (Node op.While 43 48 (two (leaf op.One 45) (Node op.Sleep 46 48 (one (leaf op.One 47)))))) ≡ refused 43 cause.LoopShape
row_13_endless = refl

-- Return (DerefOf (Index (BUF0, i)))
abbrev indexed : Tree → Trees
indexed i = one (Node op.Return 52 65 (one (Node op.DerefOf 53 65 (one (Node op.Index 54 65 (three (leaf op.NameString 55) i (nothing 64)))))))

abbrev masked : Tree
masked = Node op.And 59 64 (three (leaf op.Arg0 60) (byte 15 61) (nothing 63))

row_14 : judged_at 64 (BufOf 16) (any ∷ []) (indexed masked) ≡ accepted (any ∷ []) 7 (Always (IntUpTo 255))
row_14 = refl

row_14_short : judged_at 64 (BufOf 15) (any ∷ []) (indexed masked) ≡ refused 54 cause.Index
row_14_short = refl

row_14_mod : judged_at 64 (BufOf 15) (any ∷ []) (indexed (Node op.Mod 59 64 (three (leaf op.Arg0 60) (byte 15 61) (nothing 63)))) ≡ accepted (any ∷ []) 7 (Always (IntUpTo 255))
row_14_mod = refl

-- Return (Divide (Arg0, 0x100000000))
abbrev qword : Tree
qword = Node op.QWordConst 46 55 (one (Node (op.Number (2 ^ 32)) 47 55 none))

abbrev divided : Tree → Trees
divided b = one (Node op.Return 43 57 (one (Node op.Divide 44 57 (four (leaf op.Arg0 45) b (nothing 55) (nothing 56)))))

row_15 : judged_at 64 any (any ∷ []) (divided qword) ≡ accepted (any ∷ []) 4 (Always (IntUpTo (2 ^ 32 - 1)))
row_15 = refl

row_15_narrow : judged_at 32 any (IntUpTo (2 ^ 32 - 1) ∷ []) (divided qword) ≡ refused 46 cause.Divisor
row_15_narrow = refl

row_15_local : judged_at 64 any (any ∷ []) (two (Node op.Store 40 43 (two (byte 7 41) (leaf op.Local1 42))) (Node op.Return 43 57 (one (Node op.Divide 44 57 (four (leaf op.Arg0 45) (leaf op.Local1 46) (nothing 55) (nothing 56)))))) ≡ refused 46 cause.Divisor
row_15_local = refl

row_18 : judged_at 64 any [] (two (Node op.Divide 43 49 (four (byte 7 44) (byte 2 46) (leaf op.Local0 48) (leaf op.Local0 49))) (Node op.Return 50 52 (one (leaf op.Local0 51)))) ≡ accepted [] 7 (Always (IntUpTo 3))
row_18 = refl

-- a loop that writes each byte of a buffer
row_19 : judged_at 64 (BufOf 16) [] (three stored_zero (Node op.While 46 70 (three (Node op.LLess 48 52 (two (leaf op.Local0 49) (byte 16 50))) (Node op.Store 52 62 (two (leaf op.Local0 53) (Node op.Index 54 62 (three (leaf op.NameString 55) (leaf op.Local0 60) (nothing 61))))) (Node op.Increment 62 64 (one (leaf op.Local0 63))))) (Node op.Return 70 75 (one (leaf op.NameString 71)))) ≡ accepted [] 169 (Always (BufOf 16))
row_19 = refl

-- Name (BUF0, Buffer (9) {..}), CreateWordField (BUF0, 1, IRQW), Store (0x0200, IRQW), Return (BUF0)
abbrev resources_link : ℕ → Link
resources_link at = if at == 70 then link.Own 0 else (if at == 90 then link.Own 0 else (if at == 82 then link.Own 1 else link.Missing))

abbrev resources : Around
resources = record (here resources_link known_here) { literal = λ o ts. Buf (35 ∷ 0 ∷ 0 ∷ 24 ∷ 121 ∷ 0 ∷ 0 ∷ 0 ∷ 0 ∷ []) }

row_21 : verdict_of true late [] (judged_method resources 36 (four (Node op.Name 50 68 (two (leaf op.NameString 51) (leaf op.Buffer 55))) (Node op.CreateWordField 69 78 (three (leaf op.NameString 70) (leaf op.One 74) (leaf op.NameString 75))) (Node op.Store 79 86 (two (Node op.WordConst 80 82 (one (Node (op.Number 512) 81 82 none))) (leaf op.NameString 82))) (Node op.Return 89 94 (one (leaf op.NameString 90)))) (entry [])) ≡ accepted [] 8 (Always (BufOf 9))
row_21 = refl

-- a local that one block of an If sets
row_set_by_one : judged_at 64 any (any ∷ []) (two (Node op.If 43 49 (two (leaf op.Arg0 45) (Node op.Store 46 49 (two (leaf op.One 47) (leaf op.Local0 48))))) (Node op.Return 49 51 (one (leaf op.Local0 50)))) ≡ refused 50 cause.Unset
row_set_by_one = refl

-- an argument as an index, of any integer and of one up to 15
row_any_index : judged_at 64 (BufOf 16) (any ∷ []) (indexed (leaf op.Arg0 59)) ≡ refused 54 cause.Index
row_any_index = refl

row_small_index : judged_at 64 (BufOf 16) (IntUpTo 15 ∷ []) (indexed (leaf op.Arg0 59)) ≡ accepted (IntUpTo 15 ∷ []) 5 (Always (IntUpTo 255))
row_small_index = refl

-- a loop up to Ones: 2 ^ 64 - 1 turns, or 2 ^ 32 - 1
row_many_turns : judged_at 64 any [] (three stored_zero (rising 46 (Node op.QWordConst 50 58 (one (Node (op.Number (2 ^ 64 - 1)) 51 58 none)))) local_returned) ≡ refused 36 cause.BoundTooLarge
row_many_turns = refl

row_fewer_turns : judged_at 32 (IntUpTo (2 ^ 32 - 1)) [] (three stored_zero (rising 46 (Node op.QWordConst 50 58 (one (Node (op.Number (2 ^ 64 - 1)) 51 58 none)))) local_returned) ≡ accepted [] 25769803779 (Always (IntUpTo (2 ^ 32 - 1)))
row_fewer_turns = refl

-- Sleep (1), Return (CNT0), and Increment (CNT0)
row_sleeps : judged_at 64 any [] (two (Node op.Sleep 50 53 (one (leaf op.One 52))) (Node op.Return 53 58 (one (leaf op.NameString 54)))) ≡ accepted [] 5 (Always any)
row_sleeps = refl

row_counts : judged_at 64 any [] (one (Node op.Increment 66 71 (one (leaf op.NameString 67)))) ≡ accepted [] 3 Never
row_counts = refl
