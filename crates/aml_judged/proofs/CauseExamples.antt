-- The first cause is told, where later ones are there, too.
use Rattle.std.proofs.Common.{◌≡◌, [], ◌∷◌, Some, None, refl}
use Rattle.std.specs.Prelude.{true, false}
use Rattle.aml_operators.specs.declared.op.Op.TheVariants as op
use Rattle.aml_operators.specs.Tree.{Tree, Trees, Node, more}
use Rattle.aml_namespace.specs.declared.link.Link.TheVariants as link
use Rattle.aml_kinds.specs.Kinds.{IntUpTo, BufOf}
use Rattle.aml_judged.specs.Causes as cause
use Rattle.aml_judged.specs.Judged.{Yield, Sometimes, Never}
use Rattle.aml_judged.specs.Bodies.{judged_method, entry}
use Rattle.aml_judged.specs.Verdicts.{verdict_of, Verdict}
use Rattle.aml_judged.proofs.Examples.{here, known_here, late, no_link, one, two, three, leaf, byte, nothing, refused, stored_zero}

-- the first argument is an integer up to 5, and the second a buffer; locals are unset, and names are not there
abbrev verdict : Trees → Verdict
verdict body = verdict_of true late (IntUpTo 5 ∷ BufOf 2 ∷ []) (judged_method (here no_link known_here) 36 body (entry (IntUpTo 5 ∷ BufOf 2 ∷ [])))

-- a Store that may not be an operand is told before its source
store_as_operand : verdict (one (Node op.Return 43 50 (one (Node op.Store 44 50 (two (leaf op.Local0 45) (leaf op.NameString 46)))))) ≡ refused 44 cause.OutsideProfile
store_as_operand = refl

store_to_local : verdict (one (Node op.Return 43 50 (one (Node op.Store 44 50 (two (leaf op.Local0 45) (leaf op.Local1 46)))))) ≡ refused 45 cause.Unset
store_to_local = refl

-- an operator outside the profile is told before its operands
operator_first : verdict (one (Node op.ToHexString 43 50 (two (leaf op.Local0 44) (leaf op.NameString 45)))) ≡ refused 43 cause.OutsideProfile
operator_first = refl

-- operands from left to right, then their kinds, then the rule, then the target
left_first : verdict (one (Node op.Divide 43 60 (more (leaf op.Local0 44) (three (leaf op.Local1 45) (leaf op.NameString 46) (leaf op.NameString 51))))) ≡ refused 44 cause.Unset
left_first = refl

right_then : verdict (one (Node op.Divide 43 60 (more (leaf op.Arg1 44) (three (leaf op.Local1 45) (leaf op.NameString 46) (leaf op.NameString 51))))) ≡ refused 45 cause.Unset
right_then = refl

kind_then : verdict (one (Node op.Divide 43 60 (more (leaf op.Arg1 44) (three (leaf op.Zero 45) (leaf op.NameString 46) (leaf op.NameString 51))))) ≡ refused 44 cause.WrongKind
kind_then = refl

divisor_kind_then : verdict (one (Node op.Divide 43 60 (more (leaf op.Arg0 44) (three (leaf op.Arg1 45) (leaf op.NameString 46) (leaf op.NameString 51))))) ≡ refused 45 cause.WrongKind
divisor_kind_then = refl

divisor_then : verdict (one (Node op.Divide 43 60 (more (leaf op.Arg0 44) (three (leaf op.Zero 45) (leaf op.NameString 46) (leaf op.NameString 51))))) ≡ refused 45 cause.Divisor
divisor_then = refl

target_then : verdict (one (Node op.Divide 43 60 (more (leaf op.Arg0 44) (three (byte 3 45) (leaf op.NameString 47) (leaf op.NameString 51))))) ≡ refused 47 cause.Unresolved
target_then = refl

-- a target that may not stand there, or is none
target_outside : verdict (one (Node op.Store 43 50 (two (leaf op.One 44) (Node op.RefOf 45 50 (one (leaf op.Local0 46)))))) ≡ refused 45 cause.OutsideProfile
target_outside = refl

-- what Increment reads and writes
increment_of_deref : verdict (one (Node op.Increment 43 50 (one (Node op.DerefOf 44 50 (one (leaf op.Local0 45)))))) ≡ refused 44 cause.OutsideProfile
increment_of_deref = refl

increment_of_debug : verdict (one (Node op.Increment 43 50 (one (leaf op.Debug 44)))) ≡ refused 44 cause.OutsideProfile
increment_of_debug = refl

size_of_missing : verdict (one (Node op.SizeOf 43 50 (one (leaf op.NameString 44)))) ≡ refused 44 cause.Unresolved
size_of_missing = refl

-- a written Index: its own target, then its name, then its index
index_into : verdict (one (Node op.Store 43 60 (two (leaf op.One 44) (Node op.Index 45 60 (three (leaf op.NameString 46) (leaf op.Local0 50) (leaf op.Local1 51)))))) ≡ refused 45 cause.OutsideProfile
index_into = refl

index_of_local : verdict (one (Node op.Store 43 60 (two (leaf op.One 44) (Node op.Index 45 60 (three (leaf op.Local1 46) (leaf op.Local0 50) (nothing 51)))))) ≡ refused 45 cause.OutsideProfile
index_of_local = refl

index_of_missing : verdict (one (Node op.Store 43 60 (two (leaf op.One 44) (Node op.Index 45 60 (three (leaf op.NameString 46) (leaf op.Local0 50) (nothing 51)))))) ≡ refused 46 cause.Unresolved
index_of_missing = refl

stored_before_index : verdict (one (Node op.Store 43 60 (two (leaf op.Local0 44) (Node op.Index 45 60 (three (leaf op.NameString 46) (leaf op.Local0 50) (nothing 51)))))) ≡ refused 44 cause.Unset
stored_before_index = refl

-- the arguments of a name that is not there are not judged
call_of_missing : verdict (one (Node op.Invocation 43 50 (two (leaf op.NameString 44) (leaf op.Local0 48)))) ≡ refused 44 cause.Unresolved
call_of_missing = refl

-- a call has no result where some way ends without one
abbrev called : Yield → Verdict
called y = verdict_of true late [] (judged_method (here (λ at. link.Method (record { 0 = 1 })) (λ k. record { reaches = false; deep = false; accepted = Some (record { args = []; result = y; bound = 10; least = None }) })) 36 (one (Node op.Return 43 50 (one (Node op.Invocation 44 50 (one (leaf op.NameString 44)))))) (entry []))

no_result_always : called (Sometimes (IntUpTo 1)) ≡ refused 44 cause.NoResult
no_result_always = refl

no_result : called Never ≡ refused 44 cause.NoResult
no_result = refl

-- a test is an integer, and is judged before the block
test_of_buffer : verdict (one (Node op.If 43 50 (two (leaf op.Arg1 45) (Node op.Return 46 48 (one (leaf op.Local0 47)))))) ≡ refused 45 cause.WrongKind
test_of_buffer = refl

block_before_else : verdict (one (Node op.If 43 60 (three (leaf op.Arg0 45) (Node op.Return 46 48 (one (leaf op.Local0 47))) (Node op.Else 48 60 (one (leaf op.Break 50)))))) ≡ refused 47 cause.Unset
block_before_else = refl

else_then : verdict (one (Node op.If 43 60 (three (leaf op.Arg0 45) (leaf op.Noop 46) (Node op.Else 48 60 (one (leaf op.Break 50)))))) ≡ refused 50 cause.OutsideProfile
else_then = refl

continue_outside : verdict (one (leaf op.Continue 43)) ≡ refused 43 cause.OutsideProfile
continue_outside = refl

-- what a turn ends with is asked behind the whole body, of its Continues, too
abbrev turning : Tree → Trees → Verdict
turning t ts = verdict (three stored_zero (Node op.Store 46 49 (two (leaf op.One 47) (leaf op.Local1 48))) (Node op.While 49 90 (more (Node op.LLess 51 55 (two (leaf op.Local0 52) (byte 4 53))) (more (Node op.Increment 55 57 (one (leaf op.Local0 56))) (more t ts)))))

body_first : turning (Node op.Store 57 60 (two (leaf op.Arg1 58) (leaf op.Local1 59))) (one (Node op.Return 60 62 (one (leaf op.Local3 61)))) ≡ refused 61 cause.Unset
body_first = refl

end_unlike : turning (Node op.Store 57 60 (two (leaf op.Arg1 58) (leaf op.Local1 59))) (one (leaf op.Noop 60)) ≡ refused 49 cause.WrongKind
end_unlike = refl

continue_unlike : turning (Node op.If 57 70 (three (leaf op.Arg0 59) (Node op.Store 60 63 (two (leaf op.Arg1 61) (leaf op.Local1 62))) (leaf op.Continue 63))) (one (leaf op.Noop 70)) ≡ refused 49 cause.WrongKind
continue_unlike = refl
