-- Which values an accepted method takes: as its verdict has the kinds of its arguments, so the definitions do.
use Rattle.std.proofs.Common.{◌≡◌, ℕ, List, [], ◌∷◌, map, Option, Some, None, Ok, Err, refl, sym, ap, subst, ◌∙◌}
use Rattle.std.proofs.lemmas.Option.{same_Some}
use Rattle.std.specs.Prelude.{◌&&◌, Bool, true, false}
use Rattle.aml_calls.specs.Chains.{is_short}
use Rattle.aml_judged.specs.Bodies.{entry, judged_method}
use Rattle.aml_judged.specs.Causes.{Refusal}
use Rattle.aml_judged.specs.Judged as judged
use Rattle.aml_judged.specs.Judged.{Judged, Goes, Stops}
use Rattle.aml_judged.specs.Verdicts as judgement
use Rattle.aml_judged.specs.Verdicts.{AreAccepted, around_for, bounded, called_from, Judging, too_large, verdict_by, verdict_of}
use Rattle.aml_kinds.specs.Fits.{fits}
use Rattle.aml_kinds.specs.Kinds.{Kind, PkgOf, Shape}
use Rattle.aml_known.specs.Views.{accepted_of, kind_of, kinds_of}
use Rattle.aml_known.specs.declared.accepted.Accepted.{Accepted}
use Rattle.aml_known.specs.declared.known.Known.{Known}
use Rattle.aml_known.specs.declared.known.Known.TheVariants as known
use Rattle.aml_meaning.specs.Within.{Callee}
use Rattle.aml_methods.proofs.JudgingsThere.{judgings_are_there}
use Rattle.aml_methods.specs.Judgings.{Told}
use Rattle.aml_objects.specs.declared.object.Method.{Method}
use Rattle.aml_objects.specs.declared.width.Width.{Width}
use Rattle.aml_namespace.specs.Names.{method_at}
use Rattle.aml_namespace.specs.Shows.{shown}
use Rattle.aml_shapes.specs.Numbers.{numbered}
use Rattle.aml_signatures.specs.ArgumentKinds.{kind_of_argument}
use Rattle.aml_signatures.specs.declared.argument_kind.ArgumentKind.{ArgumentKind}
use Rattle.aml_signatures.specs.declared.argument_kind.ArgumentKind.TheVariants as argument
use Rattle.aml_values.specs.Values.{Value, Int, Buf, Str, Pkg}
use Rattle.aml_verdict_laws.proofs.Known.{verdicts_are_there}
use Rattle.aml_verify.specs.Accepts.{accepts_by, all_fit, are_of, is_of, takes}
use Rattle.aml_verify.specs.Said.{accepted_by, verdict_at}
use Rattle.aml_verify.specs.Verdicts.{IsChecked}
use Rattle.aml_verify.specs.declared.checked.Checked.{Checked}
use Rattle.aml_verify.specs.declared.verdict.Verdict.{Verdict}
use Rattle.aml_verify.specs.declared.verdict.Verdict.TheVariants as verdict

-- a kind that tells no shape
abbrev HasNoShape : Kind → Type 0
HasNoShape (PkgOf s) = ⊥
HasNoShape k = Unit {0}

abbrev HaveNoShapes : List Kind → Type 0
HaveNoShapes [] = Unit {0}
HaveNoShapes (k ∷ ks) = HasNoShape k × HaveNoShapes ks

-- what signatures tell has none
told_none : (width : Width) (e : ArgumentKind) → HasNoShape (kind_of_argument width e)
told_none width argument.Int = tt
told_none width (argument.IntUpTo n) = tt
told_none width (argument.Buf n) = tt
told_none width (argument.Str n) = tt
told_none width argument.Pkg = tt

told_no_shapes : (width : Width) (es : List ArgumentKind) → HaveNoShapes (map (kind_of_argument width) es)
told_no_shapes width [] = tt
told_no_shapes width (e ∷ es) = (told_none width e, told_no_shapes width es)

module _ (shapes : ℕ → Shape) where
  is_fits : (k : Known) (v : Value) → HasNoShape (kind_of shapes k) → is_of k v ≡ fits v (kind_of shapes k)
  is_fits (known.Pkg s) v h = absurd h
  is_fits k (Int n) h = refl
  is_fits k (Buf octets) h = refl
  is_fits k (Str characters) h = refl
  is_fits k (Pkg elements) h = refl

  are_fit : (ks : List Known) (vs : List Value) → HaveNoShapes (kinds_of shapes ks) → are_of ks vs ≡ all_fit vs (kinds_of shapes ks)
  are_fit [] [] h = refl
  are_fit [] (v ∷ vs) h = refl
  are_fit (k ∷ ks) [] h = refl
  are_fit (k ∷ ks) (v ∷ vs) h = λ i. is_fits k v h.0 i && are_fit ks vs h.1 i

-- a verdict has the kinds that its method's arguments have
bounded_args : (b : Bool) (r : Refusal) (y x : judged.Accepted) → bounded b r y ≡ Ok x → x.args ≡ y.args
bounded_args true r y x e = ap (args_in y) (sym e)
  where
    args_in : judged.Accepted → judgement.Verdict → List Kind
    args_in d (Ok z) = z.args
    args_in d (Err f) = d.args
bounded_args false r y x e = absurd cc

verdict_args : (short : Bool) (late : Refusal) (args : List Kind) (j : Judged (Unit {0})) (x : judged.Accepted) → verdict_of short late args j ≡ Ok x → x.args ≡ args
verdict_args short late args (Goes u env out n) x e = bounded_args _ late _ x e
verdict_args short late args (Stops r) x e = absurd cc

pub by_callee : (all : Judging) (known : ℕ → Option judged.Accepted) (k : ℕ) (o : Option Callee) (x : judged.Accepted) → verdict_by all known k o ≡ Some (Ok x) → x.args ≡ all.args k
by_callee all known k None x e = absurd cc
by_callee all known k (Some m) x e =
    let judgement_is = judged_method (around_for all known k m) m.opcode m.body (entry (all.args k)) in
    verdict_args (is_short (called_from all) 64 k) (too_large all m) (all.args k) judgement_is x
    (same_Some (verdict_of (is_short (called_from all) 64 k) (too_large all m) (all.args k) judgement_is) (Ok x) e)

-- so what takes values takes those that fit
module _ (told : Told) (c : Checked) (is : IsChecked told c) (k : ℕ) (values : List Value) where
  taken : (a : Accepted) → verdict_at c.verdicts.items k ≡ Some (verdict.Accepted a) → (o : Option Method) → method_at (shown c.namespace.now) k ≡ o → are_of a.args.items values ≡ all_fit values (kinds_of (numbered c.shapes) a.args.items)
  taken a e None none = absurd (let bad : None ≡ Some (verdict.Accepted a) = sym (is.only k none) ∙ e in cc)
  taken a e (Some m) there =
      let j = judgings_are_there (shown c.namespace.now) told in
      let answer = verdicts_are_there j.0 in
      let args_are = by_callee j.0 answer.known k (j.0.methods.callee k) (accepted_of (numbered c.shapes) a) (is.right j.0 j.1 answer.known answer.are k m there (verdict.Accepted a) e) in
      are_fit (numbered c.shapes) a.args.items values (subst HaveNoShapes (sym (args_are ∙ j.1.args k m there)) (told_no_shapes (shown c.namespace.now).width _))

  pub fit : (o : Option Verdict) → verdict_at c.verdicts.items k ≡ o → takes o values ≡ accepts_by (accepted_by (numbered c.shapes) o) values
  fit None e = refl
  fit (Some (verdict.Accepted a)) e = taken a e (method_at (shown c.namespace.now) k) refl
  fit (Some (verdict.Refused r finding)) e = refl
  fit (Some (verdict.Unreadable table r)) e = refl
