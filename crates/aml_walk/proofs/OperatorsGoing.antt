-- Operators behind their operands: a kind rule of these, and then a target.
use Rattle.std.proofs.Common.{◌≡◌, ℕ, Result, Ok, Err, refl, sym, ap}
use Rattle.aml_operators.specs.Tree.{Tree}
use Rattle.aml_causes.specs.declared.cause.Refusal.{Refusal}
use Rattle.aml_kinds.specs.Kinds.{Kind, Shape}
use Rattle.aml_judged.specs.Judge.{judged_placed, judged_store, judged_value}
use Rattle.aml_judged.specs.Judged as judged
use Rattle.aml_judged.specs.Judged.{Always, Around, goes, Rule, ruled, then_judge, ◌>>=◌}
use Rattle.aml_known.specs.declared.accepted.Yield.{Yield}
use Rattle.aml_known.specs.declared.accepted.Yield.TheVariants as yield
use Rattle.aml_known.specs.declared.known.Known.{Known}
use Rattle.aml_known.specs.declared.stop.Stop.{Stop}
use Rattle.aml_known.specs.declared.stop.Stop.TheVariants as stop
use Rattle.aml_known.specs.Views.{env_of, kind_of, yield_of}
use Rattle.aml_judging.specs.declared.progress.Progress.{Progress}
use Rattle.aml_judging.specs.Follows.{Gives, Judges}
use Rattle.aml_judging.proofs.Going.{gives_judges, gives_stops, stops_judge, then_judges}
use Rattle.aml_judging.proofs.Stops.{refused_judges}

-- a rule of kinds, and what goes on behind it
module _ {V Y K : Type 0} {shapes : ℕ → Shape} {say : Y → K} {o : Result V Refusal} (f : V → Rule K) where
  pub ruled_on : {old new : Progress} (v : V) (r : Result Y Stop) → Ok v ≡ o → Judges shapes (λ l. say) (f v) old new r → Judges shapes (λ l. say) (ruled o >>= f) old new r
  ruled_on {old} v r e j = then_judges {see = λ (x : V). x} {m = ruled o} f {x = v} r
      (gives_judges {see = λ (x : V). x} {rule = ruled o} old v (λ env. ap (λ (q : Result V Refusal). ruled q env) (sym e))) j

  pub ruled_stops : (p : Progress) (r : Refusal) → Err r ≡ o → Judges shapes (λ l. say) (ruled o >>= f) p p (Err (stop.Refused r))
  ruled_stops p r e = refused_judges p r (λ lists apart says. ap (λ (q : Result V Refusal). then_judge (ruled q (env_of shapes lists p.env)) f) (sym e))

-- what is given is stored into a target
abbrev pub storing : Around → Tree → Kind → Rule judged.Yield
storing here g v = judged_store here g v >>= (λ (u : Unit {0}). goes (Always v))

-- one operand, and two: a rule of their kinds, and what goes on behind it
module _ (here : Around) {V : Type 0} where
  abbrev pub one_asked : Tree → (Kind → Result V Refusal) → (V → Rule judged.Yield) → Rule judged.Yield
  one_asked a ask rest = judged_value here a >>= (λ (j : Kind). ruled (ask j) >>= rest)

  abbrev pub two_asked : Tree → Tree → (Kind → Kind → Result V Refusal) → (V → Rule judged.Yield) → Rule judged.Yield
  two_asked a b ask rest = judged_value here a >>= (λ (j : Kind). one_asked b (ask j) rest)

module _ {shapes : ℕ → Shape} (here : Around) where
  pub storing_stops : (g : Tree) (v : Known) {old new : Progress} {e : Stop} → Judges shapes (λ l (u : Unit {0}). u) (judged_store here g (kind_of shapes v)) old new (Err e) → Judges shapes (λ l. yield_of shapes) (storing here g (kind_of shapes v)) old new (Err e)
  storing_stops g v {e} j = stops_judge {see = λ (u : Unit {0}). u} {m = judged_store here g (kind_of shapes v)} (λ (u : Unit {0}). goes (Always (kind_of shapes v))) e j

  pub gives : (v : Known) (p : Progress) → Judges shapes (λ l. yield_of shapes) (goes (Always (kind_of shapes v))) p p (Ok (yield.Always v))
  gives v p = gives_judges {see = yield_of shapes} {rule = goes (Always (kind_of shapes v))} p (yield.Always v) (λ env. refl)

  pub storing_goes : (g : Tree) (v : Known) {old new : Progress} → Judges shapes (λ l (u : Unit {0}). u) (judged_store here g (kind_of shapes v)) old new (Ok tt) → Judges shapes (λ l. yield_of shapes) (storing here g (kind_of shapes v)) old new (Ok (yield.Always v))
  storing_goes g v {old} {new} j = then_judges {see = λ (u : Unit {0}). u} {m = judged_store here g (kind_of shapes v)} (λ (u : Unit {0}). goes (Always (kind_of shapes v))) {x = tt} (Ok (yield.Always v)) j (gives v new)

  module _ {V : Type 0} (a : Tree) (ask : Kind → Result V Refusal) (rest : V → Rule judged.Yield) where
    pub one_stops : {old new : Progress} {e : Stop} → Judges shapes (λ l (k : Known). kind_of shapes k) (judged_value here a) old new (Err e) → Judges shapes (λ l. yield_of shapes) (one_asked here a ask rest) old new (Err e)
    one_stops {e} j = stops_judge {see = kind_of shapes} {m = judged_value here a} (λ (j : Kind). ruled (ask j) >>= rest) e j

    pub one_refused : {old new : Progress} {k : Known} {r : Refusal} → Judges shapes (λ l (k : Known). kind_of shapes k) (judged_value here a) old new (Ok k) → Err r ≡ ask (kind_of shapes k) → Judges shapes (λ l. yield_of shapes) (one_asked here a ask rest) old new (Err (stop.Refused r))
    one_refused {new} {k} {r} j e = then_judges {see = kind_of shapes} {m = judged_value here a} (λ (j : Kind). ruled (ask j) >>= rest) {x = k} (Err (stop.Refused r)) j (ruled_stops rest new r e)

    pub one_on : {old mid new : Progress} {k : Known} {v : V} {y : Result Yield Stop} → Judges shapes (λ l (k : Known). kind_of shapes k) (judged_value here a) old mid (Ok k) → Ok v ≡ ask (kind_of shapes k) → Judges shapes (λ l. yield_of shapes) (rest v) mid new y → Judges shapes (λ l. yield_of shapes) (one_asked here a ask rest) old new y
    one_on {k} {v} {y} j e goes_on = then_judges {see = kind_of shapes} {m = judged_value here a} (λ (j : Kind). ruled (ask j) >>= rest) {x = k} y j (ruled_on rest v y e goes_on)

  module _ {V : Type 0} (a b : Tree) (ask : Kind → Kind → Result V Refusal) (rest : V → Rule judged.Yield) where
    pub first_stops : {old new : Progress} {e : Stop} → Judges shapes (λ l (k : Known). kind_of shapes k) (judged_value here a) old new (Err e) → Judges shapes (λ l. yield_of shapes) (two_asked here a b ask rest) old new (Err e)
    first_stops {e} j = stops_judge {see = kind_of shapes} {m = judged_value here a} (λ (j : Kind). one_asked here b (ask j) rest) e j

    pub second_stops : {old mid new : Progress} {k : Known} {e : Stop} → Judges shapes (λ l (k : Known). kind_of shapes k) (judged_value here a) old mid (Ok k) → Judges shapes (λ l (k : Known). kind_of shapes k) (judged_value here b) mid new (Err e) → Judges shapes (λ l. yield_of shapes) (two_asked here a b ask rest) old new (Err e)
    second_stops {k} {e} i j = then_judges {see = kind_of shapes} {m = judged_value here a} (λ (j : Kind). one_asked here b (ask j) rest) {x = k} (Err e) i (one_stops b (ask (kind_of shapes k)) rest j)

    pub two_refused : {old mid new : Progress} {k h : Known} {r : Refusal} → Judges shapes (λ l (k : Known). kind_of shapes k) (judged_value here a) old mid (Ok k) → Judges shapes (λ l (k : Known). kind_of shapes k) (judged_value here b) mid new (Ok h) → Err r ≡ ask (kind_of shapes k) (kind_of shapes h) → Judges shapes (λ l. yield_of shapes) (two_asked here a b ask rest) old new (Err (stop.Refused r))
    two_refused {k} {h} {r} i j e = then_judges {see = kind_of shapes} {m = judged_value here a} (λ (j : Kind). one_asked here b (ask j) rest) {x = k} (Err (stop.Refused r)) i (one_refused b (ask (kind_of shapes k)) rest {k = h} j e)

    pub two_on : {old mid behind new : Progress} {k h : Known} {v : V} {y : Result Yield Stop} → Judges shapes (λ l (k : Known). kind_of shapes k) (judged_value here a) old mid (Ok k) → Judges shapes (λ l (k : Known). kind_of shapes k) (judged_value here b) mid behind (Ok h) → Ok v ≡ ask (kind_of shapes k) (kind_of shapes h) → Judges shapes (λ l. yield_of shapes) (rest v) behind new y → Judges shapes (λ l. yield_of shapes) (two_asked here a b ask rest) old new y
    two_on {k} {h} {v} {y} i j e goes_on = then_judges {see = kind_of shapes} {m = judged_value here a} (λ (j : Kind). one_asked here b (ask j) rest) {x = k} y i (one_on b (ask (kind_of shapes k)) rest {k = h} {v = v} j e goes_on)

  -- what is changed where it stands
  module _ {V : Type 0} (a : Tree) (ask : Kind → Result V Refusal) (rest : V → Rule judged.Yield) where
    pub not_placed : {p : Progress} {r : Refusal} → Gives (λ (u : Unit {0}). u) (judged_placed here a) (Err r) → Judges shapes (λ l. yield_of shapes) (judged_placed here a >>= (λ (u : Unit {0}). one_asked here a ask rest)) p p (Err (stop.Refused r))
    not_placed {p} {r} g = stops_judge {see = λ (u : Unit {0}). u} {m = judged_placed here a} (λ (u : Unit {0}). one_asked here a ask rest) (stop.Refused r) (gives_stops {see = λ (u : Unit {0}). u} p r g)

    pub placed_on : {old new : Progress} {y : Result Yield Stop} → Gives (λ (u : Unit {0}). u) (judged_placed here a) (Ok tt) → Judges shapes (λ l. yield_of shapes) (one_asked here a ask rest) old new y → Judges shapes (λ l. yield_of shapes) (judged_placed here a >>= (λ (u : Unit {0}). one_asked here a ask rest)) old new y
    placed_on {old} {y} g j = then_judges {see = λ (u : Unit {0}). u} {m = judged_placed here a} (λ (u : Unit {0}). one_asked here a ask rest) {x = tt} y (gives_judges {see = λ (u : Unit {0}). u} old tt g) j

  -- a value, and what goes on behind it
  module _ (a : Tree) (rest : Kind → Rule judged.Yield) where
    pub stop_value : {old new : Progress} {e : Stop} → Judges shapes (λ l (k : Known). kind_of shapes k) (judged_value here a) old new (Err e) → Judges shapes (λ l. yield_of shapes) (judged_value here a >>= rest) old new (Err e)
    stop_value {e} j = stops_judge {see = kind_of shapes} {m = judged_value here a} rest e j

    pub value_on : {old mid new : Progress} {k : Known} {y : Result Yield Stop} → Judges shapes (λ l (k : Known). kind_of shapes k) (judged_value here a) old mid (Ok k) → Judges shapes (λ l. yield_of shapes) (rest (kind_of shapes k)) mid new y → Judges shapes (λ l. yield_of shapes) (judged_value here a >>= rest) old new y
    value_on {k} {y} j i = then_judges {see = kind_of shapes} {m = judged_value here a} rest {x = k} y j i
