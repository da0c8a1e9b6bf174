-- Kinds that are ruled, and what leads on behind an operand.
use Rattle.std.proofs.Common.{◌≡◌, ℕ, Result, Ok, Err, sym, ap, subst}
use Rattle.aml_causes.specs.declared.cause.Refusal.{Refusal}
use Rattle.aml_kinds.specs.Kinds.{Shape}
use Rattle.aml_judged.specs.Judged.{Rule, ruled, ◌>>=◌}
use Rattle.aml_known.specs.declared.stop.Stop.{Stop}
use Rattle.aml_known.specs.declared.stop.Stop.TheVariants as stop
use Rattle.aml_kind_rules.specs.Tells.{Obeys}
use Rattle.aml_judging.specs.declared.progress.Progress.{Progress}
use Rattle.aml_judging.specs.Follows.{Judges}
use Rattle.aml_judging.proofs.Going.{Leads, gives_judges, gives_stops, leads_begin, leads_on, stops_judge}
use Rattle.aml_judging.proofs.Stops.{wanting_judges}

-- a kind rule that gives something, and one that has a cause
pub ruled_judges : {X K : Type 0} {shapes : ℕ → Shape} (see : X → K) (rule : Result K Refusal) (p : Progress) (x : X) → Ok (see x) ≡ rule → Judges shapes (λ l. see) (ruled rule) p p (Ok x)
ruled_judges see rule p x e = gives_judges {see = see} p x (λ env. ap (λ r. ruled r env) (sym e))

pub ruled_stops : {X K : Type 0} {shapes : ℕ → Shape} (see : X → K) (rule : Result K Refusal) (p : Progress) (r : Refusal) → Err r ≡ rule → Judges shapes (λ l. see) (ruled rule) p p (Err (stop.Refused r))
ruled_stops see rule p r e = gives_stops {see = see} p r (λ env. ap (λ v. ruled v env) (sym e))

-- one that is obeyed, where memory may be wanted
pub obeyed_judges : {X K : Type 0} {shapes : ℕ → Shape} (see : X → K) (rule : Result K Refusal) (p : Progress) (r : Result X Stop) → Obeys see r rule → Judges shapes (λ l. see) (ruled rule) p p r
obeyed_judges see rule p (Ok x) e = ruled_judges see rule p x (sym e)
obeyed_judges see rule p (Err (stop.Refused r)) e = ruled_stops see rule p r (sym e)
obeyed_judges see rule p (Err stop.NoMemory) e = wanting_judges p

-- a rule that is another leads to it
pub leads_as : {K : Type 0} {shapes : ℕ → Shape} {rest whole : Rule K} (p : Progress) → whole ≡ rest → Leads shapes rest whole p p
leads_as {shapes} {rest} {whole} p e = subst (λ r. Leads shapes r whole p p) e (leads_begin p)

-- behind what leads to a whole, a part stops
pub leads_stop : {X Y J K : Type 0} {shapes : ℕ → Shape} {see : X → J} {say : Y → K} {m : Rule J} (f : J → Rule K) {whole : Rule K} {old mid new : Progress} (e : Stop) → Leads shapes (m >>= f) whole old mid → Judges shapes (λ l. see) m mid new (Err e) → Judges shapes (λ l. say) whole old new (Err e)
leads_stop f e p j = leads_on (Err e) p (stops_judge f e j)
