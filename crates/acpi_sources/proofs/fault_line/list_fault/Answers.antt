use Rattle.std.proofs.Common.{ℕ, List, [], ◌++◌, ap, ap₂, ◌∙◌, refl, subst, sym, codes}
use Rattle.std.proofs.KnownBytes.{Appends-nil, Appends-trans}
use Rattle.acpi_text.proofs.Listing.{lists_then, stopped}
use Rattle.acpi_text.specs.Lists.{Lists}
use Rattle.acpi_sources.specs.Faults.{where_text}
use Rattle.acpi_sources.proofs.fault_line.list_fault.Goals as goal

-- a fault's line, of these texts
abbrev line_of : List ℕ → List ℕ → List ℕ
line_of cause place = codes "fault " ++ (cause ++ (place ++ codes "\n"))

pub returns-in_err-put-clause-lists : goal.returns-in_err-put-clause-lists
returns-in_err-put-clause-lists g c =
    stopped _ c.from_residual-in_err-put.result _ _ _ [] _ _ _ c.from_residual-in_err-put.ensures.0 (Appends-nil _) c.in_err-put.ensures.lists refl

pub returns-in_err-put-2-clause-lists : goal.returns-in_err-put-2-clause-lists
returns-in_err-put-2-clause-lists g c =
    let named = c.as_bytes.ensures.value ∙ c.text.ensures in
    let place = where_text c.args.fault.at in
    stopped _ c.from_residual-in_err-put-2.result _ _ _ (codes "fault ") c.as_bytes.result.now (place ++ codes "\n") _
    c.from_residual-in_err-put-2.ensures.0 c.in_ok-put.ensures.lists c.in_err-put-2.ensures.lists (ap (λ name. line_of name place) (sym named))

pub returns-in_err-put-3-clause-lists : goal.returns-in_err-put-3-clause-lists
returns-in_err-put-3-clause-lists g c =
    let named = c.as_bytes.ensures.value ∙ c.text.ensures in
    let placed = c.as_bytes-2.ensures.value ∙ c.in_ok-place.ensures.text in
    stopped _ c.from_residual-in_err-put-3.result _ _ _ (codes "fault " ++ c.as_bytes.result.now) c.as_bytes-2.result.now (codes "\n") _
    c.from_residual-in_err-put-3.ensures.0
    (Appends-trans _ _ _ (codes "fault ") c.as_bytes.result.now c.in_ok-put.ensures.lists c.in_ok-put-2.ensures.lists)
    c.in_err-put-3.ensures.lists (ap₂ line_of (sym named) (sym placed))

pub returns-clause-lists : goal.returns-clause-lists
returns-clause-lists g c =
    let named = c.as_bytes.ensures.value ∙ c.text.ensures in
    let placed = c.as_bytes-2.ensures.value ∙ c.in_ok-place.ensures.text in
    let name = c.as_bytes.result.now in
    let place = c.as_bytes-2.result.now in
    let lists = lists_then c.put-4.result _ _ _ (codes "fault ") (name ++ (place ++ codes "\n")) c.in_ok-put.ensures.lists
    (lists_then c.put-4.result _ _ _ name (place ++ codes "\n") c.in_ok-put-2.ensures.lists
    (lists_then c.put-4.result _ _ _ place (codes "\n") c.in_ok-put-3.ensures.lists c.put-4.ensures.lists)) in
    subst (λ line. Lists c.put-4.result (g.W.Write.contents c.args.out.now) (g.W.Write.contents c.put-4.new.out) line) (ap₂ line_of named placed) lists
