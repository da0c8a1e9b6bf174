-- What is kept of a body tells what its names mean.
use Rattle.std.proofs.Common.{◌≡◌, ℕ, List, Option, Some, None, ap, ◌∙◌}
use Rattle.std.specs.Prelude.{IfSome}
use Rattle.aml_bodies.specs.Kept.{AreKept, IsKept}
use Rattle.aml_bodies.specs.Links.{AreLinks}
use Rattle.aml_bodies.specs.declared.keeping.Kept.{Kept}
use Rattle.aml_namespace.specs.declared.link.Link.{Link}
use Rattle.aml_namespace.specs.Load.{Shown}
use Rattle.aml_namespace.specs.Names.{body_bytes, link_with_owns}
use Rattle.aml_own_names.specs.declared.own_names.OwnName.{OwnName}
use Rattle.aml_own_names.specs.OwnNamesSeen.{owns_seen}
use Rattle.aml_verify.specs.Keeping.{AreMeant, Means}

pub linked_means : (ns : Shown) (k at : ℕ) (one : Kept) (r : Option Link) → IsKept ns k one → ((means : ℕ → Link) → AreLinks means one.links → IfSome r (λ l. l ≡ means at)) → IfSome r (Means ns k at)
linked_means ns k at one None is tells = tt
linked_means ns k at one (Some l) is tells = λ m there ts body.
    tells (link_with_owns ns.entries k (body_bytes ns m) (owns_seen one.owns)) (is.links m there)
    ∙ ap (λ (o : List OwnName). link_with_owns ns.entries k (body_bytes ns m) o at) (is.owns m there ts body)

-- so it does of all that is kept
pub are_meant : (ns : Shown) (kept : List (Option Kept)) → AreKept ns kept → AreMeant ns kept
are_meant ns kept are = λ k one e m there. (are k one e).links m there
