-- Which methods a body calls (ACPI 6.5, 5.5.2 and 19.6, Method): those that names name in it which
-- stand as terms, with arguments or none, wherever that is, reached or not. What an Index is of is
-- such a name, too; `_OSI` is no method.
use Rattle.std.specs.Prelude.{ℕ, ◌++◌, List, [], ◌∷◌}
use Rattle.aml_operators.specs.Tree.{Tree, Trees, Node, none, more}
use Rattle.aml_namespace.specs.declared.link.Link.{Link}
use Rattle.aml_namespace.specs.declared.link.Link.TheVariants as link
use Rattle.aml_meaning.specs.declared.action.Action.{Action}
use Rattle.aml_meaning.specs.declared.action.Action.TheVariants.{Invoke}
use Rattle.aml_meaning.specs.Actions.{action}
use Rattle.aml_meaning.specs.Meaning.{at_of}

abbrev pub called : Link → List ℕ
called (link.Method id) = id.0 ∷ []
called l = []

-- by what the names mean, by their places
module _ (links : ℕ → Link) where
  abbrev pub called_by : Action → Trees → List ℕ
  called_by Invoke (more name arguments) = called (links (at_of name))
  called_by a parts = []

  abbrev mutual
    -- the methods that a term calls, in order of their names' places
    pub calls_in_term : Tree → List ℕ
    calls_in_term (Node o at stop parts) = called_by (action o) parts ++ calls_of parts

    -- and those that statements call
    pub calls_of : Trees → List ℕ
    calls_of none = []
    calls_of (more t ts) = calls_in_term t ++ calls_of ts
