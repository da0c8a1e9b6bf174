-- The own names that the program keeps.
use Rattle.std.specs.Prelude.{List}
use Rattle.aml_own_names.specs.declared.own_names.OwnName.{OwnName}
use Rattle.aml_own_names.specs.declared.own_names.OwnNames.{OwnNames}

abbrev pub owns_seen : OwnNames → List OwnName
owns_seen owns = owns.names.items
