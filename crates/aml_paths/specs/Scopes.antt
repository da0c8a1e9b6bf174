-- The numbers of scopes' paths.
use Rattle.std.specs.Prelude.{ℕ, suc}
use Rattle.aml_paths.specs.declared.scope.Scope.{Scope}
use Rattle.aml_paths.specs.declared.scope.Scope.TheVariants.{Root, At}

-- the number of a scope's path
abbrev pub scope_number : Scope → ℕ
scope_number Root = 0
scope_number (At id) = suc id.0
