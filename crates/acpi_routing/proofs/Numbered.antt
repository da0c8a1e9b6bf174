-- The elements of a package by their numbers.
use Rattle.std.proofs.Common.{◌≡◌, refl, Bor, ℕ, zero, suc, ◌<◌, ◌≤◌, List, [], ◌∷◌, length, get_or, arith}
use Rattle.std.specs.Prelude.{Option, Some, None, nat_lt}
use Rattle.std.proofs.lemmas.Bool.Decides.{nat_tests}
use Rattle.std.proofs.lemmas.Option.{slice_get_past, slice_get_read}
use Rattle.std.specs.List.{slice_get}
use Rattle.std.specs.Option.{IfSome, is_some, option_map}
use Rattle.aml_values.specs.Views.{element, elements_of}
use Rattle.aml_values.specs.declared.value.Element as program
use Rattle.acpi_routing.specs.Devices.{element_in}

numbered : (es : List program.Element) (n : ℕ) → element_in (elements_of es) n ≡ option_map element (slice_get es n)
numbered [] n = refl
numbered (e ∷ es) zero = refl
numbered (e ∷ es) (suc n) = numbered es n

got : (o : Option (Bor program.Element)) (es : List program.Element) (n : ℕ) → is_some o ≡ nat_lt n (length es)
    → IfSome o (λ e. e.now ≡ get_or es n e.now) → slice_get es n ≡ option_map (λ e. e.now) o
got None es n there is = let past : length es ≤ n = grind (arith, nat_tests) in slice_get_past es n past
got (Some e) es n there is = let within : n < length es = grind (arith, nat_tests) in slice_get_read es (length es) n e.now refl within is

-- an element that was looked up
pub looked_up : (o : Option (Bor program.Element)) (es : List program.Element) (n : ℕ) → is_some o ≡ nat_lt n (length es)
    → IfSome o (λ e. e.now ≡ get_or es n e.now) → element_in (elements_of es) n ≡ option_map element (option_map (λ e. e.now) o)
looked_up o es n there is = rw (numbered es n, got o es n there is) refl
