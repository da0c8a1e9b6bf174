-- Devices that were kept, each once, and those that are left to see.
use Rattle.std.proofs.Common.{◌≡◌, refl, ap, sym, ◌∙◌, ℕ, ◌+◌, ◌<◌, List, [], ◌∷◌, ◌++◌, length, drop, get_or, add-one, drop-cons, append_assoc, arith, cond}
use Rattle.std.specs.Prelude.{◌==◌, ◌||◌, Bool, true, false, not}
use Rattle.std.proofs.lemmas.Bool.Decides.{nat_tests}
use Rattle.std.proofs.lemmas.List.Folds.{list_any-append}
use Rattle.std.specs.List.{filter}
use Rattle.aml_paths.specs.declared.scope.ObjectId.{ObjectId}
use Rattle.aml_values.specs.Views.{element, elements_of}
use Rattle.aml_values.specs.declared.value.Element as program
use Rattle.acpi_routing.specs.Devices.{device_of, devices_among, in_front, is_among, once, with_device, without}

-- those that are not among some
abbrev pub unseen : List ObjectId → List ObjectId → List ObjectId
unseen devices = filter (λ (d : ObjectId). not (is_among d.0 devices))

pub unseen_none : (xs : List ObjectId) → unseen [] xs ≡ xs
unseen_none [] = refl
unseen_none (x ∷ xs) = ap (λ (ds : List ObjectId). x ∷ ds) (unseen_none xs)

or_false : (b : Bool) → (b || false) ≡ b
or_false true = refl
or_false false = refl

-- one device more
pub among_more : (number : ℕ) (devices : List ObjectId) (d : ObjectId) → is_among number (devices ++ d ∷ []) ≡ (is_among number devices || (d.0 == number))
among_more number devices d =
    list_any-append (λ (e : ObjectId). e.0 == number) devices (d ∷ []) ∙ ap (λ (b : Bool). is_among number devices || b) (or_false (d.0 == number))

-- a device among some has their answer
among_same : (d x : ObjectId) (devices : List ObjectId) → (d.0 == x.0) ≡ true → is_among x.0 devices ≡ is_among d.0 devices
among_same d x devices e = let same : d.0 ≡ x.0 = grind (arith, nat_tests) in ap (λ (n : ℕ). is_among n devices) (sym same)

step_more : (a b : Bool) (x : ObjectId) (w r : List ObjectId) (f : List ObjectId → List ObjectId)
    → f (x ∷ w) ≡ cond (not a) (x ∷ f w) (f w) → r ≡ f w
    → cond (not (a || b)) (x ∷ r) r ≡ f (cond (not b) (x ∷ w) w)
step_more true true x w r f here rest = rest
step_more false true x w r f here rest = rest
step_more true false x w r f here rest = rest ∙ sym here
step_more false false x w r f here rest = ap (λ (ds : List ObjectId). x ∷ ds) rest ∙ sym here

-- what is not among them and one more is not among them, without that one
pub unseen_more : (devices : List ObjectId) (d : ObjectId) (xs : List ObjectId) → unseen (devices ++ d ∷ []) xs ≡ unseen devices (without d xs)
unseen_more devices d [] = refl
unseen_more devices d (x ∷ xs) =
    let rest = unseen (devices ++ d ∷ []) xs in
    ap (λ (b : Bool). cond (not b) (x ∷ rest) rest) (among_more x.0 devices d)
    ∙ step_more (is_among x.0 devices) (d.0 == x.0) x (without d xs) rest (unseen devices) refl (unseen_more devices d xs)

step_same : (b : Bool) (x : ObjectId) (w xs : List ObjectId) (f : List ObjectId → List ObjectId) (seen : Bool)
    → ((l : List ObjectId) → f (x ∷ l) ≡ cond (not seen) (x ∷ f l) (f l)) → (b ≡ true → seen ≡ true) → f w ≡ f xs
    → f (cond (not b) (x ∷ w) w) ≡ f (x ∷ xs)
step_same true x w xs f seen here known rest = rest ∙ sym (here xs ∙ ap (λ (s : Bool). cond (not s) (x ∷ f xs) (f xs)) (known refl))
step_same false x w xs f seen here known rest =
    here w ∙ ap (λ (l : List ObjectId). cond (not seen) (x ∷ l) l) rest ∙ sym (here xs)

-- one that is among them changes nothing
pub unseen_same : (devices : List ObjectId) (d : ObjectId) → is_among d.0 devices ≡ true → (xs : List ObjectId) → unseen devices (without d xs) ≡ unseen devices xs
unseen_same devices d there [] = refl
unseen_same devices d there (x ∷ xs) =
    step_same (d.0 == x.0) x (without d xs) xs (unseen devices) (is_among x.0 devices) (λ l. refl)
    (λ e. among_same d x devices e ∙ there) (unseen_same devices d there xs)

-- what was kept and what is left to see are all of them
abbrev pub ahead : List ObjectId → List ObjectId → List ObjectId
ahead devices left = devices ++ unseen devices (once left)

ahead_by : (seen : Bool) (devices : List ObjectId) (d : ObjectId) (left : List ObjectId) → is_among d.0 devices ≡ seen
    → ahead (cond seen devices (devices ++ d ∷ [])) left ≡ devices ++ cond (not seen) (d ∷ unseen devices (without d (once left))) (unseen devices (without d (once left)))
ahead_by true devices d left is = ap (λ (ds : List ObjectId). devices ++ ds) (sym (unseen_same devices d is (once left)))
ahead_by false devices d left is =
    append_assoc devices (d ∷ []) (unseen (devices ++ d ∷ []) (once left))
    ∙ ap (λ (ds : List ObjectId). devices ++ d ∷ ds) (unseen_more devices d (once left))

pub ahead_more : (devices : List ObjectId) (d : ObjectId) (left : List ObjectId) → ahead (with_device devices d) left ≡ ahead devices (d ∷ left)
ahead_more devices d left = ahead_by (is_among d.0 devices) devices d left refl

-- the devices of the elements from a place on
pub from_here : (es : List program.Element) (i : ℕ) (d : program.Element) → i < length es
    → devices_among (elements_of (drop i es)) ≡ in_front (device_of (element (get_or es i d))) (devices_among (elements_of (drop (i + 1) es)))
from_here es i d l =
    let split : drop i es ≡ get_or es i d ∷ drop (i + 1) es = rw add-one (drop-cons es i d l) in
    ap (λ (l : List program.Element). devices_among (elements_of l)) split
