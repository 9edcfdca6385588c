-- What `when` makes.
use Rattle.std.specs.Prelude.{◌≡◌, Bool, true, false, Some, None, refl}
use Rattle.std.proofs.Common.{sym, ap}
use Rattle.std.proofs.Math.Bool.{Bool-set}
use Rattle.cells.specs.When.{when}

-- a test that passes has one proof, so any proof of it makes the same value
pub when_passes : {X : Type 0} (t : Bool) (make : t ≡ true → X) (p : t ≡ true) → when t make ≡ Some (make p)
when_passes true make p = ap (λ q. Some (make q)) (Bool-set true true refl p)
when_passes false make p = let z : Some (make p) ≡ None = ap (λ b. elim b [ true ↦ None | false ↦ Some (make p) ]) p in sym z

-- what was made came of a test that passed
pub when_made : {X : Type 0} (t : Bool) (make : t ≡ true → X) (x : X) → when t make ≡ Some x → (p : t ≡ true) × (make p ≡ x)
when_made true make x e = (refl, cc)
when_made false make x e = let z : true ≡ false = cc in (sym z, cc)

-- nothing was made, so the test failed
pub when_none : {X : Type 0} (t : Bool) (make : t ≡ true → X) → when t make ≡ None → t ≡ false
when_none true make e = cc
when_none false make e = refl
