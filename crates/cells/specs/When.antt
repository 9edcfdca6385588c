-- A value that can be made only where a test passes.
use Rattle.std.specs.Prelude.{◌≡◌, Bool, true, false, Some, None, Option, refl}

-- what is made of a test that passes, or nothing
abbrev pub when : {X : Type 0} (t : Bool) → (t ≡ true → X) → Option X
when true make = Some (make refl)
when false make = None
