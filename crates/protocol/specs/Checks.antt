-- The checks of a call, in the order in which they are made. Assumes nothing.
use Rattle.std.specs.Prelude.{ℕ, Bool, cond, List, [], ◌∷◌, Some, None, Option}
use Rattle.fault.specs.Refusals.{Refusal}

-- one check: what it refuses with where the test holds
pub record Check : Type 0 where
  pub test : Bool
  pub refusal : Refusal

-- by its number and places
abbrev pub refuse : Bool → ℕ → List ℕ → Check
refuse b n ps = record { test = b; refusal = record { number = n; places = ps } }

-- the refusal of the first check whose test holds
abbrev pub first_refusal : List Check → Option Refusal
first_refusal [] = None
first_refusal (c ∷ cs) = cond c.test (Some c.refusal) (first_refusal cs)
