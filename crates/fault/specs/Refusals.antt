-- What a refusal is: its number, and the values that name its place. Assumes nothing.
use Rattle.std.specs.Prelude.{List, [], ◌∷◌, ℕ}
use Rattle.fault.specs.declared.Label.{Label}
use Rattle.fault.specs.declared.Place.{Place}
use Rattle.fault.specs.declared.Place.TheVariants.{At, Between}

pub record Refusal : Type 0 where
  pub number : ℕ
  pub places : List ℕ

abbrev pub refusal_at : ℕ → ℕ → Refusal
refusal_at n p = record { number = n; places = p ∷ [] }

-- the values of a place, in order
abbrev pub places : Place → List ℕ
places (At p) = p ∷ []
places (Between p q) = p ∷ q ∷ []

-- what a label stands for
abbrev pub labelled : Label → Refusal
labelled l = record { number = l.number; places = places l.place }
