-- A choice by a test of two numbers. Assumes nothing.
use Rattle.std.specs.Prelude.{ℕ, ◌<◌, ◌≤◌, cond, nat_lt}
use Rattle.std.proofs.lemmas.Bool.{cond_both, ltb-true, ltb-false}

-- what holds of x where a < b, and of y elsewhere, holds of the choice
pub choice : {A : Type 0} (P : A → Type 0) (a b : ℕ) {x y : A} → (a < b → P x) → (b ≤ a → P y) → P (cond (nat_lt a b) x y)
choice P a b {x} {y} below above = cond_both (nat_lt a b) x y P (λ e. below (ltb-true a b e)) (λ e. above (ltb-false a b e))
