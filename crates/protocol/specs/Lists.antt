-- Words on lists. Assumes nothing.
--     any p xs      one passes p
--     leads p xs      there is a first one, and it passes p
--     member o xs      the number o stands in xs
--     sum_of p f xs, count p xs      the sum of f over those that pass p; how many pass p
--     kept_by p xs      those that pass p (std)
use Rattle.std.specs.Prelude.{ℕ, Bool, false, cond, List, [], ◌∷◌, nat_eq, sum_by, count_by}
use Rattle.std.specs.List.{list_any}
pub use Rattle.std.specs.List.{filter as kept_by}

abbrev pub any : {A : Type 0} → (A → Bool) → List A → Bool
any p xs = list_any p xs

abbrev pub leads : {A : Type 0} → (A → Bool) → List A → Bool
leads p [] = false
leads p (x ∷ xs) = p x

abbrev pub member : ℕ → List ℕ → Bool
member o xs = any (nat_eq o) xs

abbrev pub sum_of : {A : Type 0} → (A → Bool) → (A → ℕ) → List A → ℕ
sum_of p f xs = sum_by (λ x. cond (p x) (f x) 0) xs

abbrev pub count : {A : Type 0} → (A → Bool) → List A → ℕ
count p xs = count_by p xs
