-- Filters, sums and tests of lists. Assumes nothing.
use Rattle.std.proofs.Common.{◌≡◌, ℕ, ◌+◌, ◌*◌, ◌≤◌, Bool, true, cond, not, ◌&&◌, ◌||◌, suc, List, [], ◌∷◌, map, All, sum_by, refl, ap, arith}
use Rattle.std.proofs.lemmas.Bool.{false≢true}
use Rattle.std.proofs.lemmas.List.Folds.{fold-map, Any-from_list_any, list_any-from_Any}
use Rattle.std.proofs.lemmas.List.Sums.{sum_by_from, sum_by-cons, sum_by-le-sum_by}
use Rattle.protocol.specs.Lists.{any, leads, sum_of, count, kept_by}

-- through a map
module _ {A B : Type 0} (f : A → B) where
  pub map-map : {D : Type 0} (g : B → D) (xs : List A) → map g (map f xs) ≡ map (λ x. g (f x)) xs
  map-map g [] = refl
  map-map g (x ∷ xs) = ap (λ ys. g (f x) ∷ ys) (map-map g xs)

  module _ (p : B → Bool) where
    pub any-map : (xs : List A) → any p (map f xs) ≡ any (λ x. p (f x)) xs
    any-map [] = refl
    any-map (x ∷ xs) = ap (λ b. p (f x) || b) (any-map xs)

    pub leads-map : (xs : List A) → leads p (map f xs) ≡ leads (λ x. p (f x)) xs
    leads-map [] = refl
    leads-map (x ∷ xs) = refl

    pub kept_map : (xs : List A) → kept_by p (map f xs) ≡ map f (kept_by (λ x. p (f x)) xs)
    kept_map [] = refl
    kept_map (x ∷ xs) = let rest = kept_map xs in grind arith

    pub sum_of-map : (n : B → ℕ) (xs : List A) → sum_of p n (map f xs) ≡ sum_of (λ x. p (f x)) (λ x. n (f x)) xs
    sum_of-map n xs = fold-map (λ a y. a + cond (p y) (n y) 0) f 0 xs

module _ {A : Type 0} where
  module _ (p q : A → Bool) (wider : (x : A) → p x ≡ true → q x ≡ true) where
    pub any_wider : (xs : List A) → any p xs ≡ true → any q xs ≡ true
    any_wider xs some = let (k, x, within, at, passes) = Any-from_list_any p xs some in list_any-from_Any q xs (k, x, within, at, wider x passes)

    pub kept_twice : (xs : List A) → kept_by p (kept_by q xs) ≡ kept_by p xs
    kept_twice [] = refl
    kept_twice (x ∷ xs) = let rest = kept_twice xs in let w = wider x in grind arith

    pub count_wider : (xs : List A) → count p xs ≤ count q xs
    count_wider xs = sum_by-le-sum_by (λ x. cond (p x) 1 0) (λ x. cond (q x) 1 0) xs (λ x. let w = wider x in grind arith)

    -- and one more where one passes the wider test only
    pub count_more : (xs : List A) → any (λ x. q x && not (p x)) xs ≡ true → count p xs + 1 ≤ count q xs
    count_more [] some = absurd (false≢true some)
    count_more (x ∷ xs) some = let rest = count_more xs in let same = count_wider xs in let w = wider x in grind (arith, sum_by_from)

    -- a sum in which v stands for n at each that passes p
    pub sum_apart : (n : A → ℕ) (v : ℕ) (xs : List A) → sum_of q (λ x. cond (p x) v (n x)) xs ≡ sum_of q (λ x. cond (p x) 0 (n x)) xs + v * count p xs
    sum_apart n v [] = omega arith
    sum_apart n v (x ∷ xs) =
        let rest = sum_apart n v xs in
        let w = wider x in
        rw (sum_by-cons (λ y. cond (p y) 1 0)) (grind (arith, sum_by_from))

  -- two sums that agree term by term
  pub sum_agree : (f g : A → ℕ) (xs : List A) → All (λ x. f x ≡ g x) xs → sum_by f xs ≡ sum_by g xs
  sum_agree f g [] same = refl
  sum_agree f g (x ∷ xs) same =
      let rest = sum_agree f g xs (λ k d within. same (suc k) d (omega arith)) in
      let here = same 0 x (omega arith) in
      grind (arith, sum_by_from)

  pub sum_kept : (f : A → ℕ) (p : A → Bool) (xs : List A) → sum_by f (kept_by p xs) ≡ sum_of p f xs
  sum_kept f p [] = refl
  sum_kept f p (x ∷ xs) = let rest = sum_kept f p xs in grind (arith, sum_by_from)
