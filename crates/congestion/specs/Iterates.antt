-- A step that is taken n times. Assumes nothing.
use Rattle.std.specs.Prelude.{◌≡◌, ℕ, zero, suc, ◌+◌}
use Rattle.std.specs.Fn.{iterate}
use Rattle.std.proofs.Common.{zero-add, suc-add}

-- what each step keeps, n steps keep
pub iterate_keeps : {A : Type 0} (P : A → Type 0) (f : A → A) → ((a : A) → P a → P (f a)) → (n : ℕ) (a : A) → P a → P (iterate f n a)
iterate_keeps P f keeps zero a h = h
iterate_keeps P f keeps (suc n) a h = iterate_keeps P f keeps n (f a) (keeps a h)

-- steps taken one after another add up
pub iterate_sum : {A : Type 0} (f : A → A) (a b : ℕ) (x : A) → iterate f b (iterate f a x) ≡ iterate f (a + b) x
iterate_sum f zero b x = rw zero-add
iterate_sum f (suc a) b x = rw suc-add (iterate_sum f a b (f x))
