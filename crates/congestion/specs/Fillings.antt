-- Many credited bytes at once. Assumes nothing.
use Rattle.std.specs.Prelude.{◌≡◌, ℕ, zero, suc, ◌+◌, ◌-◌, ◌%◌, ◌^◌, ◌<◌, ◌≤◌, true, false, ◌⊎◌, refl}
use Rattle.std.specs.Fn.{iterate}
use Rattle.std.proofs.Common.{sym, ap, ◌∙◌, add-zero, mod-eq_of_lt, arith}
use Rattle.std.proofs.Math.Nat.{add-mod_left, add-mod-mod}
use Rattle.std.proofs.lemmas.Grind.{common_steps}
use Rattle.congestion.specs.AtOnce.{missing, widens, carried}
use Rattle.congestion.specs.Growths.{Sizes, at, counted, wider, fill}

-- a byte does not narrow the window, and keeps it at most 2^24 wide
abbrev pub Widens : (Sizes → Sizes) → Type 0
Widens f = (g : Sizes) → g.window ≤ 2 ^ 24 → (g.window ≤ (f g).window) × ((f g).window ≤ 2 ^ 24)

-- nor do many narrow it
pub never_narrows : (f : Sizes → Sizes) → Widens f → (n : ℕ) (g : Sizes) → g.window ≤ 2 ^ 24 → g.window ≤ (iterate f n g).window
never_narrows f widens zero g most = omega arith
never_narrows f widens (suc n) g most = omega (arith, widens g most, never_narrows f widens n (f g) (widens g most).1)

-- nor change the segment size, if one does not
pub same_segment : (f : Sizes → Sizes) → ((g : Sizes) → (f g).segment ≡ g.segment) → (n : ℕ) (g : Sizes) → (iterate f n g).segment ≡ g.segment
same_segment f keeps zero g = refl
same_segment f keeps (suc n) g = cc (same_segment f keeps n (f g), keeps g)

module _ (limit : ℕ → ℕ → ℕ) where
  pub fill_segment : (g : Sizes) → (fill limit g).segment ≡ g.segment
  fill_segment g = grind (arith, common_steps)

  pub fill_widens : Widens (fill limit)
  fill_widens g most = grind (arith, common_steps)

  -- n bytes do not widen the window: it is as wide as can be, or they are too few
  abbrev pub Stays : ℕ → Sizes → Type 0
  Stays n g = (g.window ≡ 2 ^ 24) ⊎ (g.carry + n < limit g.segment g.window)

  pub not_widened : (n : ℕ) (g : Sizes) → g.window ≤ 2 ^ 24 → widens limit g n ≡ false → Stays n g
  not_widened n g most no_more = grind (arith, common_steps)

  -- then the carry goes round
  pub stays : (n : ℕ) (g : Sizes) → g.carry < limit g.segment g.window → Stays n g → iterate (fill limit) n g ≡ at g g.window ((g.carry + n) % limit g.segment g.window)
  stays zero g h s = rw (add-zero, mod-eq_of_lt)
  stays (suc n) g h s =
      let top = limit g.segment g.window in
      let few : (g.carry + 1) + n ≡ g.carry + suc n = omega arith in
      let full : top ≤ g.carry + 1 → (0 + n) % top ≡ (g.carry + suc n) % top = λ enough.
      let e : top + (0 + n) ≡ g.carry + suc n = omega arith in
      sym (add-mod_left top (0 + n)) ∙ ap (λ c. c % top) e in
      grind (arith, common_steps, stays n (counted g), stays n (wider g), few, full)

  -- as code that must not overflow computes it
  pub carries : (n : ℕ) (g : Sizes) → g.carry < limit g.segment g.window → Stays n g → iterate (fill limit) n g ≡ carried limit g n
  carries n g h s = rw add-mod-mod (stays n g h s)

  -- as many bytes as the carry is short of its limit widen the window, and the others come after that
  pub widens_first : (n : ℕ) (g : Sizes) → g.carry < limit g.segment g.window → missing limit g ≤ n → iterate (fill limit) n g ≡ iterate (fill limit) (n - missing limit g) (wider g)
  widens_first zero g h enough = absurd (omega arith)
  widens_first (suc n) g h enough = grind (arith, common_steps, widens_first n (counted g))

  -- a turn of the code's loop, and what is left after the last one
  pub turns : (n : ℕ) (g : Sizes) → g.carry < limit g.segment g.window → widens limit g n ≡ true → iterate (fill limit) n g ≡ iterate (fill limit) (n - missing limit g) (wider g)
  turns n g h more = widens_first n g h (grind (arith, common_steps))

  pub ends : (n : ℕ) (g : Sizes) → g.window ≤ 2 ^ 24 → g.carry < limit g.segment g.window → widens limit g n ≡ false → iterate (fill limit) n g ≡ carried limit g n
  ends n g most h no_more = carries n g h (not_widened n g most no_more)
