-- Many credited bytes of Reno at once. Assumes nothing.
use Rattle.std.specs.Prelude.{◌≡◌, ℕ, zero, suc, ◌+◌, ◌-◌, ◌^◌, ◌≤◌, min, refl}
use Rattle.std.specs.Fn.{iterate}
use Rattle.std.proofs.Common.{◌∙◌, arith}
use Rattle.std.proofs.lemmas.Grind.{common_steps}
use Rattle.congestion.specs.Growths.{Sizes, additive_limit, at, fill}
use Rattle.congestion.specs.RenoRules.{climb, byte}
use Rattle.congestion.specs.Fillings.{Widens, fill_widens}

pub byte_segment : (t : ℕ) (g : Sizes) → (byte t g).segment ≡ g.segment
byte_segment t g = grind (arith, common_steps)

pub byte_widens : (t : ℕ) → t ≤ 2 ^ 24 → Widens (byte t)
byte_widens t limited g most = grind (arith, common_steps)

module _ (t : ℕ) (limited : t ≤ 2 ^ 24) where
  -- from the threshold on bytes fill the carry
  past : (n : ℕ) (g : Sizes) → g.window ≤ 2 ^ 24 → t ≤ g.window → iterate (byte t) n g ≡ iterate (fill additive_limit) n g
  past zero g most from = refl
  past (suc n) g most from = grind (arith, common_steps, past n (fill additive_limit g), fill_widens additive_limit g most)

  -- up to there they widen the window one by one: k of the n bytes are left at the window w
  climbs_to : (n k w : ℕ) (g : Sizes) → g.window ≤ 2 ^ 24 → k ≡ n - min n (t - g.window) → w ≡ g.window + min n (t - g.window) → iterate (byte t) n g ≡ iterate (fill additive_limit) k (at g w g.carry)
  climbs_to zero k w g most e f = grind (arith, common_steps)
  climbs_to (suc n) k w g most e f =
      let above : t ≤ g.window → suc n ≡ k → g.window ≡ w → iterate (byte t) (suc n) g ≡ iterate (fill additive_limit) k (at g w g.carry) =
      λ from a b. past (suc n) g most from ∙ (λ i. iterate (fill additive_limit) (a i) (at g (b i) g.carry)) in
      grind (arith, common_steps, climbs_to n k w (climb g), above)

  pub climbs : (n : ℕ) (g : Sizes) → g.window ≤ 2 ^ 24 → iterate (byte t) n g ≡ iterate (fill additive_limit) (n - min n (t - g.window)) (at g (g.window + min n (t - g.window)) g.carry)
  climbs n g most = climbs_to n _ _ g most refl refl
