-- Many credited bytes at once, as the code takes them; the rule is a byte at a time. Assumes nothing.
use Rattle.std.specs.Prelude.{ℕ, ◌+◌, ◌-◌, ◌%◌, ◌^◌, min, Bool, ◌&&◌, nat_le, nat_lt}
use Rattle.congestion.specs.Growths.{Sizes, at}
use Rattle.congestion.specs.declared.reno.Reno.{Reno}

module _ (limit : ℕ → ℕ → ℕ) where
  -- how many bytes the carry is short of its limit
  abbrev pub missing : Sizes → ℕ
  missing g = limit g.segment g.window - g.carry

  -- whether n bytes widen the window: they are enough, and it can be wider
  abbrev pub widens : Sizes → ℕ → Bool
  widens g n = nat_lt g.window (2 ^ 24) && nat_le (missing g) n

  -- n bytes more in the carry, which goes round at its limit
  abbrev pub carried : Sizes → ℕ → Sizes
  carried g n = at g g.window ((g.carry + n % limit g.segment g.window) % limit g.segment g.window)

-- how many of n bytes climb to the threshold
abbrev pub climbing : Reno → ℕ → ℕ
climbing s n = min n (s.threshold - s.growth.window)
