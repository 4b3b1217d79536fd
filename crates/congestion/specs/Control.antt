-- What a congestion controller is, and the laws that every controller keeps. Assumes nothing.
use Rattle.std.specs.Prelude.{◌≡◌, ℕ, ◌+◌, ◌^◌, ◌≤◌}

-- over the conditions C that a controller can be in: what follows from a condition, and where each event leads it;
-- a credit comes with the bytes that arrived, a loss and a timeout with the bytes in flight
pub record Control (C : Type 0) : Type 0 where
  pub segment : C → ℕ
  pub window : C → ℕ
  pub credit : C → ℕ → C
  pub loss : C → ℕ → C
  pub timeout : C → ℕ → C

pub record Lawful {C : Type 0} (k : Control C) : Type 0 where
  -- a credit of 0 bytes does nothing
  pub nothing : (c : C) → k.credit c 0 ≡ c
  -- two credits, one after the other, are one credit of both together
  pub together : (c : C) (a b : ℕ) → k.credit (k.credit c a) b ≡ k.credit c (a + b)
  -- a credit never narrows the window
  pub widens : (c : C) (n : ℕ) → k.window c ≤ k.window (k.credit c n)
  -- a segment has 64 to 9000 bytes
  pub small : (c : C) → 64 ≤ k.segment c
  pub large : (c : C) → k.segment c ≤ 9000
  -- no event changes the segment size
  pub credit_keeps : (c : C) (n : ℕ) → k.segment (k.credit c n) ≡ k.segment c
  pub loss_keeps : (c : C) (f : ℕ) → k.segment (k.loss c f) ≡ k.segment c
  pub timeout_keeps : (c : C) (f : ℕ) → k.segment (k.timeout c f) ≡ k.segment c
  -- the window has room for a segment
  pub least : (c : C) → k.segment c ≤ k.window c
  -- the window is at most 2^24 bytes wide
  pub most : (c : C) → k.window c ≤ 2 ^ 24
