-- A window that grows by a segment each time that the carry, which counts credited bytes, reaches its limit. Assumes nothing.
use Rattle.std.specs.Prelude.{ℕ, ◌+◌, ◌*◌, ◌^◌, ◌<◌, ◌≤◌, min, cond, nat_lt}
use Rattle.std.specs.Int.{div_ceil}
use Rattle.std.proofs.Common.{arith}
use Rattle.std.proofs.lemmas.Grind.{common_steps}

-- in bytes: a segment, the window, and the carry
pub record Sizes : Type 0 where
  pub segment : ℕ
  pub window : ℕ
  pub carry : ℕ

-- the carry at which a window of w bytes grows, for segments of m bytes: at an additive increase
abbrev pub additive_limit : ℕ → ℕ → ℕ
additive_limit m w = w

-- and at an inverse one: as many windows as it has segments, a part of one counted whole
abbrev pub inverse_limit : ℕ → ℕ → ℕ
inverse_limit m w = w * div_ceil w m

-- g with another window and carry
abbrev pub at : Sizes → ℕ → ℕ → Sizes
at g w c = record g { window = w; carry = c }

-- a window of w bytes, and nothing in the carry
abbrev pub fresh : ℕ → ℕ → Sizes
fresh m w = record { segment = m; window = w; carry = 0 }

-- a byte more in the carry
abbrev pub counted : Sizes → Sizes
counted g = at g g.window (g.carry + 1)

-- a segment wider, at most 2^24 bytes, and nothing in the carry
abbrev pub wider : Sizes → Sizes
wider g = fresh g.segment (min (g.window + g.segment) (2 ^ 24))

module _ (limit : ℕ → ℕ → ℕ) where
  -- the limit is not 0
  abbrev pub NeverZero : Type 0
  NeverZero = (m w : ℕ) → 64 ≤ m → m ≤ w → 0 < limit m w

  -- twice the limit fits 64 bits
  abbrev pub HasRoom : Type 0
  HasRoom = (m w : ℕ) → w ≤ 2 ^ 24 → limit m w < 2 ^ 63

  -- one credited byte
  abbrev pub fill : Sizes → Sizes
  fill g = cond (nat_lt (g.carry + 1) (limit g.segment g.window)) (counted g) (wider g)

  -- what always holds of a window that grows: a segment has 64 to 9000 bytes, the window a segment to 2^24, and the carry is below its limit
  abbrev pub Bounded : Sizes → Type 0
  Bounded g = (64 ≤ g.segment) × (g.segment ≤ 9000) × (g.segment ≤ g.window) × (g.window ≤ 2 ^ 24) × (g.carry < limit g.segment g.window)

-- neither limit is 0
pub additive_never_zero : NeverZero additive_limit
additive_never_zero m w small h = omega arith

pub inverse_never_zero : NeverZero inverse_limit
inverse_never_zero m w small h = grind (arith, common_steps)

-- a credited byte keeps these bounds
pub fill_bounded : (limit : ℕ → ℕ → ℕ) → NeverZero limit → (g : Sizes) → Bounded limit g → Bounded limit (fill limit g)
fill_bounded limit never_zero g b = grind (arith, common_steps, never_zero)

-- and a new window of at least a segment is within them
pub fresh_bounded : (limit : ℕ → ℕ → ℕ) → NeverZero limit → (m w : ℕ) → 64 ≤ m → m ≤ 9000 → m ≤ w → w ≤ 2 ^ 24 → Bounded limit (fresh m w)
fresh_bounded limit never_zero m w small large least most = (small, large, least, most, never_zero m w small least)

-- so is a window of one segment
pub one_segment_bounded : (limit : ℕ → ℕ → ℕ) → NeverZero limit → (g : Sizes) → Bounded limit g → Bounded limit (fresh g.segment g.segment)
one_segment_bounded limit never_zero g b = fresh_bounded limit never_zero g.segment g.segment b.0 b.1 (omega arith) (omega arith)
