-- How many words a count of steps gives. Assumes nothing.
use Rattle.std.proofs.Common.{◌≡◌, ℕ, zero, suc, length, refl, ap}
use Rattle.nonce.specs.SplitMix.{stepped, generated}

pub words_counted : (count state : ℕ) → length (generated count state) ≡ count
words_counted zero state = refl
words_counted (suc count) state = ap suc (words_counted count (stepped state))
