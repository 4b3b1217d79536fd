-- How a controller starts. Assumes nothing.
use Rattle.std.specs.Prelude.{◌≡◌, ℕ, ◌*◌, ◌≤◌, cond, Ok, Err, Result, nat_le}
use Rattle.fault.specs.Refusals.{refusal_at}
use Rattle.congestion.specs.Faults.{refusal}
use Rattle.congestion.specs.declared.faults.ControllerFault.{ControllerFault}

-- four, three or two segments of m bytes, as in RFC 5681
abbrev pub first_window : ℕ → ℕ
first_window m = cond (nat_le m 1095) (4 * m) (cond (nat_le m 2190) (3 * m) (2 * m))

-- a segment size m of 64 to 9000 gives what Made says, and any other is refused
abbrev pub Makes : {S : Type 0} → (S → Type 0) → ℕ → Result S ControllerFault → Type 0
Makes Made m (Ok s) = (64 ≤ m) × (m ≤ 9000) × Made s
Makes Made m (Err e) = (64 ≤ m → m ≤ 9000 → ⊥) × (refusal e ≡ refusal_at 1 m)

abbrev pub FirstWindow : ℕ → Result ℕ ControllerFault → Type 0
FirstWindow m = Makes (λ w. w ≡ first_window m) m
