-- On what grounds a call is refused, told from the calls and answers before it. Assumes nothing.
use Rattle.std.specs.Prelude.{ℕ, ◌+◌, ◌-◌, ◌*◌, ◌^◌, not, ◌&&◌, ◌||◌, List, [], ◌∷◌, length, ◌==◌, nat_le, nat_lt}
use Rattle.congestion.specs.Control.{Control}
use Rattle.protocol.specs.Lists.{any}
use Rattle.protocol.specs.Segments.{starts_at}
use Rattle.protocol.specs.Checks.{Check, refuse}
use Rattle.protocol.specs.Calls.{Call}
use Rattle.protocol.specs.Calls.Call.{send, acknowledge, timeout, take, repeat, put_back}
use Rattle.protocol.specs.History.{History, segments, bytes, sum_before, farthest, outstanding}
use Rattle.protocol.specs.Signals.{credited_once}
use Rattle.protocol.specs.Duplicates.{echoed, uncounted, duplicates_since, repeat_due}

-- of a sender that started with the controller c and the words ws
module _ {C : Type 0} (k : Control C) (c : C) (ws : List ℕ) (h : History) where
  -- the bytes that may be in flight
  abbrev pub allowed : ℕ
  allowed = k.window (credited_once k c h) + k.segment c * duplicates_since h

  -- the table of refusals: each ground on which a call is refused, with its number and places, in the order in which they are looked at
  abbrev pub grounds : Call → List Check
  grounds (send l) =
      let so_far : ℕ = bytes (segments h) in
      refuse (l == 0 || nat_lt (k.segment c) l) 2 (so_far ∷ [])
      ∷ refuse (nat_lt (2 ^ 40) (so_far + l)) 3 (so_far ∷ [])
      ∷ refuse (nat_le 64 (length (outstanding h))) 4 (so_far ∷ [])
      ∷ refuse (nat_lt allowed (so_far - farthest h + l)) 5 (so_far ∷ [])
      ∷ refuse (nat_lt (length ws) (2 * length (segments h) + 2)) 6 (so_far ∷ [])
      ∷ []
  grounds (acknowledge e m x) =
      refuse (nat_lt (bytes (segments h)) e) 7 (e ∷ [])
      ∷ refuse (nat_lt e (farthest h)) 8 (e ∷ [])
      ∷ refuse (not (m == sum_before e (segments h))) 9 (farthest h ∷ e ∷ [])
      ∷ refuse (e == farthest h && not (any (echoed h x) (segments h))) 10 (e ∷ [])
      ∷ refuse (e == farthest h && not (any (uncounted h x) (segments h))) 11 (e ∷ [])
      ∷ []
  grounds timeout = refuse (nat_le (bytes (segments h)) (farthest h)) 12 (bytes (segments h) ∷ []) ∷ []
  grounds take = refuse (not (repeat_due h)) 13 (bytes (segments h) ∷ []) ∷ []
  grounds (repeat o) = refuse (not (any (starts_at o) (outstanding h))) 14 (o ∷ []) ∷ []
  grounds (put_back o) = []
