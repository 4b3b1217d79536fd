-- The rules of the sender, call by call. Assumes nothing.
use Rattle.std.specs.Prelude.{ℕ, ◌+◌, ◌-◌, ◌*◌, ◌%◌, ◌^◌, Bool, true, false, cond, not, ◌&&◌, ◌||◌, List, [], ◌∷◌, ◌++◌, length, drop, Some, None, Option, ◌==◌, nat_eq, nat_le, nat_lt, slice_index}
use Rattle.fault.specs.Refusals.{Refusal}
use Rattle.congestion.specs.Control.{Control}
use Rattle.protocol.specs.declared.segment.Segment.{Segment}
use Rattle.protocol.specs.Lists.{any, leads, sum_of, kept_by}
use Rattle.protocol.specs.Segments.{begun_before, ends_by, ends_past, starts_at, echoed_past}
use Rattle.protocol.specs.Claims.{claim_for, on, nonce, unspent, oldest, segment_at, spend}
use Rattle.protocol.specs.Checks.{Check, refuse, first_refusal}
use Rattle.protocol.specs.Calls.{State, Call, Reply}
use Rattle.protocol.specs.Calls.Call.{send, acknowledge, timeout, take, repeat, put_back}
use Rattle.protocol.specs.Calls.Answer.{sent, advanced, counted, lost, expired, ordered, repeated, returned, refused}

module _ {C : Type 0} where
  abbrev pub in_flight : State C → ℕ
  in_flight s = s.sent - s.proved

  -- the sum that an acknowledgement of the end e must tell: of all segments begun before e
  abbrev pub true_sum : State C → ℕ → ℕ
  true_sum s e = (s.settled + sum_of (on (begun_before e)) nonce s.claims) % 2 ^ 64

  -- the segment that a send of l bytes makes of the next two words
  abbrev pub next : State C → ℕ → Segment
  next s l = record { start = s.sent; length = l; summed = slice_index s.words 0; single = slice_index s.words 1 }

  abbrev pub after_send : State C → Segment → State C
  after_send s g = record s {
    words = drop 2 s.words;
    claims = s.claims ++ (claim_for g ∷ []);
    sent = s.sent + g.length;
  }

  abbrev pub after_take : State C → State C
  after_take s = record s { due = false }

  -- the same, with a repeat due or not
  abbrev pub with_due : State C → Bool → State C
  with_due s b = record s { due = b }

module _ {C : Type 0} (k : Control C) where
  -- how many bytes may be in flight: a segment more than the window for each duplicate
  abbrev pub allowance : State C → ℕ
  allowance s = k.window s.control + k.segment s.control * s.duplicates

  -- what each call is refused for, in the order of the checks
  abbrev pub checks : State C → Call → List Check
  checks s (send l) =
      refuse (l == 0 || nat_lt (k.segment s.control) l) 2 (s.sent ∷ [])
      ∷ refuse (nat_lt (2 ^ 40) (s.sent + l)) 3 (s.sent ∷ [])
      ∷ refuse (nat_le 64 (length s.claims)) 4 (s.sent ∷ [])
      ∷ refuse (nat_lt (allowance s) (in_flight s + l)) 5 (s.sent ∷ [])
      ∷ refuse (nat_lt (length s.words) 2) 6 (s.sent ∷ [])
      ∷ []
  checks s (acknowledge e m x) =
      refuse (nat_lt s.sent e) 7 (e ∷ [])
      ∷ refuse (nat_lt e s.proved) 8 (e ∷ [])
      ∷ refuse (not (m == true_sum s e)) 9 (s.proved ∷ e ∷ [])
      ∷ refuse (e == s.proved && not (any (on (echoed_past s.proved x)) s.claims)) 10 (e ∷ [])
      ∷ refuse (e == s.proved && not (any (unspent s.proved x) s.claims)) 11 (e ∷ [])
      ∷ []
  checks s timeout = refuse (in_flight s == 0) 12 (s.sent ∷ []) ∷ []
  checks s take = refuse (not s.due) 13 (s.sent ∷ []) ∷ []
  checks s (repeat o) = refuse (not (any (on (starts_at o)) s.claims)) 14 (o ∷ []) ∷ []
  checks s (put_back o) = []

  -- an end e beyond the proved one: the claims that end by e go, and what they add to a sum is kept
  abbrev pub after_advance : State C → ℕ → State C
  after_advance s e = record s {
    control = k.credit s.control (e - s.proved);
    claims = kept_by (on (ends_past e)) s.claims;
    settled = (s.settled + sum_of (on (ends_by e)) nonce s.claims) % 2 ^ 64;
    proved = e;
    duplicates = 0;
    due = false;
  }

  -- a duplicate counted for the claim at o, and whether it is the third
  abbrev pub after_duplicate : State C → ℕ → Bool → State C
  after_duplicate s o third = record s {
    control = cond third (k.loss s.control (in_flight s)) s.control;
    claims = spend o s.claims;
    duplicates = s.duplicates + 1;
    due = third || s.due;
  }

  abbrev pub after_timeout : State C → State C
  after_timeout s = record s { control = k.timeout s.control (in_flight s); duplicates = 0; due = true }

  -- a duplicate that is counted for the claim at o; the third tells a loss
  abbrev pub duplicate_counted : State C → ℕ → Reply C
  duplicate_counted s o =
      let third : Bool = nat_eq s.duplicates 2 in
      record { answer = cond third (lost o) (counted o); state = after_duplicate s o third }

  -- an acknowledgement that passed its checks, and whether it ends beyond the proved end
  abbrev pub acknowledged : State C → ℕ → ℕ → Bool → Reply C
  acknowledged s e x true = record { answer = advanced; state = after_advance s e }
  acknowledged s e x false = duplicate_counted s (oldest (unspent s.proved x) s.claims)

  -- a call that passed its checks
  abbrev pub accepted : State C → Call → Reply C
  accepted s (send l) = record { answer = sent (next s l); state = after_send s (next s l) }
  accepted s (acknowledge e m x) = acknowledged s e x (nat_lt s.proved e)
  accepted s timeout = record { answer = expired; state = after_timeout s }
  accepted s take = record { answer = ordered (oldest (λ c. true) s.claims); state = after_take s }
  accepted s (repeat o) = record { answer = repeated (segment_at o s.claims); state = s }
  -- a repeat is due again if the order's claim is the oldest
  accepted s (put_back o) = record { answer = returned o; state = with_due s (s.due || leads (on (starts_at o)) s.claims) }

  -- a refusal changes nothing
  abbrev pub concluded : State C → Call → Option Refusal → Reply C
  concluded s x None = accepted s x
  concluded s x (Some f) = record { answer = refused f; state = s }

  -- what a sender in the state s makes of a call
  abbrev pub reply : State C → Call → Reply C
  reply s x = concluded s x (first_refusal (checks s x))

-- a new sender over a controller and its nonces
abbrev pub opened : {C : Type 0} → C → List ℕ → State C
opened c ws = record { control = c; words = ws; claims = []; settled = 0; sent = 0; proved = 0; duplicates = 0; due = false }
