-- A segment from its sending until an acknowledgement ends past its start. Assumes nothing.
use Rattle.std.proofs.Common.{◌≡◌, ℕ, ◌*◌, ◌<◌, ◌≤◌, true, false, cond, eqb, List, length, refl, ap, ◌∙◌, arith}
use Rattle.std.proofs.lemmas.List.{length_push, length-drop}
use Rattle.std.proofs.lemmas.List.Sums.{sum_by_push, sum_by-le}
use Rattle.std.proofs.lemmas.Bool.Decides.{nat_tests}
use Rattle.congestion.specs.Control.{Control}
use Rattle.protocol.specs.declared.segment.Segment.{Segment}
use Rattle.protocol.specs.Lists.{count}
use Rattle.protocol.specs.Segments.{starts_at}
use Rattle.protocol.specs.Calls.{Call, State, Reply}
use Rattle.protocol.specs.Calls.Call.{send, acknowledge}
use Rattle.protocol.specs.Calls.Answer.{sent}
use Rattle.protocol.specs.SenderRules.{next}
use Rattle.protocol.specs.History.{History, noted, segments, bytes}
use Rattle.protocol.specs.Duplicates.{starts_counted}
use Rattle.protocol.specs.Promises.{reaches}
use Rattle.protocol.proofs.Steps.{Step}
use Rattle.protocol.proofs.Steps.Step.{refuses, sends, advances, counts}
use Rattle.protocol.proofs.ClaimTable.{ClaimTable}

-- an end past the bytes sent reaches nothing
pub unreached : (o : ℕ) (h : History) (x : Call) → bytes (segments h) ≤ o → reaches o x h ≡ false
unreached o h (acknowledge e m x) short = grind (arith, nat_tests)
unreached o h other short = refl

-- up to the send at o, before which N segments were sent: all N are sent where all bytes before o are
abbrev pub Early : ℕ → ℕ → ℕ → ℕ → Type 0
Early o N n so_far = (n ≤ N) × (so_far ≤ o) × (eqb n N ≡ eqb so_far o)

-- after it, while no acknowledgement has passed o
pub record Held (o N : ℕ) (gs : List Segment) (so_far proved : ℕ) : Type 0 where
  pub later : N < length gs
  pub beyond : o < so_far
  pub unproved : proved ≤ o
  pub one : count (starts_at o) gs ≡ 1

module _ {C : Type 0} {k : Control C} {s : State C} (h : History) where
  pub earlier : {x : Call} {r : Reply C} → Step k s x r → (o N : ℕ) → Early o N (length (segments (noted x r.answer h))) r.state.sent → Early o N (length (segments h)) s.sent
  earlier (sends {l} some enough) o N early = let n = length_push (segments h) (next s l) in (omega arith, omega arith, grind (arith, nat_tests))
  earlier (counts q true level found) o N early = early
  earlier other o N early = early

  module _ {ws : List ℕ} (t : ClaimTable ws s (segments h) (starts_counted h)) where
    -- an answered send: where its segment starts, that there were words for it, and that it is held
    pub drew : {l : ℕ} {r : Reply C} → Step k s (send l) r → {g : Segment} → r.answer ≡ sent g →
        (s.sent ≡ g.start) × (2 * length (segments h) < length ws) × Held g.start (length (segments h)) (segments (noted (send l) r.answer h)) r.state.sent r.state.proved
    drew (refuses idle) is = absurd (grind arith)
    drew (sends {l} some enough) {g} is =
        let same : next s l ≡ g = cc in
        let at : s.sent ≡ g.start = ap (λ f. f.start) same in
        let none = sum_by-le (λ f. cond (starts_at g.start f) 1 0) 0 (segments h) (λ k d within. let lies = t.lie k d within in grind (arith, nat_tests)) in (
          at,
          omega (arith, length-drop (2 * length (segments h)) ws, ap length t.words),
          record {
            later = omega (arith, length_push (segments h) (next s l));
            beyond = omega arith;
            unproved = omega (arith, t.within);
            one = sum_by_push (λ f. cond (starts_at g.start f) 1 0) (segments h) (next s l) ∙ grind (arith, nat_tests);
          },
        )

    pub still_held : {x : Call} {r : Reply C} → Step k s x r → {o N : ℕ} → Held o N (segments h) s.sent s.proved → reaches o x h ≡ false →
        Held o N (segments (noted x r.answer h)) r.state.sent r.state.proved
    still_held (sends {l} some enough) {o} held quiet = record {
      later = omega (arith, length_push (segments h) (next s l), held.later);
      beyond = omega (arith, held.beyond);
      unproved = held.unproved;
      one = let past = held.beyond in sum_by_push (λ f. cond (starts_at o f) 1 0) (segments h) (next s l) ∙ grind (arith, nat_tests, held.one);
    }
    still_held (advances past within same) held quiet = record { later = held.later; beyond = held.beyond; unproved = grind (arith, nat_tests, t.sent); one = held.one }
    still_held (counts q true level found) held quiet = held
    still_held other held quiet = held
