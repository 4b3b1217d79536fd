-- Where its signals and the proved end leave a lawful controller: the only place that the laws are used. Assumes nothing.
use Rattle.std.proofs.Common.{◌≡◌, ℕ, ◌-◌, ◌≤◌, true, List, ◌∷◌, ap, ◌∙◌, arith}
use Rattle.std.proofs.Math.Nat.{sub_self}
use Rattle.congestion.specs.Control.{Control, Lawful}
use Rattle.protocol.specs.Calls.{Call, State, Reply}
use Rattle.protocol.specs.SenderRules.{in_flight}
use Rattle.protocol.specs.History.{History, noted, segments, bytes, farthest}
use Rattle.protocol.specs.Signals.{Kind, Signal, signals, proved_then, signalled, after_signals, credited_once}
use Rattle.protocol.specs.Signals.Kind.{loss, expiry}
use Rattle.protocol.proofs.Steps.{Step}
use Rattle.protocol.proofs.Steps.Step.{advances, counts, expires}

-- a controller that started as c stands as d, with a single credit since the last of the signals given
pub record Steered {C : Type 0} (k : Control C) (c d : C) (proved : ℕ) (given : List Signal) : Type 0 where
  pub risen : proved_then given ≤ proved
  pub credited : d ≡ k.credit (after_signals k c given) (proved - proved_then given)
  pub size : k.segment d ≡ k.segment c

module _ {C : Type 0} {k : Control C} (laws : Lawful k) where
  signalled_keeps : (kind : Kind) (d : C) (f : ℕ) → k.segment (signalled k kind d f) ≡ k.segment d
  signalled_keeps loss = laws.loss_keeps
  signalled_keeps expiry = laws.timeout_keeps

  module _ {c : C} (s : State C) (h : History) (i : Steered k c s.control s.proved (signals h)) (proved : s.proved ≡ farthest h) (sent : s.sent ≡ bytes (segments h)) where
    -- two credits are one
    credited_more : (e : ℕ) → s.proved ≤ e → Steered k c (k.credit s.control (e - s.proved)) e (signals h)
    credited_more e past = record {
      risen = omega (arith, i.risen);
      credited = rw (i.credited, laws.together) (ap (k.credit (after_signals k c (signals h))) (omega (arith, i.risen)));
      size = laws.credit_keeps _ _ ∙ i.size;
    }

    -- after a signal nothing is credited yet
    tells_now : (kind : Kind) → Steered k c (signalled k kind s.control (in_flight s)) s.proved (record { kind = kind; proved = farthest h; sent = bytes (segments h) } ∷ signals h)
    tells_now kind = record {
      risen = omega (arith, proved);
      credited = rw (← proved, ← sent, sub_self, laws.nothing) (ap (λ d. signalled k kind d (in_flight s)) i.credited);
      size = signalled_keeps kind _ _ ∙ i.size;
    }

    pub keeps_steered : {x : Call} {r : Reply C} → Step k s x r → Steered k c r.state.control r.state.proved (signals (noted x r.answer h))
    keeps_steered (advances {e} past within same) = credited_more e (omega arith)
    keeps_steered (counts o true level found) = tells_now loss
    keeps_steered (expires past) = tells_now expiry
    keeps_steered other = i

  wider_credit : (d : C) (a b : ℕ) → a ≤ b → k.window (k.credit d a) ≤ k.window (k.credit d b)
  wider_credit d a b less = grind (arith, laws.together d a (b - a), laws.widens (k.credit d a) (b - a))

  -- after the same signals, the farther end has the wider window
  pub wider : (c : C) (h j : History) → signals h ≡ signals j → farthest h ≤ farthest j → k.window (credited_once k c h) ≤ k.window (credited_once k c j)
  wider c h j same less = rw (credited_once, same) (wider_credit _ _ _ (omega arith))
