-- What the reply to a call may be, with what its checks have told by then: all later lemmas go by these cases, and by the last two lemmas. Assumes nothing.
use Rattle.std.proofs.Common.{◌≡◌, ℕ, ◌<◌, ◌≤◌, Bool, true, false, cond, ◌&&◌, ◌||◌, eqb, ltb, List, [], ◌∷◌, length, Some, None, Option, refl, arith}
use Rattle.std.proofs.lemmas.Bool.Decides.{nat_tests}
use Rattle.fault.specs.Refusals.{Refusal}
use Rattle.congestion.specs.Control.{Control}
use Rattle.protocol.specs.declared.segment.Segment.{Segment}
use Rattle.protocol.specs.declared.segment.Claim.{Claim}
use Rattle.protocol.specs.Lists.{any, leads}
use Rattle.protocol.specs.Segments.{starts_at}
use Rattle.protocol.specs.Claims.{on, unspent, oldest, segment_at}
use Rattle.protocol.specs.Checks.{first_refusal}
use Rattle.protocol.specs.Calls.{Call, State, Reply, if_acknowledge}
use Rattle.protocol.specs.Calls.Call.{send, acknowledge, timeout, take, repeat, put_back}
use Rattle.protocol.specs.Calls.Answer.{sent, advanced, counted, lost, expired, ordered, repeated, returned, refused}
use Rattle.protocol.specs.SenderRules.{true_sum, next, after_send, with_due, checks, after_advance, after_duplicate, after_timeout, acknowledged, accepted, concluded, reply}

module _ {C : Type 0} where
  -- the call proves no end beyond the proved one
  abbrev pub Idle : State C → Call → Type 0
  Idle s x = if_acknowledge (λ e m y. e ≤ s.sent → m ≡ true_sum s e → e ≤ s.proved) (Unit {0}) x

  -- an unspent claim at o carries the echo x
  abbrev pub Found : State C → ℕ → ℕ → Type 0
  Found s x o = any (λ c. on (starts_at o) c && unspent s.proved x c) s.claims ≡ true

  pub data Step (k : Control C) (s : State C) : Call → Reply C → Type 0 where
    refuses : {x : Call} {f : Refusal} → Idle s x → Step k s x (record { answer = refused f; state = s })
    sends : {l : ℕ} → 0 < l → 2 ≤ length s.words → Step k s (send l) (record { answer = sent (next s l); state = after_send s (next s l) })
    advances : {e m x : ℕ} → s.proved < e → e ≤ s.sent → m ≡ true_sum s e → Step k s (acknowledge e m x) (record { answer = advanced; state = after_advance k s e })
    counts : {e m x : ℕ} (o : ℕ) (third : Bool) → e ≡ s.proved → Found s x o →
        Step k s (acknowledge e m x) (record { answer = cond third (lost o) (counted o); state = after_duplicate k s o third })
    expires : s.proved < s.sent → Step k s timeout (record { answer = expired; state = after_timeout k s })
    orders : {o : ℕ} → Step k s take (record { answer = ordered o; state = with_due s false })
    repeats : {o : ℕ} → Step k s (repeat o) (record { answer = repeated (segment_at o s.claims); state = s })
    returns : {o : ℕ} → Step k s (put_back o) (record { answer = returned o; state = with_due s (s.due || leads (on (starts_at o)) s.claims) })

oldest_passes : (p : Claim → Bool) (cs : List Claim) → any p cs ≡ true → any (λ c. on (starts_at (oldest p cs)) c && p c) cs ≡ true
oldest_passes p [] some = some
oldest_passes p (c ∷ cs) some = let rest = oldest_passes p cs in grind (arith, nat_tests)

module _ {C : Type 0} (k : Control C) (s : State C) where
  idle : (x : Call) {f : Refusal} → first_refusal (checks k s x) ≡ Some f → Idle s x
  idle (acknowledge e m x) some = λ within same. grind (arith, nat_tests)
  idle other some = tt

  accepts : (x : Call) → first_refusal (checks k s x) ≡ None → Step k s x (accepted k s x)
  accepts (send l) none = sends (grind (arith, nat_tests)) (grind (arith, nat_tests))
  accepts (acknowledge e m x) none = go (ltb s.proved e) refl
    where
      go : (past : Bool) → ltb s.proved e ≡ past → Step k s (acknowledge e m x) (acknowledged k s e x past)
      go true past = advances (grind (arith, nat_tests)) (grind (arith, nat_tests)) (grind (arith, nat_tests))
      go false past =
          let level : e ≡ s.proved = grind (arith, nat_tests) in
          counts (oldest (unspent s.proved x) s.claims) (eqb s.duplicates 2) level (oldest_passes (unspent s.proved x) s.claims (grind (arith, nat_tests)))
  accepts timeout none = expires (grind (arith, nat_tests))
  accepts take none = orders
  accepts (repeat o) none = repeats
  accepts (put_back o) none = returns

  pub step : (x : Call) → Step k s x (reply k s x)
  step x = go (first_refusal (checks k s x)) refl
    where
      go : (f : Option Refusal) → first_refusal (checks k s x) ≡ f → Step k s x (concluded k s x f)
      go None none = accepts x none
      go (Some f) some = refuses (idle x some)

  -- what the checks of a take and of a repeat tell stands here and not in the cases, so that what each call keeps is proved without it

  -- an order is made only while a repeat is due, and is the rule's
  pub orders_so : (o : ℕ) → (reply k s take).answer ≡ ordered o → (s.due ≡ true) × ((accepted k s take).answer ≡ ordered o)
  orders_so o is = (grind arith, grind arith)

  -- a repeat is answered only if a claim starts at o, and by the rule
  pub repeats_so : (o : ℕ) (g : Segment) → (reply k s (repeat o)).answer ≡ repeated g → (any (on (starts_at o)) s.claims ≡ true) × ((accepted k s (repeat o)).answer ≡ repeated g)
  repeats_so o g is = (grind arith, grind arith)
