-- What is answered to a send and to an acknowledgement that are not refused. Assumes nothing.
use Rattle.std.proofs.Common.{◌≡◌, ℕ, suc, ◌<◌, Bool, true, false, cond, ◌&&◌, eqb, ltb, List, [], ◌∷◌, map, All, Some, None, refl, add-zero, arith}
use Rattle.std.proofs.lemmas.List.{get_or-drop}
use Rattle.std.proofs.lemmas.Bool.Decides.{nat_tests}
use Rattle.congestion.specs.Control.{Control}
use Rattle.protocol.specs.declared.segment.Segment.{Segment}
use Rattle.protocol.specs.declared.segment.Claim.{Claim}
use Rattle.protocol.specs.Lists.{kept_by}
use Rattle.protocol.specs.Segments.{ends_past}
use Rattle.protocol.specs.Claims.{unspent, oldest}
use Rattle.protocol.specs.Calls.{State, Reply, refusal_of}
use Rattle.protocol.specs.Calls.Call.{send, acknowledge}
use Rattle.protocol.specs.Calls.Answer.{sent, advanced, counted, lost}
use Rattle.protocol.specs.SenderRules.{next, acknowledged, reply}
use Rattle.protocol.specs.History.{History, segments, upcoming, farthest}
use Rattle.protocol.specs.Signals.{signal_kind}
use Rattle.protocol.specs.Signals.Kind.{loss}
use Rattle.protocol.specs.Duplicates.{counted_for, starts_counted, uncounted, oldest_start, duplicates_since}
use Rattle.protocol.proofs.Steps.{Step}
use Rattle.protocol.proofs.Steps.Step.{refuses, sends}
use Rattle.protocol.proofs.ClaimTable.{claim}
use Rattle.protocol.proofs.Invariant.{Follows}
use Rattle.protocol.proofs.Refusals.{accepted_is}

-- the oldest claim that passes is that of the oldest segment that does
oldest_kept : (os : List ℕ) (p : Claim → Bool) (r q : Segment → Bool) (gs : List Segment) → All (λ g. (r g && p (claim os g)) ≡ q g) gs →
    oldest p (map (claim os) (kept_by r gs)) ≡ oldest_start q gs
oldest_kept os p r q [] same = refl
oldest_kept os p r q (g ∷ gs) same =
    let here = same 0 g (omega arith) in
    let rest = oldest_kept os p r q gs (λ k d within. same (suc k) d (omega arith)) in
    grind arith

module _ {C : Type 0} {k : Control C} {c : C} {ws : List ℕ} {s : State C} {h : History} (i : Follows k c ws s h) where
  next_is : (l : ℕ) → next s l ≡ upcoming ws h l
  next_is l = rw (i.table.words, i.table.sent) (simp (get_or-drop, add-zero))

  pub sent_so : {l : ℕ} {r : Reply C} → Step k s (send l) r → (g : Segment) → r.answer ≡ sent g → g ≡ upcoming ws h l
  sent_so (refuses idle) g is = absurd (grind arith)
  sent_so (sends {l} some enough) g is =
      let same : g ≡ next s l = cc in
      rw same (next_is l)

  module _ (e m x : ℕ) (none : refusal_of (reply k s (acknowledge e m x)).answer ≡ None) where
    acknowledged_so : (past : Bool) → ltb (farthest h) e ≡ past → (reply k s (acknowledge e m x)).answer ≡ (acknowledged k s e x past).answer
    acknowledged_so past is = rw (accepted_is k s (acknowledge e m x) none, i.proved, is) refl

    pub advanced_so : farthest h < e → (reply k s (acknowledge e m x)).answer ≡ advanced
    advanced_so past = acknowledged_so true (grind (arith, nat_tests))

    oldest_is : oldest (unspent s.proved x) s.claims ≡ oldest_start (uncounted h x) (segments h)
    oldest_is =
        let same : All (λ g. (ends_past s.proved g && unspent s.proved x (claim (starts_counted h) g)) ≡ uncounted h x g) (segments h) =
        λ j d within. let lies = i.table.lie j d within in grind (arith, nat_tests, i.proved) in
        rw i.table.claims (oldest_kept (starts_counted h) (unspent s.proved x) (ends_past s.proved) (uncounted h x) (segments h) same)

    module _ (level : e ≡ farthest h) where
      abbrev start : ℕ
      start = oldest_start (uncounted h x) (segments h)

      duplicate_so : (reply k s (acknowledge e m x)).answer ≡ cond (eqb (duplicates_since h) 2) (lost start) (counted start)
      duplicate_so = rw (acknowledged_so false (grind (arith, nat_tests)), oldest_is, i.duplicates) refl

      pub oldest_so : counted_for (reply k s (acknowledge e m x)).answer ≡ Some start
      oldest_so = rw duplicate_so (grind arith)

      pub third_so : signal_kind (reply k s (acknowledge e m x)).answer ≡ cond (eqb (duplicates_since h) 2) (Some loss) None
      third_so = rw duplicate_so (grind arith)
