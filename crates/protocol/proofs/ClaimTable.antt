-- The claims of a sender against the segments sent and the starts counted. Assumes nothing.
use Rattle.std.proofs.Common.{◌≡◌, ℕ, ◌+◌, ◌*◌, ◌%◌, ◌^◌, ◌<◌, ◌≤◌, Bool, true, false, cond, not, ◌&&◌, List, [], ◌∷◌, ◌++◌, map, length, get_or, drop, nat_eq, All, sym, refl, ap, ◌∙◌, add-zero, arith}
use Rattle.std.proofs.Math.Nat.{mod-add-mod}
use Rattle.std.proofs.lemmas.List.{map-append, drop-drop, length_push}
use Rattle.std.proofs.lemmas.List.Elements.{filter-append, All-push, All-cons}
use Rattle.std.proofs.lemmas.Map.Views.{any-filter_same}
use Rattle.std.proofs.lemmas.List.Sums.{sum_by_push}
use Rattle.std.proofs.lemmas.List.Filters.{sum_by-filter_both}
use Rattle.std.proofs.lemmas.List.Folds.{Any-from_list_any, list_any_none}
use Rattle.std.proofs.lemmas.Bool.{lt-ltb, lt-leb}
use Rattle.std.proofs.lemmas.Bool.Decides.{nat_tests}
use Rattle.congestion.specs.Control.{Control}
use Rattle.protocol.specs.declared.segment.Segment.{Segment}
use Rattle.protocol.specs.declared.segment.Claim.{Claim}
use Rattle.protocol.specs.Lists.{any, sum_of, member, kept_by}
use Rattle.protocol.specs.Segments.{finish, begun_before, ends_by, ends_past, starts_at, echoed_past}
use Rattle.protocol.specs.Claims.{on, nonce, unspent}
use Rattle.protocol.specs.Calls.{Call, State, Reply}
use Rattle.protocol.specs.SenderRules.{true_sum, after_send, after_advance, after_duplicate}
use Rattle.protocol.specs.History.{History, noted, segments, bytes, sum_before}
use Rattle.protocol.specs.Duplicates.{starts_counted}
use Rattle.protocol.proofs.Lists.{map-map, any-map, kept_map, sum_of-map, kept_twice, sum_agree, sum_kept}
use Rattle.protocol.proofs.Steps.{Step, Found}
use Rattle.protocol.proofs.Steps.Step.{sends, advances, counts}

-- the claim of a segment, spent if its start was counted
abbrev pub claim : List ℕ → Segment → Claim
claim os g = record { segment = g; spent = member g.start os }

-- a segment is not empty, and ends within the bytes sent
abbrev pub Lies : ℕ → Segment → Type 0
Lies sent g = (g.start < finish g) × (finish g ≤ sent)

-- of the words ws, where gs are the segments sent and os the starts counted: the claims are the segments that end past the
-- proved end, each spent if it was counted, and the kept sum is that of the others
pub record ClaimTable {C : Type 0} (ws : List ℕ) (s : State C) (gs : List Segment) (os : List ℕ) : Type 0 where
  pub sent : s.sent ≡ bytes gs
  pub words : s.words ≡ drop (2 * length gs) ws
  pub within : s.proved ≤ s.sent
  pub lie : All (Lies s.sent) gs
  pub seen : All (λ o. o < s.sent) os
  pub claims : s.claims ≡ map (claim os) (kept_by (ends_past s.proved) gs)
  pub settled : s.settled ≡ sum_of (ends_by s.proved) (λ g. g.summed) gs % 2 ^ 64

module _ {C : Type 0} {ws : List ℕ} {s : State C} {gs : List Segment} {os : List ℕ} (t : ClaimTable ws s gs os) where
  -- not acknowledged to the end
  abbrev pub pending : List Segment
  pending = kept_by (ends_past s.proved) gs

  -- the kept sum and the claims make the sum over all segments, for a test that all acknowledged ones pass
  sums : (p : Segment → Bool) → ((g : Segment) → Lies s.sent g → ends_by s.proved g ≡ true → p g ≡ true) →
      (s.settled + sum_of (on p) nonce s.claims) % 2 ^ 64 ≡ sum_of p (λ g. g.summed) gs % 2 ^ 64
  sums p wide =
      let term = λ (g : Segment). cond (p g) g.summed 0 in
      let gone = sum_kept term (ends_by s.proved) gs ∙ sum_agree _ (λ g. cond (ends_by s.proved g) g.summed 0) gs (λ k d within. let w = wide (get_or gs k d) (t.lie k d within) in grind arith) in
      let whole = sum_by-filter_both (ends_by s.proved) (ends_past s.proved) (λ g. grind (arith, nat_tests)) term gs in
      rw (t.settled, t.claims, sum_of-map (claim os) (on p) nonce, mod-add-mod, ← gone, whole) refl

  pub true_sum_is : (e : ℕ) → s.proved ≤ e → true_sum s e ≡ sum_before e gs
  true_sum_is e past = sums (begun_before e) (λ g lies by. grind (arith, nat_tests))

  -- a test of the claims is one of all segments, if only those that are not acknowledged to the end can pass
  pub any_claim : (p : Claim → Bool) → ((g : Segment) → p (claim os g) ≡ true → ends_past s.proved g ≡ true) → any p s.claims ≡ any (λ g. p (claim os g)) gs
  any_claim p past = rw (t.claims, any-map (claim os) p) (any-filter_same (λ g. p (claim os g)) (ends_past s.proved) true past gs)

  -- the segment of a claim that an echo finds
  pub found_segment : (x o : ℕ) → Found s x o → any (λ g. starts_at o g && (echoed_past s.proved x g && not (member g.start os))) gs ≡ true
  found_segment x o found = sym (any_claim (λ c. on (starts_at o) c && unspent s.proved x c) (λ g passes. grind (arith, nat_tests))) ∙ found

  -- it lies beyond the proved end, and was not counted before
  pub found_new : (x o : ℕ) → Found s x o → (o < s.sent) × (s.proved < o) × (member o os ≡ false)
  found_new x o found =
      let (k, g, within, at, passes) = Any-from_list_any _ gs (found_segment x o found) in
      let lies = rw at at (t.lie k g within) in
      grind (arith, nat_tests)

  -- what the table leaves out may change
  unmoved : (c : C) (d : ℕ) (b : Bool) → ClaimTable ws (record s { control = c; duplicates = d; due = b }) gs os
  unmoved c d b = record { sent = t.sent; words = t.words; within = t.within; lie = t.lie; seen = t.seen; claims = t.claims; settled = t.settled }

  sent_table : (g : Segment) → g.start ≡ s.sent → 0 < g.length → ClaimTable ws (after_send s g) (gs ++ (g ∷ [])) os
  sent_table g here some = record {
    sent = omega (arith, sum_by_push (λ (f : Segment). f.length) gs g, t.sent);
    words = rw (t.words, drop-drop, length_push) (ap (λ n. drop n ws) (omega arith));
    within = omega (arith, t.within);
    lie = All-push (Lies (s.sent + g.length)) gs g (λ k d within. let lies = t.lie k d within in omega arith) (omega arith);
    seen = λ k d within. let below = t.seen k d within in omega arith;
    claims =
        let unproved = lt-ltb s.proved (finish g) (omega (arith, t.within)) in
        let fresh = list_any_none (nat_eq g.start) os (λ k d within. let below = t.seen k d within in grind (arith, nat_tests)) in
        rw (t.claims, filter-append (ends_past s.proved) gs (g ∷ []), unproved, map-append, fresh) refl;
    settled = rw (sum_by_push (λ f. cond (ends_by s.proved f) f.summed 0) gs g, lt-leb (finish g) s.proved (omega (arith, t.within)), add-zero) t.settled;
  }

  advanced_table : (k : Control C) (e : ℕ) → s.proved < e → e ≤ s.sent → ClaimTable ws (after_advance k s e) gs os
  advanced_table k e past within = record {
    sent = t.sent;
    words = t.words;
    within = within;
    lie = t.lie;
    seen = t.seen;
    claims = rw (t.claims, kept_map (claim os) (on (ends_past e)), kept_twice (ends_past e) (ends_past s.proved) (λ g by. grind (arith, nat_tests))) refl;
    settled = sums (ends_by e) (λ g lies by. grind (arith, nat_tests));
  }

  counted_table : (k : Control C) (x o : ℕ) (third : Bool) → Found s x o → ClaimTable ws (after_duplicate k s o third) gs (o ∷ os)
  counted_table k x o third found = record {
    sent = t.sent;
    words = t.words;
    within = t.within;
    lie = t.lie;
    seen = All-cons (λ p. p < s.sent) o os (found_new x o found).0 t.seen;
    claims = rw (t.claims, map-map) refl;
    settled = t.settled;
  }

module _ {C : Type 0} {k : Control C} {ws : List ℕ} {s : State C} (h : History) (t : ClaimTable ws s (segments h) (starts_counted h)) where
  pub keeps_table : {x : Call} {r : Reply C} → Step k s x r → ClaimTable ws r.state (segments (noted x r.answer h)) (starts_counted (noted x r.answer h))
  keeps_table (sends some enough) = sent_table t _ refl some
  keeps_table (advances past within same) = advanced_table t k _ past within
  keeps_table (counts {x} o true level found) = counted_table t k x o true found
  keeps_table (counts {x} o false level found) = counted_table t k x o false found
  keeps_table other = unmoved t _ _ _
