-- The sender with another summed nonce in one of its claims: until an acknowledgement ends past that claim's start, nothing else differs. Assumes nothing.
use Rattle.std.proofs.Common.{◌≡◌, ℕ, ◌+◌, ◌*◌, ◌<◌, ◌≤◌, Bool, true, false, cond, eqb, ltb, List, [], ◌∷◌, map, length, get_or, drop, set, All, Some, None, refl, ◌∙◌, ⊎_elim, arith}
use Rattle.std.proofs.lemmas.List.{length-map, length-drop, length-set, length_push, map-append, drop-drop, get_or-drop, get_or-set_same, get_or-set_other}
use Rattle.std.proofs.lemmas.List.Elements.{All-map, All-filter}
use Rattle.std.proofs.lemmas.Bool.{lt-ltb, cases_lt}
use Rattle.std.proofs.lemmas.Bool.Decides.{nat_tests}
use Rattle.congestion.specs.Control.{Control}
use Rattle.protocol.specs.declared.segment.Segment.{Segment}
use Rattle.protocol.specs.declared.segment.Claim.{Claim}
use Rattle.protocol.specs.Lists.{kept_by}
use Rattle.protocol.specs.Segments.{begun_before, ends_by, ends_past, starts_at, echoed_past}
use Rattle.protocol.specs.Claims.{on, nonce, unspent, oldest}
use Rattle.protocol.specs.Checks.{first_refusal}
use Rattle.protocol.specs.Calls.{Call, State, Reply, if_acknowledge}
use Rattle.protocol.specs.Calls.Call.{send, acknowledge, repeat, put_back}
use Rattle.protocol.specs.Calls.Answer.{counted, lost}
use Rattle.protocol.specs.SenderRules.{checks, acknowledged, accepted, concluded, reply}
use Rattle.protocol.specs.History.{History, noted, segments}
use Rattle.protocol.specs.Duplicates.{starts_counted}
use Rattle.protocol.specs.Promises.{reaches}
use Rattle.protocol.proofs.Lists.{sum_of-map, sum_agree, map-map, any-map, leads-map, kept_map}
use Rattle.protocol.proofs.ClaimTable.{ClaimTable, Lies, claim}

-- v for the summed nonce of the claim at o
abbrev pub renonced : ℕ → ℕ → Claim → Claim
renonced o v c = record c { segment = record c.segment { summed = cond (on (starts_at o) c) v (nonce c) } }

-- and the words vs still to come
abbrev pub other : {C : Type 0} → ℕ → ℕ → List ℕ → State C → State C
other o v vs s = record s { words = vs; claims = map (renonced o v) s.claims }

-- an acknowledgement ends at o or before
abbrev Upto : ℕ → Call → Type 0
Upto o x = if_acknowledge (λ e m y. e ≤ o) (Unit {0}) x

-- by a test that does not look at the summed nonce, the oldest claim is the same
oldest_renonced : (o v : ℕ) (p : Claim → Bool) → ((c : Claim) → p (renonced o v c) ≡ p c) → (cs : List Claim) → oldest p (map (renonced o v) cs) ≡ oldest p cs
oldest_renonced o v p blind [] = refl
oldest_renonced o v p blind (c ∷ cs) = rw (blind c, oldest_renonced o v p blind cs) refl

module _ {C : Type 0} {ws : List ℕ} {s : State C} {gs : List Segment} {os : List ℕ} (t : ClaimTable ws s gs os) where
  claims_lie : All (λ c. Lies s.sent c.segment) s.claims
  claims_lie = rw t.claims (All-map (λ c. Lies s.sent c.segment) (claim os) (kept_by (ends_past s.proved) gs) (All-filter (ends_past s.proved) (Lies s.sent) gs t.lie))

-- N segments were sent before the one at o, which is to draw v
module _ {C : Type 0} (k : Control C) (o v N : ℕ) (ws : List ℕ) (room : 2 * N < length ws) where
  abbrev pub left : History → List ℕ
  left h = drop (2 * length (segments h)) (set ws (2 * N) v)

  module _ {s : State C} (h : History) (t : ClaimTable ws s (segments h) (starts_counted h)) (placed : eqb (length (segments h)) N ≡ eqb s.sent o) where
    abbrev now : State C
    now = other o v (left h) s

    abbrev after : Call → Reply C → State C
    after x r = other o v (left (noted x r.answer h)) r.state

    first_word : get_or (left h) 0 0 ≡ cond (eqb s.sent o) v (get_or s.words 0 0)
    first_word =
        let here = get_or-set_same ws (2 * N) v 0 room in
        let there = get_or-set_other ws (2 * N) (2 * length (segments h) + 0) v 0 in
        rw (t.words, ← placed) (simp get_or-drop (grind (arith, nat_tests)))

    second_word : get_or (left h) 1 0 ≡ get_or s.words 1 0
    second_word = rw t.words (simp get_or-drop (get_or-set_other ws (2 * N) (2 * length (segments h) + 1) v 0 (omega arith)))

    same_first : (x : Call) → Upto o x → first_refusal (checks k now x) ≡ first_refusal (checks k s x)
    same_first (send l) upto = rw (length-map, t.words) (simp (length-drop, length-set))
    same_first (acknowledge e m x) upto =
        let summed = sum_of-map (renonced o v) (on (begun_before e)) nonce s.claims ∙ sum_agree _ (λ d. cond (on (begun_before e) d) (nonce d) 0) s.claims (λ i d within. grind (arith, nat_tests)) in
        rw (summed, any-map (renonced o v) (on (echoed_past s.proved x)), any-map (renonced o v) (unspent s.proved x)) refl
    same_first (repeat q) upto = rw (any-map (renonced o v) (on (starts_at q))) refl
    same_first x upto = refl

    same_accepted : (x : Call) → Upto o x → (accepted k now x).state ≡ after x (accepted k s x)
    same_accepted (send l) upto =
        let drawn : 2 * (length (segments h) + 1) ≡ 2 * length (segments h) + 2 = omega arith in
        rw (first_word, second_word, map-append, drop-drop, length_push, drawn) refl
    same_accepted (acknowledge e m x) upto = go (ltb s.proved e)
      where
        go : (past : Bool) → (acknowledged k now e x past).state ≡ after (acknowledge e m x) (acknowledged k s e x past)
        go true =
            let summed = sum_of-map (renonced o v) (on (ends_by e)) nonce s.claims ∙ sum_agree _ (λ d. cond (on (ends_by e) d) (nonce d) 0) s.claims (λ i d within. let lies = claims_lie t i d within in grind (arith, nat_tests)) in
            rw (summed, kept_map (renonced o v) (on (ends_past e))) refl
        go false =
            let q = oldest (unspent s.proved x) s.claims in
            let none : segments (noted (acknowledge e m x) (cond (eqb s.duplicates 2) (lost q) (counted q)) h) ≡ segments h = grind arith in
            rw (oldest_renonced o v (unspent s.proved x) (λ c. refl), none, map-map, map-map) refl
    same_accepted (put_back q) upto = rw (leads-map (renonced o v) (on (starts_at q))) refl
    same_accepted x upto = refl

    same_reply : (x : Call) → Upto o x → (reply k now x).state ≡ after x (reply k s x)
    same_reply x upto = rw (same_first x upto)
        (elim (first_refusal (checks k s x)) as (λ f. (concluded k now x f).state ≡ after x (concluded k s x f)) [ None ↦ same_accepted x upto | Some f ↦ refl ])

    -- an end past o that lies beyond the bytes sent is refused by both
    pub other_reply : (x : Call) → reaches o x h ≡ false → (reply k now x).state ≡ after x (reply k s x)
    other_reply (acknowledge e m x) quiet = ⊎_elim
        (λ past. rw (lt-ltb s.sent e past) refl)
        (λ within. same_reply (acknowledge e m x) (grind (arith, nat_tests, t.sent)))
        (cases_lt s.sent e)
    other_reply x quiet = same_reply x tt
