-- What every list of calls on a new sender adds up to. Assumes nothing.
use Rattle.std.specs.Prelude.{◌≡◌, ℕ, ◌+◌, ◌*◌, ◌^◌, ◌<◌, ◌≤◌, Bool, true, false, cond, ◌&&◌, List, [], ◌∷◌, ◌++◌, length, Some, None, ◌==◌, nat_le, nat_lt, slice_set, Contains}
use Rattle.fault.specs.Refusals.{Refusal}
use Rattle.congestion.specs.Control.{Control}
use Rattle.protocol.specs.declared.segment.Segment.{Segment}
use Rattle.protocol.specs.Lists.{leads}
use Rattle.protocol.specs.Segments.{starts_at}
use Rattle.protocol.specs.Checks.{first_refusal}
use Rattle.protocol.specs.Calls.{State, Call, if_acknowledge, refusal_of}
use Rattle.protocol.specs.Calls.Call.{send, acknowledge, take, repeat}
use Rattle.protocol.specs.Calls.Answer.{sent, advanced, ordered, repeated, refused}
use Rattle.protocol.specs.SenderRules.{allowance}
use Rattle.protocol.specs.History.{History, segments, bytes, upcoming, EndToEnd, farthest, outstanding}
use Rattle.protocol.specs.Signals.{signal_kind, signals, credited_once}
use Rattle.protocol.specs.Signals.Kind.{loss}
use Rattle.protocol.specs.Duplicates.{counted_for, uncounted, oldest_start, beyond, duplicates_since, Counted}
use Rattle.protocol.specs.Grounds.{grounds}
use Rattle.protocol.specs.Runs.{state, answer, history, with_words}

-- the call is an acknowledgement that ends past o and within the bytes sent
abbrev pub reaches : ℕ → Call → History → Bool
reaches o x past = if_acknowledge (λ end sum echo. nat_lt o end && nat_le end (bytes (segments past))) false x

-- one number below 2^64 has the property, and no other
abbrev pub One : (ℕ → Type 0) → Type 0
One P = (v : ℕ) × (v < 2 ^ 64) × P v × ((u : ℕ) → u < 2 ^ 64 → P u → u ≡ v)

-- under the control k, of the sender s
module _ {C : Type 0} (k : Control C) (s : State C) where
  -- none of the calls that followed a send of l bytes, itself after the calls before, reached past the segment's start o
  abbrev pub Unreached : List Call → ℕ → ℕ → List Call → Type 0
  Unreached before l o [] = Unit {0}
  Unreached before l o (x ∷ after) = (reaches o x (history k s (after ++ (send l ∷ before))) ≡ false) × Unreached before l o after

  -- with v for the summed nonce of that send's segment, and all other words and all calls the same, the call x is not refused
  abbrev pub Passes : List Call → ℕ → List Call → Call → ℕ → Type 0
  Passes before l after x v =
      let drawn : ℕ = 2 * length (segments (history k s before)) in
      refusal_of (answer k (with_words s (slice_set s.words drawn v)) (after ++ (send l ∷ before)) x) ≡ None

  -- Each promise is for every list of calls on the sender, in any order, refused calls among them, and for every call after it. An
  -- order in the list may name any start at all, so also one that another sender gave out. A finished sender is one that
  -- is sent no more: its lists are those without a send after some point, and are all among these.
  -- E is `farthest (history k s calls)`.
  pub record Promises : Type 0 where
    -- Only the agreed refusals: a call is refused on the first of its grounds that holds, by that number and those places, and on no other
    pub no_other_refusal : (calls : List Call) (x : Call) →
        refusal_of (answer k s calls x) ≡ first_refusal (grounds k s.control s.words (history k s calls) x)
    -- A refused call changes nothing
    pub refusal_changes_nothing : (calls : List Call) (x : Call) (f : Refusal) → answer k s calls x ≡ refused f → state k s (x ∷ calls) ≡ state k s calls
    -- The sender's own proved end is E
    pub proved_is_farthest : (calls : List Call) → (state k s calls).proved ≡ farthest (history k s calls)
    -- The bytes that it counts as sent are those of the segments that it answered
    pub sent_is_bytes : (calls : List Call) → (state k s calls).sent ≡ bytes (segments (history k s calls))
    -- End to end: the segments lie one after another from the first byte of the stream on, without gap or overlap, and none is empty
    pub end_to_end : (calls : List Call) → EndToEnd 0 (segments (history k s calls))
    -- Two words each: a send answers a segment of the length asked for, with the next two words as its summed and its single nonce
    pub two_words_each : (calls : List Call) (l : ℕ) (g : Segment) → answer k s calls (send l) ≡ sent g → g ≡ upcoming s.words (history k s calls) l
    -- Single credit: the controller stands where a single credit of E's rise since the start or the last signal puts it
    pub single_credit : (calls : List Call) → (state k s calls).control ≡ credited_once k s.control (history k s calls)
    -- Never wider: of two lists on senders that start alike but for their words, and that agree in their signals one by one (kind, E
    -- and bytes sent), the one with the lower E has no wider window
    pub never_wider : (calls others : List Call) (ws : List ℕ) →
        let other : State C = with_words s ws in
        signals (history k s calls) ≡ signals (history k other others) →
        farthest (history k s calls) ≤ farthest (history k other others) →
        k.window (state k s calls).control ≤ k.window (state k other others).control
    -- An acknowledgement that is not refused and ends past E advances
    pub advances_past : (calls : List Call) (e m x : ℕ) → refusal_of (answer k s calls (acknowledge e m x)) ≡ None →
        farthest (history k s calls) < e → answer k s calls (acknowledge e m x) ≡ advanced
    -- Oldest first: one that is not refused and ends at E is a duplicate, and is counted for the oldest segment that starts beyond
    -- E, carries its echo and was not counted before
    pub oldest_first : (calls : List Call) (e m x : ℕ) → refusal_of (answer k s calls (acknowledge e m x)) ≡ None →
        let h : History = history k s calls in
        e ≡ farthest h → counted_for (answer k s calls (acknowledge e m x)) ≡ Some (oldest_start (uncounted h x) (segments h))
    -- The third tells a loss: it does if two were counted since the last advance or timeout, and only then
    pub third_tells_loss : (calls : List Call) (e m x : ℕ) → refusal_of (answer k s calls (acknowledge e m x)) ≡ None →
        let h : History = history k s calls in
        e ≡ farthest h → signal_kind (answer k s calls (acknowledge e m x)) ≡ cond (duplicates_since h == 2) (Some loss) None
    -- Counted once: a segment counts for one duplicate at most, by its own echo, and only while it starts beyond E
    pub counted_once : (calls : List Call) (x : Call) (o : ℕ) → counted_for (answer k s calls x) ≡ Some o → Counted (history k s calls) x o
    -- Bounded: the allowance exceeds the window by at most one segment size for each segment that starts beyond E
    pub bounded : (calls : List Call) →
        allowance k (state k s calls) ≤ k.window (state k s calls).control + k.segment s.control * beyond (history k s calls)
    -- An order names the oldest outstanding segment
    pub orders_the_oldest : (calls : List Call) (o : ℕ) → answer k s calls take ≡ ordered o → leads (starts_at o) (outstanding (history k s calls)) ≡ true
    -- A repeat answers the outstanding segment that its order names, as it was sent
    pub repeats_as_sent : (calls : List Call) (o : ℕ) (g : Segment) → answer k s calls (repeat o) ≡ repeated g →
        Contains (outstanding (history k s calls)) g × (g.start ≡ o)
    -- One value: take any segment g that a send answered, and the first acknowledgement after it that ends past g's start and within the
    -- bytes sent. Of the 2^64 values of g's summed nonce, all else equal, exactly one gets that acknowledgement accepted
    pub one_value : (before after : List Call) (l e m x : ℕ) (g : Segment) →
        answer k s before (send l) ≡ sent g →
        Unreached before l g.start after →
        g.start < e →
        e ≤ bytes (segments (history k s (after ++ (send l ∷ before)))) →
        m < 2 ^ 64 →
        One (Passes before l after (acknowledge e m x))
