-- What duplicates were counted for, and when a repeat is due. Assumes nothing.
use Rattle.std.specs.Prelude.{◌≡◌, ℕ, ◌+◌, ◌<◌, Bool, true, false, cond, not, ◌&&◌, ◌||◌, List, [], ◌∷◌, Some, None, Option, nat_eq, nat_lt}
use Rattle.protocol.specs.declared.segment.Segment.{Segment}
use Rattle.protocol.specs.Lists.{any, leads, count, member}
use Rattle.protocol.specs.Segments.{starts_at, echoed_past}
use Rattle.protocol.specs.Calls.{Call, Answer, if_acknowledge}
use Rattle.protocol.specs.Calls.Answer.{sent, advanced, counted, lost, expired, ordered, repeated, returned, refused}
use Rattle.protocol.specs.History.{History, segments, farthest, outstanding}

-- the start of the segment that a duplicate was counted for
abbrev pub counted_for : Answer → Option ℕ
counted_for (sent g) = None
counted_for advanced = None
counted_for (counted o) = Some o
counted_for (lost o) = Some o
counted_for expired = None
counted_for (ordered o) = None
counted_for (repeated g) = None
counted_for (returned o) = None
counted_for (refused f) = None

-- the starts of all segments that duplicates were counted for
abbrev pub starts_counted : History → List ℕ
starts_counted [] = []
starts_counted (e ∷ past) = elim (counted_for e.answer) [ None ↦ starts_counted past | Some o ↦ o ∷ starts_counted past ]

-- the segment starts beyond E and carries the echo x; and none was counted for it before
abbrev pub echoed : History → ℕ → Segment → Bool
echoed h x = echoed_past (farthest h) x

abbrev pub uncounted : History → ℕ → Segment → Bool
uncounted h x g = echoed h x g && not (member g.start (starts_counted h))

-- the start of the oldest segment that passes a test, or 0 where none does
abbrev pub oldest_start : (Segment → Bool) → List Segment → ℕ
oldest_start p [] = 0
oldest_start p (g ∷ gs) = cond (p g) g.start (oldest_start p gs)

-- how many segments start beyond E
abbrev pub beyond : History → ℕ
beyond h = count (λ g. nat_lt (farthest h) g.start) (segments h)

-- the duplicates counted since the last advance or timeout
abbrev pub duplicates_since : History → ℕ
duplicates_since [] = 0
duplicates_since (e ∷ past) = elim e.answer [
  | sent g ↦ duplicates_since past
  | advanced ↦ 0
  | counted o ↦ duplicates_since past + 1
  | lost o ↦ duplicates_since past + 1
  | expired ↦ 0
  | ordered o ↦ duplicates_since past
  | repeated g ↦ duplicates_since past
  | returned o ↦ duplicates_since past
  | refused f ↦ duplicates_since past
]

-- there was a loss, a timeout, or the oldest outstanding segment's order put back, and neither an advance nor an order since
abbrev pub repeat_due : History → Bool
repeat_due [] = false
repeat_due (e ∷ past) = elim e.answer [
  | sent g ↦ repeat_due past
  | advanced ↦ false
  | counted o ↦ repeat_due past
  | lost o ↦ true
  | expired ↦ true
  | ordered o ↦ false
  | repeated g ↦ repeat_due past
  | returned o ↦ repeat_due past || leads (starts_at o) (outstanding past)
  | refused f ↦ repeat_due past
]

-- the call is an acknowledgement that echoes the segment's single nonce
abbrev pub echoes : Call → Segment → Bool
echoes x g = if_acknowledge (λ end sum echo. nat_eq g.single echo) false x

-- the call is counted for the segment at o, rightly
pub record Counted (past : History) (x : Call) (o : ℕ) : Type 0 where
  -- the segment starts beyond E
  pub beyond_proved : farthest past < o
  -- no call before was counted for it
  pub first_time : member o (starts_counted past) ≡ false
  -- it was sent, and the call echoes its single nonce
  pub by_its_echo : any (λ g. starts_at o g && echoes x g) (segments past) ≡ true
