-- A history: calls on a sender with their answers, and what they tell of the stream. Assumes nothing.
use Rattle.std.specs.Prelude.{◌≡◌, ℕ, ◌+◌, ◌*◌, ◌%◌, ◌^◌, ◌<◌, max, Bool, cond, ◌&&◌, List, [], ◌∷◌, ◌++◌, length, Some, None, Option, ◌==◌, nat_le, slice_index, sum_by}
use Rattle.protocol.specs.declared.segment.Segment.{Segment}
use Rattle.protocol.specs.Lists.{sum_of, kept_by}
use Rattle.protocol.specs.Segments.{finish, begun_before, ends_past}
use Rattle.protocol.specs.Calls.{Call, Answer, if_acknowledge}
use Rattle.protocol.specs.Calls.Answer.{sent, advanced, counted, lost, expired, ordered, repeated, returned, refused}

pub record Entry : Type 0 where
  pub call : Call
  pub answer : Answer

-- the newest entry first, so that what follows an entry is its past
abbrev pub History : Type 0
History = List Entry

abbrev pub noted : Call → Answer → History → History
noted x a past = record { call = x; answer = a } ∷ past

-- the segment that a send made
abbrev pub made : Answer → Option Segment
made (sent g) = Some g
made advanced = None
made (counted o) = None
made (lost o) = None
made expired = None
made (ordered o) = None
made (repeated g) = None
made (returned o) = None
made (refused f) = None

-- the segments sent, the oldest first
abbrev pub segments : History → List Segment
segments [] = []
segments (e ∷ past) = elim (made e.answer) [ None ↦ segments past | Some g ↦ segments past ++ (g ∷ []) ]

-- how many bytes they have
abbrev pub bytes : List Segment → ℕ
bytes gs = sum_by (λ (g : Segment). g.length) gs

-- the segment that a send of l bytes would make of the words ws: it starts at the bytes sent, and its two nonces come next
abbrev pub upcoming : List ℕ → History → ℕ → Segment
upcoming ws h l =
    let n : ℕ = 2 * length (segments h) in
    record { start = bytes (segments h); length = l; summed = slice_index ws n; single = slice_index ws (n + 1) }

-- from the byte o of the stream on, each starts where the one before it ends, and none is empty
abbrev pub EndToEnd : ℕ → List Segment → Type 0
EndToEnd o [] = Unit {0}
EndToEnd o (g ∷ gs) = (g.start ≡ o) × (0 < g.length) × EndToEnd (finish g) gs

-- the sum modulo 2^64 of all segments begun before an end
abbrev pub sum_before : ℕ → List Segment → ℕ
sum_before e gs = sum_of (begun_before e) (λ g. g.summed) gs % 2 ^ 64

-- an acknowledgement of e with the sum m is true: it ends within the bytes sent, with the sum of all segments begun before its end
abbrev pub is_true : History → ℕ → ℕ → Bool
is_true past e m = nat_le e (bytes (segments past)) && m == sum_before e (segments past)

-- E: the farthest end of a true acknowledgement so far, or 0. It looks at the calls, and never at what they were answered
abbrev pub farthest : History → ℕ
farthest [] = 0
farthest (e ∷ past) =
    if_acknowledge (λ end sum echo. cond (is_true past end sum) (max end (farthest past)) (farthest past)) (farthest past) e.call

-- the segments that are not acknowledged to their end, the oldest first
abbrev pub outstanding : History → List Segment
outstanding h = kept_by (ends_past (farthest h)) (segments h)
