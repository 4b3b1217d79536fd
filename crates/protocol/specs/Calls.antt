-- What a sender is, what may be called and what is answered. Assumes nothing.
use Rattle.std.specs.Prelude.{ℕ, Bool, List, Some, None, Option}
use Rattle.fault.specs.Refusals.{Refusal}
use Rattle.protocol.specs.declared.segment.Segment.{Segment}
use Rattle.protocol.specs.declared.segment.Claim.{Claim}

pub record State (C : Type 0) : Type 0 where
  -- the condition of the controller, and the nonces still to come
  pub control : C
  pub words : List ℕ
  -- the outstanding segments, the oldest first; and the sum of the summed nonces of those that are no more
  pub claims : List Claim
  pub settled : ℕ
  -- the bytes sent; the proved end, up to which all is acknowledged; the duplicates counted since the last advance or timeout
  pub sent : ℕ
  pub proved : ℕ
  pub duplicates : ℕ
  -- a repeat of the oldest claim is due
  pub due : Bool

-- send takes a length, acknowledge an end, a sum and an echo, repeat and put_back the start that their order names
pub data Call : Type 0 where
  send : ℕ → Call
  acknowledge : ℕ → ℕ → ℕ → Call
  timeout : Call
  take : Call
  repeat : ℕ → Call
  put_back : ℕ → Call

-- what is said of an acknowledgement by its end, sum and echo, and what is said of any other call
abbrev pub if_acknowledge {ℓ} : {A : Type ℓ} → (ℕ → ℕ → ℕ → A) → A → Call → A
if_acknowledge said otherwise (send l) = otherwise
if_acknowledge said otherwise (acknowledge e m x) = said e m x
if_acknowledge said otherwise timeout = otherwise
if_acknowledge said otherwise take = otherwise
if_acknowledge said otherwise (repeat o) = otherwise
if_acknowledge said otherwise (put_back o) = otherwise

-- sent g              to a send: the segment
-- advanced            to an acknowledgement beyond the proved end
-- counted o           to a duplicate that is counted for the segment at o
-- lost o              the same, and the controller was told of a loss
-- expired             to a timeout
-- ordered o           to a take: the order for the segment at o
-- repeated g          to a repeat: the segment
-- returned o          to a put back: the order for the segment at o is spent unused
-- refused f           to any
pub data Answer : Type 0 where
  sent : Segment → Answer
  advanced : Answer
  counted : ℕ → Answer
  lost : ℕ → Answer
  expired : Answer
  ordered : ℕ → Answer
  repeated : Segment → Answer
  returned : ℕ → Answer
  refused : Refusal → Answer

-- the refusal that an answer is, if it is one
abbrev pub refusal_of : Answer → Option Refusal
refusal_of (sent g) = None
refusal_of advanced = None
refusal_of (counted o) = None
refusal_of (lost o) = None
refusal_of expired = None
refusal_of (ordered o) = None
refusal_of (repeated g) = None
refusal_of (returned o) = None
refusal_of (refused f) = Some f

pub record Reply (C : Type 0) : Type 0 where
  pub answer : Answer
  pub state : State C
