-- A sender, read as a state of the rules, and what always holds of it. Assumes nothing.
use Rattle.std.specs.Prelude.{◌≡◌, ℕ, ◌^◌, ◌≤◌, true, List, length}
use Rattle.protocol.specs.Calls.{State}
use Rattle.claims.specs.Laid.{laid, spent_of}
use Rattle.sender.specs.declared.sender.Sender.TheInside.{Inside}

-- by the words that its nonce source still has
abbrev pub state_of : {C N S : Type 0} → (N → List ℕ) → Inside C N S → State C
state_of words s = record {
  control = s.controller;
  words = words s.nonces;
  claims = s.table;
  settled = s.settled;
  sent = s.sent;
  proved = s.proved;
  duplicates = s.duplicates;
  due = s.repeat_due;
}

-- what always holds of a sender; each of its calls tells it, since contracts see the state alone
pub record Sound {C : Type 0} (s : State C) : Type 0 where
  -- an end is proved of bytes that were sent
  pub within : s.proved ≤ s.sent
  -- the stream has at most 2^40 bytes
  pub limited : s.sent ≤ 2 ^ 40
  -- the claims lie one after another in the stream, and none is empty
  pub ordered : laid 0 s.claims s.sent ≡ true
  -- and there are at most 64 of them
  pub few : length s.claims ≤ 64
  -- each duplicate has marked a claim of its own
  pub marked : s.duplicates ≤ spent_of s.claims
