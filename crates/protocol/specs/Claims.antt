-- The claims of a sender, the oldest first. Assumes nothing.
use Rattle.std.specs.Prelude.{ℕ, Bool, false, cond, not, ◌&&◌, ◌||◌, List, [], ◌∷◌, map}
use Rattle.protocol.specs.declared.segment.Segment.{Segment}
use Rattle.protocol.specs.declared.segment.Claim.{Claim}
use Rattle.protocol.specs.Segments.{starts_at, echoed_past}

-- a claim for a segment that was just sent
abbrev pub claim_for : Segment → Claim
claim_for g = record { segment = g; spent = false }

-- a test of a claim's segment, and the nonce that it adds to a sum
abbrev pub on : (Segment → Bool) → Claim → Bool
on p c = p c.segment

abbrev pub nonce : Claim → ℕ
nonce c = c.segment.summed

-- a duplicate with the echo x can still be counted for it
abbrev pub unspent : ℕ → ℕ → Claim → Bool
unspent e x c = on (echoed_past e x) c && not c.spent

-- the start of the oldest claim that passes a test, or 0 where none does
abbrev pub oldest : (Claim → Bool) → List Claim → ℕ
oldest p [] = 0
oldest p (c ∷ cs) = cond (p c) c.segment.start (oldest p cs)

-- the segment that starts at o, or an empty one where no claim does
abbrev pub segment_at : ℕ → List Claim → Segment
segment_at o [] = record { start = o; length = 0; summed = 0; single = 0 }
segment_at o (c ∷ cs) = cond (starts_at o c.segment) c.segment (segment_at o cs)

-- the claim that starts at o is marked, the others stay
abbrev pub spend : ℕ → List Claim → List Claim
spend o cs = map (λ (c : Claim). record c { spent = starts_at o c.segment || c.spent }) cs
