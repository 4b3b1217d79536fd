-- The parts of a send and of an advance. Assumes nothing.
use Rattle.std.specs.Prelude.{ℕ, ◌+◌, ◌%◌, ◌^◌, List, [], ◌∷◌, ◌++◌, slice_index}
use Rattle.protocol.specs.declared.segment.Segment.{Segment}
use Rattle.protocol.specs.Lists.{kept_by, sum_of}
use Rattle.protocol.specs.Segments.{ends_by, ends_past}
use Rattle.protocol.specs.Claims.{claim_for, on, nonce}
use Rattle.protocol.specs.Calls.{State}

-- the parts of a send: a segment is drawn from the words, and its claim is entered
abbrev pub drawn_from : List ℕ → ℕ → ℕ → Segment
drawn_from ws o l = record { start = o; length = l; summed = slice_index ws 0; single = slice_index ws 1 }

abbrev pub entered : {C : Type 0} → State C → Segment → State C
entered s g = record s { claims = s.claims ++ (claim_for g ∷ []); sent = s.sent + g.length }

-- and of an advance: the claims that the end e covers are freed
abbrev pub freed : {C : Type 0} → State C → ℕ → State C
freed s e = record s {
  claims = kept_by (on (ends_past e)) s.claims;
  settled = (s.settled + sum_of (on (ends_by e)) nonce s.claims) % 2 ^ 64;
  proved = e;
}
