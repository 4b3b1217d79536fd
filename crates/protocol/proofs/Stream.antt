-- The segments of a sender lie end to end from the first byte on. Assumes nothing.
use Rattle.std.proofs.Common.{◌≡◌, ℕ, ◌+◌, ◌<◌, ◌≤◌, true, List, [], ◌∷◌, ◌++◌, arith}
use Rattle.std.proofs.lemmas.List.Sums.{sum_by_from}
use Rattle.std.proofs.lemmas.Bool.Decides.{nat_tests}
use Rattle.congestion.specs.Control.{Control}
use Rattle.protocol.specs.declared.segment.Segment.{Segment}
use Rattle.protocol.specs.Lists.{any}
use Rattle.protocol.specs.Segments.{finish, ends_past}
use Rattle.protocol.specs.Calls.{Call, State, Reply}
use Rattle.protocol.specs.History.{History, noted, segments, bytes, EndToEnd}
use Rattle.protocol.proofs.Steps.{Step}
use Rattle.protocol.proofs.Steps.Step.{sends, counts}

end_to_end_push : (o : ℕ) (gs : List Segment) (g : Segment) → EndToEnd o gs → g.start ≡ o + bytes gs → 0 < g.length → EndToEnd o (gs ++ (g ∷ []))
end_to_end_push o [] g joined here some = (omega arith, some, tt)
end_to_end_push o (f ∷ gs) g joined here some = (joined.0, joined.1, end_to_end_push (finish f) gs g joined.2 (grind (arith, sum_by_from)) some)

-- where an end lies before the bytes sent, a segment ends past it
pub one_past : (e o : ℕ) (gs : List Segment) → EndToEnd o gs → o ≤ e → e < o + bytes gs → any (ends_past e) gs ≡ true
one_past e o [] joined from below = absurd (omega arith)
one_past e o (g ∷ gs) joined from below = let rest = one_past e (finish g) gs joined.2 in grind (arith, nat_tests, sum_by_from)

module _ {C : Type 0} {k : Control C} {s : State C} (h : History) (sent_is : s.sent ≡ bytes (segments h)) where
  pub keeps_end_to_end : {x : Call} {r : Reply C} → Step k s x r → EndToEnd 0 (segments h) → EndToEnd 0 (segments (noted x r.answer h))
  keeps_end_to_end (sends some enough) joined = end_to_end_push 0 (segments h) _ joined (omega arith) some
  keeps_end_to_end (counts o true level found) joined = joined
  keeps_end_to_end other joined = joined
