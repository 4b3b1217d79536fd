-- How claims lie in the stream. Assumes nothing.
use Rattle.std.specs.Prelude.{ℕ, Bool, ◌&&◌, List, [], ◌∷◌, nat_le, nat_lt}
use Rattle.protocol.specs.declared.segment.Claim.{Claim}
use Rattle.protocol.specs.Lists.{count}
use Rattle.protocol.specs.Segments.{finish}

-- one after another between two ends of the stream, and none is empty
abbrev pub laid : ℕ → List Claim → ℕ → Bool
laid from [] to = nat_le from to
laid from (c ∷ cs) to = nat_le from c.segment.start && (nat_lt 0 c.segment.length && laid (finish c.segment) cs to)

-- how many of them are spent
abbrev pub spent_of : List Claim → ℕ
spent_of cs = count (λ (c : Claim). c.spent) cs
