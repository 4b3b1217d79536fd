-- A claim in a free place, and one that is marked. Assumes nothing.
use Rattle.std.specs.Prelude.{true, false}
use Rattle.protocol.specs.declared.segment.Claim.{Claim}

-- the claim that stands for one past the end of a list
abbrev pub no_claim : Claim
no_claim = record { segment = record { start = 0; length = 0; summed = 0; single = 0 }; spent = false }

-- the claim c, spent
abbrev pub marked : Claim → Claim
marked c = record c { spent = true }
