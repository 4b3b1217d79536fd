-- What a walk over the claims finds. Assumes nothing.
use Rattle.std.specs.Prelude.{◌≡◌, ℕ, ◌+◌, ◌%◌, ◌^◌, ◌<◌, Bool, true, false, cond, List, length, get_or, take, Some, None, Option, Ok, Err, Result, slice_index_or}
use Rattle.protocol.specs.declared.segment.Segment.{Segment}
use Rattle.protocol.specs.declared.segment.Claim.{Claim}
use Rattle.protocol.specs.Lists.{any}
use Rattle.protocol.specs.Segments.{starts_at, echoed_past}
use Rattle.protocol.specs.Claims.{on, nonce, unspent, oldest, segment_at}
use Rattle.claims.specs.Tables.{no_claim}
use Rattle.claims.specs.declared.faults.EchoFault.{EchoFault}
use Rattle.claims.specs.declared.faults.EchoFault.TheVariants.{Unknown, Spent}

-- the oldest claim with the echo x past e that is not spent stands at the place i
pub record OldestAt (e x : ℕ) (cs : List Claim) (i : ℕ) : Type 0 where
  pub within : i < length cs
  pub passes : unspent e x (slice_index_or cs i no_claim) ≡ true
  pub first : any (unspent e x) (take i cs) ≡ false
  pub known : any (on (echoed_past e x)) cs ≡ true
  pub some : any (unspent e x) cs ≡ true
  pub start : oldest (unspent e x) cs ≡ (get_or cs i no_claim).segment.start

-- what a search for the echo x past e answers: the place of that claim, or why there is none
abbrev pub Found : ℕ → ℕ → List Claim → Result ℕ EchoFault → Type 0
Found e x cs (Err Unknown) = any (on (echoed_past e x)) cs ≡ false
Found e x cs (Err Spent) = (any (on (echoed_past e x)) cs ≡ true) × (any (unspent e x) cs ≡ false)
Found e x cs (Ok i) = OldestAt e x cs i

-- the claimed segment that starts at o
abbrev pub Named : ℕ → List Claim → Option Segment → Type 0
Named o cs None = any (on (starts_at o)) cs ≡ false
Named o cs (Some g) = (any (on (starts_at o)) cs ≡ true) × (segment_at o cs ≡ g)

-- the nonce of a claim that passes a test, and 0 of another
abbrev pub nonce_if : (Claim → Bool) → Claim → ℕ
nonce_if p c = cond (p c) (nonce c) 0

-- a nonce added to a sum, modulo 2^64
abbrev pub add_nonce : ℕ → ℕ → ℕ
add_nonce sum n = (sum + n) % 2 ^ 64
