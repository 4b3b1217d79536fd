-- What the walks over the claims come to. Assumes nothing.
use Rattle.std.proofs.Common.{◌≡◌, ℕ, ◌+◌, ◌%◌, ◌^◌, ◌<◌, Bool, true, false, cond, List, [], ◌∷◌, Option, Some, None, map, find, fold, refl, arith}
use Rattle.std.specs.Prelude.{option_map}
use Rattle.std.proofs.lemmas.List.Sums.{sum_by_from}
use Rattle.protocol.specs.declared.segment.Claim.{Claim}
use Rattle.protocol.specs.Claims.{on, nonce}
use Rattle.protocol.specs.Lists.{sum_of}
use Rattle.protocol.specs.Segments.{starts_at}
use Rattle.claims.specs.Walks.{Named, add_nonce, nonce_if}

-- the nonces of those that pass a test, one by one added to a sum so far
pub sum_folds : (p : Claim → Bool) (sum : ℕ) (cs : List Claim) → sum < 2 ^ 64 → fold add_nonce sum (map (nonce_if p) cs) ≡ (sum + sum_of p nonce cs) % 2 ^ 64
sum_folds p sum [] fits = grind arith
sum_folds p sum (c ∷ cs) fits =
    let rest = sum_folds p (add_nonce sum (nonce_if p c)) cs in
    grind (arith, sum_by_from)

-- the segment of the first claim that starts at o
pub first_named : (o : ℕ) (cs : List Claim) → Named o cs (option_map (λ (c : Claim). c.segment) (find (on (starts_at o)) cs))
first_named o [] = refl
first_named o (c ∷ cs) = here (starts_at o c.segment) refl (find (on (starts_at o)) cs) (first_named o cs)
  where
    here : (b : Bool) → starts_at o c.segment ≡ b → (r : Option Claim) → Named o cs (option_map (λ (d : Claim). d.segment) r) → Named o (c ∷ cs) (option_map (λ (d : Claim). d.segment) (cond b (Some c) r))
    here true is r rest = grind arith
    here false is None rest = grind arith
    here false is (Some d) rest = grind arith
