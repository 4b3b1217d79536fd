-- What a push enters. Assumes nothing.
use Rattle.std.proofs.Common.{◌≡◌, ℕ, ◌<◌, ◌↔◌, List, [], ◌∷◌, ◌++◌, length, Result, IsOk, OnOk, arith}
use Rattle.protocol.specs.declared.segment.Claim.{Claim}
use Rattle.claims.specs.declared.faults.TableFull.{TableFull}

-- a push where there is room enters the claim
pub entered : (room : ℕ) (cs ds : List Claim) (c : Claim) (result : Result Unit TableFull) → (IsOk result ↔ (length cs < room)) → OnOk result (ds ≡ cs ++ (c ∷ [])) → length cs < room → ds ≡ cs ++ (c ∷ [])
entered room cs ds c result free pushed enough = grind arith
