-- Claims that lie one after another in the stream. Assumes nothing.
use Rattle.std.proofs.Common.{◌≡◌, ℕ, zero, suc, ◌+◌, ◌<◌, ◌≤◌, Bool, true, false, cond, ◌||◌, List, [], ◌∷◌, ◌++◌, length, get_or, set, sym, refl, arith}
use Rattle.std.proofs.lemmas.List.Sums.{sum_by_push, sum_by-set, count_by-le-length}
use Rattle.std.proofs.lemmas.Bool.Decides.{nat_tests}
use Rattle.protocol.specs.declared.segment.Claim.{Claim}
use Rattle.protocol.specs.Claims.{spend}
use Rattle.protocol.specs.Lists.{kept_by}
use Rattle.protocol.specs.Segments.{finish, starts_at}
use Rattle.claims.specs.Laid.{laid, spent_of}
use Rattle.claims.specs.Tables.{marked, no_claim}

-- one more at the end
pub laid_push : (a : ℕ) (cs : List Claim) (b : ℕ) (c : Claim) → laid a cs b ≡ true → c.segment.start ≡ b → 0 < c.segment.length → laid a (cs ++ (c ∷ [])) (b + c.segment.length) ≡ true
laid_push a [] b c h at some = grind (arith, nat_tests)
laid_push a (d ∷ cs) b c h at some = let rest = laid_push (finish d.segment) cs b c in grind (arith, nat_tests)

-- from an earlier end
pub laid_from : (a b : ℕ) (cs : List Claim) (to : ℕ) → b ≤ a → laid a cs to ≡ true → laid b cs to ≡ true
laid_from a b [] to le h = grind (arith, nat_tests)
laid_from a b (c ∷ cs) to le h = grind (arith, nat_tests)

-- some of them
pub laid_kept : (p : Claim → Bool) (a : ℕ) (cs : List Claim) (b : ℕ) → laid a cs b ≡ true → laid a (kept_by p cs) b ≡ true
laid_kept p a [] b h = h
laid_kept p a (c ∷ cs) b h =
    let rest = laid_kept p (finish c.segment) cs b in
    let earlier = laid_from (finish c.segment) a (kept_by p cs) b in
    grind (arith, nat_tests)

-- the same segments, whatever the marks
laid_spend : (o a : ℕ) (cs : List Claim) (b : ℕ) → laid a cs b ≡ true → laid a (spend o cs) b ≡ true
laid_spend o a [] b h = h
laid_spend o a (c ∷ cs) b h = let rest = laid_spend o (finish c.segment) cs b in grind (arith, nat_tests)

-- each begins at or after the end that they lie from
laid_later : (a : ℕ) (cs : List Claim) (b i : ℕ) → laid a cs b ≡ true → i < length cs → a ≤ (get_or cs i no_claim).segment.start
laid_later a [] b i h within = absurd (omega arith)
laid_later a (c ∷ cs) b zero h within = grind (arith, nat_tests)
laid_later a (c ∷ cs) b (suc i) h within = let rest = laid_later (finish c.segment) cs b i in grind (arith, nat_tests)

-- so that a start before it is none of theirs
spend_none : (o a : ℕ) (cs : List Claim) (b : ℕ) → laid a cs b ≡ true → o < a → spend o cs ≡ cs
spend_none o a [] b h before = refl
spend_none o a (c ∷ cs) b h before =
    let same : (starts_at o c.segment || c.spent) ≡ c.spent = grind (arith, nat_tests) in
    let rest : spend o cs ≡ cs = spend_none o (finish c.segment) cs b (grind (arith, nat_tests)) (grind (arith, nat_tests)) in
    λ j. record { segment = c.segment; spent = same j } ∷ rest j

-- no two begin together, so that a mark by start is a mark by place
pub spend_set : (a : ℕ) (cs : List Claim) (b i : ℕ) → laid a cs b ≡ true → i < length cs → spend (get_or cs i no_claim).segment.start cs ≡ set cs i (marked (get_or cs i no_claim))
spend_set a [] b i h within = refl
spend_set a (c ∷ cs) b zero h within =
    let here : (starts_at c.segment.start c.segment || c.spent) ≡ true = grind (arith, nat_tests) in
    let rest : spend c.segment.start cs ≡ cs = spend_none c.segment.start (finish c.segment) cs b (grind (arith, nat_tests)) (grind (arith, nat_tests)) in
    λ j. record { segment = c.segment; spent = here j } ∷ rest j
spend_set a (c ∷ cs) b (suc i) h within =
    let o : ℕ = (get_or cs i no_claim).segment.start in
    let after : laid (finish c.segment) cs b ≡ true = grind (arith, nat_tests) in
    let later : finish c.segment ≤ o = laid_later (finish c.segment) cs b i after (omega arith) in
    let other : (starts_at o c.segment || c.spent) ≡ c.spent = grind (arith, nat_tests) in
    let rest = spend_set (finish c.segment) cs b i after (omega arith) in
    λ j. record { segment = c.segment; spent = other j } ∷ rest j

-- they lie as before with one of them marked
pub laid_marked : (a : ℕ) (cs : List Claim) (b i : ℕ) → laid a cs b ≡ true → i < length cs → laid a (set cs i (marked (get_or cs i no_claim))) b ≡ true
laid_marked a cs b i h within = rw (sym (spend_set a cs b i h within)) (laid_spend (get_or cs i no_claim).segment.start a cs b h)

-- there are no fewer spent ones with one more claim
pub spent_push : (n : ℕ) (cs : List Claim) (c : Claim) → n ≤ spent_of cs → n ≤ spent_of (cs ++ (c ∷ []))
spent_push n cs c h = omega (arith, sum_by_push (λ (d : Claim). cond d.spent 1 0) cs c)

-- and one more where one is marked that was not
pub spent_set : (cs : List Claim) (i : ℕ) → i < length cs → (get_or cs i no_claim).spent ≡ false → spent_of (set cs i (marked (get_or cs i no_claim))) ≡ spent_of cs + 1
spent_set cs i within fresh = grind (arith, sum_by-set (λ (d : Claim). cond d.spent 1 0) cs i (marked (get_or cs i no_claim)) no_claim within)

-- there are no more spent ones than claims
pub spent_few : (cs : List Claim) → spent_of cs ≤ length cs
spent_few cs = count_by-le-length (λ (d : Claim). d.spent) cs
