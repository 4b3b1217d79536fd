-- What a draw does to the words still to come. Assumes nothing.
use Rattle.std.specs.Prelude.{◌≡◌, ℕ, List, [], ◌∷◌, Ok, Err, Result}
use Rattle.nonce.specs.declared.source.NonceFault.{NonceFault}
use Rattle.nonce.specs.declared.source.NonceFault.TheVariants.{NoWord}

-- words s are the words still to come from the source s
module _ {S : Type 0} (words : S → List ℕ) where
  -- dry: s had no word left, so the draw is refused with e and leaves the source as it was
  pub record Dry (s : S) (e : NonceFault) (t : S) : Type 0 where
    pub fault : e ≡ NoWord
    pub none : words s ≡ []
    pub same : t ≡ s

  -- a draw from s answers with a word or a fault and leaves t
  abbrev pub Drawn : S → Result ℕ NonceFault → S → Type 0
  Drawn s (Ok w) t = words s ≡ w ∷ words t
  Drawn s (Err e) t = Dry s e t
