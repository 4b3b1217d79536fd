-- A controller is what its numbers say: of a ghost field there is one proof at most. Assumes nothing.
use mathlib.Core.HLevel.{is_prop→PathP}
use Rattle.std.specs.Prelude.{◌≡◌, ℕ, ◌^◌, ◌≤◌}
use Prim.{IsProp}
use Rattle.std.proofs.Math.Bridge.{le_prop}
use Rattle.std.proofs.Props.{props}
use Rattle.congestion.specs.Growths.{Sizes, Bounded}
use Rattle.congestion.specs.Views.{sizes, resized}
use Rattle.congestion.specs.declared.growth.Growth.{Growth}
use Rattle.congestion.specs.declared.iiad.Iiad.{Iiad}
use Rattle.congestion.specs.declared.reno.Reno.{Reno}

bounded_once : (limit : ℕ → ℕ → ℕ) (g : Sizes) → IsProp (Bounded limit g)
bounded_once limit g = Prim.hlevel props

pub growth_same : {I : Type 0} {i : _} (a b : Growth I i) → sizes a ≡ sizes b → a ≡ b
growth_same {I} {i} a b e = λ j. resized a (e j) (is_prop→PathP (λ k. Bounded i.limit (e k)) (λ k. bounded_once i.limit (e k)) a.bounded b.bounded j)

pub reno_same : (a b : Reno) → a.threshold ≡ b.threshold → sizes a.growth ≡ sizes b.growth → a ≡ b
reno_same a b t g = λ j. record {
  growth = growth_same a.growth b.growth g j;
  threshold = t j;
  limited = is_prop→PathP (λ k. t k ≤ 2 ^ 24) (λ k. le_prop) a.limited b.limited j;
}

pub iiad_same : (a b : Iiad) → sizes a.growth ≡ sizes b.growth → a ≡ b
iiad_same a b g = λ j. record { growth = growth_same a.growth b.growth g j }
