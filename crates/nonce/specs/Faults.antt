-- The number and the place of each refusal of a nonce source. Assumes nothing.
use Rattle.fault.specs.Refusals.{Refusal, refusal_at}
use Rattle.nonce.specs.declared.source.NonceFault.{NonceFault}
use Rattle.nonce.specs.declared.source.NonceFault.TheVariants.{NoWord}

abbrev pub refusal : NonceFault → Refusal
refusal NoWord = refusal_at 6 0
