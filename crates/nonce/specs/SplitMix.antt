-- SplitMix64: the words that follow from a seed. Assumes nothing.
use Rattle.std.specs.Prelude.{ℕ, zero, suc, ◌+◌, ◌*◌, ◌/◌, ◌%◌, ◌^◌, List, [], ◌∷◌, bit_xor}
use Rattle.nonce.specs.declared.splitmix.SplitMix64.{SplitMix64}

-- the state after one step
abbrev pub stepped : ℕ → ℕ
stepped state = (state + 0x9E37_79B9_7F4A_7C15) % 2 ^ 64

-- z XOR z shifted right by k bits
abbrev pub xor_shifted : ℕ → ℕ → ℕ
xor_shifted k z = bit_xor z (z / 2 ^ k)

-- the product by f, modulo 2^64
abbrev pub multiplied : ℕ → ℕ → ℕ
multiplied f z = (z * f) % 2 ^ 64

-- the word that a state gives: two rounds of XOR and product, and a last XOR
abbrev pub mixed : ℕ → ℕ
mixed state =
    let first = multiplied 0xBF58_476D_1CE4_E5B9 (xor_shifted 30 state) in
    let second = multiplied 0x94D0_49BB_1331_11EB (xor_shifted 27 first) in
    xor_shifted 31 second

-- the words of the next count steps from a state
abbrev pub generated : (count state : ℕ) → List ℕ
generated zero state = []
generated (suc count) state = mixed (stepped state) ∷ generated count (stepped state)

-- the words that a generator still has to give
abbrev pub to_come : SplitMix64 → List ℕ
to_come s = generated s.count s.state
