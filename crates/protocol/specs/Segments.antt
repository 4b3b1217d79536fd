-- Where a segment lies in the stream. Assumes nothing.
use Rattle.std.specs.Prelude.{ℕ, ◌+◌, Bool, ◌&&◌, ◌==◌, nat_le, nat_lt}
use Rattle.protocol.specs.declared.segment.Segment.{Segment}

-- the bytes of the stream up to its end
abbrev pub finish : Segment → ℕ
finish g = g.start + g.length

-- as seen from an end e of the stream
abbrev pub begun_before : ℕ → Segment → Bool
begun_before e g = nat_lt g.start e

abbrev pub ends_by : ℕ → Segment → Bool
ends_by e g = nat_le (finish g) e

abbrev pub ends_past : ℕ → Segment → Bool
ends_past e g = nat_lt e (finish g)

abbrev pub starts_at : ℕ → Segment → Bool
starts_at o g = g.start == o

-- it starts beyond the proved end e and carries the echo x
abbrev pub echoed_past : ℕ → ℕ → Segment → Bool
echoed_past e x g = nat_lt e g.start && g.single == x
