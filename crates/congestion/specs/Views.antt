-- A growth as its sizes. Assumes nothing.
use Rattle.congestion.specs.Growths.{Sizes, Bounded}
use Rattle.congestion.specs.declared.growth.Growth.{Growth}

-- the sizes of g
abbrev pub sizes : {I : Type 0} {i : _} → Growth I i → Sizes
sizes g = record { segment = g.segment; window = g.window; carry = g.carry }

-- g with other sizes, which are within the bounds
abbrev pub resized : {I : Type 0} {i : _} (g : Growth I i) (q : Sizes) → Bounded i.limit q → Growth I i
resized g q b = record g { segment = q.segment; window = q.window; carry = q.carry; bounded = b }
