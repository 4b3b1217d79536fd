-- The lines of the listing. Assumes nothing.
use Rattle.std.specs.Prelude.{ℕ, List, ◌++◌, codes, decimal, Ok, Err, Result}
use Rattle.protocol.specs.Faults.{refusal}
use Rattle.protocol.specs.declared.faults.SenderFault.{SenderFault}
use Rattle.session.specs.declared.events.Event.{Event}
use Rattle.session.specs.declared.events.Event.TheVariants.{Send, Acknowledge, Timeout, Again}
use Rattle.session.specs.declared.listing.Figures.{Figures}
use Rattle.session.specs.declared.listing.Line.{Line}

-- the word of an event in the listing
abbrev pub listing_word : Event → List ℕ
listing_word (Send length) = codes "send"
listing_word (Acknowledge end sum echo) = codes "ack"
listing_word Timeout = codes "time"
listing_word Again = codes "again"

-- ok, or the refusal's number
abbrev pub verdict_text : Result (Unit {0}) SenderFault → List ℕ
verdict_text (Ok nothing) = codes "ok"
verdict_text (Err f) = decimal (refusal f).number

-- the proved end, the window and the allowance
abbrev pub figures_text : Figures → List ℕ
figures_text figures = decimal figures.proved ++ codes " " ++ decimal figures.window ++ codes " " ++ decimal figures.allowance

abbrev pub line_text : Line → List ℕ
line_text line = decimal line.number ++ codes " " ++ listing_word line.event ++ codes " " ++ verdict_text line.verdict.0 ++ codes " " ++ figures_text line.figures
