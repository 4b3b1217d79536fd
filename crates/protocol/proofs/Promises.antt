-- Every lawful controller keeps the promises, whatever the words and the calls. Assumes nothing.
use Rattle.std.proofs.Common.{ℕ, List, ◌∙◌}
use Rattle.congestion.specs.Control.{Control, Lawful}
use Rattle.protocol.specs.Calls.{Call, State}
use Rattle.protocol.specs.Calls.Call.{send}
use Rattle.protocol.specs.SenderRules.{opened}
use Rattle.protocol.specs.History.{History}
use Rattle.protocol.specs.Runs.{state, history}
use Rattle.protocol.specs.Promises.{Promises}
use Rattle.protocol.proofs.Steps.{step}
use Rattle.protocol.proofs.Signals.{wider}
use Rattle.protocol.proofs.Duplicates.{counted_so}
use Rattle.protocol.proofs.Repeats.{order_is, repeat_is}
use Rattle.protocol.proofs.Invariant.{Follows, follows, control_is, allowance_bounded}
use Rattle.protocol.proofs.Refusals.{refusal_is, refused_same, same_grounds}
use Rattle.protocol.proofs.Accepted.{sent_so, advanced_so, oldest_so, third_so}
use Rattle.protocol.proofs.OneValue.{one_accepted}

module _ {C : Type 0} (k : Control C) (c : C) (laws : Lawful k) (ws : List ℕ) where
  abbrev now : List Call → State C
  now = state k (opened c ws)

  abbrev past : List Call → History
  past = history k (opened c ws)

  kept : (calls : List Call) → Follows k c ws (now calls) (past calls)
  kept = follows k c laws ws

  pub all_promises : Promises k (opened c ws)
  all_promises = record {
    no_other_refusal = λ calls x. refusal_is k (now calls) x ∙ same_grounds (kept calls) x;
    refusal_changes_nothing = λ calls. refused_same k (now calls);
    proved_is_farthest = λ calls. (kept calls).proved;
    sent_is_bytes = λ calls. (kept calls).table.sent;
    end_to_end = λ calls. (kept calls).joined;
    two_words_each = λ calls l. sent_so (kept calls) (step k (now calls) (send l));
    single_credit = λ calls. control_is (kept calls);
    never_wider = λ calls others vs same less. rw (control_is (kept calls), control_is (follows k c laws vs others)) (wider laws c (past calls) (history k (opened c vs) others) same less);
    advances_past = λ calls. advanced_so (kept calls);
    oldest_first = λ calls. oldest_so (kept calls);
    third_tells_loss = λ calls. third_so (kept calls);
    counted_once = λ calls x. counted_so (past calls) (kept calls).table (kept calls).proved (step k (now calls) x);
    bounded = λ calls. allowance_bounded (kept calls);
    orders_the_oldest = λ calls. rw (← (kept calls).proved) (order_is k (kept calls).table (kept calls).waiting);
    repeats_as_sent = λ calls. rw (← (kept calls).proved) (repeat_is k (kept calls).table);
    one_value = λ before after l e m x g is unreached past within. one_accepted k c laws ws before l g is after unreached e m x past within;
  }
