-- Views of a session that go on, and what it appends behind them.
use Rattle.std.proofs.Common.{◌≡◌, ◌+◌, ℕ, List, [], ◌++◌, refl, sym, ap, ◌∙◌, subst, append-nil, append_assoc, arith}
use Rattle.tee_types.specs.declared.call.Call.{Call}
use Rattle.store_model.specs.declared.event.Event.TheVariants.{Call as CallEvent}
use Rattle.store_model.specs.declared.event.Mark.{Mark}
use Rattle.store_model.specs.History.{count_of}
use Rattle.store_model.specs.Record.{events_of}
use Rattle.history_seats.specs.Records.{HistoryRecord}
use Rattle.history_seats.specs.Views.{PassView, Sight}
use Rattle.history_seats.proofs.Numbering.{count-append}
use Rattle.core_laws.specs.Sessions.{Extends}
use Rattle.core_laws.specs.Stores.{Store}
use Rattle.commit_gate.specs.CallerSessions.{CallerSession, IsCallerOf, session_value}
use Rattle.commit_gate.specs.declared.placed_reply.PlacedReply.{PlacedReply}
use Rattle.commit_gate.proofs.SessionShowing.{some_same}
use Rattle.call_steps.specs.Seen.{GoesOn}
use Rattle.call_steps.specs.SessionEvents.{Appends, IsWaiting}

module _ {E : Type 0} (store : Store) where
  -- a session whose entropy may have drawn
  goes-drawn : (s : CallerSession E) (entropy : E) → IsCallerOf store s → GoesOn store s (record s { entropy = entropy })
  goes-drawn s entropy caller = record {
    continues = record {
      was = caller.session.pass;
      now = caller.session.pass;
      had = caller.session.is;
      has = caller.session.is;
      between = [];
      is = append-nil caller.session.pass.knows.seen;
      none = refl;
    };
    extends = λ after event place x. x;
  }

  -- one behind the other
  goes-then : (a b c : CallerSession E) → b.number ≡ a.number → GoesOn store a b → GoesOn store b c → GoesOn store a c
  goes-then a b c number first then = record {
    continues = record {
      was = first.continues.was;
      now = then.continues.now;
      had = first.continues.had;
      has = then.continues.has;
      between = first.continues.between ++ then.continues.between;
      is = sym (append_assoc first.continues.was.knows.seen first.continues.between then.continues.between)
          ∙ ap (λ (l : List HistoryRecord). l ++ then.continues.between) (first.continues.is ∙ ap (λ (p : Sight PassView). p.knows.seen) met)
          ∙ then.continues.is;
      none = omega (
        arith,
        count-append a.number first.continues.between then.continues.between,
        first.continues.none,
        ap (λ (n : ℕ). count_of n (events_of then.continues.between)) (sym number) ∙ then.continues.none,
      );
    };
    extends = λ after event place x. first.extends after event place (then.extends after event place x);
  }
    where
      met : first.continues.now ≡ then.continues.was
      met = some_same first.continues.now then.continues.was (sym first.continues.has ∙ then.continues.had)

  -- A SESSION WITHOUT AN EVENT MORE
  -- its entropy may have drawn
  pub waits-drawn : (s : CallerSession E) (entropy : E) → IsCallerOf store s → IsWaiting store s (record s { entropy = entropy })
  waits-drawn s entropy caller =
      record { caller = record { session = caller.session; doubt = caller.doubt }; number = refl; made = refl; goes_on = goes-drawn s entropy caller }

  -- nothing was done
  pub waits-same : (s : CallerSession E) → IsCallerOf store s → IsWaiting store s s
  waits-same s caller = waits-drawn s s.entropy caller

  module _ (was between now : CallerSession E) where
    pub waits-then : IsWaiting store was between → IsWaiting store between now → IsWaiting store was now
    waits-then first w = record {
      caller = w.caller;
      number = w.number ∙ first.number;
      made = w.made ∙ first.made;
      goes_on = goes-then was between now first.number first.goes_on w.goes_on;
    }

    -- an event behind it is the next one of the session as it was
    pub appends-then : IsWaiting store was between → (call : Call) (answer : PlacedReply) (mark : Mark) → Appends store between now call answer mark → Appends store was now call answer mark
    appends-then first call answer mark a = record {
      extends =
          first.goes_on.extends (session_value now) (CallEvent was.number was.made call answer.reply mark) answer.place
          (subst (λ (p : ℕ × ℕ). Extends store (session_value between) (session_value now) (CallEvent p.0 p.1 call answer.reply mark) answer.place) (λ i. (first.number i, first.made i)) a.extends);
      caller = a.caller;
      made = a.made ∙ ap (λ (n : ℕ). n + 1) first.made;
    }

  -- the same of a session whose entropy drew before
  pub appends-drawn : (was now : CallerSession E) (entropy : E) (call : Call) (answer : PlacedReply) (mark : Mark) → Appends store (record was { entropy = entropy }) now call answer mark
      → Appends store was now call answer mark
  appends-drawn was now entropy call answer mark a = record { extends = a.extends; caller = a.caller; made = a.made }
