-- A call that is appended once its session moved is appended for the session as it was.
use Rattle.std.proofs.Common.{Option}
use Rattle.tee_types.specs.declared.call.Call.{Call}
use Rattle.tee_types.specs.declared.reply.Reply.{Reply}
use Rattle.store_model.specs.declared.event.Mark.{Mark}
use Rattle.store_model.specs.Machine.{Session}
use Rattle.history_seats.specs.Changes.{TagVersions}
use Rattle.history_seats.specs.Views.{GateView, Sight, SlotView}
use Rattle.core_laws.specs.Stores.{Store}
use Rattle.commit_gate.specs.declared.journal_calls.AppendedCall.{AppendedCall}
use Rattle.commit_gate.specs.declared.own_doubt.OwnDoubt.{OwnDoubt}
use Rattle.commit_gate.specs.CallerSessions.{CallerSession}
use Rattle.commit_gate.specs.Ended.{IsAppended}

module _ {E : Type 0} (store : Store) (before after : GateView) (call : Call) (told : Reply) (mark : Mark) (slot : Sight SlotView) (versions : TagVersions) (s new : CallerSession E) (appended : AppendedCall)
    (state : Session) (doubt : Option OwnDoubt) where
  abbrev pub moved : CallerSession E
  moved = record s { state = state; doubt = doubt }

  pub moved_appended : IsAppended store before after call told mark slot versions moved moved new appended → IsAppended store before after call told mark slot versions s moved new appended
  moved_appended of = record {
    place = of.place;
    knows = of.knows;
    kept = of.kept;
    seat = of.seat;
    session = of.session;
    agreed = of.agreed;
    whole = of.whole;
    extends = record {
      old = of.extends.old;
      new = of.extends.new;
      was = of.extends.was;
      is = of.extends.is;
      between = of.extends.between;
      last = of.extends.last;
      extends = of.extends.extends;
      event_is = of.extends.event_is;
      none_between = of.extends.none_between;
      at = of.extends.at;
      decided = of.extends.decided;
      fair = of.extends.fair;
      number = of.extends.number;
    };
  }
