-- Where a call stands in the history that its session sees.
use Rattle.std.proofs.Common.{◌∙◌, ◌++◌, ℕ, List, [], ◌∷◌, length, refl, sym, ap}
use Rattle.std.proofs.lemmas.List.{length-map, map-append}
use Rattle.core_laws.specs.Stores.{Store}
use Rattle.disk_model.specs.State.{FileState}
use Rattle.history_seats.specs.Records.{HistoryRecord}
use Rattle.rpmb_card.specs.Port.{PortState}
use Rattle.shared_store.specs.CallerSessions.{CallerSession}
use Rattle.shared_store.specs.SessionEvents.{Appends}
use Rattle.store_model.specs.declared.event.Event.{Event}
use Rattle.store_model.specs.declared.event.Mark.{Mark}
use Rattle.store_model.specs.Record.{events_of}
use Rattle.tee_types.specs.declared.call.Call.{Call}
use Rattle.tee_types.specs.declared.reply.Reply.{Reply}
use Rattle.trusted_storage.specs.Laws.{CallStands, ServiceCallsStand, SharedCallsStand}

module _ {E : Type 0} (store : Store) (was now : CallerSession E) (call : Call) (reply : Reply) (place : ℕ) (mark : Mark) where
  stands_by : Appends store was now call (record { place = place; reply = reply }) mark → CallStands was now call reply place
  stands_by a =
      let x = a.extends in
      let seen : List HistoryRecord = x.old.knows.seen in
      let front = map-append (λ (r : HistoryRecord). r.event) seen x.between in
      record {
        before = events_of seen;
        after = events_of x.new.knows.seen;
        saw = (x.old, x.was, refl);
        sees = (x.new, x.is, refl);
        stands = record {
          mark = mark;
          between = events_of x.between;
          is = ap (λ (l : List HistoryRecord). events_of l) x.extends ∙ map-append (λ (r : HistoryRecord). r.event) (seen ++ x.between) (x.last ∷ [])
              ∙ ap (λ (l : List Event). l ++ (x.last).event ∷ []) front ∙ ap (λ (e : Event). (events_of seen ++ events_of x.between) ++ e ∷ []) x.event_is;
          none_between = x.none_between;
          at = ap length (sym front) ∙ length-map (seen ++ x.between) (λ (r : HistoryRecord). r.event) ∙ x.at;
        };
        made = a.made;
      }

pub service_stands : {F R E : Type 0} (of_file : F → FileState) (of_port : R → PortState) (draws : E → ℕ) → ServiceCallsStand of_file of_port draws
service_stands of_file of_port draws store old new was now call reply place answers =
    let goes = (answers.at).goes_on in stands_by store was now call reply place goes.mark goes.appends

pub shared_stands : (E X : Type 0) → SharedCallsStand E X
shared_stands E X store was now call reply place ends = stands_by store was now call reply place ends.mark ends.appends
