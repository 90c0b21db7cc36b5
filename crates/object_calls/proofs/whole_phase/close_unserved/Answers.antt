use Rattle.std.proofs.Common.{◌≡◌, ◌∙◌, List, length, sym, ap, subst}
use Rattle.store_model.specs.Record.{events_of}
use Rattle.history_seats.specs.Records.{HistoryRecord}
use Rattle.serial_calls.specs.CallerSessions.{CallerSession}
use Rattle.object_calls.specs.OpeningSessions.{AreCallers}
use Rattle.object_calls.proofs.Files.{refilled}
use Rattle.object_calls.proofs.whole_phase.close_unserved.Goals as goal

pub finish-requires : goal.finish-requires
finish-requires g c =
    let sessions = c.args.sessions in
    let new : List (CallerSession g.row.E.Denot) = c.serve.new.sessions in
    let long : length sessions.items ≡ sessions.len = sym sessions.ok.0 in
    let many : length new ≡ sessions.len = c.serve.auto.sessions ∙ c.deref_mut.ensures.len in
    subst (λ (l : List (CallerSession g.row.E.Denot)). AreCallers g.L.StoreName.store l) (sym (refilled sessions.len sessions.items new long many)) c.in-Ok.ensures.seated.each

pub returns-in-Ok-clause-closed : goal.returns-in-Ok-clause-closed
returns-in-Ok-clause-closed g c =
    let empty = c.in-Ok.ensures.served.view.empty in
    record {
      view = c.in-Ok.service.gate.journal.knows;
      empty = empty;
      events_are = c.finish.ensures.events ∙ ap (λ (l : List HistoryRecord). events_of l) empty;
      leaves = c.finish.ensures.leaves;
    }
