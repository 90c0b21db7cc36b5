use Rattle.std.proofs.Common.{◌+◌, ◌∙◌, Some, sym, ap, subst, arith}
use Rattle.std.specs.Prelude.{slice_set}
use Rattle.history_seats.specs.Views.{GateView, PassView, Sight}
use Rattle.serial_calls.specs.CallerSessions.{CallerSession}
use Rattle.object_calls.specs.Seats.{HasTold}
use Rattle.object_calls.proofs.FirstParts.{pass_told, pass_view}
use Rattle.object_calls.proofs.SeatSplitting.{one_seated}
use Rattle.object_calls.proofs.seat_splitting.split_passes.Goals as goal

pub loop-index-preserved : goal.loop-index-preserved
loop-index-preserved g c =
    let store = g.L.StoreName.store in
    let l = c.loop-index in
    let s = c.split_pass-pass.ensures in
    let pass = c.split_pass-pass.result in
    record {
      table = ap (λ (x : Sight GateView). x.table) s.gate ∙ l.invariant.table;
      told = subst (λ (x : Sight GateView). HasTold store x.knows (l.index + 1)) (sym s.gate) (pass_told store l.seat.knows l.index l.invariant.told);
      seated = one_seated store c.args.sessions.now l.index l.sessions (slice_set l.sessions l.index c.give_pass.new.self) pass c.index-sessions-index.result l.invariant.seated
          (omega (arith, c.loop-index-test.true, l.invariant.seated.many, l.auto.sessions)) c.requires.sessions c.index-sessions-index.is
          (ap (λ (x : Sight PassView). x.table) s.pass ∙ c.requires.table.0) (ap (λ (x : Sight PassView). x.knows) s.pass ∙ pass_view store l.seat.knows l.index l.invariant.told)
          (ap (λ (x : CallerSession g.row.E.Denot). slice_set l.sessions l.index x)
          (c.give_pass.ensures ∙ ap (λ (x : CallerSession g.row.E.Denot). record x { pass = Some pass }) (sym c.index-sessions-index.is)));
    }
