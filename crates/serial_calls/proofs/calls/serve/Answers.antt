-- The gate answered the call, or the slot of its object did, or memory ran out.
use Rattle.std.proofs.Common.{◌≡◌, ◌∙◌, ℕ, List, None, Ok, Option, ap, arith, refl, subst, sym}
use Rattle.std.specs.Prelude.{IsNone}
use Rattle.call_steps.specs.GuardedGates.{GuardedGateValue}
use Rattle.call_steps.specs.Rising.{devices_in}
use Rattle.std.proofs.lemmas.Result.{err_from_is_err_and}
use Rattle.call_steps.specs.GateServed.{IsLeft, IsServedAlone, ServesAlone, ServesAtOnce}
use Rattle.hmac_keys.specs.KeyTable.{rpmb_key}
use Rattle.call_steps.specs.declared.PlacedReply.{PlacedReply}
use Rattle.history_seats.specs.Views.{GateView}
use Rattle.call_steps.specs.Commits.{IsCalm}
use Rattle.rpmb_host.specs.Honest.{HasCard}
use Rattle.call_steps.specs.Gates.{DoubtStands, GateValue, gate_sides}
use Rattle.call_steps.proofs.Cards.{settled_counts}
use Rattle.serial_calls.specs.HeldFiles.{KeepsHolds}
use Rattle.serial_calls.proofs.AtOnce.{answered_at_once, misused_ready, unanswered_at_once}
use Rattle.serial_calls.proofs.HeldSettling.{room_holds, settled_holds}
use Rattle.serial_calls.proofs.ServeSettling.{Settles, reserved_settles, settled_settles, settles_reserved}
use Rattle.serial_calls.proofs.WholeCalls.{alone_serves, none_serves, object_serves, unserved_serves}
use Rattle.serial_calls.proofs.Unfailed.{gate_read, gate_unfailed, opened_room, precedes_same, read_behind, room_then, same_room, settled_same, settled_touched, settled_unfailed, unfailed_behind, unserved_same}
use Rattle.serial_calls.proofs.calls.serve.Goals as goal

pub returns-in_err-answer-clause-serves : goal.returns-in_err-answer-clause-serves
returns-in_err-answer-clause-serves g c =
    let alone = c.answer_alone in
    let p = err_from_is_err_and c.from_residual-in_err-answer.result c.from_residual-in_err-answer.ensures.1 in
    rw (p.1)
    (unserved_serves g.F.StoreFile.state g.R.RpmbPort.state g.E.Entropy.faults g.L.StoreName.store c.args.gate.now c.reserve.new.self alone.new.gate c.args.slots.now.items
    c.args.session.now alone.new.session c.reserve.ensures.gate c.reserve.ensures.knows _ alone.ensures.draws.counted c.reveal_invariant.ensures.guarded.card_key c.reveal_invariant.ensures.stands c.requires.slots c.args.call.now _ p.0
    c.in_err-answer.ensures.serves)

pub returns-in-Some-clause-serves : goal.returns-in-Some-clause-serves
returns-in-Some-clause-serves g c =
    let alone = c.answer_alone in
    alone_serves g.F.StoreFile.state g.R.RpmbPort.state g.E.Entropy.faults g.L.StoreName.store c.args.gate.now c.reserve.new.self alone.new.gate c.args.slots.now.items
    c.args.session.now alone.new.session c.reserve.ensures.gate c.reserve.ensures.knows _ alone.ensures.draws.counted c.reveal_invariant.ensures.guarded.card_key c.reveal_invariant.ensures.stands c.requires.slots c.args.call.now c.in-Some.answer _
    (subst
    (λ (o : Option PlacedReply). ServesAlone g.F.StoreFile.state g.R.RpmbPort.state (g.E.Entropy.is_reliable c.args.session.now.entropy) (g.E.Entropy.faults c.args.session.now.entropy) (g.E.Entropy.faults alone.new.session.entropy) {X = Unit {0}} g.L.StoreName.store c.args.call.now c.reserve.new.self alone.new.gate c.args.session.now alone.new.session (Ok o))
    c.in-Some.is c.in_ok-answer.ensures.serves)

pub returns-in_err-reserve-2-clause-serves : goal.returns-in_err-reserve-2-clause-serves
returns-in_err-reserve-2-clause-serves g c =
    let store = g.L.StoreName.store in
    let of_file = g.F.StoreFile.state in
    let of_port = g.R.RpmbPort.state in
    let key : List ℕ = rpmb_key store.keys.huk in
    let alone = c.answer_alone in
    let left : IsLeft of_file of_port store c.reserve.new.self alone.new.gate c.args.session.now alone.new.session =
    (subst
    (λ (o : Option PlacedReply). ServesAlone g.F.StoreFile.state g.R.RpmbPort.state (g.E.Entropy.is_reliable c.args.session.now.entropy) (g.E.Entropy.faults c.args.session.now.entropy) (g.E.Entropy.faults alone.new.session.entropy) {X = Unit {0}} store c.args.call.now c.reserve.new.self alone.new.gate c.args.session.now
    alone.new.session (Ok o))
    c.in_default.is c.in_ok-answer.ensures.serves) in
    let settled : Settles of_file of_port key c.args.gate.now c.reserve-2.new.self =
    settles_reserved of_file of_port key c.args.gate.now alone.new.gate c.reserve-2.new.self c.reserve-2.ensures.gate c.reserve-2.ensures.knows
    (reserved_settles of_file of_port key c.args.gate.now c.reserve.new.self alone.new.gate c.reserve.ensures.gate c.reserve.ensures.knows
    (settled_settles of_file of_port key c.reserve.new.self alone.new.gate left.settled)) in
    let held : KeepsHolds c.args.gate.now.gate c.reserve-2.new.self.gate = λ held.
    room_holds alone.new.gate.gate c.reserve-2.new.self.gate c.reserve-2.ensures.gate
    (settled_holds of_file of_port c.reserve.new.self alone.new.gate left.settled (room_holds c.args.gate.now.gate c.reserve.new.self.gate c.reserve.ensures.gate held)) in
    let p = err_from_is_err_and c.from_residual-in_err-reserve-2.result c.from_residual-in_err-reserve-2.ensures.1 in
    rw (p.1)
    (none_serves of_file of_port g.E.Entropy.faults store c.args.gate.now c.reserve.new.self c.reserve-2.new.self c.args.slots.now.items c.args.session.now alone.new.session
    c.reserve.ensures.gate c.reserve.ensures.knows (Unit {0}) alone.ensures.draws.counted c.reveal_invariant.ensures.guarded.card_key c.reveal_invariant.ensures.stands c.requires.slots c.args.call.now _ p.0 settled held left.waits)

pub serve_object-requires-clause-ready : goal.serve_object-requires-clause-ready
serve_object-requires-clause-ready g c =
    let store = g.L.StoreName.store in
    let of_file = g.F.StoreFile.state in
    let of_port = g.R.RpmbPort.state in
    let key : List ℕ = rpmb_key store.keys.huk in
    let alone = c.answer_alone in
    let left : IsLeft of_file of_port store c.reserve.new.self alone.new.gate c.args.session.now alone.new.session =
    (subst
    (λ (o : Option PlacedReply). ServesAlone g.F.StoreFile.state g.R.RpmbPort.state (g.E.Entropy.is_reliable c.args.session.now.entropy) (g.E.Entropy.faults c.args.session.now.entropy) (g.E.Entropy.faults alone.new.session.entropy) {X = Unit {0}} store c.args.call.now c.reserve.new.self alone.new.gate c.args.session.now
    alone.new.session (Ok o))
    c.in_default.is c.in_ok-answer.ensures.serves) in
    let settled : Settles of_file of_port key c.args.gate.now c.reserve-2.new.self =
    settles_reserved of_file of_port key c.args.gate.now alone.new.gate c.reserve-2.new.self c.reserve-2.ensures.gate c.reserve-2.ensures.knows
    (reserved_settles of_file of_port key c.args.gate.now c.reserve.new.self alone.new.gate c.reserve.ensures.gate c.reserve.ensures.knows
    (settled_settles of_file of_port key c.reserve.new.self alone.new.gate left.settled)) in
    let after = c.reserve-2.new.self in
    let idle : after.gate.doubt ≡ None = ap (λ (x : GateValue g.row.F.Denot g.row.R.Denot). x.doubt) c.reserve-2.ensures.gate ∙ left.idle in
    let sides = gate_sides of_file of_port after.gate in
    let keyed : after.gate.host.key ≡ key = c.reveal_invariant-2.ensures.guarded.card_key in
    let room = c.in_ok-reserve-2.ensures.room in
    record {
      names = room.0;
      handles = room.1;
      events = omega (arith, room.2);
      idle = idle;
      calm = subst (λ (v : GateView). IsCalm store v alone.new.session) (sym c.reserve-2.ensures.knows) left.calm;
      slots_are = c.requires.slots;
      known = record {
        keyed = keyed;
        counted = λ card has.
            settled_counts sides (subst (DoubtStands sides) idle c.reveal_invariant-2.ensures.stands) card
            (subst (λ (k : List ℕ). HasCard (of_port after.gate.host.port) k card) (sym keyed) has);
      };
    }

pub returns-clause-serves : goal.returns-clause-serves
returns-clause-serves g c =
    let store = g.L.StoreName.store in
    let of_file = g.F.StoreFile.state in
    let of_port = g.R.RpmbPort.state in
    let key : List ℕ = rpmb_key store.keys.huk in
    let alone = c.answer_alone in
    let left : IsLeft of_file of_port store c.reserve.new.self alone.new.gate c.args.session.now alone.new.session =
    (subst
    (λ (o : Option PlacedReply). ServesAlone g.F.StoreFile.state g.R.RpmbPort.state (g.E.Entropy.is_reliable c.args.session.now.entropy) (g.E.Entropy.faults c.args.session.now.entropy) (g.E.Entropy.faults alone.new.session.entropy) {X = Unit {0}} store c.args.call.now c.reserve.new.self alone.new.gate c.args.session.now
    alone.new.session (Ok o))
    c.in_default.is c.in_ok-answer.ensures.serves) in
    let settled : Settles of_file of_port key c.args.gate.now c.reserve-2.new.self =
    settles_reserved of_file of_port key c.args.gate.now alone.new.gate c.reserve-2.new.self c.reserve-2.ensures.gate c.reserve-2.ensures.knows
    (reserved_settles of_file of_port key c.args.gate.now c.reserve.new.self alone.new.gate c.reserve.ensures.gate c.reserve.ensures.knows
    (settled_settles of_file of_port key c.reserve.new.self alone.new.gate left.settled)) in
    let held : KeepsHolds c.args.gate.now.gate c.reserve-2.new.self.gate = λ held.
    room_holds alone.new.gate.gate c.reserve-2.new.self.gate c.reserve-2.ensures.gate
    (settled_holds of_file of_port c.reserve.new.self alone.new.gate left.settled (room_holds c.args.gate.now.gate c.reserve.new.self.gate c.reserve.ensures.gate held)) in
    let done = c.serve_object in
    object_serves of_file of_port g.E.Entropy.faults store c.args.gate.now c.reserve-2.new.self done.new.gate c.args.slots.now.items done.new.slots.items c.args.session.now alone.new.session
    done.new.session settled held alone.ensures.draws.counted left.waits c.args.call.now _ done.result done.ensures.serves

pub returns-in_err-answer-clause-at_once : goal.returns-in_err-answer-clause-at_once
returns-in_err-answer-clause-at_once g c = λ misused.
    let alone = c.answer_alone in
    let p = err_from_is_err_and c.from_residual-in_err-answer.result c.from_residual-in_err-answer.ensures.1 in
    let left = c.in_err-answer.ensures.at_once
    (misused_ready g.L.StoreName.store c.args.call.now c.args.gate.now c.reserve.new.self alone.new.gate c.args.session.now alone.new.session c.args.slots.now.items
    c.reserve.ensures.gate c.reserve.ensures.handles c.reserve.ensures.knows c.reserve.ensures.closing misused) in
    rw (p.1)
    (unanswered_at_once g.L.StoreName.store c.args.call.now c.args.gate.now c.reserve.new.self alone.new.gate c.args.session.now alone.new.session c.args.slots.now.items
    c.reserve.ensures.gate c.reserve.ensures.handles c.reserve.ensures.knows c.reserve.ensures.closing left.0 left.1)

pub returns-in-Some-clause-at_once : goal.returns-in-Some-clause-at_once
returns-in-Some-clause-at_once g c = λ misused.
    let alone = c.answer_alone in
    let served = c.in_ok-answer.ensures.at_once
    (misused_ready g.L.StoreName.store c.args.call.now c.args.gate.now c.reserve.new.self alone.new.gate c.args.session.now alone.new.session c.args.slots.now.items
    c.reserve.ensures.gate c.reserve.ensures.handles c.reserve.ensures.knows c.reserve.ensures.closing misused) in
    answered_at_once g.L.StoreName.store c.args.call.now c.args.gate.now c.reserve.new.self alone.new.gate c.args.session.now alone.new.session c.args.slots.now.items
    c.reserve.ensures.gate c.reserve.ensures.handles c.reserve.ensures.knows c.reserve.ensures.closing c.in-Some.answer
    (subst
    (λ (o : Option PlacedReply). ServesAtOnce {X = Unit {0}} g.L.StoreName.store c.args.call.now c.reserve.new.self alone.new.gate c.args.session.now alone.new.session (Ok o))
    c.in-Some.is served)

pub returns-in_err-reserve-2-clause-at_once : goal.returns-in_err-reserve-2-clause-at_once
returns-in_err-reserve-2-clause-at_once g c = λ misused.
    let alone = c.answer_alone in
    let served = c.in_ok-answer.ensures.at_once
    (misused_ready g.L.StoreName.store c.args.call.now c.args.gate.now c.reserve.new.self alone.new.gate c.args.session.now alone.new.session c.args.slots.now.items
    c.reserve.ensures.gate c.reserve.ensures.handles c.reserve.ensures.knows c.reserve.ensures.closing misused) in
    absurd
    (subst
    (λ (o : Option PlacedReply). ServesAtOnce {X = Unit {0}} g.L.StoreName.store c.args.call.now c.reserve.new.self alone.new.gate c.args.session.now alone.new.session (Ok o))
    c.in_default.is served)

pub returns-clause-at_once : goal.returns-clause-at_once
returns-clause-at_once g c = λ misused.
    let alone = c.answer_alone in
    let served = c.in_ok-answer.ensures.at_once
    (misused_ready g.L.StoreName.store c.args.call.now c.args.gate.now c.reserve.new.self alone.new.gate c.args.session.now alone.new.session c.args.slots.now.items
    c.reserve.ensures.gate c.reserve.ensures.handles c.reserve.ensures.knows c.reserve.ensures.closing misused) in
    absurd
    (subst
    (λ (o : Option PlacedReply). ServesAtOnce {X = Unit {0}} g.L.StoreName.store c.args.call.now c.reserve.new.self alone.new.gate c.args.session.now alone.new.session (Ok o))
    c.in_default.is served)

pub returns-in_err-answer-clause-passed : goal.returns-in_err-answer-clause-passed
returns-in_err-answer-clause-passed g c =
    let of_file = g.F.StoreFile.state in
    let of_port = g.R.RpmbPort.state in
    let alone = c.answer_alone in
    let p = err_from_is_err_and c.from_residual-in_err-answer.result c.from_residual-in_err-answer.ensures.1 in
    let counts = settled_unfailed of_file of_port c.reserve.new.self alone.new.gate c.in_err-answer.ensures.serves.gate in
    rw (p.1)
    (gate_unfailed of_file of_port g.E.Entropy.faults c.args.gate.now alone.new.gate c.args.slots.now.items c.args.session.now alone.new.session
    (counts.0 ∙ ap (λ (x : GateValue g.row.F.Denot g.row.R.Denot). (of_file x.dir.file).faults) c.reserve.ensures.gate)
    (counts.1 ∙ ap (λ (x : GateValue g.row.F.Denot g.row.R.Denot). (of_port x.host.port).faults) c.reserve.ensures.gate)
    c.in_err-answer.ensures.serves.undrawn)

pub returns-in_err-reserve-2-clause-passed : goal.returns-in_err-reserve-2-clause-passed
returns-in_err-reserve-2-clause-passed g c =
    let store = g.L.StoreName.store in
    let of_file = g.F.StoreFile.state in
    let of_port = g.R.RpmbPort.state in
    let alone = c.answer_alone in
    let left : IsLeft of_file of_port store c.reserve.new.self alone.new.gate c.args.session.now alone.new.session =
    (subst
    (λ (o : Option PlacedReply). ServesAlone g.F.StoreFile.state g.R.RpmbPort.state (g.E.Entropy.is_reliable c.args.session.now.entropy) (g.E.Entropy.faults c.args.session.now.entropy) (g.E.Entropy.faults alone.new.session.entropy) {X = Unit {0}} store c.args.call.now c.reserve.new.self alone.new.gate c.args.session.now
    alone.new.session (Ok o))
    c.in_default.is c.in_ok-answer.ensures.serves) in
    let p = err_from_is_err_and c.from_residual-in_err-reserve-2.result c.from_residual-in_err-reserve-2.ensures.1 in
    let counts = settled_unfailed of_file of_port c.reserve.new.self alone.new.gate (settled_touched of_file of_port c.reserve.new.self alone.new.gate left.settled) in
    rw (p.1)
    (gate_unfailed of_file of_port g.E.Entropy.faults c.args.gate.now c.reserve-2.new.self c.args.slots.now.items c.args.session.now alone.new.session
    (ap (λ (x : GateValue g.row.F.Denot g.row.R.Denot). (of_file x.dir.file).faults) c.reserve-2.ensures.gate ∙ counts.0 ∙ ap (λ (x : GateValue g.row.F.Denot g.row.R.Denot). (of_file x.dir.file).faults) c.reserve.ensures.gate)
    (ap (λ (x : GateValue g.row.F.Denot g.row.R.Denot). (of_port x.host.port).faults) c.reserve-2.ensures.gate ∙ counts.1 ∙ ap (λ (x : GateValue g.row.F.Denot g.row.R.Denot). (of_port x.host.port).faults) c.reserve.ensures.gate)
    (c.in_ok-answer.ensures.undrawn (subst (λ (o : Option PlacedReply). IsNone o) (sym c.in_default.is) refl)))

pub returns-clause-passed : goal.returns-clause-passed
returns-clause-passed g c =
    let store = g.L.StoreName.store in
    let of_file = g.F.StoreFile.state in
    let of_port = g.R.RpmbPort.state in
    let alone = c.answer_alone in
    let left : IsLeft of_file of_port store c.reserve.new.self alone.new.gate c.args.session.now alone.new.session =
    (subst
    (λ (o : Option PlacedReply). ServesAlone g.F.StoreFile.state g.R.RpmbPort.state (g.E.Entropy.is_reliable c.args.session.now.entropy) (g.E.Entropy.faults c.args.session.now.entropy) (g.E.Entropy.faults alone.new.session.entropy) {X = Unit {0}} store c.args.call.now c.reserve.new.self alone.new.gate c.args.session.now
    alone.new.session (Ok o))
    c.in_default.is c.in_ok-answer.ensures.serves) in
    let counts = settled_unfailed of_file of_port c.reserve.new.self alone.new.gate (settled_touched of_file of_port c.reserve.new.self alone.new.gate left.settled) in
    let done = c.serve_object in
    unfailed_behind (devices_in of_file of_port g.E.Entropy.faults (record { gate = c.args.gate.now; slots = c.args.slots.now.items; session = c.args.session.now }))
    (devices_in of_file of_port g.E.Entropy.faults (record { gate = c.reserve-2.new.self; slots = c.args.slots.now.items; session = alone.new.session }))
    (devices_in of_file of_port g.E.Entropy.faults (record { gate = done.new.gate; slots = done.new.slots.items; session = done.new.session })) done.result
    (gate_unfailed of_file of_port g.E.Entropy.faults c.args.gate.now c.reserve-2.new.self c.args.slots.now.items c.args.session.now alone.new.session
    (ap (λ (x : GateValue g.row.F.Denot g.row.R.Denot). (of_file x.dir.file).faults) c.reserve-2.ensures.gate ∙ counts.0 ∙ ap (λ (x : GateValue g.row.F.Denot g.row.R.Denot). (of_file x.dir.file).faults) c.reserve.ensures.gate)
    (ap (λ (x : GateValue g.row.F.Denot g.row.R.Denot). (of_port x.host.port).faults) c.reserve-2.ensures.gate ∙ counts.1 ∙ ap (λ (x : GateValue g.row.F.Denot g.row.R.Denot). (of_port x.host.port).faults) c.reserve.ensures.gate)
    (c.in_ok-answer.ensures.undrawn (subst (λ (o : Option PlacedReply). IsNone o) (sym c.in_default.is) refl)))
    done.ensures.passed

pub returns-in_err-answer-clause-spent : goal.returns-in_err-answer-clause-spent
returns-in_err-answer-clause-spent g c = λ partial none spent.
    let alone = c.answer_alone in
    let idle : c.reserve.new.self.gate.doubt ≡ None = ap (λ (x : GateValue g.row.F.Denot g.row.R.Denot). x.doubt) c.reserve.ensures.gate ∙ none in
    let same = unserved_same g.F.StoreFile.state g.R.RpmbPort.state c.reserve.new.self alone.new.gate idle _ _ _ g.L.StoreName.store c.args.session.now alone.new.session c.in_err-answer.ensures.serves in
    gate_read c.args.gate.now alone.new.gate c.args.slots.now.items c.args.session.now alone.new.session
    (room_then c.args.gate.now.gate c.reserve.new.self.gate alone.new.gate.gate c.reserve.ensures.gate (same_room c.reserve.new.self.gate alone.new.gate.gate (ap (λ (x : GuardedGateValue g.row.F.Denot g.row.R.Denot). x.gate) same)))
    (alone.ensures.let_be idle)

pub returns-in-Some-clause-spent : goal.returns-in-Some-clause-spent
returns-in-Some-clause-spent g c = λ partial none spent.
    let store = g.L.StoreName.store in
    let of_file = g.F.StoreFile.state in
    let of_port = g.R.RpmbPort.state in
    let alone = c.answer_alone in
    let idle : c.reserve.new.self.gate.doubt ≡ None = ap (λ (x : GateValue g.row.F.Denot g.row.R.Denot). x.doubt) c.reserve.ensures.gate ∙ none in
    let served : IsServedAlone of_file of_port (g.E.Entropy.is_reliable c.args.session.now.entropy) (g.E.Entropy.faults c.args.session.now.entropy) (g.E.Entropy.faults alone.new.session.entropy) store c.args.call.now c.in-Some.answer
    c.reserve.new.self alone.new.gate c.args.session.now alone.new.session =
    subst
    (λ (o : Option PlacedReply). ServesAlone g.F.StoreFile.state g.R.RpmbPort.state (g.E.Entropy.is_reliable c.args.session.now.entropy) (g.E.Entropy.faults c.args.session.now.entropy) (g.E.Entropy.faults alone.new.session.entropy) {X = Unit {0}} store c.args.call.now c.reserve.new.self alone.new.gate c.args.session.now alone.new.session (Ok o))
    c.in-Some.is c.in_ok-answer.ensures.serves in
    let same = precedes_same of_file of_port _ _ _ c.reserve.new.self served.between c.in-Some.answer.reply idle served.precedes in
    let opened : alone.new.gate.gate ≡ record c.reserve.new.self.gate { open_handles = alone.new.gate.gate.open_handles } =
    served.served.gate ∙ ap (λ (x : GuardedGateValue g.row.F.Denot g.row.R.Denot). record x.gate { open_handles = alone.new.gate.gate.open_handles }) same in
    gate_read c.args.gate.now alone.new.gate c.args.slots.now.items c.args.session.now alone.new.session
    (room_then c.args.gate.now.gate c.reserve.new.self.gate alone.new.gate.gate c.reserve.ensures.gate (opened_room c.reserve.new.self.gate alone.new.gate.gate opened))
    (alone.ensures.let_be idle)

pub returns-in_err-reserve-2-clause-spent : goal.returns-in_err-reserve-2-clause-spent
returns-in_err-reserve-2-clause-spent g c = λ partial none spent.
    let store = g.L.StoreName.store in
    let of_file = g.F.StoreFile.state in
    let of_port = g.R.RpmbPort.state in
    let alone = c.answer_alone in
    let left : IsLeft of_file of_port store c.reserve.new.self alone.new.gate c.args.session.now alone.new.session =
    (subst
    (λ (o : Option PlacedReply). ServesAlone g.F.StoreFile.state g.R.RpmbPort.state (g.E.Entropy.is_reliable c.args.session.now.entropy) (g.E.Entropy.faults c.args.session.now.entropy) (g.E.Entropy.faults alone.new.session.entropy) {X = Unit {0}} store c.args.call.now c.reserve.new.self alone.new.gate c.args.session.now
    alone.new.session (Ok o))
    c.in_default.is c.in_ok-answer.ensures.serves) in
    let idle : c.reserve.new.self.gate.doubt ≡ None = ap (λ (x : GateValue g.row.F.Denot g.row.R.Denot). x.doubt) c.reserve.ensures.gate ∙ none in
    let same = settled_same of_file of_port c.reserve.new.self alone.new.gate idle left.settled in
    gate_read c.args.gate.now c.reserve-2.new.self c.args.slots.now.items c.args.session.now alone.new.session
    (room_then c.args.gate.now.gate c.reserve.new.self.gate c.reserve-2.new.self.gate c.reserve.ensures.gate
    (room_then c.reserve.new.self.gate alone.new.gate.gate c.reserve-2.new.self.gate (same_room c.reserve.new.self.gate alone.new.gate.gate (ap (λ (x : GuardedGateValue g.row.F.Denot g.row.R.Denot). x.gate) same)) c.reserve-2.ensures.gate))
    (alone.ensures.let_be idle)

pub returns-clause-spent : goal.returns-clause-spent
returns-clause-spent g c = λ partial none spent.
    let store = g.L.StoreName.store in
    let of_file = g.F.StoreFile.state in
    let of_port = g.R.RpmbPort.state in
    let alone = c.answer_alone in
    let left : IsLeft of_file of_port store c.reserve.new.self alone.new.gate c.args.session.now alone.new.session =
    (subst
    (λ (o : Option PlacedReply). ServesAlone g.F.StoreFile.state g.R.RpmbPort.state (g.E.Entropy.is_reliable c.args.session.now.entropy) (g.E.Entropy.faults c.args.session.now.entropy) (g.E.Entropy.faults alone.new.session.entropy) {X = Unit {0}} store c.args.call.now c.reserve.new.self alone.new.gate c.args.session.now
    alone.new.session (Ok o))
    c.in_default.is c.in_ok-answer.ensures.serves) in
    let idle : c.reserve.new.self.gate.doubt ≡ None = ap (λ (x : GateValue g.row.F.Denot g.row.R.Denot). x.doubt) c.reserve.ensures.gate ∙ none in
    let same = settled_same of_file of_port c.reserve.new.self alone.new.gate idle left.settled in
    let done = c.serve_object in
    let counter : c.reserve-2.new.self.gate.counter ≡ c.args.gate.now.gate.counter =
    ap (λ (x : GateValue g.row.F.Denot g.row.R.Denot). x.counter) c.reserve-2.ensures.gate ∙ ap (λ (x : GuardedGateValue g.row.F.Denot g.row.R.Denot). x.gate.counter) same
    ∙ ap (λ (x : GateValue g.row.F.Denot g.row.R.Denot). x.counter) c.reserve.ensures.gate in
    read_behind c.args.gate.now c.reserve-2.new.self done.new.gate c.args.slots.now.items done.new.slots.items c.args.session.now alone.new.session done.new.session
    (room_then c.args.gate.now.gate c.reserve.new.self.gate c.reserve-2.new.self.gate c.reserve.ensures.gate
    (room_then c.reserve.new.self.gate alone.new.gate.gate c.reserve-2.new.self.gate (same_room c.reserve.new.self.gate alone.new.gate.gate (ap (λ (x : GuardedGateValue g.row.F.Denot g.row.R.Denot). x.gate) same)) c.reserve-2.ensures.gate))
    (alone.ensures.let_be idle) (done.ensures.spent partial (counter ∙ spent))
