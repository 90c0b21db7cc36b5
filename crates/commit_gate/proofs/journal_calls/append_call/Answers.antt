-- The event is the session's next, and the session is the store's behind it.
use Rattle.std.proofs.Common.{◌≡◌, ◌+◌, ◌≤◌, ◌++◌, ◌∷◌, [], ℕ, length, Option, Some, refl, sym, ap, ◌∙◌, subst, arith, length-append}
use Rattle.store_model.specs.declared.event.Event.TheVariants.{Call as CallEvent}
use Rattle.history_seats.specs.Changes.{pass_renewed, record_of, view_in, with_record}
use Rattle.history_seats.specs.Rule.{PassFits}
use Rattle.history_seats.specs.Views.{GateView, PassView, Sight}
use Rattle.history_seats.proofs.Tags.{event_in}
use Rattle.core_laws.specs.Answered.{IsFairAt, IsFairHistory}
use Rattle.core_laws.specs.Sessions.{Extends}
use Rattle.commit_gate.specs.CallerSessions.{CallerSession, IsCallerOf, session_value}
use Rattle.commit_gate.specs.SessionViews.{pass_shown}
use Rattle.commit_gate.proofs.CallMoves.{appended, appended-caller, appended-extends}
use Rattle.commit_gate.proofs.SessionShowing.{some_same}
use Rattle.commit_gate.proofs.ShownViews.{made-below}
use Rattle.commit_gate.proofs.journal_calls.append_call.Goals as goal

pub append-place-requires-clause-fair : goal.append-place-requires-clause-fair
append-place-requires-clause-fair g c = λ scenario.
    subst (λ (n : ℕ × ℕ). IsFairAt g.L.StoreName.store scenario c.args.journal.now.knows.all
    (record_of (CallEvent n.0 n.1 c.args.call c.args.reply c.args.mark) (view_in c.args.slot) g.N.VersionsName.versions))
    (λ i. (sym c.number.ensures i, sym c.made.ensures i)) (c.requires.fair scenario)

pub count-requires : goal.count-requires
count-requires g c =
    let s = c.args.session.now in
    let gate = c.args.journal.now.knows in
    let x = c.requires.moved.was in
    let lent = c.lend_pass-pass.result in
    let seat : lent ≡ x.pass = some_same lent x.pass (sym c.lend_pass-pass.ensures.pass ∙ x.is) in
    let fits : PassFits gate x.pass.knows = subst (λ (p : Sight PassView). PassFits gate p.knows) seat (c.append-place.ensures.agreed.pass lent.knows refl).0 in
    let made : s.made ≤ length gate.all = made-below gate x.pass.knows fits s.number s.made x.number x.made in
    let same : c.give_pass.new.self.made ≡ s.made =
    ap (λ (v : CallerSession g.row.E.Denot). v.made) c.give_pass.ensures ∙ ap (λ (v : CallerSession g.row.E.Denot). v.made) c.lend_pass-pass.ensures.session in
    let r = record_of (CallEvent c.number.result c.made.result c.args.call c.args.reply c.args.mark) (view_in c.args.slot) g.N.VersionsName.versions in
    let long : c.len-length.result ≡ length (gate.all ++ r ∷ []) = c.len-length.ensures ∙ ap (λ (k : GateView). length k.all) c.append-place.ensures.knows in
    omega (arith, made, same, long, length-append gate.all (r ∷ []))

pub returns-clause-whole : goal.returns-clause-whole
returns-clause-whole g c =
    let store = g.L.StoreName.store in
    let s = c.args.session.now in
    let gate = c.args.journal.now.knows in
    let moved = c.requires.moved in
    let x = moved.was in
    let lent = c.lend_pass-pass.result in
    let versions = g.N.VersionsName.versions in
    let r = record_of (CallEvent s.number s.made c.args.call c.args.reply c.args.mark) (view_in c.args.slot) versions in
    let seat : lent ≡ x.pass = some_same lent x.pass (sym c.lend_pass-pass.ensures.pass ∙ x.is) in
    let fits : PassFits gate x.pass.knows = subst (λ (p : Sight PassView). PassFits gate p.knows) seat (c.append-place.ensures.agreed.pass lent.knows refl).0 in
    let knows : c.append-place.new.self.knows ≡ with_record r gate =
    c.append-place.ensures.knows
    ∙ (λ i. with_record (record_of (CallEvent (c.number.ensures i) (c.made.ensures i) c.args.call c.args.reply c.args.mark) (view_in c.args.slot) versions) gate) in
    let back : Some c.append-place.result.pass ≡ pass_shown (with_record r gate) s.pass =
    ap Some c.append-place.ensures.pass
    ∙ ap (λ (k : GateView). Some (record lent { knows = pass_renewed k lent.knows })) knows
    ∙ sym (ap (pass_shown (with_record r gate)) c.lend_pass-pass.ensures.pass) in
    let given : c.give_pass.new.self ≡ record s { pass = pass_shown (with_record r gate) s.pass } =
    c.give_pass.ensures
    ∙ ap (λ (v : CallerSession g.row.E.Denot). record v { pass = Some c.append-place.result.pass }) c.lend_pass-pass.ensures.session
    ∙ ap (λ (p : Option (Sight PassView)). record s { pass = p }) back in
    let is : c.count.new.self ≡ appended store gate r s moved =
    c.count.ensures ∙ ap (λ (v : CallerSession g.row.E.Denot). record v { made = v.made + 1 }) given in
    let event = event_in (CallEvent s.number s.made c.args.call c.args.reply c.args.mark) (view_in c.args.slot) versions in
    let fair : IsFairHistory store (gate.all ++ r ∷ []) = subst (λ (k : GateView). IsFairHistory store k.all) knows c.append-place.ensures.kept.fair in
    subst (IsCallerOf store) (sym is) (appended-caller store gate r s moved fits c.args.call c.args.reply c.args.mark event fair)

pub returns-clause-extends : goal.returns-clause-extends
returns-clause-extends g c =
    let store = g.L.StoreName.store in
    let s = c.args.session.now in
    let gate = c.args.journal.now.knows in
    let moved = c.requires.moved in
    let x = moved.was in
    let lent = c.lend_pass-pass.result in
    let versions = g.N.VersionsName.versions in
    let r = record_of (CallEvent s.number s.made c.args.call c.args.reply c.args.mark) (view_in c.args.slot) versions in
    let seat : lent ≡ x.pass = some_same lent x.pass (sym c.lend_pass-pass.ensures.pass ∙ x.is) in
    let fits : PassFits gate x.pass.knows = subst (λ (p : Sight PassView). PassFits gate p.knows) seat (c.append-place.ensures.agreed.pass lent.knows refl).0 in
    let knows : c.append-place.new.self.knows ≡ with_record r gate =
    c.append-place.ensures.knows
    ∙ (λ i. with_record (record_of (CallEvent (c.number.ensures i) (c.made.ensures i) c.args.call c.args.reply c.args.mark) (view_in c.args.slot) versions) gate) in
    let back : Some c.append-place.result.pass ≡ pass_shown (with_record r gate) s.pass =
    ap Some c.append-place.ensures.pass
    ∙ ap (λ (k : GateView). Some (record lent { knows = pass_renewed k lent.knows })) knows
    ∙ sym (ap (pass_shown (with_record r gate)) c.lend_pass-pass.ensures.pass) in
    let given : c.give_pass.new.self ≡ record s { pass = pass_shown (with_record r gate) s.pass } =
    c.give_pass.ensures
    ∙ ap (λ (v : CallerSession g.row.E.Denot). record v { pass = Some c.append-place.result.pass }) c.lend_pass-pass.ensures.session
    ∙ ap (λ (p : Option (Sight PassView)). record s { pass = p }) back in
    let is : c.count.new.self ≡ appended store gate r s moved =
    c.count.ensures ∙ ap (λ (v : CallerSession g.row.E.Denot). record v { made = v.made + 1 }) given in
    let event = event_in (CallEvent s.number s.made c.args.call c.args.reply c.args.mark) (view_in c.args.slot) versions in
    let fair : IsFairHistory store (gate.all ++ r ∷ []) = subst (λ (k : GateView). IsFairHistory store k.all) knows c.append-place.ensures.kept.fair in
    let called = CallEvent s.number s.made c.args.call c.args.reply c.args.mark in
    subst (λ (y : CallerSession g.row.E.Denot × ℕ). Extends store (session_value s) (session_value y.0) called y.1)
    (λ i. (sym is i, sym c.append-place.ensures.place i)) (appended-extends store gate r s moved fits c.args.call c.args.reply c.args.mark event fair)
