-- The session that sees the whole history is the store's again.
use Rattle.std.proofs.Common.{◌≡◌, ◌<◌, length, Option, Some, refl, sym, ap, ◌∙◌, subst}
use Rattle.history_seats.specs.Rule.{PassFits}
use Rattle.history_seats.specs.Views.{PassView, Sight}
use Rattle.commit_gate.specs.Journals.{JournalValue}
use Rattle.commit_gate.specs.CallerSessions.{CallerSession, IsCallerOf}
use Rattle.commit_gate.specs.SessionViews.{doubt_learnt, pass_shown, shown, state_learnt}
use Rattle.commit_gate.proofs.SessionShowing.{shown-caller, some_same}
use Rattle.commit_gate.proofs.ShownViews.{own-below}
use Rattle.commit_gate.proofs.journal_calls.catch_up.Goals as goal

pub learn_outcome-requires : goal.learn_outcome-requires
learn_outcome-requires g c = λ doubt has.
    let x = c.requires.session in
    let gate = c.args.journal.now.knows in
    let lent = c.lend_pass-pass.result in
    let seat : lent ≡ x.session.pass = some_same lent x.session.pass (sym c.lend_pass-pass.ensures.pass ∙ x.session.is) in
    let fits : PassFits gate x.session.pass.knows = subst (λ (p : Sight PassView). PassFits gate p.knows) seat (c.refresh-slot.ensures.agreed.pass lent.knows refl).0 in
    let of_session : c.args.session.now.doubt ≡ Some doubt =
    sym (ap (λ (s : CallerSession g.row.E.Denot). s.doubt) c.lend_pass-pass.ensures.session)
    ∙ sym (ap (λ (s : CallerSession g.row.E.Denot). s.doubt) c.give_pass.ensures)
    ∙ has in
    subst (λ (j : JournalValue). doubt.place < length j.knows.all) (sym c.refresh-slot.ensures.journal)
    (own-below gate x.session.pass.knows fits c.args.session.now.number doubt.place (x.doubt x.session.pass x.session.is doubt of_session))

pub returns-clause-begins : goal.returns-clause-begins
returns-clause-begins g c = record {
  seat = c.lend_pass-pass.result;
  is = c.lend_pass-pass.ensures.pass;
  fits = (c.refresh-slot.ensures.agreed.pass c.lend_pass-pass.result.knows refl).0;
  within = c.refresh-slot.ensures.agreed.gate.decided_within;
}

pub returns-clause-whole : goal.returns-clause-whole
returns-clause-whole g c =
    let store = g.L.StoreName.store in
    let x = c.requires.session in
    let s = c.args.session.now in
    let gate = c.args.journal.now.knows in
    let lent = c.lend_pass-pass.result in
    let seat : lent ≡ x.session.pass = some_same lent x.session.pass (sym c.lend_pass-pass.ensures.pass ∙ x.session.is) in
    let fits : PassFits gate x.session.pass.knows = subst (λ (p : Sight PassView). PassFits gate p.knows) seat (c.refresh-slot.ensures.agreed.pass lent.knows refl).0 in
    let back : Some c.refresh-slot.result.pass ≡ pass_shown gate s.pass = ap Some c.refresh-slot.ensures.pass ∙ sym (ap (pass_shown gate) c.lend_pass-pass.ensures.pass) in
    let given : c.give_pass.new.self ≡ record s { pass = pass_shown gate s.pass } =
    c.give_pass.ensures
    ∙ ap (λ (v : CallerSession g.row.E.Denot). record v { pass = Some c.refresh-slot.result.pass }) c.lend_pass-pass.ensures.session
    ∙ ap (λ (p : Option (Sight PassView)). record s { pass = p }) back in
    let is : c.learn_outcome.new.session ≡ shown gate s =
    c.learn_outcome.ensures
    ∙ ap (λ (j : JournalValue). record c.give_pass.new.self {
      state = state_learnt j.knows c.give_pass.new.self.state c.give_pass.new.self.doubt;
      doubt = doubt_learnt j.knows c.give_pass.new.self.doubt;
    }) c.refresh-slot.ensures.journal
    ∙ ap (λ (v : CallerSession g.row.E.Denot). record v { state = state_learnt gate v.state v.doubt; doubt = doubt_learnt gate v.doubt }) given in
    subst (IsCallerOf store) (sym is) (shown-caller store gate s x fits c.requires.held)
