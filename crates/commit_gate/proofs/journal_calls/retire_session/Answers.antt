-- The seat is the session's, and the history has no more events of it.
use Rattle.std.proofs.Common.{◌≡◌, false, ℕ, refl, sym, ap, ◌∙◌, subst}
use Rattle.history_seats.specs.Numbers.{is_in, without}
use Rattle.history_seats.specs.Views.{Sight, PassView}
use Rattle.commit_gate.specs.CallerSessions.{session_value}
use Rattle.commit_gate.proofs.SessionShowing.{some_same}
use Rattle.commit_gate.proofs.ShownViews.{made-whole}
use Rattle.commit_gate.proofs.journal_calls.retire_session.Goals as goal

pub returns-clause-journal : goal.returns-clause-journal
returns-clause-journal g c =
    let x = c.requires.session in
    let old = c.args.journal.now in
    let pass = c.into_pass-pass.result in
    let own : (pass.knows).session ≡ c.args.session.number =
    ap (λ (p : Sight PassView). (p.knows).session) (some_same pass x.pass (sym c.into_pass-pass.ensures ∙ x.is)) ∙ sym x.number in
    c.retire_pass.ensures.journal ∙ ap (λ (n : ℕ). record old { knows = record old.knows { sessions = without n old.knows.sessions } }) own

pub returns-clause-gone : goal.returns-clause-gone
returns-clause-gone g c =
    let x = c.requires.session in
    let pass = c.into_pass-pass.result in
    let own : (pass.knows).session ≡ c.args.session.number =
    ap (λ (p : Sight PassView). (p.knows).session) (some_same pass x.pass (sym c.into_pass-pass.ensures ∙ x.is)) ∙ sym x.number in
    subst (λ (n : ℕ). is_in n c.retire_pass.new.self.knows.sessions ≡ false) own c.retire_pass.ensures.gone

pub returns-clause-begins : goal.returns-clause-begins
returns-clause-begins g c = record {
  seat = c.into_pass-pass.result;
  is = c.into_pass-pass.ensures;
  fits = (c.retire_pass.ensures.agreed.pass c.into_pass-pass.result.knows refl).0;
  within = c.retire_pass.ensures.agreed.gate.decided_within;
}

pub returns-clause-made : goal.returns-clause-made
returns-clause-made g c =
    made-whole g.L.StoreName.store c.args.journal.now.knows (session_value c.args.session) c.requires.session c.into_pass-pass.result c.into_pass-pass.ensures
    (c.retire_pass.ensures.agreed.pass c.into_pass-pass.result.knows refl).0
