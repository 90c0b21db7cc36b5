use Rattle.std.proofs.Common.{rules, ◌≡◌, ◌+◌, ◌∙◌, ℕ, [], ◌∷◌, ◌++◌, vec_len, refl, sym, subst, arith}
use Rattle.quota_store.specs.Callers.{QuotaCaller}
use Rattle.quota_store.specs.Halves.{AreHalves, IsHalfOf}
use Rattle.quota_store.proofs.CutSessions.{callers_last}
use Rattle.quota_store.proofs.KeptHalves.{halves_taken}
use Rattle.quota_store.proofs.TurnedLists.{all_turned, none_turned, one_turned}
use Rattle.quota_store.proofs.joining.join_halves.Goals as goal

pub loop-session-init : goal.loop-session-init
loop-session-init g c = record {
  same = refl;
  turned = none_turned (λ (q : QuotaCaller g.row.E.Denot). q.caller) c.args.sessions.items c.args.room.items (sym c.args.room.ok.0 ∙ c.requires.empty);
  callers = c.requires.callers;
  halves = c.requires.halves;
  few = omega (arith, c.requires.empty);
  room = c.requires.room;
}

pub join_session-session-requires-clause-caller : goal.join_session-session-requires-clause-caller
join_session-session-requires-clause-caller g c =
    let l = c.loop-session in
    (callers_last g.L.StoreName.store l.left.items c.pop.new.self.items c.in-Some.session l.invariant.callers c.in-Some.ensures.items).1

pub join_session-session-requires-clause-other : goal.join_session-session-requires-clause-other
join_session-session-requires-clause-other g c =
    let other = c.await_half-other in
    subst (λ (n : ℕ). IsHalfOf g.L.StoreName.store n other.result) c.number.ensures (c.loop-session.invariant.halves c.number.result other.result other.ensures.half)

pub loop-session-preserved : goal.loop-session-preserved
loop-session-preserved g c =
    let store = g.L.StoreName.store in
    let l = c.loop-session in
    let session = c.in-Some.session in
    let rest = c.pop.new.self in
    let joined = c.join_session-session in
    let pushed : c.push.new.self.items ≡ l.joined.items ++ joined.result ∷ [] = search rules in
    let longer : vec_len c.push.new.self ≡ vec_len l.joined + 1 = search rules in
    let fewer : vec_len rest + 1 ≡ vec_len l.left = c.in-Some.ensures.cases in
    record {
      same = joined.ensures.same ∙ l.invariant.same;
      turned = one_turned (λ (q : QuotaCaller g.row.E.Denot). q.caller) c.args.sessions.items l.left.items rest.items l.joined.items c.push.new.self.items session joined.result l.invariant.turned
          c.in-Some.ensures.items joined.ensures.session pushed;
      callers = (callers_last store l.left.items rest.items session l.invariant.callers c.in-Some.ensures.items).0;
      halves = subst (AreHalves store) (sym c.await_half-other.ensures.left) (halves_taken store l.places.items l.invariant.halves c.number.result);
      few = omega (arith, l.invariant.few, longer, fewer);
      room = omega (arith, l.invariant.room, c.push.ensures.capacity);
    }

pub returns-clause-sessions : goal.returns-clause-sessions
returns-clause-sessions g c =
    let l = c.loop-session in
    c.reversed.ensures.items
    ∙ all_turned (λ (q : QuotaCaller g.row.E.Denot). q.caller) c.args.sessions.items l.left.items l.joined.items l.invariant.turned (sym l.left.ok.0 ∙ c.in_default.ensures.cases.0)
