use Rattle.std.proofs.Common.{rules, ◌≡◌, ◌+◌, ◌<◌, ◌∙◌, [], ◌∷◌, ◌++◌, length, vec_len, refl, sym, arith}
use Rattle.quota_store.specs.Sharing.{limited_by}
use Rattle.quota_store.proofs.CutSessions.{seats_last}
use Rattle.quota_store.proofs.KeptHalves.{halves_empty, length-put, put_halves, put_next}
use Rattle.quota_store.proofs.TurnedLists.{all_turned, none_turned, one_turned}
use Rattle.quota_store.proofs.sharing.cut_sessions.Goals as goal

pub loop-session-init : goal.loop-session-init
loop-session-init g c =
    let seated = c.requires.seated in
    record {
      same = refl;
      turned = none_turned (limited_by c.args.quotas.now) c.args.sessions.items c.args.room.items (sym c.args.room.ok.0 ∙ c.requires.empty);
      seats = record { each = seated.each; numbered = seated.numbered };
      halves = halves_empty c.args.kept.now.items c.requires.places g.L.StoreName.store;
      there = λ k from known. absurd (omega (arith, from, known, seated.many, c.args.sessions.ok.0));
      many = c.args.kept.now.ok.0 ∙ c.requires.places.many;
      few = omega (arith, c.requires.empty, seated.many, c.requires.few, c.args.sessions.ok.0);
      room = c.requires.room;
    }

pub cut_session-session-requires-clause-caller : goal.cut_session-session-requires-clause-caller
cut_session-session-requires-clause-caller g c =
    let l = c.loop-session in
    (seats_last g.L.StoreName.store l.left.items c.pop.new.self.items c.in-Some.session l.invariant.seats c.in-Some.ensures.items).caller

pub loop-session-preserved : goal.loop-session-preserved
loop-session-preserved g c =
    let store = g.L.StoreName.store in
    let l = c.loop-session in
    let session = c.in-Some.session in
    let rest = c.pop.new.self in
    let cut = c.cut_session-session in
    let last = seats_last store l.left.items rest.items session l.invariant.seats c.in-Some.ensures.items in
    let pushed : c.push.new.self.items ≡ l.halved.items ++ cut.result ∷ [] = search rules in
    let longer : vec_len c.push.new.self ≡ vec_len l.halved + 1 = search rules in
    let fewer : vec_len rest + 1 ≡ vec_len l.left = c.in-Some.ensures.cases in
    let number : session.number ≡ vec_len rest = last.number ∙ sym rest.ok.0 in
    let next : vec_len l.left ≡ session.number + 1 = omega (arith, fewer, number) in
    let within : session.number < length l.kept.items = omega (arith, number, fewer, l.invariant.few, l.invariant.many, l.kept.ok.0) in
    record {
      same = cut.ensures.same ∙ l.invariant.same;
      turned = one_turned (limited_by c.args.quotas.now) c.args.sessions.items l.left.items rest.items l.halved.items c.push.new.self.items session cut.result l.invariant.turned
          c.in-Some.ensures.items cut.ensures.session pushed;
      seats = last.seats;
      halves = put_halves store l.kept.items cut.new.kept.items session.number cut.ensures.kept l.invariant.halves;
      there = λ k from known. put_next store l.kept.items cut.new.kept.items session.number cut.ensures.kept (vec_len l.left) next within l.invariant.there k (omega (arith, from, number)) known;
      many = cut.new.kept.ok.0 ∙ length-put store l.kept.items cut.new.kept.items session.number cut.ensures.kept ∙ sym l.kept.ok.0 ∙ l.invariant.many;
      few = omega (arith, l.invariant.few, longer, fewer);
      room = omega (arith, l.invariant.room, c.push.ensures.capacity);
    }

pub returns-clause-sessions : goal.returns-clause-sessions
returns-clause-sessions g c =
    let l = c.loop-session in
    c.reversed.ensures.items
    ∙ all_turned (limited_by c.args.quotas.now) c.args.sessions.items l.left.items l.halved.items l.invariant.turned (sym l.left.ok.0 ∙ c.in_default.ensures.cases.0)

pub returns-clause-all : goal.returns-clause-all
returns-clause-all g c = λ k known. c.loop-session.invariant.there k (omega (arith, c.in_default.ensures.cases.0)) known
