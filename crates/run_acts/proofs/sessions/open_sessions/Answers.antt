use Rattle.std.proofs.Common.{rules, ◌≡◌, ◌∙◌, ◌+◌, ℕ, List, [], ◌∷◌, ◌++◌, length, take, sym, ap, subst}
use Rattle.std.proofs.lemmas.List.{take_more}
use Rattle.quota_store.specs.CallerSessions.{CallerSession}
use Rattle.object_calls.specs.Opening.{OpeningValue}
use Rattle.object_calls.specs.OpeningSessions.{AreUnseated, unseated}
use Rattle.run_acts.specs.Reliable.{AreFresh, AreReliable}
use Rattle.run_acts.proofs.Draws.{entropies_push}
use Rattle.run_acts.proofs.Unseated.{one_unseated}
use Rattle.run_acts.proofs.sessions.open_sessions.Goals as goal

pub loop-index-preserved : goal.loop-index-preserved
loop-index-preserved g c =
    let l = c.loop-index in
    let E = g.row.E.Denot in
    let O = OpeningValue g.row.F.Denot g.row.R.Denot in
    let apps : List (List ℕ) = c.args.applications.now in
    let app : List ℕ = c.index-applications-index.result in
    let stream = c.stream-stream.result in
    let session : CallerSession E = c.in_ok-open_session.field-0 in
    let was : l.opening.applications ≡ take l.index apps = ap (λ (o : O). o.applications) l.invariant.opened in
    let more : take (l.index + 1) apps ≡ take l.index apps ++ app ∷ [] =
    take_more apps l.index app c.loop-index-test.true ∙ ap (λ (x : List ℕ). take l.index apps ++ x ∷ []) (sym c.index-applications-index.is) in
    let pushed : c.push.new.self.items ≡ l.sessions.items ++ session ∷ [] = search rules in
    let drawn : session.entropy ≡ stream = ap (λ (s : CallerSession E). s.entropy) c.in_ok-open_session.ensures.session in
    let draws = g.E.Entropy.faults in
    let is_reliable = g.E.Entropy.is_reliable in
    record {
      opened = c.in_ok-open_session.ensures.opened ∙ ap (λ (o : O). let next : O = record o { applications = o.applications ++ app ∷ [] } in next) l.invariant.opened
          ∙ ap (λ (a : List (List ℕ)). let next : O = record c.args.opening.now { applications = a } in next) (sym more);
      sessions = subst (λ (a : List (List ℕ)). AreUnseated {E = E} a c.push.new.self.items) (sym more)
          (subst (λ (s : List (CallerSession E)). AreUnseated {E = E} (take l.index apps ++ app ∷ []) s) (sym pushed)
          (one_unseated (take l.index apps) l.sessions.items app stream session l.invariant.sessions
          (c.in_ok-open_session.ensures.session ∙ ap (λ (a : List (List ℕ)). unseated (length a) app stream) was)));
      fresh = subst (λ (s : List (CallerSession E)). AreFresh draws s) (sym pushed)
          (entropies_push (λ e. draws e ≡ 0) l.sessions.items session l.invariant.fresh (ap draws drawn ∙ c.stream-stream.ensures.fresh));
      reliable = λ reliable. subst (λ (s : List (CallerSession E)). AreReliable is_reliable s) (sym pushed)
          (entropies_push is_reliable l.sessions.items session (l.invariant.reliable reliable) (subst is_reliable (sym drawn) (c.stream-stream.ensures.reliable reliable)));
    }
