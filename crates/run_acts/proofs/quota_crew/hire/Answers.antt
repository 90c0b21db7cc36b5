use Rattle.std.proofs.Common.{rules, ◌≡◌, ◌+◌, ◌++◌, ◌∙◌, false, List, [], ◌∷◌, length-append, vec_len, ap, arith}
use Rattle.std.proofs.lemmas.List.{map-append}
use Rattle.std.proofs.lemmas.List.Elements.{All-push, All-same}
use Rattle.quota_store.specs.Callers.{QuotaCaller}
use Rattle.run_acts.specs.QuotaCrews.{sessions_of}
use Rattle.run_acts.specs.declared.quota_worker.QuotaWorker.{QuotaWorker}
use Rattle.run_acts.proofs.quota_crew.hire.Goals as goal

pub loop-session-preserved : goal.loop-session-preserved
loop-session-preserved g c =
    let l = c.loop-session in
    let session : QuotaCaller g.row.E.Denot = c.in-Some.session in
    let hired : QuotaWorker g.row.E.Denot = record { session = session; refused = c.new.result; done = false } in
    let pushed : c.push.new.self.items ≡ l.workers.items ++ hired ∷ [] = search rules in
    let longer : vec_len c.push.new.self ≡ vec_len l.workers + 1 = search rules in
    record {
      hired = record {
        sessions_are = ap (λ (x : List (QuotaWorker g.row.E.Denot)). sessions_of x) pushed
            ∙ map-append (λ (w : QuotaWorker g.row.E.Denot). w.session) l.workers.items (hired ∷ [])
            ∙ ap (λ (x : List (QuotaCaller g.row.E.Denot)). x ++ session ∷ []) l.invariant.hired.sessions_are;
        unrefused = All-same (λ (w : QuotaWorker g.row.E.Denot). w.refused.items ≡ []) c.push.new.self.items (l.workers.items ++ hired ∷ []) pushed
            (All-push (λ (w : QuotaWorker g.row.E.Denot). w.refused.items ≡ []) l.workers.items hired l.invariant.hired.unrefused c.new.ensures.items);
      };
      many = omega (arith, longer, l.invariant.many, length-append l.yielded (session ∷ []));
      room = omega (arith, l.invariant.room, c.push.ensures.capacity);
    }
