-- Behind the call the session's kept half is back with the others.
use Rattle.std.proofs.Common.{◌≡◌, ℕ, Some, sym, subst, arith}
use Rattle.shared_store.specs.CallerSessions.{CallerSession}
use Rattle.shared_store.specs.QuotaCallers.{KeepsLimits}
use Rattle.quota_store.specs.Draws.{CarriesOutcome}
use Rattle.quota_store.specs.LockedCalls.{EndsLocked}
use Rattle.quota_store.specs.Looks.{HasPut, HaveBeenShown}
use Rattle.quota_store.proofs.CutSessions.{lent_back}
use Rattle.quota_store.proofs.LockedCalls.{came-ends, came-limits, ends-caller, put_keeps, shown_keeps}
use Rattle.quota_store.proofs.quota_call.serve_locked.Goals as goal

-- A CALL THAT MAY GROW AN OBJECT
pub look_last-requires-clause-caller : goal.look_last-requires-clause-caller
look_last-requires-clause-caller g c =
    let store = g.L.StoreName.store in
    let call = c.args.call.now in
    let served = c.serve_growing-outcome in
    let was : CallerSession g.row.E.Denot = record c.args.session.now { pass = Some c.args.seat.one } in
    (ends-caller store c.args.limit was served.new.session call served.result
    (came-ends store c.args.limit was served.new.session call c.args.kept.now.items served.new.kept.items c.requires.caller served.result served.ensures.came)).0

pub look_last-requires-clause-place : goal.look_last-requires-clause-place
look_last-requires-clause-place g c =
    let store = g.L.StoreName.store in
    let call = c.args.call.now in
    let served = c.serve_growing-outcome in
    let was : CallerSession g.row.E.Denot = record c.args.session.now { pass = Some c.args.seat.one } in
    let number : served.new.session.number ≡ c.args.session.now.number =
    (ends-caller store c.args.limit was served.new.session call served.result
    (came-ends store c.args.limit was served.new.session call c.args.kept.now.items served.new.kept.items c.requires.caller served.result served.ensures.came)).1 in
    omega (arith, number, c.requires.place, served.ensures.many, served.new.kept.ok.0, c.args.kept.now.ok.0)

pub returns-then-may_grow-clause-ends : goal.returns-then-may_grow-clause-ends
returns-then-may_grow-clause-ends g c =
    let store = g.L.StoreName.store in
    let call = c.args.call.now in
    let served = c.serve_growing-outcome in
    let was : CallerSession g.row.E.Denot = record c.args.session.now { pass = Some c.args.seat.one } in
    let look = c.look_last in
    subst (λ (s : CallerSession g.row.E.Denot). EndsLocked store c.args.limit was s call served.result) (sym (lent_back served.new.session look.result look.new.session look.ensures.half look.ensures.session))
    (came-ends store c.args.limit was served.new.session call c.args.kept.now.items served.new.kept.items c.requires.caller served.result served.ensures.came)

pub returns-then-may_grow-clause-limits : goal.returns-then-may_grow-clause-limits
returns-then-may_grow-clause-limits g c =
    let store = g.L.StoreName.store in
    let call = c.args.call.now in
    let served = c.serve_growing-outcome in
    let was : CallerSession g.row.E.Denot = record c.args.session.now { pass = Some c.args.seat.one } in
    let look = c.look_last in
    subst (λ (s : CallerSession g.row.E.Denot). KeepsLimits store c.args.limit was s) (sym (lent_back served.new.session look.result look.new.session look.ensures.half look.ensures.session))
    (came-limits store c.args.limit was served.new.session call c.args.kept.now.items served.new.kept.items c.requires.caller look.new.kept.items look.result look.ensures.half look.ensures.shown
    c.requires.halves c.requires.others served.result served.ensures.came)

pub returns-then-may_grow-clause-halves : goal.returns-then-may_grow-clause-halves
returns-then-may_grow-clause-halves g c =
    let store = g.L.StoreName.store in
    let call = c.args.call.now in
    let served = c.serve_growing-outcome in
    let was : CallerSession g.row.E.Denot = record c.args.session.now { pass = Some c.args.seat.one } in
    let look = c.look_last in
    let number : served.new.session.number ≡ c.args.session.now.number =
    (ends-caller store c.args.limit was served.new.session call served.result
    (came-ends store c.args.limit was served.new.session call c.args.kept.now.items served.new.kept.items c.requires.caller served.result served.ensures.came)).1 in
    shown_keeps store c.args.session.now.number look.result.knows c.args.kept.now.items look.new.kept.items served.new.kept.items served.ensures.halves served.ensures.alike served.ensures.many
    (subst (λ (n : ℕ). HaveBeenShown store n look.result.knows served.new.kept.items look.new.kept.items) number look.ensures.shown)

pub returns-then-may_grow-clause-drawn : goal.returns-then-may_grow-clause-drawn
returns-then-may_grow-clause-drawn g c =
    let faults = g.E.Entropy.faults in
    subst (λ (s : CallerSession g.row.E.Denot). CarriesOutcome (faults c.args.session.now.entropy) (faults s.entropy) c.serve_growing-outcome.result) (sym c.look_last.ensures.session)
    c.serve_growing-outcome.ensures.drawn

-- ANOTHER CALL
pub cut-requires-clause-caller : goal.cut-requires-clause-caller
cut-requires-clause-caller g c =
    let served = c.serve_other-outcome in
    let was : CallerSession g.row.E.Denot = record c.args.session.now { pass = Some c.args.seat.one } in
    (ends-caller g.L.StoreName.store c.args.limit was served.new.session c.args.call.now served.result served.ensures.ends).0

pub returns-else-may_grow-clause-ends : goal.returns-else-may_grow-clause-ends
returns-else-may_grow-clause-ends g c =
    let served = c.serve_other-outcome in
    let was : CallerSession g.row.E.Denot = record c.args.session.now { pass = Some c.args.seat.one } in
    subst (λ (s : CallerSession g.row.E.Denot). EndsLocked g.L.StoreName.store c.args.limit was s c.args.call.now served.result)
    (sym (lent_back served.new.session c.cut.result c.cut.new.session c.cut.ensures.half c.cut.ensures.session)) served.ensures.ends

pub returns-else-may_grow-clause-limits : goal.returns-else-may_grow-clause-limits
returns-else-may_grow-clause-limits g c =
    let served = c.serve_other-outcome in
    let was : CallerSession g.row.E.Denot = record c.args.session.now { pass = Some c.args.seat.one } in
    subst (λ (s : CallerSession g.row.E.Denot). KeepsLimits g.L.StoreName.store c.args.limit was s)
    (sym (lent_back served.new.session c.cut.result c.cut.new.session c.cut.ensures.half c.cut.ensures.session)) served.ensures.limits

pub returns-else-may_grow-clause-halves : goal.returns-else-may_grow-clause-halves
returns-else-may_grow-clause-halves g c =
    let store = g.L.StoreName.store in
    let served = c.serve_other-outcome in
    let was : CallerSession g.row.E.Denot = record c.args.session.now { pass = Some c.args.seat.one } in
    let number : served.new.session.number ≡ c.args.session.now.number = (ends-caller store c.args.limit was served.new.session c.args.call.now served.result served.ensures.ends).1 in
    put_keeps store c.args.session.now.number c.cut.result.knows c.args.kept.now.items c.cut.new.kept.items c.requires.halves
    (subst (λ (n : ℕ). HasPut store n c.cut.result.knows c.args.kept.now.items c.cut.new.kept.items) number c.cut.ensures.kept)

pub returns-else-may_grow-clause-drawn : goal.returns-else-may_grow-clause-drawn
returns-else-may_grow-clause-drawn g c =
    let faults = g.E.Entropy.faults in
    subst (λ (s : CallerSession g.row.E.Denot). CarriesOutcome (faults c.args.session.now.entropy) (faults s.entropy) c.serve_other-outcome.result) (sym c.cut.ensures.session)
    c.serve_other-outcome.ensures.drawn
