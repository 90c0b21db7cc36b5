use Rattle.std.proofs.Common.{arith, ◌∙◌, ℕ, List, Some, None, Ok, Err, IfSome, get_or, sym, ap, subst}
use Rattle.store_commit.specs.declared.resolve.Resolved.TheVariants.{Landed, Dropped}
use Rattle.store_commit.specs.Gates.{gate_sides}
use Rattle.store_commit.specs.Resolving.{MeantBy, Resolves, TellsCounter}
use Rattle.store_commit.specs.Sides.{sides}
use Rattle.store_commit.proofs.Gating.{changed_gate}
use Rattle.store_commit.proofs.Resolutions.{adopted_next, doubt_of, landed, number_dropped, number_landed, undone, undone_gate, unresolved}
use Rattle.store_commit.proofs.gate.Gate.resolve.Goals as goal

pub invariant_of-self : goal.invariant_of-self
invariant_of-self g c =
    let state = g.F.StoreFile.state in
    let port = g.R.RpmbPort.state in
    let i = c.self.inside in
    let h = c.ask_doubt.new.host in
    let d = c.doubted_of-doubted.result in
    let is = doubt_of (sides (state i.dir.file) i.dir.dir (port i.host.port) i.host.key i.counter) i.doubt d c.doubted_of-doubted.ensures c.self.invariant.stands in
    let adopts = adopted_next i.dir c.adopt.new.self is.next is.stands.is_open c.adopt.ensures.committed in
    let done = landed (state i.dir.file) i.dir.dir (port i.host.port) (port h.port) i.host.key h.key i.counter d is
    (λ card has. record { told = sym c.ask_doubt.ensures.card ∙ has.told; keyed = has.keyed ∙ ap (λ (k : List ℕ). Some k) c.ask_doubt.ensures.key }) c.adopt.new.self.dir (state c.adopt.new.self.file) c.in-Ok-Landed.number
    (ap (λ v. state v.file) adopts) (ap (λ v. v.dir) adopts) (number_landed i.counter c.in-Ok-Landed.number c.in-Ok-Landed.ensures.answered.read (subst (λ r. MeantBy i.counter c.in-Ok-Landed.ensures.answered.read (Ok r)) c.in-Ok-Landed.field-0-is c.in-Ok-Landed.ensures.answered.meant)) (subst (λ r. TellsCounter i.host.key i.counter (port i.host.port) (Ok r)) c.in-Ok-Landed.field-0-is c.in-Ok-Landed.ensures.counter) in
    changed_gate (sides (state i.dir.file) i.dir.dir (port i.host.port) i.host.key i.counter)
    (sides (state c.adopt.new.self.file) c.adopt.new.self.dir (port h.port) h.key c.in-Ok-Landed.number)
    d.change i.doubt None i.index c.change_names.new.index i.holds c.end_hold.new.holds c.entry_of-before.result
    is.stands.entries.whole done.entries is.fits (ap (λ k. get_or i.dir.dir.entries k None) (sym c.index_of.ensures) ∙ sym c.entry_of-before.ensures)
    c.change_names.ensures.names c.end_hold.ensures c.self.invariant done.settled (omega arith) tt

pub invariant_of-self-in-Ok-Dropped : goal.invariant_of-self-in-Ok-Dropped
invariant_of-self-in-Ok-Dropped g c =
    let state = g.F.StoreFile.state in
    let port = g.R.RpmbPort.state in
    let i = c.self.inside in
    let h = c.ask_doubt.new.host in
    let d = c.doubted_of-doubted.result in
    let is = doubt_of (sides (state i.dir.file) i.dir.dir (port i.host.port) i.host.key i.counter) i.doubt d c.doubted_of-doubted.ensures c.self.invariant.stands in
    let done = undone (state i.dir.file) i.dir.dir (port i.host.port) (port h.port) i.host.key h.key i.counter d is
    (λ card has. record { told = sym c.ask_doubt.ensures.card ∙ has.told; keyed = has.keyed ∙ ap (λ (k : List ℕ). Some k) c.ask_doubt.ensures.key }) c.drop_stage.new.self.dir (state c.drop_stage.new.self.file) c.in-Ok-Dropped.number
    (ap (λ v. state v.file) c.drop_stage.ensures.same) (ap (λ v. v.dir) c.drop_stage.ensures.same) (number_dropped i.counter c.in-Ok-Dropped.number c.in-Ok-Dropped.ensures.answered.read (subst (λ r. MeantBy i.counter c.in-Ok-Dropped.ensures.answered.read (Ok r)) c.in-Ok-Dropped.field-0-is c.in-Ok-Dropped.ensures.answered.meant)) (subst (λ r. TellsCounter i.host.key i.counter (port i.host.port) (Ok r)) c.in-Ok-Dropped.field-0-is c.in-Ok-Dropped.ensures.counter) in
    undone_gate (sides (state i.dir.file) i.dir.dir (port i.host.port) i.host.key i.counter)
    (sides (state c.drop_stage.new.self.file) c.drop_stage.new.self.dir (port h.port) h.key i.counter)
    i.doubt d c.in-Ok-Dropped.number i.index i.holds c.end_hold-in-Ok-Dropped.new.holds c.self.invariant done c.end_hold-in-Ok-Dropped.ensures

pub returns-in-Ok-Landed-clause-resolves : goal.returns-in-Ok-Landed-clause-resolves
returns-in-Ok-Landed-clause-resolves g c =
    let state = g.F.StoreFile.state in
    let port = g.R.RpmbPort.state in
    let i = c.self.inside in
    let h = c.ask_doubt.new.host in
    let d = c.doubted_of-doubted.result in
    let is = doubt_of (sides (state i.dir.file) i.dir.dir (port i.host.port) i.host.key i.counter) i.doubt d c.doubted_of-doubted.ensures c.self.invariant.stands in
    let adopts = adopted_next i.dir c.adopt.new.self is.next is.stands.is_open c.adopt.ensures.committed in
    let done = landed (state i.dir.file) i.dir.dir (port i.host.port) (port h.port) i.host.key h.key i.counter d is
    (λ card has. record { told = sym c.ask_doubt.ensures.card ∙ has.told; keyed = has.keyed ∙ ap (λ (k : List ℕ). Some k) c.ask_doubt.ensures.key }) c.adopt.new.self.dir (state c.adopt.new.self.file) c.in-Ok-Landed.number
    (ap (λ v. state v.file) adopts) (ap (λ v. v.dir) adopts) (number_landed i.counter c.in-Ok-Landed.number c.in-Ok-Landed.ensures.answered.read (subst (λ r. MeantBy i.counter c.in-Ok-Landed.ensures.answered.read (Ok r)) c.in-Ok-Landed.field-0-is c.in-Ok-Landed.ensures.answered.meant)) (subst (λ r. TellsCounter i.host.key i.counter (port i.host.port) (Ok r)) c.in-Ok-Landed.field-0-is c.in-Ok-Landed.ensures.counter) in
    subst (λ v. IfSome v.doubt (λ x. Resolves (gate_sides state port v) (sides (state c.adopt.new.self.file) c.adopt.new.self.dir (port h.port) h.key c.in-Ok-Landed.number) x (Ok (Landed c.in-Ok-Landed.number)))) c.self.view_is
    (subst (λ o. IfSome o (λ x. Resolves (sides (state i.dir.file) i.dir.dir (port i.host.port) i.host.key i.counter) (sides (state c.adopt.new.self.file) c.adopt.new.self.dir (port h.port) h.key c.in-Ok-Landed.number) x (Ok (Landed c.in-Ok-Landed.number)))) (sym c.doubted_of-doubted.ensures) done)

pub returns-in-Ok-Dropped-clause-resolves : goal.returns-in-Ok-Dropped-clause-resolves
returns-in-Ok-Dropped-clause-resolves g c =
    let state = g.F.StoreFile.state in
    let port = g.R.RpmbPort.state in
    let i = c.self.inside in
    let h = c.ask_doubt.new.host in
    let d = c.doubted_of-doubted.result in
    let is = doubt_of (sides (state i.dir.file) i.dir.dir (port i.host.port) i.host.key i.counter) i.doubt d c.doubted_of-doubted.ensures c.self.invariant.stands in
    let done = undone (state i.dir.file) i.dir.dir (port i.host.port) (port h.port) i.host.key h.key i.counter d is
    (λ card has. record { told = sym c.ask_doubt.ensures.card ∙ has.told; keyed = has.keyed ∙ ap (λ (k : List ℕ). Some k) c.ask_doubt.ensures.key }) c.drop_stage.new.self.dir (state c.drop_stage.new.self.file) c.in-Ok-Dropped.number
    (ap (λ v. state v.file) c.drop_stage.ensures.same) (ap (λ v. v.dir) c.drop_stage.ensures.same) (number_dropped i.counter c.in-Ok-Dropped.number c.in-Ok-Dropped.ensures.answered.read (subst (λ r. MeantBy i.counter c.in-Ok-Dropped.ensures.answered.read (Ok r)) c.in-Ok-Dropped.field-0-is c.in-Ok-Dropped.ensures.answered.meant)) (subst (λ r. TellsCounter i.host.key i.counter (port i.host.port) (Ok r)) c.in-Ok-Dropped.field-0-is c.in-Ok-Dropped.ensures.counter) in
    subst (λ v. IfSome v.doubt (λ x. Resolves (gate_sides state port v) (sides (state c.drop_stage.new.self.file) c.drop_stage.new.self.dir (port h.port) h.key i.counter) x (Ok (Dropped c.in-Ok-Dropped.number)))) c.self.view_is
    (subst (λ o. IfSome o (λ x. Resolves (sides (state i.dir.file) i.dir.dir (port i.host.port) i.host.key i.counter) (sides (state c.drop_stage.new.self.file) c.drop_stage.new.self.dir (port h.port) h.key i.counter) x (Ok (Dropped c.in-Ok-Dropped.number)))) (sym c.doubted_of-doubted.ensures) done)

pub returns-in-Err-clause-resolves : goal.returns-in-Err-clause-resolves
returns-in-Err-clause-resolves g c =
    let state = g.F.StoreFile.state in
    let port = g.R.RpmbPort.state in
    let i = c.self.inside in
    let h = c.ask_doubt.new.host in
    let d = c.doubted_of-doubted.result in
    let is = doubt_of (sides (state i.dir.file) i.dir.dir (port i.host.port) i.host.key i.counter) i.doubt d c.doubted_of-doubted.ensures c.self.invariant.stands in
    let done = unresolved (state i.dir.file) i.dir.dir (port i.host.port) (port h.port) i.host.key h.key i.counter d is
    (λ card has. record { told = sym c.ask_doubt.ensures.card ∙ has.told; keyed = has.keyed ∙ ap (λ (k : List ℕ). Some k) c.ask_doubt.ensures.key }) c.ask_doubt.ensures.key in
    subst (λ v. IfSome v.doubt (λ x. Resolves (gate_sides state port v) (sides (state i.dir.file) i.dir.dir (port h.port) h.key i.counter) x (Err c.in-Err.cause))) c.self.view_is
    (subst (λ o. IfSome o (λ x. Resolves (sides (state i.dir.file) i.dir.dir (port i.host.port) i.host.key i.counter) (sides (state i.dir.file) i.dir.dir (port h.port) h.key i.counter) x (Err c.in-Err.cause))) (sym c.doubted_of-doubted.ensures) done)

pub returns-in-Ok-Landed-clause-counter : goal.returns-in-Ok-Landed-clause-counter
returns-in-Ok-Landed-clause-counter g c =
    let i = c.self.inside in
    rw (← c.self.view_is) (subst (λ r. TellsCounter i.host.key i.counter (g.R.RpmbPort.state i.host.port) (Ok r)) c.in-Ok-Landed.field-0-is c.in-Ok-Landed.ensures.counter)

pub returns-in-Ok-Dropped-clause-counter : goal.returns-in-Ok-Dropped-clause-counter
returns-in-Ok-Dropped-clause-counter g c =
    let i = c.self.inside in
    rw (← c.self.view_is) (subst (λ r. TellsCounter i.host.key i.counter (g.R.RpmbPort.state i.host.port) (Ok r)) c.in-Ok-Dropped.field-0-is c.in-Ok-Dropped.ensures.counter)

pub returns-in-Err-clause-cause : goal.returns-in-Err-clause-cause
returns-in-Err-clause-cause g c =
    rw (← c.self.view_is) c.in-Err.ensures.cause
