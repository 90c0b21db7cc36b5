-- Behind the lock what became of the doubt is tied to the history.
use Rattle.std.proofs.Common.{◌≡◌, ℕ, None, Ok, Err, IsSome, sym, ap, ◌∙◌, subst}
use Rattle.history_seats.specs.Views.{GateView}
use Rattle.history_seats.specs.Changes.{landing_of, with_record}
use Rattle.commit_gate.specs.Journals.{IsJournal, JournalValue}
use Rattle.store_commit.specs.declared.resolve.Resolved.{Resolved}
use Rattle.store_commit.specs.declared.resolve.Resolved.TheVariants.{Landed}
use Rattle.store_commit.specs.Gates.{GateValue, gate_sides}
use Rattle.store_commit.specs.Resolving.{IsLanded, IsUndone, IsUnresolved, Resolves, TellsCounter}
use Rattle.store_commit.specs.Sides.{Sides}
use Rattle.store_commit.specs.View.{DirView}
use Rattle.commit_gate.specs.GuardedGates.{GateInvariant, GuardedGateValue}
use Rattle.commit_gate.specs.Settled.{Closes}
use Rattle.commit_gate.proofs.DoubtResolving.{doubted-distinct, dropped-guarded, landed-guarded, same-guarded, the-doubt, the-resolve}
use Rattle.commit_gate.proofs.guarded_gate.GuardedGate.resolve.Goals as goal

pub invariant_of-self : goal.invariant_of-self
invariant_of-self g c =
    let gate = c.self.inside.gate in
    let here = c.in_err-resolved in
    let has : IsSome gate.doubt = subst (λ (v : GuardedGateValue g.row.F.Denot g.row.R.Denot). IsSome v.gate.doubt) (sym c.self.view_is) c.requires.doubt in
    let d = the-doubt gate.doubt has in
    let old = gate_sides g.F.StoreFile.state g.R.RpmbPort.state gate in
    let new = gate_sides g.F.StoreFile.state g.R.RpmbPort.state c.resolve.new.self in
    let left : IsUnresolved old new d.0 =
    the-resolve (λ d. Resolves old new d (Err here.field-0.0)) gate.doubt d.0 d.1 here.ensures.resolves in
    same-guarded g.L.StoreName.store gate c.resolve.new.self c.self.inside.journal.knows c.self.inside.closing (ap (λ (s : Sides). s.dir) left.same) (ap (λ (s : Sides). s.counter) left.same)
    here.ensures.doubt here.ensures.open_handles here.ensures.key c.self.invariant

pub invariant_of-self-in-Landed : goal.invariant_of-self-in-Landed
invariant_of-self-in-Landed g c =
    let store = g.L.StoreName.store in
    let gate = c.self.inside.gate in
    let knows = c.self.inside.journal.knows in
    let here = c.in_ok-resolved in
    let has : IsSome gate.doubt = subst (λ (v : GuardedGateValue g.row.F.Denot g.row.R.Denot). IsSome v.gate.doubt) (sym c.self.view_is) c.requires.doubt in
    let d = the-doubt gate.doubt has in
    let old = gate_sides g.F.StoreFile.state g.R.RpmbPort.state gate in
    let new = gate_sides g.F.StoreFile.state g.R.RpmbPort.state c.resolve.new.self in
    let landed : IsLanded old new d.0 c.in-Landed.number =
    subst (λ (how : Resolved). Resolves old new d.0 (Ok how)) c.in-Landed.is (the-resolve (λ d. Resolves old new d (Ok here.resolved)) gate.doubt d.0 d.1 here.ensures.resolves) in
    let same = c.close.ensures.same in
    let view : c.append_landed.new.self.knows ≡ with_record (landing_of d.0.number) knows =
    c.append_landed.ensures.knows ∙ ap (λ (n : ℕ). with_record (landing_of n) knows) landed.number in
    subst (λ (k : GateView). GateInvariant store c.close.new.gate k None) (sym view)
    (landed-guarded store gate knows c.self.inside.closing d.0 d.1 c.self.invariant c.close.new.gate
    (ap (λ (v : GateValue g.row.F.Denot g.row.R.Denot). v.counter) same ∙ landed.counted ∙ landed.number)
    (ap (λ (v : GateValue g.row.F.Denot g.row.R.Denot). v.doubt) same ∙ here.ensures.doubt)
    (ap (λ (v : GateValue g.row.F.Denot g.row.R.Denot). v.dir.dir.tsk) same ∙ landed.tsk)
    (ap (λ (v : GateValue g.row.F.Denot g.row.R.Denot). v.dir.dir.root.format) same ∙ landed.format)
    (ap (λ (v : GateValue g.row.F.Denot g.row.R.Denot). v.host.key) same ∙ here.ensures.key)
    (ap (λ (v : GateValue g.row.F.Denot g.row.R.Denot). v.dir.dir.entries) same ∙ landed.entries)
    (doubted-distinct old gate.doubt d.0 d.1 c.reveal_invariant.ensures.stands)
    (subst (λ t. Closes c.self.inside.closing t c.close.new.gate.open_handles) here.ensures.open_handles c.close.ensures.closes)
    (subst (IsJournal store) view c.append_landed.ensures.kept))

pub invariant_of-self-in-Dropped : goal.invariant_of-self-in-Dropped
invariant_of-self-in-Dropped g c =
    let store = g.L.StoreName.store in
    let gate = c.self.inside.gate in
    let knows = c.self.inside.journal.knows in
    let here = c.in_ok-resolved in
    let has : IsSome gate.doubt = subst (λ (v : GuardedGateValue g.row.F.Denot g.row.R.Denot). IsSome v.gate.doubt) (sym c.self.view_is) c.requires.doubt in
    let d = the-doubt gate.doubt has in
    let old = gate_sides g.F.StoreFile.state g.R.RpmbPort.state gate in
    let new = gate_sides g.F.StoreFile.state g.R.RpmbPort.state c.resolve.new.self in
    let undone : IsUndone old new d.0 c.in-Dropped.field-0 =
    subst (λ (how : Resolved). Resolves old new d.0 (Ok how)) c.in-Dropped.is (the-resolve (λ d. Resolves old new d (Ok here.resolved)) gate.doubt d.0 d.1 here.ensures.resolves) in
    let view = ap (λ (j : JournalValue). j.knows) c.drop_doubt.ensures.journal in
    subst (λ (k : GateView). GateInvariant store c.resolve.new.self k None) (sym view)
    (dropped-guarded store gate knows c.self.inside.closing d.0 d.1 c.self.invariant c.resolve.new.self undone.counted here.ensures.doubt
    (ap (λ (v : DirView). v.tsk) undone.same) (ap (λ (v : DirView). v.root.format) undone.same) here.ensures.key (ap (λ (v : DirView). v.entries) undone.same) here.ensures.open_handles
    (subst (IsJournal store) view c.drop_doubt.ensures.kept))

pub returns-in-Landed-clause-counter : goal.returns-in-Landed-clause-counter
returns-in-Landed-clause-counter g c =
    subst (λ (v : GuardedGateValue g.row.F.Denot g.row.R.Denot). TellsCounter v.gate.host.key v.gate.counter (g.R.RpmbPort.state v.gate.host.port) (Ok (Landed c.in-Landed.number))) c.self.view_is
    (subst (λ (how : Resolved). TellsCounter c.self.inside.gate.host.key c.self.inside.gate.counter (g.R.RpmbPort.state c.self.inside.gate.host.port) (Ok how)) c.in-Landed.is c.in_ok-resolved.ensures.counter)
