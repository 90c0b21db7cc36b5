use Rattle.std.proofs.Common.{◌∙◌, ◌≤◌, None, get_or, ap, sym, subst}
use Rattle.crash_core.specs.EntryChanges.{file_put}
use Rattle.store_commit.specs.Changes.{FitsIn}
use Rattle.store_commit.specs.Holds.{IsTaken}
use Rattle.store_commit.specs.Sides.{sides}
use Rattle.store_commit.proofs.Gating.{doubted_gate, made_gate}
use Rattle.store_commit.proofs.gate.Gate.commit.Goals as goal

pub invariant_of-self : goal.invariant_of-self
invariant_of-self g c =
    let i = c.self.inside in
    let n = c.commit_parts-end.new in
    made_gate (sides (g.F.StoreFile.state i.dir.file) i.dir.dir (g.R.RpmbPort.state i.host.port) i.host.key i.counter)
    (sides (g.F.StoreFile.state n.dir.file) n.dir.dir (g.R.RpmbPort.state n.host.port) n.host.key n.counter)
    c.args.change c.in-Made.number i.doubt i.index c.change_names.new.index i.holds c.end_hold.new.holds c.entry_of-before.result
    (ap (λ v. v.doubt) c.self.view_is ∙ c.requires.idle) c.in-Made.ensures.leaves
    (subst (λ v. FitsIn v.dir.dir.entries c.args.change) (sym c.self.view_is) c.requires.fits)
    (ap (λ k. get_or i.dir.dir.entries k None) (sym c.index_of.ensures) ∙ sym c.entry_of-before.ensures)
    c.change_names.ensures.names c.end_hold.ensures c.self.invariant

pub returns-in-Doubtful-clause-steps : goal.returns-in-Doubtful-clause-steps
returns-in-Doubtful-clause-steps g c = rw (← c.self.view_is) c.in-Doubtful.ensures.steps

pub returns-in-Doubtful-clause-cause : goal.returns-in-Doubtful-clause-cause
returns-in-Doubtful-clause-cause g c = rw (← c.self.view_is) c.in-Doubtful.ensures.cause

pub returns-in-Dropped-clause-cause : goal.returns-in-Dropped-clause-cause
returns-in-Dropped-clause-cause g c = rw (← c.self.view_is) c.in-Dropped.ensures.cause

pub invariant_of-self-in-Doubtful : goal.invariant_of-self-in-Doubtful
invariant_of-self-in-Doubtful g c =
    let i = c.self.inside in
    let n = c.commit_parts-end.new in
    doubted_gate (sides (g.F.StoreFile.state i.dir.file) i.dir.dir (g.R.RpmbPort.state i.host.port) i.host.key i.counter)
    (sides (g.F.StoreFile.state n.dir.file) n.dir.dir (g.R.RpmbPort.state n.host.port) n.host.key n.counter)
    c.args.change c.in-Doubtful.number i.doubt i.index i.holds
    (ap (λ v. v.doubt) c.self.view_is ∙ c.requires.idle) c.in-Doubtful.ensures.leaves
    (subst (λ v. FitsIn v.dir.dir.entries c.args.change) (sym c.self.view_is) c.requires.fits)
    (subst (λ v. IsTaken v.dir.dir.entries v.holds (file_put c.args.change)) (sym c.self.view_is) c.requires.taken)
    (subst (λ v. 1 ≤ v.room) (sym c.self.view_is) c.requires.room) c.self.invariant
