-- The delete may be brought with its slot, once that is free.
use Rattle.std.proofs.Common.{sym, subst}
use Rattle.call_steps.specs.JournalCalls.{LeavesSession}
use Rattle.call_steps.specs.CallerSessions.{CallerSession}
use Rattle.history_seats.specs.Changes.{TagVersions}
use Rattle.call_steps.specs.GuardedGates.{GuardedGateValue}
use Rattle.call_steps.specs.SessionMoves.{moved_by}
use Rattle.call_steps.specs.declared.SessionMove.TheVariants.{Closes}
use Rattle.call_steps.specs.ObjectCommits.{IsCommittable}
use Rattle.call_steps.specs.NameLaws.{cleared_versions}
use Rattle.call_steps.specs.SlotValues.{SlotValue}
use Rattle.tee_types.specs.declared.call.Call.TheVariants.{Delete}
use Rattle.tee_types.specs.declared.reply.Reply.TheVariants.{Done}
use Rattle.serial_calls.proofs.CommittableNames.{delete-committable, no-stage}
use Rattle.serial_calls.proofs.NameMoves.{delete-moves}
use Rattle.serial_calls.specs.NameChanges.{delete_change}
use Rattle.serial_calls.proofs.delete_call.delete.Goals as goal

pub free-requires-clause-idle : goal.free-requires-clause-idle
free-requires-clause-idle g c =
    let at = c.catch_up_entry.ensures.at in
    no-stage g.L.StoreName.store c.args.gate.now.journal.knows c.catch_up_entry.new.slot c.catch_up_entry.ensures.guarded c.args.found.now.held.entry at.0 at.1

pub commit_change-requires-clause-committable : goal.commit_change-requires-clause-committable
commit_change-requires-clause-committable g c =
    let store = g.L.StoreName.store in
    let gate = c.args.gate.now in
    let found = c.args.found.now in
    let met = c.catch_up_entry.ensures in
    let slot = c.catch_up_entry.new.slot in
    subst (λ (x : GuardedGateValue g.row.F.Denot g.row.R.Denot × CallerSession g.row.E.Denot × SlotValue).
    (versions : TagVersions) × IsCommittable store x.0.gate x.0.journal.knows x.2 x.1 (Delete c.args.handle) Done (delete_change found) versions)
    (λ i. (sym met.gate i, sym (met.calm c.requires.calm) i, sym c.free.ensures i)) (
      cleared_versions met.at.0,
      delete-committable store gate.gate gate.journal.knows gate.closing c.reveal_invariant.ensures.guarded c.reveal_invariant.ensures.entries c.requires.idle c.args.session.now c.requires.calm c.args.handle found c.requires.found.opened
          slot met.guarded met.at.0 met.at.1 c.requires.deletes,
    )

pub commit_change-requires-clause-moved : goal.commit_change-requires-clause-moved
commit_change-requires-clause-moved g c =
    let store = g.L.StoreName.store in
    let gate = c.args.gate.now in
    let met = c.catch_up_entry.ensures in
    subst (λ (x : GuardedGateValue g.row.F.Denot g.row.R.Denot × CallerSession g.row.E.Denot).
    LeavesSession store x.0.journal.knows x.1.number (Delete c.args.handle) (moved_by x.1.state (Closes c.args.handle)))
    (λ i. (sym met.gate i, sym (met.calm c.requires.calm) i))
    (delete-moves store gate.journal.knows gate.gate.dir.dir.entries gate.gate.open_handles c.reveal_invariant.ensures.machine c.args.session.now c.requires.calm c.args.handle c.args.found.now c.requires.found)
