-- The rename may be brought with its slot; and where the object is another application's, no tamper scenario answers the history.
use Rattle.std.proofs.Common.{◌≡◌, ℕ, List, rules, sym, ap, ◌∙◌, subst}
use Rattle.call_steps.specs.JournalCalls.{LeavesSession}
use Rattle.call_steps.specs.CallerSessions.{CallerSession}
use Rattle.history_seats.specs.Changes.{TagVersions}
use Rattle.call_steps.specs.GuardedGates.{GuardedGateValue}
use Rattle.call_steps.specs.SessionMoves.{moved_by}
use Rattle.call_steps.specs.declared.SessionMove.{SessionMove}
use Rattle.call_steps.proofs.NameCommits.{handles_own}
use Rattle.call_steps.specs.ObjectCommits.{IsCommittable}
use Rattle.call_steps.specs.NameLaws.{kept_versions}
use Rattle.call_steps.specs.declared.EntryChange.{EntryChange}
use Rattle.store_model.specs.declared.name.ObjectName.{ObjectName}
use Rattle.tee_types.specs.declared.call.Call.TheVariants.{Rename}
use Rattle.tee_types.specs.declared.reply.Reply.TheVariants.{Done}
use Rattle.call_steps.specs.Index.{named}
use Rattle.serial_calls.proofs.CommittableNames.{rename-committable}
use Rattle.serial_calls.proofs.NameMoves.{rename-moves}
use Rattle.serial_calls.specs.NameChanges.{rename_step}
use Rattle.serial_calls.proofs.rename_call.rename.Goals as goal

pub commit_change-requires-clause-committable : goal.commit_change-requires-clause-committable
commit_change-requires-clause-committable g c =
    let store = g.L.StoreName.store in
    let gate = c.args.gate.now in
    let found = c.args.found.now in
    let met = c.catch_up_entry.ensures in
    let slot = c.catch_up_entry.new.slot in
    let same : found.held.entry.app ≡ c.app-app.result = search rules in
    subst (λ (x : GuardedGateValue g.row.F.Denot g.row.R.Denot × CallerSession g.row.E.Denot × EntryChange).
    (versions : TagVersions) × IsCommittable store x.0.gate x.0.journal.knows slot x.1 (Rename c.args.handle c.args.id) Done x.2 versions)
    (λ i. (sym met.gate i, sym (met.calm c.requires.calm) i, sym c.change_for.ensures i)) (
      kept_versions met.at.0,
      rename-committable store gate.gate gate.journal.knows gate.closing c.reveal_invariant.ensures.guarded c.reveal_invariant.ensures.entries c.requires.idle c.args.session.now c.requires.calm c.args.handle found c.requires.found.opened
          slot met.guarded met.at.0 met.at.1 c.args.id c.requires.renames c.requires.unnamed (same ∙ c.app-app.ensures),
    )

pub commit_change-requires-clause-moved : goal.commit_change-requires-clause-moved
commit_change-requires-clause-moved g c =
    let store = g.L.StoreName.store in
    let gate = c.args.gate.now in
    let met = c.catch_up_entry.ensures in
    let step : c.step_for.result ≡ rename_step c.args.found.now c.args.handle (named c.args.session.now.state.application c.args.id) =
    c.step_for.ensures ∙ ap (λ (a : List ℕ). rename_step c.args.found.now c.args.handle (named a c.args.id)) c.app-app.ensures in
    subst (λ (x : GuardedGateValue g.row.F.Denot g.row.R.Denot × CallerSession g.row.E.Denot × SessionMove).
    LeavesSession store x.0.journal.knows x.1.number (Rename c.args.handle c.args.id) (moved_by x.1.state x.2))
    (λ i. (sym met.gate i, sym (met.calm c.requires.calm) i, sym step i))
    (rename-moves store gate.journal.knows gate.gate.dir.dir.entries gate.gate.open_handles c.reveal_invariant.ensures.machine c.args.session.now c.requires.calm c.args.handle c.args.found.now c.requires.found
    c.args.id c.requires.unnamed)

pub returns-then-ne-clause-unanswered : goal.returns-then-ne-clause-unanswered
returns-then-ne-clause-unanswered g c =
    let found = c.args.found.now in
    let apart : found.held.entry.app ≡ c.app-app.result → ⊥ = search rules in
    let own = handles_own g.row.E.Denot g.L.StoreName.store c.args.gate.now.journal.knows c.args.session.now c.args.handle found.handle c.requires.calm c.requires.found.opened.live in
    λ scenario answered. apart (ap (λ (n : ObjectName). n.app) c.requires.found.opened.named.1 ∙ own scenario answered ∙ sym c.app-app.ensures)
