-- What was made may be brought to the gate, and it was.
use Rattle.std.proofs.Common.{IfSome, ap, length, subst, sym, ℕ, ◌∙◌, ◌≡◌, ◌≤◌}
use Rattle.serial_calls.proofs.CommittableObjects.{committable_entry, made_committable, view_file}
use Rattle.serial_calls.proofs.CreatedSessions.{create_leaves_as}
use Rattle.serial_calls.proofs.NewObjects.{create_is}
use Rattle.serial_calls.specs.ObjectMaking.{entry_by}
use Rattle.serial_calls.proofs.create_commit.commit_created.Goals as goal
use Rattle.serial_calls.specs.Rules.{NewObject, create_call, new_object}
use Rattle.crash_core.specs.declared.change.EntryChange.TheVariants.{Put}
use Rattle.dir_records.specs.declared.entry.DirEntry.{DirEntry}
use Rattle.call_steps.specs.NewObjects.{IsNewVersion}
use Rattle.node_image.specs.declared.node.RootRef.{RootRef}
use Rattle.call_steps.specs.ObjectCommits.{IsCommittable, IsCommitted}
use Rattle.call_steps.specs.CreateLaws.{index_of_place, new_entry, new_versions}
use Rattle.call_steps.specs.declared.EntryChange.TheVariants.{Put as PutEntry}
use Rattle.store_model.specs.Machine.{Session as SessionState}
use Rattle.tee_types.specs.declared.call.Call.{Call}
use Rattle.tee_types.specs.declared.reply.Reply.TheVariants.{Handle}

pub commit_change-requires-clause-committable : goal.commit_change-requires-clause-committable
commit_change-requires-clause-committable g c =
    let store = g.L.StoreName.store in
    let gate = c.args.gate.now in
    let was = c.args.session.now in
    let slot = c.args.slot.now in
    let object : NewObject = new_object c.args.call in
    let made = c.requires.made in
    let next : c.next_handle-handle.result ≡ was.state.next_handle = c.next_handle-handle.ensures ∙ ap (λ (s : SessionState). s.next_handle) c.state.ensures in
    let named =
    subst (λ (n : NewObject). IfSome slot.seat (λ seat. c.entry_of-entry.result ≡ entry_by c.app-app.result n.id c.args.root slot.number seat.knows.generation (length n.attributes) (length n.bytes))) c.of_call-object.ensures
    c.entry_of-entry.ensures in
    let entry : c.entry_of-entry.result ≡ new_entry was.state.application object.id c.requires.fresh.seat.knows made.next =
    committable_entry store gate.gate gate.journal.knows gate.closing c.reveal_invariant.ensures.guarded c.requires.idle c.reveal_invariant.ensures.entries was c.requires.calm object c.args.place.now c.requires.may slot
    c.requires.reserved c.args.root made c.requires.fresh c.requires.low c.app-app.result c.entry_of-entry.result c.app-app.ensures named in (
      new_versions made.next,
      subst (λ (p : Call × ℕ × ℕ × DirEntry). IsCommittable store gate.gate gate.journal.knows slot was p.0 (Handle p.1) (Put p.2 p.3) (new_versions made.next))
          (λ i. (create_is c.args.call c.requires.create i, sym next i, sym c.index_of-index.ensures i, sym entry i))
          (made_committable store gate.gate gate.journal.knows gate.closing c.reveal_invariant.ensures.guarded c.requires.idle c.reveal_invariant.ensures.entries was c.requires.calm object c.args.place.now c.requires.may slot
          c.requires.reserved c.args.root made c.requires.fresh c.requires.low),
    )

pub commit_change-requires-clause-moved : goal.commit_change-requires-clause-moved
commit_change-requires-clause-moved g c =
    let parts = c.of_call-object.result in
    create_leaves_as g.L.StoreName.store c.args.gate.now.journal.knows c.args.session.now
    (record { id = parts.id; flags = parts.flags; attributes = parts.attributes.now; bytes = parts.bytes.now }) c.args.call c.app-app.result c.without_overwrite-rights.result c.requires.calm
    (sym (create_is c.args.call c.requires.create) ∙ ap create_call (sym c.of_call-object.ensures)) c.app-app.ensures
    c.without_overwrite-rights.ensures

pub returns-clause-committable : goal.returns-clause-committable
returns-clause-committable g c =
    let store = g.L.StoreName.store in
    let gate = c.args.gate.now in
    let was = c.args.session.now in
    let now = c.commit_change.new.session in
    let slot = c.args.slot.now in
    let object : NewObject = new_object c.args.call in
    let made = c.requires.made in
    let fresh = c.requires.fresh in
    let next : c.next_handle-handle.result ≡ was.state.next_handle = c.next_handle-handle.ensures ∙ ap (λ (s : SessionState). s.next_handle) c.state.ensures in
    let named =
    subst (λ (n : NewObject). IfSome slot.seat (λ seat. c.entry_of-entry.result ≡ entry_by c.app-app.result n.id c.args.root slot.number seat.knows.generation (length n.attributes) (length n.bytes))) c.of_call-object.ensures
    c.entry_of-entry.ensures in
    let entry : c.entry_of-entry.result ≡ new_entry was.state.application object.id fresh.seat.knows made.next =
    committable_entry store gate.gate gate.journal.knows gate.closing c.reveal_invariant.ensures.guarded c.requires.idle c.reveal_invariant.ensures.entries was c.requires.calm object c.args.place.now c.requires.may slot
    c.requires.reserved c.args.root made fresh c.requires.low c.app-app.result c.entry_of-entry.result c.app-app.ensures named in
    let committed : IsCommitted g.F.StoreFile.state g.R.RpmbPort.state store gate c.commit_change.new.gate slot.number was now (create_call object) (Handle was.state.next_handle)
    (PutEntry (index_of_place c.args.place.now) (new_entry was.state.application object.id fresh.seat.knows made.next)) (g.E.Entropy.is_reliable was.entropy) (g.E.Entropy.faults was.entropy)
    (g.E.Entropy.faults now.entropy) c.commit_change.result =
    subst (λ (p : Call × ℕ × ℕ × DirEntry). IsCommitted g.F.StoreFile.state g.R.RpmbPort.state store gate c.commit_change.new.gate slot.number was now p.0 (Handle p.1) (PutEntry p.2 p.3)
    (g.E.Entropy.is_reliable was.entropy) (g.E.Entropy.faults was.entropy) (g.E.Entropy.faults now.entropy) c.commit_change.result)
    (λ i. (sym (create_is c.args.call c.requires.create) i, next i, c.index_of-index.ensures i, entry i)) c.commit_change.ensures.committed in (
      record {
        view = fresh.seat.knows;
        file_is = view_file store gate.gate gate.journal.knows gate.closing c.reveal_invariant.ensures.guarded c.requires.idle c.reveal_invariant.ensures.entries was c.requires.calm object c.args.place.now c.requires.may slot
            c.requires.reserved c.args.root made fresh c.requires.low;
        generation = fresh.next c.requires.low;
        next = made.next;
        of = subst (λ (r : RootRef). IsNewVersion made.next was.state.application object.attributes object.bytes r) (sym made.of.root_is) made.of;
        real = made.real;
        committed = committed;
      },
      made.of.root_is,
    )

pub entry_of-entry-requires-clause-short : goal.entry_of-entry-requires-clause-short
entry_of-entry-requires-clause-short g c = subst (λ (n : NewObject). length n.attributes ≤ 2048) (sym c.of_call-object.ensures) c.requires.may.short

pub entry_of-entry-requires-clause-few : goal.entry_of-entry-requires-clause-few
entry_of-entry-requires-clause-few g c = subst (λ (n : NewObject). length n.bytes ≤ 1044480) (sym c.of_call-object.ensures) c.requires.may.few
