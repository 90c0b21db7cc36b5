-- The journal knows the same history, whatever seats are out.
use Rattle.std.proofs.Common.{◌≡◌, ◌∷◌, Some, unwrap_or, sym, ap, ◌∙◌, subst}
use Rattle.history_seats.specs.Changes.{with_slot_out, without_slot}
use Rattle.history_seats.specs.Numbers.{without}
use Rattle.history_seats.specs.Views.{GateView}
use Rattle.commit_gate.specs.Journals.{IsJournal, JournalValue}
use Rattle.commit_gate.specs.GuardedGates.{GateInvariant}
use Rattle.commit_gate.proofs.FileSeating.{seated-guarded}
use Rattle.commit_gate.proofs.guarded_gate.GuardedGate.reseat.Goals as goal

pub invariant_of-self : goal.invariant_of-self
invariant_of-self g c =
    let store = g.L.StoreName.store in
    let inside = c.self.inside in
    let old = inside.journal.knows in
    let file = c.file-file.result in
    let knows : c.split_slot.new.self.knows ≡ with_slot_out store.mounted file (without_slot c.args.slot.knows old) =
    ap (λ (j : JournalValue). j.knows) c.split_slot.ensures.journal
    ∙ ap (λ (j : JournalValue). with_slot_out store.mounted file j.knows) c.retire.ensures.journal in
    let journal : IsJournal store (with_slot_out store.mounted file (without_slot c.args.slot.knows old)) = subst (IsJournal store) knows c.split_slot.ensures.kept in
    subst (λ (v : GateView). GateInvariant store inside.gate v inside.closing) (sym knows)
    (seated-guarded store old (Some (unwrap_or old.mounted store.mounted)) (file ∷ without c.args.slot.knows.file old.files) inside.gate inside.closing journal
    c.self.invariant)
