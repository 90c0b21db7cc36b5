-- A gate behind its lock over an answer that comes with the seat of the object's file.
use Rattle.std.proofs.Common.{◌≡◌, ◌<◌, ℕ, [], ◌∷◌, length, Option, Some, None, refl, sym, subst}
use Rattle.tee_types.specs.declared.call.Call.{Call}
use Rattle.tee_types.specs.declared.reply.Reply.{Reply}
use Rattle.open_table.specs.Table.{TableState}
use Rattle.store_model.specs.declared.event.Event.TheVariants.{Call as CallEvent}
use Rattle.store_model.specs.declared.event.Mark.TheVariants.{Unchanged}
use Rattle.store_model.specs.Record.{Tag}
use Rattle.history_seats.specs.Records.{HistoryRecord, Version}
use Rattle.history_seats.specs.Tags.{HasRightTag}
use Rattle.history_seats.specs.Views.{GateView, SlotView}
use Rattle.history_seats.specs.Changes.{with_record}
use Rattle.core_laws.specs.Stores.{Store}
use Rattle.core_laws.proofs.Answers.{answered-front}
use Rattle.core_laws.proofs.Mending.{some_same}
use Rattle.core_laws.proofs.SessionSteps.{sessions_at}
use Rattle.commit_gate.specs.Journals.{IsJournal}
use Rattle.core_laws.specs.TieLaws.{KeepsDoubt}
use Rattle.core_laws.specs.TagLaws.{NamesGiven}
use Rattle.core_laws.proofs.QuietTies.{unchanged_ties}
use Rattle.core_laws.proofs.RightTags.{unchanged_right}
use Rattle.call_rules.proofs.EventOpens.{unchanged-event}
use Rattle.crash_core.specs.declared.change.DoubtedChange.{DoubtedChange}
use Rattle.store_commit.specs.Gates.{GateValue}
use Rattle.open_table.specs.HandleChanges.{NotesReply}
use Rattle.commit_gate.specs.declared.guarded_gate.Closing.{Closing}
use Rattle.commit_gate.specs.GuardedGates.{IsClosingTied, GateInvariant}
use Rattle.commit_gate.specs.SlotAnswers.{MayBeTold, slot_record, versions_given}

module _ (store : Store) (knows : GateView) (slot : SlotView) (session made : ℕ) (call : Call) (reply : Reply) where
  abbrev r : HistoryRecord
  r = slot_record store knows slot session made call reply

  abbrev the_tag : Tag Version
  the_tag = record { file = slot.file; generation = slot.generation; committed = (versions_given store knows slot).committed; doubted = None }

  right : HasRightTag store.mounted knows.all r
  right = unchanged_right store.mounted knows.all r refl (λ tag is. subst (NamesGiven store.mounted knows.all) (some_same the_tag tag is) (record { committed = refl; doubted = refl }))

  slot-closes : (doubt : Option DoubtedChange) (closing : Option Closing) → doubt ≡ None → IsClosingTied store knows doubt closing → IsClosingTied store (with_record r knows) doubt closing
  slot-closes None closing calm closes = closes
  slot-closes (Some d) closing calm closes = absurd (none_some calm)
    where
      none_some : Some d ≡ None → ⊥
      none_some e = cc

  pub slot-guarded : {F R : Type 0} (gate : GateValue F R) (table : TableState) (closing : Option Closing) → session < length store.mounted.applications
      → MayBeTold store gate.doubt gate.dir.dir.entries knows slot session made call reply → NotesReply gate.open_handles table slot.file session call reply
      → IsJournal store (with_record r knows) → GateInvariant store gate knows closing → GateInvariant store (record gate { open_handles = table }) (with_record r knows) closing
  slot-guarded gate table closing known told notes journal guarded = record {
    journal = journal;
    tied =
        unchanged_ties store knows gate.dir.dir.entries gate.counter gate.doubt r refl right
        (subst (λ (o : Option DoubtedChange). KeepsDoubt o (CallEvent session made call reply Unchanged)) (sym told.calm) tt) guarded.tied;
    handles = λ scenario answered.
        let before = answered-front store scenario knows.all (r ∷ []) answered in
        unchanged-event store scenario knows.all r answered gate.dir.dir.entries gate.open_handles table (guarded.handles scenario before) session made slot.file call reply notes refl
        (subst (λ (n : ℕ). session < n) (sym (sessions_at store scenario knows.all)) known) (told.opened scenario before);
    closes = slot-closes gate.doubt closing told.calm guarded.closes;
    directory_key = guarded.directory_key;
    card_key = guarded.card_key;
    current = guarded.current;
  }
