-- A create may be brought to the gate.
use Rattle.std.proofs.Common.{List, None, Option, Some, ap, arith, inl, inr, length, refl, subst, sym, ℕ, ◌<◌, ◌≡◌, ◌≤◌}
use Rattle.std.proofs.lemmas.Bool.{cases_Bool}
use Rattle.std.specs.Ordering.{is_eq}
use Rattle.commit_gate.specs.CallerSessions.{CallerSession}
use Rattle.call_rules.specs.Places.{IsNewPlace}
use Rattle.call_rules.specs.declared.decision.NewPlace.{NewPlace}
use Rattle.call_rules.specs.declared.decision.NewPlace.TheVariants.{Adds, Replaces}
use Rattle.crash_core.proofs.Doubles.{below}
use Rattle.crash_core.proofs.Names.{alike_is}
use Rattle.crash_core.specs.Entries.{name_of}
use Rattle.crash_core.specs.declared.change.EntryChange.{EntryChange}
use Rattle.crash_core.specs.declared.change.EntryChange.TheVariants.{Put}
use Rattle.crash_core.specs.EntryChanges.{IsPlaceOf}
use Rattle.crash_core.specs.EntryLists.{IsAlone, entry_at}
use Rattle.call_rules.specs.Index.{named}
use Rattle.dir_records.specs.Form.{HasForm}
use Rattle.dir_records.specs.declared.entry.DirEntry.{DirEntry}
use Rattle.disk_model.specs.State.{FileState}
use Rattle.core_laws.proofs.WholeVersions.{whole_stand}
use Rattle.core_laws.specs.CallChanges.{IsEntryCommit}
use Rattle.core_laws.specs.Ties.{IsTied}
use Rattle.history_seats.specs.Records.{Version}
use Rattle.history_seats.specs.Views.{GateView, SlotView}
use Rattle.commit_gate.proofs.Knowing.{guarded_know, shown_stand}
use Rattle.commit_gate.specs.Commits.{IsDueUnder, tag_of}
use Rattle.commit_gate.specs.declared.guarded_gate.Closing.{Closing}
use Rattle.object_slots.specs.NewObjects.{IsNewVersion}
use Rattle.node_image.specs.References.{IsCurrent}
use Rattle.node_image.specs.declared.node.RootRef.{RootRef}
use Rattle.call_steps.proofs.NewFiles.{none_given}
use Rattle.call_steps.proofs.PlacedEntries.{entries_placed}
use Rattle.call_steps.specs.CreateLaws.{CreatesMayCommit, IsAtPlace, index_of_place, new_entry, new_versions}
use Rattle.call_steps.specs.SlotCommits.{IsSlotCommit}
use Rattle.object_slots.specs.Makes.{new_contents}
use Rattle.commit_gate.specs.Gates.{GateValue}
use Rattle.commit_gate.specs.declared.DoubtedChange.{DoubtedChange}
use Rattle.store_model.specs.Calls.{is_commit, reply_of}
use Rattle.store_model.specs.Machine.{MachineState}
use Rattle.store_model.specs.Name.{name_cmp}
use Rattle.store_model.specs.Object.{Sound}
use Rattle.store_model.specs.declared.name.ObjectName.{ObjectName}
use Rattle.core_laws.proofs.Mending.{some_same}
use Rattle.core_laws.specs.Answered.{AreAnswered}
use Rattle.core_laws.specs.TamperScenarios.{TamperScenario, object_under}
use Rattle.core_laws.specs.Decodings.{IsReal}
use Rattle.core_laws.specs.Stores.{Store, replay_at}
use Rattle.tee_types.specs.declared.call.Call.{Call}
use Rattle.tee_types.specs.declared.call.Call.TheVariants.{Create}
use Rattle.tee_types.specs.declared.flags.Flags.{Flags}
use Rattle.tee_types.specs.declared.reply.Reply.TheVariants.{Handle}

module _ {F R E : Type 0} (store : Store) (gate : GateValue F R) (knows : GateView) (closing : Option Closing) (caller : CallerSession E) (id : List ℕ) (flags : Flags) (attributes bytes : List ℕ)
    (place : NewPlace) (slot : SlotView) (next : Version) (root : RootRef) (at_place : IsAtPlace store gate knows closing caller id flags attributes bytes place slot)
    (of : IsNewVersion next caller.state.application attributes bytes root) (real : IsReal store.keys next) (current : IsCurrent next.root) where
  abbrev entries : List (Option DirEntry)
  entries = gate.dir.dir.entries

  abbrev put : DirEntry
  put = new_entry caller.state.application id slot next

  abbrev name : ObjectName
  name = named caller.state.application id

  abbrev create : Call
  create = Create id flags attributes bytes

  abbrev change : EntryChange
  change = Put (index_of_place place) put

  tied : IsTied store knows entries gate.counter None
  tied = subst (λ (d : Option DoubtedChange). IsTied store knows entries gate.counter d) at_place.idle at_place.guarded.tied

  -- the place is one of the entries
  within : (p : NewPlace) → IsNewPlace entries name p → index_of_place p < length entries
  within (Replaces held) is = below entries held.index held.entry is.0
  within (Adds index) is = subst (λ (n : ℕ). index < n) (sym at_place.entries.whole) is.1.0

  -- it is free, or that of the object of the name
  its_place : (p : NewPlace) → IsNewPlace entries name p → IsPlaceOf name (entry_at entries (index_of_place p))
  its_place (Replaces held) is = subst (IsPlaceOf name) (sym is.0) is.1
  its_place (Adds index) is = subst (IsPlaceOf name) (sym is.1.1) tt

  -- no other entry has the name
  alone : (p : NewPlace) → IsNewPlace entries name p → IsAlone entries (index_of_place p) name
  alone (Replaces held) is = subst (IsAlone entries held.index) is.1 (at_place.entries.distinct held.index held.entry is.0)
  alone (Adds index) is = λ i f other at_. elim (cases_Bool (is_eq (name_cmp name (name_of f)))) [
    | inl alike ↦ absurd (is.0 i f at_ (sym (alike_is name (name_of f) alike)))
    | inr off ↦ off
  ]

  put_form : HasForm put
  put_form = record {
    version = current.0;
    file = at_place.numbered;
    size = subst (λ (n : ℕ). n ≤ 1044480) (sym of.size) at_place.few;
    attributes = subst (λ (n : ℕ). n ≤ 2048) (sym of.long) at_place.short;
    format = (omega arith, omega arith);
  }

  create_commit : IsEntryCommit store entries gate.counter caller.number create change (tag_of slot (new_versions next)) (Some next)
  create_commit = record {
    makes = record {
      entry = record {
        named = ap (λ (a : List ℕ). named a id) at_place.calm.caller.session.application;
        place = subst (λ (a : List ℕ). IsPlaceOf (named a id) (entry_at entries (index_of_place place))) at_place.calm.caller.session.application (its_place place at_place.place_is);
        generation = at_place.generation;
      };
      fresh = at_place.unnamed;
    };
    place = within place at_place.place_is;
    tagged = record { file = refl; generation = refl };
    leaves = (next, refl, record { root = λ i. record { hash = next.root.hash; version = next.root.version; format = current.1 i }; app = of.app_is; size = refl; attributes = refl }, real);
    before = at_place.entries;
    after = entries_placed entries at_place.entries (index_of_place place) put (within place at_place.place_is) put_form (alone place at_place.place_is) (λ other f off there. at_place.unnamed other f there);
  }

  -- the machine makes the object, under each tamper scenario
  create_due : (scenario : TamperScenario) → AreAnswered store scenario knows.all
      → IsDueUnder store scenario knows.all caller.number create (Handle caller.state.next_handle) change (tag_of slot (new_versions next))
  create_due scenario answered =
      let s : MachineState = (replay_at store scenario knows.all).state in
      let machine = guarded_know F R store gate knows closing at_place.guarded at_place.entries.distinct scenario answered in
      let session = shown_stand E store knows caller at_place.calm.caller at_place.calm.sees scenario answered in
      let given : reply_of s caller.number create ≡ Handle caller.state.next_handle =
      at_place.rule s caller.number (record { shaped = machine.shaped; handles = machine.handles; within = session.within; session = session.is }) in
      record {
        due = ap (is_commit s caller.number create) given;
        replied = sym given;
        object = λ w same.
            subst (λ (x : Version). object_under store.keys scenario slot.file slot.generation x ≡ Sound (new_contents attributes bytes)) (some_same next w same)
            (whole_stand store.keys scenario slot.file slot.generation next (new_contents attributes bytes) real of.object refl);
      }

  pub create_commits : (file : FileState)
      → IsSlotCommit store knows entries gate.counter caller.number caller.made create (Handle caller.state.next_handle) change file slot (new_versions next)
  create_commits file = record {
    ready = record {
      commit = create_commit;
      given = sym (none_given store knows entries gate.counter tied slot.file at_place.unnamed slot.generation);
      current = refl;
      on = λ scenario answered. of.size;
      due = λ scenario answered off. inl (create_due scenario answered);
    };
    honest = λ now scenario answered honest. create_due scenario answered;
  }

pub creates_commit : (F R E : Type 0) → CreatesMayCommit F R E
creates_commit F R E store gate knows closing caller id flags attributes bytes place slot next root file at_place of real current =
    create_commits store gate knows closing caller id flags attributes bytes place slot next root at_place of real current file
