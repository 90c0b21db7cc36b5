-- What the gate tells of a call by an open handle: the entry of its object, its version, and the machine under each tamper scenario.
use Rattle.std.proofs.Common.{List, Option, Some, ap, length, subst, sym, ℕ, ◌<◌, ◌∙◌, ◌≡◌}
use Rattle.std.specs.Option.{option_map}
use Rattle.commit_gate.specs.CallerSessions.{CallerSession}
use Rattle.call_rules.specs.declared.decision.OpenObject.{OpenObject}
use Rattle.core_laws.specs.GateParts.{IsVersionOf}
use Rattle.crash_core.proofs.Doubles.{below}
use Rattle.crash_core.specs.DirectoryLaws.{AreEntries}
use Rattle.crash_core.specs.Entries.{name_of}
use Rattle.crash_core.specs.declared.change.EntryChange.TheVariants.{Put}
use Rattle.crash_core.specs.EntryChanges.{changed}
use Rattle.crash_core.specs.EntryLists.{IsAlone, entry_at}
use Rattle.dir_records.specs.Form.{HasForm}
use Rattle.dir_records.specs.declared.entry.DirEntry.{DirEntry}
use Rattle.core_laws.proofs.Told.{tied_tell}
use Rattle.core_laws.specs.EntryFacts.{IsEntryFact}
use Rattle.core_laws.specs.MachineChanges.{IsAtHand}
use Rattle.history_seats.specs.Directory.{given_version}
use Rattle.history_seats.specs.Records.{Version}
use Rattle.history_seats.specs.Views.{GateView, SlotView}
use Rattle.commit_gate.proofs.Knowing.{shown_stand}
use Rattle.commit_gate.specs.declared.guarded_gate.Closing.{Closing}
use Rattle.call_rules.proofs.ReplayHandles.{well_replay-answered}
use Rattle.call_rules.specs.WellOpened.{IsSoundAt}
use Rattle.call_steps.proofs.PlacedEntries.{entries_placed, file_own}
use Rattle.call_steps.specs.AtObject.{IsAtObject}
use Rattle.node_image.specs.References.{current_format}
use Rattle.commit_gate.specs.Gates.{GateValue}
use Rattle.store_model.specs.Files.{name_by}
use Rattle.store_model.specs.Machine.{Session, handle_at, session_at}
use Rattle.store_model.specs.Object.{object_at}
use Rattle.store_model.specs.ReplayState.{ReplayState}
use Rattle.store_model.specs.declared.name.ObjectName.{ObjectName}
use Rattle.store_model.specs.declared.session.Handle.{Handle}
use Rattle.core_laws.proofs.Mending.{some_same}
use Rattle.core_laws.specs.Answered.{AreAnswered}
use Rattle.core_laws.specs.TamperScenarios.{TamperScenario, object_under}
use Rattle.core_laws.specs.Mapped.{IsMapped}
use Rattle.core_laws.specs.Decodings.{IsReal}
use Rattle.core_laws.specs.Stores.{Store, entries_at, replay_at}

module _ {F R E : Type 0} (store : Store) (gate : GateValue F R) (knows : GateView) (closing : Option Closing) (caller : CallerSession E) (handle : ℕ) (found : OpenObject) (slot : SlotView) (v : Version)
    (at_object : IsAtObject store gate knows closing caller handle found slot v) where
  abbrev entries : List (Option DirEntry)
  entries = gate.dir.dir.entries

  abbrev e : DirEntry
  e = found.held.entry

  abbrev index : ℕ
  index = found.held.index

  pub entry_there : entry_at entries index ≡ Some e
  entry_there = at_object.opened.named.0

  pub entry_current : e.format ≡ current_format
  entry_current = at_object.guarded.current.entries index e entry_there

  pub entry_name : name_of e ≡ found.handle.name
  entry_name = at_object.opened.named.1

  pub entry_gives : given_version store.mounted knows.all e.file e.generation ≡ Some v
  entry_gives = (λ i. given_version store.mounted knows.all (sym at_object.file i) (sym at_object.generation i)) ∙ at_object.gives

  pub version_own : IsVersionOf e v
  version_own =
      let own = at_object.guarded.tied.versions index e entry_there in
      subst (IsVersionOf e) (some_same own.0 v (sym own.1 ∙ entry_gives)) own.2

  pub version_real : IsReal store.keys v
  version_real = at_object.guarded.tied.real index e v entry_there entry_gives

  -- the entries with one of the same name and file in its place
  pub entries_after : (next : DirEntry) → HasForm next → name_of next ≡ name_of e → next.file ≡ e.file → AreEntries (changed entries (Put index next))
  entries_after next form named filed =
      entries_placed entries at_object.entries index next (below entries index e entry_there) form
      (subst (IsAlone entries index) (sym named) (at_object.entries.distinct index e entry_there))
      (λ other f off there same. file_own entries at_object.entries index e entry_there other f off there (sym filed ∙ same))

  pub session_known : caller.number < length store.mounted.applications
  session_known = at_object.calm.caller.session.known

  -- The machine under a tamper scenario.
  module _ (scenario : TamperScenario) (answered : AreAnswered store scenario knows.all) where
    abbrev here : ReplayState
    here = replay_at store scenario knows.all

    pub mapped_here : IsMapped store scenario knows.all
    mapped_here = (at_object.guarded.journal.in_step scenario answered).now

    pub live_here : handle_at (session_at here.state caller.number) handle ≡ Some found.handle
    live_here =
        ap (λ (s : Session). handle_at s handle) (shown_stand E store knows caller at_object.calm.caller at_object.calm.sees scenario answered).is
        ∙ at_object.opened.live

    pub name_here : name_by here.state caller.number handle ≡ Some (name_of e)
    name_here = ap (option_map (λ (h : Handle). h.name)) live_here ∙ ap (λ (n : ObjectName). Some n) (sym entry_name)

    abbrev pub at_hand : IsAtHand here.state caller.number handle entries index
    at_hand = record { handle = found.handle; live = live_here; entry = e; at = entry_there; named = sym entry_name }

    pub fact_here : IsEntryFact store.keys scenario (given_version store.mounted knows.all) (entries_at store knows.all).now here e
    fact_here =
        (tied_tell store scenario knows entries gate.counter gate.doubt at_object.guarded.tied at_object.entries answered mapped_here).facts.each index e entry_there

    -- the object is there, and what stands for the version
    pub object_here : object_at here.state.objects (name_of e) ≡ Some (object_under store.keys scenario e.file e.generation v)
    object_here =
        fact_here.object
        ∙ ap (λ (w : Version). Some (object_under store.keys scenario e.file e.generation w)) (some_same fact_here.version v (sym fact_here.gives ∙ entry_gives))

    -- it is sound, since a handle is open on it
    pub sound_here : IsSoundAt here.state.objects found.handle.name
    sound_here = (well_replay-answered store scenario knows.all answered).opened.sound caller.number handle found.handle live_here
