-- A write or a truncate that is the machine's is a commit of the gate's entries.
use Rattle.std.proofs.Common.{◌≡◌, ℕ, true, List, Option, Some, option_map, refl, sym, ap, ◌∙◌}
use Rattle.tee_types.specs.declared.call.Call.{Call}
use Rattle.tee_types.specs.declared.call.Call.TheVariants.{Truncate, Write}
use Rattle.tee_types.specs.declared.reply.Reply.{Reply}
use Rattle.tee_types.specs.declared.reply.Reply.TheVariants.{Done}
use Rattle.store_model.specs.declared.event.Event.TheVariants.{Call as CallEvent}
use Rattle.store_model.specs.declared.event.Mark.{Mark}
use Rattle.store_model.specs.declared.name.ObjectName.{ObjectName}
use Rattle.store_model.specs.declared.session.Handle.{Handle}
use Rattle.store_model.specs.Object.{changed_object}
use Rattle.store_model.specs.Calls.{state_after}
use Rattle.store_model.specs.Files.{name_by, object_named}
use Rattle.store_model.specs.Legal.{is_commit_due, meant_by}
use Rattle.store_model.specs.Record.{Tag}
use Rattle.store_model.specs.ReplayState.{ReplayState}
use Rattle.dir_records.specs.declared.entry.DirEntry.{DirEntry}
use Rattle.history_seats.specs.Records.{HistoryRecord, Version}
use Rattle.history_seats.specs.Views.{GateView}
use Rattle.crash_core.specs.Entries.{name_of}
use Rattle.crash_core.specs.declared.change.EntryChange.{EntryChange}
use Rattle.crash_core.specs.declared.change.EntryChange.TheVariants.{Clear, Put}
use Rattle.crash_core.specs.EntryChanges.{IsNextEntry}
use Rattle.core_laws.specs.Listed.{IsTagOf}
use Rattle.core_laws.specs.TamperScenarios.{TamperScenario, object_under}
use Rattle.core_laws.specs.Stores.{Store, replay_at}
use Rattle.core_laws.specs.Shown.{IsGivenAt, IsPartial}
use Rattle.core_laws.specs.ChangeLaws.{IsDueChange}
use Rattle.core_laws.proofs.Mending.{some_same}
use Rattle.core_laws.specs.CallChanges.{IsEntryCommit}
use Rattle.core_laws.specs.MachineChanges.{IsAtHand, IsCallOn}
use Rattle.core_laws.specs.CommitMaps.{LeavesObject}
use Rattle.core_laws.specs.DueChanges.{DueChangesAreCommits}

-- one event is one call of one session
one_session : (i j n m : ℕ) (a b : Call) (p q : Reply) (k l : Mark) → CallEvent i n a p k ≡ CallEvent j m b q l → i ≡ j
one_session i j n m a b p q k l e = cc (e)

one_call : (i j n m : ℕ) (a b : Call) (p q : Reply) (k l : Mark) → CallEvent i n a p k ≡ CallEvent j m b q l → a ≡ b
one_call i j n m a b p q k l e = cc (e)

module _ (store : Store) (scenario : TamperScenario) (view : GateView) (entries : List (Option DirEntry)) (counter session number : ℕ) (reply : Reply) (mark : Mark) (tag : Tag Version) (left : Option Version)
    (r : HistoryRecord) (x : IsGivenAt store scenario view.all r) (next : Version) (tagged : r.tag ≡ Some tag) (leaves : left ≡ Some next) (due : IsDueChange store scenario view.all r x next) where
  abbrev s : ReplayState
  s = replay_at store scenario view.all

  module _ (call : Call) (event : r.event ≡ CallEvent session number call reply mark) where
    same_event : CallEvent x.session x.number x.call x.reply x.mark ≡ CallEvent session number call reply mark
    same_event = sym x.is ∙ event

    same_session : x.session ≡ session
    same_session = one_session x.session session x.number number x.call call x.reply reply x.mark mark same_event

    same_call : x.call ≡ call
    same_call = one_call x.session session x.number number x.call call x.reply reply x.mark mark same_event

    same_tag : x.tag ≡ tag
    same_tag = some_same x.tag tag (sym x.tagged ∙ tagged)

    is_due : is_commit_due s session call ≡ true
    is_due = (λ i. is_commit_due s (sym same_session i) (sym same_call i)) ∙ due.due

    is_done : Done ≡ meant_by s session call
    is_done = sym due.meant ∙ (λ i. meant_by s (same_session i) (same_call i))

    -- the call is on the object of the entry that is put
    same_name : (handle index : ℕ) (own : IsAtHand s.state session handle entries index) (e : DirEntry) → IsNextEntry entries index e (name_of e) (name_of e)
        → object_named s.state session call ≡ name_by s.state session handle → x.name ≡ name_of e
    same_name handle index own e put names =
        let called : name_by s.state session handle ≡ Some (name_of own.entry) = ap (option_map (λ (h : Handle). h.name)) own.live ∙ ap (λ (n : ObjectName). Some n) own.named in
        let there : Some x.name ≡ Some (name_of own.entry) = sym x.of_call ∙ (λ i. object_named s.state (same_session i) (same_call i)) ∙ names ∙ called in
        some_same x.name (name_of own.entry) there ∙ ap name_of (some_same own.entry put.was.entry (sym own.at ∙ put.was.at)) ∙ put.was.named

    object_left : (e : DirEntry) → x.name ≡ name_of e → IsTagOf tag e → (v : Version) → left ≡ Some v
        → (state_after s.state session call).objects ≡ changed_object s.state.objects (name_of e) (object_under store.keys scenario e.file e.generation v)
    object_left e name of v is =
        let version : next ≡ v = some_same next v (sym leaves ∙ is) in
        let file : x.tag.file ≡ e.file = ap (λ (t : Tag Version). t.file) same_tag ∙ of.file in
        let generation : x.tag.generation ≡ e.generation = ap (λ (t : Tag Version). t.generation) same_tag ∙ of.generation in
        (λ i. (state_after s.state (sym same_session i) (sym same_call i)).objects) ∙ due.changes
        ∙ (λ i. changed_object s.state.objects (name i) (object_under store.keys scenario (file i) (generation i) (version i)))

  left_by : (call : Call) (change : EntryChange) → r.event ≡ CallEvent session number call reply mark → IsPartial call → IsEntryCommit store entries counter session call change tag left
      → IsCallOn s.state session call entries change → LeavesObject store scenario view.all session call change tag left
  left_by (Write handle bytes) (Put index e) event partial c on = λ v is.
      object_left (Write handle bytes) event e (same_name (Write handle bytes) event handle index on.0 e c.makes refl) c.tagged v is
  left_by (Write handle bytes) (Clear index) event partial c on = absurd c.makes
  left_by (Truncate handle size) (Put index e) event partial c on = λ v is.
      object_left (Truncate handle size) event e (same_name (Truncate handle size) event handle index on.0 e c.makes refl) c.tagged v is
  left_by (Truncate handle size) (Clear index) event partial c on = absurd c.makes
  left_by call change event partial c on = absurd partial

pub due_commits : DueChangesAreCommits
due_commits store scenario view entries counter session number call reply mark change tag left r x next event tagged partial answered mapped c on leaves due = record {
  commit = record {
    answered = answered;
    mapped = mapped;
    commit = c;
    due = is_due store scenario view entries counter session number reply mark tag left r x next tagged leaves due call event;
    on = on;
    object = left_by store scenario view entries counter session number reply mark tag left r x next tagged leaves due call change event partial c on;
  };
  replied = is_done store scenario view entries counter session number reply mark tag left r x next tagged leaves due call event;
}
