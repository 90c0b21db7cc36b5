-- An Info on an entry's object.
use Rattle.std.proofs.Common.{IfOk, ◌≡◌, ◌⊎◌, ℕ, List, Option, Some, None, Result, Ok, Err, inl, inr, option_map, refl, sym, ap, ◌∙◌, subst}
use Rattle.disk_model.specs.State.{FileState}
use Rattle.htree_file.specs.Answers.{FilePassed}
use Rattle.tee_types.specs.declared.call.Call.TheVariants.{Info}
use Rattle.tee_types.specs.declared.reply.Cause.{Cause}
use Rattle.tee_types.specs.declared.reply.Reply.{Reply}
use Rattle.tee_types.specs.declared.reply.Reply.TheVariants.{Corrupt, CounterSpent, Info as InfoReply, NotAvailable}
use Rattle.store_model.specs.declared.session.Handle.{Handle}
use Rattle.store_model.specs.Calls.{state_after}
use Rattle.store_model.specs.Data.{info_of}
use Rattle.store_model.specs.Machine.{MachineState, Session, by_handle, handle_at, of_sound, session_at}
use Rattle.store_model.specs.Object.{Damaged, Object, Sound, object_at}
use Rattle.dir_records.specs.declared.entry.DirEntry.{DirEntry}
use Rattle.open_table.specs.Table.{TableState}
use Rattle.crash_core.specs.Entries.{name_of}
use Rattle.history_seats.specs.Records.{Version}
use Rattle.history_seats.specs.Views.{GateView}
use Rattle.core_laws.specs.ReadLaws.{SaysHandle}
use Rattle.core_laws.specs.Stores.{Store}
use Rattle.commit_gate.specs.Gates.{GateValue}
use Rattle.commit_gate.specs.CallerSessions.{CallerSession}
use Rattle.call_rules.specs.declared.decision.OpenObject.{OpenObject}
use Rattle.call_rules.specs.Matches.{Matches}
use Rattle.call_rules.specs.Objects.{IsOpenObject, told_info}
use Rattle.object_slots.specs.SlotValues.{SlotValue}
use Rattle.object_slots.specs.GuardedFronts.{ShowsAttributes}
use Rattle.commit_gate.specs.Commits.{IsCalm}
use Rattle.commit_gate.specs.ReplyLaws.{Answers}
use Rattle.call_steps.specs.AnswerCauses.{HasToldCause}
use Rattle.call_steps.specs.InfoAnswers.{DescribesEntry, DescribesObject, DescribesVersion, SaysIfTold}
use Rattle.call_steps.specs.EntryAnswers.{AdmitsIfTold, IsEntryCall}
use Rattle.call_steps.specs.FileAnswers.{IsFileAnswer, Tells as FileTells}
use Rattle.call_steps.specs.ReadyEntries.{IsUnloaded}
use Rattle.call_steps.specs.ServableReplies.{MayBeServed, MovesAlike}
use Rattle.call_steps.proofs.UndoneAnswers.{counter-untold, refused-or_failed}

-- What is told of a loaded object, its file gave.
info-answer : (store : Store) (slot : SlotValue) (v : Version) (handle : Handle) (attributes : List ℕ) → ShowsAttributes store.keys slot.file v attributes → (number : ℕ)
    → IsFileAnswer store slot.file slot.number v 0 (Info number) (InfoReply v.size handle.position handle.flags attributes)
info-answer store slot v handle attributes shows number =
    let told = shows.info 0 number handle.position handle.flags in
    FileTells (record { gave = told.0.gave; masked = told.0.masked; tells = told.1 })
    (λ honest.
    let own = shows.sound honest in
    subst (λ (x : Object). Answers x 0 (Info number) (InfoReply v.size handle.position handle.flags attributes)) (sym own.1) own.2)

pub describes-version : (store : Store) (slot : SlotValue) (v : Version) (handle : Handle) (size : ℕ) (attributes : List ℕ) → size ≡ v.size → ShowsAttributes store.keys slot.file v attributes
    → DescribesVersion store slot v handle (InfoReply size handle.position handle.flags attributes)
describes-version store slot v handle size attributes sized shows =
    subst (λ (n : ℕ). DescribesVersion store slot v handle (InfoReply n handle.position handle.flags attributes)) (sym sized)
    (record { answers = info-answer store slot v handle attributes shows; says = (refl, refl, refl) })

-- It tells of the object, and the file did not fail.
says-told : (size : ℕ) (handle : Handle) (reply : Reply) → SaysHandle size handle reply → SaysIfTold size handle reply
says-told size handle (InfoReply long at flags told) says = says
says-told size handle reply says = absurd says

says-passed : (was file : FileState) (number size : ℕ) (handle : Handle) (reply : Reply) → SaysHandle size handle reply → FilePassed was file → HasToldCause was file number reply
says-passed was file number size handle (InfoReply long at flags told) says passed = passed
says-passed was file number size handle reply says passed = absurd says

pub described : {A : Type 0} (store : Store) (was : FileState) (slot : SlotValue) (v : Version) (handle : Handle) → FilePassed was slot.file → (result : Result Reply A)
    → IfOk result (DescribesVersion store slot v handle) → IfOk result (DescribesObject store was slot v handle)
described store was slot v handle passed (Ok reply) is =
    record { answers = is.answers; says = says-told v.size handle reply is.says; cause = says-passed was slot.file slot.number v.size handle reply is.says passed }
described store was slot v handle passed (Err none) is = tt

-- What could not be loaded.
undone-says : (size : ℕ) (handle : Handle) (reply : Reply) → (reply ≡ Corrupt) ⊎ ((cause : Cause) × (reply ≡ NotAvailable cause)) → SaysIfTold size handle reply
undone-says size handle reply (inl is) = subst (SaysIfTold size handle) (sym is) tt
undone-says size handle reply (inr failed) = subst (SaysIfTold size handle) (sym failed.1) tt

pub undescribed : (store : Store) (was : FileState) (slot : SlotValue) (v : Version) (handle : Handle) (reply : Reply) → IsUnloaded store was slot v reply → DescribesObject store was slot v handle reply
undescribed store was slot v handle reply unloaded = record {
  answers = λ number. unloaded.answers 0 (Info number);
  says = undone-says v.size handle reply (refused-or_failed store slot.file slot.number v 0 (Info 0) reply (λ partial. partial) (unloaded.answers 0 (Info 0)) unloaded.undone);
  cause = unloaded.cause;
}

-- The machine stays as it is at an Info.
module _ (m : MachineState) (i number : ℕ) where
  of-object : (object : Option Object) (handle : Handle) → (of_sound m object (told_info m handle)).next ≡ m
  of-object None handle = refl
  of-object (Some (Damaged size)) handle = refl
  of-object (Some (Sound c)) handle = refl

  of-handle : (found : Option Handle) → (by_handle m found (λ handle. of_sound m (object_at m.objects handle.name) (told_info m handle))).next ≡ m
  of-handle None = refl
  of-handle (Some handle) = of-object (object_at m.objects handle.name) handle

  info-stays : state_after m i (Info number) ≡ m
  unfolding info_of
  info-stays = of-handle (handle_at (session_at m i) number)

admits-info : (m : MachineState) (i size number : ℕ) (handle : Handle) (reply : Reply) → handle_at (session_at m i) number ≡ Some handle → SaysIfTold size handle reply
    → AdmitsIfTold m i size (Info number) reply
admits-info m i size number handle Corrupt there says = tt
admits-info m i size number handle (NotAvailable cause) there says = tt
admits-info m i size number handle (CounterSpent last) there says = tt
admits-info m i size number handle reply there says = (record { handle = handle; live = there }, says)

-- So does the session.
module _ {E : Type 0} (store : Store) (knows : GateView) (entries : List (Option DirEntry)) (table : TableState) (s : CallerSession E) (number : ℕ) (handle : Handle)
    (live_ : handle_at s.state number ≡ Some handle) (calmly : IsCalm store knows s) where
  info-moves : (reply : Reply) → MovesAlike store knows entries table (Info number) reply s.state s
  info-moves reply = record {
    was = calmly.caller;
    sees = calmly.sees;
    settled = calmly.settled;
    application = refl;
    undone = λ undone. refl;
    done = λ done m at alike. ap (λ (x : MachineState). session_at x s.number) (info-stays m s.number number) ∙ at.session;
  }

  info-call : (m : MachineState) (e : DirEntry) (reply : Reply) → handle.name ≡ name_of e → Matches entries table s.state m s.number → SaysIfTold e.size handle reply
      → IsEntryCall m s.number e 0 (Info number) reply
  info-call m e reply named at says =
      let there : handle_at (session_at m s.number) number ≡ Some handle = ap (λ (x : Session). handle_at x number) at.session ∙ live_ in
      record {
        named = ap (option_map (λ (h : Handle). h.name)) there ∙ ap Some named;
        depends = record { handle = handle; live = there };
        at = refl;
        admitted = admits-info m s.number e.size number handle reply there says;
      }

-- So the reply may be appended.
pub info-served : {F R E : Type 0} (store : Store) (gate : GateValue F R) (knows : GateView) (was : FileState) (slot : SlotValue) (s now : CallerSession E) (number : ℕ) (found : OpenObject) (reply : Reply)
    → gate.doubt ≡ None → IsCalm store knows s → IsOpenObject gate.dir.dir.entries s.state number found → DescribesEntry store knows was slot found.held.entry found.handle reply → now ≡ s
    → MayBeServed store gate knows slot (Info number) reply now
info-served store gate knows was slot s now number found reply idle calmly opened describes same =
    subst (MayBeServed store gate knows slot (Info number) reply) (sym same) (record {
      idle = idle;
      index = found.held.index;
      entry = found.held.entry;
      held = opened.named.0;
      version = describes.version;
      at = describes.at;
      position = 0;
      answers = describes.describes.answers number;
      counter = counter-untold store slot.file slot.number describes.version 0 (Info number) reply (λ partial. partial) (describes.describes.answers number) gate.counter;
      before = s.state;
      moves = info-moves store knows gate.dir.dir.entries gate.open_handles s number found.handle opened.live calmly reply;
      on = λ m at.
          info-call store knows gate.dir.dir.entries gate.open_handles s number found.handle opened.live calmly m found.held.entry reply (sym opened.named.1) at
          (subst (λ (n : ℕ). SaysIfTold n found.handle reply) describes.at.own.size describes.describes.says);
    })
