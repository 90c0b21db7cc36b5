-- A Read of an entry's object.
use Rattle.std.proofs.Common.{IfOk, ◌≡◌, ◌⊎◌, ◌<◌, ◌^◌, ◌+◌, ◌-◌, ◌==◌, ◌||◌, ℕ, Bool, true, false, true≢false, List, [], length, min, take, drop, Option, Some, None, Result, Ok, Err, IsTrue, option_map, refl, sym, ap, ◌∙◌, subst, inl, inr, arith, length-drop}
use Rattle.std.proofs.lemmas.Grind.{get_or-set_at}
use Rattle.std.proofs.lemmas.List.{length-take, take_all, take_min}
use Rattle.std.specs.List.{list_any}
use Rattle.disk_model.specs.Calls.{GoesOn, Rests}
use Rattle.disk_model.specs.State.{FileState}
use Rattle.htree_file.specs.Answers.{FilePassed}
use Rattle.page_bytes.specs.Pages.{bytes_from, page_at}
use Rattle.page_bytes.specs.Ranges.{meets}
use Rattle.page_bytes.proofs.Content.{length-bytes_from}
use Rattle.hmac_keys.specs.declared.Keys.{Keys}
use Rattle.tee_types.specs.declared.call.Call.TheVariants.{Read}
use Rattle.tee_types.specs.declared.reply.Cause.TheVariants.{Fault}
use Rattle.tee_types.specs.declared.reply.Device.TheVariants.{File}
use Rattle.tee_types.specs.declared.reply.Reply.{Reply}
use Rattle.tee_types.specs.declared.reply.Reason.TheVariants.{BadHandle}
use Rattle.tee_types.specs.declared.reply.Reply.TheVariants.{Content, Corrupt, CounterSpent, Misuse, NotAvailable}
use Rattle.tee_types.specs.Rights.{has, read_bit}
use Rattle.store_model.specs.declared.session.Handle.{Handle}
use Rattle.store_model.specs.Calls.{reply_of, state_after}
use Rattle.store_model.specs.Data.{bytes_at, meets_block, read_from, read_of, with_position}
use Rattle.store_model.specs.Machine.{MachineState, Outcome, Session, handle_at, new_session, of_sound, refuse, session_at, with_handle}
use Rattle.store_model.specs.Object.{Contents, Damaged, Object, Sound, object_at}
use Rattle.store_model.specs.ReplayState.{is_undone}
use Rattle.dir_records.specs.declared.entry.DirEntry.{DirEntry}
use Rattle.open_table.specs.Table.{TableState}
use Rattle.history_seats.specs.Records.{Version}
use Rattle.history_seats.specs.Views.{GateView}
use Rattle.disk_model.specs.Arms.{Taint}
use Rattle.core_laws.specs.Masked.{IsMaskedOf, told_taints}
use Rattle.core_laws.specs.Given.{DiffersInBytes, Gave, position_of, decoding_given}
use Rattle.core_laws.specs.Decodings.{page_decoded, wrap_of}
use Rattle.core_laws.specs.Stores.{Store}
use Rattle.core_laws.proofs.Mending.{none_some, some_same}
use Rattle.commit_gate.specs.CallerSessions.{CallerSession}
use Rattle.call_rules.specs.declared.decision.OpenObject.{OpenObject}
use Rattle.call_rules.specs.Matches.{Matches}
use Rattle.call_rules.specs.Objects.{IsRightful}
use Rattle.crash_core.specs.Entries.{name_of}
use Rattle.commit_gate.specs.Gates.{GateValue}
use Rattle.object_slots.specs.Held.{held_in, pages_in}
use Rattle.object_slots.specs.Value.{size_in}
use Rattle.object_slots.specs.declared.fault.SlotFault.{SlotFault}
use Rattle.object_slots.specs.declared.fault.SlotFault.TheVariants.{Corrupt as IsCorrupt, Failed, NoEntropy, NoMemory}
use Rattle.object_slots.specs.SlotFaults.{FaultCause, HasCause}
use Rattle.object_slots.specs.SlotReads.{ReadsObject}
use Rattle.object_slots.specs.SlotValues.{Holding, IfLive, IsLive, SlotValue, free, live, made, staged}
use Rattle.object_slots.specs.GuardedSlots.{SlotInvariant}
use Rattle.object_slots.specs.GuardedReads.{GivesVersion, ReadsVersion, given_count}
use Rattle.object_slots.proofs.Contents.{slot_object}
use Rattle.commit_gate.specs.Commits.{IsCalm}
use Rattle.commit_gate.specs.ReplyLaws.{Answers, DependsOnFile, IsToldBy}
use Rattle.call_steps.specs.FileFaults.{reply_of_fault}
use Rattle.call_steps.proofs.UndoneAnswers.{counter-untold}
use Rattle.call_steps.specs.FileAnswers.{Fails, IsFileAnswer, Refuses, Spent, Tells as FileTells, Undrawn}
use Rattle.call_steps.specs.EntryAnswers.{AdmitsIfTold, IsEntryCall, MeansAlike}
use Rattle.call_steps.specs.ReadyEntries.{IsUnloaded}
use Rattle.call_steps.proofs.AnswerCauses.{passed-told, told-cause}
use Rattle.call_steps.specs.ReadAnswers.{EndsAtPosition, ReadsAnswer, ReadsEntry, read_session}
use Rattle.call_steps.specs.ServableReplies.{MayBeServed, MovesAlike}

-- A read of so many bytes as there are of the version's object from a place on, at most `count`.
module _ (store : Store) (was : FileState) (slot : SlotValue) (v : Version) (at count : ℕ) (guarded : SlotInvariant store slot) (gives : GivesVersion slot v) (holding : IsLive slot.holds)
    (after : List ℕ) (long : length after ≡ min count (v.size - at)) where
  abbrev keys : Keys
  keys = store.keys

  -- the object of an honest file is sound, and has the version's size
  record IsSoundObject : Type 0 where
    pub contents : Contents
    pub object : v.object ≡ Sound contents
    pub size : length contents.bytes ≡ v.size

  by_holding : (holds : Holding) → slot.holds ≡ holds → IsLive holds → IsTrue slot.file.honest → IsSoundObject
  by_holding free holds on honest = absurd on
  by_holding (made o) holds on honest = absurd on
  by_holding (staged o s) holds on honest = absurd on
  by_holding (live o) holds on honest =
      let own = slot_object store slot v o guarded gives holds in
      record {
        contents = held_in o slot.file.reads;
        object = own.object honest;
        size = length-bytes_from (page_at (pages_in o.tree slot.file.reads)) 4096 (size_in o) ∙ sym own.size;
      }

  sound : IsTrue slot.file.honest → IsSoundObject
  sound = by_holding slot.holds refl holding

  some : min (length after) (v.size - at) ≡ min count (v.size - at)
  some = omega (arith, long)

  given : given_count v at (length after) ≡ length after
  given = omega (arith, long)

  -- what is told depends on no more than how many bytes are given
  abbrev GivesSome : ℕ × List ℕ → Type 0
  GivesSome p =
      (gave : Gave (wrap_of keys v) v.root v.size (λ k. (k == 0) || meets (4096 + at) (4096 + at + p.0) k))
      × IsMaskedOf keys (told_taints slot.file) v (λ k. (k == 0) || meets (4096 + at) (4096 + at + p.0) k) gave.tree gave.block
      × (p.1 ≡ bytes_from (page_decoded (decoding_given gave)) (4096 + at) p.0)

  module _ (n : ℕ) (reads : ReadsVersion keys slot.file v at after (Ok n)) where
    whole : take n after ≡ after
    whole = ap (λ (m : ℕ). take m after) (reads.count ∙ given) ∙ take_all (length after) after (omega arith)

    told : (handle : ℕ) → IsToldBy store (told_taints slot.file) v at (Read handle count) (Content after)
    told handle =
        let value : GivesSome (min (length after) (v.size - at), take n after) = let own = reads.tells handle in (own.0.gave, own.0.masked, own.1) in
        let moved : GivesSome (min count (v.size - at), after) = subst GivesSome (λ i. (some i, whole i)) value in
        record { gave = moved.0; masked = moved.1; tells = moved.2 }

    bytes-are : (c : Contents) → length c.bytes ≡ v.size → take n after ≡ bytes_at c.bytes at (length after) → after ≡ bytes_at c.bytes at count
    bytes-are c size is =
        let rest : length (drop at c.bytes) ≡ v.size - at = length-drop at c.bytes ∙ ap (λ (m : ℕ). m - at) size in
        sym whole
        ∙ is
        ∙ ap (λ (m : ℕ). take m (drop at c.bytes)) (long ∙ ap (min count) (sym rest))
        ∙ take_min count (drop at c.bytes)

    honest-content : (handle : ℕ) → IsTrue slot.file.honest → Answers v.object at (Read handle count) (Content after)
    honest-content handle honest =
        let o = sound honest in
        subst (λ (x : Object). Answers x at (Read handle count) (Content after)) (sym o.object) (
          bytes-are o.contents o.size (reads.content honest o.contents o.object),
          ap (λ (m : ℕ). list_any (meets_block at (at + m)) o.contents.bad) (sym given) ∙ reads.corrupt honest o.contents o.object,
        )

    pub content-answer : FilePassed was slot.file → at < 2 ^ 32 → v.size < 2 ^ 32 → ReadsAnswer store was slot v at count (Content after)
    content-answer passed low few = record { answers = λ handle. FileTells (told handle) (honest-content handle); cause = passed; ends = omega (arith, long, low, few) }

  honest-corrupt : ReadsVersion keys slot.file v at after (Err IsCorrupt) → (handle : ℕ) → IsTrue slot.file.honest → Answers v.object at (Read handle count) Corrupt
  honest-corrupt reads handle honest =
      let o = sound honest in
      let rest : length (drop at o.contents.bytes) ≡ v.size - at = length-drop at o.contents.bytes ∙ ap (λ (m : ℕ). m - at) o.size in
      let many : length (bytes_at o.contents.bytes at count) ≡ given_count v at (length after) =
      length-take count (drop at o.contents.bytes) ∙ ap (min count) rest ∙ sym some in
      subst (λ (x : Object). Answers x at (Read handle count) Corrupt) (sym o.object)
      (ap (λ (m : ℕ). list_any (meets_block at (at + m)) o.contents.bad) many ∙ reads.corrupt honest o.contents o.object)

  answers-fault : (fault : SlotFault) (reply : Reply) → Some reply ≡ reply_of_fault slot.number fault → ReadsVersion keys slot.file v at after (Err fault) → (handle : ℕ)
      → IsFileAnswer store slot.file slot.number v at (Read handle count) reply
  answers-fault IsCorrupt reply is reads handle =
      let same : reply ≡ Corrupt = some_same reply Corrupt is in
      Refuses same (λ honest. subst (Answers v.object at (Read handle count)) (sym same) (honest-corrupt reads handle honest))
  answers-fault (Failed n) reply is reads handle = Fails n (some_same reply (NotAvailable (Fault (File slot.number) n)) is)
  answers-fault (NoEntropy n) reply is reads handle = absurd (none_some reply (sym is))
  answers-fault NoMemory reply is reads handle = absurd (none_some reply (sym is))

  ends-fault : (fault : SlotFault) (reply : Reply) → Some reply ≡ reply_of_fault slot.number fault → EndsAtPosition at reply
  ends-fault IsCorrupt reply is = subst (EndsAtPosition at) (sym (some_same reply Corrupt is)) tt
  ends-fault (Failed n) reply is = subst (EndsAtPosition at) (sym (some_same reply (NotAvailable (Fault (File slot.number) n)) is)) tt
  ends-fault (NoEntropy n) reply is = absurd (none_some reply (sym is))
  ends-fault NoMemory reply is = absurd (none_some reply (sym is))

  pub fault-answer : (fault : SlotFault) (reply : Reply) → Some reply ≡ reply_of_fault slot.number fault → ReadsVersion keys slot.file v at after (Err fault) → FaultCause was slot.file fault
      → ReadsAnswer store was slot v at count reply
  fault-answer fault reply is reads cause = record {
    answers = answers-fault fault reply is reads;
    cause = told-cause was slot.file slot.number fault reply is cause;
    ends = ends-fault fault reply is;
  }

-- What the slot's read says of its file.
pub live-reads : (holds : Holding) (old new : FileState) (at : ℕ) (before after : List ℕ) (result : Result ℕ SlotFault) → IsLive holds → IfLive holds (λ o. ReadsObject old new o at before after result)
    → Rests old new × HasCause old new result
live-reads free old new at before after result on reads = absurd on
live-reads (made o) old new at before after result on reads = absurd on
live-reads (staged o s) old new at before after result on reads = absurd on
live-reads (live o) old new at before after result on reads = (reads.rests, reads.cause)

-- What was read of the object, once that was loaded.
pub read-loaded : {A : Type 0} (store : Store) (was mid : FileState) (new : SlotValue) (v : Version) (at count : ℕ) → FilePassed was mid → GoesOn was mid → (result : Result Reply A)
    → IfOk result (ReadsAnswer store mid new v at count) → IfOk result (ReadsAnswer store was new v at count)
read-loaded store was mid new v at count passed goes (Ok reply) reads =
    record { answers = reads.answers; cause = passed-told was mid new.file passed goes new.number reply reads.cause; ends = reads.ends }
read-loaded store was mid new v at count passed goes (Err none) reads = tt

undone-ends : (at : ℕ) (reply : Reply) → is_undone reply ≡ true → EndsAtPosition at reply
undone-ends at (Content bytes) undone = absurd (true≢false (sym undone))
undone-ends at reply undone = tt

-- What could not be loaded.
pub unread : (store : Store) (was : FileState) (slot : SlotValue) (v : Version) (at count : ℕ) (reply : Reply) → IsUnloaded store was slot v reply → ReadsAnswer store was slot v at count reply
unread store was slot v at count reply unloaded =
    record { answers = λ handle. unloaded.answers at (Read handle count); cause = unloaded.cause; ends = undone-ends at reply unloaded.undone }

-- What the machine does at a Read that gives bytes.
module _ (m : MachineState) (i number count : ℕ) (handle : Handle) (live_ : handle_at (session_at m i) number ≡ Some handle) (right : has handle.flags read_bit ≡ true) (other : List ℕ) where
  read_of-handle : read_of m i number count ≡ of_sound m (object_at m.objects handle.name) (read_from m i number count handle)
  unfolding read_of
  read_of-handle = rw (live_, right) refl

  content_same : (a b : List ℕ) → Content a ≡ Content b → a ≡ b
  content_same a b e = cc

  abbrev Leaves : Outcome → Type 0
  Leaves o = o.reply ≡ Content other → o.next ≡ with_position m i number handle (handle.position + length other)

  abbrev meets_bad : Contents → Bool
  meets_bad c = list_any (meets_block handle.position (handle.position + length (bytes_at c.bytes handle.position count))) c.bad

  from-bad : (c : Contents) → meets_bad c ≡ true → read_from m i number count handle c ≡ refuse m Corrupt
  from-bad c bad = rw bad refl

  from-good : (c : Contents) → meets_bad c ≡ false
      → read_from m i number count handle c
      ≡ record {
        reply = Content (bytes_at c.bytes handle.position count);
        next = with_position m i number handle (handle.position + length (bytes_at c.bytes handle.position count));
      }
  from-good c good = rw good refl

  from-refused : (reply : Reply) → is_undone reply ≡ true → Leaves (refuse m reply)
  from-refused reply undone is = absurd (true≢false (sym undone ∙ ap is_undone is))

  by_bad : (c : Contents) (bad : Bool) → meets_bad c ≡ bad → Leaves (read_from m i number count handle c)
  by_bad c true bad = subst Leaves (sym (from-bad c bad)) (from-refused Corrupt refl)
  by_bad c false bad =
      subst Leaves (sym (from-good c bad))
      (λ is. ap (λ (l : List ℕ). with_position m i number handle (handle.position + length l)) (content_same (bytes_at c.bytes handle.position count) other is))

  by_object : (o : Option Object) → Leaves (of_sound m o (read_from m i number count handle))
  by_object None = from-refused (Misuse BadHandle) refl
  by_object (Some (Damaged size)) = from-refused Corrupt refl
  by_object (Some (Sound c)) = by_bad c (meets_bad c) refl

  after-content : reply_of m i (Read number count) ≡ Content other → state_after m i (Read number count) ≡ with_position m i number handle (handle.position + length other)
  after-content is =
      let all : Leaves (read_of m i number count) = subst Leaves (sym read_of-handle) (by_object (object_at m.objects handle.name)) in
      all is

  pub content-session : i < length m.sessions → reply_of m i (Read number count) ≡ Content other
      → session_at (state_after m i (Read number count)) i ≡ with_handle (session_at m i) number (record handle { position = handle.position + length other })
  content-session within is =
      ap (λ (x : MachineState). session_at x i) (after-content is)
      ∙ get_or-set_at m.sessions i i (with_handle (session_at m i) number (record handle { position = handle.position + length other })) (new_session []) refl within

-- a reply that is the machine's but for bytes: the machine gives as many bytes
alike-content : (bytes : List ℕ) (meant : Reply) → (Content bytes ≡ meant) ⊎ DiffersInBytes (Content bytes) meant → (other : List ℕ) × (meant ≡ Content other) × (length bytes ≡ length other)
alike-content bytes meant (inl same) = (bytes, sym same, refl)
alike-content bytes (Content other) (inr differs) = (other, refl, differs)
alike-content bytes meant (inr differs) = absurd differs

-- A reply that the file gave gives bytes, or the call was not done.
told-kind : (store : Store) (told : Option (List Taint)) (v : Version) (at number count : ℕ) (reply : Reply) → IsToldBy store told v at (Read number count) reply → (bytes : List ℕ) × (reply ≡ Content bytes)
told-kind store told v at number count (Content bytes) by = (bytes, refl)
told-kind store told v at number count reply by = absurd by.tells

read-kind : (store : Store) (file : FileState) (n : ℕ) (v : Version) (at number count : ℕ) (reply : Reply) → IsFileAnswer store file n v at (Read number count) reply
    → (is_undone reply ≡ true) ⊎ ((bytes : List ℕ) × (reply ≡ Content bytes))
read-kind store file n v at number count reply (FileTells by honest) = inr (told-kind store (told_taints file) v at number count reply by)
read-kind store file n v at number count reply (Refuses is honest) = inl (ap is_undone is)
read-kind store file n v at number count reply (Fails many is) = inl (ap is_undone is)
read-kind store file n v at number count reply (Undrawn many is by) = absurd by.changes
read-kind store file n v at number count reply (Spent is by) = absurd by.changes

undone-stays : (s : Session) (number : ℕ) (handle : Handle) (reply : Reply) → is_undone reply ≡ true → read_session s number handle reply ≡ s
undone-stays s number handle (Content bytes) undone = absurd (true≢false (sym undone))
undone-stays s number handle reply undone = refl

same-application : (s : Session) (number : ℕ) (handle : Handle) (reply : Reply) → (read_session s number handle reply).application ≡ s.application
same-application s number handle (Content bytes) = refl
same-application s number handle reply = refl

admits-read : (m : MachineState) (i size number count : ℕ) (reply : Reply) → DependsOnFile m i size (Read number count) → AdmitsIfTold m i size (Read number count) reply
admits-read m i size number count Corrupt depends = tt
admits-read m i size number count (NotAvailable cause) depends = tt
admits-read m i size number count (CounterSpent last) depends = tt
admits-read m i size number count reply depends = depends

-- The session moves as the machine's.
module _ {E : Type 0} (store : Store) (knows : GateView) (entries : List (Option DirEntry)) (table : TableState) (was : CallerSession E) (number count : ℕ) (handle : Handle)
    (live_ : handle_at was.state number ≡ Some handle) (right : has handle.flags read_bit ≡ true) (calmly : IsCalm store knows was) where
  abbrev Done : Reply → Type 0
  Done r = is_undone r ≡ false → (m : MachineState) → Matches entries table was.state m was.number → MeansAlike m was.number (Read number count) r
      → session_at (state_after m was.number (Read number count)) was.number ≡ read_session was.state number handle r

  there : (m : MachineState) → Matches entries table was.state m was.number → handle_at (session_at m was.number) number ≡ Some handle
  there m at = ap (λ (s : Session). handle_at s number) at.session ∙ live_

  by_content : (bytes : List ℕ) → Done (Content bytes)
  by_content bytes done m at alike =
      let meant = alike-content bytes (reply_of m was.number (Read number count)) alike in
      content-session m was.number number count handle (there m at) right meant.0 at.within meant.1
      ∙ (λ k. with_handle (at.session k) number (record handle { position = handle.position + sym meant.2 k }))

  by_kind : (reply : Reply) → (is_undone reply ≡ true) ⊎ ((bytes : List ℕ) × (reply ≡ Content bytes)) → Done reply
  by_kind reply (inl undone) = λ done. absurd (true≢false (sym undone ∙ done))
  by_kind reply (inr content) = subst Done (sym content.1) (by_content content.0)

  read-moves : (reply : Reply) → (is_undone reply ≡ true) ⊎ ((bytes : List ℕ) × (reply ≡ Content bytes))
      → MovesAlike store knows entries table (Read number count) reply was.state (record was { state = read_session was.state number handle reply })
  read-moves reply kind = record {
    was = calmly.caller;
    sees = calmly.sees;
    settled = calmly.settled;
    application = same-application was.state number handle reply;
    undone = undone-stays was.state number handle reply;
    done = by_kind reply kind;
  }

  read-call : (m : MachineState) (e : DirEntry) (reply : Reply) → handle.name ≡ name_of e → Matches entries table was.state m was.number
      → IsEntryCall m was.number e handle.position (Read number count) reply
  read-call m e reply named at =
      let depends : DependsOnFile m was.number e.size (Read number count) = (record { handle = handle; live = there m at }, right) in
      record {
        named = ap (option_map (λ (h : Handle). h.name)) (there m at) ∙ ap Some named;
        depends = depends;
        at = ap position_of (there m at);
        admitted = admits-read m was.number e.size number count reply depends;
      }

-- So the reply may be appended.
pub read-served : {F R E : Type 0} (store : Store) (gate : GateValue F R) (knows : GateView) (was : FileState) (slot : SlotValue) (s now : CallerSession E) (number count : ℕ) (found : OpenObject) (reply : Reply)
    → gate.doubt ≡ None → IsCalm store knows s → IsRightful gate.dir.dir.entries s.state number read_bit found
    → ReadsEntry store knows was slot found.held.entry found.handle.position count reply → now ≡ record s { state = read_session s.state number found.handle reply }
    → MayBeServed store gate knows slot (Read number count) reply now
read-served store gate knows was slot s now number count found reply idle calmly rightful reads moved =
    let live_ = rightful.opened.live in
    let answers = reads.reads.answers number in
    subst (MayBeServed store gate knows slot (Read number count) reply) (sym moved) (record {
      idle = idle;
      index = found.held.index;
      entry = found.held.entry;
      held = rightful.opened.named.0;
      version = reads.version;
      at = reads.at;
      position = found.handle.position;
      answers = answers;
      counter = counter-untold store slot.file slot.number reads.version found.handle.position (Read number count) reply (λ partial. partial) answers gate.counter;
      before = s.state;
      moves =
          read-moves store knows gate.dir.dir.entries gate.open_handles s number count found.handle live_ rightful.has_right calmly reply
          (read-kind store slot.file slot.number reads.version found.handle.position number count reply answers);
      on = λ m at.
          read-call store knows gate.dir.dir.entries gate.open_handles s number count found.handle live_ rightful.has_right calmly m found.held.entry reply (sym rightful.opened.named.1) at;
    })
