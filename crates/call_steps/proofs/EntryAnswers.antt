-- What an entry's file gave to a call on its object may be told.
use Rattle.std.proofs.Common.{◌≡◌, ◌<◌, ◌^◌, ℕ, false, List, Option, Some, None, IsTrue, true, refl, sym, ap, ◌∙◌, subst, inl}
use Rattle.history_seats.specs.Changes.{call_record}
use Rattle.tee_types.specs.declared.call.Call.{Call}
use Rattle.tee_types.specs.declared.call.Call.TheVariants.{Info, Open, Read}
use Rattle.tee_types.specs.declared.reply.Cause.TheVariants.{Fault}
use Rattle.tee_types.specs.declared.reply.Device.TheVariants.{Entropy, File}
use Rattle.tee_types.specs.declared.reply.Reply.{Reply}
use Rattle.tee_types.specs.declared.reply.Reply.TheVariants.{Corrupt, CounterSpent, Handle as HandleReply, NotAvailable}
use Rattle.store_model.specs.declared.event.Mark.TheVariants.{Unchanged}
use Rattle.store_model.specs.Files.{object_named}
use Rattle.store_model.specs.Legal.{IsLegalAnswer, NotMade, Spent as LegalSpent, Unavailable, is_commit_due}
use Rattle.rpmb_card.specs.Protocol.{last_counter}
use Rattle.store_model.specs.Machine.{MachineState, name_in}
use Rattle.store_model.specs.Record.{fault_in_reply}
use Rattle.store_model.specs.ReplayState.{ReplayState, is_undone}
use Rattle.dir_records.specs.declared.entry.DirEntry.{DirEntry}
use Rattle.history_seats.specs.Directory.{given_version}
use Rattle.history_seats.specs.Mounts.{Mounted}
use Rattle.history_seats.specs.Numbers.{is_in}
use Rattle.history_seats.specs.Records.{HistoryRecord, Version}
use Rattle.history_seats.specs.Views.{GateView, SlotView}
use Rattle.crash_core.specs.DirectoryLaws.{AreEntries}
use Rattle.crash_core.specs.Entries.{name_of}
use Rattle.crash_core.specs.EntryLists.{entry_at}
use Rattle.core_laws.specs.Answered.{AreAnswered, IsFairAt, IsLegalAt}
use Rattle.core_laws.specs.Given.{Tells, is_asked, position_by, decoding_given}
use Rattle.core_laws.specs.TamperScenarios.{TamperScenario}
use Rattle.core_laws.specs.ReadLaws.{IsAdmitted}
use Rattle.core_laws.specs.Decodings.{Decoding}
use Rattle.core_laws.specs.Masked.{GaveVersion, told_taints}
use Rattle.disk_model.specs.Arms.{Taint}
use Rattle.core_laws.specs.Stores.{Store, replay_at}
use Rattle.core_laws.proofs.Mending.{none_some, some_same}
use Rattle.call_rules.specs.OpenLaws.{IsOpenedFile}
use Rattle.commit_gate.specs.Gates.{GateValue}
use Rattle.commit_gate.specs.CallerSessions.{CallerSession}
use Rattle.object_slots.specs.SlotValues.{SlotValue}
use Rattle.object_slots.specs.GuardedSlots.{SlotInvariant, IsSlotOf}
use Rattle.commit_gate.specs.declared.guarded_gate.Closing.{Closing}
use Rattle.commit_gate.specs.KnownMachine.{KnowsMachine}
use Rattle.commit_gate.specs.GuardedGates.{GateInvariant}
use Rattle.commit_gate.specs.SlotAnswers.{MayBeTold, slot_record}
use Rattle.commit_gate.specs.ReplyLaws.{Answers, IsAdmittedOr, IsOnFile, IsToldBy, told_record}
use Rattle.commit_gate.proofs.EntryCalls.{entry_calls}
use Rattle.commit_gate.proofs.FairAnswers.{failed_files, refused_files, told_files}
use Rattle.commit_gate.proofs.Honest.{honest_answers}
use Rattle.call_steps.specs.EntryAnswers.{AdmitsIfTold, IsEntryCall}
use Rattle.call_steps.specs.FileAnswers.{Fails, IsFileAnswer, Refuses, Spent as FileSpent, Tells as FileTells, Undrawn}
use Rattle.call_steps.specs.ServableReplies.{MayBeServed, TellsCounter}
use Rattle.call_steps.specs.Undrawn.{IsSpared, IsUndrawn}
use Rattle.call_steps.proofs.AnswerMoves.{here-matches}
use Rattle.call_steps.proofs.Meetings.{own-seat}
use Rattle.call_steps.proofs.UndrawnCalls.{undrawn-fair, undrawn-legal}

-- A reply that tells of an object is no refusal, and accuses no device.
untold_corrupt : (sp : Decoding) (size attributes position : ℕ) (call : Call) → Tells sp size attributes position call Corrupt → ⊥
untold_corrupt sp size attributes position (Open id flags) tells = tells
untold_corrupt sp size attributes position (Read handle count) tells = tells
untold_corrupt sp size attributes position (Info handle) tells = tells
untold_corrupt sp size attributes position call tells = tells

-- what is told is admitted
admitted-told : (m : MachineState) (session long : ℕ) (sp : Decoding) (size attributes position : ℕ) (call : Call) (reply : Reply) → Tells sp size attributes position call reply
    → AdmitsIfTold m session long call reply → IsAdmitted m session long call reply
admitted-told m session long sp size attributes position call Corrupt tells admits = absurd (untold_corrupt sp size attributes position call tells)
admitted-told m session long sp size attributes position (Open id flags) (NotAvailable cause) tells admits = absurd tells
admitted-told m session long sp size attributes position (Read handle count) (NotAvailable cause) tells admits = absurd tells
admitted-told m session long sp size attributes position (Info handle) (NotAvailable cause) tells admits = absurd tells
admitted-told m session long sp size attributes position call (NotAvailable cause) tells admits = absurd tells
admitted-told m session long sp size attributes position (Open id flags) (CounterSpent last) tells admits = absurd tells
admitted-told m session long sp size attributes position (Read handle count) (CounterSpent last) tells admits = absurd tells
admitted-told m session long sp size attributes position (Info handle) (CounterSpent last) tells admits = absurd tells
admitted-told m session long sp size attributes position call (CounterSpent last) tells admits = absurd tells
admitted-told m session long sp size attributes position call reply tells admits = admits

faultless : (sp : Decoding) (size attributes position : ℕ) (call : Call) (reply : Reply) → Tells sp size attributes position call reply → (n : ℕ) → fault_in_reply reply ≡ Some n → ⊥
faultless sp size attributes position (Open id flags) (NotAvailable cause) tells n is = tells
faultless sp size attributes position (Read handle count) (NotAvailable cause) tells n is = tells
faultless sp size attributes position (Info handle) (NotAvailable cause) tells n is = tells
faultless sp size attributes position call (NotAvailable cause) tells n is = tells
faultless sp size attributes position call reply tells n is = none_some n is

admitted-or : (m : MachineState) (session long : ℕ) (call : Call) (reply : Reply) → IsAdmitted m session long call reply → IsAdmittedOr m session long call reply
admitted-or m session long call Corrupt admitted = tt
admitted-or m session long call reply admitted = admitted

-- an open is on the entry's file
opened-by : (entries : List (Option DirEntry)) (m : MachineState) (i index : ℕ) (e : DirEntry) (file : ℕ) → entry_at entries index ≡ Some e → file ≡ e.file → (call : Call) (reply : Reply)
    → object_named m i call ≡ Some (name_of e) → IsOpenedFile entries m i call reply file
opened-by entries m i index e file at is (Open id flags) (HandleReply number) named =
    record { index = index; named = record { entry = e; at = at; named = some_same (name_of e) (name_in m i id) (sym named) }; is = is }
opened-by entries m i index e file at is call reply named = tt

module _ {F R E : Type 0} (store : Store) (gate : GateValue F R) (knows : GateView) (closing : Option Closing) (guarded : GateInvariant store gate knows closing) (are : AreEntries gate.dir.dir.entries)
    (machine : KnowsMachine store knows gate.dir.dir.entries gate.open_handles) (low : gate.counter < 2 ^ 32) (slot : SlotValue) (own : SlotInvariant store slot) (call : Call) (reply : Reply)
    (s : CallerSession E) (may : MayBeServed store gate knows slot call reply s) where
  abbrev e : DirEntry
  e = may.entry

  abbrev v : Version
  v = may.version

  abbrev pub view : SlotView
  view = may.at.sees.seat.knows

  pub own-view : IsSlotOf store slot.number slot.file may.at.sees.seat
  own-view = own-seat store slot may.at.sees.seat may.at.sees.is own

  pub file-is : view.file ≡ e.file
  file-is = own-view.own ∙ may.at.file

  taints-are : told_taints slot.file ≡ store.taints e.file
  taints-are = own-view.told ∙ ap store.taints may.at.file

  given : given_version store.mounted knows.all e.file e.generation ≡ Some v
  given = ap (λ (m : Mounted). given_version m knows.all e.file e.generation) (sym own-view.mounted) ∙ may.at.given

  pub given-view : given_version store.mounted knows.all view.file view.generation ≡ Some v
  given-view = (λ i. given_version store.mounted knows.all (file-is i) (may.at.generation i)) ∙ given

  -- the record of the answer
  abbrev told : HistoryRecord
  told = told_record s.number s.made call reply e.file e.generation v

  record-is : told ≡ slot_record store knows view s.number s.made call reply
  record-is = λ i. call_record s.number s.made call reply Unchanged (Some (record {
    file = sym file-is i;
    generation = sym may.at.generation i;
    committed = sym given-view i;
    doubted = None;
  }))

  module _ (scenario : TamperScenario) (answered : AreAnswered store scenario knows.all) where
    abbrev here : ReplayState
    here = replay_at store scenario knows.all

    on : IsEntryCall here.state s.number e may.position call reply
    on = may.on here.state (here-matches E store knows gate.dir.dir.entries gate.open_handles machine (record s { state = may.before }) may.moves.was may.moves.sees scenario answered)

    on-file : IsOnFile store scenario knows.all s.number call e.file e.generation v
    on-file = entry_calls F R store gate knows closing guarded are low s.number may.index call e v may.moves.was.session.known may.held given scenario answered on.named on.depends

    -- what the file told, at the machine's position
    told-by : IsToldBy store (told_taints slot.file) v may.position call reply → IsToldBy store (store.taints e.file) v (position_by here.state s.number call) call reply
    told-by is = subst (λ (x : Option (List Taint) × ℕ). IsToldBy store x.0 v x.1 call reply) (λ i. (taints-are i, sym on.at i)) is

    admits : AdmitsIfTold here.state s.number v.size call reply
    admits = subst (λ (n : ℕ). AdmitsIfTold here.state s.number n call reply) (sym may.at.own.size) on.admitted

    admitted : IsToldBy store (told_taints slot.file) v may.position call reply → IsAdmitted here.state s.number v.size call reply
    admitted is = admitted-told here.state s.number v.size (decoding_given is.gave) v.size v.attributes may.position call reply is.tells admits

    answers-by : Answers v.object may.position call reply → Answers v.object (position_by here.state s.number call) call reply
    answers-by is = subst (λ (p : ℕ). Answers v.object p call reply) (sym on.at) is

    failed-told : (count : ℕ) → reply ≡ NotAvailable (Fault (File slot.number) count) → IsLegalAt store scenario knows.all told
    failed-told count is =
        subst (λ (p : Reply). IsLegalAt store scenario knows.all (told_record s.number s.made call p e.file e.generation v))
        (sym (is ∙ ap (λ (n : ℕ). NotAvailable (Fault (File n) count)) may.at.file))
        (failed_files store scenario knows.all s.number s.made call e.file e.generation count v on-file)

    -- A commit was due, and it is told that it was not made.
    module _ (p : Reply) (is : reply ≡ p) (faultless-is : fault_in_reply p ≡ None) (undone-is : is_undone p ≡ true)
        (unmade : is_commit_due here s.number call ≡ true → IsLegalAnswer scenario.tampered here s.number call p Unchanged (Some e.file)) (by : IsUndrawn store slot.file v may.position call) where
      undrawn-told : IsFairAt store scenario knows.all told
      undrawn-told =
          subst (λ (p : Reply). IsFairAt store scenario knows.all (told_record s.number s.made call p e.file e.generation v)) (sym is)
          (undrawn-fair store scenario knows.all s.number s.made call p e.file e.generation v on-file faultless-is undone-is unmade by.changes
          (subst (λ (x : Option (List Taint) × ℕ). GaveVersion store.keys x.0 v (is_asked v.size x.1 call)) (λ i. (taints-are i, sym on.at i)) by.gave))

      undrawn-honest : IsTrue slot.file.honest → is_in slot.number scenario.tampered ≡ false → IsLegalAt store scenario knows.all told
      undrawn-honest honest off =
          subst (λ (p : Reply). IsLegalAt store scenario knows.all (told_record s.number s.made call p e.file e.generation v)) (sym is)
          (undrawn-legal store scenario knows.all s.number s.made call p e.file e.generation v on-file faultless-is undone-is unmade (ap (λ (n : ℕ). is_in n scenario.tampered) (sym may.at.file) ∙ off)
          (subst (λ (p : ℕ). IsSpared v.object p call) (sym on.at) (by.spared honest)))

    -- since a draw failed
    undrawn-due : (count : ℕ) → is_commit_due here s.number call ≡ true → IsLegalAnswer scenario.tampered here s.number call (NotAvailable (Fault Entropy count)) Unchanged (Some e.file)
    undrawn-due count due = Unavailable (record { cause = Fault Entropy count; replied = refl; marked = refl; due = NotMade due })

    -- since the card's counter is at its end
    spent-due : reply ≡ CounterSpent last_counter → is_commit_due here s.number call ≡ true → IsLegalAnswer scenario.tampered here s.number call (CounterSpent last_counter) Unchanged (Some e.file)
    spent-due is due =
        let at_end : gate.counter ≡ last_counter = subst (TellsCounter gate.counter) is may.counter in
        LegalSpent (record { replied = refl; marked = refl; due = due; spent = guarded.tied.counter scenario answered ∙ at_end })

    -- it is fair whatever the file is
    fair-by : IsFileAnswer store slot.file slot.number v may.position call reply → IsFairAt store scenario knows.all told
    fair-by (FileTells is honest) = told_files store scenario knows.all s.number s.made call reply e.file e.generation v on-file (told-by is) (admitted is)
    fair-by (Refuses is honest) =
        subst (λ (p : Reply). IsFairAt store scenario knows.all (told_record s.number s.made call p e.file e.generation v)) (sym is)
        (refused_files store scenario knows.all s.number s.made call e.file e.generation v on-file)
    fair-by (Fails count is) = λ answered owed. inl (inl (failed-told count is))
    fair-by (Undrawn count is by) = undrawn-told (NotAvailable (Fault Entropy count)) is refl refl (undrawn-due count) by
    fair-by (FileSpent is by) = undrawn-told (CounterSpent last_counter) is refl refl (spent-due is) by

    -- and legal where the file is honest, now and under the tamper scenario
    legal-by : IsTrue slot.file.honest → is_in slot.number scenario.tampered ≡ false → IsFileAnswer store slot.file slot.number v may.position call reply → IsLegalAt store scenario knows.all told
    legal-by honest off (FileTells is own_) =
        honest_answers store scenario knows.all s.number s.made call reply e.file e.generation v on-file (ap (λ (n : ℕ). is_in n scenario.tampered) (sym may.at.file) ∙ off) (answers-by (own_ honest))
        (admitted-or here.state s.number v.size call reply (admitted is))
    legal-by honest off (Refuses is own_) =
        honest_answers store scenario knows.all s.number s.made call reply e.file e.generation v on-file (ap (λ (n : ℕ). is_in n scenario.tampered) (sym may.at.file) ∙ off) (answers-by (own_ honest))
        (subst (IsAdmittedOr here.state s.number v.size call) (sym is) tt)
    legal-by honest off (Fails count is) = failed-told count is
    legal-by honest off (Undrawn count is by) = undrawn-honest (NotAvailable (Fault Entropy count)) is refl refl (undrawn-due count) by honest off
    legal-by honest off (FileSpent is by) = undrawn-honest (CounterSpent last_counter) is refl refl (spent-due is) by honest off

  -- the reply accuses no other file
  fault-is : IsFileAnswer store slot.file slot.number v may.position call reply → (n : ℕ) → fault_in_reply reply ≡ Some n → n ≡ view.file
  fault-is (FileTells is honest) n at = absurd (faultless (decoding_given is.gave) v.size v.attributes may.position call reply is.tells n at)
  fault-is (Refuses is honest) n at = absurd (none_some n (ap fault_in_reply (sym is) ∙ at))
  fault-is (Fails count is) n at = sym (some_same slot.number n (ap fault_in_reply (sym is) ∙ at)) ∙ sym own-view.own
  fault-is (Undrawn count is by) n at = absurd (none_some n (ap fault_in_reply (sym is) ∙ at))
  fault-is (FileSpent is by) n at = absurd (none_some n (ap fault_in_reply (sym is) ∙ at))

  pub answer-told : MayBeTold store gate.doubt gate.dir.dir.entries knows view s.number s.made call reply
  answer-told = record {
    calm = may.idle;
    fault = fault-is may.answers;
    fair = λ scenario answered owed.
        (subst (IsFairAt store scenario knows.all) record-is (fair-by scenario answered may.answers)) answered owed;
    opened = λ scenario answered.
        opened-by gate.dir.dir.entries (replay_at store scenario knows.all).state s.number may.index e view.file may.held file-is call reply (on scenario answered).named;
  }

  pub answer-legal : IsTrue slot.file.honest → (scenario : TamperScenario) → is_in slot.number scenario.tampered ≡ false → AreAnswered store scenario knows.all
      → IsLegalAt store scenario knows.all (slot_record store knows view s.number s.made call reply)
  answer-legal honest scenario off answered = subst (IsLegalAt store scenario knows.all) record-is (legal-by scenario answered honest off may.answers)
