-- A change of an object's data that was not drawn for: a commit was due, and was not made; or the promises end there.
use Rattle.std.proofs.Common.{◌≡◌, ◌+◌, ◌==◌, ℕ, true, false, List, length, max, min, None, Some, refl, sym, ap, ◌∙◌, subst, inl, inr}
use Rattle.std.specs.List.{list_any}
use Rattle.tee_types.specs.declared.call.Call.{Call}
use Rattle.tee_types.specs.declared.call.Call.TheVariants.{Truncate, Write}
use Rattle.tee_types.specs.declared.reply.Reply.{Reply}
use Rattle.page_bytes.specs.Ranges.{needs, resize_range, write_range}
use Rattle.store_model.specs.declared.event.Mark.TheVariants.{Unchanged}
use Rattle.store_model.specs.declared.name.ObjectName.{ObjectName}
use Rattle.store_model.specs.Calls.{is_commit, reply_of}
use Rattle.store_model.specs.Data.{needs_block, range_resized, range_written, spoils}
use Rattle.store_model.specs.Files.{object_named}
use Rattle.store_model.specs.Legal.{IsLegalAnswer, is_commit_due}
use Rattle.store_model.specs.Machine.{MachineState}
use Rattle.store_model.specs.Object.{Contents, Damaged, Object, Sound, object_at, size_of}
use Rattle.store_model.specs.Record.{fault_in_reply}
use Rattle.store_model.specs.ReplayState.{ReplayState, is_undone}
use Rattle.crash_core.proofs.ObjectChanges.{bad-needed, resize_range-shifted, write_range-shifted}
use Rattle.history_seats.specs.Numbers.{is_in}
use Rattle.history_seats.specs.Records.{HistoryRecord, Version}
use Rattle.history_seats.proofs.Lists.{or_right}
use Rattle.core_laws.specs.Answered.{IsFairAt, IsLegalAt}
use Rattle.core_laws.specs.Given.{is_asked, position_by, position_of}
use Rattle.core_laws.specs.Masked.{GaveVersion}
use Rattle.core_laws.specs.TamperScenarios.{TamperScenario}
use Rattle.core_laws.specs.Mapped.{IsMapped}
use Rattle.core_laws.specs.Shown.{IsGivenAt, IsPartial, asked_of}
use Rattle.core_laws.specs.Decodings.{IsReal, pages_decoded}
use Rattle.core_laws.specs.Stores.{Store, replay_at}
use Rattle.core_laws.proofs.ChangeCalls.{truncate_commits, write_commits}
use Rattle.core_laws.proofs.Mending.{none_some, object_honest, size_under}
use Rattle.core_laws.proofs.StagedChanges.{IsFine, fine_or_end, held, held_long, held_there, page_good}
use Rattle.commit_gate.specs.ReplyLaws.{DependsOnFile, IsOnFile, replay_tag, told_record}
use Rattle.commit_gate.proofs.FairAnswers.{legal_by, object-there}
use Rattle.commit_gate.proofs.Meant.{at-handle}
use Rattle.call_steps.specs.Undrawn.{IsSpared}

-- The machine commits a change of a sound object that spoils no bad block.
module _ (s : MachineState) (i size : ℕ) (name : ObjectName) where
  pub spared-due : (call : Call) (o : Object) → object_named s i call ≡ Some name → object_at s.objects name ≡ Some o → size_of o ≡ size → DependsOnFile s i size call → IsSpared o (position_by s i call) call
      → is_commit s i call (reply_of s i call) ≡ true
  spared-due (Write number bytes) (Sound c) by there sized d spared =
      write_commits s i number d.0.handle d.0.live d.1 c (at-handle s i size name number d.0.handle (Sound c) d.0.live by there) bytes d.2 d.3 d.4
      (ap (λ (p : ℕ). spoils c (range_written c p (length bytes))) (sym (ap position_of d.0.live)) ∙ spared)
  spared-due (Truncate number long) (Sound c) by there sized d spared =
      truncate_commits s i number d.0.handle d.0.live d.1 c (at-handle s i size name number d.0.handle (Sound c) d.0.live by there) long
      (ap (λ (n : ℕ). long == n) sized ∙ d.2) d.3 spared
  spared-due call (Damaged n) by there sized d spared = absurd spared
  spared-due call (Sound c) by there sized d spared = absurd spared

-- What stands for the version is spared where it is good at each block that the change has to know.
module _ (store : Store) (scenario : TamperScenario) (before : List HistoryRecord) (r : HistoryRecord) (x : IsGivenAt store scenario before r) (real : IsReal store.keys x.version) (mapped : IsMapped store scenario before)
    (partial : IsPartial x.call) (fine : IsFine store scenario before r x real mapped partial) where
  abbrev c : Contents
  c = held store scenario before r x real mapped partial fine

  long : length c.bytes ≡ x.version.size
  long = held_long store scenario before r x real mapped partial fine

  asked-is : (call : Call) → x.call ≡ call → (k : ℕ) → asked_of x k ≡ is_asked x.version.size x.position call k
  asked-is call is k = ap (λ (y : Call). is_asked x.version.size x.position y k) is

  spared-write : (number : ℕ) (bytes : List ℕ) → x.call ≡ Write number bytes → spoils c (range_written c x.position (length bytes)) ≡ false
  spared-write number bytes is =
      (λ i. list_any (needs_block (long i) (min x.position (long i)) (x.position + length bytes)) c.bad)
      ∙ bad-needed (pages_decoded fine.sp) x.version.size (min x.position x.version.size) (x.position + length bytes)
      (λ k one below needed.
      page_good store scenario before r x real mapped partial fine k below
      (asked-is (Write number bytes) is k ∙ or_right (k == 0) (needs (write_range (4096 + x.version.size) (4096 + x.position) (length bytes)) k)
      (ap (λ r. needs r k) (write_range-shifted x.version.size x.position (length bytes)) ∙ needed)))

  spared-cut : (number size : ℕ) → x.call ≡ Truncate number size → spoils c (range_resized c size) ≡ false
  spared-cut number size is =
      (λ i. list_any (needs_block (long i) (min size (long i)) (max size (long i))) c.bad)
      ∙ bad-needed (pages_decoded fine.sp) x.version.size (min size x.version.size) (max size x.version.size)
      (λ k one below needed.
      page_good store scenario before r x real mapped partial fine k below
      (asked-is (Truncate number size) is k ∙ or_right (k == 0) (needs (resize_range (4096 + x.version.size) (4096 + size)) k)
      (ap (λ r. needs r k) (resize_range-shifted x.version.size size) ∙ needed)))

  spared-by : (call : Call) → x.call ≡ call → IsSpared (Sound c) x.position call
  spared-by (Write number bytes) is = spared-write number bytes is
  spared-by (Truncate number size) is = spared-cut number size is
  spared-by call is = absurd (subst IsPartial is partial)

  pub fine-spared : IsSpared (Sound c) x.position x.call
  fine-spared = spared-by x.call refl

-- On an object's file; the reply accuses no file, and tells that a commit was not made.
module _ (store : Store) (scenario : TamperScenario) (before : List HistoryRecord) (session number : ℕ) (call : Call) (reply : Reply) (file generation : ℕ) (v : Version)
    (x : IsOnFile store scenario before session call file generation v) (faultless : fault_in_reply reply ≡ None) (undone : is_undone reply ≡ true)
    (unmade : is_commit_due (replay_at store scenario before) session call ≡ true → IsLegalAnswer scenario.tampered (replay_at store scenario before) session call reply Unchanged (Some file)) where
  abbrev here : ReplayState
  here = replay_at store scenario before

  abbrev r : HistoryRecord
  r = told_record session number call reply file generation v

  not-made : is_commit_due here session call ≡ true → IsLegalAt store scenario before r
  not-made due =
      legal_by store scenario before session call file generation v x number reply (λ n is. absurd (none_some n (sym faultless ∙ is))) (unmade due)

  -- legal where the file is honest under the tamper scenario, and its object is spared
  pub undrawn-legal : is_in file scenario.tampered ≡ false → IsSpared v.object (position_by here.state session call) call → IsLegalAt store scenario before r
  undrawn-legal off spared =
      let honest = object_honest store.keys scenario file generation v x.real off in
      not-made (spared-due here.state session v.size x.name call v.object x.of_call (object-there store scenario before session call file generation v x ∙ ap Some honest)
      (ap size_of (sym honest) ∙ size_under store.keys scenario file generation v) x.depends spared)

  module _ (partial : IsPartial call) (gave : GaveVersion store.keys (store.taints file) v (is_asked v.size (position_by here.state session call) call)) where
    abbrev given : IsGivenAt store scenario before r
    given = record {
      session = session;
      number = number;
      call = call;
      reply = reply;
      mark = Unchanged;
      is = refl;
      name = x.name;
      of_call = x.of_call;
      tag = replay_tag file generation v;
      tagged = refl;
      entry = x.entry;
      named = x.named;
      file = x.file_is;
      generation = x.generation_is;
      version = v;
      gives = x.gives;
      position = position_by here.state session call;
      at = refl;
      gave = gave.gave;
      masked = gave.masked;
      real = x.real;
      mapped = x.mapped;
    }

    fine-legal : IsFine store scenario before r given x.real x.mapped partial → IsLegalAt store scenario before r
    fine-legal fine =
        not-made (spared-due here.state session v.size x.name call (Sound (held store scenario before r given x.real x.mapped partial fine)) x.of_call
        (held_there store scenario before r given x.real x.mapped partial fine) (held_long store scenario before r given x.real x.mapped partial fine) x.depends
        (fine-spared store scenario before r given x.real x.mapped partial fine))

    -- and fair, whatever the file is
    pub undrawn-fair : IsFairAt store scenario before r
    undrawn-fair answered owed = elim (fine_or_end store scenario before r given x.real x.mapped partial undone) [
      | inl fine ↦ inl (inl (fine-legal fine))
      | inr ends ↦ inr (inr ends)
    ]
