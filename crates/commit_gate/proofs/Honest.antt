-- What an honest file's object answers is the machine's, and legal.
use Rattle.std.proofs.Common.{◌≡◌, ◌+◌, ℕ, false, List, length, Some, refl, sym, ap, ◌∙◌}
use Rattle.std.specs.List.{list_any}
use Rattle.tee_types.specs.declared.call.Call.{Call}
use Rattle.tee_types.specs.declared.call.Call.TheVariants.{Info, Open, Read, Truncate, Write}
use Rattle.tee_types.specs.declared.flags.Flags.{Flags}
use Rattle.tee_types.specs.declared.reply.Reply.{Reply}
use Rattle.tee_types.specs.declared.reply.Reply.TheVariants.{Content, Corrupt, Handle as HandleReply, Info as InfoReply}
use Rattle.store_model.specs.declared.name.ObjectName.{ObjectName}
use Rattle.store_model.specs.declared.session.Handle.{Handle}
use Rattle.store_model.specs.Calls.{is_commit, is_commit_of, reply_of, size_before}
use Rattle.store_model.specs.Data.{meets_block, range_written, spoils}
use Rattle.store_model.specs.Files.{object_named}
use Rattle.store_model.specs.Machine.{MachineState, handle_at, name_in, session_at}
use Rattle.store_model.specs.Object.{Damaged, Object, Sound, object_at, size_of}
use Rattle.store_model.specs.Record.{fault_in_reply}
use Rattle.core_laws.specs.Given.{position_by, position_of}
use Rattle.core_laws.specs.Stores.{replay_at}
use Rattle.core_laws.proofs.Mending.{none_some, object_honest, size_under, some_same}
use Rattle.core_laws.proofs.ReadCalls.{info-damaged, info-good, open-damaged, open-good, read-bad, read-damaged, read-good}
use Rattle.commit_gate.specs.ReplyLaws.{Answers, DependsOnFile, HonestAnswersAreLegal, IsAdmittedOr}
use Rattle.commit_gate.proofs.Meant.{at-handle, corrupt_quiet, truncate-bad, truncate-damaged, write-bad, write-damaged}
use Rattle.commit_gate.proofs.FairAnswers.{answered_by, legal_by, object-there}

-- such a reply carries no fault
faultless : (o : Object) (position : ℕ) (call : Call) (reply : Reply) → Answers o position call reply → (n : ℕ) → fault_in_reply reply ≡ Some n → ⊥
faultless (Damaged size) position call Corrupt a n is = none_some n is
faultless (Sound c) position (Open id flags) (HandleReply number) a n is = none_some n is
faultless (Sound c) position (Read number count) (Content bytes) a n is = none_some n is
faultless (Sound c) position (Info number) (InfoReply size at flags attributes) a n is = none_some n is
faultless (Sound c) position call Corrupt a n is = none_some n is
faultless o position call reply a n is = absurd a

-- and commits nothing
quiet : (o : Object) (position : ℕ) (call : Call) (reply : Reply) (size : ℕ) → Answers o position call reply → is_commit_of call size reply ≡ false
quiet (Damaged n) position call Corrupt size a = corrupt_quiet call size
quiet (Sound c) position (Open id flags) (HandleReply number) size a = refl
quiet (Sound c) position (Read number count) (Content bytes) size a = refl
quiet (Sound c) position (Info number) (InfoReply long at flags attributes) size a = refl
quiet (Sound c) position call Corrupt size a = corrupt_quiet call size
quiet o position call reply size a = absurd a

module _ (s : MachineState) (i size : ℕ) (name : ObjectName) where
  position-is : (number count : ℕ) (handle : Handle) → handle_at (session_at s i) number ≡ Some handle → handle.position ≡ position_by s i (Read number count)
  position-is number count handle live = sym (ap position_of live)

  named-in : (id : List ℕ) (flags : Flags) (o : Object) → object_named s i (Open id flags) ≡ Some name → object_at s.objects name ≡ Some o → object_at s.objects (name_in s i id) ≡ Some o
  named-in id flags o by there = ap (object_at s.objects) (some_same (name_in s i id) name by) ∙ there

  -- the machine's reply over a damaged object
  damaged : (call : Call) (n : ℕ) → object_named s i call ≡ Some name → object_at s.objects name ≡ Some (Damaged n) → DependsOnFile s i size call → reply_of s i call ≡ Corrupt
  damaged (Read number count) n by there d =
      read-damaged s i number count d.0.handle d.0.live d.1 n (at-handle s i size name number d.0.handle (Damaged n) d.0.live by there)
  damaged (Info number) n by there d = info-damaged s i number d.handle d.live n (at-handle s i size name number d.handle (Damaged n) d.live by there)
  damaged (Open id flags) n by there d = open-damaged s i id flags (session_at s i).next_handle d n (named-in id flags (Damaged n) by there)
  damaged (Write number bytes) n by there d =
      write-damaged s i number d.0.handle d.0.live d.1 bytes d.2 n (at-handle s i size name number d.0.handle (Damaged n) d.0.live by there)
  damaged (Truncate number long) n by there d =
      truncate-damaged s i number d.0.handle d.0.live d.1 long n (at-handle s i size name number d.0.handle (Damaged n) d.0.live by there)
  damaged call n by there d = absurd d

  -- the machine's reply is this one
  honest_meant : (o : Object) (call : Call) (reply : Reply) → object_named s i call ≡ Some name → object_at s.objects name ≡ Some o → size_of o ≡ size → DependsOnFile s i size call
      → Answers o (position_by s i call) call reply → IsAdmittedOr s i size call reply → reply_of s i call ≡ reply
  honest_meant (Damaged n) call Corrupt by there sized d a admitted = damaged call n by there d
  honest_meant (Sound c) (Open id flags) (HandleReply number) by there sized d a admitted = open-good s i id flags number admitted c (named-in id flags (Sound c) by there)
  honest_meant (Sound c) (Read number count) (Content bytes) by there sized d a admitted =
      let place : d.0.handle.position ≡ position_by s i (Read number count) = position-is number count d.0.handle d.0.live in
      read-good s i number count d.0.handle d.0.live d.1 c (position_by s i (Read number count)) (at-handle s i size name number d.0.handle (Sound c) d.0.live by there) place
      (ap (λ (l : List ℕ). list_any (meets_block (position_by s i (Read number count)) (position_by s i (Read number count) + length l)) c.bad) (sym a.0) ∙ a.1)
      ∙ ap Content (sym a.0)
  honest_meant (Sound c) (Read number count) Corrupt by there sized d a admitted =
      let place : d.0.handle.position ≡ position_by s i (Read number count) = position-is number count d.0.handle d.0.live in
      read-bad s i number count d.0.handle d.0.live d.1 c (position_by s i (Read number count)) (at-handle s i size name number d.0.handle (Sound c) d.0.live by there) place a
  honest_meant (Sound c) (Info number) (InfoReply long at flags attributes) by there sized d a admitted =
      info-good s i number admitted.0.handle admitted.0.live c (at-handle s i size name number admitted.0.handle (Sound c) admitted.0.live by there)
      ∙ (λ k. InfoReply ((sized ∙ sym admitted.1.0) k) (sym admitted.1.1 k) (sym admitted.1.2 k) (sym a k))
  honest_meant (Sound c) (Write number bytes) Corrupt by there sized d a admitted =
      write-bad s i number d.0.handle d.0.live d.1 bytes d.2 c (at-handle s i size name number d.0.handle (Sound c) d.0.live by there) d.3 d.4
      (ap (λ (p : ℕ). spoils c (range_written c p (length bytes))) (sym (ap position_of d.0.live)) ∙ a)
  honest_meant (Sound c) (Truncate number long) Corrupt by there sized d a admitted =
      truncate-bad s i number d.0.handle d.0.live d.1 long c (at-handle s i size name number d.0.handle (Sound c) d.0.live by there) d.3 a
  honest_meant o call reply by there sized d a admitted = absurd a

pub honest_answers : HonestAnswersAreLegal
honest_answers store scenario before session number call reply file generation version x off a admitted =
    let s = (replay_at store scenario before).state in
    let honest = object_honest store.keys scenario file generation version x.real off in
    let meant : reply_of s session call ≡ reply =
    honest_meant s session version.size x.name version.object call reply x.of_call (object-there store scenario before session call file generation version x ∙ ap Some honest)
    (ap size_of (sym honest) ∙ size_under store.keys scenario file generation version) x.depends a admitted in
    legal_by store scenario before session call file generation version x number reply (λ n is. absurd (faultless version.object (position_by s session call) call reply a n is))
    (answered_by store scenario before session call file generation version x reply (sym meant)
    (ap (is_commit s session call) meant ∙ quiet version.object (position_by s session call) call reply (size_before s session call) a))
