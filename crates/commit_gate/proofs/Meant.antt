-- What the machine answers to a call that depends on its object's file.
use Rattle.std.proofs.Common.{◌≡◌, ◌+◌, ◌==◌, ℕ, Bool, true, false, nat_lt, List, length, Option, Some, option_map, refl, sym, ap, ◌∙◌, subst}
use Rattle.tee_types.specs.declared.call.Call.{Call}
use Rattle.tee_types.specs.declared.call.Call.TheVariants.{Create, Delete, Info, Open, Read, Rename, Truncate, Write}
use Rattle.tee_types.specs.declared.reply.Reply.{Reply}
use Rattle.tee_types.specs.declared.reply.Reply.TheVariants.{Corrupt}
use Rattle.tee_types.specs.Limits.{most_data_bytes}
use Rattle.tee_types.specs.Rights.{has, read_bit, write_bit}
use Rattle.store_model.specs.declared.name.ObjectName.{ObjectName}
use Rattle.store_model.specs.declared.session.Handle.{Handle}
use Rattle.store_model.specs.Calls.{is_commit, is_commit_of, reply_of}
use Rattle.store_model.specs.Data.{greatest_position, range_resized, range_written, spoils, truncate_from, truncate_of, write_from, write_of}
use Rattle.store_model.specs.Files.{makes_object, name_by, object_named}
use Rattle.store_model.specs.Legal.{tells_object, touches_file}
use Rattle.store_model.specs.Machine.{MachineState, Outcome, handle_at, of_sound, session_at}
use Rattle.store_model.specs.Object.{Contents, Damaged, Object, Sound, object_at, size_of}
use Rattle.core_laws.proofs.ChangeCalls.{truncate_commits, write_commits}
use Rattle.core_laws.proofs.Mending.{some_same}
use Rattle.core_laws.proofs.ReadCalls.{info-damaged, info-good, meets_bad, open-damaged, open-good, read-bad, read-damaged, read-good}
use Rattle.commit_gate.specs.ReplyLaws.{DependsOnFile}

-- The machine finds damage, or tells of the object, or makes a commit.
pub data MeantCase (s : MachineState) (i : ℕ) (call : Call) : Type 0 where
  MeansCorrupt : reply_of s i call ≡ Corrupt → MeantCase s i call
  MeansObject : tells_object (reply_of s i call) ≡ true → MeantCase s i call
  MeansCommit : is_commit s i call (reply_of s i call) ≡ true → MeantCase s i call

-- a call that is answered with Corrupt is no commit
pub corrupt_quiet : (call : Call) (size : ℕ) → is_commit_of call size Corrupt ≡ false
corrupt_quiet (Create id flags attributes bytes) size = refl
corrupt_quiet (Write handle bytes) size = refl
corrupt_quiet (Truncate handle new) size = refl
corrupt_quiet (Rename handle id) size = refl
corrupt_quiet (Delete handle) size = refl
corrupt_quiet call size = refl

pub makes_none : (s : MachineState) (i size : ℕ) (call : Call) (reply : Reply) → DependsOnFile s i size call → makes_object call reply ≡ false
makes_none s i size (Open id flags) reply depends = refl
makes_none s i size (Read number count) reply depends = refl
makes_none s i size (Info number) reply depends = refl
makes_none s i size (Write number bytes) reply depends = refl
makes_none s i size (Truncate number long) reply depends = refl
makes_none s i size call reply depends = absurd depends

pub touches : (s : MachineState) (i size : ℕ) (call : Call) → DependsOnFile s i size call → touches_file call ≡ true
touches s i size (Open id flags) depends = refl
touches s i size (Read number count) depends = refl
touches s i size (Info number) depends = refl
touches s i size (Write number bytes) depends = refl
touches s i size (Truncate number long) depends = refl
touches s i size call depends = absurd depends

-- A write and a truncate that the machine finds corrupt.
module _ (s : MachineState) (i number : ℕ) (handle : Handle) (live : handle_at (session_at s i) number ≡ Some handle) (right : has handle.flags write_bit ≡ true) where
  module _ (bytes : List ℕ) (some : (length bytes == 0) ≡ false) where
    write_of-handle : write_of s i number bytes ≡ of_sound s (object_at s.objects handle.name) (write_from s i number bytes handle)
    unfolding write_of
    write_of-handle = rw (live, right, some) refl

    write-reply : (o : Object) → object_at s.objects handle.name ≡ Some o → reply_of s i (Write number bytes) ≡ (of_sound s (Some o) (write_from s i number bytes handle)).reply
    write-reply o there = ap (λ (x : Outcome). x.reply) write_of-handle ∙ ap (λ (x : Option Object). (of_sound s x (write_from s i number bytes handle)).reply) there

    pub write-damaged : (size : ℕ) → object_at s.objects handle.name ≡ Some (Damaged size) → reply_of s i (Write number bytes) ≡ Corrupt
    write-damaged size there = write-reply (Damaged size) there

    write_from-bad : (c : Contents) → nat_lt greatest_position (handle.position + length bytes) ≡ false → nat_lt most_data_bytes (handle.position + length bytes) ≡ false
        → spoils c (range_written c handle.position (length bytes)) ≡ true → (write_from s i number bytes handle c).reply ≡ Corrupt
    write_from-bad c low fits bad = rw (low, fits, bad) refl

    pub write-bad : (c : Contents) → object_at s.objects handle.name ≡ Some (Sound c) → nat_lt greatest_position (handle.position + length bytes) ≡ false
        → nat_lt most_data_bytes (handle.position + length bytes) ≡ false → spoils c (range_written c handle.position (length bytes)) ≡ true
        → reply_of s i (Write number bytes) ≡ Corrupt
    write-bad c there low fits bad = write-reply (Sound c) there ∙ write_from-bad c low fits bad

  module _ (long : ℕ) where
    truncate_of-handle : truncate_of s i number long ≡ of_sound s (object_at s.objects handle.name) (truncate_from s long handle)
    unfolding truncate_of
    truncate_of-handle = rw (live, right) refl

    truncate-reply : (o : Object) → object_at s.objects handle.name ≡ Some o → reply_of s i (Truncate number long) ≡ (of_sound s (Some o) (truncate_from s long handle)).reply
    truncate-reply o there = ap (λ (x : Outcome). x.reply) truncate_of-handle ∙ ap (λ (x : Option Object). (of_sound s x (truncate_from s long handle)).reply) there

    pub truncate-damaged : (size : ℕ) → object_at s.objects handle.name ≡ Some (Damaged size) → reply_of s i (Truncate number long) ≡ Corrupt
    truncate-damaged size there = truncate-reply (Damaged size) there

    truncate_from-bad : (c : Contents) → nat_lt most_data_bytes long ≡ false → spoils c (range_resized c long) ≡ true → (truncate_from s long handle c).reply ≡ Corrupt
    truncate_from-bad c fits bad = rw (fits, bad) refl

    pub truncate-bad : (c : Contents) → object_at s.objects handle.name ≡ Some (Sound c) → nat_lt most_data_bytes long ≡ false → spoils c (range_resized c long) ≡ true
        → reply_of s i (Truncate number long) ≡ Corrupt
    truncate-bad c there fits bad = truncate-reply (Sound c) there ∙ truncate_from-bad c fits bad

module _ (s : MachineState) (i size : ℕ) (name : ObjectName) where
  handle-named : (number : ℕ) (handle : Handle) → handle_at (session_at s i) number ≡ Some handle → name_by s i number ≡ Some name → handle.name ≡ name
  handle-named number handle live by = some_same handle.name name (sym (ap (option_map (λ (h : Handle). h.name)) live) ∙ by)

  -- the object of a live handle
  pub at-handle : (number : ℕ) (handle : Handle) (o : Object) → handle_at (session_at s i) number ≡ Some handle → name_by s i number ≡ Some name → object_at s.objects name ≡ Some o
      → object_at s.objects handle.name ≡ Some o
  at-handle number handle o live by there = ap (object_at s.objects) (handle-named number handle live by) ∙ there

  read-case : (number count : ℕ) (handle : Handle) (live : handle_at (session_at s i) number ≡ Some handle) (right : has handle.flags read_bit ≡ true) (o : Object)
      → object_at s.objects handle.name ≡ Some o → MeantCase s i (Read number count)
  read-case number count handle live right (Damaged n) there = MeansCorrupt (read-damaged s i number count handle live right n there)
  read-case number count handle live right (Sound c) there = by_test (meets_bad s i number count handle live right c handle.position) refl
    where
      by_test : (b : Bool) → meets_bad s i number count handle live right c handle.position ≡ b → MeantCase s i (Read number count)
      by_test true bad = MeansCorrupt (read-bad s i number count handle live right c handle.position there refl bad)
      by_test false good = MeansObject (ap tells_object (read-good s i number count handle live right c handle.position there refl good))

  write-case : (number : ℕ) (bytes : List ℕ) (handle : Handle) (live : handle_at (session_at s i) number ≡ Some handle) (right : has handle.flags write_bit ≡ true)
      (some : (length bytes == 0) ≡ false) (low : nat_lt greatest_position (handle.position + length bytes) ≡ false) (fits : nat_lt most_data_bytes (handle.position + length bytes) ≡ false)
      (o : Object) → object_at s.objects handle.name ≡ Some o → MeantCase s i (Write number bytes)
  write-case number bytes handle live right some low fits (Damaged n) there = MeansCorrupt (write-damaged s i number handle live right bytes some n there)
  write-case number bytes handle live right some low fits (Sound c) there = by_test (spoils c (range_written c handle.position (length bytes))) refl
    where
      by_test : (b : Bool) → spoils c (range_written c handle.position (length bytes)) ≡ b → MeantCase s i (Write number bytes)
      by_test true bad = MeansCorrupt (write-bad s i number handle live right bytes some c there low fits bad)
      by_test false good = MeansCommit (write_commits s i number handle live right c there bytes some low fits good)

  truncate-case : (number long : ℕ) (handle : Handle) (live : handle_at (session_at s i) number ≡ Some handle) (right : has handle.flags write_bit ≡ true)
      (other : (long == size) ≡ false) (fits : nat_lt most_data_bytes long ≡ false) (o : Object) → object_at s.objects handle.name ≡ Some o → size_of o ≡ size
      → MeantCase s i (Truncate number long)
  truncate-case number long handle live right other fits (Damaged n) there sized = MeansCorrupt (truncate-damaged s i number handle live right long n there)
  truncate-case number long handle live right other fits (Sound c) there sized = by_test (spoils c (range_resized c long)) refl
    where
      by_test : (b : Bool) → spoils c (range_resized c long) ≡ b → MeantCase s i (Truncate number long)
      by_test true bad = MeansCorrupt (truncate-bad s i number handle live right long c there fits bad)
      by_test false good = MeansCommit (truncate_commits s i number handle live right c there long (ap (λ (n : ℕ). long == n) sized ∙ other) fits good)

  pub meant_case : (call : Call) (o : Object) → object_named s i call ≡ Some name → object_at s.objects name ≡ Some o → size_of o ≡ size → DependsOnFile s i size call → MeantCase s i call
  meant_case (Read number count) o by there sized depends =
      read-case number count depends.0.handle depends.0.live depends.1 o (at-handle number depends.0.handle o depends.0.live by there)
  meant_case (Info number) (Damaged n) by there sized depends =
      MeansCorrupt (info-damaged s i number depends.handle depends.live n (at-handle number depends.handle (Damaged n) depends.live by there))
  meant_case (Info number) (Sound c) by there sized depends =
      MeansObject (ap tells_object (info-good s i number depends.handle depends.live c (at-handle number depends.handle (Sound c) depends.live by there)))
  meant_case (Open id flags) (Damaged n) by there sized depends =
      MeansCorrupt (open-damaged s i id flags (session_at s i).next_handle depends n (subst (λ (m : ObjectName). object_at s.objects m ≡ Some (Damaged n)) (sym (some_same _ name by)) there))
  meant_case (Open id flags) (Sound c) by there sized depends =
      MeansObject (ap tells_object (open-good s i id flags (session_at s i).next_handle depends c (subst (λ (m : ObjectName). object_at s.objects m ≡ Some (Sound c)) (sym (some_same _ name by)) there)))
  meant_case (Write number bytes) o by there sized depends =
      write-case number bytes depends.0.handle depends.0.live depends.1 depends.2 depends.3 depends.4 o (at-handle number depends.0.handle o depends.0.live by there)
  meant_case (Truncate number long) o by there sized depends =
      truncate-case number long depends.0.handle depends.0.live depends.1 depends.2 depends.3 o (at-handle number depends.0.handle o depends.0.live by there) sized
  meant_case call o by there sized depends = absurd depends
