-- Answers that an object's file has a part in are legal, or show a clash, or the promises end there.
use Rattle.std.proofs.Common.{◌≡◌, ◌||◌, ◌<◌, ◌^◌, ℕ, true, false, Bool, true≢false, List, Some, Contains, refl, sym, ap, ◌∙◌, subst, inl, arith}
use Rattle.tee_types.specs.declared.call.Call.{Call}
use Rattle.tee_types.specs.declared.reply.Cause.TheVariants.{Fault}
use Rattle.tee_types.specs.declared.reply.Device.TheVariants.{File}
use Rattle.tee_types.specs.declared.reply.Reply.{Reply}
use Rattle.tee_types.specs.declared.reply.Reply.TheVariants.{Corrupt, NotAvailable}
use Rattle.store_model.specs.declared.event.Mark.TheVariants.{Unchanged}
use Rattle.store_model.specs.Calls.{is_commit, size_before}
use Rattle.store_model.specs.Files.{is_corrupt}
use Rattle.store_model.specs.Legal.{Answered, FoundCorrupt, IsLegalAnswer, IsTagged, NotMade, Unavailable, Unread, counter_after, is_commit_due, mark_of, meant_by, tells_object}
use Rattle.store_model.specs.Object.{object_at}
use Rattle.store_model.specs.Record.{fault_in_reply}
use Rattle.store_model.specs.ReplayState.{ReplayState}
use Rattle.history_seats.specs.Directory.{given_version}
use Rattle.history_seats.specs.Records.{HistoryRecord, Version}
use Rattle.history_seats.proofs.Lists.{or_right}
use Rattle.core_laws.specs.Answered.{IsLegalAt}
use Rattle.core_laws.specs.Given.{position_by}
use Rattle.core_laws.specs.TamperScenarios.{TamperScenario, object_under}
use Rattle.core_laws.specs.Shown.{IsToldAt}
use Rattle.core_laws.specs.Stores.{Store, replay_at}
use Rattle.core_laws.proofs.CallSessions.{entries_tag}
use Rattle.core_laws.proofs.InStep.{entry_object}
use Rattle.core_laws.proofs.Mending.{none_some, size_under, some_same}
use Rattle.core_laws.proofs.SessionSteps.{sessions_at}
use Rattle.core_laws.proofs.ToldReplies.{told_replies}
use Rattle.commit_gate.specs.ReplyLaws.{FailedFilesAreLegal, IsOnFile, IsToldBy, RefusedFilesAreFair, ToldFilesAreFair, replay_tag, told_record}
use Rattle.commit_gate.proofs.Meant.{MeansCommit, MeansCorrupt, MeansObject, MeantCase, corrupt_quiet, makes_none, meant_case, touches}

module _ (store : Store) (scenario : TamperScenario) (before : List HistoryRecord) (session : ℕ) (call : Call) (file generation : ℕ) (version : Version)
    (x : IsOnFile store scenario before session call file generation version) where
  abbrev here : ReplayState
  here = replay_at store scenario before

  pub object-there : object_at here.state.objects x.name ≡ Some (object_under store.keys scenario file generation version)
  object-there =
      entry_object store scenario before x.name x.entry version x.mapped x.named ((λ i. given_version store.mounted before (x.file_is i) (x.generation_is i)) ∙ x.gives)
      ∙ (λ i. Some (object_under store.keys scenario (x.file_is i) (x.generation_is i) version))

  meant : MeantCase here.state session call
  meant = meant_case here.state session version.size x.name call (object_under store.keys scenario file generation version) x.of_call object-there (size_under store.keys scenario file generation version) x.depends

  tagged : (reply : Reply) → ((n : ℕ) → fault_in_reply reply ≡ Some n → n ≡ file) → IsTagged here session call reply Unchanged (Some file)
  tagged reply fault =
      subst (λ (f : ℕ). IsTagged here session call reply Unchanged (Some f)) x.file_is
      (entries_tag store scenario before session call reply Unchanged x.name x.entry x.mapped x.of_call x.named
      (makes_none here.state session version.size call (meant_by here session call) x.depends) (λ n is. fault n is ∙ sym x.file_is))

  pub legal_by : (number : ℕ) (reply : Reply) → ((n : ℕ) → fault_in_reply reply ≡ Some n → n ≡ file) → IsLegalAnswer scenario.tampered here session call reply Unchanged (Some file)
      → IsLegalAt store scenario before (told_record session number call reply file generation version)
  legal_by number reply fault answer = record {
    legal = record { declared = omega (arith, x.declared, sessions_at store scenario before); tagged = tagged reply fault; answer = answer };
    kept = λ is _. absurd (true≢false (sym is));
  }

  -- the machine's own reply
  pub answered_by : (reply : Reply) → reply ≡ meant_by here session call → is_commit_due here session call ≡ false → IsLegalAnswer scenario.tampered here session call reply Unchanged (Some file)
  answered_by reply replied quiet = Answered (record {
    replied = replied;
    marked = ap (mark_of here.counter) (sym quiet);
    counted = subst (λ (b : Bool). counter_after here.counter b < 2 ^ 32) (sym quiet) x.counted;
  })

  -- where the machine finds damage
  pub corrupt_by : meant_by here session call ≡ Corrupt → IsLegalAnswer scenario.tampered here session call Corrupt Unchanged (Some file)
  corrupt_by e = answered_by Corrupt (sym e) (ap (is_commit here.state session call) e ∙ corrupt_quiet call (size_before here.state session call))

  module _ (count : ℕ) where
    unread : (tells_object (meant_by here session call) || is_corrupt (meant_by here session call)) ≡ true
        → IsLegalAnswer scenario.tampered here session call (NotAvailable (Fault (File file) count)) Unchanged (Some file)
    unread tells = Unavailable (record {
      cause = Fault (File file) count;
      replied = refl;
      marked = refl;
      due = Unread (record { touches = touches here.state session version.size call x.depends; tells = tells; number = file; count = count; named = refl; failed = refl });
    })

    failed : MeantCase here.state session call → IsLegalAnswer scenario.tampered here session call (NotAvailable (Fault (File file) count)) Unchanged (Some file)
    failed (MeansCorrupt e) = unread (ap (λ (m : Reply). tells_object m || is_corrupt m) e)
    failed (MeansObject e) = unread (ap (λ (b : Bool). b || is_corrupt (meant_by here session call)) e)
    failed (MeansCommit e) = Unavailable (record { cause = Fault (File file) count; replied = refl; marked = refl; due = NotMade e })

    pub failed_legal : (number : ℕ) → IsLegalAt store scenario before (told_record session number call (NotAvailable (Fault (File file) count)) file generation version)
    failed_legal number = legal_by number (NotAvailable (Fault (File file) count)) (λ n is. sym (some_same file n is)) (failed meant)

  found : Contains scenario.tampered file → (is_commit_due here session call || tells_object (meant_by here session call)) ≡ true → IsLegalAnswer scenario.tampered here session call Corrupt Unchanged (Some file)
  found off due = FoundCorrupt (record {
    replied = refl;
    marked = refl;
    touches = touches here.state session version.size call x.depends;
    due = due;
    number = file;
    named = refl;
    not_honest = off;
  })

  refused : Contains scenario.tampered file → MeantCase here.state session call → IsLegalAnswer scenario.tampered here session call Corrupt Unchanged (Some file)
  refused off (MeansCorrupt e) = corrupt_by e
  refused off (MeansObject e) = found off (or_right (is_commit_due here session call) (tells_object (meant_by here session call)) e)
  refused off (MeansCommit e) = found off (ap (λ (b : Bool). b || tells_object (meant_by here session call)) e)

  pub refused_legal : (number : ℕ) → Contains scenario.tampered file → IsLegalAt store scenario before (told_record session number call Corrupt file generation version)
  refused_legal number off = legal_by number Corrupt (λ n is. absurd (none_some n is)) (refused off meant)

  module _ (number : ℕ) (reply : Reply) (y : IsToldBy store (store.taints file) version (position_by here.state session call) call reply) where
    pub is_told : IsToldAt store scenario before (told_record session number call reply file generation version)
    is_told = record {
      given = record {
        session = session;
        number = number;
        call = call;
        reply = reply;
        mark = Unchanged;
        is = refl;
        name = x.name;
        of_call = x.of_call;
        tag = replay_tag file generation version;
        tagged = refl;
        entry = x.entry;
        named = x.named;
        file = x.file_is;
        generation = x.generation_is;
        version = version;
        gives = x.gives;
        position = position_by here.state session call;
        at = refl;
        gave = y.gave;
        real = x.real;
        mapped = x.mapped;
        masked = y.masked;
      };
      unchanged = refl;
      tells = y.tells;
    }

pub failed_files : FailedFilesAreLegal
failed_files store scenario before session number call file generation count version x = failed_legal store scenario before session call file generation version x count number

pub refused_files : RefusedFilesAreFair
refused_files store scenario before session number call file generation version x answered owed =
    inl (inl (refused_legal store scenario before session call file generation version x number (owed file refl)))

pub told_files : ToldFilesAreFair
unfolding is_told
told_files store scenario before session number call reply file generation version x y admitted answered owed =
    told_replies store scenario before (told_record session number call reply file generation version) (is_told store scenario before session call file generation version x number reply y)
    x.real x.mapped x.declared x.counted admitted
