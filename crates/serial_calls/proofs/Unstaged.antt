-- Why a change was not staged, in terms of the object's version.
use Rattle.std.proofs.Common.{Err, IsTrue, List, Option, Some, false, length, max, min, subst, sym, true, ℕ, ◌+◌, ◌==◌, ◌||◌, ◌∙◌, ◌≡◌}
use Rattle.std.specs.List.{list_any}
use Rattle.serial_calls.specs.ChangeReplies.{IsFailure, reply_of_stage}
use Rattle.disk_model.specs.State.{FileState}
use Rattle.history_seats.specs.Records.{Version}
use Rattle.hmac_keys.specs.declared.Keys.{Keys}
use Rattle.call_steps.specs.ReplyLaws.{Answers}
use Rattle.call_steps.specs.SlotObjects.{IsObjectOf, IsOfVersion}
use Rattle.call_steps.specs.GuardedStages.{StagesVersion, VersionChange, resize_of, write_of}
use Rattle.call_steps.specs.FileAnswers.{Fails, IsFileAnswer, Refuses, Undrawn}
use Rattle.call_steps.specs.ObjectLoading.{HoldsVersion}
use Rattle.call_steps.specs.Undrawn.{IsSpared}
use Rattle.call_steps.specs.Held.{held_in, pages_in}
use Rattle.call_steps.specs.Value.{size_in}
use Rattle.call_steps.specs.SlotValues.{Holding, IsLive, SlotValue, free, live, made, staged}
use Rattle.call_steps.specs.declared.SlotFault.TheVariants.{Corrupt as IsCorrupt, Failed, NoEntropy, NoMemory}
use Rattle.call_steps.specs.declared.SlotFault.{SlotFault}
use Rattle.page_bytes.proofs.Content.{length-bytes_from}
use Rattle.page_bytes.specs.Pages.{page_at}
use Rattle.page_bytes.specs.Ranges.{needs}
use Rattle.store_model.specs.Data.{needs_block}
use Rattle.store_model.specs.Object.{Contents, Object, Sound}
use Rattle.core_laws.proofs.Mending.{none_some, some_same}
use Rattle.core_laws.specs.Given.{is_asked}
use Rattle.core_laws.specs.Masked.{GaveVersion, told_taints}
use Rattle.disk_model.specs.Arms.{Taint}
use Rattle.core_laws.specs.Shown.{IsPartial}
use Rattle.core_laws.specs.Stores.{Store}
use Rattle.tee_types.specs.declared.call.Call.TheVariants.{Truncate, Write}
use Rattle.tee_types.specs.declared.call.Call.{Call}
use Rattle.tee_types.specs.declared.reply.Cause.TheVariants.{Fault}
use Rattle.tee_types.specs.declared.reply.Device.TheVariants.{Entropy, File}
use Rattle.tee_types.specs.declared.reply.Reply.TheVariants.{Corrupt, NotAvailable}
use Rattle.tee_types.specs.declared.reply.Reply.{Reply}

-- the version's object is sound, with as many bytes as the version tells
pub record IsSoundVersion (v : Version) : Type 0 where
  pub contents : Contents
  pub object : v.object ≡ Sound contents
  pub size : length contents.bytes ≡ v.size

-- so where an honest file's object is loaded
sound_held : (keys : Keys) (file : FileState) (v : Version) (holds : Holding) → IsLive holds → IsOfVersion keys file holds (Some v) → IsTrue file.honest → IsSoundVersion v
sound_held keys file v free on own honest = absurd on
sound_held keys file v (made o) on own honest = absurd on
sound_held keys file v (staged o s) on own honest = absurd on
sound_held keys file v (live o) on own honest =
    let of : IsObjectOf keys file o v = subst (IsObjectOf keys file o) (sym (some_same v own.0 own.1)) own.2 in
    record {
      contents = held_in o file.reads;
      object = of.object honest;
      size = length-bytes_from (page_at (pages_in o.tree file.reads)) 4096 (size_in o) ∙ sym of.size;
    }

-- The slot held the version's object, and a change of it was not staged.
module _ (store : Store) (old new : SlotValue) (v : Version) (holds : HoldsVersion store.keys old v) (was : IsTrue new.file.honest → IsTrue old.file.honest) where
  pub sound : IsTrue new.file.honest → IsSoundVersion v
  sound honest = sound_held store.keys old.file v old.holds holds.live holds.own (was honest)

  -- where a block that it needs is bad, a call is answered Corrupt; where none is and a draw failed, it is spared
  pub record IsChangeBy (change : VersionChange) (at : ℕ) (call : Call) : Type 0 where
    pub partial : IsPartial call
    pub asks : (keys : Keys) (told : Option (List Taint)) → GaveVersion keys told v (λ k. (k == 0) || needs change.range k) → GaveVersion keys told v (is_asked v.size at call)
    pub corrupt : (is : IsSoundVersion v) → list_any change.asked is.contents.bad ≡ true → Answers v.object at call Corrupt
    pub spared : (is : IsSoundVersion v) → list_any change.asked is.contents.bad ≡ false → IsSpared v.object at call

  pub write_by : (at number : ℕ) (bytes : List ℕ) → IsChangeBy (write_of v.size at bytes) at (Write number bytes)
  write_by at number bytes = record {
    partial = tt;
    asks = λ keys told gave. gave;
    corrupt = λ is bad.
        subst (λ (o : Object). Answers o at (Write number bytes) Corrupt) (sym is.object)
        ((λ i. list_any (needs_block (is.size i) (min at (is.size i)) (at + length bytes)) is.contents.bad) ∙ bad);
    spared = λ is good.
        subst (λ (o : Object). IsSpared o at (Write number bytes)) (sym is.object)
        ((λ i. list_any (needs_block (is.size i) (min at (is.size i)) (at + length bytes)) is.contents.bad) ∙ good);
  }

  pub truncate_by : (number to : ℕ) → IsChangeBy (resize_of v.size to) 0 (Truncate number to)
  truncate_by number to = record {
    partial = tt;
    asks = λ keys told gave. gave;
    corrupt = λ is bad.
        subst (λ (o : Object). Answers o 0 (Truncate number to) Corrupt) (sym is.object)
        ((λ i. list_any (needs_block (is.size i) (min to (is.size i)) (max to (is.size i))) is.contents.bad) ∙ bad);
    spared = λ is good.
        subst (λ (o : Object). IsSpared o 0 (Truncate number to)) (sym is.object)
        ((λ i. list_any (needs_block (is.size i) (min to (is.size i)) (max to (is.size i))) is.contents.bad) ∙ good);
  }

  -- the reply is what the file gave, or why nothing came of it
  module _ (change : VersionChange) (at : ℕ) (call : Call) (by : IsChangeBy change at call) where
    pub unstaged_answers : (fault : SlotFault) (reply : Reply) → Some reply ≡ reply_of_stage new.number fault → StagesVersion store new v change (Err fault)
        → IsFileAnswer store new.file new.number v at call reply
    unstaged_answers IsCorrupt reply is stages =
        let same : reply ≡ Corrupt = some_same reply Corrupt is in
        Refuses same (λ honest.
        let o = sound honest in
        subst (Answers v.object at call) (sym same) (by.corrupt o (stages.corrupt honest o.contents o.object)))
    unstaged_answers (Failed count) reply is stages = Fails count (some_same reply (NotAvailable (Fault (File new.number) count)) is)
    unstaged_answers (NoEntropy count) reply is stages =
        Undrawn count (some_same reply (NotAvailable (Fault Entropy count)) is) (record {
          changes = by.partial;
          gave = by.asks store.keys (told_taints new.file) stages.undrawn;
          spared = λ honest. let o = sound honest in by.spared o (stages.corrupt honest o.contents o.object);
        })
    unstaged_answers NoMemory reply is stages = absurd (none_some reply (sym is))

-- such a reply is a failure
pub unstaged_failure : (file : ℕ) (fault : SlotFault) (reply : Reply) → Some reply ≡ reply_of_stage file fault → IsFailure reply
unstaged_failure file IsCorrupt reply is = subst IsFailure (sym (some_same reply Corrupt is)) tt
unstaged_failure file (Failed count) reply is = subst IsFailure (sym (some_same reply (NotAvailable (Fault (File file) count)) is)) tt
unstaged_failure file (NoEntropy count) reply is = subst IsFailure (sym (some_same reply (NotAvailable (Fault Entropy count)) is)) tt
unstaged_failure file NoMemory reply is = absurd (none_some reply (sym is))
