-- A call on the object of one of the gate's entries is one on the entry's file.
use Rattle.std.proofs.Common.{◌≡◌, ◌<◌, ◌^◌, ℕ, refl, sym, ◌∙◌, subst}
use Rattle.core_laws.specs.GateParts.{IsVersionOf}
use Rattle.core_laws.specs.Listed.{history_entry}
use Rattle.crash_core.specs.Entries.{name_of}
use Rattle.core_laws.specs.Stores.{replay_at}
use Rattle.core_laws.proofs.Mending.{some_same}
use Rattle.core_laws.proofs.Told.{tied_tell}
use Rattle.commit_gate.specs.EntryCalls.{EntryCallsAreOnFiles}
use Rattle.commit_gate.specs.ReplyLaws.{DependsOnFile}

pub entry_calls : (F R : Type 0) → EntryCallsAreOnFiles F R
entry_calls F R store gate knows closing guarded are low session index call e v declared at gives scenario answered by depends =
    let mapped = (guarded.journal.in_step scenario answered).now in
    let fact = (tied_tell store scenario knows gate.dir.dir.entries gate.counter gate.doubt guarded.tied are answered mapped).facts.each index e at in
    let same : fact.version ≡ v = some_same fact.version v (sym fact.gives ∙ gives) in
    let own : IsVersionOf e v = subst (IsVersionOf e) same fact.own in
    record {
      declared = declared;
      counted = subst (λ (n : ℕ). n < 2 ^ 32) (sym (guarded.tied.counter scenario answered)) low;
      mapped = mapped;
      name = name_of e;
      of_call = by;
      entry = history_entry e;
      named = fact.named;
      file_is = refl;
      generation_is = refl;
      gives = gives;
      real = guarded.tied.real index e v at gives;
      depends = subst (λ (n : ℕ). DependsOnFile (replay_at store scenario knows.all).state session n call) (sym own.size) depends;
    }
