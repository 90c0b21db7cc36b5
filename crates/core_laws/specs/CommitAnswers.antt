-- A commit that changes the gate's entries as its call does is legal under a tamper scenario, and keeps the map of objects in step.
use Rattle.std.specs.Prelude.{◌≡◌, ◌+◌, ◌<◌, ◌^◌, ℕ, List, Option, None, length, Some}
use Rattle.history_seats.specs.Changes.{call_record}
use Rattle.tee_types.specs.declared.call.Call.{Call}
use Rattle.tee_types.specs.declared.reply.Cause.{Cause}
use Rattle.tee_types.specs.declared.reply.Reply.{Reply}
use Rattle.tee_types.specs.declared.reply.Reply.TheVariants.{NotAvailable}
use Rattle.store_model.specs.declared.event.Mark.TheVariants.{Made, Doubtful}
use Rattle.store_model.specs.Legal.{meant_by}
use Rattle.store_model.specs.Record.{Tag, file_at_fault}
use Rattle.dir_records.specs.declared.entry.DirEntry.{DirEntry}
use Rattle.history_seats.specs.Records.{Version}
use Rattle.history_seats.specs.Directory.{given_version}
use Rattle.history_seats.specs.Views.{GateView}
use Rattle.crash_core.specs.declared.change.EntryChange.{EntryChange}
use Rattle.crash_core.specs.declared.change.DoubtedChange.{DoubtedChange}
use Rattle.core_laws.specs.TamperScenarios.{TamperScenario}
use Rattle.core_laws.specs.Stores.{Store, replay_at}
use Rattle.core_laws.specs.Answered.{IsLegalAt}
use Rattle.core_laws.specs.Ties.{IsTied}
use Rattle.core_laws.specs.CommitMaps.{IsCommitUnder}

-- Made with the machine's reply, or in doubt with a cause that accuses no object's file.
pub record AreCommitsLegal (store : Store) (scenario : TamperScenario) (view : GateView) (entries : List (Option DirEntry)) (counter session number : ℕ) (call : Call) (change : EntryChange) (tag : Tag Version) : Type 0 where
  pub made : IsCommitUnder store scenario view entries counter session call change tag tag.committed → tag.doubted ≡ None
      → (reply : Reply) → reply ≡ meant_by (replay_at store scenario view.all) session call
      → IsLegalAt store scenario view.all (call_record session number call reply (Made (counter + 1)) (Some tag))
  pub doubtful : IsCommitUnder store scenario view entries counter session call change tag tag.doubted
      → tag.committed ≡ given_version store.mounted view.all tag.file tag.generation → (cause : Cause) → file_at_fault cause ≡ None
      → IsLegalAt store scenario view.all (call_record session number call (NotAvailable cause) (Doubtful (counter + 1)) (Some tag))

abbrev pub CommitsAreLegal : Type 0
CommitsAreLegal =
    (store : Store) (scenario : TamperScenario) (view : GateView) (entries : List (Option DirEntry)) (counter : ℕ) (doubt : Option DoubtedChange) → IsTied store view entries counter doubt
    → (session number : ℕ) (call : Call) (change : EntryChange) (tag : Tag Version) → session < length store.mounted.applications → counter + 1 < 2 ^ 32
    → AreCommitsLegal store scenario view entries counter session number call change tag
