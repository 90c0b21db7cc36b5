-- Events that change no entry: a commit that is not made, a call while a doubt is not resolved, and the landing of the gate's doubt.
use Rattle.std.specs.Prelude.{◌≡◌, ◌<◌, ℕ, true, false, List, Option, Some, None, length, option_map}
use Rattle.tee_types.specs.declared.call.Call.{Call}
use Rattle.tee_types.specs.declared.reply.Cause.{Cause}
use Rattle.tee_types.specs.declared.reply.Reply.{Reply}
use Rattle.tee_types.specs.declared.reply.Reply.TheVariants.{CounterSpent, NotAvailable}
use Rattle.store_model.specs.declared.event.Mark.TheVariants.{Unchanged}
use Rattle.store_model.specs.Doubt.{Doubt}
use Rattle.store_model.specs.Files.{is_misuse}
use Rattle.store_model.specs.Legal.{IsTagged, is_commit_due, meant_by}
use Rattle.store_model.specs.Record.{Tag}
use Rattle.store_model.specs.ReplayState.{is_of_card}
use Rattle.dir_records.specs.declared.entry.DirEntry.{DirEntry}
use Rattle.history_seats.specs.Records.{HistoryRecord, Version}
use Rattle.history_seats.specs.Settling.{IsOpenDoubt}
use Rattle.history_seats.specs.Views.{GateView}
use Rattle.history_seats.specs.Changes.{landing_of, call_record}
use Rattle.crash_core.specs.declared.change.DoubtedChange.{DoubtedChange}
use Rattle.core_laws.specs.TamperScenarios.{TamperScenario}
use Rattle.core_laws.specs.Stores.{Store, replay_at}
use Rattle.core_laws.specs.Answered.{AreAnswered, IsLegalAt}
use Rattle.core_laws.specs.Ties.{IsTied}

-- the reply to a commit that is not made: why it was not, or that the card's counter is at its last value
abbrev pub IsUnmade : (counter : ℕ) → Reply → Type 0
IsUnmade counter (NotAvailable cause) = Unit {0}
IsUnmade counter (CounterSpent last) = (last ≡ 4294967295) × (counter ≡ 4294967295)
IsUnmade counter _ = ⊥

-- A commit of the machine that is not made, with the tag of its object.
abbrev pub UnmadeCommitsAreLegal : Type 0
UnmadeCommitsAreLegal =
    (store : Store) (scenario : TamperScenario) (before : List HistoryRecord) (session number : ℕ) (call : Call) (reply : Reply) (tag : Option (Tag Version)) → session < length store.mounted.applications
    → is_commit_due (replay_at store scenario before) session call ≡ true → IsUnmade (replay_at store scenario before).counter reply
    → IsTagged (replay_at store scenario before) session call reply Unchanged (option_map (λ t. t.file) tag)
    → IsLegalAt store scenario before (call_record session number call reply Unchanged tag)

-- While the gate has a doubt, a call that is no misuse may be answered with what kept the doubt from being resolved.
abbrev pub UnresolvedCallsAreLegal : Type 0
UnresolvedCallsAreLegal =
    (store : Store) (scenario : TamperScenario) (view : GateView) (entries : List (Option DirEntry)) (counter : ℕ) (d : DoubtedChange) → IsTied store view entries counter (Some d)
    → AreAnswered store scenario view.all → (session number : ℕ) (call : Call) (cause : Cause) → session < length store.mounted.applications
    → is_misuse (meant_by (replay_at store scenario view.all) session call) ≡ false → is_of_card cause ≡ true
    → IsLegalAt store scenario view.all (call_record session number call (NotAvailable cause) Unchanged None)

-- The gate's doubt may land.
abbrev pub LandingsAreLegal : Type 0
LandingsAreLegal =
    (store : Store) (scenario : TamperScenario) (view : GateView) (entries : List (Option DirEntry)) (counter : ℕ) (d : DoubtedChange) → IsTied store view entries counter (Some d)
    → AreAnswered store scenario view.all → IsLegalAt store scenario view.all (landing_of d.number)

-- A doubt that is open in the history, from the view's place on, is the gate's, and the replay has it open.
abbrev pub OpenDoubtsAreHeld : Type 0
OpenDoubtsAreHeld =
    (store : Store) (view : GateView) (entries : List (Option DirEntry)) (counter : ℕ) (doubt : Option DoubtedChange) → IsTied store view entries counter doubt
    → (number : ℕ) → IsOpenDoubt number view.decided view.all → (scenario : TamperScenario) → AreAnswered store scenario view.all
    → (own : Doubt) × ((replay_at store scenario view.all).doubt ≡ Some own) × (own.commit ≡ number)
