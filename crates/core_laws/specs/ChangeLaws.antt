-- A write or a truncation that was staged over what its object's file gave: the machine commits it, and changes the object to what stands for
-- the next version; or the promises end there.
use Rattle.std.specs.Prelude.{◌≡◌, ◌⊎◌, ◌+◌, ◌==◌, ℕ, true, false, nat_lt, List, [], length, max}
use Rattle.tee_types.specs.declared.call.Call.{Call}
use Rattle.tee_types.specs.declared.call.Call.TheVariants.{Truncate, Write}
use Rattle.tee_types.specs.declared.reply.Reply.TheVariants.{Done}
use Rattle.tee_types.specs.Rights.{has, write_bit}
use Rattle.page_bytes.specs.Ranges.{resize_range, write_range}
use Rattle.store_model.specs.Calls.{state_after}
use Rattle.store_model.specs.Data.{greatest_position}
use Rattle.store_model.specs.Legal.{is_commit_due, meant_by}
use Rattle.store_model.specs.Machine.{MachineState}
use Rattle.store_model.specs.Object.{changed_object}
use Rattle.tee_types.specs.Limits.{most_data_bytes}
use Rattle.history_seats.specs.Records.{HistoryRecord, Version}
use Rattle.core_laws.specs.Decodings.{IsReal}
use Rattle.core_laws.specs.TamperScenarios.{TamperScenario, object_under}
use Rattle.core_laws.specs.Given.{decoding_given}
use Rattle.core_laws.specs.Stores.{Store, replay_at}
use Rattle.core_laws.specs.Mapped.{IsMapped}
use Rattle.core_laws.specs.Shown.{EndsCommit, IsGivenAt, IsWriteEndAt}
use Rattle.core_laws.specs.ReadLaws.{IsLive}
use Rattle.core_laws.specs.WriteLaws.{IsMadeOver}

-- The machine does such a call, if it finds no damage that the call would spoil: by a live handle with the right to write, within the limits,
-- and a change.
abbrev pub IsChanging : MachineState → (i size : ℕ) → Call → Type 0
IsChanging s i size (Write number bytes) =
    (h : IsLive s i number) × (has h.handle.flags write_bit ≡ true) × ((length bytes == 0) ≡ false)
    × (nat_lt greatest_position (h.handle.position + length bytes) ≡ false) × (nat_lt most_data_bytes (h.handle.position + length bytes) ≡ false)
IsChanging s i size (Truncate number length) =
    (h : IsLive s i number) × (has h.handle.flags write_bit ≡ true) × ((length == size) ≡ false) × (nat_lt most_data_bytes length ≡ false)
IsChanging s i size _ = ⊥

-- The machine commits the call, and changes the object to what stands for the next version.
pub record IsDueChange (store : Store) (scenario : TamperScenario) (before : List HistoryRecord) (r : HistoryRecord) (x : IsGivenAt store scenario before r) (next : Version) : Type 0 where
  pub meant : meant_by (replay_at store scenario before) x.session x.call ≡ Done
  pub due : is_commit_due (replay_at store scenario before) x.session x.call ≡ true
  pub changes : (state_after (replay_at store scenario before).state x.session x.call).objects
      ≡ changed_object (replay_at store scenario before).state.objects x.name (object_under store.keys scenario x.tag.file x.tag.generation next)

abbrev pub WritesAreDueOrEnd : Type 0
WritesAreDueOrEnd =
    (store : Store) (scenario : TamperScenario) (before : List HistoryRecord) (r : HistoryRecord) (x : IsGivenAt store scenario before r) → IsReal store.keys x.version
    → EndsCommit Done x.reply x.mark → IsMapped store scenario before → (next : Version) (number : ℕ) (bytes : List ℕ) → x.call ≡ Write number bytes
    → IsChanging (replay_at store scenario before).state x.session x.version.size (Write number bytes) → next.size ≡ max x.version.size (x.position + length bytes)
    → IsMadeOver store.keys x.version next (decoding_given x.gave) (write_range (4096 + x.version.size) (4096 + x.position) (length bytes)) (4096 + x.position) bytes
    → IsDueChange store scenario before r x next ⊎ IsWriteEndAt store scenario before r

abbrev pub TruncationsAreDueOrEnd : Type 0
TruncationsAreDueOrEnd =
    (store : Store) (scenario : TamperScenario) (before : List HistoryRecord) (r : HistoryRecord) (x : IsGivenAt store scenario before r) → IsReal store.keys x.version
    → EndsCommit Done x.reply x.mark → IsMapped store scenario before → (next : Version) (number : ℕ) → x.call ≡ Truncate number next.size
    → IsChanging (replay_at store scenario before).state x.session x.version.size (Truncate number next.size)
    → IsMadeOver store.keys x.version next (decoding_given x.gave) (resize_range (4096 + x.version.size) (4096 + next.size)) (4096 + next.size) []
    → IsDueChange store scenario before r x next ⊎ IsWriteEndAt store scenario before r
