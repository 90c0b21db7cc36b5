-- What a slot gave, once it is shown the history again: it is of the entry's version still.
use Rattle.std.proofs.Common.{◌≡◌, ℕ, Option, Some, None, sym, subst}
use Rattle.disk_model.specs.State.{FileState}
use Rattle.tee_types.specs.declared.reply.Reply.{Reply}
use Rattle.dir_records.specs.declared.entry.DirEntry.{DirEntry}
use Rattle.store_model.specs.declared.session.Handle.{Handle}
use Rattle.history_seats.specs.Records.{Version}
use Rattle.history_seats.specs.Views.{GateView}
use Rattle.core_laws.specs.Stores.{Store}
use Rattle.object_slots.specs.SlotValues.{SlotValue}
use Rattle.call_steps.specs.InfoAnswers.{DescribesEntry, DescribesObject}
use Rattle.call_steps.specs.SlotCatchUp.{IsAtEntry, StillGives}
use Rattle.call_steps.specs.ReadAnswers.{ReadsAnswer, ReadsEntry}
use Rattle.call_steps.specs.ReadyEntries.{IsReady, IsReadyEntry}
use Rattle.call_steps.proofs.Meetings.{gives-one}

module _ (store : Store) (knows : GateView) (was : FileState) (old new : SlotValue) (e : DirEntry) (v w : Version) (still : StillGives old new v) (stands : IsAtEntry knows new e w) where
  same-version : v ≡ w
  same-version = gives-one new v w still.gives stands.gives

  -- the slot with what its seat was shown
  abbrev seated : SlotValue
  seated = record old { seat = new.seat }

  moved : (P : SlotValue → Version → Type 0) → P seated v → P new w
  moved P = subst (λ (x : SlotValue × Version). P x.0 x.1) (λ i. (sym still.same i, same-version i))

  pub reads-again : (position count : ℕ) (reply : Reply) → ReadsAnswer store was old v position count reply → ReadsEntry store knows was new e position count reply
  reads-again position count reply reads = record {
    version = w;
    at = stands;
    reads = moved (λ s x. ReadsAnswer store was s x position count reply) (record { answers = reads.answers; cause = reads.cause; ends = reads.ends });
  }

  pub describes-again : (handle : Handle) (reply : Reply) → DescribesObject store was old v handle reply → DescribesEntry store knows was new e handle reply
  describes-again handle reply describes = record {
    version = w;
    at = stands;
    describes = moved (λ s x. DescribesObject store was s x handle reply) (record { answers = describes.answers; says = describes.says; cause = describes.cause });
  }

  by_reply : (unloaded : Option Reply) → IsReady store was old v unloaded → IsReady store was seated v unloaded
  by_reply None ready = (record { live = ready.0.live; own = ready.0.own }, ready.1)
  by_reply (Some reply) ready = record { answers = ready.answers; undone = ready.undone; cause = ready.cause }

  pub ready-again : (unloaded : Option Reply) → IsReady store was old v unloaded → IsReadyEntry store knows was new e unloaded
  ready-again unloaded ready = record { version = w; at = stands; ready = moved (λ s x. IsReady store was s x unloaded) (by_reply unloaded ready) }
