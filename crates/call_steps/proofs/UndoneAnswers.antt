-- Replies that a file gave to a call that was not done.
use Rattle.std.proofs.Common.{◌≡◌, ◌⊎◌, ℕ, true, true≢false, List, Option, inl, inr, refl, sym, ◌∙◌, subst}
use Rattle.disk_model.specs.State.{FileState}
use Rattle.tee_types.specs.declared.call.Call.{Call}
use Rattle.tee_types.specs.declared.call.Call.TheVariants.{Info, Open, Read}
use Rattle.tee_types.specs.declared.reply.Cause.{Cause}
use Rattle.tee_types.specs.declared.reply.Cause.TheVariants.{Fault}
use Rattle.tee_types.specs.declared.reply.Device.TheVariants.{Entropy, File}
use Rattle.tee_types.specs.declared.reply.Reply.{Reply}
use Rattle.tee_types.specs.declared.reply.Reply.TheVariants.{Content, Corrupt, CounterSpent, Handle as HandleReply, Info as InfoReply, NotAvailable}
use Rattle.store_model.specs.Machine.{MachineState}
use Rattle.store_model.specs.ReplayState.{is_undone}
use Rattle.history_seats.specs.Records.{Version}
use Rattle.history_seats.specs.Views.{GateView}
use Rattle.core_laws.specs.Given.{Tells, decoding_given}
use Rattle.core_laws.specs.Decodings.{Decoding}
use Rattle.core_laws.specs.Shown.{IsPartial}
use Rattle.rpmb_card.specs.Protocol.{last_counter}
use Rattle.core_laws.specs.Stores.{Store}
use Rattle.dir_records.specs.declared.entry.DirEntry.{DirEntry}
use Rattle.open_table.specs.Table.{TableState}
use Rattle.commit_gate.specs.CallerSessions.{CallerSession}
use Rattle.commit_gate.specs.Commits.{IsCalm}
use Rattle.call_steps.specs.EntryAnswers.{AdmitsIfTold}
use Rattle.call_steps.specs.FileAnswers.{Fails, IsFileAnswer, Refuses, Spent, Tells as FileTells, Undrawn}
use Rattle.call_steps.specs.PlainReplies.{HasNoBytes}
use Rattle.call_steps.specs.ServableReplies.{MovesAlike, TellsCounter}

-- what tells of an object was done
told-done : (sp : Decoding) (size attributes position : ℕ) (call : Call) (reply : Reply) → Tells sp size attributes position call reply → is_undone reply ≡ true → ⊥
told-done sp size attributes position (Open id flags) (HandleReply number) tells undone = true≢false (sym undone)
told-done sp size attributes position (Read handle count) (Content bytes) tells undone = true≢false (sym undone)
told-done sp size attributes position (Info handle) (InfoReply long at flags told) tells undone = true≢false (sym undone)
told-done sp size attributes position call reply tells undone = tells

-- what was not done was refused, or a device failed, or the counter is spent
abbrev pub IsUndoneKind : Reply → Type 0
IsUndoneKind reply = (reply ≡ Corrupt) ⊎ (((cause : Cause) × (reply ≡ NotAvailable cause)) ⊎ ((last : ℕ) × (reply ≡ CounterSpent last)))

pub undone-kind : (store : Store) (file : FileState) (n : ℕ) (v : Version) (position : ℕ) (call : Call) (reply : Reply) → IsFileAnswer store file n v position call reply → is_undone reply ≡ true → IsUndoneKind reply
undone-kind store file n v position call reply (FileTells is honest) undone = absurd (told-done (decoding_given is.gave) v.size v.attributes position call reply is.tells undone)
undone-kind store file n v position call reply (Refuses is honest) undone = inl is
undone-kind store file n v position call reply (Fails count is) undone = inr (inl (Fault (File n) count, is))
undone-kind store file n v position call reply (Undrawn count is by) undone = inr (inl (Fault Entropy count, is))
undone-kind store file n v position call reply (Spent is by) undone = inr (inr (last_counter, is))

-- the last of them only to a change of data
pub refused-or_failed : (store : Store) (file : FileState) (n : ℕ) (v : Version) (position : ℕ) (call : Call) (reply : Reply) → (IsPartial call → ⊥) → IsFileAnswer store file n v position call reply → is_undone reply ≡ true
    → (reply ≡ Corrupt) ⊎ ((cause : Cause) × (reply ≡ NotAvailable cause))
refused-or_failed store file n v position call reply whole (FileTells is honest) undone = absurd (told-done (decoding_given is.gave) v.size v.attributes position call reply is.tells undone)
refused-or_failed store file n v position call reply whole (Refuses is honest) undone = inl is
refused-or_failed store file n v position call reply whole (Fails count is) undone = inr (Fault (File n) count, is)
refused-or_failed store file n v position call reply whole (Undrawn count is by) undone = inr (Fault Entropy count, is)
refused-or_failed store file n v position call reply whole (Spent is by) undone = absurd (whole by.changes)

-- so nothing is told of the counter to any other call
told-counter : (sp : Decoding) (size attributes position : ℕ) (call : Call) (reply : Reply) → Tells sp size attributes position call reply → (counter : ℕ) → TellsCounter counter reply
told-counter sp size attributes position (Open id flags) (CounterSpent last) tells counter = absurd tells
told-counter sp size attributes position (Read handle count) (CounterSpent last) tells counter = absurd tells
told-counter sp size attributes position (Info handle) (CounterSpent last) tells counter = absurd tells
told-counter sp size attributes position call (CounterSpent last) tells counter = absurd tells
told-counter sp size attributes position call reply tells counter = tt

pub counter-untold : (store : Store) (file : FileState) (n : ℕ) (v : Version) (position : ℕ) (call : Call) (reply : Reply) → (IsPartial call → ⊥) → IsFileAnswer store file n v position call reply → (counter : ℕ)
    → TellsCounter counter reply
counter-untold store file n v position call reply whole (FileTells is honest) counter = told-counter (decoding_given is.gave) v.size v.attributes position call reply is.tells counter
counter-untold store file n v position call reply whole (Refuses is honest) counter = subst (TellsCounter counter) (sym is) tt
counter-untold store file n v position call reply whole (Fails count is) counter = subst (TellsCounter counter) (sym is) tt
counter-untold store file n v position call reply whole (Undrawn count is by) counter = subst (TellsCounter counter) (sym is) tt
counter-untold store file n v position call reply whole (Spent is by) counter = absurd (whole by.changes)

-- and has no bytes
pub undone-bare : (reply : Reply) → is_undone reply ≡ true → HasNoBytes reply
undone-bare (Content bytes) undone = true≢false (sym undone)
undone-bare (InfoReply long at flags told) undone = true≢false (sym undone)
undone-bare reply undone = tt

-- which any call admits
pub undone-admitted : (m : MachineState) (session size : ℕ) (call : Call) (reply : Reply) → (reply ≡ Corrupt) ⊎ ((cause : Cause) × (reply ≡ NotAvailable cause)) → AdmitsIfTold m session size call reply
undone-admitted m session size call reply (inl is) = subst (AdmitsIfTold m session size call) (sym is) tt
undone-admitted m session size call reply (inr failed) = subst (AdmitsIfTold m session size call) (sym failed.1) tt

pub kind-admitted : (m : MachineState) (session size : ℕ) (call : Call) (reply : Reply) → IsUndoneKind reply → AdmitsIfTold m session size call reply
kind-admitted m session size call reply (inl is) = subst (AdmitsIfTold m session size call) (sym is) tt
kind-admitted m session size call reply (inr (inl failed)) = subst (AdmitsIfTold m session size call) (sym failed.1) tt
kind-admitted m session size call reply (inr (inr spent)) = subst (AdmitsIfTold m session size call) (sym spent.1) tt

-- The session stays as it was.
pub undone-moves : {E : Type 0} (store : Store) (knows : GateView) (entries : List (Option DirEntry)) (table : TableState) (call : Call) (reply : Reply) (s : CallerSession E) → IsCalm store knows s
    → is_undone reply ≡ true → MovesAlike store knows entries table call reply s.state s
undone-moves store knows entries table call reply s calmly undone = record {
  was = calmly.caller;
  sees = calmly.sees;
  settled = calmly.settled;
  application = refl;
  undone = λ not_done. refl;
  done = λ done. absurd (true≢false (sym undone ∙ done));
}
