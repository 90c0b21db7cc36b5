-- A history leaves each application's handles on objects of its own, legal or not.
use Rattle.std.proofs.Common.{ℕ, true, false, List, [], ◌∷◌, map, refl, ◌∙◌, Option, Some, None}
use Rattle.std.specs.List.{AllByRecursion}
use Rattle.tee_types.specs.declared.call.Call.{Call}
use Rattle.tee_types.specs.declared.reply.Reply.{Reply}
use Rattle.store_model.specs.declared.event.Event.{Event}
use Rattle.store_model.specs.declared.event.Event.TheVariants.{Call as CallEvent, Landed}
use Rattle.store_model.specs.declared.event.Mark.{Mark}
use Rattle.store_model.specs.declared.event.Mark.TheVariants.{Unchanged, Made, Doubtful}
use Rattle.store_model.specs.Machine.{MachineState, new_session}
use Rattle.store_model.specs.Calls.{state_after}
use Rattle.store_model.specs.Record.{file_of}
use Rattle.store_model.specs.Doubt.{Doubt}
use Rattle.store_model.specs.ReplayState.{ReplayState, is_undone, state_unless_undone, replay_after, replay_after_call, replay_landed}
use Rattle.app_totals.specs.OwnHandles.{HasOwnHandles, HaveOwnHandles, KeepsOwnHandles}
use Rattle.app_totals.specs.Laws.{ReplaysKeepOwnHandles}
use Rattle.app_totals.proofs.OwnHandles.{calls_keep_own_handles, landings_keep_own_handles}

-- sessions begin without handles
pub new_own : (apps : List (List ℕ)) → AllByRecursion HasOwnHandles (map new_session apps)
new_own [] = tt
new_own (app ∷ apps) = (tt, new_own apps)

pub kept_same : (s : MachineState) → HaveOwnHandles s → KeepsOwnHandles s s
kept_same s handles = record { handles = handles; same = refl }

pub kept_undone : (s : MachineState) (session : ℕ) (call : Call) (reply : Reply) → HaveOwnHandles s → KeepsOwnHandles s (state_unless_undone s session call reply)
kept_undone s session call reply handles = elim (is_undone reply) as (λ b. KeepsOwnHandles s (elim b [ true ↦ s | false ↦ state_after s session call ])) [
  | true ↦ kept_same s handles
  | false ↦ calls_keep_own_handles s session call handles
]

kept_call : (s : ReplayState) (session : ℕ) (call : Call) (reply : Reply) (mark : Mark) (file : Option ℕ) → HaveOwnHandles s.state
    → KeepsOwnHandles s.state (replay_after_call s session call reply mark file).state
kept_call s session call reply Unchanged file handles = kept_undone s.state session call reply handles
kept_call s session call reply (Made commit) file handles = calls_keep_own_handles s.state session call handles
kept_call s session call reply (Doubtful commit) file handles = kept_same s.state handles

kept_landed : (s : ReplayState) (o : Option Doubt) → HaveOwnHandles s.state → KeepsOwnHandles s.state (replay_landed s o).state
kept_landed s None handles = kept_same s.state handles
kept_landed s (Some d) handles = landings_keep_own_handles s.state d handles

pub kept_event : (e : Event) (file : Option ℕ) (s : ReplayState) → HaveOwnHandles s.state → KeepsOwnHandles s.state (replay_after s e file).state
kept_event (CallEvent session number call reply mark) file s handles = kept_call s session call reply mark file handles
kept_event (Landed commit) file s handles = kept_landed s s.doubt handles

pub replays_keep_own_handles : {Root : Type 0} → ReplaysKeepOwnHandles Root
replays_keep_own_handles s [] handles = kept_same s.state handles
replays_keep_own_handles s (r ∷ records) handles =
    let one = kept_event r.event (file_of r) s handles in
    let rest = replays_keep_own_handles (replay_after s r.event (file_of r)) records one.handles in
    record { handles = rest.handles; same = rest.same ∙ one.same }
