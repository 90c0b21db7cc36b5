-- The session behind a create whose commit is made has the new handle.
use Rattle.std.proofs.Common.{List, [], ap, length, subst, sym, true, ℕ, ◌<◌, ◌∙◌, ◌≡◌}
use Rattle.std.proofs.lemmas.List.{get_or-set_same}
use Rattle.call_steps.specs.JournalCalls.{LeavesSession}
use Rattle.call_steps.specs.CallerSessions.{CallerSession}
use Rattle.serial_calls.specs.Rules.{NewObject, create_call}
use Rattle.history_seats.specs.Views.{GateView}
use Rattle.call_steps.proofs.Knowing.{shown_stand}
use Rattle.call_steps.specs.Commits.{IsCalm}
use Rattle.call_steps.specs.SessionMoves.{moved_by}
use Rattle.call_steps.specs.declared.SessionMove.TheVariants.{Opens}
use Rattle.call_rules.proofs.MadeOpens.{create-done}
use Rattle.store_model.proofs.MadeChanges.{unrefused}
use Rattle.store_model.specs.Calls.{is_commit, reply_of, state_after}
use Rattle.store_model.specs.Machine.{MachineState, Outcome, Session, new_session, session_at}
use Rattle.core_laws.specs.Stores.{Store, replay_at}
use Rattle.tee_types.specs.Rights.{without_overwrite}
use Rattle.tee_types.specs.declared.call.Call.{Call}
use Rattle.tee_types.specs.declared.flags.Flags.{Flags}

-- the session with a handle on the new object
abbrev pub with_new_handle : Session → NewObject → Session
with_new_handle s new = moved_by s (Opens (record { app = s.application; id = new.id }) (without_overwrite new.flags))

created_session : (s : MachineState) (i : ℕ) (new : NewObject) → i < length s.sessions → is_commit s i (create_call new) (reply_of s i (create_call new)) ≡ true
    → session_at (state_after s i (create_call new)) i ≡ with_new_handle (session_at s i) new
created_session s i new within due =
    ap (λ (o : Outcome). session_at o.next i) (create-done s i new.id new.flags new.attributes new.bytes (unrefused s i (create_call new) due))
    ∙ get_or-set_same s.sessions i (with_new_handle (session_at s i) new) (new_session []) within

pub create_leaves : {E : Type 0} (store : Store) (knows : GateView) (caller : CallerSession E) (new : NewObject) → IsCalm store knows caller
    → LeavesSession store knows caller.number (create_call new) (with_new_handle caller.state new)
create_leaves {E = E} store knows caller new calm scenario answered due =
    let here = replay_at store scenario knows.all in
    let stands = shown_stand E store knows caller calm.caller calm.sees scenario answered in
    created_session here.state caller.number new stands.within due ∙ ap (λ (x : Session). with_new_handle x new) stands.is

-- so it does in the words of the call and of the handle that it is given
pub create_leaves_as : {E : Type 0} (store : Store) (knows : GateView) (was : CallerSession E) (new : NewObject) (call : Call) (app : List ℕ) (flags : Flags) → IsCalm store knows was
    → call ≡ create_call new → app ≡ was.state.application → flags ≡ without_overwrite new.flags
    → LeavesSession store knows was.number call (moved_by was.state (Opens (record { app = app; id = new.id }) flags))
create_leaves_as {E = E} store knows was new call app flags calm is of bits =
    subst (λ (p : Call × List ℕ × Flags). LeavesSession store knows was.number p.0 (moved_by was.state (Opens (record { app = p.1; id = new.id }) p.2)))
    (λ i. (sym is i, sym of i, sym bits i))
    (create_leaves store knows was new calm)
