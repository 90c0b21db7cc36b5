-- Steps that give no handle: the handles stay but for positions and for one that is closed, and sound objects stay sound.
use Rattle.std.proofs.Common.{◌≡◌, ◌==◌, ℕ, Some, inl, inr, sym, ap, ◌∙◌, subst, []}
use Rattle.enumerators.proofs.Numbering.{IsNumbered-set_value, IsNumbered-remove_entry}
use Rattle.enumerators.specs.Enumeration.{EnumeratorTable}
use Rattle.store_model.specs.declared.name.ObjectName.{ObjectName}
use Rattle.store_model.specs.declared.session.Handle.{Handle}
use Rattle.store_model.specs.Object.{ObjectMap}
use Rattle.store_model.specs.Machine.{MachineState, Session, handle_at, new_session, session_at, with_handle, with_session, without_handle}
use Rattle.call_rules.specs.Numbers.{HasNumbers}
use Rattle.call_rules.specs.WellOpened.{IsSoundAt, WellOpened}
use Rattle.call_rules.proofs.EntryLists.{put-found, taken-found}
use Rattle.call_rules.proofs.HandleSteps.{IsNewHandle, IsOld, IsSame, NoNew, same_itself, well_after}
use Rattle.call_rules.proofs.SessionLists.{set-cases}

-- what was sound is sound
abbrev pub KeepsSound : ObjectMap → ObjectMap → Type 0
KeepsSound old new = (name : ObjectName) → IsSoundAt old name → IsSoundAt new name

-- each live handle of the session is one of the other but for its position
abbrev pub HasNoMore : Session → Session → Type 0
HasNoMore old new = (number : ℕ) (h : Handle) → handle_at new number ≡ Some h → IsSame old number h

pub no_new : (s : MachineState) (objects : ObjectMap) → IsNewHandle s objects NoNew
no_new s objects = record { sound = λ i number h new. absurd new; one = λ i j number other h g new. absurd new; shares = λ i j number other h g new. absurd new }

-- one session is set, and the objects are others
pub set_numbers : (s : MachineState) (i : ℕ) (x : Session) → ((k : ℕ) → HasNumbers (session_at s k)) → HasNumbers x → (k : ℕ) → HasNumbers (session_at (with_session s i x) k)
set_numbers s i x old new k = elim (set-cases s.sessions i k x (new_session [])) [
  | inl set_ ↦ subst HasNumbers (sym set_.1) new
  | inr stays ↦ subst HasNumbers (sym stays) (old k)
]

pub set_handles : (s : MachineState) (i : ℕ) (x : Session) → HasNoMore (session_at s i) x → (k : ℕ) → HasNoMore (session_at s k) (session_at (with_session s i x) k)
set_handles s i x from k number h live = elim (set-cases s.sessions i k x (new_session [])) [
  | inl set_ ↦ subst (λ (m : ℕ). IsSame (session_at s m) number h) (sym set_.0) (from number h (ap (λ (y : Session). handle_at y number) (sym set_.1) ∙ live))
  | inr stays ↦ same_itself (session_at s k) number h (ap (λ (y : Session). handle_at y number) (sym stays) ∙ live)
]

pub quiet : (s t : MachineState) → WellOpened s → ((k : ℕ) → HasNumbers (session_at t k)) → ((k : ℕ) → HasNoMore (session_at s k) (session_at t k)) → KeepsSound s.objects t.objects → WellOpened t
quiet s t well numbered from sound = well_after s t NoNew well (no_new s t.objects) numbered (λ i number h live. inr (old i number h (from i number h live)))
  where
    old : (i number : ℕ) (h : Handle) → IsSame (session_at s i) number h → IsOld s t.objects i number h
    old i number h same = record {
      same = same;
      sound = subst (IsSoundAt t.objects) (sym same.name) (sound (same.before).name (well.sound i number same.before same.live));
    }

pub quiet_set : (s : MachineState) (objects : ObjectMap) (i : ℕ) (x : Session) → WellOpened s → HasNumbers x → HasNoMore (session_at s i) x → KeepsSound s.objects objects
    → WellOpened (with_session (record s { objects = objects }) i x)
quiet_set s objects i x well numbers from sound =
    quiet s (with_session (record s { objects = objects }) i x) well (set_numbers s i x well.numbered numbers) (set_handles s i x from) sound

pub quiet_objects : (s : MachineState) (objects : ObjectMap) → WellOpened s → KeepsSound s.objects objects → WellOpened (record s { objects = objects })
quiet_objects s objects well sound = quiet s (record s { objects = objects }) well well.numbered (λ k number h live. same_itself (session_at s k) number h live) sound

-- a position, enumerators, and a handle that is closed
pub no_more-position : (session : Session) (number : ℕ) (handle : Handle) (position : ℕ) → handle_at session number ≡ Some handle → HasNoMore session (with_handle session number (record handle { position = position }))
no_more-position session number handle position held q h live = elim (put-found session.handles number (record handle { position = position }) h handle q held live) [
  | inl here ↦ record { before = handle; live = ap (handle_at session) here.0 ∙ held; name = ap (λ (x : Handle). x.name) here.1; flags = ap (λ (x : Handle). x.flags) here.1 }
  | inr other ↦ same_itself session q h other.1
]

pub no_more-closed : (session : Session) (number : ℕ) → HasNumbers session → HasNoMore session (without_handle session number)
no_more-closed session number numbers q h live = same_itself session q h (taken-found session.handles session.next_handle number q h numbers live).1

pub numbers-with : (session : Session) (number : ℕ) (handle : Handle) → HasNumbers session → HasNumbers (with_handle session number handle)
numbers-with session number handle numbers = IsNumbered-set_value (λ n. n == number) 0 session.handles session.next_handle handle numbers

pub numbers-without : (session : Session) (number : ℕ) → HasNumbers session → HasNumbers (without_handle session number)
numbers-without session number numbers = IsNumbered-remove_entry (λ n. n == number) 0 session.handles session.next_handle numbers

module _ (s : MachineState) (well : WellOpened s) where
  pub quiet-position : (objects : ObjectMap) (i number : ℕ) (handle : Handle) (position : ℕ) → handle_at (session_at s i) number ≡ Some handle → KeepsSound s.objects objects
      → WellOpened (with_session (record s { objects = objects }) i (with_handle (session_at s i) number (record handle { position = position })))
  quiet-position objects i number handle position held sound =
      quiet_set s objects i (with_handle (session_at s i) number (record handle { position = position })) well
      (numbers-with (session_at s i) number (record handle { position = position }) (well.numbered i)) (no_more-position (session_at s i) number handle position held) sound

  pub quiet-close : (i number : ℕ) → WellOpened (with_session s i (without_handle (session_at s i) number))
  quiet-close i number =
      quiet_set s s.objects i (without_handle (session_at s i) number) well (numbers-without (session_at s i) number (well.numbered i))
      (no_more-closed (session_at s i) number (well.numbered i)) (λ name sound. sound)

  pub quiet-enumerators : (i : ℕ) (table : EnumeratorTable) → WellOpened (with_session s i (record (session_at s i) { enumerators = table }))
  quiet-enumerators i table =
      quiet_set s s.objects i (record (session_at s i) { enumerators = table }) well (well.numbered i) (λ number h live. same_itself (session_at s i) number h live) (λ name sound. sound)
