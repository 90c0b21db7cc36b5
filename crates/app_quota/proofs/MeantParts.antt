-- What a call would leave an application is told by its part of the state alone.
use Rattle.std.proofs.Common.{◌≡◌, ◌<◌, ℕ, Bool, true, false, cond, List, [], ◌∷◌, length, map, refl, sym, ap, ◌∙◌, subst, Option, Some, None, slice_set}
use Rattle.std.specs.List.Sorted.{IsStrictlySortedBy}
use Rattle.std.specs.Map.{keys_of}
use Rattle.std.proofs.lemmas.List.{map-set}
use Rattle.tee_types.specs.declared.flags.Flags.{Flags}
use Rattle.tee_types.specs.declared.call.Call.{Call}
use Rattle.tee_types.specs.declared.call.Call.TheVariants.{Create, Open, Close, Read, Write, Truncate, Seek, Rename, Delete, Info, EnumNew, EnumStart, EnumNext, EnumReset, EnumFree}
use Rattle.store_model.specs.declared.session.Handle.{Handle}
use Rattle.store_model.specs.declared.name.ObjectName.{ObjectName}
use Rattle.store_model.specs.Name.{name_cmp}
use Rattle.store_model.specs.Object.{Object, Sound, ObjectMap, object_at, with_object}
use Rattle.store_model.specs.Machine.{MachineState, Session, session_at, name_in, handle_at, with_handle, without_handle}
use Rattle.store_model.specs.Handles.{create_of, lacks_room}
use Rattle.store_model.specs.Calls.{is_handle, state_after}
use Rattle.store_model.specs.Doubt.{Doubt, follows, session_landed, state_landed}
use Rattle.app_totals.specs.declared.numbers.Totals.{Totals}
use Rattle.app_totals.specs.Totals.{objects_of, data_bytes, totals_of}
use Rattle.app_totals.specs.OwnHandles.{HaveOwnHandles}
use Rattle.app_quota.specs.Parts.{is_session_of, session_part, part_of, MeetsNoOthers}
use Rattle.app_totals.specs.Meant.{sound_object, sound_state, only_named, is_granted, meant_objects, held_by, left_by}
use Rattle.app_quota.specs.Limits.{Limits, exceeds, is_beyond}
use Rattle.app_totals.proofs.Names.{itself}
use Rattle.app_quota.proofs.MapParts.{own, insert-part}
use Rattle.app_quota.proofs.PartSteps.{stays}
use Rattle.app_quota.proofs.PartCalls.{found}
use Rattle.app_quota.proofs.PartNames.{own_calls_stand_alone, own_same}
use Rattle.app_quota.proofs.OtherCalls.{keeps_apart, set_apart}
use Rattle.app_totals.proofs.OwnHandles.{landed_kept}

-- an application's part of its part is that part
pub part-twice : (app : List ℕ) (m : ObjectMap) → objects_of app (objects_of app m) ≡ objects_of app m
part-twice app [] = refl
part-twice app (e ∷ m) = (elim (own app e.0) as (λ b. own app e.0 ≡ b → objects_of app (cond b (e ∷ objects_of app m) (objects_of app m)) ≡ cond b (e ∷ objects_of app m) (objects_of app m)) [
  | true ↦ λ h. ap (λ c. cond c (e ∷ objects_of app (objects_of app m)) (objects_of app (objects_of app m))) h ∙ ap (λ l. e ∷ l) (part-twice app m)
  | false ↦ λ h. part-twice app m
]) refl

abbrev sound_all : ObjectMap → ObjectMap
sound_all m = map (λ entry. (entry.0, sound_object entry.1)) m

part-sound : (app : List ℕ) (m : ObjectMap) → objects_of app (sound_all m) ≡ sound_all (objects_of app m)
part-sound app [] = refl
part-sound app (e ∷ m) = elim (own app e.0) as (λ b. cond b ((e.0, sound_object e.1) ∷ objects_of app (sound_all m)) (objects_of app (sound_all m)) ≡ sound_all (cond b (e ∷ objects_of app m) (objects_of app m))) [
  | true ↦ ap (λ l. (e.0, sound_object e.1) ∷ l) (part-sound app m)
  | false ↦ part-sound app m
]

keys-sound : (m : ObjectMap) → keys_of (sound_all m) ≡ keys_of m
keys-sound [] = refl
keys-sound (e ∷ m) = ap (λ l. e.0 ∷ l) (keys-sound m)

only-part : (app : List ℕ) (name : ObjectName) (o : Option Object) → own app name ≡ true
    → objects_of app (elim o [ Some object ↦ (name, object) ∷ [] | None ↦ [] ]) ≡ elim o [ Some object ↦ (name, object) ∷ [] | None ↦ [] ]
only-part app name None mine = refl
only-part app name (Some object) mine = ap (λ b. cond b ((name, object) ∷ []) []) mine

only-sorted : (name : ObjectName) (o : Option Object) → IsStrictlySortedBy name_cmp (keys_of (elim o [ Some object ↦ (name, object) ∷ [] | None ↦ [] ]))
unfolding IsStrictlySortedBy
only-sorted name None = tt
only-sorted name (Some object) = (tt, tt)

module _ (s : MachineState) (i : ℕ) (lt : i < length s.sessions) (handles : HaveOwnHandles s) (sorted : IsStrictlySortedBy name_cmp (keys_of s.objects)) where
  abbrev app : List ℕ
  app = (session_at s i).application

  abbrev t : MachineState
  t = part_of app s

  same : session_at t i ≡ session_at s i
  same = own_same s i lt handles

  same_granted : (id : List ℕ) (flags : Flags) (attributes bytes : List ℕ) → is_granted t i (Create id flags attributes bytes) ≡ is_granted s i (Create id flags attributes bytes)
  same_granted id flags attributes bytes =
      ap (λ (x : Session). granted (only_named t.objects (record { app = x.application; id = id }))) same
      ∙ ap granted (λ k. only (found s i lt handles name refl k))
      ∙ ap (λ (m : ObjectMap). granted m) (sym (only-part app name (object_at s.objects name) (itself app)))
      ∙ ap is_handle (own_calls_stand_alone (record s { objects = only_named s.objects name }) i (Create id flags attributes bytes) lt handles (only-sorted name (object_at s.objects name)) meets).0
    where
      name : ObjectName
      name = name_in s i id

      only : Option Object → ObjectMap
      only o = elim o [ Some object ↦ (name, object) ∷ [] | None ↦ [] ]

      granted : ObjectMap → Bool
      granted m = is_handle (create_of (record t { objects = m }) i id flags attributes bytes).reply

      meets : MeetsNoOthers (record s { objects = only_named s.objects name }) i (Create id flags attributes bytes)
      meets _ = ap (λ (m : ObjectMap). lacks_room m name) (only-part app name (object_at s.objects name) (itself app))

  sound_after : (call : Call) → MeetsNoOthers (sound_state s) i call → (state_after (sound_state t) i call).objects ≡ objects_of app (state_after (sound_state s) i call).objects
  sound_after call meets =
      ap (λ (m : ObjectMap). (state_after (record t { objects = m }) i call).objects) (sym (part-sound app s.objects))
      ∙ ap (λ (x : MachineState). x.objects) (own_calls_stand_alone (sound_state s) i call lt handles (subst (IsStrictlySortedBy name_cmp) (sym (keys-sound s.objects)) sorted) meets).1

  -- the objects that a call would leave
  pub meant-part : (call : Call) → meant_objects t i call ≡ objects_of app (meant_objects s i call)
  meant-part (Create id flags attributes bytes) =
      ap (λ b. cond b (with_object t.objects (name_in t i id) object) t.objects) (same_granted id flags attributes bytes)
      ∙ one (is_granted s i (Create id flags attributes bytes))
    where
      object : Object
      object = Sound (record { attributes = attributes; bytes = bytes; bad = [] })

      one : (b : Bool) → cond b (with_object t.objects (name_in t i id) object) t.objects ≡ objects_of app (cond b (with_object s.objects (name_in s i id) object) s.objects)
      one true =
          ap (λ (x : Session). with_object t.objects (record { app = x.application; id = id }) object) same
          ∙ insert-part app (name_in s i id) object (itself app) s.objects sorted
      one false = refl
  meant-part (Open id flags) = sound_after (Open id flags) tt
  meant-part (Close handle) = sound_after (Close handle) tt
  meant-part (Read handle size) = sound_after (Read handle size) tt
  meant-part (Write handle bytes) = sound_after (Write handle bytes) tt
  meant-part (Truncate handle size) = sound_after (Truncate handle size) tt
  meant-part (Seek handle offset whence) = sound_after (Seek handle offset whence) tt
  meant-part (Rename handle id) = sound_after (Rename handle id) tt
  meant-part (Delete handle) = sound_after (Delete handle) tt
  meant-part (Info handle) = sound_after (Info handle) tt
  meant-part EnumNew = sound_after EnumNew tt
  meant-part (EnumStart number) = sound_after (EnumStart number) tt
  meant-part (EnumNext number) = sound_after (EnumNext number) tt
  meant-part (EnumReset number) = sound_after (EnumReset number) tt
  meant-part (EnumFree number) = sound_after (EnumFree number) tt

  totals-part : (m : ObjectMap) → totals_of app (objects_of app m) ≡ totals_of app m
  totals-part m k = totals_of (part-twice app m k)
    where
      totals_of : ObjectMap → Totals
      totals_of l = record { objects = length l; bytes = data_bytes l }

  -- whether a call is beyond its application's limit
  pub same_beyond : (limits : Limits) (call : Call) → is_beyond limits t i call ≡ is_beyond limits s i call
  same_beyond limits call k = exceeds (limits (same k).application) (before k) (after k)
    where
      before : held_by t i ≡ held_by s i
      before = ap (λ (x : Session). totals_of x.application t.objects) same ∙ totals-part s.objects

      after : left_by t i call ≡ left_by s i call
      after =
          ap (λ (x : Session). totals_of x.application (meant_objects t i call)) same
          ∙ ap (totals_of app) (meant-part call)
          ∙ totals-part (meant_objects s i call)

  -- the session behind a landing
  abbrev landed_by_handle : Session → (number : ℕ) → List ℕ → Option Handle → Session
  landed_by_handle x number id None = x
  landed_by_handle x number id (Some h) = with_handle x number (record h { name = record { app = x.application; id = id } })

  follows-is : (r : MachineState) (number : ℕ) (id : List ℕ) (o : Option Handle) → follows r i number id o ≡ landed_by_handle (session_at r i) number id o
  follows-is r number id None = refl
  follows-is r number id (Some h) = refl

  same_landed : (call : Call) → session_landed t i call ≡ session_landed s i call
  same_landed (Create id flags attributes bytes) = same
  same_landed (Open id flags) = same
  same_landed (Close handle) = same
  same_landed (Read handle size) = same
  same_landed (Write handle bytes) = same
  same_landed (Truncate handle size) = same
  same_landed (Seek handle offset whence) = same
  same_landed (Rename handle id) =
      follows-is t handle id (handle_at (session_at t i) handle)
      ∙ ap (λ (x : Session). landed_by_handle x handle id (handle_at x handle)) same
      ∙ sym (follows-is s handle id (handle_at (session_at s i) handle))
  same_landed (Delete handle) = ap (λ (x : Session). without_handle x handle) same
  same_landed (Info handle) = same
  same_landed EnumNew = same
  same_landed (EnumStart number) = same
  same_landed (EnumNext number) = same
  same_landed (EnumReset number) = same
  same_landed (EnumFree number) = same

  -- a landing of the application's call
  pub landed_own : (doubt : Doubt) → doubt.session ≡ i → MeetsNoOthers s i doubt.call → state_landed t (record doubt { session = i }) ≡ part_of app (state_landed s (record doubt { session = i }))
  landed_own doubt its meets k = record {
    objects = (ap (λ (x : MachineState). x.objects) (own_calls_stand_alone s i doubt.call lt handles sorted meets).1) k;
    sessions = (
        ap (slice_set t.sessions i) (same_landed doubt.call ∙ sym (stays s i (session_landed s i doubt.call) (landed_kept s i handles doubt.call).1))
        ∙ sym (map-set (session_part app) s.sessions i (session_landed s i doubt.call)))
        k;
  }

-- a landing of another application's
pub landed_apart : (app : List ℕ) (s : MachineState) (doubt : Doubt) → doubt.session < length s.sessions → HaveOwnHandles s → is_session_of app (session_at s doubt.session) ≡ false → part_of app (state_landed s doubt) ≡ part_of app s
landed_apart app s doubt lt handles apart =
    set_apart app s doubt.session lt handles apart (state_after s doubt.session doubt.call).objects (session_landed s doubt.session doubt.call)
    (ap (λ (x : MachineState). x.objects) (keeps_apart app s doubt.session lt handles apart doubt.call))
    (landed_kept s doubt.session handles doubt.call).1
