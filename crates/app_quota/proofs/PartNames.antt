-- Calls by names, and so all calls, are answered by their application's part of the state alone.
use Rattle.std.proofs.Common.{◌≡◌, ◌<◌, ℕ, Bool, true, false, not, ◌||◌, List, [], ◌∷◌, ◌++◌, length, refl, sym, ap, ◌∙◌, subst, Option, Some, None, ◌+◌}
use Rattle.std.specs.List.{list_any}
use Rattle.std.specs.List.Sorted.{IsStrictlySortedBy}
use Rattle.std.specs.Map.{keys_of}
use Rattle.std.specs.Ordering.{is_eq}
use Rattle.tee_types.specs.Identifier.{bytes_cmp}
use Rattle.tee_types.specs.Rights.{has, is_known, overwrite_bit, write_meta_bit, without_overwrite}
use Rattle.tee_types.specs.declared.flags.Flags.{Flags}
use Rattle.tee_types.specs.declared.call.Call.{Call}
use Rattle.tee_types.specs.declared.call.Call.TheVariants.{Create, Open, Close, Read, Write, Truncate, Seek, Rename, Delete, Info, EnumNew, EnumStart, EnumNext, EnumReset, EnumFree}
use Rattle.tee_types.specs.declared.reply.Reply.{Reply}
use Rattle.tee_types.specs.declared.reply.Reply.TheVariants.{Done, Handle as HandleReply, Misuse, Corrupt, Refused}
use Rattle.tee_types.specs.declared.reply.Code.TheVariants.{AccessConflict, ItemNotFound}
use Rattle.tee_types.specs.declared.reply.Reason.TheVariants.{BadFlags, TooMany}
use Rattle.store_model.specs.declared.session.Handle.{Handle}
use Rattle.store_model.specs.declared.name.ObjectName.{ObjectName}
use Rattle.store_model.specs.Name.{name_cmp}
use Rattle.store_model.specs.Object.{Object, Sound, ObjectMap, object_at, holds, is_damaged, with_object, without_object, moved_object}
use Rattle.store_model.specs.Machine.{MachineState, Session, Outcome, session_at, with_session, name_in, handle_at, with_handle, has_all_handles, unless_refused, first_refusal, refuse}
use Rattle.store_model.specs.Handles.{create_of, create_refusals, open_of, open_refusals, open_handle, has_open, lacks_room}
use Rattle.store_model.specs.Naming.{rename_of}
use Rattle.store_model.specs.Calls.{outcome_of}
use Rattle.store_model.proofs.Maps.{at}
use Rattle.store_model.proofs.MapLaws.{rising-without}
use Rattle.app_totals.specs.Totals.{objects_of}
use Rattle.app_totals.specs.OwnHandles.{HaveOwnHandles}
use Rattle.app_quota.specs.Parts.{part_of, MeetsNoOthers}
use Rattle.app_totals.proofs.Names.{itself}
use Rattle.app_quota.proofs.MapParts.{remove-part, insert-part}
use Rattle.app_quota.proofs.PartSteps.{Stands, Stands-refuse, Stands-unless, Stands-by_right, set_both}
use Rattle.app_totals.proofs.MeantCreates.{create_rows, rows_stay, granted_in_room}
use Rattle.app_quota.proofs.OpenNames.{any_open, all_allows}
use Rattle.app_quota.proofs.PartCalls.{same, handle_own, found, mine, handle_same, name_same, alone-close, alone-info, alone-read, alone-write, alone-truncate, alone-seek, alone-delete, alone-enum_new, alone-enum_reset, alone-enum_free, alone-enum_start, alone-enum_next}
use Rattle.app_quota.specs.Laws.{OwnCallsStandAlone}

module _ (s : MachineState) (i : ℕ) (lt : i < length s.sessions) (handles : HaveOwnHandles s) (sorted : IsStrictlySortedBy name_cmp (keys_of s.objects)) where
  abbrev me : Session
  me = session_at s i

  abbrev app : List ℕ
  app = me.application

  abbrev t : MachineState
  t = part_of app s

  -- names of the application's own
  named : (id : List ℕ) → (name_in s i id).app ≡ app
  named id = refl

  held_same : (name : ObjectName) → name.app ≡ app → holds t.objects name ≡ holds s.objects name
  held_same name its = ap (λ o. elim o [ Some x ↦ true | None ↦ false ]) (found s i lt handles name its)

  opened : (a b : ObjectMap) (name name' : ObjectName) (flags : Flags) → a ≡ objects_of app b → name' ≡ name → Stands s i (open_handle (record s { objects = b }) i name flags) (open_handle (record t { objects = a }) i name' flags)
  opened a b name name' flags objects named = record {
    reply = ap (λ (x : Session). HandleReply x.next_handle) (same s i lt handles);
    next = set_both s i a b _ _ objects
        (λ k. record ((same s i lt handles) k) { handles = ((same s i lt handles) k).handles ++ (((same s i lt handles) k).next_handle, record { name = named k; flags = flags; position = 0 }) ∷ []; next_handle = ((same s i lt handles) k).next_handle + 1 })
        refl;
  }

  abbrev open_rows : Flags → Session → Bool → Bool → Bool → List (Bool × Reply)
  open_rows flags x held allowed damaged =
      (not (is_known flags) || has flags overwrite_bit, Misuse BadFlags)
      ∷ (has_all_handles x, Misuse TooMany)
      ∷ (not held, Refused ItemNotFound)
      ∷ (not allowed, Refused AccessConflict)
      ∷ (damaged, Corrupt)
      ∷ []

  alone-open : (id : List ℕ) (flags : Flags) → Stands s i (open_of s i id flags) (open_of t i id flags)
  unfolding open_of
  alone-open id flags =
      Stands-unless s i (open_refusals s i (name_in s i id) flags) (open_refusals t i (name_in t i id) flags) _ _ rows (opened t.objects s.objects (name_in s i id) (name_in t i id) flags refl (name_same s i lt handles id))
    where
      rows : open_refusals t i (name_in t i id) flags ≡ open_refusals s i (name_in s i id) flags
      rows =
          ap (λ n. open_refusals t i n flags) (name_same s i lt handles id)
          ∙ (λ k. open_rows flags ((same s i lt handles) k) (held_same (name_in s i id) refl k) (all_allows (name_in s i id) flags s.sessions handles k) (is_damaged (found s i lt handles (name_in s i id) refl k)))

  -- a create that is refused for another reason, or is granted
  module _ (id : List ℕ) (flags : Flags) (attributes bytes : List ℕ) (room : MeetsNoOthers s i (Create id flags attributes bytes)) where
    abbrev name : ObjectName
    name = name_in s i id

    abbrev rows : Bool → List (Bool × Reply)
    rows lacks = create_rows flags attributes bytes me (holds s.objects name) (list_any (has_open name) s.sessions) lacks

    create_by : (o : Option Reply) (one other : Outcome) → first_refusal (rows false) ≡ o → Stands s i one other
        → Stands s i (unless_refused (rows (lacks_room s.objects name)) s one) (unless_refused (rows (lacks_room t.objects name)) t other)
    create_by None one other is stands =
        Stands-unless s i (rows (lacks_room s.objects name)) (rows (lacks_room t.objects name)) one other (ap rows (room (granted_in_room s i id flags attributes bytes is))) stands
    create_by (Some x) one other is stands =
        subst (λ (y : Option Reply × Option Reply). Stands s i (elim y.0 [ Some reply ↦ refuse s reply | None ↦ one ]) (elim y.1 [ Some reply ↦ refuse t reply | None ↦ other ]))
        (λ k. (sym (stay (lacks_room s.objects name)) k, sym (stay (lacks_room t.objects name)) k))
        (Stands-refuse s i x)
      where
        stay : (lacks : Bool) → first_refusal (rows lacks) ≡ Some x
        stay lacks = rows_stay flags attributes bytes me (holds s.objects name) (list_any (has_open name) s.sessions) lacks x is

    object : Object
    object = Sound (record { attributes = attributes; bytes = bytes; bad = [] })

    rows-part : create_refusals t i (name_in t i id) flags attributes bytes ≡ rows (lacks_room t.objects name)
    rows-part =
        ap (λ n. create_refusals t i n flags attributes bytes) (name_same s i lt handles id)
        ∙ (λ k. create_rows flags attributes bytes ((same s i lt handles) k) (held_same name refl k) (any_open name s.sessions handles k) (lacks_room t.objects name))

    alone-create : Stands s i (create_of s i id flags attributes bytes) (create_of t i id flags attributes bytes)
    unfolding create_of object
    alone-create =
        subst (λ r. Stands s i (create_of s i id flags attributes bytes) (unless_refused r t (open_handle (record t { objects = with_object t.objects (name_in t i id) object }) i (name_in t i id) (without_overwrite flags))))
        (sym rows-part)
        (create_by (first_refusal (rows false)) _ _ refl
        (opened _ _ name (name_in t i id) (without_overwrite flags)
        (ap (λ n. with_object t.objects n object) (name_same s i lt handles id) ∙ insert-part app name object (itself app) s.objects sorted)
        (name_same s i lt handles id)))

  -- an object of one name has another of the application's
  moved : (old new : ObjectName) → old.app ≡ app → new.app ≡ app → moved_object t.objects old new ≡ objects_of app (moved_object s.objects old new)
  moved old new its news = ap (by t.objects) (found s i lt handles old its) ∙ one (object_at s.objects old)
    where
      by : ObjectMap → Option Object → ObjectMap
      by objects o = elim o [ Some object ↦ with_object (without_object objects old) new object | None ↦ objects ]

      rising : IsStrictlySortedBy name_cmp (keys_of (without_object s.objects old))
      rising = rising-without s.objects (at old) sorted

      one : (o : Option Object) → by t.objects o ≡ objects_of app (by s.objects o)
      one None = refl
      one (Some x) =
          ap (λ m. with_object m new x) (remove-part app (at old) (mine s i lt handles old its) s.objects)
          ∙ insert-part app new x (ap (λ a. is_eq (bytes_cmp app a)) news ∙ itself app) (without_object s.objects old) rising

  alone-rename : (number : ℕ) (id : List ℕ) → Stands s i (rename_of s i number id) (rename_of t i number id)
  unfolding rename_of
  alone-rename number id =
      Stands-by_right s i write_meta_bit (handle_at me number) (handle_at (session_at t i) number) _ _ (handle_same s i lt handles number)
      (λ h e. subst (λ n. Stands s i (done_s h) (done_t h n)) (sym (name_same s i lt handles id))
      (Stands-unless s i ((holds s.objects (name_in s i id), Refused AccessConflict) ∷ []) ((holds t.objects (name_in s i id), Refused AccessConflict) ∷ []) _ _
      (ap (λ b. (b, Refused AccessConflict) ∷ []) (held_same (name_in s i id) refl))
      (record {
        reply = refl;
        next = set_both s i _ _ _ _ (moved h.name (name_in s i id) (handle_own s i lt handles number h e) refl) (ap (λ (x : Session). with_handle x number (record h { name = name_in s i id })) (same s i lt handles)) refl;
      })))
    where
      done_t : Handle → ObjectName → Outcome
      done_t h name =
          unless_refused ((holds t.objects name, Refused AccessConflict) ∷ []) t
          (record {
            reply = Done;
            next = with_session (record t { objects = moved_object t.objects h.name name }) i (with_handle (session_at t i) number (record h { name = name }));
          })

      done_s : Handle → Outcome
      done_s h =
          unless_refused ((holds s.objects (name_in s i id), Refused AccessConflict) ∷ []) s
          (record {
            reply = Done;
            next = with_session (record s { objects = moved_object s.objects h.name (name_in s i id) }) i (with_handle me number (record h { name = name_in s i id }));
          })

  pub stands_alone : (call : Call) → MeetsNoOthers s i call → Stands s i (outcome_of s i call) (outcome_of t i call)
  stands_alone (Create id flags attributes bytes) room = alone-create id flags attributes bytes room
  stands_alone (Open id flags) room = alone-open id flags
  stands_alone (Close handle) room = alone-close s i lt handles handle
  stands_alone (Read handle size) room = alone-read s i lt handles handle size
  stands_alone (Write handle bytes) room = alone-write s i lt handles handle bytes
  stands_alone (Truncate handle size) room = alone-truncate s i lt handles handle size
  stands_alone (Seek handle offset whence) room = alone-seek s i lt handles handle offset whence
  stands_alone (Rename handle id) room = alone-rename handle id
  stands_alone (Delete handle) room = alone-delete s i lt handles handle
  stands_alone (Info handle) room = alone-info s i lt handles handle
  stands_alone EnumNew room = alone-enum_new s i lt handles
  stands_alone (EnumStart number) room = alone-enum_start s i lt handles number
  stands_alone (EnumNext number) room = alone-enum_next s i lt handles number
  stands_alone (EnumReset number) room = alone-enum_reset s i lt handles number
  stands_alone (EnumFree number) room = alone-enum_free s i lt handles number

pub own_same : (s : MachineState) (i : ℕ) → i < length s.sessions → HaveOwnHandles s → session_at (part_of (session_at s i).application s) i ≡ session_at s i
own_same s i lt handles = same s i lt handles

pub own_calls_stand_alone : OwnCallsStandAlone
own_calls_stand_alone s i call lt handles sorted room = let stands = stands_alone s i lt handles sorted call room in (stands.reply, stands.next)
