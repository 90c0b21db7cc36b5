-- A create over the map with the object of its name alone: what refuses it there refuses it over the whole map, and else it is granted.
use Rattle.std.proofs.Common.{◌≡◌, ◌⊎◌, ℕ, Bool, true, false, cond, not, ◌&&◌, ◌||◌, List, [], ◌∷◌, length, refl, sym, ap, ◌∙◌, inl, inr, Option, Some, None, is_some}
use Rattle.std.specs.Prelude.{nat_lt, nat_le}
use Rattle.std.specs.List.{list_any}
use Rattle.std.specs.Ordering.{is_eq}
use Rattle.std.proofs.lemmas.Cmp.{tied_itself}
use Rattle.tee_types.specs.Limits.{most_attribute_bytes, most_data_bytes}
use Rattle.tee_types.specs.Rights.{has, is_known, overwrite_bit, without_overwrite}
use Rattle.tee_types.specs.declared.flags.Flags.{Flags}
use Rattle.tee_types.specs.declared.call.Call.{Call}
use Rattle.tee_types.specs.declared.call.Call.TheVariants.{Create}
use Rattle.tee_types.specs.declared.reply.Reply.{Reply}
use Rattle.tee_types.specs.declared.reply.Reply.TheVariants.{Misuse, Refused}
use Rattle.tee_types.specs.declared.reply.Code.TheVariants.{AccessConflict, BadParameters, NoSpace}
use Rattle.tee_types.specs.declared.reply.Reason.TheVariants.{BadFlags, TooMany}
use Rattle.store_model.specs.declared.name.ObjectName.{ObjectName}
use Rattle.store_model.specs.Name.{name_cmp}
use Rattle.store_model.specs.Object.{Object, Sound, ObjectMap, most_objects, object_at, holds, with_object}
use Rattle.store_model.specs.Machine.{MachineState, Session, Outcome, session_at, name_in, has_all_handles, first_refusal, refuse}
use Rattle.store_model.specs.Handles.{create_of, create_refusals, has_open, open_handle, lacks_room}
use Rattle.store_model.specs.Calls.{reply_of, is_handle}
use Rattle.store_model.specs.Files.{is_misuse}
use Rattle.store_model.proofs.Maps.{name_cmp_total}
use Rattle.app_totals.specs.Meant.{only_named, meant_reply, is_granted}

-- the rows of refusals of a create
abbrev pub create_rows : Flags → List ℕ → List ℕ → Session → Bool → Bool → Bool → List (Bool × Reply)
create_rows flags attributes bytes session held opened lacks =
    (not (is_known flags), Misuse BadFlags)
    ∷ (has_all_handles session, Misuse TooMany)
    ∷ (nat_lt most_attribute_bytes (length attributes), Refused BadParameters)
    ∷ (held && not (has flags overwrite_bit), Refused AccessConflict)
    ∷ (held && opened, Refused AccessConflict)
    ∷ (nat_lt most_data_bytes (length bytes) || lacks, Refused NoSpace)
    ∷ []

-- what refuses in room refuses in want of it
pub rows_stay : (flags : Flags) (attributes bytes : List ℕ) (session : Session) (held opened lacks : Bool) (x : Reply)
    → first_refusal (create_rows flags attributes bytes session held opened false) ≡ Some x → first_refusal (create_rows flags attributes bytes session held opened lacks) ≡ Some x
rows_stay flags attributes bytes session held opened lacks x =
    six (not (is_known flags)) (has_all_handles session) (nat_lt most_attribute_bytes (length attributes)) (held && not (has flags overwrite_bit)) (held && opened) (nat_lt most_data_bytes (length bytes))
    (Misuse BadFlags) (Misuse TooMany) (Refused BadParameters) (Refused AccessConflict) (Refused AccessConflict) (Refused NoSpace)
  where
    six : (a b c d e f : Bool) (one two three four five last : Reply)
        → first_refusal ((a, one) ∷ (b, two) ∷ (c, three) ∷ (d, four) ∷ (e, five) ∷ (f || false, last) ∷ []) ≡ Some x
        → first_refusal ((a, one) ∷ (b, two) ∷ (c, three) ∷ (d, four) ∷ (e, five) ∷ (f || lacks, last) ∷ []) ≡ Some x
    six true b c d e f one two three four five last h = h
    six false true c d e f one two three four five last h = h
    six false false true d e f one two three four five last h = h
    six false false false true e f one two three four five last h = h
    six false false false false true f one two three four five last h = h
    six false false false false false true one two three four five last h = h
    six false false false false false false one two three four five last h = absurd (cc (h))

-- what is not refused in room is refused in want of it alone
rows_pass : (flags : Flags) (attributes bytes : List ℕ) (session : Session) (held opened lacks : Bool)
    → first_refusal (create_rows flags attributes bytes session held opened false) ≡ None
    → first_refusal (create_rows flags attributes bytes session held opened lacks) ≡ cond lacks (Some (Refused NoSpace)) None
rows_pass flags attributes bytes session held opened lacks =
    six (not (is_known flags)) (has_all_handles session) (nat_lt most_attribute_bytes (length attributes)) (held && not (has flags overwrite_bit)) (held && opened) (nat_lt most_data_bytes (length bytes))
    (Misuse BadFlags) (Misuse TooMany) (Refused BadParameters) (Refused AccessConflict) (Refused AccessConflict) (Refused NoSpace)
  where
    six : (a b c d e f : Bool) (one two three four five last : Reply)
        → first_refusal ((a, one) ∷ (b, two) ∷ (c, three) ∷ (d, four) ∷ (e, five) ∷ (f || false, last) ∷ []) ≡ None
        → first_refusal ((a, one) ∷ (b, two) ∷ (c, three) ∷ (d, four) ∷ (e, five) ∷ (f || lacks, last) ∷ []) ≡ cond lacks (Some last) None
    six true b c d e f one two three four five last h = absurd (cc (h))
    six false true c d e f one two three four five last h = absurd (cc (h))
    six false false true d e f one two three four five last h = absurd (cc (h))
    six false false false true e f one two three four five last h = absurd (cc (h))
    six false false false false true f one two three four five last h = absurd (cc (h))
    six false false false false false true one two three four five last h = absurd (cc (h))
    six false false false false false false one two three four five last h = refl

-- the map with one object, or none
abbrev pub at_most_one : ObjectName → Option Object → ObjectMap
at_most_one name o = elim o [ Some object ↦ (name, object) ∷ [] | None ↦ [] ]

itself : (name : ObjectName) → is_eq (name_cmp name name) ≡ true
itself name = ap is_eq (tied_itself name_cmp_total name)

pub only-at : (objects : ObjectMap) (name : ObjectName) → object_at (only_named objects name) name ≡ object_at objects name
only-at objects name = elim (object_at objects name) as (λ o. object_at (at_most_one name o) name ≡ o) [
  | Some object ↦ ap (λ b. cond b (Some object) None) (itself name)
  | None ↦ refl
]

pub only-lacks : (objects : ObjectMap) (name : ObjectName) → lacks_room (only_named objects name) name ≡ false
only-lacks objects name = elim (object_at objects name) as (λ o. lacks_room (at_most_one name o) name ≡ false) [
  | Some object ↦ ap (λ b. not (is_some (cond b (Some object) None)) && nat_le most_objects 1) (itself name)
  | None ↦ refl
]

module _ (s : MachineState) (i : ℕ) (id : List ℕ) (flags : Flags) (attributes bytes : List ℕ) where
  abbrev name : ObjectName
  name = name_in s i id

  abbrev call : Call
  call = Create id flags attributes bytes

  abbrev rows : Bool → List (Bool × Reply)
  rows lacks = create_rows flags attributes bytes (session_at s i) (holds s.objects name) (list_any (has_open name) s.sessions) lacks

  abbrev over : ObjectMap → MachineState
  over objects = record s { objects = objects }

  abbrev made : ObjectMap → Outcome
  made objects = open_handle (over (with_object objects name (Sound (record { attributes = attributes; bytes = bytes; bad = [] })))) i name (without_overwrite flags)

  abbrev answered : ObjectMap → Option Reply → Outcome
  answered objects o = elim o [ Some reply ↦ refuse (over objects) reply | None ↦ made objects ]

  -- the rows over the map with the object of that name alone
  pub rows-only : create_refusals (over (only_named s.objects name)) i name flags attributes bytes ≡ rows false
  rows-only k =
      create_rows flags attributes bytes (session_at s i) (is_some (only-at s.objects name k)) (list_any (has_open name) s.sessions) (only-lacks s.objects name k)

  meant-is : meant_reply s i call ≡ (answered (only_named s.objects name) (first_refusal (rows false))).reply
  unfolding create_of
  meant-is = ap (λ (r : List (Bool × Reply)). (answered (only_named s.objects name) (first_refusal r)).reply) rows-only

  reply-is : reply_of s i call ≡ (answered s.objects (first_refusal (rows (lacks_room s.objects name)))).reply
  unfolding create_of
  reply-is = refl

  -- what nothing else refuses is granted
  pub granted_in_room : first_refusal (rows false) ≡ None → is_granted s i call ≡ true
  granted_in_room is = ap is_handle (meant-is ∙ ap (λ (o : Option Reply). (answered (only_named s.objects name) o).reply) is)

  -- what something else refuses is meant to be refused so
  pub refused_in_room : (x : Reply) → first_refusal (rows false) ≡ Some x → meant_reply s i call ≡ x
  refused_in_room x is = meant-is ∙ ap (λ (o : Option Reply). (answered (only_named s.objects name) o).reply) is

  -- the create is refused alike, or granted
  pub meant_create : (meant_reply s i call ≡ reply_of s i call) ⊎ (is_granted s i call ≡ true)
  meant_create = one (first_refusal (rows false)) refl
    where
      one : (o : Option Reply) → first_refusal (rows false) ≡ o → (meant_reply s i call ≡ reply_of s i call) ⊎ (is_granted s i call ≡ true)
      one None is = inr (granted_in_room is)
      one (Some x) is = inl (
          meant-is
          ∙ ap (λ (o : Option Reply). (answered (only_named s.objects name) o).reply) is
          ∙ sym (reply-is ∙ ap (λ (o : Option Reply). (answered s.objects o).reply)
          (rows_stay flags attributes bytes (session_at s i) (holds s.objects name) (list_any (has_open name) s.sessions) (lacks_room s.objects name) x is)))

  pub misuse_create : is_misuse (meant_reply s i call) ≡ is_misuse (reply_of s i call)
  misuse_create = one (first_refusal (rows false)) refl
    where
      lacking : (lacks : Bool) → is_misuse (answered s.objects (cond lacks (Some (Refused NoSpace)) None)).reply ≡ false
      lacking true = refl
      lacking false = refl

      one : (o : Option Reply) → first_refusal (rows false) ≡ o → is_misuse (meant_reply s i call) ≡ is_misuse (reply_of s i call)
      one None is =
          ap is_misuse (meant-is ∙ ap (λ (o : Option Reply). (answered (only_named s.objects name) o).reply) is)
          ∙ sym (ap is_misuse reply-is
          ∙ ap (λ (o : Option Reply). is_misuse (answered s.objects o).reply)
          (rows_pass flags attributes bytes (session_at s i) (holds s.objects name) (list_any (has_open name) s.sessions) (lacks_room s.objects name) is)
          ∙ lacking (lacks_room s.objects name))
      one (Some x) is =
          ap is_misuse (meant-is ∙ ap (λ (o : Option Reply). (answered (only_named s.objects name) o).reply) is)
          ∙ sym (ap is_misuse reply-is ∙ ap (λ (o : Option Reply). is_misuse (answered s.objects o).reply)
          (rows_stay flags attributes bytes (session_at s i) (holds s.objects name) (list_any (has_open name) s.sessions) (lacks_room s.objects name) x is))

  -- a create that gives a handle is granted
  pub handles_are_granted : is_handle (reply_of s i call) ≡ true → is_granted s i call ≡ true
  handles_are_granted given = elim meant_create [
    | inl same ↦ ap is_handle same ∙ given
    | inr granted ↦ granted
  ]
