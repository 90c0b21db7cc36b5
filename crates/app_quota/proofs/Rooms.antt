-- The limit of all applications' objects is met by no create that quotas let through.
use Rattle.std.proofs.Common.{◌≡◌, ℕ, ◌+◌, ◌<◌, ◌≤◌, Bool, true, false, true≢false, cond, not, ◌&&◌, ◌||◌, List, [], ◌∷◌, length, refl, sym, ap, ◌∙◌, Some, is_some, arith}
use Rattle.std.specs.Prelude.{nat_lt, nat_le}
use Rattle.std.proofs.lemmas.Bool.Decides.{nat_tests}
use Rattle.std.specs.declared.cmp.Ordering.TheVariants.{Less, Equal, Greater}
use Rattle.std.specs.Ordering.{is_eq}
use Rattle.std.specs.Map.{lookup}
use Rattle.std.specs.BTreeMap.{insert_entry}
use Rattle.tee_types.specs.declared.call.Call.TheVariants.{Create, Open, Close, Read, Write, Truncate, Seek, Rename, Delete, Info, EnumNew, EnumStart, EnumNext, EnumReset, EnumFree}
use Rattle.store_model.specs.declared.name.ObjectName.{ObjectName}
use Rattle.store_model.specs.Name.{name_cmp}
use Rattle.store_model.specs.Object.{Object, Sound, ObjectMap, holds, with_object, most_objects}
use Rattle.store_model.specs.Machine.{session_at, name_in}
use Rattle.store_model.specs.Handles.{lacks_room}
use Rattle.store_model.proofs.Maps.{at, insert_entry-less, insert_entry-greater}
use Rattle.app_totals.specs.Totals.{objects_of}
use Rattle.app_totals.specs.Meant.{meant_objects, held_by, left_by}
use Rattle.app_quota.specs.Commitments.{others_of, claim_of}
use Rattle.app_quota.specs.Laws.{LetThroughMeetsNoOthers, QuotasLeaveRoom}
use Rattle.app_totals.proofs.Names.{itself}
use Rattle.app_quota.proofs.MapParts.{own, own_alike, lookup-part, insert-part}
use Rattle.app_quota.proofs.AppCounts.{has_room}

-- one more object under a name that is not held
long-with : (m : ObjectMap) (name : ObjectName) (x : Object) → holds m name ≡ false → length (insert_entry name_cmp m name x) ≡ length m + 1
long-with [] name x free = refl
long-with (e ∷ m) name x free = (elim (name_cmp name e.0) as (λ o. name_cmp name e.0 ≡ o → length (insert_entry name_cmp (e ∷ m) name x) ≡ length (e ∷ m) + 1) [
  | Less ↦ λ h. ap length (insert_entry-less name x e m h) ∙ omega arith
  | Equal ↦ λ h. absurd (true≢false (ap (λ o. is_some (cond (is_eq o) (Some e.1) (lookup (at name) m))) (sym h) ∙ free))
  | Greater ↦ λ h.
      let rest = long-with m name x (ap (λ o. is_some (cond (is_eq o) (Some e.1) (lookup (at name) m))) (sym h) ∙ free) in
      ap length (insert_entry-greater name x e m h) ∙ omega (arith, rest)
]) refl

fewer : (app : List ℕ) (m : ObjectMap) → length (objects_of app m) ≤ length m
fewer app [] = omega arith
fewer app (e ∷ m) = let rest = fewer app m in elim (own app e.0) as (λ b. length (cond b (e ∷ objects_of app m) (objects_of app m)) ≤ length (e ∷ m)) [
  | true ↦ omega (arith, rest)
  | false ↦ omega (arith, rest)
]

few : (n : ℕ) → n < 256 → nat_le 256 n ≡ false
few n lt = grind (arith, nat_tests)

-- what is not beyond does not rise above
pub stays_within : (limit before after before_bytes after_bytes limit_bytes : ℕ) → before < after
    → ((nat_lt before after && nat_lt limit after) || (nat_lt before_bytes after_bytes && nat_lt limit_bytes after_bytes)) ≡ false → after ≤ limit
stays_within limit before after before_bytes after_bytes limit_bytes rises within = first (nat_lt before after) (nat_lt limit after) _ within (is-lt before after rises)
  where
    is-lt : (a b : ℕ) → a < b → nat_lt a b ≡ true
    is-lt a b lt = grind (arith, nat_tests)

    not-lt : nat_lt limit after ≡ false → after ≤ limit
    not-lt h = grind (arith, nat_tests, h)

    first : (a b c : Bool) → ((a && b) || c) ≡ false → a ≡ true → after ≤ limit
    first true b c h e = not-lt (grind (arith, nat_tests, h))
    first false b c h e = absurd (true≢false (sym e))

pub let_through_meets_no_others : LetThroughMeetsNoOthers
let_through_meets_no_others limits s i (Create id flags attributes bytes) lt sorted within room = λ granted.
    (elim (holds s.objects name) as (λ b. holds s.objects name ≡ b → lacks_room (objects_of app s.objects) name ≡ lacks_room s.objects name) [
      | true ↦ λ held.
          ap (λ b. not b && nat_le most_objects (length (objects_of app s.objects))) (same ∙ held)
          ∙ sym (ap (λ b. not b && nat_le most_objects (length s.objects)) held)
      | false ↦ λ free.
          let more : length (objects_of app (meant_objects s i (Create id flags attributes bytes))) ≡ length (objects_of app s.objects) + 1 =
          ap (λ b. length (objects_of app (cond b (with_object s.objects name object) s.objects))) granted
          ∙ ap length (sym (insert-part app name object (itself app) s.objects sorted))
          ∙ long-with (objects_of app s.objects) name object (same ∙ free) in
          let less = stays_within (limits app).objects (length (objects_of app s.objects)) (length (objects_of app (meant_objects s i (Create id flags attributes bytes)))) (held_by s i).bytes (left_by s i (Create id flags attributes bytes)).bytes (limits (session_at s i).application).bytes (omega (arith, more)) within in
          let all : length s.objects < 256 = room (omega (arith, more, less)) in
          let part = fewer app s.objects in
          ap (λ b. not (holds (objects_of app s.objects) name) && b) (few (length (objects_of app s.objects)) (omega (arith, all, part)))
          ∙ none (holds (objects_of app s.objects) name)
          ∙ sym (ap (λ b. not (holds s.objects name) && b) (few (length s.objects) all) ∙ none (holds s.objects name))
    ]) refl
  where
    name : ObjectName
    name = name_in s i id

    app : List ℕ
    app = (session_at s i).application

    object : Object
    object = Sound (record { attributes = attributes; bytes = bytes; bad = [] })

    same : holds (objects_of app s.objects) name ≡ holds s.objects name
    same = ap is_some (lookup-part app (at name) (λ n hit. own_alike app name n true (itself app) hit) s.objects)

    none : (b : Bool) → (not b && false) ≡ false
    none true = refl
    none false = refl
let_through_meets_no_others limits s i (Open id flags) lt sorted within room = tt
let_through_meets_no_others limits s i (Close handle) lt sorted within room = tt
let_through_meets_no_others limits s i (Read handle size) lt sorted within room = tt
let_through_meets_no_others limits s i (Write handle bytes) lt sorted within room = tt
let_through_meets_no_others limits s i (Truncate handle size) lt sorted within room = tt
let_through_meets_no_others limits s i (Seek handle offset whence) lt sorted within room = tt
let_through_meets_no_others limits s i (Rename handle id) lt sorted within room = tt
let_through_meets_no_others limits s i (Delete handle) lt sorted within room = tt
let_through_meets_no_others limits s i (Info handle) lt sorted within room = tt
let_through_meets_no_others limits s i EnumNew lt sorted within room = tt
let_through_meets_no_others limits s i (EnumStart number) lt sorted within room = tt
let_through_meets_no_others limits s i (EnumNext number) lt sorted within room = tt
let_through_meets_no_others limits s i (EnumReset number) lt sorted within room = tt
let_through_meets_no_others limits s i (EnumFree number) lt sorted within room = tt

pub quotas_leave_room : QuotasLeaveRoom
quotas_leave_room limits apps opening objects app apart among fits others each below =
    has_room apps (claim_of limits opening) (length (others_of apps opening)) app objects apart among others each (omega (arith, below)) fits
