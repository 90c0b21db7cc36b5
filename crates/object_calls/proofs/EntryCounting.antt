-- How many objects the entries name.
use Rattle.std.proofs.Common.{◌≡◌, ◌∙◌, ◌+◌, ◌<◌, ◌≤◌, ℕ, suc, Bool, true, false, cond, take, List, [], ◌∷◌, length, get_or, is_some, Option, Some, None, refl, sym, ap, subst, is_eq, arith, true≢false}
use Rattle.std.specs.Prelude.{count_by}
use Rattle.std.specs.Int.{from_bool}
use Rattle.std.specs.Option.{option_map}
use Rattle.std.specs.declared.cmp.Ordering.TheVariants.{Less, Equal, Greater}
use Rattle.std.proofs.lemmas.List.{take_all}
use Rattle.std.proofs.lemmas.List.Sums.{count_by_more_no, count_by_more_yes, length-filter, sum_by-cons}
use Rattle.hmac_keys.specs.declared.Keys.{Keys}
use Rattle.store_model.specs.declared.name.ObjectName.{ObjectName}
use Rattle.store_model.specs.Name.{name_cmp}
use Rattle.store_model.specs.Enumerating.{is_of}
use Rattle.store_model.specs.Object.{Object, ObjectMap, holds, object_at, with_object}
use Rattle.app_totals.specs.EntryTotals.{is_entry_of}
use Rattle.app_totals.specs.Totals.{objects_of}
use Rattle.app_totals.proofs.Weights.{one_of, one_of-by_name, weigh-with}
use Rattle.dir_records.specs.declared.entry.DirEntry.{DirEntry}
use Rattle.crash_core.specs.Entries.{name_of}
use Rattle.crash_core.specs.EntryLists.{AreDistinct, entry_at}
use Rattle.crash_core.specs.Mounting.{Held, all_held_in, held_in, map_of}
use Rattle.crash_core.proofs.EntryMaps.{Lacks, ins, rest_lacks}
use Rattle.crash_core.proofs.Lists.{map_at}

-- one more object under a name that the map lacks
length-inserted : (m : ObjectMap) (a : ObjectName) (x : Object) → Lacks a m → length (with_object m a x) ≡ length m + 1
length-inserted [] a x lacks = refl
length-inserted (e ∷ m) a x lacks = (elim (name_cmp a e.0) as (λ o. name_cmp a e.0 ≡ o → length (with_object (e ∷ m) a x) ≡ length (e ∷ m) + 1) [
  | Less ↦ λ h. ap length (ins a x e m Less h) ∙ omega arith
  | Equal ↦ λ h. absurd (true≢false (sym (ap is_eq h) ∙ lacks.0))
  | Greater ↦ λ h. let more = length-inserted m a x lacks.1 in ap length (ins a x e m Greater h) ∙ omega (arith, more)
]) refl

module _ (keys : Keys) (images : ℕ → List ℕ) where
  -- what is held at a place has the entry's name
  named_alike : (o : Option DirEntry) (y : Held) → option_map (held_in keys images) o ≡ Some y → (e : DirEntry) × (o ≡ Some e) × (e ≡ y.entry)
  named_alike None y is = absurd (cc (is))
  named_alike (Some e) y is = let same : held_in keys images e ≡ y = cc (is) in (e, refl, ap (λ (h : Held). h.entry) same)

  lacks_rest : (e : DirEntry) (entries : List (Option DirEntry)) → AreDistinct (Some e ∷ entries) → Lacks (name_of e) (map_of (all_held_in keys images entries))
  lacks_rest e entries apart =
      rest_lacks (all_held_in keys images (Some e ∷ entries)) 0 (name_of e) (λ other y ne at.
      let found = named_alike (entry_at (Some e ∷ entries) other) y (sym (map_at (option_map (held_in keys images)) (Some e ∷ entries) other refl) ∙ at) in
      ap (λ (x : DirEntry). is_eq (name_cmp (name_of e) (name_of x))) (sym found.2) ∙ apart 0 e refl other found.0 ne found.1)

  apart_behind : (x : Option DirEntry) (entries : List (Option DirEntry)) → AreDistinct (x ∷ entries) → AreDistinct entries
  apart_behind x entries apart index e at other f ne there = apart (suc index) e at (suc other) f (λ same. ne (omega (arith, same))) there

  -- the map has an object for each entry
  pub length-map_of : (entries : List (Option DirEntry)) → AreDistinct entries → length (map_of (all_held_in keys images entries)) ≡ count_by is_some entries
  length-map_of [] apart = refl
  length-map_of (None ∷ entries) apart = length-map_of entries (apart_behind None entries apart)
  length-map_of (Some e ∷ entries) apart =
      let rest = length-map_of entries (apart_behind (Some e) entries apart) in
      let step : count_by is_some (Some e ∷ entries) ≡ 1 + count_by is_some entries = sum_by-cons (λ o. cond (is_some o) 1 0) (Some e) entries in
      length-inserted (map_of (all_held_in keys images entries)) (name_of e) _ (lacks_rest e entries apart) ∙ omega (arith, rest, step)

-- a name that the map lacks is not held
free-lacked : (m : ObjectMap) (a : ObjectName) → Lacks a m → holds m a ≡ false
free-lacked [] a lacks = refl
free-lacked (e ∷ m) a lacks = ap (λ (b : Bool). is_some (cond b (Some e.1) (object_at m a))) lacks.0 ∙ free-lacked m a lacks.1

module _ (app : List ℕ) (keys : Keys) (images : ℕ → List ℕ) where
  weigh-held : (e : DirEntry) (m : ObjectMap) → Lacks (name_of e) m
      → length (objects_of app (with_object m (name_of e) (held_in keys images e).object)) ≡ length (objects_of app m) + cond (is_entry_of app (Some e)) 1 0
  weigh-held e m lacks =
      let object = (held_in keys images e).object in
      let more = length-filter (is_of app) (with_object m (name_of e) object) in
      let before = length-filter (is_of app) m in
      let one = weigh-with (one_of app) (one_of-by_name app) (name_of e) object m (free-lacked m (name_of e) lacks) in
      omega (arith, more, before, one)

  -- the map has an object of the application for each entry of one
  pub length-objects_of : (entries : List (Option DirEntry)) → AreDistinct entries → length (objects_of app (map_of (all_held_in keys images entries))) ≡ count_by (is_entry_of app) entries
  length-objects_of [] apart = refl
  length-objects_of (None ∷ entries) apart = length-objects_of entries (apart_behind keys images None entries apart)
  length-objects_of (Some e ∷ entries) apart =
      let rest = length-objects_of entries (apart_behind keys images (Some e) entries apart) in
      let step : count_by (is_entry_of app) (Some e ∷ entries) ≡ cond (is_entry_of app (Some e)) 1 0 + count_by (is_entry_of app) entries =
      sum_by-cons (λ (o : Option DirEntry). cond (is_entry_of app o) 1 0) (Some e) entries in
      let more = weigh-held e (map_of (all_held_in keys images entries)) (lacks_rest keys images e entries apart) in
      omega (arith, rest, step, more)

-- so many of the first entries are not free
pub record IsCount (entries : List (Option DirEntry)) (index count : ℕ) : Type 0 where
  pub is : count ≡ count_by is_some (take index entries)
  pub few : count ≤ index

pub count_none : (entries : List (Option DirEntry)) → IsCount entries 0 0
count_none entries = record { is = refl; few = omega arith }

module _ (entries : List (Option DirEntry)) (index count : ℕ) (before : IsCount entries index count) (lt : index < length entries) where
  pub count_more : is_some (get_or entries index None) ≡ true → IsCount entries (index + 1) (count + 1)
  count_more is = record {
    is = ap (λ (n : ℕ). n + 1) before.is ∙ sym (count_by_more_yes is_some entries index None lt is);
    few = omega (arith, before.few);
  }

  pub count_same : is_some (get_or entries index None) ≡ false → IsCount entries (index + 1) count
  count_same is = record {
    is = before.is ∙ sym (count_by_more_no is_some entries index None lt is);
    few = omega (arith, before.few);
  }

pub count_next : (entries : List (Option DirEntry)) (index count : ℕ) (b : Bool) → IsCount entries index count → index < length entries → is_some (get_or entries index None) ≡ b → IsCount entries (index + 1) (count + from_bool b)
count_next entries index count true before lt is = count_more entries index count before lt is
count_next entries index count false before lt is = let same : count + 0 ≡ count = omega arith in subst (IsCount entries (index + 1)) (sym same) (count_same entries index count before lt is)

pub count_whole : (entries : List (Option DirEntry)) (index count : ℕ) → IsCount entries index count → length entries ≡ index → count ≡ count_by is_some entries
count_whole entries index count counted long = counted.is ∙ ap (count_by is_some) (take_all index entries (omega (arith, long)))
