-- What names and sizes tell of a map: an application's totals, and how a change moves them.
use Rattle.std.proofs.Common.{◌≡◌, ◌+◌, ℕ, true, false, cond, List, [], ◌∷◌, length, filter, refl, sym, ap, ◌∙◌, Option, Some, None}
use Rattle.std.specs.Prelude.{sum_by}
use Rattle.std.specs.Option.{option_map}
use Rattle.std.specs.Ordering.{is_eq}
use Rattle.std.specs.Map.{set_value, remove_entry}
use Rattle.std.specs.BTreeMap.{insert_entry}
use Rattle.std.proofs.lemmas.List.{length-replicate}
use Rattle.std.proofs.lemmas.List.Sums.{sum_by-cons}
use Rattle.tee_types.specs.Identifier.{bytes_cmp}
use Rattle.store_model.specs.declared.name.ObjectName.{ObjectName}
use Rattle.store_model.specs.Name.{name_cmp}
use Rattle.store_model.specs.Object.{Object, Sound, Damaged, ObjectMap, size_of, object_at, with_object, changed_object, without_object, moved_object}
use Rattle.store_model.specs.Enumerating.{is_of}
use Rattle.store_model.proofs.Maps.{at}
use Rattle.store_model.proofs.MapLaws.{mapped, mapped-with, mapped-without, mapped-changed}
use Rattle.store_model.proofs.Closeness.{listing, same-sizes, same-length}
use Rattle.app_totals.specs.Totals.{objects_of, data_bytes, totals_of}
use Rattle.app_totals.specs.Meant.{sound_object}

-- the sizes of a map
abbrev sizes : List (ObjectName × ℕ) → ℕ
sizes entries = sum_by (λ (e : ObjectName × ℕ). e.1) entries

data_bytes-listing : (m : ObjectMap) → data_bytes m ≡ sizes (listing m)
data_bytes-listing [] = refl
data_bytes-listing (e ∷ m) =
    sum_by-cons (λ (x : ObjectName × Object). size_of x.1) e m
    ∙ ap (λ n. size_of e.1 + n) (data_bytes-listing m)
    ∙ sym (sum_by-cons (λ (x : ObjectName × ℕ). x.1) (e.0, size_of e.1) (listing m))

-- the application's part of a listing
abbrev own_listing : List ℕ → List (ObjectName × ℕ) → List (ObjectName × ℕ)
own_listing app entries = filter (λ (e : ObjectName × ℕ). is_eq (bytes_cmp app (e.0).app)) entries

listing-objects_of : (app : List ℕ) (m : ObjectMap) → listing (objects_of app m) ≡ own_listing app (listing m)
listing-objects_of app [] = refl
listing-objects_of app (e ∷ m) = elim (is_of app e) as (λ b. listing (cond b (e ∷ objects_of app m) (objects_of app m)) ≡ cond b ((e.0, size_of e.1) ∷ own_listing app (listing m)) (own_listing app (listing m))) [
  | true ↦ ap (λ l. (e.0, size_of e.1) ∷ l) (listing-objects_of app m)
  | false ↦ listing-objects_of app m
]

-- Maps of one listing have the same totals.
pub totals_of-listing : (app : List ℕ) (a b : ObjectMap) → listing b ≡ listing a → totals_of app b ≡ totals_of app a
totals_of-listing app a b listed k = record { objects = count k; bytes = bytes k }
  where
    own : listing (objects_of app b) ≡ listing (objects_of app a)
    own = listing-objects_of app b ∙ ap (own_listing app) listed ∙ sym (listing-objects_of app a)

    count : length (objects_of app b) ≡ length (objects_of app a)
    count = same-length (objects_of app a) (objects_of app b) own

    bytes : data_bytes (objects_of app b) ≡ data_bytes (objects_of app a)
    bytes = data_bytes-listing (objects_of app b) ∙ ap sizes own ∙ sym (data_bytes-listing (objects_of app a))

-- objects as if they were sound have their sizes
pub size_of-sound : (x : Object) → size_of (sound_object x) ≡ size_of x
size_of-sound (Sound c) = refl
size_of-sound (Damaged n) = length-replicate n 0

pub listing-sound : (m : ObjectMap) → listing (mapped sound_object m) ≡ listing m
listing-sound [] = refl
listing-sound (e ∷ m) = λ k. (e.0, size_of-sound e.1 k) ∷ listing-sound m k

-- two maps of one listing have one after the same change
module _ (a b : ObjectMap) (listed : listing b ≡ listing a) where
  pub listing-with : (name : ObjectName) (x : Object) → listing (with_object b name x) ≡ listing (with_object a name x)
  listing-with name x = mapped-with size_of name x b ∙ ap (λ l. insert_entry name_cmp l name (size_of x)) listed ∙ sym (mapped-with size_of name x a)

  pub listing-changed : (name : ObjectName) (x y : Object) → size_of y ≡ size_of x → listing (changed_object b name y) ≡ listing (changed_object a name x)
  listing-changed name x y size =
      mapped-changed size_of (at name) y b
      ∙ (λ k. set_value (at name) (listed k) (size k))
      ∙ sym (mapped-changed size_of (at name) x a)

  pub listing-without : (name : ObjectName) → listing (without_object b name) ≡ listing (without_object a name)
  listing-without name = mapped-without size_of (at name) b ∙ ap (λ l. remove_entry (at name) l) listed ∙ sym (mapped-without size_of (at name) a)

  abbrev moved_to : ObjectName → ObjectName → ObjectMap → Option Object → ObjectMap
  moved_to old new m o = elim o [ Some object ↦ with_object (without_object m old) new object | None ↦ m ]

  pub listing-moved : (old new : ObjectName) → listing (moved_object b old new) ≡ listing (moved_object a old new)
  listing-moved old new = one (object_at a old) (object_at b old) (same-sizes a b listed old)
    where
      one : (o p : Option Object) → option_map size_of p ≡ option_map size_of o → listing (moved_to old new b p) ≡ listing (moved_to old new a o)
      one None None same = listed
      one None (Some y) same = absurd (cc (same))
      one (Some x) None same = absurd (cc (same))
      one (Some x) (Some y) same =
          let size : size_of y ≡ size_of x = cc (same) in
          mapped-with size_of new y (without_object b old)
          ∙ (λ k. insert_entry name_cmp (listing-without old k) new (size k))
          ∙ sym (mapped-with size_of new x (without_object a old))
