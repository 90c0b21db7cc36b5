-- Maps of objects that agree, entry by entry.
use Rattle.std.proofs.Common.{◌≡◌, ◌⊎◌, inl, inr, ℕ, suc, List, [], ◌∷◌, get_or, Option, Some, None, refl, sym, ap, subst, ◌∙◌}
use Rattle.std.specs.declared.cmp.Ordering.{Ordering}
use Rattle.std.specs.declared.cmp.Ordering.TheVariants.{Less, Equal, Greater}
use Rattle.std.specs.Ordering.{match_ordering}
use Rattle.std.specs.BTreeMap.{insert_entry}
use Rattle.store_model.specs.declared.name.ObjectName.{ObjectName}
use Rattle.store_model.specs.Name.{name_cmp}
use Rattle.store_model.specs.Object.{Object, ObjectMap}
use Rattle.dir_records.specs.declared.entry.DirEntry.{DirEntry}
use Rattle.crash_core.specs.Entries.{name_of}
use Rattle.freshness_laws.specs.Agreement.{MapsAgree, ObjectsAgree}
use Rattle.freshness_laws.specs.SeenStores.{objects_with}

-- what an insertion does, by how the name compares to the first
ins : (k : ObjectName) (v : Object) (e : ObjectName × Object) (es : ObjectMap) (o : Ordering) → name_cmp k e.0 ≡ o
    → insert_entry name_cmp (e ∷ es) k v ≡ match_ordering o ((k, v) ∷ e ∷ es) ((e.0, v) ∷ es) (e ∷ insert_entry name_cmp es k v)
ins k v e es o is = ap (λ c. match_ordering c ((k, v) ∷ e ∷ es) ((e.0, v) ∷ es) (e ∷ insert_entry name_cmp es k v)) is

pub agree_inserted : (m n : ObjectMap) (k : ObjectName) (v w : Object) → ObjectsAgree v w → MapsAgree m n → MapsAgree (insert_entry name_cmp m k v) (insert_entry name_cmp n k w)
agree_inserted [] [] k v w agree same = (refl, agree, tt)
agree_inserted [] (f ∷ n) k v w agree same = absurd same
agree_inserted (e ∷ m) [] k v w agree same = absurd same
agree_inserted (e ∷ m) (f ∷ n) k v w agree same = (elim (name_cmp k e.0) as (λ o. name_cmp k e.0 ≡ o → MapsAgree (insert_entry name_cmp (e ∷ m) k v) (insert_entry name_cmp (f ∷ n) k w)) [
  | Less ↦ λ h.
      let g : name_cmp k f.0 ≡ Less = ap (name_cmp k) same.0 ∙ h in
      subst (λ l. MapsAgree l (insert_entry name_cmp (f ∷ n) k w)) (sym (ins k v e m Less h)) (subst (λ l. MapsAgree ((k, v) ∷ e ∷ m) l) (sym (ins k w f n Less g))
      (refl, agree, same))
  | Equal ↦ λ h.
      let g : name_cmp k f.0 ≡ Equal = ap (name_cmp k) same.0 ∙ h in
      subst (λ l. MapsAgree l (insert_entry name_cmp (f ∷ n) k w)) (sym (ins k v e m Equal h)) (subst (λ l. MapsAgree ((e.0, v) ∷ m) l) (sym (ins k w f n Equal g))
      (same.0, agree, same.2))
  | Greater ↦ λ h.
      let g : name_cmp k f.0 ≡ Greater = ap (name_cmp k) same.0 ∙ h in
      subst (λ l. MapsAgree l (insert_entry name_cmp (f ∷ n) k w)) (sym (ins k v e m Greater h)) (subst (λ l. MapsAgree (e ∷ insert_entry name_cmp m k v) l) (sym (ins k w f n Greater g))
      (same.0, same.1, agree_inserted m n k v w agree same.2))
]) refl

-- the maps of one list of entries, where each object agrees
pub maps_or : (C : Type 0) (one other : DirEntry → Object) (entries : List (Option DirEntry))
    → ((index : ℕ) (e : DirEntry) → get_or entries index None ≡ Some e → ObjectsAgree (one e) (other e) ⊎ C)
    → MapsAgree (objects_with one entries) (objects_with other entries) ⊎ C
maps_or C one other [] each = inl tt
maps_or C one other (None ∷ entries) each = maps_or C one other entries (λ index e at. each (suc index) e at)
maps_or C one other (Some e ∷ entries) each = elim (maps_or C one other entries (λ index f at. each (suc index) f at)) [
  | inr clash ↦ inr clash
  | inl rest ↦ elim (each 0 e refl) [
    | inr clash ↦ inr clash
    | inl agree ↦ inl (agree_inserted (objects_with one entries) (objects_with other entries) (name_of e) (one e) (other e) agree rest)
  ]
]
