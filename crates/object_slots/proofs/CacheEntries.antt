-- The pages in a cache, as its entries.
use Rattle.std.proofs.Common.{◌≡◌, ◌⊎◌, inl, inr, ◌∙◌, ℕ, List, [], Result, Ok, Err, Option, Some, nat_eq, sym, ap, subst}
use Rattle.std.proofs.lemmas.Bool.{eqb-true}
use Rattle.std.specs.Prelude.{Contains, OnErr, OnOk}
use Rattle.std.specs.Map.{lookup}
use Rattle.core_laws.proofs.Contained.{contains_mapped, contains_none, mapped_contains}
use Rattle.lru.specs.LruCache.{LruCache, lru_cache, promoted, put_entries}
use Rattle.lru.proofs.CallerLemmas.{Contains-lookup, Contains-promoted, Contains-put_entries, IsPut}
use Rattle.object_slots.specs.CachedPages.{kept_in, pages_of}

-- what a cache of some pages keeps
pub kept_some : {V : Type 0} (held : Option (LruCache ℕ V)) (bytes : V → List ℕ) (cache : LruCache ℕ V) (shown : List (ℕ × List ℕ))
    → held ≡ Some cache → kept_in held bytes ≡ shown → pages_of cache.entries bytes ≡ shown
kept_some held bytes cache shown is view = sym (ap (λ h. kept_in h bytes) is) ∙ view

module _ {V : Type 0} (entries : List (ℕ × V)) (bytes : V → List ℕ) where
  abbrev shown_as : ℕ × V → ℕ × List ℕ
  shown_as e = (e.0, bytes e.1)

  -- what is found is there
  pub found_page : (k : ℕ) (v : V) → Some v ≡ lookup (nat_eq k) entries → Contains (pages_of entries bytes) (k, bytes v)
  found_page k v found =
      let at = Contains-lookup (nat_eq k) entries v (sym found) in
      let same : at.0 ≡ k = sym (eqb-true k at.0 at.2) in
      subst (λ (j : ℕ). Contains (pages_of entries bytes) (j, bytes v)) same (contains_mapped shown_as entries (at.0, v) at.1)

  -- another order has the same pages
  pub promoted_pages : (k cap : ℕ) (new : LruCache ℕ V) → new ≡ lru_cache (promoted (nat_eq k) entries) cap
      → (e : ℕ × List ℕ) → Contains (pages_of new.entries bytes) e → Contains (pages_of entries bytes) e
  promoted_pages k cap new is e has =
      let at = mapped_contains shown_as (promoted (nat_eq k) entries) e (subst (λ (c : LruCache ℕ V). Contains (pages_of c.entries bytes) e) is has) in
      subst (λ (x : ℕ × List ℕ). Contains (pages_of entries bytes) x) at.2 (contains_mapped shown_as entries at.0 (Contains-promoted (nat_eq k) entries at.0 at.1))

module _ {V : Type 0} (old new : LruCache ℕ V) (bytes : V → List ℕ) (k : ℕ) (v : V) where
  put_key : (e : ℕ × V) → IsPut nat_eq old k v e → e.0 ≡ k
  put_key e put = elim put.1 [ inl same ↦ same | inr was ↦ sym (eqb-true k e.0 was.2) ]

  put_case : (e : ℕ × List ℕ) (x : ℕ × V) → shown_as old.entries bytes x ≡ e → Contains old.entries x ⊎ IsPut nat_eq old k v x → Contains (pages_of old.entries bytes) e ⊎ (e ≡ (k, bytes v))
  put_case e x is (inl was) =
      inl (subst (λ (y : ℕ × List ℕ). Contains (pages_of old.entries bytes) y) is (contains_mapped (shown_as old.entries bytes) old.entries x was))
  put_case e x is (inr put) = let key = put_key x put in let value = put.0 in inr (sym is ∙ (λ i. (key i, bytes (value i))))

  -- each page after one was put, or left out, was there or is that one
  pub put_pages : {A E : Type 0} (result : Result A E) → OnOk result (new ≡ lru_cache (put_entries nat_eq old k v) old.cap) → OnErr result (new ≡ old)
      → (e : ℕ × List ℕ) → Contains (pages_of new.entries bytes) e → Contains (pages_of old.entries bytes) e ⊎ (e ≡ (k, bytes v))
  put_pages (Ok answer) done left e has =
      let now : Contains (pages_of (put_entries nat_eq old k v) bytes) e = subst (λ (c : LruCache ℕ V). Contains (pages_of c.entries bytes) e) done has in
      let at = mapped_contains (shown_as old.entries bytes) (put_entries nat_eq old k v) e now in
      put_case e at.0 at.2 (Contains-put_entries nat_eq old k v at.0 at.1)
  put_pages (Err failed) done left e has = inl (subst (λ (c : LruCache ℕ V). Contains (pages_of c.entries bytes) e) left has)

  -- in an empty cache it is that one
  pub put_alone : (cap : ℕ) → old ≡ lru_cache [] cap → ((e : ℕ × List ℕ) → Contains (pages_of new.entries bytes) e → Contains (pages_of old.entries bytes) e ⊎ (e ≡ (k, bytes v)))
      → (e : ℕ × List ℕ) → Contains (pages_of new.entries bytes) e → e ≡ (k, bytes v)
  put_alone cap none put e has = elim (put e has) [
    | inl was ↦ absurd (contains_none e (subst (λ (c : LruCache ℕ V). Contains (pages_of c.entries bytes) e) none was))
    | inr is ↦ is
  ]
