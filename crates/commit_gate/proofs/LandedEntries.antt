-- What is given once the open doubt landed, the gate's view knows.
use Rattle.std.proofs.Common.{◌≡◌, ◌⊎◌, ℕ, Bool, true, List, drop, Option, Some, None, inl, inr, refl, sym, ap, ◌∙◌, subst}
use Rattle.std.specs.Prelude.{unwrap_or}
use Rattle.std.proofs.lemmas.Bool.{cases_Bool, cond-true, cond-false}
use Rattle.history_seats.specs.Records.{HistoryRecord, Version}
use Rattle.history_seats.specs.Mounts.{Mounted}
use Rattle.history_seats.specs.Settling.{IsOpenDoubt, Pending, as_landed, dropped}
use Rattle.history_seats.specs.Versions.{version_of}
use Rattle.history_seats.specs.Directory.{directory_of, given_version, has_entry}
use Rattle.history_seats.specs.Known.{version_from}
use Rattle.history_seats.proofs.Doubts.{marked-settles}
use Rattle.history_seats.proofs.DoubtedEntries.{landed_entry}
use Rattle.history_seats.proofs.Places.{any-at, any_settles}
use Rattle.core_laws.specs.Mapped.{landed_version}
use Rattle.core_laws.proofs.Mending.{none_some}

module _ (mounted : Mounted) (records : List HistoryRecord) (commit z : ℕ) (doubt : IsOpenDoubt commit z records) (file generation : ℕ) where
  abbrev version : Pending (Option Version)
  version = version_of file generation mounted records

  -- the doubt stands at the place or later, so that it leaves what it leaves
  still_open : version_from z file generation mounted records ≡ version_of file generation mounted records
  still_open =
      let settles : any_settles (drop z records) ≡ true =
      subst (λ (l : List HistoryRecord). any_settles (drop z l) ≡ true) doubt.is
      (any-at z doubt.front doubt.doubted doubt.back doubt.late (marked-settles commit doubt.doubted.event doubt.marked)) in
      cond-true (any_settles (drop z records)) version (dropped version) settles

  abbrev has : Bool
  has = has_entry file generation (as_landed (directory_of mounted records)).now

  -- it is given now, or left by the doubt
  pub landed_is_known : (v : Version) → landed_version mounted records file generation ≡ Some v
      → (given_version mounted records file generation ≡ Some v) ⊎ ((version_from z file generation mounted records).if_landed ≡ Some (Some v))
  landed_is_known v given = elim (cases_Bool has) [
    | inl there ↦ by_left there version.if_landed refl (sym (cond-true has (as_landed version).now None there) ∙ given)
    | inr none ↦ absurd (none_some v (sym (cond-false has (as_landed version).now None none) ∙ given))
  ]
    where
      by_left : has ≡ true → (o : Option (Option Version)) → version.if_landed ≡ o → unwrap_or o version.now ≡ Some v
          → (given_version mounted records file generation ≡ Some v) ⊎ ((version_from z file generation mounted records).if_landed ≡ Some (Some v))
      by_left there None none is =
          inl (cond-true (has_entry file generation (directory_of mounted records).now) version.now None (landed_entry file generation mounted records none there) ∙ is)
      by_left there (Some x) some is =
          inr (ap (λ (p : Pending (Option Version)). p.if_landed) still_open ∙ some ∙ ap (λ (o : Option Version). Some o) is)
