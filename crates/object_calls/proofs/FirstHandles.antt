-- Before the first event no session has a handle.
use Rattle.std.proofs.Common.{◌≡◌, ◌==◌, ℕ, zero, suc, List, [], ◌∷◌, map, Option, Some, slice_index_or, refl, sym, ap, ◌∙◌, subst, arith}
use Rattle.std.specs.Map.{lookup}
use Rattle.enumerators.specs.Places.{IsNumbered}
use Rattle.dir_records.specs.declared.entry.DirEntry.{DirEntry}
use Rattle.open_table.specs.declared.table.OpenRecord.{OpenRecord}
use Rattle.open_table.specs.Table.{TableState, record_at}
use Rattle.store_model.specs.declared.session.Handle.{Handle}
use Rattle.store_model.specs.Machine.{Session, handle_at, new_session}
use Rattle.core_laws.proofs.Mending.{none_some}
use Rattle.serial_calls.specs.Numbers.{HasNumbers}
use Rattle.serial_calls.specs.OpenHandles.{AreOpen}

session-new : (applications : List (List ℕ)) (i : ℕ) → (application : List ℕ) × (slice_index_or (map new_session applications) i (new_session []) ≡ new_session application)
session-new [] i = ([], refl)
session-new (x ∷ applications) zero = (x, refl)
session-new (x ∷ applications) (suc i) = session-new applications i

module _ (entries : List (Option DirEntry)) (table : TableState) (applications : List (List ℕ)) (none : table.records ≡ []) where
  no_handle : (i number : ℕ) (h : Handle) → handle_at (slice_index_or (map new_session applications) i (new_session [])) number ≡ Some h → ⊥
  no_handle i number h live =
      let new = session-new applications i in
      none_some h (sym (ap (λ (s : Session). handle_at s number) new.1) ∙ live)

  no_record : (key : ℕ) (r : OpenRecord) → record_at table key ≡ Some r → ⊥
  no_record key r is = none_some r (sym (ap (λ (l : List (ℕ × OpenRecord)). lookup (λ k. k == key) l) none) ∙ is)

  pub first_open : AreOpen entries table (map new_session applications)
  first_open = record {
    each = λ i number h within live. absurd (no_handle i number h live);
    back = λ key r is. absurd (no_record key r is);
    single = λ a b r q is there same handle. absurd (no_record a r is);
    bound = 0;
    keyed = subst (λ (l : List (ℕ × OpenRecord)). IsNumbered 0 l 0) (sym none) (omega arith);
    numbered = λ i. let new = session-new applications i in subst HasNumbers (sym new.1) (omega arith);
  }
