-- The gate's seat while the seats of files and sessions are split, before the first event.
use Rattle.std.specs.Prelude.{◌≡◌, ◌≤◌, ℕ, false, [], Some, unwrap_or}
use Rattle.atomic_table.specs.Seated.{TableId}
use Rattle.history_seats.specs.Numbers.{is_in}
use Rattle.history_seats.specs.Views.{GateView, Sight, new_gate}
use Rattle.core_laws.specs.Stores.{Store}

-- The table has no other seat than the gate's, which knows nothing.
pub record IsUnused (table : TableId) (seat : Sight GateView) : Type 0 where
  pub table_is : seat.table ≡ table
  pub knows : seat.knows ≡ new_gate

-- No event was appended; if the mount was told, it is the store's. The files from that number on have no seat out, nor has any session.
pub record IsSplitting (store : Store) (view : GateView) (next : ℕ) : Type 0 where
  pub mounted : unwrap_or view.mounted store.mounted ≡ store.mounted
  pub empty : view.all ≡ []
  pub undecided : view.decided ≡ 0
  pub free : (n : ℕ) → next ≤ n → is_in n view.files ≡ false
  pub alone : view.sessions ≡ []

-- The mount is told, and no event was appended. The sessions from that number on have no seat out.
pub record HasTold (store : Store) (view : GateView) (next : ℕ) : Type 0 where
  pub mounted : view.mounted ≡ Some store.mounted
  pub empty : view.all ≡ []
  pub undecided : view.decided ≡ 0
  pub free : (n : ℕ) → next ≤ n → is_in n view.sessions ≡ false
