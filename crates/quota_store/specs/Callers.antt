-- A session under quotas: its caller's half of the seat, and what its application may have.
use Rattle.app_totals.specs.declared.numbers.Totals.{Totals}
use Rattle.shared_store.specs.CallerSessions.{CallerSession}

-- the session, with what its caller's half knows in the place of its seat; and the limit
pub record QuotaCaller (E : Type 0) : Type 0 where
  pub caller : CallerSession E
  pub limit : Totals
