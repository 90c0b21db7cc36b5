-- What the resolving of a doubt leaves behind the lock.
use Rattle.std.specs.Prelude.{◌≡◌, Option, Some, None, Result, Ok, Err}
use Rattle.open_table.specs.Table.{TableState}
use Rattle.tee_types.specs.declared.reply.Cause.{Cause}
use Rattle.history_seats.specs.Views.{GateView}
use Rattle.history_seats.specs.Changes.{doubt_dropped, landing_of, with_record}
use Rattle.open_table.specs.HandleChanges.{DropsHandle}
use Rattle.store_commit.specs.declared.resolve.Resolved.{Resolved}
use Rattle.store_commit.specs.declared.resolve.Resolved.TheVariants.{Landed, Dropped}
use Rattle.commit_gate.specs.declared.guarded_gate.Closing.{Closing}

-- a landing is an event; a doubt that is dropped never lands
abbrev pub view_settled : Result Resolved Cause → GateView → GateView
view_settled (Ok (Landed n)) knows = with_record (landing_of n) knows
view_settled (Ok (Dropped n)) knows = doubt_dropped knows
view_settled (Err cause) knows = knows

-- the handle's record goes
abbrev pub Closes : Option Closing → (old new : TableState) → Type 0
Closes None old new = new.records ≡ old.records
Closes (Some c) old new = DropsHandle old new c.session c.handle

-- a landing closes the handle
abbrev pub ClosesIfLanded : Result Resolved Cause → Option Closing → (old new : TableState) → Type 0
ClosesIfLanded (Ok (Landed n)) closing old new = Closes closing old new
ClosesIfLanded _ closing old new = new ≡ old

abbrev pub closing_left : Result Resolved Cause → Option Closing → Option Closing
closing_left (Ok how) closing = None
closing_left (Err cause) closing = closing
