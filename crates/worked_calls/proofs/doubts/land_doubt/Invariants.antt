use Rattle.std.proofs.Common.{None}
use Rattle.history_seats.specs.Views.{no_mount}
use Rattle.worked_calls.proofs.doubts.land_doubt.Given as goal

abbrev pub ghost-split_pass : goal.ghost-split_pass
ghost-split_pass a = no_mount

abbrev pub ghost-split_slot : goal.ghost-split_slot
ghost-split_slot a = no_mount

abbrev pub ghost-append : goal.ghost-append
ghost-append a = record { committed = None; doubted = None }
