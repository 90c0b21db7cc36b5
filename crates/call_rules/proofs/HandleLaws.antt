-- The laws of the machine's handles, as they are stated.
use Rattle.call_rules.specs.HandleLaws.{AnsweredHandlesAreWellOpened, CallsKeepWellOpened, LandingsKeepWellOpened, LegalDoubtsAreDue, OpeningsAreWellOpened, ReplaysKeepWellOpened}
use Rattle.call_rules.proofs.CallHandles.{well_opened-after}
use Rattle.call_rules.proofs.LandedHandles.{well_opened-landed}
use Rattle.call_rules.proofs.ReplayHandles.{legal_doubts, well_opened-opening, well_replay-answered, well_replay-replay}

pub openings_are_well_opened : OpeningsAreWellOpened
openings_are_well_opened phase = well_opened-opening phase

pub calls_keep_well_opened : CallsKeepWellOpened
calls_keep_well_opened s i call well = well_opened-after s well i call

pub landings_keep_well_opened : LandingsKeepWellOpened
landings_keep_well_opened s doubt due well = well_opened-landed s doubt due well

pub replays_keep_well_opened : (Root : Type 0) → ReplaysKeepWellOpened Root
replays_keep_well_opened Root s records due well = well_replay-replay s records due well

pub legal_doubts_are_due : (Root : Type 0) → LegalDoubtsAreDue Root
legal_doubts_are_due Root tampered s records legal = legal_doubts tampered s records legal

pub answered_handles_are_well_opened : AnsweredHandlesAreWellOpened
answered_handles_are_well_opened store scenario records answered = well_replay-answered store scenario records answered
