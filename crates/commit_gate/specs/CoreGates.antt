-- The gate of a store as the gate's part of the core machine, over a port that tells its card.
use Rattle.std.specs.Prelude.{◌==◌, ◌+◌, ℕ, Bool, false, if◌then◌else◌, List, [], ◌∷◌, Option, Some, None}
use Rattle.std.specs.Option.{option_map}
use Rattle.node_image.specs.declared.node.RootRef.{RootRef}
use Rattle.rpmb_card.specs.Card.{CardState}
use Rattle.rpmb_host.specs.Honest.{HasCard}
use Rattle.store_model.specs.Doubt.{Doubt}
use Rattle.history_seats.specs.Views.{GateView}
use Rattle.crash_core.specs.Pictures.{SameCard}
use Rattle.crash_core.specs.Mounting.{Held}
use Rattle.crash_core.specs.CoreState.{PendingCommit}
use Rattle.core_laws.specs.GateParts.{GatePart}
use Rattle.crash_core.specs.declared.change.DoubtedChange.{DoubtedChange}
use Rattle.store_commit.specs.Sides.{Sides}

-- The card that the port tells, but for its register, which says how the last write ended, and which no mount reads.
pub record IsCardOf (g : Sides) (card : CardState) : Type 0 where
  pub own : CardState
  pub has : HasCard g.port g.key own
  pub same : SameCard card own

abbrev pub is_hold_on : (file : ℕ) → Option ℕ → Bool
is_hold_on file None = false
is_hold_on file (Some held) = held == file

-- the first of these sessions that holds the file, where the holds are those from that session on
abbrev pub holder_from : (session : ℕ) → (holds : List (Option ℕ)) → (file : ℕ) → Option ℕ
holder_from session [] file = None
holder_from session (hold ∷ holds) file = if is_hold_on file hold then Some session else holder_from (session + 1) holds file

-- who has taken which file: the session that holds it
abbrev pub takes_of : (holds : List (Option ℕ)) → (file : ℕ) → Option ℕ
takes_of holds file = holder_from 0 holds file

-- the commit in doubt, as the gate and the history know it
abbrev pub pending_of : Option DoubtedChange → Option Doubt → (sealed : Option RootRef) → Option PendingCommit
pending_of None doubt sealed = None
pending_of (Some d) None sealed = None
pending_of (Some d) (Some doubt) sealed = Some (record { session = doubt.session; call = doubt.call; change = d.change; sealed = sealed })

-- the reference of the open stage, where the card's counter tells that the card names it
abbrev pub sealed_in : Sides → CardState → Option RootRef
sealed_in g card = if card.counter == g.counter then None else option_map (λ next. next.root) g.dir.stage

abbrev pub gate_part : Sides → CardState → (takes : ℕ → Option ℕ) → Option PendingCommit → (putting : Option Held) → GateView → GatePart
gate_part g card takes pending putting view = record {
  directory = g.file;
  card = card;
  root = g.dir.root;
  entries = g.dir.entries;
  takes = takes;
  pending = pending;
  putting = putting;
  view = view;
}
