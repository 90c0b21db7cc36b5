-- What is behind the place in the history's events is behind it in what the seat knows.
use Rattle.std.proofs.Common.{◌≡◌, ◌+◌, ℕ, Bool, nat_lt, List, Option, drop, ap, ◌∙◌, option_map}
use Rattle.std.specs.Prelude.{find}
use Rattle.store_model.specs.declared.event.Event.{Event}
use Rattle.history_seats.specs.Settling.{is_landing, settles, settling}
use Rattle.history_seats.specs.Views.{GateView}
use Rattle.commit_gate.specs.Journals.{JournalValue}
use Rattle.commit_gate.specs.Outcomes.{outcome_at, settled_as, settled_by_landing}
use Rattle.commit_gate.proofs.Landings.{settling_behind}
use Rattle.commit_gate.proofs.journal.Journal.settled_behind.Goals as goal

pub returns : goal.returns
returns g c =
    let inside = c.self.inside in
    let knows = inside.seat.knows in
    let place = c.args.place in
    let known = ap (λ (v : JournalValue). v.knows) c.self.view_is in
    let landed : c.first_landing.result ≡ option_map is_landing (settling (drop (place + 1) knows.all)) =
    c.first_landing.ensures
    ∙ ap (λ (l : List Event). option_map is_landing (find settles (drop (place + 1) l))) c.self.invariant.events_are
    ∙ ap (option_map is_landing) (settling_behind knows.all (place + 1)) in
    c.settled_by.ensures
    ∙ ap (λ (o : Option Bool). settled_by_landing o (nat_lt place inside.decided)) landed
    ∙ ap (λ (n : ℕ). settled_as (settling (drop (place + 1) knows.all)) (nat_lt place n)) c.self.invariant.decided_is
    ∙ ap (λ (v : GateView). outcome_at v place) known
