use Rattle.std.proofs.Common.{◌≡◌, ◌≤◌}
use Rattle.store_model.proofs.history.History.reserve.Given as goal

abbrev pub invariant-loop : goal.invariant-loop
invariant-loop l = record {
  counted : l.self.spare ≡ l.counter;
  events : l.self.events ≡ l.initial.self.events;
  kept : l.initial.self.spare ≤ l.self.spare;
}
