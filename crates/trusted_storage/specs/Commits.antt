-- What a history leaves: the objects behind its commits, and the one commit that may be in doubt.
use Rattle.std.specs.Prelude.{ℕ, List, []}
pub use Rattle.store_model.specs.ReplayState.{ReplayState}
pub use Rattle.run_acts.specs.Left.{AreLeft, replay_left}

-- No object is left, and no commit is in doubt.
abbrev pub nothing_left : (applications : List (List ℕ)) → ReplayState
nothing_left applications = replay_left [] applications []
