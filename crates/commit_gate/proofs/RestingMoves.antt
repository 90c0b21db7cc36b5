-- Steps from one part at rest to the next are a move of the gate.
use Rattle.std.proofs.Common.{◌≡◌, ◌≢◌, ℕ, inl, inr, refl, sym, subst}
use Rattle.std.proofs.lemmas.Bool.{cases_eq}
use Rattle.tee_types.specs.Limits.{IsObjectFile, directory_file}
use Rattle.history_seats.specs.Rule.{SlotFits}
use Rattle.crash_core.proofs.Lists.{put_each, put_else, put_here}
use Rattle.core_laws.specs.SlotParts.{SlotPart}
use Rattle.core_laws.proofs.Mending.{none_some}
use Rattle.commit_gate.specs.GateMoves.{RestingGatesMove}
use Rattle.commit_gate.proofs.RestingGates.{resting_gates_hold}

pub resting_gates_move : RestingGatesMove
resting_gates_move store scenario from file slot g doubt holds view h to gate tied honest back = record {
  file = file;
  steps = to.steps;
  holds = (resting_gates_hold store scenario g doubt holds to.card view gate tied honest).fact;
  honest = honest;
  slot = slot;
  same_file = back.same_file;
  same_stage = back.same_stage;
  slot_holds = back.holds;
  slots_are = refl;
  fit = record {
    numbered = λ n. put_each (λ (k : ℕ) (s : SlotPart). k ≢ directory_file → s.view.file ≡ k) from.slots file slot n back.numbered (h.fit.numbered n);
    fits = λ n own. elim (cases_eq n file) [
      | inl same ↦ subst (λ (s : SlotPart). SlotFits view s.view) (sym (put_here from.slots file slot n same)) (back.fits (subst IsObjectFile same own))
      | inr other ↦ subst (λ (s : SlotPart). SlotFits view s.view) (sym (put_else from.slots file slot n other)) (back.others n own other)
    ];
    putting = λ x puts. absurd (none_some x puts);
  };
}
