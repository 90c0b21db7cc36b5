-- A sync that succeeds.
use Rattle.std.proofs.Common.{◌≡◌, inl, ℕ, ◌+◌, false, refl, sym, subst, ◌∙◌, true≢false, arith}
use Rattle.disk_model.specs.Calls.{GoesOn, Syncs}
use Rattle.disk_model.specs.Images.{in_span}
use Rattle.host_folder.specs.Folder.{FolderState, folder_file}
use Rattle.host_folder.specs.Syncs.{length-syncs, one_more, sync_at}

goes_on : (s : FolderState) (n : ℕ) → GoesOn (folder_file s) (folder_file (record s { syncs = n }))
goes_on s n = record {
  honest = λ h. h;
  stays_honest = λ tells none h. h;
  steady = refl;
  calm = λ h. h;
  tells = refl;
  tells_arms = refl;
  arms = λ tells. absurd (cc (tells));
  faults = omega arith;
  starved = omega arith;
  quiet = λ h. inl refl;
  written = omega arith;
}

not_in : (place : ℕ) → in_span (record { at = 0; length = 0 }) place ≡ false
not_in place = grind arith

step : (s : FolderState) → Syncs (folder_file s) (folder_file (record s { syncs = s.syncs + 1 }))
step s = record {
  trail = record {
    change = sync_at s.syncs;
    trail = one_more s.syncs (s.syncs + 1) refl;
    base = refl;
    within = λ place is. true≢false (sym is ∙ not_in place);
  };
  settled = λ h. refl;
  pending_from = sym (length-syncs (s.syncs + 1));
  reads = λ known. refl;
  struck = λ tells. absurd (cc (tells));
  written = refl;
  goes_on = goes_on s (s.syncs + 1);
}

pub synced : (old now : FolderState) → now ≡ record old { syncs = old.syncs + 1 } → Syncs (folder_file old) (folder_file now)
synced old now is = subst (λ (x : FolderState). Syncs (folder_file old) (folder_file x)) (sym is) (step old)
