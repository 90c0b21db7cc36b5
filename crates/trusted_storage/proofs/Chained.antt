-- A run behind a run.
use Rattle.std.proofs.Common.{ℕ, List, [], ◌∷◌, inl, inr, refl, sym, subst}
use Rattle.disk_model.specs.State.{FileState}
use Rattle.hmac_keys.specs.declared.Keys.{Keys}
use Rattle.rpmb_card.specs.Port.{PortState}
use Rattle.run_acts.specs.Benches.{BenchState}
use Rattle.script_runner.specs.RecordLaws.{FindLeft}
use Rattle.script_runner.specs.RunCauses.{World}
use Rattle.script_runner.specs.Text.{ActOutcome, Listed, Ran}
use Rattle.script_runner.specs.Trace.{applications_of}
use Rattle.store_model.specs.ReplayState.{ReplayState}
use Rattle.trusted_storage.specs.Benches.{BeginsWith}
use Rattle.trusted_storage.specs.Commits.{nothing_left}
use Rattle.trusted_storage.specs.Laws.{NextRunsFindLeft}
use Rattle.trusted_storage.specs.Runs.{outcomes_in, records_of}
use Rattle.trusted_storage.proofs.Found.{left_found}
use Rattle.trusted_storage.proofs.Holding.{cuts_keep}
use Rattle.trusted_storage.proofs.Last.{cuts_exit}

-- nothing is left, whatever applications there are
nothing_alike : (apps one other : List (List ℕ)) (records : List ActOutcome) → FindLeft apps (nothing_left one) records → FindLeft apps (nothing_left other) records
nothing_alike apps one other [] finds = tt
nothing_alike apps one other (Ran phase ∷ records) finds = finds
nothing_alike apps one other (Listed objects ∷ records) finds = (finds.0, nothing_alike apps one other records finds.1)
nothing_alike apps one other (outcome ∷ records) finds = nothing_alike apps one other records finds

-- a bench that a run with these applications may begin with
next_begins : (keys : Keys) (apps later : List (List ℕ)) (bench : BenchState) (s : ReplayState) → BeginsWith keys apps bench s
    → (t : ReplayState) × BeginsWith keys later bench t × ((records : List ActOutcome) → FindLeft later t records → FindLeft later s records)
next_begins keys apps later bench s (inl holds) = (s, inl holds, λ records finds. finds)
next_begins keys apps later bench s (inr (blank, is)) =
    (nothing_left later, inr (blank, refl), λ records finds. subst (λ (x : ReplayState). FindLeft later x records) (sym is) (nothing_alike later later apps records finds))

pub next_found : {F R : Type 0} (of_file : F → FileState) (of_port : R → PortState) (image : FileState → ℕ → ℕ → List ℕ) (Reliable Later : Type 0) (w after : World)
    → NextRunsFindLeft of_file of_port image Reliable Later w after
next_found of_file of_port image Reliable Later w after c d script next s took opened begins unaltered fed may same took_next unaltered_next =
    let apps = applications_of script in
    let left = cuts_exit of_file of_port image Reliable w c script s took opened begins unaltered fed in
    let there = cuts_keep c.keys apps _ c.given d.handed left may in
    let first = next_begins c.keys apps (applications_of next) d.handed _ there in
    let begun = subst (λ (k : Keys). BeginsWith k (applications_of next) d.handed first.0) (sym same) first.1 in
    let found = left_found of_file of_port image Later after d next first.0 took_next begun unaltered_next in
    (first.2 (outcomes_in (records_of d)) found.0, found.1)
