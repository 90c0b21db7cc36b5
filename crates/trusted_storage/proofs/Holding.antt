-- What a bench holds, in the words of the laws below.
use Rattle.std.proofs.Common.{◌≡◌, ◌∙◌, ℕ, List, [], ◌∷◌, true, Ok, Option, Some, inl, inr, refl, sym, ap, subst}
use Rattle.crash_core.specs.Pictures.{Picture, block_zero}
use Rattle.hmac_keys.specs.declared.Keys.{Keys}
use Rattle.hmac_keys.specs.KeyTable.{rpmb_key}
use Rattle.object_calls.specs.FinishedPhase.{IsMapLeft}
use Rattle.rpmb_card.specs.Card.{CardState}
use Rattle.rpmb_card.specs.Port.{PortState}
use Rattle.rpmb_host.specs.Honest.{HasCard}
use Rattle.run_acts.proofs.CrashedLaws.{card_of, crashes_keep}
use Rattle.run_acts.proofs.Untainted.{crashes_stay_untainted, untainted_files_are_honest}
use Rattle.run_acts.specs.Benches.{BenchState}
use Rattle.run_acts.specs.Between.{MayCrash}
use Rattle.run_acts.specs.Opens.{is_blank}
use Rattle.script_runner.specs.HeldRuns.{BeginsWith as Begins, HoldsBehind as HeldBehind, IsBlankBench}
use Rattle.script_runner.specs.RecordLaws.{HoldsUntainted}
use Rattle.script_runner.specs.Text.{Act}
use Rattle.store_model.specs.Object.{ObjectMap}
use Rattle.store_model.specs.ReplayState.{ReplayState}
use Rattle.trusted_storage.specs.Benches.{BeginsWith, Holds, IsBlank, MountsToLeft}
use Rattle.trusted_storage.specs.Laws.{CutsKeep}
use Rattle.trusted_storage.specs.Runs.{HoldsBehind}

pub to_left : (keys : Keys) (picture : Picture) (s : ReplayState) → IsMapLeft keys picture s → MountsToLeft keys picture s
to_left keys picture s (inl is) = ((s.state).objects, inl refl, is)
to_left keys picture s (inr (objects, doubted, is)) = (objects, inr doubted, is)

pub of_left : (keys : Keys) (picture : Picture) (s : ReplayState) → MountsToLeft keys picture s → IsMapLeft keys picture s
of_left keys picture s (objects, inl same, is) = inl (is ∙ ap (λ (m : ObjectMap). Ok m) same)
of_left keys picture s (objects, inr doubted, is) = inr (objects, doubted, is)

module _ (keys : Keys) where
  pub to_holds : (bench : BenchState) (s : ReplayState) → HoldsUntainted keys bench s → Holds keys bench s
  to_holds bench s held = record {
    trusted = record { files = held.files; card = held.card };
    mounts = λ card picture has is. to_left keys picture s ((held.holds).mounts card picture has is);
    current = (held.holds).current;
  }

  pub of_holds : (bench : BenchState) (s : ReplayState) → Holds keys bench s → HoldsUntainted keys bench s
  of_holds bench s h = record {
    files = (h.trusted).files;
    holds = record {
      honest = untainted_files_are_honest bench.files (h.trusted).files;
      mounts = λ card picture has is. of_left keys picture s (h.mounts card picture has is);
      current = h.current;
    };
    card = (h.trusted).card;
  }

  -- two cards that a port tells are one
  same_card : (p : PortState) (one other : CardState) → HasCard p (rpmb_key keys.huk) one → HasCard p (rpmb_key keys.huk) other → one ≡ other
  same_card p one other has there = let e : ◌≡◌ {A = Option CardState} (Some one) (Some other) = sym has.told ∙ there.told in cc

  blank_to : (bench : BenchState) → IsBlankBench keys bench → IsBlank keys bench
  blank_to bench b = record {
    trusted = record { files = b.files; card = (b.card, b.has) };
    blank = λ card has. subst (λ (c : CardState). is_blank (block_zero c) ≡ true) (same_card bench.card b.card card b.has has) b.blank;
  }

  blank_of : (bench : BenchState) → IsBlank keys bench → IsBlankBench keys bench
  blank_of bench b = let card = (b.trusted).card in record { files = (b.trusted).files; card = card.0; has = card.1; blank = b.blank card.0 card.1 }

  module _ (apps : List (List ℕ)) where
    pub to_begins : (bench : BenchState) (s : ReplayState) → Begins keys apps bench s → BeginsWith keys apps bench s
    to_begins bench s (inl held) = inl (to_holds bench s held)
    to_begins bench s (inr (b, is)) = inr (blank_to bench b, is)

    pub of_begins : (bench : BenchState) (s : ReplayState) → BeginsWith keys apps bench s → Begins keys apps bench s
    of_begins bench s (inl h) = inl (of_holds bench s h)
    of_begins bench s (inr (b, is)) = inr (blank_of bench b, is)

    pub to_behind : (done : List Act) (bench : BenchState) (s : ReplayState) → HeldBehind keys apps done bench s → HoldsBehind keys apps done bench s
    to_behind [] bench s begins = to_begins bench s begins
    to_behind (act ∷ done) bench s held = to_holds bench s held

    -- where it holds that behind acts, a run may begin with it
    pub begins_behind : (done : List Act) (bench : BenchState) (s : ReplayState) → HeldBehind keys apps done bench s → BeginsWith keys apps bench s
    begins_behind [] bench s begins = to_begins bench s begins
    begins_behind (act ∷ done) bench s held = inl (to_holds bench s held)

-- A POWER CUT
card_kept : (keys : Keys) (old new : BenchState) → MayCrash old new → (card : CardState) → HasCard old.card (rpmb_key keys.huk) card → HasCard new.card (rpmb_key keys.huk) card
card_kept keys old new may card has = card_of new.card old.card (rpmb_key keys.huk) card (ap (λ (p : PortState). p.card) (sym may.card)) has

pub cuts_keep : CutsKeep
cuts_keep keys apps s old new (inl h) may =
    let held = of_holds keys old s h in
    let card = held.card in
    inl (to_holds keys new s (record {
      files = crashes_stay_untainted old new held.files may;
      holds = crashes_keep keys s old new held.holds may;
      card = (card.0, card_kept keys old new may card.0 card.1);
    }))
cuts_keep keys apps s old new (inr (b, is)) may =
    let here = blank_of keys old b in
    inr (blank_to keys new (record { files = crashes_stay_untainted old new here.files may; card = here.card; has = card_kept keys old new may here.card here.has; blank = here.blank }), is)
