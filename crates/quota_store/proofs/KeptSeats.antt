-- The halves of a session's seat, as they are joined and cut.
use Rattle.std.proofs.Common.{◌≡◌, ◌<◌, ◌∙◌, ℕ, length, Some, sym, ap, subst}
use Rattle.std.specs.Prelude.{slice_set}
use Rattle.history_seats.specs.Rule.{PassFits}
use Rattle.history_seats.specs.Views.{GateView, PassView, Sight}
use Rattle.store_model.specs.Record.{events_of}
use Rattle.core_laws.proofs.Mending.{some_same}
use Rattle.shared_store.specs.CallerSessions.{CallerSession, IsCallerOf}
use Rattle.shared_store.specs.Kept.{AreOfSessions}
use Rattle.shared_store.specs.Stores.{Store}
use Rattle.quota_store.specs.Halves.{AllFit, AreHalves, halves_shown, kept_at}
use Rattle.quota_store.specs.Looks.{HasPut, HaveBeenShown}
use Rattle.quota_store.proofs.KeptHalves.{Places, halves_put, set_else, set_there}

-- a session's half is of its store and of its number
module _ {E : Type 0} (store : Store) (s : CallerSession E) (half : Sight PassView) (caller : IsCallerOf store s) (is : s.pass ≡ Some half) where
  seat_same : caller.session.pass ≡ half
  seat_same = some_same caller.session.pass half (sym caller.session.is ∙ is)

  pub half_table : half.table ≡ store.table
  half_table = ap (λ (p : Sight PassView). p.table) (sym seat_same) ∙ caller.session.table

  pub half_session : half.knows.session ≡ s.number
  half_session = ap (λ (p : Sight PassView). p.knows.session) (sym seat_same) ∙ sym caller.session.number

-- the kept half of a session's seat, once it is cut, is put to its place
module _ {E : Type 0} (store : Store) (s : CallerSession E) (one other : Sight PassView) (caller : IsCallerOf store s) (has : s.pass ≡ Some one) (had : s.pass ≡ Some other) where
  pub cut_puts : (old new : Places) → new ≡ slice_set old other.knows.session (Some other) → HasPut store s.number one.knows old new
  cut_puts old new is = record {
    half = other;
    of = record { table = half_table store s other caller had; own = half_session store s other caller had };
    knows = ap (λ (p : Sight PassView). p.knows) (some_same other one (sym had ∙ has));
    put = is ∙ ap (λ (n : ℕ). slice_set old n (Some other)) (half_session store s other caller had);
  }

module _ (store : Store) (session : ℕ) (own : PassView) (old between : Places) (back : HasPut store session own old between) where
  pub halves_back : AreHalves store old → AreHalves store between
  halves_back halves = subst (AreHalves store) (sym back.put) (halves_put store old halves session back.half back.of)

  -- and shown the whole history with the others
  pub shown_back : (gate : GateView) (new : Places) → session < length old → AllFit gate between → AreOfSessions (length store.mounted.applications) (events_of gate.all) → new ≡ halves_shown gate between
      → HaveBeenShown store session own old new
  shown_back gate new within fits sessions shown = record {
    gate = gate;
    between = between;
    back = back;
    fit = subst (PassFits gate) back.knows (fits session back.half (ap (λ (l : Places). kept_at l session) back.put ∙ set_there old session (Some back.half) within));
    others_fit = λ other half different is.
        fits other half (ap (λ (l : Places). kept_at l other) back.put ∙ set_else old session (Some back.half) other different ∙ is);
    sessions = sessions;
    shown = shown;
  }
