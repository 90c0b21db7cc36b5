-- How the settling of a commit in doubt went.
use Rattle.std.proofs.Common.{◌≡◌, ℕ, true, false, true≢false, Bool, not, is_some, Option, Some, None, IfSome, refl, sym, ap, ◌∙◌, subst, option_map}
use Rattle.store_model.specs.History.{count_of}
use Rattle.store_model.specs.Record.{events_of}
use Rattle.history_seats.specs.Views.{GateView, PassView, Sight}
use Rattle.core_laws.specs.Stores.{Store}
use Rattle.commit_gate.specs.CallerSessions.{CallerSession, IsCallerOf, session_value}
use Rattle.commit_gate.specs.SessionViews.{BeginsAll, SeesAll}
use Rattle.commit_gate.proofs.SessionShowing.{some_same}
use Rattle.commit_gate.proofs.ShownViews.{none-past, shown_extend}
use Rattle.commit_gate.specs.declared.DoubtedChange.{DoubtedChange}
use Rattle.call_steps.specs.Seen.{GoesOn}
use Rattle.call_steps.specs.SessionEvents.{IsWaiting}

-- what the doubt's number tells of the doubt
pub none-there : (o : Option DoubtedChange) (number : Option ℕ) (none : Bool) → number ≡ option_map (λ (d : DoubtedChange). d.number) o → is_some number ≡ not none → none ≡ true → o ≡ None
none-there None number none is some holds = refl
none-there (Some d) number none is some holds = absurd (true≢false (ap is_some (sym is) ∙ some ∙ ap not holds))

pub some-there : (o : Option DoubtedChange) (number : Option ℕ) (none : Bool) → number ≡ option_map (λ (d : DoubtedChange). d.number) o → is_some number ≡ not none → none ≡ false
    → (d : DoubtedChange) × (o ≡ Some d)
some-there None number none is some not_none = absurd (true≢false (sym (ap is_some (sym is) ∙ some ∙ ap not not_none)))
some-there (Some d) number none is some not_none = (d, refl)

pub if-some : (o : Option DoubtedChange) (P Q : DoubtedChange → Type 0) → IfSome o P → ((d : DoubtedChange) → o ≡ Some d → P d → Q d) → IfSome o Q
if-some None P Q h gives = tt
if-some (Some d) P Q h gives = gives d refl h

pub at-some : (o : Option DoubtedChange) (P : DoubtedChange → Type 0) (d : DoubtedChange) → o ≡ Some d → IfSome o P → P d
at-some o P d is h = subst (λ (x : Option DoubtedChange). IfSome x P) is h

-- the session that was shown the history
shown-goes : {E : Type 0} (store : Store) (knows : GateView) (old new : CallerSession E) → IsCallerOf store old → BeginsAll knows old.pass → SeesAll knows new.pass
    → new.number ≡ old.number → GoesOn store old new
shown-goes store knows old new caller begins sees number = record {
  continues = record {
    was = begins.seat;
    now = sees.seat;
    had = begins.is;
    has = sees.is;
    between = begins.fits.sees.begins.rest;
    is = begins.fits.sees.begins.is ∙ sym sees.whole;
    none = ap (λ (n : ℕ). count_of n (events_of begins.fits.sees.begins.rest)) own ∙ none-past knows begins.seat.knows begins.fits;
  };
  extends = λ after event place x. shown_extend store knows (session_value old) (session_value new) after event place caller.session begins sees number x;
}
  where
    own : old.number ≡ begins.seat.knows.session
    own = caller.session.number ∙ ap (λ (p : Sight PassView). p.knows.session) (some_same caller.session.pass begins.seat (sym caller.session.is ∙ begins.is))

pub shown-waits : {E : Type 0} (store : Store) (knows : GateView) (old new : CallerSession E) → IsCallerOf store old → IsCallerOf store new → BeginsAll knows old.pass → SeesAll knows new.pass
    → new.number ≡ old.number → new.made ≡ old.made → IsWaiting store old new
shown-waits store knows old new caller whole begins sees number made =
    record { caller = whole; number = number; made = made; goes_on = shown-goes store knows old new caller begins sees number }
