-- Events that change no entry are legal.
use Rattle.std.proofs.Common.{◌≡◌, ◌&&◌, ℕ, Bool, true, true≢false, not, List, Option, Some, None, option_map, refl, sym, ap, ◌∙◌, arith}
use Rattle.tee_types.specs.declared.call.Call.{Call}
use Rattle.tee_types.specs.declared.reply.Cause.{Cause}
use Rattle.tee_types.specs.declared.reply.Cause.TheVariants.{CardResult, Fault, Frame}
use Rattle.tee_types.specs.declared.reply.Device.TheVariants.{File}
use Rattle.tee_types.specs.declared.reply.Reply.{Reply}
use Rattle.tee_types.specs.declared.reply.Reply.TheVariants.{CounterSpent, NotAvailable}
use Rattle.store_model.specs.declared.event.Mark.TheVariants.{Unchanged}
use Rattle.store_model.specs.Doubt.{Doubt}
use Rattle.store_model.specs.Files.{reads_file}
use Rattle.store_model.specs.Legal.{IsLegalAnswer, IsTagged, NotMade, Spent, Unavailable, Unresolved, is_commit_due, meant_by, stands_for_doubt}
use Rattle.store_model.specs.Record.{Tag, file_at_fault}
use Rattle.store_model.specs.ReplayState.{ReplayState, is_of_card}
use Rattle.history_seats.specs.Records.{Version}
use Rattle.core_laws.specs.Stores.{replay_at}
use Rattle.core_laws.proofs.Mending.{none_some}
use Rattle.core_laws.proofs.SessionSteps.{sessions_at}
use Rattle.core_laws.specs.EventAnswers.{IsUnmade, LandingsAreLegal, UnmadeCommitsAreLegal, UnresolvedCallsAreLegal}

unmade_answer : (tampered : List ℕ) (s : ReplayState) (session : ℕ) (call : Call) (reply : Reply) (file : Option ℕ) → is_commit_due s session call ≡ true → IsUnmade s.counter reply
    → IsLegalAnswer tampered s session call reply Unchanged file
unmade_answer tampered s session call (NotAvailable cause) file due unmade = Unavailable (record { cause = cause; replied = refl; marked = refl; due = NotMade due })
unmade_answer tampered s session call (CounterSpent last) file due unmade =
    Spent (record { replied = ap (λ (n : ℕ). CounterSpent n) unmade.0; marked = refl; due = due; spent = unmade.1 })
unmade_answer tampered s session call reply file due unmade = absurd unmade

pub unmade_legal : UnmadeCommitsAreLegal
unmade_legal store scenario before session number call reply tag declared due unmade tagged = record {
  legal = record {
    declared = omega (arith, declared, sessions_at store scenario before);
    tagged = tagged;
    answer = unmade_answer scenario.tampered (replay_at store scenario before) session call reply (option_map (λ (t : Tag Version). t.file) tag) due unmade;
  };
  kept = λ commits_. absurd (true≢false (sym commits_));
}

-- what the card is the cause of accuses no file
no_file : (cause : Cause) → is_of_card cause ≡ true → (n : ℕ) → file_at_fault cause ≡ Some n → ⊥
no_file (Fault (File m) count) of n is = true≢false (sym of)
no_file (Fault device count) of n is = none_some n is
no_file (Frame fault) of n is = none_some n is
no_file (CardResult result) of n is = none_some n is

-- such a reply stands for the doubt, and needs no tag
untagged_doubt : (s : ReplayState) (doubt : Doubt) (session : ℕ) (call : Call) (cause : Cause) → s.doubt ≡ Some doubt → is_of_card cause ≡ true → IsTagged s session call (NotAvailable cause) Unchanged None
untagged_doubt s doubt session call cause is of = record {
  own = λ n named. absurd (none_some n named);
  needed = λ needs none.
      let stands : stands_for_doubt s.doubt (NotAvailable cause) Unchanged ≡ true = ap (λ (o : Option Doubt). stands_for_doubt o (NotAvailable cause) Unchanged) is ∙ of in
      absurd (true≢false (sym needs ∙ ap (λ (b : Bool). not b && reads_file call (meant_by s session call)) stands));
  fault = λ n accuses. absurd (no_file cause of n accuses);
}

pub unresolved_legal : UnresolvedCallsAreLegal
unresolved_legal store scenario view entries counter d tied answered session number call cause declared misuse of =
    let x = tied.doubt.stands scenario answered in
    let s : ReplayState = replay_at store scenario view.all in
    record {
      legal = record {
        declared = omega (arith, declared, sessions_at store scenario view.all);
        tagged = untagged_doubt s x.doubt session call cause x.is_open of;
        answer = Unavailable (record {
          cause = cause;
          replied = refl;
          marked = refl;
          due = Unresolved (record { doubt = x.doubt; is_open = x.is_open; no_misuse = misuse; of_card = of });
        });
      };
      kept = λ commits_. absurd (true≢false (sym commits_));
    }

pub landing_legal : LandingsAreLegal
landing_legal store scenario view entries counter d tied answered =
    let x = tied.doubt.stands scenario answered in
    record {
      legal = record { doubt = x.doubt; is_open = x.is_open; number = sym x.number; untagged = refl };
      kept = λ commits_. absurd (true≢false (sym commits_));
    }
