-- What a legal history tells of its counter: each commit raises it by one, and a doubt is of the next.
use Rattle.std.proofs.Common.{◌≡◌, ℕ, ◌+◌, Bool, true, false, List, [], ◌∷◌, ◌++◌, Option, Some, None, refl, sym, ap, ◌∙◌}
use Rattle.tee_types.specs.declared.call.Call.{Call}
use Rattle.tee_types.specs.declared.reply.Reply.{Reply}
use Rattle.store_model.specs.declared.event.Event.{Event}
use Rattle.store_model.specs.declared.event.Event.TheVariants.{Call as CallEvent, Landed}
use Rattle.store_model.specs.declared.event.Mark.{Mark}
use Rattle.store_model.specs.declared.event.Mark.TheVariants.{Unchanged, Made, Doubtful}
use Rattle.store_model.specs.Record.{Record, file_of}
use Rattle.store_model.specs.Doubt.{Doubt}
use Rattle.store_model.specs.ReplayState.{ReplayState, doubt_after, keeps_doubt, replay, replay_after, replay_landed}
use Rattle.store_model.specs.Legal.{Answered, Doubted, FoundCorrupt, IsLegalAnswer, IsLegalCall, IsLegalEvent, IsLegalFrom, Spent, Unavailable, is_commit_due, mark_of}

pub replay_push : {Root : Type 0} (s : ReplayState) (records : List (Record Root)) (r : Record Root) → replay s (records ++ r ∷ []) ≡ replay_after (replay s records) r.event (file_of r)
replay_push s [] r = refl
replay_push s (x ∷ records) r = replay_push (replay_after s x.event (file_of x)) records r

pub legal_push : {Root : Type 0} (tampered : List ℕ) (s : ReplayState) (records : List (Record Root)) (r : Record Root) → IsLegalFrom tampered s records
    → IsLegalEvent tampered (replay s records) r.event (file_of r) → IsLegalFrom tampered s (records ++ r ∷ [])
legal_push tampered s [] r legal here = (here, tt)
legal_push tampered s (x ∷ records) r legal here = (legal.0, legal_push tampered (replay_after s x.event (file_of x)) records r legal.1 here)

-- A commit that was made has the next number.
pub made_next : (tampered : List ℕ) (s : ReplayState) (session : ℕ) (call : Call) (reply : Reply) (commit : ℕ) (file : Option ℕ) → IsLegalCall tampered s session call reply (Made commit) file → commit ≡ s.counter + 1
made_next tampered s session call reply commit file legal = by_answer legal.answer
  where
    by_due : (b : Bool) → Made commit ≡ mark_of s.counter b → commit ≡ s.counter + 1
    by_due true is = cc (is)
    by_due false is = absurd (cc (is))

    by_answer : IsLegalAnswer tampered s session call reply (Made commit) file → commit ≡ s.counter + 1
    by_answer (Answered a) = by_due (is_commit_due s session call) a.marked
    by_answer (Unavailable a) = absurd (cc (a.marked))
    by_answer (Doubted a) = absurd (cc (a.marked))
    by_answer (FoundCorrupt a) = absurd (cc (a.marked))
    by_answer (Spent a) = absurd (cc (a.marked))

doubted_next : (tampered : List ℕ) (s : ReplayState) (session : ℕ) (call : Call) (reply : Reply) (commit : ℕ) (file : Option ℕ) → IsLegalCall tampered s session call reply (Doubtful commit) file → commit ≡ s.counter + 1
doubted_next tampered s session call reply commit file legal = by_answer legal.answer
  where
    by_due : (b : Bool) → Doubtful commit ≡ mark_of s.counter b → commit ≡ s.counter + 1
    by_due true is = absurd (cc (is))
    by_due false is = absurd (cc (is))

    by_answer : IsLegalAnswer tampered s session call reply (Doubtful commit) file → commit ≡ s.counter + 1
    by_answer (Answered a) = by_due (is_commit_due s session call) a.marked
    by_answer (Unavailable a) = absurd (cc (a.marked))
    by_answer (Doubted a) = cc (a.marked)
    by_answer (FoundCorrupt a) = absurd (cc (a.marked))
    by_answer (Spent a) = absurd (cc (a.marked))

-- an open doubt is of the next number
abbrev pub IsOfNext : ℕ → Option Doubt → Type 0
IsOfNext counter doubt = (d : Doubt) → doubt ≡ Some d → d.commit ≡ counter + 1

pub none_next : (counter : ℕ) (doubt : Option Doubt) → doubt ≡ None → IsOfNext counter doubt
none_next counter doubt none d is = absurd (cc (none, is))

kept_next : (counter : ℕ) (doubt : Option Doubt) (reply : Reply) → IsOfNext counter doubt → IsOfNext counter (doubt_after reply doubt)
kept_next counter doubt reply next = by_reply (keeps_doubt reply)
  where
    by_reply : (b : Bool) → IsOfNext counter (elim b as (λ _. Option Doubt) [ true ↦ doubt | false ↦ None ])
    by_reply true = next
    by_reply false = none_next counter None refl

landed_next : (s : ReplayState) (doubt : Option Doubt) → IsOfNext s.counter s.doubt → IsOfNext (replay_landed s doubt).counter (replay_landed s doubt).doubt
landed_next s None next = next
landed_next s (Some d) next = none_next d.commit None refl

marked_next : (tampered : List ℕ) (s : ReplayState) (session number : ℕ) (call : Call) (reply : Reply) (mark : Mark) (file : Option ℕ) → IsLegalCall tampered s session call reply mark file
    → IsOfNext s.counter s.doubt → IsOfNext (replay_after s (CallEvent session number call reply mark) file).counter (replay_after s (CallEvent session number call reply mark) file).doubt
marked_next tampered s session number call reply Unchanged file legal next = kept_next s.counter s.doubt reply next
marked_next tampered s session number call reply (Made commit) file legal next = none_next commit None refl
marked_next tampered s session number call reply (Doubtful commit) file legal next =
    λ d is. let own : ◌≡◌ {A = Doubt} (record { commit = commit; session = session; call = call; file = file }) d = cc (is) in
    sym (ap (λ (x : Doubt). x.commit) own) ∙ doubted_next tampered s session call reply commit file legal

event_next : (tampered : List ℕ) (s : ReplayState) (event : Event) (file : Option ℕ) → IsLegalEvent tampered s event file → IsOfNext s.counter s.doubt
    → IsOfNext (replay_after s event file).counter (replay_after s event file).doubt
event_next tampered s (CallEvent session number call reply mark) file legal next = marked_next tampered s session number call reply mark file legal next
event_next tampered s (Landed commit) file legal next = landed_next s s.doubt next

-- so it is at the end of a legal history
pub doubt_next : {Root : Type 0} (tampered : List ℕ) (s : ReplayState) (records : List (Record Root)) → IsLegalFrom tampered s records → IsOfNext s.counter s.doubt
    → IsOfNext (replay s records).counter (replay s records).doubt
doubt_next tampered s [] legal next = next
doubt_next tampered s (r ∷ records) legal next =
    doubt_next tampered (replay_after s r.event (file_of r)) records legal.1 (event_next tampered s r.event (file_of r) legal.0 next)
