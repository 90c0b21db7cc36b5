-- What a legal event tells of its commit.
use Rattle.std.proofs.Common.{◌≡◌, ℕ, Bool, true, false, true≢false, List, Option, refl, sym}
use Rattle.tee_types.specs.declared.call.Call.{Call}
use Rattle.tee_types.specs.declared.reply.Reply.{Reply}
use Rattle.tee_types.specs.declared.reply.Reply.TheVariants.{Corrupt, CounterSpent, Misuse, NotAvailable}
use Rattle.store_model.specs.declared.event.Mark.TheVariants.{Doubtful, Made}
use Rattle.store_model.specs.Legal.{Answered, Doubted, FoundCorrupt, IsLegalAnswer, Spent, Unavailable, is_commit_due, mark_of}
use Rattle.store_model.specs.ReplayState.{ReplayState, is_undone, keeps_doubt}

-- a reply that keeps a doubt open is of a call that was not done
pub undone-kept : (reply : Reply) → keeps_doubt reply ≡ true → is_undone reply ≡ true
undone-kept (Misuse reason) keeps = refl
undone-kept Corrupt keeps = refl
undone-kept (NotAvailable cause) keeps = refl
undone-kept (CounterSpent counter) keeps = refl
undone-kept reply keeps = absurd (true≢false (sym keeps))

pub unmarked : (counter commit : ℕ) (b : Bool) → Doubtful commit ≡ mark_of counter b → ⊥
unmarked counter commit true is = cc (is)
unmarked counter commit false is = cc (is)

made-is : (counter commit : ℕ) (b : Bool) → Made commit ≡ mark_of counter b → b ≡ true
made-is counter commit true is = refl
made-is counter commit false is = absurd (cc (is))

-- a commit in doubt was due
pub doubtful_due : (tampered : List ℕ) (s : ReplayState) (session : ℕ) (call : Call) (reply : Reply) (commit : ℕ) (file : Option ℕ)
    → IsLegalAnswer tampered s session call reply (Doubtful commit) file → is_commit_due s session call ≡ true
doubtful_due tampered s session call reply commit file (Answered answered) = absurd (unmarked s.counter commit (is_commit_due s session call) answered.marked)
doubtful_due tampered s session call reply commit file (Unavailable unavailable) = absurd (cc (unavailable.marked))
doubtful_due tampered s session call reply commit file (Doubted doubted) = doubted.due
doubtful_due tampered s session call reply commit file (FoundCorrupt corrupt) = absurd (cc (corrupt.marked))
doubtful_due tampered s session call reply commit file (Spent spent) = absurd (cc (spent.marked))

-- and so was one that was made
pub made_due : (tampered : List ℕ) (s : ReplayState) (session : ℕ) (call : Call) (reply : Reply) (commit : ℕ) (file : Option ℕ)
    → IsLegalAnswer tampered s session call reply (Made commit) file → is_commit_due s session call ≡ true
made_due tampered s session call reply commit file (Answered answered) = made-is s.counter commit (is_commit_due s session call) answered.marked
made_due tampered s session call reply commit file (Unavailable unavailable) = absurd (cc (unavailable.marked))
made_due tampered s session call reply commit file (Doubted doubted) = absurd (cc (doubted.marked))
made_due tampered s session call reply commit file (FoundCorrupt corrupt) = absurd (cc (corrupt.marked))
made_due tampered s session call reply commit file (Spent spent) = absurd (cc (spent.marked))
