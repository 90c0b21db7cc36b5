-- Calls by a handle that are refused before anything is done.
use Rattle.std.proofs.Common.{◌≡◌, ◌∙◌, ℕ, Bool, true, false, List, cond, Option, Some, None, refl, ap}
use Rattle.tee_types.specs.Rights.{has}
use Rattle.tee_types.specs.declared.reply.Reply.{Reply}
use Rattle.tee_types.specs.declared.reply.Reply.TheVariants.{Done, Handle as HandleReply, Content, Info, Found, Refused, Misuse, Corrupt, NotAvailable, CounterSpent, NoMemory}
use Rattle.tee_types.specs.declared.reply.Reason.TheVariants.{BadHandle, NoRight}
use Rattle.store_model.specs.declared.session.Handle.{Handle}
use Rattle.store_model.specs.Machine.{Session, MachineState, Outcome, handle_at, refuse, by_right}
use Rattle.store_model.specs.Calls.{is_done}
use Rattle.store_model.specs.Files.{is_misuse}
use Rattle.dir_records.specs.declared.entry.DirEntry.{DirEntry}
use Rattle.open_table.specs.Table.{TableState}
use Rattle.dir_index.specs.EntryNames.{IsEntryNamed}
use Rattle.call_rules.specs.Matches.{Matches}
use Rattle.call_rules.specs.Objects.{RefusesRight}

pub misuse_not_done : (reply : Reply) → is_misuse reply ≡ true → is_done reply ≡ false
misuse_not_done Done h = absurd (cc (h))
misuse_not_done (HandleReply number) h = refl
misuse_not_done (Content bytes) h = refl
misuse_not_done (Info size position flags attributes) h = refl
misuse_not_done (Found id size) h = refl
misuse_not_done (Refused code) h = refl
misuse_not_done (Misuse reason) h = refl
misuse_not_done Corrupt h = refl
misuse_not_done (NotAvailable cause) h = refl
misuse_not_done (CounterSpent counter) h = refl
misuse_not_done NoMemory h = refl

-- a live handle's object has an entry
pub live_named : (entries : List (Option DirEntry)) (table : TableState) (caller : Session) (s : MachineState) (i : ℕ) → Matches entries table caller s i
    → (number : ℕ) (h : Handle) → handle_at caller number ≡ Some h → IsEntryNamed entries h.name None → ⊥
live_named entries table caller s i m number h live none =
    let there = m.handles.each i number h m.within (ap (λ (x : Session). handle_at x number) m.session ∙ live) in
    let file = (there.3).file in
    let named = file.named in
    none file.index named.entry named.at named.named

-- without a live handle, a call by one is refused
pub refuses-none : (s : MachineState) (right : ℕ) (handle : Option Handle) → handle ≡ None → RefusesRight s right handle (Misuse BadHandle)
refuses-none s right handle none = λ done. ap (λ (h : Option Handle). by_right s right h done) none

-- without the right too
pub refuses-right : (s : MachineState) (right : ℕ) (handle : Option Handle) (h : Handle) → handle ≡ Some h → has h.flags right ≡ false
    → RefusesRight s right handle (Misuse NoRight)
refuses-right s right handle h live lacks = λ done.
    ap (λ (x : Option Handle). by_right s right x done) live ∙ ap (λ (b : Bool). cond b (done h) (refuse s (Misuse NoRight))) lacks

-- with it, the call is done
pub by_right-has : (s : MachineState) (right : ℕ) (handle : Option Handle) (h : Handle) (done : Handle → Outcome) → handle ≡ Some h → has h.flags right ≡ true
    → by_right s right handle done ≡ done h
by_right-has s right handle h done live has_right =
    ap (λ (x : Option Handle). by_right s right x done) live ∙ ap (λ (b : Bool). cond b (done h) (refuse s (Misuse NoRight))) has_right
