-- What calls leave of a file and of the port.
use Rattle.std.proofs.Common.{◌≡◌, ◌∙◌, ℕ, List, Result, Ok, sym, subst, inl, inr, drop}
use Rattle.tee_ports.specs.declared.failed.Failed.{Failed}
use Rattle.disk_model.specs.declared.span.Span.{Span}
use Rattle.disk_model.specs.Calls.{GoesOn, Rests, Syncs}
use Rattle.disk_model.specs.Images.{MayLeave}
use Rattle.disk_model.specs.State.{FileState, LeftNow, Sound, pending, spans_of}
use Rattle.disk_model.proofs.ImageLaws.{reads_left}
use Rattle.disk_model.proofs.Laws.{synced}
use Rattle.rpmb_card.specs.Port.{Exchanged, PortState}
use Rattle.rpmb_host.specs.Calls.{WriteExchanges}
use Rattle.store_commit.specs.Leaving.{KeepsPort, LeavesNoMore}
use Rattle.store_commit.proofs.PortArms.{arms_then, exchanged_arms, same_arms}

-- FILES
pub left_then : (a b c : FileState) → GoesOn b c → LeavesNoMore a b → LeavesNoMore b c → LeavesNoMore a c
left_then a b c goes first second honest image left = first (goes.honest honest) image (second honest image left)

pub rests_left : (a b : FileState) → Rests a b → LeavesNoMore a b
rests_left a b rests honest image left now =
    let same : pending b ≡ pending a = λ i. spans_of (drop (rests.pending_from i) (rests.trail i)) in
    subst (λ (l : List ℕ). MayLeave l (pending a) image) (rests.settled honest) (subst (λ (l : List Span). MayLeave b.settled l image) same (left honest))

-- after a sync a crash leaves what the file read as, which it might have left before
pub syncs_left : (a b : FileState) → Sound a → Syncs a b → LeavesNoMore a b
syncs_left a b sound syncs honest image left =
    subst (LeftNow a) (sym (synced a b syncs honest image left ∙ syncs.reads (inl honest))) (reads_left a sound)

-- PORTS
pub port_still : (p : PortState) → KeepsPort p p
port_still p = record { calm = λ h. h; arms = same_arms p }

pub port_then : (a b c : PortState) → KeepsPort a b → KeepsPort b c → KeepsPort a c
port_then a b c first second = record { calm = λ h. second.calm (first.calm h); arms = arms_then a b c first.arms second.arms }

pub exchange_keeps : (a b : PortState) (frame : List ℕ) (result : Result (List ℕ) Failed) → Exchanged a b frame result → KeepsPort a b
exchange_keeps a b frame result x = record { calm = x.stays_calm; arms = exchanged_arms a b frame result x }

pub writes_keep : (a b : PortState) (write : List ℕ) (outcome : Result (List ℕ) Failed) → WriteExchanges a b write outcome → KeepsPort a b
writes_keep a b write outcome (inl failed) = exchange_keeps a b write outcome failed.1
writes_keep a b write outcome (inr both) =
    port_then a both.0 b (exchange_keeps a both.0 write (Ok both.1) both.2) (exchange_keeps both.0 b _ outcome both.3)
