-- What a cause that is no count says: a frame that was received, and what is wrong with it.
use Rattle.std.specs.Prelude.{◌≡◌, ◌≢◌, ◌⊎◌, ℕ, ◌+◌, List, [], length, slice_index_or, Ok, Err}
use Rattle.rpmb_frame.specs.declared.frame.Frame.{Frame}
use Rattle.rpmb_card.specs.Port.{IsHeard, PortState}
use Rattle.rpmb_host.specs.declared.fault.HostFault.{HostFault}
use Rattle.rpmb_host.specs.declared.fault.HostFault.TheVariants.{BadFrame, CardResult as RefusedBy}
use Rattle.rpmb_host.specs.Calls.{counter_wanted, write_wanted}
use Rattle.rpmb_host.specs.Verdict.{verdict}
use Rattle.tee_types.specs.declared.reply.FrameFault.TheVariants.{Counter}
use Rattle.tee_types.specs.declared.reply.Cause.{Cause}
use Rattle.tee_types.specs.declared.reply.Cause.TheVariants.{Fault, Frame as OfFrame, CardResult}
use Rattle.store_commit.specs.declared.change.CommitEnd.{CommitEnd}
use Rattle.store_commit.specs.declared.change.CommitEnd.TheVariants.{Made, Dropped, Doubtful, Spent}
use Rattle.store_commit.specs.declared.change.CardEnd.{CardEnd}
use Rattle.store_commit.specs.declared.change.CardEnd.TheVariants.{Landed, Lost, Unknown}

-- a frame that was heard is refused so, as the result of the write or as a counter
pub record IsRefused (key : List ℕ) (counter : ℕ) (port : PortState) (fault : HostFault) : Type 0 where
  pub frame : List ℕ
  pub heard : IsHeard port frame
  pub refused : (verdict key (write_wanted 0 counter) frame ≡ Err fault) ⊎ ((nonce : List ℕ) × (verdict key (counter_wanted nonce) frame ≡ Err fault))

-- a frame that was heard tells a counter that is neither the old one nor the next
pub record IsNeither (key : List ℕ) (counter found : ℕ) (port : PortState) : Type 0 where
  pub frame : List ℕ
  pub heard : IsHeard port frame
  pub nonce : List ℕ
  pub answer : Frame
  pub verified : verdict key (counter_wanted nonce) frame ≡ Ok answer
  pub is : answer.counter ≡ found
  pub other : found ≢ counter
  pub not_next : found ≢ counter + 1

abbrev pub HeardCause : (key : List ℕ) → (counter : ℕ) → PortState → Cause → Type 0
HeardCause key counter port (Fault device count) = Unit {0}
HeardCause key counter port (OfFrame fault) = IsRefused key counter port (BadFrame fault) ⊎ ((found : ℕ) × (fault ≡ Counter (counter + 1) found) × IsNeither key counter found port)
HeardCause key counter port (CardResult result) = IsRefused key counter port (RefusedBy result)

abbrev pub CardHeard : (key : List ℕ) → (counter : ℕ) → PortState → CardEnd → Type 0
CardHeard key counter port Landed = Unit {0}
CardHeard key counter port (Lost why) = HeardCause key counter port why
CardHeard key counter port (Unknown why) = HeardCause key counter port why

-- where the counter read found the old counter, the cause is the write's
abbrev pub AskHeard : (key : List ℕ) → (counter : ℕ) → PortState → Cause → CardEnd → Type 0
AskHeard key counter port before Landed = Unit {0}
AskHeard key counter port before (Lost why) = why ≡ before
AskHeard key counter port before (Unknown why) = HeardCause key counter port why

-- the frame that was heard last is heard still
abbrev pub LastStays : (old new : PortState) → Type 0
LastStays old new = (k : ℕ) → k + 1 ≡ length old.heard → IsHeard new (slice_index_or old.heard k [])

abbrev pub EndHeard : (key : List ℕ) → (counter : ℕ) → PortState → CommitEnd → Type 0
EndHeard key counter port (Made n) = Unit {0}
EndHeard key counter port (Dropped cause) = HeardCause key counter port cause
EndHeard key counter port (Doubtful n cause) = HeardCause key counter port cause
EndHeard key counter port Spent = Unit {0}
