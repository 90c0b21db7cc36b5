-- What a commit leaves is what is meant, and what is meant to be refused raises nothing.
use Rattle.std.proofs.Common.{◌≡◌, ◌⊎◌, ℕ, true, false, cond, ◌||◌, List, [], refl, sym, ap, ◌∙◌, inl, Some, None, true≢false, arith}
use Rattle.std.specs.Prelude.{nat_lt}
use Rattle.std.proofs.lemmas.Bool.Decides.{nat_tests}
use Rattle.tee_types.specs.declared.flags.Flags.{Flags}
use Rattle.tee_types.specs.declared.call.Call.{Call}
use Rattle.tee_types.specs.declared.call.Call.TheVariants.{Create, Open, Close, Read, Write, Truncate, Seek, Rename, Delete, Info, EnumNew, EnumStart, EnumNext, EnumReset, EnumFree}
use Rattle.tee_types.specs.declared.reply.Reply.{Reply}
use Rattle.tee_types.specs.declared.reply.Reply.TheVariants.{Done, Handle as HandleReply, Content, Info as InfoReply, Found, Refused, Misuse, Corrupt, NotAvailable, CounterSpent, NoMemory}
use Rattle.store_model.specs.Object.{Sound, with_object}
use Rattle.store_model.specs.Machine.{MachineState, session_at, name_in}
use Rattle.store_model.specs.Calls.{reply_of, state_after, is_handle, is_commit_of, is_commit}
use Rattle.store_model.specs.Files.{is_misuse, is_corrupt}
use Rattle.store_model.specs.Refusal.{is_refusal, left_by_refusal}
use Rattle.store_model.proofs.Closeness.{listing}
use Rattle.store_model.proofs.CloseCommits.{put-left, misuse-same}
use Rattle.store_model.proofs.Refusals.{refusals_change_nothing}
use Rattle.app_totals.specs.declared.numbers.Totals.{Totals}
use Rattle.app_totals.specs.Totals.{totals_of}
use Rattle.app_totals.specs.Meant.{sound_state, meant_reply, is_granted, meant_objects, held_by, left_by, raises, grown}
use Rattle.app_totals.specs.Laws.{CommitsLeaveWhatIsMeant, MisusesAreMeant, RefusalsRaiseNothing, RepliesAreMeant}
use Rattle.app_totals.proofs.Listings.{totals_of-listing, listing-sound}
use Rattle.app_totals.proofs.MeantReplies.{is_create, meant_outcome}
use Rattle.app_totals.proofs.MeantCreates.{meant_create, misuse_create, handles_are_granted}

-- what is said of creates, and of all other calls, is said of each
by_kind : (P : Call → Type 0) → ((id : List ℕ) (flags : Flags) (attributes bytes : List ℕ) → P (Create id flags attributes bytes)) → ((call : Call) → is_create call ≡ false → P call) → (call : Call) → P call
by_kind P create other (Create id flags attributes bytes) = create id flags attributes bytes
by_kind P create other (Open id flags) = other (Open id flags) refl
by_kind P create other (Close number) = other (Close number) refl
by_kind P create other (Read number size) = other (Read number size) refl
by_kind P create other (Write number bytes) = other (Write number bytes) refl
by_kind P create other (Truncate number size) = other (Truncate number size) refl
by_kind P create other (Seek number offset whence) = other (Seek number offset whence) refl
by_kind P create other (Rename number id) = other (Rename number id) refl
by_kind P create other (Delete number) = other (Delete number) refl
by_kind P create other (Info number) = other (Info number) refl
by_kind P create other EnumNew = other EnumNew refl
by_kind P create other (EnumStart number) = other (EnumStart number) refl
by_kind P create other (EnumNext number) = other (EnumNext number) refl
by_kind P create other (EnumReset number) = other (EnumReset number) refl
by_kind P create other (EnumFree number) = other (EnumFree number) refl

-- no commit is answered with damage
spoiled-none : (size : ℕ) (call : Call) → is_commit_of call size Corrupt ≡ false
spoiled-none size = by_kind (λ call. is_commit_of call size Corrupt ≡ false) (λ id flags attributes bytes. refl) other
  where
    other : (call : Call) → is_create call ≡ false → is_commit_of call size Corrupt ≡ false
    other (Create id flags attributes bytes) apart = refl
    other (Write number bytes) apart = refl
    other (Truncate number new) apart = refl
    other (Rename number id) apart = refl
    other (Delete number) apart = refl
    other _ apart = refl

commit-good : (call : Call) (size : ℕ) (reply : Reply) → is_commit_of call size reply ≡ true → is_corrupt reply ≡ false
commit-good call size Corrupt due = absurd (true≢false (sym due ∙ spoiled-none size call))
commit-good call size Done due = refl
commit-good call size (HandleReply number) due = refl
commit-good call size (Content bytes) due = refl
commit-good call size (InfoReply n position flags attributes) due = refl
commit-good call size (Found id n) due = refl
commit-good call size (Refused code) due = refl
commit-good call size (Misuse reason) due = refl
commit-good call size (NotAvailable cause) due = refl
commit-good call size (CounterSpent counter) due = refl
commit-good call size NoMemory due = refl

-- a refusal leaves the objects
left-objects : (s : MachineState) (i : ℕ) (call : Call) (reply : Reply) → (left_by_refusal s i call reply).objects ≡ s.objects
left-objects s i (EnumStart number) (Refused code) = refl
left-objects s i (EnumStart number) _ = refl
left-objects s i _ reply = refl

raises-self : (t : Totals) → raises t t ≡ false
raises-self t = λ k. self t.objects k || self t.bytes k
  where
    self : (n : ℕ) → nat_lt n n ≡ false
    self n = grind (arith, nat_tests)

module _ (s : MachineState) (i : ℕ) where
  abbrev t : MachineState
  t = sound_state s

  abbrev app : List ℕ
  app = (session_at s i).application

  -- a call other than a create
  objects-other : (call : Call) → is_create call ≡ false → meant_objects s i call ≡ (state_after t i call).objects
  objects-other (Create id flags attributes bytes) apart = absurd (true≢false apart)
  objects-other _ apart = refl

  reply-other : (call : Call) → is_create call ≡ false → meant_reply s i call ≡ reply_of t i call
  reply-other (Create id flags attributes bytes) apart = absurd (true≢false apart)
  reply-other _ apart = refl

  left-create : (id : List ℕ) (flags : Flags) (attributes bytes : List ℕ) → is_commit s i (Create id flags attributes bytes) (reply_of s i (Create id flags attributes bytes)) ≡ true
      → totals_of app (state_after s i (Create id flags attributes bytes)).objects ≡ left_by s i (Create id flags attributes bytes)
  left-create id flags attributes bytes due =
      ap (totals_of app)
      (put-left s i id flags attributes bytes due
      ∙ sym (ap (λ b. cond b (with_object s.objects (name_in s i id) (Sound (record { attributes = attributes; bytes = bytes; bad = [] }))) s.objects)
      (handles_are_granted s i id flags attributes bytes due)))

  left-other : (call : Call) → is_create call ≡ false → is_commit s i call (reply_of s i call) ≡ true → totals_of app (state_after s i call).objects ≡ left_by s i call
  left-other call apart due =
      sym (ap (totals_of app) (objects-other call apart)
      ∙ totals_of-listing app (state_after s i call).objects (state_after t i call).objects
      ((meant_outcome s i call apart).listed (commit-good call _ (reply_of s i call) due)))

  -- nothing rises where the objects have the names and the sizes that they had
  pub raises-none : (call : Call) → left_by s i call ≡ held_by s i → grown s i call ≡ None
  raises-none call same =
      ap (λ (left : Totals). cond (raises (held_by s i) left) (Some left) None) same
      ∙ ap (λ b. cond b (Some (held_by s i)) None) (raises-self (held_by s i))

  refused-create : (id : List ℕ) (flags : Flags) (attributes bytes : List ℕ) → is_refusal (meant_reply s i (Create id flags attributes bytes)) ≡ true → grown s i (Create id flags attributes bytes) ≡ None
  refused-create id flags attributes bytes refused =
      raises-none (Create id flags attributes bytes)
      (ap (λ b. totals_of app (cond b (with_object s.objects (name_in s i id) (Sound (record { attributes = attributes; bytes = bytes; bad = [] }))) s.objects))
      (no_handle (meant_reply s i (Create id flags attributes bytes)) refused))
    where
      no_handle : (reply : Reply) → is_refusal reply ≡ true → is_handle reply ≡ false
      no_handle (HandleReply number) h = absurd (true≢false (sym h))
      no_handle Done h = refl
      no_handle (Content bytes) h = refl
      no_handle (InfoReply n position flags attributes) h = refl
      no_handle (Found id n) h = refl
      no_handle (Refused code) h = refl
      no_handle (Misuse reason) h = refl
      no_handle Corrupt h = refl
      no_handle (NotAvailable cause) h = refl
      no_handle (CounterSpent counter) h = refl
      no_handle NoMemory h = refl

  refused-other : (call : Call) → is_create call ≡ false → is_refusal (meant_reply s i call) ≡ true → grown s i call ≡ None
  refused-other call apart refused =
      raises-none call
      (totals_of-listing app s.objects (meant_objects s i call)
      (ap listing
      (objects-other call apart
      ∙ ap (λ (u : MachineState). u.objects) (refusals_change_nothing t i call (ap is_refusal (sym (reply-other call apart)) ∙ refused))
      ∙ left-objects t i call (reply_of t i call))
      ∙ listing-sound s.objects))

  meant-other : (call : Call) → is_create call ≡ false → is_corrupt (reply_of s i call) ≡ false → (meant_reply s i call ≡ reply_of s i call) ⊎ (is_granted s i call ≡ true)
  meant-other call apart good = inl (reply-other call apart ∙ (meant_outcome s i call apart).reply good)

  misuse-other : (call : Call) → is_create call ≡ false → is_misuse (meant_reply s i call) ≡ is_misuse (reply_of s i call)
  misuse-other call apart = ap is_misuse (reply-other call apart) ∙ misuse-same s t.objects i (listing-sound s.objects) call

pub commits_leave_what_is_meant : CommitsLeaveWhatIsMeant
commits_leave_what_is_meant s i =
    by_kind (λ call. is_commit s i call (reply_of s i call) ≡ true → totals_of (session_at s i).application (state_after s i call).objects ≡ left_by s i call) (left-create s i) (left-other s i)

pub refusals_raise_nothing : RefusalsRaiseNothing
refusals_raise_nothing s i = by_kind (λ call. is_refusal (meant_reply s i call) ≡ true → grown s i call ≡ None) (refused-create s i) (refused-other s i)

pub replies_are_meant : RepliesAreMeant
replies_are_meant s i =
    by_kind (λ call. is_corrupt (reply_of s i call) ≡ false → (meant_reply s i call ≡ reply_of s i call) ⊎ (is_granted s i call ≡ true))
    (λ id flags attributes bytes good. meant_create s i id flags attributes bytes) (meant-other s i)

pub misuses_are_meant : MisusesAreMeant
misuses_are_meant s i = by_kind (λ call. is_misuse (meant_reply s i call) ≡ is_misuse (reply_of s i call)) (misuse_create s i) (misuse-other s i)
