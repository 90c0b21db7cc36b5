-- What is known of a file, and which images a crash may have left of it.
use Rattle.std.specs.Prelude.{◌≡◌, ◌↔◌, ℕ, zero, suc, ◌≤◌, List, [], ◌∷◌, length, drop, map, Bool, true, false, IsTrue}
use Rattle.disk_model.specs.declared.span.Span.{Span}
use Rattle.disk_model.specs.declared.span.Change.{Change}
use Rattle.disk_model.specs.Images.{Has, in_spans, MayLeave}
use Rattle.disk_model.specs.Bytes.{AreBytes}
use Rattle.disk_model.specs.Arms.{Arms, NamesNone, no_arms}

pub record FileState : Type 0 where
  -- the bytes that a crash leaves outside the spans that changed
  pub settled : List ℕ
  -- the bytes that it reads as
  pub reads : List ℕ
  -- each change and each successful sync since its bytes were last named anew
  pub trail : List Change
  -- where in the trail the changes since the last successful sync begin
  pub pending_from : ℕ
  -- nothing but the calls of its user changes its bytes
  pub honest : Bool
  -- no call but a write or a change of the length changes what it reads as
  pub steady : Bool
  -- a read that succeeds gives what it reads as
  pub tells : Bool
  -- it fails only where memory ran out
  pub calm : Bool
  -- how many calls failed, and in how many of them memory ran out
  pub faults : ℕ
  pub starved : ℕ
  -- how many bytes were written
  pub written : ℕ
  -- what is set to fail and to be struck, if it tells that
  pub tells_arms : Bool
  pub arms : Arms

-- where there is no file: nothing, and that is settled
abbrev pub no_file : FileState
no_file = record {
  settled = [];
  reads = [];
  trail = [];
  pending_from = 0;
  honest = true;
  steady = true;
  tells = true;
  calm = true;
  faults = 0;
  starved = 0;
  written = 0;
  tells_arms = false;
  arms = no_arms;
}

-- the spans of a list of changes
abbrev pub spans_of : List Change → List Span
spans_of changes = map (λ change. change.span) changes

-- the spans that changed since the last successful sync
abbrev pub pending : FileState → List Span
pending s = spans_of (drop s.pending_from s.trail)

-- a moment is a length of the trail
abbrev pub moment : FileState → ℕ
moment s = length s.trail

-- where in the trail the spans begin that were pending at a moment; `now` is where those of the present begin
abbrev pub base_at : List Change → ℕ → ℕ → ℕ
base_at [] now moment = now
base_at (change ∷ trail) now zero = change.base
base_at (change ∷ trail) now (suc moment) = base_at trail now moment

-- the spans that were pending at a moment, or came since
abbrev pub spans_since : FileState → ℕ → List Span
spans_since s moment = spans_of (drop (base_at s.trail s.pending_from moment) s.trail)

-- A crash now may leave this image; of a file that is not honest, any.
abbrev pub LeftNow : FileState → List ℕ → Type 0
LeftNow s image = IsTrue s.honest → MayLeave s.settled (pending s) image

-- A crash now or at some moment since the given one may have left this image. Images that no such crash left may be among
-- these too; at the present moment none is.
abbrev pub LeftSince : FileState → ℕ → List ℕ → Type 0
LeftSince s moment image = IsTrue s.honest → MayLeave s.settled (spans_since s moment) image

-- Where no span is pending, the settled bytes of an honest file are those that it reads as. What was pending at a moment
-- begins no later in the trail than what is pending now.
pub record BytesAgree (settled reads : List ℕ) (trail : List Change) (pending_from : ℕ) (honest : Bool) : Type 0 where
  pub agrees : IsTrue honest → (place byte : ℕ) → in_spans (spans_of (drop pending_from trail)) place ≡ false
      → (Has settled place byte ↔ Has reads place byte)
  pub within : pending_from ≤ length trail
  pub bases : (moment : ℕ) → base_at trail pending_from moment ≤ pending_from

-- what holds of every file
pub record Sound (s : FileState) : Type 0 where
  pub bytes : BytesAgree s.settled s.reads s.trail s.pending_from s.honest
  -- it reads as bytes
  pub reads : AreBytes s.reads
  -- an honest file tells its bytes
  pub told : IsTrue s.honest → IsTrue s.tells
  -- one that tells its arms is calm where no call is to fail, and steady where no mask is to strike
  pub calm : IsTrue s.tells_arms → NamesNone s.arms → IsTrue s.calm
  pub steady : IsTrue s.tells_arms → s.arms.taints ≡ [] → IsTrue s.steady
