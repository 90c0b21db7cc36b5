-- What a run of calls of a file leaves of its images and of its honesty.
use Rattle.std.proofs.Common.{◌≡◌, ℕ, ◌≤◌, List, [], ◌∷◌, drop, IsTrue, inl, sym, ◌∙◌, ap, subst, arith}
use Rattle.disk_model.specs.declared.span.Span.{Span}
use Rattle.disk_model.specs.declared.span.Change.{Change}
use Rattle.disk_model.specs.Images.{MayLeave}
use Rattle.disk_model.specs.State.{FileState, LeftNow, LeftSince, Sound, moment, pending, spans_of}
use Rattle.disk_model.specs.Calls.{Rests, Syncs}
use Rattle.disk_model.specs.Keeps.{FileCall, IsCall, IsFileRun, write, sync, rest}
use Rattle.disk_model.proofs.ImageLaws.{reads_left}
use Rattle.disk_model.proofs.Laws.{change_keeps, rest_keeps, sync_keeps, synced}

-- what a call that changes nothing leaves was left before
pub rest_left : (old new : FileState) → Rests old new → IsTrue new.honest → (image : List ℕ) → LeftNow new image → LeftNow old image
rest_left old new rests honest image left was =
    let spans : pending new ≡ pending old = ap (λ (n : ℕ). spans_of (drop n new.trail)) rests.pending_from ∙ ap (λ (l : List Change). spans_of (drop old.pending_from l)) rests.trail in
    subst (λ (b : List ℕ). MayLeave b (pending old) image) (rests.settled honest) (subst (λ (l : List Span). MayLeave new.settled l image) spans (left honest))

-- and what a sync leaves
pub sync_left : (old new : FileState) → Sound old → Syncs old new → IsTrue new.honest → (image : List ℕ) → LeftNow new image → LeftNow old image
sync_left old new sound syncs honest image left =
    subst (LeftNow old) (sym (synced old new syncs honest image left ∙ syncs.reads (inl honest))) (reads_left old sound)

-- moments only come, and what was left since one of them stays among what may be
pub call_later : (call : FileCall) (old new : FileState) → Sound old → IsCall call old new → moment old ≤ moment new
call_later (write from upto) old new sound called = (change_keeps from upto old new sound called).later
call_later sync old new sound called = (sync_keeps old new sound called).later
call_later rest old new sound called = (rest_keeps old new sound called).later

call_past : (call : FileCall) (old new : FileState) → Sound old → IsCall call old new → (t : ℕ) (image : List ℕ) → t ≤ moment old → LeftSince old t image → LeftSince new t image
call_past (write from upto) old new sound called = (change_keeps from upto old new sound called).past
call_past sync old new sound called = (sync_keeps old new sound called).past
call_past rest old new sound called = (rest_keeps old new sound called).past

pub run_past : (Kept : ℕ → Type 0) (old : FileState) (calls : List FileCall) (new : FileState) → IsFileRun Kept old calls new
    → (t : ℕ) (image : List ℕ) → t ≤ moment old → LeftSince old t image → LeftSince new t image
run_past Kept old [] new run t image le left = subst (λ (s : FileState). LeftSince s t image) (sym run) left
run_past Kept old (call ∷ calls) new run t image le left =
    run_past Kept run.0 calls new run.4 t image (let later = call_later call old run.0 run.1 run.2 in omega (arith, le, later)) (call_past call old run.0 run.1 run.2 t image le left)

-- a file that is honest at the end was so before
pub call_was_honest : (call : FileCall) (old new : FileState) → IsCall call old new → IsTrue new.honest → IsTrue old.honest
call_was_honest (write from upto) old new called honest = called.changes.goes_on.honest honest
call_was_honest sync old new called honest = called.goes_on.honest honest
call_was_honest rest old new called honest = called.goes_on.honest honest

pub run_was_honest : (Kept : ℕ → Type 0) (old : FileState) (calls : List FileCall) (new : FileState) → IsFileRun Kept old calls new → IsTrue new.honest → IsTrue old.honest
run_was_honest Kept old [] new run honest = subst (λ (s : FileState). IsTrue s.honest) run honest
run_was_honest Kept old (call ∷ calls) new run honest = call_was_honest call old run.0 run.2 (run_was_honest Kept run.0 calls new run.4 honest)

-- one that ends sound began so
pub run_was_sound : (Kept : ℕ → Type 0) (old : FileState) (calls : List FileCall) (new : FileState) → IsFileRun Kept old calls new → Sound new → Sound old
run_was_sound Kept old [] new run sound = subst Sound run sound
run_was_sound Kept old (call ∷ calls) new run sound = run.1
