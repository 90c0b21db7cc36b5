-- Runs of calls one after another, what they leave of a file that tells its arms, and what was seen before them.
use Rattle.std.proofs.Common.{◌≡◌, ℕ, List, [], ◌∷◌, ◌++◌, Bool, IsTrue, refl, sym, ◌∙◌, subst}
use Rattle.disk_model.specs.Images.{Has}
use Rattle.disk_model.specs.Arms.{Arms}
use Rattle.disk_model.specs.State.{FileState, Sound}
use Rattle.disk_model.specs.Calls.{GoesOn, Rests}
use Rattle.disk_model.specs.Controls.{struck}
use Rattle.disk_model.specs.Keeps.{CallOff, FileCall, Outside, write, sync, rest, IsCall, IsFileRun, Runs}
use Rattle.disk_model.specs.Seen.{ReadsMasked, WasSeen, RunsReadMasked}
use Rattle.disk_model.proofs.Masks.{struck_masked, masked_back, masked_places, reads_armed, reads_masked_none, reads_masked_then}

-- Runs of calls.
off_fewer : (K L : ℕ → Type 0) → ((p : ℕ) → L p → K p) → (call : FileCall) → CallOff K call → CallOff L call
off_fewer K L fewer (write from upto) off = λ p at. off p (fewer p at)
off_fewer K L fewer sync off = tt
off_fewer K L fewer rest off = tt

run_fewer : (K L : ℕ → Type 0) → ((p : ℕ) → L p → K p) → (old : FileState) (calls : List FileCall) (new : FileState) → IsFileRun K old calls new → IsFileRun L old calls new
run_fewer K L fewer old [] new run = run
run_fewer K L fewer old (call ∷ calls) new run = (run.0, run.1, run.2, off_fewer K L fewer call run.3, run_fewer K L fewer run.0 calls new run.4)

run_then : (K : ℕ → Type 0) (a : FileState) (xs : List FileCall) (b : FileState) (ys : List FileCall) (c : FileState) → IsFileRun K a xs b → IsFileRun K b ys c → IsFileRun K a (xs ++ ys) c
run_then K a [] b ys c first second = subst (λ (s : FileState). IsFileRun K s ys c) first second
run_then K a (x ∷ xs) b ys c first second = (first.0, first.1, first.2, first.3, run_then K first.0 xs b ys c first.4 second)

pub runs_none : (K : ℕ → Type 0) (s : FileState) → Runs K s s
runs_none K s = record { calls = []; run = refl }

pub runs_one : (K : ℕ → Type 0) (call : FileCall) (old new : FileState) → Sound old → IsCall call old new → CallOff K call → Runs K old new
runs_one K call old new sound is off = record { calls = call ∷ []; run = (new, sound, is, off, refl) }

pub runs_fewer : (K L : ℕ → Type 0) (old new : FileState) → ((p : ℕ) → L p → K p) → Runs K old new → Runs L old new
runs_fewer K L old new fewer runs = record { calls = runs.calls; run = run_fewer K L fewer old runs.calls new runs.run }

pub runs_then : (K : ℕ → Type 0) (a b c : FileState) → Runs K a b → Runs K b c → Runs K a c
runs_then K a b c first second = record { calls = first.calls ++ second.calls; run = run_then K a first.calls b second.calls c first.run second.run }

-- What calls that change nothing saw as they ended.
places_masked : (K : ℕ → Type 0) (a b : FileState) → Rests a b → IsTrue a.tells_arms → ReadsMasked K a.arms a.reads b.reads
places_masked K a b rests tells = masked_places K a.arms a.reads b.reads b.reads (rests.masked tells) (λ p x at has. has)

pub seen_now : (K : ℕ → Type 0) (old new : FileState) (Shown : List ℕ → Type 0) → Rests old new → (IsTrue new.tells → Shown new.reads) → WasSeen K old new Shown
seen_now K old new Shown rests shown = record { past = new; since = runs_none K new; shown = shown; masked = places_masked K old new rests }

-- It goes on along a run that leaves its places alone,
pub seen_later : (K : ℕ → Type 0) (old now later : FileState) (Shown : List ℕ → Type 0) → Runs K now later → WasSeen K old now Shown → WasSeen K old later Shown
seen_later K old now later Shown runs seen = record { past = seen.past; since = runs_then K seen.past now later seen.since runs; shown = seen.shown; masked = seen.masked }

-- and was seen behind calls that change nothing.
pub seen_then : (K : ℕ → Type 0) (a b c : FileState) (Shown : List ℕ → Type 0) → Rests a b → WasSeen K b c Shown → WasSeen K a c Shown
seen_then K a b c Shown rests seen = record {
  past = seen.past;
  since = seen.since;
  shown = seen.shown;
  masked = λ tells.
      let still : IsTrue b.tells_arms = subst (λ (t : Bool). IsTrue t) (sym rests.goes_on.tells_arms) tells in
      reads_masked_then K a.arms a.reads b.reads seen.past.reads (places_masked K a b rests tells) (reads_armed K b.arms a.arms b.reads seen.past.reads (rests.goes_on.arms tells).taints (seen.masked still));
}

-- Where the calls that saw it changed nothing, it is told from their end too.
pub seen_anew : (K : ℕ → Type 0) (a b : FileState) (Shown : List ℕ → Type 0) → Rests a b → WasSeen K a b Shown → WasSeen K b b Shown
seen_anew K a b Shown rests seen = record {
  past = seen.past;
  since = seen.since;
  shown = seen.shown;
  masked = λ still.
      let tells : IsTrue a.tells_arms = subst (λ (t : Bool). IsTrue t) rests.goes_on.tells_arms still in
      let back = masked_back a.arms a.reads b.reads (rests.masked tells) in
      reads_armed K a.arms b.arms b.reads seen.past.reads (sym (rests.goes_on.arms tells).taints)
      (reads_masked_then K a.arms b.reads a.reads seen.past.reads (masked_places K a.arms b.reads a.reads a.reads back (λ p x at has. has)) (seen.masked tells));
}

-- What masks that struck at a call left outside the places that it writes is read with armed masks over it.
pub written_masked : (from upto : ℕ) (old new : FileState) → ((place byte : ℕ) → Outside from upto place → Has (struck old).reads place byte → Has new.reads place byte)
    → ReadsMasked (Outside from upto) old.arms old.reads new.reads
written_masked from upto old new others = masked_places (Outside from upto) old.arms old.reads (struck old).reads new.reads (struck_masked old) others

-- Each call leaves the kept places with armed masks over them, and so does a run of calls.
call_goes_on : (call : FileCall) (old new : FileState) → IsCall call old new → GoesOn old new
call_goes_on (write from upto) old new is = is.changes.goes_on
call_goes_on sync old new is = is.goes_on
call_goes_on rest old new is = is.goes_on

call_masked : (K : ℕ → Type 0) (call : FileCall) (old new : FileState) → IsCall call old new → CallOff K call → IsTrue old.tells_arms → ReadsMasked K old.arms old.reads new.reads
call_masked K (write from upto) old new is off tells =
    let own = is.masked tells in
    record { masks = own.masks; armed = own.armed; are = λ p x at has. own.are p x (off p at) has }
call_masked K sync old new is off tells = masked_places K old.arms old.reads (struck old).reads new.reads (struck_masked old) (λ p x at has. subst (λ (l : List ℕ). Has l p x) (sym (is.struck tells)) has)
call_masked K rest old new is off tells = masked_places K old.arms old.reads new.reads new.reads (is.masked tells) (λ p x at has. has)

run_masked_by : (K : ℕ → Type 0) (arms : Arms) (old : FileState) (calls : List FileCall) (new : FileState) → old.arms.taints ≡ arms.taints → IsTrue old.tells_arms
    → IsFileRun K old calls new → ReadsMasked K arms old.reads new.reads
run_masked_by K arms old [] new same tells run = subst (λ (s : FileState). ReadsMasked K arms old.reads s.reads) (sym run) (reads_masked_none K arms old.reads)
run_masked_by K arms old (call ∷ calls) new same tells run =
    let mid = run.0 in
    let goes_on = call_goes_on call old mid run.2 in
    let first = reads_armed K old.arms arms old.reads mid.reads same (call_masked K call old mid run.2 run.3 tells) in
    let still : IsTrue mid.tells_arms = subst (λ (b : Bool). IsTrue b) (sym goes_on.tells_arms) tells in
    reads_masked_then K arms old.reads mid.reads new.reads first (run_masked_by K arms mid calls new ((goes_on.arms tells).taints ∙ same) still run.4)

pub run_masked : (K : ℕ → Type 0) (old new : FileState) → Runs K old new → IsTrue old.tells_arms → ReadsMasked K old.arms old.reads new.reads
run_masked K old new runs tells = run_masked_by K old.arms old runs.calls new refl tells runs.run

pub runs_read_masked : RunsReadMasked
runs_read_masked kept old new = run_masked (λ place. IsTrue (kept place)) old new
