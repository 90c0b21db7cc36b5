-- What a file reads as where a version lies, with masks over it, and what was seen of that.
use Rattle.std.proofs.Common.{◌≡◌, inl, inr, ℕ, ◌<◌, ◌≤◌, Bool, true, false, ◌&&◌, cond, List, [], ◌∷◌, length, get_or, Option, Some, None, Ok, IsTrue, refl, sym, ◌∙◌, ap, subst, arith}
use Rattle.std.specs.Prelude.{Contains}
use Rattle.std.proofs.lemmas.Bool.{cases_lt}
use Rattle.disk_model.specs.Arms.{Taint}
use Rattle.disk_model.specs.Calls.{GoesOn}
use Rattle.disk_model.specs.Keeps.{CallOff, FileCall, IsCall, IsFileRun, Outside, Runs, rest, sync, write}
use Rattle.disk_model.specs.Masks.{ReadsMasked}
use Rattle.disk_model.specs.Seen.{WasSeen}
use Rattle.disk_model.specs.State.{FileState}
use Rattle.disk_model.proofs.Goings.{goes_on_none, goes_on_then}
use Rattle.disk_model.proofs.Masks.{reads_armed, reads_masked_none, reads_masked_then}
use Rattle.disk_model.proofs.Seen.{run_masked}
use Rattle.node_image.specs.Selection.{SelectedTree}
use Rattle.htree_file.specs.Opening.{Loaded}
use Rattle.htree_file.specs.Selected.{Lies}
use Rattle.htree_file.specs.Pages.{block_in}
use Rattle.htree_file.proofs.SelectedBlocks.{selected_block}
use Rattle.hmac_keys.specs.declared.Keys.{Keys}
use Rattle.history_seats.specs.Records.{Version}
use Rattle.core_laws.specs.SlotParts.{IsShownIn}
use Rattle.core_laws.specs.Decodings.{block_of}
use Rattle.core_laws.proofs.Contained.{contains_none}
use Rattle.core_laws.specs.Masked.{HasOneTree, MaskedAt, ShowsMasked, StandsMasked, told_taints}

-- A file that tells.
told_by : (tells arms : Bool) (all taints : List Taint) → cond (tells && arms) (Some all) None ≡ Some taints → IsTrue tells × IsTrue arms × (all ≡ taints)
told_by true true all taints is = (refl, refl, cc (is))
told_by true false all taints is = absurd (cc (is))
told_by false arms all taints is = absurd (cc (is))

pub told_parts : (s : FileState) (taints : List Taint) → told_taints s ≡ Some taints → IsTrue s.tells × IsTrue s.tells_arms × (s.arms.taints ≡ taints)
told_parts s taints is = told_by s.tells s.tells_arms s.arms.taints taints is

same_told : (tells arms : Bool) (old new : List Taint) → (IsTrue arms → new ≡ old) → ◌≡◌ {A = Option (List Taint)} (cond (tells && arms) (Some new) None) (cond (tells && arms) (Some old) None)
same_told true true old new same = ap (λ (l : List Taint). Some l) (same refl)
same_told true false old new same = refl
same_told false arms old new same = refl

pub told_stays : (old new : FileState) → GoesOn old new → told_taints new ≡ told_taints old
told_stays old new goes =
    (λ i. cond (goes.tells i && goes.tells_arms i) (Some new.arms.taints) None)
    ∙ same_told old.tells old.tells_arms old.arms.taints new.arms.taints (λ tells. (goes.arms tells).taints)

-- A run of calls goes on.
call_goes_on : (call : FileCall) (old new : FileState) → IsCall call old new → GoesOn old new
call_goes_on (write from upto) old new is = is.changes.goes_on
call_goes_on sync old new is = is.goes_on
call_goes_on rest old new is = is.goes_on

run_goes_on : (K : ℕ → Type 0) (old : FileState) (calls : List FileCall) (new : FileState) → IsFileRun K old calls new → GoesOn old new
run_goes_on K old [] new run = subst (λ (s : FileState). GoesOn old s) (sym run) (goes_on_none old)
run_goes_on K old (call ∷ calls) new run = goes_on_then old run.0 new (call_goes_on call old run.0 run.2) (run_goes_on K run.0 calls new run.4)

pub runs_go_on : (K : ℕ → Type 0) (old new : FileState) → Runs K old new → GoesOn old new
runs_go_on K old new runs = run_goes_on K old runs.calls new runs.run

-- A run off some places is off others that cannot but be among them.
module _ (K L : ℕ → Type 0) (within : (p : ℕ) → L p → (K p → ⊥) → ⊥) where
  outside_no : (from upto p : ℕ) → from ≤ p → p < upto → Outside from upto p → ⊥
  outside_no from upto p low high (inl below) = absurd (omega (arith, low, below))
  outside_no from upto p low high (inr above) = absurd (omega (arith, high, above))

  off_within : (call : FileCall) → CallOff K call → CallOff L call
  off_within (write from upto) off = λ p at. elim (cases_lt p from) [
    | inl below ↦ inl below
    | inr low ↦ elim (cases_lt p upto) [
      | inr above ↦ inr above
      | inl high ↦ absurd (within p at (λ there. outside_no from upto p low high (off p there)))
    ]
  ]
  off_within sync off = tt
  off_within rest off = tt

  run_within : (old : FileState) (calls : List FileCall) (new : FileState) → IsFileRun K old calls new → IsFileRun L old calls new
  run_within old [] new run = run
  run_within old (call ∷ calls) new run = (run.0, run.1, run.2, off_within call run.3, run_within run.0 calls new run.4)

  pub runs_within : (old new : FileState) → Runs K old new → Runs L old new
  runs_within old new runs = record { calls = runs.calls; run = run_within old runs.calls new runs.run }

-- What is read where a version lies goes on along a run that leaves these places alone.
pub masked_later : (keys : Keys) (old new : FileState) (v : Version) (tree : Loaded) → IsTrue old.tells_arms → Runs (Lies tree.layout tree.nodes v.root.version) old new → MaskedAt keys old v tree → MaskedAt keys new v tree
masked_later keys old new v tree tells runs at =
    let K : ℕ → Type 0 = Lies tree.layout tree.nodes v.root.version in
    record {
      committed = at.committed;
      shows = at.shows;
      reads =
          reads_armed K old.arms new.arms at.committed new.reads (sym ((runs_go_on K old new runs).arms tells).taints)
          (reads_masked_then K old.arms at.committed old.reads new.reads at.reads (run_masked K old new runs tells));
    }

pub stands_later : (keys : Keys) (old new : FileState) (v : Version) → GoesOn old new
    → ((taints : List Taint) (tree : Loaded) → told_taints new ≡ Some taints → HasOneTree keys taints v tree → Runs (Lies tree.layout tree.nodes v.root.version) old new)
    → StandsMasked keys old v → StandsMasked keys new v
stands_later keys old new v goes runs stands taints tree told one =
    let was : told_taints old ≡ Some taints = sym (told_stays old new goes) ∙ told in
    masked_later keys old new v tree (told_parts old taints was).1 (runs taints tree told one) (stands taints tree was one)

-- Where a file reads as bytes that show the version, these stand in it.
pub stands_own : (keys : Keys) (file : FileState) (v : Version) → IsShownIn keys file.reads v → StandsMasked keys file v
stands_own keys file v shows taints tree told one = record { committed = file.reads; shows = shows; reads = reads_masked_none (Lies tree.layout tree.nodes v.root.version) file.arms file.reads }

-- What was seen of a version's bytes in a call was seen with masks over them.
pub seen_masked : (keys : Keys) (taints : List Taint) (v : Version) (tree : Loaded) (K : ℕ → Type 0) (old now : FileState) (Shown : List ℕ → Type 0) → told_taints old ≡ Some taints → GoesOn old now
    → MaskedAt keys old v tree → WasSeen K old now Shown → ShowsMasked keys taints v (λ place. K place × Lies tree.layout tree.nodes v.root.version place) Shown
seen_masked keys taints v tree K old now Shown told goes at seen =
    let parts = told_parts old taints told in
    let both : ℕ → Type 0 = λ place. K place × Lies tree.layout tree.nodes v.root.version place in
    let first : ReadsMasked both old.arms at.committed old.reads = record { masks = at.reads.masks; armed = at.reads.armed; are = λ place byte kept there. at.reads.are place byte kept.1 there } in
    let m : ReadsMasked K old.arms old.reads seen.past.reads = seen.masked parts.1 in
    let second : ReadsMasked both old.arms old.reads seen.past.reads = record { masks = m.masks; armed = m.armed; are = λ place byte kept there. m.are place byte kept.0 there } in
    let all : ReadsMasked both old.arms at.committed seen.past.reads = reads_masked_then both old.arms at.committed old.reads seen.past.reads first second in
    let still = runs_go_on K seen.past now seen.since in
    record {
      committed = at.committed;
      shows = at.shows;
      masks = all.masks;
      armed = λ taint among. subst (λ (l : List Taint). Contains l taint) parts.2 (all.armed taint among);
      image = seen.past.reads;
      are = all.are;
      shown = seen.shown (subst (λ (b : Bool). IsTrue b) (sym goes.tells ∙ still.tells) parts.0);
    }

module _ (keys : Keys) (v : Version) (own : Loaded) (image : List ℕ) (shows : IsShownIn keys image v) (loads : v.loads ≡ Ok own) where
  -- the ciphertext of a block of the version
  pub block_is : (k : ℕ) → k < length own.nodes → block_in image own k ≡ block_of v k
  block_is k lt = sym (ap (λ (t : SelectedTree). get_or t.blocks k []) (sym shows.selects) ∙ selected_block image v.root own (shows.loads ∙ loads) k lt)

  -- it is shown with no mask
  pub own_shown : (taints : List Taint) (Kept : ℕ → Type 0) (k : ℕ) → k < length own.nodes → ShowsMasked keys taints v Kept (λ other. block_of v k ≡ block_in other own k)
  own_shown taints Kept k lt = record {
    committed = image;
    shows = shows;
    masks = [];
    armed = λ taint among. absurd (contains_none taint among);
    image = image;
    are = λ place byte kept there. there;
    shown = sym (block_is k lt);
  }
