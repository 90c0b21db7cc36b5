-- What holds of an opening holds still where nothing more is pending.
use Rattle.std.proofs.Common.{◌≡◌, ◌≢◌, ◌∙◌, ◌-◌, ◌≤◌, ℕ, zero, suc, List, ◌∷◌, length, get_or, drop, Result, Ok, Err, refl, sym, ap, subst, inl, inr, arith}
use Rattle.std.specs.Prelude.{slice_set, OnErr, OnOk}
use Rattle.std.proofs.lemmas.Bool.{cases_eq}
use Rattle.disk_model.specs.State.{FileState, pending, spans_of}
use Rattle.disk_model.specs.Calls.{Rests}
use Rattle.tee_types.specs.Limits.{IsObjectFile, directory_file}
use Rattle.rpmb_card.specs.Port.{PortState}
use Rattle.rpmb_host.specs.Calls.{HostState}
use Rattle.crash_core.specs.CoreState.{put}
use Rattle.crash_core.proofs.Lists.{put_each, put_else, put_here}
use Rattle.store_commit.specs.Gates.{GateValue}
use Rattle.disk_model.specs.Arms.{Taint}
use Rattle.disk_model.specs.Controls.{failure_armed, stop_armed, taint_armed}
use Rattle.tee_types.specs.declared.reply.Device.{Device}
use Rattle.tee_types.specs.declared.reply.Device.TheVariants.{Dir, File, Card, Entropy}
use Rattle.object_calls.specs.OpeningArms.{ArmsOne, FailsOnBench, StayDevices, StopsOnBench, TaintsOnBench}
use Rattle.object_calls.specs.OpeningFiles.{files_of, numbered_files, object_files}
use Rattle.object_calls.specs.Next.{ReadsObject, ReadsOne}
use Rattle.object_calls.specs.Opening.{IsOpening}
use Rattle.object_calls.proofs.EntriesOf.{form_at}
use Rattle.object_calls.proofs.Files.{directory_here, object_else, object_get, object_here, object_numbered}

-- reads leave nothing pending
pub rests_pending : (a b : FileState) → Rests a b → pending b ≡ pending a
rests_pending a b rests = λ i. spans_of (drop (rests.pending_from i) (rests.trail i))

module _ {F R : Type 0} (state : F → FileState) (old : GateValue F R) (files : List F) (storage_key : List ℕ) (is : IsOpening state old files storage_key) (spare : F) where
  -- other devices, of which nothing more is pending
  pub still_open : (d : F) (host : HostState R) (others : List F) → length others ≡ length files
      → ((file : ℕ) → pending (numbered_files state spare d others file) ≡ pending (numbered_files state spare old.dir.file files file))
      → IsOpening state (record old { dir = record old.dir { file = d }; host = host }) others storage_key
  still_open d host others many same = record {
    idle = is.idle;
    unopened = is.unopened;
    unheld = is.unheld;
    whole = many ∙ is.whole;
    keyed = is.keyed;
    current = is.current;
    entries = is.entries;
    entries_current = is.entries_current;
    identified = is.identified;
    settled = ap pending (sym (directory_here state spare d others)) ∙ same directory_file ∙ ap pending (directory_here state spare old.dir.file files) ∙ is.settled;
    synced = λ index e at.
        let object = (form_at old.dir.dir.entries is.entries index e at).file in
        ap pending (sym (object_numbered state spare d others e.file object)) ∙ same e.file ∙ ap pending (object_numbered state spare old.dir.file files e.file object)
        ∙ is.synced index e at;
  }

  -- the same, of a gate that is so
  pub stays_open : (new : GateValue F R) (others : List F) → new ≡ record old { dir = record old.dir { file = new.dir.file }; host = record old.host { port = new.host.port } } → length others ≡ length files
      → ((file : ℕ) → pending (numbered_files state spare new.dir.file others file) ≡ pending (numbered_files state spare old.dir.file files file)) → IsOpening state new others storage_key
  stays_open new others gate many same = subst (λ (g : GateValue F R). IsOpening state g others storage_key) (sym gate) (still_open new.dir.file (record old.host { port = new.host.port }) others many same)

-- the value that was there
put_itself : (f : ℕ → FileState) (n k : ℕ) → put f n (f n) k ≡ f k
put_itself f n k = elim (cases_eq k n) [
  | inl same ↦ put_here f n (f n) k same ∙ ap f (sym same)
  | inr other ↦ put_else f n (f n) k other
]

-- one file is armed
module _ {F : Type 0} (state : F → FileState) (spare d : F) (files : List F) where
  abbrev bench : ℕ → FileState
  bench = numbered_files state spare d files

  pub dir_armed : (x : F) (s : FileState) → state x ≡ s → (k : ℕ) → numbered_files state spare x files k ≡ put bench directory_file s k
  dir_armed x s is k = elim (cases_eq k directory_file) [
    | inl same ↦ put_here (files_of state (spare ∷ files)) directory_file (state x) k same ∙ is ∙ sym (put_here bench directory_file s k same)
    | inr other ↦
        put_else (files_of state (spare ∷ files)) directory_file (state x) k other
        ∙ sym (put_else (files_of state (spare ∷ files)) directory_file (state d) k other)
        ∙ sym (put_else bench directory_file s k other)
  ]

  pub file_armed : (n : ℕ) (x : F) (s : FileState) → IsObjectFile n → n ≤ length files → state x ≡ s → (k : ℕ) → numbered_files state spare d (slice_set files (n - 1) x) k ≡ put bench n s k
  file_armed n x s object upto is k = elim (cases_eq k n) [
    | inl same ↦
        ap (numbered_files state spare d (slice_set files (n - 1) x)) same ∙ object_numbered state spare d (slice_set files (n - 1) x) n object
        ∙ object_here state files n x object.0 upto ∙ is ∙ sym (put_here bench n s k same)
    | inr other ↦ elsewhere k other ∙ sym (put_else bench n s k other)
  ]
    where
      behind : (j : ℕ) → j ≢ n → files_of state (spare ∷ slice_set files (n - 1) x) j ≡ files_of state (spare ∷ files) j
      behind zero other = refl
      behind (suc j) other = object_else state files n (suc j) x object.0 other

      elsewhere : (j : ℕ) → j ≢ n → numbered_files state spare d (slice_set files (n - 1) x) j ≡ bench j
      elsewhere j other = elim (cases_eq j directory_file) [
        | inl own ↦
            put_here (files_of state (spare ∷ slice_set files (n - 1) x)) directory_file (state d) j own
            ∙ sym (put_here (files_of state (spare ∷ files)) directory_file (state d) j own)
        | inr off ↦
            put_else (files_of state (spare ∷ slice_set files (n - 1) x)) directory_file (state d) j off ∙ behind j other
            ∙ sym (put_else (files_of state (spare ∷ files)) directory_file (state d) j off)
      ]

  -- the file at its number
  pub file_at : (n : ℕ) (x : F) → IsObjectFile n → n ≤ length files → x ≡ get_or files (n - 1) x → bench n ≡ state x
  file_at n x object upto is = object_numbered state spare d files n object ∙ object_get state files n x object.0 upto is

  -- an arming of the file in its place
  module _ (n : ℕ) (x y : F) (p : PortState) (arm : FileState → FileState) (object : IsObjectFile n) (upto : n ≤ length files) (is : x ≡ get_or files (n - 1) x) where
    pub one_armed : state y ≡ arm (state x) → ArmsOne bench (numbered_files state spare d (slice_set files (n - 1) y)) p p n (arm (bench n))
    one_armed armed = record {
      files = file_armed n y (arm (bench n)) object upto (armed ∙ ap arm (sym (file_at n x object upto is)));
      port = refl;
    }

    pub one_stays : state y ≡ state x → StayDevices bench (numbered_files state spare d (slice_set files (n - 1) y)) p p
    one_stays same = record {
      files = λ k. file_armed n y (bench n) object upto (same ∙ sym (file_at n x object upto is)) k ∙ put_itself bench n k;
      port = refl;
    }

-- a fact of an answer
pub on_ok : {A B : Type 0} (r : Result A B) (P Q : Type 0) → (P → Q) → OnOk r P → OnOk r Q
on_ok (Ok x) P Q step holds = step holds
on_ok (Err e) P Q step holds = tt

pub on_err : {A B : Type 0} (r : Result A B) (P Q : Type 0) → (P → Q) → OnErr r P → OnErr r Q
on_err (Ok x) P Q step holds = tt
on_err (Err e) P Q step holds = step holds

-- so nothing more is pending
pub armed_pending : (old new : ℕ → FileState) (n : ℕ) (s : FileState) → ((k : ℕ) → new k ≡ put old n s k) → pending s ≡ pending (old n) → (k : ℕ) → pending (new k) ≡ pending (old k)
armed_pending old new n s armed same k = ap pending (armed k) ∙ put_each (λ j x. pending x ≡ pending (old j)) old n s k same refl

pub stops_pending : (device : Device) (calls : ℕ) (old new : ℕ → FileState) (p q : PortState) → StopsOnBench device calls old new p q → (k : ℕ) → pending (new k) ≡ pending (old k)
stops_pending Dir calls old new p q s = armed_pending old new directory_file (stop_armed (old directory_file) calls) s.files refl
stops_pending (File n) calls old new p q s = armed_pending old new n (stop_armed (old n) calls) s.files refl
stops_pending Card calls old new p q s = λ k. ap pending (s.0 k)
stops_pending Entropy calls old new p q s = λ k. ap pending (s.files k)

fails_ok : (device : Device) (call : ℕ) (old new : ℕ → FileState) (p q : PortState) → FailsOnBench device call old new p q → (k : ℕ) → pending (new k) ≡ pending (old k)
fails_ok Dir call old new p q s = armed_pending old new directory_file (failure_armed (old directory_file) call) s.files refl
fails_ok (File n) call old new p q s = armed_pending old new n (failure_armed (old n) call) s.files refl
fails_ok Card call old new p q s = λ k. ap pending (s.0 k)
fails_ok Entropy call old new p q s = λ k. ap pending (s.files k)

taints_ok : (device : Device) (taint : Taint) (old new : ℕ → FileState) (p q : PortState) → TaintsOnBench device taint old new p q → (k : ℕ) → pending (new k) ≡ pending (old k)
taints_ok Dir taint old new p q s = armed_pending old new directory_file (taint_armed (old directory_file) taint) s.files refl
taints_ok (File n) taint old new p q s = armed_pending old new n (taint_armed (old n) taint) s.files refl
taints_ok Card taint old new p q s = λ k. ap pending (s.files k)
taints_ok Entropy taint old new p q s = λ k. ap pending (s.files k)

pub fails_pending : {A B : Type 0} (r : Result A B) (device : Device) (call : ℕ) (old new : ℕ → FileState) (p q : PortState) → OnOk r (FailsOnBench device call old new p q)
    → OnErr r (StayDevices old new p q) → (k : ℕ) → pending (new k) ≡ pending (old k)
fails_pending (Ok x) device call old new p q armed refused = fails_ok device call old new p q armed
fails_pending (Err e) device call old new p q armed refused = λ k. ap pending (refused.files k)

pub taints_pending : {A B : Type 0} (r : Result A B) (device : Device) (taint : Taint) (old new : ℕ → FileState) (p q : PortState) → OnOk r (TaintsOnBench device taint old new p q)
    → OnErr r (StayDevices old new p q) → (k : ℕ) → pending (new k) ≡ pending (old k)
taints_pending (Ok x) device taint old new p q armed refused = taints_ok device taint old new p q armed
taints_pending (Err e) device taint old new p q armed refused = λ k. ap pending (refused.files k)

-- reads of one file
pub reads_pending : (old new : ℕ → FileState) (n : ℕ) → ReadsOne old new n → (k : ℕ) → pending (new k) ≡ pending (old k)
reads_pending old new n reads k = elim (cases_eq k n) [
  | inl same ↦ subst (λ (j : ℕ). pending (new j) ≡ pending (old j)) (sym same) (rests_pending (old n) (new n) reads.rests)
  | inr other ↦ ap pending (reads.others k other)
]

pub reads_bench : {F : Type 0} (state : F → FileState) (spare d : F) (old new : List F) (n : ℕ) → IsObjectFile n → ReadsObject (object_files state old) (object_files state new) n
    → ReadsOne (numbered_files state spare d old) (numbered_files state spare d new) n
reads_bench state spare d old new n object reads = record {
  rests = subst (λ (s : FileState). Rests s (numbered_files state spare d new n)) (sym (object_numbered state spare d old n object))
      (subst (Rests (object_files state old n)) (sym (object_numbered state spare d new n object)) reads.rests);
  others = λ k other. elim (cases_eq k directory_file) [
    | inl own ↦
        put_here (files_of state (spare ∷ new)) directory_file (state d) k own ∙ sym (put_here (files_of state (spare ∷ old)) directory_file (state d) k own)
    | inr off ↦
        put_else (files_of state (spare ∷ new)) directory_file (state d) k off ∙ behind k other ∙ sym (put_else (files_of state (spare ∷ old)) directory_file (state d) k off)
  ];
}
  where
    behind : (k : ℕ) → k ≢ n → files_of state (spare ∷ new) k ≡ files_of state (spare ∷ old) k
    behind zero other = refl
    behind (suc k) other = reads.others (suc k) (omega arith) other
