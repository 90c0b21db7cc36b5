-- What is shown of files that are followed is what they mount to.
use Rattle.std.proofs.Common.{◌≡◌, ◌∙◌, ◌+◌, ◌-◌, ◌<◌, ◌≤◌, ◌==◌, ◌||◌, ℕ, zero, suc, Bool, true, false, List, [], ◌∷◌, length, filter, is_none, Option, Some, None, Result, Ok, Err, if◌then◌else◌, refl, ap, subst, arith, IsTrue}
use Rattle.std.specs.List.{range_with_len}
use Rattle.std.proofs.lemmas.Bool.Decides.{nat_tests}
use Rattle.disk_model.specs.State.{FileState}
use Rattle.disk_model.specs.Calls.{Rests}
use Rattle.disk_model.proofs.Goings.{first_known}
use Rattle.hmac_keys.specs.declared.Keys.{Keys}
use Rattle.hmac_keys.specs.KeyTable.{ssk, tsk}
use Rattle.htree_file.specs.Pages.{Opened, opened_of}
use Rattle.htree_file.specs.Standing.{Told}
use Rattle.htree_file.specs.declared.fault.TreeFault.{TreeFault}
use Rattle.htree_file.proofs.Causes.{rests_then, told_then}
use Rattle.page_bytes.specs.Pages.{page_at}
use Rattle.dir_records.specs.declared.entry.DirEntry.{DirEntry}
use Rattle.dir_records.specs.Form.{HasForm}
use Rattle.store_model.specs.declared.name.ObjectName.{ObjectName}
use Rattle.store_model.specs.Object.{Object, Damaged as DamagedObject, Sound as SoundObject}
use Rattle.crash_core.specs.EntryLists.{entry_at}
use Rattle.crash_core.specs.MountedObject.{mounted_object, object_of, object_or_damaged, object_with, root_of}
use Rattle.crash_core.specs.Mounting.{held_in}
use Rattle.crash_core.specs.Opening.{reads_of}
use Rattle.object_calls.specs.declared.shown_object.ShownObject.{ShownObject}
use Rattle.object_calls.specs.declared.shown_object.ShownObject.TheVariants.{Damaged, Sound}
use Rattle.object_calls.specs.ShownObjects.{IsShownFrom, ShowsEntry, ShowsObject, data_blocks, is_among}
use Rattle.run_acts.specs.LineObjects.{object_shown}
use Rattle.run_acts.proofs.ShownObjects.{AreAbove, AreNodes, AreRising, HasBlocks, object_shown-is}
use Rattle.run_acts.specs.ListedObjects.{ShownStep, ShowsAll, name_shown}
use Rattle.run_acts.proofs.ShownFiles.{one_rests, shown_rests}
use Rattle.run_acts.proofs.ShownOrder.{HaveAll}

-- the bad blocks of a mounted object rise
filter-above : (p : ℕ → Bool) (m a n : ℕ) → m < a → AreAbove m (filter p (range_with_len a n))
filter-above p m a zero lt = tt
filter-above p m a (suc n) lt = elim (p a) as (λ b. AreAbove m (if b then a ∷ filter p (range_with_len (a + 1) n) else filter p (range_with_len (a + 1) n))) [
  | true ↦ (lt, filter-above p m (a + 1) n (omega (arith, lt)))
  | false ↦ filter-above p m (a + 1) n (omega (arith, lt))
]

filter-rising : (p : ℕ → Bool) (a n : ℕ) → AreRising (filter p (range_with_len a n))
filter-rising p a zero = tt
filter-rising p a (suc n) = elim (p a) as (λ b. AreRising (if b then a ∷ filter p (range_with_len (a + 1) n) else filter p (range_with_len (a + 1) n))) [
  | true ↦ (filter-above p a (a + 1) n (omega arith), filter-rising p (a + 1) n)
  | false ↦ filter-rising p (a + 1) n
]

abbrev HasRising : Object → Type 0
HasRising (SoundObject c) = AreRising c.bad
HasRising (DamagedObject size) = Unit {0}

with_rising : (size attributes : ℕ) (pages : List (Option (List ℕ))) (page : Option (List ℕ)) → HasRising (object_with size attributes pages page)
with_rising size attributes pages (Some page) = filter-rising (λ k. is_none (page_at pages k)) 1 (length pages - 1)
with_rising size attributes pages None = tt

of_rising : (size attributes : ℕ) (opened : Opened) → HasRising (object_of size attributes opened)
of_rising size attributes opened = elim (opened.bytes == 4096 + size) as (λ b. HasRising (if b then object_with size attributes opened.pages (page_at opened.pages 0) else DamagedObject size)) [
  | true ↦ with_rising size attributes opened.pages (page_at opened.pages 0)
  | false ↦ tt
]

read_rising : (size attributes : ℕ) (opened : Result Opened TreeFault) → HasRising (object_or_damaged size attributes opened)
read_rising size attributes (Ok opened) = of_rising size attributes opened
read_rising size attributes (Err fault) = tt

mounted_rising : (key image : List ℕ) (e : DirEntry) → HasRising (mounted_object key image e)
mounted_rising key image e = read_rising e.size e.attributes (opened_of key image (root_of e))

-- and they are nodes, since the set of those that were bad has them
among_here : (x : ℕ) (xs : List ℕ) → is_among (x ∷ xs) x ≡ true
among_here x xs = let same : (x == x) ≡ true = grind (arith, nat_tests) in ap (λ (b : Bool). b || is_among xs x) same

among_later : (x k : ℕ) (xs : List ℕ) → is_among xs k ≡ true → is_among (x ∷ xs) k ≡ true
among_later x k xs is = elim (x == k) as (λ b. (b || is_among xs k) ≡ true) [ true ↦ refl | false ↦ is ]

nodes_among : (xs : List ℕ) → ((k : ℕ) → is_among xs k ≡ true → (1 ≤ k) × (k ≤ 256)) → AreNodes xs
nodes_among [] all = tt
nodes_among (x ∷ xs) all = let here = all x (among_here x xs) in (here.0, here.1, nodes_among xs (λ k is. all k (among_later x k xs is)))

few_blocks : (size : ℕ) → size ≤ 1044480 → data_blocks size ≤ 255
few_blocks size le = omega (arith, le)

shown_blocks : (key : List ℕ) (old new : FileState) (e : DirEntry) (shown : ShownObject) (object : Object) → HasForm e → HasRising object → ShowsObject shown e.size object → IsShownFrom key old new e shown → HasBlocks object
shown_blocks key old new e Damaged (DamagedObject size) form rising shows read = tt
shown_blocks key old new e Damaged (SoundObject c) form rising shows read = absurd shows
shown_blocks key old new e (Sound attributes bytes bad) (DamagedObject size) form rising shows read = absurd shows
shown_blocks key old new e (Sound attributes bytes bad) (SoundObject c) form rising shows read = (
  rising,
  nodes_among c.bad (λ k is.
      let within = read.data_are.others k ((shows.1).bad_are k ∙ is) in
      let low = within.0 in
      let high = within.1 in
      let few = few_blocks e.size form.size in
      (low, omega (arith, high, few))),
)

-- one object
told_one : (keys : Keys) (key : List ℕ) (e : DirEntry) (object : ShownObject) (size : ℕ) (a b c d : FileState) → key ≡ ssk keys.huk keys.chip → size ≡ e.size → HasForm e
    → Rests a b → Rests b c → Rests c d → Told a d → ShowsEntry (tsk key e.app) b c e object → object_shown object size ≡ mounted_object (tsk (ssk keys.huk keys.chip) e.app) a.reads e
told_one keys key e object size a b c d keyed sized form ab bc cd told shows =
    let behind : Told b d = told_then a b d ab.goes_on told in
    let here : Told b c = (subst IsTrue (cd.goes_on).tells behind.0, first_known b c d cd.goes_on behind.1) in
    let same : c.reads ≡ a.reads = (rests_then a b c ab bc).reads (first_known a c d cd.goes_on told.1) in
    let shown = shows.told here in
    ap (object_shown object) sized
    ∙ object_shown-is object e.size (mounted_object (tsk key e.app) c.reads e) shown
    (shown_blocks (tsk key e.app) b c e object (mounted_object (tsk key e.app) c.reads e) form (mounted_rising (tsk key e.app) c.reads e) shown shows.read)
    ∙ ap (λ (image : List ℕ). mounted_object (tsk key e.app) image e) same
    ∙ ap (λ (k : List ℕ). mounted_object (tsk k e.app) a.reads e) keyed

module _ (keys : Keys) (entries : List (Option DirEntry)) (key : List ℕ) (first : ℕ → FileState) (keyed : key ≡ ssk keys.huk keys.chip)
    (forms : (index : ℕ) (e : DirEntry) → entry_at entries index ≡ Some e → HasForm e) where
  -- all objects
  pub told_all : (after : Option ObjectName) (files : ℕ → FileState) (steps : List ShownStep) (last : Option ObjectName) (left : ℕ → FileState)
      (shows : ShowsAll entries key after files steps last left) → ((file : ℕ) → Rests (first file) (files file)) → ((file : ℕ) → Told (first file) (left file))
      → HaveAll entries key (λ e x. x ≡ (held_in keys (reads_of first) e).object) after files steps last left shows
  told_all after files [] last left shows rests told = tt
  told_all after files (s ∷ steps) last left shows rests told =
      let shown = shows.0 in
      let e : DirEntry = shown.entry in
      let n = e.file in
      let reads = one_rests files s.files n shown.reads in (
        told_one keys key e (s.shown).object (s.shown).size (first n) (files n) (s.files n) (left n) keyed shown.size (forms shown.next.index e shown.next.at)
            (rests n) (reads n) (shown_rests entries key (Some (name_shown s.shown)) s.files steps last left shows.1 n) (told n) shown.object,
        told_all (Some (name_shown s.shown)) s.files steps last left shows.1 (λ file. rests_then (first file) (files file) (s.files file) (rests file) (reads file)) told,
      )
