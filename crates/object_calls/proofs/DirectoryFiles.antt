-- A bench that is taken apart for its directory's move and put together again.
use Rattle.std.proofs.Common.{◌≡◌, ◌≢◌, ◌∙◌, ◌≤◌, ℕ, Bool, List, inl, sym, ap, subst, arith}
use Rattle.disk_model.specs.State.{FileState, Sound}
use Rattle.disk_model.specs.Calls.{GoesOn}
use Rattle.hmac_keys.specs.declared.Keys.{Keys}
use Rattle.hmac_keys.specs.KeyTable.{rpmb_key}
use Rattle.htree_file.specs.Answers.{FilePassed}
use Rattle.tee_types.specs.Limits.{directory_file, old_directory_file}
use Rattle.rpmb_card.specs.Port.{PortState}
use Rattle.store_commit.specs.declared.fault.MountFault.{MountFault}
use Rattle.store_commit.specs.declared.fault.MountFault.TheVariants.{CardBlock, CardResult, Directory, Failed, Frame, NoMemory, NoStore, OldFormat, Spent}
use Rattle.object_calls.specs.OpeningFiles.{files_of, numbered_files}
use Rattle.object_calls.specs.Migrated.{MigratesBench, WritesOnceEach}
use Rattle.object_calls.specs.MigrationRefusals.{MigrationRefused, SpentWithoutRoom}
use Rattle.object_calls.specs.DirectoryMoves.{MovesDirectory, NamesCurrent, SettlesFormat, StopsFormat, unmoved, unread}
use Rattle.object_calls.proofs.DirectoryBenches.{bench_goes_on, bench_passed, settles_between, settles_current, settles_migrates, settles_moves, settles_writes, stops_between, stops_migrates, stops_refused}
use Rattle.object_calls.proofs.Files.{directory_here, files_sound, numbered_object, spare_here}

-- where the directory is of the old format and the counter is at its end
stops_short : (keys : Keys) (f0 f1 : ℕ → FileState) (p0 p1 : PortState) (drew draws : ℕ) (fault : MountFault)
    → StopsFormat keys (f0 old_directory_file) (f1 old_directory_file) (f0 directory_file) (f1 directory_file) (rpmb_key keys.huk) p0 p1 drew draws fault → SpentWithoutRoom f0 f1 p0 keys fault
stops_short keys f0 f1 p0 p1 drew draws Spent (unread a b c refused) = absurd refused
stops_short keys f0 f1 p0 p1 drew draws Spent (unmoved root counter between form old reads passed named stops) = λ card has.
    let names = named card has in
    record { root = root; named = names.block; short = inl (old, names.counted ∙ stops.refused.1) }
stops_short keys f0 f1 p0 p1 drew draws NoStore stops = tt
stops_short keys f0 f1 p0 p1 drew draws (CardBlock byte) stops = tt
stops_short keys f0 f1 p0 p1 drew draws (Directory fault) stops = tt
stops_short keys f0 f1 p0 p1 drew draws (OldFormat file) stops = tt
stops_short keys f0 f1 p0 p1 drew draws (Frame fault) stops = tt
stops_short keys f0 f1 p0 p1 drew draws (CardResult result) stops = tt
stops_short keys f0 f1 p0 p1 drew draws (Failed cause) stops = tt
stops_short keys f0 f1 p0 p1 drew draws NoMemory stops = tt

-- Of the two lists of files, the first and the last alone differ.
module _ {F : Type 0} (state : F → FileState) (sound : (f : F) → Sound (state f)) (old new objects : List F) (spare dir spare_after dir_after : F)
    (was : files_of state old ≡ numbered_files state spare dir objects) (is : files_of state new ≡ numbered_files state spare_after dir_after objects) where
  abbrev f0 : ℕ → FileState
  f0 = files_of state old

  abbrev f1 : ℕ → FileState
  f1 = files_of state new

  others : (n : ℕ) → n ≢ old_directory_file → n ≢ directory_file → f1 n ≡ f0 n
  others n first last =
      let from : 1 ≤ n = omega (arith, first) in
      ap (λ (f : ℕ → FileState). f n) is ∙ numbered_object state spare_after dir_after objects n from last
      ∙ sym (numbered_object state spare dir objects n from last) ∙ sym (ap (λ (f : ℕ → FileState). f n) was)

  at_numbers : (P : (a b x y : FileState) → Type 0) → P (state spare) (state spare_after) (state dir) (state dir_after) → P (f0 old_directory_file) (f1 old_directory_file) (f0 directory_file) (f1 directory_file)
  at_numbers P here =
      let a : f0 old_directory_file ≡ state spare = ap (λ (f : ℕ → FileState). f old_directory_file) was ∙ spare_here state spare dir objects in
      let b : f1 old_directory_file ≡ state spare_after = ap (λ (f : ℕ → FileState). f old_directory_file) is ∙ spare_here state spare_after dir_after objects in
      let x : f0 directory_file ≡ state dir = ap (λ (f : ℕ → FileState). f directory_file) was ∙ directory_here state spare dir objects in
      let y : f1 directory_file ≡ state dir_after = ap (λ (f : ℕ → FileState). f directory_file) is ∙ directory_here state spare_after dir_after objects in
      subst (λ (s : FileState). P s (f1 old_directory_file) (f0 directory_file) (f1 directory_file)) (sym a)
      (subst (λ (s : FileState). P (state spare) s (f0 directory_file) (f1 directory_file)) (sym b)
      (subst (λ (s : FileState). P (state spare) (state spare_after) s (f1 directory_file)) (sym x)
      (subst (λ (s : FileState). P (state spare) (state spare_after) (state dir) s) (sym y) here)))

  -- A host has the key, and takes the bench's port and gives it back.
  module _ (keys : Keys) (key : List ℕ) (p0 p1 q0 q1 : PortState) (key_is : key ≡ rpmb_key keys.huk) (taken : q0 ≡ p0) (given : p1 ≡ q1) where
    at_ports : (P : List ℕ → PortState → PortState → Type 0) → P key q0 q1 → P (rpmb_key keys.huk) p0 p1
    at_ports P here =
        subst (λ (k : List ℕ). P k p0 p1) key_is (subst (λ (p : PortState). P key p p1) taken (subst (λ (p : PortState). P key q0 p) (sym given) here))

    module _ {moved : Bool} (settles : SettlesFormat keys (state spare) (state spare_after) (state dir) (state dir_after) key q0 q1 moved) where
      settled : SettlesFormat keys (f0 old_directory_file) (f1 old_directory_file) (f0 directory_file) (f1 directory_file) (rpmb_key keys.huk) p0 p1 moved
      settled =
          at_ports (λ k p q. SettlesFormat keys (f0 old_directory_file) (f1 old_directory_file) (f0 directory_file) (f1 directory_file) k p q moved)
          (at_numbers (λ a b x y. SettlesFormat keys a b x y key q0 q1 moved) settles)

      pub moved_migrates : MigratesBench f0 f1 p0 p1 keys
      moved_migrates = settles_migrates keys f0 f1 p0 p1 (files_sound state sound old) (files_sound state sound new) others moved settled

      pub moved_moves : MovesDirectory f0 f1 p0 p1 keys moved
      moved_moves = settles_moves keys f0 f1 p0 p1 (files_sound state sound old) (files_sound state sound new) others moved settled

      pub moved_current : NamesCurrent p1 keys
      moved_current = settles_current keys f0 f1 p0 p1 (files_sound state sound old) (files_sound state sound new) others moved settled

      pub moved_writes : WritesOnceEach p0 p1 keys moved 0
      moved_writes = settles_writes keys f0 f1 p0 p1 (files_sound state sound old) (files_sound state sound new) others moved settled

      pub moved_goes_on : (file : ℕ) → GoesOn (f0 file) (f1 file)
      moved_goes_on =
          bench_goes_on keys f0 f1 p0 p1 (files_sound state sound old) (files_sound state sound new) others
          (settles_between keys f0 f1 p0 p1 (files_sound state sound old) (files_sound state sound new) others moved settled)

      pub moved_passed : (file : ℕ) → FilePassed (f0 file) (f1 file)
      moved_passed = bench_passed keys f0 f1 p0 p1 (files_sound state sound old) (files_sound state sound new) others moved settled

    module _ {drew draws : ℕ} {fault : MountFault} (stops : StopsFormat keys (state spare) (state spare_after) (state dir) (state dir_after) key q0 q1 drew draws fault) where
      stopped : StopsFormat keys (f0 old_directory_file) (f1 old_directory_file) (f0 directory_file) (f1 directory_file) (rpmb_key keys.huk) p0 p1 drew draws fault
      stopped =
          at_ports (λ k p q. StopsFormat keys (f0 old_directory_file) (f1 old_directory_file) (f0 directory_file) (f1 directory_file) k p q drew draws fault)
          (at_numbers (λ a b x y. StopsFormat keys a b x y key q0 q1 drew draws fault) stops)

      pub halted_migrates : MigratesBench f0 f1 p0 p1 keys
      halted_migrates = stops_migrates keys f0 f1 p0 p1 (files_sound state sound old) (files_sound state sound new) others drew draws fault stopped

      pub halted_refused : MigrationRefused f0 f1 p0 p1 keys drew draws fault
      halted_refused = stops_refused keys f0 f1 p0 p1 (files_sound state sound old) (files_sound state sound new) others drew draws fault stopped

      pub halted_short : SpentWithoutRoom f0 f1 p0 keys fault
      halted_short = stops_short keys f0 f1 p0 p1 drew draws fault stopped

      pub halted_goes_on : (file : ℕ) → GoesOn (f0 file) (f1 file)
      halted_goes_on =
          bench_goes_on keys f0 f1 p0 p1 (files_sound state sound old) (files_sound state sound new) others
          (stops_between keys f0 f1 p0 p1 (files_sound state sound old) (files_sound state sound new) others drew draws fault stopped)
