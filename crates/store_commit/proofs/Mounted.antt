-- A gate that is mounted, and why one is not.
use Rattle.std.proofs.Common.{◌≡◌, ◌⊎◌, ◌∙◌, ◌==◌, ℕ, Bool, true, false, List, [], Option, Some, None, Result, Ok, Err, IsTrue, refl, sym, ap, subst, inl, inr}
use Rattle.std.specs.List.{list_all}
use Rattle.disk_model.specs.State.{FileState, pending}
use Rattle.node_image.specs.declared.node.RootRef.{RootRef}
use Rattle.htree_file.specs.declared.fault.TreeFault.TheVariants.{BadHead, BadTag, Damaged, Failed as FileFault, NoEntropy, NoMemory as NoRoom, Short}
use Rattle.htree_file.specs.Making.{IsSynced}
use Rattle.htree_file.specs.Opening.{IsVerified}
use Rattle.htree_file.specs.Standing.{Told}
use Rattle.hmac_keys.specs.declared.Keys.{Keys}
use Rattle.hmac_keys.specs.KeyTable.{rpmb_key}
use Rattle.rpmb_card.specs.Card.{CardState}
use Rattle.rpmb_card.specs.Port.{PortState}
use Rattle.rpmb_host.specs.Honest.{HasCard}
use Rattle.tee_types.specs.declared.reply.Cause.{Cause}
use Rattle.tee_types.specs.declared.reply.Cause.TheVariants.{Fault, Frame as OfFrame, CardResult as OfResult}
use Rattle.tee_types.specs.declared.reply.Device.{Device}
use Rattle.tee_types.specs.declared.reply.Device.TheVariants.{Dir, File, Card, Entropy}
use Rattle.dir_records.specs.declared.entry.DirEntry.{DirEntry}
use Rattle.crash_core.specs.declared.fault.DirFault.{DirFault}
use Rattle.crash_core.specs.declared.fault.DirFault.TheVariants.{Tree, WrongLength, Record, Double}
use Rattle.crash_core.specs.Directory.{directory_of}
use Rattle.crash_core.specs.Refusal.{Refusal, NoStore as BlankBlock, CardBlock as BadBlock, NoDirectory}
use Rattle.crash_core.specs.CardBlock.{IsReference, first_outside, root_in, root_or}
use Rattle.crash_core.specs.Pictures.{block_zero}
use Rattle.crash_core.specs.DeviceKeys.{directory_key}
use Rattle.crash_core.specs.Mounting.{directory_by, mounted_directory, unless_fault}
use Rattle.dir_file.specs.View.{DirView}
use Rattle.dir_file.specs.EntryForms.{AreEntriesOf}
use Rattle.dir_file.specs.Held.{IsDurable}
use Rattle.dir_file.specs.Loading.{DirCause, IsDirFault, IsOutsideDir, SeesDirectory}
use Rattle.dir_file.specs.Refusals.{DirDiffers}
use Rattle.store_commit.specs.declared.fault.MountFault.{MountFault}
use Rattle.store_commit.specs.declared.fault.MountFault.TheVariants.{NoStore, CardBlock, Directory, Frame, CardResult, Failed, Spent, NoMemory, OldFormat}
use Rattle.store_commit.specs.Blocks.{HasOldRoot, IsRootRefused, block_answer, picture_of}
use Rattle.store_commit.specs.Reads.{IsRootRead}
use Rattle.store_commit.specs.Mounts.{CardRefused, LeavesDevices, MountDiffers, MountRefused, OpensGate, Tells, TellsFailure, directory_answer}
use Rattle.store_commit.specs.Sides.{IsSettled, Sides, sides}
use Rattle.store_commit.proofs.Cards.{has_still}
use Rattle.store_commit.proofs.Outside.{root_other, root_zero}
use Rattle.store_commit.proofs.Ending.{settled_pictures}

-- what a block names that is answered as a root
pub answer_root : (r : Result RootRef Refusal) (root : RootRef) → Ok root ≡ block_answer r → r ≡ Ok root
answer_root (Ok found) root is = let e : root ≡ found = cc (is) in ap (λ (x : RootRef). let r : Result RootRef Refusal = Ok x in r) (sym e)
answer_root (Err refusal) root is = absurd (cc (is))

-- the card refuses
module _ (old new : FileState) (p0 p1 : PortState) (keys : Keys) (drew draws : ℕ) where
  abbrev key : List ℕ
  key = rpmb_key keys.huk

  card_device : (device : Device) (count : ℕ) → CardRefused p0 p1 (rpmb_key keys.huk) drew draws (Failed (Fault device count)) → MountRefused old new p0 p1 keys drew draws (Failed (Fault device count))
  card_device Card count c = c
  card_device Entropy count c = c
  card_device Dir count c = absurd c
  card_device (File n) count c = absurd c

  card_cause : (cause : Cause) → CardRefused p0 p1 (rpmb_key keys.huk) drew draws (Failed cause) → MountRefused old new p0 p1 keys drew draws (Failed cause)
  card_cause (Fault device count) c = card_device device count c
  card_cause (OfFrame f) c = absurd c
  card_cause (OfResult n) c = absurd c

  pub card_refuses : (fault : MountFault) → CardRefused p0 p1 (rpmb_key keys.huk) drew draws fault → MountRefused old new p0 p1 keys drew draws fault
  card_refuses NoStore c = absurd c
  card_refuses (CardBlock byte) c = absurd c
  card_refuses (Directory d) c = absurd c
  card_refuses (Frame f) c = c
  card_refuses (CardResult n) c = c
  card_refuses (Failed cause) c = card_cause cause c
  card_refuses Spent c = absurd c
  card_refuses NoMemory c = absurd c
  card_refuses (OldFormat file) c = absurd c

  -- the block refuses
  module _ (counter : ℕ) (block : List ℕ) (tells : (card : CardState) → HasCard p0 (rpmb_key keys.huk) card → Tells card counter block) where
    block_refused : (r : Result RootRef Refusal) (fault : MountFault) → root_in block ≡ r → Err fault ≡ block_answer r → MountRefused old new p0 p1 keys drew draws fault
    block_refused (Ok root) fault is answer = absurd (cc (answer))
    block_refused (Err BlankBlock) fault is answer =
        let e : fault ≡ NoStore = cc (answer) in
        subst (MountRefused old new p0 p1 keys drew draws) (sym e) (λ card has. ap root_in (tells card has).stands ∙ is)
    block_refused (Err (BadBlock byte)) fault is answer =
        let e : fault ≡ CardBlock byte = cc (answer) in
        subst (MountRefused old new p0 p1 keys drew draws) (sym e) (λ card has. ap root_in (tells card has).stands ∙ is)
    block_refused (Err (NoDirectory d)) fault is answer =
        let e : fault ≡ Directory d = cc (answer) in
        subst (MountRefused old new p0 p1 keys drew draws) (sym e) (λ card has told. ap (directory_by keys (λ file. new.reads)) (ap root_in (tells card has).stands ∙ is))

    pub block_refuses : (fault : MountFault) → Err fault ≡ block_answer (root_in block) → MountRefused old new p0 p1 keys drew draws fault
    block_refuses fault answer = block_refused (root_in block) fault refl answer

    pub root_refuses : (fault : MountFault) → IsRootRefused block fault → MountRefused old new p0 p1 keys drew draws fault
    root_refuses fault (inl is) = block_refuses fault is
    root_refuses fault (inr is) =
        subst (MountRefused old new p0 p1 keys drew draws) (sym is.0) (refl, λ card has. subst HasOldRoot (sym (tells card has).stands) is.1)

    -- the directory refuses
    module _ (root : RootRef) (names : Ok root ≡ block_answer (root_in block)) where
      mounts_as : (image : List ℕ) (answer : Result (List (Option DirEntry)) DirFault) → directory_of (directory_key keys) image root ≡ answer → (card : CardState) → HasCard p0 (rpmb_key keys.huk) card
          → mounted_directory keys (picture_of image card) ≡ unless_fault answer
      mounts_as image answer is card has =
          ap (directory_by keys (λ file. image)) (ap root_in (tells card has).stands ∙ answer_root (root_in block) root names) ∙ ap unless_fault is

      shown : (fault : DirFault) → (IsOutsideDir fault → ⊥) → IsOutsideDir fault ⊎ (Told old new → directory_of (directory_key keys) new.reads root ≡ Err fault)
          → (card : CardState) → HasCard p0 (rpmb_key keys.huk) card → Told old new → mounted_directory keys (picture_of new.reads card) ≡ Err (NoDirectory fault)
      shown fault not (inl outside) card has told = absurd (not outside)
      shown fault not (inr is) card has told = mounts_as new.reads (Err fault) (is told) card has

      pub directory_refuses : (fault : DirFault) → IsOutsideDir fault ⊎ (Told old new → directory_of (directory_key keys) new.reads root ≡ Err fault) → DirCause old new fault
          → MountRefused old new p0 p1 keys drew draws (directory_answer fault)
      directory_refuses (Tree (FileFault count)) is cause = cause
      directory_refuses (Tree NoRoom) is cause = tt
      directory_refuses (Tree (BadHead long greatest)) is cause = shown (Tree (BadHead long greatest)) (λ o. o) is
      directory_refuses (Tree (Short end need)) is cause = shown (Tree (Short end need)) (λ o. o) is
      directory_refuses (Tree (Damaged n want found)) is cause = shown (Tree (Damaged n want found)) (λ o. o) is
      directory_refuses (Tree (BadTag k want found)) is cause = shown (Tree (BadTag k want found)) (λ o. o) is
      directory_refuses (Tree (NoEntropy count)) is cause = shown (Tree (NoEntropy count)) (λ o. o) is
      directory_refuses (WrongLength bytes) is cause = shown (WrongLength bytes) (λ o. o) is
      directory_refuses (Record index offset) is cause = shown (Record index offset) (λ o. o) is
      directory_refuses (Double index first) is cause = shown (Double index first) (λ o. o) is

-- what differs where a mount is refused
module _ (file : FileState) (p0 p1 : PortState) (keys : Keys) (drew draws : ℕ) where
  pub card_differs : (fault : MountFault) → CardRefused p0 p1 (rpmb_key keys.huk) drew draws fault → MountDiffers file p0 keys fault
  card_differs NoStore c = tt
  card_differs (CardBlock byte) c = tt
  card_differs (Directory d) c = absurd c
  card_differs (Frame f) c = tt
  card_differs (CardResult n) c = tt
  card_differs (Failed cause) c = tt
  card_differs Spent c = tt
  card_differs NoMemory c = tt
  card_differs (OldFormat n) c = absurd c

  -- block 0 alone refuses no directory
  or_differs : (block : List ℕ) (o : Option ℕ) (fault : MountFault) → Err fault ≡ block_answer (root_or block o) → MountDiffers file p0 keys fault
  or_differs block None fault is = absurd (cc (is))
  or_differs block (Some offset) fault is = let e : fault ≡ CardBlock offset = cc (is) in subst (MountDiffers file p0 keys) (sym e) tt

  pub block_differs : (block : List ℕ) (fault : MountFault) → Err fault ≡ block_answer (root_in block) → MountDiffers file p0 keys fault
  block_differs block fault is = by_test (list_all (λ x. x == 0) block) refl
    where
      by_test : (b : Bool) → list_all (λ x. x == 0) block ≡ b → MountDiffers file p0 keys fault
      by_test true zero_block = let e : fault ≡ NoStore = cc (is ∙ ap block_answer (root_zero block zero_block)) in subst (MountDiffers file p0 keys) (sym e) tt
      by_test false other = or_differs block (first_outside block 0 256) fault (is ∙ ap block_answer (root_other block other))

  pub root_differs : (block : List ℕ) (fault : MountFault) → IsRootRefused block fault → MountDiffers file p0 keys fault
  root_differs block fault (inl is) = block_differs block fault is
  root_differs block fault (inr old) = subst (MountDiffers file p0 keys) (sym old.0) tt

  pub directory_differs : (root : RootRef) → ((card : CardState) → HasCard p0 (rpmb_key keys.huk) card → root_in (block_zero card) ≡ Ok root)
      → (fault : DirFault) → DirDiffers (directory_key keys) file root fault → MountDiffers file p0 keys (directory_answer fault)
  directory_differs root named (Tree (FileFault count)) is = tt
  directory_differs root named (Tree NoRoom) is = tt
  directory_differs root named (Tree (BadHead long greatest)) is = record { root = root; named = named; differs = is }
  directory_differs root named (Tree (Short end need)) is = record { root = root; named = named; differs = is }
  directory_differs root named (Tree (Damaged n want found)) is = record { root = root; named = named; differs = is }
  directory_differs root named (Tree (BadTag k want found)) is = record { root = root; named = named; differs = is }
  directory_differs root named (Tree (NoEntropy count)) is = record { root = root; named = named; differs = is }
  directory_differs root named (WrongLength bytes) is = record { root = root; named = named; differs = is }
  directory_differs root named (Record index offset) is = record { root = root; named = named; differs = is }
  directory_differs root named (Double index first) is = record { root = root; named = named; differs = is }

-- a failure is told as one
pub card_tells : (p0 p1 : PortState) (key : List ℕ) (drew draws : ℕ) (fault : MountFault) → CardRefused p0 p1 key drew draws fault → TellsFailure fault
card_tells p0 p1 key drew draws NoStore c = tt
card_tells p0 p1 key drew draws (CardBlock byte) c = tt
card_tells p0 p1 key drew draws (Directory d) c = absurd c
card_tells p0 p1 key drew draws (Frame f) c = tt
card_tells p0 p1 key drew draws (CardResult n) c = tt
card_tells p0 p1 key drew draws (Failed cause) c = tt
card_tells p0 p1 key drew draws Spent c = tt
card_tells p0 p1 key drew draws NoMemory c = tt
card_tells p0 p1 key drew draws (OldFormat file) c = absurd c

or_tells : (block : List ℕ) (o : Option ℕ) (fault : MountFault) → Err fault ≡ block_answer (root_or block o) → TellsFailure fault
or_tells block None fault is = absurd (cc (is))
or_tells block (Some offset) fault is = let e : fault ≡ CardBlock offset = cc (is) in subst TellsFailure (sym e) tt

pub block_tells : (block : List ℕ) (fault : MountFault) → Err fault ≡ block_answer (root_in block) → TellsFailure fault
block_tells block fault is = by_test (list_all (λ x. x == 0) block) refl
  where
    by_test : (b : Bool) → list_all (λ x. x == 0) block ≡ b → TellsFailure fault
    by_test true zero_block = let e : fault ≡ NoStore = cc (is ∙ ap block_answer (root_zero block zero_block)) in subst TellsFailure (sym e) tt
    by_test false other = or_tells block (first_outside block 0 256) fault (is ∙ ap block_answer (root_other block other))

pub root_tells : (block : List ℕ) (fault : MountFault) → IsRootRefused block fault → TellsFailure fault
root_tells block fault (inl is) = block_tells block fault is
root_tells block fault (inr old) = subst TellsFailure (sym old.0) tt

pub directory_tells : (fault : DirFault) → IsDirFault fault → TellsFailure (directory_answer fault)
directory_tells (Tree (FileFault count)) kind = tt
directory_tells (Tree NoRoom) kind = tt
directory_tells (Tree (BadHead long greatest)) kind = (tt, λ o. o)
directory_tells (Tree (Short end need)) kind = (tt, λ o. o)
directory_tells (Tree (Damaged n want found)) kind = (tt, λ o. o)
directory_tells (Tree (BadTag k want found)) kind = (tt, λ o. o)
directory_tells (Tree (NoEntropy count)) kind = absurd kind
directory_tells (WrongLength bytes) kind = (tt, λ o. o)
directory_tells (Record index offset) kind = (tt, λ o. o)
directory_tells (Double index first) kind = (tt, λ o. o)

-- what a block that is answered as a root names on the card
pub card_names : (p0 : PortState) (k : List ℕ) (counter : ℕ) (block : List ℕ) (root : RootRef) → ((card : CardState) → HasCard p0 k card → Tells card counter block)
    → Ok root ≡ block_answer (root_in block) → (card : CardState) → HasCard p0 k card → root_in (block_zero card) ≡ Ok root
card_names p0 k counter block root tells names card has = ap root_in (tells card has).stands ∙ answer_root (root_in block) root names

-- the gate
module _ (old : FileState) (p0 p1 : PortState) (keys : Keys) (k : List ℕ) (counter : ℕ) (block : List ℕ) (root : RootRef) (s : FileState) (dir : DirView)
    (stays : p1.card ≡ p0.card) (same_key : k ≡ rpmb_key keys.huk) (tells : (card : CardState) → HasCard p0 (rpmb_key keys.huk) card → Tells card counter block)
    (names : Ok root ≡ block_answer (root_in block)) (form : IsReference root)
    (root_is : dir.root ≡ root) (idle : dir.stage ≡ None) (tsk_is : dir.tsk ≡ directory_key keys) (entries : AreEntriesOf dir.entries)
    (held : IsTrue s.honest → IsDurable s (directory_key keys) root dir.tree dir.entries) where
  abbrev g : Sides
  g = sides s dir p1 k counter

  had : (card : CardState) → HasCard p1 k card → HasCard p0 (rpmb_key keys.huk) card
  had card has = has_still p1 p0 k (rpmb_key keys.huk) card (sym stays) (sym same_key) has

  root_form : IsReference dir.root
  root_form = subst IsReference (sym root_is) form

  pub gate_settled : IsSettled g
  gate_settled = record {
    form = root_form;
    entries = entries;
    idle = idle;
    held = λ honest. subst (λ (t : List ℕ). IsDurable s t dir.root dir.tree dir.entries) (sym tsk_is) (subst (λ (r : RootRef). IsDurable s (directory_key keys) r dir.tree dir.entries) (sym root_is) (held honest));
    named = λ card has.
        let told = tells card (had card has) in
        record {
          block = ap root_in told.stands ∙ answer_root (root_in block) root names ∙ ap (λ (x : RootRef). let r : Result RootRef Refusal = Ok x in r) (sym root_is);
          counted = told.counted;
        };
  }

  pub gate_opens : LeavesDevices old s p0 p1 → IsSynced s → pending s ≡ [] → IsRootRead (rpmb_key keys.huk) p0 p1 counter root → IsVerified root dir.tree → SeesDirectory old s (directory_key keys) root dir.tree (Ok dir.entries)
      → (Told old s → directory_of (directory_key keys) s.reads root ≡ Ok dir.entries) → OpensGate old p0 keys g
  gate_opens devices synced unwritten heard verified seen directory = record {
    unwritten = unwritten;
    heard = subst (λ (r : RootRef). IsRootRead (rpmb_key keys.huk) p0 p1 counter r) (sym root_is) heard;
    devices = devices;
    tsk_is = tsk_is;
    key_is = same_key;
    settled = gate_settled;
    synced = synced;
    verified = subst (λ (r : RootRef). IsVerified r dir.tree) (sym root_is) verified;
    seen = subst (λ (r : RootRef). SeesDirectory old s (directory_key keys) r dir.tree (Ok dir.entries)) (sym root_is) seen;
    directory = λ told card has. mounts_as old s p0 p1 keys 0 0 counter block tells root names s.reads (Ok dir.entries) (directory told) card has;
    pictures = settled_pictures g gate_settled;
  }
