-- A bench that holds objects is opened as it is.
use Rattle.std.proofs.Common.{◌≡◌, ◌∙◌, ℕ, List, true, Err, Result, refl, sym, ap, subst}
use Rattle.disk_model.proofs.ImageLaws.{leaves_settled}
use Rattle.disk_model.specs.State.{pending}
use Rattle.hmac_keys.specs.declared.Keys.{Keys}
use Rattle.hmac_keys.specs.KeyTable.{rpmb_key}
use Rattle.node_image.specs.declared.node.RootRef.{RootRef}
use Rattle.rpmb_card.specs.Card.{CardState}
use Rattle.rpmb_host.specs.Honest.{HasCard}
use Rattle.store_model.specs.ReplayState.{ReplayState}
use Rattle.crash_core.specs.CardBlock.{root_in}
use Rattle.crash_core.specs.Mounting.{directory_by, mounted_directory}
use Rattle.crash_core.specs.Pictures.{IsPictureOf, Picture, block_zero}
use Rattle.crash_core.specs.Refusal.{Refusal, NoStore as BlankBlock}
use Rattle.store_commit.specs.declared.fault.MountFault.{MountFault}
use Rattle.store_commit.specs.declared.fault.MountFault.TheVariants.{CardBlock, CardResult, Directory, Failed, Frame, NoMemory, NoStore, OldFormat, Spent}
use Rattle.store_commit.specs.Mounts.{CardRefused}
use Rattle.run_acts.specs.Benches.{BenchState}
use Rattle.run_acts.specs.Left.{HoldsLeft}
use Rattle.run_acts.specs.MountingLaws.{IsOfDevice}
use Rattle.run_acts.specs.Opens.{IsOpenRefused, OpensBench, StopsOpening, found, is_blank, made, starved, stopped, unasked, unformed, unread}
use Rattle.run_acts.proofs.HeldRefusals.{memory_of_device}
use Rattle.run_acts.proofs.NotRefused.{directory_read, ok_err}

-- the bench has the same files and the same card
pub record IsSame (old new : BenchState) : Type 0 where
  pub files : (file : ℕ) → new.files file ≡ old.files file
  pub card : new.card.card ≡ old.card.card

blank_root : (block : List ℕ) → is_blank block ≡ true → root_in block ≡ Err BlankBlock
unfolding root_in
blank_root block blank = rw blank refl

module _ (keys : Keys) (s : ReplayState) (old : BenchState) (card : CardState) (holds : HoldsLeft keys old s) (has : HasCard old.card (rpmb_key keys.huk) card) where
  abbrev settled : Picture
  settled = record { images = λ file. (old.files file).settled; card = card }

  settled_picture : IsPictureOf old.files card settled
  settled_picture = record {
    left = λ file honest. leaves_settled (old.files file).settled (pending (old.files file));
    same = record { key = refl; counter = refl; blocks = refl };
  }

  -- its card's block 0 is not blank
  not_blank : (block : List ℕ) → block_zero card ≡ block → is_blank block ≡ true → ⊥
  not_blank block is blank =
      let read = directory_read keys settled s (holds.mounts card settled has settled_picture) in
      let none : root_in (block_zero card) ≡ Err BlankBlock = ap root_in is ∙ blank_root block blank in
      ok_err read.0 BlankBlock (mounted_directory keys settled) read.1 (ap (λ (r : Result RootRef Refusal). directory_by keys settled.images r) none)

  pub opens_same : (new : BenchState) → OpensBench keys old new → IsSame old new
  opens_same new (found block there reads) = record { files = reads.files; card = reads.card }
  opens_same new (made block between blank reads forms) = absurd (not_blank block (reads.told card has) blank)

  -- what is told of such a card is a failure
  card_failure : (new : BenchState) (drew draws : ℕ) (fault : MountFault) → CardRefused old.card new.card (rpmb_key keys.huk) drew draws fault → IsOfDevice fault
  card_failure new drew draws (Failed cause) refused = tt
  card_failure new drew draws NoMemory refused = tt
  card_failure new drew draws (Frame fault) refused = absurd (refused card has)
  card_failure new drew draws (CardResult result) refused = absurd (refused card has)
  card_failure new drew draws NoStore refused = absurd refused
  card_failure new drew draws (CardBlock offset) refused = absurd refused
  card_failure new drew draws (Directory fault) refused = absurd refused
  card_failure new drew draws Spent refused = absurd refused
  card_failure new drew draws (OldFormat file) refused = absurd refused

  stops_same : (new : BenchState) (drew draws : ℕ) (fault : MountFault) → StopsOpening keys old new drew draws fault → IsSame old new × IsOfDevice fault
  stops_same new drew draws fault (unread u) = (record { files = u.files; card = u.card }, card_failure new drew draws fault u.refused)
  stops_same new drew draws fault (unformed block between blank reads not) = absurd (not_blank block (reads.told card has) blank)

  -- nor is it refused, unless a device fails or memory runs out
  pub refused_same : (new : BenchState) (drew draws : ℕ) (fault : MountFault) → IsOpenRefused keys old new drew draws fault → IsSame old new × IsOfDevice fault
  refused_same new drew draws fault (stopped stops with_memory) = stops_same new drew draws fault stops
  refused_same new drew draws fault (unasked is same) =
      (subst (λ (b : BenchState). IsSame old b) (sym same) (record { files = λ file. refl; card = refl }), memory_of_device fault is)
  refused_same new drew draws fault (starved other is stops gone) = ((stops_same new drew draws other stops).0, memory_of_device fault is)
