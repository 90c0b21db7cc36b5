-- A store that is formatted.
use Rattle.std.proofs.Common.{◌≡◌, ◌≢◌, ◌⊎◌, ◌∙◌, ℕ, ◌<◌, List, [], length, get_or, Option, Some, IfSome, IsTrue, sym, ap, subst, inl, inr, arith}
use Rattle.std.proofs.lemmas.List.{get_or-set_same}
use Rattle.disk_model.specs.State.{FileState}
use Rattle.node_image.specs.declared.node.RootRef.{RootRef}
use Rattle.node_image.specs.References.{current_format}
use Rattle.htree_file.specs.Opening.{Loaded}
use Rattle.hmac_keys.specs.declared.Keys.{Keys}
use Rattle.hmac_keys.specs.KeyTable.{rpmb_key}
use Rattle.tee_types.specs.Limits.{directory_file}
use Rattle.rpmb_card.specs.Protocol.{last_counter}
use Rattle.rpmb_card.specs.Card.{CardState, IsCard}
use Rattle.rpmb_card.specs.Port.{PortState, Sound}
use Rattle.rpmb_host.specs.Honest.{HasCard, written_card}
use Rattle.tee_types.specs.declared.reply.Cause.{Cause}
use Rattle.tee_types.specs.declared.reply.Cause.TheVariants.{Fault, Frame as OfFrame, CardResult as OfResult}
use Rattle.tee_types.specs.declared.reply.Device.{Device}
use Rattle.tee_types.specs.declared.reply.Device.TheVariants.{Dir, File, Card, Entropy}
use Rattle.crash_core.specs.CardBlock.{IsReference, directory_at, root_block, root_in}
use Rattle.crash_core.specs.DeviceKeys.{directory_key}
use Rattle.crash_core.specs.Directory.{directory_of}
use Rattle.crash_core.specs.Mounting.{directory_by, unless_fault}
use Rattle.crash_core.proofs.CardBlocks.{root_in-block}
use Rattle.dir_file.specs.EntryForms.{no_entries}
use Rattle.dir_file.specs.Held.{IsDurable}
use Rattle.store_commit.specs.declared.fault.MountFault.{MountFault}
use Rattle.store_commit.specs.declared.fault.MountFault.TheVariants.{NoStore, CardBlock, Directory, Frame, CardResult, Failed, Spent, NoMemory, OldFormat}
use Rattle.store_commit.specs.CardEnds.{IsSealedCard}
use Rattle.store_commit.specs.Formats.{FormatRefused, Formats, IsFormatted, LeavesFormat}
use Rattle.store_commit.specs.Mounts.{CardRefused}
use Rattle.store_commit.proofs.Cards.{has_still}
use Rattle.store_commit.proofs.CardWrites.{next_card}

module _ (s : FileState) (p0 p1 p2 : PortState) (keys : Keys) (k k2 : List ℕ) (counter : ℕ) (block : List ℕ) (root : RootRef) (tree : Loaded)
    (stays : p1.card ≡ p0.card) (k_is : k ≡ rpmb_key keys.huk) (k2_is : k2 ≡ k)
    (told : (card : CardState) → HasCard p0 (rpmb_key keys.huk) card → card.counter ≡ counter) (unspent : counter ≢ last_counter)
    (block_is : block ≡ root_block root) (form : IsReference root) (current : root.format ≡ current_format) (port : Sound p0)
    (held : IsTrue s.honest → IsDurable s (directory_key keys) root tree no_entries) where
  still : (card : CardState) → HasCard p0 (rpmb_key keys.huk) card → HasCard p1 k card
  still card has = has_still p0 p1 (rpmb_key keys.huk) k card stays k_is has

  wrote : (card : CardState) → HasCard p0 (rpmb_key keys.huk) card → p2.card ≡ Some (written_card card 0 counter block) → IsFormatted s p2 keys card
  wrote card has now =
      let sealed : IsSealedCard p2 (rpmb_key keys.huk) card root = next_card p2 (rpmb_key keys.huk) card counter root has.keyed (told card has) unspent
      (now ∙ ap (λ (b : List ℕ). Some (written_card card 0 counter b)) block_is) in
      let is : IsCard card = subst (λ (o : Option CardState). IfSome o IsCard) has.told port.card in
      let some : 0 < length card.blocks = omega (arith, is.blocks) in
      record {
        next = sealed.next;
        has = sealed.has;
        counted = sealed.same.counter;
        mounts = λ honest images left.
            ap (λ (b : List (List ℕ)). directory_by keys images (root_in (get_or b 0 []))) sealed.same.blocks
            ∙ ap (directory_by keys images) (ap root_in (get_or-set_same card.blocks 0 (root_block root) [] some) ∙ root_in-block root form)
            ∙ ap (λ (format : ℕ). unless_fault (directory_of (directory_key keys) (images (directory_at format)) root)) current
            ∙ ap unless_fault ((held honest).entries_are (images directory_file) left);
      }

  pub formats : ((card : CardState) → HasCard p1 k card → p2.card ≡ Some (written_card card 0 counter block)) → Formats s p0 p2 keys
  formats after card has = (λ spent. unspent (sym (told card has) ∙ spent), wrote card has (after card (still card has)))

  pub leaves_format : ((card : CardState) → HasCard p1 k card → (p2.card ≡ Some card) ⊎ (p2.card ≡ Some (written_card card 0 counter block))) → LeavesFormat s p0 p2 keys
  leaves_format after card has = by_way (after card (still card has))
    where
      by_way : (p2.card ≡ Some card) ⊎ (p2.card ≡ Some (written_card card 0 counter block)) → (p2.card ≡ p0.card) ⊎ IsFormatted s p2 keys card
      by_way (inl same) = inl (same ∙ sym has.told)
      by_way (inr now) = inr (wrote card has now)

module _ (old new : FileState) (p0 p1 : PortState) (keys : Keys) (drew draws : ℕ) where
  card_device : (device : Device) (count : ℕ) → CardRefused p0 p1 (rpmb_key keys.huk) drew draws (Failed (Fault device count)) → FormatRefused old new p0 p1 keys drew draws (Failed (Fault device count))
  card_device Card count c = c
  card_device Entropy count c = c
  card_device Dir count c = absurd c
  card_device (File n) count c = absurd c

  card_cause : (cause : Cause) → CardRefused p0 p1 (rpmb_key keys.huk) drew draws (Failed cause) → FormatRefused old new p0 p1 keys drew draws (Failed cause)
  card_cause (Fault device count) c = card_device device count c
  card_cause (OfFrame f) c = absurd c
  card_cause (OfResult n) c = absurd c

  pub card_formats : (fault : MountFault) → CardRefused p0 p1 (rpmb_key keys.huk) drew draws fault → FormatRefused old new p0 p1 keys drew draws fault
  card_formats NoStore c = absurd c
  card_formats (CardBlock byte) c = absurd c
  card_formats (Directory d) c = absurd c
  card_formats (Frame f) c = c
  card_formats (CardResult n) c = c
  card_formats (Failed cause) c = card_cause cause c
  card_formats Spent c = absurd c
  card_formats NoMemory c = absurd c
  card_formats (OldFormat file) c = absurd c
