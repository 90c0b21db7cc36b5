-- Which mounts tell of a directory of the old format.
use Rattle.std.proofs.Common.{◌≡◌, ◌∙◌, ◌==◌, ℕ, Bool, true, false, List, Option, Some, None, Result, Ok, Err, refl, sym, ap, subst, inl, inr}
use Rattle.std.specs.List.{list_all}
use Rattle.node_image.specs.References.{current_format}
use Rattle.node_image.specs.declared.node.RootRef.{RootRef}
use Rattle.htree_file.specs.declared.fault.TreeFault.TheVariants.{BadHead, BadTag, Damaged, Failed as FileFault, NoEntropy, NoMemory as NoRoom, Short}
use Rattle.hmac_keys.specs.declared.Keys.{Keys}
use Rattle.hmac_keys.specs.KeyTable.{rpmb_key}
use Rattle.rpmb_card.specs.Card.{CardState}
use Rattle.rpmb_card.specs.Port.{PortState}
use Rattle.rpmb_host.specs.Honest.{HasCard}
use Rattle.crash_core.specs.CardBlock.{first_outside, old_format, root_in, root_or}
use Rattle.crash_core.specs.Pictures.{block_zero}
use Rattle.crash_core.specs.Refusal.{Refusal}
use Rattle.crash_core.specs.declared.fault.DirFault.{DirFault}
use Rattle.crash_core.specs.declared.fault.DirFault.TheVariants.{Tree, WrongLength, Record, Double}
use Rattle.store_commit.specs.declared.fault.MountFault.{MountFault}
use Rattle.store_commit.specs.declared.fault.MountFault.TheVariants.{NoStore, CardBlock, Directory, Frame, CardResult, Failed, Spent, NoMemory, OldFormat}
use Rattle.store_commit.specs.Blocks.{HasOldRoot, IsRootRefused, block_answer}
use Rattle.store_commit.specs.Mounts.{CardRefused, IsOfCurrentFormat, directory_answer}
use Rattle.store_commit.proofs.Outside.{root_other, root_zero}

-- block 0 alone is refused as blank, or by a byte of it
module _ (P : MountFault → Type 0) (blank : P NoStore) (bad : (offset : ℕ) → P (CardBlock offset)) (block : List ℕ) (fault : MountFault) (is : Err fault ≡ block_answer (root_in block)) where
  or_faults : (o : Option ℕ) → root_in block ≡ root_or block o → P fault
  or_faults None refused = absurd (cc (is, refused))
  or_faults (Some offset) refused = let e : fault ≡ CardBlock offset = cc (is, refused) in subst P (sym e) (bad offset)

  block_faults : P fault
  block_faults = by_test (list_all (λ x. x == 0) block) refl
    where
      by_test : (b : Bool) → list_all (λ x. x == 0) block ≡ b → P fault
      by_test true zero_block = let e : fault ≡ NoStore = cc (is ∙ ap block_answer (root_zero block zero_block)) in subst P (sym e) blank
      by_test false other = or_faults (first_outside block 0 256) (root_other block other)

-- a directory that is refused is none of the old format
module _ (p0 : PortState) (keys : Keys) where
  pub card_current : (p1 : PortState) (drew draws : ℕ) (fault : MountFault) → CardRefused p0 p1 (rpmb_key keys.huk) drew draws fault → IsOfCurrentFormat p0 keys fault
  card_current p1 drew draws NoStore c = tt
  card_current p1 drew draws (CardBlock byte) c = tt
  card_current p1 drew draws (Directory d) c = absurd c
  card_current p1 drew draws (Frame f) c = tt
  card_current p1 drew draws (CardResult n) c = tt
  card_current p1 drew draws (Failed cause) c = tt
  card_current p1 drew draws Spent c = tt
  card_current p1 drew draws NoMemory c = tt
  card_current p1 drew draws (OldFormat file) c = absurd c

  pub root_current : (block : List ℕ) (fault : MountFault) → IsRootRefused block fault → IsOfCurrentFormat p0 keys fault
  root_current block fault (inl is) = block_faults (IsOfCurrentFormat p0 keys) tt (λ offset. tt) block fault is
  root_current block fault (inr is) = subst (IsOfCurrentFormat p0 keys) (sym is.0) tt

  module _ (root : RootRef) (current : root.format ≡ current_format) (named : (card : CardState) → HasCard p0 (rpmb_key keys.huk) card → root_in (block_zero card) ≡ Ok root) where
    same_root : (a b : RootRef) → (let r : Result RootRef Refusal = Ok a in r ≡ Ok b) → a ≡ b
    same_root a b is = cc (is)

    not_old : (card : CardState) → HasCard p0 (rpmb_key keys.huk) card → HasOldRoot (block_zero card) → ⊥
    not_old card has old =
        let same : root ≡ old.root = same_root root old.root (sym (named card has) ∙ old.names) in
        let format : current_format ≡ old_format = sym current ∙ ap (λ (r : RootRef). r.format) same ∙ old.old in
        absurd (cc (format))

    pub directory_current : (fault : DirFault) → IsOfCurrentFormat p0 keys (directory_answer fault)
    directory_current (Tree (FileFault count)) = tt
    directory_current (Tree NoRoom) = tt
    directory_current (Tree (BadHead long greatest)) = not_old
    directory_current (Tree (Short end need)) = not_old
    directory_current (Tree (Damaged n want found)) = not_old
    directory_current (Tree (BadTag k want found)) = not_old
    directory_current (Tree (NoEntropy count)) = not_old
    directory_current (WrongLength bytes) = not_old
    directory_current (Record index offset) = not_old
    directory_current (Double index first) = not_old
