-- A bench that has a file of the old format is refused for it.
use Rattle.std.proofs.Common.{◌≡◌, ◌⊎◌, ◌∙◌, ℕ, eqb, List, None, Some, Result, Ok, Err, inl, inr, refl, sym, ap, subst, arith, ne_eqb}
use Rattle.std.proofs.lemmas.Bool.{cases_eq, cond-false}
use Rattle.disk_model.specs.State.{FileState}
use Rattle.htree_file.specs.Standing.{Told}
use Rattle.node_image.specs.declared.node.RootRef.{RootRef}
use Rattle.hmac_keys.specs.declared.Keys.{Keys}
use Rattle.hmac_keys.specs.KeyTable.{rpmb_key}
use Rattle.tee_types.specs.Limits.{directory_file}
use Rattle.rpmb_card.specs.Card.{CardState}
use Rattle.rpmb_card.specs.Port.{PortState}
use Rattle.rpmb_host.specs.Honest.{HasCard}
use Rattle.crash_core.specs.CardBlock.{directory_at, old_format, root_in}
use Rattle.crash_core.specs.Mounting.{mounted_directory}
use Rattle.crash_core.specs.OldFormats.{old_file, old_under}
use Rattle.crash_core.specs.Pictures.{Picture, block_zero}
use Rattle.crash_core.specs.Refusal.{Refusal, CardBlock as BadBlock, NoStore as BlankBlock}
use Rattle.core_laws.proofs.Mending.{none_some, some_same}
use Rattle.store_commit.specs.Blocks.{picture_of}
use Rattle.store_commit.specs.declared.fault.MountFault.{MountFault}
use Rattle.store_commit.specs.declared.fault.MountFault.TheVariants.{CardBlock, CardResult, Directory, Failed, Frame, NoMemory, NoStore, OldFormat, Spent}
use Rattle.object_calls.proofs.CurrentPictures.{none_named}
use Rattle.object_calls.proofs.Files.{directory_here}
use Rattle.object_calls.proofs.OldGates.{old_file_found}
use Rattle.object_calls.specs.OldStores.{GateRefused}
use Rattle.object_calls.specs.Opening.{OpeningValue, bench_files, entries_in}
use Rattle.run_acts.specs.Benches.{BenchState}
use Rattle.run_acts.specs.MountedDevices.{IsMounted, IsMountRefused}
use Rattle.run_acts.specs.MountingLaws.{IsFirstOld, IsOfDevice, OldBenchesAreNotMounted, OldBenchesAreRefused}
use Rattle.run_acts.proofs.NotRefused.{ok_err}

-- where no directory is read, a file of the old format is that of the directory
old_unread : (r : Result RootRef Refusal) (refusal : Refusal) (file : ℕ) → old_under r (Err refusal) ≡ Some file → (root : RootRef) × (r ≡ Ok root) × (root.format ≡ old_format)
old_unread (Err other) refusal file found = absurd (none_some file found)
old_unread (Ok root) refusal file found = elim (cases_eq root.format old_format) [
  | inl old ↦ (root, refl, old)
  | inr other ↦ absurd (none_some file (sym (cond-false (eqb root.format old_format) (Some (directory_at root.format)) None (ne_eqb root.format old_format other)) ∙ found))
]

-- and where block 0 names none, there is none
none_under : (r : Result RootRef Refusal) (picture : Picture) (keys : Keys) (refusal : Refusal) (file : ℕ) → r ≡ Err refusal → old_under r (mounted_directory keys picture) ≡ Some file → ⊥
none_under r picture keys refusal file is found = none_some file (sym (ap (λ (x : Result RootRef Refusal). old_under x (mounted_directory keys picture)) is) ∙ found)

module _ (keys : Keys) (old new : BenchState) (drew draws : ℕ) (card : CardState) (file : ℕ) (has : HasCard old.card (rpmb_key keys.huk) card) where
  abbrev picture : Picture
  picture = picture_of (new.files directory_file).reads card

  -- block 0 is refused
  unnamed : (refusal : Refusal) → root_in (block_zero card) ≡ Err refusal → IsFirstOld keys (old.files directory_file) (new.files directory_file) card file → ⊥
  unnamed refusal is (inl first) = ok_err first.1.root refusal (root_in (block_zero card)) first.1.names is
  unnamed refusal is (inr first) = none_under (root_in (block_zero card)) picture keys refusal file is first.1

  -- that of an entry is found only where block 0 names no old directory
  old_here : (n : ℕ) → GateRefused (old.files directory_file) (new.files directory_file) old.card new.card keys drew draws (OldFormat n)
      → IsFirstOld keys (old.files directory_file) (new.files directory_file) card file → n ≡ file
  old_here n (inl named) (inl first) = named.0 ∙ sym first.0
  old_here n (inr entry) (inl first) = absurd (entry.current card has first.1)
  old_here n refused (inr first) =
      some_same n file (sym (old_file_found (old.files directory_file) (new.files directory_file) old.card new.card keys drew draws n refused card has first.0) ∙ first.1)

  refused_for : (fault : MountFault) → IsMountRefused keys old new drew draws fault → IsFirstOld keys (old.files directory_file) (new.files directory_file) card file
      → (fault ≡ OldFormat file) ⊎ IsOfDevice fault
  refused_for NoStore m first = absurd (unnamed BlankBlock (((m.refused).refused) card has) first)
  refused_for (CardBlock offset) m first = absurd (unnamed (BadBlock offset) (((m.refused).refused) card has) first)
  refused_for (Directory fault) m (inl first) = absurd (m.only card has first.1)
  refused_for (Directory fault) m (inr first) =
      let named = old_unread (root_in (block_zero card)) _ file (sym (ap (old_under (root_in (block_zero card))) (((m.refused).refused) card has first.0)) ∙ first.1) in
      absurd (m.only card has (record { root = named.0; names = named.1; old = named.2 }))
  refused_for (Frame fault) m first = absurd (((m.refused).refused) card has)
  refused_for (CardResult result) m first = absurd (((m.refused).refused) card has)
  refused_for (Failed cause) m first = inr tt
  refused_for Spent m first = absurd ((m.refused).refused)
  refused_for NoMemory m first = inr tt
  refused_for (OldFormat n) m first = inl (ap OldFormat (old_here n ((m.refused).refused) first))

pub old_benches_are_refused : OldBenchesAreRefused
old_benches_are_refused keys old new drew draws fault card file m has first = refused_for keys old new drew draws card file has fault m first

one_root : (a b : RootRef) (r : Result RootRef Refusal) → r ≡ Ok a → r ≡ Ok b → a ≡ b
one_root a b r first second = cc

module _ {F R : Type 0} (of_file : F → FileState) (of_port : R → PortState) (keys : Keys) (old : BenchState) (o : OpeningValue F R) (card : CardState) (file : ℕ)
    (m : IsMounted of_file of_port keys old o) (has : HasCard old.card (rpmb_key keys.huk) card) where
  named : root_in (block_zero card) ≡ Ok o.gate.dir.dir.root
  named = (((m.gate).settled).named card (record {
    told = ((m.gate).devices).card ∙ has.told;
    keyed = has.keyed ∙ ap (λ (k : List ℕ). Some k) (sym (m.gate).key_is);
  })).block

  here : bench_files of_file o directory_file ≡ of_file o.gate.dir.file
  here = directory_here of_file o.spare o.gate.dir.file o.files

  not_mounted : IsFirstOld keys (old.files directory_file) (bench_files of_file o directory_file) card file → ⊥
  not_mounted (inl first) =
      let same : o.gate.dir.dir.root ≡ first.1.root = one_root o.gate.dir.dir.root first.1.root (root_in (block_zero card)) named first.1.names in
      let format : o.gate.dir.dir.root.format ≡ old_format = ap (λ (r : RootRef). r.format) same ∙ first.1.old in
      omega (arith, format, m.current.0)
  not_mounted (inr first) =
      let told : Told (old.files directory_file) (of_file o.gate.dir.file) = subst (Told (old.files directory_file)) here first.0 in
      let picture : Picture = picture_of (of_file o.gate.dir.file).reads card in
      let none : old_file keys picture ≡ None = none_named keys picture o.gate.dir.dir.root (entries_in o) named m.current.0 ((m.gate).directory told card has) m.current.1 in
      none_some file (sym none ∙ sym (ap (λ (s : FileState). old_file keys (picture_of s.reads card)) here) ∙ first.1)

pub old_benches_are_not_mounted : {F R : Type 0} (of_file : F → FileState) (of_port : R → PortState) → OldBenchesAreNotMounted of_file of_port
old_benches_are_not_mounted of_file of_port keys old o card file m has first = not_mounted of_file of_port keys old o card file m has first
