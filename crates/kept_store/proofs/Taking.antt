-- What becomes of a card before its store is opened.
use Rattle.std.proofs.Common.{◌≡◌, ◌∙◌, ◌<◌, ◌≤◌, ℕ, List, Bool, false, true, IsTrue, Some, Result, Ok, Err, OnOk, inl, inr, sym, ap, subst, arith}
use Rattle.disk_model.specs.State.{FileState}
use Rattle.disk_model.specs.Calls.{GoesOn, Rests}
use Rattle.disk_model.proofs.Goings.{then_known}
use Rattle.node_image.specs.Selection.{bytes_at}
use Rattle.htree_file.specs.Standing.{Told}
use Rattle.rpmb_card.specs.Card.{CardState}
use Rattle.rpmb_card.specs.Port.{PortState}
use Rattle.rpmb_host.specs.Honest.{HasCard, written_card}
use Rattle.crash_core.specs.Pictures.{block_zero}
use Rattle.store_commit.specs.Mounts.{Tells}
use Rattle.folder_audit.specs.Reading.{IsBlockOf}
use Rattle.kept_store.specs.declared.fault.OpenFault.{OpenFault}
use Rattle.kept_store.specs.Kept.{HasBlankCard, HasBlock, IsBlank, IsEmptied, NamesExport, TakesNothing, TakesOver, WritesFirst}
use Rattle.kept_store.proofs.Resting.{told_first}

-- what a test that failed would have found is not
pub not_found : (A : Type 0) (test : Bool) → test ≡ false → (A → IsTrue test) → ¬ A
not_found A true is holds a = cc
not_found A false is holds a = let t : IsTrue false = holds a in cc

-- a card that stays was blank before
blank_before : (old new : PortState) (key : List ℕ) → new.card ≡ old.card → HasBlankCard new key → HasBlankCard old key
blank_before old new key stays blank card has = blank card (record { told = stays ∙ has.told; keyed = has.keyed })

-- a card that was written stays
pub written_stays : (old new : PortState) (key : List ℕ) (file : FileState) (counter : ℕ) (block : List ℕ)
    → ((card : CardState) → HasCard old key card → Tells card counter block) → new.card ≡ old.card → 0 < counter → TakesOver old new key file file
written_stays old new key file counter block tells stays some =
    let never : (card : CardState) → NamesExport old key file file card → ⊥ = λ card names.
    let none : counter ≡ 0 = sym (tells card names.has).counted ∙ names.unwritten in
    absurd (omega (arith, some, none)) in
    record {
      stays = λ card has risen. stays;
      takes = λ card names. absurd (never card names);
      emptied = λ card names. absurd (never card names);
      blank = blank_before old new key stays;
    }

-- the block that is read is the one that the file had
read_first : (file mid : FileState) (block : List ℕ) → Rests file mid → IsBlockOf mid block → Told file mid → block ≡ bytes_at file.reads 0 256
read_first file mid block rests of_file told = of_file told.0 ∙ ap (λ (l : List ℕ). bytes_at l 0 256) (rests.reads told.1)

-- a file that was emptied behind a read was emptied
pub emptied_then : (file mid left : FileState) → Rests file mid → IsEmptied mid left → IsEmptied file left
emptied_then file mid left rests emptied = record {
  reads = λ known. emptied.reads (then_known file mid left rests.goes_on known);
  synced = emptied.synced;
}

-- and else has the block, where it was written
module _ (old mid new : PortState) (mid_key key : List ℕ) (file read left : FileState) (counter : ℕ) (told block : List ℕ)
    (tells : (card : CardState) → HasCard old key card → Tells card counter told) (stays : mid.card ≡ old.card) (kept : mid_key ≡ key) (none : counter ≤ 0)
    (rests : Rests file read) (of_file : IsBlockOf read block) (named : ¬ IsBlank block) (goes_on : GoesOn read left) where
  abbrev pub WritesIt : Type 0
  WritesIt = (card : CardState) → HasCard mid mid_key card → card.counter ≡ 0 → WritesFirst card new block

  -- the block is the one that the file had
  is_of_file : Told file left → block ≡ bytes_at file.reads 0 256
  is_of_file told = read_first file read block rests of_file (told_first file read left goes_on told)

  -- so it waited for the card
  pub waited : TakesNothing old new key file left
  waited card names = elim names.none [
    | inl risen ↦ let here : card.counter ≡ counter = (tells card names.has).counted in absurd (omega (arith, risen, here, none))
    | inr blank ↦ absurd (named (subst IsBlank (sym (is_of_file blank.0)) blank.1))
  ]

  -- what the write makes of a card that is told
  wrote : WritesIt → (card : CardState) → HasCard old key card → WritesFirst card new block
  wrote writes card has =
      let first : card.counter ≡ 0 = omega (arith, (tells card has).counted, none) in
      writes card (record { told = stays ∙ has.told; keyed = has.keyed ∙ ap Some (sym kept) }) first

  block_taken : WritesIt → IsEmptied read left → TakesOver old new key file left
  block_taken writes emptied = record {
    stays = λ card has risen. let here : card.counter ≡ counter = (tells card has).counted in absurd (omega (arith, risen, here, none));
    takes = λ card names. subst (WritesFirst card new) (is_of_file names.told) (wrote writes card names.has);
    emptied = λ card names. emptied_then file read left rests emptied;
    blank = λ blank card has.
        let w = wrote writes card has in
        let stands : block_zero (written_card card 0 0 block) ≡ block = subst (λ c. HasBlock c block) w.told w.stands in
        absurd (named (subst IsBlank stands (blank (written_card card 0 0 block) (record { told = w.told; keyed = has.keyed }))));
  }

  pub taken_at_end : (result : Result Unit OpenFault) → OnOk result WritesIt → OnOk result (IsEmptied read left) → OnOk result (TakesOver old new key file left)
  taken_at_end (Ok done) writes emptied = block_taken writes emptied
  taken_at_end (Err fault) writes emptied = tt
