-- What a store that is opened has in it.
use Rattle.std.proofs.Common.{◌≡◌, ◌∙◌, ◌<◌, ℕ, List, length, sym, subst}
use Rattle.disk_model.specs.State.{FileState}
use Rattle.disk_model.specs.Calls.{Rests}
use Rattle.node_image.specs.Selection.{bytes_at}
use Rattle.hmac_keys.specs.declared.Keys.{Keys}
use Rattle.hmac_keys.specs.KeyTable.{rpmb_key}
use Rattle.tee_types.specs.Limits.{directory_file}
use Rattle.rpmb_card.specs.Card.{CardState}
use Rattle.rpmb_card.specs.Port.{PortState}
use Rattle.rpmb_host.specs.Honest.{HasCard, written_card}
use Rattle.crash_core.specs.Pictures.{block_zero}
use Rattle.object_calls.specs.Begins.{MountsAsRead}
use Rattle.htree_file.specs.Standing.{Told}
use Rattle.object_calls.specs.Opening.{OpeningValue, bench_files}
use Rattle.object_calls.specs.OpeningFiles.{files_of}
use Rattle.object_calls.specs.declared.bench.Bench.{Bench}
use Rattle.kept_store.specs.Kept.{HasBlock, IsBlank, KeepsStore, NamesNoExport, OpensExport, OpensStore, StaysUnmade, TakesOver}

-- what was mounted on the devices as they are is what they were handed in as
pub kept_mounted : {F R : Type 0} (state : F → FileState) (keys : Keys) (o : OpeningValue F R) (key : List ℕ) (given kept : List F) (p0 p1 : PortState)
    → KeepsStore p0 key ((kept ≡ given) × (p1.card ≡ p0.card)) → MountsAsRead state (files_of state kept directory_file) p1 keys o
    → KeepsStore p0 key (MountsAsRead state (files_of state given directory_file) p0 keys o)
kept_mounted state keys o key given kept p0 p1 same mounts = λ card has named told held has_held.
    let are = same card has named in
    mounts (subst (λ (files : List _). Told (files_of state files directory_file) (bench_files state o directory_file)) (sym are.0) told) held
    (record { told = are.1 ∙ has_held.told; keyed = has_held.keyed })

module _ {F R : Type 0} (state : F → FileState) (dir : FileState) (keys : Keys) (o : OpeningValue F R) (p0 p1 : PortState) (file left : FileState)
    (takes : TakesOver p0 p1 (rpmb_key keys.huk) file left) (mounts : KeepsStore p1 (rpmb_key keys.huk) (MountsAsRead state dir p1 keys o)) where
  pub opens_store : OpensStore state dir p0 keys o
  opens_store = λ told card names.
      let has : HasCard p1 (rpmb_key keys.huk) card = record { told = takes.stays card names.has names.written ∙ names.has.told; keyed = names.has.keyed } in
      mounts card has names.named told card has

  pub opens_export : OpensExport state dir p0 file left keys o
  opens_export = λ card names. (
    takes.emptied card names,
    λ told.
        let block : List ℕ = bytes_at file.reads 0 256 in
        let wrote = takes.takes card names in
        let has : HasCard p1 (rpmb_key keys.huk) (written_card card 0 0 block) = record { told = wrote.told; keyed = names.has.keyed } in
        let stands : block_zero (written_card card 0 0 block) ≡ block = subst (λ c. HasBlock c block) wrote.told wrote.stands in
        mounts (written_card card 0 0 block) has (subst (λ (b : List ℕ). ¬ IsBlank b) (sym stands) names.named) told (written_card card 0 0 block) has,
  )

-- where no block waits for the card, it is the same one when the store is looked for
pub lacks_still : (p0 p1 : PortState) (key : List ℕ) (file left : FileState) (card : CardState)
    → p1.card ≡ p0.card → NamesNoExport p0 key file left card → HasCard p1 key card
lacks_still p0 p1 key file left card same names = record { told = same ∙ names.has.told; keyed = names.has.keyed }

-- so nothing is changed of what was handed in
pub unmade_before : {F R : Type 0} (state : F → FileState) (port : R → PortState) (first mid last : Bench F R) → mid.files ≡ first.files
    → (port mid.card).card ≡ (port first.card).card → StaysUnmade state port mid last → StaysUnmade state port first last
unmade_before state port first mid last files same stays = λ told bytes.
    let rests = stays (subst (λ f. Told (files_of state f.items directory_file) (files_of state last.files.items directory_file)) (sym files) told)
    (subst (λ f. 0 < length (files_of state f.items directory_file).reads) (sym files) bytes) in
    record {
      files = λ number. subst (λ f. Rests (files_of state f.items number) (files_of state last.files.items number)) files (rests.files number);
      card = rests.card ∙ same;
    }
