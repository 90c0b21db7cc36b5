-- How a commit ends.
use Rattle.std.proofs.Common.{◌≡◌, ◌⊎◌, ◌∙◌, ◌+◌, ◌-◌, ◌<◌, ℕ, true, length, List, [], get_or, Option, Some, None, Ok, IfSome, IsTrue, refl, sym, ap, subst, inl, inr, arith}
use Rattle.std.proofs.lemmas.List.{get_or-set_same}
use Rattle.disk_model.specs.State.{FileState, LeftNow, LeftSince, Sound, moment}
use Rattle.disk_model.specs.Keeps.{Keeps}
use Rattle.disk_model.proofs.ImageLaws.{now_since, reads_left}
use Rattle.disk_model.proofs.Laws.{synced_pending}
use Rattle.node_image.specs.declared.node.RootRef.{RootRef}
use Rattle.node_image.specs.Selection.{selected_tree}
use Rattle.htree_file.specs.Selected.{Lies}
use Rattle.htree_file.proofs.Firmness.{stays_firm}
use Rattle.hmac_keys.specs.declared.Keys.{Keys}
use Rattle.dir_records.specs.declared.entry.DirEntry.{DirEntry}
use Rattle.dir_records.specs.Form.{IsFormat}
use Rattle.rpmb_card.specs.Card.{CardState, IsCard}
use Rattle.rpmb_card.specs.Port.{PortState, Sound as SoundPort}
use Rattle.rpmb_host.specs.Honest.{HadCard, HasCard}
use Rattle.tee_types.specs.declared.reply.Cause.{Cause}
use Rattle.crash_core.specs.CardBlock.{IsReference, directory_at, root_block, root_in}
use Rattle.crash_core.specs.DeviceKeys.{directory_key}
use Rattle.crash_core.specs.Directory.{directory_of}
use Rattle.crash_core.specs.Mounting.{directory_by, mounted_directory, unless_fault}
use Rattle.crash_core.specs.Pictures.{Picture, SameCard, block_zero}
use Rattle.crash_core.specs.Seals.{sealed_card}
use Rattle.crash_core.proofs.CardBlocks.{root_in-block}
use Rattle.crash_core.proofs.SameDirectory.{directory_same}
use Rattle.dir_file.specs.View.{DirView, StagedDirectory, adopted}
use Rattle.dir_file.specs.Held.{IsDurable}
use Rattle.crash_core.specs.declared.change.EntryChange.{EntryChange}
use Rattle.store_commit.specs.declared.change.CardEnd.TheVariants.{Landed, Lost, Unknown}
use Rattle.store_commit.specs.declared.change.CommitEnd.TheVariants.{Made, Dropped, Doubtful}
use Rattle.store_commit.specs.Prepared.{IsStageOf, Prepares}
use Rattle.store_commit.specs.CardEnds.{CardLeft, IsSealedCard}
use Rattle.store_commit.specs.Sides.{EachPicture, IsInDoubt, IsSettled, Names, Sides, sides}
use Rattle.store_commit.specs.Ends.{IsDoubted, IsDropped, IsMade, IsSpent, Throughout}
use Rattle.store_commit.specs.Steps.{IsReady, Seals, Steps}
use Rattle.store_commit.proofs.Preparing.{at_some, opened}

-- in every image since, the committed reference has the same directory
pub always : (s0 s1 : FileState) (d : DirView) → Sound s0 → Sound s1 → IsReference d.root → Keeps (Lies d.tree.layout d.tree.nodes d.root.version) s0 s1
    → IsDurable s0 d.tsk d.root d.tree d.entries → IsTrue s1.honest → (image : List ℕ) → LeftSince s1 (moment s0) image → directory_of d.tsk image d.root ≡ Ok d.entries
always s0 s1 d sound still form keeps held honest image left =
    let stays = stays_firm s0 s1 d.root d.tree sound still form.version keeps held.firm honest in
    directory_same image s0.reads d.root d.tree (selected_tree s0.reads d.root) (stays.always image left) (held.firm s0.reads (reads_left s0 sound)) d.tsk
    ∙ held.entries_are s0.reads (reads_left s0 sound)

pub kept : (s0 s1 : FileState) (d : DirView) → Sound s0 → Sound s1 → IsReference d.root → Keeps (Lies d.tree.layout d.tree.nodes d.root.version) s0 s1
    → IsDurable s0 d.tsk d.root d.tree d.entries → IsTrue s1.honest → IsDurable s1 d.tsk d.root d.tree d.entries
kept s0 s1 d sound still form keeps held honest = record {
  firm = (stays_firm s0 s1 d.root d.tree sound still form.version keeps held.firm honest).firm;
  entries_are = λ image left. always s0 s1 d sound still form keeps held honest image (now_since s1 (moment s0) image still left);
}

-- a picture whose card names a root mounts to its directory
named_mounts : (keys : Keys) (tsk : List ℕ) (picture : Picture) (card : CardState) (root : RootRef) (counter : ℕ) (entries : List (Option DirEntry))
    → directory_key keys ≡ tsk → SameCard picture.card card → Names card root counter
    → directory_of tsk (picture.images (directory_at root.format)) root ≡ Ok entries → mounted_directory keys picture ≡ Ok entries
named_mounts keys tsk picture card root counter entries is_key same names is =
    ap (λ (b : List (List ℕ)). directory_by keys picture.images (root_in (get_or b 0 []))) same.blocks
    ∙ ap (directory_by keys picture.images) names.block
    ∙ ap unless_fault (ap (λ (k : List ℕ). directory_of k (picture.images (directory_at root.format)) root) is_key ∙ is)

pub settled_pictures : (g : Sides) → IsSettled g → EachPicture g (λ m. m ≡ Ok g.dir.entries)
settled_pictures g settled honest keys picture is_key of =
    named_mounts keys g.dir.tsk picture of.card g.dir.root g.counter g.dir.entries is_key of.same (settled.named of.card of.has)
    ((settled.held honest).entries_are (picture.images (directory_at g.dir.root.format)) of.left)

pub doubted_pictures : (g : Sides) (next : StagedDirectory) → IsInDoubt g next → EachPicture g (λ m. (m ≡ Ok g.dir.entries) ⊎ (m ≡ Ok next.entries))
doubted_pictures g next doubt honest keys picture is_key of = by_name (doubt.named of.card of.has)
  where
    by_name : Names of.card g.dir.root g.counter ⊎ Names of.card next.root (g.counter + 1)
        → (mounted_directory keys picture ≡ Ok g.dir.entries) ⊎ (mounted_directory keys picture ≡ Ok next.entries)
    by_name (inl old) = inl (named_mounts keys g.dir.tsk picture of.card g.dir.root g.counter g.dir.entries is_key of.same old
        ((doubt.held honest).entries_are (picture.images (directory_at g.dir.root.format)) of.left))
    by_name (inr new) = inr (named_mounts keys g.dir.tsk picture of.card next.root (g.counter + 1) next.entries is_key of.same new
        ((doubt.next_held honest).entries_are (picture.images (directory_at next.root.format))
        (subst (λ (format : ℕ). LeftNow g.file (picture.images (directory_at format))) (sym doubt.same_format) of.left)))

pub spent : (g : Sides) → IsSettled g → IsSpent g g
spent g settled = record { same = refl; settled = settled; pictures = settled_pictures g settled }

module _ (s0 s2 : FileState) (d0 : DirView) (p0 p1 : PortState) (k0 k1 : List ℕ) (counter : ℕ) (sound : Sound s0) (still : Sound s2)
    (settled : IsSettled (sides s0 d0 p0 k0 counter)) (keeps : Keeps (Lies d0.tree.layout d0.tree.nodes d0.root.version) s0 s2) where
  honest_then : IsTrue s2.honest → IsTrue s0.honest
  honest_then honest = keeps.goes_on.honest honest

  held_then : IsTrue s2.honest → IsDurable s2 d0.tsk d0.root d0.tree d0.entries
  held_then honest = kept s0 s2 d0 sound still settled.form keeps (settled.held (honest_then honest)) honest

  pub throughout : (d2 : DirView) (now : ℕ) → k1 ≡ k0 → Throughout (sides s0 d0 p0 k0 counter) (sides s2 d2 p1 k1 now)
  throughout d2 now key = record {
    keeps = keeps;
    key = key;
    always = λ honest image left. always s0 s2 d0 sound still settled.form keeps (settled.held (honest_then honest)) honest image left;
  }

  pub dropped : (d2 : DirView) → d2 ≡ d0 → ((card : CardState) → HasCard p1 k1 card → Names card d0.root counter)
      → IsDropped (sides s0 d0 p0 k0 counter) (sides s2 d2 p1 k1 counter)
  dropped d2 same names = subst (λ (d : DirView). IsDropped (sides s0 d0 p0 k0 counter) (sides s2 d p1 k1 counter)) (sym same)
      (let now : IsSettled (sides s2 d0 p1 k1 counter) = record { form = settled.form; entries = settled.entries; idle = settled.idle; held = held_then; named = names } in
      record { counted = refl; same = refl; settled = now; pictures = settled_pictures (sides s2 d0 p1 k1 counter) now })

  -- the change was staged and settled
  module _ (d1 : DirView) (change : EntryChange) (root : RootRef) (prepares : Prepares true s0 s2 d0 d1 change {A = RootRef} (Ok root))
      (is_root : IfSome d1.stage (λ s. root ≡ s.root)) (long : length root.hash ≡ 32) where
    abbrev stage_is : (s : StagedDirectory) × (d1.stage ≡ Some s)
    stage_is = opened d1.stage prepares.opens

    abbrev next : StagedDirectory
    next = stage_is.0

    next_is : IsStageOf true d0 change next
    next_is = at_some d1.stage (IsStageOf true d0 change) next stage_is.1 prepares.next

    next_held : IsTrue s2.honest → IsDurable s2 d0.tsk next.root next.tree next.entries
    next_held honest = at_some d1.stage (λ s. IsDurable s2 d0.tsk s.root s.tree s.entries) next stage_is.1 (prepares.stands honest (settled.held (honest_then honest)))

    root_is : root ≡ next.root
    root_is = at_some d1.stage (λ s. root ≡ s.root) next stage_is.1 is_root

    next_form : IsReference next.root
    next_form =
        let v : next.root.version ≡ 1 - d0.root.version = next_is.version in
        record { version = omega (arith, v); format = subst IsFormat (sym next_is.format) settled.form.format; long = sym (ap (λ (r : RootRef). length r.hash) root_is) ∙ long }

    pub root_form : IsReference root
    root_form = subst IsReference (sym root_is) next_form

    pub made : (s3 : FileState) (d3 : DirView) → s3 ≡ s2 → IfSome d1.stage (λ s. d3 ≡ adopted d1 s)
        → ((card : CardState) → HasCard p1 k1 card → Names card root (counter + 1))
        → IsMade (sides s0 d0 p0 k0 counter) (sides s3 d3 p1 k1 (counter + 1)) change (counter + 1)
    made s3 d3 file committed names =
        let tsk : d1.tsk ≡ d0.tsk = ap (λ v. v.tsk) prepares.same in
        let d4 : DirView = record { tsk = d0.tsk; root = next.root; tree = next.tree; entries = next.entries; stage = None } in
        let is : d3 ≡ d4 = at_some d1.stage (λ s. d3 ≡ adopted d1 s) next stage_is.1 committed ∙ (λ i. record { tsk = tsk i; root = next.root; tree = next.tree; entries = next.entries; stage = None }) in
        let g : Sides = sides s2 d4 p1 k1 (counter + 1) in
        let now : IsSettled g = record { form = next_form; entries = next_is.are settled.entries; idle = refl; held = next_held; named = λ card has. subst (λ (r : RootRef). Names card r (counter + 1)) root_is (names card has) } in
        let goal : IsMade (sides s0 d0 p0 k0 counter) g change (counter + 1) = record {
          number = refl;
          counted = refl;
          entries = next_is.entries_are;
          tsk = refl;
          format = next_is.format;
          settled = now;
          pictures = subst (λ (e : List (Option DirEntry)). EachPicture g (λ m. m ≡ Ok e)) next_is.entries_are (settled_pictures g now);
        } in
        subst (λ (s : FileState). IsMade (sides s0 d0 p0 k0 counter) (sides s d3 p1 k1 (counter + 1)) change (counter + 1)) (sym file)
        (subst (λ (d : DirView). IsMade (sides s0 d0 p0 k0 counter) (sides s2 d p1 k1 (counter + 1)) change (counter + 1)) (sym is) goal)

    pub doubted : ((card : CardState) → HasCard p1 k1 card → Names card d0.root counter ⊎ Names card root (counter + 1))
        → IsDoubted (sides s0 d0 p0 k0 counter) (sides s2 d1 p1 k1 counter) change (counter + 1)
    doubted names =
        let d4 : DirView = record d0 { stage = d1.stage } in
        let is : d1 ≡ d4 = prepares.same in
        let g : Sides = sides s2 d4 p1 k1 counter in
        let doubt : IsInDoubt g next = record {
          form = settled.form;
          next_form = next_form;
          same_format = next_is.format;
          entries = settled.entries;
          next_entries = next_is.are settled.entries;
          is_open = stage_is.1;
          settled = next_is.is_settled;
          held = held_then;
          next_held = next_held;
          named = λ card has. subst (λ (r : RootRef). Names card d0.root counter ⊎ Names card r (counter + 1)) root_is (names card has);
        } in
        let goal : IsDoubted (sides s0 d0 p0 k0 counter) g change (counter + 1) = record {
          number = refl;
          counted = refl;
          same = refl;
          next = next;
          entries = next_is.entries_are;
          doubt = doubt;
          pictures = subst (λ (e : List (Option DirEntry)). EachPicture g (λ m. (m ≡ Ok d0.entries) ⊎ (m ≡ Ok e))) next_is.entries_are (doubted_pictures g next doubt);
        } in
        subst (λ (d : DirView). IsDoubted (sides s0 d0 p0 k0 counter) (sides s2 d p1 k1 counter) change (counter + 1)) (sym is) goal

    -- ready for the seal, in the file as it stands when the card is written
    pub ready : (s3 : FileState) (d3 : DirView) (now : ℕ) → s3 ≡ s2 → IsReady (sides s0 d0 p0 k0 counter) (sides s3 d3 p1 k1 now) change root
    ready s3 d3 now file = subst (λ (s : FileState). IsReady (sides s0 d0 p0 k0 counter) (sides s d3 p1 k1 now) change root) (sym file) (record {
      form = root_form;
      format = ap (λ (r : RootRef). r.format) root_is ∙ next_is.format;
      mid = prepares.synced.0;
      writes = prepares.synced.1;
      syncs = prepares.synced.2;
      settled = synced_pending prepares.synced.0 s2 prepares.synced.2;
      holds = λ honest. ap (directory_of d0.tsk s2.reads) root_is ∙ (next_held honest).entries_are s2.reads (reads_left s2 still)
          ∙ ap (λ (e : List (Option DirEntry)). Ok e) next_is.entries_are;
    })

    -- the reference that is adopted
    pub adopted_root : (d3 : DirView) → IfSome d1.stage (λ s. d3 ≡ adopted d1 s) → root ≡ d3.root
    adopted_root d3 committed = root_is ∙ sym (ap (λ (d : DirView). d.root) (at_some d1.stage (λ s. d3 ≡ adopted d1 s) next stage_is.1 committed))

    -- the seal, one that may have been, and none
    pub sealed_steps : (s3 : FileState) (d3 : DirView) → s3 ≡ s2 → IfSome d1.stage (λ s. d3 ≡ adopted d1 s)
        → ((card : CardState) → HasCard p0 k0 card → card.counter ≡ counter → CardLeft p1 k1 card root Landed)
        → Steps (sides s0 d0 p0 k0 counter) (sides s3 d3 p1 k1 (counter + 1)) change (Made (counter + 1))
    sealed_steps s3 d3 file committed left =
        let old : Sides = sides s0 d0 p0 k0 counter in
        let new : Sides = sides s3 d3 p1 k1 (counter + 1) in
        subst (λ (r : RootRef). IsReady old new change r × Seals old new r) (adopted_root d3 committed)
        (ready s3 d3 (counter + 1) file, λ card has. left card has (settled.named card has).counted)

    pub doubted_steps : (cause : Cause) → ((card : CardState) → HasCard p0 k0 card → card.counter ≡ counter → CardLeft p1 k1 card root (Unknown cause))
        → Steps (sides s0 d0 p0 k0 counter) (sides s2 d1 p1 k1 counter) change (Doubtful (counter + 1) cause)
    doubted_steps cause left = (root, ready s2 d1 counter refl, λ card has. left card has (settled.named card has).counted)

  pub lost_steps : (d2 : DirView) (change : EntryChange) (root : RootRef) (cause : Cause)
      → ((card : CardState) → HasCard p0 k0 card → card.counter ≡ counter → CardLeft p1 k1 card root (Lost cause))
      → Steps (sides s0 d0 p0 k0 counter) (sides s2 d2 p1 k1 counter) change (Dropped cause)
  lost_steps d2 change root cause left = (keeps, λ card has. left card has (settled.named card has).counted)

-- what the card names then
module _ (g : Sides) (settled : IsSettled g) (port : SoundPort g.port) (p1 : PortState) (k1 : List ℕ) (root : RootRef) (form : IsReference root)
    (was : (card : CardState) → HasCard p1 k1 card → HadCard g.port g.key) where
  same_card : (a b : CardState) → HasCard p1 k1 a → HasCard p1 k1 b → a ≡ b
  same_card a b x y = let e : (let o : Option CardState = Some a in o ≡ Some b) = sym x.told ∙ y.told in cc

  next_names : (card old : CardState) → HasCard p1 k1 card → HasCard g.port g.key old → IsSealedCard p1 k1 old root → Names card root (g.counter + 1)
  next_names card old has had sealed = subst (λ (c : CardState). Names c root (g.counter + 1)) (same_card sealed.next card sealed.has has)
      (record {
        block = ap (λ (b : List (List ℕ)). root_in (get_or b 0 [])) sealed.same.blocks ∙ sealed_names old had;
        counted = sealed.same.counter ∙ ap (λ (n : ℕ). n + 1) (settled.named old had).counted;
      })
    where
      sealed_names : (c : CardState) → HasCard g.port g.key c → root_in (block_zero (sealed_card c root)) ≡ Ok root
      sealed_names c h =
          let is : IsCard c = subst (λ (o : Option CardState). IfSome o IsCard) h.told port.card in
          let some : 0 < length c.blocks = omega (arith, is.blocks) in
          ap root_in (get_or-set_same c.blocks 0 (root_block root) [] some) ∙ root_in-block root form

  pub landed_names : ((card : CardState) → HasCard g.port g.key card → card.counter ≡ g.counter → CardLeft p1 k1 card root Landed)
      → (card : CardState) → HasCard p1 k1 card → Names card root (g.counter + 1)
  landed_names left card has =
      let w = was card has in
      next_names card w.0 has w.1 (left w.0 w.1 (settled.named w.0 w.1).counted)

  pub lost_names : (cause : Cause) → ((card : CardState) → HasCard g.port g.key card → card.counter ≡ g.counter → CardLeft p1 k1 card root (Lost cause))
      → (card : CardState) → HasCard p1 k1 card → Names card g.dir.root g.counter
  lost_names cause left card has =
      let w = was card has in
      subst (λ (c : CardState). Names c g.dir.root g.counter) (same_card w.0 card (left w.0 w.1 (settled.named w.0 w.1).counted) has) (settled.named w.0 w.1)

  pub unknown_names : (cause : Cause) → ((card : CardState) → HasCard g.port g.key card → card.counter ≡ g.counter → CardLeft p1 k1 card root (Unknown cause))
      → (card : CardState) → HasCard p1 k1 card → Names card g.dir.root g.counter ⊎ Names card root (g.counter + 1)
  unknown_names cause left card has = by_way (left (was card has).0 (was card has).1 (settled.named (was card has).0 (was card has).1).counted)
    where
      by_way : CardLeft p1 k1 (was card has).0 root (Unknown cause) → Names card g.dir.root g.counter ⊎ Names card root (g.counter + 1)
      by_way (inl here) = inl (subst (λ (c : CardState). Names c g.dir.root g.counter) (same_card (was card has).0 card here has) (settled.named (was card has).0 (was card has).1))
      by_way (inr sealed) = inr (next_names card (was card has).0 has (was card has).1 sealed)
