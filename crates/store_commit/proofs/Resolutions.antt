-- A commit in doubt that is resolved.
use Rattle.std.proofs.Common.{◌≡◌, ◌⊎◌, ◌∙◌, ◌+◌, ℕ, List, Option, Some, None, Result, Ok, Err, IfSome, refl, sym, ap, subst, inl, inr, arith}
use Rattle.disk_model.specs.State.{FileState}
use Rattle.dir_records.specs.declared.entry.DirEntry.{DirEntry}
use Rattle.rpmb_card.specs.Card.{CardState}
use Rattle.rpmb_card.specs.Port.{PortState}
use Rattle.rpmb_host.specs.declared.fault.HostFault.{HostFault}
use Rattle.rpmb_host.specs.Honest.{HasCard}
use Rattle.dir_file.specs.View.{DirValue, DirView, StagedDirectory, adopted}
use Rattle.crash_core.specs.declared.change.DoubtedChange.{DoubtedChange}
use Rattle.store_commit.specs.declared.resolve.Resolved.TheVariants.{Landed, Dropped}
use Rattle.crash_core.specs.declared.change.EntryChange.{EntryChange}
use Rattle.crash_core.specs.declared.change.EntryChange.TheVariants.{Put, Clear}
use Rattle.dir_index.specs.Index.{IndexState}
use Rattle.store_commit.specs.Gates.{DoubtStands, IsDoubtOf, IsGate}
use Rattle.store_commit.specs.Holds.{AreHolds, EndsHoldOf, file_held}
use Rattle.store_commit.specs.NameIndex.{IsIndexOf}
use Rattle.store_commit.specs.Resolving.{IsLanded, IsUndone, IsUnresolved, MeantBy}
use Rattle.store_commit.specs.Sides.{EachPicture, IsInDoubt, IsSettled, Names, Sides, sides}
use Rattle.store_commit.proofs.Ending.{doubted_pictures, settled_pictures}
use Rattle.store_commit.proofs.HoldLists.{unless_was}
use Rattle.store_commit.proofs.Preparing.{at_some}

-- the number of a commit that is resolved
pub number_landed : (counter n : ℕ) (read : Result ℕ HostFault) → MeantBy counter read (Ok (Landed n)) → n ≡ counter + 1
number_landed counter n (Ok found) meant = meant.1
number_landed counter n (Err fault) meant = absurd meant

pub number_dropped : (counter n : ℕ) (read : Result ℕ HostFault) → MeantBy counter read (Ok (Dropped n)) → n ≡ counter + 1
number_dropped counter n (Ok found) meant = meant.1
number_dropped counter n (Err fault) meant = absurd meant

-- the doubt of an invariant
pub doubt_of : (g : Sides) (o : Option DoubtedChange) (d : DoubtedChange) → o ≡ Some d → DoubtStands g o → IsDoubtOf g d
doubt_of g o d is stands = subst (DoubtStands g) is stands

-- the stage that is adopted
pub adopted_next : {F : Type 0} (old new : DirValue F) (next : StagedDirectory) → old.dir.stage ≡ Some next
    → IfSome old.dir.stage (λ s. new ≡ record old { dir = adopted old.dir s }) → new ≡ record old { dir = adopted old.dir next }
adopted_next old new next is_open committed = at_some old.dir.stage (λ s. new ≡ record old { dir = adopted old.dir s }) next is_open committed

module _ (s : FileState) (d : DirView) (p0 p1 : PortState) (k0 k1 : List ℕ) (counter : ℕ) (doubted : DoubtedChange) (is : IsDoubtOf (sides s d p0 k0 counter) doubted)
    (was : (card : CardState) → HasCard p1 k1 card → HasCard p0 k0 card) where
  abbrev next : StagedDirectory
  next = is.next

  landed_settled : ((card : CardState) → HasCard p0 k0 card → card.counter ≡ counter + 1) → IsSettled (sides s (adopted d next) p1 k1 (counter + 1))
  landed_settled told = record {
    form = is.stands.next_form;
    entries = is.stands.next_entries;
    idle = refl;
    held = is.stands.next_held;
    named = λ card has. by_name card (told card (was card has)) (is.stands.named card (was card has));
  }
    where
      by_name : (card : CardState) → card.counter ≡ counter + 1 → Names card d.root counter ⊎ Names card next.root (counter + 1) → Names card next.root (counter + 1)
      by_name card high (inl old) = let low : card.counter ≡ counter = old.counted in absurd (omega (arith, high, low))
      by_name card high (inr new) = new

  undone_settled : ((card : CardState) → HasCard p0 k0 card → card.counter ≡ counter) → IsSettled (sides s (record d { stage = None }) p1 k1 counter)
  undone_settled told = record {
    form = is.stands.form;
    entries = is.stands.entries;
    idle = refl;
    held = is.stands.held;
    named = λ card has. by_name card (told card (was card has)) (is.stands.named card (was card has));
  }
    where
      by_name : (card : CardState) → card.counter ≡ counter → Names card d.root counter ⊎ Names card next.root (counter + 1) → Names card d.root counter
      by_name card low (inl old) = old
      by_name card low (inr new) = let high : card.counter ≡ counter + 1 = new.counted in absurd (omega (arith, high, low))

  still_doubted : IsInDoubt (sides s d p1 k1 counter) next
  still_doubted = record {
    form = is.stands.form;
    next_form = is.stands.next_form;
    same_format = is.stands.same_format;
    entries = is.stands.entries;
    next_entries = is.stands.next_entries;
    is_open = is.stands.is_open;
    settled = is.stands.settled;
    held = is.stands.held;
    next_held = is.stands.next_held;
    named = λ card has. is.stands.named card (was card has);
  }

  pub landed : (d1 : DirView) (s1 : FileState) (n : ℕ) → s1 ≡ s → d1 ≡ adopted d next → n ≡ counter + 1
      → ((card : CardState) → HasCard p0 k0 card → card.counter ≡ counter + 1) → IsLanded (sides s d p0 k0 counter) (sides s1 d1 p1 k1 n) doubted n
  landed d1 s1 n file dir number told =
      let g : Sides = sides s (adopted d next) p1 k1 (counter + 1) in
      let now : IsSettled g = landed_settled told in
      let goal : IsLanded (sides s d p0 k0 counter) g doubted (counter + 1) = record {
        number = sym is.number;
        counted = refl;
        entries = is.entries;
        tsk = refl;
        format = is.stands.same_format;
        settled = now;
        pictures = subst (λ (e : List (Option DirEntry)). EachPicture g (λ m. m ≡ Ok e)) is.entries (settled_pictures g now);
      } in
      subst (λ (f : FileState). IsLanded (sides s d p0 k0 counter) (sides f d1 p1 k1 n) doubted n) (sym file)
      (subst (λ (v : DirView). IsLanded (sides s d p0 k0 counter) (sides s v p1 k1 n) doubted n) (sym dir)
      (subst (λ (m : ℕ). IsLanded (sides s d p0 k0 counter) (sides s (adopted d next) p1 k1 m) doubted m) (sym number) goal))

  pub undone : (d1 : DirView) (s1 : FileState) (n : ℕ) → s1 ≡ s → d1 ≡ record d { stage = None } → n ≡ counter + 1
      → ((card : CardState) → HasCard p0 k0 card → card.counter ≡ counter) → IsUndone (sides s d p0 k0 counter) (sides s1 d1 p1 k1 counter) doubted n
  undone d1 s1 n file dir number told =
      let g : Sides = sides s (record d { stage = None }) p1 k1 counter in
      let now : IsSettled g = undone_settled told in
      let goal : IsUndone (sides s d p0 k0 counter) g doubted n = record {
        number = number ∙ sym is.number;
        counted = refl;
        same = refl;
        settled = now;
        pictures = settled_pictures g now;
      } in
      subst (λ (f : FileState). IsUndone (sides s d p0 k0 counter) (sides f d1 p1 k1 counter) doubted n) (sym file)
      (subst (λ (v : DirView). IsUndone (sides s d p0 k0 counter) (sides s v p1 k1 counter) doubted n) (sym dir) goal)

  pub unresolved : k1 ≡ k0 → IsUnresolved (sides s d p0 k0 counter) (sides s d p1 k1 counter) doubted
  unresolved key = record {
    same = λ i. record { file = s; dir = d; port = p1; key = key i; counter = counter };
    pictures = subst (λ (e : List (Option DirEntry)). EachPicture (sides s d p1 k1 counter) (λ m. (m ≡ Ok d.entries) ⊎ (m ≡ Ok e))) is.entries
        (doubted_pictures (sides s d p1 k1 counter) next still_doubted);
  }

-- the holds after a change that was not made
pub holds_fewer : (entries : List (Option DirEntry)) (old new : List (Option ℕ)) (change : EntryChange) → AreHolds entries old → EndsHoldOf change old new → AreHolds entries new
holds_fewer entries old new (Put index e) holds without = record {
  within = λ session file held. holds.within session file (unless_was e.file file (file_held old session) (sym (without session) ∙ held)).0;
  unnamed = λ session file held. holds.unnamed session file (unless_was e.file file (file_held old session) (sym (without session) ∙ held)).0;
  single = λ a b file x y.
      holds.single a b file (unless_was e.file file (file_held old a) (sym (without a) ∙ x)).0 (unless_was e.file file (file_held old b) (sym (without b) ∙ y)).0;
}
holds_fewer entries old new (Clear index) holds same = subst (AreHolds entries) (sym same) holds

pub undone_gate : (g h : Sides) (o : Option DoubtedChange) (d : DoubtedChange) (n : ℕ) (index : IndexState) (old new : List (Option ℕ)) → IsGate g o index old → IsUndone g h d n
    → EndsHoldOf d.change old new → IsGate h None index new
undone_gate g h o d n index old new gate undone ends =
    let entries : h.dir.entries ≡ g.dir.entries = ap (λ (v : DirView). v.entries) undone.same in
    record {
      taken = tt;
      stands = undone.settled;
      due = omega arith;
      names = subst (IsIndexOf index) (sym entries) gate.names;
      held = subst (λ (l : List (Option DirEntry)). AreHolds l new) (sym entries) (holds_fewer g.dir.entries old new d.change gate.held ends);
    }
