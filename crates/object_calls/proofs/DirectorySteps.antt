-- The directory's move, step by step.
use Rattle.std.proofs.Common.{◌≡◌, ◌≢◌, ◌≤◌, ◌∙◌, ◌==◌, ℕ, true, false, true≢false, List, eq-eqb, ne_eqb, refl, sym, subst, inl, inr, arith}
use Rattle.std.proofs.lemmas.Bool.{cases_eq}
use Rattle.disk_model.specs.State.{FileState}
use Rattle.node_image.specs.declared.node.RootRef.{RootRef}
use Rattle.node_image.specs.References.{current_format}
use Rattle.hmac_keys.specs.declared.Keys.{Keys}
use Rattle.htree_file.specs.Copies.{moved_root}
use Rattle.rpmb_card.specs.Protocol.{last_counter}
use Rattle.rpmb_card.specs.Card.{CardState}
use Rattle.rpmb_card.specs.Port.{PortState}
use Rattle.rpmb_host.specs.Honest.{HadCard, HasCard}
use Rattle.crash_core.specs.CardBlock.{IsReference, old_format}
use Rattle.store_commit.specs.declared.fault.MountFault.{MountFault}
use Rattle.store_commit.specs.CardEnds.{IsSealedCard}
use Rattle.store_commit.specs.Sides.{Names}
use Rattle.object_calls.specs.DirectoryMoves.{CopiesDirectory, MovesFiles, SettlesFormat, StopsFiles, StopsFormat, unmoved}

-- FORMATS
else_old : (root : RootRef) → IsReference root → root.format ≢ current_format → root.format ≡ old_format
else_old root form other = let f = form.format in omega (arith, f.0, f.1, other)

pub moved_old : (root : RootRef) → true ≡ (root.format == old_format) → root.format ≡ old_format
moved_old root is = elim (cases_eq root.format old_format) [
  | inl old ↦ old
  | inr other ↦ absurd (true≢false (is ∙ ne_eqb root.format old_format other))
]

pub stayed_current : (root : RootRef) → IsReference root → false ≡ (root.format == old_format) → root.format ≡ current_format
stayed_current root form is = elim (cases_eq root.format old_format) [
  | inl old ↦ absurd (true≢false (sym (is ∙ eq-eqb root.format old_format old)))
  | inr other ↦ let f = form.format in omega (arith, f.0, f.1, other)
]

-- THE MOVE OF A DIRECTORY OF THE OLD FORMAT
pub moves_files : (keys : Keys) (a b x y : FileState) (key k : List ℕ) (p0 p1 : PortState) (counter : ℕ) (root : RootRef) → k ≡ key → counter ≢ last_counter → CopiesDirectory keys a b x y root
    → ((card : CardState) → HasCard p0 key card → card.counter ≡ counter → IsSealedCard p1 k card (moved_root root current_format)) → ((card : CardState) → HasCard p1 k card → HadCard p0 key)
    → p0.faults ≤ p1.faults → MovesFiles keys a b x y key p0 p1 counter root
moves_files keys a b x y key k p0 p1 counter root same unspent copies sealed was counted = record {
  unspent = unspent;
  copies = copies;
  sealed = λ card has held. subst (λ (l : List ℕ). IsSealedCard p1 l card (moved_root root current_format)) same (sealed card has held);
  was = λ card has. was card (subst (λ (l : List ℕ). HasCard p1 l card) (sym same) has);
  counted = counted;
}

-- THE MOVE, WHERE IT IS DUE
-- The card's block 0 was read.
module _ (keys : Keys) (a b x y : FileState) (key k : List ℕ) (p0 mid p1 : PortState) (root : RootRef) (counter : ℕ) (same : k ≡ key) (form : IsReference root)
    (reads : mid.card ≡ p0.card) (passed : mid.faults ≡ p0.faults) (named : (card : CardState) → HasCard p0 key card → Names card root counter) where
  pub settles_unmoved : root.format ≡ current_format → SettlesFormat keys a a x x key p0 mid false
  settles_unmoved current = record {
    root = root;
    counter = counter;
    between = mid;
    form = form;
    reads = reads;
    passed = passed;
    named = named;
    moved_is = sym (ne_eqb root.format old_format (λ old. omega (arith, old, current)));
    stays = λ is. (refl, refl, refl);
    moves = λ is. absurd (true≢false (sym is));
  }

  pub settles_moved : root.format ≢ current_format → MovesFiles keys a b x y k mid p1 counter root → SettlesFormat keys a b x y key p0 p1 true
  settles_moved other moves = record {
    root = root;
    counter = counter;
    between = mid;
    form = form;
    reads = reads;
    passed = passed;
    named = named;
    moved_is = sym (eq-eqb root.format old_format (else_old root form other));
    stays = λ is. absurd (true≢false is);
    moves = λ is. subst (λ (l : List ℕ). MovesFiles keys a b x y l mid p1 counter root) same moves;
  }

  pub stops_unmoved : (drew drawn draws : ℕ) (fault : MountFault) → drawn ≡ drew → root.format ≢ current_format → StopsFiles keys a b x y k mid p1 drawn draws counter root fault
      → StopsFormat keys a b x y key p0 p1 drew draws fault
  stops_unmoved drew drawn draws fault none other stops =
      unmoved root counter mid form (else_old root form other) reads passed named
      (subst (λ (n : ℕ). StopsFiles keys a b x y key mid p1 n draws counter root fault) none
      (subst (λ (l : List ℕ). StopsFiles keys a b x y l mid p1 drawn draws counter root fault) same stops))
