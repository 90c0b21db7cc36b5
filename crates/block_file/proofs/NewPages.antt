-- The pages that a change makes, one block after the other.
use Rattle.std.proofs.Common.{◌≡◌, ◌∙◌, inl, inr, ℕ, ◌+◌, ◌-◌, ◌≤◌, List, [], ◌∷◌, ◌++◌, None, Some, Err, true, sym, subst, arith}
use Rattle.std.proofs.lemmas.Bool.{cases_lt}
use Rattle.disk_model.specs.State.{FileState}
use Rattle.disk_model.specs.Calls.{Rests}
use Rattle.disk_model.specs.Keeps.{Keeps}
use Rattle.htree_file.specs.declared.fault.TreeFault.{TreeFault}
use Rattle.htree_file.specs.declared.fault.TreeFault.TheVariants.{BadHead, BadTag, Damaged, Failed, NoEntropy, NoMemory, Short}
use Rattle.htree_file.specs.declared.change.BlockChange.{BlockChange}
use Rattle.htree_file.specs.Changes.{page_for}
use Rattle.htree_file.specs.Opening.{Loaded}
use Rattle.htree_file.specs.Selected.{Lies}
use Rattle.page_bytes.specs.declared.range.ByteRange.{ByteRange}
use Rattle.page_bytes.specs.Ranges.{needs}
use Rattle.block_file.specs.NewPages.{AreNewPages, IsNewPage, NewPageAnswer, NewPagesAnswer}
use Rattle.block_file.proofs.ChangeLists.{blocks-push, page_for-last, page_for-missed, page_for-push}
use Rattle.block_file.proofs.Reading.{page_first, page_then}

module _ {root : ℕ} (key : List ℕ) (tree : Loaded) (r : ByteRange) (at : ℕ) (bytes : List ℕ) (a b c : FileState) (keeps : Keeps (Lies tree.layout tree.nodes root) b c) where
  -- a page that was made stays one as the calls go on
  pub new_page_first : (k : ℕ) (page : List ℕ) → IsNewPage key tree a b r at bytes k page → IsNewPage key tree a c r at bytes k page
  new_page_first k page made = record {
    over = made.over;
    read = λ is. page_first key tree a b c k made.over keeps (made.read is);
    rewritten = made.rewritten;
  }

  new_page_then : Rests a b → (k : ℕ) (page : List ℕ) → IsNewPage key tree b c r at bytes k page → IsNewPage key tree a c r at bytes k page
  new_page_then rests k page made = record {
    over = made.over;
    read = λ is. page_then key tree a b c k made.over rests keeps.goes_on (made.read is);
    rewritten = made.rewritten;
  }

  -- one page more was made
  pub pages_step : (changes : List BlockChange) (change : BlockChange) (first k : ℕ) → Rests a b → first ≤ k → change.block ≡ k
      → AreNewPages key tree a b r at bytes changes first k → IsNewPage key tree b c r at bytes k change.page
      → AreNewPages key tree a c r at bytes (changes ++ change ∷ []) first (k + 1)
  pages_step changes change first k rests forward is before made = record {
    blocks = blocks-push changes change first k forward before.blocks is;
    pages = λ j low lt. elim (cases_lt j k) [
      | inl less ↦ let old = before.pages j low less in
          (old.0, page_for-push changes change j old.0 old.1, new_page_first j old.0 old.2)
      | inr high ↦ let same : change.block ≡ j = omega arith in
          let none : page_for changes change.block ≡ None = page_for-missed changes first (k - first) change.block before.blocks (inr (omega arith)) in (
            change.page,
            subst (λ (n : ℕ). page_for (changes ++ change ∷ []) n ≡ Some change.page) same (page_for-last changes change none),
            subst (λ (n : ℕ). IsNewPage key tree a c r at bytes n change.page) (sym is ∙ same) (new_page_then rests k change.page made),
          )
    ];
  }

  -- a page that was not made, behind those that were
  pub page_missing : (changes : List BlockChange) (first k : ℕ) (page : List ℕ) (A B : Type 0) (items : B → List BlockChange) (e : TreeFault)
      → ((j : ℕ) → needs r j ≡ true → first ≤ j) → AreNewPages key tree a b r at bytes changes first k
      → NewPageAnswer key tree b c r at bytes k {A = A} (Err e) page → (upto : ℕ) → NewPagesAnswer key tree a c r at bytes first upto {A = B} items (Err e)
  page_missing changes first k page A B items (BadTag bad want found) within before answer upto = rw (answer.1) (record {
    is_asked = answer.0;
    earlier = λ j lt needed. let read = (before.pages j (within j needed) lt).2 in (read.over, page_first key tree a b c j read.over keeps (read.read needed));
    bad = answer.2;
  })
  page_missing changes first k page A B items (Failed count) within before answer upto = tt
  page_missing changes first k page A B items (BadHead long greatest) within before answer upto = absurd answer
  page_missing changes first k page A B items (Short end need) within before answer upto = absurd answer
  page_missing changes first k page A B items (Damaged n want found) within before answer upto = absurd answer
  page_missing changes first k page A B items (NoEntropy count) within before answer upto = absurd answer
  page_missing changes first k page A B items NoMemory within before answer upto = absurd answer
