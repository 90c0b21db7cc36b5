-- Parts that are put one behind the other.
use Rattle.std.proofs.Common.{◌≡◌, inl, inr, ℕ, suc, ◌+◌, ◌==◌, Bool, true, false, cond, codes, List, [], ◌∷◌, ◌++◌, Some, None, refl, sym, ap, subst, ◌∙◌, append_assoc, arith}
use Rattle.std.specs.Int.{w16, to_be_bytes}
use Rattle.std.proofs.lemmas.Bool.{cases_lt, cond-false, cond-true, eq-eqb, ne_eqb}
use Rattle.std.proofs.lemmas.List.{append-nil}
use Rattle.disk_model.specs.Calls.{Rests}
use Rattle.disk_model.specs.State.{FileState}
use Rattle.node_image.specs.Selection.{row}
use Rattle.node_image.proofs.Matching.{row_same}
use Rattle.htree_file.specs.Opening.{Loaded}
use Rattle.htree_file.specs.Pages.{block_in}
use Rattle.htree_file.specs.Standing.{Told}
use Rattle.htree_file.proofs.CopyRuns.{told_first}
use Rattle.htree_file.proofs.Causes.{told_then}
use Rattle.image_audit.specs.Audited.{BeginsAudit, EndsAudit, IsAudit, PutsCipher, PutsCiphers}
use Rattle.image_audit.specs.Auditing.{certificate_bytes, joined, tree_bytes}

joined-append : (xs ys : List (List ℕ)) → joined (xs ++ ys) ≡ joined xs ++ joined ys
joined-append [] ys = refl
joined-append (x ∷ xs) ys = ap (λ (l : List ℕ). x ++ l) (joined-append xs ys) ∙ sym (append_assoc x (joined xs) (joined ys))

joined_more : (f : ℕ → List ℕ) (k : ℕ) → joined (row f (k + 1)) ≡ joined (row f k) ++ f k
joined_more f k =
    ap (λ (n : ℕ). joined (row f n)) (let e : k + 1 ≡ suc k = omega arith in e)
    ∙ joined-append (row f k) (f k ∷ []) ∙ ap (λ (l : List ℕ). joined (row f k) ++ l) (append-nil (f k))

-- one part more
pub put_more : (before all x : List ℕ) (f : ℕ → List ℕ) (k : ℕ) → all ≡ before ++ joined (row f k) → x ≡ f k → all ++ x ≡ before ++ joined (row f (k + 1))
put_more before all x f k is here =
    (λ i. is i ++ here i) ∙ append_assoc before (joined (row f k)) (f k) ∙ ap (λ (l : List ℕ). before ++ l) (sym (joined_more f k))

-- one ciphertext more: a file that is told to the end reads alike all along
pub ciphers_more : (old now new : FileState) (tree : Loaded) (k : ℕ) (before all after : List ℕ) → Rests old now → Rests now new → PutsCiphers old now tree k before all → PutsCipher new tree k all after
    → PutsCiphers old new tree (k + 1) before after
ciphers_more old now new tree k before all after first second puts put = record {
  blocks = λ j. cond (j == k) put.cipher (puts.blocks j);
  is = put.is ∙ put_more before all put.cipher (λ j. cond (j == k) put.cipher (puts.blocks j)) k
      (puts.is ∙ ap (λ (l : List (List ℕ)). before ++ joined l) (row_same puts.blocks (λ j. cond (j == k) put.cipher (puts.blocks j)) k
      (λ j lt. sym (cond-false (j == k) put.cipher (puts.blocks j) (ne_eqb j k (λ same. absurd (omega (arith, lt, same))))))))
      (sym (cond-true (k == k) put.cipher (puts.blocks k) (eq-eqb k k refl)));
  told = λ told j lt. elim (cases_lt j k) [
    | inl low ↦
        let mid : Told old now = told_first old now new second told in
        cond-false (j == k) put.cipher (puts.blocks j) (ne_eqb j k (λ same. absurd (omega (arith, low, same))))
        ∙ puts.told mid j low ∙ ap (λ (l : List ℕ). block_in l tree j) (sym (second.reads (told_then old now new first.goes_on told).1))
    | inr high ↦
        let last : j ≡ k = omega (arith, lt, high) in
        cond-true (j == k) put.cipher (puts.blocks j) (eq-eqb j k last) ∙ put.told told.0 ∙ ap (block_in new.reads tree) (sym last)
  ];
}

pub ciphers_none : (s : FileState) (tree : Loaded) (before : List ℕ) → PutsCiphers s s tree 0 before before
ciphers_none s tree before = record { blocks = λ j. []; is = sym (append-nil before); told = λ told j lt. absurd (omega (arith, lt)) }

pub cipher_of : (s : FileState) (one other : Loaded) (k : ℕ) (before after : List ℕ) → one ≡ other → PutsCipher s one k before after → PutsCipher s other k before after
cipher_of s one other k before after same = subst (λ (t : Loaded). PutsCipher s t k before after) same

pub some_in : {A : Type 0} (b : Bool) (x y : A) → Some x ≡ cond b (Some y) None → x ≡ y
some_in true x y is = cc (is)
some_in false x y is = absurd (cc (is))

-- the front and what stands behind it are a certificate
module _ (index : ℕ) (dir object : Loaded) (a b x y : FileState) (front bytes : List ℕ) (begins : BeginsAudit index dir a b front) (ends : EndsAudit object x y front bytes) where
  audit_bytes : bytes ≡ certificate_bytes index dir begins.block object ends.blocks
  audit_bytes =
      let tail : List ℕ = tree_bytes object ++ joined (row ends.blocks object.head.greatest) in
      ends.is ∙ ap (λ (l : List ℕ). l ++ tail) begins.is
      ∙ append_assoc (codes "TEECERT1") (to_be_bytes w16 index ++ (tree_bytes dir ++ begins.block)) tail
      ∙ ap (λ (l : List ℕ). codes "TEECERT1" ++ l) (append_assoc (to_be_bytes w16 index) (tree_bytes dir ++ begins.block) tail
      ∙ ap (λ (l : List ℕ). to_be_bytes w16 index ++ l) (append_assoc (tree_bytes dir) begins.block tail))

  pub audit_of : IsAudit index dir object a b x y bytes
  audit_of = record { block = begins.block; blocks = ends.blocks; is = audit_bytes; dir_told = begins.told; object_told = ends.told }
