-- Calls that read one file and write the other, one after another.
use Rattle.std.proofs.Common.{◌≡◌, inl, inr, ℕ, List, [], IsTrue, sym, ◌∙◌, subst}
use Rattle.disk_model.specs.Images.{Has}
use Rattle.disk_model.specs.State.{FileState, Sound}
use Rattle.disk_model.specs.Calls.{Changes, Known, Rests, Syncs}
use Rattle.disk_model.specs.Controls.{struck}
use Rattle.disk_model.specs.Keeps.{Anywhere, Keeps, Outside}
use Rattle.disk_model.proofs.Goings.{first_known, rests_none, rests_then, then_known}
use Rattle.disk_model.proofs.Laws.{change_keeps, keeps_fewer, keeps_none, keeps_then, rest_keeps, sync_keeps}
use Rattle.disk_model.proofs.Seen.{written_masked}
use Rattle.node_image.specs.declared.node.RootRef.{RootRef}
use Rattle.htree_file.specs.declared.fault.TreeFault.{TreeFault}
use Rattle.htree_file.specs.Copies.{AreFlags, BothPassed, CopyRun, IsCopy, IsCopyOf, OneFailed, copied_nodes}
use Rattle.htree_file.specs.Making.{Nowhere}
use Rattle.htree_file.specs.Standing.{Told}
use Rattle.htree_file.proofs.Causes.{fault_then, passed_none, passed_then, told_then}

-- every call keeps no place
keeps_nowhere : (K : ℕ → Type 0) (a b : FileState) → Keeps K a b → Keeps Nowhere a b
keeps_nowhere K a b keeps = keeps_fewer K Nowhere a b (λ p none. absurd none) keeps

pub change_run : (from upto : ℕ) (s old new : FileState) → Sound old → Changes from upto old new
    → (Known old new → (p x : ℕ) → Outside from upto p → Has old.reads p x → Has new.reads p x)
    → (IsTrue old.tells_arms → (p x : ℕ) → Outside from upto p → Has (struck old).reads p x → Has new.reads p x) → CopyRun s s old new
change_run from upto s old new sound changes others struck_others = record {
  rests = rests_none s;
  keeps = keeps_nowhere (Outside from upto) old new (change_keeps from upto old new sound (record { changes = changes; others = others; masked = λ tells. written_masked from upto old new (struck_others tells) }));
}

pub rest_run : (old new s : FileState) → Rests old new → CopyRun old new s s
rest_run old new s rests = record { rests = rests; keeps = keeps_none Nowhere s }

pub sync_run : (s old new : FileState) → Sound old → Syncs old new → CopyRun s s old new
sync_run s old new sound syncs = record { rests = rests_none s; keeps = keeps_nowhere Anywhere old new (sync_keeps old new sound syncs) }

pub unsynced_run : (s old new : FileState) → Sound old → Rests old new → CopyRun s s old new
unsynced_run s old new sound rests = record { rests = rests_none s; keeps = keeps_nowhere Anywhere old new (rest_keeps old new sound rests) }

pub run_none : (s t : FileState) → CopyRun s s t t
run_none s t = record { rests = rests_none s; keeps = keeps_none Nowhere t }

pub run_then : (a b c x y z : FileState) → CopyRun a b x y → CopyRun b c y z → CopyRun a c x z
run_then a b c x y z first second = record { rests = rests_then a b c first.rests second.rests; keeps = keeps_then Nowhere x y z first.keeps second.keeps }

pub both_none : (s t : FileState) → BothPassed s s t t
both_none s t = record { from = passed_none s; to = passed_none t }

pub both_then : (a b c x y z : FileState) → BothPassed a b x y → BothPassed b c y z → BothPassed a c x z
both_then a b c x y z first second = record { from = passed_then a b c first.from second.from; to = passed_then x y z first.to second.to }

-- a fault behind calls that passed
pub failed_later : (a b c x y z : FileState) (fault : TreeFault) → CopyRun a b x y → BothPassed a b x y → OneFailed b c y z fault → OneFailed a c x z fault
failed_later a b c x y z fault run passed (inl failed) = inl (fault_then a b c fault run.rests.goes_on passed.from failed.0, passed_then x y z passed.to failed.1)
failed_later a b c x y z fault run passed (inr failed) = inr (passed_then a b c passed.from failed.0, fault_then x y z fault run.keeps.goes_on passed.to failed.1)

-- what is told at the end of calls that change nothing is told before them
pub told_first : (a b c : FileState) → Rests b c → Told a c → Told a b
told_first a b c rests told = (sym rests.goes_on.tells ∙ told.0, first_known a b c rests.goes_on told.1)

-- head, nodes and blocks, copied one after the other into an empty file
pub parts_copied : (a b c d w x y z : FileState) (root : RootRef) (format : ℕ) (flags : List ℕ) (count : ℕ) → CopyRun a b w x → CopyRun b c x y → CopyRun c d y z
    → (Told a b → Known w x → w.reads ≡ [] → IsCopyOf a.reads x.reads root format 0 0)
    → (Told a b → count ≡ copied_nodes a.reads root)
    → (Told b c → Known x y → IsCopyOf b.reads x.reads root format 0 0 → IsCopyOf b.reads y.reads root format count 0)
    → (Told b c → AreFlags b.reads root flags count)
    → (Told c d → Known y z → AreFlags c.reads root flags count → IsCopyOf c.reads y.reads root format count 0 → IsCopyOf c.reads z.reads root format count count)
    → Told a d → Known w z → w.reads ≡ [] → IsCopy a.reads z.reads root format
parts_copied a b c d w x y z root format flags count first second third heads all nodes named blocks told known empty =
    let front = run_then a b c w x y first second in
    let rear = run_then b c d x y z second third in
    let to_b : Told a b = told_first a b d rear.rests told in
    let to_c : Told a c = told_first a c d third.rests told in
    let from_b : Told b c = told_then a b c first.rests.goes_on to_c in
    let from_c : Told c d = told_then a c d front.rests.goes_on told in
    let to_x : Known w x = first_known w x z rear.keeps.goes_on known in
    let to_y : Known w y = first_known w y z third.keeps.goes_on known in
    let from_x : Known x y = then_known w x y first.keeps.goes_on to_y in
    let from_y : Known y z = then_known w y z front.keeps.goes_on known in
    let same_b : b.reads ≡ a.reads = first.rests.reads to_b.1 in
    let same_c : c.reads ≡ b.reads = second.rests.reads from_b.1 in
    let are : AreFlags c.reads root flags count = subst (λ (l : List ℕ). AreFlags l root flags count) (sym same_c) (named from_b) in
    let with_head : IsCopyOf b.reads x.reads root format 0 0 = subst (λ (l : List ℕ). IsCopyOf l x.reads root format 0 0) (sym same_b) (heads to_b to_x empty) in
    let with_nodes : IsCopyOf c.reads y.reads root format count 0 = subst (λ (l : List ℕ). IsCopyOf l y.reads root format count 0) (sym same_c) (nodes from_b from_x with_head) in
    let whole : IsCopyOf a.reads z.reads root format count count = subst (λ (l : List ℕ). IsCopyOf l z.reads root format count count) (same_c ∙ same_b) (blocks from_c from_y are with_nodes) in
    subst (λ (n : ℕ). IsCopyOf a.reads z.reads root format n n) (all to_b) whole
