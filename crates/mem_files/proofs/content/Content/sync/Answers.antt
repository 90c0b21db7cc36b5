use Rattle.std.proofs.Common.{◌≡◌, ◌++◌, ◌∷◌, [], List, ℕ, true, subst, sym, rules}
use Rattle.disk_model.specs.State.{BytesAgree}
use Rattle.mem_files.specs.Held.{settled_bytes, change_of}
use Rattle.mem_files.proofs.Agreement.{agree_settled_now}
use Rattle.mem_files.proofs.Settling.{differ_pending}
use Rattle.mem_files.proofs.content.Content.sync.Goals as goal

pub settle_changes-requires : goal.settle_changes-requires
settle_changes-requires c =
    let s = c.args.self.now in
    differ_pending s.settled s.bytes.items c.deref.result.now s.trail.items c.deref-2.result.now s.pending_from c.deref.ensures.value (search rules) s.agree

pub invariant_of-self-2 : goal.invariant_of-self-2
invariant_of-self-2 c =
    let s = c.args.self.now in
    let grown = c.push_reserved.new.self.items in
    let push : grown ≡ s.trail.items ++ change_of s.pending_from 0 0 ∷ [] = search rules in
    let settled : settled_bytes c.settle_changes.new.settled s.bytes.items ≡ s.bytes.items =
    subst (λ (l : List ℕ). settled_bytes c.settle_changes.new.settled l ≡ l) c.deref.ensures.value c.in_ok-settle_changes.ensures.ok in
    let agree = agree_settled_now (settled_bytes s.settled s.bytes.items) s.bytes.items s.trail.items grown s.pending_from c.len.result true s.agree push (search rules) in
    record { are_bytes = s.are_bytes; agree = subst (λ (l : List ℕ). BytesAgree l s.bytes.items grown c.len.result true) (sym settled) agree }
