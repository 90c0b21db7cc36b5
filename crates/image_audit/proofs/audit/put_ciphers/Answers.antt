use Rattle.std.proofs.Common.{◌∙◌, refl}
use Rattle.disk_model.proofs.Goings.{rests_none, rests_then}
use Rattle.htree_file.proofs.Causes.{passed_none, passed_then}
use Rattle.image_audit.proofs.Puts.{cipher_of, ciphers_more, ciphers_none}
use Rattle.image_audit.proofs.audit.put_ciphers.Goals as goal

pub loop-k-init : goal.loop-k-init
loop-k-init g c =
    let s = g.F.StoreFile.state c.args.tree.now.file in
    record { same = refl; rests = rests_none s; passed = passed_none s; puts = ciphers_none s c.args.tree.now.tree c.args.out.now.items }

pub returns-in_err-put_cipher-clause-rests : goal.returns-in_err-put_cipher-clause-rests
returns-in_err-put_cipher-clause-rests g c =
    rests_then (g.F.StoreFile.state c.args.tree.now.file) (g.F.StoreFile.state c.loop-k.tree.file) (g.F.StoreFile.state c.put_cipher.new.tree.file) c.loop-k.invariant.rests c.put_cipher.ensures.rests

pub loop-k-preserved : goal.loop-k-preserved
loop-k-preserved g c =
    let a = g.F.StoreFile.state c.args.tree.now.file in
    let b = g.F.StoreFile.state c.loop-k.tree.file in
    let d = g.F.StoreFile.state c.put_cipher.new.tree.file in
    let before = c.loop-k.invariant in
    let tree = c.args.tree.now.tree in
    record {
      same = c.put_cipher.ensures.same ∙ (λ i. record (before.same i) { file = c.put_cipher.new.tree.file });
      rests = rests_then a b d before.rests c.put_cipher.ensures.rests;
      passed = passed_then a b d before.passed c.in_ok-put_cipher.ensures.cause;
      puts = ciphers_more a b d tree c.loop-k.k c.args.out.now.items c.loop-k.out.items c.put_cipher.new.out.items before.rests c.put_cipher.ensures.rests before.puts
          (cipher_of d c.loop-k.tree.tree tree c.loop-k.k c.loop-k.out.items c.put_cipher.new.out.items (λ i. (before.same i).tree) c.in_ok-put_cipher.ensures.ok);
    }
