-- The two stages of a migration put together: the directory's move, and those of the objects.
use Rattle.std.proofs.Common.{◌≡◌, ◌==◌, ◌≤◌, ℕ, Bool, false, cond, Result, Ok, Err, IsTrue, inl, inr, sym, ◌∙◌, ap, subst, arith}
use Rattle.std.proofs.lemmas.Bool.{ne_eqb}
use Rattle.disk_model.specs.Faults.{Rose}
use Rattle.disk_model.specs.State.{FileState}
use Rattle.disk_model.specs.Calls.{GoesOn}
use Rattle.disk_model.proofs.Goings.{first_known}
use Rattle.node_image.specs.declared.node.RootRef.{RootRef}
use Rattle.node_image.specs.References.{current_format}
use Rattle.hmac_keys.specs.declared.Keys.{Keys}
use Rattle.hmac_keys.specs.KeyTable.{rpmb_key}
use Rattle.htree_file.specs.Answers.{FileFailed, FilePassed}
use Rattle.htree_file.specs.Standing.{Told}
use Rattle.htree_file.specs.declared.fault.TreeFault.TheVariants.{Failed as FileFault}
use Rattle.htree_file.proofs.Causes.{fault_then, told_then}
use Rattle.tee_types.specs.Limits.{directory_file}
use Rattle.tee_types.specs.declared.reply.Cause.TheVariants.{Fault, Frame as FrameCause, CardResult as ResultCause}
use Rattle.tee_types.specs.declared.reply.Device.TheVariants.{Dir, File, Card, Entropy}
use Rattle.rpmb_card.specs.Card.{CardState}
use Rattle.rpmb_card.specs.Port.{PortState}
use Rattle.rpmb_host.specs.Honest.{HasCard}
use Rattle.crash_core.specs.Refusal.{Refusal}
use Rattle.crash_core.specs.CardBlock.{directory_at, old_format, root_in}
use Rattle.crash_core.specs.Pictures.{block_zero}
use Rattle.crash_core.proofs.Migrations.{migrations_follow}
use Rattle.store_commit.specs.declared.fault.MountFault.{MountFault}
use Rattle.store_commit.specs.declared.fault.MountFault.TheVariants.{NoStore, CardBlock, Directory, Frame, CardResult, Failed, Spent, NoMemory, OldFormat}
use Rattle.store_commit.specs.Mounts.{NoCardOf}
use Rattle.object_calls.specs.Migrated.{MigratesBench, TellsMoves, WritesOnceEach, devices_of}
use Rattle.object_calls.specs.MigrationRefusals.{MigrationRefused, SpentWithoutRoom}
use Rattle.object_calls.specs.DirectoryMoves.{MovesDirectory}

-- what is told and followed to the end is so up to a point between
pub told_first : (a b c : FileState) → GoesOn b c → Told a c → Told a b
told_first a b c second told = (subst (λ (t : Bool). IsTrue t) second.tells told.0, first_known a b c second told.1)

-- a count that rose later rose
pub later_rose : (a b c : ℕ) → a ≤ b → Rose b c → Rose a c
later_rose a b c le rose = omega (arith, le, rose)

module _ (keys : Keys) (f0 f1 f2 : ℕ → FileState) (p0 p1 p2 : PortState) where
  pub bench_then : MigratesBench f0 f1 p0 p1 keys → MigratesBench f1 f2 p1 p2 keys → MigratesBench f0 f2 p0 p2 keys
  bench_then first second card has =
      let one = first card has in
      let two = second one.after one.has in
      record { after = two.after; has = two.has; migrates = migrations_follow keys (devices_of f0 card) (devices_of f1 one.after) (devices_of f2 two.after) one.migrates two.migrates }

  pub writes_then : (directory : Bool) (objects : ℕ) → MigratesBench f0 f1 p0 p1 keys → WritesOnceEach p0 p1 keys directory 0 → WritesOnceEach p1 p2 keys false objects
      → WritesOnceEach p0 p2 keys directory objects
  writes_then directory objects first one other before after has is =
      let mid = first before has in
      let a = one before mid.after has mid.has in
      let b = other mid.after after mid.has is in
      omega (arith, a, b)

  module _ (goes : (n : ℕ) → GoesOn (f0 n) (f1 n)) (goes_on : (n : ℕ) → GoesOn (f1 n) (f2 n)) (migrates : MigratesBench f0 f1 p0 p1 keys) (moved : Bool) (moves : MovesDirectory f0 f1 p0 p1 keys moved) where
    pub moves_then : (objects : ℕ) → TellsMoves f1 f2 p1 p2 keys false objects → TellsMoves f0 f2 p0 p2 keys moved objects
    moves_then objects tells card last has has_last =
        let mid = migrates card has in
        let d = moves card mid.after has mid.has in
        let t = tells mid.after last mid.has has_last in
        let both : ◌≡◌ {A = Result RootRef Refusal} (Ok d.next) (Ok t.root) = sym d.names ∙ t.named in
        let same : d.next ≡ t.root = cc (both) in
        let there : directory_at t.root.format ≡ directory_file = ap (λ (r : RootRef). directory_at r.format) (sym same) ∙ ap directory_at d.current in
        record {
          root = d.root;
          named = d.named;
          directory_is = d.moved_is;
          objects_are = λ told dir_told.
              let behind : Told (f1 directory_file) (f2 directory_file) = told_then (f0 directory_file) (f1 directory_file) (f2 directory_file) (goes directory_file) dir_told in
              let are = t.objects_are (subst (λ (n : ℕ). Told (f1 n) (f2 n)) (sym there) behind) behind in
              let kept = d.same (told_first (f0 (directory_at d.root.format)) (f1 (directory_at d.root.format)) (f2 (directory_at d.root.format)) (goes_on (directory_at d.root.format)) told)
              (told_first (f0 directory_file) (f1 directory_file) (f2 directory_file) (goes_on directory_file) dir_told) in
              record { entries = are.entries; next = are.next; mounted = sym kept ∙ are.mounted; moved = are.moved; counted = are.counted; holds = are.holds };
        }

    -- the counter did not suffice for the second stage, so it did not for both
    pub short_then : WritesOnceEach p0 p1 keys moved 0 → (fault : MountFault) → SpentWithoutRoom f1 f2 p1 keys fault → SpentWithoutRoom f0 f2 p0 keys fault
    short_then writes Spent short = λ card has.
        let mid = migrates card has in
        let d = moves card mid.after has mid.has in
        let t = short mid.after mid.has in
        let one = writes card mid.after has mid.has in
        let both : ◌≡◌ {A = Result RootRef Refusal} (Ok d.next) (Ok t.root) = sym d.names ∙ t.named in
        let same : d.next ≡ t.root = cc (both) in
        let format : t.root.format ≡ current_format = ap (λ (r : RootRef). r.format) (sym same) ∙ d.current in
        let none : ◌≡◌ {A = ℕ} (cond (t.root.format == old_format) 1 0) 0 = ap (λ (b : Bool). cond {A = ℕ} b 1 0) (ne_eqb t.root.format old_format (λ is. omega (arith, is, format))) in
        let first : ◌≡◌ {A = ℕ} (cond moved 1 0) (cond (d.root.format == old_format) 1 0) = ap (λ (b : Bool). cond {A = ℕ} b 1 0) d.moved_is in
        let there : directory_at t.root.format ≡ directory_file = ap directory_at format in
        record {
          root = d.root;
          named = d.named;
          short = elim t.short [
            | inl spent ↦ let old = spent.0 in absurd (omega (arith, old, format))
            | inr more ↦ inr (λ told dir_told.
                let behind : Told (f1 directory_file) (f2 directory_file) = told_then (f0 directory_file) (f1 directory_file) (f2 directory_file) (goes directory_file) dir_told in
                let are = more (subst (λ (n : ℕ). Told (f1 n) (f2 n)) (sym there) behind) behind in
                let kept = d.same (told_first (f0 (directory_at d.root.format)) (f1 (directory_at d.root.format)) (f2 (directory_at d.root.format)) (goes_on (directory_at d.root.format)) told)
                (told_first (f0 directory_file) (f1 directory_file) (f2 directory_file) (goes_on directory_file) dir_told) in
                let less = are.2 in
                (are.0, sym kept ∙ are.1, omega (arith, less, one, none, first)))
          ];
        }
    short_then writes NoStore short = tt
    short_then writes (CardBlock byte) short = tt
    short_then writes (Directory fault) short = tt
    short_then writes (OldFormat file) short = tt
    short_then writes (Frame fault) short = tt
    short_then writes (CardResult result) short = tt
    short_then writes (Failed cause) short = tt
    short_then writes NoMemory short = tt

    -- a failed call of a file in the second stage, where none failed in the first
    failed_then : (passed : (n : ℕ) → FilePassed (f0 n) (f1 n)) (n count : ℕ) → FileFailed (f1 n) (f2 n) count → FileFailed (f0 n) (f2 n) count
    failed_then passed n count failed = fault_then (f0 n) (f1 n) (f2 n) (FileFault count) (goes n) (passed n) failed

    no_card_then : NoCardOf p1 (rpmb_key keys.huk) → NoCardOf p0 (rpmb_key keys.huk)
    no_card_then none card has = let mid = migrates card has in none mid.after mid.has

    -- the block that names a directory is not refused
    named_then : (card : CardState) (refusal : Refusal) → HasCard p0 (rpmb_key keys.huk) card
        → ((after : CardState) → HasCard p1 (rpmb_key keys.huk) after → root_in (block_zero after) ≡ Err refusal) → ⊥
    named_then card refusal has refused =
        let mid = migrates card has in
        let d = moves card mid.after has mid.has in
        let both : ◌≡◌ {A = Result RootRef Refusal} (Ok d.next) (Err refusal) = sym d.names ∙ refused mid.after mid.has in
        cc (both)

    pub refused_then : (passed : (n : ℕ) → FilePassed (f0 n) (f1 n)) (counted : p0.faults ≤ p1.faults) (drew draws : ℕ) (fault : MountFault)
        → MigrationRefused f1 f2 p1 p2 keys drew draws fault → MigrationRefused f0 f2 p0 p2 keys drew draws fault
    refused_then passed counted drew draws NoStore refused = λ card has. absurd (named_then card _ has refused)
    refused_then passed counted drew draws (CardBlock offset) refused = λ card has. absurd (named_then card _ has refused)
    refused_then passed counted drew draws (Directory fault) refused = λ card has.
        let r = refused card has in
        let dir : ℕ = directory_at r.root.format in
        record { root = r.root; named = r.named; refused = λ told. r.refused (told_then (f0 dir) (f1 dir) (f2 dir) (goes dir) told) }
    refused_then passed counted drew draws Spent refused = refused
    refused_then passed counted drew draws (Failed (Fault Dir count)) (inl failed) = inl (failed_then passed (directory_at old_format) count failed)
    refused_then passed counted drew draws (Failed (Fault Dir count)) (inr failed) = inr (failed_then passed directory_file count failed)
    refused_then passed counted drew draws (Failed (Fault (File file) count)) failed = record {
      named = failed.named;
      other = failed.other;
      into = failed.into;
      failed = elim failed.failed [
        | inl here ↦ inl (failed_then passed file count here)
        | inr there ↦ inr (failed_then passed failed.other count there)
      ];
    }
    refused_then passed counted drew draws (Failed (Fault Card count)) rose = (later_rose p0.faults p1.faults p2.faults counted rose.0, rose.1)
    refused_then passed counted drew draws (Failed (Fault Entropy count)) rose = rose
    refused_then passed counted drew draws (Failed (FrameCause fault)) none = absurd none
    refused_then passed counted drew draws (Failed (ResultCause result)) none = absurd none
    refused_then passed counted drew draws (Frame fault) none = no_card_then none
    refused_then passed counted drew draws (CardResult result) none = no_card_then none
    refused_then passed counted drew draws NoMemory any = tt
    refused_then passed counted drew draws (OldFormat file) none = absurd none
