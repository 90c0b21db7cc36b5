-- What is heard of the card at a mount and at a format.
use Rattle.std.proofs.Common.{◌≡◌, ◌≢◌, ◌∙◌, ◌==◌, ℕ, List, Option, Some, None, Result, Ok, Err, Bool, true, false, refl, sym, ap, subst, inl, inr}
use Rattle.std.specs.List.{list_all}
use Rattle.disk_model.specs.State.{FileState}
use Rattle.node_image.specs.declared.node.RootRef.{RootRef}
use Rattle.htree_file.specs.declared.fault.TreeFault.TheVariants.{BadHead, BadTag, Damaged, Failed as FileFault, NoEntropy, NoMemory as NoRoom, Short}
use Rattle.hmac_keys.specs.declared.Keys.{Keys}
use Rattle.hmac_keys.specs.KeyTable.{rpmb_key}
use Rattle.rpmb_frame.specs.declared.frame.Frame.{Frame}
use Rattle.rpmb_card.specs.Port.{Exchanged, PortState, last_heard}
use Rattle.rpmb_host.specs.declared.fault.HostFault.{HostFault}
use Rattle.rpmb_host.specs.declared.fault.HostFault.TheVariants.{Failed as NoAnswer, BadFrame, CardResult as RefusedBy, Spent as IsSpent}
use Rattle.rpmb_host.specs.Calls.{WriteExchanges, block_wanted, counter_wanted, judged, received, told, write_wanted}
use Rattle.rpmb_host.specs.Requests.{block_request, counter_request, write_request}
use Rattle.crash_core.specs.declared.fault.DirFault.{DirFault}
use Rattle.crash_core.specs.declared.fault.DirFault.TheVariants.{Tree, WrongLength, Record, Double}
use Rattle.crash_core.specs.CardBlock.{first_outside, root_block, root_in, root_or}
use Rattle.crash_core.specs.DeviceKeys.{directory_key}
use Rattle.dir_file.specs.Refusals.{DirDiffers}
use Rattle.tee_types.specs.declared.reply.Cause.{Cause}
use Rattle.tee_types.specs.declared.reply.Cause.TheVariants.{Fault, Frame as OfFrame, CardResult as OfResult}
use Rattle.tee_types.specs.declared.reply.Device.TheVariants.{Dir, File, Card, Entropy}
use Rattle.store_commit.specs.declared.fault.MountFault.{MountFault}
use Rattle.store_commit.specs.declared.fault.MountFault.TheVariants.{NoStore, CardBlock, Directory, Frame as BadAnswer, CardResult, Failed, Spent, NoMemory, OldFormat}
use Rattle.store_commit.specs.Blocks.{IsRootRefused, block_answer}
use Rattle.store_commit.specs.Formats.{FormatHeard, IsFormatRefused}
use Rattle.store_commit.specs.Mounts.{CardRefused, MountHeard, directory_answer, host_answer}
use Rattle.store_commit.specs.Reads.{AsksBlock, AsksCounter, AsksWrite, IsBlockRead, IsCardRead, IsCounterRead, IsReadRefused, IsRootRead, OfHost}
use Rattle.store_commit.proofs.Hearing.{told_err}
use Rattle.store_commit.proofs.Mounted.{answer_root}
use Rattle.store_commit.proofs.Outside.{root_other, root_zero}

-- what is told of a frame is of one that was verified
told_some : {A : Type 0} (field : Frame → A) (r : Result Frame HostFault) (x : A) → (let told_so : Result A HostFault = Ok x in told_so ≡ told field r) → (f : Frame) × (r ≡ Ok f) × (field f ≡ x)
told_some field (Ok f) x is = let e : x ≡ field f = cc (is) in (f, refl, sym e)
told_some field (Err e) x is = absurd (cc (is))

module _ (key nonce : List ℕ) (old new : PortState) where
  pub counter_read : (n : ℕ) → Exchanged old new (counter_request nonce) (Ok (last_heard new))
      → (let r : Result ℕ HostFault = Ok n in r ≡ told (λ f. f.counter) (judged key (counter_wanted nonce) (Ok (last_heard new)))) → IsCounterRead key old new n
  counter_read n x answer =
      let t = told_some {A = ℕ} (λ f. f.counter) (judged key (counter_wanted nonce) (Ok (last_heard new))) n answer in
      record { frame = t.0; asks = record { nonce = nonce; outcome = Ok (last_heard new); exchanged = x; judged_so = t.1 }; is = t.2 }

  pub counter_refused : (fault : HostFault) → Exchanged old new (counter_request nonce) (received {A = ℕ} new (Err fault))
      → (let r : Result ℕ HostFault = Err fault in r ≡ told (λ f. f.counter) (judged key (counter_wanted nonce) (received new r))) → AsksCounter key old new (Err fault)
  counter_refused fault x answer = record {
    nonce = nonce;
    outcome = received {A = ℕ} new (Err fault);
    exchanged = x;
    judged_so = told_err {A = ℕ} (λ f. f.counter) (judged key (counter_wanted nonce) (received {A = ℕ} new (Err fault))) fault answer;
  }

  pub block_read : (block : List ℕ) → Exchanged old new (block_request 0 nonce) (Ok (last_heard new))
      → (let r : Result (List ℕ) HostFault = Ok block in r ≡ told (λ f. f.block) (judged key (block_wanted 0 nonce) (Ok (last_heard new)))) → IsBlockRead key old new block
  block_read block x answer =
      let t = told_some {A = List ℕ} (λ f. f.block) (judged key (block_wanted 0 nonce) (Ok (last_heard new))) block answer in
      record { frame = t.0; asks = record { nonce = nonce; outcome = Ok (last_heard new); exchanged = x; judged_so = t.1 }; is = t.2 }

  pub block_refused : (fault : HostFault) → Exchanged old new (block_request 0 nonce) (received {A = List ℕ} new (Err fault))
      → (let r : Result (List ℕ) HostFault = Err fault in r ≡ told (λ f. f.block) (judged key (block_wanted 0 nonce) (received new r))) → AsksBlock key old new (Err fault)
  block_refused fault x answer = record {
    nonce = nonce;
    outcome = received {A = List ℕ} new (Err fault);
    exchanged = x;
    judged_so = told_err {A = List ℕ} (λ f. f.block) (judged key (block_wanted 0 nonce) (received {A = List ℕ} new (Err fault))) fault answer;
  }

-- the write of block 0
module _ (key block : List ℕ) (counter : ℕ) (root : RootRef) (old new : PortState) (is : block ≡ root_block root) where
  pub write_made : (n : ℕ) → WriteExchanges old new (write_request key 0 counter block) (Ok (last_heard new))
      → (let r : Result ℕ HostFault = Ok n in r ≡ told (λ f. f.counter) (judged key (write_wanted 0 counter) (Ok (last_heard new))))
      → (f : Frame) × AsksWrite key counter (root_block root) old new (Ok f)
  write_made n x answer =
      let t = told_some {A = ℕ} (λ f. f.counter) (judged key (write_wanted 0 counter) (Ok (last_heard new))) n answer in
      (t.0, record { outcome = Ok (last_heard new); exchanged = subst (λ (b : List ℕ). WriteExchanges old new (write_request key 0 counter b) (Ok (last_heard new))) is x; judged_so = t.1 })

  pub write_refused : (fault : HostFault) → WriteExchanges old new (write_request key 0 counter block) (received {A = ℕ} new (Err fault))
      → (let r : Result ℕ HostFault = Err fault in r ≡ told (λ f. f.counter) (judged key (write_wanted 0 counter) (received new r)))
      → AsksWrite key counter (root_block root) old new (Err fault)
  write_refused fault x answer = record {
    outcome = received {A = ℕ} new (Err fault);
    exchanged = subst (λ (b : List ℕ). WriteExchanges old new (write_request key 0 counter b) (received {A = ℕ} new (Err fault))) is x;
    judged_so = told_err {A = ℕ} (λ f. f.counter) (judged key (write_wanted 0 counter) (received {A = ℕ} new (Err fault))) fault answer;
  }

-- what is said of a fault of the host
pub of_host : (Says : HostFault → Type 0) (fault : HostFault) → Says fault → OfHost Says (host_answer fault)
of_host Says (NoAnswer count) is = is
of_host Says (BadFrame f) is = is
of_host Says (RefusedBy r) is = is
of_host Says IsSpent is = tt

pub of_draw : (Says : HostFault → Type 0) (draws : ℕ) (cause : Cause) → cause ≡ Fault Entropy draws → OfHost Says (Failed cause)
of_draw Says draws cause is = subst (λ (c : Cause). OfHost Says (Failed c)) (sym is) tt

of_cause : (Says More : HostFault → Type 0) → ((f : HostFault) → Says f → More f) → (cause : Cause) → OfHost Says (Failed cause) → OfHost More (Failed cause)
of_cause Says More step (Fault Dir count) is = tt
of_cause Says More step (Fault (File n) count) is = tt
of_cause Says More step (Fault Card count) is = step (NoAnswer count) is
of_cause Says More step (Fault Entropy count) is = tt
of_cause Says More step (OfFrame f) is = tt
of_cause Says More step (OfResult r) is = tt

pub of_more : (Says More : HostFault → Type 0) → ((f : HostFault) → Says f → More f) → (fault : MountFault) → OfHost Says fault → OfHost More fault
of_more Says More step NoStore is = tt
of_more Says More step (CardBlock byte) is = tt
of_more Says More step (Directory d) is = tt
of_more Says More step (BadAnswer f) is = step (BadFrame f) is
of_more Says More step (CardResult r) is = step (RefusedBy r) is
of_more Says More step (Failed cause) is = of_cause Says More step cause is
of_more Says More step Spent is = tt
of_more Says More step NoMemory is = tt
of_more Says More step (OldFormat file) is = tt

-- a mount that the card refuses
module _ (file : FileState) (p0 p1 : PortState) (keys : Keys) where
  heard_cause : (drew draws : ℕ) (cause : Cause) → CardRefused p0 p1 (rpmb_key keys.huk) drew draws (Failed cause) → OfHost (IsReadRefused (rpmb_key keys.huk) p0 p1) (Failed cause) → MountHeard file p0 p1 keys (Failed cause)
  heard_cause drew draws (Fault Dir count) c is = absurd c
  heard_cause drew draws (Fault (File n) count) c is = absurd c
  heard_cause drew draws (Fault Card count) c is = is
  heard_cause drew draws (Fault Entropy count) c is = tt
  heard_cause drew draws (OfFrame f) c is = absurd c
  heard_cause drew draws (OfResult r) c is = absurd c

  pub card_heard_so : (drew draws : ℕ) (fault : MountFault) → CardRefused p0 p1 (rpmb_key keys.huk) drew draws fault → OfHost (IsReadRefused (rpmb_key keys.huk) p0 p1) fault → MountHeard file p0 p1 keys fault
  card_heard_so drew draws NoStore c is = absurd c
  card_heard_so drew draws (CardBlock byte) c is = absurd c
  card_heard_so drew draws (Directory d) c is = absurd c
  card_heard_so drew draws (BadAnswer f) c is = is
  card_heard_so drew draws (CardResult r) c is = is
  card_heard_so drew draws (Failed cause) c is = heard_cause drew draws cause c is
  card_heard_so drew draws Spent c is = absurd c
  card_heard_so drew draws NoMemory c is = absurd c
  card_heard_so drew draws (OldFormat n) c is = absurd c

  -- or its block 0
  module _ (counter : ℕ) (block : List ℕ) (read : IsCardRead (rpmb_key keys.huk) p0 p1 counter block) where
    or_heard : (o : Option ℕ) (fault : MountFault) → root_in block ≡ root_or block o → Err fault ≡ block_answer (root_or block o) → MountHeard file p0 p1 keys fault
    or_heard None fault refused is = absurd (cc (is))
    or_heard (Some offset) fault refused is =
        let e : fault ≡ CardBlock offset = cc (is) in
        subst (MountHeard file p0 p1 keys) (sym e) (record { counter = counter; block = block; read = read; refused = refused })

    pub block_heard : (fault : MountFault) → Err fault ≡ block_answer (root_in block) → MountHeard file p0 p1 keys fault
    block_heard fault is = by_test (list_all (λ x. x == 0) block) refl
      where
        by_test : (b : Bool) → list_all (λ x. x == 0) block ≡ b → MountHeard file p0 p1 keys fault
        by_test true zero_block =
            let refused = root_zero block zero_block in
            let e : fault ≡ NoStore = cc (is ∙ ap block_answer refused) in
            subst (MountHeard file p0 p1 keys) (sym e) (record { counter = counter; block = block; read = read; refused = refused })
        by_test false other =
            let refused = root_other block other in
            or_heard (first_outside block 0 256) fault refused (is ∙ ap block_answer refused)

    pub root_heard : (fault : MountFault) → IsRootRefused block fault → MountHeard file p0 p1 keys fault
    root_heard fault (inl is) = block_heard fault is
    root_heard fault (inr is) =
        subst (MountHeard file p0 p1 keys) (sym is.0)
        (refl, record { counter = counter; root = is.1.root; read = record { block = block; read = read; named = is.1.names }; format = is.1.old })

    pub root_read : (root : RootRef) → Ok root ≡ block_answer (root_in block) → IsRootRead (rpmb_key keys.huk) p0 p1 counter root
    root_read root names = record { block = block; read = read; named = answer_root (root_in block) root names }

  -- or the directory
  pub directory_heard : (counter : ℕ) (root : RootRef) → IsRootRead (rpmb_key keys.huk) p0 p1 counter root → (fault : DirFault) → DirDiffers (directory_key keys) file root fault
      → MountHeard file p0 p1 keys (directory_answer fault)
  directory_heard counter root read (Tree (FileFault count)) is = record { counter = counter; root = root; read = read }
  directory_heard counter root read (Tree NoRoom) is = record { counter = counter; root = root; read = read }
  directory_heard counter root read (Tree (BadHead long greatest)) is = record { counter = counter; root = root; read = read; differs = is }
  directory_heard counter root read (Tree (Short end need)) is = record { counter = counter; root = root; read = read; differs = is }
  directory_heard counter root read (Tree (Damaged n want found)) is = record { counter = counter; root = root; read = read; differs = is }
  directory_heard counter root read (Tree (BadTag k want found)) is = record { counter = counter; root = root; read = read; differs = is }
  directory_heard counter root read (Tree (NoEntropy count)) is = record { counter = counter; root = root; read = read; differs = is }
  directory_heard counter root read (WrongLength bytes) is = record { counter = counter; root = root; read = read; differs = is }
  directory_heard counter root read (Record index offset) is = record { counter = counter; root = root; read = read; differs = is }
  directory_heard counter root read (Double index first) is = record { counter = counter; root = root; read = read; differs = is }

-- a format that the card refuses, where the counter is read or block 0 is written
module _ (old new : FileState) (p0 p1 : PortState) (keys : Keys) where
  pub format_heard : (fault : HostFault) → fault ≢ IsSpent → IsFormatRefused old new p0 p1 (rpmb_key keys.huk) fault → FormatHeard old new p0 p1 keys (host_answer fault)
  format_heard (NoAnswer count) other is = is
  format_heard (BadFrame f) other is = is
  format_heard (RefusedBy r) other is = is
  format_heard IsSpent other is = absurd (other refl)

  heard_of_cause : (drew draws : ℕ) (cause : Cause) → new ≡ old → CardRefused p0 p1 (rpmb_key keys.huk) drew draws (Failed cause)
      → OfHost (λ f. AsksCounter (rpmb_key keys.huk) p0 p1 (Err f)) (Failed cause) → FormatHeard old new p0 p1 keys (Failed cause)
  heard_of_cause drew draws (Fault Dir count) same c is = absurd c
  heard_of_cause drew draws (Fault (File n) count) same c is = absurd c
  heard_of_cause drew draws (Fault Card count) same c is = inl (is, same)
  heard_of_cause drew draws (Fault Entropy count) same c is = same
  heard_of_cause drew draws (OfFrame f) same c is = absurd c
  heard_of_cause drew draws (OfResult r) same c is = absurd c

  pub counter_heard_so : (drew draws : ℕ) (fault : MountFault) → new ≡ old → CardRefused p0 p1 (rpmb_key keys.huk) drew draws fault
      → OfHost (λ f. AsksCounter (rpmb_key keys.huk) p0 p1 (Err f)) fault → FormatHeard old new p0 p1 keys fault
  counter_heard_so drew draws NoStore same c is = absurd c
  counter_heard_so drew draws (CardBlock byte) same c is = absurd c
  counter_heard_so drew draws (Directory d) same c is = absurd c
  counter_heard_so drew draws (BadAnswer f) same c is = inl (is, same)
  counter_heard_so drew draws (CardResult r) same c is = inl (is, same)
  counter_heard_so drew draws (Failed cause) same c is = heard_of_cause drew draws cause same c is
  counter_heard_so drew draws Spent same c is = absurd c
  counter_heard_so drew draws NoMemory same c is = absurd c
  counter_heard_so drew draws (OldFormat n) same c is = absurd c
