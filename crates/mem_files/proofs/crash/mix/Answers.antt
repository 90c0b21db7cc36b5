use Rattle.std.proofs.Common.{◌≡◌, ℕ, Bool, ◌/◌, length, ◌∙◌, ap, sym, rules}
use Rattle.disk_model.specs.State.{spans_of}
use Rattle.mem_files.specs.Crash.{coin, mixture}
use Rattle.mem_files.proofs.Mixtures.{mixed_bytes, mixed_settled}
use Rattle.mem_files.proofs.Settling.{take_front}
use Rattle.mem_files.proofs.crash.mix.Goals as goal

pub returns-clause-ok : goal.returns-clause-ok
returns-clause-ok c =
    let is_newer : ℕ → Bool = λ place. coin c.args.key (place / c.args.unit) in
    let s = c.args.settled.now.items in
    let b = c.args.bytes.now.items in
    let evened = c.even_out.new in
    let chosen = c.choose.new in
    let is_mine = c.deref_mut.ensures.value ∙ c.in_ok-even_out.ensures.settled in
    let is_other = c.deref_mut-2.ensures.value ∙ c.in_ok-even_out.ensures.bytes in
    let count : evened.bytes.len ≡ length chosen.bytes = search rules in
    let same : length chosen.bytes ≡ length c.deref_mut-2.result.now = search rules in
    take_front evened.bytes.len chosen.bytes _ count
    ∙ mixed_bytes (spans_of c.args.changes.now) is_newer c.toss.result s b c.deref_mut.result.now c.deref_mut-2.result.now chosen.settled chosen.bytes
    c.requires.differ is_mine is_other c.choose.ensures same
    ∙ ap (λ (is_long : Bool). mixture is_newer is_long 0 s b) c.toss.ensures

pub returns-clause-same : goal.returns-clause-same
returns-clause-same c =
    let is_newer : ℕ → Bool = λ place. coin c.args.key (place / c.args.unit) in
    let spans = spans_of c.args.changes.now in
    let s = c.args.settled.now.items in
    let b = c.args.bytes.now.items in
    let mine = c.deref_mut.result.now in
    let other = c.deref_mut-2.result.now in
    let evened = c.even_out.new in
    let chosen = c.choose.new in
    let is_mine = c.deref_mut.ensures.value ∙ c.in_ok-even_out.ensures.settled in
    let is_other = c.deref_mut-2.ensures.value ∙ c.in_ok-even_out.ensures.bytes in
    let count : evened.settled.len ≡ length chosen.settled = search rules in
    let counted : evened.bytes.len ≡ length chosen.bytes = search rules in
    let same : length chosen.settled ≡ length mine = search rules in
    let long : length chosen.bytes ≡ length other = search rules in
    take_front evened.settled.len chosen.settled _ count
    ∙ mixed_settled spans is_newer c.toss.result s b mine other chosen.settled chosen.bytes c.requires.differ is_mine is_other c.choose.ensures same
    ∙ sym (take_front evened.bytes.len chosen.bytes _ counted
    ∙ mixed_bytes spans is_newer c.toss.result s b mine other chosen.settled chosen.bytes c.requires.differ is_mine is_other c.choose.ensures long)
