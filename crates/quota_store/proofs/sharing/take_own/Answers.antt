use Rattle.std.proofs.Common.{◌≡◌, ◌<◌, ◌∙◌, Bool, None, Option, cond, get_or, length, ap, arith}
use Rattle.std.specs.Str.{bytes_eq}
use Rattle.std.proofs.lemmas.List.{get_or_default}
use Rattle.history_seats.specs.Views.{PassView, Sight}
use Rattle.quota_store.specs.Sharing.{is_app_at}
use Rattle.quota_store.proofs.AppSessions.{all_moved, compared, none_moved, none_past, one_moved}
use Rattle.quota_store.proofs.sharing.take_own.Goals as goal

pub loop-number-init : goal.loop-number-init
loop-number-init g c =
    let own = c.into_places-own in
    record {
      many = own.result.ok.0 ∙ own.ensures.many;
      moved = none_moved (is_app_at c.args.app c.args.sessions.now) c.args.kept.now own.result.items own.ensures;
    }

pub loop-number-preserved : goal.loop-number-preserved
loop-number-preserved g c =
    let l = c.loop-number in
    let sessions = c.args.sessions.now in
    let picks = is_app_at c.args.app sessions in
    let moved = c.move_half in
    let session = c.index-sessions-number in
    let from = c.index-kept-number in
    let to = c.index_mut in
    let kept_lt : l.number < length l.kept = omega (arith, c.loop-number-test.true, c.requires.few, c.requires.many, l.auto.kept) in
    let own_lt : l.number < length l.own.items = omega (arith, c.loop-number-test.true, c.requires.few, l.invariant.many, l.own.ok.0) in
    let test : c.eq-is_own.result ≡ picks l.number =
    compared c.args.app sessions l.number session.result c.eq-is_own.result c.loop-number-test.true session.is
    (c.eq-is_own.ensures ∙ ap (bytes_eq c.args.app) c.app.ensures) in
    let here = get_or l.kept l.number from.result in
    let read : here ≡ get_or l.kept l.number None = get_or_default l.kept l.number from.result None kept_lt in
    let had : to.result.now ≡ get_or l.own.items l.number None = to.ensures.value ∙ get_or_default l.own.items l.number to.result.now None own_lt in
    record {
      many = l.invariant.many;
      moved = one_moved picks c.args.kept.now l.number l.kept l.own.items moved.new.from moved.new.to l.invariant.moved kept_lt own_lt
          (moved.ensures.left ∙ ap (λ (b : Bool). cond b None here) test ∙ ap (cond (picks l.number) None) read)
          (moved.ensures.came ∙ ap (λ (b : Bool). cond b here to.result.now) test ∙ ap (λ (o : Option (Sight PassView)). cond (picks l.number) o to.result.now) read
          ∙ ap (cond (picks l.number) (get_or l.kept l.number None)) had);
    }

pub returns : goal.returns
returns g c =
    let l = c.loop-number in
    all_moved (is_app_at c.args.app c.args.sessions.now) c.args.kept.now l.number l.kept l.own.items l.invariant.moved
    (λ k past. none_past c.args.app c.args.sessions.now k (omega (arith, past, c.loop-number-test.false)))
