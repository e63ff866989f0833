use Rattle.std.proofs.Common.{◌≡◌, ℕ, true, not, length, replicate, ap, ◌∙◌, arith}
use Rattle.std.proofs.lemmas.List.{length-replicate}
use Rattle.cut_model.specs.Net.{Net}
use Rattle.path_minimum.proofs.Marking.{IsMarkedBetween, stretch-marked, others-marked}
use Rattle.path_minimum.proofs.sides.side_of_stretch.Goals as goal

pub all_or_none-side-requires-clause-few : goal.all_or_none-side-requires-clause-few
all_or_none-side-requires-clause-few c = omega (
  arith,
  ap length c.requires.ladder.everyone_is,
  length-replicate c.args.finished.now.tree.net.routers true,
  c.routers-routers.ensures.value,
  c.routers-routers.ensures.most,
  ap (λ (net : Net). net.routers) (c.deref.ensures ∙ c.net.ensures.value),
)

pub all_or_none-side-requires-2-clause-few : goal.all_or_none-side-requires-2-clause-few
all_or_none-side-requires-2-clause-few c = omega (
  arith,
  ap length c.requires.ladder.everyone_is,
  length-replicate c.args.finished.now.tree.net.routers true,
  c.routers-routers.ensures.value,
  c.routers-routers.ensures.most,
  ap (λ (net : Net). net.routers) (c.deref.ensures ∙ c.net.ensures.value),
)

pub returns-then-end-from : goal.returns-then-end-from
returns-then-end-from c =
    let tree = c.args.finished.now.tree in
    let walk = c.args.ladder.now.walk in
    let count : length c.args.ladder.now.everyone ≡ tree.net.routers =
    ap length c.requires.ladder.everyone_is ∙ length-replicate tree.net.routers true in
    let old : c.all_or_none-side.result ≡ replicate tree.net.routers (not c.args.holds) =
    c.all_or_none-side.ensures ∙ ap (λ (n : ℕ). replicate n (not c.args.holds)) count in
    let marks : IsMarkedBetween c.order-order.result.now c.stretch-stretch.result.from c.stretch-stretch.result.end
    c.args.holds c.all_or_none-side.result c.mark.new.side = record {
      marked = c.mark.ensures.marked;
      others = c.mark.ensures.others;
      size = c.mark.ensures.size;
    } in
    stretch-marked tree walk c.args.child c.args.holds c.mark.new.side c.requires.ladder.walk_is c.requires.child
    (rw (c.order-order.ensures, c.stretch-stretch.ensures, old) at marks)

pub returns : goal.returns
returns c =
    let tree = c.args.finished.now.tree in
    let walk = c.args.ladder.now.walk in
    let count : length c.args.ladder.now.everyone ≡ tree.net.routers =
    ap length c.requires.ladder.everyone_is ∙ length-replicate tree.net.routers true in
    let routers : c.routers-routers.result ≡ tree.net.routers =
    c.routers-routers.ensures.value ∙ ap (λ (net : Net). net.routers) (c.deref.ensures ∙ c.net.ensures.value) in
    let old : c.all_or_none-side-2.result ≡ replicate tree.net.routers c.args.holds =
    c.all_or_none-side-2.ensures ∙ ap (λ (n : ℕ). replicate n c.args.holds) count in
    let front : IsMarkedBetween c.order-order.result.now 0 c.stretch-stretch.result.from (not c.args.holds)
    c.all_or_none-side-2.result c.mark-2.new.side = record {
      marked = c.mark-2.ensures.marked;
      others = c.mark-2.ensures.others;
      size = c.mark-2.ensures.size;
    } in
    let back : IsMarkedBetween c.order-order.result.now c.stretch-stretch.result.end c.routers-routers.result
    (not c.args.holds) c.mark-2.new.side c.mark-3.new.side = record {
      marked = c.mark-3.ensures.marked;
      others = c.mark-3.ensures.others;
      size = c.mark-3.ensures.size;
    } in
    others-marked tree walk c.args.child c.args.holds c.mark-2.new.side c.mark-3.new.side c.requires.ladder.walk_is
    c.requires.child (rw (c.order-order.ensures, c.stretch-stretch.ensures, old) at front)
    (rw (c.order-order.ensures, c.stretch-stretch.ensures, routers) at back)
