use Rattle.std.proofs.Common.{rules, ◌≡◌, ◌∙◌, length}
use Rattle.path_minimum.specs.Stretches.{AreRunsFrom}
use Rattle.path_minimum.proofs.Running.{walk-made}
use Rattle.path_minimum.proofs.walk.make_walk.Goals as goal

pub returns : goal.returns
returns c =
    let order = c.in_ok-order.order.items in
    let stretches = c.in_ok-stretches.stretches.items in
    let runs : AreRunsFrom c.args.depths.now order stretches 0 = search rules in
    let size : length stretches ≡ length order = search rules in
    walk-made c.args.finished.now.tree c.net.ensures.tree c.args.depths.now order stretches c.requires.depths
    c.in_ok-order.ensures (size ∙ c.in_ok-order.ensures.size) runs
