use Rattle.std.proofs.Common.{◌≡◌, ◌<◌, sym, subst, get_or, arith}
use Rattle.std.proofs.lemmas.List.{get_or_read}
use Rattle.std.specs.Arc.{arc_value}
use Rattle.tree_state.specs.Views.{GrowingView}
use Rattle.tree_state.proofs.Grown.{width-most}
use Rattle.tree_state.proofs.growing.Growing.width.Goals as goal

pub returns-clause-most : goal.returns-clause-most
returns-clause-most c =
    let low : c.args.s < (arc_value c.self.inside.net).routers =
    subst (λ (v : GrowingView). c.args.s < v.net.routers) (sym c.self.view_is) c.requires in
    let read : c.index.result.now ≡ get_or c.self.inside.width.items c.args.s 0 =
    get_or_read c.self.inside.width.items _ _ (omega (arith, c.self.invariant.0.widths)) c.index.ensures 0 in
    rw read (width-most c.self.invariant.0 c.self.invariant.1.limits c.args.s low)
