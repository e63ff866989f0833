use Rattle.std.proofs.Common.{◌≡◌, ◌≢◌, ◌<◌, false, sym, ◌∙◌, subst, get_or, arith}
use Rattle.std.proofs.lemmas.List.{get_or_read}
use Rattle.std.specs.Arc.{arc_value}
use Rattle.cut_model.specs.Terminals.{root_of}
use Rattle.tree_state.specs.History.{tables, entered}
use Rattle.tree_state.specs.Views.{GrowingView}
use Rattle.tree_state.proofs.Grown.{above-lt, above-other}
use Rattle.tree_state.proofs.growing.Growing.neighbour.Goals as goal

pub returns-clause-within : goal.returns-clause-within
returns-clause-within c =
    let low : c.args.s < (arc_value c.self.inside.net).routers =
    subst (λ (v : GrowingView). c.args.s < v.net.routers) (sym c.self.view_is) c.requires in
    let read : c.index.result.now ≡ get_or c.self.inside.up.items c.args.s 0 =
    get_or_read c.self.inside.up.items _ _ (omega (arith, c.self.invariant.0.ups)) c.index.ensures 0 in
    rw (read, ← c.self.view_is) (above-lt c.self.invariant.0 c.self.invariant.1.limits c.args.s low)

pub returns-clause-other : goal.returns-clause-other
returns-clause-other c =
    let low : c.args.s < (arc_value c.self.inside.net).routers =
    subst (λ (v : GrowingView). c.args.s < v.net.routers) (sym c.self.view_is) c.requires in
    let read : c.index.result.now
    ≡ (tables (root_of (arc_value c.self.inside.net)) c.self.inside.history.items).up c.args.s =
    get_or_read c.self.inside.up.items _ _ (omega (arith, c.self.invariant.0.ups)) c.index.ensures 0
    ∙ c.self.invariant.0.up_is c.args.s low in
    subst (λ (v : GrowingView). entered v.history c.args.s ≡ false → c.args.s ≢ root_of v.net
    → c.args.s ≢ c.index.result.now) c.self.view_is
    (λ fresh not_root same. above-other c.self.invariant.0 c.self.invariant.1.limits c.args.s fresh not_root
    (same ∙ read))
