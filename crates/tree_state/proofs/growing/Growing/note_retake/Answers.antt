use Rattle.std.proofs.Common.{◌≡◌, ◌<◌, set, sym, ap, ◌∙◌, subst, get_or, arith}
use Rattle.std.proofs.lemmas.List.{get_or_read}
use Rattle.std.specs.Arc.{arc_value}
use Rattle.cut_model.specs.declared.network.TheConstants.{MOST_ROUTERS}
use Rattle.cut_model.specs.Terminals.{root_of}
use Rattle.cut_model.proofs.Terminals.{terminal-lt}
use Rattle.tree_state.specs.History.{tables}
use Rattle.tree_state.specs.Views.{GrowingView, tree_in, up_of}
use Rattle.tree_state.proofs.Retakes.{retakes-lt}
use Rattle.tree_state.proofs.growing.Growing.note_retake.Goals as goal

pub index_mut-requires : goal.index_mut-requires
index_mut-requires c =
    let low : c.args.s < (arc_value c.self.inside.net).routers =
    subst (λ (v : GrowingView). c.args.s < v.net.routers) (sym c.self.view_is)
    (terminal-lt c.args.self.now.net c.args.s c.requires.terminal) in
    omega (arith, c.self.invariant.2.counts, c.self.inside.retakes.ok.0)

pub overflow_add-index_mut : goal.overflow_add-index_mut
overflow_add-index_mut c =
    let low : c.args.s < (arc_value c.self.inside.net).routers =
    subst (λ (v : GrowingView). c.args.s < v.net.routers) (sym c.self.view_is)
    (terminal-lt c.args.self.now.net c.args.s c.requires.terminal) in
    let read : c.index_mut.result.now ≡ get_or c.self.inside.retakes.items c.args.s 0 =
    get_or_read c.self.inside.retakes.items _ _ (omega (arith, c.self.invariant.2.counts)) c.index_mut.ensures.value
    0 in
    let few : get_or c.self.inside.retakes.items c.args.s 0 < MOST_ROUTERS =
    retakes-lt (arc_value c.self.inside.net) c.self.invariant.1.limits c.self.inside.history.items
    c.self.invariant.0.legal c.self.inside.last_read.items c.self.inside.retakes.items c.self.invariant.2 c.args.s
    low in
    omega (arith, read, few)

pub index-requires : goal.index-requires
index-requires c =
    let low : c.args.s < (arc_value c.self.inside.net).routers =
    subst (λ (v : GrowingView). c.args.s < v.net.routers) (sym c.self.view_is)
    (terminal-lt c.args.self.now.net c.args.s c.requires.terminal) in
    omega (arith, c.self.invariant.0.ups, c.self.inside.up.ok.0)

pub index_mut-requires-2 : goal.index_mut-requires-2
index_mut-requires-2 c =
    let low : c.args.s < (arc_value c.self.inside.net).routers =
    subst (λ (v : GrowingView). c.args.s < v.net.routers) (sym c.self.view_is)
    (terminal-lt c.args.self.now.net c.args.s c.requires.terminal) in
    omega (arith, c.self.invariant.2.reads, c.self.inside.last_read.ok.0)

pub returns-clause-last_read : goal.returns-clause-last_read
returns-clause-last_read c =
    let low : c.args.s < (arc_value c.self.inside.net).routers =
    subst (λ (v : GrowingView). c.args.s < v.net.routers) (sym c.self.view_is)
    (terminal-lt c.args.self.now.net c.args.s c.requires.terminal) in
    let read : c.index.result.now ≡ (tables (root_of (arc_value c.self.inside.net)) c.self.inside.history.items).up
    c.args.s =
    get_or_read c.self.inside.up.items _ _ (omega (arith, c.self.invariant.0.ups)) c.index.ensures 0
    ∙ c.self.invariant.0.up_is c.args.s low in
    rw read (ap (λ (v : GrowingView). set v.last_read c.args.s (up_of (tree_in v) c.args.s)) c.self.view_is)
