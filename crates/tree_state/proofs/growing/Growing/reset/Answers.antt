use Rattle.std.proofs.Common.{◌≡◌, ◌∙◌, ap, subst, arith}
use Rattle.std.specs.Arc.{arc_value}
use Rattle.cut_model.specs.Net.{Net, IsInLimits}
use Rattle.cut_model.specs.Terminals.{root_of}
use Rattle.tree_state.proofs.Grown.{grown_start}
use Rattle.tree_state.proofs.Retakes.{retakes_start}
use Rattle.tree_state.proofs.growing.Growing.reset.Goals as goal

pub invariant_of-grow : goal.invariant_of-grow
invariant_of-grow c =
    let routers : c.routers-routers.result ≡ (arc_value c.args.net).routers =
    c.routers-routers.ensures.value ∙ ap (λ (net : Net). net.routers) c.deref.ensures in
    let root : c.root-root.result ≡ root_of (arc_value c.args.net) =
    c.root-root.ensures.value ∙ ap root_of c.deref-2.ensures in (
      rw (
        c.fill.ensures.items,
        c.fill-2.ensures.items,
        c.empty-grow-inside.ensures,
        c.clear.ensures.items,
        routers,
        root,
      )
          (grown_start (arc_value c.args.net)),
      record {
        limits = subst IsInLimits c.deref.ensures c.routers-routers.ensures.limits;
        up_room = omega (arith, c.fill.ensures.capacity, c.grow.invariant.1.up_room);
        width_room = omega (arith, c.fill-2.ensures.capacity, c.grow.invariant.1.width_room);
        history_room = omega (arith, c.clear.ensures.capacity, c.grow.invariant.1.history_room);
        reads_room = omega (arith, c.fill-3.ensures.capacity, c.grow.invariant.1.reads_room);
        retakes_room = omega (arith, c.fill-4.ensures.capacity, c.grow.invariant.1.retakes_room);
      },
      rw (c.clear.ensures.items, c.fill-3.ensures.items, c.fill-4.ensures.items, routers, root)
          (retakes_start (arc_value c.args.net)),
    )
