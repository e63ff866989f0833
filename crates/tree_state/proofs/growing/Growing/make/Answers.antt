use Rattle.std.proofs.Common.{◌≡◌, ◌∙◌, ap, subst, arith}
use Rattle.std.specs.Arc.{arc_value}
use Rattle.cut_model.specs.Net.{Net, IsInLimits}
use Rattle.cut_model.specs.Terminals.{root_of}
use Rattle.tree_state.proofs.Grown.{grown_start}
use Rattle.tree_state.proofs.Retakes.{retakes_start}
use Rattle.tree_state.proofs.growing.Growing.make.Goals as goal

pub invariant_of-result : goal.invariant_of-result
invariant_of-result c =
    let routers : c.routers-routers.result ≡ (arc_value c.args.net).routers =
    c.routers-routers.ensures.value ∙ ap (λ (net : Net). net.routers) c.deref.ensures in
    let root : c.root-root.result ≡ root_of (arc_value c.args.net) =
    c.root-root.ensures.value ∙ ap root_of c.deref-2.ensures in (
      rw (
        c.in_ok-table.ensures.items,
        c.in_ok-table-2.ensures.items,
        c.empty.ensures,
        c.in_ok-with_capacity.ensures.items,
        routers,
        root,
      )
          (grown_start (arc_value c.args.net)),
      record {
        limits = subst IsInLimits c.deref.ensures
            c.routers-routers.ensures.limits;
        up_room = c.in_ok-table.ensures.room;
        width_room = c.in_ok-table-2.ensures.room;
        history_room = omega (arith, c.in_ok-with_capacity.ensures.exact);
        reads_room = c.in_ok-table-3.ensures.room;
        retakes_room = c.in_ok-table-4.ensures.room;
      },
      rw (
        c.in_ok-with_capacity.ensures.items,
        c.in_ok-table-3.ensures.items,
        c.in_ok-table-4.ensures.items,
        routers,
        root,
      )
          (retakes_start (arc_value c.args.net)),
    )
