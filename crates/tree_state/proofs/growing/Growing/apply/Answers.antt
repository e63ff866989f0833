use Rattle.std.proofs.Common.{◌≡◌, ◌<◌, sym, ap, ◌∙◌, subst, length, drop, arith}
use Rattle.std.proofs.lemmas.List.{take_at}
use Rattle.std.specs.Arc.{arc_value}
use Rattle.cut_model.specs.Net.{Net}
use Rattle.cut_model.specs.Terminals.{root_of}
use Rattle.tree_state.specs.History.{entry_of, MayFollow}
use Rattle.tree_state.specs.Views.{GrowingView}
use Rattle.tree_state.proofs.Grown.{IsCommitted, may_follow, above-lt, entries-lt, grown_push}
use Rattle.tree_state.proofs.Retakes.{retakes_push}
use Rattle.tree_state.proofs.growing.Growing.apply.Goals as goal

pub commit_tables-requires-clause-above : goal.commit_tables-requires-clause-above
commit_tables-requires-clause-above c =
    let net : c.args.cut.now.net ≡ arc_value c.self.inside.net =
    c.requires.net ∙ sym (ap (λ (v : GrowingView). v.net) c.self.view_is) in
    let low : c.args.cut.now.neighbour < (arc_value c.self.inside.net).routers =
    subst (λ (n : Net). c.args.cut.now.neighbour < n.routers) net c.of-entry.ensures.held.neighbour_in in
    rw (c.deref_mut.ensures.value, net)
    (above-lt c.self.invariant.0 c.self.invariant.1.limits c.args.cut.now.neighbour low)

pub push_reserved-requires : goal.push_reserved-requires
push_reserved-requires c = omega (
  arith,
  c.self.inside.history.ok.0,
  entries-lt c.self.invariant.0 c.self.invariant.1.limits,
  c.self.invariant.1.limits.few_routers,
  c.self.invariant.1.history_room,
)

pub invariant_of-self : goal.invariant_of-self
invariant_of-self c =
    let root : c.root.result ≡ root_of (arc_value c.self.inside.net) =
    c.root.ensures.value ∙ ap root_of c.deref.ensures in
    let may : MayFollow (arc_value c.self.inside.net) c.self.inside.history.items (entry_of c.args.cut.now) =
    subst (λ (v : GrowingView). MayFollow v.net v.history (entry_of c.args.cut.now)) (sym c.self.view_is)
    (may_follow c.args.self.now.net c.args.self.now.history c.args.cut.now c.of-entry.ensures.held c.requires.net
    c.requires.terminal c.requires.not_root c.requires.fresh c.requires.neighbour) in
    let after : IsCommitted (arc_value c.self.inside.net) c.self.inside.up.items c.self.inside.width.items
    c.commit_tables.new.up c.commit_tables.new.width (entry_of c.args.cut.now) = record {
      ups = c.commit_tables.auto.up ∙ ap length c.deref_mut.ensures.value;
      widths = c.commit_tables.auto.width ∙ ap length c.deref_mut-2.ensures.value;
      up_is = rw (c.deref_mut.ensures.value, root) at c.commit_tables.ensures.up;
      width_is = rw (c.deref_mut.ensures.value, c.deref_mut-2.ensures.value, root) at c.commit_tables.ensures.width;
    } in (
      rw (
        take_at c.commit_tables.new.up (drop (length c.commit_tables.new.up) c.self.inside.up.items)
            c.self.inside.up.len (c.commit_tables.auto.up ∙ c.deref_mut.ensures.len),
        take_at c.commit_tables.new.width (drop (length c.commit_tables.new.width) c.self.inside.width.items)
            c.self.inside.width.len (c.commit_tables.auto.width ∙ c.deref_mut-2.ensures.len),
        c.put.ensures,
        c.push_reserved.ensures.items,
        c.of-entry.ensures.value,
      )
          (grown_push (arc_value c.self.inside.net) c.self.inside.up.items c.self.inside.width.items
          c.commit_tables.new.up c.commit_tables.new.width c.self.inside.done c.self.inside.history.items
          (entry_of c.args.cut.now) c.self.invariant.1.limits c.self.invariant.0 may after),
      record {
        limits = c.self.invariant.1.limits;
        up_room = c.self.invariant.1.up_room;
        width_room = c.self.invariant.1.width_room;
        history_room = omega (arith, c.push_reserved.ensures.capacity, c.self.invariant.1.history_room);
        reads_room = c.self.invariant.1.reads_room;
        retakes_room = c.self.invariant.1.retakes_room;
      },
      rw c.push_reserved.ensures.items
          (retakes_push (arc_value c.self.inside.net) c.self.inside.history.items c.of-entry.result
          c.self.inside.last_read.items c.self.inside.retakes.items c.self.invariant.2),
    )
