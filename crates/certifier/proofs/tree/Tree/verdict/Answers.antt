use Rattle.std.proofs.Common.{◌≡◌, ◌∙◌, ◌<◌, true, false, length, sym, ap, arith, List, ℕ}
use Rattle.std.specs.Prelude.{slice_index, slice_index_or}
use Rattle.std.proofs.lemmas.Bool.{ne_eqb}
use Rattle.std.proofs.lemmas.List.{take_all}
use Rattle.cut_model.specs.Cuts.{cut_value}
use Rattle.tree_state.specs.Tables.{below}
use Rattle.certifier.specs.Ways.{all_come_to}
use Rattle.certifier.specs.declared.tree.KeptEdge.{KeptEdge}
use Rattle.certifier.proofs.Keeping.{shape_child, shape_hangs, verdict_ends, verdict_right, verdict_wrong}
use Rattle.certifier.proofs.tree.Tree.verdict.Goals as goal

pub returns-then-not-all_come_to : goal.returns-then-not-all_come_to
returns-then-not-all_come_to c = λ told is.
    let ends : all_come_to c.self.inside.root c.self.inside.up.items ≡ false
    = ap (λ (up : List ℕ). all_come_to c.self.inside.root up) (sym c.deref.ensures.value)
    ∙ sym c.all_come_to.ensures ∙ c.if-not-all_come_to.true in
    verdict_ends told (record {
      sheet = c.self.inside.sheet;
      root = c.self.inside.root;
      edges = c.self.inside.edges.items;
    }) c.self.inside.up.items c.args.done (c.self.view_is ∙ is) c.self.invariant.0 ends

pub cost_below-requires-clause-hang : goal.cost_below-requires-clause-hang
cost_below-requires-clause-hang c =
    let ends : all_come_to c.self.inside.root c.self.inside.up.items ≡ true
    = ap (λ (up : List ℕ). all_come_to c.self.inside.root up) (sym c.deref.ensures.value)
    ∙ sym c.all_come_to.ensures ∙ c.if-not-all_come_to.false in
    rw c.deref-in-loop-edge-2.ensures.value
    (shape_hangs (record {
      sheet = c.self.inside.sheet;
      root = c.self.inside.root;
      edges = c.self.inside.edges.items;
    }) c.self.inside.up.items c.self.invariant.0 ends)

pub cost_below-requires-clause-child : goal.cost_below-requires-clause-child
cost_below-requires-clause-child c =
    let low : c.loop-edge.edge-index < length c.self.inside.edges.items
    = rw c.deref-edge-items.ensures.value at c.loop-edge-test.true in
    rw (c.deref-edge-items.ensures.value, c.deref-in-loop-edge-2.ensures.value)
    (shape_child (record {
      sheet = c.self.inside.sheet;
      root = c.self.inside.root;
      edges = c.self.inside.edges.items;
    }) c.self.inside.up.items c.loop-edge.edge-index (record { line = 0; child = 0; up = 0; width = 0 })
    c.self.invariant.0 low)

pub returns-then-cost_below-edge : goal.returns-then-cost_below-edge
returns-then-cost_below-edge c = λ told is.
    let none : KeptEdge = record { line = 0; child = 0; up = 0; width = 0 } in
    let edge : KeptEdge = slice_index_or c.self.inside.edges.items c.loop-edge.edge-index none in
    let ends : all_come_to c.self.inside.root c.self.inside.up.items ≡ true
    = ap (λ (up : List ℕ). all_come_to c.self.inside.root up) (sym c.deref.ensures.value)
    ∙ sym c.all_come_to.ensures ∙ c.if-not-all_come_to.false in
    let cost : c.cost_below.result ≡ cut_value c.self.inside.sheet.net
    (below (length c.self.inside.up.items) (slice_index c.self.inside.up.items) edge.child)
    = rw (
      c.deref-in-loop-edge.ensures,
      c.net.ensures.value,
      c.deref-in-loop-edge-2.ensures.value,
      c.deref-edge-items.ensures.value,
    ) at c.cost_below.ensures in
    rw c.deref-edge-items.ensures.value
    (verdict_wrong told (record {
      sheet = c.self.inside.sheet;
      root = c.self.inside.root;
      edges = c.self.inside.edges.items;
    }) c.self.inside.up.items c.args.done c.loop-edge.edge-index none (c.self.view_is ∙ is) c.self.invariant.0 ends
    (record {
      within = rw c.deref-edge-items.ensures.value at c.loop-edge-test.true;
      before = rw c.deref-edge-items.ensures.value at c.loop-edge.invariant.right;
      wrong = ne_eqb (cut_value c.self.inside.sheet.net
          (below (length c.self.inside.up.items) (slice_index c.self.inside.up.items) edge.child)) edge.width
          (λ e. (rw c.deref-edge-items.ensures.value at c.if-cost_below-edge.true) (cost ∙ e));
    }))

pub returns : goal.returns
returns c = λ told is.
    let ends : all_come_to c.self.inside.root c.self.inside.up.items ≡ true
    = ap (λ (up : List ℕ). all_come_to c.self.inside.root up) (sym c.deref.ensures.value)
    ∙ sym c.all_come_to.ensures ∙ c.if-not-all_come_to.false in
    let whole = take_all c.loop-edge.edge-index c.deref-edge-items.result.now
    (omega (arith, c.loop-edge-test.false)) in
    verdict_right told (record {
      sheet = c.self.inside.sheet;
      root = c.self.inside.root;
      edges = c.self.inside.edges.items;
    }) c.self.inside.up.items c.args.done (c.self.view_is ∙ is) c.self.invariant.0 ends
    (rw (whole, c.deref-edge-items.ensures.value) at c.loop-edge.invariant.right)
