use Rattle.std.proofs.Common.{◌≡◌, ◌<◌, ◌∙◌, ℕ, ap, arith, get_or, sym, true}
use Rattle.cut_model.proofs.Counting.{number_in-le}
use Rattle.cut_model.specs.Terminals.{number_in}
use Rattle.query_lang.specs.Trees.{children_of, is_child}
use Rattle.query_lang.proofs.Edges.{held_at, length-children_of_number, number_in-no, number_in-yes}
use Rattle.query_lang.proofs.trees.find_child.Goals.{then-is_lower_end+else-edges-edge, else-is_lower_end}
use Rattle.query_lang.proofs.trees.find_child.Goals as goal

pub overflow_add-passed-then-edges-edge : goal.overflow_add-passed-then-edges-edge
overflow_add-passed-then-edges-edge c =
    let net = c.args.net.now in
    let all = length-children_of_number net in
    let most = number_in-le (is_child net) net.routers in
    let end = c.routers-router-end in
    omega (arith, all, most, c.requires.edge, c.if-edges-edge.true, end.ensures.value, end.type_inv)

pub returns-then-edges-edge-clause-child : goal.returns-then-edges-edge-clause-child
returns-then-edges-edge-clause-child c =
    let net = c.args.net.now in
    let low : c.loop-router.router < net.routers =
    omega (arith, c.loop-router-test.true, c.routers-router-end.ensures.value) in
    let is : is_child net c.loop-router.router ≡ true = sym c.is_lower_end.ensures ∙ c.if-is_lower_end.true in
    sym (held_at (is_child net) net.routers c.loop-router.router 0 is low)
    ∙ ap (λ (k : ℕ). get_or (children_of net) k 0) (c.loop-router.invariant.edges_are ∙ c.if-edges-edge.true)

pub returns-then-edges-edge-clause-passed : goal.returns-then-edges-edge-clause-passed
returns-then-edges-edge-clause-passed c =
    let net = c.args.net.now in
    let is : is_child net c.loop-router.router ≡ true = sym c.is_lower_end.ensures ∙ c.if-is_lower_end.true in
    record {
      within = omega (arith, c.loop-router-test.true, c.routers-router-end.ensures.value);
      edges_are = number_in-yes (is_child net) c.loop-router.router c.loop-router.edges is
          c.loop-router.invariant.edges_are;
    }

pub loop-router-preserved : goal.loop-router-preserved
loop-router-preserved c =
    let X = is_child c.args.net.now in
    let i = c.loop-router.router in
    let before = c.loop-router.invariant in
    elim c.if-is_lower_end.branch [
      | then-is_lower_end+else-edges-edge w ↦ (
          let more = number_in-yes X i c.loop-router.edges (sym c.is_lower_end.ensures ∙ w.if-is_lower_end.true)
          before.edges_are in
          let few = w.if-edges-edge.false in
          record { edges_are = more ∙ sym w.edges-is; few = omega (arith, before.few, w.edges-is, few) })
      | else-is_lower_end w ↦ (
          let same = number_in-no X i c.loop-router.edges (sym c.is_lower_end.ensures ∙ w.if-is_lower_end.false)
          before.edges_are in
          record { edges_are = same ∙ sym w.edges-is; few = omega (arith, before.few, w.edges-is) })
    ]

pub unreachable-requires : goal.unreachable-requires
unreachable-requires c =
    let net = c.args.net.now in
    let from = c.search_from-from.ensures.passed.within in
    let end : c.loop-router.router ≡ net.routers =
    omega (arith, from, c.routers-router-end.ensures.value, c.loop-router-test.false, c.loop-router.auto.router-end) in
    let all = length-children_of_number net in
    let passed = ap (number_in (is_child net)) end in
    absurd (omega (arith, all, passed, c.loop-router.invariant.edges_are, c.loop-router.invariant.few, c.requires.edge))
