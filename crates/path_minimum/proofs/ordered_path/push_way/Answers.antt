use Rattle.std.proofs.Common.{◌≡◌, ℕ, suc, ◌<◌, ◌++◌, ◌∷◌, [], List, sym, ◌∙◌, ap, arith}
use Rattle.std.proofs.lemmas.List.{append_assoc, append-nil}
use Rattle.cut_model.proofs.Terminals.{terminal-lt}
use Rattle.tree_state.specs.Views.{up_of}
use Rattle.path_minimum.specs.Depths.{depth_of}
use Rattle.path_minimum.specs.Walks.{way_between}
use Rattle.path_minimum.proofs.Depths.{tree_in, depth_of-suc, depth_of-root}
use Rattle.path_minimum.proofs.Ways.{below-deeper, below-above, way_between-suc, way_between-none}
use Rattle.path_minimum.proofs.ordered_path.push_way.Goals as goal

pub push_reserved-requires : goal.push_reserved-requires
push_reserved-requires c = omega (
  arith,
  below-deeper c.args.finished.now.tree.net (tree_in c.args.finished.now.tree c.requires.tree) c.args.to c.loop-at.at
      c.loop-at.invariant.at_is c.loop-at.invariant.above c.loop-at-test.true,
)

pub up-at-requires : goal.up-at-requires
up-at-requires c = terminal-lt c.args.finished.now.tree.net c.loop-at.at c.loop-at.invariant.at_is

pub loop-at-smaller : goal.loop-at-smaller
loop-at-smaller c =
    let tree = c.args.finished.now.tree in
    let deeper : depth_of tree c.args.to < depth_of tree c.loop-at.at =
    below-deeper tree.net (tree_in tree c.requires.tree) c.args.to c.loop-at.at c.loop-at.invariant.at_is
    c.loop-at.invariant.above c.loop-at-test.true in
    let step : depth_of tree c.loop-at.at ≡ suc (depth_of tree (up_of tree c.loop-at.at)) =
    depth_of-suc tree c.requires.tree c.loop-at.at (terminal-lt tree.net c.loop-at.at c.loop-at.invariant.at_is)
    (λ e. let top : depth_of tree c.loop-at.at ≡ 0 = ap (depth_of tree) e ∙ depth_of-root tree c.requires.tree in
    omega arith) in
    rw c.up-at.ensures.value (omega arith)

pub loop-at-preserved : goal.loop-at-preserved
loop-at-preserved c =
    let tree = c.args.finished.now.tree in
    let before = c.loop-at.invariant in
    let deeper : depth_of tree c.args.to < depth_of tree c.loop-at.at =
    below-deeper tree.net (tree_in tree c.requires.tree) c.args.to c.loop-at.at before.at_is before.above
    c.loop-at-test.true in
    let step : depth_of tree c.loop-at.at ≡ suc (depth_of tree (up_of tree c.loop-at.at)) =
    depth_of-suc tree c.requires.tree c.loop-at.at (terminal-lt tree.net c.loop-at.at before.at_is)
    (λ e. let top : depth_of tree c.loop-at.at ≡ 0 = ap (depth_of tree) e ∙ depth_of-root tree c.requires.tree in
    omega arith) in
    record {
      at_is = rw c.up-at.ensures.value
          (c.requires.tree.up_is c.loop-at.at (terminal-lt tree.net c.loop-at.at before.at_is));
      above = rw c.up-at.ensures.value
          (below-above tree.net (tree_in tree c.requires.tree) c.args.to c.loop-at.at before.at_is before.above
          c.loop-at-test.true);
      added = rw (c.push_reserved.ensures.items, c.up-at.ensures.value)
          (append_assoc c.loop-at.children.items (c.loop-at.at ∷ [])
          (way_between tree (up_of tree c.loop-at.at) c.args.to)
          ∙ ap (λ (ws : List ℕ). c.loop-at.children.items ++ ws)
          (sym (way_between-suc tree c.requires.tree c.loop-at.at c.args.to before.at_is before.above
          c.loop-at-test.true))
          ∙ before.added);
      room = rw c.up-at.ensures.value (omega (arith, c.push_reserved.ensures.len));
      capacity = c.push_reserved.ensures.capacity ∙ before.capacity;
    }

pub returns-clause-way : goal.returns-clause-way
returns-clause-way c =
    sym (append-nil c.loop-at.children.items)
    ∙ ap (λ (ws : List ℕ). c.loop-at.children.items ++ ws)
    (sym (rw c.loop-at-test.false (way_between-none c.args.finished.now.tree c.args.to)))
    ∙ c.loop-at.invariant.added
