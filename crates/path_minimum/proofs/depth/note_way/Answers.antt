use Rattle.std.proofs.Common.{◌≡◌, ℕ, inl, inr, suc, ◌<◌, length, set, true, sym, ◌∙◌, arith, subst}
use Rattle.std.proofs.lemmas.Bool.{cases_eq}
use Rattle.cut_model.specs.Cuts.{set_of}
use Rattle.tree_state.specs.Views.{up_of}
use Rattle.path_minimum.specs.Depths.{depth_of}
use Rattle.path_minimum.proofs.Known.{depth-unknown, known-more}
use Rattle.tree_state.proofs.Decided.{put_in, put_stays}
use Rattle.path_minimum.proofs.depth.note_way.Goals as goal

pub overflow_sub-left : goal.overflow_sub-left
overflow_sub-left c =
    let step : depth_of c.args.finished.now.tree c.loop-known.at
    ≡ suc (depth_of c.args.finished.now.tree (up_of c.args.finished.now.tree c.loop-known.at)) =
    depth-unknown c.args.finished.now.tree c.loop-known.known c.loop-known.depths c.loop-known.at c.requires.tree
    c.loop-known.invariant.known c.loop-known.invariant.within (sym c.has.ensures ∙ c.loop-known-test.true) in
    omega arith

pub loop-known-smaller : goal.loop-known-smaller
loop-known-smaller c =
    let step : depth_of c.args.finished.now.tree c.loop-known.at
    ≡ suc (depth_of c.args.finished.now.tree (up_of c.args.finished.now.tree c.loop-known.at)) =
    depth-unknown c.args.finished.now.tree c.loop-known.known c.loop-known.depths c.loop-known.at c.requires.tree
    c.loop-known.invariant.known c.loop-known.invariant.within (sym c.has.ensures ∙ c.loop-known-test.true) in
    rw c.up-at.ensures.value (omega arith)

pub loop-known-preserved : goal.loop-known-preserved
loop-known-preserved c =
    let before = c.loop-known.invariant in
    let low : c.loop-known.at < length c.loop-known.known = omega (arith, before.known.marks) in
    record {
      within = c.up-at.ensures.within;
      depth =
          let step : depth_of c.args.finished.now.tree c.loop-known.at
          ≡ suc (depth_of c.args.finished.now.tree (up_of c.args.finished.now.tree c.loop-known.at)) =
          depth-unknown c.args.finished.now.tree c.loop-known.known c.loop-known.depths c.loop-known.at c.requires.tree
          before.known before.within (sym c.has.ensures ∙ c.loop-known-test.true) in
          rw c.up-at.ensures.value (omega arith);
      known = rw c.put.ensures
          (known-more c.args.finished.now.tree c.loop-known.known c.loop-known.depths c.loop-known.at c.loop-known.left
          before.within before.depth before.known);
      noted = λ left. rw c.put.ensures (elim (cases_eq c.loop-known.at c.args.router) [
        | inl here ↦ subst (λ (r : ℕ). set_of (set c.loop-known.known c.loop-known.at true) r ≡ true) here
            (put_in c.loop-known.known c.loop-known.at low)
        | inr other ↦ put_stays c.loop-known.known c.loop-known.at c.args.router low (before.noted other)
      ]);
      kept = λ r inside. rw c.put.ensures
          (put_stays c.loop-known.known c.loop-known.at r low (before.kept r inside));
    }
