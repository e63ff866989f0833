use Rattle.std.proofs.Common.{rules, ◌≡◌, ◌≢◌, ◌<◌, ◌∙◌, inl, inr, false, length, arith}
use Rattle.cut_model.specs.Cuts.{set_of}
use Rattle.tree_state.proofs.Decided.{undecided-other, put_in, put_stays}
use Rattle.certifier.proofs.Hanging.{height-up, below-up, marked_more, decided_more}
use Rattle.certifier.proofs.ways.decide_way.Goals as goal

pub loop-decided-smaller : goal.loop-decided-smaller
loop-decided-smaller c =
    let free : set_of c.loop-decided.decided c.loop-decided.above ≡ false = search rules in
    height-up c.loop-decided.invariant.marked.root c.args.up.now c.loop-decided.invariant.marked.hang
    c.loop-decided.above c.loop-decided.invariant.within
    (undecided-other c.loop-decided.decided c.loop-decided.above c.loop-decided.invariant.marked.root free
    c.loop-decided.invariant.marked.at_root)

pub loop-decided-preserved : goal.loop-decided-preserved
loop-decided-preserved c =
    let free : set_of c.loop-decided.decided c.loop-decided.above ≡ false = search rules in
    let low : c.loop-decided.above < length c.loop-decided.decided =
    omega (arith, c.loop-decided.invariant.marked.decided_size, c.loop-decided.invariant.within) in
    let below_top : c.loop-decided.above ≢ c.loop-decided.invariant.marked.root =
    undecided-other c.loop-decided.decided c.loop-decided.above c.loop-decided.invariant.marked.root free
    c.loop-decided.invariant.marked.at_root in
    rw (c.decide.ensures.decided, c.decide.ensures.inside) (record {
      within = c.loop-decided.invariant.marked.hang.routers.within c.loop-decided.above
          c.loop-decided.invariant.within;
      marked = marked_more c.args.up.now c.loop-decided.decided c.loop-decided.inside c.loop-decided.above
          c.args.is_below c.loop-decided.invariant.marked c.loop-decided.invariant.within;
      begun = inr (elim c.loop-decided.invariant.begun [
        | inl first ↦ rw (← first) (put_in c.loop-decided.decided c.loop-decided.above low)
        | inr done ↦ put_stays c.loop-decided.decided c.loop-decided.above c.args.router low done
      ]);
      kept = λ r done. put_stays c.loop-decided.decided c.loop-decided.above r low
          (c.loop-decided.invariant.kept r done);
      right = λ child was is.
          let now = c.loop-decided.invariant.right child was is in (
            decided_more c.args.up.now child c.loop-decided.decided c.loop-decided.inside
                c.loop-decided.above c.args.is_below c.loop-decided.invariant.marked now.0
                c.loop-decided.invariant.within free now.1,
            now.1 ∙ below-up c.loop-decided.invariant.marked.root c.args.up.now
                c.loop-decided.invariant.marked.hang child c.loop-decided.above
                c.loop-decided.invariant.within below_top
                (undecided-other c.loop-decided.decided c.loop-decided.above child free now.0.child),
          );
    })
