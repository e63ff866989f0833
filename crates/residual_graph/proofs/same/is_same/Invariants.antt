use Rattle.std.proofs.Common.{◌≡◌, take}
use Rattle.residual_graph.proofs.same.is_same.Given as goal

abbrev pub invariant-loop-i : goal.invariant-loop-i
invariant-loop-i l = record {
  told : l.wrong ≡ 0 → take l.i l.ours ≡ take l.i l.theirs;
  kept : l.ours ≡ l.theirs → l.wrong ≡ 0;
}
