use Rattle.std.proofs.Common.{arith}
use Rattle.path_minimum.proofs.Known.{known-root}
use Rattle.path_minimum.proofs.depth.note_depths.Goals as goal

pub loop-router-init : goal.loop-router-init
loop-router-init c = record {
  known =
      rw (
        c.put.ensures,
        c.empty-known.ensures,
        c.routers-routers.ensures.value,
        c.deref.ensures,
        c.net.ensures.value,
        c.root-root.ensures.value,
      )
      (known-root c.args.finished.now.tree c.args.depths.now c.net.ensures.tree
      (rw (← c.root-root.ensures.value) c.root-root.ensures.within) c.requires);
  before = λ r low. absurd (omega arith);
}
