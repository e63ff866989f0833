use Rattle.std.proofs.Common.{◌≡◌, ℕ, ◌<◌, get_or}
use Rattle.residual_graph.specs.Places.{begin_of}
use Rattle.dinic_flow.proofs.search.begin_cursors.Given as goal

abbrev pub invariant-loop-router : goal.invariant-loop-router
invariant-loop-router l = record {
  begun : (k : ℕ) → k < l.router-index →
      get_or l.cursor (get_or l.queue k 0) 0 ≡ begin_of l.graph.net (get_or l.queue k 0);
  kept : (r : ℕ) → get_or l.fn.cursor r 0 ≡ begin_of l.graph.net r → get_or l.cursor r 0 ≡ begin_of l.graph.net r;
}
