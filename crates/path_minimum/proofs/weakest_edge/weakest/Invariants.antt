use Rattle.path_minimum.specs.Walks.{IsWeakestBelow}
use Rattle.path_minimum.proofs.weakest_edge.weakest.Given as goal

-- the weakest edge above the routers before this one
abbrev pub invariant-loop-child : goal.invariant-loop-child
invariant-loop-child l = record { weakest : IsWeakestBelow l.finished.tree l.child l.least }
