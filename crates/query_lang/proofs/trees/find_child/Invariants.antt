use Rattle.std.proofs.Common.{◌≡◌, ◌≤◌}
use Rattle.cut_model.specs.Terminals.{number_in}
use Rattle.query_lang.specs.Trees.{is_child}
use Rattle.query_lang.proofs.trees.find_child.Given as goal

-- So many edges were passed by, and not too many.
abbrev pub invariant-loop-router : goal.invariant-loop-router
invariant-loop-router l = record {
  edges_are : number_in (is_child l.net) l.router ≡ l.edges;
  few : l.edges ≤ l.edge;
}
