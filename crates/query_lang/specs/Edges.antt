-- Where a search for the edges of a tree stands.
use Rattle.std.specs.Prelude.{◌≡◌, ◌≤◌}
use Rattle.cut_model.specs.Net.{Net}
use Rattle.cut_model.specs.Terminals.{number_in}
use Rattle.query_lang.specs.Trees.{is_child}
use Rattle.query_lang.specs.declared.trees.PassedEdges.{PassedEdges}

-- So many edges have their lower ends below a router.
pub record IsPassed (net : Net) (passed : PassedEdges) : Type 0 where
  pub within : passed.router ≤ net.routers
  pub edges_are : number_in (is_child net) passed.router ≡ passed.edges
