use Rattle.std.proofs.Common.{◌≡◌, true, take}
use Rattle.std.specs.List.{list_all}
use Rattle.certifier.proofs.Keeping.{is_right}
use Rattle.certifier.proofs.tree.Tree.verdict.Given as goal

-- the edges before this one are right
abbrev pub invariant-loop-edge : goal.invariant-loop-edge
invariant-loop-edge l = record {
  right : list_all (is_right l.self-inside.sheet.net l.self-inside.up.items) (take l.edge-index l.edge-items) ≡ true;
}
