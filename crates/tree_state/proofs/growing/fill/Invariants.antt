use Rattle.std.proofs.Common.{◌≡◌, ◌≤◌, replicate}
use Rattle.std.specs.Prelude.{vec_capacity}
use Rattle.tree_state.proofs.growing.fill.Given as goal

-- so many values stand in the table, and its room is what it was
abbrev pub invariant-loop : goal.invariant-loop
invariant-loop g l = record {
  items : l.table.items ≡ replicate l.counter l.value;
  capacity : vec_capacity l.table ≡ vec_capacity l.fn.table;
  within : l.counter ≤ l.routers;
}
