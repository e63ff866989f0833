use Rattle.std.proofs.Common.{◌≡◌, ◌≤◌, take, vec_capacity}
use Rattle.tree_versions.proofs.note.take_rest.Given as goal
use Rattle.tree_versions.specs.Solo.{views_of}
use Rattle.tree_versions.specs.declared.shelf.TheConstants.{MOST_RECORDS}

abbrev pub invariant-loop-place : goal.invariant-loop-place
invariant-loop-place l =
    (views_of l.kept.items ≡ take l.place (views_of l.list)) × (MOST_RECORDS ≤ vec_capacity l.kept)
