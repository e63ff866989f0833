use Rattle.std.proofs.Common.{◌≡◌, ℕ, List, None}
use Rattle.std.specs.declared.option.Option.{Option}
use Rattle.session.specs.Shelved.{Shelved}
use Rattle.session.specs.Steps.{here_at}
use Rattle.session.specs.Tasks.{CanTurn, TaskView}
use Rattle.session.specs.Turns.{MayBe}
use Rattle.wires.specs.LazyMemory.{LazyState, wire_of}
use Rattle.session.proofs.tests.two_sessions_go_on_byte_by_byte_on_one_shelf.Given as goal

-- a session that hasn't ended has a text that may be open
abbrev pub IsOn : TaskView → LazyState → Type 0
IsOn task peer = task.ended ≡ None → (open_text : Option (List (List ℕ))) × (rest : List ℕ)
    × ((at : Shelved) → MayBe (here_at at (wire_of peer) task.kept) open_text rest)

-- both sessions may go on
abbrev pub invariant-turns : goal.invariant-turns
invariant-turns g l = record {
  first_held : CanTurn l.shelf.records l.first.task;
  first_on : IsOn l.first.task l.first.peer;
  second_held : CanTurn l.shelf.records l.second.task;
  second_on : IsOn l.second.task l.second.peer;
}
