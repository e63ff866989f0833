use Rattle.std.proofs.Common.{◌≡◌, ◌≤◌, ◌+◌, ◌++◌, map, vec_len}
use Rattle.std.specs.VecDeque.{deque_capacity, deque_len}
use Rattle.wires.proofs.memory_door.all_waiting.Given as goal

abbrev pub invariant-loop-client : goal.invariant-loop-client
invariant-loop-client l =
    (l.clients.items ++ map (λ w. w.client) l.all.items ≡ l.fn.clients.items)
    × (vec_len l.clients + deque_len l.all ≤ deque_capacity l.all)

abbrev pub decreases-loop-client : goal.decreases-loop-client
decreases-loop-client l = vec_len l.clients
