use Rattle.std.proofs.Common.{◌≡◌, length}
use Rattle.path_minimum.proofs.tests.side_of.Given as goal

-- the side keeps its size
abbrev pub invariant-loop-member : goal.invariant-loop-member
invariant-loop-member l = record { size : length l.side ≡ l.routers }
