use Rattle.std.proofs.Common.{◌-◌, length}
use Rattle.path_minimum.specs.Stretches.{HasPlace}
use Rattle.path_minimum.proofs.walk.Draft.place_of.Given as goal

-- the router stands here or later
abbrev pub invariant-loop-place : goal.invariant-loop-place
invariant-loop-place l = record { at : HasPlace l.self.order.items l.place l.router }

abbrev pub decreases-loop-place : goal.decreases-loop-place
decreases-loop-place l = length l.self.order.items - l.place
