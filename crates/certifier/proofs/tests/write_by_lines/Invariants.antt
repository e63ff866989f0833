use Rattle.certifier.specs.Blocks.{Fits, certificate_layout}
use Rattle.certifier.proofs.tests.write_by_lines.Given as goal

-- The room holds what the line of the place needs.
abbrev pub invariant-loop-place : goal.invariant-loop-place
invariant-loop-place g l = record { fits : Fits l.finished.tree (certificate_layout l.sheet) l.place l.room }
