use Rattle.std.proofs.Common.{◌≡◌, ◌≤◌, Ok}
use Rattle.reply_lines.specs.Tails.{spot}
use Rattle.reply_lines.specs.Puts.{PutsTo}
use Rattle.wires.specs.declared.faults.Failed.{Failed}
use Rattle.reply_lines.proofs.fill.write_lines.Given as goal

-- The lines so far are put.
abbrev pub invariant-loop-place : goal.invariant-loop-place
invariant-loop-place g l =
    let ghosts = g.L.ReplyLines in
    let what = ghosts.told l.fn.lines in
    let n = ghosts.places what in
    record {
      told : ghosts.told l.lines ≡ what;
      within : l.place ≤ n;
      fits : ghosts.fits what l.place (ghosts.carry l.lines);
      puts : PutsTo {E = Failed} g.K.Sink l.fn.sink l.sink (Ok tt) (ghosts.line what)
          (spot n 0 (ghosts.carry l.fn.lines)) (spot n l.place (ghosts.carry l.lines));
    }
