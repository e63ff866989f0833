use Rattle.std.proofs.Common.{◌-◌, ◌≡◌, ◌+◌, ◌≤◌, length}
use Rattle.reply_lines.specs.Tails.{Leads, spot}
use Rattle.reply_lines.specs.declared.run.TheConstants.{MOST_REPLY_LINE_BYTES, RUN_BYTES}
use Rattle.reply_lines.proofs.fill.fill_run.Given as goal

-- The run leads to the place, and has room for a line where it is to get one.
abbrev pub invariant-loop-place : goal.invariant-loop-place
invariant-loop-place g l =
    let ghosts = g.L.ReplyLines in
    let what = ghosts.told l.fn.lines in
    let n = ghosts.places what in
    record {
      told : ghosts.told l.lines ≡ what;
      leads : Leads ghosts.Carry (ghosts.line what) (spot n l.fn.from (ghosts.carry l.fn.lines)) l.run.rest
          (spot n l.place (ghosts.carry l.lines));
      later : l.fn.from ≤ l.place;
      within : l.place ≤ n;
      fits : ghosts.fits what l.place (ghosts.carry l.lines);
      none : l.place ≤ l.fn.from → length l.run.rest ≤ 0;
      few : length l.run.rest ≤ RUN_BYTES + MOST_REPLY_LINE_BYTES;
      room : RUN_BYTES + MOST_REPLY_LINE_BYTES ≤ length l.run.rest + l.run.room;
    }

abbrev pub decreases-loop-place : goal.decreases-loop-place
decreases-loop-place g l = l.count - l.place
