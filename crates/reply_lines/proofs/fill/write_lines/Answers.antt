use Rattle.std.proofs.Common.{◌<◌, ◌∙◌, Ok, arith, refl}
use Rattle.reply_lines.specs.Tails.{spot}
use Rattle.reply_lines.proofs.Filling.{puts_next, puts_stopped}
use Rattle.wires.specs.declared.faults.Failed.{Failed}
use Rattle.reply_lines.proofs.fill.write_lines.Goals as goal

pub write_line-requires-clause-fits : goal.write_line-requires-clause-fits
write_line-requires-clause-fits g c = rw c.loop-place.invariant.told c.loop-place.invariant.fits

pub loop-place-preserved : goal.loop-place-preserved
loop-place-preserved g c =
    let ghosts = g.L.ReplyLines in
    let what = ghosts.told c.args.lines.now in
    let put = rw c.loop-place.invariant.told at c.in_ok-write_line.ensures.puts in
    let low : c.loop-place.place < ghosts.places what =
    omega (arith, c.count-place-end.ensures, c.loop-place-test.true) in
    record {
      told = c.write_line.ensures.told ∙ c.loop-place.invariant.told;
      within = omega (arith, low);
      fits = rw c.loop-place.invariant.told at c.write_line.ensures.fits;
      puts = puts_next {E = Failed} {result = Ok tt} (ghosts.line what) _ (ghosts.places what) c.loop-place.place _ _
          low c.loop-place.invariant.puts put;
    }

pub returns : goal.returns
returns g c =
    let ghosts = g.L.ReplyLines in
    let n = ghosts.places (ghosts.told c.args.lines.now) in
    record {
      told = c.loop-place.invariant.told;
      puts = record {
        last = spot n c.loop-place.place (ghosts.carry c.loop-place.lines);
        within = c.loop-place.invariant.within;
        left = refl;
        puts = c.loop-place.invariant.puts;
        all = omega (arith, c.count-place-end.ensures, c.loop-place-test.false);
      };
    }

pub returns-in_err-write_line : goal.returns-in_err-write_line
returns-in_err-write_line g c =
    let ghosts = g.L.ReplyLines in
    let what = ghosts.told c.args.lines.now in
    let put = rw c.loop-place.invariant.told at c.in_err-write_line.ensures.puts in
    let end = c.from_residual in
    let low : c.loop-place.place < ghosts.places what =
    omega (arith, c.count-place-end.ensures, c.loop-place-test.true) in
    record {
      told = c.write_line.ensures.told ∙ c.loop-place.invariant.told;
      puts = puts_stopped (ghosts.line what) (ghosts.places what) c.loop-place.place _ _ _ low
          c.loop-place.invariant.puts put end.result end.ensures.0;
    }
