use Rattle.std.proofs.Common.{◌<◌, ◌≤◌, ◌+◌, ◌∙◌, List, ℕ, ap, arith, length, length-append, subst, sym}
use Rattle.std.proofs.lemmas.Bool.{le-leb}
use Rattle.reply_lines.specs.Tails.{Leads, spot}
use Rattle.reply_lines.proofs.Filling.{appended, room_left}
use Rattle.reply_lines.proofs.Tailing.{Leads-trans, place_leads}
use Rattle.reply_lines.proofs.fill.fill_run.Goals as goal

pub unwrap-requires : goal.unwrap-requires
unwrap-requires g c =
    let put = c.write_line.ensures.puts in
    let few = ap length c.rest.ensures in
    let room = c.loop-place.invariant.room in
    put.puts.sure 0 (le-leb _ _ (omega (arith, few, put.short, room, c.if-rest-lt-RUN_BYTES.true)))

pub write_line-requires-clause-fits : goal.write_line-requires-clause-fits
write_line-requires-clause-fits g c = rw c.loop-place.invariant.told c.loop-place.invariant.fits

pub loop-place-preserved : goal.loop-place-preserved
loop-place-preserved g c =
    let ghosts = g.L.ReplyLines in
    let what = ghosts.told c.args.lines.now in
    let n = ghosts.places what in
    let i = c.loop-place.place in
    let put = rw c.loop-place.invariant.told at c.write_line.ensures.puts in
    let few = ap length c.rest.ensures in
    let low : i < n = omega (arith, c.count-count.ensures, c.loop-place-test.true) in
    let from = spot n c.args.from (ghosts.carry c.args.lines.now) in
    let mid = spot n i (ghosts.carry c.loop-place.lines) in
    let last = spot n (i + 1) (ghosts.carry c.write_line.new.self) in
    let line = ghosts.line what in
    let one = place_leads ghosts.Carry line n i mid.carry last.carry put.line low put.is in
    let whole = appended c.loop-place.run.rest c.write_line.new.sink.rest put.line c.write_line.result c.unwrap.result
    c.unwrap.ensures put.puts.bytes in
    let size = ap length whole ∙ length-append c.loop-place.run.rest put.line in
    let fits : length put.line ≤ c.loop-place.run.room =
    omega (arith, few, put.short, c.loop-place.invariant.room, c.if-rest-lt-RUN_BYTES.true) in
    let room = room_left put.line c.loop-place.run.room c.write_line.new.sink.room fits put.puts.room in
    record {
      told = c.write_line.ensures.told ∙ c.loop-place.invariant.told;
      leads = subst (λ (text : List ℕ). Leads ghosts.Carry line from text last) (sym whole)
          (Leads-trans ghosts.Carry line from mid last c.loop-place.run.rest put.line c.loop-place.invariant.leads one);
      later = omega (arith, c.loop-place.invariant.later);
      within = omega (arith, low);
      fits = rw c.loop-place.invariant.told at c.write_line.ensures.fits;
      none = λ before. absurd (omega (arith, before, c.loop-place.invariant.later));
      few = omega (arith, few, size, put.short, c.if-rest-lt-RUN_BYTES.true);
      room = omega (arith, size, room, c.loop-place.invariant.room);
    }
