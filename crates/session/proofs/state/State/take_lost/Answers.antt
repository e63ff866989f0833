use Rattle.std.proofs.Common.{true, sym, ◌∙◌}
use Rattle.network_text.specs.Texts.{verdict_of}
use Rattle.session.proofs.Loading.{ended_taken, more_taken, want_loads}
use Rattle.session.proofs.state.State.take_lost.Goals as goal

pub returns-then-is_end-clause-taken : goal.returns-then-is_end-clause-taken
returns-then-is_end-clause-taken g c = λ text.
    ended_taken text c.args.line.now (sym c.is_end.ensures ∙ c.if-is_end.true) (record {
      none = c.refuse_load.ensures.whole;
      loads = want_loads c.refuse_load.ensures.looks (verdict_of text true) c.refuse_load.ensures.reply;
    })

pub returns-else-is_end-clause-taken : goal.returns-else-is_end-clause-taken
returns-else-is_end-clause-taken g c = λ text.
    more_taken text _ c.args.line.now (g.H.Shelf.few c.args.shelf.now) c.requires.idle
    (sym c.is_end.ensures ∙ c.if-is_end.false) tt
