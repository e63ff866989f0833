use Rattle.std.proofs.Common.{subst, sym}
use Rattle.certifier.specs.Blocks.{Carried, Fits}
use Rattle.cut_model.specs.Net.{IsInLimits}
use Rattle.network_text.specs.Sheets.{SheetView}
use Rattle.session.proofs.desk.Desk.tell.Goals as goal
use Rattle.session.specs.Points.{Work}
use Rattle.session.specs.declared.desk.Asked.{Asked}
use Rattle.tree_versions.specs.Records.{tree_of}

pub run_asked-self-inside-requires-clause-fits : goal.run_asked-self-inside-requires-clause-fits
run_asked-self-inside-requires-clause-fits c = λ layout lays.
    subst (λ (w : Work Asked Carried). Fits (tree_of c.args.made.now) layout c.args.from w.at.carry)
    (sym c.self.view_is) (c.requires.fits layout lays)

pub returns-clause-sound : goal.returns-clause-sound
returns-clause-sound c = record {
  limits = subst (λ (s : SheetView). IsInLimits s.net) c.sheet.ensures c.net.ensures.sheet.limits;
  cuts = c.finished.ensures.tree;
}
