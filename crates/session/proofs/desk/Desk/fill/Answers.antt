use Rattle.std.proofs.Common.{◌≤◌, ◌∙◌, ap, subst, sym}
use Rattle.certifier.specs.Blocks.{Carried, Fits, Layout}
use Rattle.session.proofs.Telling.{IsFoundAgain, fills_fewer, fills_held, fills_leads, place_fits, place_within}
use Rattle.session.proofs.desk.Desk.fill.Goals as goal
use Rattle.session.specs.Points.{Work}
use Rattle.session.specs.Reporting.{LaysOut, Tells, size_in}
use Rattle.session.specs.declared.desk.Asked.{Asked}
use Rattle.tree_versions.specs.Records.{record_at, tree_of}

pub tell-requires-clause-within : goal.tell-requires-clause-within
tell-requires-clause-within g c =
    let made = c.record_at-made.result.now in
    let there = c.record_at-made.ensures
    ∙ ap (λ (w : Work Asked Carried). record_at (g.H.Shelf.seen c.args.shelf.now) w.reply.version) c.self.view_is in
    let found : IsFoundAgain (g.H.Shelf.seen c.args.shelf.now) c.args.self.now made =
    record { held = c.requires.held; there = there } in
    subst (λ (w : Work Asked Carried). (layout : Layout) → LaysOut made w.reply.version w.reply.request layout
    → w.at.place ≤ size_in made layout) (sym c.tell.view_is) (place_within found)

pub tell-requires-clause-fits : goal.tell-requires-clause-fits
tell-requires-clause-fits g c =
    let made = c.record_at-made.result.now in
    let there = c.record_at-made.ensures
    ∙ ap (λ (w : Work Asked Carried). record_at (g.H.Shelf.seen c.args.shelf.now) w.reply.version) c.self.view_is in
    let found : IsFoundAgain (g.H.Shelf.seen c.args.shelf.now) c.args.self.now made =
    record { held = c.requires.held; there = there } in
    subst (λ (w : Work Asked Carried). (layout : Layout) → LaysOut made w.reply.version w.reply.request layout
    → Fits (tree_of made) layout w.at.place c.args.self.now.at.carry) (sym c.tell.view_is) (place_fits found)

pub returns-clause-leads : goal.returns-clause-leads
returns-clause-leads g c =
    let made = c.record_at-made.result.now in
    let there = c.record_at-made.ensures
    ∙ ap (λ (w : Work Asked Carried). record_at (g.H.Shelf.seen c.args.shelf.now) w.reply.version) c.self.view_is in
    let found : IsFoundAgain (g.H.Shelf.seen c.args.shelf.now) c.args.self.now made =
    record { held = c.requires.held; there = there } in
    let new = c.tell-2.new.self in
    let tells = subst (λ (w : Work Asked Carried). Tells made w.reply w.at.place c.args.self.now.at.carry new.run
    new.at) c.tell.view_is c.tell-2.ensures.tells in
    fills_leads found new tells

pub returns-clause-fewer : goal.returns-clause-fewer
returns-clause-fewer g c =
    let made = c.record_at-made.result.now in
    let there = c.record_at-made.ensures
    ∙ ap (λ (w : Work Asked Carried). record_at (g.H.Shelf.seen c.args.shelf.now) w.reply.version) c.self.view_is in
    let found : IsFoundAgain (g.H.Shelf.seen c.args.shelf.now) c.args.self.now made =
    record { held = c.requires.held; there = there } in
    let new = c.tell-2.new.self in
    let tells = subst (λ (w : Work Asked Carried). Tells made w.reply w.at.place c.args.self.now.at.carry new.run
    new.at) c.tell.view_is c.tell-2.ensures.tells in
    fills_fewer found new tells c.requires.more

pub returns-clause-held : goal.returns-clause-held
returns-clause-held g c =
    let made = c.record_at-made.result.now in
    let there = c.record_at-made.ensures
    ∙ ap (λ (w : Work Asked Carried). record_at (g.H.Shelf.seen c.args.shelf.now) w.reply.version) c.self.view_is in
    let found : IsFoundAgain (g.H.Shelf.seen c.args.shelf.now) c.args.self.now made =
    record { held = c.requires.held; there = there } in
    let new = c.tell-2.new.self in
    let tells = subst (λ (w : Work Asked Carried). Tells made w.reply w.at.place c.args.self.now.at.carry new.run
    new.at) c.tell.view_is c.tell-2.ensures.tells in
    fills_held found new tells c.tell-2.ensures.sound
    (c.tell-2.ensures.reply ∙ ap (λ (w : Work Asked Carried). w.reply) c.tell.view_is)
