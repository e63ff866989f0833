use Rattle.std.proofs.Common.{Bool, true, [], inl, inr, refl, sym, ap, ◌∙◌, subst}
use Rattle.line_reader.specs.Buffered.{Holds}
use Rattle.session.proofs.Machining.{IsDry, began, end_taken, last_taken, open_once, owed_between}
use Rattle.session.specs.Points.{IsIdle}
use Rattle.session.specs.Shelved.{shelved}
use Rattle.session.specs.Steps.{IsClosed, IsMet, here_at}
use Rattle.session.specs.Taking.{Owing}
use Rattle.session.specs.Turns.{Kept, Went}
use Rattle.text_forms.specs.Items.{items_from}
use Rattle.session.proofs.session.Session.end_input.Goals as goal

pub returns-then-not-last_line-clause-goes : goal.returns-then-not-last_line-clause-goes
returns-then-not-last_line-clause-goes g c = λ from wire met.
    let alone = g.H.Shelf.alone c.args.shelf.now in
    let w = subst (λ (k : Kept). Went IsMet alone from (here_at (shelved g.H.Shelf c.args.shelf.now) wire k))
    (sym c.self.view_is) met in
    let on = ap (λ (k : Kept). k.over) c.self.view_is ∙ c.requires.on in
    let idle = subst (λ (k : Kept). IsIdle k.work) (sym c.self.view_is) c.requires.idle in
    let tells = c.if-not-last_line.ensures.tells w.bytes w.may.rest in
    let new = here_at (shelved g.H.Shelf c.close_input.new.shelf) wire (record {
      intake = c.close_input.new.self.intake;
      reader = c.last_line.new.self;
      over = c.self.inside.over;
      work = c.close_input.new.self.desk;
    }) in
    let b = end_taken alone _ new w.open_text w.bytes [] w.may refl tells.0
    (record { on = on; over = on; count = c.if-not-last_line.ensures.taken }) w.why.met.0 tells.1
    c.close_input.ensures.closed (c.close_input.ensures.owing w.open_text (w.may.text on)) in
    began IsMet alone from _ w new idle b.answer IsClosed
    (record { met = w.why.met; closed = inr (record { between = b.between; none = b.none }) })

pub returns-then-self-clause-goes : goal.returns-then-self-clause-goes
returns-then-self-clause-goes g c = λ from wire met.
    let alone = g.H.Shelf.alone c.args.shelf.now in
    let w = subst (λ (k : Kept). Went IsMet alone from (here_at (shelved g.H.Shelf c.args.shelf.now) wire k))
    (sym c.self.view_is) met in
    let on = ap (λ (k : Kept). k.over) c.self.view_is ∙ c.requires.on in
    let idle = subst (λ (k : Kept). IsIdle k.work) (sym c.self.view_is) c.requires.idle in
    let new = here_at (shelved g.H.Shelf c.take_line-self-inside.new.shelf) wire (record {
      intake = c.take_line-self-inside.new.self.intake;
      reader = c.last_line.new.self;
      over = c.take_line-self-inside.result;
      work = c.take_line-self-inside.new.self.desk;
    }) in
    let b = last_taken alone _ new w.open_text w.bytes c.line.result.now w.may refl c.take_line-self-inside.result
    (record { on = on; over = refl; count = c.if-not-last_line.ensures.taken }) w.why.met.0
    (c.if-not-last_line.ensures.tells w.bytes w.may.rest) c.line.ensures.bytes
    (c.take_line-self-inside.ensures.taken w.open_text (w.may.text on)) in
    began IsMet alone from _ w new idle b.answer IsClosed (record { met = w.why.met; closed = inl c.if-self.true })

pub returns-else-is_idle-clause-goes : goal.returns-else-is_idle-clause-goes
returns-else-is_idle-clause-goes g c = λ from wire met.
    let alone = g.H.Shelf.alone c.args.shelf.now in
    let w = subst (λ (k : Kept). Went IsMet alone from (here_at (shelved g.H.Shelf c.args.shelf.now) wire k))
    (sym c.self.view_is) met in
    let on = ap (λ (k : Kept). k.over) c.self.view_is ∙ c.requires.on in
    let idle = subst (λ (k : Kept). IsIdle k.work) (sym c.self.view_is) c.requires.idle in
    let new = here_at (shelved g.H.Shelf c.take_line-self-inside.new.shelf) wire (record {
      intake = c.take_line-self-inside.new.self.intake;
      reader = c.last_line.new.self;
      over = c.take_line-self-inside.result;
      work = c.take_line-self-inside.new.self.desk;
    }) in
    let b = last_taken alone _ new w.open_text w.bytes c.line.result.now w.may refl c.take_line-self-inside.result
    (record { on = on; over = refl; count = c.if-not-last_line.ensures.taken }) w.why.met.0
    (c.if-not-last_line.ensures.tells w.bytes w.may.rest) c.line.ensures.bytes
    (c.take_line-self-inside.ensures.taken w.open_text (w.may.text on)) in
    let between = owed_between _ _ c.take_line-self-inside.ensures.between
    (c.is_idle.ensures.owed c.if-is_idle.false) in
    began IsMet alone from _ w new idle b.answer IsClosed (record {
      met = w.why.met;
      closed = inr (record {
        between = open_once c.take_line-self-inside.new.self.intake b.answer.open_text2 between
            (b.answer.may.text c.if-self.false);
        none = b.none;
      });
    })

pub returns-then-is_idle-clause-goes : goal.returns-then-is_idle-clause-goes
returns-then-is_idle-clause-goes g c = λ from wire met.
    let alone = g.H.Shelf.alone c.args.shelf.now in
    let w = subst (λ (k : Kept). Went IsMet alone from (here_at (shelved g.H.Shelf c.args.shelf.now) wire k))
    (sym c.self.view_is) met in
    let on = ap (λ (k : Kept). k.over) c.self.view_is ∙ c.requires.on in
    let idle = subst (λ (k : Kept). IsIdle k.work) (sym c.self.view_is) c.requires.idle in
    let mid = here_at (shelved g.H.Shelf c.take_line-self-inside.new.shelf) wire (record {
      intake = c.take_line-self-inside.new.self.intake;
      reader = c.last_line.new.self;
      over = c.take_line-self-inside.result;
      work = c.take_line-self-inside.new.self.desk;
    }) in
    let new = here_at (shelved g.H.Shelf c.close_input-then-is_idle.new.shelf) wire (record {
      intake = c.close_input-then-is_idle.new.self.intake;
      reader = c.last_line.new.self;
      over = c.take_line-self-inside.result;
      work = c.close_input-then-is_idle.new.self.desk;
    }) in
    let b = last_taken alone _ mid w.open_text w.bytes c.line.result.now w.may refl c.take_line-self-inside.result
    (record { on = on; over = refl; count = c.if-not-last_line.ensures.taken }) w.why.met.0
    (c.if-not-last_line.ensures.tells w.bytes w.may.rest) c.line.ensures.bytes
    (c.take_line-self-inside.ensures.taken w.open_text (w.may.text on)) in
    let v = began IsMet alone from _ w mid idle b.answer IsDry (record { met = w.why.met; none = b.none }) in
    let owing = subst (λ (a : Bool). Owing a mid.now.shelf new.now.shelf (items_from true v.open_text []) new.kept.work)
    c.take_line-self-inside.ensures.alone
    (c.close_input-then-is_idle.ensures.owing v.open_text (v.may.text c.if-self.false)) in
    let e = end_taken alone mid new v.open_text v.bytes [] v.may refl v.why.none
    (record { on = c.if-self.false; over = c.if-self.false; count = refl }) v.why.met.0
    (subst (Holds c.last_line.new.self) v.why.none v.may.rest) c.close_input-then-is_idle.ensures.closed owing in
    began IsDry alone from mid v new (c.is_idle.ensures.idle c.if-is_idle.true) e.answer IsClosed
    (record { met = v.why.met; closed = inr (record { between = e.between; none = e.none }) })
