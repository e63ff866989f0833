use Rattle.std.proofs.Common.{◌≡◌, ℕ, List, Bool, None, sym, ◌∙◌}
use Rattle.std.specs.declared.option.Option.{Option}
use Rattle.certifier.specs.Blocks.{Carried}
use Rattle.session.proofs.Answering.{Grows-trans}
use Rattle.session.proofs.Reporting.{IsHeld-grow}
use Rattle.session.specs.Points.{Point}
use Rattle.session.specs.Shelved.{Shelved}
use Rattle.session.specs.Steps.{here_at}
use Rattle.session.specs.Tasks.{end_of}
use Rattle.session.specs.Turns.{Broke, Here, MayBe, StopsBy, TurnGoes, Went}
use Rattle.session.specs.declared.desk.Asked.{Asked}
use Rattle.session.specs.declared.session.SessionEnd.TheVariants.{Done, ReadFault, WriteFault, TooLong}
use Rattle.session.specs.declared.session.Turn.{Turn}
use Rattle.session.specs.declared.session.Turn.TheVariants.{Ended, NotYet}
use Rattle.tree_versions.specs.Records.{Grows}
use Rattle.session.proofs.tests.Client.turn.Goals as goal

-- work that went on found the records that there were
went_grows : (P : Point Asked Carried → Type 0) (alone : Bool) (from : Point Asked Carried) (here : Here)
    → Went P alone from here → Grows from.shelf.seen here.now.shelf.seen
went_grows P alone from here w =
    Grows-trans from.shelf.seen w.on.mid.shelf.seen here.now.shelf.seen w.on.first.grows w.on.second.grows

-- so did any turn
turn_grows : (turn : Turn) (alone : Bool) (from : Point Asked Carried) (here : Here) → TurnGoes turn alone from here
    → Grows from.shelf.seen here.now.shelf.seen
turn_grows NotYet alone from here w = went_grows (StopsBy NotYet) alone from here w
turn_grows (Ended Done) alone from here w = went_grows (StopsBy (Ended Done)) alone from here w
turn_grows (Ended ReadFault) alone from here w = went_grows (StopsBy (Ended ReadFault)) alone from here w
turn_grows (Ended TooLong) alone from here w = went_grows (StopsBy (Ended TooLong)) alone from here w
turn_grows (Ended WriteFault) alone from here w =
    Grows-trans from.shelf.seen w.on.on.mid.shelf.seen here.now.shelf.seen w.on.on.first.grows w.on.on.second.grows

-- a text may be open where a turn didn't end the session
turn_may : (turn : Turn) (alone : Bool) (from : Point Asked Carried) (here : Here) → end_of turn ≡ None
    → TurnGoes turn alone from here → (open_text : Option (List (List ℕ))) × (rest : List ℕ)
    × ((at : Shelved) → MayBe (here_at at here.now.wire here.kept) open_text rest)
turn_may NotYet alone from here none w =
    (w.open_text, w.bytes, λ at. record { text = w.may.text; rest = w.may.rest; unmet = w.may.unmet })
turn_may (Ended end) alone from here none w = absurd (cc)

pub returns-clause-other : goal.returns-clause-other
returns-clause-other g c = λ unended.
    let on = c.requires.on in
    IsHeld-grow _ _ _ (turn_grows c.turn.result _ _ _ (c.turn.ensures.goes on.0 on.1 (on.2 _)))
    (c.requires.other unended)

pub returns-clause-on : goal.returns-clause-on
returns-clause-on g c = λ unended.
    let on = c.requires.on in
    turn_may c.turn.result _ _ _ (sym c.turn.ensures.ended ∙ unended) (c.turn.ensures.goes on.0 on.1 (on.2 _))
