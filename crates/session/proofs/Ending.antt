-- A session that was begun anew ends as its last turn ended.
use Rattle.std.proofs.Common.{◌≡◌, ℕ, List, [], Bool, true, ap, ◌∙◌}
use Rattle.std.proofs.Common.{◌⊎◌, arith, inl, inr, ◌++◌, ◌∷◌}
use Rattle.session.proofs.Concluding.{breaks, ends, moment_of}
use Rattle.session.proofs.Reporting.{held_owed, held_run}
use Rattle.session.specs.Goings.{IsFresh}
use Rattle.session.specs.Laws.{IsBegun}
use Rattle.session.specs.Points.{Parts, Point, Rest}
use Rattle.certifier.specs.Blocks.{Carried}
use Rattle.session.specs.Reporting.{ReportLine}
use Rattle.session.specs.Sessions.{EndsAs, IsComplete, IsCutShort, IsOver, IsTooLong}
use Rattle.session.specs.Turns.{Here, TurnGoes, point_at}
use Rattle.session.specs.declared.desk.Asked.{Asked}
use Rattle.session.specs.declared.session.SessionEnd.{SessionEnd}
use Rattle.session.specs.declared.session.SessionEnd.TheVariants.{Done, ReadFault, WriteFault, TooLong}
use Rattle.session.specs.declared.session.Turn.TheVariants.{Ended}
use Rattle.text_forms.specs.Items.{Bye, Item}

-- from a fresh start, the last item is a BYE where one was answered
complete : (a b : Point Asked Carried) (bytes : List ℕ) (items : List Item) → IsFresh a
    → Parts a.rest b.rest b.wire.ended bytes items → (b.rest.over ≡ true) ⊎ IsOver b.wire.ended b.wire.left
    → IsComplete b.wire bytes items
complete a b bytes items fresh parts (inr over) = inr over
complete a b bytes items fresh parts (inl over) = of_case (parts.bye over)
  where
    of_case : (a.rest.over ≡ true) ⊎ ((front : List Item) × (items ≡ front ++ Bye ∷ []))
        → IsComplete b.wire bytes items
    of_case (inl e) = absurd (let f = ap (λ (r : Rest). r.over) fresh.rest in cc)
    of_case (inr f) = inl f

-- the work of turns from a fresh start to an end is a session that ends so
pub turn_ends : (end : SessionEnd) (alone : Bool) (a : Point Asked Carried) (here : Here) → IsBegun a here
    → TurnGoes (Ended end) alone a here → EndsAs end alone (moment_of a) here.now
turn_ends Done alone a here begun w =
    let b = point_at here w.open_text w.bytes in
    ends ReportLine alone a b begun.fresh w.why.0.idle w.why.0.none (IsComplete b.wire) w.on begun.most
    (λ bytes items count parts. complete a b bytes items begun.fresh parts w.why.1)
turn_ends ReadFault alone a here begun w =
    let b = point_at here w.open_text w.bytes in
    let on = w.why in
    ends ReportLine alone a b begun.fresh on.through.idle on.through.none (IsCutShort b.wire) w.on begun.most
    (λ bytes items count parts. (omega (arith, count, on.more), on.unmet, parts.quiet on.on))
turn_ends TooLong alone a here begun w =
    let b = point_at here w.open_text w.bytes in
    ends ReportLine alone a b begun.fresh w.why.0.idle w.why.0.none (IsTooLong b.wire) w.on begun.most
    (λ bytes items count parts. (count ∙ w.why.3, w.why.2, parts.quiet w.why.1))
turn_ends WriteFault alone a here begun w =
    let at = point_at here w.open_text w.bytes in
    let b = record at { work = record at.work { run = w.on.run } } in
    let owed = held_owed b.shelf.seen b.work (held_run here.now.shelf.seen here.kept.work w.on.run begun.held) in
    breaks ReportLine alone a b owed.0 begun.few begun.fresh w.on.on owed.1 begun.most
