use Rattle.std.proofs.Common.{ℕ, ◌∙◌, length, refl, sym, ap, subst, arith}
use Rattle.std.proofs.lemmas.List.{get_or_read_under}
use Rattle.residual_graph.specs.Places.{IsPlaceOf, no_place, place_at}
use Rattle.residual_graph.proofs.ByPlace.{between-is, place-at, router-of}
use Rattle.residual_graph.proofs.Reading.{is_of, place_is, sound_of}
use Rattle.residual_graph.proofs.residual.Residual.place.Goals as goal

pub index-requires : goal.index-requires
index-requires c = omega (arith, (is_of c.self.invariant c.args.self.now c.self.view_is).places_fit)

pub returns-clause-value : goal.returns-clause-value
returns-clause-value c =
    let of = is_of c.self.invariant c.args.self.now c.self.view_is in
    get_or_read_under c.self.inside.places.items c.args.at (length c.self.inside.places.items) _ no_place
    c.index.ensures (omega (arith, of.places_fit)) refl
    ∙ place_is of c.args.at c.requires

pub returns-clause-nth : goal.returns-clause-nth
returns-clause-nth c = λ router i low within is.
    returns-clause-value c ∙ ap (place_at c.args.self.now.net) is ∙ place-at c.args.self.now.net router i low within

-- the place is one of an arc that leaves some router
at_router : (c : goal.After-result-1) → (router : ℕ) × IsPlaceOf c.args.self.now.net router c.index.result.now
at_router c =
    let of = is_of c.self.invariant c.args.self.now c.self.view_is in
    let net = c.args.self.now.net in
    let (router, low, from, to) = router-of net of.limits c.args.at c.requires in (
      router,
      subst (IsPlaceOf net router) (sym (returns-clause-value c))
          (between-is net of.limits router c.args.at low from to),
    )

pub returns-clause-arc : goal.returns-clause-arc
returns-clause-arc c = (at_router c).1.arc

pub returns-clause-head : goal.returns-clause-head
returns-clause-head c = (at_router c).1.below

pub returns-clause-sound : goal.returns-clause-sound
returns-clause-sound c = sound_of c.self.invariant c.args.self.now c.self.view_is
