use Rattle.std.proofs.Common.{◌≡◌, ℕ, ◌<◌, List, length, get_or, sym, subst, ◌∙◌, arith}
use Rattle.std.specs.Prelude.{All}
use Rattle.residual_graph.specs.Places.{IsPlaceOf, no_place, place_of}
use Rattle.residual_graph.specs.declared.place.Place.{Place}
use Rattle.residual_graph.proofs.Listed.{each_place, every_place}
use Rattle.residual_graph.proofs.Reading.{is_of, sound_of}
use Rattle.residual_graph.proofs.residual.Residual.places_of.Goals as goal

pub group-requires : goal.group-requires
group-requires c =
    let of = is_of c.self.invariant c.args.self.now c.self.view_is in
    let group = of.group c.args.router c.requires in
    rw (c.deref.ensures.value, c.deref-2.ensures.value) (record {
      router = omega (arith, of.first_fits);
      rises = group.rises;
      ends = omega (arith, group.most, of.places_fit);
    })

pub returns-clause-value : goal.returns-clause-value
returns-clause-value c =
    let of = is_of c.self.invariant c.args.self.now c.self.view_is in
    c.group.ensures
    ∙ rw (c.deref.ensures.value, c.deref-2.ensures.value) (of.group c.args.router c.requires).places_at

pub returns-clause-each : goal.returns-clause-each
returns-clause-each c =
    let of = is_of c.self.invariant c.args.self.now c.self.view_is in
    subst (All (IsPlaceOf c.args.self.now.net c.args.router)) (sym (returns-clause-value c))
    (each_place c.args.self.now.net of.limits c.args.router)

pub returns-clause-every : goal.returns-clause-every
returns-clause-every c = λ arc low leaves.
    subst
    (λ (places : List Place). (i : ℕ) × (i < length places)
    × (get_or places i no_place ≡ place_of c.args.self.now.net arc)) (sym (returns-clause-value c))
    (every_place c.args.self.now.net c.args.router arc low leaves)

pub returns-clause-sound : goal.returns-clause-sound
returns-clause-sound c = sound_of c.self.invariant c.args.self.now c.self.view_is
