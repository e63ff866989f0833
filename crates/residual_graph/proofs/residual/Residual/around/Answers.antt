use Rattle.std.proofs.Common.{◌≡◌, ◌<◌, ◌≤◌, ◌/◌, List, get_or, length, refl, ap, ◌∙◌, arith}
use Rattle.std.proofs.lemmas.List.{get_or_read_under}
use Rattle.std.proofs.lemmas.List.Sums.{sum_by_more}
use Rattle.cut_model.specs.declared.network.TheConstants.{MOST_CAPACITY}
use Rattle.cut_model.specs.declared.network.Link.{Link}
use Rattle.residual_graph.specs.Arcs.{arcs_from, cap_of, no_link}
use Rattle.residual_graph.specs.Places.{no_place}
use Rattle.residual_graph.specs.declared.place.Place.{Place}
use Rattle.residual_graph.proofs.Listed.{few_arcs, get_or-places_from, length-places_from}
use Rattle.residual_graph.proofs.Reading.{cap_small, is_of, kept_is}
use Rattle.residual_graph.proofs.residual.Residual.around.Goals as goal

pub index-requires : goal.index-requires
index-requires c =
    let of = is_of c.self.invariant c.args.self.now c.self.view_is in
    let at = c.places_of-place-items.ensures.each c.loop-place.place-index no_place c.loop-place-test.true in
    omega (arith, at.arc, of.kept_fits)

-- what is added is the capacity of the next arc's link
added : (c : goal.After-index)
    → (c.index.result.now.cap ≡ cap_of c.args.self.now.net
    (get_or (arcs_from c.args.self.now.net c.args.router) c.loop-place.place-index 0))
    × (c.index.result.now.cap ≤ MOST_CAPACITY)
    × (c.loop-place.place-index < length (arcs_from c.args.self.now.net c.args.router))
added c =
    let of = is_of c.self.invariant c.args.self.now c.self.view_is in
    let net = c.args.self.now.net in
    let kept = c.self.inside.kept.items in
    let i = c.loop-place.place-index in
    let arcs = arcs_from net c.args.router in
    let places = c.places_of-place-items in
    let at = places.ensures.each i no_place c.loop-place-test.true in
    let inside : c.loop-place.place-index < length (arcs_from c.args.self.now.net c.args.router) =
    omega (arith, ap length places.ensures.value, length-places_from net c.args.router, c.loop-place-test.true) in
    let place = ap (λ (ps : List Place). get_or ps i no_place) places.ensures.value
    ∙ get_or-places_from net c.args.router i inside in
    let arc = ap (λ (p : Place). p.arc) place in
    let read = get_or_read_under kept ((get_or places.result.now i no_place).arc / 2) (length kept) _ no_link
    c.index.ensures (omega (arith, at.arc, of.kept_fits)) refl
    ∙ kept_is of ((get_or places.result.now i no_place).arc / 2) (omega (arith, at.arc)) in
    let cap = ap (λ (l : Link). l.cap) read in (
      cap ∙ ap (λ a. (get_or net.links (a / 2) no_link).cap) arc,
      omega (
        arith,
        cap,
        cap_small net of.limits ((get_or places.result.now i no_place).arc / 2) (omega (arith, at.arc)),
      ),
      inside,
    )

pub overflow_add-sum : goal.overflow_add-sum
overflow_add-sum c =
    let of = is_of c.self.invariant c.args.self.now c.self.view_is in
    let here = added c in
    omega (arith, here.1, here.2, few_arcs c.args.self.now.net c.args.router, of.few_links)

pub loop-place-preserved : goal.loop-place-preserved
loop-place-preserved c =
    let net = c.args.self.now.net in
    let here = added c in
    let more = sum_by_more (cap_of net) (arcs_from net c.args.router) c.loop-place.place-index 0 here.2 in record {
      total = omega (arith, more, here.0, c.loop-place.invariant.total);
      small = omega (arith, here.1);
    }
