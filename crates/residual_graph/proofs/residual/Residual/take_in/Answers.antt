use Rattle.std.proofs.Common.{◌++◌, length, take, drop, refl, ap, ◌∙◌, arith}
use Rattle.std.proofs.lemmas.List.{take-append-le, take_all}
use Rattle.residual_graph.specs.Storage.{Lists}
use Rattle.residual_graph.specs.Touched.{Touches}
use Rattle.residual_graph.proofs.Reading.{sound_of}
use Rattle.residual_graph.proofs.Stored.{IsFresh, fresh_stored, fresh_view, written}
use Rattle.residual_graph.proofs.Views.{rooms_are}
use Rattle.residual_graph.proofs.residual.Residual.take_in.Goals as goal

pub keep-requires : goal.keep-requires
keep-requires c =
    let room = rooms_are _ c.args.self.now c.self.view_is in
    omega (
      arith,
      room.1,
      c.requires.links,
      ap length c.links-links.ensures.value,
      ap length c.deref_mut.ensures.value,
      c.self.invariant.kept_room,
    )

pub index_arcs-requires-clause-first : goal.index_arcs-requires-clause-first
index_arcs-requires-clause-first c =
    let room = rooms_are _ c.args.self.now c.self.view_is in
    omega (
      arith,
      room.0,
      c.requires.routers,
      c.routers-self-inside.ensures.value,
      ap length c.deref_mut-2.ensures.value,
      c.self.invariant.first_room,
    )

-- the lists as they are written
abbrev lists_now : goal.After-clear → Lists
lists_now c = record {
  room_routers = c.self.inside.room_routers;
  room_links = c.self.inside.room_links;
  routers = c.routers-self-inside.result;
  links = length c.links-links.result.now;
  first = take c.self.inside.first.len
      (c.index_arcs.new.first ++ drop (length c.index_arcs.new.first) c.self.inside.first.items);
  places = take c.self.inside.places.len
      (c.index_arcs.new.places ++ drop (length c.index_arcs.new.places) c.self.inside.places.items);
  kept = take c.self.inside.kept.len
      (c.keep.new.kept ++ drop (length c.keep.new.kept) c.self.inside.kept.items);
  left = take c.self.inside.left.len
      (c.set_left.new.left ++ drop (length c.set_left.new.left) c.self.inside.left.items);
  touched = c.clear.new.self;
}

-- are those of the network without a flow
fresh : (c : goal.After-clear) → IsFresh (lists_now c) c.args.net.now
fresh c =
    let room = rooms_are _ c.args.self.now c.self.view_is in
    let stored = c.self.invariant in
    let links = c.links-links.ensures.value in
    let routers = c.routers-self-inside.ensures.value in
    let same_first = written c.self.inside.first.len c.index_arcs.new.first
    (drop (length c.index_arcs.new.first) c.self.inside.first.items)
    (omega (arith, c.index_arcs.auto.first, c.deref_mut-2.ensures.len)) in
    let same_places = written c.self.inside.places.len c.index_arcs.new.places
    (drop (length c.index_arcs.new.places) c.self.inside.places.items)
    (omega (arith, c.index_arcs.auto.places, c.deref_mut-3.ensures.len)) in
    let same_kept = written c.self.inside.kept.len c.keep.new.kept
    (drop (length c.keep.new.kept) c.self.inside.kept.items)
    (omega (arith, c.keep.auto.kept, c.deref_mut.ensures.len)) in
    let same_left = written c.self.inside.left.len c.set_left.new.left
    (drop (length c.set_left.new.left) c.self.inside.left.items)
    (omega (arith, c.set_left.auto.left, c.deref_mut-4.ensures.len)) in
    let front = take-append-le (length c.links-links.result.now) c.links-links.result.now
    (drop (length c.links-links.result.now) c.deref_mut.result.now) (omega arith)
    ∙ take_all (length c.links-links.result.now) c.links-links.result.now (omega arith) in record {
      few_routers = stored.few_routers;
      few_links = stored.few_links;
      routers_are = routers;
      routers_fit = omega (arith, room.0, c.requires.routers, routers);
      links_fit = omega (arith, room.1, c.requires.links, ap length links);
      first_room = ap length same_first ∙ c.index_arcs.auto.first ∙ ap length c.deref_mut-2.ensures.value
          ∙ stored.first_room;
      places_room = ap length same_places ∙ c.index_arcs.auto.places ∙ ap length c.deref_mut-3.ensures.value
          ∙ stored.places_room;
      kept_room = ap length same_kept ∙ c.keep.auto.kept ∙ ap length c.deref_mut.ensures.value ∙ stored.kept_room;
      left_room = ap length same_left ∙ c.set_left.auto.left ∙ ap length c.deref_mut-4.ensures.value
          ∙ stored.left_room;
      links_are = ap (take (length c.links-links.result.now)) (same_kept ∙ c.keep.ensures) ∙ front ∙ links;
      limits = c.links-links.ensures.limits;
      indexed = rw (same_first, same_places, ← routers, ← links) c.index_arcs.ensures;
      caps = rw (same_left, ← links) c.set_left.ensures;
      cleared = ap (λ (t : Touches). t.links) c.clear.ensures;
    }

pub invariant_of-self : goal.invariant_of-self
invariant_of-self c = fresh_stored (fresh c)

pub returns-clause-room_routers : goal.returns-clause-room_routers
returns-clause-room_routers c =
    (fresh_view (fresh c)).room_routers_are ∙ (rooms_are _ c.args.self.now c.self.view_is).0

pub returns-clause-room_links : goal.returns-clause-room_links
returns-clause-room_links c =
    (fresh_view (fresh c)).room_links_are ∙ (rooms_are _ c.args.self.now c.self.view_is).1

pub returns-clause-net : goal.returns-clause-net
returns-clause-net c = (fresh_view (fresh c)).net_is

pub returns-clause-flow : goal.returns-clause-flow
returns-clause-flow c = (fresh_view (fresh c)).flow_is

pub returns-clause-sound : goal.returns-clause-sound
returns-clause-sound c = sound_of (fresh_stored (fresh c)) _ refl
