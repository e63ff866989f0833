use Rattle.std.proofs.Common.{refl, ap, arith}
use Rattle.residual_graph.specs.Storage.{Lists}
use Rattle.residual_graph.specs.Touched.{Touches}
use Rattle.residual_graph.proofs.Fresh.{lone, fresh_blank}
use Rattle.residual_graph.proofs.Reading.{sound_of}
use Rattle.residual_graph.proofs.Stored.{IsFresh, fresh_stored, fresh_view}
use Rattle.residual_graph.proofs.residual.Residual.with_room.Goals as goal

-- the lists before the first load
abbrev lists_now : goal.In_ok-with_room → Lists
lists_now c = record {
  room_routers = c.args.routers;
  room_links = c.args.links;
  routers = 1;
  links = 0;
  first = c.in_ok-vec.field-0.items;
  places = c.in_ok-vec-2.field-0.items;
  kept = c.in_ok-vec-3.field-0.items;
  left = c.in_ok-vec-4.field-0.items;
  touched = c.in_ok-with_room.field-0;
}

-- are those of a network of one router and no link
fresh : (c : goal.In_ok-with_room) → IsFresh (lists_now c) lone
fresh c = fresh_blank (record {
  some = c.requires.some;
  few_routers = c.requires.routers;
  few_links = c.requires.links;
  routers = refl;
  links = refl;
  first = c.in_ok-vec.ensures.items_if_clones_equal (λ y e. e);
  places = omega (arith, c.in_ok-vec-2.ensures.len);
  kept = omega (arith, c.in_ok-vec-3.ensures.len);
  left = omega (arith, c.in_ok-vec-4.ensures.len);
  touched = ap (λ (t : Touches). t.links) c.in_ok-with_room.ensures;
})

pub invariant_of-result : goal.invariant_of-result
invariant_of-result c = fresh_stored (fresh c)

pub returns-clause-room_routers : goal.returns-clause-room_routers
returns-clause-room_routers c = (fresh_view (fresh c)).room_routers_are

pub returns-clause-room_links : goal.returns-clause-room_links
returns-clause-room_links c = (fresh_view (fresh c)).room_links_are

pub returns-clause-net : goal.returns-clause-net
returns-clause-net c = (fresh_view (fresh c)).net_is

pub returns-clause-flow : goal.returns-clause-flow
returns-clause-flow c = (fresh_view (fresh c)).flow_is

pub returns-clause-sound : goal.returns-clause-sound
returns-clause-sound c = sound_of (fresh_stored (fresh c)) _ refl
