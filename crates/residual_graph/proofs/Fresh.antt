-- The lists before the first load.
use Rattle.std.proofs.Common.{◌≡◌, ℕ, ◌+◌, ◌*◌, ◌<◌, ◌≤◌, List, [], length}
use Rattle.std.proofs.Common.{get_or, map, replicate, take, refl, sym, ap, ◌∙◌, arith}
use Rattle.std.proofs.lemmas.List.{get_or-replicate, length-replicate}
use Rattle.std.proofs.lemmas.List.Elements.{All-nil}
use Rattle.cut_model.specs.declared.network.TheConstants.{MOST_ROUTERS, MOST_LINKS}
use Rattle.cut_model.specs.Net.{Net, IsLink, IsInLimits}
use Rattle.residual_graph.specs.Arcs.{arcs_from}
use Rattle.residual_graph.specs.Indexed.{IsGroup}
use Rattle.residual_graph.specs.Places.{begin_of, place_of}
use Rattle.residual_graph.specs.Storage.{Lists}
use Rattle.residual_graph.specs.declared.place.Place.{Place}
use Rattle.residual_graph.proofs.ByPlace.{begin-zero, begin-next}
use Rattle.residual_graph.proofs.Filling.{slice-none}
use Rattle.residual_graph.proofs.Stored.{IsFresh}

-- a network of one router and no link
abbrev pub lone : Net
lone = record { routers = 1; links = [] }

-- has no arcs
no_arcs : (router : ℕ) → arcs_from lone router ≡ []
unfolding arcs_from
no_arcs router = refl

-- and is within the limits
limits_of_lone : IsInLimits lone
limits_of_lone = record {
  some = omega arith;
  few_routers = omega arith;
  few_links = omega arith;
  within = All-nil (IsLink 1);
}

-- its one router's places are none
lone_group : (first : List ℕ) (places : List Place) (router : ℕ) → router < 1 → get_or first router 0 ≡ 0
    → get_or first (router + 1) 0 ≡ 0 → IsGroup lone first places router
lone_group first places router low here next =
    let zero : router ≡ 0 = omega arith in
    let begin : begin_of lone router ≡ 0 = ap (begin_of lone) zero ∙ begin-zero lone in
    let end : begin_of lone (router + 1) ≡ 0 =
    begin-next lone router ∙ (omega (arith, begin, ap length (no_arcs router))) in record {
      begins = here ∙ sym begin;
      ends = next ∙ sym end;
      most = omega arith;
      rises = omega arith;
      places_at = slice-none places (get_or first router 0) (get_or first (router + 1) 0) (here ∙ sym next)
          ∙ ap (λ arcs. map (place_of lone) arcs) (sym (no_arcs router));
    }

-- What the lists are before the first load: they fill the room, for one router and no link.
pub record IsBlank (lists : Lists) : Type 0 where
  pub some : 0 < lists.room_routers
  pub few_routers : lists.room_routers ≤ MOST_ROUTERS
  pub few_links : lists.room_links ≤ MOST_LINKS
  pub routers : lists.routers ≡ 1
  pub links : lists.links ≡ 0
  pub first : lists.first ≡ replicate (lists.room_routers + 1) 0
  pub places : length lists.places ≡ 2 * lists.room_links
  pub kept : length lists.kept ≡ lists.room_links
  pub left : length lists.left ≡ 2 * lists.room_links
  pub touched : lists.touched.links ≡ []

-- so they are those of the network
pub fresh_blank : {lists : Lists} → IsBlank lists → IsFresh lists lone
fresh_blank {lists} blank = record {
  few_routers = blank.few_routers;
  few_links = blank.few_links;
  routers_are = blank.routers;
  routers_fit = omega (arith, blank.routers, blank.some);
  links_fit = omega (arith, blank.links);
  first_room = ap length blank.first ∙ length-replicate (lists.room_routers + 1) 0;
  places_room = blank.places;
  kept_room = blank.kept;
  left_room = blank.left;
  links_are = ap (λ n. take n lists.kept) blank.links;
  limits = limits_of_lone;
  indexed = λ router low.
      lone_group lists.first lists.places router low
      (zero_at router (omega (arith, blank.some))) (zero_at (router + 1) (omega (arith, blank.some)));
  caps = λ i low. absurd (omega arith);
  cleared = blank.touched;
}
  where
    zero_at : (i : ℕ) → i < lists.room_routers + 1 → get_or lists.first i 0 ≡ 0
    zero_at i low =
        ap (λ (xs : List ℕ). get_or xs i 0) blank.first ∙ get_or-replicate (lists.room_routers + 1) i 0 0 low
