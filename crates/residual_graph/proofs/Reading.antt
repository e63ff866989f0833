-- What a call that reads may rely on at a router, at a place, at an arc and at a link.
use Rattle.std.proofs.Common.{◌≡◌, ℕ, ◌+◌, ◌-◌, ◌*◌, ◌<◌, ◌≤◌, List, length}
use Rattle.std.proofs.Common.{get_or, sym, ap, ◌∙◌, subst, inl, inr, arith}
use Rattle.std.specs.Prelude.{pos, ◌-ℤ◌}
use Rattle.std.proofs.lemmas.Bool.{cases_lt}
use Rattle.std.proofs.lemmas.List.{get_or-take, length-take-le}
use Rattle.cut_model.specs.declared.network.TheConstants.{MOST_ROUTERS, MOST_LINKS, MOST_CAPACITY}
use Rattle.cut_model.specs.declared.network.Link.{Link}
use Rattle.cut_model.specs.Net.{Net, IsInLimits}
use Rattle.residual_graph.specs.Arcs.{no_link, arc_count}
use Rattle.residual_graph.specs.Indexed.{IsGroup}
use Rattle.residual_graph.specs.Places.{begin_of, no_place, place_at}
use Rattle.residual_graph.specs.Storage.{Lists, flow_at, net_in, view_of, IsStored}
use Rattle.residual_graph.specs.View.{ResidualView, IsSound, left_on}
use Rattle.residual_graph.proofs.ByPlace.{stored-at}
use Rattle.residual_graph.proofs.Views.{flow_is, flows_within, get_or-flows_at, left_is, net_is}

-- What the stored lists are of the view.
pub record IsOf (lists : Lists) (view : ResidualView) : Type 0 where
  pub routers_are : lists.routers ≡ view.net.routers
  pub links_are : (net_in lists).links ≡ view.net.links
  pub count_is : lists.links ≡ length view.net.links
  pub limits : IsInLimits view.net
  pub group : (router : ℕ) → router < view.net.routers → IsGroup view.net lists.first lists.places router
  pub first_fits : view.net.routers < length lists.first
  pub places_fit : arc_count view.net ≤ length lists.places
  pub kept_fits : length view.net.links ≤ length lists.kept
  pub left_fits : arc_count view.net ≤ length lists.left
  pub few_routers : view.net.routers ≤ MOST_ROUTERS
  pub few_links : length view.net.links ≤ MOST_LINKS

-- the network has as many links as the lists say
pub length-links : {lists : Lists} → IsStored lists → length (net_in lists).links ≡ lists.links
length-links {lists} stored = length-take-le lists.links lists.kept (omega (arith, stored.links_fit, stored.kept_room))

-- stored lists are of the view that they mean
pub is_of : {lists : Lists} → IsStored lists → (view : ResidualView) → view_of lists ≡ view → IsOf lists view
is_of {lists} stored view is =
    let net : net_in lists ≡ view.net = net_is lists view is in
    let count : lists.links ≡ length view.net.links =
    sym (length-links stored) ∙ ap (λ (n : Net). length n.links) net in
    let same : lists.routers ≡ view.net.routers = ap (λ (n : Net). n.routers) net in record {
      routers_are = same;
      links_are = ap (λ (n : Net). n.links) net;
      count_is = count;
      limits = subst IsInLimits net stored.limits;
      group = λ router low.
          subst (λ (n : Net). IsGroup n lists.first lists.places router) net
          (stored.indexed router (omega (arith, same, low)));
      first_fits = omega (arith, same, stored.first_room, stored.routers_fit);
      places_fit = omega (arith, count, stored.places_room, stored.links_fit);
      kept_fits = omega (arith, count, stored.kept_room, stored.links_fit);
      left_fits = omega (arith, count, stored.left_room, stored.links_fit);
      few_routers = omega (arith, same, stored.routers_fit, stored.few_routers);
      few_links = omega (arith, count, stored.links_fit, stored.few_links);
    }

-- what a view is worth to callers
pub sound_of : {lists : Lists} → IsStored lists → (view : ResidualView) → view_of lists ≡ view → IsSound view
unfolding view_of
sound_of {lists} stored view is = subst IsSound is (record {
  routers = stored.routers_fit;
  links = omega (arith, length-links stored, stored.links_fit);
  room_routers = stored.few_routers;
  room_links = stored.few_links;
  limits = stored.limits;
  within = flows_within (net_in lists).links lists.left stored.pairs;
})

-- ---- by place

-- where a router's places begin
pub record IsBegin (first : List ℕ) (net : Net) (router : ℕ) : Type 0 where
  pub is : get_or first router 0 ≡ begin_of net router
  pub most : get_or first router 0 ≤ arc_count net

-- it is stored, behind the last router too
pub begin_is : {lists : Lists} {view : ResidualView} → IsOf lists view → (router : ℕ) → router ≤ view.net.routers
    → IsBegin lists.first view.net router
begin_is {lists} {view} of router low = elim (cases_lt router view.net.routers) [
  | inl less ↦
      let group = of.group router less in
      record { is = group.begins; most = omega (arith, group.rises, group.most) }
  | inr last ↦
      let some = of.limits.some in
      let next : router - 1 + 1 ≡ router = omega arith in
      let group = of.group (router - 1) (omega arith) in
      record {
        is = subst (λ r. get_or lists.first r 0 ≡ begin_of view.net r) next group.ends;
        most = subst (λ r. get_or lists.first r 0 ≤ arc_count view.net) next group.most;
      }
]

-- what stands at a place
pub place_is : {lists : Lists} {view : ResidualView} → IsOf lists view → (at : ℕ) → at < arc_count view.net
    → get_or lists.places at no_place ≡ place_at view.net at
place_is {lists} {view} of at low = stored-at view.net of.limits lists.first lists.places of.group at low

-- ---- by link

-- a kept link is the network's
pub kept_is : {lists : Lists} {view : ResidualView} → IsOf lists view → (i : ℕ) → i < length view.net.links
    → get_or lists.kept i no_link ≡ get_or view.net.links i no_link
kept_is {lists} of i low =
    sym (get_or-take lists.links lists.kept i no_link (omega (arith, of.count_is)))
    ∙ ap (λ (ls : List Link). get_or ls i no_link) of.links_are

-- its capacity is within the limit
pub cap_small : (net : Net) → IsInLimits net → (i : ℕ) → i < length net.links
    → (get_or net.links i no_link).cap ≤ MOST_CAPACITY
cap_small net limits i low = (limits.within i no_link low).cap

-- what is stored of an arc is what is left on it
pub left_at : {lists : Lists} → IsStored lists → (view : ResidualView) → view_of lists ≡ view
    → (arc : ℕ) → arc < arc_count view.net → pos (get_or lists.left arc 0) ≡ left_on view arc
left_at {lists} stored view is arc low =
    let of = is_of stored view is in
    sym (left_is lists stored.pairs arc (omega (arith, of.count_is, length-links stored))) ∙ ap (λ v. left_on v arc) is

-- the capacity less what is left on the first arc is the flow, and what is left is at most twice the capacity
pub record IsFlowAt (lists : Lists) (view : ResidualView) (i : ℕ) : Type 0 where
  pub is : flow_at lists.kept lists.left i ≡ get_or view.flow i (pos 0)
  pub cap : (get_or lists.kept i no_link).cap ≤ MOST_CAPACITY
  pub most : get_or lists.left (2 * i) 0 ≤ 2 * MOST_CAPACITY

-- they are stored so
pub flow_at_link : {lists : Lists} → IsStored lists → (view : ResidualView) → view_of lists ≡ view
    → (i : ℕ) → i < length view.net.links → IsFlowAt lists view i
flow_at_link {lists} stored view is i low =
    let links = (net_in lists).links in
    let of = is_of stored view is in
    let own : i < lists.links = omega (arith, of.count_is) in
    let inside : i < length (net_in lists).links = omega (arith, length-links stored) in
    let same : get_or links i no_link ≡ get_or lists.kept i no_link =
    get_or-take lists.links lists.kept i no_link own in
    let cap : (get_or lists.kept i no_link).cap ≤ MOST_CAPACITY =
    subst (λ (l : Link). l.cap ≤ MOST_CAPACITY) same (stored.limits.within i no_link inside).cap in record {
      is = ap (λ (l : Link). pos l.cap -ℤ pos (get_or lists.left (2 * i) 0)) (sym same)
          ∙ sym (get_or-flows_at links lists.left i inside)
          ∙ ap (λ flow. get_or flow i (pos 0)) (flow_is lists view is);
      cap = cap;
      most = omega (arith, cap, stored.pairs i inside, ap (λ (l : Link). l.cap) same);
    }
