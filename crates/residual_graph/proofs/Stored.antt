-- What a push, a load and an undoing make of the stored lists.
use Rattle.std.proofs.Common.{◌≡◌, ◌≢◌, ℕ, ◌+◌, ◌*◌, ◌/◌, ◌<◌, ◌≤◌, Bool, false, List, [], length, get_or}
use Rattle.std.proofs.Common.{take, ◌++◌, replicate, refl, sym, ap, ◌∙◌, subst, inl, eqb, eq-eqb, arith}
use Rattle.std.proofs.lemmas.Bool.{false≢true}
use Rattle.std.specs.Prelude.{All, pos, ◌≤ℤ◌}
use Rattle.std.specs.Int.RustNames.{bit_xor}
use Rattle.std.proofs.lemmas.Int.{ints}
use Rattle.std.proofs.lemmas.List.{take-append-le, take_all}
use Rattle.std.proofs.lemmas.List.Elements.{All-nil}
use Rattle.cut_model.specs.declared.network.TheConstants.{MOST_ROUTERS, MOST_LINKS}
use Rattle.cut_model.specs.declared.network.Link.{Link}
use Rattle.cut_model.specs.Net.{Net, IsInLimits}
use Rattle.residual_graph.specs.Arcs.{no_link, arc_count}
use Rattle.residual_graph.specs.Fills.{HasCaps, HasCapsBut}
use Rattle.residual_graph.specs.Indexed.{IsIndexed}
use Rattle.residual_graph.specs.Storage.{Lists, flows_at, net_in, view_of, ArePairs, IsStored}
use Rattle.residual_graph.specs.Touched.{Touches, noted_if}
use Rattle.residual_graph.specs.View.{ResidualView, left_on, pushed}
use Rattle.residual_graph.proofs.Moves.{IsPush, along_arc, left_after, push_is}
use Rattle.residual_graph.proofs.Moves.{noted_inside, noted_caps, caps_pairs, caps_flows}
use Rattle.residual_graph.proofs.Reading.{is_of, left_at, length-links}

-- a list that is written back over the whole of another
pub written : {A : Type 0} → (n : ℕ) (xs ys : List A) → length xs ≡ n → take n (xs ++ ys) ≡ xs
written n xs ys e = take-append-le n xs ys (omega arith) ∙ take_all n xs (omega arith)

-- The lists with what is left on the arcs, and the touched links, written anew.
abbrev pub with_left : Lists → List ℕ → Touches → Lists
with_left lists left touched = record lists { left = left; touched = touched }

-- they are stored rightly where these two are
stored_with : {lists : Lists} → IsStored lists → (left : List ℕ) (touched : Touches)
    → length left ≡ length lists.left → ArePairs (net_in lists).links left
    → All (λ i. i < lists.links) touched.links
    → (touched.all ≡ false → HasCapsBut (net_in lists).links left touched.links)
    → IsStored (with_left lists left touched)
stored_with stored left touched size pairs inside all = record {
  few_routers = stored.few_routers;
  few_links = stored.few_links;
  routers_fit = stored.routers_fit;
  links_fit = stored.links_fit;
  first_room = stored.first_room;
  places_room = stored.places_room;
  kept_room = stored.kept_room;
  left_room = size ∙ stored.left_room;
  limits = stored.limits;
  pairs = pairs;
  indexed = stored.indexed;
  touched_inside = inside;
  touched_all = all;
}

-- ---- a push

-- numbers that a test told apart differ
pub told_apart : (a b x y : ℕ) → a ≡ x → b ≡ y → eqb a b ≡ false → x ≢ y
told_apart a b x y ea eb apart same = false≢true (sym apart ∙ eq-eqb a b (ea ∙ same ∙ sym eb))

-- The lists after a push of an amount along an arc, with its link noted or not.
abbrev pub pushed_lists : Lists → ℕ → ℕ → Bool → Lists
pushed_lists lists arc amount still =
    with_left lists (left_after lists.left (along_arc arc amount)) (noted_if still lists.touched (arc / 2))

-- What a push of an amount along an arc needs, and what contracts then see.
pub record PushAt (lists : Lists) (view : ResidualView) (arc amount : ℕ) : Type 0 where
  pub enough : amount ≤ get_or lists.left arc 0
  pub inside : arc < length lists.left
  pub push : IsPush (net_in lists).links lists.left (along_arc arc amount)
  pub stored : (still : Bool) → (still ≡ false → get_or lists.left arc 0 ≢ get_or lists.left (bit_xor arc 1) 0)
      → IsStored (pushed_lists lists arc amount still)
  pub view_is : (still : Bool) → view_of (pushed_lists lists arc amount still)
      ≡ record view { flow = pushed view.flow arc amount }

-- a push as the contract asks for it
pub push_at : {lists : Lists} → IsStored lists → (view : ResidualView) → view_of lists ≡ view
    → (arc amount : ℕ) → arc < arc_count view.net → pos amount ≤ℤ left_on view arc → PushAt lists view arc amount
unfolding view_of
push_at {lists} stored view is arc amount low left_over =
    let links = (net_in lists).links in
    let of = is_of stored view is in
    let size = length-links stored in
    let enough : amount ≤ get_or lists.left arc 0 = omega (arith, ints, left_at stored view is arc low, left_over) in
    let push : IsPush (net_in lists).links lists.left (along_arc arc amount) =
    push_is links lists.left arc amount stored.pairs
    (λ i inside. (stored.limits.within i no_link inside).cap)
    (omega (arith, of.count_is)) (omega (arith, stored.left_room, stored.links_fit)) enough in record {
      enough = enough;
      inside = omega (arith, of.left_fits);
      push = push;
      stored = λ still differs.
          stored_with stored (left_after lists.left (along_arc arc amount)) (noted_if still lists.touched (arc / 2))
          push.size push.pairs
          (noted_inside lists.links lists.touched still (arc / 2) (omega (arith, of.count_is)) stored.touched_inside)
          (noted_caps links lists.left (along_arc arc amount) lists.touched still push differs
          stored.touched_all);
      view_is = λ still.
          ap (λ flow. record (view_of lists) { flow = flow }) push.flows
          ∙ ap (λ (v : ResidualView). record v { flow = pushed v.flow arc amount }) is;
    }

-- ---- no flow

-- the lists whose flows are undone
pub undone_stored : {lists : Lists} → IsStored lists → (left : List ℕ) (cleared : Touches)
    → length left ≡ length lists.left → HasCaps (net_in lists).links left → cleared.links ≡ []
    → IsStored (with_left lists left cleared)
undone_stored {lists} stored left cleared size caps none =
    stored_with stored left cleared size (caps_pairs (net_in lists).links left caps)
    (rw none (All-nil (λ i. i < lists.links))) (λ all i low. inl (caps i low))

-- a view whose flows are undone
pub undone_view : (lists : Lists) (left : List ℕ) (cleared : Touches) (view : ResidualView) → view_of lists ≡ view
    → HasCaps (net_in lists).links left
    → view_of (with_left lists left cleared) ≡ record view { flow = replicate (length view.net.links) (pos 0) }
unfolding view_of
undone_view lists left cleared view is caps =
    ap (λ flow. record (view_of lists) { flow = flow }) (caps_flows (net_in lists).links left caps)
    ∙ ap (λ (v : ResidualView). record v { flow = replicate (length v.net.links) (pos 0) }) is

-- a network with the same number of routers is held just where its links are
pub held_is : (routers : ℕ) (links : List Link) (held net : Net) → record { routers = routers; links = links } ≡ held
    → routers ≡ net.routers → (links ≡ net.links → held ≡ net) × (held ≡ net → links ≡ net.links)
held_is routers links held net is same = (
  λ e. sym is ∙ (λ i. record { routers = same i; links = e i }),
  λ e. ap (λ (n : Net). n.links) (is ∙ e),
)

-- What the lists of a network without a flow are.
pub record IsFresh (lists : Lists) (net : Net) : Type 0 where
  pub few_routers : lists.room_routers ≤ MOST_ROUTERS
  pub few_links : lists.room_links ≤ MOST_LINKS
  pub routers_are : lists.routers ≡ net.routers
  pub routers_fit : lists.routers ≤ lists.room_routers
  pub links_fit : lists.links ≤ lists.room_links
  pub first_room : length lists.first ≡ lists.room_routers + 1
  pub places_room : length lists.places ≡ 2 * lists.room_links
  pub kept_room : length lists.kept ≡ lists.room_links
  pub left_room : length lists.left ≡ 2 * lists.room_links
  pub links_are : (net_in lists).links ≡ net.links
  pub limits : IsInLimits net
  pub indexed : IsIndexed net lists.first lists.places
  pub caps : HasCaps net.links lists.left
  pub cleared : lists.touched.links ≡ []

-- that network is the one that they hold
fresh_net : {lists : Lists} {net : Net} → IsFresh lists net → net ≡ net_in lists
fresh_net fresh = λ i. record { routers = sym fresh.routers_are i; links = sym fresh.links_are i }

-- they are stored rightly
pub fresh_stored : {lists : Lists} {net : Net} → IsFresh lists net → IsStored lists
fresh_stored {lists} fresh =
    let caps : HasCaps (net_in lists).links lists.left =
    subst (λ ls. HasCaps ls lists.left) (sym fresh.links_are) fresh.caps in record {
      few_routers = fresh.few_routers;
      few_links = fresh.few_links;
      routers_fit = fresh.routers_fit;
      links_fit = fresh.links_fit;
      first_room = fresh.first_room;
      places_room = fresh.places_room;
      kept_room = fresh.kept_room;
      left_room = fresh.left_room;
      limits = subst IsInLimits (fresh_net fresh) fresh.limits;
      pairs = caps_pairs (net_in lists).links lists.left caps;
      indexed = subst (λ (n : Net). IsIndexed n lists.first lists.places) (fresh_net fresh) fresh.indexed;
      touched_inside = rw fresh.cleared (All-nil (λ i. i < lists.links));
      touched_all = λ all i low. inl (caps i low);
    }

-- What contracts see of a network without a flow.
pub record IsStill (room_routers room_links : ℕ) (net : Net) (view : ResidualView) : Type 0 where
  pub room_routers_are : view.room_routers ≡ room_routers
  pub room_links_are : view.room_links ≡ room_links
  pub net_is : view.net ≡ net
  pub flow_is : view.flow ≡ replicate (length net.links) (pos 0)

-- that is what they see of fresh lists
pub fresh_view : {lists : Lists} {net : Net} → IsFresh lists net
    → IsStill lists.room_routers lists.room_links net (view_of lists)
unfolding view_of
fresh_view {lists} {net} fresh = record {
  room_routers_are = refl;
  room_links_are = refl;
  net_is = sym (fresh_net fresh);
  flow_is = ap (λ ls. flows_at ls lists.left) fresh.links_are ∙ caps_flows net.links lists.left fresh.caps;
}
