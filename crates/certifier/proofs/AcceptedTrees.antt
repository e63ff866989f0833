-- What an accepted certificate tells is a cut tree: what is below an edge costs as much as a flow carries from its
-- lower end to the router above, so no cut of the two costs less.
use Rattle.std.proofs.Common.{◌≡◌, ◌≢◌, inl, inr, ℕ, suc, ◌+◌, ◌-◌, ◌<◌, ◌≤◌, true, List, [], ◌∷◌, length}
use Rattle.std.proofs.Common.{sym, ◌∙◌, ap, subst, refl, arith}
use Rattle.std.specs.Prelude.{◌==◌, nat_lt}
use Rattle.std.proofs.lemmas.Bool.{cases_Bool, eqb-true, eqb-false, ne_eqb, ltb-true, ltb-false}
use Rattle.cut_model.specs.Cuts.{IsLeastCut, cut_value}
use Rattle.cut_model.specs.Flow.{IsFlow}
use Rattle.cut_model.specs.Net.{Net}
use Rattle.cut_model.specs.Terminals.{IsTerminal}
use Rattle.cut_model.proofs.Duality.{flow_le}
use Rattle.cut_model.proofs.Terminals.{all_terminals, terminal-lt}
use Rattle.tree_state.specs.Tables.{below}
use Rattle.tree_state.specs.Trees.{IsCutTree}
use Rattle.tree_state.proofs.Trees.{Tree, tree_of_ways, tree_below-self, tree_below-up}
use Rattle.certifier.specs.Blocks.{router_but}
use Rattle.certifier.specs.Kept.{AreNextFrom}
use Rattle.certifier.specs.Trees.{Edge, Told, costs_width, up_by, up_in, width_by, width_in}
use Rattle.certifier.proofs.Keeping.{router_but-before, router_but-behind, router_but-not}
use Rattle.certifier.proofs.Ranges.{each_passes}
use Rattle.certifier.proofs.SoundStages.{AreRight, AreSoundEdges, IsAccepted, IsSoundEdge, told_children}

-- ---- what is above each router

-- a router
up_within : (net : Net) (root : ℕ) (edges : List Edge) → root < net.routers → AreSoundEdges net edges → (r : ℕ)
    → up_by root edges r < net.routers
up_within net root [] root_is sound r = root_is
up_within net root (edge ∷ edges) root_is sound r = elim (cases_Bool (edge.child == r)) [
  | inl here ↦ rw here sound.0.up_is
  | inr there ↦ rw there (up_within net root edges root_is sound.1 r)
]

-- above the root the root
up_root : (root place : ℕ) (edges : List Edge) → AreNextFrom root place (told_children edges)
    → up_by root edges root ≡ root
up_root root place [] next = refl
up_root root place (edge ∷ edges) next =
    rw (ne_eqb edge.child root (λ e. router_but-not root place (sym next.0 ∙ e)))
    (up_root root (suc place) edges next.1)

-- ---- the edge above a router

-- Edges from a place on, each with its flow, and as wide as what is below it costs.
record AreGood (told : Told) (place : ℕ) (edges : List Edge) : Type 0 where
  pub next : AreNextFrom told.root place (told_children edges)
  pub sound : AreSoundEdges told.sheet.net edges
  pub right : AreRight told edges

-- The edge above a router.
record IsFound (told : Told) (edges : List Edge) (c : ℕ) : Type 0 where
  pub edge : Edge
  pub child_is : edge.child ≡ c
  pub up_is : up_by told.root edges c ≡ edge.up
  pub width_is : width_by edges c ≡ edge.width
  pub sound : IsSoundEdge told.sheet.net edge
  pub right : costs_width told edge ≡ true

-- it is found from the place of the router on
found_from : (told : Told) (edges : List Edge) (place i c : ℕ) → AreGood told place edges
    → (place ≤ i) × (i < place + length edges) → router_but told.root i ≡ c → IsFound told edges c
found_from told [] place i c good within is = absurd (omega (arith, within.0, within.1))
found_from told (edge ∷ edges) place i c good within is = elim (cases_Bool (edge.child == c)) [
  | inl here ↦ record {
    edge = edge;
    child_is = eqb-true edge.child c here;
    up_is = rw here refl;
    width_is = rw here refl;
    sound = good.sound.0;
    right = good.right.0;
  }
  | inr there ↦ (
      let later : i ≢ place = λ same. eqb-false edge.child c there
      (good.next.0 ∙ ap (router_but told.root) (sym same) ∙ is) in
      let found : IsFound told edges c = found_from told edges (suc place) i c
      (record { next = good.next.1; sound = good.sound.1; right = good.right.1 })
      (omega (arith, later, within.0), omega (arith, within.1)) is in
      record {
        edge = found.edge;
        child_is = found.child_is;
        up_is = rw there found.up_is;
        width_is = rw there found.width_is;
        sound = found.sound;
        right = found.right;
      })
]

-- each router but the root has one
found : (told : Told) → IsAccepted told → (c : ℕ) → c < told.sheet.net.routers → c ≢ told.root
    → IsFound told told.edges c
found told accepted c low not_root =
    let good : AreGood told 0 told.edges = record {
      next = accepted.sound.children;
      sound = accepted.sound.edges;
      right = accepted.right;
    } in
    elim (cases_Bool (nat_lt c told.root)) [
      | inl before ↦ (let less : c < told.root = ltb-true c told.root before in
          found_from told told.edges 0 c c good
          (omega arith, omega (arith, less, accepted.sound.root_is, accepted.whole))
          (router_but-before told.root c less))
      | inr behind ↦ (let more : told.root < c = omega (arith, not_root, ltb-false c told.root behind) in
          found_from told told.edges 0 (c - 1) c good
          (omega arith, omega (arith, more, low, accepted.whole))
          (router_but-behind told.root (c - 1) (omega (arith, more)) ∙ omega (arith, more)))
    ]

-- ---- the tree

-- The routers hang from the root.
hung : (told : Told) → IsAccepted told → Tree told.sheet.net
hung told accepted =
    tree_of_ways told.sheet.net told.root (up_in told)
    (all_terminals told.sheet.net told.root accepted.sound.root_is)
    (λ i terminal. all_terminals told.sheet.net (up_in told i)
    (up_within told.sheet.net told.root told.edges accepted.sound.root_is accepted.sound.edges i))
    (up_root told.root 0 told.edges accepted.sound.children)
    (λ i terminal. each_passes (below told.sheet.net.routers (up_in told) told.root) told.sheet.net.routers
    accepted.ends i (terminal-lt told.sheet.net i terminal))

-- what is below a router other than the root is a least cut of it from the router above
cut_below : (told : Told) → IsAccepted told → (c : ℕ) → IsTerminal told.sheet.net c → c ≢ told.root
    → IsLeastCut told.sheet.net c (up_in told c) (below told.sheet.net.routers (up_in told) c) (width_in told c)
unfolding hung
cut_below told accepted c terminal not_root = record {
  holds = tree_below-self told.sheet.net (hung told accepted) c not_root terminal;
  lacks = tree_below-up told.sheet.net (hung told accepted) c not_root terminal;
  value = subst (λ (child : ℕ). cut_value told.sheet.net (below told.sheet.net.routers (up_in told) child)
      ≡ above.edge.width) above.child_is
      (eqb-true (cut_value told.sheet.net (below told.sheet.net.routers (up_in told) above.edge.child))
      above.edge.width above.right)
      ∙ sym above.width_is;
  least = flow_le told.sheet.net accepted.sound.sheet.limits c (up_in told c) above.edge.flow (width_in told c) low
      flow;
}
  where
    low : c < told.sheet.net.routers
    low = terminal-lt told.sheet.net c terminal

    above : IsFound told told.edges c
    above = found told accepted c low not_root

    flow : IsFlow told.sheet.net c (up_in told c) above.edge.flow (width_in told c)
    flow = rw (above.up_is, above.width_is)
        (subst (λ (s : ℕ). IsFlow told.sheet.net s above.edge.up above.edge.flow above.edge.width) above.child_is
        above.sound.flow)

-- so it is a cut tree
pub accepted_cut_tree : (told : Told) → IsAccepted told
    → IsCutTree told.sheet.net told.root (up_in told) (width_in told)
accepted_cut_tree told accepted = record {
  root_is = all_terminals told.sheet.net told.root accepted.sound.root_is;
  up_is = λ i low. all_terminals told.sheet.net (up_in told i)
      (up_within told.sheet.net told.root told.edges accepted.sound.root_is accepted.sound.edges i);
  cuts = λ c terminal not_root. cut_below told accepted c terminal not_root;
}
