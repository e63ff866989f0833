-- Which routers of a tree are below which: those above one are a chain.
use Rattle.std.proofs.Common.{◌≡◌, ◌≢◌, inl, inr, ℕ, zero, suc, ◌<◌, ◌≤◌, true}
use Rattle.std.proofs.Common.{sym, ◌∙◌, ap, subst, arith, refl}
use Rattle.std.specs.Prelude.{◌==◌}
use Rattle.std.proofs.lemmas.Bool.{cases_eq, false≢true, eq-eqb}
use Rattle.cut_model.specs.Terminals.{root_of}
use Rattle.cut_model.proofs.Terminals.{terminal-lt}
use Rattle.tree_state.specs.Tables.{Table, below}
use Rattle.tree_state.specs.Views.{TreeView, up_of, width_of, HoldsCutTree}
use Rattle.tree_state.proofs.Climbing.{root_hangs}
use Rattle.tree_state.proofs.Decided.{below-up}
use Rattle.tree_state.proofs.Forest.{some_up-suc}
use Rattle.tree_state.proofs.Trees.{hung_of, tree_below-root}
use Rattle.path_minimum.specs.Depths.{depth_of}
use Rattle.path_minimum.specs.Stretches.{below_in}
use Rattle.path_minimum.proofs.Depths.{tree_in, depth_of-suc}

-- ---- one step up

-- the router above one is a router
pub up-within : (tree : TreeView) → HoldsCutTree tree → (r : ℕ) → r < tree.net.routers
    → up_of tree r < tree.net.routers
up-within tree holds r low = terminal-lt tree.net (up_of tree r) (holds.up_is r low)

-- the root hangs from itself
pub top-in : (tree : TreeView) → HoldsCutTree tree → up_of tree (root_of tree.net) ≡ root_of tree.net
top-in tree holds =
    root_hangs tree.net (root_of tree.net) (up_of tree)
    (hung_of tree.net (root_of tree.net) (up_of tree) (width_of tree) holds)

-- a way up of some routers begins with the first
self_within : (up : Table) (n r : ℕ) → 0 < n → below n up r r ≡ true
self_within up zero r some = absurd (omega (arith, some))
self_within up (suc n) r some =
    some_up-suc (λ j. j == r) up n r ∙ rw (eq-eqb r r refl) refl

-- each router is below itself
pub self-in : (tree : TreeView) (r : ℕ) → r < tree.net.routers → below_in tree r r ≡ true
self-in tree r low = self_within (up_of tree) tree.net.routers r (omega (arith, low))

-- what is below another router hangs from one below it
pub above-in : (tree : TreeView) → HoldsCutTree tree → (c r : ℕ) → r < tree.net.routers → r ≢ c
    → below_in tree c r ≡ true → below_in tree c (up_of tree r) ≡ true
above-in tree holds c r low other inside = elim (cases_eq r (root_of tree.net)) [
  | inl top ↦ ap (below_in tree c) (ap (up_of tree) top ∙ top-in tree holds ∙ sym top) ∙ inside
  | inr deep ↦ sym (below-up tree holds c r low deep other) ∙ inside
]

-- and what hangs from a router below another one is below that
pub hanging-in : (tree : TreeView) → HoldsCutTree tree → (c r : ℕ) → r < tree.net.routers
    → below_in tree c (up_of tree r) ≡ true → below_in tree c r ≡ true
hanging-in tree holds c r low above = elim (cases_eq r c) [
  | inl here ↦ subst (λ (q : ℕ). below_in tree q r ≡ true) here (self-in tree r low)
  | inr other ↦ elim (cases_eq r (root_of tree.net)) [
    | inl top ↦ ap (below_in tree c) (top ∙ sym (ap (up_of tree) top ∙ top-in tree holds)) ∙ above
    | inr deep ↦ below-up tree holds c r low deep other ∙ above
  ]
]

-- ---- by induction over depths

-- what is below another router isn't the root
pub low-in : (tree : TreeView) → HoldsCutTree tree → (c r : ℕ) → below_in tree c r ≡ true → r ≢ c → r ≢ root_of tree.net
low-in tree holds c r inside other top = elim (cases_eq c (root_of tree.net)) [
  | inl c_top ↦ other (top ∙ sym c_top)
  | inr c_deep ↦ false≢true (sym (tree_below-root tree.net (tree_in tree holds) c c_deep)
      ∙ sym (ap (below_in tree c) top) ∙ inside)
]

-- so it hangs from one that is a step less deep
low-step : (tree : TreeView) → HoldsCutTree tree → (c r : ℕ) → r < tree.net.routers → below_in tree c r ≡ true
    → r ≢ c → depth_of tree r ≡ suc (depth_of tree (up_of tree r))
low-step tree holds c r low inside other = depth_of-suc tree holds r low (low-in tree holds c r inside other)

-- what is below another router, of at most this depth, lies deeper
deeper_within : (tree : TreeView) → HoldsCutTree tree → (c k r : ℕ) → r < tree.net.routers → depth_of tree r ≤ k
    → below_in tree c r ≡ true → r ≢ c → depth_of tree c < depth_of tree r
deeper_within tree holds c zero r low short inside other =
    absurd (omega (arith, short, low-step tree holds c r low inside other))
deeper_within tree holds c (suc k) r low short inside other =
    let step = low-step tree holds c r low inside other in
    elim (cases_eq (up_of tree r) c) [
      | inl here ↦ omega (arith, step, ap (depth_of tree) here)
      | inr apart ↦ omega (
        arith,
        step,
        deeper_within tree holds c k (up_of tree r) (up-within tree holds r low) (omega (arith, step, short))
            (above-in tree holds c r low other inside) apart,
      )
    ]

-- what is below another router lies deeper
pub deeper-in : (tree : TreeView) → HoldsCutTree tree → (c r : ℕ) → r < tree.net.routers
    → below_in tree c r ≡ true → r ≢ c → depth_of tree c < depth_of tree r
deeper-in tree holds c r low inside other =
    deeper_within tree holds c (depth_of tree r) r low (omega arith) inside other

-- so what is below a router lies no higher
pub no-higher : (tree : TreeView) → HoldsCutTree tree → (c r : ℕ) → r < tree.net.routers
    → below_in tree c r ≡ true → depth_of tree c ≤ depth_of tree r
no-higher tree holds c r low inside = elim (cases_eq r c) [
  | inl here ↦ omega (arith, ap (depth_of tree) here)
  | inr other ↦ omega (arith, deeper-in tree holds c r low inside other)
]

-- what is below a router, of at most this depth, is below all that have that router below them
through_within : (tree : TreeView) → HoldsCutTree tree → (c m k r : ℕ) → r < tree.net.routers
    → depth_of tree r ≤ k → below_in tree c m ≡ true → below_in tree m r ≡ true → below_in tree c r ≡ true
through_within tree holds c m zero r low short outer inner = elim (cases_eq r m) [
  | inl here ↦ ap (below_in tree c) here ∙ outer
  | inr other ↦ absurd (omega (arith, short, low-step tree holds m r low inner other))
]
through_within tree holds c m (suc k) r low short outer inner = elim (cases_eq r m) [
  | inl here ↦ ap (below_in tree c) here ∙ outer
  | inr other ↦ hanging-in tree holds c r low
      (through_within tree holds c m k (up_of tree r) (up-within tree holds r low)
      (omega (arith, short, low-step tree holds m r low inner other)) outer
      (above-in tree holds m r low other inner))
]

-- what is below a router is below all that have that router below them
pub through-in : (tree : TreeView) → HoldsCutTree tree → (c m r : ℕ) → r < tree.net.routers
    → below_in tree c m ≡ true → below_in tree m r ≡ true → below_in tree c r ≡ true
through-in tree holds c m r low outer inner =
    through_within tree holds c m (depth_of tree r) r low (omega arith) outer inner

-- of two routers above one, of at most this depth, the higher one is above the other
chain_within : (tree : TreeView) → HoldsCutTree tree → (c e k r : ℕ) → r < tree.net.routers → depth_of tree r ≤ k
    → below_in tree c r ≡ true → below_in tree e r ≡ true → depth_of tree c ≤ depth_of tree e
    → below_in tree c e ≡ true
chain_within tree holds c e zero r low short one other order = elim (cases_eq r e) [
  | inl here ↦ ap (below_in tree c) (sym here) ∙ one
  | inr apart ↦ absurd (omega (arith, short, low-step tree holds e r low other apart))
]
chain_within tree holds c e (suc k) r low short one other order = elim (cases_eq r e) [
  | inl here ↦ ap (below_in tree c) (sym here) ∙ one
  | inr apart ↦ (
      let lower : r ≢ c =
      λ here. absurd (omega (arith, order, deeper-in tree holds e r low other apart, ap (depth_of tree) here)) in
      chain_within tree holds c e k (up_of tree r) (up-within tree holds r low)
      (omega (arith, short, low-step tree holds e r low other apart)) (above-in tree holds c r low lower one)
      (above-in tree holds e r low apart other) order)
]

-- of two routers above one the higher one is above the other
pub chain-in : (tree : TreeView) → HoldsCutTree tree → (c e r : ℕ) → r < tree.net.routers
    → below_in tree c r ≡ true → below_in tree e r ≡ true → depth_of tree c ≤ depth_of tree e
    → below_in tree c e ≡ true
chain-in tree holds c e r low one other order =
    chain_within tree holds c e (depth_of tree r) r low (omega arith) one other order

-- two routers of one depth above one are the same
pub level-in : (tree : TreeView) → HoldsCutTree tree → (c e r : ℕ) → e < tree.net.routers → r < tree.net.routers
    → below_in tree c r ≡ true → below_in tree e r ≡ true → depth_of tree c ≡ depth_of tree e → c ≡ e
level-in tree holds c e r e_low low one other level = elim (cases_eq e c) [
  | inl here ↦ sym here
  | inr apart ↦ absurd (omega (
    arith,
    deeper-in tree holds c e e_low (chain-in tree holds c e r low one other (omega (arith, level))) apart,
  ))
]
