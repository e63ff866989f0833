-- Jumps that are joined, and the rungs that they make.
use Rattle.std.proofs.Common.{◌≡◌, ◌≢◌, inl, inr, ℕ, ◌+◌, ◌^◌, ◌<◌, ◌≤◌, List, [], ◌∷◌, ◌++◌, length, true}
use Rattle.std.proofs.Common.{get_or, sym, ◌∙◌, ap, subst, arith, refl, length-append}
use Rattle.std.proofs.Math.Pow.{pow_mono}
use Rattle.std.proofs.lemmas.Bool.{cases_eq, cases_lt, false≢true}
use Rattle.std.proofs.lemmas.Grind.{pow_more}
use Rattle.std.proofs.lemmas.List.{get_or_append_left, get_or_push}
use Rattle.cut_model.specs.Terminals.{IsTerminal, root_of}
use Rattle.cut_model.proofs.Terminals.{terminal-lt}
use Rattle.tree_state.specs.Views.{TreeView, up_of, width_of, HoldsCutTree}
use Rattle.tree_state.specs.Paths.{IsLeastEdge, IsOnPath}
use Rattle.path_minimum.specs.declared.least_edge.PathLeast.{PathLeast}
use Rattle.path_minimum.specs.declared.rungs.Jump.{Jump}
use Rattle.path_minimum.specs.Depths.{depth_of}
use Rattle.path_minimum.specs.Jumps.{climb, jump_at, rung_at, AreJumps, AreRungs, AreRungsOf, IsJump}
use Rattle.path_minimum.specs.Jumps.{IsRungOf}
use Rattle.path_minimum.specs.Jumps.{RungView}
use Rattle.path_minimum.specs.Stretches.{below_in}
use Rattle.path_minimum.specs.Walks.{edge_of, IsLesser}
use Rattle.path_minimum.proofs.Ancestors.{no-higher, self-in, above-in, hanging-in, up-within}
use Rattle.path_minimum.proofs.Climbs.{climb-one, climb-sum, climb-root, climb-terminal, climb-below}
use Rattle.path_minimum.proofs.Passing.{IsJumped, passed-none, passed-jump, passed-all, jumped-lower, jumped-on_path}
use Rattle.path_minimum.proofs.Passing.{way-parted}
use Rattle.path_minimum.proofs.Depths.{tree_in, depth_of-suc}
use Rattle.path_minimum.proofs.PathSteps.{on_path-low}

-- an edge comes first of itself
lesser-same : (edge : PathLeast) → IsLesser edge edge edge
lesser-same edge = record {
  either = inl refl;
  before_one = record { least = omega arith; first = λ e. omega arith };
  before_other = record { least = omega arith; first = λ e. omega arith };
}

-- the least edge of a way up that goes on is the lesser one of its parts
joined-least : (tree : TreeView) → HoldsCutTree tree → (steps c : ℕ) (first rest : Jump) (next : PathLeast)
    → IsTerminal tree.net c → c ≢ root_of tree.net → IsJump tree steps c first
    → IsJump tree steps first.router rest → first.router ≢ root_of tree.net
    → IsLesser next (edge_of tree first.child) (edge_of tree rest.child)
    → IsLeastEdge tree.net (up_of tree) (width_of tree) c rest.router next.child
joined-least tree holds steps c first rest next c_is deep one more further lesser =
    passed-all tree holds c w (record { x = w; y = w; least = next })
    (passed-jump tree holds c w (record { x = z; y = w; least = edge_of tree first.child }) w rest.child next
    (passed-jump tree holds c w (record { x = c; y = w; least = edge_of tree first.child }) z first.child
    (edge_of tree first.child)
    (passed-none tree c w first.child c_is w_is (jumped-on_path tree holds c w z first.child c_is front)) front
    (lesser-same (edge_of tree first.child)))
    behind lesser)
    refl
  where
    z : ℕ
    z = first.router

    w : ℕ
    w = rest.router

    z_is : IsTerminal tree.net z
    z_is = subst (IsTerminal tree.net) (sym one.router_is) (climb-terminal tree holds steps c c_is)

    w_is : IsTerminal tree.net w
    w_is = subst (IsTerminal tree.net) (sym more.router_is) (climb-terminal tree holds steps z z_is)

    z_above : below_in tree z c ≡ true
    z_above = subst (λ (r : ℕ). below_in tree r c ≡ true) (sym one.router_is) (climb-below tree holds steps c c_is)

    w_above : below_in tree w z ≡ true
    w_above = subst (λ (r : ℕ). below_in tree r z ≡ true) (sym more.router_is) (climb-below tree holds steps z z_is)

    front : IsJumped tree c w z first.child
    front = jumped-lower tree holds c w z first.child c_is w_is z_is z_above
        (no-higher tree holds w z (terminal-lt tree.net z z_is) w_above) (one.least c_is deep)

    behind : IsJumped tree z w w rest.child
    behind = jumped-lower tree holds z w w rest.child z_is w_is w_is w_above (omega arith) (more.least z_is further)

-- where the first jump ends, so many steps more lead
joined-router : (tree : TreeView) (steps c : ℕ) (first rest : Jump) → IsJump tree steps c first
    → IsJump tree steps first.router rest → rest.router ≡ climb (up_of tree) (steps + steps) c
joined-router tree steps c first rest one more =
    more.router_is ∙ ap (climb (up_of tree) steps) one.router_is ∙ sym (climb-sum (up_of tree) steps steps c)

-- two jumps, one from where the other ends, are one of twice the steps
pub joined-jump : (tree : TreeView) → HoldsCutTree tree → (steps c : ℕ) (first rest : Jump) (next : PathLeast)
    → IsJump tree steps c first → IsJump tree steps first.router rest → first.router ≢ root_of tree.net
    → next.child < tree.net.routers → IsLesser next (edge_of tree first.child) (edge_of tree rest.child)
    → IsJump tree (steps + steps) c (record { router = rest.router; child = next.child })
joined-jump tree holds steps c first rest next one more further low lesser = record {
  router_is = joined-router tree steps c first rest one more;
  router_within = more.router_within;
  child_within = low;
  least = λ c_is deep. joined-least tree holds steps c first rest next c_is deep one more further lesser;
}

-- a jump that ends at the root is one of twice the steps too
pub ended-jump : (tree : TreeView) → HoldsCutTree tree → (steps c : ℕ) (first : Jump) → IsJump tree steps c first
    → first.router ≡ root_of tree.net → IsJump tree (steps + steps) c first
ended-jump tree holds steps c first one top = record {
  router_is = top ∙ sym (climb-root tree holds steps)
      ∙ ap (climb (up_of tree) steps) (sym top ∙ one.router_is) ∙ sym (climb-sum (up_of tree) steps steps c);
  router_within = one.router_within;
  child_within = one.child_within;
  least = one.least;
}

-- ---- rungs

-- what holds of each of a list, and of one more behind it, holds of each of these
pub all-push : {X : Type 0} (P : ℕ → X → Type 0) (xs : List X) (y d : X)
    → ((c : ℕ) → c < length xs → P c (get_or xs c d)) → P (length xs) y
    → (c : ℕ) → c < length (xs ++ y ∷ []) → P c (get_or (xs ++ y ∷ []) c d)
all-push P xs y d before new c low = elim (cases_eq c (length xs)) [
  | inl here ↦ subst (P c) (sym (get_or_push xs y d c (sym here)))
      (subst (λ (k : ℕ). P k y) (sym here) new)
  | inr other ↦ (
      let inside : c < length xs = omega (arith, low, other, length-append xs (y ∷ [])) in
      subst (P c) (sym (get_or_append_left xs (y ∷ []) d c inside)) (before c inside))
]

-- one more is one more
pub length-push : {X : Type 0} (xs : List X) (y : X) → length (xs ++ y ∷ []) ≡ length xs + 1
length-push xs y = omega (arith, length-append xs (y ∷ []))

-- a step up is a jump
pub single-jump : (tree : TreeView) → HoldsCutTree tree → (c : ℕ) → c < tree.net.routers
    → IsJump tree 1 c (record { router = up_of tree c; child = c })
single-jump tree holds c low = record {
  router_is = sym (climb-one (up_of tree) c);
  router_within = up-within tree holds c low;
  child_within = low;
  least = λ c_is deep. record {
    on_path = on_path-low tree.net (tree_in tree holds) c (up_of tree c) c_is (holds.up_is c low)
        (omega (arith, depth_of-suc tree holds c low deep)) (apart deep);
    least = λ e on_path. omega (arith, ap (width_of tree) (only e c_is on_path));
    first = λ e on_path same. omega (arith, only e c_is on_path);
  };
}
  where
    apart : c ≢ root_of tree.net → c ≢ up_of tree c
    apart deep here = absurd (omega (arith, depth_of-suc tree holds c low deep, ap (depth_of tree) here))

    only : (e : ℕ) → IsTerminal tree.net c → IsOnPath tree.net (up_of tree) c (up_of tree c) e → c ≡ e
    only e c_is on_path = elim (cases_eq c e) [
      | inl here ↦ here
      | inr other ↦ (
          let parted = way-parted tree holds c (up_of tree c) e c_is
          (hanging-in tree holds (up_of tree c) c low
          (self-in tree (up_of tree c) (up-within tree holds c low))) on_path in
          absurd (false≢true (sym parted.1 ∙ above-in tree holds e c low other parted.0)))
    ]

-- a jump that is looked up is the one from its router
pub looked-jump : (tree : TreeView) (rung : RungView) (c : ℕ) (jump : Jump) → IsRungOf tree rung
    → c < tree.net.routers → jump ≡ jump_at rung.jumps c → IsJump tree rung.steps c jump
looked-jump tree rung c jump is low looked = subst (IsJump tree rung.steps c) (sym looked) (is.jump_is c low)

-- from each router one of twice the steps: these are all
pub doubled-all : (tree : TreeView) (steps : ℕ) (jumps doubled : List Jump) → AreJumps tree steps jumps
    → length doubled ≡ length jumps
    → ((c : ℕ) → c < length doubled → IsJump tree (steps + steps) c (jump_at doubled c))
    → AreJumps tree (steps + steps) doubled
doubled-all tree steps jumps doubled are count made = record {
  size = count ∙ are.size;
  jump_is = λ c low. made c (omega (arith, low, count, are.size));
}

-- ---- how many rungs

-- where rungs don't reach yet, those that do are more
pub rungs-fewest : (routers count : ℕ) → 2 ^ count < routers → (levels : ℕ) → routers ≤ 2 ^ levels
    → count + 1 ≤ levels
rungs-fewest routers count short levels enough = elim (cases_lt count levels) [
  | inl less ↦ omega (arith, less)
  | inr more ↦ absurd (omega (arith, short, enough, pow_mono more))
]

-- twice a power is the next
pub pow-twice : (n : ℕ) → 2 ^ n + 2 ^ n ≡ 2 ^ (n + 1)
pow-twice n = omega (arith, pow_more 2 n)

-- a tree of more than one router has a rung
pub first-rung : (rungs : List RungView) (tree : TreeView) → AreRungsOf tree rungs → 1 < tree.net.routers
    → 0 < length rungs
first-rung rungs tree are some = elim (cases_eq (length rungs) 0) [
  | inl none ↦ (
      let one : 2 ^ length rungs ≡ 2 ^ 0 = ap (λ (n : ℕ). 2 ^ n) none in
      absurd (omega (arith, some, are.enough, one)))
  | inr more ↦ omega (arith, more)
]

-- the first rung is that of single steps
pub single-rung : (tree : TreeView) (rungs : List RungView) (rung : RungView) → AreRungsOf tree rungs
    → 1 < tree.net.routers → rung ≡ rung_at rungs 0 → (rung.steps ≡ 1) × IsRungOf tree rung
single-rung tree rungs rung are some is = (
  ap (λ (r : RungView). r.steps) is ∙ are.rungs_are.steps_are 0 (first-rung rungs tree are some),
  subst (IsRungOf tree) (sym is) (are.rungs_are.rung_is 0 (first-rung rungs tree are some)),
)

-- its jumps are steps
pub looked-single : (tree : TreeView) (rung : RungView) (c : ℕ) (jump : Jump)
    → (rung.steps ≡ 1) × IsRungOf tree rung → c < tree.net.routers → jump ≡ jump_at rung.jumps c
    → IsJump tree 1 c jump
looked-single tree rung c jump single low looked =
    subst (λ (steps : ℕ). IsJump tree steps c jump) single.0 (looked-jump tree rung c jump single.1 low looked)

-- one more rung, of twice the steps of the last
pub rungs-push : (tree : TreeView) (rungs : List RungView) (rung : RungView) → AreRungs tree rungs
    → IsRungOf tree rung → rung.steps ≡ 2 ^ length rungs → AreRungs tree (rungs ++ rung ∷ [])
rungs-push tree rungs rung are is steps = record {
  rung_is = all-push (λ (level : ℕ) (r : RungView). IsRungOf tree r) rungs rung (record { steps = 0; jumps = [] })
      are.rung_is is;
  steps_are = all-push (λ (level : ℕ) (r : RungView). r.steps ≡ 2 ^ level) rungs rung
      (record { steps = 0; jumps = [] }) are.steps_are steps;
}
