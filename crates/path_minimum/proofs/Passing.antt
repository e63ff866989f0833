-- The least edge that was passed, while two walks up come to meet.
use Rattle.std.proofs.Common.{◌≡◌, ◌≢◌, ◌⊎◌, inl, inr, ℕ, ◌+◌, ◌<◌, ◌≤◌, Bool, true, false, List, slice_index}
use Rattle.std.proofs.Common.{sym, ◌∙◌, ap, subst, arith, refl}
use Rattle.std.proofs.lemmas.Bool.{cases_Bool, cases_lt, false≢true}
use Rattle.cut_model.specs.Cuts.{differ}
use Rattle.cut_model.specs.Terminals.{IsTerminal, root_of}
use Rattle.cut_model.proofs.Terminals.{terminal-lt}
use Rattle.tree_state.specs.Views.{TreeView, up_of, width_of, HoldsCutTree}
use Rattle.tree_state.specs.Paths.{IsOnPath, IsLeastEdge}
use Rattle.path_minimum.specs.declared.least_edge.Ends.{Ends}
use Rattle.path_minimum.specs.declared.least_edge.PathLeast.{PathLeast}
use Rattle.path_minimum.specs.Depths.{depth_of, AreDepthsOf}
use Rattle.path_minimum.specs.declared.rungs.Jump.{Jump}
use Rattle.path_minimum.specs.Jumps.{climb, IsJump}
use Rattle.path_minimum.specs.Passing.{HasPassed, AreApart}
use Rattle.path_minimum.specs.Stretches.{below_in}
use Rattle.path_minimum.specs.Walks.{edge_of, ComesFirst, IsLesser}
use Rattle.path_minimum.proofs.Ancestors.{self-in, through-in, chain-in, level-in, no-higher}
use Rattle.path_minimum.proofs.Climbs.{climb-terminal, climb-below, climb-high, climb-sum, depth-climb, highest-root}
use Rattle.path_minimum.proofs.Depths.{tree_in, depth_of-root, depth_of-lt}
use Rattle.path_minimum.proofs.PathSteps.{on_path-none, on_path-turned, on_path-low}

-- what comes first of an edge that comes first of a third comes first of that
first-first : (one other third : PathLeast) → ComesFirst one other → ComesFirst other third → ComesFirst one third
first-first one other third p q = record {
  least = omega (arith, p.least, q.least);
  first = λ e. omega (
    arith,
    p.least,
    q.least,
    p.first (omega (arith, p.least, q.least)),
    q.first (omega (arith, p.least, q.least)),
  );
}

-- ---- a jump

-- A jump from x to z, on the way from x to y: what is passed has x below it and not y, and e is the least edge of it.
pub record IsJumped (tree : TreeView) (x y z e : ℕ) : Type 0 where
  pub z_is : IsTerminal tree.net z
  pub above : below_in tree z x ≡ true
  pub parts : (c : ℕ) → below_in tree c x ≡ true → below_in tree c z ≡ false → below_in tree c y ≡ false
  pub least : IsLeastEdge tree.net (up_of tree) (width_of tree) x z e

-- truth values that differ, the first of which follows from the second
above-parted : (p q : Bool) → (q ≡ true → p ≡ true) → differ p q ≡ true → (p ≡ true) × (q ≡ false)
above-parted true true up parted = absurd (false≢true parted)
above-parted true false up parted = (refl, refl)
above-parted false true up parted = absurd (false≢true (up refl))
above-parted false false up parted = absurd (false≢true parted)

-- an edge of the way from x up to z has x below it and not z
pub way-parted : (tree : TreeView) → HoldsCutTree tree → (x z c : ℕ) → IsTerminal tree.net x
    → below_in tree z x ≡ true → IsOnPath tree.net (up_of tree) x z c
    → (below_in tree c x ≡ true) × (below_in tree c z ≡ false)
way-parted tree holds x z c x_is above on_path =
    above-parted (below_in tree c x) (below_in tree c z)
    (λ inside. through-in tree holds c z x (terminal-lt tree.net x x_is) inside above) on_path.parting

-- what lies on the rest of the way from z lies on the way from x
jumped-ahead : (tree : TreeView) → HoldsCutTree tree → (x y z e c : ℕ) → IsTerminal tree.net x
    → IsJumped tree x y z e → IsOnPath tree.net (up_of tree) z y c → IsOnPath tree.net (up_of tree) x y c
jumped-ahead tree holds x y z e c x_is jumped ahead = record {
  terminal = ahead.terminal;
  parting = elim (cases_Bool (below_in tree c z)) [
    | inl inside ↦
        rw (through-in tree holds c z x (terminal-lt tree.net x x_is) inside jumped.above)
        (rw inside at ahead.parting)
    | inr outside ↦ behind outside (rw outside at ahead.parting)
  ];
}
  where
    behind : below_in tree c z ≡ false → differ false (below_in tree c y) ≡ true
        → differ (below_in tree c x) (below_in tree c y) ≡ true
    behind outside parted = elim (cases_Bool (below_in tree c x)) [
      | inl inside ↦ absurd (false≢true (sym (rw (jumped.parts c inside outside) refl) ∙ parted))
      | inr lacks ↦ rw lacks parted
    ]

-- the least edge of what is passed lies on the way from x to y
pub jumped-on_path : (tree : TreeView) → HoldsCutTree tree → (x y z e : ℕ) → IsTerminal tree.net x
    → IsJumped tree x y z e → IsOnPath tree.net (up_of tree) x y e
jumped-on_path tree holds x y z e x_is jumped =
    let parted = way-parted tree holds x z e x_is jumped.above jumped.least.on_path in
    record {
      terminal = jumped.least.on_path.terminal;
      parting = rw (parted.0, jumped.parts e parted.0 parted.1) refl;
    }

-- and all that lies on the way from x to y lies on the rest or is no less than that edge
jumped-rest : (tree : TreeView) → (x y z e c : ℕ) → IsJumped tree x y z e
    → IsOnPath tree.net (up_of tree) x y c
    → IsOnPath tree.net (up_of tree) z y c ⊎ ComesFirst (edge_of tree e) (edge_of tree c)
jumped-rest tree x y z e c jumped on_path =
    elim (cases_Bool (differ (below_in tree c z) (below_in tree c y))) [
      | inl ahead ↦ inl (record { terminal = on_path.terminal; parting = ahead })
      | inr alike ↦ inr (record {
        least = jumped.least.least c (passed alike);
        first = jumped.least.first c (passed alike);
      })
    ]
  where
    passed : differ (below_in tree c z) (below_in tree c y) ≡ false → IsOnPath tree.net (up_of tree) x z c
    passed alike = record {
      terminal = on_path.terminal;
      parting = grind (
        arith,
        alike,
        on_path.parting,
        cases_Bool (below_in tree c x),
        cases_Bool (below_in tree c y),
        cases_Bool (below_in tree c z),
      );
    }

-- a jump from the first end passes its least edge
pub passed-jump : (tree : TreeView) → HoldsCutTree tree → (a b : ℕ) (ends : Ends) (z e : ℕ) (next : PathLeast)
    → HasPassed tree a b ends → IsJumped tree ends.x ends.y z e → IsLesser next ends.least (edge_of tree e)
    → HasPassed tree a b (record { x = z; y = ends.y; least = next })
passed-jump tree holds a b ends z e next before jumped lesser = record {
  x_is = jumped.z_is;
  y_is = before.y_is;
  edge = elim lesser.either [
    | inl old ↦ old ∙ before.edge ∙ ap (λ (p : PathLeast). edge_of tree p.child) (sym old)
    | inr new ↦ new ∙ ap (λ (p : PathLeast). edge_of tree p.child) (sym new)
  ];
  on_path = elim lesser.either [
    | inl old ↦ subst (λ (p : PathLeast). IsOnPath tree.net (up_of tree) a b p.child) (sym old) before.on_path
    | inr new ↦ subst (λ (p : PathLeast). IsOnPath tree.net (up_of tree) a b p.child) (sym new)
        (before.ahead e (jumped-on_path tree holds ends.x ends.y z e before.x_is jumped))
  ];
  ahead = λ c ahead. before.ahead c (jumped-ahead tree holds ends.x ends.y z e c before.x_is jumped ahead);
  passed = λ c on_path. elim (before.passed c on_path) [
    | inr behind ↦ inr (first-first next ends.least (edge_of tree c) lesser.before_one behind)
    | inl left ↦ elim (jumped-rest tree ends.x ends.y z e c jumped left) [
      | inl ahead ↦ inl ahead
      | inr least ↦ inr (first-first next (edge_of tree e) (edge_of tree c) lesser.before_other least)
    ]
  ];
}

-- the two ends may change places
pub passed-turned : (tree : TreeView) → HoldsCutTree tree → (a b : ℕ) (ends : Ends) → HasPassed tree a b ends
    → HasPassed tree a b (record { x = ends.y; y = ends.x; least = ends.least })
passed-turned tree holds a b ends before = record {
  x_is = before.y_is;
  y_is = before.x_is;
  edge = before.edge;
  on_path = before.on_path;
  ahead = λ e ahead. before.ahead e (on_path-turned tree.net (tree_in tree holds) ends.y ends.x e ahead);
  passed = λ e ahead. elim (before.passed e ahead) [
    | inl left ↦ inl (on_path-turned tree.net (tree_in tree holds) ends.x ends.y e left)
    | inr behind ↦ inr behind
  ];
}

-- ---- which jumps are on the way

-- one from x to what lies no higher than y
pub jumped-lower : (tree : TreeView) → HoldsCutTree tree → (x y z e : ℕ) → IsTerminal tree.net x
    → IsTerminal tree.net y → IsTerminal tree.net z → below_in tree z x ≡ true
    → depth_of tree y ≤ depth_of tree z → IsLeastEdge tree.net (up_of tree) (width_of tree) x z e
    → IsJumped tree x y z e
jumped-lower tree holds x y z e x_is y_is z_is above order least = record {
  z_is = z_is;
  above = above;
  parts = λ c inside outside. elim (cases_Bool (below_in tree c y)) [
    | inr lacks ↦ lacks
    | inl holds_y ↦ absurd (false≢true (sym outside
        ∙ chain-in tree holds c z x (terminal-lt tree.net x x_is) inside above
        (omega (arith, order, no-higher tree holds c y (terminal-lt tree.net y y_is) holds_y))))
  ];
  least = least;
}

-- two jumps from ends of one depth, of as many steps, that lead to different routers of one depth
pub record AreJumps (tree : TreeView) (ends : Ends) (to_x to_y : ℕ) : Type 0 where
  pub x_is : IsTerminal tree.net to_x
  pub y_is : IsTerminal tree.net to_y
  pub x_above : below_in tree to_x ends.x ≡ true
  pub y_above : below_in tree to_y ends.y ≡ true
  pub level : depth_of tree to_x ≡ depth_of tree to_y
  pub apart : to_x ≢ to_y

-- the first of them is on the way between the ends
pub jumped-apart : (tree : TreeView) → HoldsCutTree tree → (ends : Ends) (to_x to_y e : ℕ)
    → IsTerminal tree.net ends.x → IsTerminal tree.net ends.y → AreJumps tree ends to_x to_y
    → IsLeastEdge tree.net (up_of tree) (width_of tree) ends.x to_x e → IsJumped tree ends.x ends.y to_x e
jumped-apart tree holds ends to_x to_y e x_is y_is jumps least = record {
  z_is = jumps.x_is;
  above = jumps.x_above;
  parts = λ c inside outside. elim (cases_Bool (below_in tree c ends.y)) [
    | inr lacks ↦ lacks
    | inl holds_y ↦ absurd (jumps.apart (level-in tree holds to_x to_y ends.y
        (terminal-lt tree.net to_y jumps.y_is) y_low (shared c inside outside holds_y) jumps.y_above jumps.level))
  ];
  least = least;
}
  where
    x_low : ends.x < tree.net.routers
    x_low = terminal-lt tree.net ends.x x_is

    y_low : ends.y < tree.net.routers
    y_low = terminal-lt tree.net ends.y y_is

    -- what has both ends below it, and not where the first jump leads, is below that
    shared : (c : ℕ) → below_in tree c ends.x ≡ true → below_in tree c to_x ≡ false
        → below_in tree c ends.y ≡ true → below_in tree to_x ends.y ≡ true
    shared c inside outside holds_y = elim (cases_lt (depth_of tree to_x) (depth_of tree c)) [
      | inl deeper ↦ through-in tree holds to_x c ends.y y_low
          (chain-in tree holds to_x c ends.x x_low jumps.x_above inside (omega (arith, deeper))) holds_y
      | inr high ↦ absurd (false≢true (sym outside
          ∙ chain-in tree holds c to_x ends.x x_low inside jumps.x_above high))
    ]

-- ---- ends of one depth

-- ends of one depth that differ aren't the root
pub apart-deep : (tree : TreeView) → HoldsCutTree tree → (steps : ℕ) (ends : Ends) → AreApart tree steps ends
    → 0 < depth_of tree ends.x
apart-deep tree holds steps ends apart = elim (cases_lt 0 (depth_of tree ends.x)) [
  | inl deep ↦ deep
  | inr high ↦ absurd (apart.apart (top ends.x apart.x_is (omega (arith, high))
      ∙ sym (top ends.y apart.y_is (omega (arith, high, apart.level)))))
]
  where
    top : (i : ℕ) → IsTerminal tree.net i → depth_of tree i ≡ 0 → i ≡ root_of tree.net
    top i i_is high = highest-root tree holds i (terminal-lt tree.net i i_is) high

-- and so there is more than one router
pub apart-more : (tree : TreeView) → HoldsCutTree tree → (steps : ℕ) (ends : Ends) → AreApart tree steps ends
    → 1 < tree.net.routers
apart-more tree holds steps ends apart =
    omega (arith, apart-deep tree holds steps ends apart, depth_of-lt tree holds ends.x)

-- a router that isn't of depth 0 isn't the root
pub deep-not_root : (tree : TreeView) → HoldsCutTree tree → (i : ℕ) → 0 < depth_of tree i → i ≢ root_of tree.net
deep-not_root tree holds i deep top =
    let high : depth_of tree i ≡ 0 = ap (depth_of tree) top ∙ depth_of-root tree holds in
    absurd (omega (arith, deep))

-- as many steps from both that lead to different routers lead to such of one depth
pub apart-jumps : (tree : TreeView) → HoldsCutTree tree → (steps more : ℕ) (ends : Ends)
    → AreApart tree more ends → climb (up_of tree) steps ends.x ≢ climb (up_of tree) steps ends.y
    → AreJumps tree ends (climb (up_of tree) steps ends.x) (climb (up_of tree) steps ends.y)
apart-jumps tree holds steps more ends apart differing = record {
  x_is = climb-terminal tree holds steps ends.x apart.x_is;
  y_is = climb-terminal tree holds steps ends.y apart.y_is;
  x_above = climb-below tree holds steps ends.x apart.x_is;
  y_above = climb-below tree holds steps ends.y apart.y_is;
  level = elim (cases_lt (depth_of tree ends.x) steps) [
    | inl high ↦ absurd (differing (climb-high tree holds steps ends.x apart.x_is (omega (arith, high))
        ∙ sym (climb-high tree holds steps ends.y apart.y_is (omega (arith, high, apart.level)))))
    | inr low ↦ omega (
      arith,
      apart.level,
      depth-climb tree holds steps ends.x apart.x_is low,
      depth-climb tree holds steps ends.y apart.y_is (omega (arith, low, apart.level)),
    )
  ];
  apart = differing;
}

-- ---- all the way

-- at first nothing was passed
pub passed-none : (tree : TreeView) → (a b c : ℕ) → IsTerminal tree.net a → IsTerminal tree.net b
    → IsOnPath tree.net (up_of tree) a b c → HasPassed tree a b (record { x = a; y = b; least = edge_of tree c })
passed-none tree a b c a_is b_is on_path = record {
  x_is = a_is;
  y_is = b_is;
  edge = refl;
  on_path = on_path;
  ahead = λ e ahead. ahead;
  passed = λ e ahead. inl ahead;
}

-- where the two meet, all of the path was passed
pub passed-all : (tree : TreeView) → HoldsCutTree tree → (a b : ℕ) (ends : Ends) → HasPassed tree a b ends
    → ends.x ≡ ends.y → IsLeastEdge tree.net (up_of tree) (width_of tree) a b ends.least.child
passed-all tree holds a b ends done meet = record {
  on_path = done.on_path;
  least = λ e on_path. (first e on_path).least;
  first = λ e on_path. (first e on_path).first;
}
  where
    first : (e : ℕ) → IsOnPath tree.net (up_of tree) a b e → ComesFirst (edge_of tree ends.least.child) (edge_of tree e)
    first e on_path = elim (done.passed e on_path) [
      | inr behind ↦ subst (λ (p : PathLeast). ComesFirst p (edge_of tree e)) done.edge behind
      | inl left ↦ absurd (on_path-none tree.net (tree_in tree holds) ends.y e
          (subst (λ (i : ℕ). IsOnPath tree.net (up_of tree) i ends.y e) meet left))
    ]

-- ---- both ends

-- a jump from an end leads to what has the end below it
pub jump-above : (tree : TreeView) → HoldsCutTree tree → (steps c : ℕ) (jump : Jump) → IsTerminal tree.net c
    → IsJump tree steps c jump → IsTerminal tree.net jump.router × (below_in tree jump.router c ≡ true)
jump-above tree holds steps c jump c_is is = (
  subst (IsTerminal tree.net) (sym is.router_is) (climb-terminal tree holds steps c c_is),
  subst (λ (r : ℕ). below_in tree r c ≡ true) (sym is.router_is) (climb-below tree holds steps c c_is),
)

-- it is as many steps higher, where there are so many
pub depth-jump : (tree : TreeView) → HoldsCutTree tree → (steps c : ℕ) (jump : Jump) → IsTerminal tree.net c
    → IsJump tree steps c jump → steps ≤ depth_of tree c → depth_of tree jump.router + steps ≡ depth_of tree c
depth-jump tree holds steps c jump c_is is low =
    omega (arith, ap (depth_of tree) is.router_is, depth-climb tree holds steps c c_is low)

-- Two jumps of as many steps from two ends, which lead to different routers.
pub record AreLooked (tree : TreeView) (steps : ℕ) (ends : Ends) (one other : Jump) : Type 0 where
  pub ends_are : AreApart tree (steps + steps) ends
  pub one_is : IsJump tree steps ends.x one
  pub other_is : IsJump tree steps ends.y other
  pub differ : one.router ≢ other.router

-- where they lead are routers of one depth
looked-jumps : (tree : TreeView) → HoldsCutTree tree → (steps : ℕ) (ends : Ends) (one other : Jump)
    → AreLooked tree steps ends one other → AreJumps tree ends one.router other.router
looked-jumps tree holds steps ends one other looked =
    subst (λ (r : ℕ). AreJumps tree ends one.router r) (sym looked.other_is.router_is)
    (subst (λ (r : ℕ). AreJumps tree ends r (climb (up_of tree) steps ends.y)) (sym looked.one_is.router_is)
    (apart-jumps tree holds steps (steps + steps) ends looked.ends_are
    (λ e. looked.differ (looked.one_is.router_is ∙ e ∙ sym looked.other_is.router_is))))

-- A jump from each of two ends, and the least edge that was passed with the first of them and with both.
pub record Look : Type 0 where
  pub one : Jump
  pub other : Jump
  pub middle : PathLeast
  pub next : PathLeast

-- Each of the two is the lesser one of that before it and the edge of its jump.
pub record AreLesser (tree : TreeView) (least : PathLeast) (look : Look) : Type 0 where
  pub middle : IsLesser look.middle least (edge_of tree look.one.child)
  pub next : IsLesser look.next look.middle (edge_of tree look.other.child)

-- both ends jump
pub passed-both : (tree : TreeView) → HoldsCutTree tree → (steps : ℕ) (ends : Ends) (look : Look)
    → AreLooked tree steps ends look.one look.other → AreLesser tree ends.least look
    → (a b : ℕ) → HasPassed tree a b ends
    → HasPassed tree a b (record { x = look.one.router; y = look.other.router; least = look.next })
passed-both tree holds steps ends look looked lesser a b before =
    let one = look.one in
    let other = look.other in
    let jumps = looked-jumps tree holds steps ends one other looked in
    let x_is = looked.ends_are.x_is in
    let y_is = looked.ends_are.y_is in
    let deep = apart-deep tree holds (steps + steps) ends looked.ends_are in
    let first : HasPassed tree a b (record { x = one.router; y = ends.y; least = look.middle }) =
    passed-jump tree holds a b ends one.router one.child look.middle before
    (jumped-apart tree holds ends one.router other.router one.child x_is y_is jumps
    (looked.one_is.least x_is (deep-not_root tree holds ends.x deep)))
    lesser.middle in
    passed-turned tree holds a b (record { x = other.router; y = one.router; least = look.next })
    (passed-jump tree holds a b (record { x = ends.y; y = one.router; least = look.middle }) other.router other.child
    look.next
    (passed-turned tree holds a b (record { x = one.router; y = ends.y; least = look.middle }) first)
    (jumped-lower tree holds ends.y one.router other.router other.child y_is jumps.x_is jumps.y_is jumps.y_above
    (omega (arith, jumps.level))
    (looked.other_is.least y_is (deep-not_root tree holds ends.y (omega (arith, deep, looked.ends_are.level)))))
    lesser.next)

-- and are then apart by half of what they were
pub apart-after : (tree : TreeView) (holds : HoldsCutTree tree) (steps : ℕ) (ends : Ends) (one other : Jump)
    (next : PathLeast) → AreLooked tree steps ends one other
    → AreApart tree steps (record { x = one.router; y = other.router; least = next })
apart-after tree holds steps ends one other next looked =
    let jumps = looked-jumps tree holds steps ends one other looked in
    record {
      x_is = jumps.x_is;
      y_is = jumps.y_is;
      level = jumps.level;
      apart = jumps.apart;
      meet = ap (climb (up_of tree) steps) looked.one_is.router_is
          ∙ sym (climb-sum (up_of tree) steps steps ends.x) ∙ looked.ends_are.meet
          ∙ climb-sum (up_of tree) steps steps ends.y
          ∙ ap (climb (up_of tree) steps) (sym looked.other_is.router_is);
    }

-- where they would lead to one router, the ends are so near already
pub apart-near : (tree : TreeView) (steps more : ℕ) (ends : Ends) (one other : Jump) → AreApart tree more ends
    → IsJump tree steps ends.x one → IsJump tree steps ends.y other → one.router ≡ other.router
    → AreApart tree steps ends
apart-near tree steps more ends one other apart one_is other_is same = record {
  x_is = apart.x_is;
  y_is = apart.y_is;
  level = apart.level;
  apart = apart.apart;
  meet = sym one_is.router_is ∙ same ∙ other_is.router_is;
}

-- ---- the last steps

-- the edge from one end to the router from which both hang doesn't have the other end below it
meeting-parts : (tree : TreeView) → HoldsCutTree tree → (ends : Ends) (one : Jump) → AreApart tree 1 ends
    → IsJump tree 1 ends.x one → (c : ℕ) → below_in tree c ends.x ≡ true → below_in tree c one.router ≡ false
    → below_in tree c ends.y ≡ false
meeting-parts tree holds ends one apart one_is c inside outside = elim (cases_Bool (below_in tree c ends.y)) [
  | inr lacks ↦ lacks
  | inl holds_y ↦ absurd (apart.apart (sym (here ends.x x_low inside deep_x)
      ∙ here ends.y y_low holds_y (omega (arith, deep_x, apart.level))))
]
  where
    x_low : ends.x < tree.net.routers
    x_low = terminal-lt tree.net ends.x apart.x_is

    y_low : ends.y < tree.net.routers
    y_low = terminal-lt tree.net ends.y apart.y_is

    step : depth_of tree one.router + 1 ≡ depth_of tree ends.x
    step = depth-jump tree holds 1 ends.x one apart.x_is one_is (omega (arith, apart-deep tree holds 1 ends apart))

    deep_x : depth_of tree ends.x ≤ depth_of tree c
    deep_x = elim (cases_lt (depth_of tree one.router) (depth_of tree c)) [
      | inl deeper ↦ omega (arith, deeper, step)
      | inr high ↦ absurd (false≢true (sym outside
          ∙ chain-in tree holds c one.router ends.x x_low inside
          (jump-above tree holds 1 ends.x one apart.x_is one_is).1 high))
    ]

    here : (i : ℕ) → i < tree.net.routers → below_in tree c i ≡ true → depth_of tree i ≤ depth_of tree c → c ≡ i
    here i low inner deep =
        level-in tree holds c i i low low inner (self-in tree i low)
        (omega (arith, deep, no-higher tree holds c i low inner))

-- The jumps of one step from both ends, which lead to one router.
pub record AreLast (tree : TreeView) (ends : Ends) (look : Look) : Type 0 where
  pub ends_are : AreApart tree 1 ends
  pub one_is : IsJump tree 1 ends.x look.one
  pub other_is : IsJump tree 1 ends.y look.other

-- the last edges are passed
pub passed-last : (tree : TreeView) → HoldsCutTree tree → (ends : Ends) (look : Look) → AreLast tree ends look
    → AreLesser tree ends.least look → (a b : ℕ) → HasPassed tree a b ends
    → HasPassed tree a b (record { x = look.other.router; y = look.one.router; least = look.next })
passed-last tree holds ends look last lesser a b before =
    let one = look.one in
    let other = look.other in
    let apart = last.ends_are in
    let one_is = last.one_is in
    let other_is = last.other_is in
    let deep = apart-deep tree holds 1 ends apart in
    let up_x = jump-above tree holds 1 ends.x one apart.x_is one_is in
    let up_y = jump-above tree holds 1 ends.y other apart.y_is other_is in
    let same : one.router ≡ other.router = one_is.router_is ∙ apart.meet ∙ sym other_is.router_is in
    let first : HasPassed tree a b (record { x = one.router; y = ends.y; least = look.middle }) =
    passed-jump tree holds a b ends one.router one.child look.middle before
    (record {
      z_is = up_x.0;
      above = up_x.1;
      parts = meeting-parts tree holds ends one apart one_is;
      least = one_is.least apart.x_is (deep-not_root tree holds ends.x deep);
    })
    lesser.middle in
    passed-jump tree holds a b (record { x = ends.y; y = one.router; least = look.middle }) other.router other.child
    look.next
    (passed-turned tree holds a b (record { x = one.router; y = ends.y; least = look.middle }) first)
    (jumped-lower tree holds ends.y one.router other.router other.child apart.y_is up_x.0 up_y.0 up_y.1
    (omega (arith, ap (depth_of tree) same))
    (other_is.least apart.y_is (deep-not_root tree holds ends.y (omega (arith, deep, apart.level)))))
    lesser.next

-- ---- the two ends at first

-- The pair has the two, in either order.
abbrev pub IsEither : (ℕ × ℕ) → ℕ → ℕ → Type 0
IsEither pair x y = (pair ≡ (x, y)) ⊎ (pair ≡ (y, x))

-- at first nothing was passed of two terminals, the deeper one first, and the edge above that may be the least
pub passed-begun : (tree : TreeView) → HoldsCutTree tree → (a b : ℕ) (pair : ℕ × ℕ) → IsTerminal tree.net a
    → IsTerminal tree.net b → a ≢ b → IsEither pair a b → depth_of tree pair.1 ≤ depth_of tree pair.0
    → HasPassed tree a b (record { x = pair.0; y = pair.1; least = edge_of tree pair.0 })
passed-begun tree holds a b pair a_is b_is apart (inl e) order =
    subst (λ (p : ℕ × ℕ). HasPassed tree a b (record { x = p.0; y = p.1; least = edge_of tree p.0 })) (sym e)
    (passed-none tree a b a a_is b_is
    (on_path-low tree.net (tree_in tree holds) a b a_is b_is
    (subst (λ (p : ℕ × ℕ). depth_of tree p.1 ≤ depth_of tree p.0) e order) apart))
passed-begun tree holds a b pair a_is b_is apart (inr e) order =
    subst (λ (p : ℕ × ℕ). HasPassed tree a b (record { x = p.0; y = p.1; least = edge_of tree p.0 })) (sym e)
    (passed-turned tree holds a b (record { x = a; y = b; least = edge_of tree b })
    (passed-none tree a b b a_is b_is
    (on_path-turned tree.net (tree_in tree holds) b a b
    (on_path-low tree.net (tree_in tree holds) b a b_is a_is
    (subst (λ (p : ℕ × ℕ). depth_of tree p.1 ≤ depth_of tree p.0) e order) (λ same. apart (sym same))))))

-- so many steps that all ways up are shorter lead from both ends to the root
pub apart-begun : (tree : TreeView) → HoldsCutTree tree → (steps : ℕ) (ends : Ends) → IsTerminal tree.net ends.x
    → IsTerminal tree.net ends.y → depth_of tree ends.x ≡ depth_of tree ends.y → ends.x ≢ ends.y
    → tree.net.routers ≤ steps → AreApart tree steps ends
apart-begun tree holds steps ends x_is y_is level apart enough = record {
  x_is = x_is;
  y_is = y_is;
  level = level;
  apart = apart;
  meet = climb-high tree holds steps ends.x x_is (omega (arith, enough, depth_of-lt tree holds ends.x))
      ∙ sym (climb-high tree holds steps ends.y y_is (omega (arith, enough, depth_of-lt tree holds ends.y)));
}

-- both of a pair are below what the two are
pub either-low : (n : ℕ) (pair : ℕ × ℕ) (x y : ℕ) → x < n → y < n → IsEither pair x y
    → (pair.0 < n) × (pair.1 < n)
either-low n pair x y x_low y_low (inl e) = subst (λ (p : ℕ × ℕ). (p.0 < n) × (p.1 < n)) (sym e) (x_low, y_low)
either-low n pair x y x_low y_low (inr e) = subst (λ (p : ℕ × ℕ). (p.0 < n) × (p.1 < n)) (sym e) (y_low, x_low)

-- their order by noted depths is that by their depths
pub ladder-order : (tree : TreeView) (depths : List ℕ) → AreDepthsOf tree depths → (pair : ℕ × ℕ)
    → (pair.0 < tree.net.routers) × (pair.1 < tree.net.routers)
    → slice_index depths pair.1 ≤ slice_index depths pair.0
    → depth_of tree pair.1 ≤ depth_of tree pair.0
ladder-order tree depths are pair low order =
    omega (arith, order, are.depth_is pair.0 low.0, are.depth_is pair.1 low.1)
