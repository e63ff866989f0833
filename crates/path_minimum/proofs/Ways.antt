-- The way from a terminal up to another one, without the last, and where two ways up meet.
use Rattle.std.proofs.Common.{◌≡◌, ◌≢◌, inl, inr, ℕ, zero, suc, ◌-◌, ◌<◌, ◌≤◌, Bool, true, false, ◌||◌}
use Rattle.std.proofs.Common.{List, [], ◌∷◌, length, sym, ◌∙◌, ap, subst, arith, refl}
use Rattle.std.specs.Prelude.{◌==◌}
use Rattle.std.specs.List.{list_any}
use Rattle.std.proofs.lemmas.Bool.{cases_Bool, cases_eq, cases_lt, false≢true, ne_eqb, and_parts}
use Rattle.cut_model.specs.Net.{Net}
use Rattle.cut_model.specs.Cuts.{RouterSet, differ}
use Rattle.cut_model.specs.Terminals.{IsTerminal}
use Rattle.tree_state.specs.Tables.{Table, way_up, below}
use Rattle.tree_state.specs.Views.{TreeView, up_of, HoldsCutTree}
use Rattle.tree_state.proofs.Trees.{Tree, tree_below, tree_below_is, tree_below-self, tree_below-high}
use Rattle.path_minimum.specs.Depths.{depth_of}
use Rattle.path_minimum.specs.Paths.{IsOnPathAbove}
use Rattle.path_minimum.specs.Walks.{way_between, IsMeeting}
use Rattle.path_minimum.proofs.Depths.{tree_in}

-- ---- who is below whom

-- what is below another terminal lies deeper
pub below-deeper : (net : Net) (t : Tree net) (c i : ℕ) → IsTerminal net i → tree_below net t c i ≡ true → i ≢ c
    → t.depth c < t.depth i
below-deeper net t c i i_is inside apart = elim (cases_eq c t.root) [
  | inl e ↦ (let top : t.depth c ≡ 0 = ap t.depth e ∙ t.depth_root in
      omega (arith, t.step i i_is (λ q. apart (q ∙ sym e))))
  | inr not_root ↦ elim (cases_lt (t.depth c) (t.depth i)) [
    | inl deeper ↦ deeper
    | inr high ↦ absurd (false≢true (sym (tree_below-high net t c i not_root i_is high apart) ∙ inside))
  ]
]

-- and so is the router above it below that terminal
pub below-above : (net : Net) (t : Tree net) (c i : ℕ) → IsTerminal net i → tree_below net t c i ≡ true → i ≢ c
    → tree_below net t c (t.up i) ≡ true
below-above net t c i i_is inside apart = elim (cases_eq c t.root) [
  | inl e ↦ rw e (t.meets (t.up i) (t.up_is i i_is))
  | inr not_root ↦
      rw (ne_eqb i c apart) at (sym (tree_below_is net t c i not_root i_is) ∙ inside)
]

-- a terminal is below itself
pub below-self : (net : Net) (t : Tree net) (c : ℕ) → IsTerminal net c → tree_below net t c c ≡ true
below-self net t c c_is = elim (cases_eq c t.root) [
  | inl e ↦ subst (λ (r : ℕ). tree_below net t r c ≡ true) (sym e) (t.meets c c_is)
  | inr not_root ↦ tree_below-self net t c not_root c_is
]

-- what has the router above a terminal below it has the terminal below it
through_step : (net : Net) (t : Tree net) (c i : ℕ) → IsTerminal net i → tree_below net t c (t.up i) ≡ true
    → tree_below net t c i ≡ true
through_step net t c i i_is above = elim (cases_eq c t.root) [
  | inl e ↦ subst (λ (r : ℕ). tree_below net t r i ≡ true) (sym e) (t.meets i i_is)
  | inr not_root ↦ rw (tree_below_is net t c i not_root i_is, above) (grind (arith, cases_Bool (i == c)))
]

-- the same for a router of at most this depth, by induction over it
below-through_within : (net : Net) (t : Tree net) (c m k i : ℕ) → IsTerminal net i → t.depth i ≤ k
    → tree_below net t c m ≡ true → tree_below net t m i ≡ true → tree_below net t c i ≡ true
below-through_within net t c m zero i i_is low outer inner = elim (cases_eq i m) [
  | inl here ↦ subst (λ (r : ℕ). tree_below net t c r ≡ true) (sym here) outer
  | inr apart ↦ absurd (omega (arith, below-deeper net t m i i_is inner apart))
]
below-through_within net t c m (suc k) i i_is low outer inner = elim (cases_eq i m) [
  | inl here ↦ subst (λ (r : ℕ). tree_below net t c r ≡ true) (sym here) outer
  | inr apart ↦ elim (cases_eq i t.root) [
    | inl top ↦ absurd (omega (arith, below-deeper net t m i i_is inner apart, ap t.depth top, t.depth_root))
    | inr low_down ↦ through_step net t c i i_is
        (below-through_within net t c m k (t.up i) (t.up_is i i_is) (omega (arith, t.step i i_is low_down)) outer
        (below-above net t m i i_is inner apart))
  ]
]

-- what is below a terminal is below all that have that terminal below them
pub below-through : (net : Net) (t : Tree net) (c m i : ℕ) → IsTerminal net i → tree_below net t c m ≡ true
    → tree_below net t m i ≡ true → tree_below net t c i ≡ true
below-through net t c m i i_is outer inner =
    below-through_within net t c m (t.depth i) i i_is (omega arith) outer inner

-- ---- the way up to another terminal

-- The way from a terminal of a tree up to another one, without the last.
unfoldable pub way : (net : Net) → Tree net → ℕ → ℕ → List ℕ
way net t from to = way_up t.up (t.depth from - t.depth to) from

-- there is none from a terminal to itself
pub way-none : (net : Net) (t : Tree net) (to : ℕ) → way net t to to ≡ []
unfolding way
way-none net t to = let e : t.depth to - t.depth to ≡ 0 = omega arith in rw e refl

-- from any other it begins there, and goes on from the router above
pub way-suc : (net : Net) (t : Tree net) (from to : ℕ) → IsTerminal net from → tree_below net t to from ≡ true
    → from ≢ to → way net t from to ≡ from ∷ way net t (t.up from) to
unfolding way
way-suc net t from to from_is inside apart =
    let deeper : t.depth to < t.depth from = below-deeper net t to from from_is inside apart in
    let step : t.depth from ≡ suc (t.depth (t.up from)) =
    t.step from from_is (λ e. let top : t.depth from ≡ 0 = ap t.depth e ∙ t.depth_root in omega arith) in
    let e : t.depth from - t.depth to ≡ suc (t.depth (t.up from) - t.depth to) = omega arith in
    rw e refl

-- a way up of n routers has n
length-way_up : (up : Table) (n i : ℕ) → length (way_up up n i) ≡ n
length-way_up up zero i = refl
length-way_up up (suc n) i = ap (λ (k : ℕ). suc k) (length-way_up up n (up i))

-- ---- the routers of a way

-- The members of a list.
abbrev pub among : List ℕ → RouterSet
among xs c = list_any (λ j. j == c) xs

-- what has the beginning below it is on the way, or has the end below it
among-way_within : (net : Net) (t : Tree net) (c to k from : ℕ) → IsTerminal net from → IsTerminal net to
    → t.depth from ≤ k → tree_below net t to from ≡ true
    → tree_below net t c from ≡ (among (way net t from to) c || tree_below net t c to)
among-way_within net t c to zero from from_is to_is low inside = elim (cases_eq from to) [
  | inl here ↦ rw (here, way-none net t to) refl
  | inr apart ↦ absurd (omega (arith, below-deeper net t to from from_is inside apart))
]
among-way_within net t c to (suc k) from from_is to_is low inside = elim (cases_eq from to) [
  | inl here ↦ rw (here, way-none net t to) refl
  | inr apart ↦ (
      let step : t.depth from ≡ suc (t.depth (t.up from)) =
      t.step from from_is (λ e.
      let top : t.depth from ≡ 0 = ap t.depth e ∙ t.depth_root in
      let deeper : t.depth to < t.depth from = below-deeper net t to from from_is inside apart in omega arith) in
      let rest : tree_below net t c (t.up from) ≡ (among (way net t (t.up from) to) c || tree_below net t c to) =
      among-way_within net t c to k (t.up from) (t.up_is from from_is) to_is (omega arith)
      (below-above net t to from from_is inside apart) in
      rw (way-suc net t from to from_is inside apart) (elim (cases_eq c t.root) [
        | inl e ↦ rw (e, t.meets from from_is, t.meets to to_is)
            (grind (arith, cases_Bool (from == t.root), cases_Bool (among (way net t (t.up from) to) t.root)))
        | inr not_root ↦ rw (tree_below_is net t c from not_root from_is, rest)
            (grind (
              arith,
              cases_Bool (from == c),
              cases_Bool (among (way net t (t.up from) to) c),
              cases_Bool (tree_below net t c to),
            ))
      ]))
]

-- What a router of a way is: a terminal that lies deeper than the end.
pub record IsDeeper (net : Net) (t : Tree net) (to c : ℕ) : Type 0 where
  pub terminal : IsTerminal net c
  pub deeper : t.depth to < t.depth c

-- each router of the way is one
among-deeper : (net : Net) (t : Tree net) (c to k from : ℕ) → IsTerminal net from → t.depth from ≤ k
    → tree_below net t to from ≡ true → among (way net t from to) c ≡ true → IsDeeper net t to c
among-deeper net t c to zero from from_is low inside on_way = elim (cases_eq from to) [
  | inl here ↦ absurd (false≢true (rw (here, way-none net t to) at on_way))
  | inr apart ↦ absurd (omega (arith, below-deeper net t to from from_is inside apart))
]
among-deeper net t c to (suc k) from from_is low inside on_way = elim (cases_eq from to) [
  | inl here ↦ absurd (false≢true (rw (here, way-none net t to) at on_way))
  | inr apart ↦ (
      let deeper : t.depth to < t.depth from = below-deeper net t to from from_is inside apart in
      elim (cases_eq from c) [
        | inl e ↦ subst (IsDeeper net t to) e (record { terminal = from_is; deeper = deeper })
        | inr ne ↦ among-deeper net t c to k (t.up from) (t.up_is from from_is)
            (omega (
              arith,
              t.step from from_is (λ e.
                  let top : t.depth from ≡ 0 = ap t.depth e ∙ t.depth_root in omega arith),
            ))
            (below-above net t to from from_is inside apart)
            (rw (ne_eqb from c ne) at (rw (way-suc net t from to from_is inside apart) at on_way))
      ])
]

-- ---- where two ways up meet

-- what a and b have in common is what b and a have
pub meeting-turned : (net : Net) (up : Table) (a b m : ℕ) → IsMeeting net up a b m → IsMeeting net up b a m
meeting-turned net up a b m meeting = record {
  terminal = meeting.terminal;
  shared = λ c. meeting.shared c
      ∙ grind (arith, cases_Bool (below net.routers up c a), cases_Bool (below net.routers up c b));
}

-- both are below where they meet
pub meeting-above : (net : Net) (t : Tree net) (a b m : ℕ) → IsMeeting net t.up a b m
    → tree_below net t m a ≡ true
meeting-above net t a b m meeting =
    (and_parts (tree_below net t m a) (tree_below net t m b)
    (sym (meeting.shared m) ∙ below-self net t m meeting.terminal)).0

-- where it is below none of the routers of the way up to there
meeting-lacks : (net : Net) (t : Tree net) (m c : ℕ) → IsTerminal net m → IsDeeper net t m c
    → tree_below net t c m ≡ false
meeting-lacks net t m c m_is deep =
    tree_below-high net t c m (λ e. let top : t.depth c ≡ 0 = ap t.depth e ∙ t.depth_root in omega (arith, deep.deeper))
    m_is (omega (arith, deep.deeper))
    (λ e. let same : t.depth m ≡ t.depth c = ap t.depth e in omega (arith, deep.deeper))

-- the routers of the way from a up to where it meets that of b are those of the path that have a below them
pub way-on_path : (net : Net) (t : Tree net) (a b m c : ℕ) → IsTerminal net a → IsMeeting net t.up a b m
    → among (way net t a m) c ≡ true → IsOnPathAbove net t.up a b a c
way-on_path net t a b m c a_is meeting on_way =
    let inside : tree_below net t m a ≡ true = meeting-above net t a b m meeting in
    let deep : IsDeeper net t m c = among-deeper net t c m (t.depth a) a a_is (omega arith) inside on_way in
    let lacks : tree_below net t c m ≡ false = meeting-lacks net t m c meeting.terminal deep in
    let holds : tree_below net t c a ≡ true =
    among-way_within net t c m (t.depth a) a a_is meeting.terminal (omega arith) inside ∙ rw (on_way) refl in
    let out : tree_below net t c b ≡ false =
    rw holds at (sym (meeting.shared c) ∙ lacks) in
    record {
      on_path = record { terminal = deep.terminal; parting = rw (holds, out) refl };
      holds = holds;
    }

-- and all of these are on the way
pub on_path-way : (net : Net) (t : Tree net) (a b m c : ℕ) → IsTerminal net a → IsMeeting net t.up a b m
    → IsOnPathAbove net t.up a b a c → among (way net t a m) c ≡ true
on_path-way net t a b m c a_is meeting on_path =
    let inside : tree_below net t m a ≡ true = meeting-above net t a b m meeting in
    let out : tree_below net t c b ≡ false =
    parted (tree_below net t c a) (tree_below net t c b) on_path.on_path.parting on_path.holds in
    let lacks : tree_below net t c m ≡ false = meeting.shared c ∙ rw (on_path.holds, out) refl in
    grind (
      arith,
      cases_Bool (among (way net t a m) c),
      lacks,
      on_path.holds,
      among-way_within net t c m (t.depth a) a a_is meeting.terminal (omega arith) inside,
    )
  where
    parted : (p q : Bool) → differ p q ≡ true → p ≡ true → q ≡ false
    parted p q differing p_holds = grind (arith, cases_Bool q)

-- ---- the ways of a view that holds a cut tree

-- from a terminal that isn't the end, the way begins there, and goes on from the router above
pub way_between-suc : (tree : TreeView) → HoldsCutTree tree → (from to : ℕ) → IsTerminal tree.net from
    → below tree.net.routers (up_of tree) to from ≡ true → from ≢ to
    → way_between tree from to ≡ from ∷ way_between tree (up_of tree from) to
unfolding way_between way
way_between-suc tree holds from to from_is inside apart =
    way-suc tree.net (tree_in tree holds) from to from_is inside apart

-- there is none from a router to itself
pub way_between-none : (tree : TreeView) (to : ℕ) → way_between tree to to ≡ []
unfolding way_between
way_between-none tree to = let e : depth_of tree to - depth_of tree to ≡ 0 = omega arith in rw e refl

-- a way is as long as its beginning is deeper than its end
pub length-way_between : (tree : TreeView) (from to : ℕ)
    → length (way_between tree from to) ≡ depth_of tree from - depth_of tree to
unfolding way_between
length-way_between tree from to = length-way_up (up_of tree) (depth_of tree from - depth_of tree to) from
