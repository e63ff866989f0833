-- What is below a router, decided from router to router: the undecided ones on a way up are alike.
use Rattle.std.proofs.Common.{◌≡◌, ◌≢◌, ◌⊎◌, inl, inr, ℕ, zero, suc, ◌<◌, Bool, true, false, ◌||◌, List, length}
use Rattle.std.proofs.Common.{set, replicate, sym, ◌∙◌, ap, arith, refl, get_or-set_same, get_or-set_other}
use Rattle.std.proofs.Math.Bool.{and-false}
use Rattle.std.proofs.Math.ListN.{length-set}
use Rattle.std.proofs.lemmas.Bool.{cases_Bool, cases_eq, false≢true, eqb-true, eq-eqb, ne_eqb}
use Rattle.std.proofs.lemmas.List.{length-replicate, get_or-replicate}
use Rattle.std.specs.Prelude.{◌==◌, ◌&&◌, if◌then◌else◌}
use Rattle.cut_model.specs.Cuts.{RouterSet, set_of}
use Rattle.cut_model.specs.Terminals.{root_of}
use Rattle.cut_model.proofs.Terminals.{terminal-lt}
use Rattle.tree_state.specs.Tables.{Table, some_up, below}
use Rattle.tree_state.specs.Views.{TreeView, up_of, width_of, HoldsCutTree}
use Rattle.tree_state.specs.Shown.{ShowsSet}
use Rattle.tree_state.specs.Below.{IsMarked, IsDecidedFor}
use Rattle.tree_state.proofs.Forest.{some_up-suc, some_up-zero, some_up-root}
use Rattle.tree_state.proofs.Climbing.{IsHung, meets_root_from, root_hangs}
use Rattle.tree_state.proofs.Trees.{steps_up, steps_up-suc, steps_up-longer, met_above, hung_of}

-- ---- one step up

-- The number of steps from a router up to the root.
pub height : TreeView → ℕ → ℕ
height tree r = steps_up (up_of tree) (root_of tree.net) tree.net.routers r

-- a cut tree is hung
hung_in : (tree : TreeView) → HoldsCutTree tree → IsHung tree.net (root_of tree.net) (up_of tree)
hung_in tree holds = hung_of tree.net (root_of tree.net) (up_of tree) (width_of tree) holds

-- its root hangs from itself
top_in : (tree : TreeView) → HoldsCutTree tree → up_of tree (root_of tree.net) ≡ root_of tree.net
top_in tree holds = root_hangs tree.net (root_of tree.net) (up_of tree) (hung_in tree holds)

-- every router is below the root
below-root : (tree : TreeView) → HoldsCutTree tree → (r : ℕ) → r < tree.net.routers
    → below tree.net.routers (up_of tree) (root_of tree.net) r ≡ true
below-root tree holds r low =
    meets_root_from tree.net (root_of tree.net) (up_of tree) (hung_in tree holds) r low (holds.up_is r low)

-- a way up that met the root meets no more if it goes on
some_up-met : (P : RouterSet) (up : Table) (root : ℕ) → up root ≡ root → P root ≡ false → (k r : ℕ)
    → some_up (λ j. j == root) up k r ≡ true → some_up P up (suc k) r ≡ some_up P up k r
some_up-met P up root top lacks zero r met =
    absurd (false≢true (sym (some_up-zero (λ j. j == root) up r) ∙ met))
some_up-met P up root top lacks (suc k) r met = elim (cases_Bool (r == root)) [
  | inl here ↦ rw (eqb-true r root here)
      (some_up-root P up root (suc (suc k)) top lacks ∙ sym (some_up-root P up root (suc k) top lacks))
  | inr later ↦ rw (some_up-suc P up (suc k) r, some_up-suc P up k r)
      (ap (λ (b : Bool). P r || b) (some_up-met P up root top lacks k (up r) (met_above up root k r later met)))
]

-- the router above one is a step nearer to the root
pub height-up : (tree : TreeView) → HoldsCutTree tree → (r : ℕ) → r < tree.net.routers → r ≢ root_of tree.net
    → height tree (up_of tree r) < height tree r
unfolding height
height-up tree holds r low not_root = omega (
  arith,
  steps_up-longer (up_of tree) (root_of tree.net) tree.net.routers r (below-root tree holds r low),
  steps_up-suc (up_of tree) (root_of tree.net) tree.net.routers r not_root,
)

-- below a router other than the root are it and what hangs from a router below it
below-suc : (tree : TreeView) → HoldsCutTree tree → (c r : ℕ) → c ≢ root_of tree.net → r < tree.net.routers
    → below tree.net.routers (up_of tree) c r
    ≡ ((r == c) || below tree.net.routers (up_of tree) c (up_of tree r))
below-suc tree holds c r below_top low =
    sym (some_up-met (λ j. j == c) (up_of tree) (root_of tree.net) (top_in tree holds)
    (ne_eqb (root_of tree.net) c (λ e. below_top (sym e))) tree.net.routers r (below-root tree holds r low))
    ∙ some_up-suc (λ j. j == c) (up_of tree) tree.net.routers r

-- a router other than c and the root is below c where the router above it is
pub below-up : (tree : TreeView) → HoldsCutTree tree → (c r : ℕ) → r < tree.net.routers → r ≢ root_of tree.net
    → r ≢ c → below tree.net.routers (up_of tree) c r ≡ below tree.net.routers (up_of tree) c (up_of tree r)
below-up tree holds c r low not_root other = elim (cases_eq c (root_of tree.net)) [
  | inl top ↦ rw (top, below-root tree holds r low)
      (sym (below-root tree holds (up_of tree r) (terminal-lt tree.net (up_of tree r) (holds.up_is r low))))
  | inr below_top ↦ below-suc tree holds c r below_top low ∙ rw (ne_eqb r c other) refl
]

-- ---- one router decided

-- an undecided router isn't a decided one
pub undecided-other : (decided : List Bool) (r c : ℕ) → set_of decided r ≡ false → set_of decided c ≡ true → r ≢ c
undecided-other decided r c free done = λ e. false≢true (sym free ∙ ap (set_of decided) e ∙ done)

-- a router that is put in is in
pub put_in : (side : List Bool) (r : ℕ) → r < length side → set_of (set side r true) r ≡ true
put_in side r low = get_or-set_same side r true false low

-- and all that were in stay
pub put_stays : (side : List Bool) (r q : ℕ) → r < length side → set_of side q ≡ true
    → set_of (set side r true) q ≡ true
put_stays side r q low has = elim (cases_eq q r) [
  | inl e ↦ rw e (put_in side r low)
  | inr ne ↦ get_or-set_other side r q true false ne ∙ has
]

-- The list once a router is put in, where it is to be.
abbrev pub put_if : Bool → List Bool → ℕ → List Bool
put_if is_below inside r = if is_below then set inside r true else inside

-- it keeps its length
length-put_if : (b : Bool) (inside : List Bool) (r : ℕ) → length (put_if b inside r) ≡ length inside
length-put_if b inside r = grind (arith, cases_Bool b, length-set inside r true)

-- marks stay marks
pub marked_more : (tree : TreeView) (decided inside : List Bool) (r : ℕ) (b : Bool) → IsMarked tree decided inside
    → r < tree.net.routers → IsMarked tree (set decided r true) (put_if b inside r)
marked_more tree decided inside r b marked low = record {
  decided_size = length-set decided r true ∙ marked.decided_size;
  inside_size = length-put_if b inside r ∙ marked.inside_size;
  root = put_stays decided r (root_of tree.net) (omega (arith, marked.decided_size)) marked.root;
}

-- what is inside at the router that is decided
inside_here : (decided inside : List Bool) (r : ℕ) (b is_under : Bool) → r < length inside → set_of decided r ≡ false
    → set_of inside r ≡ (set_of decided r && is_under) → set_of (put_if b inside r) r ≡ b
inside_here decided inside r true is_under low free is = put_in inside r low
inside_here decided inside r false is_under low free is = is ∙ rw free refl

-- and at another
inside_there : (inside : List Bool) (r q : ℕ) (b : Bool) → q ≢ r → set_of (put_if b inside r) q ≡ set_of inside q
inside_there inside r q true other = get_or-set_other inside r q true false other
inside_there inside r q false other = refl

-- one router more is decided rightly
pub decided_more : (tree : TreeView) (c : ℕ) (decided inside : List Bool) (r : ℕ) (b : Bool)
    → IsMarked tree decided inside → IsDecidedFor tree c decided inside → r < tree.net.routers
    → set_of decided r ≡ false → b ≡ below tree.net.routers (up_of tree) c r
    → IsDecidedFor tree c (set decided r true) (put_if b inside r)
decided_more tree c decided inside r b marked right low free is = record {
  child = put_stays decided r c (omega (arith, marked.decided_size)) right.child;
  inside_is = λ q q_low. elim (cases_eq q r) [
    | inl e ↦ rw (e, put_in decided r (omega (arith, marked.decided_size)))
        (inside_here decided inside r b (below tree.net.routers (up_of tree) c r)
        (omega (arith, marked.inside_size)) free (right.inside_is r low) ∙ is)
    | inr ne ↦ inside_there inside r q b ne ∙ right.inside_is q q_low
        ∙ rw (get_or-set_other decided r q true false ne) refl
  ];
}

-- ---- the beginning and the end

-- The list that holds c alone.
abbrev pub alone : ℕ → ℕ → List Bool
alone n c = set (replicate n false) c true

-- it holds c
alone-same : (n c : ℕ) → c < n → set_of (alone n c) c ≡ true
alone-same n c low = put_in (replicate n false) c (omega (arith, length-replicate n false))

-- and no other
alone-other : (n c r : ℕ) → r < n → r ≢ c → set_of (alone n c) r ≡ false
alone-other n c r low other =
    get_or-set_other (replicate n false) c r true false other ∙ get_or-replicate n r false false low

-- its length
length-alone : (n c : ℕ) → length (alone n c) ≡ n
length-alone n c = length-set (replicate n false) c true ∙ length-replicate n false

-- at first c and the root are decided
pub marked_start : (tree : TreeView) → HoldsCutTree tree → (c : ℕ)
    → IsMarked tree (set (alone tree.net.routers c) (root_of tree.net) true) (alone tree.net.routers c)
marked_start tree holds c = record {
  decided_size = length-set (alone tree.net.routers c) (root_of tree.net) true ∙ length-alone tree.net.routers c;
  inside_size = length-alone tree.net.routers c;
  root = put_in (alone tree.net.routers c) (root_of tree.net)
      (omega (arith, length-alone tree.net.routers c, terminal-lt tree.net (root_of tree.net) holds.root_is));
}

-- what is decided stays so once the root is decided too
root_stays : (tree : TreeView) → HoldsCutTree tree → (c r : ℕ) → set_of (alone tree.net.routers c) r ≡ true
    → set_of (set (alone tree.net.routers c) (root_of tree.net) true) r ≡ true
root_stays tree holds c r has = put_stays (alone tree.net.routers c) (root_of tree.net) r
    (omega (arith, length-alone tree.net.routers c, terminal-lt tree.net (root_of tree.net) holds.root_is)) has

-- what is inside at first
start_inside : (tree : TreeView) → HoldsCutTree tree → (c : ℕ) → c < tree.net.routers → (r : ℕ)
    → r < tree.net.routers → (r ≡ c) ⊎ (r ≢ c) → (r ≡ root_of tree.net) ⊎ (r ≢ root_of tree.net)
    → set_of (alone tree.net.routers c) r
    ≡ (set_of (set (alone tree.net.routers c) (root_of tree.net) true) r
    && below tree.net.routers (up_of tree) c r)
start_inside tree holds c low r r_low (inl at_c) (inl top) =
    let here : set_of (alone tree.net.routers c) r ≡ true = rw at_c (alone-same tree.net.routers c low) in
    let c_top : c ≡ root_of tree.net = sym at_c ∙ top in
    let under : below tree.net.routers (up_of tree) c r ≡ true =
    rw c_top (below-root tree holds r r_low) in
    rw (here, root_stays tree holds c r here, under) refl
start_inside tree holds c low r r_low (inl at_c) (inr below_top) =
    let here : set_of (alone tree.net.routers c) r ≡ true = rw at_c (alone-same tree.net.routers c low) in
    let under : below tree.net.routers (up_of tree) c r ≡ true =
    rw at_c (below-suc tree holds c c (λ e. below_top (at_c ∙ e)) low ∙ rw (eq-eqb c c refl) refl) in
    rw (here, root_stays tree holds c r here, under) refl
start_inside tree holds c low r r_low (inr other) (inl top) =
    let under : below tree.net.routers (up_of tree) c r ≡ false =
    rw top (some_up-root (λ j. j == c) (up_of tree) (root_of tree.net) tree.net.routers (top_in tree holds)
    (ne_eqb (root_of tree.net) c (λ e. other (top ∙ e)))) in
    rw (alone-other tree.net.routers c r r_low other, under)
    (sym (and-false (set_of (set (alone tree.net.routers c) (root_of tree.net) true) r)))
start_inside tree holds c low r r_low (inr other) (inr below_top) =
    rw (
      get_or-set_other (alone tree.net.routers c) (root_of tree.net) r true false below_top,
      alone-other tree.net.routers c r r_low other,
    ) refl

-- and rightly
pub decided_start : (tree : TreeView) → HoldsCutTree tree → (c : ℕ) → c < tree.net.routers
    → IsDecidedFor tree c (set (alone tree.net.routers c) (root_of tree.net) true) (alone tree.net.routers c)
decided_start tree holds c low = record {
  child = root_stays tree holds c c (alone-same tree.net.routers c low);
  inside_is = λ r r_low.
      start_inside tree holds c low r r_low (cases_eq r c) (cases_eq r (root_of tree.net));
}

-- once all routers are decided, those below c are shown
pub decided_shows : (tree : TreeView) (c : ℕ) (decided inside : List Bool) → IsMarked tree decided inside
    → IsDecidedFor tree c decided inside → ((r : ℕ) → r < tree.net.routers → set_of decided r ≡ true)
    → ShowsSet tree.net.routers (below tree.net.routers (up_of tree) c) inside
decided_shows tree c decided inside marked right all = record {
  size = marked.inside_size;
  shows = λ r low. right.inside_is r low ∙ rw (all r low) refl;
}
