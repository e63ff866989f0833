-- What is below a router, decided from router to router: the undecided ones on a way up are alike.
use Rattle.std.proofs.Common.{◌≡◌, ◌≢◌, ◌⊎◌, inl, inr, ℕ, zero, suc, ◌<◌, Bool, true, false, cond, ◌||◌, List, length}
use Rattle.std.proofs.Common.{set, replicate, sym, ◌∙◌, ap, arith, refl, get_or-set_other}
use Rattle.std.proofs.Math.Bool.{and-false}
use Rattle.std.proofs.Math.ListN.{length-set}
use Rattle.std.proofs.lemmas.Bool.{cases_Bool, cases_eq, false≢true, eqb-true, eqb-false, eq-eqb, ne_eqb}
use Rattle.std.proofs.lemmas.List.{length-replicate, get_or-replicate}
use Rattle.std.specs.Prelude.{◌==◌, ◌&&◌, slice_index}
use Rattle.cut_model.specs.Cuts.{RouterSet, set_of}
use Rattle.tree_state.specs.Shown.{ShowsSet}
use Rattle.tree_state.specs.Tables.{Table, some_up, below}
use Rattle.tree_state.proofs.Decided.{put_if, put_in, put_stays}
use Rattle.tree_state.proofs.Forest.{some_up-suc, some_up-zero, some_up-root}
use Rattle.tree_state.proofs.Trees.{met_above}
use Rattle.certifier.specs.Ways.{AreDecidedFor, AreMarks, HangFrom}

-- ---- one step up

-- The number of steps from a router up to one that hangs from itself, within k routers.
steps_on : Table → ℕ → ℕ → ℕ
steps_on up zero r = 0
steps_on up (suc k) r = cond (up r == r) 0 (suc (steps_on up k (up r)))

-- only the root hangs from itself
itself-root : (root : ℕ) (up : List ℕ) → HangFrom root up → (r : ℕ) → r < length up → r ≢ root
    → slice_index up r ≢ r
itself-root root up hang r low not_root here =
    false≢true
    (sym (some_up-root (λ j. j == root) (slice_index up) r (length up) here (ne_eqb r root not_root))
    ∙ hang.meets r low)

-- one step more than from the router above
steps_on-suc : (up : Table) (n r : ℕ) → up r ≢ r → steps_on up (suc n) r ≡ suc (steps_on up n (up r))
unfolding steps_on
steps_on-suc up n r on = rw (ne_eqb (up r) r on) refl

-- a way up that met the root has no more if it goes on
steps_on-longer : (up : Table) (root : ℕ) → up root ≡ root → (k r : ℕ) → some_up (λ j. j == root) up k r ≡ true
    → steps_on up (suc k) r ≡ steps_on up k r
unfolding steps_on
steps_on-longer up root top zero r met = absurd (false≢true (sym (some_up-zero (λ j. j == root) up r) ∙ met))
steps_on-longer up root top (suc k) r met = elim (cases_Bool (up r == r)) [
  | inl itself ↦ rw itself refl
  | inr on ↦ (let not_root : r ≢ root = λ e. eqb-false (up r) r on (rw e top) in
      rw on (ap (λ (n : ℕ). suc n)
      (steps_on-longer up root top k (up r) (met_above up root k r (ne_eqb r root not_root) met))))
]

-- The number of steps from a router up to the root.
pub height : List ℕ → ℕ → ℕ
height up r = steps_on (slice_index up) (length up) r

-- a way up that met the root meets no more if it goes on
some_up-met : (P : RouterSet) (up : Table) (root : ℕ) → up root ≡ root → P root ≡ false → (k r : ℕ)
    → some_up (λ j. j == root) up k r ≡ true → some_up P up (suc k) r ≡ some_up P up k r
some_up-met P up root top lacks zero r met =
    absurd (false≢true (sym (some_up-zero (λ j. j == root) up r) ∙ met))
some_up-met P up root top lacks (suc k) r met = elim (cases_Bool (r == root)) [
  | inl here ↦ rw (eqb-true r root here)
      (some_up-root P up root (suc (suc k)) top lacks ∙ sym (some_up-root P up root (suc k) top lacks))
  | inr later ↦ rw (some_up-suc P up (suc k) r, some_up-suc P up k r)
      (ap (λ (b : Bool). P r || b) (some_up-met P up root top lacks k (up r) (met_above up root k r later met)))
]

-- the router above one is a step nearer to the root
pub height-up : (root : ℕ) (up : List ℕ) → HangFrom root up → (r : ℕ) → r < length up → r ≢ root
    → height up (slice_index up r) < height up r
unfolding height
height-up root up hang r low not_root = omega (
  arith,
  steps_on-longer (slice_index up) root hang.top (length up) r (hang.meets r low),
  steps_on-suc (slice_index up) (length up) r (itself-root root up hang r low not_root),
)

-- below a router other than the root are it and what hangs from a router below it
below-suc : (root : ℕ) (up : List ℕ) → HangFrom root up → (c r : ℕ) → c ≢ root → r < length up
    → below (length up) (slice_index up) c r
    ≡ ((r == c) || below (length up) (slice_index up) c (slice_index up r))
below-suc root up hang c r below_top low =
    sym (some_up-met (λ j. j == c) (slice_index up) root hang.top
    (ne_eqb root c (λ e. below_top (sym e))) (length up) r (hang.meets r low))
    ∙ some_up-suc (λ j. j == c) (slice_index up) (length up) r

-- a router other than c and the root is below c where the router above it is
pub below-up : (root : ℕ) (up : List ℕ) → HangFrom root up → (c r : ℕ) → r < length up → r ≢ root
    → r ≢ c → below (length up) (slice_index up) c r ≡ below (length up) (slice_index up) c (slice_index up r)
below-up root up hang c r low not_root other = elim (cases_eq c root) [
  | inl top ↦ rw (top, hang.meets r low)
      (sym (hang.meets (slice_index up r) (hang.routers.within r low)))
  | inr below_top ↦ below-suc root up hang c r below_top low ∙ rw (ne_eqb r c other) refl
]

-- ---- one router decided

-- it keeps its length
length-put_if : (b : Bool) (inside : List Bool) (r : ℕ) → length (put_if b inside r) ≡ length inside
length-put_if b inside r = grind (arith, cases_Bool b, length-set inside r true)

-- marks stay marks
pub marked_more : (up : List ℕ) (decided inside : List Bool) (r : ℕ) (b : Bool) → AreMarks up decided inside
    → r < length up → AreMarks up (set decided r true) (put_if b inside r)
marked_more up decided inside r b marked low = record {
  root = marked.root;
  hang = marked.hang;
  decided_size = length-set decided r true ∙ marked.decided_size;
  inside_size = length-put_if b inside r ∙ marked.inside_size;
  at_root = put_stays decided r marked.root (omega (arith, marked.decided_size)) marked.at_root;
}

-- what is inside at the router that is decided
inside_here : (decided inside : List Bool) (r : ℕ) (b is_under : Bool) → r < length inside → set_of decided r ≡ false
    → set_of inside r ≡ (set_of decided r && is_under) → set_of (put_if b inside r) r ≡ b
inside_here decided inside r true is_under low free is = put_in inside r low
inside_here decided inside r false is_under low free is = is ∙ rw free refl

-- and at another
inside_there : (inside : List Bool) (r q : ℕ) (b : Bool) → q ≢ r → set_of (put_if b inside r) q ≡ set_of inside q
inside_there inside r q true other = get_or-set_other inside r q true false other
inside_there inside r q false other = refl

-- one router more is decided rightly
pub decided_more : (up : List ℕ) (c : ℕ) (decided inside : List Bool) (r : ℕ) (b : Bool)
    → AreMarks up decided inside → AreDecidedFor up c decided inside → r < length up
    → set_of decided r ≡ false → b ≡ below (length up) (slice_index up) c r
    → AreDecidedFor up c (set decided r true) (put_if b inside r)
decided_more up c decided inside r b marked right low free is = record {
  child = put_stays decided r c (omega (arith, marked.decided_size)) right.child;
  inside_is = λ q q_low. elim (cases_eq q r) [
    | inl e ↦ rw (e, put_in decided r (omega (arith, marked.decided_size)))
        (inside_here decided inside r b (below (length up) (slice_index up) c r)
        (omega (arith, marked.inside_size)) free (right.inside_is r low) ∙ is)
    | inr ne ↦ inside_there inside r q b ne ∙ right.inside_is q q_low
        ∙ rw (get_or-set_other decided r q true false ne) refl
  ];
}

-- ---- the beginning and the end

-- The list that holds c alone.
abbrev pub alone : ℕ → ℕ → List Bool
alone n c = set (replicate n false) c true

-- it holds c
alone-same : (n c : ℕ) → c < n → set_of (alone n c) c ≡ true
alone-same n c low = put_in (replicate n false) c (omega (arith, length-replicate n false))

-- and no other
alone-other : (n c r : ℕ) → r < n → r ≢ c → set_of (alone n c) r ≡ false
alone-other n c r low other =
    get_or-set_other (replicate n false) c r true false other ∙ get_or-replicate n r false false low

-- its length
length-alone : (n c : ℕ) → length (alone n c) ≡ n
length-alone n c = length-set (replicate n false) c true ∙ length-replicate n false

-- at first c and the root are decided
pub marked_start : (root : ℕ) (up : List ℕ) → HangFrom root up → (c : ℕ)
    → AreMarks up (set (alone (length up) c) root true) (alone (length up) c)
marked_start root up hang c = record {
  root = root;
  hang = hang;
  decided_size = length-set (alone (length up) c) root true ∙ length-alone (length up) c;
  inside_size = length-alone (length up) c;
  at_root = put_in (alone (length up) c) root
      (omega (arith, length-alone (length up) c, hang.root_is));
}

-- what is decided stays so once the root is decided too
root_stays : (root : ℕ) (up : List ℕ) → HangFrom root up → (c r : ℕ) → set_of (alone (length up) c) r ≡ true
    → set_of (set (alone (length up) c) root true) r ≡ true
root_stays root up hang c r has = put_stays (alone (length up) c) root r
    (omega (arith, length-alone (length up) c, hang.root_is)) has

-- what is inside at first
start_inside : (root : ℕ) (up : List ℕ) → HangFrom root up → (c : ℕ) → c < length up → (r : ℕ)
    → r < length up → (r ≡ c) ⊎ (r ≢ c) → (r ≡ root) ⊎ (r ≢ root)
    → set_of (alone (length up) c) r
    ≡ (set_of (set (alone (length up) c) root true) r
    && below (length up) (slice_index up) c r)
start_inside root up hang c low r r_low (inl at_c) (inl top) =
    let here : set_of (alone (length up) c) r ≡ true = rw at_c (alone-same (length up) c low) in
    let c_top : c ≡ root = sym at_c ∙ top in
    let under : below (length up) (slice_index up) c r ≡ true =
    rw c_top (hang.meets r r_low) in
    rw (here, root_stays root up hang c r here, under) refl
start_inside root up hang c low r r_low (inl at_c) (inr below_top) =
    let here : set_of (alone (length up) c) r ≡ true = rw at_c (alone-same (length up) c low) in
    let under : below (length up) (slice_index up) c r ≡ true =
    rw at_c (below-suc root up hang c c (λ e. below_top (at_c ∙ e)) low ∙ rw (eq-eqb c c refl) refl) in
    rw (here, root_stays root up hang c r here, under) refl
start_inside root up hang c low r r_low (inr other) (inl top) =
    let under : below (length up) (slice_index up) c r ≡ false =
    rw top (some_up-root (λ j. j == c) (slice_index up) root (length up) hang.top
    (ne_eqb root c (λ e. other (top ∙ e)))) in
    rw (alone-other (length up) c r r_low other, under)
    (sym (and-false (set_of (set (alone (length up) c) root true) r)))
start_inside root up hang c low r r_low (inr other) (inr below_top) =
    rw (
      get_or-set_other (alone (length up) c) root r true false below_top,
      alone-other (length up) c r r_low other,
    ) refl

-- and rightly
pub decided_start : (root : ℕ) (up : List ℕ) → HangFrom root up → (c : ℕ) → c < length up
    → AreDecidedFor up c (set (alone (length up) c) root true) (alone (length up) c)
decided_start root up hang c low = record {
  child = root_stays root up hang c c (alone-same (length up) c low);
  inside_is = λ r r_low.
      start_inside root up hang c low r r_low (cases_eq r c) (cases_eq r root);
}

-- once all routers are decided, those below c are shown
pub decided_shows : (up : List ℕ) (c : ℕ) (decided inside : List Bool) → AreMarks up decided inside
    → AreDecidedFor up c decided inside → ((r : ℕ) → r < length up → set_of decided r ≡ true)
    → ShowsSet (length up) (below (length up) (slice_index up) c) inside
decided_shows up c decided inside marked right all = record {
  size = marked.inside_size;
  shows = λ r low. right.inside_is r low ∙ rw (all r low) refl;
}
