-- Where no router but the root is below the one that hangs it, every way up meets the root: else its routers would all
-- differ, and there would be too many of them.
use Rattle.std.proofs.Common.{◌≡◌, ◌≢◌, inl, inr, ℕ, zero, suc, ◌<◌, ◌≤◌, Bool, true, false, ◌||◌}
use Rattle.std.proofs.Common.{sym, ◌∙◌, ap, arith, refl}
use Rattle.std.specs.Prelude.{◌==◌}
use Rattle.std.proofs.lemmas.Bool.{cases_Bool, cases_eq, false≢true, eqb-false, eq-eqb, ne_eqb, or_parts}
use Rattle.std.proofs.lemmas.Bool.Decides.{eqb_tells}
use Rattle.cut_model.specs.Net.{Net}
use Rattle.cut_model.specs.Cuts.{RouterSet}
use Rattle.cut_model.specs.Terminals.{number_in, is_terminal, IsTerminal}
use Rattle.cut_model.proofs.Counting.{with_number, with_number-other, number_in-none, number_in-lt, number_in-new}
use Rattle.cut_model.proofs.Crossing.{same_sets}
use Rattle.cut_model.proofs.Terminals.{terminal-lt}
use Rattle.tree_state.specs.Tables.{Table, some_up, below}
use Rattle.tree_state.proofs.Forest.{some_up-suc, some_up-zero}

-- Terminals hang from terminals, and what is below one other than the root lacks the router that it hangs from.
pub record IsHung (net : Net) (root : ℕ) (up : Table) : Type 0 where
  pub root_is : IsTerminal net root
  pub up_is : (i : ℕ) → IsTerminal net i → IsTerminal net (up i)
  pub lacks : (c : ℕ) → IsTerminal net c → c ≢ root → below net.routers up c (up c) ≡ false

-- ---- the first routers of a way up

-- more routers of a way up meet no less
pub some_up-more : (P : RouterSet) (up : Table) (k n i : ℕ) → k ≤ n → some_up P up k i ≡ true
    → some_up P up n i ≡ true
some_up-more P up zero n i le met = absurd (false≢true (sym (some_up-zero P up i) ∙ met))
some_up-more P up (suc k) zero i le met = absurd (omega arith)
some_up-more P up (suc k) (suc n) i le met =
    let split : (P i || some_up P up k (up i)) ≡ true = sym (some_up-suc P up k i) ∙ met in
    some_up-suc P up n i ∙ elim (cases_Bool (P i)) [
      | inl here ↦ rw here refl
      | inr later ↦ rw (later, some_up-more P up k n (up i) (omega arith) (rw later at split)) refl
    ]

-- The first k routers of the way up of i.
first_up : Table → ℕ → ℕ → RouterSet
first_up up k i v = some_up (λ j. j == v) up k i

-- none are none
first_up-zero : (up : Table) (i v : ℕ) → first_up up zero i v ≡ false
unfolding first_up
first_up-zero up i v = some_up-zero (λ j. j == v) up i

-- one more is the router itself before those of the next
first_up-suc : (up : Table) (k i : ℕ) → first_up up (suc k) i ≡ with_number i (first_up up k (up i))
unfolding first_up with_number
first_up-suc up k i =
    same_sets (first_up up (suc k) i) (with_number i (first_up up k (up i)))
    (λ v. some_up-suc (λ j. j == v) up k i
    ∙ ap (λ (b : Bool). b || some_up (λ j. j == v) up k (up i)) (turned v))
  where
    turned : (v : ℕ) → (i == v) ≡ (v == i)
    turned v = grind (arith, eqb_tells v i, eqb_tells i v)

-- a router is none of the first that come after it
first_up-fresh : (net : Net) (root : ℕ) (up : Table) → IsHung net root up → (k i : ℕ) → k ≤ net.routers
    → IsTerminal net i → i ≢ root → first_up up k (up i) i ≡ false
unfolding first_up
first_up-fresh net root up hung k i le terminal not_root = elim (cases_Bool (first_up up k (up i) i)) [
  | inr fresh ↦ fresh
  | inl met ↦ absurd (false≢true
      (sym (hung.lacks i terminal not_root) ∙ some_up-more (λ j. j == i) up k net.routers (up i) le met))
]

-- so k of them are k routers, as long as they haven't met the root
number_in-first_up : (net : Net) (root : ℕ) (up : Table) → IsHung net root up → (k i : ℕ) → k ≤ net.routers
    → IsTerminal net i → some_up (λ j. j == root) up k i ≡ false → number_in (first_up up k i) net.routers ≡ k
number_in-first_up net root up hung zero i le terminal unmet =
    number_in-none (first_up up zero i) (first_up-zero up i) net.routers
number_in-first_up net root up hung (suc k) i le terminal unmet =
    let both : ((i == root) ≡ false) × (some_up (λ j. j == root) up k (up i) ≡ false)
    = or_parts (i == root) (some_up (λ j. j == root) up k (up i))
    (sym (some_up-suc (λ j. j == root) up k i) ∙ unmet) in
    rw (first_up-suc up k i)
    (number_in-new (first_up up k (up i)) i net.routers
    (first_up-fresh net root up hung k i (omega arith) terminal (eqb-false i root both.0)) (terminal-lt net i terminal)
    ∙ ap (λ (m : ℕ). suc m)
    (number_in-first_up net root up hung k (up i) (omega arith) (hung.up_is i terminal) both.1))

-- every way up meets the root, since without the root there are fewer than n routers
pub meets_root : (net : Net) (root : ℕ) (up : Table) → IsHung net root up → (i : ℕ) → IsTerminal net i
    → below net.routers up root i ≡ true
unfolding first_up
meets_root net root up hung i terminal = elim (cases_Bool (below net.routers up root i)) [
  | inl met ↦ met
  | inr unmet ↦ absurd (
      let all : number_in (first_up up net.routers i) net.routers ≡ net.routers
      = number_in-first_up net root up hung net.routers i (omega arith) terminal unmet in
      let fewer : number_in (first_up up net.routers i) net.routers < net.routers
      = number_in-lt (first_up up net.routers i) root net.routers unmet (terminal-lt net root hung.root_is) in
      omega arith)
]

-- the way up of a terminal has terminals alone
first_up-terminal : (net : Net) (root : ℕ) (up : Table) → IsHung net root up → (k i v : ℕ) → IsTerminal net i
    → first_up up k i v ≡ true → IsTerminal net v
first_up-terminal net root up hung zero i v terminal met =
    absurd (false≢true (sym (first_up-zero up i v) ∙ met))
first_up-terminal net root up hung (suc k) i v terminal met = elim (cases_eq v i) [
  | inl here ↦ rw here terminal
  | inr later ↦ first_up-terminal net root up hung k (up i) v (hung.up_is i terminal)
      (sym (with_number-other i (first_up up k (up i)) v later)
      ∙ ap (λ (X : RouterSet). X v) (sym (first_up-suc up k i)) ∙ met)
]

-- so a router that isn't one isn't met again on its way up, which would be too long without the root
too_many_up : (net : Net) (root : ℕ) (up : Table) → IsHung net root up → (i : ℕ) → i < net.routers
    → is_terminal net i ≡ false → IsTerminal net (up i) → (n : ℕ) → n ≡ net.routers
    → some_up (λ j. j == root) up n i ≡ false → ⊥
unfolding first_up
too_many_up net root up hung i low other above zero e unmet = omega arith
too_many_up net root up hung i low other above (suc k) e unmet =
    let both : ((i == root) ≡ false) × (some_up (λ j. j == root) up k (up i) ≡ false)
    = or_parts (i == root) (some_up (λ j. j == root) up k (up i))
    (sym (some_up-suc (λ j. j == root) up k i) ∙ unmet) in
    let fresh : first_up up k (up i) i ≡ false = elim (cases_Bool (first_up up k (up i) i)) [
      | inr free ↦ free
      | inl met ↦ absurd (false≢true
          (sym other ∙ first_up-terminal net root up hung k (up i) i above met))
    ] in
    let all : number_in (first_up up k (up i)) net.routers ≡ k
    = number_in-first_up net root up hung k (up i) (omega arith) above both.1 in
    let root_out : with_number i (first_up up k (up i)) root ≡ false
    = with_number-other i (first_up up k (up i)) root (λ q. eqb-false i root both.0 (sym q)) ∙ both.1 in
    let fewer : number_in (with_number i (first_up up k (up i))) net.routers < net.routers
    = number_in-lt (with_number i (first_up up k (up i))) root net.routers root_out
    (terminal-lt net root hung.root_is) in
    omega (arith, all, fewer, number_in-new (first_up up k (up i)) i net.routers fresh low)

-- so the way up of every router that hangs from a terminal meets the root
pub meets_root_from : (net : Net) (root : ℕ) (up : Table) → IsHung net root up → (i : ℕ) → i < net.routers
    → IsTerminal net (up i) → below net.routers up root i ≡ true
meets_root_from net root up hung i low above = elim (cases_Bool (is_terminal net i)) [
  | inl terminal ↦ meets_root net root up hung i terminal
  | inr other ↦ elim (cases_Bool (below net.routers up root i)) [
    | inl met ↦ met
    | inr unmet ↦ absurd (too_many_up net root up hung i low other above net.routers refl unmet)
  ]
]

-- ---- the root hangs from itself

-- The terminal right below the root on a way up.
record IsLastBefore (net : Net) (root : ℕ) (up : Table) (k i : ℕ) : Type 0 where
  pub last : ℕ
  pub terminal : IsTerminal net last
  pub not_root : last ≢ root
  pub hangs : up last ≡ root
  pub met : some_up (λ j. j == last) up k i ≡ true

-- a way up that meets the root after other routers has one
last_before : (net : Net) (root : ℕ) (up : Table) → IsHung net root up → (k i : ℕ) → IsTerminal net i → i ≢ root
    → some_up (λ j. j == root) up (suc k) i ≡ true → IsLastBefore net root up k i
last_before net root up hung zero i terminal not_root met =
    absurd (false≢true (sym (some_up-suc (λ j. j == root) up zero i
    ∙ rw (ne_eqb i root not_root, some_up-zero (λ j. j == root) up (up i)) refl) ∙ met))
last_before net root up hung (suc k) i terminal not_root met = elim (cases_eq (up i) root) [
  | inl hangs ↦ record {
    last = i;
    terminal = terminal;
    not_root = not_root;
    hangs = hangs;
    met = some_up-suc (λ j. j == i) up k i ∙ rw (eq-eqb i i refl) refl;
  }
  | inr elsewhere ↦ (
      let later : some_up (λ j. j == root) up (suc k) (up i) ≡ true
      = rw (ne_eqb i root not_root) at (sym (some_up-suc (λ j. j == root) up (suc k) i) ∙ met) in
      let above : IsLastBefore net root up k (up i)
      = last_before net root up hung k (up i) (hung.up_is i terminal) elsewhere later in
      record {
        last = above.last;
        terminal = above.terminal;
        not_root = above.not_root;
        hangs = above.hangs;
        met = some_up-suc (λ j. j == above.last) up k i
            ∙ rw above.met (grind (arith, cases_Bool (i == above.last)));
      })
]

-- else the last before the root would have the root below it, from which it hangs
root_below : (net : Net) (root : ℕ) (up : Table) (k : ℕ) → k < net.routers → IsLastBefore net root up k (up root)
    → (c : ℕ) × (IsTerminal net c × (c ≢ root) × (below net.routers up c (up c) ≡ true))
root_below net root up k low before = (
  before.last,
  (
    before.terminal,
    before.not_root,
    rw before.hangs (some_up-more (λ j. j == before.last) up (suc k) net.routers root (omega arith)
        (some_up-suc (λ j. j == before.last) up k root
        ∙ rw before.met (grind (arith, cases_Bool (root == before.last))))),
  ),
)

-- so the root hangs from itself
pub root_hangs : (net : Net) (root : ℕ) (up : Table) → IsHung net root up → up root ≡ root
root_hangs net root up hung = elim (cases_eq (up root) root) [
  | inl e ↦ e
  | inr elsewhere ↦ absurd (loop elsewhere net.routers refl (terminal-lt net root hung.root_is))
]
  where
    loop : up root ≢ root → (n : ℕ) → n ≡ net.routers → root < n → ⊥
    loop elsewhere zero e some = omega arith
    loop elsewhere (suc k) e some =
        let met : some_up (λ j. j == root) up (suc k) (up root) ≡ true
        = rw e (meets_root net root up hung (up root) (hung.up_is root hung.root_is)) in
        let found = root_below net root up k (omega arith)
        (last_before net root up hung k (up root) (hung.up_is root hung.root_is) elsewhere met) in
        false≢true (sym (hung.lacks found.0 found.1.0 found.1.1) ∙ found.1.2)
