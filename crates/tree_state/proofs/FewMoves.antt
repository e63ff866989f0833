-- Legal histories make few moves: each entry moves a terminal at most once that isn't entered by then, and there is one
-- such terminal fewer each time.
use Rattle.std.proofs.Common.{◌≡◌, ◌≢◌, inl, inr, ℕ, zero, suc, ◌+◌, ◌-◌, ◌*◌, ◌<◌, ◌≤◌, false, cond}
use Rattle.std.proofs.Common.{List, [], ◌∷◌, ◌++◌, sym, ◌∙◌, refl, subst, arith}
use Rattle.std.proofs.lemmas.Bool.{cases_Bool, cases_eq, eq-eqb}
use Rattle.std.specs.Prelude.{◌==◌}
use Rattle.cut_model.specs.Crossing.{outside}
use Rattle.cut_model.specs.Cuts.{RouterSet}
use Rattle.cut_model.specs.Net.{Net, IsInLimits}
use Rattle.cut_model.specs.Terminals.{number_in, is_terminal, IsTerminal, terminal_count, root_of}
use Rattle.cut_model.proofs.Counting.{with_number, with_number-other, number_in-lt}
use Rattle.cut_model.proofs.Counting.{number_in-new}
use Rattle.cut_model.proofs.Terminals.{root-lt, root_terminal, terminal-lt}
use Rattle.tree_state.specs.declared.entry.Entry.{Entry}
use Rattle.tree_state.specs.Tables.{Tables}
use Rattle.tree_state.specs.History.{commit, tables, entered, MayFollow, IsLegal, IsLegalAfter}
use Rattle.tree_state.specs.Moves.{moves_from, moves, sum_over, most_moves}
use Rattle.tree_state.proofs.Histories.{tables-push, entered-push, legal_push, by_entries}
use Rattle.tree_state.proofs.HalfBuilt.{built}
use Rattle.tree_state.proofs.Retakes.{moves-push}

-- ---- sums

-- a sum of smaller numbers is smaller
pub sum_over-le : (X Y : RouterSet) (f g : ℕ → ℕ) (n : ℕ)
    → ((r : ℕ) → r < n → cond (X r) (f r) 0 ≤ cond (Y r) (g r) 0) → sum_over X f n ≤ sum_over Y g n
unfolding sum_over
sum_over-le X Y f g zero each = omega arith
sum_over-le X Y f g (suc n) each =
    omega (arith, each n (omega arith), sum_over-le X Y f g n (λ r low. each r (omega arith)))

-- a sum of zeros is zero
sum_over-none : (X : RouterSet) (f : ℕ → ℕ) → ((r : ℕ) → f r ≡ 0) → (n : ℕ) → sum_over X f n ≡ 0
unfolding sum_over
sum_over-none X f none zero = refl
sum_over-none X f none (suc n) = rw (none n) (grind (arith, cases_Bool (X n), sum_over-none X f none n))

-- the numbers below n are in a set or outside of it
number_in-outside : (X : RouterSet) (n : ℕ) → number_in (outside X) n + number_in X n ≡ n
unfolding number_in
number_in-outside X zero = refl
number_in-outside X (suc n) = grind (arith, cases_Bool (X n), number_in-outside X n)

-- 0 + 1 + .. + (n - 1)
triangle : ℕ → ℕ
triangle zero = 0
triangle (suc n) = n + triangle n

-- twice that is a product
triangle-twice : (n : ℕ) → 2 * triangle (suc n) ≡ suc n * n
unfolding triangle
triangle-twice zero = refl
triangle-twice (suc n) = omega (arith, triangle-twice n)

-- so it is the most moves of n + 1 terminals
triangle-most : (terminals x : ℕ) → 0 < terminals → x ≤ triangle (terminals - 1) → x ≤ most_moves terminals
unfolding triangle
triangle-most zero x some le = absurd (omega arith)
triangle-most (suc zero) x some le = omega (arith, le)
triangle-most (suc (suc n)) x some le =
    let before : suc (suc n) - 1 ≡ suc n = omega arith in
    let rest : suc (suc n) - 2 ≡ n = omega arith in
    rw (before, rest) (let small : x ≤ triangle (suc n) = rw before at le in omega (arith, small, triangle-twice n))

-- ---- one entry

-- an entry moves a router at most once, from any tables on
moves_from-le : (root : ℕ) (T : Tables) (entry : Entry) (rest : List Entry) (r : ℕ)
    → moves_from root T (entry ∷ rest) r ≤ suc (moves_from root (commit root T entry) rest r)
unfolding moves_from
moves_from-le root T entry rest r =
    grind (arith, cases_Bool (r == entry.router), cases_Bool ((commit root T entry).up r == T.up r))

-- and its own router never again
moves_from-own : (root : ℕ) (T : Tables) (entry : Entry) (rest : List Entry)
    → moves_from root T (entry ∷ rest) entry.router ≡ 0
unfolding moves_from
moves_from-own root T entry rest = rw (eq-eqb entry.router entry.router refl) refl

-- so a router that isn't shut out moves at most once, and not at all where it is shut out by then
one_router : (root : ℕ) (shut : RouterSet) (T : Tables) (entry : Entry) (rest : List Entry) (r : ℕ)
    → cond (outside shut r) (moves_from root T (entry ∷ rest) r) 0 + cond (with_number entry.router shut r) 1 0
    ≤ suc (cond (outside (with_number entry.router shut) r) (moves_from root (commit root T entry) rest r) 0)
unfolding with_number
one_router root shut T entry rest r = elim (cases_eq r entry.router) [
  | inl own ↦ rw (own, eq-eqb entry.router entry.router refl, moves_from-own root T entry rest)
      (grind (arith, cases_Bool (shut entry.router)))
  | inr other ↦ grind (
    arith,
    cases_Bool (shut r),
    cases_Bool (r == entry.router),
    moves_from-le root T entry rest r,
  )
]

-- all together move at most as often as there are routers that aren't shut out by then
one_entry : (root : ℕ) (shut : RouterSet) (T : Tables) (entry : Entry) (rest : List Entry) (n : ℕ)
    → sum_over (outside shut) (moves_from root T (entry ∷ rest)) n + number_in (with_number entry.router shut) n
    ≤ n + sum_over (outside (with_number entry.router shut)) (moves_from root (commit root T entry) rest) n
unfolding number_in sum_over
one_entry root shut T entry rest zero = omega arith
one_entry root shut T entry rest (suc n) =
    omega (arith, one_router root shut T entry rest n, one_entry root shut T entry rest n)

-- ---- all entries

-- Shut out are all routers that no entry may name: whoever may be named, behind some entries, isn't shut out.
abbrev IsShut : Net → List Entry → RouterSet → Type 0
IsShut net before shut =
    (r : ℕ) → IsTerminal net r → r ≢ root_of net → entered before r ≡ false → shut r ≡ false

-- an entry shuts its own router out
shut-push : (net : Net) (before : List Entry) (entry : Entry) (shut : RouterSet) → IsShut net before shut
    → IsShut net (before ++ entry ∷ []) (with_number entry.router shut)
unfolding with_number
shut-push net before entry shut is_shut r terminal not_root fresh =
    let now : with_number entry.router (entered before) r ≡ false = sym (entered-push before entry r) ∙ fresh in
    grind (arith, cases_Bool (r == entry.router), cases_Bool (entered before r), is_shut r terminal not_root)

-- where u routers aren't shut out, these move at most u - 1 times with the next entry, u - 2 times with the one after
-- it, and so on
moves-open : (net : Net) (before rest : List Entry) (shut : RouterSet) (u : ℕ) → IsLegalAfter net before rest
    → IsShut net before shut → number_in shut net.routers + u ≡ net.routers
    → sum_over (outside shut) (moves_from (root_of net) (tables (root_of net) before) rest) net.routers ≤ triangle u
unfolding IsLegalAfter triangle moves_from
moves-open net before [] shut u legal is_shut count =
    omega (arith, sum_over-none (outside shut) (λ r. 0) (λ r. refl) net.routers)
moves-open net before (entry ∷ rest) shut zero legal is_shut count = absurd (omega (
  arith,
  number_in-lt shut entry.router net.routers (is_shut entry.router legal.0.terminal legal.0.not_root legal.0.fresh)
      (terminal-lt net entry.router legal.0.terminal),
))
moves-open net before (entry ∷ rest) shut (suc u) legal is_shut count =
    let more : number_in (with_number entry.router shut) net.routers ≡ suc (number_in shut net.routers) =
    number_in-new shut entry.router net.routers (is_shut entry.router legal.0.terminal legal.0.not_root legal.0.fresh)
    (terminal-lt net entry.router legal.0.terminal) in
    let later : sum_over (outside (with_number entry.router shut))
    (moves_from (root_of net) (commit (root_of net) (tables (root_of net) before) entry) rest) net.routers
    ≤ triangle u =
    subst (λ (T : Tables). sum_over (outside (with_number entry.router shut)) (moves_from (root_of net) T rest)
    net.routers ≤ triangle u) (tables-push (root_of net) before entry)
    (moves-open net (before ++ entry ∷ []) rest (with_number entry.router shut) u legal.1
    (shut-push net before entry shut is_shut) (omega (arith, more, count))) in
    omega (
      arith,
      later,
      more,
      count,
      one_entry (root_of net) shut (tables (root_of net) before) entry rest net.routers,
    )

-- ---- the root

-- A legal history, whose root didn't move.
record HasStill (net : Net) (history : List Entry) : Type 0 where
  pub legal : IsLegal net history
  pub still : moves (root_of net) history (root_of net) ≡ 0

-- the root hangs from itself
root-up : (net : Net) → root_of net < net.routers → (history : List Entry) → IsLegal net history
    → (tables (root_of net) history).up (root_of net) ≡ root_of net
root-up net room history legal = (built net room history legal).shape.forest.top

-- so no entry moves it
still-push : (net : Net) → root_of net < net.routers → (history : List Entry) (entry : Entry) → HasStill net history
    → MayFollow net history entry → HasStill net (history ++ entry ∷ [])
still-push net room history entry old may = record {
  legal = legal;
  still = moves-push (root_of net) history entry (root_of net)
      ∙ rw (
        old.still,
        eq-eqb ((tables (root_of net) (history ++ entry ∷ [])).up (root_of net))
            ((tables (root_of net) history).up (root_of net))
            (root-up net room (history ++ entry ∷ []) legal ∙ sym (root-up net room history old.legal)),
      )
      (grind (arith, cases_Bool (entered (history ++ entry ∷ []) (root_of net))));
}
  where
    legal : IsLegal net (history ++ entry ∷ [])
    legal = legal_push net history entry old.legal may

-- nor does a legal history
root-still : (net : Net) → root_of net < net.routers → (history : List Entry) → IsLegal net history
    → moves (root_of net) history (root_of net) ≡ 0
unfolding IsLegalAfter moves_from
root-still net room history legal =
    (by_entries net (HasStill net) (record { legal = tt; still = refl }) (still-push net room) history legal).still

-- ---- the law

-- At first the root is shut out, and all routers that are no terminals.
shut_first : Net → RouterSet
shut_first net = with_number (root_of net) (outside (is_terminal net))

-- they are those
shut_first-is : (net : Net) → IsShut net [] (shut_first net)
unfolding shut_first
shut_first-is net r terminal not_root fresh =
    with_number-other (root_of net) (outside (is_terminal net)) r not_root ∙ rw terminal refl

-- so all terminals but one are left
shut_first-count : (net : Net) → IsInLimits net
    → number_in (shut_first net) net.routers + (terminal_count net - 1) ≡ net.routers
unfolding shut_first
shut_first-count net limits =
    let out : outside (is_terminal net) (root_of net) ≡ false = rw (root_terminal net limits) refl in
    omega (
      arith,
      number_in-new (outside (is_terminal net)) (root_of net) net.routers out (root-lt net limits),
      number_in-outside (is_terminal net) net.routers,
      number_in-lt (outside (is_terminal net)) (root_of net) net.routers out (root-lt net limits),
    )

-- there is a terminal
terminal_count-some : (net : Net) → IsInLimits net → 0 < terminal_count net
terminal_count-some net limits =
    let out : outside (is_terminal net) (root_of net) ≡ false = rw (root_terminal net limits) refl in
    omega (
      arith,
      number_in-outside (is_terminal net) net.routers,
      number_in-lt (outside (is_terminal net)) (root_of net) net.routers out (root-lt net limits),
    )

-- a terminal's moves are those of a router that isn't shut out at first, or of the root, which has none
moves-counted : (net : Net) → IsInLimits net → (history : List Entry) → IsLegal net history → (r : ℕ)
    → cond (is_terminal net r) (moves (root_of net) history r) 0
    ≤ cond (outside (shut_first net) r) (moves (root_of net) history r) 0
unfolding entered
moves-counted net limits history legal r = elim (cases_eq r (root_of net)) [
  | inl here ↦ rw (here, root-still net (root-lt net limits) history legal)
      (grind (arith, cases_Bool (is_terminal net (root_of net))))
  | inr other ↦ elim (cases_Bool (is_terminal net r)) [
    | inl terminal ↦ rw (terminal, shut_first-is net r terminal other refl) (omega arith)
    | inr not_one ↦ rw not_one (omega arith)
  ]
]

-- the terminals of a legal history move seldom
pub moves-few : (net : Net) → IsInLimits net → (history : List Entry) → IsLegal net history
    → sum_over (is_terminal net) (moves (root_of net) history) net.routers ≤ most_moves (terminal_count net)
unfolding tables
moves-few net limits history legal =
    triangle-most (terminal_count net) (sum_over (is_terminal net) (moves (root_of net) history) net.routers)
    (terminal_count-some net limits)
    (omega (
      arith,
      sum_over-le (is_terminal net) (outside (shut_first net)) (moves (root_of net) history)
          (moves (root_of net) history) net.routers (λ r low. moves-counted net limits history legal r),
      moves-open net [] history (shut_first net) (terminal_count net - 1) legal (shut_first-is net)
          (shut_first-count net limits),
    ))

-- so do counts that are no more than their moves
pub counts-few : (net : Net) → IsInLimits net → (history : List Entry) → IsLegal net history → (counts : ℕ → ℕ)
    → ((r : ℕ) → r < net.routers → counts r ≤ moves (root_of net) history r)
    → sum_over (is_terminal net) counts net.routers ≤ most_moves (terminal_count net)
counts-few net limits history legal counts each = omega (
  arith,
  sum_over-le (is_terminal net) (is_terminal net) counts (moves (root_of net) history) net.routers term,
  moves-few net limits history legal,
)
  where
    term : (r : ℕ) → r < net.routers
        → cond (is_terminal net r) (counts r) 0 ≤ cond (is_terminal net r) (moves (root_of net) history r) 0
    term r low = grind (arith, cases_Bool (is_terminal net r), each r low)
