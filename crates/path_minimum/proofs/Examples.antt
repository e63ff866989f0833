-- Two trees of six routers: depths, paths in their order, and least edges, by computing.
use Rattle.std.proofs.Common.{◌≡◌, ℕ, zero, suc, ◌<◌, ◌≤◌, Bool, true, not, ◌&&◌, ◌||◌}
use Rattle.std.proofs.Common.{List, [], ◌∷◌, map}
use Rattle.std.proofs.Common.{inl, inr, refl, sym, ◌∙◌, ap, subst, arith, lit<}
use Rattle.std.specs.Prelude.{◌↔◌, Contains, nat_lt, slice_index}
use Rattle.std.specs.List.{list_all}
use Rattle.std.specs.List.Sorted.{IsStrictlyIncreasing}
use Rattle.std.proofs.lemmas.Bool.{cases_Bool, cases_eq, and_parts, false≢true, ne_eqb, ltb-true}
use Rattle.std.proofs.lemmas.Bool.Decides.{nat_tests}
use Rattle.cut_model.specs.Cuts.{differ}
use Rattle.cut_model.specs.Net.{Net}
use Rattle.cut_model.specs.Terminals.{number_in}
use Rattle.cut_model.proofs.Terminals.{all_terminals, terminal-lt}
use Rattle.tree_state.specs.Tables.{Table, some_up, below}
use Rattle.tree_state.specs.Paths.{parts, IsOnPath, IsLeastEdge}
use Rattle.path_minimum.specs.Depths.{depth_in}
use Rattle.path_minimum.specs.Paths.{IsOnPathAbove, IsOrderedPath}
use Rattle.path_minimum.proofs.Orders.{among-contained, contains-among}
use Rattle.path_minimum.proofs.SizesBelow.{rises-none, rises-one, rises-more}
use Rattle.path_minimum.proofs.Ways.{among}

-- Router 2 hangs from the root 0, 4 from 2, 1 from 4, 3 from 1, and 5 from 3.
row : Table
row = slice_index (0 ∷ 4 ∷ 0 ∷ 1 ∷ 2 ∷ 3 ∷ [])

-- The widths of its edges.
row_width : Table
row_width = slice_index (0 ∷ 7 ∷ 8 ∷ 6 ∷ 6 ∷ 8 ∷ [])

-- Routers 1 and 2 hang from the root 0, 3 and 4 from 1, and 5 from 2.
fork : Table
fork = slice_index (0 ∷ 0 ∷ 0 ∷ 1 ∷ 1 ∷ 2 ∷ [])

-- A network of six routers.
six : Net
six = record { routers = 6; links = [] }

-- all routers, in number order
routers : List ℕ
routers = 0 ∷ 1 ∷ 2 ∷ 3 ∷ 4 ∷ 5 ∷ []

-- ---- depths

-- in a row each router is one deeper than the one before it
depths_in_a_row : map (depth_in 6 0 row) routers ≡ 0 ∷ 3 ∷ 1 ∷ 4 ∷ 2 ∷ 5 ∷ []
unfolding row routers some_up number_in depth_in
depths_in_a_row = refl

-- in a fork the two below the root are at depth 1, and those below them at depth 2
depths_in_a_fork : map (depth_in 6 0 fork) routers ≡ 0 ∷ 1 ∷ 1 ∷ 2 ∷ 2 ∷ 2 ∷ []
unfolding fork routers some_up number_in depth_in
depths_in_a_fork = refl

-- ---- what a test of each router tells

-- Whether each number below n passes a test.
all_pass : (ℕ → Bool) → ℕ → Bool
all_pass test zero = true
all_pass test (suc n) = test n && all_pass test n

-- then each does
passes : (test : ℕ → Bool) (n : ℕ) → all_pass test n ≡ true → (c : ℕ) → c < n → test c ≡ true
unfolding all_pass
passes test zero all c low = absurd (omega arith)
passes test (suc n) all c low = elim (cases_eq c n) [
  | inl here ↦ ap test here ∙ (and_parts (test n) (all_pass test n) all).0
  | inr other ↦ passes test n (and_parts (test n) (all_pass test n) all).1 c (omega arith)
]

-- the members of a list whose numbers pass a test pass it
members_pass : (test : ℕ → Bool) (xs : List ℕ) → list_all test xs ≡ true → (c : ℕ) → among xs c ≡ true
    → test c ≡ true
members_pass test [] all c inside = absurd (false≢true inside)
members_pass test (x ∷ xs) all c inside =
    let both : (test x ≡ true) × (list_all test xs ≡ true) = and_parts (test x) (list_all test xs) all in
    elim (cases_eq x c) [
      | inl here ↦ subst (λ (r : ℕ). test r ≡ true) here both.0
      | inr other ↦ members_pass test xs both.1 c (rw (ne_eqb x c other) at inside)
    ]

-- A list has just the routers of a path that have one end below them.
agrees : Table → ℕ → ℕ → ℕ → List ℕ → Bool
agrees up a b end xs =
    all_pass (λ c. not (differ (among xs c) (parts 6 up a b c && below 6 up c end))) 6
    && list_all (λ c. nat_lt c 6) xs

-- then it contains these
contains_path : (up : Table) (a b end : ℕ) (xs : List ℕ) → agrees up a b end xs ≡ true → (c : ℕ)
    → Contains xs c ↔ IsOnPathAbove six up a b end c
unfolding agrees six
contains_path up a b end xs all c = (λ found. on_path found, λ above. inside above)
  where
    both : (all_pass (λ c. not (differ (among xs c) (parts 6 up a b c && below 6 up c end))) 6 ≡ true)
        × (list_all (λ c. nat_lt c 6) xs ≡ true)
    both = and_parts (all_pass (λ c. not (differ (among xs c) (parts 6 up a b c && below 6 up c end))) 6)
        (list_all (λ c. nat_lt c 6) xs) all

    same : (p q : Bool) → not (differ p q) ≡ true → p ≡ q
    same p q alike = grind (arith, cases_Bool p, cases_Bool q)

    told : c < 6 → among xs c ≡ (parts 6 up a b c && below 6 up c end)
    told low = same (among xs c) (parts 6 up a b c && below 6 up c end)
        (passes (λ c. not (differ (among xs c) (parts 6 up a b c && below 6 up c end))) 6 both.0 c low)

    on_path : Contains xs c → IsOnPathAbove six up a b end c
    on_path found =
        let member : among xs c ≡ true = among-contained xs c found in
        let low : c < 6 = ltb-true c 6 (members_pass (λ c. nat_lt c 6) xs both.1 c member) in
        let two : (parts 6 up a b c ≡ true) × (below 6 up c end ≡ true)
        = and_parts (parts 6 up a b c) (below 6 up c end) (sym (told low) ∙ member) in
        record {
          on_path = record { terminal = all_terminals six c low; parting = two.0 };
          holds = two.1;
        }

    inside : IsOnPathAbove six up a b end c → Contains xs c
    inside above = contains-among xs c
        (told (terminal-lt six c above.on_path.terminal) ∙ rw (above.on_path.parting, above.holds) refl)

-- the numbers from one to five rise
one_to_five : IsStrictlyIncreasing (1 ∷ 2 ∷ 3 ∷ 4 ∷ 5 ∷ [])
one_to_five =
    rises-more 1 2 (3 ∷ 4 ∷ 5 ∷ []) (omega arith)
    (rises-more 2 3 (4 ∷ 5 ∷ []) (omega arith)
    (rises-more 3 4 (5 ∷ []) (omega arith) (rises-more 4 5 [] (omega arith) (rises-one 5))))

-- ---- the path of 0 and 5 in the row is 2 4 1 3 5

down_the_row : IsOrderedPath six row 0 5 (2 ∷ 4 ∷ 1 ∷ 3 ∷ 5 ∷ [])
unfolding row six some_up number_in agrees all_pass
down_the_row = record {
  front = [];
  behind = 2 ∷ 4 ∷ 1 ∷ 3 ∷ 5 ∷ [];
  joins = refl;
  front_is = contains_path row 0 5 0 [] refl;
  behind_is = contains_path row 0 5 5 (2 ∷ 4 ∷ 1 ∷ 3 ∷ 5 ∷ []) refl;
  front_grows = rises-none;
  behind_falls = one_to_five;
}

-- and that of 5 and 0 is 5 3 1 4 2
up_the_row : IsOrderedPath six row 5 0 (5 ∷ 3 ∷ 1 ∷ 4 ∷ 2 ∷ [])
unfolding row six some_up number_in agrees all_pass
up_the_row = record {
  front = 5 ∷ 3 ∷ 1 ∷ 4 ∷ 2 ∷ [];
  behind = [];
  joins = refl;
  front_is = contains_path row 5 0 5 (5 ∷ 3 ∷ 1 ∷ 4 ∷ 2 ∷ []) refl;
  behind_is = contains_path row 5 0 0 [] refl;
  front_grows = one_to_five;
  behind_falls = rises-none;
}

-- ---- the path of 3 and 5 in the fork is 3 1 2 5: up from 3, and then down to 5

over_the_fork : IsOrderedPath six fork 3 5 (3 ∷ 1 ∷ 2 ∷ 5 ∷ [])
unfolding fork six some_up number_in agrees all_pass
over_the_fork = record {
  front = 3 ∷ 1 ∷ [];
  behind = 2 ∷ 5 ∷ [];
  joins = refl;
  front_is = contains_path fork 3 5 3 (3 ∷ 1 ∷ []) refl;
  behind_is = contains_path fork 3 5 5 (2 ∷ 5 ∷ []) refl;
  front_grows = rises-more 1 3 [] (omega arith) (rises-one 3);
  behind_falls = rises-more 1 2 [] (omega arith) (rises-one 2);
}

-- ---- the least edge of 0 and 5 in the row is that above 3: 3 and 4 have width 6, and 3 is smaller

-- Whether an edge that parts 0 and 5 is no narrower than that above 3, and as wide only with no smaller a number.
is_later : ℕ → Bool
is_later e = not (parts 6 row 0 5 e)
    || (not (nat_lt (row_width e) (row_width 3)) && (nat_lt (row_width 3) (row_width e) || not (nat_lt e 3)))

-- each is so
later : (e : ℕ) → IsOnPath six row 0 5 e
    → not (nat_lt (row_width e) (row_width 3)) && (nat_lt (row_width 3) (row_width e) || not (nat_lt e 3)) ≡ true
unfolding row row_width six is_later all_pass some_up
later e on_path =
    let told : is_later e ≡ true = passes is_later 6 refl e (terminal-lt six e on_path.terminal) in
    rw on_path.parting at told

least_in_the_row : IsLeastEdge six row row_width 0 5 3
unfolding row row_width six some_up
least_in_the_row = record {
  on_path = record { terminal = all_terminals six 3 (lit< tt); parting = refl };
  least = λ e on_path. no_less (row_width e) (row_width 3)
      (and_parts (not (nat_lt (row_width e) (row_width 3))) _ (later e on_path)).0;
  first = λ e on_path same. no_smaller (row_width e) (row_width 3) e
      (and_parts (not (nat_lt (row_width e) (row_width 3))) _ (later e on_path)).1 same;
}
  where
    no_smaller : (k m e : ℕ) → nat_lt m k || not (nat_lt e 3) ≡ true → k ≡ m → 3 ≤ e
    no_smaller k m e test same = grind (arith, nat_tests)

    no_less : (k m : ℕ) → not (nat_lt k m) ≡ true → m ≤ k
    no_less k m test = grind (arith, nat_tests)
