-- Two terminals have one ordered path: lists of the same numbers along which a size rises are equal.
use Rattle.std.proofs.Common.{◌≡◌, inl, inr, ℕ, suc, ◌+◌, ◌<◌, true, List, [], ◌∷◌, ◌++◌}
use Rattle.std.proofs.Common.{map, reverse, sym, ◌∙◌, ap, subst, arith, refl}
use Rattle.std.specs.Prelude.{◌==◌, ◌↔◌, Contains}
use Rattle.std.specs.List.Sorted.{IsStrictlyIncreasing}
use Rattle.std.proofs.lemmas.Bool.{cases_Bool, cases_eq, false≢true, eq-eqb, ne_eqb}
use Rattle.std.proofs.lemmas.List.{reverse-reverse}
use Rattle.cut_model.specs.Net.{Net}
use Rattle.tree_state.specs.Tables.{Table}
use Rattle.path_minimum.specs.Paths.{size_below, IsOnPathAbove, IsOrderedPath}
use Rattle.path_minimum.proofs.Orders.{among-contained, contains-among, contains-turned, contains-turned_back}
use Rattle.path_minimum.proofs.Ways.{among}

-- ---- a size that rises along a list

-- it rises along the rest of the list
rises-rest : (f : ℕ → ℕ) (x : ℕ) (xs : List ℕ) → IsStrictlyIncreasing (map f (x ∷ xs))
    → IsStrictlyIncreasing (map f xs)
rises-rest f x xs rises k low = let e : suc k + 1 ≡ suc (k + 1) = omega arith in
    let next = rises (suc k) (omega arith) in rw e at next

-- the first is smaller than each other
first-smaller : (f : ℕ → ℕ) (x : ℕ) (xs : List ℕ) → IsStrictlyIncreasing (map f (x ∷ xs)) → (c : ℕ)
    → among xs c ≡ true → f x < f c
first-smaller f x [] rises c inside = absurd (false≢true inside)
first-smaller f x (y ∷ xs) rises c inside =
    let step : f x < f y = rises 0 (omega arith) in
    elim (cases_eq y c) [
      | inl here ↦ subst (λ (r : ℕ). f x < f r) here step
      | inr other ↦ (let further : f y < f c =
          first-smaller f y xs (rises-rest f x (y ∷ xs) rises) c (rw (ne_eqb y c other) at inside) in omega arith)
    ]

-- ---- lists of the same numbers

-- the first of each is the first of the other
same-first : (f : ℕ → ℕ) (x y : ℕ) (xs ys : List ℕ) → IsStrictlyIncreasing (map f (x ∷ xs))
    → IsStrictlyIncreasing (map f (y ∷ ys)) → among (y ∷ ys) x ≡ true → among (x ∷ xs) y ≡ true → x ≡ y
same-first f x y xs ys x_rises y_rises x_inside y_inside = elim (cases_eq x y) [
  | inl here ↦ here
  | inr other ↦ absurd (omega (
    arith,
    first-smaller f x xs x_rises y (rw (ne_eqb x y other) at y_inside),
    first-smaller f y ys y_rises x (rw (ne_eqb y x (λ e. other (sym e))) at x_inside),
  ))
]

-- what the one has beside its first, the other has beside the same first
same-rest : (f : ℕ → ℕ) (x y : ℕ) (xs ys : List ℕ) → x ≡ y → IsStrictlyIncreasing (map f (x ∷ xs)) → (c : ℕ)
    → among xs c ≡ true → among (y ∷ ys) c ≡ true → among ys c ≡ true
same-rest f x y xs ys e rises c inside there = elim (cases_eq y c) [
  | inl here ↦ absurd (let smaller : f x < f c = first-smaller f x xs rises c inside in
      let same : f x ≡ f c = ap f (e ∙ here) in omega arith)
  | inr other ↦ rw (ne_eqb y c other) at there
]

-- the first of a list is in it
first-inside : (x : ℕ) (xs : List ℕ) → among (x ∷ xs) x ≡ true
first-inside x xs = rw (eq-eqb x x refl) refl

-- the rest of a list is in it
rest-inside : (x : ℕ) (xs : List ℕ) (c : ℕ) → among xs c ≡ true → among (x ∷ xs) c ≡ true
rest-inside x xs c inside = rw inside (grind (arith, cases_Bool (x == c)))

-- so the lists are equal
same-list : (f : ℕ → ℕ) (xs ys : List ℕ) → IsStrictlyIncreasing (map f xs) → IsStrictlyIncreasing (map f ys)
    → ((c : ℕ) → among xs c ≡ true → among ys c ≡ true) → ((c : ℕ) → among ys c ≡ true → among xs c ≡ true)
    → xs ≡ ys
same-list f [] [] xs_rise ys_rise forth back = refl
same-list f [] (y ∷ ys) xs_rise ys_rise forth back = absurd (false≢true (back y (first-inside y ys)))
same-list f (x ∷ xs) [] xs_rise ys_rise forth back = absurd (false≢true (forth x (first-inside x xs)))
same-list f (x ∷ xs) (y ∷ ys) xs_rise ys_rise forth back =
    let e : x ≡ y = same-first f x y xs ys xs_rise ys_rise (forth x (first-inside x xs)) (back y (first-inside y ys)) in
    rw e (ap (λ (zs : List ℕ). y ∷ zs)
    (same-list f xs ys (rises-rest f x xs xs_rise) (rises-rest f y ys ys_rise)
    (λ c inside. same-rest f x y xs ys e xs_rise c inside (forth c (rest-inside x xs c inside)))
    (λ c inside. same-rest f y x ys xs (sym e) ys_rise c inside (back c (rest-inside y ys c inside)))))

-- two lists of the numbers with a property, along which a size rises, are equal
same-numbers : (f : ℕ → ℕ) (P : ℕ → Type 0) (xs ys : List ℕ) → ((c : ℕ) → Contains xs c ↔ P c)
    → ((c : ℕ) → Contains ys c ↔ P c) → IsStrictlyIncreasing (map f xs) → IsStrictlyIncreasing (map f ys) → xs ≡ ys
same-numbers f P xs ys xs_are ys_are xs_rise ys_rise = same-list f xs ys xs_rise ys_rise
    (λ c inside. among-contained ys c ((ys_are c).1 ((xs_are c).0 (contains-among xs c inside))))
    (λ c inside. among-contained xs c ((xs_are c).1 ((ys_are c).0 (contains-among ys c inside))))

-- a list turned round has the same numbers
numbers-turned : (P : ℕ → Type 0) (xs : List ℕ) → ((c : ℕ) → Contains xs c ↔ P c) → (c : ℕ)
    → Contains (reverse xs) c ↔ P c
numbers-turned P xs xs_are c = (
  λ found. (xs_are c).0 (contains-turned_back xs c found),
  λ has. contains-turned xs c ((xs_are c).1 has),
)

-- ---- the path

-- two lists that are the ordered path of the same terminals are one
pub path-only : (net : Net) (up : Table) (a b : ℕ) (one other : List ℕ) → IsOrderedPath net up a b one
    → IsOrderedPath net up a b other → one ≡ other
path-only net up a b one other p q =
    p.joins ∙ ap (λ (xs : List ℕ). xs ++ p.behind) fronts ∙ ap (λ (xs : List ℕ). q.front ++ xs) rests ∙ sym q.joins
  where
    fronts : p.front ≡ q.front
    fronts = same-numbers (size_below net.routers up) (IsOnPathAbove net up a b a) p.front q.front p.front_is q.front_is
        p.front_grows q.front_grows

    rests : p.behind ≡ q.behind
    rests =
        sym (reverse-reverse p.behind)
        ∙ ap (λ (xs : List ℕ). reverse xs)
        (same-numbers (size_below net.routers up) (IsOnPathAbove net up a b b) (reverse p.behind) (reverse q.behind)
        (numbers-turned (IsOnPathAbove net up a b b) p.behind p.behind_is)
        (numbers-turned (IsOnPathAbove net up a b b) q.behind q.behind_is) p.behind_falls q.behind_falls)
        ∙ reverse-reverse q.behind
