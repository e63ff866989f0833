-- Routers that come into an order, each right behind the one above it.
use Rattle.std.proofs.Common.{◌≡◌, ◌≢◌, inl, inr, ℕ, suc, ◌+◌, ◌-◌, ◌<◌, ◌≤◌, Bool, true, false, List, [], ◌∷◌}
use Rattle.std.proofs.Common.{length, sym, ◌∙◌, ap, subst, arith, refl}
use Rattle.std.specs.Prelude.{slice_index, replicate}
use Rattle.std.specs.List.{insert}
use Rattle.std.proofs.Math.ListN.{set}
use Rattle.std.proofs.lemmas.Bool.{cases_eq, cases_lt, false≢true}
use Rattle.std.proofs.lemmas.List.{length-set, get_or-set_same, get_or-set_other, length-replicate}
use Rattle.std.proofs.lemmas.List.{get_or-replicate, get_or_past}
use Rattle.std.proofs.lemmas.List.Edits.{get_or-insert_at, get_or-insert_below, get_or-insert_above, length-insert}
use Rattle.cut_model.specs.Cuts.{set_of}
use Rattle.cut_model.specs.Terminals.{number_in, root_of}
use Rattle.cut_model.proofs.Counting.{with_number, with_number-same, with_number-other, number_in-same, number_in-new}
use Rattle.cut_model.proofs.Counting.{number_in-lt, number_in-all, number_in-none}
use Rattle.tree_state.specs.Views.{TreeView, up_of, HoldsCutTree}
use Rattle.path_minimum.specs.Stretches.{below_in, AreApartIn, HasPlace, IsOrdered, IsDrafted, IsPreorder}
use Rattle.path_minimum.proofs.Ancestors.{self-in, hanging-in, up-within}

-- ---- marks

-- one more mark makes the marked ones one more
pub number-put : (marks : List Bool) (r n : ℕ) → length marks ≡ n → r < n → set_of marks r ≡ false
    → number_in (set_of (set marks r true)) n ≡ number_in (set_of marks) n + 1
number-put marks r n size low free = omega (
  arith,
  number_in-same (set_of (set marks r true)) (with_number r (set_of marks)) n (λ i inside. same i),
  number_in-new (set_of marks) r n free low,
)
  where
    same : (i : ℕ) → set_of (set marks r true) i ≡ with_number r (set_of marks) i
    same i = elim (cases_eq i r) [
      | inl here ↦ ap (set_of (set marks r true)) here ∙ get_or-set_same marks r true false (omega (arith, size, low))
          ∙ sym (ap (with_number r (set_of marks)) here ∙ with_number-same r (set_of marks))
      | inr other ↦ get_or-set_other marks r i true false other ∙ sym (with_number-other r (set_of marks) i other)
    ]

-- ---- one more router in an order

-- What stands behind a place: those before it as they were, the new one, and the others one later.
pub record IsInserted (order : List ℕ) (place r : ℕ) (new : List ℕ) : Type 0 where
  pub fits : place ≤ length order
  pub count : length new ≡ length order + 1
  pub here : slice_index new place ≡ r
  pub before : (k : ℕ) → k < place → slice_index new k ≡ slice_index order k
  pub behind : (k : ℕ) → place ≤ k → slice_index new (k + 1) ≡ slice_index order k

-- that is so of a router that was inserted
pub inserted : (order : List ℕ) (place r : ℕ) → place ≤ length order → IsInserted order place r (insert order place r)
inserted order place r low = record {
  fits = low;
  count = length-insert order place r low;
  here = get_or-insert_at order place r 0 low;
  before = λ k less. get_or-insert_below order place r 0 k less low;
  behind = λ k more. get_or-insert_above order place r 0 k more low;
}

-- a router that had a place has one that isn't earlier
kept-place : (order new : List ℕ) (place r hint c : ℕ) → IsInserted order place r new → HasPlace order hint c
    → HasPlace new hint c
kept-place order new place r hint c into had = elim (cases_lt had.place place) [
  | inl less ↦ record {
    place = had.place;
    later = had.later;
    inside = omega (arith, had.inside, into.count);
    router_is = into.before had.place less ∙ had.router_is;
  }
  | inr more ↦ record {
    place = had.place + 1;
    later = omega (arith, had.later);
    inside = omega (arith, had.inside, into.count);
    router_is = into.behind had.place more ∙ had.router_is;
  }
]

-- what holds of the new router and of those before holds of all
inserted-all : (order new : List ℕ) (place r : ℕ) → IsInserted order place r new → (P : ℕ → Type 0) → P r
    → ((j : ℕ) → j < length order → P (slice_index order j)) → (k : ℕ) → k < length new → P (slice_index new k)
inserted-all order new place r into P at_new at_old k low = elim (cases_lt k place) [
  | inl less ↦ subst P (sym (into.before k less)) (at_old k (omega (arith, less, into.fits)))
  | inr more ↦ elim (cases_eq k place) [
    | inl here ↦ subst P (sym (ap (slice_index new) here ∙ into.here)) at_new
    | inr later ↦ (
        let e : k - 1 + 1 ≡ k = omega (arith, more, later) in
        subst P (sym (ap (slice_index new) (sym e) ∙ into.behind (k - 1) (omega (arith, more, later))))
        (at_old (k - 1) (omega (arith, more, later, low, into.count))))
  ]
]

-- a new router is none of those before
inserted-apart : (order new : List ℕ) (place r : ℕ) → IsInserted order place r new → AreApartIn order
    → ((j : ℕ) → j < length order → slice_index order j ≢ r) → AreApartIn new
inserted-apart order new place r into apart fresh i j less low = elim (cases_lt j place) [
  | inl j_less ↦ rw (into.before i (omega (arith, less, j_less)), into.before j j_less)
      (apart i j less (omega (arith, j_less, into.fits)))
  | inr j_more ↦ elim (cases_eq j place) [
    | inl here ↦ rw (here, into.here, into.before i (omega (arith, less, here)))
        (fresh i (omega (arith, less, here, into.fits)))
    | inr later ↦ (
        let back : slice_index new j ≡ slice_index order (j - 1) =
        (let e : j - 1 + 1 ≡ j = omega (arith, j_more, later) in
        ap (slice_index new) (sym e) ∙ into.behind (j - 1) (omega (arith, j_more, later))) in
        let inside : j - 1 < length order = omega (arith, j_more, later, low, into.count) in
        elim (cases_lt i place) [
          | inl i_less ↦ rw (back, into.before i i_less) (apart i (j - 1) (omega (arith, i_less, j_more, later)) inside)
          | inr i_more ↦ elim (cases_eq i place) [
            | inl i_here ↦ rw (back, i_here, into.here) (λ same. fresh (j - 1) inside (sym same))
            | inr i_later ↦ (
                let e : i - 1 + 1 ≡ i = omega (arith, i_more, i_later) in
                rw (back, ap (slice_index new) (sym e) ∙ into.behind (i - 1) (omega (arith, i_more, i_later)))
                (apart (i - 1) (j - 1) (omega (arith, less, i_more, i_later)) inside))
          ]
        ])
  ]
]

-- right behind the one above it a new router leaves each one behind one that the router above it has below it
inserted-leads : (tree : TreeView) → HoldsCutTree tree → (order new : List ℕ) (place r : ℕ)
    → IsInserted order place r new → IsOrdered tree order → r < tree.net.routers → 0 < place
    → slice_index order (place - 1) ≡ up_of tree r → (k : ℕ) → suc k < length new
    → below_in tree (up_of tree (slice_index new (suc k))) (slice_index new k) ≡ true
inserted-leads tree holds order new place r into ordered r_low some above k low =
    elim (cases_lt (suc k) place) [
      | inl less ↦ rw (into.before k (omega (arith, less)), into.before (suc k) less)
          (ordered.leads k (omega (arith, less, into.fits)))
      | inr more ↦ elim (cases_eq (suc k) place) [
        | inl here ↦ (
            let e : place - 1 ≡ k = omega (arith, here) in
            rw (
              ap (slice_index new) here ∙ into.here,
              into.before k (omega (arith, here)),
              sym (ap (slice_index order) e) ∙ above,
            )
            (self-in tree (up_of tree r) (up-within tree holds r r_low)))
        | inr later ↦ behind (omega (arith, more, later))
      ]
    ]
  where
    behind : place ≤ k → below_in tree (up_of tree (slice_index new (suc k))) (slice_index new k) ≡ true
    behind more =
        let next : slice_index new (suc k) ≡ slice_index order k =
        (let e : k + 1 ≡ suc k = omega arith in ap (slice_index new) (sym e) ∙ into.behind k more) in
        elim (cases_eq k place) [
          | inl here ↦ (
              let e : suc (place - 1) ≡ k = omega (arith, here, some) in
              let old : below_in tree (up_of tree (slice_index order k)) (up_of tree r) ≡ true =
              ap (λ (i : ℕ). below_in tree (up_of tree (slice_index order i)) (up_of tree r)) (sym e)
              ∙ ap (λ (i : ℕ). below_in tree (up_of tree (slice_index order (suc (place - 1)))) i) (sym above)
              ∙ ordered.leads (place - 1) (omega (arith, e, low, into.count)) in
              rw (next, ap (slice_index new) here ∙ into.here)
              (hanging-in tree holds (up_of tree (slice_index order k)) r r_low old))
          | inr later ↦ (
              let e : k - 1 + 1 ≡ k = omega (arith, more, later) in
              let f : suc (k - 1) ≡ k = omega (arith, more, later) in
              let last : slice_index new k ≡ slice_index order (k - 1) =
              ap (slice_index new) (sym e) ∙ into.behind (k - 1) (omega (arith, more, later)) in
              rw (next, last)
              (ap (λ (i : ℕ). below_in tree (up_of tree (slice_index order i)) (slice_index order (k - 1))) (sym f)
              ∙ ordered.leads (k - 1) (omega (arith, f, low, into.count))))
        ]

-- Where a router without a place comes in: right behind the one above it.
pub record IsSpot (tree : TreeView) (order : List ℕ) (placed : List Bool) (place r : ℕ) : Type 0 where
  pub router : r < tree.net.routers
  pub free : set_of placed r ≡ false
  pub some : 0 < place
  pub fits : place ≤ length order
  pub above : slice_index order (place - 1) ≡ up_of tree r

-- a draft with one more router
pub drafted-put : (tree : TreeView) → HoldsCutTree tree → (order : List ℕ) (placed : List Bool) (hints : List ℕ)
    (place r : ℕ) → IsDrafted tree order placed hints → IsSpot tree order placed place r
    → IsDrafted tree (insert order place r) (set placed r true) (set hints r place)
drafted-put tree holds order placed hints place r before spot = record {
  ordered = record {
    some = omega (arith, into.count);
    first = into.before 0 spot.some ∙ before.ordered.first;
    within = inserted-all order new place r into (λ (c : ℕ). c < tree.net.routers) spot.router before.ordered.within;
    apart = inserted-apart order new place r into before.ordered.apart
        (λ j low same. false≢true (sym spot.free ∙ (ap (set_of placed) (sym same) ∙ before.are_placed j low)));
    leads = inserted-leads tree holds order new place r into before.ordered spot.router spot.some spot.above;
  };
  size = length-set placed r true ∙ before.size;
  hint_size = length-set hints r place ∙ before.hint_size;
  counted = omega (
    arith,
    into.count,
    before.counted,
    number-put placed r tree.net.routers before.size spot.router spot.free,
  );
  are_placed = inserted-all order new place r into (λ (c : ℕ). set_of (set placed r true) c ≡ true) marked
      (λ j low. stays (slice_index order j) (before.are_placed j low));
  hint = λ c is. elim (cases_eq c r) [
    | inl here ↦ subst (λ (q : ℕ). HasPlace new (slice_index (set hints r place) q) q) (sym here) (record {
      place = place;
      later = omega (arith, get_or-set_same hints r place 0 (omega (arith, spot.router, before.hint_size)));
      inside = omega (arith, into.count, spot.fits);
      router_is = into.here;
    })
    | inr other ↦ subst (λ (h : ℕ). HasPlace new h c) (sym (get_or-set_other hints r c place 0 other))
        (kept-place order new place r (slice_index hints c) c into
        (before.hint c (sym (get_or-set_other placed r c true false other) ∙ is)))
  ];
}
  where
    new : List ℕ
    new = insert order place r

    into : IsInserted order place r new
    into = inserted order place r spot.fits

    marked : set_of (set placed r true) r ≡ true
    marked = get_or-set_same placed r true false (omega (arith, spot.router, before.size))

    stays : (c : ℕ) → set_of placed c ≡ true → set_of (set placed r true) c ≡ true
    stays c is = elim (cases_eq c r) [
      | inl here ↦ ap (set_of (set placed r true)) here ∙ marked
      | inr other ↦ get_or-set_other placed r c true false other ∙ is
    ]

-- ---- the first and the last draft

-- the root alone
pub drafted-root : (tree : TreeView) → HoldsCutTree tree → root_of tree.net < tree.net.routers
    → IsDrafted tree (root_of tree.net ∷ []) (set (replicate tree.net.routers false) (root_of tree.net) true)
    (replicate tree.net.routers 0)
drafted-root tree holds low = record {
  ordered = record {
    some = omega arith;
    first = refl;
    within = λ k less. only k less (λ (c : ℕ). c < tree.net.routers) low;
    apart = λ i j less inside. absurd (omega (arith, less, inside));
    leads = λ k inside. absurd (omega (arith, inside));
  };
  size = length-set none root true ∙ length-replicate tree.net.routers false;
  hint_size = length-replicate tree.net.routers 0;
  counted = omega (
    arith,
    number-put none root tree.net.routers (length-replicate tree.net.routers false) low (free root low),
    number_in-same (set_of none) (λ i. false) tree.net.routers (λ i inside. free i inside),
    number_in-none (λ i. false) (λ i. refl) tree.net.routers,
  );
  are_placed = λ k less. only k less (λ (c : ℕ). set_of (set none root true) c ≡ true)
      (get_or-set_same none root true false (omega (arith, low, length-replicate tree.net.routers false)));
  hint = λ c is. elim (cases_eq c root) [
    | inl here ↦ subst (λ (q : ℕ). HasPlace (root ∷ []) (slice_index (replicate tree.net.routers 0) q) q) (sym here)
        (record {
          place = 0;
          later = omega (arith, get_or-replicate {A = ℕ} tree.net.routers root 0 0 low);
          inside = omega arith;
          router_is = refl;
        })
    | inr other ↦ absurd (elim (cases_lt c tree.net.routers) [
      | inl inside ↦ false≢true (sym (get_or-set_other none root c true false other ∙ free c inside) ∙ is)
      | inr outside ↦ false≢true (sym (get_or-set_other none root c true false other ∙ past c outside) ∙ is)
    ])
  ];
}
  where
    root : ℕ
    root = root_of tree.net

    none : List Bool
    none = replicate tree.net.routers false

    free : (c : ℕ) → c < tree.net.routers → set_of none c ≡ false
    free c inside = get_or-replicate tree.net.routers c false false inside

    past : (c : ℕ) → tree.net.routers ≤ c → set_of none c ≡ false
    past c outside = get_or_past none c false (omega (arith, outside, length-replicate tree.net.routers false))

    only : (k : ℕ) → k < 1 → (P : ℕ → Type 0) → P root → P (slice_index (root ∷ []) k)
    only k less P at_root =
        let e : k ≡ 0 = omega (arith, less) in
        subst (λ (i : ℕ). P (slice_index (root ∷ []) i)) (sym e) at_root

-- where every router has a place, the draft is whole
pub drafted-all : (tree : TreeView) (order : List ℕ) (placed : List Bool) (hints : List ℕ)
    → IsDrafted tree order placed hints → ((c : ℕ) → c < tree.net.routers → set_of placed c ≡ true)
    → IsPreorder tree order
drafted-all tree order placed hints draft all = record {
  ordered = draft.ordered;
  size = draft.counted ∙ number_in-all (set_of placed) tree.net.routers all;
  has_place = λ c low.
      let at = draft.hint c (all c low) in
      record { place = at.place; later = omega arith; inside = at.inside; router_is = at.router_is };
}

-- while a router has no place, there are fewer than there are routers
pub drafted-few : (tree : TreeView) (order : List ℕ) (placed : List Bool) (hints : List ℕ) (r : ℕ)
    → IsDrafted tree order placed hints → r < tree.net.routers → set_of placed r ≡ false
    → length order < tree.net.routers
drafted-few tree order placed hints r draft low free =
    omega (arith, draft.counted, number_in-lt (set_of placed) r tree.net.routers free low)

-- the root has a place
pub drafted-top : (tree : TreeView) (order : List ℕ) (placed : List Bool) (hints : List ℕ)
    → IsDrafted tree order placed hints → set_of placed (root_of tree.net) ≡ true
drafted-top tree order placed hints draft =
    ap (set_of placed) (sym draft.ordered.first) ∙ draft.are_placed 0 draft.ordered.some
