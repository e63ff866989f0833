-- Which routers of a walk a run of deeper ones has: those below its first.
use Rattle.std.proofs.Common.{◌≡◌, ◌≢◌, ◌⊎◌, inl, inr, ℕ, zero, suc, ◌+◌, ◌-◌, ◌<◌, ◌≤◌}
use Rattle.std.proofs.Common.{Bool, true, false, List, length}
use Rattle.std.proofs.Common.{sym, ◌∙◌, ap, subst, arith}
use Rattle.std.specs.Prelude.{slice_index, nat_le}
use Rattle.std.proofs.lemmas.Bool.{cases_Bool, cases_lt, false≢true}
use Rattle.std.proofs.lemmas.Bool.Decides.{leb_tells}
use Rattle.tree_state.specs.Views.{TreeView, up_of, HoldsCutTree}
use Rattle.path_minimum.specs.declared.walk.Stretch.{Stretch}
use Rattle.path_minimum.specs.Depths.{depth_of, AreDepthsOf}
use Rattle.path_minimum.specs.Stretches.{below_in, stretch_at, is_in, IsPreorder, IsRun, IsWalkOf, AreRunsFrom}
use Rattle.path_minimum.proofs.Ancestors.{self-in, above-in, hanging-in, deeper-in, through-in, chain-in, low-in}
use Rattle.path_minimum.proofs.Depths.{depth_of-suc, depth_of-root}

-- The router at a place of a walk through a tree, and a run of deeper ones that begins there.
pub record IsBegun (tree : TreeView) (depths order : List ℕ) (place : ℕ) (run : Stretch) : Type 0 where
  pub walk : IsPreorder tree order
  pub depths_are : AreDepthsOf tree depths
  pub inside : place < length order
  pub run_is : IsRun depths order place run

-- Whether the router at one place is below that at another.
abbrev pub below_at : TreeView → List ℕ → ℕ → ℕ → Bool
below_at tree order place k = below_in tree (slice_index order place) (slice_index order k)

-- ---- places of a stretch

-- those before it are not in it
pub is_in-before : (stretch : Stretch) (k : ℕ) → k < stretch.from → is_in stretch k ≡ false
is_in-before stretch k less = grind (arith, less, leb_tells stretch.from k)

-- those from its first on and before its end are
pub is_in-inside : (stretch : Stretch) (k : ℕ) → stretch.from ≤ k → k < stretch.end → is_in stretch k ≡ true
is_in-inside stretch k from end = grind (arith, from, end, leb_tells stretch.from k, leb_tells (suc k) stretch.end)

-- and those from its end on are not
pub is_in-behind : (stretch : Stretch) (k : ℕ) → stretch.end ≤ k → is_in stretch k ≡ false
is_in-behind stretch k past = grind (arith, past, cases_Bool (nat_le stretch.from k), leb_tells (suc k) stretch.end)

-- what is in it is from its first on and before its end
pub is_in-parts : (stretch : Stretch) (k : ℕ) → is_in stretch k ≡ true → (stretch.from ≤ k) × (k < stretch.end)
is_in-parts stretch k inside = grind (arith, inside, leb_tells stretch.from k, leb_tells (suc k) stretch.end)

-- and what isn't is before the one or from the other on
pub is_out-parts : (stretch : Stretch) (k : ℕ) → is_in stretch k ≡ false → (k < stretch.from) ⊎ (stretch.end ≤ k)
is_out-parts stretch k outside = grind (arith, outside, leb_tells stretch.from k, leb_tells (suc k) stretch.end)

-- a router but the root is a step deeper than the one that it hangs from
deep_step : (tree : TreeView) → HoldsCutTree tree → (r : ℕ) → r < tree.net.routers → 0 < depth_of tree r
    → depth_of tree r ≡ suc (depth_of tree (up_of tree r))
deep_step tree holds r low deep =
    depth_of-suc tree holds r low
    (λ top. let high : depth_of tree r ≡ 0 = ap (depth_of tree) top ∙ depth_of-root tree holds in
    absurd (omega (arith, deep, high)))

-- ---- the run

-- a router that isn't below the one at the place, and no other, is followed by such, but for that one
stays-out : (tree : TreeView) → HoldsCutTree tree → (order : List ℕ) (place k : ℕ) → IsPreorder tree order
    → place < length order → suc k < length order → suc k ≢ place → below_at tree order place k ≡ false
    → below_at tree order place (suc k) ≡ false
stays-out tree holds order place k walk inside low other out = elim (cases_Bool (below_at tree order place (suc k))) [
  | inr lacks ↦ lacks
  | inl has ↦ absurd (false≢true (sym out
      ∙ through-in tree holds (slice_index order place) (up_of tree (slice_index order (suc k))) (slice_index order k)
      (walk.ordered.within k (omega (arith, low)))
      (above-in tree holds (slice_index order place) (slice_index order (suc k)) (walk.ordered.within (suc k) low)
      (apart (cases_lt (suc k) place)) has)
      (walk.ordered.leads k low)))
]
  where
    apart : (suc k < place) ⊎ (place ≤ suc k) → slice_index order (suc k) ≢ slice_index order place
    apart (inl less) = walk.ordered.apart (suc k) place less inside
    apart (inr more) = λ same. walk.ordered.apart place (suc k) (omega (arith, more, other)) low (sym same)

-- none before the place is below the router there
run-before : (tree : TreeView) → HoldsCutTree tree → (order : List ℕ) (place k : ℕ) → IsPreorder tree order
    → place < length order → k < place → below_at tree order place k ≡ false
run-before tree holds order place zero walk inside less = elim (cases_Bool (below_at tree order place zero)) [
  | inr lacks ↦ lacks
  | inl has ↦ absurd (low-in tree holds (slice_index order place) (slice_index order 0) has
      (walk.ordered.apart 0 place less inside) walk.ordered.first)
]
run-before tree holds order place (suc k) walk inside less =
    stays-out tree holds order place k walk inside (omega (arith, less, inside))
    (λ same. absurd (omega (arith, same, less)))
    (run-before tree holds order place k walk inside (omega (arith, less)))

-- those of the run are
run-inside : (tree : TreeView) → HoldsCutTree tree → (depths order : List ℕ) (place m : ℕ) (run : Stretch)
    → IsBegun tree depths order place run → place + m < run.end → below_at tree order place (place + m) ≡ true
run-inside tree holds depths order place zero run begun less =
    let e : place + 0 ≡ place = omega arith in
    ap (below_at tree order place) e
    ∙ self-in tree (slice_index order place) (begun.walk.ordered.within place begun.inside)
run-inside tree holds depths order place (suc m) run begun less =
    let e : place + suc m ≡ suc (place + m) = omega arith in
    let low : suc (place + m) < length order = omega (arith, less, begun.run_is.inside, e) in
    let c : ℕ = slice_index order place in
    let r : ℕ = slice_index order (suc (place + m)) in
    let r_low : r < tree.net.routers = begun.walk.ordered.within (suc (place + m)) low in
    let deeper : depth_of tree c < depth_of tree r = omega (
      arith,
      begun.run_is.deeper (suc (place + m)) (omega arith) (omega (arith, less, e)),
      begun.depths_are.depth_is c (begun.walk.ordered.within place begun.inside),
      begun.depths_are.depth_is r r_low,
    ) in
    let before : below_in tree c (slice_index order (place + m)) ≡ true =
    run-inside tree holds depths order place m run begun (omega (arith, less, e)) in
    ap (below_at tree order place) e
    ∙ hanging-in tree holds c r r_low
    (chain-in tree holds c (up_of tree r) (slice_index order (place + m))
    (begun.walk.ordered.within (place + m) (omega (arith, low))) before (begun.walk.ordered.leads (place + m) low)
    (omega (arith, deeper, deep_step tree holds r r_low (omega (arith, deeper)))))

-- and none behind it
run-behind : (tree : TreeView) → HoldsCutTree tree → (depths order : List ℕ) (place m : ℕ) (run : Stretch)
    → IsBegun tree depths order place run → run.end + m < length order
    → below_at tree order place (run.end + m) ≡ false
run-behind tree holds depths order place zero run begun less =
    let e : run.end + 0 ≡ run.end = omega arith in
    let low : run.end < length order = omega (arith, less, e) in
    let c : ℕ = slice_index order place in
    let r : ℕ = slice_index order run.end in
    let r_low : r < tree.net.routers = begun.walk.ordered.within run.end low in
    ap (below_at tree order place) e ∙ elim (cases_Bool (below_in tree c r)) [
      | inr lacks ↦ lacks
      | inl has ↦ absurd (omega (
        arith,
        begun.run_is.stops low,
        begun.depths_are.depth_is c (begun.walk.ordered.within place begun.inside),
        begun.depths_are.depth_is r r_low,
        deeper-in tree holds c r r_low has
            (λ same. begun.walk.ordered.apart place run.end begun.run_is.later low (sym same)),
      ))
    ]
run-behind tree holds depths order place (suc m) run begun less =
    let e : run.end + suc m ≡ suc (run.end + m) = omega arith in
    ap (below_at tree order place) e
    ∙ stays-out tree holds order place (run.end + m) begun.walk begun.inside (omega (arith, less, e))
    (λ same. absurd (omega (arith, same, begun.run_is.later)))
    (run-behind tree holds depths order place m run begun (omega (arith, less, e)))

-- so the router at a place is below the one where the run begins where the run has it
run-below : (tree : TreeView) → HoldsCutTree tree → (depths order : List ℕ) (place k : ℕ) (run : Stretch)
    → IsBegun tree depths order place run → k < length order → below_at tree order place k ≡ is_in run k
run-below tree holds depths order place k run begun low = elim (cases_lt k place) [
  | inl less ↦ run-before tree holds order place k begun.walk begun.inside less
      ∙ sym (is_in-before run k (omega (arith, less, begun.run_is.from_is)))
  | inr more ↦ elim (cases_lt k run.end) [
    | inl inside ↦ (
        let e : place + (k - place) ≡ k = omega (arith, more) in
        ap (below_at tree order place) (sym e)
        ∙ run-inside tree holds depths order place (k - place) run begun (omega (arith, e, inside))
        ∙ sym (is_in-inside run k (omega (arith, more, begun.run_is.from_is)) inside))
    | inr past ↦ (
        let e : run.end + (k - run.end) ≡ k = omega (arith, past) in
        ap (below_at tree order place) (sym e)
        ∙ run-behind tree holds depths order place (k - run.end) run begun (omega (arith, e, low))
        ∙ sym (is_in-behind run k past))
  ]
]

-- a walk with such runs is one in which what is below a router is its stretch
pub walk-made : (tree : TreeView) → HoldsCutTree tree → (depths order : List ℕ) (stretches : List Stretch)
    → AreDepthsOf tree depths → IsPreorder tree order → length stretches ≡ tree.net.routers
    → AreRunsFrom depths order stretches 0 → IsWalkOf tree (record { order = order; stretches = stretches })
walk-made tree holds depths order stretches depths_are walk count runs = record {
  size = walk.size;
  places = count;
  within = λ k low. walk.ordered.within k (omega (arith, low, walk.size));
  place_is = λ k low. (run_at k low).from_is;
  from_is = λ c low.
      let at = walk.has_place c low in
      ap (slice_index order) (from_at c low) ∙ at.router_is;
  from_within = λ c low.
      let at = walk.has_place c low in omega (arith, from_at c low, at.inside, walk.size);
  ordered = λ c low. at_place c low (λ (run : Stretch). run.from < run.end)
      (λ k inside. let run = run_at k inside in omega (arith, run.from_is, run.later));
  end_within = λ c low. at_place c low (λ (run : Stretch). run.end ≤ tree.net.routers)
      (λ k inside. let run = run_at k inside in omega (arith, run.inside, walk.size));
  below_is = λ c k low inside.
      let at = walk.has_place c low in
      subst (λ (q : ℕ). below_in tree q (slice_index order k) ≡ is_in (stretch_at stretches q) k) at.router_is
      (run-below tree holds depths order at.place k (stretch_at stretches (slice_index order at.place))
      (record {
        walk = walk;
        depths_are = depths_are;
        inside = at.inside;
        run_is = run_at at.place (omega (arith, at.inside, walk.size));
      })
      (omega (arith, inside, walk.size)));
}
  where
    run_at : (k : ℕ) → k < tree.net.routers → IsRun depths order k (stretch_at stretches (slice_index order k))
    run_at k low = runs k (omega arith) (omega (arith, low, walk.size))

    from_at : (c : ℕ) (low : c < tree.net.routers) → (stretch_at stretches c).from ≡ (walk.has_place c low).place
    from_at c low =
        let at = walk.has_place c low in
        ap (λ (q : ℕ). (stretch_at stretches q).from) (sym at.router_is)
        ∙ (run_at at.place (omega (arith, at.inside, walk.size))).from_is

    at_place : (c : ℕ) → c < tree.net.routers → (P : Stretch → Type 0)
        → ((k : ℕ) → k < tree.net.routers → P (stretch_at stretches (slice_index order k))) → P (stretch_at stretches c)
    at_place c low P all =
        let at = walk.has_place c low in
        subst (λ (q : ℕ). P (stretch_at stretches q)) at.router_is (all at.place (omega (arith, at.inside, walk.size)))
