-- The links of a seed one after another, and that they make a network.
use Rattle.std.proofs.Common.{◌≡◌, ℕ, suc, ◌+◌, ◌*◌, ◌<◌, ◌≤◌, ◌++◌, [], ◌∷◌, sym, subst, arith, refl}
use Rattle.std.proofs.lemmas.List.FromFn.{get_or-map-range_with_len, length-map-range_with_len}
use Rattle.std.proofs.lemmas.List.FromFn.{map-range_with_len_more}
use Rattle.cut_model.specs.Net.{IsLink, IsInLimits}
use Rattle.cut_model.specs.declared.network.TheConstants.{MOST_LINKS, MOST_ROUTERS}
use Rattle.made_networks.specs.Draws.{draw, draw_after_three, link_after, made_link, made_links, made_net}

-- three draws on, three numbers on
pub draw-three : (seed number : ℕ) → draw seed (3 * (number + 1)) ≡ draw_after_three (draw seed (3 * number))
unfolding draw
draw-three seed number =
    let on : 3 * (number + 1) ≡ suc (suc (suc (3 * number))) = omega arith in rw on refl

-- one link more stands behind those before it
pub made_links-more : (seed routers count : ℕ)
    → made_links seed routers (count + 1) ≡ made_links seed routers count ++ made_link seed routers count ∷ []
unfolding made_links
made_links-more seed routers count = map-range_with_len_more (made_link seed routers) 0 count count (omega arith)

-- a link that is drawn is one among the routers
link_after-link : (routers x : ℕ) → 0 < routers → IsLink routers (link_after routers x)
unfolding link_after
link_after-link routers x some = record { a = omega arith; b = omega arith; cap = omega arith }

-- so what a seed makes is a network
pub made_net-limits : (seed routers count : ℕ) → 0 < routers → routers ≤ MOST_ROUTERS → count ≤ MOST_LINKS
    → IsInLimits (made_net seed routers count)
unfolding made_links
made_net-limits seed routers count some few_routers few_links = record {
  some = some;
  few_routers = few_routers;
  few_links = omega (arith, length-map-range_with_len (made_link seed routers) 0 count);
  within = λ k d low.
      let short : k < count = omega (arith, length-map-range_with_len (made_link seed routers) 0 count) in
      let is = get_or-map-range_with_len (made_link seed routers) 0 count k k d short (omega arith) in
      subst (IsLink routers) (sym is) (link_after-link routers (draw seed (3 * k)) some);
}
