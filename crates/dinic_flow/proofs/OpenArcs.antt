-- Where a flow can lead on, an arc has something left, and the other way round.
use Rattle.std.proofs.Common.{◌≡◌, ℕ, zero, suc, ◌+◌, ◌*◌, ◌/◌, ◌%◌, ◌<◌, true, false, List, [], ◌∷◌, length, get_or}
use Rattle.std.proofs.Common.{arith, refl, subst, inl, inr, eq-eqb}
use Rattle.std.specs.Prelude.{◌==◌, ℤ, pos, ◌+ℤ◌, ◌-ℤ◌, ◌<ℤ◌, ◌≤ℤ◌, neg_ℤ}
use Rattle.std.proofs.lemmas.Int.{ints}
use Rattle.std.proofs.lemmas.Bool.{cases_Bool, ne_eqb}
use Rattle.cut_model.specs.declared.network.Link.{Link}
use Rattle.cut_model.specs.Net.{Net}
use Rattle.cut_model.specs.Flow.{LinkLeads, Leads, Reaches, here, on}
use Rattle.residual_graph.specs.Arcs.{no_link, link_of, tail_in, head_in, tail_of, head_of}
use Rattle.residual_graph.specs.View.{ResidualView, flow_of, left_on}
use Rattle.dinic_flow.specs.Levels.{OpenArc, Walk}

-- The link at a place.
abbrev link_at : Net → ℕ → Link
link_at net i = get_or net.links i no_link

-- If some link leads on, the link at some place does.
leads-at : (links : List Link) (flow : List ℤ) (u v : ℕ) → Leads links flow u v →
    (i : ℕ) × (i < length links) × LinkLeads (get_or links i no_link) (get_or flow i (pos 0)) u v
leads-at [] flow u v h = absurd h
leads-at (l ∷ links) [] u v h = absurd h
leads-at (l ∷ links) (x ∷ flow) u v (inl h) = (0, omega arith, h)
leads-at (l ∷ links) (x ∷ flow) u v (inr h) =
    let (i, within, leads) = leads-at links flow u v h in (suc i, omega arith, leads)

-- If the link at some place leads on, some link does.
leads-from : (links : List Link) (flow : List ℤ) (u v i : ℕ) → i < length links → length flow ≡ length links →
    LinkLeads (get_or links i no_link) (get_or flow i (pos 0)) u v → Leads links flow u v
leads-from [] flow u v i within even h = absurd (omega arith)
leads-from (l ∷ links) [] u v i within even h = absurd (omega arith)
leads-from (l ∷ links) (x ∷ flow) u v zero within even h = inl h
leads-from (l ∷ links) (x ∷ flow) u v (suc i) within even h =
    inr (leads-from links flow u v i (omega arith) (omega arith) h)

-- A flow below the capacity leaves something on the first arc.
left-forth : (x : ℤ) (cap : ℕ) → x <ℤ pos cap → pos 1 ≤ℤ (pos cap -ℤ x)
left-forth x cap h = omega (arith, ints)

-- And one above the negative of the capacity leaves something on the second.
left-back : (x : ℤ) (cap : ℕ) → neg_ℤ x <ℤ pos cap → pos 1 ≤ℤ (pos cap +ℤ x)
left-back x cap h = omega (arith, ints)

-- The other way round, for the first arc.
forth-left : (x : ℤ) (cap : ℕ) → pos 1 ≤ℤ (pos cap -ℤ x) → x <ℤ pos cap
forth-left x cap h = omega (arith, ints)

-- And for the second.
back-left : (x : ℤ) (cap : ℕ) → pos 1 ≤ℤ (pos cap +ℤ x) → neg_ℤ x <ℤ pos cap
back-left x cap h = omega (arith, ints)

-- If a link could carry more from its end a to its end b, something is left on its first arc.
forth-arc : (view : ResidualView) (u v i : ℕ) → i < length view.net.links →
    (link_at view.net i).a ≡ u → (link_at view.net i).b ≡ v →
    get_or view.flow i (pos 0) <ℤ pos (link_at view.net i).cap → OpenArc view 1 u v
unfolding tail_in head_in left_on
forth-arc view u v i within a b more =
    let half : (2 * i) / 2 ≡ i = omega arith in
    let even : ((2 * i) % 2 == 0) ≡ true = eq-eqb ((2 * i) % 2) 0 (omega arith) in
    record {
      arc = 2 * i;
      within = omega arith;
      tail = rw (even, half) a;
      head = rw (even, half) b;
      is_open = rw (even, half) (left-forth _ _ more);
    }

-- If a link could carry more from its end b to its end a, something is left on its second arc.
back-arc : (view : ResidualView) (u v i : ℕ) → i < length view.net.links →
    (link_at view.net i).b ≡ u → (link_at view.net i).a ≡ v →
    neg_ℤ (get_or view.flow i (pos 0)) <ℤ pos (link_at view.net i).cap → OpenArc view 1 u v
unfolding tail_in head_in left_on
back-arc view u v i within b a more =
    let half : (2 * i + 1) / 2 ≡ i = omega arith in
    let odd : ((2 * i + 1) % 2 == 0) ≡ false = ne_eqb ((2 * i + 1) % 2) 0 (λ e. omega arith) in
    record {
      arc = 2 * i + 1;
      within = omega arith;
      tail = rw (odd, half) b;
      head = rw (odd, half) a;
      is_open = rw (odd, half) (left-back _ _ more);
    }

-- If a flow can still lead on from u to v, something is left on an arc from u to v.
pub leads-arc : (view : ResidualView) (u v : ℕ) → Leads view.net.links view.flow u v → OpenArc view 1 u v
leads-arc view u v h =
    let (i, within, leads) = leads-at view.net.links view.flow u v h in
    elim leads [
      | inl e ↦ forth-arc view u v i within e.0 e.1 e.2
      | inr e ↦ back-arc view u v i within e.0 e.1 e.2
    ]

-- What is left on an arc lets its link lead from the arc's tail to its head.
left-leads : (view : ResidualView) (arc : ℕ) → pos 1 ≤ℤ left_on view arc →
    LinkLeads (link_of view.net.links arc) (flow_of view.flow arc) (tail_of view.net arc) (head_of view.net arc)
unfolding tail_in head_in left_on
left-leads view arc more = elim (cases_Bool (arc % 2 == 0)) [
  | inl even ↦ rw even (inl (refl, refl, forth-left _ _ (rw even at more)))
  | inr odd ↦ rw odd (inr (refl, refl, back-left _ _ (rw odd at more)))
]

-- If something is left on an arc from u to v, the flow can still lead on from u to v.
pub arc-leads : (view : ResidualView) (u v : ℕ) → length view.flow ≡ length view.net.links → OpenArc view 1 u v →
    Leads view.net.links view.flow u v
arc-leads view u v even arc =
    leads-from view.net.links view.flow u v (arc.arc / 2) (omega (arith, arc.within)) even
    (rw (arc.tail, arc.head) at (left-leads view arc.arc arc.is_open))

-- A walk from a router that is reached reaches its end.
walk-reaches : (view : ResidualView) (s : ℕ) → length view.flow ≡ length view.net.links → (arcs u r : ℕ) →
    Reaches view.net.links view.flow s u → Walk view 1 arcs u r → Reaches view.net.links view.flow s r
walk-reaches view s even zero u r way is = subst (λ (x : ℕ). Reaches view.net.links view.flow s x) is way
walk-reaches view s even (suc arcs) u r way (w, arc, rest) =
    walk-reaches view s even arcs w r (on way (arc-leads view u w even arc)) rest

-- A walk from s reaches its end.
pub walk-reached : (view : ResidualView) (s : ℕ) → length view.flow ≡ length view.net.links → (arcs r : ℕ) →
    Walk view 1 arcs s r → Reaches view.net.links view.flow s r
walk-reached view s even arcs r walk = walk-reaches view s even arcs s r here walk
