-- What a line does where so much was told, by what is kept of that.
use Rattle.std.proofs.Common.{◌≡◌, ◌≢◌, ℕ, ◌+◌, ◌-◌, ◌^◌, ◌<◌, ◌≤◌, min, Bool}
use Rattle.std.proofs.Common.{true, false, List, [], ◌∷◌, ◌++◌, length}
use Rattle.std.proofs.Common.{◌∙◌, ap, arith, refl, sym, Some, None, length-append}
use Rattle.std.proofs.lemmas.Bool.{eq-eqb, le-ltb, ne_eqb}
use Rattle.std.proofs.lemmas.Bool.Decides.{Decides-int_eq}
use Rattle.std.proofs.lemmas.Int.{ints}
use Rattle.std.proofs.lemmas.List.{map-append}
use Rattle.std.specs.List.{list_any, range_with_len}
use Rattle.std.specs.Option.{option_map}
use Rattle.std.specs.Ordering.{int_eq}
use Rattle.std.specs.Prelude.{◌==◌, ◌||◌, ℤ, pos, nat_abs, not, if◌then◌else◌}
use Rattle.std.specs.declared.option.Option.{Option}
use Rattle.cut_model.specs.Flow.{out}
use Rattle.cut_model.specs.Net.{Net}
use Rattle.text_forms.specs.Numbers.{number_in}
use Rattle.certifier.proofs.Summing.{capped_same, same_from, sums_on}
use Rattle.certifier.specs.Certificates.{Taken, faulty, link_at, next_child, or_faulty}
use Rattle.certifier.specs.Certificates.{take_flow, take_routers, take_value, take_whole}
use Rattle.certifier.specs.Kept.{IsKept, KeptTree, kept_edge, next_in}
use Rattle.certifier.specs.Signs.{with_sign}
use Rattle.certifier.specs.Stages.{GoesTo, IsUnderWay, StopsBy}
use Rattle.certifier.specs.Sums.{sends_amount, some_stays, sum_at, with_value}
use Rattle.certifier.specs.Trees.{Edge, Told, keeps_some, leaks, sends_width}
use Rattle.certifier.specs.declared.stage.Stage.TheVariants.{Between}
use Rattle.certifier.specs.declared.stage.Stop.{Stop}
use Rattle.certifier.specs.declared.stage.Stop.TheVariants.{Faulty}
use Rattle.certifier.specs.declared.stage.Way.{Way}
use Rattle.certifier.specs.declared.tree.KeptEdge.{KeptEdge}

-- the sums tell whether something stays in a router
pub same_leaks : (net : Net) (edge : Edge) (way : Way) → IsUnderWay net edge way
    → list_any (some_stays way.sums.sums way.child way.up) (range_with_len 0 (length way.sums.sums)) ≡ leaks net edge
same_leaks net edge way under =
    ap (λ n. list_any (some_stays way.sums.sums way.child way.up) (range_with_len 0 n)) under.sums.count
    ∙ same_from (some_stays way.sums.sums way.child way.up) (keeps_some net edge) 0 net.routers
    (λ k low. rw (under.child, under.up, under.sums.each k (omega (arith, low))) refl)

-- and whether as much is sent as the edge is wide
pub same_sends : (net : Net) (edge : Edge) (way : Way) → IsUnderWay net edge way → way.child < net.routers
    → nat_abs (sum_at way.sums.sums way.child) < 2 ^ 63
    → sends_amount way.sums.sums way.child way.width ≡ sends_width net edge
same_sends net edge way under within small =
    capped_same (sum_at way.sums.sums way.child) way.width edge.width small under.width
    ∙ ap (λ x. int_eq x (pos edge.width))
    (under.sums.each way.child within ∙ ap (λ r. out r net.links edge.flow) under.child)

-- a width that is sent wasn't capped
pub same_width : (x : ℤ) (amount whole : ℕ) → nat_abs x < 2 ^ 63 → amount ≡ min (2 ^ 64 - 1) whole
    → int_eq x (pos amount) ≡ true → amount ≡ whole
same_width x amount whole small is sent =
    let h = (Decides-int_eq x (pos amount)).0 sent in omega (arith, ints, h, small, is)

-- something stays in a router
pub leaks_stop : (told : Told) (edge : Edge) (line : ℕ) (stop : Stop) → leaks told.sheet.net edge ≡ true
    → line ≡ edge.line → stop ≡ Faulty record { number = 36; line = line } → StopsBy stop (take_whole told edge)
leaks_stop told edge line stop holds same is = rw (is, holds, same) refl

-- another value is sent than the edge is wide
pub sends_stop : (told : Told) (edge : Edge) (line : ℕ) (stop : Stop) → leaks told.sheet.net edge ≡ false
    → sends_width told.sheet.net edge ≡ false → line ≡ edge.line → stop ≡ Faulty record { number = 37; line = line }
    → StopsBy stop (take_whole told edge)
sends_stop told edge line stop kept other same is = rw (is, kept, other, same) refl

-- what is kept of an edge whose flow is whole
kept_way : (edge : Edge) (net : Net) (way : Way) → IsUnderWay net edge way → way.width ≡ edge.width
    → record { line = way.line; child = way.child; up = way.up; width = way.width } ≡ kept_edge edge
kept_way edge net way under wide = rw (under.line, under.child, under.up, wide) refl

-- the edge is kept with the others
pub whole_goes : (told : Told) (edge : Edge) (tree : KeptTree) (way : Way) → IsKept told tree
    → IsUnderWay told.sheet.net edge way → way.child ≡ next_in tree → way.width ≡ edge.width
    → IsKept (record told { edges = told.edges ++ edge ∷ [] }) (record tree {
      edges = tree.edges ++ (record { line = way.line; child = next_in tree; up = way.up; width = way.width }) ∷ [];
    })
whole_goes told edge tree way kept under next wide =
    ap (λ c. record tree {
      edges = tree.edges ++ (record { line = way.line; child = c; up = way.up; width = way.width }) ∷ [];
    }) (sym next)
    ∙ ap (λ (e : KeptEdge). record tree { edges = tree.edges ++ e ∷ [] }) (kept_way edge told.sheet.net way under wide)
    ∙ ap (λ (t : KeptTree). record t { edges = t.edges ++ kept_edge edge ∷ [] }) kept
    ∙ ap (λ es. record { sheet = told.sheet; root = told.root; edges = es })
    (sym (map-append kept_edge told.edges (edge ∷ [])))

-- a flow that is right adds its edge, and that is kept
pub whole_takes : (told : Told) (edge : Edge) (kept : KeptTree) → leaks told.sheet.net edge ≡ false
    → sends_width told.sheet.net edge ≡ true → IsKept (record told { edges = told.edges ++ edge ∷ [] }) kept
    → GoesTo (Between kept) (take_whole told edge)
whole_takes told edge kept stays holds is = rw (stays, holds) is

-- two routers and a number were read
pub record RoutersRead (told : Told) (width : List ℕ) (child up capped : ℕ) : Type 0 where
  pub next : child ≡ next_child told
  pub apart : up ≢ child
  pub read : Some capped ≡ option_map (min (2 ^ 64 - 1)) (number_in width)

module _ (number : ℕ) where
  -- an edge goes on to its flow
  pub routers_go : (told : Told) (width : List ℕ) (child up capped : ℕ) (P : Taken → Type 0)
      → RoutersRead told width child up capped
      → ((w : ℕ) → capped ≡ min (2 ^ 64 - 1) w
      → P (take_flow told (record { line = number; child = child; up = up; width = w; flow = [] })))
      → P (take_routers number told width child up)
  routers_go told width child up capped P facts go = of_read (number_in width) facts.read
    where
      of_read : (o : Option ℕ) → Some capped ≡ option_map (min (2 ^ 64 - 1)) o
          → P (if not (child == next_child told) || (up == child) then faulty 33 number
          else or_faulty 34 number o (λ w.
          take_flow told (record { line = number; child = child; up = up; width = w; flow = [] })))
      of_read None e = absurd (cc)
      of_read (Some w) e =
          let same : capped ≡ min (2 ^ 64 - 1) w = cc in
          rw (eq-eqb child (next_child told) facts.next, ne_eqb up child facts.apart) (go w same)

-- a value that the link carries
pub value_goes : (number : ℕ) (told : Told) (edge : Edge) (size : ℤ) (P : Taken → Type 0)
    → nat_abs size ≤ (link_at told.sheet.net (length edge.flow)).cap
    → P (take_flow told (record edge { flow = edge.flow ++ size ∷ [] })) → P (take_value number told edge size)
value_goes number told edge size P fits goes =
    rw (le-ltb (link_at told.sheet.net (length edge.flow)).cap (nat_abs size) fits) goes

-- the size of a signed number
pub sign_size : (minus : Bool) (n : ℕ) → nat_abs (with_sign minus n) ≡ n
sign_size true n = omega (arith, ints)
sign_size false n = omega (arith, ints)

-- the flow of an edge with one value more
pub under_on : (net : Net) (edge : Edge) (way : Way) (value : ℤ) → IsUnderWay net edge way
    → length edge.flow < length net.links → (link_at net (length edge.flow)).a < length way.sums.sums
    → (link_at net (length edge.flow)).b < length way.sums.sums
    → IsUnderWay net (record edge { flow = edge.flow ++ value ∷ [] }) (record way {
      sums = record {
        values = way.sums.values + 1;
        sums = with_value (link_at net (length edge.flow)) value way.sums.sums;
      };
    })
under_on net edge way value under more a b = record {
  line = under.line;
  child = under.child;
  up = under.up;
  width = under.width;
  values = omega (arith, under.values, length-append edge.flow (value ∷ []));
  sums = sums_on net edge.flow way.sums.sums value under.sums more a b;
}
