-- A number of routers and a list of links have no fault exactly where they are within the limits.
use Rattle.std.proofs.Common.{◌≡◌, ℕ, ◌<◌, Bool, true, false, cond, ltb, List, []}
use Rattle.std.proofs.Common.{◌∷◌, length, get_or, Some, None, refl, sym, inl, inr, arith}
use Rattle.std.specs.Prelude.{position, ◌==◌, nat_lt, nat_le}
use Rattle.std.specs.declared.option.Option.{Option}
use Rattle.std.specs.List.{position_or_len}
use Rattle.std.proofs.lemmas.Bool.{cases_Bool, cases_lt, lt-ltb, le-ltb, ne_eqb}
use Rattle.std.proofs.lemmas.Option.{none-some}
use Rattle.std.proofs.lemmas.Bool.Decides.{nat_tests}
use Rattle.std.proofs.lemmas.List.Sums.{fails_before_first, position_or_len_is}
use Rattle.cut_model.specs.declared.network.Link.{Link}
use Rattle.cut_model.specs.declared.network.NetFault.{NetFault}
use Rattle.cut_model.specs.declared.network.NetFault.TheVariants.{NoRouter, TooManyRouters, TooManyLinks}
use Rattle.cut_model.specs.declared.network.TheConstants.{MOST_ROUTERS, MOST_LINKS}
use Rattle.cut_model.specs.Net.{IsLink, IsInLimits, has_end_outside, has_large_cap, place_fault, links_fault, net_fault}

-- the first place that passes is behind all elements where there is none
past_all : (m n : ℕ) → cond (ltb m n) (Some m) None ≡ None → (k : ℕ) → k < n → k < m
past_all m n none k within = elim (cases_lt m n) [
  | inl low ↦ absurd (none-some m (sym (rw (lt-ltb m n low) at none)))
  | inr high ↦ omega arith
]

-- where there is no first element that passes, none passes
none_passes : {X : Type 0} (p : X → Bool) (xs : List X) → position p xs ≡ None → (k : ℕ) (d : X) → k < length xs
    → p (get_or xs k d) ≡ false
none_passes p xs none k d within = fails_before_first p xs k d
    (past_all (position_or_len p xs) (length xs) none k within)

-- no fault by places means that there are no such places
no_place : (outside large : Option ℕ) → place_fault outside large ≡ None → (outside ≡ None) × (large ≡ None)
no_place (Some i) large h = cc
no_place None (Some i) h = cc
no_place None None h = (refl, refl)

-- the tests one after the other, over plain truth values
no_fault_at_all : (none many crowded : Bool) (rest : Option NetFault)
    → cond none (Some NoRouter) (cond many (Some TooManyRouters) (cond crowded (Some TooManyLinks) rest)) ≡ None
    → (none ≡ false) × (many ≡ false) × (crowded ≡ false) × (rest ≡ None)
no_fault_at_all true many crowded rest h = cc
no_fault_at_all false true crowded rest h = cc
no_fault_at_all false false true rest h = cc
no_fault_at_all false false false rest h = (refl, refl, refl, h)

-- a link with no end outside and no large capacity is one of the network
is_link : (routers : ℕ) (link : Link) → has_end_outside routers link ≡ false → has_large_cap link ≡ false
    → IsLink routers link
is_link routers link inside small = record {
  a = grind (arith, nat_tests, cases_Bool (nat_le routers link.a));
  b = grind (arith, nat_tests, cases_Bool (nat_le routers link.a));
  cap = grind (arith, nat_tests);
}

-- the limits hold where there is no fault
pub in_limits_if_faultless : (routers : ℕ) (links : List Link) → net_fault routers links ≡ None
    → IsInLimits (record { routers = routers; links = links })
in_limits_if_faultless routers links none =
    let h = no_fault_at_all (routers == 0) (nat_lt MOST_ROUTERS routers) (nat_lt MOST_LINKS (length links))
    (links_fault routers links) none in
    let places = no_place (position (has_end_outside routers) links) (position has_large_cap links) h.3 in record {
      some = grind (arith, nat_tests, h.0);
      few_routers = grind (arith, nat_tests, h.1);
      few_links = grind (arith, nat_tests, h.2);
      within = λ k d at_link.
          is_link routers (get_or links k d) (none_passes (has_end_outside routers) links places.0 k d at_link)
          (none_passes has_large_cap links places.1 k d at_link);
    }

-- and the other way round
link_is : (routers : ℕ) (link : Link) → IsLink routers link
    → (has_end_outside routers link ≡ false) × (has_large_cap link ≡ false)
link_is routers link is = (grind (arith, nat_tests), grind (arith, nat_tests))

-- where no element passes there is no first one that does
no_first : {X : Type 0} (p : X → Bool) (xs : List X) → ((k : ℕ) (d : X) → k < length xs → p (get_or xs k d) ≡ false)
    → position p xs ≡ None
no_first p [] none = refl
no_first p (x ∷ xs) none =
    let e : position_or_len p (x ∷ xs) ≡ length (x ∷ xs) =
    position_or_len_is p (x ∷ xs) (length (x ∷ xs)) x (omega arith) (λ k low. none k x low)
    (λ low. absurd (omega arith)) in
    rw (e, le-ltb (length (x ∷ xs)) (length (x ∷ xs)) (omega arith)) refl

-- and there is no fault where they hold
pub faultless_if_in_limits : (routers : ℕ) (links : List Link)
    → IsInLimits (record { routers = routers; links = links }) → net_fault routers links ≡ None
faultless_if_in_limits routers links limits =
    let some : (routers == 0) ≡ false = ne_eqb routers 0 (λ e. omega (arith, limits.some)) in
    let few : nat_lt MOST_ROUTERS routers ≡ false = le-ltb MOST_ROUTERS routers limits.few_routers in
    let room : nat_lt MOST_LINKS (length links) ≡ false = le-ltb MOST_LINKS (length links) limits.few_links in
    let inside = no_first (has_end_outside routers) links
    (λ k d low. (link_is routers (get_or links k d) (limits.within k d low)).0) in
    let small = no_first has_large_cap links (λ k d low.
    (link_is routers (get_or links k d) (limits.within k d low)).1) in
    rw (some, few, room, inside, small) refl
