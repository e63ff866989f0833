-- Sums of a flow at routers, value by value.
use Rattle.std.proofs.Common.{◌≡◌, ℕ, zero, suc, ◌+◌, ◌<◌, ◌≤◌, Bool, true, false, cond, List, [], ◌∷◌}
use Rattle.std.proofs.Common.{◌++◌, length, get_or, get_or-set_same, get_or-set_other, ◌∙◌, ap, arith, refl, sym}
use Rattle.std.proofs.Common.{inl, inr, replicate, ◌-◌, ◌^◌, ◌||◌, min}
use Rattle.std.proofs.lemmas.Bool.{cases_Bool, cases_eq, eq-eqb, ne_eqb}
use Rattle.std.proofs.lemmas.Int.{ints}
use Rattle.std.proofs.lemmas.List.{length-set, length-replicate}
use Rattle.std.proofs.lemmas.List.Folds.{list_any_at, list_any_none}
use Rattle.std.proofs.lemmas.List.FromFn.{get_or-range_with_len, length-range_with_len}
use Rattle.std.proofs.lemmas.Bool.{false≢true}
use Rattle.std.proofs.lemmas.Bool.Decides.{Decides-int_eq}
use Rattle.std.specs.List.{list_any, range_with_len}
use Rattle.std.specs.Ordering.{int_eq}
use Rattle.std.specs.Prelude.{◌==◌, ℤ, pos, ◌+ℤ◌, ◌-ℤ◌, neg_ℤ, nat_abs}
use Rattle.cut_model.specs.Flow.{out, sends}
use Rattle.cut_model.specs.Net.{Net}
use Rattle.cut_model.specs.declared.network.Link.{Link}
use Rattle.cut_model.specs.declared.network.TheConstants.{MOST_CAPACITY, MOST_LINKS}
use Rattle.certifier.specs.Certificates.{link_at}
use Rattle.certifier.specs.Sums.{AreSmall, HasSums, SumsView, some_stays, sum_at, with_end, with_value}

-- a value that is added to one sum leaves the others
pub sum-with_end : (sums : List ℤ) (i : ℕ) (v : ℤ) (r : ℕ) → i < length sums
    → sum_at (with_end i v sums) r ≡ (sum_at sums r +ℤ cond (i == r) v (pos 0))
sum-with_end sums i v r within = elim (cases_eq i r) [
  | inl e ↦ rw (eq-eqb i r e) (ap (λ k. sum_at (with_end i v sums) k) (sym e)
      ∙ get_or-set_same sums i (sum_at sums i +ℤ v) (pos 0) within ∙ ap (λ k. sum_at sums k +ℤ v) e)
  | inr e ↦ rw (ne_eqb i r e) (get_or-set_other sums i r (sum_at sums i +ℤ v) (pos 0) (λ s. e (sym s))
      ∙ omega (arith, ints))
]

-- so it makes a sum greater by its size at most
end_small : (b : Bool) (x v : ℤ) → nat_abs (x +ℤ cond b v (pos 0)) ≤ nat_abs x + nat_abs v
end_small true x v = omega (arith, ints)
end_small false x v = omega (arith, ints)

-- a sum grows in size by no more than the value
pub sum_size : (sums : List ℤ) (i : ℕ) (v : ℤ) (r : ℕ) → i < length sums
    → nat_abs (sum_at (with_end i v sums) r) ≤ nat_abs (sum_at sums r) + nat_abs v
sum_size sums i v r within = rw (sum-with_end sums i v r within) (end_small (i == r) (sum_at sums r) v)

-- turned round, a value has the same size
pub neg_size : (v : ℤ) → nat_abs (neg_ℤ v) ≡ nat_abs v
neg_size v = omega (arith, ints)

module _ (link : Link) where
  -- sums stay small with one value more
  pub small_on : (v : ℤ) (values : ℕ) (sums : List ℤ) → AreSmall values sums → values < MOST_LINKS
      → link.a < length sums → link.b < length sums → nat_abs v ≤ MOST_CAPACITY
      → AreSmall (values + 1) (with_value link v sums)
  small_on v values sums are few a b small = record {
    few = omega arith;
    small = λ r within.
        let with_a = with_end link.a v sums in
        let size_a : length with_a ≡ length sums = length-set sums link.a (sum_at sums link.a +ℤ v) in
        let size_b : length (with_value link v sums) ≡ length with_a =
        length-set with_a link.b (sum_at with_a link.b +ℤ neg_ℤ v) in
        let before = are.small r (omega (arith, within, size_a, size_b)) in
        omega (
          arith,
          before,
          small,
          neg_size v,
          sum_size sums link.a v r a,
          sum_size with_a link.b (neg_ℤ v) r (omega (arith, b, size_a)),
        );
  }

-- with one value more a flow sends out what that link sends
pub out-more : (r : ℕ) (links : List Link) (flow : List ℤ) (v : ℤ) → length flow < length links
    → out r links (flow ++ v ∷ [])
    ≡ (out r links flow +ℤ sends r (get_or links (length flow) (record { a = 0; b = 0; cap = 0 })) v)
out-more r [] flow v within = absurd (omega arith)
out-more r (link ∷ links) [] v within = none links (sends r link v)
  where
    none : (links : List Link) (x : ℤ) → (x +ℤ out r links []) ≡ (pos 0 +ℤ x)
    none [] x = omega (arith, ints)
    none (link ∷ links) x = omega (arith, ints)
out-more r (link ∷ links) (x ∷ flow) v within = omega (arith, ints, out-more r links flow v (omega arith))

-- nothing has come yet
out-none : (r : ℕ) (links : List Link) → out r links [] ≡ pos 0
out-none r [] = refl
out-none r (link ∷ links) = refl

-- a value that is added at one end and taken away at the other is what its link sends
both_ends : (a b : Bool) (o v : ℤ) → ((o +ℤ cond a v (pos 0)) +ℤ cond b (neg_ℤ v) (pos 0))
    ≡ (o +ℤ (cond a v (pos 0) -ℤ cond b v (pos 0)))
both_ends true true o v = omega (arith, ints)
both_ends true false o v = omega (arith, ints)
both_ends false true o v = omega (arith, ints)
both_ends false false o v = omega (arith, ints)

-- the sums of a flow with one value more
pub sums_on : (net : Net) (flow : List ℤ) (sums : List ℤ) (v : ℤ) → HasSums net flow sums
    → length flow < length net.links → (link_at net (length flow)).a < length sums
    → (link_at net (length flow)).b < length sums
    → HasSums net (flow ++ v ∷ []) (with_value (link_at net (length flow)) v sums)
sums_on net flow sums v has more a b =
    let link = link_at net (length flow) in
    let with_a = with_end link.a v sums in
    let size_a : length with_a ≡ length sums = length-set sums link.a (sum_at sums link.a +ℤ v) in
    record {
      count = length-set with_a link.b (sum_at with_a link.b +ℤ neg_ℤ v) ∙ size_a ∙ has.count;
      each = λ r within.
          sum-with_end with_a link.b (neg_ℤ v) r (omega (arith, b, size_a))
          ∙ ap (λ s. s +ℤ cond (link.b == r) (neg_ℤ v) (pos 0)) (sum-with_end sums link.a v r a)
          ∙ both_ends (link.a == r) (link.b == r) (sum_at sums r) v
          ∙ ap (λ o. o +ℤ sends r link v) (has.each r within) ∙ sym (out-more r net.links flow v more);
    }

-- the sums of a flow of which nothing has come
pub sums_none : (net : Net) → HasSums net [] (replicate net.routers (pos 0))
sums_none net = record {
  count = length-replicate net.routers (pos 0);
  each = λ r within. get_or-replicate net.routers (pos 0) r ∙ sym (out-none r net.links);
}
  where
    get_or-replicate : (n : ℕ) (x : ℤ) (r : ℕ) → get_or (replicate n x) r x ≡ x
    get_or-replicate zero x r = refl
    get_or-replicate (suc n) x zero = refl
    get_or-replicate (suc n) x (suc r) = get_or-replicate n x r

-- the view of so many values and these sums
abbrev pub view_with : ℕ → List ℤ → SumsView
view_with values sums = record { values = values; sums = sums }

-- one value more in two views that are the same
pub same_view : {a b : SumsView} (link : Link) (v : ℤ) → a ≡ b
    → view_with (a.values + 1) (with_value link v a.sums) ≡ view_with (b.values + 1) (with_value link v b.sums)
same_view link v e = ap (λ (s : SumsView). view_with (s.values + 1) (with_value link v s.sums)) e

-- a test that holds of a number below another finds it
pub some_leak : (sums : List ℤ) (child up k : ℕ) → k < length sums → some_stays sums child up k ≡ true
    → true ≡ list_any (some_stays sums child up) (range_with_len 0 (length sums))
some_leak sums child up k within stays =
    let numbers = range_with_len 0 (length sums) in
    let at : get_or numbers k 0 ≡ k = get_or-range_with_len 0 (length sums) k 0 within ∙ omega arith in
    sym (list_any_at (some_stays sums child up) numbers k 0
    (omega (arith, within, length-range_with_len 0 (length sums)))
    (ap (some_stays sums child up) at ∙ stays))

-- a test that holds of no number below another finds none
pub none_in : (test : ℕ → Bool) (n : ℕ) → ((k : ℕ) → k < n → test k ≡ false)
    → list_any test (range_with_len 0 n) ≡ false
none_in test n none = list_any_none test (range_with_len 0 n) (λ k d within.
    let below : k < n = omega (arith, within, length-range_with_len 0 n) in
    ap test (get_or-range_with_len 0 n k d below ∙ omega arith) ∙ none k below)

-- two tests that agree on numbers find alike among them
pub same_from : (test other : ℕ → Bool) (a n : ℕ) → ((k : ℕ) → k < a + n → test k ≡ other k)
    → list_any test (range_with_len a n) ≡ list_any other (range_with_len a n)
same_from test other a zero same = refl
same_from test other a (suc n) same =
    ap (λ b. b || list_any test (range_with_len (a + 1) n)) (same a (omega arith))
    ∙ ap (λ b. other a || b) (same_from test other (a + 1) n (λ k low. same k (omega (arith, low))))

-- a small sum is the capped amount exactly where it is the whole one
pub capped_same : (x : ℤ) (amount whole : ℕ) → nat_abs x < 2 ^ 63 → amount ≡ min (2 ^ 64 - 1) whole
    → int_eq x (pos amount) ≡ int_eq x (pos whole)
capped_same x amount whole small is = elim (cases_Bool (int_eq x (pos amount))) [
  | inl e ↦ let h = (Decides-int_eq x (pos amount)).0 e in
      e ∙ sym ((Decides-int_eq x (pos whole)).1 (omega (arith, ints, h, small, is)))
  | inr e ↦ e ∙ sym (not_true (int_eq x (pos whole)) (λ t.
      let h = (Decides-int_eq x (pos whole)).0 t in
      let also = (Decides-int_eq x (pos amount)).1 (omega (arith, ints, h, small, is)) in
      false≢true (sym e ∙ also)))
]
  where
    not_true : (b : Bool) → (b ≡ true → ⊥) → b ≡ false
    not_true true never = absurd (never refl)
    not_true false never = refl
