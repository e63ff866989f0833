-- The edges of a tree by their numbers.
use Rattle.std.proofs.Common.{◌≡◌, ℕ, zero, suc, ◌+◌, ◌-◌, ◌<◌, List, [], ◌∷◌, ◌++◌, Bool, true, false, cond}
use Rattle.std.proofs.Common.{if◌then◌else◌}
use Rattle.std.proofs.Common.{length, refl, sym, ap, ◌∙◌, arith, subst, inl, inr, get_or, length-append, add-one}
use Rattle.std.proofs.lemmas.Bool.{cases_eq, eq-eqb, ne_eqb}
use Rattle.std.proofs.lemmas.List.{get_or_append_left, map-id}
use Rattle.std.proofs.lemmas.List.FromFn.{filter_of_map_range_with_len_more}
use Rattle.std.proofs.Math.Seq.{get_or-append_seam}
use Rattle.std.specs.List.{filter, range_with_len}
use Rattle.std.specs.Prelude.{◌==◌, ◌&&◌, not}
use Rattle.cut_model.specs.Cuts.{RouterSet}
use Rattle.cut_model.specs.Net.{IsInLimits, Net}
use Rattle.cut_model.specs.Terminals.{is_terminal, number_in, root_of, terminal_count}
use Rattle.cut_model.proofs.Counting.{number_in-new, number_in-same, with_number}
use Rattle.cut_model.proofs.Terminals.{root-lt, root_terminal}
use Rattle.query_lang.specs.Trees.{children_of, is_child}

-- The numbers below n that a set holds.
abbrev held_below : RouterSet → ℕ → List ℕ
held_below X n = filter X (range_with_len 0 n)

-- How many a set holds below the next number.
pub number_in-more : (X : RouterSet) (n : ℕ) → number_in X (n + 1) ≡ (if X n then 1 else 0) + number_in X n
unfolding number_in
number_in-more X n = rw add-one refl

-- A number that is held is counted from the next one on,
pub number_in-yes : (X : RouterSet) (n k : ℕ) → X n ≡ true → number_in X n ≡ k → number_in X (n + 1) ≡ k + 1
number_in-yes X n k is count = number_in-more X n ∙ rw is (omega (arith, count))

-- and another one isn't.
pub number_in-no : (X : RouterSet) (n k : ℕ) → X n ≡ false → number_in X n ≡ k → number_in X (n + 1) ≡ k
number_in-no X n k is count = number_in-more X n ∙ rw is (omega (arith, count))

-- A set has none below 0.
pub number_in-zero : (X : RouterSet) → number_in X 0 ≡ 0
unfolding number_in
number_in-zero X = refl

-- The next number is held or not.
held_below-more : (X : RouterSet) (n : ℕ) → held_below X (n + 1) ≡ held_below X n ++ cond (X n) (n ∷ []) []
held_below-more X n =
    ap (filter X) (sym (map-id (range_with_len 0 (n + 1))))
    ∙ filter_of_map_range_with_len_more X (λ i. i) 0 n n (omega arith)
    ∙ ap (λ xs. filter X xs ++ cond (X n) (n ∷ []) []) (map-id (range_with_len 0 n))

-- There are as many as are counted.
length-held_below : (X : RouterSet) (n : ℕ) → length (held_below X n) ≡ number_in X n
length-held_below X zero = sym (number_in-zero X)
length-held_below X (suc n) =
    let rest = length-held_below X n in
    let more = number_in-more X n in
    let longer : length (held_below X (n + 1)) ≡ number_in X (n + 1) =
    ap length (held_below-more X n) ∙ length-append (held_below X n) (cond (X n) (n ∷ []) [])
    ∙ elim (X n) as (λ (is : Bool). length (held_below X n) + length (cond is (n ∷ []) [])
    ≡ (if is then 1 else 0) + number_in X n)
    [ true ↦ omega (arith, rest) | false ↦ omega (arith, rest) ]
    ∙ sym more in
    subst (λ (m : ℕ). length (held_below X m) ≡ number_in X m) (add-one n) longer

-- There are more below a later number where one that is held lies between.
number_in-between : (X : RouterSet) (r n : ℕ) → X r ≡ true → r < n → number_in X r < number_in X n
number_in-between X r zero is low = absurd (omega arith)
number_in-between X r (suc n) is low =
    let more : number_in X (suc n) ≡ (if X n then 1 else 0) + number_in X n =
    subst (λ (m : ℕ). number_in X m ≡ (if X n then 1 else 0) + number_in X n) (add-one n) (number_in-more X n) in
    elim (cases_eq r n) [
      | inl e ↦ (let here : X n ≡ true = rw e at is in rw (more, here, e) (omega arith))
      | inr ne ↦ (let rest = number_in-between X r n is (omega arith) in rw more (omega (arith, rest)))
    ]

-- A number that is held stands behind those below it.
pub held_at : (X : RouterSet) (n r d : ℕ) → X r ≡ true → r < n → get_or (held_below X n) (number_in X r) d ≡ r
held_at X zero r d is low = absurd (omega arith)
held_at X (suc n) r d is low =
    let longer : held_below X (suc n) ≡ held_below X n ++ cond (X n) (n ∷ []) [] =
    subst (λ (m : ℕ). held_below X m ≡ held_below X n ++ cond (X n) (n ∷ []) []) (add-one n) (held_below-more X n) in
    elim (cases_eq r n) [
      | inl e ↦ (let here : X n ≡ true = rw e at is in
          ap (λ xs. get_or xs (number_in X r) d) longer
          ∙ ap (λ (b : Bool). get_or (held_below X n ++ cond b (n ∷ []) []) (number_in X r) d) here
          ∙ ap (λ (k : ℕ). get_or (held_below X n ++ n ∷ []) (number_in X k) d) e
          ∙ ap (λ (k : ℕ). get_or (held_below X n ++ n ∷ []) k d) (sym (length-held_below X n))
          ∙ get_or-append_seam (held_below X n) n [] d ∙ sym e)
      | inr ne ↦ (let before = number_in-between X r n is (omega arith) in
          ap (λ xs. get_or xs (number_in X r) d) longer
          ∙ get_or_append_left (held_below X n) (cond (X n) (n ∷ []) []) d (number_in X r)
          (omega (arith, before, length-held_below X n))
          ∙ held_at X n r d is (omega arith))
    ]

-- A tree has as many edges as routers that are lower ends.
pub length-children_of_number : (net : Net) → length (children_of net) ≡ number_in (is_child net) net.routers
length-children_of_number net = length-held_below (is_child net) net.routers

-- The root with all lower ends is all terminals.
with_root : (net : Net) → IsInLimits net → (i : ℕ) → with_number (root_of net) (is_child net) i ≡ is_terminal net i
unfolding with_number
with_root net limits i =
    let terminal = root_terminal net limits in
    elim (cases_eq i (root_of net)) [
      | inl e ↦ rw (e, terminal, eq-eqb (root_of net) (root_of net) refl) refl
      | inr ne ↦ rw (ne_eqb i (root_of net) ne) (one (is_terminal net i))
    ]
  where
    one : (b : Bool) → (b && true) ≡ b
    one true = refl
    one false = refl

-- The root is no lower end.
none_left : (a b : Bool) → b ≡ true → (a && not b) ≡ false
none_left true b is = rw is refl
none_left false b is = refl

-- That is one fewer than there are terminals.
pub length-children_of_terminals : (net : Net) → IsInLimits net → length (children_of net) ≡ terminal_count net - 1
length-children_of_terminals net limits =
    let root = root_of net in
    let not_root : is_child net root ≡ false =
    none_left (is_terminal net root) (root == root) (eq-eqb root root refl) in
    let new = number_in-new (is_child net) root net.routers not_root (root-lt net limits) in
    let same = number_in-same (with_number root (is_child net)) (is_terminal net) net.routers
    (λ i low. with_root net limits i) in
    omega (arith, length-children_of_number net, new, same)
