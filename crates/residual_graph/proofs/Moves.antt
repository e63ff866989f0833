-- What a push makes of what is left on the arcs, and what no flow leaves.
use Rattle.std.proofs.Common.{◌≡◌, ◌≢◌, ℕ, ◌+◌, ◌-◌, ◌*◌, ◌/◌, ◌%◌, ◌^◌, ◌<◌, ◌≤◌, Bool, true, false, List, [], ◌∷◌}
use Rattle.std.proofs.Common.{length, get_or, set, replicate, refl, sym, ap, ◌∙◌, subst, inl, inr}
use Rattle.std.proofs.Common.{arith, length-append}
use Rattle.std.specs.Prelude.{ℤ, pos, neg_ℤ, ◌+ℤ◌, ◌-ℤ◌, All, nat_lt}
use Rattle.std.specs.Int.RustNames.{bit_xor}
use Rattle.std.specs.Int.Bits.{xor_zero_r}
use mir.Val.{bool_byte}
use Rattle.std.proofs.lemmas.Bool.{cases_Bool, cases_eq, false≢true}
use Rattle.std.proofs.lemmas.Int.{ints}
use Rattle.std.proofs.lemmas.List.{get_or-set_same, get_or-set_other, get_or-replicate, length-replicate, length-set}
use Rattle.std.proofs.lemmas.List.{ext_get_or, get_or_append_left, get_or_push}
use Rattle.std.proofs.lemmas.List.Elements.{All-append, All-cons, All-nil}
use Rattle.std.proofs.lemmas.Nat.{xor_block}
use Rattle.cut_model.specs.declared.network.TheConstants.{MOST_CAPACITY}
use Rattle.cut_model.specs.declared.network.Link.{Link}
use Rattle.residual_graph.specs.Arcs.{no_link, turned, twin}
use Rattle.residual_graph.specs.Fills.{HasCap, HasCaps, HasCapsBut, after}
use Rattle.residual_graph.specs.Storage.{flow_at, flows_at, ArePairs}
use Rattle.residual_graph.specs.Touched.{Touches, noted_if}
use Rattle.residual_graph.specs.View.{pushed}
use Rattle.residual_graph.proofs.Views.{there_or_back, length-flows_at, get_or-flows_at}

-- ---- twins

-- the arc there with its last bit turned is the arc back
pub twin_there : (i : ℕ) → bit_xor (2 * i) 1 ≡ 2 * i + 1
twin_there i =
    let arc : 2 * i ≡ i * 2 ^ 1 + 0 = omega arith in
    ap (λ a. bit_xor a 1) arc ∙ xor_block 1 i 0 0 1 (omega arith) (omega arith)
    ∙ ap (λ n. n * 2 ^ 1 + 1) (xor_zero_r i) ∙ (omega arith)

-- and the arc back with its last bit turned is the arc there
pub twin_back : (i : ℕ) → bit_xor (2 * i + 1) 1 ≡ 2 * i
twin_back i =
    let arc : 2 * i + 1 ≡ i * 2 ^ 1 + 1 = omega arith in
    ap (λ a. bit_xor a 1) arc ∙ xor_block 1 i 0 1 1 (omega arith) (omega arith)
    ∙ ap (λ n. n * 2 ^ 1 + 0) (xor_zero_r i) ∙ (omega arith)

-- so an arc with its last bit turned is its twin
pub xor_twin : (arc : ℕ) → bit_xor arc 1 ≡ twin arc
unfolding twin
xor_twin arc = elim (there_or_back arc) [
  | inl there ↦
      let even : arc % 2 ≡ 0 = omega arith in
      rw even (ap (λ a. bit_xor a 1) there ∙ twin_there (arc / 2) ∙ (omega arith))
  | inr back ↦
      let odd : arc % 2 ≡ 1 = omega arith in
      rw odd (ap (λ a. bit_xor a 1) back ∙ twin_back (arc / 2) ∙ (omega arith))
]

-- an arc's twin is one of the same arcs
pub twin_inside : (arc links : ℕ) → arc < 2 * links → twin arc < 2 * links
unfolding twin
twin_inside arc links low = elim (there_or_back arc) [
  | inl there ↦
      let even : arc % 2 ≡ 0 = omega arith in
      rw even (omega arith)
  | inr back ↦
      let odd : arc % 2 ≡ 1 = omega arith in
      rw odd (omega arith)
]

-- an arc turned or not, by the last bit
pub xor_turned : (back : Bool) (arc bit : ℕ) → bit ≡ bool_byte back → bit_xor arc bit ≡ turned back arc
xor_turned true arc bit is = ap (bit_xor arc) is ∙ xor_twin arc
xor_turned false arc bit is = ap (bit_xor arc) is ∙ xor_zero_r arc

-- is one of the same arcs
pub turned_inside : (back : Bool) (arc links : ℕ) → arc < 2 * links → turned back arc < 2 * links
turned_inside true arc links low = twin_inside arc links low
turned_inside false arc links low = low

-- ---- what is left moves between the two arcs of a link

-- On link j there and back are left now, together as much as before, and all other arcs have what they had.
pub record IsMoved (left left' : List ℕ) (j there back : ℕ) : Type 0 where
  pub size : length left' ≡ length left
  pub there_is : get_or left' (2 * j) 0 ≡ there
  pub back_is : get_or left' (2 * j + 1) 0 ≡ back
  pub both : there + back ≡ get_or left (2 * j) 0 + get_or left (2 * j + 1) 0
  pub others : (k : ℕ) → k ≢ 2 * j → k ≢ 2 * j + 1 → get_or left' k 0 ≡ get_or left k 0

-- each link's two arcs together have as much left as before
same_pairs : (left left' : List ℕ) (j there back : ℕ) → IsMoved left left' j there back → (i : ℕ)
    → get_or left' (2 * i) 0 + get_or left' (2 * i + 1) 0 ≡ get_or left (2 * i) 0 + get_or left (2 * i + 1) 0
same_pairs left left' j there back moved i = elim (cases_eq i j) [
  | inl e ↦
      subst
      (λ k. get_or left' (2 * k) 0 + get_or left' (2 * k + 1) 0 ≡ get_or left (2 * k) 0 + get_or left (2 * k + 1) 0)
      (sym e)
      (omega (arith, moved.there_is, moved.back_is, moved.both))
  | inr ne ↦
      omega (
        arith,
        moved.others (2 * i) (λ e. ne (omega arith)) (λ e. omega arith),
        moved.others (2 * i + 1) (λ e. omega arith) (λ e. ne (omega arith)),
      )
]

-- which is twice its capacity still
moved_pairs : (links : List Link) (left left' : List ℕ) (j there back : ℕ) → IsMoved left left' j there back
    → ArePairs links left → ArePairs links left'
moved_pairs links left left' j there back moved pairs i low = same_pairs left left' j there back moved i ∙ pairs i low

-- another link that has its whole capacity has it still
moved_cap : (links : List Link) (left left' : List ℕ) (j there back : ℕ) → IsMoved left left' j there back → (i : ℕ)
    → i ≢ j → HasCap links left i → HasCap links left' i
moved_cap links left left' j there back moved i ne was = record {
  there = moved.others (2 * i) (λ e. ne (omega arith)) (λ e. omega arith) ∙ was.there;
  back = moved.others (2 * i + 1) (λ e. omega arith) (λ e. ne (omega arith)) ∙ was.back;
}

-- the flow of that link alone changes
moved_flows : (links : List Link) (left left' : List ℕ) (j there back : ℕ) → IsMoved left left' j there back
    → j < length links → flows_at links left'
    ≡ set (flows_at links left) j (pos (get_or links j no_link).cap -ℤ pos there)
moved_flows links left left' j there back moved low =
    let new : ℤ = pos (get_or links j no_link).cap -ℤ pos there in
    ext_get_or (pos 0) (flows_at links left')
    (set (flows_at links left) j (pos (get_or links j no_link).cap -ℤ pos there))
    (length-flows_at links left' ∙ sym (length-flows_at links left)
    ∙ sym (length-set (flows_at links left) j (pos (get_or links j no_link).cap -ℤ pos there))) (λ i within.
    let inside : i < length links = omega (arith, length-flows_at links left') in
    get_or-flows_at links left' i inside ∙ elim (cases_eq i j) [
      | inl e ↦
          subst (λ k. flow_at links left' k
          ≡ get_or (set (flows_at links left) j (pos (get_or links j no_link).cap -ℤ pos there)) k (pos 0)) (sym e)
          (ap (λ n. pos (get_or links j no_link).cap -ℤ pos n) moved.there_is
          ∙ sym (get_or-set_same (flows_at links left) j (pos (get_or links j no_link).cap -ℤ pos there) (pos 0)
          (omega (arith, length-flows_at links left))))
      | inr ne ↦
          ap (λ n. pos (get_or links i no_link).cap -ℤ pos n)
          (moved.others (2 * i) (λ e. ne (omega arith)) (λ e. omega arith))
          ∙ sym (get_or-flows_at links left i inside)
          ∙ sym (get_or-set_other (flows_at links left) j i (pos (get_or links j no_link).cap -ℤ pos there) (pos 0) ne)
    ])

-- ---- a push

-- along the arc there
after_there : (left : List ℕ) (j amount : ℕ) → 2 * j + 1 < length left → amount ≤ get_or left (2 * j) 0
    → IsMoved left (after left (2 * j) (2 * j + 1) amount) j (get_or left (2 * j) 0 - amount)
    (get_or left (2 * j + 1) 0 + amount)
after_there left j amount within enough =
    let size = length-set left (2 * j) (get_or left (2 * j) 0 - amount) in record {
      size = length-set (set left (2 * j) (get_or left (2 * j) 0 - amount)) (2 * j + 1)
          (get_or left (2 * j + 1) 0 + amount) ∙ size;
      there_is =
          get_or-set_other (set left (2 * j) (get_or left (2 * j) 0 - amount)) (2 * j + 1) (2 * j)
          (get_or left (2 * j + 1) 0 + amount) 0 (λ e. omega arith)
          ∙ get_or-set_same left (2 * j) (get_or left (2 * j) 0 - amount) 0 (omega arith);
      back_is =
          get_or-set_same (set left (2 * j) (get_or left (2 * j) 0 - amount)) (2 * j + 1)
          (get_or left (2 * j + 1) 0 + amount) 0
          (omega (arith, size));
      both = omega arith;
      others = λ k not_there not_back.
          get_or-set_other (set left (2 * j) (get_or left (2 * j) 0 - amount)) (2 * j + 1) k
          (get_or left (2 * j + 1) 0 + amount) 0 not_back
          ∙ get_or-set_other left (2 * j) k (get_or left (2 * j) 0 - amount) 0 not_there;
    }

-- and along the arc back
after_back : (left : List ℕ) (j amount : ℕ) → 2 * j + 1 < length left → amount ≤ get_or left (2 * j + 1) 0
    → IsMoved left (after left (2 * j + 1) (2 * j) amount) j (get_or left (2 * j) 0 + amount)
    (get_or left (2 * j + 1) 0 - amount)
after_back left j amount within enough =
    let size = length-set left (2 * j + 1) (get_or left (2 * j + 1) 0 - amount) in record {
      size = length-set (set left (2 * j + 1) (get_or left (2 * j + 1) 0 - amount)) (2 * j)
          (get_or left (2 * j) 0 + amount) ∙ size;
      there_is =
          get_or-set_same (set left (2 * j + 1) (get_or left (2 * j + 1) 0 - amount)) (2 * j)
          (get_or left (2 * j) 0 + amount) 0
          (omega (arith, size));
      back_is =
          get_or-set_other (set left (2 * j + 1) (get_or left (2 * j + 1) 0 - amount)) (2 * j) (2 * j + 1)
          (get_or left (2 * j) 0 + amount) 0 (λ e. omega arith)
          ∙ get_or-set_same left (2 * j + 1) (get_or left (2 * j + 1) 0 - amount) 0 (omega arith);
      both = omega arith;
      others = λ k not_there not_back.
          get_or-set_other (set left (2 * j + 1) (get_or left (2 * j + 1) 0 - amount)) (2 * j) k
          (get_or left (2 * j) 0 + amount) 0 not_there
          ∙ get_or-set_other left (2 * j + 1) k (get_or left (2 * j + 1) 0 - amount) 0 not_back;
    }

-- the flow is then one of the amount more along the arc there
pushed-there : (links : List Link) (left : List ℕ) (j amount : ℕ) → j < length links → amount ≤ get_or left (2 * j) 0
    → set (flows_at links left) j (pos (get_or links j no_link).cap -ℤ pos (get_or left (2 * j) 0 - amount))
    ≡ pushed (flows_at links left) (2 * j) amount
unfolding pushed
pushed-there links left j amount low enough =
    let even : 2 * j % 2 ≡ 0 = omega arith in
    let half : 2 * j / 2 ≡ j = omega arith in
    rw (even, half, get_or-flows_at links left j low)
    (ap (set (flows_at links left) j) (more_there (get_or links j no_link).cap (get_or left (2 * j) 0) amount enough))
  where
    more_there : (c x amount : ℕ) → amount ≤ x → (pos c -ℤ pos (x - amount)) ≡ ((pos c -ℤ pos x) +ℤ pos amount)
    more_there c x amount enough = omega (arith, ints)

-- or along the arc back
pushed-back : (links : List Link) (left : List ℕ) (j amount : ℕ) → j < length links
    → set (flows_at links left) j (pos (get_or links j no_link).cap -ℤ pos (get_or left (2 * j) 0 + amount))
    ≡ pushed (flows_at links left) (2 * j + 1) amount
unfolding pushed
pushed-back links left j amount low =
    let odd : (2 * j + 1) % 2 ≡ 1 = omega arith in
    let half : (2 * j + 1) / 2 ≡ j = omega arith in
    rw (odd, half, get_or-flows_at links left j low)
    (ap (set (flows_at links left) j) (more_back (get_or links j no_link).cap (get_or left (2 * j) 0) amount))
  where
    more_back : (c x amount : ℕ) → (pos c -ℤ pos (x + amount)) ≡ ((pos c -ℤ pos x) +ℤ neg_ℤ (pos amount))
    more_back c x amount = omega (arith, ints)

-- A push of an amount along an arc: its link, and the arc of that link the other way.
pub record Push : Type 0 where
  pub link : ℕ
  pub arc : ℕ
  pub other : ℕ
  pub amount : ℕ

-- What is left after a push.
abbrev pub left_after : List ℕ → Push → List ℕ
left_after left push = after left push.arc push.other push.amount

-- What a push needs, and what it makes.
pub record IsPush (links : List Link) (left : List ℕ) (push : Push) : Type 0 where
  pub apart : push.arc ≢ push.other
  pub inside : push.other < length left
  pub room : get_or left push.other 0 + push.amount < 2 ^ 64
  pub size : length (left_after left push) ≡ length left
  pub pairs : ArePairs links (left_after left push)
  pub flows : flows_at links (left_after left push) ≡ pushed (flows_at links left) push.arc push.amount
  pub caps : (i : ℕ) → i ≢ push.link → HasCap links left i → HasCap links (left_after left push) i
  pub differ : get_or left push.arc 0 ≢ get_or left push.other 0 → HasCap links left push.link → ⊥

-- The push along the arc there of a link.
abbrev along_there : ℕ → ℕ → Push
along_there j amount = record { link = j; arc = 2 * j; other = 2 * j + 1; amount = amount }

-- The push along its arc back.
abbrev along_back : ℕ → ℕ → Push
along_back j amount = record { link = j; arc = 2 * j + 1; other = 2 * j; amount = amount }

-- The push along any arc, whose last bit turned is the other one.
abbrev pub along_arc : ℕ → ℕ → Push
along_arc arc amount = record { link = arc / 2; arc = arc; other = bit_xor arc 1; amount = amount }

-- a push along the arc there
push_there : (links : List Link) (left : List ℕ) (j amount : ℕ) → ArePairs links left
    → (get_or links j no_link).cap ≤ MOST_CAPACITY → j < length links → 2 * length links ≤ length left
    → amount ≤ get_or left (2 * j) 0 → IsPush links left (along_there j amount)
push_there links left j amount pairs cap low fits enough =
    let moved = after_there left j amount (omega arith) enough in record {
      apart = λ e. omega arith;
      inside = omega arith;
      room = omega (arith, pairs j low, cap);
      size = moved.size;
      pairs = moved_pairs links left _ j _ _ moved pairs;
      flows = moved_flows links left _ j _ _ moved low ∙ pushed-there links left j amount low enough;
      caps = moved_cap links left _ j _ _ moved;
      differ = λ ne has. ne (has.there ∙ sym has.back);
    }

-- a push along the arc back
push_back : (links : List Link) (left : List ℕ) (j amount : ℕ) → ArePairs links left
    → (get_or links j no_link).cap ≤ MOST_CAPACITY → j < length links → 2 * length links ≤ length left
    → amount ≤ get_or left (2 * j + 1) 0 → IsPush links left (along_back j amount)
push_back links left j amount pairs cap low fits enough =
    let moved = after_back left j amount (omega arith) enough in record {
      apart = λ e. omega arith;
      inside = omega arith;
      room = omega (arith, pairs j low, cap);
      size = moved.size;
      pairs = moved_pairs links left _ j _ _ moved pairs;
      flows = moved_flows links left _ j _ _ moved low ∙ pushed-back links left j amount low;
      caps = moved_cap links left _ j _ _ moved;
      differ = λ ne has. ne (has.back ∙ sym has.there);
    }

-- a push along any arc
pub push_is : (links : List Link) (left : List ℕ) (arc amount : ℕ) → ArePairs links left
    → ((i : ℕ) → i < length links → (get_or links i no_link).cap ≤ MOST_CAPACITY)
    → arc < 2 * length links → 2 * length links ≤ length left
    → amount ≤ get_or left arc 0 → IsPush links left (along_arc arc amount)
push_is links left arc amount pairs cap low fits enough =
    elim (there_or_back arc) [
      | inl there ↦
          subst (λ k. IsPush links left (push k (bit_xor k 1))) (sym there)
          (subst (λ t. IsPush links left (push (2 * (arc / 2)) t)) (sym (twin_there (arc / 2)))
          (push_there links left (arc / 2) amount pairs (cap (arc / 2) (omega arith)) (omega arith) fits
          (subst (λ k. amount ≤ get_or left k 0) there enough)))
      | inr back ↦
          subst (λ k. IsPush links left (push k (bit_xor k 1))) (sym back)
          (subst (λ t. IsPush links left (push (2 * (arc / 2) + 1) t)) (sym (twin_back (arc / 2)))
          (push_back links left (arc / 2) amount pairs (cap (arc / 2) (omega arith)) (omega arith) fits
          (subst (λ k. amount ≤ get_or left k 0) back enough)))
    ]
  where
    push : ℕ → ℕ → Push
    push k other = record { link = arc / 2; arc = k; other = other; amount = amount }

-- ---- which links are touched

-- the numbers listed are of links, also with one more
pub noted_inside : (links : ℕ) (touched : Touches) (still : Bool) (j : ℕ) → j < links
    → All (λ i. i < links) touched.links → All (λ i. i < links) (noted_if still touched j).links
noted_inside links touched still j low inside = elim (cases_Bool still) [
  | inr not ↦ rw not inside
  | inl is ↦ rw is (elim (cases_Bool (nat_lt (length touched.links) touched.room)) [
    | inl fits ↦
        rw fits (All-append (λ i. i < links) touched.links (j ∷ []) inside
        (All-cons (λ i. i < links) j [] low (All-nil (λ i. i < links))))
    | inr full ↦ rw full inside
  ])
]

-- after a push each link but the touched ones has its whole capacity still
pub noted_caps : (links : List Link) (left : List ℕ) (push : Push) (touched : Touches) (still : Bool)
    → IsPush links left push → (still ≡ false → get_or left push.arc 0 ≢ get_or left push.other 0)
    → (touched.all ≡ false → HasCapsBut links left touched.links)
    → (noted_if still touched push.link).all ≡ false
    → HasCapsBut links (left_after left push) (noted_if still touched push.link).links
noted_caps links left push touched true is differs before =
    elim (cases_Bool (nat_lt (length touched.links) touched.room)) [
      | inr full ↦ rw full (λ all. absurd (false≢true (sym all)))
      | inl fits ↦ rw fits (λ some i low. elim (cases_eq i push.link) [
        | inl e ↦ inr (
          length touched.links,
          omega (arith, length-append touched.links (push.link ∷ [])),
          get_or_push touched.links push.link 0 (length touched.links) refl ∙ sym e,
        )
        | inr ne ↦ elim (before some i low) [
          | inl has ↦ inl (is.caps i ne has)
          | inr listed ↦ inr (
            listed.0,
            omega (arith, listed.1, length-append touched.links (push.link ∷ [])),
            get_or_append_left touched.links (push.link ∷ []) 0 listed.0 listed.1 ∙ listed.2,
          )
        ]
      ])
    ]
noted_caps links left push touched false is differs before = λ some i low.
    elim (before some i low) [
      | inr listed ↦ inr listed
      | inl has ↦ elim (cases_eq i push.link) [
        | inl e ↦ absurd (is.differ (differs refl) (subst (HasCap links left) e has))
        | inr ne ↦ inl (is.caps i ne has)
      ]
    ]

-- ---- no flow

-- where each link has its whole capacity, its two arcs have twice as much
pub caps_pairs : (links : List Link) (left : List ℕ) → HasCaps links left → ArePairs links left
caps_pairs links left caps i low = omega (arith, (caps i low).there, (caps i low).back)

-- and no link has a flow
pub caps_flows : (links : List Link) (left : List ℕ) → HasCaps links left
    → flows_at links left ≡ replicate (length links) (pos 0)
caps_flows links left caps =
    ext_get_or (pos 0) (flows_at links left) (replicate (length links) (pos 0))
    (length-flows_at links left ∙ sym (length-replicate (length links) (pos 0))) (λ i within.
    let low : i < length links = omega (arith, length-flows_at links left) in
    let none : flow_at links left i ≡ pos 0 = omega (arith, ints, (caps i low).there) in
    get_or-flows_at links left i low ∙ none ∙ sym (get_or-replicate (length links) i (pos 0) (pos 0) low))
