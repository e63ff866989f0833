-- What the lines of a text name stays within the limits of a network.
use Rattle.std.proofs.Common.{◌≡◌, ℕ, ◌<◌, ◌≤◌, List, [], ◌∷◌, ◌++◌, true, OnOk}
use Rattle.std.proofs.Common.{Option, Some, None, Result, Ok, Err, IsTrue, length, nat_lt, nat_le, codes, subst}
use Rattle.std.proofs.Common.{inl, inr, arith, length-append}
use Rattle.std.specs.List.{All, list_any}
use Rattle.std.specs.Str.{bytes_eq}
use Rattle.std.proofs.lemmas.Bool.{cases_Bool, ltb-false, leb-false}
use Rattle.std.proofs.lemmas.List.Elements.{All-append, All-nil, All-cons}
use Rattle.text_forms.specs.Names.{is_name}
use Rattle.text_forms.specs.Numbers.{number_in}
use Rattle.cut_model.specs.declared.network.Link.{Link}
use Rattle.cut_model.specs.Net.{IsLink}
use Rattle.cut_model.specs.declared.network.TheConstants.{MOST_CAPACITY, MOST_LINKS, MOST_ROUTERS}
use Rattle.network_text.specs.Texts.{Draft, with_name, with_ends, link_between, with_link}
use Rattle.network_text.specs.Texts.{with_capacity, with_names, router_line, link_line, with_words}
use Rattle.network_text.specs.Readings.{Adds, IsWithinLimits}
use Rattle.network_text.specs.declared.fault.TextKind.{TextKind}
use Rattle.network_text.proofs.Places.{length-with_name, first-below, second-below}

-- A draft within the limits.
abbrev pub IsSmall : Draft → Type 0
IsSmall draft = IsWithinLimits draft.names draft.links

-- Each of these is a name.
abbrev pub AreNames : List (List ℕ) → Type 0
AreNames names = All (λ n. IsTrue (is_name n)) names

-- An added name is a name.
named-with_name : (names : List (List ℕ)) (name : List ℕ) → AreNames names → is_name name ≡ true
    → AreNames (with_name names name)
named-with_name names name named is =
    elim (cases_Bool (list_any (bytes_eq name) names)) [
      | inl e ↦ rw e named
      | inr e ↦
          let new : AreNames (name ∷ []) =
          All-cons (λ n. IsTrue (is_name n)) name [] is (All-nil (λ n. IsTrue (is_name n))) in
          rw e (All-append (λ n. IsTrue (is_name n)) names (name ∷ []) named new)
    ]

-- Among more routers a link stays one.
IsLink-more : (few many : ℕ) (link : Link) → few ≤ many → IsLink few link → IsLink many link
IsLink-more few many link more is = record { a = omega (arith, is.a); b = omega (arith, is.b); cap = is.cap }

-- So do all links.
links-more : (few many : ℕ) (links : List Link) → few ≤ many → All (IsLink few) links → All (IsLink many) links
links-more few many links more are = λ k d below. IsLink-more few many _ more (are k d below)

-- A router that is named keeps the limits.
with_names-small : (old new : Draft) (name : List ℕ) → is_name name ≡ true
    → with_names (with_name old.names name) old.links ≡ Ok new → IsSmall old → IsSmall new
with_names-small old new name is h small =
    elim (cases_Bool (nat_lt MOST_ROUTERS (length (with_name old.names name)))) [
      | inl many ↦ absurd (let k = rw many at h in cc)
      | inr few ↦
          let made : Draft = record { names = with_name old.names name; links = old.links } in
          let same : made ≡ new = (let k = rw few at h in cc) in
          subst (λ (d : Draft). IsSmall d) same record {
            named = named-with_name old.names name small.named is;
            few_names = ltb-false _ _ few;
            few_links = small.few_links;
            within = links-more _ _ old.links (length-with_name old.names name) small.within;
          }
    ]

-- The ends of a link are names after it.
length-with_ends : (names : List (List ℕ)) (first second : List ℕ)
    → length names ≤ length (with_ends names first second)
length-with_ends names first second =
    omega (arith, length-with_name names first, length-with_name (with_name names first) second)

-- A link within the limits keeps them.
link-small : (draft : Draft) (first second : List ℕ) (cap : ℕ) → is_name first ≡ true → is_name second ≡ true
    → cap ≤ MOST_CAPACITY → length (with_ends draft.names first second) ≤ MOST_ROUTERS → length draft.links < MOST_LINKS
    → IsSmall draft → IsWithinLimits (with_ends draft.names first second)
    (draft.links ++ link_between (with_ends draft.names first second) first second cap ∷ [])
link-small draft first second cap is_first is_second fits few room small =
    let ends : List (List ℕ) = with_ends draft.names first second in
    let link : Link = link_between ends first second cap in
    let old : All (IsLink (length ends)) draft.links =
    links-more (length draft.names) (length ends) draft.links (length-with_ends draft.names first second)
    small.within in
    let new : IsLink (length ends) link =
    record { a = first-below draft.names first second; b = second-below draft.names first second; cap = fits } in
    record {
      named = named-with_name (with_name draft.names first) second
          (named-with_name draft.names first small.named is_first) is_second;
      few_names = few;
      few_links = (let size = length-append draft.links (link ∷ []) in omega arith);
      within = All-append (IsLink (length ends)) draft.links (link ∷ []) old
          (All-cons (IsLink (length ends)) link [] new (All-nil (IsLink (length ends))));
    }

-- A link that is added was within the limits.
with_link-small : (old new : Draft) (first second : List ℕ) (cap : ℕ) → is_name first ≡ true → is_name second ≡ true
    → with_link old first second cap ≡ Ok new → IsSmall old → IsSmall new
with_link-small old new first second cap is_first is_second h small =
    elim (cases_Bool (nat_lt MOST_CAPACITY cap)) [
      | inl large ↦ absurd (let k = rw large at h in cc)
      | inr fits ↦ elim (cases_Bool (nat_lt MOST_ROUTERS (length (with_ends old.names first second)))) [
        | inl many ↦ absurd (let k = rw (fits, many) at h in cc)
        | inr few ↦ elim (cases_Bool (nat_le MOST_LINKS (length old.links))) [
          | inl full ↦ absurd (let k = rw (fits, few, full) at h in cc)
          | inr room ↦
              let made : Draft = record {
                names = with_ends old.names first second;
                links = old.links ++ link_between (with_ends old.names first second) first second cap ∷ [];
              } in
              let same : made ≡ new = (let k = rw (fits, few, room) at h in cc) in
              subst (λ (d : Draft). IsSmall d) same (link-small old first second cap is_first is_second
              (ltb-false _ _ fits) (ltb-false _ _ few) (leb-false _ _ room) small)
        ]
      ]
    ]

-- The same with the number that may stand in its place.
with_capacity-small : (old new : Draft) (first second : List ℕ) (cap : Option ℕ)
    → is_name first ≡ true → is_name second ≡ true → with_capacity old first second cap ≡ Ok new
    → IsSmall old → IsSmall new
with_capacity-small old new first second None is_first is_second h small = absurd (cc)
with_capacity-small old new first second (Some cap) is_first is_second h small =
    with_link-small old new first second cap is_first is_second h small

-- A `router` line keeps the limits.
router_line-small : (old new : Draft) (words : List (List ℕ)) → router_line old words ≡ Ok new
    → IsSmall old → IsSmall new
router_line-small old new [] h small = absurd (cc)
router_line-small old new (name ∷ []) h small =
    elim (cases_Bool (is_name name)) [
      | inl is ↦ with_names-small old new name is (rw is at h) small
      | inr other ↦ absurd (let k = rw other at h in cc)
    ]
router_line-small old new (a ∷ b ∷ words) h small = absurd (cc)

-- A `link` line keeps the limits.
link_line-small : (old new : Draft) (words : List (List ℕ)) → link_line old words ≡ Ok new
    → IsSmall old → IsSmall new
link_line-small old new [] h small = absurd (cc)
link_line-small old new (a ∷ []) h small = absurd (cc)
link_line-small old new (a ∷ b ∷ []) h small = absurd (cc)
link_line-small old new (first ∷ second ∷ number ∷ []) h small =
    elim (cases_Bool (is_name first)) [
      | inr other ↦ absurd (let k = rw other at h in cc)
      | inl is_first ↦ elim (cases_Bool (is_name second)) [
        | inr other ↦ absurd (let k = rw (is_first, other) at h in cc)
        | inl is_second ↦
            with_capacity-small old new first second (number_in number) is_first is_second
            (rw (is_first, is_second) at h) small
      ]
    ]
link_line-small old new (a ∷ b ∷ c ∷ d ∷ words) h small = absurd (cc)

-- The words of a line keep the limits.
with_words-small : (old new : Draft) (words : List (List ℕ)) → with_words old words ≡ Ok new
    → IsSmall old → IsSmall new
with_words-small old new [] h small =
    let same : old ≡ new = cc in subst (λ (d : Draft). IsSmall d) same small
with_words-small old new (word ∷ words) h small =
    elim (cases_Bool (bytes_eq word (codes "router"))) [
      | inl router ↦ router_line-small old new words (rw router at h) small
      | inr no_router ↦ elim (cases_Bool (bytes_eq word (codes "link"))) [
        | inl link ↦ link_line-small old new words (rw (no_router, link) at h) small
        | inr no_link ↦ elim (cases_Bool (bytes_eq word (codes "END"))) [
          | inl ended ↦ absurd (let k = rw (no_router, no_link, ended) at h in cc)
          | inr other ↦ absurd (let k = rw (no_router, no_link, other) at h in cc)
        ]
      ]
    ]

-- So a line keeps the limits where its words were added.
pub added-small : (old new : Draft) (words : List (List ℕ)) (result : Result (Unit {0}) TextKind)
    → Adds (with_words old words) result new → OnOk result (IsSmall old → IsSmall new)
added-small old new words (Ok done) said = with_words-small old new words said
added-small old new words (Err kind) said = tt
