-- Drafts of networks that are read line by line: they keep the limits, and their names differ.
use Rattle.std.proofs.Common.{◌≡◌, ◌≢◌, inl, inr, ℕ, zero, suc, ◌<◌, List, [], ◌∷◌, Bool, true, false, length}
use Rattle.std.proofs.Common.{Option, Some, None, Result, Ok, Err, nat_lt, nat_le, codes, sym, ◌∙◌, subst, refl, arith}
use Rattle.std.specs.List.{AllPairs, list_any}
use Rattle.std.specs.Prelude.{◌==◌, slice_index_or}
use Rattle.std.specs.Str.{bytes_eq}
use Rattle.std.proofs.lemmas.Bool.{cases_Bool, eqb-false, false≢true, or_parts}
use Rattle.std.proofs.lemmas.List.Quantifiers.{all_pairs_push}
use Rattle.std.proofs.lemmas.Slice.Eq.{bytes_eq-Decides}
use Rattle.text_forms.specs.Lines.{is_long}
use Rattle.text_forms.specs.Names.{is_name}
use Rattle.text_forms.specs.Numbers.{number_in}
use Rattle.text_forms.specs.Words.{is_passed, line_words}
use Rattle.cut_model.specs.declared.network.Link.{Link}
use Rattle.cut_model.specs.declared.network.TheConstants.{MOST_CAPACITY, MOST_LINKS, MOST_ROUTERS}
use Rattle.network_text.specs.Readings.{IsWithinLimits}
use Rattle.network_text.specs.Sheets.{IsSheet}
use Rattle.network_text.specs.Texts.{Draft, link_line, no_draft, router_line, sheet_from, with_capacity, with_ends}
use Rattle.network_text.specs.Texts.{with_line, with_link_among, with_name, with_names, with_words, link_between}
use Rattle.network_text.specs.declared.fault.TextKind.{TextKind}
use Rattle.network_text.proofs.Limits.{added-small}
use Rattle.network_text.proofs.Made.{limits-whole}

-- No two of these are the same.
abbrev pub AreDistinct : List (List ℕ) → Type 0
AreDistinct names = AllPairs (λ name other. name ≢ other) names

-- where no element passes, each fails
none_at : (p : List ℕ → Bool) (names : List (List ℕ)) (k : ℕ) (d : List ℕ) → list_any p names ≡ false
    → k < length names → p (slice_index_or names k d) ≡ false
none_at p [] k d none low = absurd (omega arith)
none_at p (name ∷ names) zero d none low = (or_parts (p name) (list_any p names) none).0
none_at p (name ∷ names) (suc k) d none low =
    none_at p names k d (or_parts (p name) (list_any p names) none).1 (omega arith)

-- a name is put behind the others only where it is new
distinct-with_name : (names : List (List ℕ)) (name : List ℕ) → AreDistinct names → AreDistinct (with_name names name)
distinct-with_name names name distinct = elim (cases_Bool (list_any (bytes_eq name) names)) [
  | inl there ↦ rw there distinct
  | inr new ↦ rw new (all_pairs_push (λ (one other : List ℕ). one ≢ other) names name distinct (λ k d low same.
      false≢true (sym (none_at (bytes_eq name) names k d new low)
      ∙ (bytes_eq-Decides name (slice_index_or names k d)).1 (sym same))))
]

-- The names of a draft differ, where there is one.
abbrev HasDistinct : Result Draft TextKind → Type 0
HasDistinct (Ok draft) = AreDistinct draft.names
HasDistinct (Err kind) = Unit {0}

-- so they do behind a router
distinct-with_names : (names : List (List ℕ)) (links : List Link) → AreDistinct names
    → HasDistinct (with_names names links)
distinct-with_names names links distinct = elim (cases_Bool (nat_lt MOST_ROUTERS (length names))) [
  | inl many ↦ rw many tt
  | inr few ↦ rw few distinct
]

-- and behind a link
distinct-with_link : (names : List (List ℕ)) (links : List Link) (link : Link) → AreDistinct names
    → HasDistinct (with_link_among names links link)
distinct-with_link names links link distinct = elim (cases_Bool (nat_lt MOST_CAPACITY link.cap)) [
  | inl large ↦ rw large tt
  | inr fits ↦ elim (cases_Bool (nat_lt MOST_ROUTERS (length names))) [
    | inl many ↦ rw (fits, many) tt
    | inr few ↦ elim (cases_Bool (nat_le MOST_LINKS (length links))) [
      | inl full ↦ rw (fits, few, full) tt
      | inr room ↦ rw (fits, few, room) distinct
    ]
  ]
]

-- with the number that may stand in its place
distinct-with_capacity : (draft : Draft) (first second : List ℕ) (cap : Option ℕ) → AreDistinct draft.names
    → HasDistinct (with_capacity draft first second cap)
distinct-with_capacity draft first second None distinct = tt
distinct-with_capacity draft first second (Some cap) distinct =
    distinct-with_link (with_ends draft.names first second) draft.links
    (link_between (with_ends draft.names first second) first second cap)
    (distinct-with_name (with_name draft.names first) second (distinct-with_name draft.names first distinct))

-- behind the words of a router
distinct-router_line : (draft : Draft) (words : List (List ℕ)) → AreDistinct draft.names
    → HasDistinct (router_line draft words)
distinct-router_line draft [] distinct = tt
distinct-router_line draft (name ∷ []) distinct = elim (cases_Bool (is_name name)) [
  | inl is ↦ rw is
      (distinct-with_names (with_name draft.names name) draft.links (distinct-with_name draft.names name distinct))
  | inr other ↦ rw other tt
]
distinct-router_line draft (a ∷ b ∷ words) distinct = tt

-- of a link
distinct-link_line : (draft : Draft) (words : List (List ℕ)) → AreDistinct draft.names
    → HasDistinct (link_line draft words)
distinct-link_line draft [] distinct = tt
distinct-link_line draft (a ∷ []) distinct = tt
distinct-link_line draft (a ∷ b ∷ []) distinct = tt
distinct-link_line draft (first ∷ second ∷ number ∷ []) distinct = elim (cases_Bool (is_name first)) [
  | inr other ↦ rw other tt
  | inl is_first ↦ elim (cases_Bool (is_name second)) [
    | inr other ↦ rw (is_first, other) tt
    | inl is_second ↦ rw (is_first, is_second)
        (distinct-with_capacity draft first second (number_in number) distinct)
  ]
]
distinct-link_line draft (a ∷ b ∷ c ∷ d ∷ words) distinct = tt

-- and of any line
distinct-with_words : (draft : Draft) (words : List (List ℕ)) → AreDistinct draft.names
    → HasDistinct (with_words draft words)
distinct-with_words draft [] distinct = distinct
distinct-with_words draft (word ∷ words) distinct = elim (cases_Bool (bytes_eq word (codes "router"))) [
  | inl router ↦ rw router (distinct-router_line draft words distinct)
  | inr no_router ↦ elim (cases_Bool (bytes_eq word (codes "link"))) [
    | inl link ↦ rw (no_router, link) (distinct-link_line draft words distinct)
    | inr no_link ↦ elim (cases_Bool (bytes_eq word (codes "END"))) [
      | inl ended ↦ rw (no_router, no_link, ended) tt
      | inr other ↦ rw (no_router, no_link, other) tt
    ]
  ]
]

-- What a draft keeps: its names and links are within the limits, and its names differ.
pub record IsSoundDraft (draft : Draft) : Type 0 where
  pub small : IsWithinLimits draft.names draft.links
  pub distinct : AreDistinct draft.names

-- before any line
pub no_draft-sound : IsSoundDraft no_draft
no_draft-sound = record {
  small = record {
    named = λ k d low. absurd (omega arith);
    few_names = omega arith;
    few_links = omega arith;
    within = λ k d low. absurd (omega arith);
  };
  distinct = λ i j d less low. absurd (omega arith);
}

-- behind a line that has a fault or not
line_result-sound : (draft new : Draft) (line : List ℕ) (long : Bool) → is_long line ≡ long
    → with_line draft line ≡ Ok new → is_passed line ≡ false → IsSoundDraft draft → IsSoundDraft new
line_result-sound draft new line true long h counts sound = absurd (let k = rw (counts, long) at h in cc)
line_result-sound draft new line false short h counts sound =
    let words : with_words draft (line_words line) ≡ Ok new = rw (counts, short) at h in
    record {
      small = added-small draft new (line_words line) (Ok tt) words sound.small;
      distinct = subst (λ (r : Result Draft TextKind). HasDistinct r) words
          (distinct-with_words draft (line_words line) sound.distinct);
    }

-- behind any line
pub with_line-sound : (draft new : Draft) (line : List ℕ) → with_line draft line ≡ Ok new → IsSoundDraft draft
    → IsSoundDraft new
with_line-sound draft new line h sound = elim (cases_Bool (is_passed line)) [
  | inl passed ↦ (let same : draft ≡ new = (let k = rw passed at h in cc) in
      subst (λ (d : Draft). IsSoundDraft d) same sound)
  | inr counts ↦ line_result-sound draft new line (is_long line) refl h counts sound
]

-- where a router was named, it is a sheet
pub sheet_from-sound : (draft : Draft) → IsSoundDraft draft → (length draft.names == 0) ≡ false
    → IsSheet (sheet_from draft).names (sheet_from draft).net
sheet_from-sound draft sound some = record {
  distinct = sound.distinct;
  named = sound.small.named;
  numbered = refl;
  limits = limits-whole draft.names draft.links sound.small (omega (arith, eqb-false (length draft.names) 0 some));
}
