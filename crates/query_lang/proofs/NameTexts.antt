-- The names of a side, from one router on and run by run.
use Rattle.std.proofs.Common.{◌≡◌, ℕ, ◌+◌, ◌-◌, ◌<◌, ◌≤◌, List, [], ◌∷◌, ◌++◌, Bool, true, false, length, take, drop}
use Rattle.std.proofs.Common.{zero, suc, get_or, refl, ap, ◌∙◌, add-one, arith, append_assoc, drop-cons}
use Rattle.std.proofs.lemmas.List.{append-nil, drop_all}
use Rattle.network_text.specs.NameTexts.{blank_names, blank_names_between}
use Rattle.query_lang.specs.Replies.{name_piece, side_names}
use Rattle.query_lang.specs.Runs.{IsRun}
use Rattle.query_lang.specs.declared.runs.Run.{Run}

-- What a router adds stands before what the routers behind it add.
side_names-drop : (names : List (List ℕ)) (side : List Bool) (i : ℕ) → i < length names → i < length side
    → side_names (drop i names) (drop i side)
    ≡ name_piece (get_or names i []) (get_or side i false) ++ side_names (drop (i + 1) names) (drop (i + 1) side)
side_names-drop names side i named sided =
    rw (add-one, drop-cons names i [] named, drop-cons side i false sided) refl

-- Behind the last router no name is left.
pub side_names-drop_all : (names : List (List ℕ)) (side : List Bool) (i : ℕ) → length names ≤ i
    → side_names (drop i names) (drop i side) ≡ []
side_names-drop_all names side i past = rw (drop_all i names past) refl

-- No name is no text.
blank_names-none : blank_names [] ≡ []
unfolding blank_names
blank_names-none = refl

-- A name and those behind it.
blank_names-cons : (name : List ℕ) (names : List (List ℕ))
    → blank_names (name ∷ names) ≡ name_piece name true ++ blank_names names
unfolding blank_names
blank_names-cons name names = rw (append-nil name) refl

-- Routers that are out add nothing,
names-out : (names : List (List ℕ)) (side : List Bool) (from many : ℕ) → length side ≡ length names
    → from + many ≤ length side → ((r : ℕ) → from ≤ r → r < from + many → get_or side r false ≡ false)
    → side_names (drop from names) (drop from side) ≡ side_names (drop (from + many) names) (drop (from + many) side)
names-out names side from zero same within out =
    let here : from + 0 ≡ from = omega arith in rw here refl
names-out names side from (suc many) same within out =
    let next : from + suc many ≡ from + 1 + many = omega arith in
    let here = side_names-drop names side from (omega (arith, within, same)) (omega (arith, within)) in
    let rest = names-out names side (from + 1) many same (omega (arith, within))
    (λ r behind before. out r (omega (arith, behind)) (omega (arith, before))) in
    here ∙ rw (out from (omega arith) (omega arith), next) rest

-- and those that are in add their names.
names-held : (names : List (List ℕ)) (side : List Bool) (from many : ℕ) → length side ≡ length names
    → from + many ≤ length side → ((r : ℕ) → from ≤ r → r < from + many → get_or side r false ≡ true)
    → side_names (drop from names) (drop from side)
    ≡ blank_names (take many (drop from names)) ++ side_names (drop (from + many) names) (drop (from + many) side)
names-held names side from zero same within held =
    let here : from + 0 ≡ from = omega arith in rw (here, blank_names-none) refl
names-held names side from (suc many) same within held =
    let next : from + suc many ≡ from + 1 + many = omega arith in
    let name = get_or names from [] in
    let named : from < length names = omega (arith, within, same) in
    let here = side_names-drop names side from named (omega (arith, within)) in
    let rest = names-held names side (from + 1) many same (omega (arith, within))
    (λ r behind before. held r (omega (arith, behind)) (omega (arith, before))) in
    let behind = side_names (drop (from + 1 + many) names) (drop (from + 1 + many) side) in
    let names_rest = take many (drop (from + 1) names) in
    let all : take (suc many) (drop from names) ≡ name ∷ names_rest =
    rw (drop-cons names from [] named, add-one) refl in
    let first = name_piece name true in
    rw (next, all, blank_names-cons name names_rest, append_assoc first (blank_names names_rest) behind)
    (here ∙ rw (held from (omega arith) (omega arith)) (ap (λ text. first ++ text) rest))

-- What the routers from one on add are the names of a run and what those behind it add.
pub side_names-run : (names : List (List ℕ)) (side : List Bool) (from : ℕ) (run : Run) → length side ≡ length names
    → IsRun side from run
    → side_names (drop from names) (drop from side)
    ≡ blank_names_between names run.begin run.end ++ side_names (drop run.end names) (drop run.end side)
side_names-run names side from run same is =
    let before = run.begin - from in
    let many = run.end - run.begin in
    let begin : from + before ≡ run.begin = omega (arith, is.behind) in
    let end : run.begin + many ≡ run.end = omega (arith, is.order) in
    let out = names-out names side from before same (omega (arith, begin, is.order, is.within))
    (λ r behind low. is.out r behind (omega (arith, low, begin)) (omega (arith, low, begin, is.order, is.within))) in
    let held = names-held names side run.begin many same (omega (arith, end, is.within))
    (λ r behind low. is.held r behind (omega (arith, low, end)) (omega (arith, low, end, is.within))) in
    rw begin at out ∙ rw end at held
