-- Fronts of lists, and the bytes that a reader has buffered.
use Rattle.std.proofs.Common.{◌≡◌, ℕ, ◌+◌, ◌-◌, ◌<◌, ◌≤◌, min, List, ◌∷◌, ◌++◌, length, take, drop, sym, ap}
use Rattle.std.proofs.Common.{◌∙◌, arith, take_all, drop-cons, get_or, add-one}
use Rattle.std.proofs.lemmas.List.{take-append-drop, take-append-le, take-take, length-take, drop-drop}
use Rattle.std.proofs.lemmas.List.{drop-take}
use Rattle.std.proofs.lemmas.Grind.{common_steps}
use Rattle.std.proofs.Math.Seq.{take-append-add}
use Rattle.text_forms.specs.Lines.{front_of}
use Rattle.text_forms.specs.declared.lines.TheConstants.{MOST_LINE_BYTES}

-- a front that is as long as the list can give
same_front : (xs : List ℕ) (n m : ℕ) → n ≡ min (length xs) m → take n xs ≡ take m xs
same_front xs n m is = grind (arith, common_steps, take_all)

-- what there is room for of a part, behind what is there, is the front of both
pub front_add : (old part : List ℕ) (n : ℕ) → length old ≤ MOST_LINE_BYTES + 1
    → n ≡ min (length part) (MOST_LINE_BYTES + 1 - length old) → old ++ take n part ≡ front_of (old ++ part)
front_add old part n most is =
    let room = MOST_LINE_BYTES + 1 - length old in
    let whole : MOST_LINE_BYTES + 1 ≡ length old + room = omega arith in
    ap (λ l. old ++ l) (same_front part n room is)
    ∙ sym (ap (λ k. take k (old ++ part)) whole ∙ take-append-add old part room)

-- what follows a front, cut at the same length
take_on : (k : ℕ) (before part : List ℕ) → take k (take k before ++ part) ≡ take k (before ++ part)
take_on k before part = grind (arith, common_steps, take_all, take-append-le, take-take, length-take)

-- what there is no room for in a front doesn't change it
pub front_on : (before part : List ℕ) → front_of (front_of before ++ part) ≡ front_of (before ++ part)
front_on before part = take_on (MOST_LINE_BYTES + 1) before part

-- a list round one of its elements
around : (xs : List ℕ) (at : ℕ) → at < length xs → xs ≡ take at xs ++ get_or xs at 0 ∷ drop (at + 1) xs
around xs at within =
    sym (take-append-drop at xs) ∙ ap (λ l. take at xs ++ l) (rw add-one (drop-cons xs at 0 within))

-- what is buffered once `k` more bytes were passed
rest_of : (bytes : List ℕ) (from to k : ℕ) → from + k ≤ to
    → drop k (take (to - from) (drop from bytes)) ≡ take (to - (from + k)) (drop (from + k) bytes)
rest_of bytes from to k within =
    let long : to - from ≡ k + (to - (from + k)) = omega arith in
    ap (λ n. drop k (take n (drop from bytes))) long ∙ drop-take k (to - (from + k)) (drop from bytes)
    ∙ ap (take (to - (from + k))) (drop-drop k from bytes)

-- what is buffered, round a line feed
pub buffered_around : (bytes : List ℕ) (from to at : ℕ) → from + at < to
    → at < length (take (to - from) (drop from bytes))
    → get_or (take (to - from) (drop from bytes)) at 0 ≡ 10
    → take (to - from) (drop from bytes)
    ≡ take at (take (to - from) (drop from bytes)) ++ 10 ∷ take (to - (from + (at + 1))) (drop (from + (at + 1)) bytes)
buffered_around bytes from to at inside within is =
    let all = take (to - from) (drop from bytes) in
    let room : from + (at + 1) ≤ to = omega arith in
    around all at within ∙ ap (λ b. take at all ++ b ∷ drop (at + 1) all) is
    ∙ ap (λ l. take at all ++ 10 ∷ l) (rest_of bytes from to (at + 1) room)
