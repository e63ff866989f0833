-- Lists that begin one list.
use Rattle.std.proofs.Common.{◌≡◌, ◌+◌, ◌≤◌, List, [], ◌∷◌, ◌++◌, length, Some, slice_get, refl, ap}
use Rattle.std.proofs.Common.{◌∙◌, arith, append_assoc, length-append, sym}
use Rattle.tree_versions.specs.Records.{RecordView, Grows}
use mathlib.Core.List.{IsPrefix}

-- a list that grows twice has grown
pub Grows-trans : (a b c : List RecordView) → Grows a b → Grows b c → Grows a c
Grows-trans a b c p q = (p.0 ++ q.0, q.1 ∙ ap (λ (v : List RecordView). v ++ q.0) p.1 ∙ append_assoc a p.0 q.0)

-- a list that grew is no shorter
pub Grows-length : (a b : List RecordView) → Grows a b → length a ≤ length b
Grows-length a b p = omega (arith, ap length p.1, length-append a p.0)

-- of two fronts of one list the shorter begins the longer
pub Grows-shorter : (a b whole : List RecordView) → Grows a whole → Grows b whole → length a ≤ length b → Grows a b
Grows-shorter [] b whole p q le = (b, refl)
Grows-shorter (x ∷ a) [] whole p q le = absurd (omega arith)
Grows-shorter (x ∷ a) (y ∷ b) [] p q le = absurd (cc (p.1))
Grows-shorter (x ∷ a) (y ∷ b) (z ∷ whole) p q le =
    let heads : x ≡ y = cc (p.1, q.1) in
    let rest = Grows-shorter a b whole (p.0, cc (p.1)) (q.0, cc (q.1)) (omega arith) in (rest.0, cc (heads, rest.1))

-- and so it is with beginnings of a log as they are told of it
pub prefix_shorter : (a b log : List RecordView) → IsPrefix a log → IsPrefix b log → length a ≤ length b → Grows a b
prefix_shorter a b log p q le = Grows-shorter a b log (p.0, sym p.1) (q.0, sym q.1) le

-- a front as long as the whole is the whole
pub Grows-whole : (a whole : List RecordView) → Grows a whole → length whole ≤ length a → a ≡ whole
Grows-whole [] [] p le = refl
Grows-whole [] (y ∷ whole) p le = absurd (omega arith)
Grows-whole (x ∷ a) [] p le = absurd (cc (p.1))
Grows-whole (x ∷ a) (y ∷ whole) p le = let rest = Grows-whole a whole (p.0, cc (p.1)) (omega arith) in cc (p.1, rest)

-- a front that is longer by one than another one, and ends with a record, is that one with the record behind it
pub Grows-one : (a b whole : List RecordView) (last : RecordView) → Grows a whole → Grows b whole
    → length b ≡ length a + 1 → slice_get b (length a) ≡ Some last → b ≡ a ++ last ∷ []
Grows-one [] [] whole last p q len is = absurd (omega arith)
Grows-one [] (y ∷ []) whole last p q len is = cc (is)
Grows-one [] (y ∷ (w ∷ b)) whole last p q len is = absurd (omega arith)
Grows-one (x ∷ a) [] whole last p q len is = absurd (omega arith)
Grows-one (x ∷ a) (y ∷ b) [] last p q len is = absurd (cc (p.1))
Grows-one (x ∷ a) (y ∷ b) (z ∷ whole) last p q len is =
    let heads : x ≡ y = cc (p.1, q.1) in
    let rest = Grows-one a b whole last (p.0, cc (p.1)) (q.0, cc (q.1)) (omega arith) is in cc (heads, rest)
