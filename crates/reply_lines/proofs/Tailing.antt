-- Texts that lead on in a reply.
use Rattle.std.proofs.Common.{◌≡◌, ℕ, suc, ◌+◌, ◌-◌, ◌<◌, List, [], ◌++◌, refl, sym, append_assoc, subst, arith}
use Rattle.reply_lines.specs.Tails.{Leads, Spot, Tail, spot}

-- One line leads to the next place.
pub line_leads : (C : Type 0) (Line : ℕ → C → List ℕ → C → Type 0) (left place : ℕ) (carry carry2 : C) (line : List ℕ)
    → Line place carry line carry2
    → Leads C Line (record { left = suc left; place = place; carry = carry }) line
    (record { left = left; place = place + 1; carry = carry2 })
line_leads C Line left place carry carry2 line is rest on = record {
  line = line;
  rest = rest;
  carry2 = carry2;
  is = is;
  joins = refl;
  on = on;
}

-- No text leads nowhere.
pub Leads-none : (C : Type 0) (Line : ℕ → C → List ℕ → C → Type 0) (a : Spot C) → Leads C Line a [] a
Leads-none C Line a rest on = on

-- One text leads on behind another.
pub Leads-trans : (C : Type 0) (Line : ℕ → C → List ℕ → C → Type 0) (a b c : Spot C) (xs ys : List ℕ)
    → Leads C Line a xs b → Leads C Line b ys c → Leads C Line a (xs ++ ys) c
Leads-trans C Line a b c xs ys f g rest on =
    subst (Tail C Line a.left a.place a.carry) (sym (append_assoc xs ys rest)) (f (ys ++ rest) (g rest on))

-- The line of a place leads behind it, in a reply of n lines.
pub place_leads : (C : Type 0) (Line : ℕ → C → List ℕ → C → Type 0) (n place : ℕ) (carry carry2 : C) (line : List ℕ)
    → place < n → Line place carry line carry2 → Leads C Line (spot n place carry) line (spot n (place + 1) carry2)
place_leads C Line n place carry carry2 line low is =
    let one : suc (n - (place + 1)) ≡ n - place = omega arith in
    subst (λ (left : ℕ). Leads C Line (record { left = left; place = place; carry = carry }) line
    (spot n (place + 1) carry2)) one (line_leads C Line (n - (place + 1)) place carry carry2 line is)
