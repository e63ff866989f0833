-- Texts without a line feed.
use Rattle.std.proofs.Common.{◌≡◌, ◌≢◌, ℕ, List, Bool, true, nat_eq, not, arith}
use Rattle.std.proofs.lemmas.Bool.Decides.{nat_tests}
use Rattle.std.proofs.lemmas.List.Elements.{All-weaker}
use Rattle.std.proofs.lemmas.List.Sums.{AllPass-from_list_all}
use Rattle.std.specs.List.{list_all}
use Rattle.text_forms.specs.Lines.{NoFeed}

-- A byte is no line feed.
abbrev pub no_feed : ℕ → Bool
no_feed b = not (nat_eq b 10)

-- A text of which this is computed has none.
pub NoFeed-from_test : (text : List ℕ) → list_all no_feed text ≡ true → NoFeed text
NoFeed-from_test text passes =
    All-weaker (λ b. no_feed b ≡ true) (λ b. b ≢ 10) (λ b is same. grind (arith, nat_tests)) text
    (AllPass-from_list_all no_feed text passes)
