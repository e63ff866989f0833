-- The definitions on small examples, by computing.
use Rattle.std.proofs.Common.{◌≡◌, [], ◌∷◌, true, false, Some, None, refl, codes}
use Rattle.text_forms.specs.Lines.{lines_of}
use Rattle.text_forms.specs.Words.{words_of, line_words, is_passed, is_load, is_end, is_bye}
use Rattle.text_forms.specs.Names.{is_name}
use Rattle.text_forms.specs.Numbers.{number_in}
use Rattle.text_forms.specs.Items.{Ask, Load, Bye, items_of}

-- a line feed ends a line, also an empty one, and the rest is a line only at the end of the input
open_line : lines_of false (codes "a\n\nbc") ≡ codes "a" ∷ [] ∷ []
open_line = refl

last_line : lines_of true (codes "a\n\nbc") ≡ codes "a" ∷ [] ∷ codes "bc" ∷ []
last_line = refl

-- blanks part words, in front of them and behind them too
blanks : words_of (codes "  ab\t c ") ≡ codes "ab" ∷ codes "c" ∷ []
blanks = refl

-- a carriage return is dropped at the end of a line alone
returns : line_words (codes "a\r b\r") ≡ codes "a\r" ∷ codes "b" ∷ []
returns = refl

passed : is_passed (codes "\r") ≡ true
passed = refl

remark : is_passed (codes " # note") ≡ true
remark = refl

small_letters : is_end (codes "end") ≡ false
small_letters = refl

further_words : is_load (codes "LOAD x") ≡ false
further_words = refl

blanks_around : is_bye (codes " BYE\t\r") ≡ true
blanks_around = refl

name : is_name (codes "edge-1.A_b") ≡ true
name = refl

no_name : is_name (codes "a/b") ≡ false
no_name = refl

leading_zeros : number_in (codes "0012") ≡ Some 12
leading_zeros = refl

no_number : number_in (codes "+5") ≡ None
no_number = refl

-- a text is one item with its lines, and what follows a BYE is no item
session : items_of false (codes "LOAD\nlink a b 5\nEND\n\nCUT a b\nBYE\nCUT a b\n")
    ≡ Load (codes "link a b 5" ∷ []) true ∷ Ask (codes "CUT a b") ∷ Bye ∷ []
session = refl

-- a text that the end of the input cuts off
cut_off : items_of true (codes "LOAD\nrouter a") ≡ Load (codes "router a" ∷ []) false ∷ []
cut_off = refl
