-- A small certificate and spoilt forms of it, by computing.
use Rattle.std.specs.Prelude.{◌≡◌, ℕ, List, ◌++◌, codes, true, false}
use Rattle.std.proofs.Common.{refl}
use Rattle.tree_state.specs.Tables.{some_up}
use Rattle.certifier.specs.Certificates.{Refused, Undecided, Verdict, verdict_on}

-- three routers in a row, up to the root
abbrev row : List ℕ
row = codes "cut tree 1\nrouter a\nrouter b\nrouter c\nlink a b 5\nlink b c 4\nEND\nroot a\n"

-- the verdict on it and these lines
abbrev judged : List ℕ → Verdict
judged lines = verdict_on true (row ++ lines)

-- a fault of this number in this line
abbrev refused : ℕ → ℕ → Verdict
refused number line = Refused record { number = number; line = line }

refuses_a_flow_of_less : judged (codes "edge b a 6\non -5\non 0\nedge c b 4\non 0\non -4\nDONE\n") ≡ refused 37 9
refuses_a_flow_of_less = refl

refuses_more_than_a_link_takes : judged (codes "edge b a 5\non -6\non 0\nedge c b 4\non 0\non -4\nDONE\n")
    ≡ refused 35 10
refuses_more_than_a_link_takes = refl

refuses_a_leak : judged (codes "edge b a 5\non -5\non -1\nedge c b 4\non 0\non -4\nDONE\n") ≡ refused 36 9
refuses_a_leak = refl

refuses_a_circle : judged (codes "edge b c 4\non 0\non 4\nedge c b 4\non 0\non -4\nDONE\n") ≡ refused 38 15
unfolding some_up
refuses_a_circle = refl

refuses_the_wrong_child : judged (codes "edge c a 5\n") ≡ refused 33 9
refuses_the_wrong_child = refl

refuses_an_unknown_router : judged (codes "edge d a 5\n") ≡ refused 32 9
refuses_an_unknown_router = refl

refuses_no_number : judged (codes "edge b a -5\n") ≡ refused 34 9
refuses_no_number = refl

decides_nothing_before_the_end :
    verdict_on false (row ++ codes "edge b a 5\non -5\non 0\nedge c b 4\non 0\non -4\nDONE")
    ≡ Undecided
decides_nothing_before_the_end = refl

refuses_what_ends_early : judged (codes "edge b a 5\n") ≡ refused 30 10
refuses_what_ends_early = refl

refuses_a_faulty_network : verdict_on false (codes "@1 CERTIFICATE\ncut tree 1\nlink a b x\n") ≡ refused 31 3
refuses_a_faulty_network = refl
