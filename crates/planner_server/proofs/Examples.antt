-- What some words name.
use Rattle.std.proofs.Common.{◌≡◌, [], ◌∷◌, Some, None, refl, codes}
use Rattle.planner_server.specs.Commands.{command_of}
use Rattle.planner_server.specs.declared.command.Command.TheVariants.{Plan, Check, Make, Serve}
use Rattle.planner_server.specs.declared.command.Making.{Making}

-- the option may be missing
plain : command_of (codes "plan" ∷ []) ≡ Some (Plan 1)
plain = refl

-- a number may have leading zeros
zeros : command_of (codes "plan" ∷ codes "--workers=016" ∷ []) ≡ Some (Plan 16)
zeros = refl

-- one above the greatest
too_many : command_of (codes "plan" ∷ codes "--workers=17" ∷ []) ≡ None
too_many = refl

-- a number of more digits than any type has
many_digits : command_of (codes "plan" ∷ codes "--workers=18446744073709551617" ∷ []) ≡ None
many_digits = refl

-- an option that stands there twice, with the same number
twice : command_of (codes "plan" ∷ codes "--workers=2" ∷ codes "--workers=2" ∷ []) ≡ None
twice = refl

-- no number
no_number : command_of (codes "plan" ∷ codes "--workers=" ∷ []) ≡ None
no_number = refl

-- no option
no_option : command_of (codes "plan" ∷ codes "workers=2" ∷ []) ≡ None
no_option = refl

-- the option comes behind the command
option_first : command_of (codes "--workers=2" ∷ codes "plan" ∷ []) ≡ None
option_first = refl

-- a check takes no options
check : command_of (codes "check" ∷ []) ≡ Some Check
check = refl

check_with_word : command_of (codes "check" ∷ codes "x" ∷ []) ≡ None
check_with_word = refl

-- a made network: its three numbers in any order, and one worker where no other number stands
abbrev small : Making
small = record { seed = 7; routers = 3; links = 3; workers = 1 }

make : command_of (codes "make" ∷ codes "--seed=7" ∷ codes "--routers=3" ∷ codes "--links=3" ∷ []) ≡ Some (Make small)
make = refl

abbrev large : Making
large = record { seed = 65535; routers = 1024; links = 8192; workers = 16 }

make_the_most : command_of (codes "make" ∷ codes "--links=8192" ∷ codes "--workers=16" ∷ codes "--routers=1024"
    ∷ codes "--seed=65535" ∷ []) ≡ Some (Make large)
make_the_most = refl

abbrev least : Making
least = record { seed = 0; routers = 2; links = 0; workers = 1 }

make_the_least : command_of (codes "make" ∷ codes "--seed=0" ∷ codes "--routers=2" ∷ codes "--links=0" ∷ [])
    ≡ Some (Make least)
make_the_least = refl

-- an option is missing
make_without_links : command_of (codes "make" ∷ codes "--seed=7" ∷ codes "--routers=3" ∷ []) ≡ None
make_without_links = refl

-- an option stands there twice
two_seeds : command_of (codes "make" ∷ codes "--seed=7" ∷ codes "--routers=3" ∷ codes "--links=3" ∷ codes "--seed=7"
    ∷ []) ≡ None
two_seeds = refl

-- one above the greatest seed
large_seed : command_of (codes "make" ∷ codes "--seed=65536" ∷ codes "--routers=3" ∷ codes "--links=3" ∷ []) ≡ None
large_seed = refl

-- one router has no other
one_router : command_of (codes "make" ∷ codes "--seed=1" ∷ codes "--routers=1" ∷ codes "--links=0" ∷ []) ≡ None
one_router = refl

-- one link too many
many_links : command_of (codes "make" ∷ codes "--seed=7" ∷ codes "--routers=3" ∷ codes "--links=8193" ∷ []) ≡ None
many_links = refl

-- `plan` takes no seed
plan_with_seed : command_of (codes "plan" ∷ codes "--seed=7" ∷ []) ≡ None
plan_with_seed = refl

-- no words
no_words : command_of [] ≡ None
no_words = refl

-- desks at a port
serve : command_of (codes "serve" ∷ codes "--sessions=5" ∷ codes "--port=4000" ∷ codes "--desks=2" ∷ [])
    ≡ Some (Serve (record { port = 4000; desks = 2; sessions = 5; workers = 1 }))
serve = refl

-- all that may stand behind it, at the greatest
serve_most : command_of (codes "serve" ∷ codes "--port=65535" ∷ codes "--desks=8" ∷ codes "--sessions=1000000"
    ∷ codes "--workers=16" ∷ [])
    ≡ Some (Serve (record { port = 65535; desks = 8; sessions = 1000000; workers = 16 }))
serve_most = refl

-- what must stand there
serve_alone : command_of (codes "serve" ∷ codes "--port=4000" ∷ codes "--desks=2" ∷ []) ≡ None
serve_alone = refl

-- a desk too many
nine_desks : command_of (codes "serve" ∷ codes "--port=4000" ∷ codes "--desks=9" ∷ codes "--sessions=5" ∷ []) ≡ None
nine_desks = refl
