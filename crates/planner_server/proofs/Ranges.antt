-- What words ask for is within the limits.
use Rattle.std.proofs.Common.{◌≡◌, ℕ, ◌≤◌, List, [], ◌∷◌, Bool, true, false, Some, None, codes, refl, subst, arith}
use Rattle.std.proofs.Common.{◌&&◌, nat_le, if◌then◌else◌}
use Rattle.std.proofs.lemmas.Bool.{leb-true}
use Rattle.std.specs.Prelude.{IfSome}
use Rattle.std.specs.Option.{option_map}
use Rattle.std.specs.Str.{bytes_eq}
use Rattle.std.specs.declared.option.Option.{Option}
use Rattle.planner_server.specs.Commands.{IsInRanges, IsOpen, check_of, command_of, make_of, making_by, making_of}
use Rattle.planner_server.specs.Commands.{needed, number_or, plan_of, serve_of, serving_by, serving_of}
use Rattle.planner_server.specs.Options.{are_options, given_by, given_in, least_of, most_of, number_given, texts_of}
use Rattle.planner_server.specs.declared.command.Command.{Command}
use Rattle.planner_server.specs.declared.command.Command.TheVariants.{Plan, Check, Make, Serve}
use Rattle.planner_server.specs.declared.command.Making.{Making}
use Rattle.planner_server.specs.declared.command.Serving.{Serving}
use Rattle.planner_server.specs.declared.options.Given.{Given}
use Rattle.planner_server.specs.declared.options.Given.TheVariants.{Missing, Number, Wrong}
use Rattle.planner_server.specs.declared.options.OptionName.{OptionName}
use Rattle.planner_server.specs.declared.options.OptionName.TheVariants.{Workers, Seed, Routers, Links}
use Rattle.planner_server.specs.declared.options.OptionName.TheVariants.{Port, Desks, Sessions}
use Rattle.text_forms.specs.Numbers.{number_in}

-- A number is one that the option takes.
pub record IsTaken (name : OptionName) (n : ℕ) : Type 0 where
  pub least : least_of name ≤ n
  pub most : n ≤ most_of name

-- what is given to an option is a number that it takes, if a number
number_given-taken : (name : OptionName) (number : Option ℕ) → IfSome (needed (number_given name number)) (IsTaken name)
number_given-taken name None = tt
number_given-taken name (Some n) = by_test (nat_le (least_of name) n) (nat_le n (most_of name)) refl refl
  where
    by_test : (low high : Bool) → nat_le (least_of name) n ≡ low → nat_le n (most_of name) ≡ high
        → IfSome (needed (if low && high then Number n else Wrong)) (IsTaken name)
    by_test true true low high = record {
      least = leb-true (least_of name) n low;
      most = leb-true n (most_of name) high;
    }
    by_test true false low high = tt
    by_test false high low also = tt

-- what texts give is so, too
given_by-taken : (name : OptionName) (texts : List (List ℕ)) → IfSome (needed (given_by name texts)) (IsTaken name)
given_by-taken name [] = tt
given_by-taken name (text ∷ []) = number_given-taken name (number_in text)
given_by-taken name (one ∷ two ∷ texts) = tt

-- the usual number of workers is one that the option takes
number_or-taken : (given : Given) → IfSome (needed given) (IsTaken Workers)
    → IfSome (number_or 1 given) (IsTaken Workers)
number_or-taken Missing taken = record { least = omega arith; most = omega arith }
number_or-taken (Number n) taken = taken
number_or-taken Wrong taken = tt

-- four numbers that the options take are within the limits
making_by-ranges : (seed routers links workers : Option ℕ) → IfSome seed (IsTaken Seed)
    → IfSome routers (IsTaken Routers) → IfSome links (IsTaken Links) → IfSome workers (IsTaken Workers)
    → IfSome (making_by seed routers links workers) IsInRanges
making_by-ranges (Some seed) (Some routers) (Some links) (Some workers) one two three four = record {
  most_seed = one.most;
  two = two.least;
  most_routers = two.most;
  most_links = three.most;
  some = four.least;
  most_workers = four.most;
}
making_by-ranges None routers links workers one two three four = tt
making_by-ranges (Some seed) None links workers one two three four = tt
making_by-ranges (Some seed) (Some routers) None workers one two three four = tt
making_by-ranges (Some seed) (Some routers) (Some links) None one two three four = tt

-- so is what the options ask `make` for
making_of-ranges : (options : List (List ℕ)) → IfSome (making_of options) IsInRanges
making_of-ranges options = making_by-ranges _ _ _ _ (given_by-taken Seed (texts_of Seed options))
    (given_by-taken Routers (texts_of Routers options)) (given_by-taken Links (texts_of Links options))
    (number_or-taken (given_in Workers options) (given_by-taken Workers (texts_of Workers options)))

-- so is how four numbers that the options take ask `serve` to serve
serving_by-open : (port desks sessions workers : Option ℕ) → IfSome port (IsTaken Port) → IfSome desks (IsTaken Desks)
    → IfSome sessions (IsTaken Sessions) → IfSome workers (IsTaken Workers)
    → IfSome (serving_by port desks sessions workers) IsOpen
serving_by-open (Some port) (Some desks) (Some sessions) (Some workers) one two three four = record {
  some_port = one.least;
  most_port = one.most;
  some_desks = two.least;
  most_desks = two.most;
  some_sessions = three.least;
  most_sessions = three.most;
  some_workers = four.least;
  most_workers = four.most;
}
serving_by-open None desks sessions workers one two three four = tt
serving_by-open (Some port) None sessions workers one two three four = tt
serving_by-open (Some port) (Some desks) None workers one two three four = tt
serving_by-open (Some port) (Some desks) (Some sessions) None one two three four = tt

-- and how the options ask it
serving_of-open : (options : List (List ℕ)) → IfSome (serving_of options) IsOpen
serving_of-open options = serving_by-open _ _ _ _ (given_by-taken Port (texts_of Port options))
    (given_by-taken Desks (texts_of Desks options)) (given_by-taken Sessions (texts_of Sessions options))
    (number_or-taken (given_in Workers options) (given_by-taken Workers (texts_of Workers options)))

-- What a command asks for is within the limits: for so many workers, for such a network, and for such desks.
abbrev pub AsksWithin : Command → Type 0
AsksWithin (Plan workers) = IsTaken Workers workers
AsksWithin Check = Unit {0}
AsksWithin (Make making) = IsInRanges making
AsksWithin (Serve serving) = IsOpen serving

-- what each command asks for by its options is within the limits
plan_within : (are : Bool) (workers : Option ℕ) → IfSome workers (IsTaken Workers)
    → IfSome (if are then option_map Plan workers else None) AsksWithin
plan_within true (Some n) taken = taken
plan_within true None taken = tt
plan_within false workers taken = tt

check_within : (options : List (List ℕ)) → IfSome (check_of options) AsksWithin
check_within [] = tt
check_within (option ∷ options) = tt

make_within : (are : Bool) (making : Option Making) → IfSome making IsInRanges
    → IfSome (if are then option_map Make making else None) AsksWithin
make_within true (Some making) ranges = ranges
make_within true None ranges = tt
make_within false making ranges = tt

serve_within : (are : Bool) (serving : Option Serving) → IfSome serving IsOpen
    → IfSome (if are then option_map Serve serving else None) AsksWithin
serve_within true (Some serving) ranges = ranges
serve_within true None ranges = tt
serve_within false serving ranges = tt

command_of-within : (words : List (List ℕ)) → IfSome (command_of words) AsksWithin
command_of-within [] = tt
command_of-within (name ∷ options) =
    by_name (bytes_eq name (codes "plan")) (bytes_eq name (codes "check")) (bytes_eq name (codes "make"))
    (bytes_eq name (codes "serve"))
  where
    workers : IfSome (number_or 1 (given_in Workers options)) (IsTaken Workers)
    workers = number_or-taken (given_in Workers options) (given_by-taken Workers (texts_of Workers options))

    by_name : (plan check make serve : Bool)
        → IfSome (if plan then plan_of options else if check then check_of options else if make then make_of options
        else if serve then serve_of options else None) AsksWithin
    by_name true check make serve = plan_within (are_options (Workers ∷ []) options) _ workers
    by_name false true make serve = check_within options
    by_name false false true serve =
        make_within (are_options (Seed ∷ Routers ∷ Links ∷ Workers ∷ []) options) _ (making_of-ranges options)
    by_name false false false true =
        serve_within (are_options (Port ∷ Desks ∷ Sessions ∷ Workers ∷ []) options) _ (serving_of-open options)
    by_name false false false false = tt

-- what words ask for is within the limits
pub command_within : (words : List (List ℕ)) (command : Command) → command_of words ≡ Some command → AsksWithin command
command_within words command is =
    subst (λ (told : Option Command). IfSome told AsksWithin) is (command_of-within words)
