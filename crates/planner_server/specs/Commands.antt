-- The command that the words of a command line name.
use Rattle.std.specs.Prelude.{ℕ, ◌≤◌, List, [], ◌∷◌, Some, None, codes, if◌then◌else◌}
use Rattle.std.specs.Option.{option_map}
use Rattle.std.specs.Str.{bytes_eq}
use Rattle.std.specs.declared.option.Option.{Option}
use Rattle.cut_model.specs.declared.network.TheConstants.{MOST_LINKS, MOST_ROUTERS}
use Rattle.job_queue.specs.declared.jobs.TheConstants.{MOST_WORKERS}
use Rattle.made_networks.specs.declared.draws.TheConstants.{MOST_SEED}
use Rattle.planner_server.specs.Options.{are_options, given_in}
use Rattle.planner_server.specs.declared.command.Command.{Command}
use Rattle.planner_server.specs.declared.command.Command.TheVariants.{Plan, Check, Make, Serve}
use Rattle.planner_server.specs.declared.command.Making.{Making}
use Rattle.planner_server.specs.declared.command.Serving.{Serving}
use Rattle.planner_server.specs.declared.options.Given.{Given}
use Rattle.planner_server.specs.declared.options.Given.TheVariants.{Missing, Number, Wrong}
use Rattle.planner_server.specs.declared.options.OptionName.TheVariants.{Workers, Seed, Routers, Links}
use Rattle.planner_server.specs.declared.options.OptionName.TheVariants.{Port, Desks, Sessions}
use Rattle.planner_server.specs.declared.options.TheConstants.{MOST_PORT, MOST_SESSIONS}
use Rattle.tree_versions.specs.declared.opening.TheConstants.{MOST_DESKS}

-- the number of an option that may be missing, and is then the usual one; none where it is given wrongly
abbrev pub number_or : ℕ → Given → Option ℕ
number_or usual Missing = Some usual
number_or usual (Number n) = Some n
number_or usual Wrong = None

-- the number of an option that must stand there; none where it is missing or given wrongly
abbrev pub needed : Given → Option ℕ
needed (Number n) = Some n
needed given = None

-- `plan` with these options
abbrev pub plan_of : List (List ℕ) → Option Command
plan_of options =
    if are_options (Workers ∷ []) options then option_map Plan (number_or 1 (given_in Workers options)) else None

-- `check`, which takes no options
abbrev pub check_of : List (List ℕ) → Option Command
check_of [] = Some Check
check_of (option ∷ options) = None

-- what `make` is asked for by its four numbers, if each is told
abbrev pub making_by : Option ℕ → Option ℕ → Option ℕ → Option ℕ → Option Making
making_by (Some seed) (Some routers) (Some links) (Some workers) =
    Some record { seed = seed; routers = routers; links = links; workers = workers }
making_by seed routers links workers = None

-- what these options ask `make` for: three numbers that must stand there, and one worker where they say no other number
abbrev pub making_of : List (List ℕ) → Option Making
making_of options = making_by (needed (given_in Seed options)) (needed (given_in Routers options))
    (needed (given_in Links options)) (number_or 1 (given_in Workers options))

-- `make` with these options
abbrev pub make_of : List (List ℕ) → Option Command
make_of options =
    if are_options (Seed ∷ Routers ∷ Links ∷ Workers ∷ []) options then option_map Make (making_of options) else None

-- what `make` is asked for is within the limits
pub record IsInRanges (making : Making) : Type 0 where
  pub most_seed : making.seed ≤ MOST_SEED
  pub two : 2 ≤ making.routers
  pub most_routers : making.routers ≤ MOST_ROUTERS
  pub most_links : making.links ≤ MOST_LINKS
  pub some : 1 ≤ making.workers
  pub most_workers : making.workers ≤ MOST_WORKERS

-- how `serve` is asked to serve by its four numbers, if each is told
abbrev pub serving_by : Option ℕ → Option ℕ → Option ℕ → Option ℕ → Option Serving
serving_by (Some port) (Some desks) (Some sessions) (Some workers) =
    Some record { port = port; desks = desks; sessions = sessions; workers = workers }
serving_by port desks sessions workers = None

-- how these options ask `serve` to serve: three numbers that must stand there, and one worker where they say no other
-- number
abbrev pub serving_of : List (List ℕ) → Option Serving
serving_of options = serving_by (needed (given_in Port options)) (needed (given_in Desks options))
    (needed (given_in Sessions options)) (number_or 1 (given_in Workers options))

-- `serve` with these options
abbrev pub serve_of : List (List ℕ) → Option Command
serve_of options =
    if are_options (Port ∷ Desks ∷ Sessions ∷ Workers ∷ []) options then option_map Serve (serving_of options) else None

-- how `serve` is asked to serve is within the limits
pub record IsOpen (serving : Serving) : Type 0 where
  pub some_port : 1 ≤ serving.port
  pub most_port : serving.port ≤ MOST_PORT
  pub some_desks : 1 ≤ serving.desks
  pub most_desks : serving.desks ≤ MOST_DESKS
  pub some_sessions : 1 ≤ serving.sessions
  pub most_sessions : serving.sessions ≤ MOST_SESSIONS
  pub some_workers : 1 ≤ serving.workers
  pub most_workers : serving.workers ≤ MOST_WORKERS

-- the port and the desks of `serve`
abbrev pub place_of : Option Command → Option (ℕ × ℕ)
place_of (Some (Serve serving)) = Some (serving.port, serving.desks)
place_of command = None

-- the command that the words name, if they name one
abbrev pub command_of : List (List ℕ) → Option Command
command_of [] = None
command_of (name ∷ options) =
    if bytes_eq name (codes "plan") then plan_of options
    else if bytes_eq name (codes "check") then check_of options
    else if bytes_eq name (codes "make") then make_of options
    else if bytes_eq name (codes "serve") then serve_of options
    else None
