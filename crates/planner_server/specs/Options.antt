-- Options of a command: words of the form `--name=NUMBER`, in any order, each at most once.
use Rattle.std.specs.Prelude.{ℕ, List, [], ◌∷◌, Bool, Some, None, drop, length, codes, nat_eq, nat_le, ◌&&◌}
use Rattle.std.specs.Prelude.{if◌then◌else◌}
use Rattle.std.specs.List.{list_all, list_any, starts_with}
use Rattle.std.specs.declared.option.Option.{Option}
use Rattle.planner_server.specs.declared.options.Given.{Given}
use Rattle.planner_server.specs.declared.options.Given.TheVariants.{Missing, Number, Wrong}
use Rattle.planner_server.specs.declared.options.OptionName.{OptionName}
use Rattle.planner_server.specs.declared.options.OptionName.TheVariants.{Workers, Seed, Routers, Links}
use Rattle.planner_server.specs.declared.options.OptionName.TheVariants.{Port, Desks, Sessions}
use Rattle.cut_model.specs.declared.network.TheConstants.{MOST_LINKS, MOST_ROUTERS}
use Rattle.job_queue.specs.declared.jobs.TheConstants.{MOST_WORKERS}
use Rattle.made_networks.specs.declared.draws.TheConstants.{MOST_SEED}
use Rattle.planner_server.specs.declared.options.TheConstants.{MOST_PORT, MOST_SESSIONS}
use Rattle.text_forms.specs.Numbers.{number_in}
use Rattle.tree_versions.specs.declared.opening.TheConstants.{MOST_DESKS}

-- what a word of this option begins with
abbrev pub spelling_of : OptionName → List ℕ
spelling_of Workers = codes "--workers="
spelling_of Seed = codes "--seed="
spelling_of Routers = codes "--routers="
spelling_of Links = codes "--links="
spelling_of Port = codes "--port="
spelling_of Desks = codes "--desks="
spelling_of Sessions = codes "--sessions="

-- the least number that the option takes
abbrev pub least_of : OptionName → ℕ
least_of Workers = 1
least_of Seed = 0
least_of Routers = 2
least_of Links = 0
least_of Port = 1
least_of Desks = 1
least_of Sessions = 1

-- the greatest number that the option takes
abbrev pub most_of : OptionName → ℕ
most_of Workers = MOST_WORKERS
most_of Seed = MOST_SEED
most_of Routers = MOST_ROUTERS
most_of Links = MOST_LINKS
most_of Port = MOST_PORT
most_of Desks = MOST_DESKS
most_of Sessions = MOST_SESSIONS

-- a word of this option
abbrev pub is_of : OptionName → List ℕ → Bool
is_of name word = starts_with nat_eq word (spelling_of name)

-- what stands behind `--name=` in the words of this option, in their order
abbrev pub texts_of : OptionName → List (List ℕ) → List (List ℕ)
texts_of name [] = []
texts_of name (word ∷ words) =
    if is_of name word then drop (length (spelling_of name)) word ∷ texts_of name words else texts_of name words

-- a number that the option takes, or something else
abbrev pub number_given : OptionName → Option ℕ → Given
number_given name None = Wrong
number_given name (Some n) = if nat_le (least_of name) n && nat_le n (most_of name) then Number n else Wrong

-- nothing, or the number of the only text, or something else
abbrev pub given_by : OptionName → List (List ℕ) → Given
given_by name [] = Missing
given_by name (text ∷ []) = number_given name (number_in text)
given_by name (text ∷ more ∷ texts) = Wrong

-- what the words give to the option
abbrev pub given_in : OptionName → List (List ℕ) → Given
given_in name words = given_by name (texts_of name words)

-- each word is one of these options
abbrev pub are_options : List OptionName → List (List ℕ) → Bool
are_options names words = list_all (λ word. list_any (λ name. is_of name word) names) words
