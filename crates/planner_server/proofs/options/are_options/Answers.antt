use Rattle.std.proofs.Common.{◌∙◌, sym, rules}
use Rattle.std.proofs.lemmas.Iterator.{YieldsList-from_slice}
use Rattle.std.proofs.lemmas.Iterator.Search.{all_from_yields_List}
use Rattle.std.proofs.lemmas.List.Folds.{list_all-map}
use Rattle.std.specs.List.{list_any}
use Rattle.std.specs.String.{string_bytes}
use Rattle.planner_server.specs.Options.{is_of}
use Rattle.planner_server.proofs.options.are_options.Goals as goal
use borrow.Author.Tests.{tests}

pub returns : goal.returns
returns c =
    all_from_yields_List (λ word. list_any (λ name. is_of name (string_bytes word)) c.args.names.now) _ _ _
    c.all.ensures.ran (YieldsList-from_slice c.args.words.now cc) (λ x b q k. search (rules, tests))
    ∙ sym (list_all-map (λ word. list_any (λ name. is_of name word) c.args.names.now) string_bytes c.args.words.now)
