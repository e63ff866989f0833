-- The definitions on small examples, by computing.
use Rattle.std.proofs.Common.{◌≡◌, List, ℕ, [], ◌∷◌, ◌++◌, true, false, Some, None, Result, Ok, Err, refl, codes}
use Rattle.std.proofs.Common.{length, map, replicate, slice_index_or}
use Rattle.std.specs.Fmt.{digits}
use Rattle.cut_model.specs.Net.{Net}
use Rattle.cut_model.specs.Terminals.{is_terminal, number_in, root_of}
use Rattle.network_text.specs.Sheets.{SheetView}
use Rattle.network_text.specs.Writing.{sheet_text}
use Rattle.query_lang.specs.declared.request.Request.{Request}
use Rattle.query_lang.specs.declared.request.Request.TheVariants.{Nothing, Load, Cut, Path, Tree, Run, Weakest, Bye}
use Rattle.query_lang.specs.declared.request.Request.TheVariants.{Witness, Certificate}
use Rattle.query_lang.specs.declared.request.Request.TheVariants as asks
use Rattle.query_lang.specs.declared.request.RequestFault.{RequestFault}
use Rattle.query_lang.specs.Replies.{bye_text, cut_text, head_text, loaded_text, net_text, refused_text}
use Rattle.query_lang.specs.Reports.{IsReport}
use Rattle.query_lang.specs.Requests.{fault_number, request_of}
use Rattle.query_lang.specs.Trees.{path_text, run_text, tree_text}
use Rattle.reply_lines.specs.Tails.{lines_in}
use Rattle.tree_state.specs.Views.{TreeView, up_of, width_of}
use Rattle.tree_state.specs.History.{tables}
use Rattle.tree_state.specs.Tables.{below, some_up, up_after, width_after}
use Rattle.tree_state.specs.Paths.{side_for}

-- Two routers, a and b, with a link of 5.
abbrev pair : Net
pair = record { routers = 2; links = record { a = 0; b = 1; cap = 5 } ∷ [] }

abbrev names : List (List ℕ)
names = codes "a" ∷ codes "b" ∷ []

abbrev sheet : SheetView
sheet = record { names = names; net = pair }

-- One router alone.
abbrev lonely : SheetView
lonely = record { names = codes "a" ∷ []; net = record { routers = 1; links = [] } }

-- The number by which a request is refused, and 0 where it isn't.
abbrev number_told : Result Request RequestFault → ℕ
number_told (Ok request) = 0
number_told (Err fault) = fault_number fault

-- The same for a line before any network, and for one with this sheet.
abbrev before : List ℕ → ℕ
before line = number_told (request_of None line)

abbrev later : List ℕ → ℕ
later line = number_told (request_of (Some sheet) line)

-- What is asked for.
remark : request_of (Some sheet) (codes "# note") ≡ Ok Nothing
remark = refl

empty_line : request_of None (codes " \t\r") ≡ Ok Nothing
empty_line = refl

load : request_of None (codes " LOAD\r") ≡ Ok Load
load = refl

cut : request_of (Some sheet) (codes "CUT b\ta ") ≡ Ok (Cut 1 0)
cut = refl

net : request_of (Some sheet) (codes "NET") ≡ Ok asks.Net
net = refl

path : request_of (Some sheet) (codes "PATH a b") ≡ Ok (Path 0 1)
path = refl

weakest : request_of (Some sheet) (codes "WEAKEST") ≡ Ok Weakest
unfolding number_in is_terminal
weakest = refl

witness : request_of (Some sheet) (codes "WITNESS b a") ≡ Ok (Witness 1 0)
witness = refl

certificate : request_of (Some sheet) (codes "CERTIFICATE") ≡ Ok Certificate
certificate = refl

tree : request_of (Some sheet) (codes "TREE") ≡ Ok Tree
tree = refl

run : request_of (Some sheet) (codes " RUN\t") ≡ Ok Run
run = refl

bye : request_of None (codes "BYE") ≡ Ok Bye
bye = refl

-- A line of 513 bytes is too long, whatever it begins with, and one of 512 is not.
long_line : before (replicate 513 120) ≡ 2
long_line = refl

long_remark : before (codes "#" ++ replicate 512 120) ≡ 2
long_remark = refl

long_bye : before (codes "BYE" ++ replicate 510 32) ≡ 2
long_bye = refl

longest_line : before (replicate 512 120) ≡ 1
longest_line = refl

longest_bye : request_of None (codes "BYE" ++ replicate 509 32) ≡ Ok Bye
longest_bye = refl

-- A word in small letters is unknown, and so is one with a further letter; the words behind it aren't looked at.
small_letters : before (codes "cut a b") ≡ 1
small_letters = refl

further_letter : later (codes "NETS a b") ≡ 1
further_letter = refl

-- The number of words counts before the network does,
one_name : before (codes "CUT a") ≡ 3
one_name = refl

three_names : later (codes "CUT z a b") ≡ 3
three_names = refl

net_with_further_word : before (codes "NET x") ≡ 3
net_with_further_word = refl

tree_with_further_word : before (codes "TREE x") ≡ 3
tree_with_further_word = refl

run_with_further_word : later (codes "RUN RUN") ≡ 3
run_with_further_word = refl

-- also for requests that need none.
load_with_further_word : before (codes "LOAD x") ≡ 3
load_with_further_word = refl

bye_with_further_word : later (codes "BYE x") ≡ 3
bye_with_further_word = refl

-- Without a network no name is looked up.
cut_before : before (codes "CUT a b") ≡ 6
cut_before = refl

same_name_before : before (codes "CUT a a") ≡ 6
same_name_before = refl

net_before : before (codes "NET") ≡ 6
net_before = refl

tree_before : before (codes "TREE") ≡ 6
tree_before = refl

run_before : before (codes "RUN") ≡ 6
run_before = refl

-- An unknown router counts before two equal names, whichever of the two it is.
unknown_second : later (codes "CUT a z") ≡ 4
unknown_second = refl

unknown_first : later (codes "CUT z a") ≡ 4
unknown_first = refl

unknown_twice : later (codes "CUT z z") ≡ 4
unknown_twice = refl

path_to_itself : later (codes "PATH b b") ≡ 5
path_to_itself = refl

path_to_nowhere : later (codes "PATH b z") ≡ 4
path_to_nowhere = refl

path_of_three : before (codes "PATH a b c") ≡ 3
path_of_three = refl

path_before : before (codes "PATH a b") ≡ 6
path_before = refl

-- One terminal alone has no weakest edge, which counts last.
weakest_of_one : number_told (request_of (Some lonely) (codes "WEAKEST")) ≡ 8
unfolding number_in is_terminal
weakest_of_one = refl

weakest_with_further_word : number_told (request_of (Some lonely) (codes "WEAKEST a")) ≡ 3
weakest_with_further_word = refl

weakest_before : before (codes "WEAKEST") ≡ 6
weakest_before = refl

-- Flows between two routers are refused as their path is, and the certificate as the tree is.
witness_of_one : before (codes "WITNESS a") ≡ 3
witness_of_one = refl

witness_before : before (codes "WITNESS a a") ≡ 6
witness_before = refl

witness_to_nowhere : later (codes "WITNESS z z") ≡ 4
witness_to_nowhere = refl

witness_to_itself : later (codes "WITNESS b b") ≡ 5
witness_to_itself = refl

certificate_with_further_word : before (codes "CERTIFICATE a") ≡ 3
certificate_with_further_word = refl

certificate_before : before (codes "CERTIFICATE") ≡ 6
certificate_before = refl

-- The one router of a network and itself are two equal names.
lonely_cut : number_told (request_of (Some lonely) (codes "CUT a a")) ≡ 5
lonely_cut = refl

same_router : later (codes "CUT a a") ≡ 5
same_router = refl

-- The replies.
loaded : loaded_text 1 pair ≡ codes "@1 LOADED routers 2 links 1\n"
unfolding digits loaded_text
loaded = refl

cut_reply : cut_text 1 (codes "CUT") 5 names (true ∷ false ∷ []) ≡ codes "@1 CUT 5 side a\n"
unfolding digits cut_text
cut_reply = refl

both_named : cut_text 12 (codes "CUT") 340 names (true ∷ true ∷ []) ≡ codes "@12 CUT 340 side a b\n"
unfolding digits cut_text
both_named = refl

-- Two lines for the routers, one for the link, and END.
network : net_text 3 sheet ≡ codes "@3 NET 4\nrouter a\nrouter b\nlink a b 5\nEND\n"
unfolding digits net_text sheet_text
network = refl

-- Six routers with nine links.
six : SheetView
six = record {
  names = codes "r0" ∷ codes "r1" ∷ codes "r2" ∷ codes "r3" ∷ codes "r4" ∷ codes "r5" ∷ [];
  net = record {
    routers = 6;
    links = record { a = 0; b = 1; cap = 1 } ∷ record { a = 0; b = 2; cap = 7 } ∷ record { a = 1; b = 2; cap = 1 }
        ∷ record { a = 1; b = 3; cap = 3 } ∷ record { a = 1; b = 4; cap = 2 } ∷ record { a = 2; b = 4; cap = 4 }
        ∷ record { a = 3; b = 4; cap = 1 } ∷ record { a = 3; b = 5; cap = 6 } ∷ record { a = 4; b = 5; cap = 2 } ∷ [];
  };
}

routers : List ℕ
routers = 0 ∷ 1 ∷ 2 ∷ 3 ∷ 4 ∷ 5 ∷ []

-- Their tree, by commits in the order of their numbers, each with a least cut.
grown : TreeView
grown = record {
  net = six.net;
  history = record { router = 1; neighbour = 0; value = 6; side = false ∷ true ∷ false ∷ true ∷ true ∷ true ∷ [] }
      ∷ record { router = 2; neighbour = 0; value = 8; side = false ∷ true ∷ true ∷ true ∷ true ∷ true ∷ [] }
      ∷ record { router = 3; neighbour = 1; value = 6; side = false ∷ false ∷ false ∷ true ∷ false ∷ true ∷ [] }
      ∷ record { router = 4; neighbour = 1; value = 7; side = true ∷ false ∷ true ∷ false ∷ true ∷ false ∷ [] }
      ∷ record { router = 5; neighbour = 3; value = 8; side = false ∷ false ∷ false ∷ false ∷ false ∷ true ∷ [] }
      ∷ [];
}

-- The edges of the tree, in the order of their lower ends.
whole_tree : tree_text 1 six grown ≡ codes "@1 TREE 5\nr1 r4 7\nr2 r0 8\nr3 r1 6\nr4 r2 6\nr5 r3 8\n"
unfolding digits tree_text six grown tables up_after width_after is_terminal number_in root_of
whole_tree = refl

-- The commits name the routers above by then: the fourth one took the place of its neighbour.
whole_run : run_text 1 six grown ≡ codes "@1 RUN 5\nr1 r0 6\nr2 r0 8\nr3 r1 6\nr4 r1 7\nr5 r3 8\n"
unfolding digits run_text six grown
whole_run = refl

-- One router alone has no edge.
no_edge : tree_text 1 lonely (record { net = lonely.net; history = [] }) ≡ codes "@1 TREE 0\n"
unfolding digits tree_text tables is_terminal number_in root_of
no_edge = refl

no_commit : run_text 1 lonely (record { net = lonely.net; history = [] }) ≡ codes "@1 RUN 0\n"
unfolding digits run_text
no_commit = refl

-- The path of the first and the last router, by its lower ends in their order.
whole_path : path_text 1 six grown (2 ∷ 4 ∷ 1 ∷ 3 ∷ 5 ∷ [])
    ≡ codes "@1 PATH 5\nr2 r0 8\nr4 r2 6\nr1 r4 7\nr3 r1 6\nr5 r3 8\n"
unfolding digits path_text six grown tables up_after width_after root_of
whole_path = refl

-- Of its edges two have the smallest width. The one with the smaller number has these routers on the side of the first.
least_of_path : cut_text 1 (codes "CUT") (width_of grown 3) six.names (map (side_for 6 (up_of grown) 0 3) routers)
    ≡ codes "@1 CUT 6 side r0 r1 r2 r4\n"
unfolding digits cut_text six grown tables up_after width_after root_of some_up routers
least_of_path = refl

-- One edge alone is the path of its two ends.
one_edge : cut_text 1 (codes "CUT") (width_of grown 1) six.names (map (side_for 6 (up_of grown) 1 1) routers)
    ≡ codes "@1 CUT 7 side r1 r3 r5\n"
unfolding digits cut_text six grown tables up_after width_after root_of some_up routers
one_edge = refl

-- The weakest edge, with what is below it.
weakest_edge : cut_text 1 (codes "WEAKEST") (width_of grown 3) six.names (map (below 6 (up_of grown) 3) routers)
    ≡ codes "@1 WEAKEST 6 side r3 r5\n"
unfolding digits cut_text six grown tables up_after width_after root_of some_up routers
weakest_edge = refl

-- The line of a place of a text, counted from 0.
abbrev line_of : List ℕ → ℕ → List ℕ
line_of text place = slice_index_or (lines_in text) place []

-- Lines of these replies by their places: the first one tells how many follow.
path_lines_follow : line_of (path_text 1 six grown (2 ∷ 4 ∷ 1 ∷ 3 ∷ 5 ∷ [])) 0 ≡ codes "@1 PATH 5\n"
unfolding digits path_text six grown tables up_after width_after root_of
path_lines_follow = refl

third_edge : line_of (path_text 1 six grown (2 ∷ 4 ∷ 1 ∷ 3 ∷ 5 ∷ [])) 3 ≡ codes "r1 r4 7\n"
unfolding digits path_text six grown tables up_after width_after root_of
third_edge = refl

last_of_tree : line_of (tree_text 1 six grown) 5 ≡ codes "r5 r3 8\n"
unfolding digits tree_text six grown tables up_after width_after is_terminal number_in root_of
last_of_tree = refl

few_of_tree : length (lines_in (tree_text 1 six grown)) ≡ 6
unfolding digits tree_text six grown tables up_after width_after is_terminal number_in root_of
few_of_tree = refl

link_of_network : line_of (net_text 3 sheet) 3 ≡ codes "link a b 5\n"
unfolding digits net_text sheet_text
link_of_network = refl

end_of_network : line_of (net_text 3 sheet) 4 ≡ codes "END\n"
unfolding digits net_text sheet_text
end_of_network = refl

one_line_of_cut : lines_in (cut_text 1 (codes "CUT") 5 names (true ∷ false ∷ [])) ≡ codes "@1 CUT 5 side a\n" ∷ []
unfolding digits cut_text
one_line_of_cut = refl

-- Each request that tells of the whole is answered by its text alone.
asked_tree : IsReport 3 six grown Tree (tree_text 3 six grown)
asked_tree = refl

asked_run : IsReport 3 six grown Run (run_text 3 six grown)
asked_run = refl

asked_network : IsReport 3 six grown asks.Net (net_text 3 six)
asked_network = refl

head : head_text 10 (codes "NET") 4 ≡ codes "@10 NET 4\n"
unfolding digits
head = refl

farewell : bye_text 1 ≡ codes "@1 BYE\n"
unfolding digits bye_text
farewell = refl

refusal : refused_text 0 6 None ≡ codes "@0 NO 6\n"
unfolding digits refused_text
refusal = refl

-- That of a network text tells the line.
refused_line : refused_text 2 12 (Some 3) ≡ codes "@2 NO 12 line 3\n"
unfolding digits refused_text
refused_line = refl
