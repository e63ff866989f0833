use Rattle.std.proofs.Common.{◌++◌, codes, map}
use Rattle.std.specs.List.{concat}
use Rattle.network_text.specs.Writing.{link_text, router_text, sheet_text}
use Rattle.network_text.proofs.Rereading.{verdict_in-sheet_text}
use Rattle.wires.proofs.Puts.{puts_then, puts_failed}
use Rattle.network_text.proofs.write.write_sheet.Goals as goal

pub returns : goal.returns
unfolding sheet_text
returns g c =
    let sheet = c.args.sheet.now in
    let routers = concat (map router_text sheet.names) in
    let links = concat (map (link_text sheet.names) sheet.net.links) in
    record {
      puts = puts_then routers (links ++ codes "END\n") c.in_ok-write_routers.ensures.puts
          (puts_then links (codes "END\n") c.in_ok-write_links.ensures.puts c.put_pieces.ensures.puts);
      same_sheet = verdict_in-sheet_text sheet c.write_routers.ensures.sheet;
    }

pub returns-in_err-write_routers : goal.returns-in_err-write_routers
unfolding sheet_text
returns-in_err-write_routers g c =
    let sheet = c.args.sheet.now in
    let routers = concat (map router_text sheet.names) in
    let links = concat (map (link_text sheet.names) sheet.net.links) in
    let end = c.from_residual in
    record {
      puts = puts_failed routers (links ++ codes "END\n") end.result end.ensures.0 c.in_err-write_routers.ensures.puts;
      same_sheet = verdict_in-sheet_text sheet c.write_routers.ensures.sheet;
    }

pub returns-in_err-write_links : goal.returns-in_err-write_links
unfolding sheet_text
returns-in_err-write_links g c =
    let sheet = c.args.sheet.now in
    let routers = concat (map router_text sheet.names) in
    let links = concat (map (link_text sheet.names) sheet.net.links) in
    let end = c.from_residual-in_err-write_links in
    record {
      puts = puts_then routers (links ++ codes "END\n") c.in_ok-write_routers.ensures.puts
          (puts_failed links (codes "END\n") end.result end.ensures.0 c.in_err-write_links.ensures.puts);
      same_sheet = verdict_in-sheet_text sheet c.write_routers.ensures.sheet;
    }
