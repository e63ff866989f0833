use Rattle.std.proofs.Common.{◌≡◌, ◌<◌, [], length, take, ap, ◌∙◌, arith, take_all}
use Rattle.cut_model.specs.Net.{Net}
use Rattle.network_text.specs.Writing.{router_text}
use Rattle.network_text.proofs.PutLines.{puts_more, puts_stopped}
use Rattle.network_text.proofs.write.write_routers.Goals as goal

pub loop-router-preserved : goal.loop-router-preserved
loop-router-preserved g c =
    let names = c.args.sheet.now.names in
    let i = c.loop-router.router in
    let routers : c.routers-router-end.result ≡ c.args.sheet.now.net.routers =
    c.routers-router-end.ensures.value ∙ ap (λ (net : Net). net.routers) (c.deref.ensures ∙ c.net.ensures.value) in
    let numbered = c.net.ensures.sheet.numbered in
    let within : i < length names = omega arith in
    puts_more router_text names i [] within c.loop-router.invariant c.in_ok-write_router.ensures.puts

pub returns : goal.returns
returns g c =
    let names = c.args.sheet.now.names in
    let routers : c.routers-router-end.result ≡ c.args.sheet.now.net.routers =
    c.routers-router-end.ensures.value ∙ ap (λ (net : Net). net.routers) (c.deref.ensures ∙ c.net.ensures.value) in
    let numbered = c.net.ensures.sheet.numbered in
    let whole : take c.loop-router.router names ≡ names = take_all _ _ (omega arith) in
    record { puts = rw whole at c.loop-router.invariant; sheet = c.net.ensures.sheet }

pub returns-in_err-write_router : goal.returns-in_err-write_router
returns-in_err-write_router g c =
    let names = c.args.sheet.now.names in
    let i = c.loop-router.router in
    let routers : c.routers-router-end.result ≡ c.args.sheet.now.net.routers =
    c.routers-router-end.ensures.value ∙ ap (λ (net : Net). net.routers) (c.deref.ensures ∙ c.net.ensures.value) in
    let numbered = c.net.ensures.sheet.numbered in
    let within : i < length names = omega arith in
    let end = c.from_residual in
    record {
      puts = puts_stopped {e = c.in_err-write_router.field-0.0} router_text names i [] within c.loop-router.invariant
          c.in_err-write_router.ensures.puts end.result end.ensures.0;
      sheet = c.net.ensures.sheet;
    }
