-- How many lines a certificate has at most.
use Rattle.std.proofs.Common.{ℕ, ◌*◌, ◌≤◌, length, arith}
use Rattle.std.proofs.Math.Nat.{mul-le-mul_right}
use Rattle.certifier.proofs.Fronts.{length-front, length-routers_but}
use Rattle.certifier.specs.Blocks.{block_size, certificate_layout, layout_size}
use Rattle.cut_model.specs.Net.{IsInLimits, Net}
use Rattle.cut_model.specs.Terminals.{root_of}
use Rattle.network_text.specs.Sheets.{IsSheet, SheetView}

-- So many blocks have not too many lines,
blocks_small : (net : Net) → IsInLimits net → (n : ℕ) → n ≤ 1024 → n * block_size net ≤ 8389632
blocks_small net limits n few =
    let links : length net.links ≤ 8192 = limits.few_links in
    let more : n * block_size net ≤ 1024 * block_size net = mul-le-mul_right (block_size net) few in
    omega (arith, more, links)

-- and neither has a certificate.
pub certificate_small : (sheet : SheetView) → IsSheet sheet.names sheet.net
    → layout_size sheet.net (certificate_layout sheet) ≤ 9000000
certificate_small sheet is =
    let routers : sheet.net.routers ≤ 1024 = is.limits.few_routers in
    let links : length sheet.net.links ≤ 8192 = is.limits.few_links in
    let children = length-routers_but (root_of sheet.net) sheet.net.routers in
    let layout = certificate_layout sheet in
    let blocks = blocks_small sheet.net is.limits (length layout.children) (omega (arith, children, routers)) in
    omega (arith, blocks, length-front sheet is.numbered, routers, links)
