use Rattle.std.proofs.Common.{◌≡◌, ◌≤◌, ◌<◌, length, rules, arith, ap, ◌∙◌, to_z, w32}
use Rattle.std.proofs.lemmas.Int.{to_z_pos}
use Rattle.muf_model.specs.Datum.{int}
use Rattle.prim_text.proofs.Parts.{counted}
use Rattle.prim_text.proofs.rows.exploded.Goals as goal

pub returns : goal.returns
returns c =
    let count : c.len.result ≡ length c.in_ok-items.items.items = search (rules, c.len.ensures) in
    let small : c.len.result < 2147483648 = omega (arith, count, c.in_ok-items.ensures.most, c.requires.short) in
    counted _ _ _ _ c.len.result c.in_ok-items.ensures.value count (ap int (to_z_pos w32 c.len.result small)) c.in_ok-insert.ensures.items
