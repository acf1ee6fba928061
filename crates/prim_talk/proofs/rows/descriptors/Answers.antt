use Rattle.std.proofs.Common.{rules, ◌≡◌, map, filter, Some, Ok, refl, sym, subst}
use Rattle.spec_live.specs.Connections.{is_connection_of}
use Rattle.muf_frame.specs.inner.Answers.{object_at}
use Rattle.muf_frame.specs.inner.Shown.{flat}
use Rattle.muck_perm.specs.inner.Guards.{world_of}
use Rattle.spec_prims.specs.Talk.{items_with_count, number_item}
use Rattle.muck_perm.proofs.Worlds.{kept_itself}
use Rattle.prim_common.specs.inner.Applied.{Makes, items_of}
use Rattle.prim_talk.proofs.Giving.{descriptors_of}
use Rattle.prim_talk.proofs.rows.descriptors.Goals as goal

pub returns : goal.returns
returns c =
    let g = c.args.guard.now in
    let made = c.in_ok-numbers_counted.field-0 in
    let seen : object_at 0 (flat c.args.frame.now).stack ≡ Some c.in-Some.player.0 = search rules in
    let items : items_of made ≡ items_with_count (map number_item (filter (is_connection_of c.in-Some.player) g.board.now.connections)) = search rules in
    subst (λ row. Makes row g g (Ok made)) (sym (descriptors_of g.actor (flat c.args.frame.now).stack (world_of g) c.in-Some.player (items_of made) seen items)) (refl, refl, kept_itself g)
