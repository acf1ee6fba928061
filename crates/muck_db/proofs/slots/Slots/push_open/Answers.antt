use Rattle.std.proofs.Common.{◌≡◌, ◌++◌, ◌∷◌, [], ℕ, List, sym, ◌∙◌, ap, subst, length, ◌/◌}
use Rattle.std.specs.List.{slice_set}
use Rattle.muck_db.specs.declared.slot.Slot.{Slot}
use Rattle.muck_db.specs.declared.blocks.Block.{Block}
use Rattle.muck_db.specs.inner.Blocks.{IsCovered, full}
use Rattle.muck_db.specs.inner.Moves.{AreNoted}
use Rattle.muck_db.proofs.Blocked.{covered_by, pushed, flagged_full}
use Rattle.muck_db.proofs.Moved.{kept_as, pushed_as}
use Rattle.muck_db.proofs.Heard.{heard_same, heard_grown}
use Rattle.muck_db.proofs.slots.Slots.push_open.Goals as goal

pub invariant_of-self : goal.invariant_of-self
invariant_of-self c =
    let blocks : List Block = c.self.inside.blocks.items in
    let N : List Slot → Type 0 = λ z. AreNoted c.written-self-inside.result z in (
      covered_by _ _ (slice_set blocks (c.len.result / 16) full) _ (sym c.in_err-push.ensures.items) (sym (c.put_block.ensures ∙ ap (λ (b : Block). slice_set blocks (c.len.result / 16) b) c.full.ensures))
          (flagged_full c.self.inside.table.items blocks (c.len.result / 16) c.self.invariant.0),
      subst N (sym c.in_err-push.ensures.items) (kept_as c.looked_at.result c.written-self-inside.result c.self.inside.table.items _ c.written-self-inside.ensures (c.looked_at.ensures c.self.invariant.1)),
      heard_same _ _ _ c.in_err-push.ensures.items c.write.ensures.heard,
    )

pub invariant_of-self-2 : goal.invariant_of-self-2
invariant_of-self-2 c =
    let blocks : List Block = c.self.inside.blocks.items in
    let table : List Slot = c.self.inside.table.items in
    let many : c.len.result ≡ length table = c.len.ensures ∙ c.self.inside.table.ok.0 in
    let P : ℕ → Type 0 = λ n. IsCovered (table ++ c.args.slot ∷ []) (slice_set blocks (n / 16) full) in
    let N : List Slot → Type 0 = λ z. AreNoted c.written-self-inside.result z in (
      covered_by _ _ (slice_set blocks (c.len.result / 16) full) _ (sym c.in_ok-push.ensures.items) (sym (c.put_block.ensures ∙ ap (λ (b : Block). slice_set blocks (c.len.result / 16) b) c.full.ensures))
          (subst P (sym many) (pushed table blocks c.args.slot c.self.invariant.0)),
      subst N (sym c.in_ok-push.ensures.items) (pushed_as c.looked_at.result c.written-self-inside.result table _ c.args.slot c.written-self-inside.ensures (c.len-2.ensures ∙ c.self.inside.table.ok.0) (c.looked_at.ensures c.self.invariant.1)),
      heard_grown _ table _ _ c.args.slot c.in_ok-push.ensures.items c.write.ensures.last (c.len-3.ensures ∙ c.self.inside.table.ok.0) c.write.ensures.heard,
    )
