use Rattle.std.proofs.Common.{sym, ◌∙◌, ap, Option, ℕ, subst, length, false}
use Rattle.std.specs.List.{list_any}
use Rattle.spec_live.specs.Chain.{walk, Ends}
use Rattle.spec_live.specs.Objects.{is_player}
use Rattle.spec_live.proofs.Chains.{ends_within, ends_next, walk_shorter}
use Rattle.muck_db.specs.inner.Slots.{next_at, kind_at}
use Rattle.muck_db.proofs.Holding.{any_here, any_later, any_none, holds_is}
use Rattle.muck_db.proofs.setting.holds_player.Goals as goal

pub loop-at-init : goal.loop-at-init
loop-at-init c =
    let E : Option ℕ → Type 0 = λ o. Ends (length c.args.slots.now.items) (next_at c.args.slots.now.items) o in
    record {
      ends = subst E (sym c.first_of-at.ensures) (c.requires.order.ends false c.args.n);
      same = ap (λ (o : Option ℕ). list_any (λ x. is_player (kind_at c.args.slots.now.items x)) (walk (length c.args.slots.now.items) (next_at c.args.slots.now.items) o)) (sym c.first_of-at.ensures);
    }

pub next_of-at-requires : goal.next_of-at-requires
next_of-at-requires c = ends_within _ _ _ _ c.in-Some.is c.loop-at.invariant.ends

pub loop-at-smaller : goal.loop-at-smaller
loop-at-smaller c = walk_shorter _ _ _ _ _ c.in-Some.is c.next_of-at.ensures c.loop-at.invariant.ends

pub loop-at-preserved : goal.loop-at-preserved
loop-at-preserved c = record {
  ends = ends_next _ _ _ _ _ c.in-Some.is c.next_of-at.ensures c.loop-at.invariant.ends;
  same = c.loop-at.invariant.same ∙ any_later (λ x. is_player (kind_at c.args.slots.now.items x)) _ _ _ _ c.in-Some.x c.in-Some.is c.next_of-at.ensures c.loop-at.invariant.ends (sym c.is_player.ensures ∙ c.if-is_player.false);
}

pub returns-then-is_player : goal.returns-then-is_player
returns-then-is_player c = sym (holds_is c.args.slots.now.items c.args.n ∙ c.loop-at.invariant.same ∙ any_here (λ x. is_player (kind_at c.args.slots.now.items x)) _ _ _ c.in-Some.x c.in-Some.is c.loop-at.invariant.ends (sym c.is_player.ensures ∙ c.if-is_player.true))

pub returns : goal.returns
returns c = sym (holds_is c.args.slots.now.items c.args.n ∙ c.loop-at.invariant.same ∙ any_none (λ x. is_player (kind_at c.args.slots.now.items x)) _ _ _ c.in_default.is)
