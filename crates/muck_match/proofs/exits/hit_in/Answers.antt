use Rattle.std.proofs.Common.{sym, ◌∙◌, ap, Some, arith}
use Rattle.muck_match.specs.Exits.{first_item}
use Rattle.muck_match.proofs.Aliases.{hits_all, part_taken, part_passed, last_yes, last_no}
use Rattle.muck_match.proofs.exits.hit_in.Goals as goal

pub loop-end-init : goal.loop-end-init
loop-end-init c = record { places = omega arith; hits = ap first_item (hits_all _ _ _ _) }

pub returns-then-takes : goal.returns-then-takes
returns-then-takes c = part_taken _ _ _ _ _ _ _ _ _ (sym c.byte_at.ensures ∙ c.in-Some.is) c.split_at.ensures.front (sym c.takes.ensures ∙ c.if-takes.true) c.hit_of.ensures c.loop-end.invariant.hits

pub loop-end-preserved : goal.loop-end-preserved
loop-end-preserved c = record {
  places = omega (arith, c.loop-end.invariant.places, c.split_at-in-Some.ensures.back_len);
  hits = part_passed _ _ _ _ _ _ _ _ _ (sym c.byte_at.ensures ∙ c.in-Some.is) c.split_at.ensures.front c.split_at-in-Some.ensures.back (sym c.takes.ensures ∙ c.if-takes.false) c.loop-end.invariant.hits;
}

pub returns-then-takes-2 : goal.returns-then-takes-2
returns-then-takes-2 c =
    ap (λ z. Some z) c.hit_of-then-takes-2.ensures ∙ sym (last_yes _ _ _ _ _ (sym c.byte_at.ensures ∙ c.in_default.is) (sym c.takes-2.ensures ∙ c.if-takes-2.true)) ∙ c.loop-end.invariant.hits

pub returns : goal.returns
returns c = sym (last_no _ _ _ _ _ (sym c.byte_at.ensures ∙ c.in_default.is) (sym c.takes-2.ensures ∙ c.if-takes-2.false)) ∙ c.loop-end.invariant.hits
