use Rattle.std.proofs.Common.{refl, arith}
use Rattle.std.proofs.lemmas.List.{nil_from_length}
use Rattle.muck_mirror.proofs.Undoing.{one_back, none_back, all_back}
use Rattle.muck_mirror.proofs.world.put_back.Goals as goal

pub loop-one-preserved-then-at-len : goal.loop-one-preserved-then-at-len
loop-one-preserved-then-at-len c = one_back c.loop-one.left.items c.pop.new.self.items c.in-Some.one c.loop-one.objects.items _ _ c.in-Some.ensures.items refl c.loop-one.invariant

pub loop-one-preserved : goal.loop-one-preserved
loop-one-preserved c = none_back c.loop-one.left.items c.pop.new.self.items c.in-Some.one c.loop-one.objects.items _ c.in-Some.ensures.items (omega (arith, c.if-at-len.false, c.len.ensures)) c.loop-one.invariant

pub returns : goal.returns
returns c = all_back c.loop-one.left.items c.loop-one.objects.items _ (nil_from_length c.loop-one.left.items (omega (arith, c.in_default.ensures.cases))) c.loop-one.invariant
