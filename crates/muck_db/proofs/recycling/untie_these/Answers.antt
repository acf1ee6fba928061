use Rattle.std.proofs.lemmas.Bool.{false≢true}
use Rattle.muck_laws.proofs.Lists.{none_left}
use Rattle.muck_db.proofs.Tying.{unties_none, unties_more, unties_all}
use Rattle.muck_db.proofs.recycling.untie_these.Goals as goal

pub loop-k-init : goal.loop-k-init
loop-k-init c = unties_none c.args.d c.args.slots.now.items _ c.requires.noted

pub loop-k-preserved : goal.loop-k-preserved
loop-k-preserved c = unties_more c.args.d c.in-Some.k _ _ _ _ _ c.requires.lower c.in-Some.ensures.removal c.untie_known.ensures.items c.loop-k.invariant

pub returns : goal.returns
returns c = unties_all c.args.d _ _ c.loop-k.numbers.keys (none_left c.loop-k.numbers.keys (λ lt. false≢true (c.in_default.ensures.variant.1 lt))) c.loop-k.invariant
