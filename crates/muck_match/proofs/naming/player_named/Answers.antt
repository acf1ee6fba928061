use Rattle.std.proofs.Common.{sym, ◌∙◌}
use Rattle.muck_match.proofs.Candidates.{find_later, find_all}
use Rattle.muck_match.proofs.naming.player_named.Goals as goal

pub loop-n-init : goal.loop-n-init
loop-n-init g c = find_all _ _ _ c.objects-count.ensures.value

pub loop-n-preserved : goal.loop-n-preserved
loop-n-preserved g c = find_later _ _ _ _ _ c.loop-n-test.true c.numbered-d.ensures (sym c.is_player_named.ensures ∙ c.if-is_player_named.false) c.loop-n.invariant
