use Rattle.muck_log.proofs.Spellings.{both_stored}
use Rattle.muck_log.proofs.kept.Kept.starting.Goals as goal

pub invariant_of-result : goal.invariant_of-result
invariant_of-result c =
    both_stored c.new-objects.result.items c.push.new.self.items c.push-2.new.self.items c.in_ok-room_zero.field-0 c.in_ok-player_one.field-0 c.new-objects.ensures.items c.in_ok-push.ensures.items c.in_ok-push-2.ensures.items c.in_ok-room_zero.ensures c.in_ok-player_one.ensures
