use Rattle.muck_mirror.proofs.Starting.{sound_of}
use Rattle.muck_mirror.proofs.world.World.starting.Goals as goal

pub returns-clause-sound : goal.returns-clause-sound
returns-clause-sound c =
    sound_of c.new-objects.result.items c.push.new.self.items c.push-2.new.self.items c.in_ok-room_zero.field-0 c.in_ok-player_one.field-0 c.first.result
    c.new-objects.ensures.items c.in_ok-push.ensures.items c.in_ok-push-2.ensures.items c.in_ok-room_zero.ensures c.in_ok-player_one.ensures c.first.ensures
