use Rattle.muck_machine.proofs.world.World.cut.Goals as goal

pub begin_dump-requires-clause-kept : goal.begin_dump-requires-clause-kept
begin_dump-requires-clause-kept c = λ on. c.requires.kept
