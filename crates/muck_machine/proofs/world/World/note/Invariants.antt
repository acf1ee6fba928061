use Rattle.std.proofs.Common.{length}
use Rattle.muck_machine.proofs.world.World.note.Given as goal

abbrev pub ghosts-note : goal.ghosts-note
ghosts-note g a = record {
  note = record {
    entries = length a.self.now.tale.entries;
    first_moment = g.D.Disk.moment a._first.now;
    second_moment = g.D.Disk.moment a._second.now;
    first_faults = g.D.Disk.faults a._first.now;
    second_faults = g.D.Disk.faults a._second.now;
  };
}
