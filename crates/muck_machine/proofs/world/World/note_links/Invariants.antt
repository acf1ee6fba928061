use Rattle.std.proofs.Common.{length}
use Rattle.spec_talks.specs.Counts.{counts}
use Rattle.muck_machine.proofs.world.World.note_links.Given as goal

abbrev pub ghosts-note_links : goal.ghosts-note_links
ghosts-note_links g a = record { counted = record { entries = length a.self.now.tale.entries; counts = counts (g.L.Links.told a._links.now).sessions } }
