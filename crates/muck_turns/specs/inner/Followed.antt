-- What follows from a change, as it is told.
use Rattle.spec_live.specs.declared.mark.Mark.TheVariants.{Lines, Gone}
use Rattle.spec_live.specs.declared.mark.Changed.{Changed}
use Rattle.spec_live.specs.declared.mark.Changed.TheVariants.{Lines as ChangedLines, Gone as ChangedGone}
use Rattle.spec_events.specs.World.{World}
use Rattle.spec_events.specs.Following.{mark_followed}

abbrev pub followed_change : Changed → World → World
followed_change (ChangedLines d) w = mark_followed Lines d w
followed_change (ChangedGone d) w = mark_followed Gone d w
