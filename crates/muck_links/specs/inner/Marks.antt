-- What befalls a session in memory.
use Rattle.std.specs.Prelude.{ℕ, List}
use Rattle.muck_links.specs.Sessions.{Session, with_read, with_written, with_end, with_fault, shut}
use Rattle.muck_links.specs.declared.session.Mark.{Mark}
use Rattle.muck_links.specs.declared.session.Mark.TheVariants.{Ended, Failed, Closed}
use Rattle.muck_links.specs.declared.session.Way.{Way}
use Rattle.muck_links.specs.declared.session.Way.TheVariants.{Read, Written}

abbrev pub marked : Mark → Session → Session
marked Ended = with_end
marked Failed = with_fault
marked Closed = shut

abbrev pub carried : Way → List ℕ → Session → Session
carried Read = with_read
carried Written = with_written
