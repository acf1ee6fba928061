-- The lemmas by which a command is seen to keep to the licence.
use Rattle.spec_rights.proofs.Shown.{shown}
use Rattle.spec_rights.proofs.Licences.{stays_quiet, stays_followed, stays_behind, stays_asked, ends_stays, ends_quiet, ends_followed, ends_quietly, ends_asked, whole_quiet, whole_followed, whole_quietly}
use Rattle.spec_rights.proofs.Changes.{stays_named, stays_linked, stays_stored, stays_unstored, stays_set, stays_unset, stays_lines, stays_password, ends_owned, ends_leveled, ends_flag_set, ends_flag_cleared}
use Rattle.spec_rights.proofs.Places.{stays_free, stays_moved, ends_homed, ends_unhomed}
use Rattle.spec_rights.proofs.Behind.{trailing_order, trailing_quiet, trailing_password}
use Rattle.spec_rights.proofs.Leaving.{whole_leave, stays_left, stays_booted}

-- what changes no right
pub ruleset staying = (shown, stays_quiet, stays_followed, stays_asked, stays_named, stays_linked, stays_stored, stays_unstored, stays_set, stays_unset, stays_lines, stays_password, stays_free, stays_moved, stays_left, stays_booted)

-- what may end with a change of rights, behind which only what shows may come
pub ruleset ending = (staying, ends_quiet, ends_asked, ends_followed, ends_quietly, ends_stays, ends_owned, ends_leveled, ends_flag_set, ends_flag_cleared, ends_homed, ends_unhomed)

-- whole commands, of which what is judged at their start has a law of its own
pub ruleset commanding = (shown, whole_quiet, whole_followed, whole_quietly, whole_leave)

-- what wizards do, who may draw a salt before what they were given leave for
pub ruleset mastering = (ending, stays_behind)

-- what comes behind something new
pub ruleset trailing = (shown, trailing_order, trailing_quiet, trailing_password)
