-- Recycling an object.
use Rattle.std.specs.Prelude.{ℕ, ◌==◌, Bool, false, not, ◌&&◌, ◌||◌, if◌then◌else◌, List, [], ◌∷◌, map, Option, Some, None, Result}
use Rattle.std.specs.Option.{option_map_or, option_and_then}
use Rattle.muck_model.specs.declared.dbref.Dbref.{Dbref}
use Rattle.muck_model.specs.declared.dbref.Kind.{Kind}
use Rattle.muck_model.specs.declared.dbref.Kind.TheVariants.{Thing, Player, Program}
use Rattle.spec_live.specs.declared.object.Object.{Object}
use Rattle.spec_live.specs.declared.mark.Mark.TheVariants.{Gone}
use Rattle.spec_live.specs.declared.saving.Saving.TheVariants.{Due}
use Rattle.spec_live.specs.declared.fault.DbFault.{DbFault}
use Rattle.spec_live.specs.Chain.{has}
use Rattle.spec_live.specs.Objects.{Entry, dbref_of, nothing, same, is_exit, is_player, kind_in, owner_in, home_in, fits_in, places_from, list_in, changed_at, garbage}
use Rattle.spec_live.specs.Moving.{left_out, moved}
use Rattle.spec_live.specs.Saving.{relinked}
use Rattle.spec_live.specs.Setting.{checked}

-- a home in d becomes `#0`, and a link to d nothing
abbrev pub without_ties : ℕ → Object → Object
without_ties d o = record o {
  home = if same o.home (dbref_of d) then dbref_of 0 else o.home;
  link = if same o.link (dbref_of d) then nothing else o.link;
}

abbrev pub is_tied_to_number : ℕ → Object → Bool
is_tied_to_number d o = same o.home (dbref_of d) || same o.link (dbref_of d)

abbrev pub untie : ℕ → Entry → Entry
untie d e = record e { object = without_ties d e.object; saving = if is_tied_to_number d e.object then Due else e.saving }

-- no object has its home in d or a link to it
unfoldable pub untied : ℕ → List Entry → List Entry
untied d es = map (untie d) es

-- where an object goes that is sent home, if it may: a program to its owner's home, a thing or a player to its own
unfoldable pub wished_home : ℕ → List Entry → Kind → Option ℕ
wished_home x es Program = option_and_then (home_in es) (owner_in es x)
wished_home x es Thing = home_in es x
wished_home x es Player = home_in es x
wished_home x es kind = None

-- x may go there, which isn't inside it
unfoldable pub may_go : ℕ → ℕ → List Entry → Bool
may_go x to es = fits_in es x to && not (has x (places_from es to))

-- its home, or `#0` where it has none or may not be there
unfoldable pub way_home : ℕ → List Entry → ℕ
way_home x es = option_map_or (λ to. if may_go x to es then to else 0) (wished_home x es (kind_in es x)) 0

-- these go home, one after the other
unfoldable pub sent_home : List ℕ → List Entry → List Entry
sent_home [] es = es
sent_home (x ∷ xs) es = sent_home xs (moved x (way_home x es) es)

-- what is left of an object, of which is to be told
unfoldable pub gone_entry : Entry → Entry
gone_entry e = record { object = garbage; contents = []; exits = []; mark = Some Gone; saving = Due; stood = e.stood }

-- an exit of d
abbrev pub is_exit_of : ℕ → Object → Bool
is_exit_of d o = is_exit o.kind && same o.place (dbref_of d)

abbrev pub exit_gone : ℕ → Entry → Entry
exit_gone d e = if is_exit_of d e.object then gone_entry e else e

abbrev pub without_exits : Entry → Entry
without_exits e = record e { exits = [] }

-- the exits of d become garbage
unfoldable pub exits_gone : ℕ → List Entry → List Entry
exits_gone d es = changed_at d without_exits (map (exit_gone d) es)

-- d leaves its list and becomes garbage
unfoldable pub vanished : ℕ → List Entry → List Entry
vanished d es = changed_at d gone_entry (map (left_out d) es)

unfoldable pub taken_away : ℕ → List Entry → List Entry
taken_away d es = relinked es (vanished d (exits_gone d es))

-- Homes in d become `#0` and links to it nothing; its contents go home in the order of their list; its exits become
-- garbage; and then so does it.
unfoldable pub recycled : ℕ → List Entry → List Entry
recycled d es = taken_away d (sent_home (list_in false es d) (untied d es))

-- Room Zero and players stay
unfoldable pub recycle_check : Dbref → List Entry → Result ℕ DbFault
recycle_check d es = checked (λ n. not (n == 0 || is_player (kind_in es n))) d es
