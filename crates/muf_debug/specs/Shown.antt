-- What a tracer shows of views.
use Rattle.std.specs.Prelude.{◌≡◌, ◌⊎◌, ℕ, ℤ, Bool, true, false, not, ◌&&◌, ◌||◌, ◌==◌, nat_lt, if◌then◌else◌, List, [], ◌∷◌, ◌++◌, length}
use Rattle.std.specs.Option.{option_map_or}
use Rattle.std.specs.Ordering.{int_eq, int_cmp}
use Rattle.std.specs.List.{list_any, filter}
use Rattle.std.specs.FinMap as map
use Rattle.muf_debug.specs.declared.places.Spot.{Spot}
use Rattle.muf_debug.specs.declared.view.View.{View}
use Rattle.muf_debug.specs.Printed.{view_printed}
use Rattle.muf_debug.specs.Watching.{SeesAll}

-- the same line of the same program
abbrev pub same_spot : Spot → Spot → Bool
same_spot a b = int_eq b.program.0 a.program.0 && b.line == a.line

-- the line of the unit before, for each process that was seen, by its number
abbrev pub Lasts : Type 0
Lasts = map.FinMap int_cmp Spot

-- Whether all is shown; the lines with breaks; the lines that processes were at; the printed lines that are kept; and whether memory was wanted
-- for one.
pub record Tracer : Type 0 where
  pub on : Bool
  pub breaks : List Spot
  pub last : Lasts
  pub kept : List (List ℕ)
  pub refused : Bool

unfoldable pub new_tracer : Tracer
new_tracer = record { on = false; breaks = []; last = map.empty; kept = []; refused = false }

-- Breaks.

abbrev pub has_break : Spot → List Spot → Bool
has_break spot breaks = list_any (same_spot spot) breaks

-- one more may stand there: none does, and there is room
abbrev pub can_break : Spot → Tracer → Bool
can_break spot t = not (has_break spot t.breaks) && nat_lt (length t.breaks) 256

abbrev pub with_break : Spot → Tracer → Tracer
with_break spot t = if can_break spot t then record t { breaks = t.breaks ++ spot ∷ [] } else t

abbrev pub without_break : Spot → Tracer → Tracer
without_break spot t = record t { breaks = filter (λ other. not (same_spot spot other)) t.breaks }

-- What is shown.

abbrev pub was_at : ℤ → Spot → Lasts → Bool
was_at pid spot last = option_map_or (same_spot spot) (map.get last pid) false

-- all is, or the line has a break and the process comes from elsewhere
unfoldable pub is_unit_shown : ℤ → Spot → Tracer → Bool
is_unit_shown pid spot t = t.on || (has_break spot t.breaks && not (was_at pid spot t.last))

abbrev pub spot_of : View → Spot
spot_of v = record { program = v.program; line = v.line }

-- what it has kept once it was told of a view
abbrev pub lines_kept_with : View → Tracer → List (List ℕ)
lines_kept_with v t = if is_unit_shown v.pid (spot_of v) t then t.kept ++ view_printed v ∷ [] else t.kept

unfoldable pub view_told : View → Tracer → Tracer
view_told v t = record t { last = map.insert t.last v.pid (spot_of v); kept = lines_kept_with v t }

-- it is told so, or memory is wanted, now or before
abbrev pub TellsSo : Tracer → View → Tracer → Type 0
TellsSo t v u = (u.refused ≡ true) ⊎ ((t.refused ≡ false) × (u ≡ view_told v t))

-- views one behind the other
unfoldable pub views_told : List View → Tracer → Tracer
views_told [] t = t
views_told (v ∷ vs) t = views_told vs (view_told v t)

-- what it kept is handed out
abbrev pub handed_out : Tracer → Tracer
handed_out t = record t { kept = [] }

-- whatever it is told of, it keeps what is shown of that, or remembers that memory was wanted
abbrev pub KeepsShown : Type 0
KeepsShown = (vs : List View) (t u : Tracer) → SeesAll TellsSo vs t u → (u.refused ≡ true) ⊎ (u ≡ views_told vs t)
