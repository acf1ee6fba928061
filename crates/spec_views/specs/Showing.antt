-- Which of the views of a history are shown, as a debugger's user thinks of it.
use Rattle.std.specs.Prelude.{◌≡◌, ◌≤◌, ℕ, ℤ, Bool, false, not, ◌&&◌, ◌||◌, ◌==◌, if◌then◌else◌, List, [], ◌∷◌, map, length, reverse, replicate}
use Rattle.std.specs.List.{list_any}
use Rattle.std.specs.Ordering.{int_eq}
use Rattle.muck_model.specs.declared.dbref.Dbref.{Dbref}
use Rattle.muck_model.specs.Bytes.{text_most}
use Rattle.muf_debug.specs.declared.places.Spot.{Spot}
use Rattle.muf_debug.specs.declared.view.View.{View}
use Rattle.muf_debug.specs.Printed.{view_printed}
use Rattle.muf_debug.specs.Shown.{Tracer, new_tracer, views_told}
use Rattle.spec_events.specs.World.{World}
use Rattle.spec_events.specs.Slices.{units_of}
use Rattle.spec_views.specs.Views.{views_of}

-- the unit is on this line of this program
abbrev pub is_on : Dbref → ℕ → View → Bool
is_on program line v = int_eq program.0 v.program.0 && line == v.line

-- a break names its program and line
abbrev pub has_break : List Spot → View → Bool
has_break breaks v = list_any (λ b. is_on b.program b.line v) breaks

-- The unit of the same process before it was on the same line of the same program. Given are the units that were seen, the last one first.
abbrev pub stays_on : List View → View → Bool
stays_on [] v = false
stays_on (u ∷ us) v = if int_eq v.pid u.pid then is_on u.program u.line v else stays_on us v

-- trace is on, or a break names its program and line, and it comes from elsewhere
abbrev pub is_shown : Bool → List Spot → List View → View → Bool
is_shown on breaks seen v = on || (has_break breaks v && not (stays_on seen v))

-- those of some views that are shown, behind those that were seen, the last one first
abbrev pub shown_behind : List View → Bool → List Spot → List View → List View
shown_behind seen on breaks [] = []
shown_behind seen on breaks (v ∷ vs) =
    if is_shown on breaks seen v then v ∷ shown_behind (v ∷ seen) on breaks vs else shown_behind (v ∷ seen) on breaks vs

-- The laws.

-- a tracer that was told of these units, whatever it showed of them, and shows so from now on
abbrev pub tracer_behind : List View → Bool → List Spot → Tracer
tracer_behind seen on breaks = record (views_told seen new_tracer) { on = on; breaks = breaks; kept = [] }

-- it keeps the lines of those that are shown, in their order
abbrev pub KeepsThose : List View → Bool → List Spot → List View → Type 0
KeepsThose seen on breaks vs = (views_told vs (tracer_behind seen on breaks)).kept ≡ map view_printed (shown_behind (reverse seen) on breaks vs)

-- a line is no longer than a text may be
abbrev pub IsCut : View → Type 0
IsCut v = length (view_printed v) ≤ text_most

-- each unit of a slice is seen once, and none is of another process
abbrev pub SeesEach : ℤ → World → Type 0
SeesEach pid w = map (λ (v : View). v.pid) (views_of pid w) ≡ replicate (length (units_of pid w)) pid
