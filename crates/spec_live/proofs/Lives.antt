-- Changes of the live world as paths: of the objects, and of the connections.
use Rattle.std.proofs.Common.{◌≡◌, ℕ, List, [], ◌∷◌, Option, Bool, true, false, cond, ap, subst, sym, refl, ◌∙◌}
use Rattle.std.specs.Prelude.{map}
use Rattle.muck_model.specs.declared.dbref.Dbref.{Dbref}
use Rattle.muck_model.specs.declared.tune.Tune.{Tune}
use Rattle.spec_live.specs.Objects.{Entry}
use Rattle.spec_live.specs.Saving.{Marked}
use Rattle.spec_live.specs.Output.{no_output}
use Rattle.spec_live.specs.Connections.{Connection, is_connection, changed_in, left_where}
use Rattle.spec_live.specs.Boards.{Board, on_connections, connection_opened, connection_closed, leaving_one, seated_one, tuned}
use Rattle.spec_live.specs.Lives.{Live, Change, unchanged}
use Rattle.spec_live.proofs.Keeping.{Keeps, Order, Path, one, goes, stays, along, path_order, keeps_more, keeps_unchanged}
use Rattle.spec_live.proofs.Steps.{Name, Begun, Shown, Heard, Came, Leaving, Seated, Tuned, May, Touch, sets, lines, makes, unties, vanishes, lists, dues, tells, resaves, begins, stills, Touches, Part, each, at, grows, Step, parts, settles, Walk}
use Rattle.spec_live.proofs.Entries.{NoFewer, fewer_order, fewer_walk}
use Rattle.spec_live.proofs.Marking.{marked_order, marked_walk}

-- What is the same of each connection is the same of all, where one of them is changed, or each.

pub viewed_one : {X : Type 0} (view : Connection → X) (d : ℕ) (f : Connection → Connection) → ((c : Connection) → view (f c) ≡ view c) → (cs : List Connection) → map view (changed_in d f cs) ≡ map view cs
viewed_one view d f keeps [] = refl
viewed_one view d f keeps (c ∷ cs) =
    elim (is_connection d c) as (λ b. map view (cond b (f c ∷ cs) (c ∷ changed_in d f cs)) ≡ map view (c ∷ cs)) [
      | true ↦ ap (λ x. x ∷ map view cs) (keeps c)
      | false ↦ ap (λ xs. view c ∷ xs) (viewed_one view d f keeps cs)
    ]

pub viewed_where : {X : Type 0} (view : Connection → X) (test : Connection → Bool) (f : Connection → Connection) → ((c : Connection) → view (f c) ≡ view c) → (cs : List Connection) → map view (map (λ c. cond (test c) (f c) c) cs) ≡ map view cs
viewed_where view test f keeps [] = refl
viewed_where view test f keeps (c ∷ cs) =
    elim (test c) as (λ b. view (cond b (f c) c) ∷ map view (map (λ c. cond (test c) (f c) c) cs) ≡ map view (c ∷ cs)) [
      | true ↦ ap (λ x. x ∷ map view (map (λ c. cond (test c) (f c) c) cs)) (keeps c) ∙ ap (λ xs. view c ∷ xs) (viewed_where view test f keeps cs)
      | false ↦ ap (λ xs. view c ∷ xs) (viewed_where view test f keeps cs)
    ]

-- a view of a view
pub viewed_again : {X Y : Type 0} (view : Connection → X) (g : X → Y) (cs ds : List Connection) → map view ds ≡ map view cs → map (λ c. g (view c)) ds ≡ map (λ c. g (view c)) cs
viewed_again view g cs ds e = sym (twice ds) ∙ ap (λ xs. map g xs) e ∙ twice cs
  where
    twice : (cs : List Connection) → map g (map view cs) ≡ map (λ c. g (view c)) cs
    twice [] = refl
    twice (c ∷ cs) = ap (λ ys. g (view c) ∷ ys) (twice cs)

-- a connection without what waits to be sent to it
abbrev pub mute : Connection → Connection
mute c = record c { output = no_output }

-- whose the connections are, and which are leaving
abbrev pub tie : Connection → ℕ × Option Dbref × Bool
tie c = (c.number, c.player, c.leaving)

abbrev pub ties : List Connection → List (ℕ × Option Dbref × Bool)
ties cs = map tie cs

-- Worlds that differ only in what is shown.
pub record Shows (w v : Live) : Type 0 where
  pub objects : v.objects ≡ w.objects
  pub connections : map mute v.board.connections ≡ map mute w.board.connections
  pub tune : v.board.tune ≡ w.board.tune

-- shows only
abbrev pub Quiet : Change → Type 0
Quiet f = Keeps Shows f

pub quiet_order : Order Shows
quiet_order = record {
  itself = λ w. record { objects = refl; connections = refl; tune = refl };
  both = λ u v w r s. record { objects = s.objects ∙ r.objects; connections = s.connections ∙ r.connections; tune = s.tune ∙ r.tune };
}

pub quiet_unchanged : Quiet unchanged
quiet_unchanged = keeps_unchanged quiet_order

-- Worlds that differ only in what connections have to say and what is edited there, too.
pub record Readies (w v : Live) : Type 0 where
  pub objects : v.objects ≡ w.objects
  pub ties : ties v.board.connections ≡ ties w.board.connections
  pub tune : v.board.tune ≡ w.board.tune

abbrev pub Loose : Change → Type 0
Loose f = Keeps Readies f

pub loose_order : Order Readies
loose_order = record {
  itself = λ w. record { objects = refl; ties = refl; tune = refl };
  both = λ u v w r s. record { objects = s.objects ∙ r.objects; ties = s.ties ∙ r.ties; tune = s.tune ∙ r.tune };
}

pub readies : (w v : Live) → Shows w v → Readies w v
readies w v s = record { objects = s.objects; ties = viewed_again mute tie w.board.connections v.board.connections s.connections; tune = s.tune }

pub loose_quiet : (f : Change) → Quiet f → Loose f
loose_quiet f q = keeps_more f readies q

pub data BoardStep (may : May) : Board → Board → Type 0 where
  opens : (d : ℕ) (greeting : List ℕ) (b : Board) → may Came ≡ true → BoardStep may b (connection_opened d greeting b)
  closes : (d : ℕ) (b : Board) → may Came ≡ true → BoardStep may b (connection_closed d b)
  leaves_one : (d : ℕ) (b : Board) → may Leaving ≡ true → BoardStep may b (leaving_one d b)
  leaves : (test : Connection → Bool) (b : Board) → may Leaving ≡ true → BoardStep may b (on_connections (left_where test) b)
  seats : (d : ℕ) (player : Dbref) (b : Board) → may Seated ≡ true → BoardStep may b (seated_one d player b)
  tunes : (tune : Tune) (b : Board) → may Tuned ≡ true → BoardStep may b (tuned tune b)

pub data LiveStep (may : May) : Live → Live → Type 0 where
  objects : (es : List Entry) (w : Live) → Step may w.objects es → LiveStep may w (record w { objects = es })
  board : (b : Board) (w : Live) → BoardStep may w.board b → LiveStep may w (record w { board = b })
  shows : (w v : Live) → may Shown ≡ true → Shows w v → LiveStep may w v
  hears : (w v : Live) → may Heard ≡ true → Readies w v → LiveStep may w v

abbrev pub Goes : May → Live → Live → Type 0
Goes may = Path (LiveStep may)

pub goes_order : (may : May) → Order (Goes may)
goes_order may = path_order (LiveStep may)

pub goes_objects : (may : May) (w : Live) (es : List Entry) → Walk may w.objects es → Goes may w (record w { objects = es })
goes_objects may w es p = lifted w.objects es p
  where
    lifted : (fs gs : List Entry) → Walk may fs gs → Goes may (record w { objects = fs }) (record w { objects = gs })
    lifted _ _ stays = stays
    lifted _ _ (goes {u} {v} {w = x} s p) = goes (objects v (record w { objects = u }) s) (lifted v x p)

-- a fact of the objects, along a path
abbrev OfObjects : (List Entry → List Entry → Type 0) → Live → Live → Type 0
OfObjects R u v = R u.objects v.objects

pub objects_along : {R : List Entry → List Entry → Type 0} (may : May) → Order R → ((es fs : List Entry) → Walk may es fs → R es fs) → (w v : Live) → Goes may w v → R w.objects v.objects
objects_along {R} may o law w v p = along order step w v p
  where
    order : Order (OfObjects R)
    order = record { itself = λ u. o.itself u.objects; both = λ t u v p q. o.both t.objects u.objects v.objects p q }

    step : (u v : Live) → LiveStep may u v → OfObjects R u v
    step _ _ (objects es w s) = law w.objects es (one s)
    step _ _ (board b w s) = o.itself w.objects
    step _ _ (shows w v m s) = subst (R w.objects) (sym s.objects) (o.itself w.objects)
    step _ _ (hears w v m s) = subst (R w.objects) (sym s.objects) (o.itself w.objects)

pub fewer_along : (may : May) (w v : Live) → Goes may w v → NoFewer w.objects v.objects
fewer_along may w v p = objects_along may fewer_order (fewer_walk may) w v p

pub marked_along : (may : May) → may Begun ≡ false → (w v : Live) → Goes may w v → Marked w.objects v.objects
marked_along may n w v p = objects_along may marked_order (marked_walk may n) w v p

-- What may touch more may go the same way.

module _ (m n : May) (up : (name : Name) → m name ≡ true → n name ≡ true) where
  wider_touch : (b : Bool) (e g : Entry) → Touch m b e g → Touches n b e g
  wider_touch b _ _ (sets c e h) = one (sets c e (up _ h))
  wider_touch b _ _ (lines ls e h) = one (lines ls e (up _ h))
  wider_touch b _ _ (makes o e h k l) = one (makes o e (up _ h) k l)
  wider_touch b _ _ (unties d e h) = one (unties d e (up _ h))
  wider_touch b _ _ (vanishes e h l) = one (vanishes e (up _ h) l)
  wider_touch b _ _ (lists cs xs e l) = one (lists cs xs e l)
  wider_touch b _ _ (dues e l) = one (dues e l)
  wider_touch b _ _ (tells e h) = one (tells e (up _ h))
  wider_touch b _ _ (resaves f e h s) = one (resaves f e (up _ h) s)
  wider_touch b _ _ (begins e h) = one (begins e (up _ h))
  wider_touch b _ _ (stills e h) = one (stills e (up _ h))

  wider_part : (b : Bool) (es fs : List Entry) → Part m b es fs → Path (Part n b) es fs
  wider_part b _ _ (each f es t) = one (each f es (λ e. along (path_order (Touch n b)) (wider_touch b) e (f e) (t e)))
  wider_part b _ _ (at i f es t) = one (at i f es (λ e h. along (path_order (Touch n b)) (wider_touch b) e (f e) (t e h)))
  wider_part b _ _ (grows es h) = one (grows es (up _ h))

  wider_step : (es fs : List Entry) → Step m es fs → Step n es fs
  wider_step _ _ (parts es fs p) = parts es fs (along (path_order (Part n false)) (wider_part false) es fs p)
  wider_step _ _ (settles es fs l p) = settles es fs (up _ l) (along (path_order (Part n true)) (wider_part true) es fs p)

  wider_board : (b c : Board) → BoardStep m b c → BoardStep n b c
  wider_board _ _ (opens d greeting b h) = opens d greeting b (up _ h)
  wider_board _ _ (closes d b h) = closes d b (up _ h)
  wider_board _ _ (leaves_one d b h) = leaves_one d b (up _ h)
  wider_board _ _ (leaves test b h) = leaves test b (up _ h)
  wider_board _ _ (seats d player b h) = seats d player b (up _ h)
  wider_board _ _ (tunes tune b h) = tunes tune b (up _ h)

  wider_live : (w v : Live) → LiveStep m w v → Goes n w v
  wider_live _ _ (objects es w s) = one (objects es w (wider_step w.objects es s))
  wider_live _ _ (board b w s) = one (board b w (wider_board w.board b s))
  wider_live _ _ (shows w v h s) = one (shows w v (up _ h) s)
  wider_live _ _ (hears w v h s) = one (hears w v (up _ h) s)

  pub wider : (w v : Live) → Goes m w v → Goes n w v
  wider w v p = along (goes_order n) wider_live w v p
