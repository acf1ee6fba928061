-- Changes that keep the numbers of the connections, and among them those that change no object and nothing that is tuned.
use Rattle.std.proofs.Common.{◌≡◌, ℕ, ◌<◌, Bool, true, false, cond, List, [], ◌∷◌, refl, ◌∙◌, ap, subst, Option, inl, inr}
use Rattle.std.specs.Prelude.{map, ◌==◌}
use Rattle.muck_model.specs.declared.dbref.Dbref.{Dbref}
use Rattle.spec_live.specs.Objects.{Entry}
use Rattle.spec_mpi.specs.Touching.{without_props, TouchesNotes}
use Rattle.spec_live.specs.Connections.{Connection, is_connection, changed_in, left, player_seated}
use Rattle.spec_live.specs.Boards.{on_connection, leaving_one, seated_one}
use Rattle.spec_live.proofs.Keeping.{Keeps, Order, stays, one, join, keeps_more}
use Rattle.spec_live.proofs.Lives.{Goes, board, shows, leaves_one, seats, mute, readies, viewed_one, viewed_again}
use Rattle.spec_live.specs.Lives.{Live, Change, on_board, leave, enter}
use Rattle.spec_rights.specs.declared.act.Actor.{Actor}
use Rattle.spec_rights.specs.Licence.{Open, SameTies, LeaversLicensed}
use Rattle.spec_rights.proofs.Walking.{acts}
use Rattle.spec_rights.proofs.Licences.{Quiet, open_both, tie, ties}
use Rattle.spec_commands.specs.inner.Rising.{IsAbove, IsRising}

unfoldable pub numbers : List Connection → List ℕ
numbers cs = map (λ c. c.number) cs

-- Numbers alone decide what rises.

above_by : (n : ℕ) (cs ds : List Connection) → numbers ds ≡ numbers cs → IsAbove n cs → IsAbove n ds
unfolding numbers
above_by n [] [] e h = tt
above_by n [] (d ∷ ds) e h = absurd cc
above_by n (c ∷ cs) [] e h = tt
above_by n (c ∷ cs) (d ∷ ds) e h =
    let P : ℕ → Type 0 = λ k. n < k in
    let same : c.number ≡ d.number = cc in
    let rest : numbers ds ≡ numbers cs = cc in
    (subst P same h.0, above_by n cs ds rest h.1)

pub rising_by : (cs ds : List Connection) → numbers ds ≡ numbers cs → IsRising cs → IsRising ds
unfolding numbers
rising_by [] [] e h = tt
rising_by [] (d ∷ ds) e h = absurd cc
rising_by (c ∷ cs) [] e h = tt
rising_by (c ∷ cs) (d ∷ ds) e h =
    let P : ℕ → Type 0 = λ k. IsAbove k ds in
    let same : c.number ≡ d.number = cc in
    let rest : numbers ds ≡ numbers cs = cc in
    (subst P same (above_by c.number cs ds rest h.0), rising_by cs ds rest h.1)

pub numbers-changed_in : (d : ℕ) (f : Connection → Connection) → ((c : Connection) → (f c).number ≡ c.number) → (cs : List Connection) → numbers (changed_in d f cs) ≡ numbers cs
unfolding numbers
numbers-changed_in d f keeps cs = viewed_one (λ c. c.number) d f keeps cs

-- connections that are tied alike have the same numbers
pub numbers-ties : (cs ds : List Connection) → ties ds ≡ ties cs → numbers ds ≡ numbers cs
unfolding numbers
numbers-ties [] [] e = refl
numbers-ties [] (d ∷ ds) e = absurd cc
numbers-ties (c ∷ cs) [] e = absurd cc
numbers-ties (c ∷ cs) (d ∷ ds) e =
    let head : tie d ≡ tie c = cc in
    let rest : ties ds ≡ ties cs = cc in
    ap (λ (t : ℕ × Option Dbref × Bool). t.0 ∷ numbers ds) head ∙ ap (λ ns. c.number ∷ ns) (numbers-ties cs ds rest)

pub numbers-same_ties : (a : Actor) (cs ds : List Connection) → SameTies a cs ds → numbers ds ≡ numbers cs
unfolding numbers
numbers-same_ties a [] [] t = refl
numbers-same_ties a [] (d ∷ ds) t = absurd t
numbers-same_ties a (c ∷ cs) [] t = absurd t
numbers-same_ties a (c ∷ cs) (d ∷ ds) t = ap (λ n. n ∷ numbers ds) t.0 ∙ ap (λ ns. c.number ∷ ns) (numbers-same_ties a cs ds t.3)

-- Leaving.

pub leavers_ties : (may : Connection → Bool) (cs ds : List Connection) → ties ds ≡ ties cs → LeaversLicensed may cs ds
leavers_ties may [] [] e = tt
leavers_ties may [] (d ∷ ds) e = absurd cc
leavers_ties may (c ∷ cs) [] e = absurd cc
leavers_ties may (c ∷ cs) (d ∷ ds) e =
    let head : tie d ≡ tie c = cc in
    let rest : ties ds ≡ ties cs = cc in
    (ap (λ (t : ℕ × Option Dbref × Bool). t.0) head, inl (ap (λ (t : ℕ × Option Dbref × Bool). t.2) head), leavers_ties may cs ds rest)

pub leavers_both : (n : ℕ) (cs ds es : List Connection) → LeaversLicensed (is_connection n) cs ds → LeaversLicensed (is_connection n) ds es → LeaversLicensed (is_connection n) cs es
leavers_both n [] [] [] r s = tt
leavers_both n [] [] (e ∷ es) r s = absurd s
leavers_both n [] (d ∷ ds) es r s = absurd r
leavers_both n (c ∷ cs) [] es r s = absurd r
leavers_both n (c ∷ cs) (d ∷ ds) [] r s = absurd s
leavers_both n (c ∷ cs) (d ∷ ds) (e ∷ es) r s =
    let P : ℕ → Type 0 = λ k. Open (λ (leaving : Bool). k == n) d.leaving e.leaving in
    (s.0 ∙ r.0, open_both (λ leaving. is_connection n c) c.leaving d.leaving e.leaving r.1 (subst P r.0 s.1), leavers_both n cs ds es r.2 s.2)

leavers_changed_in : (d : ℕ) (f : Connection → Connection) → ((c : Connection) → (f c).number ≡ c.number) → (cs : List Connection) → LeaversLicensed (is_connection d) cs (changed_in d f cs)
leavers_changed_in d f keeps [] = tt
leavers_changed_in d f keeps (c ∷ cs) = at (is_connection d c) refl (leavers_changed_in d f keeps cs)
  where
    at : (b : Bool) → is_connection d c ≡ b → LeaversLicensed (is_connection d) cs (changed_in d f cs) → LeaversLicensed (is_connection d) (c ∷ cs) (cond b (f c ∷ cs) (c ∷ changed_in d f cs))
    at true e h = (keeps c, inr e, leavers_ties (is_connection d) cs cs refl)
    at false e h = (refl, inl refl, h)

-- Worlds of which only properties and the connections differ, which keep their numbers, and of which only d may begin to leave; what
-- changed is due for the next dump.
pub record Seats (d : ℕ) (w v : Live) : Type 0 where
  pub objects : map without_props v.objects ≡ map without_props w.objects
  pub goes : Goes acts w v
  pub tune : v.board.tune ≡ w.board.tune
  pub numbers : numbers v.board.connections ≡ numbers w.board.connections
  pub leavers : LeaversLicensed (is_connection d) w.board.connections v.board.connections

abbrev pub Seating : ℕ → Change → Type 0
Seating d f = Keeps (Seats d) f

pub seating_order : (d : ℕ) → Order (Seats d)
seating_order d = record {
  itself = λ w. record { objects = refl; goes = stays; tune = refl; numbers = refl; leavers = leavers_ties (is_connection d) w.board.connections w.board.connections refl };
  both = λ u v w r s. record { objects = s.objects ∙ r.objects; goes = join r.goes s.goes; tune = s.tune ∙ r.tune; numbers = s.numbers ∙ r.numbers; leavers = leavers_both d _ _ _ r.leavers s.leavers };
}

pub seating_quiet : (d : ℕ) (f : Change) → Quiet f → Seating d f
seating_quiet d f q = keeps_more f (λ w v s. record {
  objects = ap (λ (es : List Entry). map without_props es) s.objects;
  goes = one (shows w v refl s);
  tune = s.tune;
  numbers = numbers-ties w.board.connections v.board.connections (readies w v s).ties;
  leavers = leavers_ties (is_connection d) w.board.connections v.board.connections (readies w v s).ties;
}) q

pub seating_notes : (d : ℕ) (f : Change) → Keeps TouchesNotes f → Keeps (Goes acts) f → Seating d f
seating_notes d f q g = record {
  law = λ w.
      let v : Live = f w in
      let s = q.law w in
      let same = viewed_again mute tie w.board.connections v.board.connections s.connections in
      record { objects = s.objects; goes = g.law w; tune = s.tune; numbers = numbers-ties w.board.connections v.board.connections same; leavers = leavers_ties (is_connection d) w.board.connections v.board.connections same };
}

seating_other : (d : ℕ) (f : Connection → Connection) → ((c : Connection) → (f c).number ≡ c.number) → Keeps (Goes acts) (on_board (on_connection d f)) → Seating d (on_board (on_connection d f))
seating_other d f keeps g =
    record { law = λ w. record { objects = refl; goes = g.law w; tune = refl; numbers = numbers-changed_in d f keeps w.board.connections; leavers = leavers_changed_in d f keeps w.board.connections } }

pub seating_leave : (d : ℕ) → Seating d (leave d)
unfolding leave leaving_one
seating_leave d = seating_other d left (λ c. refl) (record { law = λ w. one (board _ w (leaves_one d w.board refl)) })

pub seating_enter : (d : ℕ) (player : Dbref) → Seating d (enter d player)
unfolding enter seated_one
seating_enter d player = seating_other d (player_seated player) (λ c. refl) (record { law = λ w. one (board _ w (seats d player w.board refl)) })
