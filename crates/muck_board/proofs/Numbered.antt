-- Lemmas on the connection of a number.
use Rattle.std.proofs.Common.{◌≡◌, ℕ, ◌+◌, ◌<◌, ◌≤◌, true, false, List, [], ◌∷◌, length, get_or, set, refl, sym, ◌∙◌, ap, arith, cond, Option, Some, None, not, suc, subst, drop, find, map}
use Rattle.std.specs.Prelude.{nat_lt}
use Rattle.std.specs.List.{position, position_or_len, remove, insert}
use Rattle.std.specs.Option.{option_map_or}
use Rattle.std.proofs.lemmas.Bool.{cond_both}
use Rattle.std.proofs.lemmas.List.{drop_all}
use Rattle.muck_laws.proofs.Tests.{first_at, position_none}
use Rattle.muck_model.specs.declared.dbref.Dbref.{Dbref}
use Rattle.spec_live.specs.Output.{bytes_of, output_taken}
use Rattle.spec_live.specs.Connections.{Connection, is_connection, changed_in, without_connection, connection_placed}
use Rattle.spec_live.specs.Boards.{Board, connection_in, on_connection, with_connections}
use Rattle.muck_board.specs.inner.Lines.{HasLine, HasNoLine, BoardTakesLine}
use Rattle.muck_board.specs.inner.Silent.{quiet, silent}
use Rattle.muck_board.proofs.Outputs.{taken_left}

-- What `position` answers.

pub within : (d : ℕ) (cs : List Connection) (at : ℕ) → position (is_connection d) cs ≡ Some at → at < length cs
within d cs at e = (first_at (is_connection d) cs at e).1

-- What stands at that place.

found_there : (d : ℕ) (cs : List Connection) (old : Connection) → position_or_len (is_connection d) cs < length cs →
    old ≡ get_or cs (position_or_len (is_connection d) cs) old → find (is_connection d) cs ≡ Some old
found_there d [] old = λ h e. absurd (omega arith)
found_there d (c ∷ cs) old =
    elim (is_connection d c) as (λ b.
    cond (not b) (1 + position_or_len (is_connection d) cs) 0 < length (c ∷ cs) →
    old ≡ get_or (c ∷ cs) (cond (not b) (1 + position_or_len (is_connection d) cs) 0) old →
    cond b (Some c) (find (is_connection d) cs) ≡ Some old) [
      | true ↦ λ h e. ap Some (sym e)
      | false ↦ λ h e.
          let one : 1 + position_or_len (is_connection d) cs ≡ suc (position_or_len (is_connection d) cs) = omega arith in
          found_there d cs old (omega arith) (rw one at e)
    ]

pub found_at : (d : ℕ) (cs : List Connection) (at : ℕ) (old : Connection) → position (is_connection d) cs ≡ Some at → old ≡ get_or cs at old → find (is_connection d) cs ≡ Some old
found_at d cs at old e there =
    let first = first_at (is_connection d) cs at e in
    let some : position_or_len (is_connection d) cs < length cs = omega (arith, first.0, first.1) in
    found_there d cs old some (rw (sym first.0) at there)

found_beyond : (d : ℕ) (cs : List Connection) → length cs ≤ position_or_len (is_connection d) cs → find (is_connection d) cs ≡ None
found_beyond d [] = λ h. refl
found_beyond d (c ∷ cs) =
    elim (is_connection d c) as (λ b.
    length (c ∷ cs) ≤ cond (not b) (1 + position_or_len (is_connection d) cs) 0 → cond b (Some c) (find (is_connection d) cs) ≡ None) [
      | true ↦ λ h. absurd (omega arith)
      | false ↦ λ h. found_beyond d cs (omega arith)
    ]

pub found_nowhere : (d : ℕ) (cs : List Connection) → position (is_connection d) cs ≡ None → find (is_connection d) cs ≡ None
found_nowhere d cs e = found_beyond d cs (position_none (is_connection d) cs e)

-- A write at that place.

changed_there : (d : ℕ) (new : Connection) (cs : List Connection) → position_or_len (is_connection d) cs < length cs →
    set cs (position_or_len (is_connection d) cs) new ≡ changed_in d (λ _. new) cs
changed_there d new [] = λ h. absurd (omega arith)
changed_there d new (c ∷ cs) =
    elim (is_connection d c) as (λ b.
    cond (not b) (1 + position_or_len (is_connection d) cs) 0 < length (c ∷ cs) →
    set (c ∷ cs) (cond (not b) (1 + position_or_len (is_connection d) cs) 0) new ≡ cond b (new ∷ cs) (c ∷ changed_in d (λ _. new) cs)) [
      | true ↦ λ h. refl
      | false ↦ λ h.
          let one : 1 + position_or_len (is_connection d) cs ≡ suc (position_or_len (is_connection d) cs) = omega arith in
          let below : position_or_len (is_connection d) cs < length cs = omega arith in
          rw one (ap (λ xs. c ∷ xs) (changed_there d new cs below))
    ]

pub written : (d : ℕ) (cs : List Connection) (at : ℕ) (new : Connection) → position (is_connection d) cs ≡ Some at → set cs at new ≡ changed_in d (λ _. new) cs
written d cs at new e =
    let first = first_at (is_connection d) cs at e in
    let some : position_or_len (is_connection d) cs < length cs = omega (arith, first.0, first.1) in
    rw (sym first.0) (changed_there d new cs some)

-- Taking away there.

without_there : (d : ℕ) (cs : List Connection) → position_or_len (is_connection d) cs < length cs → remove cs (position_or_len (is_connection d) cs) ≡ without_connection d cs
without_there d [] = λ h. absurd (omega arith)
without_there d (c ∷ cs) =
    elim (is_connection d c) as (λ b.
    cond (not b) (1 + position_or_len (is_connection d) cs) 0 < length (c ∷ cs) →
    remove (c ∷ cs) (cond (not b) (1 + position_or_len (is_connection d) cs) 0) ≡ cond b cs (c ∷ without_connection d cs)) [
      | true ↦ λ h. refl
      | false ↦ λ h.
          let one : 1 + position_or_len (is_connection d) cs ≡ suc (position_or_len (is_connection d) cs) = omega arith in
          let below : position_or_len (is_connection d) cs < length cs = omega arith in
          rw one (ap (λ xs. c ∷ xs) (without_there d cs below))
    ]

pub removed : (d : ℕ) (cs : List Connection) (at : ℕ) → position (is_connection d) cs ≡ Some at → remove cs at ≡ without_connection d cs
removed d cs at e =
    let first = first_at (is_connection d) cs at e in
    let some : position_or_len (is_connection d) cs < length cs = omega (arith, first.0, first.1) in
    rw (sym first.0) (without_there d cs some)

without_none : (d : ℕ) (cs : List Connection) → find (is_connection d) cs ≡ None → cs ≡ without_connection d cs
without_none d [] = λ h. refl
without_none d (c ∷ cs) =
    elim (is_connection d c) as (λ b. cond b (Some c) (find (is_connection d) cs) ≡ None → c ∷ cs ≡ cond b cs (c ∷ without_connection d cs)) [
      | true ↦ λ h. absurd (cc)
      | false ↦ λ h. ap (λ x. c ∷ x) (without_none d cs h)
    ]

pub removed_none : (d : ℕ) (cs : List Connection) → position (is_connection d) cs ≡ None → cs ≡ without_connection d cs
removed_none d cs e = without_none d cs (found_nowhere d cs e)

-- A new one before the first of a greater number.

placed_there : (new : Connection) (cs : List Connection) → insert cs (position_or_len (λ c. nat_lt new.number c.number) cs) new ≡ connection_placed new cs
placed_there new [] = refl
placed_there new (c ∷ cs) =
    elim (nat_lt new.number c.number) as (λ b.
    insert (c ∷ cs) (cond (not b) (1 + position_or_len (λ x. nat_lt new.number x.number) cs) 0) new ≡ cond b (new ∷ c ∷ cs) (c ∷ connection_placed new cs)) [
      | true ↦ refl
      | false ↦
          let one : 1 + position_or_len (λ x. nat_lt new.number x.number) cs ≡ suc (position_or_len (λ x. nat_lt new.number x.number) cs) = omega arith in
          rw one (ap (λ xs. c ∷ xs) (placed_there new cs))
    ]

pub inserted : (d : ℕ) (new : Connection) (cs : List Connection) (at : ℕ) → new.number ≡ d → at ≡ position_or_len (λ c. nat_lt d c.number) cs → insert cs at new ≡ connection_placed new cs
inserted d new cs at n e =
    let first : at ≡ position_or_len (λ c. nat_lt new.number c.number) cs = e ∙ ap (λ k. position_or_len (λ c. nat_lt k c.number) cs) (sym n) in
    rw first (placed_there new cs)

-- A change of the connection that was found.

changed_found : (d : ℕ) (f : Connection → Connection) (cs : List Connection) (c : Connection) → find (is_connection d) cs ≡ Some c → changed_in d (λ _. f c) cs ≡ changed_in d f cs
changed_found d f [] c = λ h. refl
changed_found d f (x ∷ xs) c =
    elim (is_connection d x) as (λ b.
    cond b (Some x) (find (is_connection d) xs) ≡ Some c → cond b (f c ∷ xs) (x ∷ changed_in d (λ _. f c) xs) ≡ cond b (f x ∷ xs) (x ∷ changed_in d f xs)) [
      | true ↦ λ h. let same : x ≡ c = cc in ap (λ y. f y ∷ xs) (sym same)
      | false ↦ λ h. ap (λ ys. x ∷ ys) (changed_found d f xs c h)
    ]

changed_none : (d : ℕ) (f : Connection → Connection) (cs : List Connection) → find (is_connection d) cs ≡ None → changed_in d f cs ≡ cs
changed_none d f [] = λ h. refl
changed_none d f (x ∷ xs) =
    elim (is_connection d x) as (λ b. cond b (Some x) (find (is_connection d) xs) ≡ None → cond b (f x ∷ xs) (x ∷ changed_in d f xs) ≡ x ∷ xs) [
      | true ↦ λ h. absurd (cc)
      | false ↦ λ h. ap (λ ys. x ∷ ys) (changed_none d f xs h)
    ]

-- a change of the connection that was found is that change of the connection d
pub changed : (d : ℕ) (f : Connection → Connection) (b : Board) (c new : Connection) → Some c ≡ connection_in d b → new ≡ f c → on_connection d (λ _. new) b ≡ on_connection d f b
changed d f b c new there is =
    ap (λ x. on_connection d (λ _. x) b) is ∙ ap (λ cs. with_connections cs b) (changed_found d f b.connections c (sym there))

-- where none was found, nothing changes
pub unchanged : (d : ℕ) (f : Connection → Connection) (b : Board) → None ≡ connection_in d b → b ≡ on_connection d f b
unchanged d f b none = ap (λ cs. with_connections cs b) (sym (changed_none d f b.connections (sym none)))

-- where it is written back as it was, too
pub rewritten : (d : ℕ) (b : Board) (c new : Connection) → Some c ≡ connection_in d b → new ≡ c → on_connection d (λ _. new) b ≡ b
rewritten d b c new there same = changed d (λ x. x) b c new there same ∙ ap (λ cs. with_connections cs b) (changed_so d b.connections) where
  changed_so : (d : ℕ) (cs : List Connection) → changed_in d (λ x. x) cs ≡ cs
  changed_so d [] = refl
  changed_so d (x ∷ xs) = cond_both (is_connection d x) (x ∷ xs) (x ∷ changed_in d (λ y. y) xs) (λ l. l ≡ x ∷ xs) (λ e. refl) (λ e. ap (λ ys. x ∷ ys) (changed_so d xs))

-- a change of what waits to be sent leaves the rest
quieted : (d : ℕ) (cs : List Connection) (c new : Connection) → find (is_connection d) cs ≡ Some c → quiet new ≡ quiet c → map quiet (changed_in d (λ _. new) cs) ≡ map quiet cs
quieted d [] c new = λ h q. refl
quieted d (x ∷ xs) c new =
    elim (is_connection d x) as (λ b. cond b (Some x) (find (is_connection d) xs) ≡ Some c → quiet new ≡ quiet c → map quiet (cond b (new ∷ xs) (x ∷ changed_in d (λ _. new) xs)) ≡ quiet x ∷ map quiet xs) [
      | true ↦ λ h q. let same : x ≡ c = cc in ap (λ y. y ∷ map quiet xs) (q ∙ ap quiet (sym same))
      | false ↦ λ h q. ap (λ ys. quiet x ∷ ys) (quieted d xs c new h q)
    ]

pub silent_kept : (d : ℕ) (b : Board) (c new : Connection) → Some c ≡ connection_in d b → quiet new ≡ quiet c → silent (on_connection d (λ _. new) b) ≡ silent b
silent_kept d b c new there q = ap (λ cs. with_connections cs b) (quieted d b.connections c new (sym there) q)

pub ruleset changes = (changed, unchanged, rewritten, silent_kept)

-- What waits on the connection d, and what waits to be sent to it.

queue_of : Option Connection → List ℕ
queue_of o = option_map_or (λ x. bytes_of x.output) o []

-- what is left in its queue
pub queue_left : (d n : ℕ) (cs : List Connection) →
    option_map_or (λ x. bytes_of x.output) (find (is_connection d) (changed_in d (λ c. record c { output = output_taken n c.output }) cs)) []
    ≡ drop n (option_map_or (λ x. bytes_of x.output) (find (is_connection d) cs) [])
unfolding queue_of
queue_left d n [] = sym (drop_all n [] (omega arith))
queue_left d n (c ∷ cs) =
    let f : Connection → Connection = λ x. record x { output = output_taken n x.output } in
    cond_both (is_connection d c) (f c ∷ cs) (c ∷ changed_in d f cs) (λ l. queue_of (find (is_connection d) l) ≡ drop n (queue_of (find (is_connection d) (c ∷ cs))))
    (λ e. rw e (taken_left n c.output))
    (λ e. rw e (queue_left d n cs))

-- a line that waits is taken
pub line_taken : (d : ℕ) (b : Board) (c new : Connection) (player : Option Dbref) (line : List ℕ) → Some c ≡ connection_in d b → player ≡ c.player → c.waiting ≡ line ∷ new.waiting →
    new ≡ record c { waiting = new.waiting } → BoardTakesLine d b (on_connection d (λ _. new) b) (Some (player, line))
line_taken d b c new player line there p w is =
    let P : Option Connection → Type 0 = λ o. HasLine o player line new.waiting in
    ((new.waiting, subst P there (sym p, w), ap (λ (x : Board). x.connections) (changed d (λ x. record x { waiting = new.waiting }) b c new there is)), refl)

-- or none waits
pub none_taken : (d : ℕ) (b : Board) (c new : Connection) → Some c ≡ connection_in d b → c.waiting ≡ [] → new ≡ c → BoardTakesLine d b (on_connection d (λ _. new) b) None
none_taken d b c new there w same =
    let P : Option Connection → Type 0 = HasNoLine in
    ((subst P there w, ap (λ (x : Board). x.connections) (rewritten d b c new there same)), refl)
