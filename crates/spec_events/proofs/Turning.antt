-- Whose connections came or went by a line, by a slice and by a connection that goes.
use Rattle.std.proofs.Common.{◌≡◌, ℕ, ◌<◌, ◌≤◌, ℤ, pos, negsuc, Bool, true, false, cond, not, ◌&&◌, ◌||◌, ◌==◌, ltb, List, [], ◌∷◌, map, length, refl, sym, ◌∙◌, ap, subst, Option, Some, None, inl, inr, ◌⊎◌}
use Rattle.std.proofs.lemmas.Bool.{ltb-true, lt-ltb, false≢true, cond-true, cond-false}
use Rattle.std.proofs.lemmas.List.Elements.{All-head, All-tail}
use Rattle.std.specs.Prelude.{All, find, codes}
use Rattle.std.specs.List.{list_any}
use Rattle.std.specs.Option.{option_map_or, option_and_then}
use Rattle.muck_laws.proofs.Numbers.{beyond_turning}
use Rattle.muck_laws.proofs.Truths.{and_false, and_true, never_turning, or_assoc, or_swap}
use Rattle.muck_model.specs.declared.dbref.Dbref.{Dbref}
use Rattle.muck_model.specs.declared.edit.EditState.{EditState}
use Rattle.muck_model.specs.declared.event.Event.TheVariants.{Closed, Exec, Slice}
use Rattle.muck_model.proofs.Dbrefs.{same_eq, eq_same}
use Rattle.spec_live.specs.Objects.{dbref_of, same, index_of, nothing}
use Rattle.spec_live.specs.Stood.{stood_in, stands_in, IsStill}
use Rattle.spec_live.specs.Connections.{Connection, is_connection, is_connection_of, changed_in, without_connection, left, player_seated}
use Rattle.spec_live.specs.Boards.{player_in, connection_closed, leaving_one, seated_one}
use Rattle.spec_live.specs.Lives.{Live, Change, change_followed, reading, either, tell, leave, enter, on_board}
use Rattle.spec_rights.specs.declared.act.Actor.{Actor}
use Rattle.spec_rights.specs.Licence.{SameTies}
use Rattle.spec_live.proofs.Lives.{Quiet, Loose, loose_quiet}
use Rattle.spec_rights.proofs.Licences.{ties_same}
use Rattle.spec_rights.proofs.Shown.{quiet_tell}
use Rattle.spec_commands.specs.Texts.{first_word, other_words, trimmed, is_alike}
use Rattle.spec_commands.specs.Replies.{goodbye}
use Rattle.spec_commands.specs.Finding.{actor_of}
use Rattle.spec_commands.specs.Talking.{is_connected, who_shown}
use Rattle.spec_commands.specs.Talk.{welcome, refused_login, proved, let_in, logged_in, connecting, quit, at_login, waits, player_parted, gone_away}
use Rattle.spec_commands.specs.inner.Rising.{IsAbove, IsRising}
use Rattle.spec_commands.proofs.Showing.{quiet_who_shown, loose_waits}
use Rattle.spec_commands.proofs.Lines.{quiet_parted}
use Rattle.spec_hooks.specs.declared.turned.Turned.{Turned}
use Rattle.spec_hooks.specs.declared.turned.Turned.TheVariants.{Nobody, Came, Went}
use Rattle.spec_hooks.specs.Causes.{has_gone, has_come}
use Rattle.spec_hooks.specs.Told.{is_number, is_alone, came_by, came_on, went_of, is_gone, is_come, IsBelow, Turns}
use Rattle.muck_queue.specs.Queues.{reader, without_process as process_without, on_process, told_line}
use Rattle.spec_events.specs.World.{World, connection, on_live, on_queue}
use Rattle.spec_events.specs.Lines.{program_aborted, is_abort, given_line, line_for, line_done, first_line_done}
use Rattle.spec_events.specs.Slices.{Taken, after_unit, last_world, slice_most, process_awake, units_of, sliced}
use Rattle.spec_events.specs.Steps.{happened}
use Rattle.spec_events.specs.Licences.{LineLicensed, TurnLicensed, UnitLicensed, answering, Chained}
use Rattle.spec_events.proofs.Endings.{IsTold}
use Rattle.spec_events.proofs.Judged.{units_licensed}
use Rattle.spec_events.proofs.Chained.{units_chained}
use Rattle.spec_events.proofs.Turns.{exec_licensed}
use Rattle.spec_events.proofs.Login.{greeted, greeted_open}
use Rattle.spec_events.proofs.Stilling.{stood_happened}

-- The connections of a world, each with its player.

abbrev Seats : Type 0
Seats = List (ℕ × Option Dbref)

abbrev seats_of : List Connection → Seats
seats_of cs = map (λ (c : Connection). (c.number, c.player)) cs

abbrev seats : Live → Seats
seats w = seats_of w.board.connections

-- of this player
abbrev has_seat : Dbref → Seats → Bool
has_seat q xs = list_any (λ (x : ℕ × Option Dbref). option_map_or (same q) x.1 false) xs

-- the player of a connection
abbrev seat_at : ℕ → Seats → Option Dbref
seat_at d [] = None
seat_at d (x ∷ xs) = cond (x.0 == d) x.1 (seat_at d xs)

connected_is : (q : Dbref) (cs : List Connection) → list_any (is_connection_of q) cs ≡ has_seat q (seats_of cs)
connected_is q [] = refl
connected_is q (c ∷ cs) = ap (λ b. is_connection_of q c || b) (connected_is q cs)

player_is : (d : ℕ) (cs : List Connection) → option_and_then (λ (c : Connection). c.player) (find (is_connection d) cs) ≡ seat_at d (seats_of cs)
player_is d [] = refl
player_is d (c ∷ cs) = at (c.number == d) (player_is d cs)
  where
    at : (b : Bool) → option_and_then (λ (x : Connection). x.player) (find (is_connection d) cs) ≡ seat_at d (seats_of cs) →
        option_and_then (λ (x : Connection). x.player) (cond b (Some c) (find (is_connection d) cs)) ≡ cond b c.player (seat_at d (seats_of cs))
    at true h = refl
    at false h = h

-- What keeps them.

seats_ties : (a : Actor) (cs ds : List Connection) → SameTies a cs ds → seats_of ds ≡ seats_of cs
seats_ties a [] [] h = refl
seats_ties a [] (d ∷ ds) h = absurd h
seats_ties a (c ∷ cs) [] h = absurd h
seats_ties a (c ∷ cs) (d ∷ ds) h =
    ap (λ n. (n, d.player) ∷ seats_of ds) h.0 ∙ ap (λ p. (c.number, p) ∷ seats_of ds) h.1 ∙ ap (λ xs. (c.number, c.player) ∷ xs) (seats_ties a cs ds h.3)

seats_loose : (f : Change) → Loose f → (w : Live) → seats (f w) ≡ seats w
seats_loose f q w =
    let a : Actor = record { level = 0; user = nothing; player = nothing } in
    seats_ties a w.board.connections (f w).board.connections (ties_same a w.board.connections (f w).board.connections (q.law w).ties)

seats_quiet : (f : Change) → Quiet f → (w : Live) → seats (f w) ≡ seats w
seats_quiet f q w = seats_loose f (loose_quiet f q) w

seats_changed : (d : ℕ) (f : Connection → Connection) → ((c : Connection) → (f c).number ≡ c.number) → ((c : Connection) → (f c).player ≡ c.player) → (cs : List Connection) → seats_of (changed_in d f cs) ≡ seats_of cs
seats_changed d f number player [] = refl
seats_changed d f number player (c ∷ cs) = at (is_connection d c) (seats_changed d f number player cs)
  where
    at : (b : Bool) → seats_of (changed_in d f cs) ≡ seats_of cs → seats_of (cond b (f c ∷ cs) (c ∷ changed_in d f cs)) ≡ seats_of (c ∷ cs)
    at true h = ap (λ n. (n, (f c).player) ∷ seats_of cs) (number c) ∙ ap (λ p. (c.number, p) ∷ seats_of cs) (player c)
    at false h = ap (λ xs. (c.number, c.player) ∷ xs) h

-- A player sits down, and a connection goes.

abbrev sit : ℕ → Dbref → Seats → Seats
sit d p [] = []
sit d p (x ∷ xs) = cond (x.0 == d) ((x.0, Some p) ∷ xs) (x ∷ sit d p xs)

abbrev stand : ℕ → Seats → Seats
stand d [] = []
stand d (x ∷ xs) = cond (x.0 == d) xs (x ∷ stand d xs)

seats_seated : (d : ℕ) (p : Dbref) (cs : List Connection) → seats_of (changed_in d (player_seated p) cs) ≡ sit d p (seats_of cs)
seats_seated d p [] = refl
seats_seated d p (c ∷ cs) = at (c.number == d) (seats_seated d p cs)
  where
    at : (b : Bool) → seats_of (changed_in d (player_seated p) cs) ≡ sit d p (seats_of cs) → seats_of (cond b (player_seated p c ∷ cs) (c ∷ changed_in d (player_seated p) cs)) ≡ cond b ((c.number, Some p) ∷ seats_of cs) ((c.number, c.player) ∷ sit d p (seats_of cs))
    at true h = refl
    at false h = ap (λ xs. (c.number, c.player) ∷ xs) h

seats_without : (d : ℕ) (cs : List Connection) → seats_of (without_connection d cs) ≡ stand d (seats_of cs)
seats_without d [] = refl
seats_without d (c ∷ cs) = at (c.number == d) (seats_without d cs)
  where
    at : (b : Bool) → seats_of (without_connection d cs) ≡ stand d (seats_of cs) → seats_of (cond b cs (c ∷ without_connection d cs)) ≡ cond b (seats_of cs) ((c.number, c.player) ∷ stand d (seats_of cs))
    at true h = refl
    at false h = ap (λ xs. (c.number, c.player) ∷ xs) h

-- a connection of that number is there, and has no player
abbrev IsFree : ℕ → Seats → Type 0
IsFree d [] = ⊥
IsFree d (x ∷ xs) = (((x.0 == d) ≡ true) × (x.1 ≡ None)) ⊎ (((x.0 == d) ≡ false) × IsFree d xs)

-- then the seats of a player are those that it had, and that one
sits_any : (q p : Dbref) (d : ℕ) (xs : Seats) → IsFree d xs → has_seat q (sit d p xs) ≡ (has_seat q xs || same q p)
sits_any q p d [] h = absurd h
sits_any q p d (x ∷ xs) (inl h) =
    ap (λ b. has_seat q (cond b ((x.0, Some p) ∷ xs) (x ∷ sit d p xs))) h.0 ∙ or_swap (same q p) (has_seat q xs)
    ∙ sym (ap (λ o. (option_map_or (same q) o false || has_seat q xs) || same q p) h.1)
sits_any q p d (x ∷ xs) (inr h) =
    ap (λ b. has_seat q (cond b ((x.0, Some p) ∷ xs) (x ∷ sit d p xs))) h.0 ∙ ap (λ b. option_map_or (same q) x.1 false || b) (sits_any q p d xs h.1)
    ∙ or_assoc (option_map_or (same q) x.1 false) (has_seat q xs) (same q p)

sits_at : (p : Dbref) (d : ℕ) (xs : Seats) → IsFree d xs → seat_at d (sit d p xs) ≡ Some p
sits_at p d [] h = absurd h
sits_at p d (x ∷ xs) (inl h) = ap (λ b. seat_at d (cond b ((x.0, Some p) ∷ xs) (x ∷ sit d p xs))) h.0 ∙ cond-true _ _ _ h.0
sits_at p d (x ∷ xs) (inr h) = ap (λ b. seat_at d (cond b ((x.0, Some p) ∷ xs) (x ∷ sit d p xs))) h.0 ∙ cond-false _ _ _ h.0 ∙ sits_at p d xs h.1

-- where one goes, those that are left, and that one
stands_any : (q : Dbref) (d : ℕ) (xs : Seats) → has_seat q xs ≡ (has_seat q (stand d xs) || option_map_or (same q) (seat_at d xs) false)
stands_any q d [] = refl
stands_any q d (x ∷ xs) = at (x.0 == d) (stands_any q d xs)
  where
    at : (b : Bool) → has_seat q xs ≡ (has_seat q (stand d xs) || option_map_or (same q) (seat_at d xs) false) →
        (option_map_or (same q) x.1 false || has_seat q xs) ≡ (has_seat q (cond b xs (x ∷ stand d xs)) || option_map_or (same q) (cond b x.1 (seat_at d xs)) false)
    at true h = or_swap (option_map_or (same q) x.1 false) (has_seat q xs)
    at false h = ap (λ b. option_map_or (same q) x.1 false || b) h ∙ or_assoc (option_map_or (same q) x.1 false) (has_seat q (stand d xs)) (option_map_or (same q) (seat_at d xs) false)

-- No other connection than d is of a player.

abbrev seat_beside : ℕ → Dbref → Seats → Bool
seat_beside d p xs = list_any (λ (x : ℕ × Option Dbref). option_map_or (same p) x.1 false && not (x.0 == d)) xs

alone_is : (d : ℕ) (p : Dbref) (cs : List Connection) → list_any (λ (c : Connection). is_connection_of p c && not (is_connection d c)) cs ≡ seat_beside d p (seats_of cs)
alone_is d p [] = refl
alone_is d p (c ∷ cs) = ap (λ b. (is_connection_of p c && not (is_connection d c)) || b) (alone_is d p cs)

abbrev Above : ℕ → Seats → Type 0
Above n [] = Unit {0}
Above n (x ∷ xs) = (n < x.0) × Above n xs

abbrev Rises : Seats → Type 0
Rises [] = Unit {0}
Rises (x ∷ xs) = Above x.0 xs × Rises xs

above_of : (n : ℕ) (cs : List Connection) → IsAbove n cs → Above n (seats_of cs)
above_of n [] h = tt
above_of n (c ∷ cs) h = (h.0, above_of n cs h.1)

rises_of : (cs : List Connection) → IsRising cs → Rises (seats_of cs)
rises_of [] h = tt
rises_of (c ∷ cs) h = (above_of c.number cs h.0, rises_of cs h.1)

beside_above : (n d : ℕ) (p : Dbref) (xs : Seats) → (n == d) ≡ true → Above n xs → seat_beside d p xs ≡ has_seat p xs
beside_above n d p [] e h = refl
beside_above n d p (x ∷ xs) e h =
    ap (λ b. (option_map_or (same p) x.1 false && not b) || seat_beside d p xs) (beyond_turning n d x.0 e h.0) ∙ ap (λ b. b || seat_beside d p xs) (and_true (option_map_or (same p) x.1 false))
    ∙ ap (λ b. option_map_or (same p) x.1 false || b) (beside_above n d p xs e h.1)

-- who sits down there is alone where it had no seat
sits_alone : (p : Dbref) (d : ℕ) (xs : Seats) → Rises xs → IsFree d xs → seat_beside d p (sit d p xs) ≡ has_seat p xs
sits_alone p d [] r h = absurd h
sits_alone p d (x ∷ xs) r (inl h) =
    ap (λ b. seat_beside d p (cond b ((x.0, Some p) ∷ xs) (x ∷ sit d p xs))) h.0 ∙ ap (λ b. (same p p && not b) || seat_beside d p xs) h.0 ∙ ap (λ b. b || seat_beside d p xs) (and_false (same p p))
    ∙ beside_above x.0 d p xs h.0 r.0 ∙ sym (ap (λ o. option_map_or (same p) o false || has_seat p xs) h.1)
sits_alone p d (x ∷ xs) r (inr h) =
    ap (λ b. seat_beside d p (cond b ((x.0, Some p) ∷ xs) (x ∷ sit d p xs))) h.0 ∙ ap (λ b. (option_map_or (same p) x.1 false && not b) || seat_beside d p (sit d p xs)) h.0
    ∙ ap (λ b. b || seat_beside d p (sit d p xs)) (and_true (option_map_or (same p) x.1 false)) ∙ ap (λ b. option_map_or (same p) x.1 false || b) (sits_alone p d xs r.1 h.1)

-- What turned.

abbrev at_number : ℤ → Dbref
at_number z = record { 0 = z }

below_number : (p : Dbref) (n : ℕ) → option_map_or (λ k. ltb k n) (index_of p) false ≡ true → (k : ℕ) × (p ≡ dbref_of k) × (k < n)
below_number p n h = at p.0 refl h
  where
    at : (i : ℤ) → p.0 ≡ i → option_map_or (λ k. ltb k n) (index_of p) false ≡ true → (k : ℕ) × (p ≡ dbref_of k) × (k < n)
    at (pos k) e t = (k, ap at_number e, ltb-true k n (sym (ap (λ (z : ℤ). option_map_or (λ j. ltb j n) (index_of (at_number z)) false) e) ∙ t))
    at (negsuc k) e t = absurd (false≢true (sym (ap (λ (z : ℤ). option_map_or (λ j. ltb j n) (index_of (at_number z)) false) e) ∙ t))

module _ (w v : Live) (stood : (n : ℕ) → stood_in v.objects n ≡ stands_in w.objects n) where
  -- nothing turned
  alike_turns : seats v ≡ seats w → Turns Nobody w v
  alike_turns e =
      let same_seats : (q : Dbref) → is_connected q v ≡ is_connected q w = λ q. connected_is q v.board.connections ∙ ap (has_seat q) e ∙ sym (connected_is q w.board.connections) in
      record { below = tt; gone = λ n lt. never_turning _ _ (same_seats (dbref_of n)); come = λ n lt. never_turning _ _ (sym (same_seats (dbref_of n))); stood = stood }

  -- The player p sits down at d.
  module _ (d : ℕ) (p : Dbref) (rises : Rises (seats w)) (free : IsFree d (seats w)) (e : seats v ≡ sit d p (seats w)) where
    abbrev had : Dbref → Bool
    had q = has_seat q (seats w)

    was : (q : Dbref) → is_connected q w ≡ had q
    was q = connected_is q w.board.connections

    is_now : (q : Dbref) → is_connected q v ≡ (had q || same q p)
    is_now q = connected_is q v.board.connections ∙ ap (has_seat q) e ∙ sits_any q p d (seats w) free

    alone : is_alone d p v ≡ not (had p)
    alone = ap not (alone_is d p v.board.connections ∙ ap (seat_beside d p) e ∙ sits_alone p d (seats w) rises free)

    abbrev turned : Turned
    turned = cond (is_number p v && not (had p)) (Came p) Nobody

    stays_gone : (a b : Bool) → (a && not (a || b)) ≡ false
    stays_gone true b = refl
    stays_gone false b = refl

    came_gone : (b : Bool) (q : Dbref) → is_gone (cond b (Came p) Nobody) q ≡ false
    came_gone true q = refl
    came_gone false q = refl

    gone_none : (n : ℕ) → has_gone w v (dbref_of n) ≡ is_gone turned (dbref_of n)
    gone_none n = ap (λ b. b && not (is_connected (dbref_of n) v)) (was (dbref_of n)) ∙ ap (λ b. had (dbref_of n) && not b) (is_now (dbref_of n)) ∙ stays_gone _ _ ∙ sym (came_gone (is_number p v && not (had p)) (dbref_of n))

    -- whoever it is
    comes : (n : ℕ) → n < length v.objects → has_come w v (dbref_of n) ≡ is_come turned (dbref_of n)
    comes n lt = ap (λ b. b && not (is_connected (dbref_of n) w)) (is_now (dbref_of n)) ∙ ap (λ b. (had (dbref_of n) || same (dbref_of n) p) && not b) (was (dbref_of n)) ∙ at (same (dbref_of n) p) refl
      where
        other : (b : Bool) → same (dbref_of n) p ≡ false → is_come (cond b (Came p) Nobody) (dbref_of n) ≡ false
        other true differs = turn_round (same p (dbref_of n)) refl
          where
            turn_round : (c : Bool) → same p (dbref_of n) ≡ c → same p (dbref_of n) ≡ false
            turn_round false k = k
            turn_round true k = absurd (false≢true (sym differs ∙ same_eq (dbref_of n) p (sym (eq_same p (dbref_of n) k))))
        other false differs = refl

        this : (b : Bool) → p ≡ dbref_of n → had p ≡ b → (not b) ≡ is_come (cond (is_number p v && not b) (Came p) Nobody) (dbref_of n)
        this true is k = sym (ap (λ c. is_come (cond c (Came p) Nobody) (dbref_of n)) (and_false (is_number p v)))
        this false is k =
            sym (ap (λ c. is_come (cond c (Came p) Nobody) (dbref_of n)) (and_true (is_number p v) ∙ ap (λ (x : Dbref). is_number x v) is ∙ lt-ltb n (length v.objects) lt) ∙ same_eq p (dbref_of n) is)

        both : (a : Bool) → ((a || true) && not a) ≡ not a
        both true = refl
        both false = refl

        neither : (a : Bool) → ((a || false) && not a) ≡ false
        neither true = refl
        neither false = refl

        at : (b : Bool) → same (dbref_of n) p ≡ b → ((had (dbref_of n) || same (dbref_of n) p) && not (had (dbref_of n))) ≡ is_come turned (dbref_of n)
        at true k =
            let is : p ≡ dbref_of n = sym (eq_same (dbref_of n) p k) in
            ap (λ b. (had (dbref_of n) || b) && not (had (dbref_of n))) k ∙ both (had (dbref_of n)) ∙ ap (λ (x : Dbref). not (had x)) (sym is) ∙ this (had p) is refl
        at false k = ap (λ b. (had (dbref_of n) || b) && not (had (dbref_of n))) k ∙ neither (had (dbref_of n)) ∙ sym (other (is_number p v && not (had p)) k)

    seated_turns : Turns turned w v
    seated_turns = record { below = at (is_number p v) (had p) refl; gone = λ n lt. gone_none n; come = comes; stood = stood }
      where
        at : (a b : Bool) → is_number p v ≡ a → IsBelow (length v.objects) (cond (a && not b) (Came p) Nobody)
        at true false k = below_number p (length v.objects) k
        at true true k = tt
        at false b k = tt

    seated_is : came_by d None (Some p) v ≡ turned
    seated_is = ap (λ b. cond (is_number p v && b) (Came p) Nobody) alone

    sits_turns : Turns (came_by d None (Some p) v) w v
    sits_turns = subst (λ (t : Turned). Turns t w v) (sym seated_is) seated_turns

  -- The connection d goes.
  module _ (d : ℕ) (e : seats v ≡ stand d (seats w)) where
    stays : (q : Dbref) → is_connected q w ≡ (is_connected q v || option_map_or (same q) (player_in d w.board) false)
    stays q =
        connected_is q w.board.connections ∙ stands_any q d (seats w) ∙ ap (λ b. b || option_map_or (same q) (seat_at d (seats w)) false) (sym (connected_is q v.board.connections ∙ ap (has_seat q) e))
        ∙ ap (λ o. is_connected q v || option_map_or (same q) o false) (sym (player_is d w.board.connections))

    comes_none : (a b : Bool) → (a && not (a || b)) ≡ false
    comes_none true b = refl
    comes_none false b = refl

    none_comes : (n : ℕ) → has_come w v (dbref_of n) ≡ false
    none_comes n = ap (λ b. is_connected (dbref_of n) v && not b) (stays (dbref_of n)) ∙ comes_none _ _

    went_turns : (o : Option Dbref) → player_in d w.board ≡ o → Turns (went_of o v) w v
    went_turns None is = record {
      below = tt;
      gone = λ n lt. ap (λ b. b && not (is_connected (dbref_of n) v)) (stays (dbref_of n) ∙ ap (λ o. is_connected (dbref_of n) v || option_map_or (same (dbref_of n)) o false) is) ∙ nobody (is_connected (dbref_of n) v);
      come = λ n lt. none_comes n;
      stood = stood;
    }
      where
        nobody : (a : Bool) → ((a || false) && not a) ≡ false
        nobody true = refl
        nobody false = refl
    went_turns (Some p) is = record { below = at (is_number p v) (is_connected p v) refl; gone = gone; come = λ n lt. none_comes n ∙ sym (came_none (is_number p v && not (is_connected p v)) (dbref_of n)); stood = stood }
      where
        at : (a b : Bool) → is_number p v ≡ a → IsBelow (length v.objects) (cond (a && not b) (Went p) Nobody)
        at true false k = below_number p (length v.objects) k
        at true true k = tt
        at false b k = tt

        came_none : (b : Bool) (q : Dbref) → is_come (cond b (Went p) Nobody) q ≡ false
        came_none true q = refl
        came_none false q = refl

        both : (a : Bool) → ((a || true) && not a) ≡ not a
        both true = refl
        both false = refl

        neither : (a : Bool) → ((a || false) && not a) ≡ false
        neither true = refl
        neither false = refl

        gone : (n : ℕ) → n < length v.objects → has_gone w v (dbref_of n) ≡ is_gone (went_of (Some p) v) (dbref_of n)
        gone n lt =
            ap (λ b. b && not (is_connected (dbref_of n) v)) (stays (dbref_of n) ∙ ap (λ o. is_connected (dbref_of n) v || option_map_or (same (dbref_of n)) o false) is) ∙ by (same (dbref_of n) p) refl
          where
            other : (b : Bool) → same (dbref_of n) p ≡ false → is_gone (cond b (Went p) Nobody) (dbref_of n) ≡ false
            other true differs = turn_round (same p (dbref_of n)) refl
              where
                turn_round : (c : Bool) → same p (dbref_of n) ≡ c → same p (dbref_of n) ≡ false
                turn_round false k = k
                turn_round true k = absurd (false≢true (sym differs ∙ same_eq (dbref_of n) p (sym (eq_same p (dbref_of n) k))))
            other false differs = refl

            this : (b : Bool) → p ≡ dbref_of n → (not b) ≡ is_gone (cond (is_number p v && not b) (Went p) Nobody) (dbref_of n)
            this true same_one = sym (ap (λ c. is_gone (cond c (Went p) Nobody) (dbref_of n)) (and_false (is_number p v)))
            this false same_one =
                sym (ap (λ c. is_gone (cond c (Went p) Nobody) (dbref_of n)) (and_true (is_number p v) ∙ ap (λ (x : Dbref). is_number x v) same_one ∙ lt-ltb n (length v.objects) lt) ∙ same_eq p (dbref_of n) same_one)

            by : (b : Bool) → same (dbref_of n) p ≡ b → ((is_connected (dbref_of n) v || same (dbref_of n) p) && not (is_connected (dbref_of n) v)) ≡ is_gone (went_of (Some p) v) (dbref_of n)
            by true k =
                let one : p ≡ dbref_of n = sym (eq_same (dbref_of n) p k) in
                ap (λ b. (is_connected (dbref_of n) v || b) && not (is_connected (dbref_of n) v)) k ∙ both (is_connected (dbref_of n) v) ∙ ap (λ (x : Dbref). not (is_connected x v)) (sym one) ∙ this (is_connected p v) one
            by false k = ap (λ b. (is_connected (dbref_of n) v || b) && not (is_connected (dbref_of n) v)) k ∙ neither (is_connected (dbref_of n) v) ∙ sym (other (is_number p v && not (is_connected p v)) k)

-- By each event.

chain_seats : (pid : ℤ) (w : World) (ts : List Taken) → All (UnitLicensed pid) ts → Chained pid w ts → seats (last_world w ts).live ≡ seats w.live
chain_seats pid w [] us cs = refl
chain_seats pid w (t ∷ ts) us cs =
    let u : UnitLicensed pid t = All-head (UnitLicensed pid) t ts us in
    chain_seats pid (after_unit t) ts (All-tail (UnitLicensed pid) t ts us) cs.1
    ∙ (seats_ties (answering t) t.before.live.board.connections (after_unit t).live.board.connections u.0.connections ∙ ap (λ (v : World). seats v.live) cs.0.world)

pub turns_slice : (pid : ℤ) (w : World) (party : ℕ) → IsTold w.live → IsStill w.live.objects → Turns Nobody w.live (happened w party (Slice pid)).live
unfolding sliced
turns_slice pid w party told still =
    let tune = w.live.board.tune in
    alike_turns w.live (happened w party (Slice pid)).live (stood_happened (Slice pid) w party still)
    (chain_seats pid (process_awake pid w) (units_of pid w) (units_licensed tune pid (slice_most tune) (process_awake pid w) told) (units_chained tune pid (slice_most tune) (process_awake pid w)))

seats_gone : (d : ℕ) (w : Live) → seats (gone_away d w) ≡ stand d (seats w)
unfolding gone_away reading change_followed connection_closed
seats_gone d w = seats_quiet (player_parted (player_in d w.board)) (quiet_parted (player_in d w.board)) (on_board (connection_closed d) w) ∙ seats_without d w.board.connections

pub turns_closed : (d : ℕ) (w : World) (party : ℕ) → IsStill w.live.objects → Turns (went_of (player_in d w.live.board) (happened w party (Closed d)).live) w.live (happened w party (Closed d)).live
turns_closed d w party still =
    went_turns w.live (happened w party (Closed d)).live (stood_happened (Closed d) w party still) d (seats_gone d w.live) (player_in d w.live.board) refl

-- A line: all have the players that they had, or a player sits down there.
abbrev Sits : ℕ → Live → Live → Type 0
Sits d w v = (seats v ≡ seats w) ⊎ ((p : Dbref) × IsFree d (seats w) × (seats v ≡ sit d p (seats w)))

free_found : (d : ℕ) (c : Connection) (cs : List Connection) → find (is_connection d) cs ≡ Some c → c.player ≡ None → IsFree d (seats_of cs)
free_found d c [] f n = absurd cc
free_found d c (x ∷ cs) f n = at (x.number == d) refl f (λ k. free_found d c cs k n)
  where
    at : (b : Bool) → (x.number == d) ≡ b → cond b (Some x) (find (is_connection d) cs) ≡ Some c → (find (is_connection d) cs ≡ Some c → IsFree d (seats_of cs)) → IsFree d (seats_of (x ∷ cs))
    at true e k later = let one : x ≡ c = cc in inl (e, ap (λ (y : Connection). y.player) one ∙ n)
    at false e k later = inr (e, later k)

free_at : (d : ℕ) (xs : Seats) → IsFree d xs → seat_at d xs ≡ None
free_at d [] h = absurd h
free_at d (x ∷ xs) (inl h) = cond-true _ _ _ h.0 ∙ h.1
free_at d (x ∷ xs) (inr h) = cond-false _ _ _ h.0 ∙ free_at d xs h.1

came_same : (d : ℕ) (o : Option Dbref) (v : Live) → came_by d o o v ≡ Nobody
came_same d None v = refl
came_same d (Some p) v = refl

sits_quiet : (d : ℕ) (f : Change) → Quiet f → (w : Live) → Sits d w (f w)
sits_quiet d f q w = inl (seats_quiet f q w)

sits_quit : (d : ℕ) (w : Live) → Sits d w (quit d w)
unfolding quit change_followed leave leaving_one
sits_quit d w = inl (seats_changed d left (λ c. refl) (λ c. refl) (tell d goodbye w).board.connections ∙ seats_quiet (tell d goodbye) (quiet_tell d goodbye) w)

sits_let_in : (d : ℕ) (o : Option Dbref) (w : Live) → IsFree d (seats w) → Sits d w (let_in d o w)
unfolding change_followed reading enter seated_one
sits_let_in d None w free = sits_quiet d (tell d refused_login) (quiet_tell d refused_login) w
sits_let_in d (Some player) w free =
    let a : Actor = actor_of w.objects player in
    inr (player, free, seats_ties a (enter d player w).board.connections (greeted d player a (enter d player w)).board.connections (greeted_open d player a (enter d player w)).connections ∙ seats_seated d player w.board.connections)

sits_connecting : (d : ℕ) (name word : List ℕ) (w : Live) → IsFree d (seats w) → Sits d w (connecting d name word w)
unfolding connecting logged_in reading
sits_connecting d name [] w free = sits_quiet d (tell d welcome) (quiet_tell d welcome) w
sits_connecting d name (b ∷ word) w free = sits_let_in d (proved name (b ∷ word) w.objects) w free

sits_at_login : (d : ℕ) (line : List ℕ) (w : Live) → IsFree d (seats w) → Sits d w (at_login d line w)
unfolding at_login either
sits_at_login d line w free =
    let text = trimmed line in
    let rest = trimmed (other_words text) in
    at (is_alike text (codes "QUIT")) (is_alike text (codes "WHO")) (is_alike (first_word text) (codes "connect")) (first_word rest) (trimmed (other_words rest))
  where
    at : (quits asks connects : Bool) (name word : List ℕ) → Sits d w (cond quits (quit d w) (cond asks (who_shown d w) (cond connects (connecting d name word w) (tell d welcome w))))
    at true asks connects name word = sits_quit d w
    at false true connects name word = sits_quiet d _ (quiet_who_shown d) w
    at false false true name word = sits_connecting d name word w free
    at false false false name word = sits_quiet d (tell d welcome) (quiet_tell d welcome) w

sits_given : (d : ℕ) (pid : ℤ) (line : List ℕ) (lines : List (List ℕ)) (w : World) → Sits d w.live (given_line d pid line (on_live (waits d lines) w)).live
unfolding given_line
sits_given d pid line lines w = at (is_abort line)
  where
    waited : seats (waits d lines w.live) ≡ seats w.live
    waited = seats_loose (waits d lines) (loose_waits d lines) w.live

    at : (b : Bool) → Sits d w.live (cond b (on_live (tell d program_aborted) (on_queue (process_without pid) (on_live (waits d lines) w))) (on_queue (on_process pid (told_line w.moment line)) (on_live (waits d lines) w))).live
    at true = inl (seats_quiet (tell d program_aborted) (quiet_tell d program_aborted) (waits d lines w.live) ∙ waited)
    at false = inl waited

-- behind the lines that wait
sits_behind : (d : ℕ) (w u v : Live) → seats u ≡ seats w → Sits d u v → Sits d w v
sits_behind d w u v e (inl h) = inl (h ∙ e)
sits_behind d w u v e (inr h) = inr (h.0, subst (IsFree d) e h.1, h.2 ∙ ap (sit d h.0) e)

sits_line : (d : ℕ) (r : Option ℤ) (player : Option Dbref) (editor : Option EditState) (line : List ℕ) (lines : List (List ℕ)) (w : World) → (player ≡ None → IsFree d (seats w.live)) →
    let v = line_for r player editor d line (on_live (waits d lines) w) in LineLicensed d r player editor (line ∷ lines) w v → Sits d w.live v.live
sits_line d (Some pid) player editor line lines w free l = sits_given d pid line lines w
sits_line d None (Some player) editor line lines w free l = inl (seats_ties (actor_of w.live.objects player) w.live.board.connections _ l.0.connections)
sits_line d None None editor line lines w free l =
    let waited : seats (waits d lines w.live) ≡ seats w.live = seats_loose (waits d lines) (loose_waits d lines) w.live in
    sits_behind d w.live (waits d lines w.live) (at_login d line (waits d lines w.live)) waited (sits_at_login d line (waits d lines w.live) (subst (IsFree d) (sym waited) (free refl)))

sits_lines : (d : ℕ) (player : Option Dbref) (editor : Option EditState) (lines : List (List ℕ)) (w : World) → (player ≡ None → IsFree d (seats w.live)) →
    LineLicensed d (reader d w.queue) player editor lines w (line_done d player editor lines w) → Sits d w.live (line_done d player editor lines w).live
sits_lines d player editor [] w free l = inl refl
sits_lines d player editor (line ∷ lines) w free l = sits_line d (reader d w.queue) player editor line lines w free l

sits_done : (d : ℕ) (o : Option Connection) (w : World) → connection d w ≡ o → TurnLicensed d o w (first_line_done d o w) → Sits d w.live (first_line_done d o w).live
unfolding first_line_done
sits_done d None w is l = inl refl
sits_done d (Some c) w is l = sits_lines d c.player c.editor c.waiting w (λ none. free_found d c w.live.board.connections is none) l

pub turns_exec : (d : ℕ) (w : World) (party : ℕ) → IsTold w.live → IsRising w.live.board.connections → IsStill w.live.objects →
    Turns (came_on d (player_in d w.live.board) (happened w party (Exec d)).live) w.live (happened w party (Exec d)).live
turns_exec d w party told rising still = at (sits_done d (connection d w) w refl (exec_licensed d w party told))
  where
    v : Live
    v = (happened w party (Exec d)).live

    stood : (n : ℕ) → stood_in v.objects n ≡ stands_in w.live.objects n
    stood = stood_happened (Exec d) w party still

    at : Sits d w.live v → Turns (came_on d (player_in d w.live.board) v) w.live v
    at (inl e) =
        let same_player : player_in d v.board ≡ player_in d w.live.board = player_is d v.board.connections ∙ ap (seat_at d) e ∙ sym (player_is d w.live.board.connections) in
        subst (λ (t : Turned). Turns t w.live v) (sym (ap (λ o. came_by d (player_in d w.live.board) o v) same_player ∙ came_same d (player_in d w.live.board) v)) (alike_turns w.live v stood e)
    at (inr h) =
        let before : player_in d w.live.board ≡ None = player_is d w.live.board.connections ∙ free_at d (seats w.live) h.1 in
        let now : player_in d v.board ≡ Some h.0 = player_is d v.board.connections ∙ ap (seat_at d) h.2 ∙ sits_at h.0 d (seats w.live) h.1 in
        subst (λ (t : Turned). Turns t w.live v) (sym (ap (λ o. came_by d o (player_in d v.board) v) before ∙ ap (λ o. came_by d None o v) now))
        (sits_turns w.live v stood d h.0 (rises_of w.live.board.connections rising) h.1 h.2)
