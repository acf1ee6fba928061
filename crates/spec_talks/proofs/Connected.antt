-- A connection is there exactly where its latest talk is open.
use Rattle.std.proofs.Common.{◌≡◌, ℕ, ◌<◌, Bool, true, false, ◌||◌, cond, List, [], ◌∷◌, refl, sym, ap, ◌∙◌, subst, Some, None, eqb-true, arith}
use Rattle.std.specs.Prelude.{find, is_some, is_none, nat_lt, ◌==◌}
use Rattle.std.specs.List.{list_any}
use Rattle.std.proofs.lemmas.Bool.Decides.{nat_tests}
use Rattle.muck_laws.proofs.Numbers.{apart_from}
use Rattle.muck_links.specs.Keyed.{altered, latest}
use Rattle.muck_model.specs.declared.event.Entry.{Entry}
use Rattle.muck_model.specs.declared.event.Event.{Event}
use Rattle.muck_model.specs.declared.event.Event.TheVariants.{Opened, Input, Closed, Exec, Slice, Take, Stored, DumpFailed}
use Rattle.spec_live.specs.Connections.{Connection, is_connection, connection_placed, without_connection, newcomer, lined}
use Rattle.spec_live.specs.Saving.{saving_done, due_again}
use Rattle.spec_live.specs.Boards.{Board, player_in, connection_opened, connection_closed, line_added, bytes_taken}
use Rattle.spec_live.specs.Lives.{Live, change_followed, reading, on_board}
use Rattle.spec_commands.specs.Talk.{welcome, player_parted, gone_away}
use Rattle.spec_commands.specs.inner.Rising.{IsAbove, IsRising}
use Rattle.spec_rights.proofs.Shown.{loose_one}
use Rattle.spec_commands.proofs.Numbered.{numbers, seating_quiet}
use Rattle.spec_commands.proofs.Lines.{quiet_parted}
use Rattle.spec_events.specs.World.{World, connection, askers_of, on_live}
use Rattle.spec_events.specs.Dumping.{resaved, dump_stored, dump_failed, told_each}
use Rattle.spec_events.specs.Steps.{happened, effect}
use Rattle.spec_events.specs.Histories.{after, AllLawful}
use Rattle.spec_events.proofs.Quietly.{quietly_loose, quietly_live, quiet_told_each}
use Rattle.spec_events.proofs.Done.{going_quietly, done_going}
use Rattle.spec_events.proofs.Happening.{effect-board}
use Rattle.spec_events.proofs.Taken.{sliced_going}
use Rattle.spec_events.proofs.Passwords.{rising_effect}
use Rattle.spec_talks.specs.Talks.{Talk, talk_begun, talk_of, line_heard, given_out, ended_in, talked, talks_on, talks, is_open, is_talking}

-- Numbers of connections.

-- the connection of this number is there
abbrev pub is_in : ℕ → List Connection → Bool
is_in d cs = is_some (find (is_connection d) cs)

in_numbers : (d : ℕ) (cs : List Connection) → is_in d cs ≡ list_any (λ n. n == d) (numbers cs)
unfolding numbers
in_numbers d [] = refl
in_numbers d (c ∷ cs) = from (is_connection d c) (in_numbers d cs)
  where
    from : (t : Bool) → is_in d cs ≡ list_any (λ n. n == d) (numbers cs) → is_some (cond t (Some c) (find (is_connection d) cs)) ≡ (t || list_any (λ n. n == d) (numbers cs))
    from true e = refl
    from false e = e

-- the numbers alone decide who is there
in_by : (d : ℕ) (cs ds : List Connection) → numbers ds ≡ numbers cs → is_in d ds ≡ is_in d cs
in_by d cs ds e = in_numbers d ds ∙ ap (list_any (λ n. n == d)) e ∙ sym (in_numbers d cs)

in_placed : (d : ℕ) (new : Connection) (cs : List Connection) → is_in d (connection_placed new cs) ≡ cond (new.number == d) true (is_in d cs)
in_placed d new [] = from (new.number == d)
  where
    from : (t : Bool) → is_some (cond t (Some new) None) ≡ cond t true false
    from true = refl
    from false = refl
in_placed d new (c ∷ cs) = by_place (nat_lt new.number c.number) (in_placed d new cs)
  where
    first : (t u : Bool) → is_some (cond t (Some new) (cond u (Some c) (find (is_connection d) cs))) ≡ cond t true (is_some (cond u (Some c) (find (is_connection d) cs)))
    first true u = refl
    first false u = refl

    later : (t u : Bool) → is_in d (connection_placed new cs) ≡ cond t true (is_in d cs) → is_some (cond u (Some c) (find (is_connection d) (connection_placed new cs))) ≡ cond t true (is_some (cond u (Some c) (find (is_connection d) cs)))
    later true true e = refl
    later false true e = refl
    later true false e = e
    later false false e = e

    by_place : (before : Bool) → is_in d (connection_placed new cs) ≡ cond (new.number == d) true (is_in d cs)
        → is_in d (cond before (new ∷ c ∷ cs) (c ∷ connection_placed new cs)) ≡ cond (new.number == d) true (is_some (cond (c.number == d) (Some c) (find (is_connection d) cs)))
    by_place true e = first (new.number == d) (c.number == d)
    by_place false e = later (new.number == d) (c.number == d) e

above_none : (n : ℕ) (cs : List Connection) → IsAbove n cs → is_in n cs ≡ false
above_none n [] h = refl
above_none n (c ∷ cs) h = ap (λ (t : Bool). is_some (cond t (Some c) (find (is_connection n) cs))) (apart c.number n h.0) ∙ above_none n cs h.1
  where
    apart : (m n : ℕ) → n < m → (m == n) ≡ false
    apart m n less = grind (arith, nat_tests)

-- without a connection, which stands there once
in_without : (d gone : ℕ) (cs : List Connection) → IsRising cs → is_in d (without_connection gone cs) ≡ cond (gone == d) false (is_in d cs)
in_without d gone [] h = from (gone == d)
  where
    from : (t : Bool) → false ≡ cond t false false
    from true = refl
    from false = refl
in_without d gone (c ∷ cs) h = by_first (c.number == gone) refl (in_without d gone cs h.1)
  where
    at_it : c.number ≡ gone → (t : Bool) → (gone == d) ≡ t → is_in d cs ≡ cond t false (is_some (cond t (Some c) (find (is_connection d) cs)))
    at_it e true is = above_none d cs (subst (λ (n : ℕ). IsAbove n cs) (e ∙ eqb-true gone d is) h.0)
    at_it e false is = refl

    at_other : is_in d (without_connection gone cs) ≡ cond (gone == d) false (is_in d cs) → (t u : Bool) → (t ≡ true → u ≡ false) → (gone == d) ≡ u
        → is_some (cond t (Some c) (find (is_connection d) (without_connection gone cs))) ≡ cond u false (is_some (cond t (Some c) (find (is_connection d) cs)))
    at_other e true u apart is = sym (ap (λ (b : Bool). cond b false true) (apart refl))
    at_other e false u apart is = e ∙ ap (λ (b : Bool). cond b false (is_in d cs)) is

    by_first : (t : Bool) → (c.number == gone) ≡ t → is_in d (without_connection gone cs) ≡ cond (gone == d) false (is_in d cs)
        → is_in d (cond t cs (c ∷ without_connection gone cs)) ≡ cond (gone == d) false (is_some (cond (c.number == d) (Some c) (find (is_connection d) cs)))
    by_first true is e =
        at_it (eqb-true c.number gone is) (gone == d) refl
        ∙ ap (λ (n : ℕ). cond (gone == d) false (is_some (cond (n == d) (Some c) (find (is_connection d) cs)))) (sym (eqb-true c.number gone is))
    by_first false is e = at_other e (c.number == d) (gone == d) (λ same. apart_from c.number gone d is same) refl

-- Talks.

talking_opened : (d new : ℕ) (ts : List Talk) → is_talking d (talk_begun new ∷ ts) ≡ cond (new == d) true (is_talking d ts)
talking_opened d new ts = from (new == d)
  where
    from : (t : Bool) → is_open (cond t (Some (talk_begun new)) (latest talk_of d ts)) ≡ cond t true (is_talking d ts)
    from true = refl
    from false = refl

-- a change that closes nothing
talking_changed : (d at : ℕ) (f : Talk → Talk) → ((t : Talk) → talk_of (f t) ≡ talk_of t) → ((t : Talk) → (f t).closed ≡ t.closed) → (ts : List Talk) → is_talking d (altered talk_of at f ts) ≡ is_talking d ts
talking_changed d at f number closed [] = refl
talking_changed d at f number closed (t ∷ ts) = from (t.number == at) (talking_changed d at f number closed ts)
  where
    alike : (u : Bool) → is_open (cond u (Some (f t)) (latest talk_of d ts)) ≡ is_open (cond u (Some t) (latest talk_of d ts))
    alike true = ap is_none (closed t)
    alike false = refl

    later : is_talking d (altered talk_of at f ts) ≡ is_talking d ts → (u : Bool) → is_open (cond u (Some t) (latest talk_of d (altered talk_of at f ts))) ≡ is_open (cond u (Some t) (latest talk_of d ts))
    later e true = refl
    later e false = e

    from : (u : Bool) → is_talking d (altered talk_of at f ts) ≡ is_talking d ts → is_talking d (cond u (f t ∷ ts) (t ∷ altered talk_of at f ts)) ≡ is_open (cond (t.number == d) (Some t) (latest talk_of d ts))
    from true e = ap (λ (n : ℕ). is_open (cond (n == d) (Some (f t)) (latest talk_of d ts))) (number t) ∙ alike (t.number == d)
    from false e = later e (t.number == d)

talking_ended : (d gone : ℕ) (w : World) (ts : List Talk) → is_talking d (altered talk_of gone (ended_in w) ts) ≡ cond (gone == d) false (is_talking d ts)
talking_ended d gone w [] = from (gone == d)
  where
    from : (t : Bool) → false ≡ cond t false false
    from true = refl
    from false = refl
talking_ended d gone w (t ∷ ts) = by_first (t.number == gone) refl (talking_ended d gone w ts)
  where
    at_it : (u : Bool) → is_open (cond u (Some (ended_in w t)) (latest talk_of d ts)) ≡ cond u false (is_open (cond u (Some t) (latest talk_of d ts)))
    at_it true = refl
    at_it false = refl

    at_other : is_talking d (altered talk_of gone (ended_in w) ts) ≡ cond (gone == d) false (is_talking d ts) → (u v : Bool) → (u ≡ true → v ≡ false) → (gone == d) ≡ v
        → is_open (cond u (Some t) (latest talk_of d (altered talk_of gone (ended_in w) ts))) ≡ cond v false (is_open (cond u (Some t) (latest talk_of d ts)))
    at_other e true v apart is = sym (ap (λ (b : Bool). cond b false (is_none t.closed)) (apart refl))
    at_other e false v apart is = e ∙ ap (λ (b : Bool). cond b false (is_talking d ts)) is

    by_first : (u : Bool) → (t.number == gone) ≡ u → is_talking d (altered talk_of gone (ended_in w) ts) ≡ cond (gone == d) false (is_talking d ts)
        → is_talking d (cond u (ended_in w t ∷ ts) (t ∷ altered talk_of gone (ended_in w) ts)) ≡ cond (gone == d) false (is_open (cond (t.number == d) (Some t) (latest talk_of d ts)))
    by_first true is e =
        ap (λ (n : ℕ). is_open (cond (n == d) (Some (ended_in w t)) (latest talk_of d ts))) (eqb-true t.number gone is)
        ∙ at_it (gone == d)
        ∙ ap (λ (n : ℕ). cond (gone == d) false (is_open (cond (n == d) (Some t) (latest talk_of d ts)))) (sym (eqb-true t.number gone is))
    by_first false is e = at_other e (t.number == d) (gone == d) (λ same. apart_from t.number gone d is same) refl

-- Entries.

-- the connections that are there are those whose latest talk is open
abbrev Matches : List Connection → List Talk → Type 0
Matches cs ts = (d : ℕ) → is_in d cs ≡ is_talking d ts

-- the same connections by number, and a talk in which nothing was closed
match_same : (cs ds : List Connection) (ts : List Talk) → numbers ds ≡ numbers cs → Matches cs ts → Matches ds ts
match_same cs ds ts e m d = in_by d cs ds e ∙ m d

match_changed : (cs ds : List Connection) (ts : List Talk) (at : ℕ) (f : Talk → Talk) → ((t : Talk) → talk_of (f t) ≡ talk_of t) → ((t : Talk) → (f t).closed ≡ t.closed)
    → numbers ds ≡ numbers cs → Matches cs ts → Matches ds (altered talk_of at f ts)
match_changed cs ds ts at f number closed e m d = in_by d cs ds e ∙ m d ∙ sym (talking_changed d at f number closed ts)

match_opened : (cs : List Connection) (ts : List Talk) (new : Connection) → Matches cs ts → Matches (connection_placed new cs) (talk_begun new.number ∷ ts)
match_opened cs ts new m d = in_placed d new cs ∙ ap (cond (new.number == d) true) (m d) ∙ sym (talking_opened d new.number ts)

gone_numbers : (d : ℕ) (w : Live) → numbers (gone_away d w).board.connections ≡ numbers (without_connection d w.board.connections)
unfolding gone_away reading change_followed connection_closed
gone_numbers d w = ((seating_quiet d (player_parted (player_in d w.board)) (quiet_parted (player_in d w.board))).law (on_board (connection_closed d) w)).numbers

match_closed : (at : ℕ) (v : World) (w : Live) (ts : List Talk) → IsRising w.board.connections → Matches w.board.connections ts → Matches (gone_away at w).board.connections (altered talk_of at (ended_in v) ts)
match_closed at v w ts h m d =
    in_by d (without_connection at w.board.connections) (gone_away at w).board.connections (gone_numbers at w)
    ∙ in_without d at w.board.connections h ∙ ap (cond (at == d) false) (m d) ∙ sym (talking_ended d at v ts)

told_numbers : (ds : List ℕ) (text : List ℕ) (w : World) → numbers (told_each ds text w.live).board.connections ≡ numbers w.live.board.connections
told_numbers ds text w = (going_quietly w _ (quietly_live (told_each ds text) (quiet_told_each ds text) w)).numbers

match_happened : (event : Event) (party : ℕ) (w : World) (ts : List Talk) → IsRising w.live.board.connections → Matches w.live.board.connections ts
    → Matches (happened w party event).live.board.connections (talked w event ts)
unfolding connection_opened line_added bytes_taken
match_happened (Opened d) party w ts h m = match_opened w.live.board.connections ts (newcomer d welcome) m
match_happened (Input d line) party w ts h m =
    match_changed _ _ ts d (line_heard line) (λ t. refl) (λ t. refl) (going_quietly w _ (quietly_loose (on_board (line_added d line)) (loose_one d (lined line) (λ c. refl)) w)).numbers m
match_happened (Closed d) party w ts h m = match_closed d w w.live ts h m
match_happened (Exec d) party w ts h m = match_same _ _ ts (done_going d w (connection d w) refl).numbers m
match_happened (Slice pid) party w ts h m = match_same _ _ ts (sliced_going pid w).numbers m
match_happened (Take d n) party w ts h m =
    match_changed _ _ ts d (given_out _ n) (λ t. refl) (λ t. refl) (going_quietly w _ (quietly_loose (on_board (bytes_taken d n)) (loose_one d _ (λ c. refl)) w)).numbers m
match_happened (Stored k) party w ts h m = match_same _ _ ts (told_numbers (askers_of w.dumps) (dump_stored k) (on_live (resaved saving_done) w)) m
match_happened (DumpFailed k) party w ts h m = match_same _ _ ts (told_numbers (askers_of w.dumps) dump_failed (on_live (resaved due_again) w)) m
match_happened event party w ts h m = m

match_effect : (w : World) (e : Entry) (ts : List Talk) → IsRising w.live.board.connections → Matches w.live.board.connections ts → Matches (effect w e).live.board.connections (talked w e.event ts)
match_effect w e ts h m = subst (λ (b : Board). Matches b.connections (talked w e.event ts)) (sym (effect-board w e)) (match_happened e.event e.party w ts h m)

match_after : (w : World) (h : List Entry) (ts : List Talk) → IsRising w.live.board.connections → AllLawful w h → Matches w.live.board.connections ts → Matches (after w h).live.board.connections (talks_on w ts h)
match_after w [] ts r l m = m
match_after w (e ∷ es) ts r l m = match_after (effect w e) es (talked w e.event ts) (rising_effect w e l.0 r) l.1 (match_effect w e ts r m)

-- In a lawful history that begins where nobody is connected, a connection is there exactly where its latest talk is open.
pub connected : (w : World) (h : List Entry) → w.live.board.connections ≡ [] → AllLawful w h → (d : ℕ) → is_some (connection d (after w h)) ≡ is_talking d (talks w h)
unfolding talks
connected w h nobody l = match_after w h [] (subst IsRising (sym nobody) tt) l (λ d. ap (is_in d) nobody)
