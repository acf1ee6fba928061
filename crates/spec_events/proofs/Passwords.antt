-- A connection gets its player by the player's password alone.
use Rattle.std.proofs.Common.{◌≡◌, ℕ, ◌<◌, ℤ, Bool, true, false, cond, List, [], ◌∷◌, refl, sym, ◌∙◌, ap, arith, Option, Some, None, inl, inr, ◌⊎◌, ◌≢◌, ◌==◌, subst}
use Rattle.std.proofs.lemmas.Bool.Decides.{nat_tests}
use Rattle.std.proofs.lemmas.Option.{none-some}
use Rattle.std.proofs.lemmas.List.Elements.{All-head, All-tail}
use Rattle.std.specs.Prelude.{All, find, codes, ltb}
use Rattle.std.specs.Option.{option_map, option_and_then}
use Rattle.muck_laws.proofs.Numbers.{apart, less_apart, other_apart, same_numbers}
use Rattle.muck_model.specs.declared.dbref.Dbref.{Dbref}
use Rattle.muck_model.specs.declared.tune.Tune.{Tune}
use Rattle.muck_model.specs.declared.edit.EditState.{EditState}
use Rattle.muck_model.specs.declared.event.Entry.{Entry}
use Rattle.muck_model.specs.declared.event.Event.{Event}
use Rattle.muck_model.specs.declared.event.Event.TheVariants.{Opened, Input, Closed, Exec, Slice, Take, Stored, DumpFailed, Died}
use Rattle.spec_live.specs.Objects.{Entry as Kept, mark_in, nothing}
use Rattle.spec_live.specs.Connections.{Connection, is_connection, changed_in, connection_placed, without_connection, left, player_seated, newcomer}
use Rattle.spec_live.specs.Saving as saving
use Rattle.spec_live.specs.Boards.{Board, player_in, connection_opened, connection_closed, line_added, bytes_taken, seated_one, leaving_one, early_board}
use Rattle.spec_live.specs.Lives.{Live, Change, change_followed, reading, either, tell, leave, enter, on_board}
use Rattle.spec_rights.specs.declared.act.Actor.{Actor}
use Rattle.spec_live.proofs.Lives.{Loose, loose_quiet}
use Rattle.spec_rights.proofs.Licences.{Quiet, ties_same}
use Rattle.spec_rights.proofs.Shown.{quiet_tell, quiet_one, loose_one}
use Rattle.spec_commands.specs.Texts.{first_word, other_words, trimmed, is_alike}
use Rattle.spec_commands.specs.Replies.{goodbye}
use Rattle.spec_commands.specs.Finding.{actor_of}
use Rattle.spec_commands.specs.Talking.{who_shown}
use Rattle.spec_commands.specs.Talk.{welcome, refused_login, proved, let_in, logged_in, connecting, quit, at_login, waits, player_parted, gone_away}
use Rattle.spec_commands.specs.inner.Rising.{IsAbove, IsRising}
use Rattle.spec_commands.proofs.Showing.{quiet_who_shown, loose_waits}
use Rattle.spec_commands.proofs.Lines.{quiet_parted}
use Rattle.muck_queue.specs.Queues.{reader, without_process as process_without, on_process, told_line}
use Rattle.spec_events.specs.World.{World, connection, starting_world, world_booted, askers_of, on_live, on_queue}
use Rattle.spec_events.specs.Dumping.{resaved, dump_stored, dump_failed, told_each}
use Rattle.spec_events.specs.Lines.{program_aborted, is_abort, given_line, line_for, line_done, first_line_done}
use Rattle.spec_events.specs.Slices.{Taken, after_unit, last_world, process_awake, units_of}
use Rattle.spec_events.specs.Steps.{is_died, is_allowed, is_lawful, happened, effect}
use Rattle.spec_events.specs.Licences.{LineLicensed, TurnLicensed, UnitLicensed, answering, Chained, SliceLicensed, EventLicensed}
use Rattle.spec_events.specs.Histories.{after, AllLawful, AllLicensed}
use Rattle.spec_events.specs.Passwords.{credentials, Proves, StaysOpen, IsKnown, AllKnown}
use Rattle.spec_events.proofs.Knowing.{has_password}
use Rattle.spec_events.proofs.Quietly.{quiet_told_each}
use Rattle.spec_events.proofs.Login.{greeted, greeted_open}
use Rattle.spec_events.proofs.Done.{player-same_ties}
use Rattle.spec_events.proofs.Happening.{effect-board}
use Rattle.spec_events.proofs.Reached.{rising-happened}
use Rattle.spec_events.proofs.Turns.{all_licensed_booted, all_licensed_starting}

abbrev player_found : ℕ → List Connection → Option Dbref
player_found d cs = option_and_then (λ (c : Connection). c.player) (find (is_connection d) cs)

-- What shows only keeps who is who.

kept_loose : (d : ℕ) (f : Change) → Loose f → (w : Live) → player_in d (f w).board ≡ player_in d w.board
kept_loose d f q w =
    let a : Actor = record { level = 0; user = nothing; player = nothing } in
    player-same_ties a d w.board.connections (f w).board.connections (ties_same a w.board.connections (f w).board.connections (q.law w).ties)

kept_quiet : (d : ℕ) (f : Change) → Quiet f → (w : Live) → player_in d (f w).board ≡ player_in d w.board
kept_quiet d f q w = kept_loose d f (loose_quiet f q) w

kept_changed : (e d : ℕ) (f : Connection → Connection) → ((c : Connection) → (f c).number ≡ c.number) → ((c : Connection) → (f c).player ≡ c.player) → (cs : List Connection) → player_found e (changed_in d f cs) ≡ player_found e cs
kept_changed e d f number player [] = refl
kept_changed e d f number player (c ∷ cs) = at (is_connection d c) (kept_changed e d f number player cs)
  where
    here : (q : Bool) → option_and_then (λ (c : Connection). c.player) (cond q (Some (f c)) (find (is_connection e) cs)) ≡ option_and_then (λ (c : Connection). c.player) (cond q (Some c) (find (is_connection e) cs))
    here true = player c
    here false = refl

    there : (q : Bool) → player_found e (changed_in d f cs) ≡ player_found e cs →
        option_and_then (λ (c : Connection). c.player) (cond q (Some c) (find (is_connection e) (changed_in d f cs))) ≡ option_and_then (λ (c : Connection). c.player) (cond q (Some c) (find (is_connection e) cs))
    there true h = refl
    there false h = h

    at : (b : Bool) → player_found e (changed_in d f cs) ≡ player_found e cs → player_found e (cond b (f c ∷ cs) (c ∷ changed_in d f cs)) ≡ player_found e (c ∷ cs)
    at true h = ap (λ n. option_and_then (λ (c : Connection). c.player) (cond (n == e) (Some (f c)) (find (is_connection e) cs))) (number c) ∙ here (c.number == e)
    at false h = there (c.number == e) h

-- Connections that come, get a player, or go.

seated_found : (e d : ℕ) (player p : Dbref) (cs : List Connection) → player_found e (changed_in d (player_seated player) cs) ≡ Some p → (player_found e cs ≡ Some p) ⊎ ((e ≡ d) × (p ≡ player))
seated_found e d player p [] h = inl h
seated_found e d player p (c ∷ cs) h = at (c.number == d) refl (seated_found e d player p cs) h
  where
    here : (q : Bool) → (c.number == e) ≡ q → (c.number == d) ≡ true → option_and_then (λ (c : Connection). c.player) (cond q (Some (player_seated player c)) (find (is_connection e) cs)) ≡ Some p →
        (option_and_then (λ (c : Connection). c.player) (cond q (Some c) (find (is_connection e) cs)) ≡ Some p) ⊎ ((e ≡ d) × (p ≡ player))
    here true s r k = let one : p ≡ player = cc in inr (same_numbers c.number e d s r, one)
    here false s r k = inl k

    there : (q : Bool) → (player_found e (changed_in d (player_seated player) cs) ≡ Some p → (player_found e cs ≡ Some p) ⊎ ((e ≡ d) × (p ≡ player))) →
        option_and_then (λ (c : Connection). c.player) (cond q (Some c) (find (is_connection e) (changed_in d (player_seated player) cs))) ≡ Some p →
        (option_and_then (λ (c : Connection). c.player) (cond q (Some c) (find (is_connection e) cs)) ≡ Some p) ⊎ ((e ≡ d) × (p ≡ player))
    there true next k = inl k
    there false next k = next k

    at : (b : Bool) → (c.number == d) ≡ b → (player_found e (changed_in d (player_seated player) cs) ≡ Some p → (player_found e cs ≡ Some p) ⊎ ((e ≡ d) × (p ≡ player))) →
        player_found e (cond b (player_seated player c ∷ cs) (c ∷ changed_in d (player_seated player) cs)) ≡ Some p → (player_found e (c ∷ cs) ≡ Some p) ⊎ ((e ≡ d) × (p ≡ player))
    at true r next k = here (c.number == e) refl r k
    at false r next k = there (c.number == e) next k

placed_found : (e d : ℕ) (greeting : List ℕ) (p : Dbref) (cs : List Connection) → player_found e (connection_placed (newcomer d greeting) cs) ≡ Some p → player_found e cs ≡ Some p
placed_found e d greeting p [] h = at (d == e) h
  where
    at : (q : Bool) → option_and_then (λ (c : Connection). c.player) (cond q (Some (newcomer d greeting)) None) ≡ Some p → ◌≡◌ {A = Option Dbref} None (Some p)
    at true k = k
    at false k = k
placed_found e d greeting p (c ∷ cs) h = at (ltb d c.number) (placed_found e d greeting p cs) h
  where
    new : (q : Bool) → option_and_then (λ (c : Connection). c.player) (cond q (Some (newcomer d greeting)) (find (is_connection e) (c ∷ cs))) ≡ Some p → player_found e (c ∷ cs) ≡ Some p
    new true k = absurd (none-some p k)
    new false k = k

    there : (q : Bool) → (player_found e (connection_placed (newcomer d greeting) cs) ≡ Some p → player_found e cs ≡ Some p) →
        option_and_then (λ (c : Connection). c.player) (cond q (Some c) (find (is_connection e) (connection_placed (newcomer d greeting) cs))) ≡ Some p →
        option_and_then (λ (c : Connection). c.player) (cond q (Some c) (find (is_connection e) cs)) ≡ Some p
    there true next k = k
    there false next k = next k

    at : (b : Bool) → (player_found e (connection_placed (newcomer d greeting) cs) ≡ Some p → player_found e cs ≡ Some p) →
        player_found e (cond b (newcomer d greeting ∷ c ∷ cs) (c ∷ connection_placed (newcomer d greeting) cs)) ≡ Some p → player_found e (c ∷ cs) ≡ Some p
    at true next k = new (d == e) k
    at false next k = there (c.number == e) next k

above_found : (n e : ℕ) (p : Dbref) (cs : List Connection) → IsAbove n cs → player_found e cs ≡ Some p → n < e
above_found n e p [] a h = absurd (none-some p h)
above_found n e p (c ∷ cs) a h = at (c.number == e) refl (above_found n e p cs a.1) h
  where
    at : (q : Bool) → (c.number == e) ≡ q → (player_found e cs ≡ Some p → n < e) → option_and_then (λ (c : Connection). c.player) (cond q (Some c) (find (is_connection e) cs)) ≡ Some p → n < e
    at true s next k = above c.number e a.0 s
      where
        above : (m e : ℕ) → n < m → (m == e) ≡ true → n < e
        above m e less s = grind (arith, nat_tests)
    at false s next k = next k

without_found : (e d : ℕ) (p : Dbref) (cs : List Connection) → IsRising cs → player_found e (without_connection d cs) ≡ Some p → (player_found e cs ≡ Some p) × (d ≢ e)
without_found e d p [] r h = absurd (none-some p h)
without_found e d p (c ∷ cs) r h = at (c.number == d) refl (without_found e d p cs r.1) h
  where
    gone : (c.number == d) ≡ true → player_found e cs ≡ Some p → (player_found e (c ∷ cs) ≡ Some p) × (d ≢ e)
    gone s k =
        let less : c.number < e = above_found c.number e p cs r.0 k in
        (ap (λ b. option_and_then (λ (c : Connection). c.player) (cond b (Some c) (find (is_connection e) cs))) (apart c.number e less) ∙ k, less_apart c.number d e s less)

    there : (q : Bool) → (c.number == e) ≡ q → (c.number == d) ≡ false → (player_found e (without_connection d cs) ≡ Some p → (player_found e cs ≡ Some p) × (d ≢ e)) →
        option_and_then (λ (c : Connection). c.player) (cond q (Some c) (find (is_connection e) (without_connection d cs))) ≡ Some p →
        (option_and_then (λ (c : Connection). c.player) (cond q (Some c) (find (is_connection e) cs)) ≡ Some p) × (d ≢ e)
    there true s r next k = (k, other_apart c.number d e r s)
    there false s r next k = next k

    at : (b : Bool) → (c.number == d) ≡ b → (player_found e (without_connection d cs) ≡ Some p → (player_found e cs ≡ Some p) × (d ≢ e)) →
        player_found e (cond b cs (c ∷ without_connection d cs)) ≡ Some p → (player_found e (c ∷ cs) ≡ Some p) × (d ≢ e)
    at true s next k = gone s k
    at false s next k = there (c.number == e) refl s next k

-- The login screen.

-- who has that player afterwards had it before, or is the connection d and gave these credentials of that player
abbrev Gives : ℕ → Option (List ℕ × List ℕ) → Live → Live → Type 0
Gives d given w v = (e : ℕ) (p : Dbref) → player_in e v.board ≡ Some p → (player_in e w.board ≡ Some p) ⊎ ((e ≡ d) × (n : List ℕ × List ℕ) × (given ≡ Some n) × (proved n.0 n.1 w.objects ≡ Some p))

gives_quiet : (d : ℕ) (given : Option (List ℕ × List ℕ)) (f : Change) → Quiet f → (w : Live) → Gives d given w (f w)
gives_quiet d given f q w e p h = inl (sym (kept_quiet e f q w) ∙ h)

gives_quit : (d : ℕ) (given : Option (List ℕ × List ℕ)) (w : Live) → Gives d given w (quit d w)
unfolding quit change_followed leave leaving_one
gives_quit d given w e p h =
    inl (sym (kept_quiet e (tell d goodbye) (quiet_tell d goodbye) w) ∙ (sym (kept_changed e d left (λ c. refl) (λ c. refl) (tell d goodbye w).board.connections) ∙ h))

kept_greeted : (e d : ℕ) (player : Dbref) (a : Actor) (w : Live) → player_in e (greeted d player a w).board ≡ player_in e w.board
kept_greeted e d player a w = player-same_ties a e w.board.connections (greeted d player a w).board.connections (greeted_open d player a w).connections

gives_entered : (d : ℕ) (name word : List ℕ) (player : Dbref) (w : Live) → proved name word w.objects ≡ Some player → Gives d (Some (name, word)) w (let_in d (Some player) w)
unfolding change_followed reading enter seated_one
gives_entered d name word player w is e p h =
    elim (seated_found e d player p w.board.connections (sym (kept_greeted e d player (actor_of w.objects player) (enter d player w)) ∙ h)) [
      | inl k ↦ inl k
      | inr k ↦ inr (k.0, (name, word), refl, is ∙ ap Some (sym k.1))
    ]

gives_logged_in : (d : ℕ) (name word : List ℕ) (w : Live) → Gives d (Some (name, word)) w (logged_in d name word w)
unfolding logged_in reading
gives_logged_in d name word w = at (proved name word w.objects) refl
  where
    at : (o : Option Dbref) → proved name word w.objects ≡ o → Gives d (Some (name, word)) w (let_in d o w)
    at None is = gives_quiet d (Some (name, word)) (tell d refused_login) (quiet_tell d refused_login) w
    at (Some player) is = gives_entered d name word player w is

gives_connecting : (d : ℕ) (name word : List ℕ) (w : Live) → Gives d (Some (name, word)) w (connecting d name word w)
unfolding connecting
gives_connecting d name [] w = gives_quiet d (Some (name, [])) (tell d welcome) (quiet_tell d welcome) w
gives_connecting d name (b ∷ word) w = gives_logged_in d name (b ∷ word) w

gives_at_login : (d : ℕ) (line : List ℕ) (w : Live) → Gives d (credentials line) w (at_login d line w)
unfolding at_login credentials either
gives_at_login d line w =
    let text = trimmed line in
    let rest = trimmed (other_words text) in
    at (is_alike text (codes "QUIT")) (is_alike text (codes "WHO")) (is_alike (first_word text) (codes "connect")) (first_word rest) (trimmed (other_words rest))
  where
    at : (quits asks connects : Bool) (name word : List ℕ) → Gives d (cond connects (Some (name, word)) None) w
        (cond quits (quit d w) (cond asks (who_shown d w) (cond connects (connecting d name word w) (tell d welcome w))))
    at true asks connects name word = gives_quit d _ w
    at false true connects name word = gives_quiet d _ _ (quiet_who_shown d) w
    at false false true name word = gives_connecting d name word w
    at false false false name word = gives_quiet d _ (tell d welcome) (quiet_tell d welcome) w

-- Lines.

-- who has that player afterwards had it before, or does a line that proves it
abbrev Gains : ℕ → World → World → Type 0
Gains d w v = (e : ℕ) (p : Dbref) → player_in e v.live.board ≡ Some p → (player_in e w.live.board ≡ Some p) ⊎ ((d ≡ e) × Proves e p w)

gains_given : (d : ℕ) (pid : ℤ) (line : List ℕ) (lines : List (List ℕ)) (w : World) → Gains d w (given_line d pid line (on_live (waits d lines) w))
unfolding given_line
gains_given d pid line lines w e p = at (is_abort line)
  where
    waited : player_in e (waits d lines w.live).board ≡ player_in e w.live.board
    waited = kept_loose e (waits d lines) (loose_waits d lines) w.live

    at : (b : Bool) → player_in e (cond b (on_live (tell d program_aborted) (on_queue (process_without pid) (on_live (waits d lines) w))) (on_queue (on_process pid (told_line w.moment line)) (on_live (waits d lines) w))).live.board ≡ Some p →
        (player_in e w.live.board ≡ Some p) ⊎ ((d ≡ e) × Proves e p w)
    at true h = inl (sym waited ∙ (sym (kept_quiet e (tell d program_aborted) (quiet_tell d program_aborted) (waits d lines w.live)) ∙ h))
    at false h = inl (sym waited ∙ h)

gains_login : (d : ℕ) (line : List ℕ) (lines : List (List ℕ)) (w : World) → option_map (λ c. c.waiting) (connection d w) ≡ Some (line ∷ lines) → Gains d w (on_live (at_login d line) (on_live (waits d lines) w))
unfolding waits
gains_login d line lines w first e p h =
    elim (gives_at_login d line (waits d lines w.live) e p h) [
      | inl k ↦ inl (sym (kept_loose e (waits d lines) (loose_waits d lines) w.live) ∙ k)
      | inr k ↦ inr (sym k.0, subst (λ n. Proves n p w) (sym k.0) (record { line = line; lines = lines; waits = first; name = k.1.0; password = k.1.1; gives = k.2; proves = has_password k.1.0 k.1.1 w.live.objects p k.3 }))
    ]

gains_line : (d : ℕ) (r : Option ℤ) (player : Option Dbref) (editor : Option EditState) (line : List ℕ) (lines : List (List ℕ)) (w : World) →
    option_map (λ c. c.waiting) (connection d w) ≡ Some (line ∷ lines) →
    let v = line_for r player editor d line (on_live (waits d lines) w) in LineLicensed d r player editor (line ∷ lines) w v → Gains d w v
gains_line d (Some pid) player editor line lines w first l = gains_given d pid line lines w
gains_line d None (Some player) editor line lines w first l = λ e p h. inl (sym (player-same_ties (actor_of w.live.objects player) e _ _ l.0.connections) ∙ h)
gains_line d None None editor line lines w first l = gains_login d line lines w first

gains_lines : (d : ℕ) (player : Option Dbref) (editor : Option EditState) (lines : List (List ℕ)) (w : World) → option_map (λ c. c.waiting) (connection d w) ≡ Some lines →
    LineLicensed d (reader d w.queue) player editor lines w (line_done d player editor lines w) → Gains d w (line_done d player editor lines w)
gains_lines d player editor [] w first l = λ e p h. inl h
gains_lines d player editor (line ∷ lines) w first l = gains_line d (reader d w.queue) player editor line lines w first l

gains_done : (d : ℕ) (o : Option Connection) (w : World) → connection d w ≡ o → TurnLicensed d o w (first_line_done d o w) → Gains d w (first_line_done d o w)
unfolding first_line_done
gains_done d None w is l = λ e p h. inl h
gains_done d (Some c) w is l = gains_lines d c.player c.editor c.waiting w (ap (λ o. option_map (λ (c : Connection). c.waiting) o) is) l

-- Slices.

chain_kept : (pid : ℤ) (e : ℕ) (w : World) (ts : List Taken) → All (UnitLicensed pid) ts → Chained pid w ts → player_in e (last_world w ts).live.board ≡ player_in e w.live.board
chain_kept pid e w [] us cs = refl
chain_kept pid e w (t ∷ ts) us cs =
    let u : UnitLicensed pid t = All-head (UnitLicensed pid) t ts us in
    chain_kept pid e (after_unit t) ts (All-tail (UnitLicensed pid) t ts us) cs.1
    ∙ (player-same_ties (answering t) e t.before.live.board.connections (after_unit t).live.board.connections u.0.connections ∙ ap (λ (v : World). player_in e v.live.board) cs.0.world)

slice_kept : (pid : ℤ) (e : ℕ) (ts : List Taken) (w v : World) → SliceLicensed pid ts w v → player_in e v.live.board ≡ player_in e w.live.board
slice_kept pid e ts w v s = ap (λ (l : Live). player_in e l.board) s.leads ∙ chain_kept pid e (process_awake pid w) ts s.units s.chained

-- Closing.

closed_found : (e d : ℕ) (p : Dbref) (w : Live) → IsRising w.board.connections → player_in e (gone_away d w).board ≡ Some p → (player_in e w.board ≡ Some p) × (d ≢ e)
unfolding gone_away reading change_followed connection_closed
closed_found e d p w r h =
    let away = player_parted (player_in d w.board) in
    without_found e d p w.board.connections r (sym (kept_quiet e away (quiet_parted (player_in d w.board)) (on_board (connection_closed d) w)) ∙ h)

-- Events.

abbrev HasGained : Event → World → World → Type 0
HasGained event w v = (e : ℕ) (p : Dbref) → player_in e v.live.board ≡ Some p → ((player_in e w.live.board ≡ Some p) × (event ≢ Closed e)) ⊎ ((event ≡ Exec e) × Proves e p w)

gained_exec : (d : ℕ) (w v : World) → Gains d w v → HasGained (Exec d) w v
gained_exec d w v g e p h = elim (g e p h) [
  | inl k ↦ inl (k, λ x. cc)
  | inr k ↦ inr (ap Exec k.0, k.1)
]

gained : (event : Event) (party : ℕ) (w : World) → IsRising w.live.board.connections → EventLicensed event w (happened w party event) → HasGained event w (happened w party event)
unfolding connection_opened line_added bytes_taken
gained (Exec d) party w r l = gained_exec d w (happened w party (Exec d)) (gains_done d (connection d w) w refl l)
gained (Slice pid) party w r l = λ e p h. inl (sym (slice_kept pid e (units_of pid w) w (happened w party (Slice pid)) l) ∙ h, λ x. cc)
gained (Closed d) party w r l = λ e p h. let k = closed_found e d p w.live r h in inl (k.0, λ x. k.1 cc)
gained (Opened d) party w r l = λ e p h. inl (placed_found e d welcome p w.live.board.connections h, λ x. cc)
gained (Input d line) party w r l = λ e p h. inl (sym (kept_loose e (on_board (line_added d line)) (loose_one d _ (λ c. refl)) w.live) ∙ h, λ x. cc)
gained (Take d n) party w r l = λ e p h. inl (sym (kept_quiet e (on_board (bytes_taken d n)) (quiet_one d _ (λ c. refl)) w.live) ∙ h, λ x. cc)
gained (Stored k) party w r l = λ e p h. inl (sym (kept_quiet e (told_each (askers_of w.dumps) (dump_stored k)) (quiet_told_each (askers_of w.dumps) (dump_stored k)) (resaved saving.saving_done w.live)) ∙ h, λ x. cc)
gained (DumpFailed k) party w r l = λ e p h. inl (sym (kept_quiet e (told_each (askers_of w.dumps) dump_failed) (quiet_told_each (askers_of w.dumps) dump_failed) (resaved saving.due_again w.live)) ∙ h, λ x. cc)
gained event party w r l = λ e p h. inl (h, λ x. cc)

-- Histories.

rising_event : (event : Event) (party : ℕ) (w : World) (dead : Bool) → cond dead (is_died event) (is_allowed w party event) ≡ true → IsRising w.live.board.connections → IsRising (happened w party event).live.board.connections
rising_event Died party w dead a r = r
rising_event event party w true a r = absurd cc
rising_event event party w false a r = rising-happened event party w a r

pub rising_effect : (w : World) (entry : Entry) → is_lawful w entry ≡ true → IsRising w.live.board.connections → IsRising (effect w entry).live.board.connections
unfolding is_lawful
rising_effect w entry l r = subst (λ (b : Board). IsRising b.connections) (sym (effect-board w entry)) (rising_event entry.event entry.party w w.dead l r)

known : (w : World) (entries : List Entry) → IsRising w.live.board.connections → AllLawful w entries → AllLicensed w entries → (d : ℕ) (p : Dbref) → player_in d (after w entries).live.board ≡ Some p →
    ((player_in d w.live.board ≡ Some p) × StaysOpen d entries) ⊎ IsKnown w entries d p
known w [] r l m d p h = inl (h, tt)
known w (entry ∷ entries) r l m d p h =
    elim (known (effect w entry) entries (rising_effect w entry l.0 r) l.1 m.1 d p h) [
      | inl k ↦ elim (gained entry.event entry.party w r m.0.0 d p (ap (player_in d) (sym (effect-board w entry)) ∙ k.0)) [
        | inl g ↦ inl (g.0, (g.1, k.1))
        | inr g ↦ inr (inl (g.0, g.1, k.1))
      ]
      | inr k ↦ inr (inr k)
    ]

rising_starting : IsRising starting_world.live.board.connections
unfolding starting_world world_booted early_board
rising_starting = tt

nobody_starts : (d : ℕ) (p : Dbref) → player_in d starting_world.live.board ≡ Some p → ⊥
unfolding starting_world world_booted early_board
nobody_starts d p h = none-some p h

-- in each history from the starting world
pub all_known_starting : (es : List Entry) → AllLawful starting_world es → AllKnown starting_world es
all_known_starting es l d p h =
    elim (known starting_world es rising_starting l (all_licensed_starting es) d p h) [
      | inl k ↦ absurd (nobody_starts d p k.0)
      | inr k ↦ k
    ]

rising_booted : (objects : List Kept) (tune : Tune) (moment start : ℕ) → IsRising (world_booted objects tune moment start).live.board.connections
unfolding world_booted early_board
rising_booted objects tune moment start = tt

nobody_boots : (objects : List Kept) (tune : Tune) (moment start : ℕ) (d : ℕ) (p : Dbref) → player_in d (world_booted objects tune moment start).live.board ≡ Some p → ⊥
unfolding world_booted early_board
nobody_boots objects tune moment start d p h = none-some p h

-- and from any world that was booted with objects of which nothing is to be told
pub all_known_booted : (objects : List Kept) (tune : Tune) (moment start : ℕ) → ((n : ℕ) → mark_in objects n ≡ None) → (es : List Entry) → AllLawful (world_booted objects tune moment start) es → AllKnown (world_booted objects tune moment start) es
all_known_booted objects tune moment start none es l d p h =
    elim (known (world_booted objects tune moment start) es (rising_booted objects tune moment start) l (all_licensed_booted objects tune moment start none es) d p h) [
      | inl k ↦ absurd (nobody_boots objects tune moment start d p k.0)
      | inr k ↦ k
    ]
