-- Each process that is tied to a connection has it.
use Rattle.std.proofs.Common.{◌≡◌, ◌⊎◌, ℕ, ℤ, Bool, true, false, not, ◌||◌, cond, List, [], ◌∷◌, refl, sym, ◌∙◌, ap, subst, arith, Option, Some, None, inl, inr}
use Rattle.std.specs.Prelude.{find, is_some, nat_lt, ◌==◌}
use Rattle.std.specs.List.{filter, list_any}
use Rattle.std.specs.Option.{option_map_or}
use Rattle.std.proofs.lemmas.Bool.Decides.{nat_tests}
use Rattle.muck_model.specs.declared.dbref.Dbref.{Dbref}
use Rattle.muck_model.specs.declared.event.Entry.{Entry}
use Rattle.muck_model.specs.declared.event.Event.{Event}
use Rattle.muck_model.specs.declared.event.Event.TheVariants.{Opened, Input, Closed, Exec, Slice, Take, Cut, Stored, DumpFailed}
use Rattle.spec_live.specs.Connections.{Connection, is_connection, connection_placed, without_connection, newcomer, lined}
use Rattle.spec_live.specs.Saving.{saving_done, due_again}
use Rattle.spec_live.specs.Boards.{player_in, connection_opened, connection_closed, line_added, bytes_taken}
use Rattle.spec_live.specs.Lives.{Live, change_followed, reading, on_board}
use Rattle.muck_queue.specs.declared.process.Process.{Process}
use Rattle.muck_queue.specs.Queues.{Queue, is_tied_to, ended_tied}
use Rattle.spec_commands.specs.Talk.{welcome, player_parted, gone_away}
use Rattle.spec_rights.proofs.Shown.{loose_one}
use Rattle.spec_commands.proofs.Numbered.{numbers, seating_quiet}
use Rattle.spec_commands.proofs.Lines.{quiet_parted}
use Rattle.spec_events.specs.declared.starting.Call.{Call as Started}
use Rattle.spec_events.specs.World.{World, connection, askers_of, on_live}
use Rattle.spec_events.specs.Dumping.{resaved, dump_stored, dump_failed, told_each}
use Rattle.spec_events.specs.Starting.{by_hook, new_process, program_begun}
use Rattle.spec_events.specs.Steps.{happened, effect}
use Rattle.spec_events.specs.Slices.{units_of}
use Rattle.spec_events.specs.Sourced.{Each}
use Rattle.spec_events.proofs.Quietly.{quietly_loose, quietly_live, quiet_told_each}
use Rattle.spec_events.proofs.Done.{going_quietly, done_going}
use Rattle.spec_events.proofs.Happening.{effect-keeps}
use Rattle.spec_events.proofs.Sourcing.{each_more}
use Rattle.spec_events.proofs.Begun.{live_begun}
use Rattle.spec_events.proofs.Taken.{sliced_going}
use Rattle.spec_origins.specs.Origins.{From, was_there, is_new, Comes, LineOrigins, TurnOrigins, EventOrigins, no_own_process, StartedIn, LostIn, is_connection_there, AreTied}
use Rattle.spec_origins.proofs.Going.{each_among, from_itself, holds_begun}

-- Which connections are there.

abbrev is_in : ℕ → List Connection → Bool
is_in d cs = is_some (find (is_connection d) cs)

in_numbers : (d : ℕ) (cs : List Connection) → is_in d cs ≡ list_any (λ n. n == d) (numbers cs)
unfolding numbers
in_numbers d [] = refl
in_numbers d (c ∷ cs) = from (is_connection d c) (in_numbers d cs)
  where
    from : (t : Bool) → is_in d cs ≡ list_any (λ n. n == d) (numbers cs) → is_some (cond t (Some c) (find (is_connection d) cs)) ≡ (t || list_any (λ n. n == d) (numbers cs))
    from true e = refl
    from false e = e

-- the numbers alone decide
in_by : (d : ℕ) (cs ds : List Connection) → numbers ds ≡ numbers cs → is_in d cs ≡ true → is_in d ds ≡ true
in_by d cs ds e h = in_numbers d ds ∙ ap (list_any (λ n. n == d)) e ∙ sym (in_numbers d cs) ∙ h

in_placed : (d : ℕ) (new : Connection) (cs : List Connection) → is_in d cs ≡ true → is_in d (connection_placed new cs) ≡ true
in_placed d new [] h = absurd cc
in_placed d new (c ∷ cs) h = by_place (nat_lt new.number c.number) h (in_placed d new cs)
  where
    first : (t : Bool) → is_in d (c ∷ cs) ≡ true → is_some (cond t (Some new) (find (is_connection d) (c ∷ cs))) ≡ true
    first true h = refl
    first false h = h

    later : (u : Bool) → is_some (cond u (Some c) (find (is_connection d) cs)) ≡ true → (is_in d cs ≡ true → is_in d (connection_placed new cs) ≡ true) → is_some (cond u (Some c) (find (is_connection d) (connection_placed new cs))) ≡ true
    later true h k = refl
    later false h k = k h

    by_place : (before : Bool) → is_in d (c ∷ cs) ≡ true → (is_in d cs ≡ true → is_in d (connection_placed new cs) ≡ true) → is_in d (cond before (new ∷ c ∷ cs) (c ∷ connection_placed new cs)) ≡ true
    by_place true h k = first (new.number == d) h
    by_place false h k = later (is_connection d c) h k

-- Processes.

abbrev IsTied : (ℕ → Bool) → Option ℕ → Type 0
IsTied there o = option_map_or there o true ≡ true

tied_more : (was there : ℕ → Bool) → ((d : ℕ) → was d ≡ true → there d ≡ true) → (o : Option ℕ) → IsTied was o → IsTied there o
tied_more was there k None h = refl
tied_more was there k (Some d) h = k d h

tied_later : (there : ℕ → Bool) (p q : Option ℕ) → (q ≡ p) ⊎ (q ≡ None) → IsTied there p → IsTied there q
tied_later there p q (inl e) h = subst (IsTied there) (sym e) h
tied_later there p q (inr n) h = subst (IsTied there) (sym n) refl

module _ (was there : ℕ → Bool) (keeps : (d : ℕ) → was d ≡ true → there d ≡ true) (own : ℤ → Bool) (sends : Bool) (Lost : Dbref → Type 0) (New : Process → Type 0) (new : (q : Process) → New q → IsTied there q.descr) where
  tied_from : (ps : List Process) (q : Process) → Each (λ p. IsTied was p.descr) ps → From own sends Lost New ps q → IsTied there q.descr
  tied_from ps q h (was_there p a g s) = tied_later there p.descr q.descr g.tied (tied_more was there keeps p.descr (each_among (λ p. IsTied was p.descr) p ps a h))
  tied_from ps q h (is_new n) = new q n

  tied_comes : (q r : Queue) → Each (λ p. IsTied was p.descr) q.processes → Comes own sends Lost New q r → Each (λ p. IsTied there p.descr) r.processes
  tied_comes q r h c = each_more (From own sends Lost New q.processes) (λ p. IsTied there p.descr) (λ p k. tied_from q.processes p h k) r.processes c.processes

-- Lines.

found_there : (d : ℕ) (w : World) (c : Connection) → connection d w ≡ Some c → is_connection_there w d ≡ true
found_there d w c e = ap (λ (o : Option Connection). is_some o) e

tied_line : (d : ℕ) (taker : Option ℤ) (player : Option Dbref) (w v : World) → is_connection_there w d ≡ true → ((e : ℕ) → is_connection_there w e ≡ true → is_connection_there v e ≡ true) → AreTied w → LineOrigins d taker player w v → AreTied v
tied_line d (Some pid) player w v at keeps h c = tied_comes (is_connection_there w) (is_connection_there v) keeps _ false _ _ (λ q n. absurd n) w.queue v.queue h c
tied_line d None (Some player) w v at keeps h c =
    tied_comes (is_connection_there w) (is_connection_there v) keeps _ false _ _ (λ q n. subst (IsTied (is_connection_there v)) (sym n.tied) (keeps d at)) w.queue v.queue h c
tied_line d None None w v at keeps h c = tied_comes (is_connection_there w) (is_connection_there v) keeps _ false _ _ (λ q n. absurd n) w.queue v.queue h c

tied_turn : (d : ℕ) (o : Option Connection) (w v : World) → connection d w ≡ o → ((e : ℕ) → is_connection_there w e ≡ true → is_connection_there v e ≡ true) → AreTied w → TurnOrigins d o w v → AreTied v
tied_turn d None w v at keeps h c = tied_comes (is_connection_there w) (is_connection_there v) keeps _ false _ _ (λ q n. absurd n) w.queue v.queue h c
tied_turn d (Some s) w v at keeps h c = tied_line d _ s.player w v (found_there d w s at) keeps h c

-- A connection that goes.

in_without : (d gone : ℕ) (cs : List Connection) → (gone == d) ≡ false → is_in d cs ≡ true → is_in d (without_connection gone cs) ≡ true
in_without d gone [] o h = h
in_without d gone (c ∷ cs) o h = by_first (c.number == gone) refl (c.number == d) refl h (in_without d gone cs o)
  where
    never : (m n d : ℕ) → (n == d) ≡ false → (m == n) ≡ true → (m == d) ≡ true → ⊥
    never m n d other same at = grind (arith, nat_tests)

    by_first : (t : Bool) → (c.number == gone) ≡ t → (u : Bool) → (c.number == d) ≡ u → is_some (cond u (Some c) (find (is_connection d) cs)) ≡ true → (is_in d cs ≡ true → is_in d (without_connection gone cs) ≡ true) →
        is_in d (cond t cs (c ∷ without_connection gone cs)) ≡ true
    by_first true e true f h k = absurd (never c.number gone d o e f)
    by_first true e false f h k = h
    by_first false e true f h k = ap (λ (t : Bool). is_some (cond t (Some c) (find (is_connection d) (without_connection gone cs)))) f
    by_first false e false f h k = ap (λ (t : Bool). is_some (cond t (Some c) (find (is_connection d) (without_connection gone cs)))) f ∙ k h

gone_numbers : (d : ℕ) (w : Live) → numbers (gone_away d w).board.connections ≡ numbers (without_connection d w.board.connections)
unfolding gone_away reading change_followed connection_closed
gone_numbers d w = ((seating_quiet d (player_parted (player_in d w.board)) (quiet_parted (player_in d w.board))).law (on_board (connection_closed d) w)).numbers

tied_but : (was there : ℕ → Bool) (d : ℕ) → ((e : ℕ) → (d == e) ≡ false → was e ≡ true → there e ≡ true) → (o : Option ℕ) → option_map_or (λ c. c == d) o false ≡ false → IsTied was o → IsTied there o
tied_but was there d k None n h = refl
tied_but was there d k (Some e) n h = k e (turned e d n) h
  where
    turned : (m n : ℕ) → (m == n) ≡ false → (n == m) ≡ false
    turned m n e = grind (arith, nat_tests)

left_tied : (was there : ℕ → Bool) (d : ℕ) → ((e : ℕ) → (d == e) ≡ false → was e ≡ true → there e ≡ true) → (ps : List Process) → Each (λ p. IsTied was p.descr) ps → Each (λ p. IsTied there p.descr) (filter (λ p. not (is_tied_to d p)) ps)
left_tied was there d k [] h = tt
left_tied was there d k (p ∷ ps) h =
    let rest = left_tied was there d k ps h.1 in
    (elim (is_tied_to d p) as (λ b. is_tied_to d p ≡ b → Each (λ p. IsTied there p.descr) (cond (not b) (p ∷ filter (λ p. not (is_tied_to d p)) ps) (filter (λ p. not (is_tied_to d p)) ps))) [
      | true ↦ λ e. rest
      | false ↦ λ e. (tied_but was there d k p.descr e h.0, rest)
    ]) refl

tied_closed : (d : ℕ) (w : World) (party : ℕ) → AreTied w → AreTied (happened w party (Closed d))
unfolding ended_tied
tied_closed d w party h =
    left_tied (is_connection_there w) (is_connection_there (happened w party (Closed d))) d
    (λ e o k. in_by e (without_connection d w.live.board.connections) (gone_away d w.live).board.connections (gone_numbers d w.live) (in_without e d w.live.board.connections o k))
    w.queue.processes h

-- Any event.

told_numbers : (ds : List ℕ) (text : List ℕ) (w : World) → numbers (told_each ds text w.live).board.connections ≡ numbers w.live.board.connections
told_numbers ds text w = (going_quietly w _ (quietly_live (told_each ds text) (quiet_told_each ds text) w)).numbers

abbrev Stay : World → World → Type 0
Stay w v = (d : ℕ) → is_connection_there w d ≡ true → is_connection_there v d ≡ true

by_numbers : (w v : World) → numbers v.live.board.connections ≡ numbers w.live.board.connections → Stay w v
by_numbers w v e d h = in_by d w.live.board.connections v.live.board.connections e h

tied_still : (w v : World) → Stay w v → AreTied w → Comes no_own_process false (λ x. ⊥) (λ q. ⊥) w.queue v.queue → AreTied v
tied_still w v keeps h c = tied_comes (is_connection_there w) (is_connection_there v) keeps no_own_process false (λ x. ⊥) (λ q. ⊥) (λ q n. absurd n) w.queue v.queue h c

tied_happened : (event : Event) (party : ℕ) (w : World) → EventOrigins event w (happened w party event) → AreTied w → AreTied (happened w party event)
unfolding connection_opened line_added bytes_taken
tied_happened (Exec d) party w c h = tied_turn d (connection d w) w (happened w party (Exec d)) refl (by_numbers w (happened w party (Exec d)) (done_going d w (connection d w) refl).numbers) h c
tied_happened (Slice pid) party w c h =
    let v : World = happened w party (Slice pid) in
    let ts = units_of pid w in
    tied_comes (is_connection_there w) (is_connection_there v) (by_numbers w v (sliced_going pid w).numbers) _ true (LostIn ts) (StartedIn pid ts w.queue) (λ q n. subst (IsTied (is_connection_there v)) (sym n.tied) refl) w.queue v.queue h c
tied_happened (Closed d) party w c h = tied_closed d w party h
tied_happened (Opened d) party w c h = tied_still w (happened w party (Opened d)) (λ e k. in_placed e (newcomer d welcome) w.live.board.connections k) h c
tied_happened (Input d line) party w c h =
    tied_still w (happened w party (Input d line)) (by_numbers w (happened w party (Input d line)) (going_quietly w _ (quietly_loose (on_board (line_added d line)) (loose_one d (lined line) (λ c. refl)) w)).numbers) h c
tied_happened (Take d n) party w c h = tied_still w (happened w party (Take d n)) (by_numbers w (happened w party (Take d n)) (going_quietly w _ (quietly_loose (on_board (bytes_taken d n)) (loose_one d _ (λ c. refl)) w)).numbers) h c
tied_happened (Stored k) party w c h = tied_still w (happened w party (Stored k)) (by_numbers w (happened w party (Stored k)) (told_numbers (askers_of w.dumps) (dump_stored k) (on_live (resaved saving_done) w))) h c
tied_happened (DumpFailed k) party w c h = tied_still w (happened w party (DumpFailed k)) (by_numbers w (happened w party (DumpFailed k)) (told_numbers (askers_of w.dumps) dump_failed (on_live (resaved due_again) w))) h c
tied_happened (Cut k) party w c h = tied_still w (happened w party (Cut k)) (λ e t. t) h c
tied_happened event party w c h = tied_still w (happened w party event) (λ e t. t) h c

-- a hook starts what is tied to nothing
tied_hooked : (c : Started) (w : World) → AreTied w → AreTied (program_begun (by_hook w) c w).0
unfolding new_process
tied_hooked c w h =
    let v = (program_begun (by_hook w) c w).0 in
    let New : Process → Type 0 = λ p. p.descr ≡ None in
    tied_comes (is_connection_there w) (is_connection_there v) (by_numbers w v (ap (λ (l : Live). numbers l.board.connections) (live_begun (by_hook w) c w))) no_own_process false (λ x. ⊥) New
    (λ q n. subst (IsTied (is_connection_there v)) (sym n) refl) w.queue v.queue h
    (holds_begun no_own_process false (λ x. ⊥) New w.queue (by_hook w) c w (λ s n l. refl) (from_itself no_own_process false (λ x. ⊥) New w.queue))

pub tied_effect : (e : Entry) (w : World) → EventOrigins e.event w (happened w e.party e.event) → AreTied w → AreTied (effect w e)
tied_effect e w c h = effect-keeps AreTied (λ call u there k. tied_hooked call u k) (λ u k. k) w e (tied_happened e.event e.party w c h)
