-- No connection is there above the greatest number that a line has asked for.
use Rattle.std.proofs.Common.{◌≡◌, ℕ, zero, suc, ◌<◌, ◌≤◌, ◌+◌, Bool, true, false, ◌&&◌, cond, List, [], ◌∷◌, ◌++◌, length, refl, sym, ap, ◌∙◌, arith, Option, Some, None, Result, Ok, Err}
use Rattle.std.specs.Prelude.{OnOk, is_some, nat_le, nat_lt, ◌==◌, ◌||◌}
use Rattle.std.specs.List.{list_all}
use Rattle.std.specs.Option.{option_map_or}
use Rattle.std.proofs.lemmas.List.Folds.{list_all-append}
use Rattle.std.proofs.lemmas.Bool.{and_parts}
use Rattle.muck_laws.proofs.Numbers.{apart_above, le_more}
use Rattle.muck_laws.proofs.Options.{none_where_not_some}
use Rattle.muck_links.specs.Keyed.{altered, latest}
use Rattle.muck_model.specs.declared.event.Entry.{Entry}
use Rattle.muck_model.specs.declared.event.Event.{Event}
use Rattle.muck_model.specs.declared.event.Event.TheVariants.{Opened, Input, Closed, Take, Moment}
use Rattle.spec_live.specs.Connections.{Connection}
use Rattle.spec_live.specs.Output.{bytes_of}
use Rattle.spec_events.specs.World.{World, connection, queue_of, is_leaving}
use Rattle.spec_events.specs.Steps.{is_lawful, effect}
use Rattle.spec_events.specs.Histories.{History, now, after, by_porter, AllLawful}
use Rattle.spec_talks.specs.Talks.{Talk, talk_of, line_heard, given_out, ended_in, talked, talks_on, talks, is_open, is_talking}
use Rattle.spec_talks.proofs.Connected.{connected}
use Rattle.muck_script.specs.declared.act.Act.{Act}
use Rattle.muck_script.specs.declared.act.Act.TheVariants.{Nothing, Open, Send, Close, Wait, Dump}
use Rattle.muck_script.specs.Story.{Dumped, stored, failed, Part, StoryTurn, of_line, of_process, plain_part, both_parts, then_on, if_lawful, acted, moment_later, turns, turn_followed, turn_entries, next_turn, queue_taken, connection_parted, served, next_outcome, dump_entries, dump_part, asked_dump, asks_dump}
use Rattle.muck_run.specs.inner.Opens.{opens_within, all_within, asks_within, Opens}
use Rattle.muck_run.specs.declared.playing.RunFault.{RunFault}
use Rattle.muck_run.specs.inner.Plays.{Plays, PlaysOrBreaks}

within_append : (most : ℕ) (a b : List Entry) → all_within most a ≡ true → all_within most b ≡ true → all_within most (a ++ b) ≡ true
within_append most a b e f =
    list_all-append (λ (x : Entry). opens_within most x.event) a b ∙ ap (λ (t : Bool). t && all_within most b) e ∙ f

-- Which parts of a run open none above a number.

abbrev IsWithin : ℕ → Part → Type 0
IsWithin most f = (os : List Dumped) (w : World) → all_within most (f os w) ≡ true

both_within : (most : ℕ) (f g : Part) → IsWithin most f → IsWithin most g → IsWithin most (both_parts f g)
both_within most f g a b os w = within_append most (f os w) _ (a os w) (b _ _)

lawful_within : (most : ℕ) (event : Event) (w : World) → opens_within most event ≡ true → all_within most (if_lawful event w) ≡ true
lawful_within most event w e = from (is_lawful w (by_porter event))
  where
    from : (t : Bool) → all_within most (cond t (by_porter event ∷ []) []) ≡ true
    from true = ap (λ (b : Bool). b && true) e
    from false = refl

acted_within : (most : ℕ) (act : Act) → asks_within most act ≡ true → IsWithin most (plain_part (acted act))
acted_within most Nothing e os w = refl
acted_within most (Open d) e os w = lawful_within most (Opened d) w e
acted_within most (Send d text) e os w = lawful_within most (Input d text) w refl
acted_within most (Close d) e os w = lawful_within most (Closed d) w refl
acted_within most (Wait seconds) e os w = lawful_within most (Moment (moment_later seconds w)) w refl
acted_within most Dump e os w = refl

turns_within : (most n : ℕ) (w : World) → all_within most (turns n w) ≡ true
unfolding turns
turns_within most zero w = refl
turns_within most (suc n) w = from (next_turn w) (λ t. turns_within most n (after w (turn_entries t)))
  where
    from : (o : Option StoryTurn) → ((t : StoryTurn) → all_within most (turns n (after w (turn_entries t))) ≡ true) → all_within most (turn_followed o (λ t. turns n (after w (turn_entries t)))) ≡ true
    from None others = refl
    from (Some (of_line d)) others = others (of_line d)
    from (Some (of_process pid)) others = others (of_process pid)

pub turned_within : (most : ℕ) (act : Act) (n : ℕ) → asks_within most act ≡ true → IsWithin most (both_parts (plain_part (acted act)) (plain_part (turns n)))
turned_within most act n e = both_within most (plain_part (acted act)) (plain_part (turns n)) (acted_within most act e) (λ os w. turns_within most n w)

dump_within : (most : ℕ) (o : Dumped) → all_within most (dump_entries o) ≡ true
dump_within most (stored k) = refl
dump_within most (failed k) = refl

pub asked_within : (most : ℕ) (act : Act) → IsWithin most (asked_dump act)
unfolding asked_dump
asked_within most act os w = from (asks_dump act || is_some w.dumps.asked)
  where
    from : (t : Bool) → all_within most (cond t (dump_part os w) []) ≡ true
    from true = dump_within most (next_outcome os)
    from false = refl

taken_within : (most d : ℕ) → IsWithin most (plain_part (queue_taken d))
taken_within most d os w = from (nat_lt 0 (length (queue_of d w)))
  where
    from : (t : Bool) → all_within most (cond t (by_porter (Take d (length (queue_of d w))) ∷ []) []) ≡ true
    from true = refl
    from false = refl

parted_within : (most d : ℕ) → IsWithin most (plain_part (connection_parted d))
parted_within most d os w = from (is_leaving d w)
  where
    from : (t : Bool) → all_within most (cond t (by_porter (Closed d) ∷ []) []) ≡ true
    from true = refl
    from false = refl

pub one_within : (most d : ℕ) → IsWithin most (both_parts (plain_part (queue_taken d)) (plain_part (connection_parted d)))
one_within most d = both_within most (plain_part (queue_taken d)) (plain_part (connection_parted d)) (taken_within most d) (parted_within most d)

pub served_within : (most n d : ℕ) → IsWithin most (served n d)
unfolding served
served_within most zero d os w = refl
served_within most (suc n) d os w =
    both_within most (both_parts (plain_part (queue_taken d)) (plain_part (connection_parted d))) (served n (d + 1)) (one_within most d) (served_within most n (d + 1)) os w

-- Histories.

pub opens_plays : (most : ℕ) (f : Part) (h k : History) (a b : Option (List ℕ)) → IsWithin most f → Plays f h k a b → Opens most h → Opens most k
opens_plays most f h k a b is p o = record {
  nobody = ap (λ (w : World). w.live.board.connections) p.history.start ∙ o.nobody;
  opened = ap (all_within most) p.history.entries ∙ within_append most h.entries p.entries o.opened (ap (all_within most) (sym (p.said [])) ∙ is _ (now h));
}

pub opens_if : {T : Type 0} (most : ℕ) (f : Part) (h k : History) (a b : Option (List ℕ)) (r : Result T RunFault) → IsWithin most f → PlaysOrBreaks f h k a b r → Opens most h → OnOk r (Opens most k)
opens_if most f h k a b (Ok x) is p o = opens_plays most f h k a b is p o
opens_if most f h k a b (Err fault) is p o = tt

event_more : (least most : ℕ) (event : Event) → least ≤ most → opens_within least event ≡ true → opens_within most event ≡ true
event_more least most (Opened d) le e = le_more d least most le e
event_more least most event le e = refl

entries_more : (least most : ℕ) (es : List Entry) → least ≤ most → all_within least es ≡ true → all_within most es ≡ true
entries_more least most [] le e = refl
entries_more least most (x ∷ es) le e =
    let both = and_parts (opens_within least x.event) (all_within least es) e in
    ap (λ (t : Bool). t && all_within most es) (event_more least most x.event le both.0) ∙ entries_more least most es le both.1

pub opens_more : (least most : ℕ) (h : History) → least ≤ most → Opens least h → Opens most h
opens_more least most h le o = record { nobody = o.nobody; opened = entries_more least most h.entries le o.opened }

-- Talks: none is of a connection above.

abbrev known : ℕ → List Talk → Bool
known most ts = list_all (λ (t : Talk). nat_le t.number most) ts

known_altered : (most at : ℕ) (f : Talk → Talk) → ((t : Talk) → talk_of (f t) ≡ talk_of t) → (ts : List Talk) → known most (altered talk_of at f ts) ≡ known most ts
known_altered most at f number [] = refl
known_altered most at f number (t ∷ ts) = from (t.number == at) (known_altered most at f number ts)
  where
    from : (u : Bool) → known most (altered talk_of at f ts) ≡ known most ts → known most (cond u (f t ∷ ts) (t ∷ altered talk_of at f ts)) ≡ known most (t ∷ ts)
    from true e = ap (λ (n : ℕ). nat_le n most && known most ts) (number t)
    from false e = ap (λ (b : Bool). nat_le t.number most && b) e

known_talked : (most : ℕ) (w : World) (event : Event) (ts : List Talk) → opens_within most event ≡ true → known most ts ≡ true → known most (talked w event ts) ≡ true
known_talked most w (Opened d) ts e k = ap (λ (b : Bool). b && known most ts) e ∙ k
known_talked most w (Input d line) ts e k = known_altered most d (line_heard line) (λ t. refl) ts ∙ k
known_talked most w (Take d n) ts e k = known_altered most d (given_out _ n) (λ t. refl) ts ∙ k
known_talked most w (Closed d) ts e k = known_altered most d (ended_in w) (λ t. refl) ts ∙ k
known_talked most w event ts e k = k

known_on : (most : ℕ) (w : World) (ts : List Talk) (es : List Entry) → all_within most es ≡ true → known most ts ≡ true → known most (talks_on w ts es) ≡ true
known_on most w ts [] e k = k
known_on most w ts (x ∷ es) e k =
    let both = and_parts (opens_within most x.event) (all_within most es) e in
    known_on most (effect w x) (talked w x.event ts) es both.1 (known_talked most w x.event ts both.0 k)

not_talking : (most d : ℕ) (ts : List Talk) → most < d → known most ts ≡ true → is_talking d ts ≡ false
not_talking most d [] less k = refl
not_talking most d (t ∷ ts) less k =
    let both = and_parts (nat_le t.number most) (known most ts) k in
    ap (λ (b : Bool). is_open (cond b (Some t) (latest talk_of d ts))) (apart_above t.number d most less both.0) ∙ not_talking most d ts less both.1

pub nobody_above : (most d : ℕ) (h : History) → Opens most h → AllLawful h.start h.entries → most < d → is_some (connection d (now h)) ≡ false
unfolding now talks
nobody_above most d h o lawful less =
    connected h.start h.entries o.nobody lawful d ∙ not_talking most d (talks h.start h.entries) less (known_on most h.start [] h.entries o.opened refl)

-- Nothing is done for who isn't there.

nothing_taken : (d : ℕ) (w : World) → connection d w ≡ None → queue_taken d w ≡ []
nothing_taken d w e =
    let queue : queue_of d w ≡ [] = ap (λ (o : Option Connection). option_map_or (λ (c : Connection). bytes_of c.output) o []) e in
    ap (λ (q : List ℕ). cond (nat_lt 0 (length q)) (by_porter (Take d (length q)) ∷ []) []) queue

nothing_parted : (d : ℕ) (w : World) → connection d w ≡ None → connection_parted d w ≡ []
nothing_parted d w e = ap (λ (o : Option Connection). cond (option_map_or (λ (c : Connection). c.leaving) o false) (by_porter (Closed d) ∷ []) []) e

one_nothing : (d : ℕ) (os : List Dumped) (w : World) → connection d w ≡ None → both_parts (plain_part (queue_taken d)) (plain_part (connection_parted d)) os w ≡ []
one_nothing d os w e = ap (then_on (plain_part (connection_parted d)) os w) (nothing_taken d w e) ∙ nothing_parted d w e

pub served_nothing : (n d : ℕ) (os : List Dumped) (w : World) → ((m : ℕ) → d ≤ m → m < n + d → is_some (connection m w) ≡ false) → served n d os w ≡ []
unfolding served
served_nothing zero d os w none = refl
served_nothing (suc n) d os w none =
    ap (then_on (served n (d + 1)) os w) (one_nothing d os w (none_where_not_some (connection d w) (none d (omega arith) (omega arith))))
    ∙ served_nothing n (d + 1) os w (λ m le less. none m (omega arith) (omega arith))

-- Which connections are asked.
