-- A drill, from how its script was played.
use Rattle.std.proofs.Common.{◌≡◌, inl, inr, ℕ, true, false, ◌+◌, ◌≤◌, List, [], ◌∷◌, ◌++◌, length, drop, refl, sym, ◌∙◌, ap, subst, arith, append-nil, append_assoc, add-one, Option, Some, None}
use Rattle.std.specs.Prelude.{codes}
use Rattle.std.specs.Fmt.{decimal}
use Rattle.std.specs.List.{filter}
use Rattle.muck_model.specs.declared.event.Entry.{Entry}
use Rattle.muck_model.specs.declared.event.Event.TheVariants.{Died}
use Rattle.spec_events.specs.World.{World, starting_world, world_booted}
use Rattle.spec_events.specs.Steps.{effect}
use Rattle.spec_events.specs.Histories.{History, after, now, by_porter}
use Rattle.spec_events.proofs.Runs.{after-append, now-longer}
use Rattle.muck_script.specs.declared.act.Act.{Act}
use Rattle.muck_script.specs.declared.act.Act.TheVariants.{Send}
use Rattle.muck_script.specs.Lines.{is_line_feed}
use Rattle.muck_script.specs.Story.{Dumped, stored, failed, next_outcome, dump_entries, outcomes_of, event_told, transcript_of, lines_story, transcript}
use Rattle.muck_run.specs.Drill.{describing, round, rounds, summary, objects_in, drill_script, IsDrillFront}
use Rattle.muck_run.specs.inner.Drills.{fresh, IsPlayedAs, IsDrilledAs, IsCutShort}
use Rattle.spec_live.specs.Boards.{early_board}
use Rattle.muck_run.specs.inner.Opens.{all_within, Opens}
use Rattle.muck_run.specs.declared.playing.RunFault.{RunFault}
use Rattle.muck_run.specs.declared.playing.RunFault.TheVariants.{NoMemory, WriteFault}
use Rattle.muck_run.specs.inner.Plays.{Plays, Breaks, ending_of}
use Rattle.muck_run.proofs.Parts.{text_of-append}

-- The script, round by round.

pub five : (a b c d e f : List Act) (p q r s t : Act) → b ≡ a ++ p ∷ [] → c ≡ b ++ q ∷ [] → d ≡ c ++ r ∷ [] → e ≡ d ++ s ∷ [] → f ≡ e ++ t ∷ [] → f ≡ a ++ p ∷ q ∷ r ∷ s ∷ t ∷ []
five a b c d e f p q r s t is1 is2 is3 is4 is5 =
    is5
    ∙ ap (λ x. x ++ t ∷ []) (is4 ∙ ap (λ x. x ++ s ∷ []) (is3 ∙ ap (λ x. x ++ r ∷ []) (is2 ∙ ap (λ x. x ++ q ∷ []) is1)))
    ∙ ap (λ x. ((x ++ r ∷ []) ++ s ∷ []) ++ t ∷ []) (append_assoc a (p ∷ []) (q ∷ []))
    ∙ ap (λ x. (x ++ s ∷ []) ++ t ∷ []) (append_assoc a (p ∷ q ∷ []) (r ∷ []))
    ∙ ap (λ x. x ++ t ∷ []) (append_assoc a (p ∷ q ∷ r ∷ []) (s ∷ []))
    ∙ append_assoc a (p ∷ q ∷ r ∷ s ∷ []) (t ∷ [])

pub round_pushed : (a b c d e f : List Act) (i : ℕ) (text : List ℕ) → text ≡ describing i
    → b ≡ a ++ Send 1 (codes "@dig Room " ++ decimal i) ∷ [] → c ≡ b ++ Send 1 (codes "@create thing " ++ decimal i) ∷ [] → d ≡ c ++ Send 1 text ∷ []
    → e ≡ d ++ Send 1 (codes "look thing " ++ decimal i) ∷ [] → f ≡ e ++ Send 1 (codes "drop thing " ++ decimal i) ∷ [] → f ≡ a ++ round i
unfolding round
round_pushed a b c d e f i text is to_b to_c to_d to_e to_f = five a b c d e f _ _ _ _ _ to_b to_c (to_d ∙ ap (λ x. c ++ Send 1 x ∷ []) is) to_e to_f

-- texts that are pushed piece by piece
pub described : (a b c d e : List ℕ) (i : ℕ) → a ≡ [] → b ≡ a ++ codes "@describe thing " ++ decimal i → c ≡ b ++ codes "=A thing of {add:" ++ decimal i → d ≡ c ++ codes "," ++ decimal i → e ≡ d ++ codes "}." → e ≡ describing i
unfolding describing
described a b c d e i is_a is_b is_c is_d is_e =
    is_e
    ∙ ap (λ q. q ++ codes "}.")
    (is_d ∙ ap (λ q. q ++ codes "," ++ decimal i) (is_c ∙ ap (λ q. q ++ codes "=A thing of {add:" ++ decimal i) (is_b ∙ ap (λ q. q ++ codes "@describe thing " ++ decimal i) is_a)))

pub summed : (a b c d e f : List ℕ) (n objects : ℕ) (shown : List ℕ) (lines bytes : ℕ) → lines ≡ length (filter is_line_feed shown) → bytes ≡ length shown → a ≡ []
    → b ≡ a ++ codes "drill " ++ decimal n → c ≡ b ++ codes ": " ++ decimal objects → d ≡ c ++ codes " objects, " ++ decimal lines → e ≡ d ++ codes " lines, " ++ decimal bytes → f ≡ e ++ (codes " bytes" ++ 10 ∷ []) → f ≡ summary n objects shown
unfolding summary
summed a b c d e f n objects shown lines bytes is_lines is_bytes is_a is_b is_c is_d is_e is_f =
    is_f
    ∙ ap (λ q. q ++ (codes " bytes" ++ 10 ∷ []))
    (is_e ∙ ap (λ k. d ++ codes " lines, " ++ decimal k) is_bytes
    ∙ ap (λ q. q ++ codes " lines, " ++ decimal (length shown))
    (is_d ∙ ap (λ k. c ++ codes " objects, " ++ decimal k) is_lines
    ∙ ap (λ q. q ++ codes " objects, " ++ decimal (length (filter is_line_feed shown)))
    (is_c ∙ ap (λ q. q ++ codes ": " ++ decimal objects) (is_b ∙ ap (λ q. q ++ codes "drill " ++ decimal n) is_a))))

pub rounds_begin : (a b : List Act) → b ≡ a → b ≡ a ++ rounds 0
unfolding rounds
rounds_begin a b e = e ∙ sym (append-nil a)

rounds_step : (n : ℕ) → rounds n ++ round (n + 1) ≡ rounds (n + 1)
unfolding rounds
rounds_step n = rw (add-one n) refl

pub rounds_go_on : (a b c : List Act) (n : ℕ) → b ≡ a ++ rounds n → c ≡ b ++ round (n + 1) → c ≡ a ++ rounds (n + 1)
rounds_go_on a b c n e f = f ∙ ap (λ x. x ++ round (n + 1)) e ∙ append_assoc a (rounds n) (round (n + 1)) ∙ ap (λ x. a ++ x) (rounds_step n)

pub rounds_end : (a b : List Act) (n count : ℕ) → b ≡ a ++ rounds n → n ≤ count → count ≤ n → b ≡ a ++ rounds count
rounds_end a b n count e le ge = let same : n ≡ count = omega (arith, le, ge) in e ∙ ap (λ x. a ++ rounds x) same

-- the starting world lives, and no dump runs in it
pub fresh_alive : (h : History) → h ≡ fresh → (now h).dead ≡ false
unfolding now starting_world world_booted
fresh_alive h is = ap (λ (x : History). (now x).dead) is

pub fresh_opens : (h : History) → h ≡ fresh → Opens 0 h
unfolding starting_world world_booted early_board
fresh_opens h is = record { nobody = ap (λ (x : History). x.start.live.board.connections) is; opened = ap (λ (x : History). all_within 0 x.entries) is }

pub fresh_idle : (h : History) → h ≡ fresh → (now h).dumps.running ≡ None
unfolding now starting_world world_booted
fresh_idle h is = ap (λ (x : History). (now x).dumps.running) is

pub fresh_now : (h : History) → h ≡ fresh → now h ≡ starting_world
unfolding now
fresh_now h is = ap (λ (x : History). now x) is

-- Nothing is written of a dump.

dump_text : (o : Dumped) (w : World) → transcript_of w (dump_entries o) ≡ []
unfolding event_told
dump_text (stored k) w = refl
dump_text (failed k) w = refl

pub transcript_lines : (acts : List Act) (os : List Dumped) (w : World) → transcript acts os w ≡ transcript_of w (lines_story acts os w)
transcript_lines acts os w =
    let es = lines_story acts os w in
    let o = next_outcome (drop (length (outcomes_of es)) os) in
    text_of-append es (dump_entries o) w ∙ ap (λ x. transcript_of w es ++ x) (dump_text o (after w es)) ∙ append-nil (transcript_of w es)

module _ (acts : List Act) (h k : History) (bytes : List ℕ) (is : h ≡ fresh) (p : Plays (lines_story acts) h k (Some []) (Some bytes)) where
  there : now h ≡ starting_world
  there = fresh_now h is

  entries : k.entries ≡ p.entries
  entries = p.history.entries ∙ ap (λ (x : History). x.entries ++ p.entries) is

  whole : p.entries ≡ lines_story acts (outcomes_of p.entries) starting_world
  whole = sym (p.said []) ∙ ap (λ os. lines_story acts os (now h)) (append-nil (outcomes_of p.entries)) ∙ ap (lines_story acts (outcomes_of p.entries)) there

  written : bytes ≡ transcript_of starting_world p.entries
  written = same bytes (transcript_of (now h) p.entries) p.text ∙ ap (λ (w : World). transcript_of w p.entries) there
    where
      same : (x y : List ℕ) → Some x ≡ Some y → x ≡ y
      same x y e = cc

  pub played_as : IsPlayedAs acts k bytes
  played_as = record {
    start = p.history.start ∙ ap (λ (x : History). x.start) is;
    said = λ later.
        ap (λ es. lines_story acts (outcomes_of es ++ later) starting_world) entries ∙ ap (lines_story acts (outcomes_of p.entries ++ later)) (sym there) ∙ p.said later
        ∙ sym entries;
    story = entries ∙ whole ∙ ap (λ es. lines_story acts (outcomes_of es) starting_world) (sym entries);
    told =
        written ∙ ap (transcript_of starting_world) whole ∙ sym (transcript_lines acts (outcomes_of p.entries) starting_world)
        ∙ ap (λ es. transcript acts (outcomes_of es) starting_world) (sym entries);
    alive = p.alive;
  }

-- the same as the calls have it
pub played_by : (n : ℕ) (acts : List Act) (h k : History) (a b : Option (List ℕ)) (bytes : List ℕ) → acts ≡ drill_script n → h ≡ fresh → a ≡ Some [] → b ≡ Some bytes → Plays (lines_story acts) h k a b → IsPlayedAs (drill_script n) k bytes
played_by n acts h k a b bytes is_acts is_h is_a is_b p =
    played_as (drill_script n) h k bytes is_h
    (subst (λ (x : List Act). Plays (lines_story x) h k (Some []) (Some bytes)) is_acts
    (subst (λ (x : Option (List ℕ)). Plays (lines_story acts) h k x (Some bytes)) is_a
    (subst (λ (x : Option (List ℕ)). Plays (lines_story acts) h k a x) is_b p)))

-- the summary of what was played
pub drilled_as : (n size : ℕ) (h : History) (bytes text : List ℕ) → IsPlayedAs (drill_script n) h bytes → size ≡ objects_in (now h) → text ≡ summary n size bytes → IsDrilledAs n h text
unfolding now
drilled_as n size h bytes text p counts is = record {
  start = p.start;
  story = p.story;
  written =
      is ∙ ap (λ x. summary n x bytes) (counts ∙ ap (λ (w : World). objects_in (after w h.entries)) p.start)
      ∙ ap (λ x. summary n (objects_in (after starting_world h.entries)) x) p.told;
}

-- Drills that broke off.

-- before anything was played
pub fresh_short : (n : ℕ) (h : History) → h ≡ fresh → IsCutShort n h
fresh_short n h is = record {
  start = ap (λ (x : History). x.start) is;
  front = [];
  is = record { pending = []; began = tt; whole = λ later. (lines_story (drill_script n) later starting_world, refl) };
  wanted = inl (ap (λ (x : History). x.entries) is, fresh_alive h is);
}

-- behind all of it
pub played_short : (n : ℕ) (h : History) (bytes : List ℕ) → IsPlayedAs (drill_script n) h bytes → IsCutShort n h
played_short n h bytes p = record {
  start = p.start;
  front = h.entries;
  is = record { pending = []; began = tt; whole = λ later. ([], append-nil h.entries ∙ sym (p.said later)) };
  wanted = inl (refl, p.alive);
}

-- and in between
module _ (n : ℕ) (h k : History) (a b : Option (List ℕ)) (ending : List Entry) (is : h ≡ fresh) (p : Breaks (lines_story (drill_script n)) ending h k a b) where
  front_played : IsDrillFront n p.front
  front_played = record {
    pending = p.pending;
    began = p.began;
    whole = λ later. let part = p.whole later in (part.0, part.1 ∙ ap (lines_story (drill_script n) (outcomes_of p.front ++ (p.pending ++ later))) (fresh_now h is));
  }

  start_played : k.start ≡ starting_world
  start_played = p.history.start ∙ ap (λ (x : History). x.start) is

  entries_played : k.entries ≡ p.front ++ ending
  entries_played = p.history.entries ∙ ap (λ (x : History). x.entries ++ (p.front ++ ending)) is

dies : (w : World) (front : List Entry) → (after w (front ++ by_porter Died ∷ [])).dead ≡ true
unfolding effect
dies w front = ap (λ (x : World). x.dead) (after-append front (by_porter Died ∷ []) w)

broke_at : (n : ℕ) (h k : History) (a b : Option (List ℕ)) (fault : RunFault) → h ≡ fresh → Breaks (lines_story (drill_script n)) (ending_of fault) h k a b → IsCutShort n k
broke_at n h k a b NoMemory is p = record {
  start = start_played n h k a b _ is p;
  front = p.front;
  is = front_played n h k a b _ is p;
  wanted = inr (entries_played n h k a b _ is p, ap (λ (w : World). w.dead) (now-longer h k _ p.history) ∙ dies (now h) p.front);
}
broke_at n h k a b WriteFault is p = record {
  start = start_played n h k a b _ is p;
  front = p.front;
  is = front_played n h k a b _ is p;
  wanted = inl (entries_played n h k a b _ is p ∙ append-nil p.front, p.alive refl);
}

pub broke_short : (n : ℕ) (acts : List Act) (h k : History) (a b : Option (List ℕ)) (fault : RunFault) → acts ≡ drill_script n → h ≡ fresh → Breaks (lines_story acts) (ending_of fault) h k a b → IsCutShort n k
broke_short n acts h k a b fault is_acts is p = broke_at n h k a b fault is (subst (λ (x : List Act). Breaks (lines_story x) (ending_of fault) h k a b) is_acts p)
