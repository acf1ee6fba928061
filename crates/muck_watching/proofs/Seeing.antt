-- Parts of a run with a tracer.
use Rattle.std.proofs.Common.{◌≡◌, inl, inr, ℕ, zero, suc, ◌+◌, Bool, true, false, ◌&&◌, ◌||◌, cond, List, [], ◌∷◌, ◌++◌, length, take, drop, refl, sym, ◌∙◌, ap, subst, append_assoc, append-nil, take-append-drop, Option, Some, None, Result, Ok, Err}
use Rattle.std.specs.Prelude.{OnOk, is_some, is_none, nat_lt}
use Rattle.std.specs.List.{flat_map}
use Rattle.std.proofs.lemmas.List.Folds.{list_all-append}
use Rattle.muck_laws.proofs.Lists.{no_ending}
use Rattle.muck_laws.proofs.Truths.{opposed}
use Rattle.muck_io.specs.Sink.{Appends}
use Rattle.muck_io.proofs.Appended.{appends_twice}
use Rattle.muck_model.specs.Bytes.{text_fault}
use Rattle.muck_model.specs.declared.event.Entry.{Entry}
use Rattle.muck_model.specs.declared.event.Event.TheVariants.{Opened, Input, Closed, Moment, Take, Died}
use Rattle.spec_dumps.specs.inner.Holding.{Quietly}
use Rattle.spec_dumps.proofs.Quiet.{quiet_nothing, quiet_one}
use Rattle.spec_events.specs.World.{World, queue_of, is_leaving}
use Rattle.spec_events.specs.Steps.{is_lawful}
use Rattle.spec_events.specs.Histories.{History, now, after, entered, Longer, by_porter}
use Rattle.spec_events.proofs.Runs.{longer_one, longer_on, longer_as, now-longer}
use Rattle.muck_script.specs.declared.act.Act.{Act}
use Rattle.muck_script.specs.declared.act.Act.TheVariants.{Nothing, Open, Send, Close, Wait, Dump}
use Rattle.muck_script.specs.Story.{Dumped, stored, failed, Part, outcomes_of, plain_part, both_parts, acted, moment_later, turns, queue_taken, connection_parted, served, next_outcome, dump_entries, dump_part, asks_dump, asked_dump, line_story}
use Rattle.spec_live.specs.Connections.{connections_most}
use Rattle.muf_debug.specs.declared.view.View.{View}
use Rattle.muf_debug.specs.Shown.{Tracer, new_tracer, views_told, handed_out, TellsSo}
use Rattle.muf_debug.specs.Watching.{SeesAll}
use Rattle.muf_debug.proofs.Keeping.{keeps_shown}
use Rattle.muck_debugging.specs.declared.act.DebugAct.{DebugAct}
use Rattle.muck_debugging.specs.declared.act.DebugAct.TheVariants.{Plain, Break, Clear, Trace}
use Rattle.muck_debugging.specs.Seen.{views_in, shown_of, views_passed, pieces_of, line_ended, text_of_all, units_of_all}
use Rattle.muck_debugging.specs.Laws.{are_texts}
use Rattle.muck_debugging.proofs.Watched.{views-append}
use Rattle.muck_debugging.proofs.Pieces.{passed-append, refused_passed, kept_shown, handed_passed, pieces-append, text-append, units-append, units-seen, text_units, text_unseen, units_unseen, passed_unseen, front_unseen}
use Rattle.muck_run.specs.declared.playing.RunFault.{RunFault}
use Rattle.muck_run.specs.declared.playing.RunFault.TheVariants.{NoMemory, WriteFault}
use Rattle.muck_run.specs.inner.Opens.{Opens}
use Rattle.muck_run.specs.inner.Plays.{Plays, Breaks, PlaysOrBreaks, ending_of}
use Rattle.muck_watching.specs.inner.Seen.{IsReady, HandsOut, CutsOff, Shows, PlaysSeen, BreaksSeen, PlaysOrBreaksSeen, plain_of, nothing, act_part, commanded}
use Rattle.muck_run.proofs.Parts.{appends_nothing, appends_as, goes_second, pending_behind}
use Rattle.muck_run.proofs.Opening.{opens_plays}
use Rattle.muck_run.proofs.Turns.{turned_silent}
use Rattle.muck_run.proofs.Lining.{first_turns, then_asked}

-- Parts of which no unit is seen.

abbrev pub IsUnseen : Part → Type 0
IsUnseen f = (os : List Dumped) (w : World) → views_in w (f os w) ≡ []

both_unseen : (f g : Part) → IsUnseen f → IsUnseen g → IsUnseen (both_parts f g)
both_unseen f g a b os w =
    let es = f os w in
    let fs = g (drop (length (outcomes_of es)) os) (after w es) in
    views-append es fs w ∙ ap (λ (vs : List View). vs ++ views_in (after w es) fs) (a os w) ∙ b (drop (length (outcomes_of es)) os) (after w es)

pub acted_unseen : (act : Act) → IsUnseen (plain_part (acted act))
acted_unseen Nothing os w = refl
acted_unseen (Open d) os w = by (is_lawful w (by_porter (Opened d))) where
  by : (t : Bool) → views_in w (cond t (by_porter (Opened d) ∷ []) []) ≡ []
  by true = refl
  by false = refl
acted_unseen (Send d text) os w = by (is_lawful w (by_porter (Input d text))) where
  by : (t : Bool) → views_in w (cond t (by_porter (Input d text) ∷ []) []) ≡ []
  by true = refl
  by false = refl
acted_unseen (Close d) os w = by (is_lawful w (by_porter (Closed d))) where
  by : (t : Bool) → views_in w (cond t (by_porter (Closed d) ∷ []) []) ≡ []
  by true = refl
  by false = refl
acted_unseen (Wait seconds) os w = by (is_lawful w (by_porter (Moment (moment_later seconds w)))) where
  by : (t : Bool) → views_in w (cond t (by_porter (Moment (moment_later seconds w)) ∷ []) []) ≡ []
  by true = refl
  by false = refl
acted_unseen Dump os w = refl

dump_unseen : (o : Dumped) (w : World) → views_in w (dump_entries o) ≡ []
dump_unseen (stored k) w = refl
dump_unseen (failed k) w = refl

pub asked_unseen : (act : Act) → IsUnseen (asked_dump act)
unfolding asked_dump
asked_unseen act os w = by (asks_dump act || is_some w.dumps.asked) where
  by : (t : Bool) → views_in w (cond t (dump_part os w) []) ≡ []
  by true = dump_unseen (next_outcome os) w
  by false = refl

taken_unseen : (d : ℕ) → IsUnseen (plain_part (queue_taken d))
taken_unseen d os w = by (nat_lt 0 (length (queue_of d w))) where
  by : (t : Bool) → views_in w (cond t (by_porter (Take d (length (queue_of d w))) ∷ []) []) ≡ []
  by true = refl
  by false = refl

parted_unseen : (d : ℕ) → IsUnseen (plain_part (connection_parted d))
parted_unseen d os w = by (is_leaving d w) where
  by : (t : Bool) → views_in w (cond t (by_porter (Closed d) ∷ []) []) ≡ []
  by true = refl
  by false = refl

pub served_unseen : (n d : ℕ) → IsUnseen (served n d)
unfolding served
served_unseen zero d os w = refl
served_unseen (suc n) d os w =
    both_unseen (both_parts (plain_part (queue_taken d)) (plain_part (connection_parted d))) (served n (d + 1)) (both_unseen (plain_part (queue_taken d)) (plain_part (connection_parted d)) (taken_unseen d) (parted_unseen d)) (served_unseen n (d + 1)) os w

-- what a run writes of such a part is all that is written
pub plays_unseen : (f : Part) (t : Tracer) (h k : History) (a b : Option (List ℕ)) → IsUnseen f → Plays f h k a b → PlaysSeen f t t h k a b
plays_unseen f t h k a b is p =
    let none : views_in (now h) p.entries ≡ [] = ap (views_in (now h)) (sym (p.said [])) ∙ is _ (now h) in
    record {
      entries = p.entries;
      said = p.said;
      history = p.history;
      text = appends_as a b _ _ (sym (text_unseen p.entries (now h) t none)) p.text;
      texts = ap are_texts (units_unseen p.entries (now h) t none);
      tracer = sym (passed_unseen p.entries (now h) t none);
      alive = p.alive;
    }

pub breaks_unseen : (f : Part) (ending : List Entry) (t : Tracer) (h k : History) (a b : Option (List ℕ)) → IsUnseen f → Breaks f ending h k a b → BreaksSeen f ending t h k a b
breaks_unseen f ending t h k a b is p =
    let part = p.whole [] in
    let none : views_in (now h) p.front ≡ [] = front_unseen p.front part.0 _ (now h) part.1 (is _ (now h)) in
    record {
      front = p.front;
      pending = p.pending;
      began = p.began;
      whole = p.whole;
      history = p.history;
      told = p.told;
      untold = p.untold;
      text = p.text ∙ sym (text_unseen p.front (now h) t none);
      appended = p.appended;
      alive = p.alive;
    }

pub any_unseen : {T : Type 0} (f : Part) (t : Tracer) (h k : History) (a b : Option (List ℕ)) (r : Result T RunFault) → IsUnseen f → PlaysOrBreaks f h k a b r → PlaysOrBreaksSeen f t t h k a b r
any_unseen f t h k a b (Ok x) is p = plays_unseen f t h k a b is p
any_unseen f t h k a b (Err fault) is p = breaks_unseen f (ending_of fault) t h k a b is p

-- One part and then another.

pub texts_both : (xs ys : List (List ℕ)) → are_texts xs ≡ true → are_texts ys ≡ true → are_texts (xs ++ ys) ≡ true
texts_both xs ys e f = list_all-append (λ line. is_none (text_fault line)) xs ys ∙ ap (λ (t : Bool). t && are_texts ys) e ∙ f

-- the pieces of what follows are those behind the tracer and the world that were left
pub pieces_next : (h k : History) (t u : Tracer) (es fs : List Entry) → Longer h k es → u ≡ views_passed (views_in (now h) es) t → pieces_of t (now h) (es ++ fs) ≡ pieces_of t (now h) es ++ pieces_of u (now k) fs
pieces_next h k t u es fs l e =
    pieces-append es fs (now h) t
    ∙ ap (λ (x : Tracer). pieces_of t (now h) es ++ pieces_of x (after (now h) es) fs) (sym e)
    ∙ ap (λ (w : World). pieces_of t (now h) es ++ pieces_of u w fs) (sym (now-longer h k es l))

pub plays_both_seen : (f g : Part) (t u v : Tracer) (h k m : History) (a b c : Option (List ℕ)) → PlaysSeen f t u h k a b → PlaysSeen g u v k m b c → PlaysSeen (both_parts f g) t v h m a c
plays_both_seen f g t u v h k m a b c p q =
    let next : now k ≡ after (now h) p.entries = now-longer h k _ p.history in
    let split = pieces_next h k t u p.entries q.entries p.history p.tracer in
    record {
      entries = p.entries ++ q.entries;
      said = λ others. goes_second f g (now h) (now k) p.entries q.entries others next p.said ∙ ap (λ es. p.entries ++ es) (q.said others);
      history = longer_on h k m _ _ p.history q.history;
      text = appends_as a c _ _ (sym (ap text_of_all split ∙ text-append (pieces_of t (now h) p.entries) (pieces_of u (now k) q.entries))) (appends_twice a b c _ _ p.text q.text);
      texts = ap are_texts (ap units_of_all split ∙ units-append (pieces_of t (now h) p.entries) (pieces_of u (now k) q.entries))
          ∙ texts_both (units_of_all (pieces_of t (now h) p.entries)) (units_of_all (pieces_of u (now k) q.entries)) p.texts q.texts;
      tracer =
          q.tracer ∙ ap (λ (x : Tracer). views_passed (views_in (now k) q.entries) x) p.tracer
          ∙ passed-append (views_in (now h) p.entries) (views_in (now k) q.entries) t
          ∙ ap (λ (w : World). views_passed (views_in (now h) p.entries ++ views_in w q.entries) t) next
          ∙ ap (λ (vs : List View). views_passed vs t) (sym (views-append p.entries q.entries (now h)));
      alive = q.alive;
    }

pub breaks_first_seen : (f g : Part) (ending : List Entry) (t : Tracer) (h k : History) (a b : Option (List ℕ)) → BreaksSeen f ending t h k a b → BreaksSeen (both_parts f g) ending t h k a b
breaks_first_seen f g ending t h k a b p = record {
  front = p.front;
  pending = p.pending;
  began = p.began;
  whole = λ later.
      let os : List Dumped = outcomes_of p.front ++ (p.pending ++ later) in
      let part = p.whole later in
      let others : List Entry = g (drop (length (outcomes_of (f os (now h)))) os) (after (now h) (f os (now h))) in
      (part.0 ++ others, sym (append_assoc p.front part.0 others) ∙ ap (λ es. es ++ others) part.1);
  history = p.history;
  told = p.told;
  untold = p.untold;
  text = p.text;
  appended = p.appended;
  alive = p.alive;
}

pub breaks_second_seen : (f g : Part) (ending : List Entry) (t u : Tracer) (h k m : History) (a b c : Option (List ℕ)) → PlaysSeen f t u h k a b → BreaksSeen g ending u k m b c → BreaksSeen (both_parts f g) ending t h m a c
breaks_second_seen f g ending t u h k m a b c p q =
    let next : now k ≡ after (now h) p.entries = now-longer h k _ p.history in
    let first = text_of_all (pieces_of t (now h) p.entries) in
    record {
      front = p.entries ++ q.front;
      pending = q.pending;
      began = pending_behind p.entries q.front q.pending q.began;
      whole = λ later.
          let part = q.whole later in
          (part.0, append_assoc p.entries q.front part.0 ∙ ap (λ es. p.entries ++ es) part.1 ∙ sym (goes_second f g (now h) (now k) p.entries q.front (q.pending ++ later) next p.said));
      history = longer_as h m _ _ (sym (append_assoc p.entries q.front ending)) (longer_on h k m _ _ p.history q.history);
      told = first ++ q.told;
      untold = q.untold;
      text = append_assoc first q.told q.untold
          ∙ ap (λ text. first ++ text) q.text
          ∙ sym (ap text_of_all (pieces_next h k t u p.entries q.front p.history p.tracer) ∙ text-append (pieces_of t (now h) p.entries) (pieces_of u (now k) q.front));
      appended = appends_twice a b c _ _ p.text q.appended;
      alive = q.alive;
    }

-- the first part was played, and the second answers
pub second_seen : {T : Type 0} (f g : Part) (t u v : Tracer) (h k m : History) (a b c : Option (List ℕ)) (r : Result T RunFault) → PlaysSeen f t u h k a b → PlaysOrBreaksSeen g u v k m b c r → PlaysOrBreaksSeen (both_parts f g) t v h m a c r
second_seen f g t u v h k m a b c (Ok x) p q = plays_both_seen f g t u v h k m a b c p q
second_seen f g t u v h k m a b c (Err fault) p q = breaks_second_seen f g (ending_of fault) t u h k m a b c p q

-- the tracer is ready again
pub ready_seen : (f : Part) (t u : Tracer) (h k : History) (a b : Option (List ℕ)) → PlaysSeen f t u h k a b → IsReady t → IsReady u
ready_seen f t u h k a b p r = record {
  empty = ap (λ (x : Tracer). x.kept) p.tracer ∙ r.empty;
  whole = ap (λ (x : Tracer). x.refused) p.tracer ∙ refused_passed (views_in (now h) p.entries) t ∙ r.whole;
}

pub ready_new : (t : Tracer) → t ≡ new_tracer → IsReady t
unfolding new_tracer
ready_new t e = record { empty = ap (λ (x : Tracer). x.kept) e; whole = ap (λ (x : Tracer). x.refused) e }

-- The turns, and what is shown of them.

-- the tracer kept what is shown of them
kept_of : (vs : List View) (t u : Tracer) → SeesAll TellsSo vs t u → u.refused ≡ false → u ≡ views_told vs t
kept_of vs t u sees whole = elim (keeps_shown vs t u sees) [
  | inl e ↦ absurd (opposed u.refused e whole)
  | inr e ↦ e
]

-- this was written of the turns
turns_text : (n : ℕ) (w : World) (t : Tracer) → flat_map line_ended (shown_of (views_in w (turns n w)) t) ≡ text_of_all (pieces_of t w (turns n w))
turns_text n w t = ap (flat_map line_ended) (sym (units-seen (turns n w) w t)) ∙ sym (text_units (turns n w) w t (turned_silent n w))

module _ (n : ℕ) (t u v : Tracer) (h k m : History) (a b : Option (List ℕ)) (ready : IsReady t) (p : Plays (plain_part (turns n)) h k None None) (sees : SeesAll TellsSo (views_in (now h) (turns n (now h))) t u) where
  ends : Longer h k (turns n (now h))
  ends = longer_as h k p.entries _ (sym (p.said [])) p.history

  lines : u.refused ≡ false → u.kept ≡ shown_of (views_in (now h) (turns n (now h))) t
  lines whole = ap (λ (x : Tracer). x.kept) (kept_of _ t u sees whole) ∙ kept_shown _ t ready.empty

  shown_whole : HandsOut u v k m a b → PlaysSeen (plain_part (turns n)) t v h m a b
  shown_whole s = record {
    entries = turns n (now h);
    said = λ others. refl;
    history = subst (λ (x : History). Longer h x (turns n (now h))) (sym s.still) ends;
    text = appends_as a b _ _ (ap (flat_map line_ended) (lines s.whole) ∙ turns_text n (now h) t) s.text;
    texts = ap are_texts (units-seen (turns n (now h)) (now h) t ∙ sym (lines s.whole)) ∙ s.texts;
    tracer = s.handed ∙ ap handed_out (kept_of _ t u sees s.whole) ∙ handed_passed _ t ready.empty;
    alive = ap (λ (x : History). (now x).dead) s.still ∙ p.alive;
  }

  shown_front : CutsOff u k m a b → BreaksSeen (plain_part (turns n)) [] t h m a b
  shown_front s =
      let text : List ℕ = flat_map line_ended u.kept in
      record {
        front = turns n (now h);
        pending = [];
        began = tt;
        whole = λ later. ([], append-nil (turns n (now h)));
        history = longer_as h m _ _ (sym (append-nil (turns n (now h)))) (subst (λ (x : History). Longer h x (turns n (now h))) (sym s.still) ends);
        told = take s.text.0 text;
        untold = drop s.text.0 text;
        text = take-append-drop s.text.0 text ∙ ap (flat_map line_ended) (lines s.whole) ∙ turns_text n (now h) t;
        appended = s.text.1;
        alive = λ e. ap (λ (x : History). (now x).dead) s.still ∙ p.alive;
      }

  shown_died : (m ≡ entered k (by_porter Died)) × (b ≡ a) → BreaksSeen (plain_part (turns n)) (by_porter Died ∷ []) t h m a b
  shown_died s = record {
    front = turns n (now h);
    pending = [];
    began = tt;
    whole = λ later. ([], append-nil (turns n (now h)));
    history = longer_on h k m _ _ ends (longer_one k m (by_porter Died) s.0);
    told = [];
    untold = text_of_all (pieces_of t (now h) (turns n (now h)));
    text = refl;
    appended = subst (λ (o : Option (List ℕ)). Appends a o []) (sym s.1) (appends_nothing a);
    alive = λ e. no_ending e;
  }

  pub shown_turns : {T : Type 0} (r : Result T RunFault) → Shows u v k m a b r → PlaysOrBreaksSeen (plain_part (turns n)) t v h m a b r
  shown_turns (Ok x) s = shown_whole s
  shown_turns (Err NoMemory) s = shown_died s
  shown_turns (Err WriteFault) s = shown_front s

-- no dump is made of it
pub quiet_shows : {T : Type 0} (t u : Tracer) (h k : History) (a b : Option (List ℕ)) (r : Result T RunFault) → Shows t u h k a b r → Quietly h k
quiet_shows t u h k a b (Ok x) s = quiet_nothing h k s.still
quiet_shows t u h k a b (Err NoMemory) s = quiet_one h k (by_porter Died) refl s.0
quiet_shows t u h k a b (Err WriteFault) s = quiet_nothing h k s.still

-- memory was wanted in the turns: nothing of them was written
pub breaks_turns_seen : (f : Part) (ending : List Entry) (t : Tracer) (h k : History) (o : Option (List ℕ)) → Breaks f ending h k None None → BreaksSeen f ending t h k o o
breaks_turns_seen f ending t h k o p = record {
  front = p.front;
  pending = p.pending;
  began = p.began;
  whole = p.whole;
  history = p.history;
  told = [];
  untold = text_of_all (pieces_of t (now h) p.front);
  text = refl;
  appended = appends_nothing o;
  alive = p.alive;
}

-- Nothing happens.

pub plays_nothing_seen : (t u : Tracer) (h : History) (o : Option (List ℕ)) → u ≡ t → (now h).dead ≡ false → PlaysSeen nothing t u h h o o
plays_nothing_seen t u h o e alive = record {
  entries = [];
  said = λ others. refl;
  history = record { start = refl; entries = sym (append-nil h.entries) };
  text = appends_nothing o;
  texts = refl;
  tracer = e ∙ sym (passed_unseen [] (now h) t refl);
  alive = alive;
}

pub breaks_nothing_seen : (t : Tracer) (h k : History) (o : Option (List ℕ)) → k ≡ entered h (by_porter Died) → BreaksSeen nothing (by_porter Died ∷ []) t h k o o
breaks_nothing_seen t h k o is = record {
  front = [];
  pending = [];
  began = tt;
  whole = λ later. ([], refl);
  history = longer_one h k (by_porter Died) is;
  told = [];
  untold = [];
  text = refl;
  appended = appends_nothing o;
  alive = λ e. no_ending e;
}

-- what happened, apart from what was written of it
pub plays_of : (f : Part) (t u : Tracer) (h k : History) (a b : Option (List ℕ)) → PlaysSeen f t u h k a b → Plays f h k None None
plays_of f t u h k a b p = record { entries = p.entries; said = p.said; history = p.history; text = tt; alive = p.alive }

-- where nothing happens, no connection is opened
pub opens_nothing : {T : Type 0} (most : ℕ) (t u : Tracer) (h k : History) (o : Option (List ℕ)) (r : Result T RunFault) → PlaysOrBreaksSeen nothing t u h k o o r → Opens most h → OnOk r (Opens most k)
opens_nothing most t u h k o (Ok x) p w = opens_plays most nothing h k None None (λ os w. refl) (plays_of nothing t u h k o o p) w
opens_nothing most t u h k o (Err fault) p w = tt

-- What a line of the script does, by its three parts.

pub line_breaks_seen : (act : Act) (ending : List Entry) (t : Tracer) (h k : History) (a b : Option (List ℕ)) → BreaksSeen (first_turns act) ending t h k a b → BreaksSeen (line_story act) ending t h k a b
unfolding line_story
line_breaks_seen act ending t h k a b p =
    breaks_first_seen (then_asked act) (served connections_most 1) ending t h k a b (breaks_first_seen (first_turns act) (asked_dump act) ending t h k a b p)

pub line_breaks_dumping_seen : (act : Act) (ending : List Entry) (t u : Tracer) (h k m : History) (a b : Option (List ℕ)) → PlaysSeen (first_turns act) t u h k a b → Breaks (asked_dump act) ending k m b b → BreaksSeen (line_story act) ending t h m a b
unfolding line_story
line_breaks_dumping_seen act ending t u h k m a b p q =
    breaks_first_seen (then_asked act) (served connections_most 1) ending t h m a b
    (breaks_second_seen (first_turns act) (asked_dump act) ending t u h k m a b b p (breaks_unseen (asked_dump act) ending u k m b b (asked_unseen act) q))

pub line_serves_seen : {T : Type 0} (act : Act) (t u : Tracer) (h k l m : History) (a b c : Option (List ℕ)) (r : Result T RunFault) → PlaysSeen (first_turns act) t u h k a b → Plays (asked_dump act) k l b b → PlaysOrBreaks (served connections_most 1) l m b c r
    → PlaysOrBreaksSeen (line_story act) t u h m a c r
unfolding line_story
line_serves_seen act t u h k l m a b c r p q s =
    second_seen (then_asked act) (served connections_most 1) t u u h l m a b c r
    (plays_both_seen (first_turns act) (asked_dump act) t u u h k l a b b p (plays_unseen (asked_dump act) u k l b b (asked_unseen act) q))
    (any_unseen (served connections_most 1) u l m b c r (served_unseen connections_most 1) s)

commanded_plain : (act : DebugAct) (line : Act) (t : Tracer) → plain_of act ≡ Some line → commanded act t ≡ t
commanded_plain (Plain act) line t e = refl
commanded_plain (Break n l) line t e = cc
commanded_plain (Clear n l) line t e = cc
commanded_plain (Trace on) line t e = cc

-- a line that `run` knows too
pub act_seen : {T : Type 0} (act : DebugAct) (line : Act) (t u : Tracer) (h k : History) (a b : Option (List ℕ)) (r : Result T RunFault) → Some line ≡ plain_of act → PlaysOrBreaksSeen (line_story line) t u h k a b r → PlaysOrBreaksSeen (act_part (plain_of act)) (commanded act t) u h k a b r
act_seen act line t u h k a b r e p =
    subst (λ (o : Option Act). PlaysOrBreaksSeen (act_part o) (commanded act t) u h k a b r) e
    (subst (λ (x : Tracer). PlaysOrBreaksSeen (line_story line) x u h k a b r) (sym (commanded_plain act line t (sym e))) p)

-- one of the four
pub command_seen : {T : Type 0} (act : DebugAct) (t u : Tracer) (h k : History) (a b : Option (List ℕ)) (r : Result T RunFault) → None ≡ plain_of act → PlaysOrBreaksSeen nothing t u h k a b r → PlaysOrBreaksSeen (act_part (plain_of act)) t u h k a b r
command_seen act t u h k a b r e p = subst (λ (o : Option Act). PlaysOrBreaksSeen (act_part o) t u h k a b r) e p
