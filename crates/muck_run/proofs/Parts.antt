-- Lemmas on parts of a run.
use Rattle.std.proofs.Common.{◌≡◌, ℕ, ◌<◌, ◌≤◌, Bool, true, false, cond, List, [], ◌∷◌, ◌++◌, length, take, drop, refl, sym, ◌∙◌, ap, subst, arith, append_assoc, append-nil, Option, Some, None, Result, Ok, Err, min}
use Rattle.muck_laws.proofs.Lists.{no_ending}
use Rattle.muck_io.proofs.Appended.{appends_twice}
use Rattle.std.proofs.lemmas.Bool.{lt-ltb, cond-true, cond-false}
use Rattle.std.proofs.lemmas.List.{take-append-drop}
use Rattle.std.proofs.lemmas.Grind.{flat_map-append}
use Rattle.std.proofs.Math.Seq.{drop-append_seam}
use Rattle.std.specs.List.{flat_map}
use Rattle.muck_io.specs.Sink.{Appends, AppendsFront}
use Rattle.muck_model.specs.declared.event.Entry.{Entry}
use Rattle.muck_model.specs.declared.event.Event.{Event}
use Rattle.muck_model.specs.declared.event.Event.TheVariants.{Opened, Input, Closed, Take, Cut, Died}
use Rattle.spec_events.specs.World.{World, queue_of, is_leaving}
use Rattle.spec_events.specs.Steps.{effect, is_lawful, is_died}
use Rattle.spec_events.specs.Histories.{History, after, now, entered, Longer, by_porter}
use Rattle.spec_events.proofs.Living.{dead-effect}
use Rattle.spec_events.proofs.Runs.{longer_nothing, longer_one, longer_on, longer_as, now-longer}
use Rattle.muck_script.specs.Lines.{lines_of}
use Rattle.muck_script.specs.Story.{Dumped, stored, failed, Part, outcome, outcomes_of, plain_part, then_on, both_parts, if_lawful, queue_taken, event_told, transcript_of, line_shown, farewell}
use Rattle.muck_run.specs.declared.playing.RunFault.{RunFault}
use Rattle.muck_run.specs.Outcome.{IsPending}
use Rattle.muck_run.specs.inner.Plays.{Says, Plays, Breaks, PlaysOrBreaks}

pub appends_nothing : (o : Option (List ℕ)) → Appends o o []
appends_nothing None = tt
appends_nothing (Some w) = ap Some (sym (append-nil w))

pub appends_as : (a b : Option (List ℕ)) (x y : List ℕ) → x ≡ y → Appends a b x → Appends a b y
appends_as a b x y e p = let P : List ℕ → Type 0 = Appends a b in subst P e p

pub text_of-append : (es fs : List Entry) (w : World) → transcript_of w (es ++ fs) ≡ transcript_of w es ++ transcript_of (after w es) fs
text_of-append [] fs w = refl
text_of-append (e ∷ es) fs w = ap (λ t. event_told w e.event ++ t) (text_of-append es fs (effect w e)) ∙ sym (append_assoc (event_told w e.event) _ _)

-- nothing happens
pub plays_nothing : (f : Part) (h k : History) (o : Option (List ℕ)) → Says f (now h) [] → k ≡ h → (now h).dead ≡ false → Plays f h k o o
plays_nothing f h k o e same alive = record {
  entries = [];
  said = e;
  history = longer_nothing h k same;
  text = appends_nothing o;
  alive = ap (λ (x : History). (now x).dead) same ∙ alive;
}

pub lives_on : (h k : History) (event : Event) → k ≡ entered h (by_porter event) → is_died event ≡ false → (now h).dead ≡ false → (now k).dead ≡ false
lives_on h k event is other alive =
    ap (λ (w : World). w.dead) (now-longer h k _ (longer_one h k (by_porter event) is)) ∙ dead-effect (now h) (by_porter event) other ∙ alive

-- one event happens
pub plays_one : (f : Part) (h k : History) (a b : Option (List ℕ)) (event : Event) (text : List ℕ) → Says f (now h) (by_porter event ∷ []) → k ≡ entered h (by_porter event) →
    is_died event ≡ false → (now h).dead ≡ false → text ≡ event_told (now h) event → Appends a b text → Plays f h k a b
plays_one f h k a b event text e is other alive written app = record {
  entries = by_porter event ∷ [];
  said = e;
  history = longer_one h k (by_porter event) is;
  text = appends_as a b text _ (written ∙ sym (append-nil (event_told (now h) event))) app;
  alive = lives_on h k event is other alive;
}

-- one event happened, all of the part, and then the ending; a front of its text was written
pub breaks_after : (f : Part) (ending : List Entry) (h k : History) (a b : Option (List ℕ)) (event : Event) (text : List ℕ) → Says f (now h) (by_porter event ∷ []) →
    Longer h k (by_porter event ∷ ending) → text ≡ event_told (now h) event → AppendsFront a b text → (ending ≡ [] → (now k).dead ≡ false) → Breaks f ending h k a b
breaks_after f ending h k a b event text e is written app alive = record {
  front = by_porter event ∷ [];
  pending = [];
  began = tt;
  whole = λ later. ([], sym (e later));
  history = is;
  told = take app.0 text;
  untold = drop app.0 text;
  text = take-append-drop app.0 text ∙ written ∙ sym (append-nil (event_told (now h) event));
  appended = app.1;
  alive = alive;
}

-- memory was wanted before anything happened
pub breaks_at_once : (f : Part) (h k : History) (o : Option (List ℕ)) → Longer h k (by_porter Died ∷ []) → Breaks f (by_porter Died ∷ []) h k o o
breaks_at_once f h k o is = record {
  front = [];
  pending = [];
  began = tt;
  whole = λ later. (f later (now h), refl);
  history = is;
  told = [];
  untold = [];
  text = refl;
  appended = appends_nothing o;
  alive = λ e. no_ending e;
}

-- nothing of its text was written
pub front_nothing : (o : Option (List ℕ)) (text : List ℕ) → AppendsFront o o text
front_nothing o text = (0, appends_nothing o)

-- an event that may be unlawful, and of which nothing is written
pub plays_if_lawful : (event : Event) (h k : History) (o : Option (List ℕ)) (may : Bool) → event_told (now h) event ≡ [] → is_died event ≡ false → (now h).dead ≡ false →
    may ≡ is_lawful (now h) (by_porter event) → k ≡ cond may (entered h (by_porter event)) h → Plays (plain_part (if_lawful event)) h k o o
plays_if_lawful event h k o true silent other alive e is =
    plays_one (plain_part (if_lawful event)) h k o o event [] (λ later. sym (ap (λ b. cond b (by_porter event ∷ []) []) e)) is other alive (sym silent) (appends_nothing o)
plays_if_lawful event h k o false silent other alive e is =
    plays_nothing (plain_part (if_lawful event)) h k o (λ later. sym (ap (λ b. cond b (by_porter event ∷ []) []) e)) is alive

pub opened_silent : (d : ℕ) (w : World) → event_told w (Opened d) ≡ []
unfolding event_told
opened_silent d w = refl

pub input_silent : (d : ℕ) (line : List ℕ) (w : World) → event_told w (Input d line) ≡ []
unfolding event_told
input_silent d line w = refl

-- a part that says the same of the world as it was
pub plays_as : {T : Type 0} (f g : Part) (h k : History) (a b : Option (List ℕ)) (r : Result T RunFault) → ((os : List Dumped) → g os (now h) ≡ f os (now h)) → PlaysOrBreaks f h k a b r → PlaysOrBreaks g h k a b r
plays_as f g h k a b (Ok x) same p = record { entries = p.entries; said = λ later. same _ ∙ p.said later; history = p.history; text = p.text; alive = p.alive }
plays_as f g h k a b (Err fault) same p = record {
  front = p.front;
  pending = p.pending;
  began = p.began;
  whole = λ later. let part = p.whole later in (part.0, part.1 ∙ sym (same _));
  history = p.history;
  told = p.told;
  untold = p.untold;
  text = p.text;
  appended = p.appended;
  alive = p.alive;
}

-- what is taken of a queue that isn't empty
pub taken_some : (d n : ℕ) (w : World) → n ≡ length (queue_of d w) → 0 < n → queue_taken d w ≡ by_porter (Take d n) ∷ []
taken_some d n w e some = cond-true _ _ _ (lt-ltb 0 (length (queue_of d w)) (omega (arith, e, some))) ∙ ap (λ k. by_porter (Take d k) ∷ []) (sym e)

-- all of a queue is taken, where the buffer has room for it
pub whole_queue : (d n size : ℕ) (w : World) → n ≡ cond w.dead 0 (min (length (queue_of d w)) size) → w.dead ≡ false → length (queue_of d w) ≤ size → n ≡ length (queue_of d w)
whole_queue d n size w is alive room =
    let all : n ≡ min (length (queue_of d w)) size = is ∙ cond-false _ _ _ alive in
    omega (arith, all, room)

-- the text of what was taken
pub text_taken : (d n : ℕ) (w : World) (text buf : List ℕ) → buf ≡ take n (queue_of d w) → text ≡ flat_map (line_shown d) (lines_of buf) → text ≡ event_told w (Take d n)
unfolding event_told
text_taken d n w text buf cut is = is ∙ ap (λ bytes. flat_map (line_shown d) (lines_of bytes)) cut

-- the text of a connection that was leaving
pub text_parted : (d : ℕ) (w : World) (text : List ℕ) → is_leaving d w ≡ true → text ≡ farewell d → text ≡ event_told w (Closed d)
unfolding event_told
text_parted d w text leaving is = is ∙ sym (cond-true _ _ _ leaving)

pub outcomes-append : (es fs : List Entry) (later : List Dumped) → outcomes_of (es ++ fs) ++ later ≡ outcomes_of es ++ (outcomes_of fs ++ later)
outcomes-append es fs later =
    ap (λ os. os ++ later) (flat_map-append (λ (e : Entry). outcome e.event) es fs) ∙ append_assoc (outcomes_of es) (outcomes_of fs) later

-- behind what the first part says the second goes on, with the outcomes that are left
pub goes_second : (f g : Part) (w v : World) (es fs : List Entry) (later : List Dumped) → v ≡ after w es → Says f w es → both_parts f g (outcomes_of (es ++ fs) ++ later) w ≡ es ++ g (outcomes_of fs ++ later) v
goes_second f g w v es fs later e p =
    let left : List Dumped = outcomes_of fs ++ later in
    ap (λ os. both_parts f g os w) (outcomes-append es fs later)
    ∙ ap (then_on g (outcomes_of es ++ left) w) (p left)
    ∙ ap (λ os. es ++ g os (after w es)) (drop-append_seam (outcomes_of es) left)
    ∙ ap (λ (x : World). es ++ g left x) (sym e)

-- one part and then another
pub plays_both : (f g : Part) (h k m : History) (a b c : Option (List ℕ)) → Plays f h k a b → Plays g k m b c → Plays (both_parts f g) h m a c
plays_both f g h k m a b c p q =
    let next : now k ≡ after (now h) p.entries = now-longer h k _ p.history in
    record {
      entries = p.entries ++ q.entries;
      said = λ later. goes_second f g (now h) (now k) p.entries q.entries later next p.said ∙ ap (λ es. p.entries ++ es) (q.said later);
      history = longer_on h k m _ _ p.history q.history;
      text = appends_as a c _ _
          (ap (λ w. transcript_of (now h) p.entries ++ transcript_of w q.entries) next ∙ sym (text_of-append p.entries q.entries (now h)))
          (appends_twice a b c _ _ p.text q.text);
      alive = q.alive;
    }

-- a dump that began behind the last entries began behind all of them
pub pending_behind : (es front : List Entry) (os : List Dumped) → IsPending front os → IsPending (es ++ front) os
pending_behind es front [] p = tt
pending_behind es front (stored k ∷ []) p = (es ++ p.0, ap (λ (xs : List Entry). es ++ xs) p.1 ∙ sym (append_assoc es p.0 (by_porter (Cut k) ∷ [])))
pending_behind es front (stored k ∷ (o ∷ os)) p = absurd p
pending_behind es front (failed k ∷ os) p = absurd p

pub breaks_first : (f g : Part) (ending : List Entry) (h k : History) (a b : Option (List ℕ)) → Breaks f ending h k a b → Breaks (both_parts f g) ending h k a b
breaks_first f g ending h k a b p = record {
  front = p.front;
  pending = p.pending;
  began = p.began;
  whole = λ later.
      let os : List Dumped = outcomes_of p.front ++ (p.pending ++ later) in
      let part = p.whole later in
      let others : List Entry = g (drop (length (outcomes_of (f os (now h)))) os) (after (now h) (f os (now h))) in
      (part.0 ++ others, sym (append_assoc p.front part.0 others) ∙ ap (λ es. es ++ others) part.1);
  history = p.history;
  told = p.told;
  untold = p.untold;
  text = p.text;
  appended = p.appended;
  alive = p.alive;
}

pub breaks_second : (f g : Part) (ending : List Entry) (h k m : History) (a b c : Option (List ℕ)) → Plays f h k a b → Breaks g ending k m b c → Breaks (both_parts f g) ending h m a c
breaks_second f g ending h k m a b c p q =
    let next : now k ≡ after (now h) p.entries = now-longer h k _ p.history in
    record {
      front = p.entries ++ q.front;
      pending = q.pending;
      began = pending_behind p.entries q.front q.pending q.began;
      whole = λ later.
          let part = q.whole later in
          (part.0, append_assoc p.entries q.front part.0 ∙ ap (λ es. p.entries ++ es) part.1 ∙ sym (goes_second f g (now h) (now k) p.entries q.front (q.pending ++ later) next p.said));
      history = longer_as h m _ _ (sym (append_assoc p.entries q.front ending)) (longer_on h k m _ _ p.history q.history);
      told = transcript_of (now h) p.entries ++ q.told;
      untold = q.untold;
      text = append_assoc (transcript_of (now h) p.entries) q.told q.untold
          ∙ ap (λ t. transcript_of (now h) p.entries ++ t) (q.text ∙ ap (λ w. transcript_of w q.front) next)
          ∙ sym (text_of-append p.entries q.front (now h));
      appended = appends_twice a b c _ _ p.text q.appended;
      alive = q.alive;
    }

-- one entry, and another behind it
pub entered_twice : (h k m : History) (e f : Entry) → k ≡ entered h e → m ≡ entered k f → Longer h m (e ∷ f ∷ [])
entered_twice h k m e f is then = longer_on h k m _ _ (longer_one h k e is) (longer_one k m f then)
