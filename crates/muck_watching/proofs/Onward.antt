-- The lines of a script of `debug`, one behind the other.
use Rattle.std.proofs.Common.{◌≡◌, ℕ, suc, ◌+◌, ◌<◌, ◌≤◌, Bool, true, false, cond, List, [], ◌∷◌, ◌++◌, length, take, drop, get_or, refl, sym, ◌∙◌, ap, subst, arith, add-one, append_assoc, append-nil, length-append, Option}
use Rattle.std.proofs.lemmas.Bool.{cond-true, cond-false}
use Rattle.std.proofs.Math.Seq.{drop-cons, drop-append_seam}
use Rattle.std.proofs.lemmas.List.{drop_all}
use Rattle.muck_io.proofs.Appended.{appends_twice}
use Rattle.muck_model.specs.declared.event.Entry.{Entry}
use Rattle.muck_model.specs.declared.event.Event.TheVariants.{Halt}
use Rattle.spec_events.specs.World.{World}
use Rattle.spec_events.specs.Histories.{History, now, after, entered, by_porter}
use Rattle.spec_events.proofs.Runs.{longer_nothing, longer_one, longer_on, longer_as, now-longer}
use Rattle.muck_script.specs.declared.act.Act.{Act}
use Rattle.muck_script.specs.Story.{Dumped, outcomes_of, Part, both_parts, line_story, lines_story, halting, event_told}
use Rattle.muf_debug.specs.declared.places.Spot.{Spot}
use Rattle.muf_debug.specs.Shown.{Tracer, can_break, with_break, without_break}
use Rattle.muck_debugging.specs.declared.act.DebugAct.{DebugAct}
use Rattle.muck_debugging.specs.declared.act.DebugAct.TheVariants.{Plain, Break, Clear, Trace}
use Rattle.muck_debugging.specs.Seen.{views_in, views_passed, SeenPiece, pieces_of, text_of_all, units_of_all, plain_acts, Pieces, then_seen_pieces, debug_pieces}
use Rattle.muck_debugging.specs.Laws.{are_texts}
use Rattle.muck_debugging.proofs.Pieces.{pieces-append, length-pieces, text-append, units-append, text_unseen, units_unseen, passed_unseen}
use Rattle.muck_run.specs.inner.Plays.{Says}
use Rattle.muck_watching.specs.inner.Seen.{IsReady, PlaysSeen, BreaksSeen, plain_of, act_part, commanded, PlaysLines, BreaksLines}
use Rattle.muck_run.proofs.Parts.{appends_nothing, appends_as, outcomes-append, goes_second, pending_behind, lives_on}
use Rattle.muck_watching.proofs.Seeing.{texts_both, ready_seen}
use Rattle.muck_run.proofs.Towards.{stopped}

-- A line and the lines behind it.

-- its story, and the story of those
pub story_first : (act : DebugAct) (acts : List DebugAct) (os : List Dumped) (w : World) → w.stopping ≡ false → both_parts (act_part (plain_of act)) (lines_story (plain_acts acts)) os w ≡ lines_story (plain_acts (act ∷ acts)) os w
story_first (Plain act) acts os w e = sym (cond-false _ _ _ e)
story_first (Break program line) acts os w e = refl
story_first (Clear program line) acts os w e = refl
story_first (Trace on) acts os w e = refl

-- the pieces of a line of which nothing happens are those behind it
pieces_none : (acts : List DebugAct) (later : List Dumped) (w v : World) (t u : Tracer) (es fs : List Entry) → [] ≡ es → v ≡ after w es → u ≡ views_passed (views_in w es) t →
    debug_pieces acts (outcomes_of (es ++ fs) ++ later) w t ≡ pieces_of t w es ++ debug_pieces acts (outcomes_of fs ++ later) v u
pieces_none acts later w v t u es fs none there behind =
    let empty : es ≡ [] = sym none in
    let world : v ≡ w = there ∙ ap (after w) empty in
    let tracer : u ≡ t = behind ∙ ap (λ (xs : List Entry). views_passed (views_in w xs) t) empty ∙ passed_unseen [] w t refl in
    ap (λ (xs : List Entry). debug_pieces acts (outcomes_of (xs ++ fs) ++ later) w t) empty
    ∙ sym (
    ap (λ (xs : List Entry). pieces_of t w xs ++ debug_pieces acts (outcomes_of fs ++ later) v u) empty
    ∙ ap (λ (x : World). debug_pieces acts (outcomes_of fs ++ later) x u) world
    ∙ ap (λ (x : Tracer). debug_pieces acts (outcomes_of fs ++ later) w x) tracer
    )

-- those of a line that `run` knows too
pieces_line : (act : Act) (acts : List DebugAct) (later : List Dumped) (w v : World) (t u : Tracer) (es fs : List Entry) → w.stopping ≡ false → Says (line_story act) w es → v ≡ after w es → u ≡ views_passed (views_in w es) t →
    debug_pieces (Plain act ∷ acts) (outcomes_of (es ++ fs) ++ later) w t ≡ pieces_of t w es ++ debug_pieces acts (outcomes_of fs ++ later) v u
pieces_line act acts later w v t u es fs e said there behind =
    let left : List Dumped = outcomes_of fs ++ later in
    ap (λ os. debug_pieces (Plain act ∷ acts) os w t) (outcomes-append es fs later)
    ∙ cond-false _ _ _ e
    ∙ ap (then_seen_pieces (debug_pieces acts) (outcomes_of es ++ left) w t) (said left)
    ∙ ap (λ os. pieces_of t w es ++ debug_pieces acts os (after w es) (views_passed (views_in w es) t)) (drop-append_seam (outcomes_of es) left)
    ∙ ap (λ (x : World). pieces_of t w es ++ debug_pieces acts left x (views_passed (views_in w es) t)) (sym there)
    ∙ ap (λ (x : Tracer). pieces_of t w es ++ debug_pieces acts left v x) (sym behind)

-- the pieces of a line, and those of the lines behind it
pieces_first : (act : DebugAct) (acts : List DebugAct) (later : List Dumped) (w v : World) (t u : Tracer) (es fs : List Entry) → w.stopping ≡ false → Says (act_part (plain_of act)) w es → v ≡ after w es → u ≡ views_passed (views_in w es) (commanded act t) →
    debug_pieces (act ∷ acts) (outcomes_of (es ++ fs) ++ later) w t ≡ pieces_of (commanded act t) w es ++ debug_pieces acts (outcomes_of fs ++ later) v u
pieces_first (Plain act) acts later w v t u es fs e said there behind = pieces_line act acts later w v t u es fs e said there behind
pieces_first (Break program line) acts later w v t u es fs e said there behind = pieces_none acts later w v (with_break (record { program = program; line = line }) t) u es fs (said []) there behind
pieces_first (Clear program line) acts later w v t u es fs e said there behind = pieces_none acts later w v (without_break (record { program = program; line = line }) t) u es fs (said []) there behind
pieces_first (Trace on) acts later w v t u es fs e said there behind = pieces_none acts later w v (record t { on = on }) u es fs (said []) there behind

-- a line was played, and so are those behind it
lines_then : (act : DebugAct) (acts : List DebugAct) (t u : Tracer) (h k m : History) (a b c : Option (List ℕ)) → (now h).stopping ≡ false → PlaysSeen (act_part (plain_of act)) (commanded act t) u h k a b → PlaysLines acts u k m b c → PlaysLines (act ∷ acts) t h m a c
lines_then act acts t u h k m a b c e p q =
    let next : now k ≡ after (now h) p.entries = now-longer h k _ p.history in
    let first = pieces_of (commanded act t) (now h) p.entries in
    record {
      entries = p.entries ++ q.entries;
      said = λ later.
          sym (story_first act acts (outcomes_of (p.entries ++ q.entries) ++ later) (now h) e)
          ∙ goes_second (act_part (plain_of act)) (lines_story (plain_acts acts)) (now h) (now k) p.entries q.entries later next p.said
          ∙ ap (λ es. p.entries ++ es) (q.said later);
      history = longer_on h k m _ _ p.history q.history;
      pieces = first ++ q.pieces;
      made = λ later. pieces_first act acts later (now h) (now k) t u p.entries q.entries e p.said next p.tracer ∙ ap (λ (ps : List SeenPiece). first ++ ps) (q.made later);
      text = appends_as a c _ _ (sym (text-append first q.pieces)) (appends_twice a b c _ _ p.text q.text);
      texts = ap are_texts (units-append first q.pieces) ∙ texts_both (units_of_all first) (units_of_all q.pieces) p.texts q.texts;
      alive = q.alive;
    }

take_behind : (ps qs : List SeenPiece) (n : ℕ) → take (length ps + n) (ps ++ qs) ≡ ps ++ take n qs
take_behind [] qs n = let e : length (let none : List SeenPiece = [] in none) + n ≡ n = omega arith in ap (λ k. take k qs) e
take_behind (p ∷ ps) qs n =
    let e : length (p ∷ ps) + n ≡ suc (length ps + n) = omega arith in
    ap (λ k. take k (p ∷ (ps ++ qs))) e ∙ ap (λ (xs : List SeenPiece). p ∷ xs) (take_behind ps qs n)

take_front : (ps qs : List SeenPiece) → take (length ps) (ps ++ qs) ≡ ps
take_front ps qs =
    let e : length ps ≡ length ps + 0 = omega arith in
    ap (λ k. take k (ps ++ qs)) e ∙ take_behind ps qs 0 ∙ append-nil ps

-- a line was played, and those behind it broke off
lines_break : (act : DebugAct) (acts : List DebugAct) (ending : List Entry) (t u : Tracer) (h k m : History) (a b c : Option (List ℕ)) → (now h).stopping ≡ false → PlaysSeen (act_part (plain_of act)) (commanded act t) u h k a b → BreaksLines acts ending u k m b c
    → BreaksLines (act ∷ acts) ending t h m a c
lines_break act acts ending t u h k m a b c e p q =
    let next : now k ≡ after (now h) p.entries = now-longer h k _ p.history in
    let first = pieces_of (commanded act t) (now h) p.entries in
    let count : length (p.entries ++ q.front) ≡ length first + length q.front = omega (arith, length-append p.entries q.front, length-pieces p.entries (now h) (commanded act t)) in
    record {
      front = p.entries ++ q.front;
      pending = q.pending;
      began = pending_behind p.entries q.front q.pending q.began;
      whole = λ later.
          let part = q.whole later in (
            part.0,
            append_assoc p.entries q.front part.0 ∙ ap (λ es. p.entries ++ es) part.1
                ∙ sym (goes_second (act_part (plain_of act)) (lines_story (plain_acts acts)) (now h) (now k) p.entries q.front (q.pending ++ later) next p.said)
                ∙ story_first act acts (outcomes_of (p.entries ++ q.front) ++ (q.pending ++ later)) (now h) e,
          );
      history = longer_as h m _ _ (sym (append_assoc p.entries q.front ending)) (longer_on h k m _ _ p.history q.history);
      told = text_of_all first ++ q.told;
      untold = q.untold;
      text = λ later.
          let rest = debug_pieces acts (outcomes_of q.front ++ (q.pending ++ later)) (now k) u in
          append_assoc (text_of_all first) q.told q.untold ∙ ap (λ text. text_of_all first ++ text) (q.text later)
          ∙ sym (
          ap text_of_all (
          ap (take (length (p.entries ++ q.front))) (pieces_first act acts (q.pending ++ later) (now h) (now k) t u p.entries q.front e p.said next p.tracer)
          ∙ ap (λ n. take n (first ++ rest)) count ∙ take_behind first rest (length q.front)
          ) ∙ text-append first (take (length q.front) rest)
          );
      appended = appends_twice a b c _ _ p.text q.appended;
      alive = q.alive;
    }

no_front : (es fs : List Entry) → es ++ fs ≡ [] → es ≡ []
no_front [] fs e = refl
no_front (x ∷ es) fs e = cc

-- the pieces of a front of what a line does
front_none : (acts : List DebugAct) (os : List Dumped) (w : World) (t : Tracer) (front rest : List Entry) → front ++ rest ≡ [] → take (length front) (debug_pieces acts os w t) ≡ pieces_of t w front
front_none acts os w t front rest e =
    let none = no_front front rest e in
    ap (λ (es : List Entry). take (length es) (debug_pieces acts os w t)) none ∙ sym (ap (pieces_of t w) none)

front_first : (act : DebugAct) (acts : List DebugAct) (os : List Dumped) (w : World) (t : Tracer) (front rest : List Entry) → w.stopping ≡ false → front ++ rest ≡ act_part (plain_of act) os w →
    take (length front) (debug_pieces (act ∷ acts) os w t) ≡ pieces_of (commanded act t) w front
front_first (Plain act) acts os w t front rest e is =
    let ps = pieces_of t w front in
    let qs = pieces_of (views_passed (views_in w front) t) (after w front) rest in
    let more = debug_pieces acts (drop (length (outcomes_of (line_story act os w))) os) (after w (line_story act os w)) (views_passed (views_in w (line_story act os w)) t) in
    ap (take (length front)) (
    cond-false _ _ _ e ∙ ap (λ (es : List Entry). pieces_of t w es ++ more) (sym is)
    ∙ ap (λ (xs : List SeenPiece). xs ++ more) (pieces-append front rest w t) ∙ append_assoc ps qs more
    )
    ∙ ap (λ n. take n (ps ++ (qs ++ more))) (sym (length-pieces front w t)) ∙ take_front ps (qs ++ more)
front_first (Break program line) acts os w t front rest e is = front_none acts os w (with_break (record { program = program; line = line }) t) front rest is
front_first (Clear program line) acts os w t front rest e is = front_none acts os w (without_break (record { program = program; line = line }) t) front rest is
front_first (Trace on) acts os w t front rest e is = front_none acts os w (record t { on = on }) front rest is

-- a line broke off
line_breaks : (act : DebugAct) (acts : List DebugAct) (ending : List Entry) (t : Tracer) (h k : History) (a b : Option (List ℕ)) → (now h).stopping ≡ false → BreaksSeen (act_part (plain_of act)) ending (commanded act t) h k a b → BreaksLines (act ∷ acts) ending t h k a b
line_breaks act acts ending t h k a b e p = record {
  front = p.front;
  pending = p.pending;
  began = p.began;
  whole = λ later.
      let f = act_part (plain_of act) in
      let os : List Dumped = outcomes_of p.front ++ (p.pending ++ later) in
      let part = p.whole later in
      let others : List Entry = lines_story (plain_acts acts) (drop (length (outcomes_of (f os (now h)))) os) (after (now h) (f os (now h))) in
      (part.0 ++ others, sym (append_assoc p.front part.0 others) ∙ ap (λ es. es ++ others) part.1 ∙ story_first act acts os (now h) e);
  history = p.history;
  told = p.told;
  untold = p.untold;
  text = λ later.
      let part = p.whole later in
      p.text ∙ ap text_of_all (sym (front_first act acts (outcomes_of p.front ++ (p.pending ++ later)) (now h) t p.front part.0 e part.1));
  appended = p.appended;
  alive = p.alive;
}

-- Behind the stop nothing more is done.

stopped_pieces : (acts : List DebugAct) (os : List Dumped) (w : World) (t : Tracer) → w.stopping ≡ true → debug_pieces acts os w t ≡ []
stopped_pieces [] os w t e = ap (pieces_of t w) (cond-true _ _ _ e)
stopped_pieces (Plain act ∷ acts) os w t e = cond-true _ _ _ e
stopped_pieces (Break program line ∷ acts) os w t e = stopped_pieces acts os w (with_break (record { program = program; line = line }) t) e
stopped_pieces (Clear program line ∷ acts) os w t e = stopped_pieces acts os w (without_break (record { program = program; line = line }) t) e
stopped_pieces (Trace on ∷ acts) os w t e = stopped_pieces acts os w (record t { on = on }) e

lines_stopped : (acts : List DebugAct) (t : Tracer) (h : History) (o : Option (List ℕ)) → (now h).stopping ≡ true → (now h).dead ≡ false → PlaysLines acts t h h o o
lines_stopped acts t h o e alive = record {
  entries = [];
  said = λ later. stopped (plain_acts acts) later (now h) e;
  history = longer_nothing h h refl;
  pieces = [];
  made = λ later. stopped_pieces acts later (now h) t e;
  text = appends_nothing o;
  texts = refl;
  alive = alive;
}

halt_text : (t : Tracer) (w : World) → text_of_all (pieces_of t w (by_porter Halt ∷ [])) ≡ []
unfolding event_told
halt_text t w = text_unseen (by_porter Halt ∷ []) w t refl

-- the run is halted behind the last line
lines_halted : (t : Tracer) (h k : History) (o : Option (List ℕ)) → (now h).stopping ≡ false → k ≡ entered h (by_porter Halt) → (now h).dead ≡ false → PlaysLines [] t h k o o
lines_halted t h k o e is alive =
    let halts : halting (now h) ≡ by_porter Halt ∷ [] = cond-false _ _ _ e in
    record {
      entries = by_porter Halt ∷ [];
      said = λ later. halts;
      history = longer_one h k (by_porter Halt) is;
      pieces = pieces_of t (now h) (by_porter Halt ∷ []);
      made = λ later. ap (pieces_of t (now h)) halts;
      text = appends_as o o [] _ (sym (halt_text t (now h))) (appends_nothing o);
      texts = ap are_texts (units_unseen (by_porter Halt ∷ []) (now h) t refl);
      alive = lives_on h k Halt is refl alive;
    }

-- What does the rest of the lines from here does them all from the start, and what breaks off the rest breaks off all.
pub record TowardsLines (whole rest : List DebugAct) (t u : Tracer) (h k : History) (a b : Option (List ℕ)) : Type 0 where
  pub finish : (m : History) (c : Option (List ℕ)) → PlaysLines rest u k m b c → PlaysLines whole t h m a c
  pub break : (ending : List Entry) (m : History) (c : Option (List ℕ)) → BreaksLines rest ending u k m b c → BreaksLines whole ending t h m a c
  pub alive : (now k).dead ≡ false
  pub ready : IsReady u

pub lines_begin : (acts : List DebugAct) (t : Tracer) (h : History) (a : Option (List ℕ)) → (now h).dead ≡ false → IsReady t → TowardsLines acts acts t t h h a a
lines_begin acts t h a alive ready = record { finish = λ m c p. p; break = λ ending m c p. p; alive = alive; ready = ready }

drop_one : (acts : List DebugAct) (at : ℕ) (act : DebugAct) → at < length acts → act ≡ get_or acts at act → drop at acts ≡ act ∷ drop (at + 1) acts
drop_one acts at act less is = drop-cons acts at act less ∙ ap (λ (x : DebugAct). x ∷ drop (suc at) acts) (sym is) ∙ rw (add-one at) refl

ready_break : (t u : Tracer) (b : Bool) → u.kept ≡ t.kept → u.refused ≡ t.refused → IsReady t → IsReady (cond b u t)
ready_break t u true e f r = record { empty = e ∙ r.empty; whole = f ∙ r.whole }
ready_break t u false e f r = r

pub ready_commanded : (act : DebugAct) (t : Tracer) → IsReady t → IsReady (commanded act t)
ready_commanded (Plain act) t r = r
ready_commanded (Break program line) t r =
    let spot : Spot = record { program = program; line = line } in
    ready_break t (record t { breaks = t.breaks ++ spot ∷ [] }) (can_break spot t) refl refl r
ready_commanded (Clear program line) t r = record { empty = r.empty; whole = r.whole }
ready_commanded (Trace on) t r = record { empty = r.empty; whole = r.whole }

pub lines_go_on : (acts : List DebugAct) (at : ℕ) (act : DebugAct) (t u v : Tracer) (h k l : History) (a b c : Option (List ℕ)) → at < length acts → act ≡ get_or acts at act → (now k).stopping ≡ false →
    TowardsLines acts (drop at acts) t u h k a b → PlaysSeen (act_part (plain_of act)) (commanded act u) v k l b c → TowardsLines acts (drop (at + 1) acts) t v h l a c
lines_go_on acts at act t u v h k l a b c less is e w p =
    let next = sym (drop_one acts at act less is) in
    record {
      finish = λ m o q. w.finish m o (subst (λ (xs : List DebugAct). PlaysLines xs u k m b o) next (lines_then act (drop (at + 1) acts) u v k l m b c o e p q));
      break = λ ending m o q. w.break ending m o (subst (λ (xs : List DebugAct). BreaksLines xs ending u k m b o) next (lines_break act (drop (at + 1) acts) ending u v k l m b c o e p q));
      alive = p.alive;
      ready = ready_seen (act_part (plain_of act)) (commanded act u) v k l b c p (ready_commanded act u w.ready);
    }

pub lines_broke : (acts : List DebugAct) (at : ℕ) (act : DebugAct) (ending : List Entry) (t u : Tracer) (h k l : History) (a b c : Option (List ℕ)) → at < length acts → act ≡ get_or acts at act → (now k).stopping ≡ false →
    TowardsLines acts (drop at acts) t u h k a b → BreaksSeen (act_part (plain_of act)) ending (commanded act u) k l b c → BreaksLines acts ending t h l a c
lines_broke acts at act ending t u h k l a b c less is e w p =
    w.break ending l c (subst (λ (xs : List DebugAct). BreaksLines xs ending u k l b c) (sym (drop_one acts at act less is)) (line_breaks act (drop (at + 1) acts) ending u k l b c e p))

pub lines_stop : (acts rest : List DebugAct) (t u : Tracer) (h k : History) (a b : Option (List ℕ)) → TowardsLines acts rest t u h k a b → (now k).stopping ≡ true → PlaysLines acts t h k a b
lines_stop acts rest t u h k a b w e = w.finish k b (lines_stopped rest u k b e w.alive)

pub lines_halt : (acts : List DebugAct) (at : ℕ) (t u : Tracer) (h k l : History) (a b : Option (List ℕ)) → length acts ≤ at → (now k).stopping ≡ false → l ≡ entered k (by_porter Halt) → TowardsLines acts (drop at acts) t u h k a b → PlaysLines acts t h l a b
lines_halt acts at t u h k l a b over e is w = w.finish l b (subst (λ (xs : List DebugAct). PlaysLines xs u k l b b) (sym (drop_all at acts over)) (lines_halted u k l b e is w.alive))

-- So many pieces as entries.

-- so many pieces as entries, where so many follow
length_then : (f : Part) (more : Pieces) (others : Part) (os : List Dumped) (w : World) (t : Tracer) →
    length (more (drop (length (outcomes_of (f os w))) os) (after w (f os w)) (views_passed (views_in w (f os w)) t)) ≡ length (others (drop (length (outcomes_of (f os w))) os) (after w (f os w)))
    → length (then_seen_pieces more os w t (f os w)) ≡ length (both_parts f others os w)
length_then f more others os w t e =
    let es = f os w in
    let left : List Dumped = drop (length (outcomes_of es)) os in
    length-append (pieces_of t w es) (more left (after w es) (views_passed (views_in w es) t))
    ∙ ap (λ n. n + length (more left (after w es) (views_passed (views_in w es) t))) (length-pieces es w t)
    ∙ ap (λ n. length es + n) e
    ∙ sym (length-append es (others left (after w es)))

either_length : (b : Bool) (ps : List SeenPiece) (es : List Entry) → length ps ≡ length es → length (cond b (let none : List SeenPiece = [] in none) ps) ≡ length (cond b (let none : List Entry = [] in none) es)
either_length true ps es e = refl
either_length false ps es e = e

pub length-debug : (acts : List DebugAct) (os : List Dumped) (w : World) (t : Tracer) → length (debug_pieces acts os w t) ≡ length (lines_story (plain_acts acts) os w)
length-debug [] os w t = length-pieces (halting w) w t
length-debug (Plain act ∷ acts) os w t =
    let es : List Entry = line_story act os w in
    let more = length-debug acts (drop (length (outcomes_of es)) os) (after w es) (views_passed (views_in w es) t) in
    either_length w.stopping _ _ (length_then (line_story act) (debug_pieces acts) (lines_story (plain_acts acts)) os w t more)
length-debug (Break program line ∷ acts) os w t = length-debug acts os w (with_break (record { program = program; line = line }) t)
length-debug (Clear program line ∷ acts) os w t = length-debug acts os w (without_break (record { program = program; line = line }) t)
length-debug (Trace on ∷ acts) os w t = length-debug acts os w (record t { on = on })
