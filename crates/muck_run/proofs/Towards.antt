-- A run that is on its way.
use Rattle.std.specs.Prelude.{is_some}
use Rattle.std.proofs.Common.{◌≡◌, ℕ, ◌+◌, ◌<◌, ◌≤◌, true, false, List, [], ◌∷◌, ◌++◌, length, drop, get_or, refl, sym, ◌∙◌, ap, arith, Option, suc, zero, add-one}
use Rattle.std.proofs.lemmas.Bool.{cond-true, cond-false}
use Rattle.std.proofs.Math.Seq.{drop-cons}
use Rattle.std.proofs.lemmas.List.{drop_all}
use Rattle.muck_model.specs.declared.event.Entry.{Entry}
use Rattle.muck_model.specs.declared.event.Event.TheVariants.{Halt}
use Rattle.spec_events.specs.World.{World, connection}
use Rattle.spec_live.specs.Connections.{connections_most}
use Rattle.spec_events.specs.Histories.{History, now, entered, by_porter}
use Rattle.muck_script.specs.declared.act.Act.{Act}
use Rattle.muck_script.specs.Story.{Dumped, Part, outcomes_of, plain_part, both_parts, queue_taken, connection_parted, served, line_story, lines_story, event_told}
use Rattle.muck_run.specs.inner.Plays.{Plays, Breaks}
use Rattle.muck_run.proofs.Opening.{served_nothing}
use Rattle.muck_run.proofs.Parts.{plays_both, plays_nothing, plays_one, appends_nothing, breaks_first, breaks_second}

-- What does the rest from here does the whole from the start, and what breaks off the rest breaks off the whole. The
-- world lives.
pub record Towards (whole rest : Part) (h k : History) (a b : Option (List ℕ)) : Type 0 where
  pub finish : (m : History) (c : Option (List ℕ)) → Plays rest k m b c → Plays whole h m a c
  pub break : (ending : List Entry) (m : History) (c : Option (List ℕ)) → Breaks rest ending k m b c → Breaks whole ending h m a c
  pub alive : (now k).dead ≡ false

pub towards_begins : (f : Part) (h : History) (a : Option (List ℕ)) → (now h).dead ≡ false → Towards f f h h a a
towards_begins f h a alive = record { finish = λ m c p. p; break = λ ending m c p. p; alive = alive }

-- the same entries, said in another way
pub plays_as : (f g : Part) (h k : History) (a b : Option (List ℕ)) → ((os : List Dumped) → f os (now h) ≡ g os (now h)) → Plays f h k a b → Plays g h k a b
plays_as f g h k a b e p = record {
  entries = p.entries;
  said = λ later. sym (e (outcomes_of p.entries ++ later)) ∙ p.said later;
  history = p.history;
  text = p.text;
  alive = p.alive;
}

-- what broke off of them
pub breaks_as : (f g : Part) (ending : List Entry) (h k : History) (a b : Option (List ℕ)) → ((os : List Dumped) → f os (now h) ≡ g os (now h)) → Breaks f ending h k a b → Breaks g ending h k a b
breaks_as f g ending h k a b e p = record {
  front = p.front;
  pending = p.pending;
  began = p.began;
  whole = λ later. let part = p.whole later in (part.0, part.1 ∙ e (outcomes_of p.front ++ (p.pending ++ later)));
  history = p.history;
  told = p.told;
  untold = p.untold;
  text = p.text;
  appended = p.appended;
  alive = p.alive;
}

-- a part was done, and the others are left
towards_goes_on : (whole rest first others : Part) (h k l : History) (a b c : Option (List ℕ)) → Towards whole rest h k a b → ((os : List Dumped) → both_parts first others os (now k) ≡ rest os (now k)) → Plays first k l b c → Towards whole others h l a c
towards_goes_on whole rest first others h k l a b c t e p = record {
  finish = λ m o q. t.finish m o (plays_as (both_parts first others) rest k m b o e (plays_both first others k l m b c o p q));
  break = λ ending m o q. t.break ending m o (breaks_as (both_parts first others) rest ending k m b o e (breaks_second first others ending k l m b c o p q));
  alive = p.alive;
}

-- a part broke off
towards_breaks : (whole rest first others : Part) (ending : List Entry) (h k l : History) (a b c : Option (List ℕ)) → Towards whole rest h k a b → ((os : List Dumped) → both_parts first others os (now k) ≡ rest os (now k)) → Breaks first ending k l b c → Breaks whole ending h l a c
towards_breaks whole rest first others ending h k l a b c t e p = t.break ending l c (breaks_as (both_parts first others) rest ending k l b c e (breaks_first first others ending k l b c p))

-- nothing is left
towards_ends : (whole rest : Part) (h k : History) (a b : Option (List ℕ)) → Towards whole rest h k a b → ((os : List Dumped) → rest os (now k) ≡ []) → Plays whole h k a b
towards_ends whole rest h k a b t e = t.finish k b (plays_nothing rest k k b (λ later. e later) refl t.alive)

-- the connections that are left to serve; those that aren't there need nothing
pub record IsServing (whole : Part) (d : ℕ) (h k : History) (a b : Option (List ℕ)) : Type 0 where
  pub left : ℕ
  pub all : left + d ≡ 257
  pub towards : Towards whole (served left d) h k a b

pub serving_begins : (h : History) (a : Option (List ℕ)) → (now h).dead ≡ false → IsServing (served connections_most 1) 1 h h a a
serving_begins h a alive = record { left = 256; all = refl; towards = towards_begins (served 256 1) h a alive }

pub serving_goes_on : (whole : Part) (d : ℕ) (h k l : History) (a b c : Option (List ℕ)) → IsServing whole d h k a b → d < 257 → Plays (both_parts (plain_part (queue_taken d)) (plain_part (connection_parted d))) k l b c → IsServing whole (d + 1) h l a c
unfolding served
serving_goes_on whole d h k l a b c s less p = goes s.left s.all s.towards where
  goes : (left : ℕ) → left + d ≡ 257 → Towards whole (served left d) h k a b → IsServing whole (d + 1) h l a c
  goes zero e t = absurd (omega arith)
  goes (suc n) e t = record { left = n; all = omega arith; towards = towards_goes_on whole (served (suc n) d) (both_parts (plain_part (queue_taken d)) (plain_part (connection_parted d))) (served n (d + 1)) h k l a b c t (λ os. refl) p }

pub serving_breaks : (whole : Part) (d : ℕ) (ending : List Entry) (h k l : History) (a b c : Option (List ℕ)) → IsServing whole d h k a b → d < 257 → Breaks (both_parts (plain_part (queue_taken d)) (plain_part (connection_parted d))) ending k l b c → Breaks whole ending h l a c
unfolding served
serving_breaks whole d ending h k l a b c s less p = goes s.left s.all s.towards where
  goes : (left : ℕ) → left + d ≡ 257 → Towards whole (served left d) h k a b → Breaks whole ending h l a c
  goes zero e t = absurd (omega arith)
  goes (suc n) e t = towards_breaks whole (served (suc n) d) (both_parts (plain_part (queue_taken d)) (plain_part (connection_parted d))) (served n (d + 1)) ending h k l a b c t (λ os. refl) p

pub serving_ends : (whole : Part) (d : ℕ) (h k : History) (a b : Option (List ℕ)) → IsServing whole d h k a b → ((n : ℕ) → d ≤ n → n < 257 → is_some (connection n (now k)) ≡ false) → Plays whole h k a b
serving_ends whole d h k a b s none =
    let all = s.all in
    towards_ends whole (served s.left d) h k a b s.towards (λ os. served_nothing s.left d os (now k) (λ n from below. none n from (omega arith)))

drop_one : (acts : List Act) (at : ℕ) (act : Act) → at < length acts → act ≡ get_or acts at act → drop at acts ≡ act ∷ drop (at + 1) acts
drop_one acts at act less is = drop-cons acts at act less ∙ ap (λ x. x ∷ drop (suc at) acts) (sym is) ∙ rw (add-one at) refl

-- once the world is stopping, nothing more happens
pub stopped : (acts : List Act) (os : List Dumped) (w : World) → w.stopping ≡ true → lines_story acts os w ≡ []
stopped [] os w e = cond-true _ _ _ e
stopped (act ∷ acts) os w e = cond-true _ _ _ e

pub playing_stopped : (acts rest : List Act) (h k : History) (a b : Option (List ℕ)) → Towards (lines_story acts) (lines_story rest) h k a b → (now k).stopping ≡ true → Plays (lines_story acts) h k a b
playing_stopped acts rest h k a b t e = towards_ends (lines_story acts) (lines_story rest) h k a b t (λ os. stopped rest os (now k) e)

-- a line's story, and the story of the lines behind it
line_first : (acts : List Act) (at : ℕ) (act : Act) (os : List Dumped) (w : World) → at < length acts → act ≡ get_or acts at act → w.stopping ≡ false →
    both_parts (line_story act) (lines_story (drop (at + 1) acts)) os w ≡ lines_story (drop at acts) os w
line_first acts at act os w less is e = sym (cond-false _ _ _ e) ∙ ap (λ xs. lines_story xs os w) (sym (drop_one acts at act less is))

pub playing_goes_on : (acts : List Act) (at : ℕ) (act : Act) (h k l : History) (a b c : Option (List ℕ)) → at < length acts → act ≡ get_or acts at act → (now k).stopping ≡ false →
    Towards (lines_story acts) (lines_story (drop at acts)) h k a b → Plays (line_story act) k l b c → Towards (lines_story acts) (lines_story (drop (at + 1) acts)) h l a c
playing_goes_on acts at act h k l a b c less is e t p =
    towards_goes_on (lines_story acts) (lines_story (drop at acts)) (line_story act) (lines_story (drop (at + 1) acts)) h k l a b c t (λ os. line_first acts at act os (now k) less is e) p

pub playing_breaks : (acts : List Act) (at : ℕ) (act : Act) (ending : List Entry) (h k l : History) (a b c : Option (List ℕ)) → at < length acts → act ≡ get_or acts at act → (now k).stopping ≡ false →
    Towards (lines_story acts) (lines_story (drop at acts)) h k a b → Breaks (line_story act) ending k l b c → Breaks (lines_story acts) ending h l a c
playing_breaks acts at act ending h k l a b c less is e t p =
    towards_breaks (lines_story acts) (lines_story (drop at acts)) (line_story act) (lines_story (drop (at + 1) acts)) ending h k l a b c t (λ os. line_first acts at act os (now k) less is e) p

-- the run is halted behind the last line
pub playing_halted : (acts : List Act) (at : ℕ) (h k l : History) (a b : Option (List ℕ)) → length acts ≤ at → (now k).stopping ≡ false → l ≡ entered k (by_porter Halt) →
    Towards (lines_story acts) (lines_story (drop at acts)) h k a b → Plays (lines_story acts) h l a b
unfolding event_told
playing_halted acts at h k l a b over e is t =
    let none : drop at acts ≡ [] = drop_all at acts over in
    let same : (os : List Dumped) → lines_story (drop at acts) os (now k) ≡ by_porter Halt ∷ [] = λ os. ap (λ xs. lines_story xs os (now k)) none ∙ cond-false _ _ _ e in
    t.finish l b (plays_one (lines_story (drop at acts)) k l b b Halt [] (λ later. same later) is refl t.alive refl (appends_nothing b))
