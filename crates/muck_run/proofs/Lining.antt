-- A line of a script: the dump that is asked there, and what is kept of the disks behind it.
use Rattle.std.proofs.Common.{◌≡◌, ℕ, Bool, true, false, ◌||◌, List, refl, sym, ap, Option, is_some, Result, Ok, Err}
use Rattle.std.proofs.lemmas.Bool.{cond-true, cond-false}
use Rattle.muck_log.specs.Store.{LogState}
use Rattle.muck_log.specs.declared.fault.LogFault.{LogFault}
use Rattle.muck_model.specs.declared.event.Entry.{Entry}
use Rattle.spec_dumps.specs.inner.Holding.{Quietly, Rests}
use Rattle.spec_dumps.proofs.Quiet.{rests_quiet}
use Rattle.spec_events.specs.World.{World}
use Rattle.spec_events.specs.Histories.{History, now}
use Rattle.spec_live.specs.Connections.{connections_most}
use Rattle.muck_script.specs.declared.act.Act.{Act}
use Rattle.muck_script.specs.Story.{Dumped, Part, acted, turns, turns_most, plain_part, both_parts, served, asks_dump, dump_part, asked_dump, line_story}
use Rattle.muck_run.specs.declared.playing.RunFault.{RunFault}
use Rattle.muck_run.specs.declared.playing.RunFault.TheVariants.{NoMemory}
use Rattle.muck_run.specs.inner.Dumps.{Dumps, Held}
use Rattle.muck_run.specs.inner.Plays.{Plays, Breaks, PlaysOrBreaks}
use Rattle.muck_run.proofs.Parts.{plays_nothing, plays_both, breaks_first, breaks_second}
use Rattle.muck_run.proofs.Towards.{plays_as, breaks_as}
use Rattle.muck_run.proofs.Exits.{second_part}

-- whether a dump is made there
abbrev pub is_asked : Act → World → Bool
is_asked act w = asks_dump act || is_some w.dumps.asked

-- The dump that is asked for is made, and nothing where none is.

asked_is : (act : Act) (w : World) (os : List Dumped) → is_asked act w ≡ true → dump_part os w ≡ asked_dump act os w
unfolding asked_dump
asked_is act w os due = sym (cond-true _ _ _ due)

pub plays_asked : (act : Act) (h k : History) (o : Option (List ℕ)) → is_asked act (now h) ≡ true → Plays dump_part h k o o → Plays (asked_dump act) h k o o
plays_asked act h k o due p = plays_as dump_part (asked_dump act) h k o o (λ os. asked_is act (now h) os due) p

pub breaks_asked : (act : Act) (ending : List Entry) (h k : History) (o : Option (List ℕ)) → is_asked act (now h) ≡ true → Breaks dump_part ending h k o o → Breaks (asked_dump act) ending h k o o
breaks_asked act ending h k o due p = breaks_as dump_part (asked_dump act) ending h k o o (λ os. asked_is act (now h) os due) p

pub plays_unasked : (act : Act) (h : History) (o : Option (List ℕ)) → is_asked act (now h) ≡ false → (now h).dead ≡ false → Plays (asked_dump act) h h o o
unfolding asked_dump
plays_unasked act h o undue alive = plays_nothing (asked_dump act) h h o (λ later. cond-false _ _ _ undue) refl alive

-- What a line of the script does, by its three parts.

abbrev pub first_turns : Act → Part
first_turns act = both_parts (plain_part (acted act)) (plain_part (turns turns_most))

abbrev pub then_asked : Act → Part
then_asked act = both_parts (first_turns act) (asked_dump act)

pub line_breaks : (act : Act) (ending : List Entry) (h k : History) (a b : Option (List ℕ)) → Breaks (first_turns act) ending h k a b → Breaks (line_story act) ending h k a b
unfolding line_story
line_breaks act ending h k a b p =
    breaks_first (then_asked act) (served connections_most 1) ending h k a b (breaks_first (first_turns act) (asked_dump act) ending h k a b p)

pub line_breaks_dumping : (act : Act) (ending : List Entry) (h k m : History) (a b : Option (List ℕ)) → Plays (first_turns act) h k a b → Breaks (asked_dump act) ending k m b b → Breaks (line_story act) ending h m a b
unfolding line_story
line_breaks_dumping act ending h k m a b p q =
    breaks_first (then_asked act) (served connections_most 1) ending h m a b (breaks_second (first_turns act) (asked_dump act) ending h k m a b b p q)

pub line_serves : {T : Type 0} (act : Act) (h k l m : History) (a b c : Option (List ℕ)) (r : Result T RunFault) → Plays (first_turns act) h k a b → Plays (asked_dump act) k l b b → PlaysOrBreaks (served connections_most 1) l m b c r → PlaysOrBreaks (line_story act) h m a c r
unfolding line_story
line_serves act h k l m a b c r p q s =
    second_part (then_asked act) (served connections_most 1) h l m a b c r (plays_both (first_turns act) (asked_dump act) h k l a b b p q) s

module _ {D T : Type 0} (seen : D → List ℕ) (moment : D → ℕ) (images : D → ℕ → List ℕ → Type 0) (faults : D → ℕ) (log : Option LogState) (f s : D) (mounted : ℕ) (k : History) (r : Result T RunFault) where
  -- the disks rest, whatever the answer
  pub held_resting : Rests seen moment images faults log f s mounted k → Held seen moment images faults log f s mounted k r
  held_resting v = record { safe = v.keeps.safe; rests = λ other. v }

  pub held_quiet : (h : History) → Quietly h k → Rests seen moment images faults log f s mounted h → Held seen moment images faults log f s mounted k r
  held_quiet h q v = held_resting (rests_quiet seen moment images faults log f s mounted h k q v)

module _ {D : Type 0} (seen : D → List ℕ) (moment : D → ℕ) (images : D → ℕ → List ℕ → Type 0) (faults : D → ℕ) (log : Option LogState) (f s : D) (mounted : ℕ) (k : History) where
  -- a dump was made
  pub held_dumped : {T : Type 0} (o : Option LogFault) (x : T) → Dumps {E = RunFault} seen moment images faults log f s mounted k (Ok o) → Held {T = T} seen moment images faults log f s mounted k (Ok x)
  held_dumped o x d = record { safe = d.safe; rests = λ other. d.rests }

  -- memory was wanted for it
  pub held_died : {T : Type 0} (fault : RunFault) → Dumps seen moment images faults log f s mounted k (Err fault) → fault ≡ NoMemory → Held {T = T} seen moment images faults log f s mounted k (Err fault)
  held_died fault d is = record { safe = d.safe; rests = λ other. absurd (other (ap Err is)) }
