-- The turns after a line: nothing is written of them, they leave the world alive, and no dump is among them.
use Rattle.std.proofs.Common.{◌≡◌, ℕ, ℤ, false, List, [], ◌∷◌, ◌++◌, refl, sym, ◌∙◌, ap, Option, Some, None, suc, zero, subst}
use Rattle.std.specs.List.{list_any}
use Rattle.muck_laws.proofs.Lists.{no_ending}
use Rattle.muck_model.specs.declared.event.Entry.{Entry}
use Rattle.muck_model.specs.declared.event.Event.TheVariants.{Exec, Claim, Slice, Died}
use Rattle.spec_events.specs.Logged.{is_dump}
use Rattle.spec_dumps.specs.inner.Holding.{Quietly}
use Rattle.spec_dumps.proofs.Quiet.{quiet_grew}
use Rattle.spec_events.specs.World.{World}
use Rattle.spec_events.specs.Steps.{effect}
use Rattle.spec_events.specs.Histories.{History, now, after, Grew, by_porter}
use Rattle.spec_events.proofs.Living.{dead-effect}
use Rattle.spec_events.proofs.Runs.{longer_grew, now-grew}
use Rattle.muck_script.specs.inner.Settling.{DiedDuring}
use Rattle.muck_script.specs.Story.{StoryTurn, of_line, of_process, next_turn, turn_entries, turn_followed, turns, plain_part, event_told, transcript_of}
use Rattle.muck_run.specs.inner.Plays.{Plays, Breaks}
use Rattle.muck_run.proofs.Parts.{appends_nothing, appends_as}

-- Entries of turns, each behind the other: done lines, claims and slices.
data AreTurns : List Entry → Type 0 where
  no_turn : AreTurns []
  a_line : (d : ℕ) (es : List Entry) → AreTurns es → AreTurns (by_porter (Exec d) ∷ es)
  a_claim : (pid : ℤ) (es : List Entry) → AreTurns es → AreTurns (by_porter (Claim pid) ∷ es)
  a_slice : (pid : ℤ) (es : List Entry) → AreTurns es → AreTurns (by_porter (Slice pid) ∷ es)

turn_is : (o : Option StoryTurn) (others : StoryTurn → List Entry) → ((t : StoryTurn) → AreTurns (others t)) → AreTurns (turn_followed o others)
turn_is None others p = no_turn
turn_is (Some (of_line d)) others p = a_line d _ (p (of_line d))
turn_is (Some (of_process pid)) others p = a_claim pid _ (a_slice pid _ (p (of_process pid)))

turns_are : (n : ℕ) (w : World) → AreTurns (turns n w)
unfolding turns
turns_are zero w = no_turn
turns_are (suc n) w = turn_is (next_turn w) (λ t. turns n (after w (turn_entries t))) (λ t. turns_are n (after w (turn_entries t)))

turns_silent : (es : List Entry) → AreTurns es → (w : World) → transcript_of w es ≡ []
unfolding event_told
turns_silent _ no_turn w = refl
turns_silent _ (a_line d es l) w = turns_silent es l (effect w (by_porter (Exec d)))
turns_silent _ (a_claim pid es l) w = turns_silent es l (effect w (by_porter (Claim pid)))
turns_silent _ (a_slice pid es l) w = turns_silent es l (effect w (by_porter (Slice pid)))

-- nothing is written of turns
pub turned_silent : (n : ℕ) (w : World) → transcript_of w (turns n w) ≡ []
turned_silent n w = turns_silent (turns n w) (turns_are n w) w

turns_live : (es : List Entry) → AreTurns es → (w : World) → (after w es).dead ≡ w.dead
turns_live _ no_turn w = refl
turns_live _ (a_line d es l) w = turns_live es l (effect w (by_porter (Exec d))) ∙ dead-effect w (by_porter (Exec d)) refl
turns_live _ (a_claim pid es l) w = turns_live es l (effect w (by_porter (Claim pid))) ∙ dead-effect w (by_porter (Claim pid)) refl
turns_live _ (a_slice pid es l) w = turns_live es l (effect w (by_porter (Slice pid))) ∙ dead-effect w (by_porter (Slice pid)) refl

front_turns : (front rest : List Entry) → AreTurns (front ++ rest) → AreTurns front
front_turns [] rest l = no_turn
front_turns (e ∷ front) rest (a_line d _ l) = a_line d front (front_turns front rest l)
front_turns (e ∷ front) rest (a_claim pid _ l) = a_claim pid front (front_turns front rest l)
front_turns (e ∷ front) rest (a_slice pid _ l) = a_slice pid front (front_turns front rest l)

pub plays_turns : (n : ℕ) (h k : History) (o : Option (List ℕ)) → Grew h k (turns n (now h)) → (now h).dead ≡ false → Plays (plain_part (turns n)) h k o o
plays_turns n h k o is alive = record {
  entries = turns n (now h);
  said = λ later. refl;
  history = longer_grew h k _ is;
  text = appends_as o o [] _ (sym (turns_silent (turns n (now h)) (turns_are n (now h)) (now h))) (appends_nothing o);
  alive = ap (λ (w : World). w.dead) (now-grew h k _ is) ∙ turns_live (turns n (now h)) (turns_are n (now h)) (now h) ∙ alive;
}

died_in_turns : (n : ℕ) (h k : History) (d : DiedDuring (turns n (now h)) h k) → AreTurns d.front
died_in_turns n h k d = front_turns d.front d.rest (let P : List Entry → Type 0 = AreTurns in subst P (sym d.whole) (turns_are n (now h)))

pub breaks_turns : (n : ℕ) (h k : History) (o : Option (List ℕ)) → DiedDuring (turns n (now h)) h k → Breaks (plain_part (turns n)) (by_porter Died ∷ []) h k o o
breaks_turns n h k o d = record {
  front = d.front;
  pending = [];
  began = tt;
  whole = λ later. (d.rest, d.whole);
  history = longer_grew h k _ d.died;
  told = [];
  untold = [];
  text = sym (turns_silent d.front (died_in_turns n h k d) (now h));
  appended = appends_nothing o;
  alive = λ e. no_ending e;
}

turns_quiet : (es : List Entry) → AreTurns es → list_any (λ (e : Entry). is_dump e.event) es ≡ false
turns_quiet _ no_turn = refl
turns_quiet _ (a_line d es l) = turns_quiet es l
turns_quiet _ (a_claim pid es l) = turns_quiet es l
turns_quiet _ (a_slice pid es l) = turns_quiet es l

dying_quiet : (es : List Entry) → AreTurns es → list_any (λ (e : Entry). is_dump e.event) (es ++ by_porter Died ∷ []) ≡ false
dying_quiet _ no_turn = refl
dying_quiet _ (a_line d es l) = dying_quiet es l
dying_quiet _ (a_claim pid es l) = dying_quiet es l
dying_quiet _ (a_slice pid es l) = dying_quiet es l

pub quiet_turns : (n : ℕ) (h k : History) → Grew h k (turns n (now h)) → Quietly h k
quiet_turns n h k is = quiet_grew h k _ (turns_quiet (turns n (now h)) (turns_are n (now h))) is

pub quiet_dying : (n : ℕ) (h k : History) → DiedDuring (turns n (now h)) h k → Quietly h k
quiet_dying n h k d = quiet_grew h k _ (dying_quiet d.front (died_in_turns n h k d)) d.died
