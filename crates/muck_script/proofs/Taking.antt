-- A turn, as it is taken.
use Rattle.std.proofs.Common.{◌≡◌, ℕ, ℤ, Bool, true, false, ◌&&◌, cond, [], ◌∷◌, refl, sym, ◌∙◌, ap, Option, Some, None}
use Rattle.std.proofs.lemmas.Bool.{cond-true, and_parts}
use Rattle.std.specs.Prelude.{is_some}
use Rattle.muck_model.specs.declared.event.Event.TheVariants.{Exec, Claim, Slice}
use Rattle.spec_events.specs.World.{World}
use Rattle.spec_events.specs.Steps.{has_claim, is_process_there, is_lawful, next_ready, next_process}
use Rattle.spec_events.specs.Histories.{History, now, entered, Grew, by_porter}
use Rattle.spec_events.proofs.Runs.{grew_nothing, grew_one, grew_on, grew_as, now-grew}
use Rattle.spec_events.proofs.Claims.{chosen_lawful}
use Rattle.muck_machine.specs.inner.Claims.{slice_event}
use Rattle.muck_machine.specs.declared.world.Sliced.{Sliced}
use Rattle.muck_machine.specs.declared.world.Sliced.TheVariants.{Ran, Lost}
use Rattle.muck_script.specs.Story.{StoryTurn, of_line, turn_chosen, next_turn}
use Rattle.muck_script.specs.inner.Settling.{entries_of, slice_of}

-- no process is to go on
pub no_slice : (h k : History) → next_process (now h) ≡ None → k ≡ h → Grew h k (entries_of (slice_of (next_process (now h))))
no_slice h k e is = grew_as h k [] _ (ap (λ (o : Option ℤ). entries_of (slice_of o)) (sym e)) (grew_nothing h k is)

-- a process that a party has claimed in a world that lives, and that is there
pub record MayRun (party : ℕ) (w : World) (pid : ℤ) : Type 0 where
  pub alive : w.dead ≡ false
  pub claim : has_claim party pid w ≡ true
  pub there : is_process_there pid w ≡ true

pub lawful_runs : (party : ℕ) (w : World) (pid : ℤ) → is_lawful w (record { party = party; event = Slice pid }) ≡ true → MayRun party w pid
unfolding is_lawful
lawful_runs party w pid = at w.dead refl where
  at : (dead : Bool) → w.dead ≡ dead → cond dead false (has_claim party pid w && is_process_there pid w) ≡ true → MayRun party w pid
  at true e l = cc
  at false e l = let all = and_parts (has_claim party pid w) (is_process_there pid w) l in record { alive = e; claim = all.0; there = all.1 }

-- what was claimed may be sliced
pub may_slice : (h k : History) (pid : ℤ) → next_process (now h) ≡ Some pid → k ≡ entered h (by_porter (Claim pid)) → MayRun 0 (now k) pid
may_slice h k pid e is =
    lawful_runs 0 (now k) pid
    (ap (λ (w : World). is_lawful w (by_porter (Slice pid))) (now-grew h k _ (grew_one h k (by_porter (Claim pid)) is))
    ∙ chosen_lawful (now h) 0 pid e)

-- it is there, since it was claimed just before
pub sliced : (h k next : History) (pid : ℤ) (how : Sliced) → next_process (now h) ≡ Some pid → k ≡ entered h (by_porter (Claim pid)) →
    how ≡ cond (is_process_there pid (now k)) Ran Lost → next ≡ entered k (by_porter (slice_event pid how)) → Grew h next (entries_of (slice_of (next_process (now h))))
sliced h k next pid how e claimed ran is =
    let there : how ≡ Ran = ran ∙ cond-true _ _ _ (may_slice h k pid e claimed).there in
    grew_as h next (by_porter (Claim pid) ∷ by_porter (Slice pid) ∷ []) _ (ap (λ (o : Option ℤ). entries_of (slice_of o)) (sym e))
    (grew_on h k next _ _ (grew_one h k (by_porter (Claim pid)) claimed) (grew_one k next (by_porter (Slice pid)) (is ∙ ap (λ s. entered k (by_porter (slice_event pid s))) there)))

-- a line is first
pub line_first : (w : World) (d : ℕ) → next_ready w ≡ Some d → next_turn w ≡ Some (of_line d)
unfolding next_turn
line_first w d e = ap (λ (o : Option ℕ). turn_chosen o (next_process w)) e

pub line_taken : (h k : History) (d : ℕ) → next_ready (now h) ≡ Some d → k ≡ entered h (by_porter (Exec d)) → Grew h k (entries_of (next_turn (now h)))
line_taken h k d e is = grew_as h k (by_porter (Exec d) ∷ []) _ (ap (λ (o : Option StoryTurn). entries_of o) (sym (line_first (now h) d e))) (grew_one h k (by_porter (Exec d)) is)

chosen_none : (p : Option ℤ) → slice_of p ≡ turn_chosen None p
chosen_none None = refl
chosen_none (Some pid) = refl

-- no line is ready
pub process_next : (w : World) → next_ready w ≡ None → slice_of (next_process w) ≡ next_turn w
unfolding next_turn
process_next w e = chosen_none (next_process w) ∙ ap (λ (o : Option ℕ). turn_chosen o (next_process w)) (sym e)

some_slice : (p : Option ℤ) → is_some p ≡ is_some (slice_of p)
some_slice None = refl
some_slice (Some pid) = refl

pub some_next : (w : World) → next_ready w ≡ None → is_some (next_process w) ≡ is_some (next_turn w)
some_next w e = some_slice (next_process w) ∙ ap (λ (o : Option StoryTurn). is_some o) (process_next w e)
