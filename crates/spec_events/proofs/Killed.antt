-- The process that a keeper's line ends, and those that are there behind it.
use Rattle.std.proofs.Common.{◌≡◌, ℕ, true, List, refl, sym, ◌∙◌, subst, Option, Some, None}
use Rattle.std.specs.Prelude.{is_none}
use Rattle.std.specs.Option.{option_map_or}
use Rattle.muck_model.specs.declared.dbref.Denial.{Denial}
use Rattle.spec_live.specs.Lives.{Live}
use Rattle.spec_rights.specs.declared.act.Actor.{Actor}
use Rattle.spec_rights.specs.Verdict.{verdict}
use Rattle.spec_commands.specs.declared.outcome.Outcome.{Outcome}
use Rattle.spec_commands.specs.declared.outcome.Outcome.TheVariants.{NotMine}
use Rattle.spec_commands.specs.Commands.{played}
use Rattle.muck_queue.specs.declared.process.Process.{Process}
use Rattle.muck_queue.specs.Queues.{Queue, process, without_process}
use Rattle.muck_queue.specs.inner.Numbered.{IsNumbered}
use Rattle.spec_admin.specs.Processes.{ending_act, may_end}
use Rattle.spec_admin.specs.Lines.{line_ends, after_line}
use Rattle.spec_admin.proofs.Ended.{line_ends_open}
use Rattle.spec_processes.proofs.Leaves.{ended_by}
use Rattle.spec_events.specs.Lines.{ended_behind, processes_after_line}
use Rattle.spec_events.specs.Endings.{end_open}
use Rattle.spec_events.proofs.Modes.{numbered_without}
use Rattle.spec_events.proofs.Endings.{Lasting, lasting_same, lasting_without}
use Rattle.spec_events.proofs.Typed.{left_to_keepers}

none_of : (o : Option Denial) → is_none o ≡ true → o ≡ None
none_of None e = refl
none_of (Some denial) e = absurd cc

-- which the rule lets end
ended_open : (a : Actor) (w : Live) (p : Process) → may_end a w p ≡ true → end_open a w.objects p ≡ true
ended_open a w p e = ended_by a w.objects p.player p.program (none_of (verdict w.objects a (ending_act p)) e)

-- Behind a line all others are there.

module _ (may : Process → Type 0) (a : Actor) (line : List ℕ) (w : Live) (q : Queue) (opens : (p : Process) → end_open a w.objects p ≡ true → may p) where
  lasting_ended : (o : Option Process) → line_ends a q line w ≡ o → Lasting may q (option_map_or (λ p. without_process p.number q) o q)
  lasting_ended None e = lasting_same may q
  lasting_ended (Some p) e =
      let k = line_ends_open a q line w p e in
      lasting_without may p.number q (λ r f. let same : p ≡ r = found_one p r k.1 f in subst may same (opens p (ended_open a w p k.0)))
    where
      found_one : (p r : Process) → process p.number q ≡ Some p → process p.number q ≡ Some r → p ≡ r
      found_one p r e f = let both : ◌≡◌ {A = Option Process} (Some p) (Some r) = sym e ∙ f in cc

  lasting_behind : (v : Live) (outcome : Outcome) → (outcome ≡ NotMine → v ≡ w) → Lasting may q (ended_behind a line q (v, outcome))
  unfolding after_line
  lasting_behind v NotMine e = subst (λ (u : Live). Lasting may q (after_line a line u q)) (sym (e refl)) (lasting_ended (line_ends a q line w) refl)
  lasting_behind v outcome e = lasting_same may q

  pub lasting_left : (d : ℕ) → Lasting may q (processes_after_line d a line w q)
  unfolding processes_after_line
  lasting_left d = lasting_behind (played d a line w).0 (played d a line w).1 (left_to_keepers d a line w)

-- Their numbers rise.

numbered_ended : (o : Option Process) (q : Queue) → IsNumbered q → IsNumbered (option_map_or (λ p. without_process p.number q) o q)
numbered_ended None q h = h
numbered_ended (Some p) q h = numbered_without p.number q h

numbered_behind : (a : Actor) (line : List ℕ) (q : Queue) (v : Live) (outcome : Outcome) → IsNumbered q → IsNumbered (ended_behind a line q (v, outcome))
unfolding after_line
numbered_behind a line q v NotMine h = numbered_ended (line_ends a q line v) q h
numbered_behind a line q v outcome h = h

pub numbered_left : (d : ℕ) (a : Actor) (line : List ℕ) (w : Live) (q : Queue) → IsNumbered q → IsNumbered (processes_after_line d a line w q)
unfolding processes_after_line
numbered_left d a line w q h = numbered_behind a line q (played d a line w).0 (played d a line w).1 h
