-- A process that stands at another state.
use Rattle.std.proofs.Common.{◌≡◌, ℤ, true, false, cond, List, [], ◌∷◌, refl, sym, ap, Option, Some, None}
use Rattle.std.specs.Prelude.{find}
use Rattle.std.specs.Option.{option_and_then}
use Rattle.muf_model.specs.Source.{Source}
use Rattle.muck_queue.specs.declared.process.Process.{Process}
use Rattle.muck_queue.specs.Queues.{Queue, has_pid, at_state, changed_first, with_processes, on_process, process, standing, state_of, without_process}
use Rattle.muck_queue.proofs.Changed.{changed_twice, without_changed, changed_same}

module _ (pid : ℤ) (r : Option Source) where
  -- the last of several states is that at which it stands
  pub standing_twice : (s : Option Source) (q : Queue) → standing pid s (standing pid r q) ≡ standing pid s q
  standing_twice s q = changed_twice pid (at_state s) (at_state r) (λ p. refl) q

  pub without_standing : (q : Queue) → without_process pid (standing pid r q) ≡ without_process pid q
  without_standing q = without_changed pid (at_state r) (λ p. refl) q

  -- it stands there already
  pub standing_same : (q : Queue) (p : Process) → process pid q ≡ Some p → p.running ≡ r → standing pid r q ≡ q
  standing_same q p f e = changed_same pid (at_state r) q p f (ap (λ s. record p { running = s }) (sym e))

none_in : (pid : ℤ) (ps : List Process) → option_and_then (λ (p : Process). p.running) (find (has_pid pid) ps) ≡ None → changed_first (has_pid pid) (at_state None) ps ≡ ps
none_in pid [] = λ e. refl
none_in pid (p ∷ ps) =
    elim (has_pid pid p) as (λ b. option_and_then (λ (q : Process). q.running) (cond b (Some p) (find (has_pid pid) ps)) ≡ None → cond b (at_state None p ∷ ps) (p ∷ changed_first (has_pid pid) (at_state None) ps) ≡ p ∷ ps) [
      | true ↦ λ e. ap (λ s. record p { running = s } ∷ ps) (sym e)
      | false ↦ λ e. ap (λ xs. p ∷ xs) (none_in pid ps e)
    ]

-- where it isn't there, or its state is out, nothing changes when that is taken out
pub none_standing : (pid : ℤ) (q : Queue) → state_of pid q ≡ None → standing pid None q ≡ q
unfolding on_process
none_standing pid q e = ap (λ ps. with_processes ps q) (none_in pid q.processes e)
