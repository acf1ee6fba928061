-- Each change of a queue keeps its numbers rising.
use Rattle.std.proofs.Common.{ℤ, pos, ◌+ℤ◌, ◌≤ℤ◌, ◌<ℤ◌, Bool, List, [], ◌∷◌, ◌++◌, sym, subst, arith, if◌then◌else◌}
use Rattle.std.specs.Prelude.{map}
use Rattle.std.specs.List.{filter}
use Rattle.std.proofs.lemmas.Bool.{cond_both}
use Rattle.std.proofs.lemmas.Int.{ints}
use Rattle.muck_model.specs.declared.dbref.Dbref.{Dbref}
use Rattle.muck_queue.specs.declared.process.Process.{Process}
use Rattle.muck_queue.specs.Queues.{process_numbered, has_trigger, without_trigger, changed_first, without_first}
use Rattle.muck_queue.specs.inner.Numbered.{Rises}
use Rattle.muck_queue.proofs.Changed.{KeepsNumber}

-- also from a lower number
rises_lower : (a b last : ℤ) (ps : List Process) → a ≤ℤ b → Rises b last ps → Rises a last ps
rises_lower a b last [] h r = omega (arith, ints)
rises_lower a b last (p ∷ ps) h r = (omega (arith, ints), r.1)

pub rises_added : (low last : ℤ) (ps : List Process) (p : Process) → Rises low last ps → Rises low (last +ℤ pos 1) (ps ++ process_numbered (last +ℤ pos 1) p ∷ [])
rises_added low last [] p r = (omega (arith, ints), omega (arith, ints))
rises_added low last (x ∷ ps) p r = (r.0, rises_added x.number last ps p r.1)

pub rises_kept : (test : Process → Bool) (low last : ℤ) (ps : List Process) → Rises low last ps → Rises low last (filter test ps)
rises_kept test low last [] r = r
rises_kept test low last (p ∷ ps) r =
    cond_both (test p) (p ∷ filter test ps) (filter test ps) (Rises low last)
    (λ e. (r.0, rises_kept test p.number last ps r.1))
    (λ e. rises_kept test low last ps (rises_lower low p.number last ps (omega (arith, ints)) r.1))

pub rises_without : (test : Process → Bool) (low last : ℤ) (ps : List Process) → Rises low last ps → Rises low last (without_first test ps)
rises_without test low last [] r = r
rises_without test low last (p ∷ ps) r =
    cond_both (test p) ps (p ∷ without_first test ps) (Rises low last)
    (λ e. rises_lower low p.number last ps (omega (arith, ints)) r.1)
    (λ e. (r.0, rises_without test p.number last ps r.1))

pub rises_changed : (test : Process → Bool) (f : Process → Process) → KeepsNumber f → (low last : ℤ) (ps : List Process) → Rises low last ps → Rises low last (changed_first test f ps)
rises_changed test f k low last [] h = h
rises_changed test f k low last (p ∷ ps) h =
    cond_both (test p) (f p ∷ ps) (p ∷ changed_first test f ps) (Rises low last)
    (λ e. subst (λ n. (low <ℤ n) × Rises n last ps) (sym (k p)) h)
    (λ e. (h.0, rises_changed test f k p.number last ps h.1))

pub rises_cleared : (trigger : Dbref) (low last : ℤ) (ps : List Process) → Rises low last ps → Rises low last (map (λ p. if has_trigger trigger p then without_trigger p else p) ps)
rises_cleared trigger low last [] r = r
rises_cleared trigger low last (p ∷ ps) r =
    let rest = rises_cleared trigger p.number last ps r.1 in
    cond_both (has_trigger trigger p) (without_trigger p) p (λ q. Rises low last (q ∷ map (λ p. if has_trigger trigger p then without_trigger p else p) ps)) (λ e. (r.0, rest)) (λ e. (r.0, rest))
