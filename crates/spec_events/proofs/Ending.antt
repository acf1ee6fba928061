-- Whoever is in a program that changed ends once that is told.
use Rattle.std.proofs.Common.{◌≡◌, ℕ, ◌+◌, zero, suc, Bool, true, false, not, cond, List, [], ◌∷◌, map, refl, sym, subst, arith, Option, Some, None}
use Rattle.std.specs.Prelude.{is_some}
use Rattle.std.specs.List.{filter}
use Rattle.std.specs.Option.{option_map_or}
use Rattle.std.proofs.lemmas.Bool.{cond_both}
use Rattle.muck_model.specs.declared.dbref.Dbref.{Dbref}
use Rattle.spec_live.specs.declared.mark.Mark.{Mark}
use Rattle.spec_live.specs.declared.mark.Mark.TheVariants.{Lines, Gone}
use Rattle.spec_live.specs.Objects.{Entry, dbref_of}
use Rattle.muck_queue.specs.declared.process.Process.{Process}
use Rattle.muck_queue.specs.Queues.{runs_in, has_trigger, without_trigger, ended_running, trigger_cleared}
use Rattle.spec_events.specs.World.{World}
use Rattle.spec_events.specs.Following.{mark_followed, swept, settled, NoneIn, is_marked}

-- where some processes are left out
kept_out : (d : Dbref) (test : Process → Bool) (ps : List Process) → NoneIn d ps → NoneIn d (filter test ps)
kept_out d test [] h = tt
kept_out d test (p ∷ ps) h = cond_both (test p) (p ∷ filter test ps) (filter test ps) (NoneIn d) (λ e. (h.0, kept_out d test ps h.1)) (λ e. kept_out d test ps h.1)

cleared_out : (d trigger : Dbref) (ps : List Process) → NoneIn d ps → NoneIn d (map (λ p. cond (has_trigger trigger p) (without_trigger p) p) ps)
cleared_out d trigger [] h = tt
cleared_out d trigger (p ∷ ps) h =
    cond_both (has_trigger trigger p) (without_trigger p) p (λ q. NoneIn d (q ∷ map (λ p. cond (has_trigger trigger p) (without_trigger p) p) ps))
    (λ e. (h.0, cleared_out d trigger ps h.1))
    (λ e. (h.0, cleared_out d trigger ps h.1))

-- and where those in it are
left_out : (d : Dbref) (ps : List Process) → NoneIn d (filter (λ p. not (runs_in d p)) ps)
left_out d [] = tt
left_out d (p ∷ ps) =
    (elim (runs_in d p) as (λ b. runs_in d p ≡ b → NoneIn d (cond (not b) (p ∷ filter (λ p. not (runs_in d p)) ps) (filter (λ p. not (runs_in d p)) ps))) [
      | true ↦ λ e. left_out d ps
      | false ↦ λ e. (e, left_out d ps)
    ]) refl

followed_out : (d : Dbref) (m : Mark) (e : Dbref) (w : World) → NoneIn d w.queue.processes → NoneIn d (mark_followed m e w).queue.processes
unfolding ended_running trigger_cleared
followed_out d Lines e w h = kept_out d (λ p. not (runs_in e p)) w.queue.processes h
followed_out d Gone e w h = cleared_out d e _ (kept_out d (λ p. not (runs_in e p)) w.queue.processes h)

followed_ends : (m : Mark) (d : Dbref) (w : World) → NoneIn d (mark_followed m d w).queue.processes
unfolding ended_running trigger_cleared
followed_ends Lines d w = left_out d w.queue.processes
followed_ends Gone d w = cleared_out d d _ (left_out d w.queue.processes)

marked_out : (d : Dbref) (o : Option Mark) (e : Dbref) (w : World) → NoneIn d w.queue.processes → NoneIn d (option_map_or (λ m. mark_followed m e w) o w).queue.processes
marked_out d None e w h = h
marked_out d (Some m) e w h = followed_out d m e w h

swept_out : (d : Dbref) (n : ℕ) (es : List Entry) (w : World) → NoneIn d w.queue.processes → NoneIn d (swept n es w).queue.processes
unfolding swept
swept_out d n [] w h = h
swept_out d n (e ∷ es) w h = swept_out d (suc n) es _ (marked_out d e.mark (dbref_of n) w h)

marked_ends : (o : Option Mark) (d : Dbref) (w : World) → is_some o ≡ true → NoneIn d (option_map_or (λ m. mark_followed m d w) o w).queue.processes
marked_ends None d w e = absurd cc
marked_ends (Some m) d w e = followed_ends m d w

swept_ends : (n k : ℕ) (es : List Entry) (w : World) → is_marked k es ≡ true → NoneIn (dbref_of (n + k)) (swept n es w).queue.processes
unfolding swept
swept_ends n k [] w h = absurd cc
swept_ends n zero (e ∷ es) w h =
    let here : n + 0 ≡ n = omega arith in
    subst (λ m. NoneIn (dbref_of m) (swept (suc n) es (option_map_or (λ m. mark_followed m (dbref_of n) w) e.mark w)).queue.processes) (sym here)
    (swept_out (dbref_of n) (suc n) es _ (marked_ends e.mark (dbref_of n) w h))
swept_ends n (suc k) (e ∷ es) w h =
    let there : n + suc k ≡ suc n + k = omega arith in
    subst (λ m. NoneIn (dbref_of m) (swept (suc n) es (option_map_or (λ m. mark_followed m (dbref_of n) w) e.mark w)).queue.processes) (sym there)
    (swept_ends (suc n) k es _ h)

pub settled_ends : (n : ℕ) (w : World) → is_marked n w.live.objects ≡ true → NoneIn (dbref_of n) (settled w).queue.processes
unfolding settled
settled_ends n w h =
    let here : 0 + n ≡ n = omega arith in
    subst (λ m. NoneIn (dbref_of m) (swept 0 w.live.objects w).queue.processes) here (swept_ends 0 n w.live.objects w h)
