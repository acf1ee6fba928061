-- Once it is told that an object is gone, it is nobody's trigger, and nobody edits it.
use Rattle.std.proofs.Common.{◌≡◌, ℕ, ◌+◌, pos, negsuc, zero, suc, Bool, true, false, not, cond, List, [], ◌∷◌, map, refl, sym, ap, subst, arith, Option, Some, None}
use Rattle.std.specs.Option.{option_map_or}
use Rattle.std.proofs.lemmas.Bool.{cond_both}
use Rattle.muck_model.specs.declared.dbref.Dbref.{Dbref}
use Rattle.muck_model.proofs.Dbrefs.{eq_same}
use Rattle.spec_live.specs.declared.mark.Mark.{Mark}
use Rattle.spec_live.specs.declared.mark.Mark.TheVariants.{Lines, Gone}
use Rattle.spec_live.specs.Objects.{Entry, dbref_of, mark_in, nothing, same}
use Rattle.spec_live.specs.Connections.{Connection, edits, editor_set, edited_where}
use Rattle.spec_live.specs.Boards.{editors_closed}
use Rattle.muck_queue.specs.declared.process.Process.{Process}
use Rattle.muck_queue.specs.Queues.{has_trigger, runs_in, without_trigger, ended_running, trigger_cleared}
use Rattle.spec_events.specs.World.{World}
use Rattle.spec_events.specs.Following.{mark_followed, swept, settled}
use Rattle.spec_events.specs.Sourced.{Each}
use Rattle.spec_events.proofs.Sourcing.{each_filter}
use Rattle.spec_origins.specs.Clearing.{IsCleared}

each_map : {X : Type 0} (P : X → Type 0) (f : X → X) → ((x : X) → P x → P (f x)) → (xs : List X) → Each P xs → Each P (map f xs)
each_map P f k [] h = tt
each_map P f k (x ∷ xs) h = (k x h.0, each_map P f k xs h.1)

each_made : {X : Type 0} (P : X → Type 0) (f : X → X) → ((x : X) → P (f x)) → (xs : List X) → Each P (map f xs)
each_made P f k [] = tt
each_made P f k (x ∷ xs) = (k x, each_made P f k xs)

no_nothing : (n : ℕ) → same nothing (dbref_of n) ≡ false
no_nothing n = at (same nothing (dbref_of n)) refl
  where
    apart : nothing ≡ dbref_of n → ⊥
    apart e = let z : negsuc 0 ≡ pos n = ap (λ (d : Dbref). d.0) e in cc

    at : (b : Bool) → same nothing (dbref_of n) ≡ b → b ≡ false
    at true e = absurd (apart (eq_same nothing (dbref_of n) e))
    at false e = refl

module _ (n : ℕ) where
  abbrev NoTrigger : Process → Type 0
  NoTrigger p = has_trigger (dbref_of n) p ≡ false

  abbrev NoEditor : Connection → Type 0
  NoEditor c = edits (dbref_of n) c ≡ false

  still_none : (e : Dbref) (p : Process) → NoTrigger p → NoTrigger (cond (has_trigger e p) (without_trigger p) p)
  still_none e p h = cond_both (has_trigger e p) (without_trigger p) p NoTrigger (λ k. no_nothing n) (λ k. h)

  none_now : (p : Process) → NoTrigger (cond (has_trigger (dbref_of n) p) (without_trigger p) p)
  none_now p = cond_both (has_trigger (dbref_of n) p) (without_trigger p) p NoTrigger (λ k. no_nothing n) (λ k. k)

  still_closed : (e : Dbref) (c : Connection) → NoEditor c → NoEditor (edited_where (edits e) None c)
  still_closed e c h = cond_both (edits e c) (editor_set None c) c NoEditor (λ k. refl) (λ k. h)

  closed_now : (c : Connection) → NoEditor (edited_where (edits (dbref_of n)) None c)
  closed_now c = cond_both (edits (dbref_of n) c) (editor_set None c) c NoEditor (λ k. refl) (λ k. k)

  followed_free : (m : Mark) (e : Dbref) (w : World) → IsCleared (dbref_of n) w → IsCleared (dbref_of n) (mark_followed m e w)
  unfolding ended_running trigger_cleared editors_closed
  followed_free Lines e w h = record { triggers = each_filter NoTrigger (λ p. not (runs_in e p)) w.queue.processes h.triggers; editors = h.editors }
  followed_free Gone e w h = record {
    triggers = each_map NoTrigger (λ p. cond (has_trigger e p) (without_trigger p) p) (still_none e) _ (each_filter NoTrigger (λ p. not (runs_in e p)) w.queue.processes h.triggers);
    editors = each_map NoEditor (edited_where (edits e) None) (still_closed e) w.live.board.connections h.editors;
  }

  gone_free : (w : World) → IsCleared (dbref_of n) (mark_followed Gone (dbref_of n) w)
  unfolding ended_running trigger_cleared editors_closed
  gone_free w = record {
    triggers = each_made NoTrigger (λ p. cond (has_trigger (dbref_of n) p) (without_trigger p) p) none_now _;
    editors = each_made NoEditor (edited_where (edits (dbref_of n)) None) closed_now w.live.board.connections;
  }

  marked_free : (o : Option Mark) (e : Dbref) (w : World) → IsCleared (dbref_of n) w → IsCleared (dbref_of n) (option_map_or (λ m. mark_followed m e w) o w)
  marked_free None e w h = h
  marked_free (Some m) e w h = followed_free m e w h

  swept_free : (k : ℕ) (es : List Entry) (w : World) → IsCleared (dbref_of n) w → IsCleared (dbref_of n) (swept k es w)
  unfolding swept
  swept_free k [] w h = h
  swept_free k (e ∷ es) w h = swept_free (suc k) es _ (marked_free e.mark (dbref_of k) w h)

swept_gone : (n k : ℕ) (es : List Entry) (w : World) → mark_in es k ≡ Some Gone → IsCleared (dbref_of (n + k)) (swept n es w)
unfolding swept mark_in
swept_gone n zero [] w h = absurd cc
swept_gone n (suc k) [] w h = absurd cc
swept_gone n zero (e ∷ es) w h =
    let here : n + 0 ≡ n = omega arith in
    let now : IsCleared (dbref_of n) (option_map_or (λ m. mark_followed m (dbref_of n) w) e.mark w) = subst (λ (o : Option Mark). IsCleared (dbref_of n) (option_map_or (λ m. mark_followed m (dbref_of n) w) o w)) (sym h) (gone_free n w) in
    subst (λ m. IsCleared (dbref_of m) (swept (suc n) es (option_map_or (λ m. mark_followed m (dbref_of n) w) e.mark w))) (sym here) (swept_free n (suc n) es _ now)
swept_gone n (suc k) (e ∷ es) w h =
    let there : n + suc k ≡ suc n + k = omega arith in
    subst (λ m. IsCleared (dbref_of m) (swept (suc n) es (option_map_or (λ m. mark_followed m (dbref_of n) w) e.mark w))) (sym there) (swept_gone (suc n) k es _ h)

-- behind all that follows
pub settled_clears : (n : ℕ) (w : World) → mark_in w.live.objects n ≡ Some Gone → IsCleared (dbref_of n) (settled w)
unfolding settled
settled_clears n w h =
    let here : 0 + n ≡ n = omega arith in
    let c : IsCleared (dbref_of n) (swept 0 w.live.objects w) = subst (λ m. IsCleared (dbref_of m) (swept 0 w.live.objects w)) here (swept_gone 0 n w.live.objects w h) in
    record { triggers = c.triggers; editors = c.editors }
