-- Lemmas on turns.
use Rattle.std.proofs.Common.{◌≡◌, ℕ, ◌+◌, ◌<◌, ◌≤◌, List, [], ◌∷◌, ◌++◌, append-nil, refl, sym, ◌∙◌, ap, arith, suc, zero, append_assoc, Option, Some, None}
use Rattle.std.specs.Prelude.{is_some, true, false}
use Rattle.muck_model.specs.declared.event.Entry.{Entry}
use Rattle.muck_model.specs.declared.event.Event.TheVariants.{Died}
use Rattle.spec_events.specs.World.{World}
use Rattle.spec_events.specs.Histories.{History, now, after, Grew, by_porter}
use Rattle.spec_events.proofs.Runs.{grew_nothing, grew_on, grew_as, now-grew}
use Rattle.muck_script.specs.Story.{StoryTurn, next_turn, turn_entries, turn_followed, turns, counted, turns_taken}
use Rattle.muck_script.specs.inner.Settling.{entries_of, DiedDuring}

-- what follows the next turn
after_turn : ℕ → World → Option StoryTurn → List Entry
after_turn n w None = []
after_turn n w (Some t) = turns n (after w (turn_entries t))

turns_by : (n : ℕ) (w : World) (o : Option StoryTurn) → turn_followed o (λ t. turns n (after w (turn_entries t))) ≡ entries_of o ++ after_turn n w o
unfolding after_turn
turns_by n w None = refl
turns_by n w (Some t) = refl

turns-one : (n : ℕ) (w : World) → turns (suc n) w ≡ entries_of (next_turn w) ++ after_turn n w (next_turn w)
unfolding turns
turns-one n w = turns_by n w (next_turn w)

turns-some : (n : ℕ) (w : World) (t : StoryTurn) → next_turn w ≡ Some t → turns (suc n) w ≡ turn_entries t ++ turns n (after w (turn_entries t))
unfolding turns
turns-some n w t e = ap (λ o. turn_followed o (λ k. turns n (after w (turn_entries k)))) e

turns-none : (n : ℕ) (w : World) → next_turn w ≡ None → turns n w ≡ []
unfolding turns
turns-none zero w e = refl
turns-none (suc n) w e = ap (λ o. turn_followed o (λ k. turns n (after w (turn_entries k)))) e

turns-zero : (w : World) → turns 0 w ≡ []
unfolding turns
turns-zero w = refl

taken-some : (n : ℕ) (w : World) (t : StoryTurn) → next_turn w ≡ Some t → turns_taken (suc n) w ≡ suc (turns_taken n (after w (turn_entries t)))
unfolding turns_taken
taken-some n w t e = ap (λ o. counted o (λ k. turns_taken n (after w (turn_entries k)))) e

taken-none : (n : ℕ) (w : World) → next_turn w ≡ None → turns_taken n w ≡ 0
unfolding turns_taken
taken-none zero w e = refl
taken-none (suc n) w e = ap (λ o. counted o (λ k. turns_taken n (after w (turn_entries k)))) e

taken-zero : (w : World) → turns_taken 0 w ≡ 0
unfolding turns_taken
taken-zero w = refl

-- so many turns were taken since the history old, and with those that are left they are what was to be done
pub record IsOnTheWay (most done : ℕ) (old new : History) : Type 0 where
  pub left : ℕ
  pub front : List Entry
  pub all : left + done ≡ most
  pub count : done + turns_taken left (now new) ≡ turns_taken most (now old)
  pub whole : front ++ turns left (now new) ≡ turns most (now old)
  pub history : Grew old new front

pub way_begins : (most : ℕ) (h : History) → IsOnTheWay most 0 h h
way_begins most h = record { left = most; front = []; all = omega arith; count = omega arith; whole = refl; history = grew_nothing h h refl }

way_on : (most done : ℕ) (old new next : History) (t : StoryTurn) → IsOnTheWay most done old new → done < most → next_turn (now new) ≡ Some t → Grew new next (turn_entries t) → IsOnTheWay most (done + 1) old next
way_on most done old new next t way less e is = goes way.left way.all way.count way.whole where
  goes : (left : ℕ) → left + done ≡ most → done + turns_taken left (now new) ≡ turns_taken most (now old) → way.front ++ turns left (now new) ≡ turns most (now old) → IsOnTheWay most (done + 1) old next
  goes zero a c w = absurd (omega arith)
  goes (suc k) a c w =
      let there : now next ≡ after (now new) (turn_entries t) = now-grew new next (turn_entries t) is in
      let more : turns_taken (suc k) (now new) ≡ suc (turns_taken k (now next)) = taken-some k (now new) t e ∙ ap (λ (v : World). suc (turns_taken k v)) (sym there) in
      record {
        left = k;
        front = way.front ++ turn_entries t;
        all = omega arith;
        count = omega (arith, c, more);
        whole =
            append_assoc way.front (turn_entries t) (turns k (now next))
            ∙ ap (λ (v : World). way.front ++ (turn_entries t ++ turns k v)) there
            ∙ ap (λ (es : List Entry). way.front ++ es) (sym (turns-some k (now new) t e)) ∙ w;
        history = grew_on old new next way.front (turn_entries t) way.history is;
      }

-- a turn was taken
pub way_goes_on : (most done : ℕ) (old new next : History) → IsOnTheWay most done old new → done < most → is_some (next_turn (now new)) ≡ true → Grew new next (entries_of (next_turn (now new))) → IsOnTheWay most (done + 1) old next
way_goes_on most done old new next way less some is = at (next_turn (now new)) refl some is where
  at : (o : Option StoryTurn) → next_turn (now new) ≡ o → is_some o ≡ true → Grew new next (entries_of o) → IsOnTheWay most (done + 1) old next
  at None e some is = cc
  at (Some t) e some is = way_on most done old new next t way less e is

way_done : (most done : ℕ) (old new : History) (way : IsOnTheWay most done old new) → turns way.left (now new) ≡ [] → turns_taken way.left (now new) ≡ 0 → (done ≡ turns_taken most (now old)) × Grew old new (turns most (now old))
way_done most done old new way none zero_left =
    let all : way.front ≡ turns most (now old) = sym (append-nil way.front) ∙ ap (λ (es : List Entry). way.front ++ es) (sym none) ∙ way.whole in
    (omega (arith, way.count, zero_left), grew_as old new way.front _ all way.history)

none_left : (o : Option StoryTurn) → is_some o ≡ false → o ≡ None
none_left None e = refl
none_left (Some t) e = cc

-- nobody is ready any more
pub way_ends : (most done : ℕ) (old new next : History) → IsOnTheWay most done old new → is_some (next_turn (now new)) ≡ false → Grew new next (entries_of (next_turn (now new))) → (done ≡ turns_taken most (now old)) × Grew old next (turns most (now old))
way_ends most done old new next way nothing is =
    let e : next_turn (now new) ≡ None = none_left (next_turn (now new)) nothing in
    let same : Grew new next [] = grew_as new next _ [] (ap (λ (o : Option StoryTurn). entries_of o) e) is in
    let end = way_done most done old new way (turns-none way.left (now new) e) (taken-none way.left (now new) e) in
    (end.0, grew_as old next _ _ (append-nil (turns most (now old))) (grew_on old new next _ [] end.1 same))

-- all turns were taken
pub way_over : (most done : ℕ) (old new : History) → IsOnTheWay most done old new → most ≤ done → (most ≡ turns_taken most (now old)) × Grew old new (turns most (now old))
way_over most done old new way h =
    let z : way.left ≡ 0 = omega (arith, way.all) in
    let same : most ≡ done = omega (arith, way.all) in
    let end = way_done most done old new way (ap (λ k. turns k (now new)) z ∙ turns-zero (now new)) (ap (λ k. turns_taken k (now new)) z ∙ taken-zero (now new)) in
    (same ∙ end.0, end.1)

-- memory was wanted in a turn
pub way_dies : (most done : ℕ) (old new next : History) → IsOnTheWay most done old new → done < most → DiedDuring (entries_of (next_turn (now new))) new next → DiedDuring (turns most (now old)) old next
way_dies most done old new next way less d = dies way.left way.all way.whole where
  dies : (left : ℕ) → left + done ≡ most → way.front ++ turns left (now new) ≡ turns most (now old) → DiedDuring (turns most (now old)) old next
  dies zero a w = absurd (omega arith)
  dies (suc k) a w =
      let others = after_turn k (now new) (next_turn (now new)) in
      record {
        front = way.front ++ d.front;
        rest = d.rest ++ others;
        whole =
            append_assoc way.front d.front (d.rest ++ others)
            ∙ ap (λ (es : List Entry). way.front ++ es) (sym (append_assoc d.front d.rest others) ∙ ap (λ (es : List Entry). es ++ others) d.whole ∙ sym (turns-one k (now new))) ∙ w;
        died = grew_as old next _ _ (sym (append_assoc way.front d.front (by_porter Died ∷ []))) (grew_on old new next way.front _ way.history d.died);
      }
