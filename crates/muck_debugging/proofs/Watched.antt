-- A watch that is told of turns.
use Rattle.std.proofs.Common.{◌≡◌, ℕ, ℤ, ◌+◌, ◌<◌, ◌≤◌, true, false, List, [], ◌∷◌, ◌++◌, refl, sym, ◌∙◌, ap, subst, arith, suc, zero, append_assoc, append-nil, Option, Some, None}
use Rattle.std.specs.Prelude.{is_some}
use Rattle.muck_model.specs.declared.event.Entry.{Entry}
use Rattle.muck_model.specs.declared.event.Event.TheVariants.{Claim}
use Rattle.spec_events.specs.World.{World}
use Rattle.spec_events.specs.Steps.{effect, next_process}
use Rattle.spec_events.specs.Histories.{History, now, after, entered, Grew, by_porter}
use Rattle.spec_events.proofs.Runs.{grew_one, now-grew}
use Rattle.muck_script.specs.Story.{StoryTurn, of_line, next_turn, turn_entries, turn_followed, turns}
use Rattle.muck_script.specs.inner.Settling.{entries_of, slice_of}
use Rattle.spec_views.specs.Views.{views_of}
use Rattle.muf_debug.specs.declared.view.View.{View}
use Rattle.muf_debug.specs.Watching.{SeesAll}
use Rattle.muck_debugging.specs.Seen.{seen_of, views_in}

pub views-append : (es fs : List Entry) (w : World) → views_in w (es ++ fs) ≡ views_in w es ++ views_in (after w es) fs
views-append [] fs w = refl
views-append (e ∷ es) fs w = ap (λ (vs : List View). seen_of w e.event ++ vs) (views-append es fs (effect w e)) ∙ sym (append_assoc (seen_of w e.event) _ _)

module _ {S : Type 0} (tells : S → View → S → Type 0) where
  pub sees-append : (vs ws : List View) (a b c : S) → SeesAll tells vs a b → SeesAll tells ws b c → SeesAll tells (vs ++ ws) a c
  sees-append [] ws a b c e s = subst (λ (x : S). SeesAll tells ws x c) e s
  sees-append (v ∷ vs) ws a b c (m, one, rest) s = (m, one, sees-append vs ws m b c rest s)

  pub sees_as : (vs ws : List View) (a b : S) → vs ≡ ws → SeesAll tells vs a b → SeesAll tells ws a b
  sees_as vs ws a b e s = subst (λ (xs : List View). SeesAll tells xs a b) e s

  pub sees_none : (vs : List View) (a : S) → vs ≡ [] → SeesAll tells vs a a
  sees_none vs a e = sees_as [] vs a a (sym e) refl

-- A turn.

-- no process is to go on
pub nothing_sliced : (w : World) → next_process w ≡ None → views_in w (entries_of (slice_of (next_process w))) ≡ []
nothing_sliced w e = ap (λ (o : Option ℤ). views_in w (entries_of (slice_of o))) e

-- one is claimed, and runs
pub views_sliced : (h k : History) (pid : ℤ) → next_process (now h) ≡ Some pid → k ≡ entered h (by_porter (Claim pid)) → views_of pid (now k) ≡ views_in (now h) (entries_of (slice_of (next_process (now h))))
views_sliced h k pid e is =
    let there : now k ≡ effect (now h) (by_porter (Claim pid)) = now-grew h k _ (grew_one h k (by_porter (Claim pid)) is) in
    ap (views_of pid) there ∙ sym (append-nil (views_of pid (effect (now h) (by_porter (Claim pid))))) ∙ ap (λ (o : Option ℤ). views_in (now h) (entries_of (slice_of o))) (sym e)

-- nothing is seen of a line
pub views_line : (w : World) (o : Option StoryTurn) (d : ℕ) → o ≡ Some (of_line d) → views_in w (entries_of o) ≡ []
views_line w o d e = ap (λ (x : Option StoryTurn). views_in w (entries_of x)) e

-- Turns.

turns_next : (n : ℕ) (w : World) → is_some (next_turn w) ≡ true → turns (suc n) w ≡ entries_of (next_turn w) ++ turns n (after w (entries_of (next_turn w)))
unfolding turns
turns_next n w some = by (next_turn w) some where
  by : (o : Option StoryTurn) → is_some o ≡ true → turn_followed o (λ t. turns n (after w (turn_entries t))) ≡ entries_of o ++ turns n (after w (entries_of o))
  by None some = cc
  by (Some t) some = refl

turns_none : (n : ℕ) (w : World) → next_turn w ≡ None → turns n w ≡ []
unfolding turns
turns_none zero w e = refl
turns_none (suc n) w e = ap (λ (o : Option StoryTurn). turn_followed o (λ k. turns n (after w (turn_entries k)))) e

turns_zero : (w : World) → turns 0 w ≡ []
unfolding turns
turns_zero w = refl

none_left : (o : Option StoryTurn) → is_some o ≡ false → o ≡ None
none_left None e = refl
none_left (Some t) e = cc

-- what is told of the turns that are left is what is left of all that is told
pub record IsTold {S : Type 0} (tells : S → View → S → Type 0) (most done : ℕ) (old new : History) (a b : S) : Type 0 where
  pub left : ℕ
  pub all : left + done ≡ most
  pub more : (c : S) → SeesAll tells (views_in (now new) (turns left (now new))) b c → SeesAll tells (views_in (now old) (turns most (now old))) a c

module _ {S : Type 0} (tells : S → View → S → Type 0) where
  pub told_begins : (most : ℕ) (h : History) (a : S) → IsTold tells most 0 h h a a
  told_begins most h a = record { left = most; all = omega arith; more = λ c s. s }

  -- a turn was taken
  pub told_on : (most done : ℕ) (old new next : History) (a b c : S) → IsTold tells most done old new a b → done < most → is_some (next_turn (now new)) ≡ true → Grew new next (entries_of (next_turn (now new)))
      → SeesAll tells (views_in (now new) (entries_of (next_turn (now new)))) b c → IsTold tells most (done + 1) old next a c
  told_on most done old new next a b c told less some is seen = goes told.left told.all told.more where
    goes : (left : ℕ) → left + done ≡ most → ((d : S) → SeesAll tells (views_in (now new) (turns left (now new))) b d → SeesAll tells (views_in (now old) (turns most (now old))) a d) → IsTold tells most (done + 1) old next a c
    goes zero e more = absurd (omega arith)
    goes (suc k) e more =
        let there : now next ≡ after (now new) (entries_of (next_turn (now new))) = now-grew new next _ is in
        let split : views_in (now new) (entries_of (next_turn (now new))) ++ views_in (now next) (turns k (now next)) ≡ views_in (now new) (turns (suc k) (now new)) =
        ap (λ (v : World). views_in (now new) (entries_of (next_turn (now new))) ++ views_in v (turns k v)) there
        ∙ sym (views-append (entries_of (next_turn (now new))) (turns k (after (now new) (entries_of (next_turn (now new))))) (now new))
        ∙ ap (views_in (now new)) (sym (turns_next k (now new) some)) in
        record { left = k; all = omega arith; more = λ d s. more d (sees_as tells _ _ b d split (sees-append tells _ _ b c d seen s)) }

  -- nobody is ready any more
  pub told_ends : (most done : ℕ) (old new : History) (a b c : S) → IsTold tells most done old new a b → is_some (next_turn (now new)) ≡ false → SeesAll tells (views_in (now new) (entries_of (next_turn (now new)))) b c
      → SeesAll tells (views_in (now old) (turns most (now old))) a c
  told_ends most done old new a b c told nothing seen =
      let none : next_turn (now new) ≡ None = none_left (next_turn (now new)) nothing in
      told.more c
      (sees_as tells _ _ b c
      (ap (λ (o : Option StoryTurn). views_in (now new) (entries_of o)) none ∙ ap (views_in (now new)) (sym (turns_none told.left (now new) none))) seen)

  -- all turns were taken
  pub told_over : (most done : ℕ) (old new : History) (a b : S) → IsTold tells most done old new a b → most ≤ done → SeesAll tells (views_in (now old) (turns most (now old))) a b
  told_over most done old new a b told h =
      let z : told.left ≡ 0 = omega (arith, told.all) in
      told.more b (sees_none tells _ b (ap (λ k. views_in (now new) (turns k (now new))) z ∙ ap (views_in (now new)) (turns_zero (now new))))
