-- Walks that lead to lower numbers only.
use Rattle.std.proofs.Common.{◌≡◌, ℕ, ◌<◌, ◌≤◌, suc, zero, Bool, true, false, List, [], ◌∷◌, Option, Some, None, refl, sym, ◌∙◌, ap, pos, negsuc, arith, inl, inr, is_some, ltb, ℤ, if◌then◌else◌}
use Rattle.std.proofs.lemmas.Bool.{cases_Bool, ltb-true, true≢false}
use Rattle.std.specs.Option.{option_map, option_map_or}
use Rattle.muck_model.specs.declared.dbref.Dbref.{Dbref}
use Rattle.muck_model.specs.Numbers.{dbref_numbered}
use Rattle.muck_match.proofs.Lists.{chain_step, chain_end}
use Rattle.muck_match.specs.Scenery.{Scenery, nothing, is_nothing, chain, upward, is_in_scenery}
use Rattle.muck_model.specs.Dbrefs.{index_at}
use Rattle.muck_match.specs.inner.Memory.{height, lower, led, walk, behind, object_at, slot_at, next_at, above_at, after_in, sight_of, scenery_of}
use Rattle.muck_match.specs.declared.memory.MemObject.{MemObject}

pub record IsFalling (f : Dbref → Dbref) : Type 0 where
  pub falls : (d : Dbref) → is_nothing (f d) ≡ false → height (f d) < height d

walk_enough : (f : Dbref → Dbref) → IsFalling f → (n m : ℕ) (d : Dbref) → height d ≤ n → height d ≤ m → walk f n d ≡ walk f m d
unfolding walk
walk_enough f h zero zero d a b = refl
walk_enough f h zero (suc m) d a b = elim (cases_Bool (is_nothing (f d))) [
  | inl e ↦ rw e refl
  | inr e ↦ absurd (omega (arith, h.falls d e))
]
walk_enough f h (suc n) zero d a b = elim (cases_Bool (is_nothing (f d))) [
  | inl e ↦ rw e refl
  | inr e ↦ absurd (omega (arith, h.falls d e))
]
walk_enough f h (suc n) (suc m) d a b = elim (cases_Bool (is_nothing (f d))) [
  | inl e ↦ rw e refl
  | inr e ↦ rw e (ap (λ t. f d ∷ t) (walk_enough f h n m (f d) (omega (arith, h.falls d e)) (omega (arith, h.falls d e))))
]

step_at : (f : Dbref → Dbref) → IsFalling f → (n : ℕ) (d : Dbref) → height d ≡ n → walk f n d ≡ chain (behind f) (f d)
unfolding walk chain
step_at f h zero d e = elim (cases_Bool (is_nothing (f d))) [
  | inl q ↦ rw q refl
  | inr q ↦ absurd (omega (arith, h.falls d q))
]
step_at f h (suc n) d e = elim (cases_Bool (is_nothing (f d))) [
  | inl q ↦ rw q refl
  | inr q ↦ rw q (ap (λ t. f d ∷ t) (walk_enough f h n (height (f d)) (f d) (omega (arith, h.falls d q)) (omega arith)))
]

pub behind_step : (f : Dbref → Dbref) → IsFalling f → (d : Dbref) → behind f d ≡ chain (behind f) (f d)
behind_step f h d = step_at f h (height d) d refl

lower_z : (d : Dbref) (z : ℤ) → is_nothing (option_map_or (λ n. if ltb n (height d) then dbref_numbered z else nothing) (index_at z) nothing) ≡ false
    → height (option_map_or (λ n. if ltb n (height d) then dbref_numbered z else nothing) (index_at z) nothing) < height d
lower_z d (pos n) h = elim (cases_Bool (ltb n (height d))) [
  | inl t ↦ rw t (ltb-true n (height d) t)
  | inr t ↦ absurd (true≢false (rw t at h))
]
lower_z d (negsuc n) h = absurd (true≢false h)

lower_falls : (d e : Dbref) → is_nothing (lower d e) ≡ false → height (lower d e) < height d
unfolding lower
lower_falls d e h = lower_z d e.0 h

led_falls : (field : MemObject → Dbref) (d : Dbref) (o : Option MemObject) → is_nothing (option_map_or (λ o. lower d (field o)) o nothing) ≡ false → height (option_map_or (λ o. lower d (field o)) o nothing) < height d
led_falls field d None h = absurd (true≢false h)
led_falls field d (Some o) h = lower_falls d (field o) h

next_falls : (objects : List MemObject) → IsFalling (next_at objects)
unfolding next_at
next_falls objects = record { falls = λ d h. led_falls (λ o. o.next) d (object_at objects d) h }

if_falls : (b : Bool) (d e : Dbref) → (is_nothing e ≡ false → height e < height d) → is_nothing (if b then e else nothing) ≡ false → height (if b then e else nothing) < height d
if_falls true d e f h = f h
if_falls false d e f h = absurd (true≢false h)

above_falls : (objects : List MemObject) → IsFalling (above_at objects)
unfolding above_at
above_falls objects = record { falls = λ d h. if_falls (is_some (object_at objects (led (λ o. o.place) objects d))) d (led (λ o. o.place) objects d) (led_falls (λ o. o.place) d (object_at objects d)) h }

-- what stands behind an object is the list that begins with its next one
pub after_step : (objects : List MemObject) (d e : Dbref) → e ≡ next_at objects d → after_in objects d ≡ chain (after_in objects) e
unfolding after_in
after_step objects d e h = behind_step (next_at objects) (next_falls objects) d ∙ ap (chain (behind (next_at objects))) (sym h)

nothing_absent : (objects : List MemObject) → object_at objects nothing ≡ None
unfolding object_at slot_at
nothing_absent objects = refl

there_is_z : (objects : List MemObject) (z : ℤ) (o : MemObject) → object_at objects (dbref_numbered z) ≡ Some o → is_nothing (dbref_numbered z) ≡ false
unfolding object_at slot_at
there_is_z objects (pos n) o h = refl
there_is_z objects (negsuc n) o h = absurd (cc)

at_place : (objects : List MemObject) (place : Dbref) (p : Option MemObject) → object_at objects place ≡ p
    → chain (behind (above_at objects)) (if is_some (object_at objects place) then place else nothing) ≡ upward (scenery_of objects) (Some place)
unfolding upward is_in_scenery scenery_of
at_place objects place None q = rw q (chain_end (behind (above_at objects)) nothing refl)
at_place objects place (Some o) q = rw q (chain_step (behind (above_at objects)) place (there_is_z objects place.0 o q))

upward_none : (w : Scenery) → upward w None ≡ []
unfolding upward
upward_none w = refl

at_object : (objects : List MemObject) (d : Dbref) (o : Option MemObject) → object_at objects d ≡ o
    → chain (behind (above_at objects)) (above_at objects d) ≡ upward (scenery_of objects) (option_map (λ s. s.place) (option_map (sight_of d) o))
unfolding above_at
at_object objects d None q = rw (q, nothing_absent objects) (chain_end (behind (above_at objects)) nothing refl ∙ sym (upward_none (scenery_of objects)))
at_object objects d (Some o) q = rw q (at_place objects (lower d o.place) (object_at objects (lower d o.place)) refl)

-- the places upward begin with the place, where it is there
pub places_step : (objects : List MemObject) (d : Dbref) (place : Option Dbref) → place ≡ option_map (λ s. s.place) ((scenery_of objects).sight d) → (scenery_of objects).places d ≡ upward (scenery_of objects) place
unfolding scenery_of
places_step objects d place e = behind_step (above_at objects) (above_falls objects) d ∙ at_object objects d (object_at objects d) refl ∙ ap (upward (scenery_of objects)) (sym e)
