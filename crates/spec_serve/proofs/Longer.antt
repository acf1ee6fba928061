-- The note of the links, as the tale goes on.
use Rattle.std.proofs.Common.{true≢false, ◌≡◌, ℕ, zero, suc, ◌<◌, Bool, true, false, List, [], ◌∷◌, ◌++◌, length, take, refl, sym, ap, ◌∙◌, inl, inr, ⊎_elim, arith, Option, Some, None}
use Rattle.std.specs.Prelude.{is_some, slice_get, if◌then◌else◌, ◌⊎◌}
use Rattle.std.proofs.lemmas.Option.{none-some}
use Rattle.muck_model.specs.declared.event.Entry.{Entry}
use Rattle.muck_model.specs.declared.note.Counted.{Counted}
use Rattle.spec_events.specs.World.{World}
use Rattle.muck_model.specs.declared.event.Event.TheVariants.{StopSeen}
use Rattle.spec_events.specs.Steps.{is_lawful}
use Rattle.spec_events.specs.Histories.{after, AllLawful, by_porter}
use Rattle.spec_talks.proofs.Histories.{lawful_back}
use Rattle.spec_serve.specs.Marks.{ActsStopping, IsLinksNote}

-- Places in a list that goes on.

pub at_front : (xs ys : List Entry) (i : ℕ) (e : Entry) → slice_get xs i ≡ Some e → (slice_get (xs ++ ys) i ≡ Some e) × (take i (xs ++ ys) ≡ take i xs)
at_front [] ys i e at = absurd (none-some e at)
at_front (x ∷ xs) ys zero e at = (at, refl)
at_front (x ∷ xs) ys (suc i) e at = let h = at_front xs ys i e at in (h.0, ap (λ (l : List Entry). x ∷ l) h.1)

-- a place is in the front, or in what follows
either : (xs ys : List Entry) (i : ℕ) (e : Entry) → slice_get (xs ++ ys) i ≡ Some e → (slice_get xs i ≡ Some e) ⊎ ((j : ℕ) × (slice_get ys j ≡ Some e))
either [] ys i e at = inr (i, at)
either (x ∷ xs) ys zero e at = inl at
either (x ∷ xs) ys (suc i) e at = either xs ys i e at

module _ (w : World) (xs ys : List Entry) where
  acts_longer : (i : ℕ) → ActsStopping w xs i → ActsStopping w (xs ++ ys) i
  acts_longer i a =
      let h = at_front xs ys i a.entry a.here in
      record {
        entry = a.entry;
        here = h.0;
        porter = a.porter;
        stopping = ap (λ (l : List Entry). (after w l).stopping) h.1 ∙ a.stopping;
        alive = ap (λ (l : List Entry). (after w l).dead) h.1 ∙ a.alive;
      }

  acts_before : (i : ℕ) (a : ActsStopping w (xs ++ ys) i) → slice_get xs i ≡ Some a.entry → ActsStopping w xs i
  acts_before i a at =
      let h = at_front xs ys i a.entry at in
      record {
        entry = a.entry;
        here = at;
        porter = a.porter;
        stopping = ap (λ (l : List Entry). (after w l).stopping) (sym h.1) ∙ a.stopping;
        alive = ap (λ (l : List Entry). (after w l).dead) (sym h.1) ∙ a.alive;
      }

  -- where a tale goes on behind the note, or the porter does nothing more
  pub links_note_longer : (counted : Option Counted) → (is_some counted ≡ false → (j : ℕ) (e : Entry) → slice_get ys j ≡ Some e → ¬ (e.party ≡ 0)) → IsLinksNote counted w xs → IsLinksNote counted w (xs ++ ys)
  links_note_longer None others note = λ i a. ⊎_elim
      (λ (at : slice_get xs i ≡ Some a.entry). note i (acts_before i a at))
      (λ (at : (j : ℕ) × (slice_get ys j ≡ Some a.entry)). others refl at.0 a.entry at.1 a.porter)
      (either xs ys i a.entry a.here)
  links_note_longer (Some c) others note = (acts_longer c.entries note.0, λ i less a. note.1 i less (acts_before i a (below xs ys i c.entries note.0.entry a.entry note.0.here less a.here)))
    where
      below : (xs ys : List Entry) (i n : ℕ) (last e : Entry) → slice_get xs n ≡ Some last → i < n → slice_get (xs ++ ys) i ≡ Some e → slice_get xs i ≡ Some e
      below [] ys i n last e there less at = absurd (none-some last there)
      below (x ∷ xs) ys i zero last e there less at = absurd (omega arith)
      below (x ∷ xs) ys zero (suc n) last e there less at = at
      below (x ∷ xs) ys (suc i) (suc n) last e there less at = below xs ys i n last e there (omega arith) at

-- where the porter acts on a stopping world there is one
pub acts_noted : (counted : Option Counted) (w : World) (tale : List Entry) (place : ℕ) → IsLinksNote counted w tale → ActsStopping w tale place → is_some counted ≡ true
acts_noted None w tale place note acts = absurd (note place acts)
acts_noted (Some c) w tale place note acts = refl

-- What stands behind a front.

there_of : (xs ys : List Entry) (e : Entry) → slice_get (xs ++ e ∷ ys) (length xs) ≡ Some e
there_of [] ys e = refl
there_of (x ∷ xs) ys e = there_of xs ys e

taken_of : (xs ys : List Entry) → take (length xs) (xs ++ ys) ≡ xs
taken_of [] ys = refl
taken_of (x ∷ xs) ys = ap (λ (l : List Entry). x ∷ l) (taken_of xs ys)

stop_parts : (w : World) → is_lawful w (by_porter StopSeen) ≡ true → (w.dead ≡ false) × (w.stopping ≡ true)
unfolding is_lawful
stop_parts w l = from w.dead refl l
  where
    from : (t : Bool) → w.dead ≡ t → (if t then false else w.stopping) ≡ true → (w.dead ≡ false) × (w.stopping ≡ true)
    from true is h = absurd (true≢false (sym h))
    from false is h = (is, h)

-- So there is one where the porter has seen the stop.
pub stop_noted : (counted : Option Counted) (w : World) (front rest : List Entry) → AllLawful w (front ++ by_porter StopSeen ∷ rest) → IsLinksNote counted w (front ++ by_porter StopSeen ∷ rest) → is_some counted ≡ true
stop_noted counted w front rest lawful note =
    let at = taken_of front (by_porter StopSeen ∷ rest) in
    let parts = stop_parts (after w front) (lawful_back w front (by_porter StopSeen ∷ rest) lawful).0 in
    acts_noted counted w (front ++ by_porter StopSeen ∷ rest) (length front) note
    (record {
      entry = by_porter StopSeen;
      here = there_of front rest (by_porter StopSeen);
      porter = refl;
      stopping = ap (λ (l : List Entry). (after w l).stopping) at ∙ parts.1;
      alive = ap (λ (l : List Entry). (after w l).dead) at ∙ parts.0;
    })
