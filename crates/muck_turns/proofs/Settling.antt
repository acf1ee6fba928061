-- What is to be told is told one mark at a time.
use Rattle.std.proofs.Common.{◌≡◌, ℕ, ◌+◌, ◌<◌, suc, List, [], ◌∷◌, refl, sym, ◌∙◌, ap, arith, Option, Some, None}
use Rattle.std.specs.Prelude.{map, slice_get, slice_set}
use Rattle.std.specs.Option.{option_map, option_map_or}
use Rattle.muck_model.specs.declared.dbref.Dbref.{Dbref}
use Rattle.spec_live.specs.declared.mark.Mark.{Mark}
use Rattle.spec_live.specs.declared.mark.Mark.TheVariants.{Lines, Gone}
use Rattle.spec_live.specs.declared.mark.Changed.{Changed}
use Rattle.spec_live.specs.declared.mark.Changed.TheVariants.{Lines as ChangedLines, Gone as ChangedGone}
use Rattle.spec_live.specs.Objects.{Entry, dbref_of, changed_at}
use Rattle.spec_live.specs.Marks.{entry_unmarked, marked_from, told_of, next_change, change_told}
use Rattle.spec_live.specs.Lives.{on_objects}
use Rattle.spec_events.specs.World.{World, on_live}
use Rattle.spec_events.specs.Following.{mark_followed, swept, settled}
use Rattle.spec_events.proofs.Quietly.{quietly_swept}
use Rattle.muck_turns.specs.inner.Followed.{followed_change}

-- how many objects are marked
abbrev pub mark_count : Option Mark → ℕ
mark_count None = 0
mark_count (Some m) = 1

abbrev pub marks : List Entry → ℕ
marks [] = 0
marks (e ∷ es) = mark_count e.mark + marks es

-- without the first mark
abbrev cleared_at : Option Mark → Entry → List Entry → List Entry → List Entry
cleared_at None e es rest = e ∷ rest
cleared_at (Some m) e es rest = entry_unmarked e ∷ es

abbrev cleared : List Entry → List Entry
cleared [] = []
cleared (e ∷ es) = cleared_at e.mark e es (cleared es)

changed_later : (k : ℕ) (e : Entry) (es : List Entry) → changed_at (suc k) entry_unmarked (e ∷ es) ≡ e ∷ changed_at k entry_unmarked es
unfolding changed_at
changed_later k e es = at (slice_get es k)
  where
    at : (o : Option Entry) → option_map_or (λ x. slice_set (e ∷ es) (suc k) (entry_unmarked x)) o (e ∷ es) ≡ e ∷ option_map_or (λ x. slice_set es k (entry_unmarked x)) o es
    at None = refl
    at (Some x) = refl

-- The first mark.

-- the first mark stands so far behind the first object, and clearing it there is clearing the first mark
record First (n : ℕ) (es : List Entry) (k : ℕ) (m : Mark) : Type 0 where
  far : ℕ
  number : k ≡ far + n
  clears : changed_at far entry_unmarked es ≡ cleared es
  sweeps : (w : World) → swept n es w ≡ swept n (cleared es) (mark_followed m (dbref_of k) w)
  fewer : suc (marks (cleared es)) ≡ marks es

at_head : (e : Entry) (es : List Entry) → changed_at 0 entry_unmarked (e ∷ es) ≡ entry_unmarked e ∷ es
unfolding changed_at
at_head e es = refl

abbrev swept_one : ℕ → Option Mark → World → World
swept_one n o w = option_map_or (λ m. mark_followed m (dbref_of n) w) o w

clears_as : (e : Entry) (es : List Entry) (o : Option Mark) → e.mark ≡ o → cleared_at o e es (cleared es) ≡ cleared (e ∷ es)
clears_as e es o h = ap (λ x. cleared_at x e es (cleared es)) (sym h)

marked_as : (n : ℕ) (e : Entry) (es : List Entry) (o : Option Mark) → e.mark ≡ o → option_map_or (λ (x : Mark). Some (n, x)) o (marked_from (suc n) es) ≡ marked_from n (e ∷ es)
unfolding marked_from
marked_as n e es o h = ap (λ y. option_map_or (λ (x : Mark). Some (n, x)) y (marked_from (suc n) es)) (sym h)

swept_as : (n : ℕ) (e : Entry) (es : List Entry) (o : Option Mark) (w : World) → e.mark ≡ o → swept (suc n) es (swept_one n o w) ≡ swept n (e ∷ es) w
unfolding swept
swept_as n e es o w h = ap (λ y. swept (suc n) es (swept_one n y w)) (sym h)

marks_as : (e : Entry) (es : List Entry) (o : Option Mark) → e.mark ≡ o → marks (e ∷ es) ≡ mark_count o + marks es
marks_as e es o h = ap (λ y. mark_count y + marks es) h

mark_head : (n : ℕ) (e : Entry) (es : List Entry) (x : Mark) (k : ℕ) (m : Mark) → e.mark ≡ Some x → n ≡ k → x ≡ m → First n (e ∷ es) k m
mark_head n e es x k m h number kind = record {
  far = 0;
  number = omega (arith, number);
  clears = at_head e es ∙ clears_as e es (Some x) h;
  sweeps = λ w.
      sym (swept_as n e es (Some x) w h)
      ∙ swept_as n (entry_unmarked e) es None (mark_followed x (dbref_of n) w) refl
      ∙ ap (λ q. swept n (entry_unmarked e ∷ es) (mark_followed x (dbref_of q) w)) number
      ∙ ap (λ y. swept n (entry_unmarked e ∷ es) (mark_followed y (dbref_of k) w)) kind
      ∙ ap (λ ys. swept n ys (mark_followed m (dbref_of k) w)) (clears_as e es (Some x) h);
  fewer =
      let less : marks (entry_unmarked e ∷ es) ≡ marks (cleared (e ∷ es)) = ap marks (clears_as e es (Some x) h) in
      omega (arith, less, marks_as (entry_unmarked e) es None refl, marks_as e es (Some x) h);
}

mark_behind : (n : ℕ) (e : Entry) (es : List Entry) (k : ℕ) (m : Mark) → e.mark ≡ None → First (suc n) es k m → First n (e ∷ es) k m
mark_behind n e es k m h rest = record {
  far = suc rest.far;
  number = omega (arith, rest.number);
  clears = changed_later rest.far e es ∙ ap (λ ys. e ∷ ys) rest.clears ∙ clears_as e es None h;
  sweeps = λ w.
      sym (swept_as n e es None w h) ∙ rest.sweeps w
      ∙ swept_as n e (cleared es) None (mark_followed m (dbref_of k) w) h
      ∙ ap (λ ys. swept n ys (mark_followed m (dbref_of k) w)) (clears_as e es None h);
  fewer =
      let less : marks (e ∷ cleared es) ≡ marks (cleared (e ∷ es)) = ap marks (clears_as e es None h) in
      omega (arith, less, marks_as e (cleared es) None h, marks_as e es None h, rest.fewer);
}

first_mark : (n : ℕ) (es : List Entry) (k : ℕ) (m : Mark) → marked_from n es ≡ Some (k, m) → First n es k m
unfolding marked_from
first_mark n [] k m e = absurd (cc)
first_mark n (x ∷ es) k m e = at x.mark refl (λ f. first_mark (suc n) es k m f)
  where
    at : (o : Option Mark) → x.mark ≡ o → (marked_from (suc n) es ≡ Some (k, m) → First (suc n) es k m) → First n (x ∷ es) k m
    at None h rest = mark_behind n x es k m h (rest (marked_as n x es None h ∙ e))
    at (Some y) h rest = let f : ◌≡◌ {A = Option (ℕ × Mark)} (Some (n, y)) (Some (k, m)) = marked_as n x es (Some y) h ∙ e in
        let both : ◌≡◌ {A = ℕ × Mark} (n, y) (k, m) = cc in
        mark_head n x es y k m h (ap (λ (p : ℕ × Mark). p.0) both) (ap (λ (p : ℕ × Mark). p.1) both)

no_mark : (n : ℕ) (es : List Entry) (w : World) → marked_from n es ≡ None → swept n es w ≡ w
unfolding marked_from swept
no_mark n [] w e = refl
no_mark n (x ∷ es) w e = at x.mark refl (λ f. no_mark (suc n) es w f)
  where
    at : (o : Option Mark) → x.mark ≡ o → (marked_from (suc n) es ≡ None → swept (suc n) es w ≡ w) → swept n (x ∷ es) w ≡ w
    at None h rest = sym (swept_as n x es None w h) ∙ rest (marked_as n x es None h ∙ e)
    at (Some y) h rest = let f : ◌≡◌ {A = Option (ℕ × Mark)} (Some (n, y)) None = marked_as n x es (Some y) h ∙ e in absurd (cc)

no_mark_map : (n : ℕ) (es : List Entry) → marked_from n es ≡ None → map entry_unmarked es ≡ es
unfolding marked_from
no_mark_map n [] e = refl
no_mark_map n (x ∷ es) e = at x.mark refl (λ f. no_mark_map (suc n) es f)
  where
    at : (o : Option Mark) → x.mark ≡ o → (marked_from (suc n) es ≡ None → map entry_unmarked es ≡ es) → map entry_unmarked (x ∷ es) ≡ x ∷ es
    at None h rest = ap (λ (o : Option Mark). record x { mark = o } ∷ map entry_unmarked es) (sym h) ∙ ap (λ ys. x ∷ ys) (rest (marked_as n x es None h ∙ e))
    at (Some y) h rest = let f : ◌≡◌ {A = Option (ℕ × Mark)} (Some (n, y)) None = marked_as n x es (Some y) h ∙ e in absurd (cc)

unmarked_twice : (es : List Entry) → map entry_unmarked (cleared es) ≡ map entry_unmarked es
unmarked_twice [] = refl
unmarked_twice (x ∷ es) = at x.mark refl (unmarked_twice es)
  where
    at : (o : Option Mark) → x.mark ≡ o → map entry_unmarked (cleared es) ≡ map entry_unmarked es → map entry_unmarked (cleared (x ∷ es)) ≡ map entry_unmarked (x ∷ es)
    at None h rest = ap (map entry_unmarked) (sym (clears_as x es None h)) ∙ ap (λ ys. entry_unmarked x ∷ ys) rest
    at (Some y) h rest = ap (map entry_unmarked) (sym (clears_as x es (Some y) h))

-- What follows doesn't look at objects.

abbrev with_objects : List Entry → World → World
with_objects es w = on_live (on_objects (λ _. es)) w

followed_objects : (m : Mark) (d : Dbref) (os : List Entry) (w : World) → mark_followed m d (with_objects os w) ≡ with_objects os (mark_followed m d w)
followed_objects Lines d os w = refl
followed_objects Gone d os w = refl

marked_objects : (o : Option Mark) (d : Dbref) (os : List Entry) (w : World) → option_map_or (λ m. mark_followed m d (with_objects os w)) o (with_objects os w) ≡ with_objects os (option_map_or (λ m. mark_followed m d w) o w)
marked_objects None d os w = refl
marked_objects (Some m) d os w = followed_objects m d os w

swept_objects : (n : ℕ) (es os : List Entry) (w : World) → swept n es (with_objects os w) ≡ with_objects os (swept n es w)
unfolding swept
swept_objects n [] os w = refl
swept_objects n (e ∷ es) os w = ap (swept (suc n) es) (marked_objects e.mark (dbref_of n) os w) ∙ swept_objects (suc n) es os _

-- Settling.

settled_as : (w : World) → settled w ≡ with_objects (map entry_unmarked w.live.objects) (swept 0 w.live.objects w)
unfolding settled
settled_as w = ap (λ os. with_objects (map entry_unmarked os) (swept 0 w.live.objects w)) (quietly_swept 0 w.live.objects w).objects

pub settled_none : (w : World) → next_change w.live.objects ≡ None → w ≡ settled w
unfolding next_change
settled_none w e =
    let none = unmapped (marked_from 0 w.live.objects) e in
    sym (settled_as w ∙ ap (λ os. with_objects os (swept 0 w.live.objects w)) (no_mark_map 0 w.live.objects none) ∙ ap (with_objects w.live.objects) (no_mark 0 w.live.objects w none))
  where
    unmapped : (o : Option (ℕ × Mark)) → option_map told_of o ≡ None → o ≡ None
    unmapped None e = refl
    unmapped (Some p) e = cc

mark_settled : (w : World) (k : ℕ) (m : Mark) → First 0 w.live.objects k m → settled (mark_followed m (dbref_of k) (with_objects (cleared w.live.objects) w)) ≡ settled w
mark_settled w k m f =
    let es = w.live.objects in
    let os = cleared es in
    let d = dbref_of k in
    ap settled (followed_objects m d os w)
    ∙ settled_as (with_objects os (mark_followed m d w))
    ∙ ap (with_objects (map entry_unmarked os)) (swept_objects 0 os os (mark_followed m d w))
    ∙ ap (λ v. with_objects (map entry_unmarked os) v) (sym (f.sweeps w))
    ∙ ap (λ ys. with_objects ys (swept 0 es w)) (unmarked_twice es)
    ∙ sym (settled_as w)

abbrev pub told : World → World
told w = with_objects (change_told w.live.objects) w

told_cleared : (es : List Entry) (k : ℕ) (m : Mark) → marked_from 0 es ≡ Some (k, m) → change_told es ≡ cleared es
unfolding change_told
told_cleared es k m e =
    let f = first_mark 0 es k m e in
    let far : k ≡ f.far = omega (arith, f.number) in
    ap (λ (o : Option (ℕ × Mark)). option_map_or (λ p. changed_at p.0 entry_unmarked es) o es) e ∙ ap (λ n. changed_at n entry_unmarked es) far ∙ f.clears

-- after a change is told, with what follows from it, what is left leads to the same world, and there is less
pub record Tells (w : World) (c : Changed) : Type 0 where
  pub same : settled (followed_change c (told w)) ≡ settled w
  pub fewer : marks (change_told w.live.objects) < marks w.live.objects

tells_mark : (w : World) (c : Changed) (k : ℕ) (m : Mark) → marked_from 0 w.live.objects ≡ Some (k, m) → told_of (k, m) ≡ c → Tells w c
tells_mark w c k m e is =
    let es = w.live.objects in
    let f = first_mark 0 es k m e in
    let t : change_told es ≡ cleared es = told_cleared es k m e in
    record {
      same = ap (λ x. settled (followed_change x (told w))) (sym is) ∙ ap (λ os. settled (followed_change (told_of (k, m)) (with_objects os w))) t ∙ by_kind m f;
      fewer = let n : marks (change_told es) ≡ marks (cleared es) = ap marks t in omega (arith, n, f.fewer);
    }
  where
    by_kind : (m : Mark) → First 0 w.live.objects k m → settled (followed_change (told_of (k, m)) (with_objects (cleared w.live.objects) w)) ≡ settled w
    by_kind Lines f = mark_settled w k Lines f
    by_kind Gone f = mark_settled w k Gone f

pub tells : (w : World) (c : Changed) → next_change w.live.objects ≡ Some c → Tells w c
unfolding next_change
tells w c e = at (marked_from 0 w.live.objects) refl e
  where
    at : (o : Option (ℕ × Mark)) → marked_from 0 w.live.objects ≡ o → option_map told_of o ≡ Some c → Tells w c
    at None f e = absurd (cc)
    at (Some (k, m)) f e = tells_mark w c k m f (cc)

pub told_none : (es : List Entry) → next_change es ≡ None → change_told es ≡ es
unfolding next_change change_told
told_none es e = at (marked_from 0 es) e
  where
    at : (o : Option (ℕ × Mark)) → option_map told_of o ≡ None → option_map_or (λ p. changed_at p.0 entry_unmarked es) o es ≡ es
    at None e = refl
    at (Some p) e = absurd (cc)

pub objects_followed : (c : Changed) (w : World) → (followed_change c w).live.objects ≡ w.live.objects
objects_followed (ChangedLines d) w = refl
objects_followed (ChangedGone d) w = refl
