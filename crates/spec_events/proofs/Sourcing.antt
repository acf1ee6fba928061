-- What is kept and what runs is of its source: forms, queues, and what follows from a change of objects.
use Rattle.std.proofs.Common.{◌≡◌, ℕ, zero, suc, ℤ, pos, negsuc, ◌+◌, Bool, true, false, not, cond, List, [], ◌∷◌, ◌++◌, drop, map, refl, sym, ◌∙◌, ap, subst, Option, Some, None, inl, inr, arith}
use Rattle.std.proofs.lemmas.Bool.{cases_eq}
use Rattle.std.proofs.lemmas.Int.{ints}
use Rattle.std.specs.Prelude.{◌⊎◌, ◌||◌, slice_get, is_some}
use Rattle.std.specs.List.{filter, list_any}
use Rattle.std.specs.Option.{option_and_then, option_map, option_map_or}
use Rattle.std.specs.Ordering.{int_eq}
use Rattle.std.proofs.lemmas.Bool.{cond_both}
use Rattle.muck_laws.proofs.Options.{none_some}
use Rattle.muck_laws.proofs.Places.{get_nil}
use Rattle.muck_laws.proofs.Truths.{never}
use Rattle.muck_model.specs.declared.dbref.Dbref.{Dbref}
use Rattle.spec_live.specs.declared.mark.Mark.{Mark}
use Rattle.spec_live.specs.declared.mark.Mark.TheVariants.{Lines, Gone}
use Rattle.spec_live.specs.Objects.{Entry, dbref_of, index_of, index_at, changed_at}
use Rattle.spec_live.proofs.Lists.{get_changed_same, get_changed_other}
use Rattle.muf_model.specs.Tree.{Tree}
use Rattle.muf_model.specs.Source.{Program, Source}
use Rattle.muf_model.specs.Chains.{programs_of}
use Rattle.spec_prims.specs.Asking.{object_numbered}
use Rattle.muck_library.specs.Library.{Library, itself, with_form, form_at, form_kept, form_dropped}
use Rattle.muck_library.specs.Programs.{source_in}
use Rattle.muck_queue.specs.declared.process.Process.{Process}
use Rattle.muck_queue.specs.Queues.{has_pid, has_trigger, without_trigger, is_in, runs_in, changed_first, without_first, ended_running, trigger_cleared}
use Rattle.spec_events.specs.World.{World}
use Rattle.spec_events.specs.Following.{mark_followed, swept, settled, is_marked, NoneIn}
use Rattle.spec_events.specs.Sourced.{Each, OfSource, Standing, AreSourced}
use Rattle.spec_events.proofs.Ending.{settled_ends}
use Rattle.spec_events.proofs.Sources.{IsLined}

-- Lists.

pub each_more : {X : Type 0} (P Q : X → Type 0) → ((x : X) → P x → Q x) → (xs : List X) → Each P xs → Each Q xs
each_more P Q f [] h = tt
each_more P Q f (x ∷ xs) h = (f x h.0, each_more P Q f xs h.1)

pub each_filter : {X : Type 0} (P : X → Type 0) (test : X → Bool) (xs : List X) → Each P xs → Each P (filter test xs)
each_filter P test [] h = tt
each_filter P test (x ∷ xs) h = cond_both (test x) (x ∷ filter test xs) (filter test xs) (Each P) (λ e. (h.0, each_filter P test xs h.1)) (λ e. each_filter P test xs h.1)

pub each_append : {X : Type 0} (P : X → Type 0) (xs : List X) (y : X) → Each P xs → P y → Each P (xs ++ y ∷ [])
each_append P [] y h k = (k, tt)
each_append P (x ∷ xs) y h k = (h.0, each_append P xs y h.1 k)

pub each_drop : {X : Type 0} (P : X → Type 0) (n : ℕ) (xs : List X) → Each P xs → Each P (drop n xs)
each_drop P zero xs h = h
each_drop P (suc n) [] h = tt
each_drop P (suc n) (x ∷ xs) h = each_drop P n xs h.1

pub each_without : {X : Type 0} (P : X → Type 0) (pid : ℤ) (Q : Process → Type 0) (ps : List Process) → Each Q ps → Each Q (without_first (has_pid pid) ps)
each_without P pid Q [] h = tt
each_without P pid Q (p ∷ ps) h = cond_both (has_pid pid p) ps (p ∷ without_first (has_pid pid) ps) (Each Q) (λ e. h.1) (λ e. (h.0, each_without P pid Q ps h.1))

pub each_changed : (Q : Process → Type 0) (test : Process → Bool) (f : Process → Process) → ((p : Process) → Q p → Q (f p)) → (ps : List Process) → Each Q ps → Each Q (changed_first test f ps)
each_changed Q test f k [] h = tt
each_changed Q test f k (p ∷ ps) h = cond_both (test p) (f p ∷ ps) (p ∷ changed_first test f ps) (Each Q) (λ e. (k p h.0, h.1)) (λ e. (h.0, each_changed Q test f k ps h.1))

-- Forms.

itself_none : (o : Option (Option Tree)) → option_and_then itself (option_map (λ form. None) o) ≡ None
itself_none None = refl
itself_none (Some x) = refl

-- a form that is dropped isn't there, and no other comes
form_gone : (d : Dbref) (library : Library) → form_at d (form_dropped d library) ≡ None
unfolding form_at form_dropped
form_gone d library = at (index_of d)
  where
    at : (o : Option ℕ) → option_and_then (λ n. option_and_then itself (slice_get (option_map_or (λ n. changed_at n (λ form. None) library) o library) n)) o ≡ None
    at None = refl
    at (Some n) = ap (option_and_then itself) (get_changed_same library n (λ form. None)) ∙ itself_none (slice_get library n)

pub form_left : (d e : Dbref) (library : Library) (tree : Tree) → form_at d (form_dropped e library) ≡ Some tree → form_at d library ≡ Some tree
unfolding form_at form_dropped
form_left d e library tree = at (index_of d) (index_of e)
  where
    kept : (n m : ℕ) → option_and_then itself (slice_get (changed_at m (λ form. None) library) n) ≡ Some tree → option_and_then itself (slice_get library n) ≡ Some tree
    kept n m h = elim (cases_eq n m) [
      | inl k ↦ absurd (none_some tree (sym (subst (λ i. option_and_then itself (slice_get (changed_at m (λ form. None) library) i) ≡ None) (sym k) (ap (option_and_then itself) (get_changed_same library m (λ form. None)) ∙ itself_none (slice_get library m))) ∙ h))
      | inr k ↦ ap (option_and_then itself) (sym (get_changed_other library m n (λ form. None) k)) ∙ h
    ]

    at : (o r : Option ℕ) → option_and_then (λ n. option_and_then itself (slice_get (option_map_or (λ n. changed_at n (λ form. None) library) r library) n)) o ≡ Some tree → option_and_then (λ n. option_and_then itself (slice_get library n)) o ≡ Some tree
    at None r h = absurd (none_some tree h)
    at (Some n) None h = h
    at (Some n) (Some m) h = kept n m h

placed_by : (n m : ℕ) (new tree : Tree) (library : Library) → option_and_then itself (slice_get (with_form m new library) n) ≡ Some tree → ((n ≡ m) × (new ≡ tree)) ⊎ (option_and_then itself (slice_get library n) ≡ Some tree)
placed_by zero zero new tree [] h = inl (refl, let e : ◌≡◌ {A = Option Tree} (Some new) (Some tree) = h in cc)
placed_by zero zero new tree (form ∷ forms) h = inl (refl, let e : ◌≡◌ {A = Option Tree} (Some new) (Some tree) = h in cc)
placed_by (suc n) zero new tree [] h = inr h
placed_by (suc n) zero new tree (form ∷ forms) h = inr h
placed_by zero (suc m) new tree [] h = absurd (none_some tree h)
placed_by zero (suc m) new tree (form ∷ forms) h = inr h
placed_by (suc n) (suc m) new tree [] h = elim (placed_by n m new tree [] h) [ inl k ↦ inl (ap suc k.0, k.1) | inr k ↦ absurd (none_some tree (sym (ap (option_and_then itself) (get_nil n)) ∙ k)) ]
placed_by (suc n) (suc m) new tree (form ∷ forms) h = elim (placed_by n m new tree forms h) [ inl k ↦ inl (ap suc k.0, k.1) | inr k ↦ inr k ]

number_back : (z : ℤ) (n : ℕ) → index_at z ≡ Some n → z ≡ pos n
number_back (pos m) n e = let q : ◌≡◌ {A = Option ℕ} (Some m) (Some n) = e in cc
number_back (negsuc m) n e = absurd (none_some n e)

number_same : (d e : Dbref) (n m : ℕ) → index_of d ≡ Some n → index_of e ≡ Some m → n ≡ m → d ≡ e
number_same d e n m h k s =
    let z : d.0 ≡ e.0 = number_back d.0 n h ∙ ap pos s ∙ sym (number_back e.0 m k) in
    ap object_numbered z

pub form_placed : (d e : Dbref) (new tree : Tree) (library : Library) → form_at d (form_kept e new library) ≡ Some tree → ((d ≡ e) × (new ≡ tree)) ⊎ (form_at d library ≡ Some tree)
unfolding form_at form_kept
form_placed d e new tree library = at (index_of d) (index_of e) refl refl
  where
    at : (o r : Option ℕ) → index_of d ≡ o → index_of e ≡ r → option_and_then (λ n. option_and_then itself (slice_get (option_map_or (λ n. with_form n new library) r library) n)) o ≡ Some tree →
        ((d ≡ e) × (new ≡ tree)) ⊎ (option_and_then (λ n. option_and_then itself (slice_get library n)) o ≡ Some tree)
    at None r s t h = absurd (none_some tree h)
    at (Some n) None s t h = inr h
    at (Some n) (Some m) s t h = elim (placed_by n m new tree library h) [ inl k ↦ inl (number_same d e n m s t k.0, k.1) | inr k ↦ inr k ]

-- What follows from a change of objects.

module _ (B : Dbref → List (List ℕ) → Tree → Type 0) where
  -- the forms of a library that are left are those that were there
  abbrev Fewer : Library → Library → Type 0
  Fewer old new = (d : Dbref) (tree : Tree) → form_at d new ≡ Some tree → form_at d old ≡ Some tree

  followed_fewer : (m : Mark) (e : Dbref) (w : World) → Fewer w.library (mark_followed m e w).library
  followed_fewer Lines e w d tree h = form_left d e w.library tree h
  followed_fewer Gone e w d tree h = form_left d e w.library tree h

  marked_fewer : (o : Option Mark) (e : Dbref) (w : World) → Fewer w.library (option_map_or (λ m. mark_followed m e w) o w).library
  marked_fewer None e w d tree h = h
  marked_fewer (Some m) e w d tree h = followed_fewer m e w d tree h

  swept_fewer : (n : ℕ) (es : List Entry) (w : World) → Fewer w.library (swept n es w).library
  unfolding swept
  swept_fewer n [] w d tree h = h
  swept_fewer n (e ∷ es) w d tree h = marked_fewer e.mark (dbref_of n) w d tree (swept_fewer (suc n) es _ d tree h)

  -- of what is marked no form is left
  marked_none : (o : Option Mark) (d : Dbref) (w : World) → is_some o ≡ true → form_at d (option_map_or (λ m. mark_followed m d w) o w).library ≡ None
  marked_none None d w e = absurd cc
  marked_none (Some Lines) d w e = form_gone d w.library
  marked_none (Some Gone) d w e = form_gone d w.library

  none_left : (d : Dbref) (old new : Library) → Fewer old new → form_at d old ≡ None → form_at d new ≡ None
  none_left d old new f e = at (form_at d new) refl
    where
      at : (o : Option Tree) → form_at d new ≡ o → o ≡ None
      at None h = refl
      at (Some tree) h = absurd (none_some tree (sym e ∙ f d tree h))

  swept_none : (n k : ℕ) (es : List Entry) (w : World) → is_marked k es ≡ true → form_at (dbref_of (n + k)) (swept n es w).library ≡ None
  unfolding swept
  swept_none n k [] w h = absurd cc
  swept_none n zero (e ∷ es) w h =
      let here : n + 0 ≡ n = omega arith in
      subst (λ m. form_at (dbref_of m) (swept (suc n) es (option_map_or (λ m. mark_followed m (dbref_of n) w) e.mark w)).library ≡ None) (sym here)
      (none_left (dbref_of n) _ _ (swept_fewer (suc n) es _) (marked_none e.mark (dbref_of n) w h))
  swept_none n (suc k) (e ∷ es) w h =
      let there : n + suc k ≡ suc n + k = omega arith in
      subst (λ m. form_at (dbref_of m) (swept (suc n) es (option_map_or (λ m. mark_followed m (dbref_of n) w) e.mark w)).library ≡ None) (sym there)
      (swept_none (suc n) k es _ h)

  -- processes that are left stand where they stood
  module _ (P : Option Source → Type 0) where
    abbrev Stand : List Process → Type 0
    Stand ps = Each (λ p. P p.running) ps

    each_cleared : (d : Dbref) (ps : List Process) → Stand ps → Stand (map (λ p. cond (has_trigger d p) (without_trigger p) p) ps)
    each_cleared d [] h = tt
    each_cleared d (p ∷ ps) h = (cond_both (has_trigger d p) (without_trigger p) p (λ (q : Process). P q.running) (λ e. h.0) (λ e. h.0), each_cleared d ps h.1)

    followed_stand : (m : Mark) (d : Dbref) (w : World) → Stand w.queue.processes → Stand (mark_followed m d w).queue.processes
    unfolding ended_running trigger_cleared
    followed_stand Lines d w h = each_filter (λ p. P p.running) (λ p. not (runs_in d p)) w.queue.processes h
    followed_stand Gone d w h = each_cleared d _ (each_filter (λ p. P p.running) (λ p. not (runs_in d p)) w.queue.processes h)

    marked_stand : (o : Option Mark) (d : Dbref) (w : World) → Stand w.queue.processes → Stand (option_map_or (λ m. mark_followed m d w) o w).queue.processes
    marked_stand None d w h = h
    marked_stand (Some m) d w h = followed_stand m d w h

    swept_stand : (n : ℕ) (es : List Entry) (w : World) → Stand w.queue.processes → Stand (swept n es w).queue.processes
    unfolding swept
    swept_stand n [] w h = h
    swept_stand n (e ∷ es) w h = swept_stand (suc n) es _ (marked_stand e.mark (dbref_of n) w h)

  zero_first : (k : ℕ) → 0 + k ≡ k
  zero_first k = omega arith

  settled_library : (w : World) → (settled w).library ≡ (swept 0 w.live.objects w).library
  unfolding settled
  settled_library w = refl

  settled_queue : (w : World) → (settled w).queue ≡ (swept 0 w.live.objects w).queue
  unfolding settled
  settled_queue w = refl

  or_false : (a b : Bool) → (a || b) ≡ false → (a ≡ false) × (b ≡ false)
  or_false true b e = absurd (never (sym e))
  or_false false b e = (refl, e)

  itself_eq : (z w : ℤ) → z ≡ w → int_eq z w ≡ true
  itself_eq z w e = grind (arith, ints, e)

  apart : (d : Dbref) (ps : List Program) → list_any (λ n. int_eq n d.0) (map (λ q. q.number) ps) ≡ false → Each (λ (p : Program). object_numbered p.number ≡ d → ⊥) ps
  apart d [] h = tt
  apart d (p ∷ ps) h =
      let both = or_false (int_eq p.number d.0) (list_any (λ n. int_eq n d.0) (map (λ q. q.number) ps)) h in
      (λ e. never (sym both.0 ∙ itself_eq p.number d.0 (ap (λ (x : Dbref). x.0) e)), apart d ps both.1)

  module _ (es : List Entry) (w : World) (lined : IsLined es w.live.objects) where
    settled_forms : ((d : Dbref) (tree : Tree) → form_at d w.library ≡ Some tree → B d (source_in es d) tree) →
        (d : Dbref) (tree : Tree) → form_at d (swept 0 w.live.objects w).library ≡ Some tree → B d (source_in w.live.objects d) tree
    settled_forms h d tree e = elim (lined d) [
      | inl s ↦ subst (λ lines. B d lines tree) (sym s) (h d tree (swept_fewer 0 w.live.objects w d tree e))
      | inr m ↦ absurd (none_some tree (sym (subst (λ x. form_at x (swept 0 w.live.objects w).library ≡ None) (sym m.1) (subst (λ k. form_at (dbref_of k) (swept 0 w.live.objects w).library ≡ None) (zero_first m.0) (swept_none 0 m.0 w.live.objects w m.2))) ∙ e))
    ]

    -- one that is in no program of which something is to be told
    abbrev Apart : Process → Type 0
    Apart p = (n : ℕ) → is_marked n w.live.objects ≡ true → runs_in (dbref_of n) p ≡ false

    program_kept : (p : Program) → OfSource B es p → ((n : ℕ) → is_marked n w.live.objects ≡ true → object_numbered p.number ≡ dbref_of n → ⊥) → OfSource B w.live.objects p
    program_kept p h none = elim (lined (object_numbered p.number)) [
      | inl s ↦ subst (λ lines. B (object_numbered p.number) lines p.tree) (sym s) h
      | inr m ↦ absurd (none m.0 m.2 m.1)
    ]

    programs_kept : (ps : List Program) → Each (OfSource B es) ps → ((n : ℕ) → is_marked n w.live.objects ≡ true → Each (λ (p : Program). object_numbered p.number ≡ dbref_of n → ⊥) ps) → Each (OfSource B w.live.objects) ps
    programs_kept [] h none = tt
    programs_kept (p ∷ ps) h none = (program_kept p h.0 (λ n m. (none n m).0), programs_kept ps h.1 (λ n m. (none n m).1))

    process_kept : (o : Option Source) → Standing (OfSource B es) o → ((n : ℕ) → is_marked n w.live.objects ≡ true → option_map_or (is_in (dbref_of n)) o false ≡ false) → Standing (OfSource B w.live.objects) o
    process_kept None h none = tt
    process_kept (Some s) h none = programs_kept (programs_of s) h (λ n m. apart (dbref_of n) (programs_of s) (none n m))

    queue_kept : (ps : List Process) → Each (λ p. Standing (OfSource B es) p.running) ps → ((n : ℕ) → is_marked n w.live.objects ≡ true → NoneIn (dbref_of n) ps) → Each (λ p. Standing (OfSource B w.live.objects) p.running) ps
    queue_kept [] h none = tt
    queue_kept (p ∷ ps) h none = (process_kept p.running h.0 (λ n m. (none n m).0), queue_kept ps h.1 (λ n m. (none n m).1))

    -- What follows from the change leaves what is of its source as it is now.
    pub settled_sourced : AreSourced B es w.library w.queue.processes → AreSourced B w.live.objects (settled w).library (settled w).queue.processes
    settled_sourced h = record {
      forms = λ d tree e. settled_forms h.forms d tree (ap (form_at d) (sym (settled_library w)) ∙ e);
      processes = queue_kept (settled w).queue.processes
          (subst (λ q. Each (λ p. Standing (OfSource B es) p.running) q.processes) (sym (settled_queue w)) (swept_stand (Standing (OfSource B es)) 0 w.live.objects w h.processes))
          (λ n m. settled_ends n w m);
    }
