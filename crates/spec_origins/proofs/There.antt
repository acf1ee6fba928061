-- What goes is told of, and so it is nobody's trigger behind that, and nobody edits it.
use Rattle.std.proofs.Common.{◌≡◌, ◌⊎◌, ◌==◌, ℕ, ℤ, pos, negsuc, Bool, true, false, cond, List, [], ◌∷◌, map, refl, sym, ◌∙◌, ap, subst, Option, Some, None, inl, inr}
use Rattle.std.specs.Prelude.{slice_get, is_some}
use Rattle.std.specs.Option.{option_map, option_map_or, option_and_then}
use Rattle.std.proofs.lemmas.Bool.{cond_both}
use Rattle.std.proofs.lemmas.Option.{none-some, slice_get-map}
use Rattle.muck_laws.proofs.Truths.{never_both}
use Rattle.muck_model.specs.declared.dbref.Dbref.{Dbref}
use Rattle.muck_model.specs.declared.edit.EditState.{EditState}
use Rattle.muck_model.proofs.Dbrefs.{same_eq}
use Rattle.spec_live.specs.declared.mark.Mark.TheVariants.{Gone}
use Rattle.spec_live.specs.declared.object.Object.{Object}
use Rattle.spec_live.specs.declared.saving.Saving.{Saving}
use Rattle.spec_live.specs.Objects.{Entry, dbref_of, nothing, same, is_garbage, object_in, object_at, mark_in}
use Rattle.spec_live.specs.Saving.{all_saving}
use Rattle.spec_live.specs.Connections.{Connection, is_connection, changed_in, editor_set, edits}
use Rattle.spec_live.specs.Stood.{stilled}
use Rattle.spec_live.proofs.Tracing.{object_stilled}
use Rattle.spec_live.proofs.Savings.{object_resaved}
use Rattle.spec_rights.proofs.Lookups.{alive, seen_at, at_negative}
use Rattle.spec_rights.proofs.Telling.{Told}
use Rattle.spec_mpi.specs.Touching.{without_props}
use Rattle.spec_prims.specs.Asking.{object_numbered}
use Rattle.muck_queue.specs.declared.process.Process.{Process}
use Rattle.muck_queue.specs.Queues.{Queue, has_trigger}
use Rattle.spec_events.specs.World.{World}
use Rattle.spec_events.specs.Following.{settled}
use Rattle.spec_events.specs.Sourced.{Each}
use Rattle.spec_events.proofs.Sourcing.{each_more}
use Rattle.spec_origins.specs.Origins.{From, was_there, is_new, Comes, no_own_process}
use Rattle.spec_origins.specs.Seats.{SameEditor}
use Rattle.spec_origins.proofs.Clearing.{settled_clears}
use Rattle.spec_origins.proofs.Going.{each_among, from_itself, holds_settled}
use Rattle.spec_origins.proofs.Lapsing.{objects_settled}
use Rattle.spec_origins.proofs.Named.{Stands}
use Rattle.spec_origins.proofs.Seating.{found, editor_in, editor_sits, found_changed, keeps_settled}
use Rattle.spec_origins.proofs.Seats.{seats}

-- Where nothing goes.

-- what was there is there
abbrev pub NoneGoes : List Entry → List Entry → Type 0
NoneGoes es fs = (d : Dbref) → Stands es d → Stands fs d

pub none_same : (es fs : List Entry) → fs ≡ es → NoneGoes es fs
none_same es fs e d h = ap (λ os. is_some (object_at d os)) e ∙ h

-- of each number
none_by : (es fs : List Entry) → ((n : ℕ) → is_some (option_and_then alive (object_in fs n)) ≡ is_some (option_and_then alive (object_in es n))) → NoneGoes es fs
none_by es fs k d = at d.0
  where
    at : (z : ℤ) → Stands es (object_numbered z) → Stands fs (object_numbered z)
    at (pos n) h = ap is_some (seen_at fs n) ∙ k n ∙ sym (ap is_some (seen_at es n)) ∙ h
    at (negsuc n) h = never_both (is_some (object_at (object_numbered (negsuc n)) es)) h (ap is_some (at_negative es n))

pub none_resaved : (f : Saving → Saving) (es : List Entry) → NoneGoes es (all_saving f es)
none_resaved f es = none_by es (all_saving f es) (λ n. ap (λ (o : Option Object). is_some (option_and_then alive o)) (object_resaved f n es))

pub none_stilled : (es : List Entry) → NoneGoes es (stilled es)
none_stilled es = none_by es (stilled es) (λ n. ap (λ (o : Option Object). is_some (option_and_then alive o)) (object_stilled es n))

bare_there : (es : List Entry) (n : ℕ) → is_some (option_and_then alive (object_in (map without_props es) n)) ≡ is_some (option_and_then alive (object_in es n))
unfolding object_in
bare_there es n = ap (λ (o : Option Entry). is_some (option_and_then alive (option_map (λ (e : Entry). e.object) o))) (slice_get-map without_props es n) ∙ at (slice_get es n)
  where
    by_kind : (b : Bool) (o p : Object) → is_some (cond b None (Some o)) ≡ is_some (cond b None (Some p))
    by_kind true o p = refl
    by_kind false o p = refl

    at : (o : Option Entry) → is_some (option_and_then alive (option_map (λ (e : Entry). e.object) (option_map without_props o))) ≡ is_some (option_and_then alive (option_map (λ (e : Entry). e.object) o))
    at None = refl
    at (Some e) = by_kind (is_garbage e.object.kind) _ _

-- by what touches notes alone
pub none_notes : (es fs : List Entry) → map without_props fs ≡ map without_props es → NoneGoes es fs
none_notes es fs e = none_by es fs (λ n. sym (bare_there fs n) ∙ ap (λ os. is_some (option_and_then alive (object_in os n))) e ∙ bare_there es n)

-- Triggers and editors, of these objects.

abbrev pub FromThere : List Entry → Process → Type 0
FromThere es p = (p.trigger ≡ nothing) ⊎ Stands es p.trigger

pub record Held (es : List Entry) (w : World) : Type 0 where
  pub triggers : Each (FromThere es) w.queue.processes
  pub editors : (d : ℕ) (s : EditState) → editor_in d w.live.board.connections ≡ Some s → Stands es s.program

pub held_more : (es fs : List Entry) (w : World) → NoneGoes es fs → Held es w → Held fs w
held_more es fs w k h = record { triggers = each_more (FromThere es) (FromThere fs) one w.queue.processes h.triggers; editors = λ d s e. k s.program (h.editors d s e) }
  where
    one : (p : Process) → FromThere es p → FromThere fs p
    one p (inl e) = inl e
    one p (inr s) = inr (k p.trigger s)

pub trigger_as : (es : List Entry) (Lost : Dbref → Type 0) (p q : Process) → (q.trigger ≡ p.trigger) ⊎ ((q.trigger ≡ nothing) × Lost p.trigger) → FromThere es p → FromThere es q
trigger_as es Lost p q (inr k) h = inl k.0
trigger_as es Lost p q (inl e) (inl n) = inl (e ∙ n)
trigger_as es Lost p q (inl e) (inr s) = inr (subst (Stands es) (sym e) s)

-- where each comes from one of those
pub triggers_come : (es : List Entry) (own : ℤ → Bool) (sends : Bool) (Lost : Dbref → Type 0) (New : Process → Type 0) (q r : Queue) → ((p : Process) → New p → FromThere es p) → Each (FromThere es) q.processes → Comes own sends Lost New q r →
    Each (FromThere es) r.processes
triggers_come es own sends Lost New q r new h c = each_more (From own sends Lost New q.processes) (FromThere es) one r.processes c.processes
  where
    one : (p : Process) → From own sends Lost New q.processes p → FromThere es p
    one p (was_there o a g s) = trigger_as es Lost o p g.origin.trigger (each_among (FromThere es) o q.processes a h)
    one p (is_new n) = new p n

abbrev pub Editors : List Entry → List Connection → Type 0
Editors es cs = (d : ℕ) (s : EditState) → editor_in d cs ≡ Some s → Stands es s.program

pub editor_as : (es : List Entry) (Lost : Dbref → Type 0) (a b : Option EditState) → SameEditor Lost a b → ((s : EditState) → a ≡ Some s → Stands es s.program) → (s : EditState) → b ≡ Some s → Stands es s.program
editor_as es Lost a b (inl e) h s at = h s (sym e ∙ at)
editor_as es Lost a b (inr k) h s at = absurd (none-some s (sym k.0 ∙ at))

pub editors_sit : (es : List Entry) (cs ds : List Connection) → seats ds ≡ seats cs → Editors es cs → Editors es ds
editors_sit es cs ds e h d s at = h d s (sym (editor_sits d cs ds e) ∙ at)

-- one is opened or closed
pub editors_put : (es : List Entry) (n : ℕ) (editor : Option EditState) → ((s : EditState) → editor ≡ Some s → Stands es s.program) → (cs : List Connection) → Editors es cs → Editors es (changed_in n (editor_set editor) cs)
editors_put es n editor k cs h d s at =
    by_number (n == d) (found d cs) (λ s e. h d s e) s (sym (ap (λ (o : Option Connection). option_and_then (λ (c : Connection). c.editor) o) (found_changed d n (editor_set editor) (λ c. refl) cs)) ∙ at)
  where
    by_number : (b : Bool) (o : Option Connection) → ((s : EditState) → option_and_then (λ (c : Connection). c.editor) o ≡ Some s → Stands es s.program) →
        (s : EditState) → option_and_then (λ (c : Connection). c.editor) (cond b (option_map (editor_set editor) o) o) ≡ Some s → Stands es s.program
    by_number false o h s e = h s e
    by_number true None h s e = h s e
    by_number true (Some c) h s e = k s e

-- What was there and isn't any more is told of.

lost_number : (es fs : List Entry) → Told es fs → (d : Dbref) → Stands es d → is_some (object_at d fs) ≡ false → (n : ℕ) × (d ≡ dbref_of n) × (mark_in fs n ≡ Some Gone)
lost_number es fs t d = at d.0
  where
    at : (z : ℤ) → Stands es (object_numbered z) → is_some (object_at (object_numbered z) fs) ≡ false → (n : ℕ) × (object_numbered z ≡ dbref_of n) × (mark_in fs n ≡ Some Gone)
    at (pos n) h k = (n, refl, t.gone n h k)
    at (negsuc n) h k = never_both (is_some (object_at (object_numbered (negsuc n)) es)) h (ap is_some (at_negative es n))

-- so what no mark of that kind names is there still
there_still : (es fs : List Entry) → Told es fs → (d : Dbref) → Stands es d → ((n : ℕ) → mark_in fs n ≡ Some Gone → d ≡ dbref_of n → ⊥) → Stands fs d
there_still es fs t d h k = at (is_some (object_at d fs)) refl
  where
    at : (b : Bool) → is_some (object_at d fs) ≡ b → Stands fs d
    at true e = e
    at false e = let l = lost_number es fs t d h e in absurd (k l.0 l.2 l.1)

each_every : {X : Type 0} (M : ℕ → Type 0) (P R : X → Type 0) (Q : ℕ → X → Type 0) → ((x : X) → P x → ((n : ℕ) → M n → Q n x) → R x) → (xs : List X) → Each P xs → ((n : ℕ) → M n → Each (Q n) xs) → Each R xs
each_every M P R Q k [] h g = tt
each_every M P R Q k (x ∷ xs) h g = (k x h.0 (λ n m. (g n m).0), each_every M P R Q k xs h.1 (λ n m. (g n m).1))

closed_at : (n d : ℕ) (cs : List Connection) → Each (λ c. edits (dbref_of n) c ≡ false) cs → option_map_or (λ (s : EditState). same (dbref_of n) s.program) (editor_in d cs) false ≡ false
closed_at n d [] h = refl
closed_at n d (c ∷ cs) h =
    cond_both (is_connection d c) (Some c) (found d cs) (λ (o : Option Connection). option_map_or (λ (s : EditState). same (dbref_of n) s.program) (option_and_then (λ (c : Connection). c.editor) o) false ≡ false)
    (λ e. h.0) (λ e. closed_at n d cs h.1)

-- once it was told
pub held_cleared : (es : List Entry) (u : World) → Told es u.live.objects → Held es (settled u) → Held u.live.objects (settled u)
held_cleared es u t h = record {
  triggers = each_every (λ n. mark_in fs n ≡ Some Gone) (FromThere es) (FromThere fs) (λ n p. has_trigger (dbref_of n) p ≡ false) one (settled u).queue.processes h.triggers (λ n m. (settled_clears n u m).triggers);
  editors = λ d s at. there_still es fs t s.program (h.editors d s at) (λ n m e.
      never_both (same (dbref_of n) s.program) (same_eq (dbref_of n) s.program (sym e))
      (sym (ap (λ (o : Option EditState). option_map_or (λ (s : EditState). same (dbref_of n) s.program) o false) at) ∙ closed_at n d (settled u).live.board.connections (settled_clears n u m).editors));
}
  where
    fs : List Entry
    fs = u.live.objects

    one : (p : Process) → FromThere es p → ((n : ℕ) → mark_in fs n ≡ Some Gone → has_trigger (dbref_of n) p ≡ false) → FromThere fs p
    one p (inl e) g = inl e
    one p (inr s) g = inr (there_still es fs t p.trigger s (λ n m e. never_both (same p.trigger (dbref_of n)) (same_eq p.trigger (dbref_of n) e) (g n m)))

-- what is told only takes triggers and editors away
held_swept : (es : List Entry) (u : World) → Held es u → Held es (settled u)
held_swept es u h = record {
  triggers = triggers_come es no_own_process false (λ x. Unit {0}) (λ p. ⊥) u.queue (settled u).queue (λ p n. absurd n) h.triggers
      (holds_settled no_own_process false (λ x. Unit {0}) (λ p. ⊥) (λ q r n g. n) u.queue u (λ k m e. tt) (from_itself no_own_process false (λ x. Unit {0}) (λ p. ⊥) u.queue));
  editors = λ d. editor_as es (λ x. Unit {0}) _ _ (same_editor d ((keeps_settled (λ x. Unit {0}) (λ n. false) u (λ k m e. tt)).editors d)) (h.editors d);
}
  where
    never : false ≡ true → ⊥
    never e = cc

    same_editor : (d : ℕ) → (false ≡ true) ⊎ SameEditor (λ x. Unit {0}) (editor_in d u.live.board.connections) (editor_in d (settled u).live.board.connections) → SameEditor (λ x. Unit {0}) (editor_in d u.live.board.connections) (editor_in d (settled u).live.board.connections)
    same_editor d (inl e) = absurd (never e)
    same_editor d (inr s) = s

-- told, the objects are there that were
pub none_settled : (u : World) → NoneGoes u.live.objects (settled u).live.objects
none_settled u d h = ap is_some (objects_settled d u) ∙ h

pub settled_held : (es : List Entry) (u : World) → Told es u.live.objects → Held es (settled u) → Held (settled u).live.objects (settled u)
settled_held es u t h = held_more u.live.objects (settled u).live.objects (settled u) (none_settled u) (held_cleared es u t h)

pub held_settled : (es : List Entry) (u : World) → Told es u.live.objects → Held es u → Held (settled u).live.objects (settled u)
held_settled es u t h = settled_held es u t (held_swept es u h)
