-- The rows, by the items at the top.
use Rattle.std.proofs.Common.{◌≡◌, ℕ, ℤ, List, [], ◌∷◌, map, take, refl, ap, ◌∙◌, Option, Some, None}
use Rattle.std.specs.Prelude.{slice_get}
use Rattle.std.specs.Option.{option_map}
use Rattle.muck_model.specs.declared.dbref.Dbref.{Dbref}
use Rattle.spec_live.specs.Lives.{Live}
use Rattle.spec_rights.specs.declared.act.Actor.{Actor}
use Rattle.muf_model.specs.declared.prims.Primitive.TheVariants.{Call}
use Rattle.muf_model.specs.declared.value.Value.{Value}
use Rattle.muf_model.specs.Datum.{Datum, int, text, object}
use Rattle.muf_model.specs.inner.View.{view}
use Rattle.muf_frame.specs.inner.Answers.{int_at, text_at, object_at}
use Rattle.muck_queue.specs.declared.process.Process.{Process}
use Rattle.muck_queue.specs.Queues.{Queue, process}
use Rattle.spec_processes.specs.declared.place.Place.{Place}
use Rattle.spec_processes.specs.ProcessRows.{mode_numbered, mode_set, set_mode, program_entering, program_call, program_starting, queue, event_name, event_data, event_sent, event_send, taken_at}
use Rattle.prim_proc.specs.inner.Taken.{entering_at, started_in, sent_in}

module _ (x : Place) (a : Actor) (p : Process) (w : Live) (q : Queue) where
  pub set_mode_at : (stack : List Datum) (i : ℤ) → int_at 0 stack ≡ Some i → set_mode x a p (take 1 stack) w q ≡ mode_set (mode_numbered i) x p w q
  set_mode_at [] i e = absurd cc
  set_mode_at (int j ∷ rest) i e = let same : j ≡ i = cc in ap (λ k. mode_set (mode_numbered k) x p w q) same
  set_mode_at (_ ∷ rest) i e = absurd cc

  pub queue_at : (stack : List Datum) (i d : ℤ) (t : List ℕ) → started_in stack ≡ Some (i, d, t) → queue x a p (take 3 stack) w q ≡ program_starting w a d i t
  queue_at (text s ∷ object e ∷ int j ∷ rest) i d t is = ap (λ o. program_starting w a o.1 o.0 o.2) (the_same (j, e, s) (i, d, t) is)
    where
      the_same : (m n : ℤ × ℤ × List ℕ) → Some m ≡ Some n → m ≡ n
      the_same m n h = cc
  queue_at _ i d t is = absurd cc

  pub event_send_at : (stack : List Datum) (i : ℤ) (t : List ℕ) (value : Datum) → sent_in stack ≡ Some (i, t, value) → event_send x a p (take 3 stack) w q ≡ event_sent x (process i q) i (event_name t) (event_data x a p value) w q
  event_send_at (d ∷ text s ∷ int j ∷ rest) i t value is = ap (λ o. event_sent x (process o.0 q) o.0 (event_name o.1) (event_data x a p o.2) w q) (the_same (j, s, d) (i, t, value) is)
    where
      the_same : (m n : ℤ × List ℕ × Datum) → Some m ≡ Some n → m ≡ n
      the_same m n h = cc
  event_send_at _ i t value is = absurd cc

  pub call_bare : (stack : List Datum) (o : Option Dbref) → text_at 0 stack ≡ None → option_map (λ (d : Dbref). d.0) o ≡ object_at 0 stack → program_call x a p (take (taken_at Call stack) stack) w q ≡ entering_at w a o None
  call_bare [] None e f = refl
  call_bare [] (Some d) e f = absurd cc
  call_bare (text s ∷ rest) o e f = absurd cc
  call_bare (object n ∷ rest) None e f = absurd cc
  call_bare (object n ∷ rest) (Some d) e f = let same : n ≡ d.0 = cc in ap (λ k. program_entering w a k None) same
  call_bare (_ ∷ rest) None e f = refl
  call_bare (_ ∷ rest) (Some d) e f = absurd cc

  pub call_named : (stack : List Datum) (t : List ℕ) (o : Option Dbref) → text_at 0 stack ≡ Some t → option_map (λ (d : Dbref). d.0) o ≡ object_at 1 stack → program_call x a p (take (taken_at Call stack) stack) w q ≡ entering_at w a o (Some t)
  call_named [] t o e f = absurd cc
  call_named (text s ∷ []) t None e f = refl
  call_named (text s ∷ []) t (Some d) e f = absurd cc
  call_named (text s ∷ object n ∷ rest) t None e f = absurd cc
  call_named (text s ∷ object n ∷ rest) t (Some d) e f =
      let item : n ≡ d.0 = cc in
      let name : s ≡ t = cc in
      ap (λ k. program_entering w a k (Some s)) item ∙ ap (λ k. program_entering w a d.0 (Some k)) name
  call_named (text s ∷ _ ∷ rest) t None e f = refl
  call_named (text s ∷ _ ∷ rest) t (Some d) e f = absurd cc
  call_named (_ ∷ rest) t o e f = absurd cc

sent_upon : (d : Datum) (ds : List Datum) (i : ℤ) (t : List ℕ) → text_at 0 ds ≡ Some t → int_at 1 ds ≡ Some i → sent_in (d ∷ ds) ≡ Some (i, t, d)
sent_upon d [] i t e f = absurd cc
sent_upon d (text s ∷ int j ∷ rest) i t e f =
    let number : j ≡ i = cc in
    let name : s ≡ t = cc in
    ap (λ k. Some (k, s, d)) number ∙ ap (λ k. Some (i, k, d)) name
sent_upon d (text s ∷ _) i t e f = absurd cc
sent_upon d (_ ∷ rest) i t e f = absurd cc

pub sent_at : (vs : List Value) (v : Value) (i : ℤ) (t : List ℕ) → slice_get vs 0 ≡ Some v → text_at 1 (map view vs) ≡ Some t → int_at 2 (map view vs) ≡ Some i → sent_in (map view vs) ≡ Some (i, t, view v)
sent_at [] v i t h e f = absurd cc
sent_at (u ∷ vs) v i t h e f = let same : u ≡ v = cc in sent_upon (view u) (map view vs) i t e f ∙ ap (λ k. Some (i, t, view k)) same
