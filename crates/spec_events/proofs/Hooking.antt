-- What hooks start, and that they do nothing else.
use Rattle.std.proofs.Common.{◌≡◌, ◌⊎◌, ℕ, ℤ, pos, ◌+ℤ◌, Bool, true, false, cond, List, [], ◌∷◌, ◌++◌, map, refl, sym, ◌∙◌, ap, arith, append_assoc, append-nil, Option, Some, None, inl, inr}
use Rattle.std.specs.Prelude.{is_some, Result, Ok, Err}
use Rattle.std.specs.List.{filter_map, flat_map, cons_option}
use Rattle.std.specs.Option.{option_map_or, option_and_then}
use Rattle.std.proofs.lemmas.Bool.{cond_both}
use Rattle.std.proofs.lemmas.Int.{ints}
use Rattle.muck_model.specs.declared.dbref.Dbref.{Dbref}
use Rattle.spec_live.specs.declared.object.Object.{Object}
use Rattle.spec_live.specs.Objects.{Entry, object_at}
use Rattle.spec_live.specs.Lives.{Live}
use Rattle.muf_model.specs.declared.fault.MufFault.{MufFault}
use Rattle.muf_model.specs.Tree.{Tree}
use Rattle.muf_model.specs.Source.{Source}
use Rattle.muck_library.specs.Library.{form_at, formed}
use Rattle.muck_library.specs.Programs.{built_tree}
use Rattle.muck_queue.specs.declared.process.Process.{Process}
use Rattle.muck_queue.specs.Queues.{process_numbered, process_added}
use Rattle.spec_events.specs.declared.starting.Call.{Call}
use Rattle.spec_events.specs.World.{World, on_queue, with_library}
use Rattle.spec_events.specs.Starting.{by_hook, new_process, program_begun}
use Rattle.spec_events.specs.Sourced.{Each}
use Rattle.spec_events.proofs.Sourcing.{each_append}
use Rattle.spec_events.proofs.SourcedUnits.{formed_sourced}
use Rattle.spec_events.proofs.Begun.{begun_keeps, live_begun}
use Rattle.spec_hooks.specs.declared.cause.Cause.{Cause}
use Rattle.spec_hooks.specs.declared.cause.Fire.{Fire}
use Rattle.spec_hooks.specs.Causes.{causes}
use Rattle.spec_hooks.specs.Firing.{directory, argument, values_in, named_program, may_fire, fire_by, fired, fired_by, carriers, firing}
use Rattle.spec_events.specs.Hooked.{hook_command, call_of, calls_of, is_limit, and_then, started_all, hooked}
use Rattle.spec_events.specs.OnlyStarts.{IsHooked, OnlyStarts}

-- What is so of each item.

module _ {X : Type 0} (P : X → Type 0) where
  pub each_both : (xs ys : List X) → Each P xs → Each P ys → Each P (xs ++ ys)
  each_both [] ys h k = k
  each_both (x ∷ xs) ys h k = (h.0, each_both xs ys h.1 k)

  pub each_flat : {A : Type 0} (f : A → List X) (l : List A) → ((a : A) → Each P (f a)) → Each P (flat_map f l)
  each_flat f [] h = tt
  each_flat f (a ∷ l) h = each_both (f a) (flat_map f l) (h a) (each_flat f l h)

  pub each_map : {A : Type 0} (f : A → X) (l : List A) → Each (λ a. P (f a)) l → Each P (map f l)
  each_map f [] h = tt
  each_map f (a ∷ l) h = (h.0, each_map f l h.1)

  pub each_found : {A : Type 0} (f : A → Option X) (l : List A) → ((a : A) (x : X) → f a ≡ Some x → P x) → Each P (filter_map f l)
  each_found f [] h = tt
  each_found {A} f (a ∷ l) h = by (f a) refl (each_found f l h)
    where
      by : (o : Option X) → f a ≡ o → Each P (filter_map f l) → Each P (cons_option o (filter_map f l))
      by None e k = k
      by (Some x) e k = (h a x e, k)

-- What starts is started by what is there.

-- as a hook calls, where these objects are there
abbrev pub IsCall : List Entry → Call → Type 0
IsCall es c = (is_some (object_at c.trigger es) ≡ true) × (c.command ≡ hook_command)

module _ (es : List Entry) (cause : Cause) where
  abbrev IsThere : Fire → Type 0
  IsThere f = is_some (object_at f.trigger es) ≡ true

  fire_there : (carrier program : Dbref) (f : Fire) → is_some (object_at carrier es) ≡ true → fire_by es cause carrier program ≡ Some f → IsThere f
  fire_there carrier program f there = at (may_fire es carrier program)
    where
      at : (b : Bool) → cond b (Some (record { program = program; trigger = carrier; arg = argument cause })) None ≡ Some f → IsThere f
      at true e = ap (λ (o : Option Fire). is_some (object_at (option_map_or (λ (x : Fire). x.trigger) o carrier) es)) (sym e) ∙ there
      at false e = cc

  named_there : (carrier : Dbref) (o : Option Dbref) (f : Fire) → is_some (object_at carrier es) ≡ true → option_and_then (fire_by es cause carrier) o ≡ Some f → IsThere f
  named_there carrier None f there e = cc
  named_there carrier (Some program) f there e = fire_there carrier program f there e

  fired_there : (carrier : Dbref) → Each IsThere (fired_by es cause carrier)
  unfolding fired_by
  fired_there carrier = at (object_at carrier es) refl
    where
      at : (o : Option Object) → object_at carrier es ≡ o → Each IsThere (option_map_or (λ (x : Object). filter_map (fired es cause carrier) (values_in (directory cause) x.props)) o [])
      at None e = tt
      at (Some x) e = each_found IsThere (fired es cause carrier) (values_in (directory cause) x.props) (λ value f k. named_there carrier (named_program value) f (ap is_some e) k)

  pub calls_there : Each (IsCall es) (calls_of es cause)
  unfolding firing
  calls_there = each_map (IsCall es) (call_of cause) (firing es cause) (with_command (firing es cause) (each_flat IsThere (fired_by es cause) (carriers es cause) fired_there))
    where
      with_command : (fs : List Fire) → Each IsThere fs → Each (λ (f : Fire). IsCall es (call_of cause f)) fs
      with_command [] h = tt
      with_command (f ∷ fs) h = ((h.0, refl), with_command fs h.1)

-- What stays so where one is started is so behind all.
module _ (es : List Entry) (P : World → Type 0) (one : (c : Call) (w : World) → w.live.objects ≡ es → IsCall es c → P w → P (program_begun (by_hook w) c w).0) where
  stepped : (r : World × Result ℤ MufFault) (more : World → World) → P r.0 → (P r.0 → P (more r.0)) → P (and_then r more)
  stepped (w, Ok pid) more p k = k p
  stepped (w, Err fault) more p k = cond_both (is_limit fault) w (more w) P (λ e. p) (λ e. k p)

  pub all_keep : (cs : List Call) → Each (IsCall es) cs → (w : World) → w.live.objects ≡ es → P w → P (started_all cs w)
  unfolding started_all
  all_keep [] h w at p = p
  all_keep (c ∷ cs) h w at p =
      let r = program_begun (by_hook w) c w in
      stepped r (started_all cs) (one c w at h.0 p) (λ q. all_keep cs h.1 r.0 (ap (λ (l : Live). l.objects) (live_begun (by_hook w) c w) ∙ at) q)

-- Nothing else is done.

module _ (v : World) where
  pub none_starts : OnlyStarts v v
  none_starts = record {
    live = refl;
    new = [];
    processes = sym (append-nil v.queue.processes);
    started = tt;
    last = omega (arith, ints);
    claims = refl;
    forms = λ d tree e. inl e;
    moment = refl;
    dumps = refl;
    stopping = refl;
    dead = refl;
  }

  -- a form is built
  form_starts : (d : Dbref) (u : World) → OnlyStarts v u → OnlyStarts v (with_library (formed u.live.objects d u.library).1 u)
  form_starts d u h =
      let B : Dbref → List (List ℕ) → Tree → Type 0 = λ e lines tree. (form_at e v.library ≡ Some tree) ⊎ (built_tree v.live.objects e ≡ Ok tree) in
      let made = formed_sourced B u.live.objects d u.library (λ e tree k. inr (ap (λ (l : Live). built_tree l.objects e) (sym h.live) ∙ k)) h.forms in
      record {
        live = h.live;
        new = h.new;
        processes = h.processes;
        started = h.started;
        last = h.last;
        claims = h.claims;
        forms = made.1;
        moment = h.moment;
        dumps = h.dumps;
        stopping = h.stopping;
        dead = h.dead;
      }

  -- a process joins
  process_starts : (c : Call) (w : World) → w.moment ≡ v.moment → IsCall v.live.objects c → (s : Source) (u : World) → OnlyStarts v u → OnlyStarts v (on_queue (process_added (new_process (by_hook w) c s)) u)
  unfolding process_added new_process
  process_starts c w now call s u h =
      let p : Process = process_numbered (u.queue.last +ℤ pos 1) (new_process (by_hook w) c s) in
      record {
        live = h.live;
        new = h.new ++ p ∷ [];
        processes = ap (λ l. l ++ p ∷ []) h.processes ∙ append_assoc v.queue.processes h.new (p ∷ []);
        started = each_append (IsHooked v) h.new p h.started (record { number = omega (arith, ints, h.last); command = call.1; trigger = call.0; tied = refl; mode = refl; due = now });
        last = omega (arith, ints, h.last);
        claims = h.claims;
        forms = h.forms;
        moment = h.moment;
        dumps = h.dumps;
        stopping = h.stopping;
        dead = h.dead;
      }

  one_starts : (c : Call) (w : World) → w.live.objects ≡ v.live.objects → IsCall v.live.objects c → OnlyStarts v w → OnlyStarts v (program_begun (by_hook w) c w).0
  one_starts c w at call h = begun_keeps (OnlyStarts v) (by_hook w) c (process_starts c w h.moment call) w (form_starts c.program w h)

pub only_starts : (before after : World) (spoken : Option (Dbref × List ℕ)) → OnlyStarts after (hooked before after spoken)
unfolding hooked
only_starts before after spoken =
    let es = after.live.objects in
    let cs = causes before.live after.live spoken in
    all_keep es (OnlyStarts after) (one_starts after) (flat_map (calls_of es) cs) (each_flat (IsCall es) (calls_of es) cs (calls_there es)) after refl (none_starts after)
