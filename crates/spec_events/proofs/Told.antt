-- What is to be told of objects is no part of what a licence speaks of.
use Rattle.std.proofs.Common.{◌≡◌, ℕ, Bool, true, false, List, [], refl, sym, ◌∙◌, ap, subst, Option, Some, None, arith}
use Rattle.std.specs.Prelude.{map, if◌then◌else◌}
use Rattle.std.specs.Option.{option_map, option_map_or, option_and_then}
use Rattle.muck_laws.proofs.Places.{read_mapped}
use Rattle.muck_model.specs.declared.dbref.Dbref.{Dbref}
use Rattle.muck_model.specs.declared.dbref.Kind.TheVariants.{Garbage}
use Rattle.spec_live.specs.declared.object.Object.{Object}
use Rattle.spec_live.specs.Objects.{Entry, dbref_of, index_of, is_garbage, entry_list, object_in, list_in, kind_in, number_in, object_at}
use Rattle.spec_live.specs.Marks.{entry_unmarked}
use Rattle.spec_live.specs.Lives.{Live, on_objects}
use Rattle.spec_rights.specs.declared.act.Actor.{Actor}
use Rattle.spec_rights.specs.Licence.{Freedom, Reordered, front_open, Licensed, Differs}
use Rattle.spec_live.proofs.Steps.{Walk}
use Rattle.spec_live.proofs.Walks.{walk_told}
use Rattle.spec_live.proofs.Entries.{fewer_walk}
use Rattle.spec_live.proofs.Tracing.{traced_both, traced_walk}
use Rattle.spec_events.proofs.Quietly.{lively}

-- Objects and lists without what is to be told of them.

pub told_object : (es : List Entry) (k : ℕ) → object_in (map entry_unmarked es) k ≡ object_in es k
unfolding object_in
told_object es k = read_mapped (λ o. option_map (λ (e : Entry). e.object) o) entry_unmarked es k (λ e. refl)

told_kind : (es : List Entry) (k : ℕ) → kind_in (map entry_unmarked es) k ≡ kind_in es k
unfolding kind_in
told_kind es k = ap (λ (o : Option Object). option_map_or (λ o. o.kind) o Garbage) (told_object es k)

told_number : (es : List Entry) (d : Dbref) → number_in (map entry_unmarked es) d ≡ number_in es d
unfolding number_in
told_number es d = at (index_of d)
  where
    at : (o : Option ℕ) → option_and_then (λ n. if is_garbage (kind_in (map entry_unmarked es) n) then None else Some n) o ≡ option_and_then (λ n. if is_garbage (kind_in es n) then None else Some n) o
    at None = refl
    at (Some n) = ap (λ k. if is_garbage k then None else Some n) (told_kind es n)

found_in : (es : List Entry) (o : Option ℕ) → option_and_then (object_in (map entry_unmarked es)) o ≡ option_and_then (object_in es) o
found_in es None = refl
found_in es (Some n) = told_object es n

pub told_at : (d : Dbref) (es : List Entry) → object_at d (map entry_unmarked es) ≡ object_at d es
unfolding object_at
told_at d es = ap (option_and_then (object_in (map entry_unmarked es))) (told_number es d) ∙ found_in es (number_in es d)

pub told_list : (exits : Bool) (es : List Entry) (k : ℕ) → list_in exits (map entry_unmarked es) k ≡ list_in exits es k
unfolding list_in
told_list true es k = read_mapped (λ o. option_map_or (entry_list true) o []) entry_unmarked es k (λ e. refl)
told_list false es k = read_mapped (λ o. option_map_or (entry_list false) o []) entry_unmarked es k (λ e. refl)

-- The licence.

pub licensed_told : (a : Actor) (free : Freedom) (w v : Live) → Licensed a free w v → Licensed a free w (on_objects (map entry_unmarked) v)
licensed_told a free w v l = let told : Walk lively v.objects (map entry_unmarked v.objects) = walk_told lively v.objects refl in record {
  gone = l.gone;
  recycled = l.recycled;
  vanished = λ x e. told_at x v.objects ∙ l.vanished x e;
  objects = λ n. let P : Option Object → Type 0 = λ o. Differs (record { actor = a; free = free; gone = l.gone; objects = w.objects }) (dbref_of n) (object_at (dbref_of n) w.objects) o in subst P (sym (told_at (dbref_of n) v.objects)) (l.objects n);
  no_fewer = omega (arith, l.no_fewer, fewer_walk lively v.objects (map entry_unmarked v.objects) told);
  traced = traced_both w.objects v.objects (map entry_unmarked v.objects) l.traced (traced_walk lively refl refl v.objects (map entry_unmarked v.objects) told);
  lists = λ exits p. subst (Reordered (front_open (record { actor = a; free = free; gone = l.gone; objects = w.objects }) w.objects p) (list_in exits w.objects p)) (sym (told_list exits v.objects p)) (l.lists exits p);
  connections = l.connections;
  tune = l.tune;
}
