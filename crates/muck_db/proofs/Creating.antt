-- A new object in the table.
use Rattle.std.proofs.Common.{◌≡◌, ℕ, ◌+◌, ◌<◌, ◌≤◌, zero, suc, List, [], ◌∷◌, inl, inr, refl, sym, ◌∙◌, ap, subst, length, arith, Result, Ok, Bool, true, false, cond}
use Rattle.std.proofs.lemmas.Bool.{cases_eq}
use Rattle.std.specs.List.{slice_get}
use Rattle.std.specs.Option.{option_map, option_map_or}
use Rattle.muck_model.specs.declared.dbref.Dbref.{Dbref}
use Rattle.muck_model.specs.declared.dbref.Kind.{Kind}
use Rattle.muck_model.specs.declared.dbref.Kind.TheVariants.{Garbage}
use Rattle.spec_live.specs.declared.fault.DbFault.{DbFault}
use Rattle.spec_live.specs.declared.object.Object.{Object}
use Rattle.spec_live.specs.Chain.{Ends}
use Rattle.muck_match.specs.inner.Listed.{IsAmong}
use Rattle.spec_live.specs.Objects.{Entry, dbref_of, changed_at, with_object, is_garbage, object_in, kind_in, mark_in, is_vehicle_in, is_player}
use Rattle.spec_live.specs.Making.{objects_grown, free_in, new_object, created, create_check, Creates}
use Rattle.spec_live.specs.Moving.{moved}
use Rattle.spec_live.specs.Consistent.{IsOrdered, IsConsistent, MayMove}
use Rattle.spec_live.proofs.Readers.{kind_moved, mark_moved, mark_named}
use Rattle.spec_live.proofs.KindLaws.{standing_alive}
use Rattle.spec_live.proofs.CreationLaws.{free_is, MayCreate, may_create, Begins, begins, grown_kind, grown_more, grown_same, free_le, other_kind, named_kind, ordered_grown, ordered_named, create_checked, consistent_created}
use Rattle.muck_db.specs.declared.slot.Slot.{Slot}
use Rattle.muck_db.specs.inner.Slots.{next_at, first_at, kind_at, mark_at, object_put, entries_of, HasOrder, IsKept}
use Rattle.muck_db.specs.inner.Limits.{IsWithinLimits}
use Rattle.muck_db.proofs.LimitLaws.{limits_created}
use Rattle.muck_db.proofs.Readers.{length-entries_of, kind_in-entries_of, mark_in-entries_of}
use Rattle.muck_db.proofs.Writes.{entries_put, ends_put, mark_blank}

-- the number that is taken
pub free_at : (slots : List Slot) (r : ℕ) → r ≤ length slots → ((k : ℕ) → k < r → is_garbage (kind_at slots k) ≡ false) → (r < length slots → is_garbage (kind_at slots r) ≡ true) → r ≡ free_in (entries_of slots)
free_at slots r le before here = free_is (entries_of slots) r (omega (arith, length-entries_of slots))
    (λ k lt. rw (kind_in-entries_of slots k) (before k lt)) (λ lt. rw (kind_in-entries_of slots r) (here (omega (arith, length-entries_of slots))))

-- the object is put, and may now be moved to its place
pub record Put (old mid : List Slot) (n to : ℕ) (kind : Kind) (name : List ℕ) (owner : Dbref) : Type 0 where
  pub is : entries_of mid ≡ changed_at n (with_object (new_object n kind name owner)) (objects_grown n (entries_of old))
  pub order : HasOrder mid
  pub may : MayMove (entries_of mid) n to

pub put_begins : (old mid : List Slot) (n to : ℕ) (kind : Kind) (name : List ℕ) (owner place : Dbref) (o : Object) → HasOrder old → create_check kind owner place (entries_of old) ≡ Ok (n, to) → o ≡ new_object n kind name owner → mid ≡ object_put n o old
    → Put old mid n to kind name owner
put_begins old mid n to kind name owner place o order passed is_new is_put =
    let es : List Entry = entries_of old in
    let b : Begins es kind owner n to = begins es kind owner n to (may_create kind owner place es (n, to) passed) in
    let is : entries_of mid ≡ changed_at n (with_object (new_object n kind name owner)) (objects_grown n es) =
    ap (λ (z : List Slot). entries_of z) is_put ∙ entries_put n o old order.ends ∙ ap (λ (z : Object). changed_at n (with_object z) (objects_grown n es)) is_new in
    let E : List Slot → Type 0 = λ z. (v : Bool) (p : ℕ) → Ends (length z) (next_at z) (first_at v z p) in
    let O : List Entry → Type 0 = λ z. IsOrdered z in
    let M : List Entry → Type 0 = λ z. MayMove z n to in
    record {
      is = is;
      order = record {
        ends = subst E (sym is_put) (ends_put n o old order.ends);
        ordered = subst O (sym is) (ordered_named (objects_grown n es) n kind name owner b.known b.garbage (ordered_grown es n (may_create kind owner place es (n, to) passed).few order.ordered));
      };
      may = subst M (sym is) (create_checked kind name owner place es (n, to) passed order.ordered);
    }

pub created_from : (old mid new : List Slot) (n to : ℕ) (kind : Kind) (name : List ℕ) (owner : Dbref) → Put old mid n to kind name owner → entries_of new ≡ moved n to (entries_of mid) → entries_of new ≡ created n kind name owner to (entries_of old)
unfolding created
created_from old mid new n to kind name owner put is = is ∙ ap (λ (z : List Entry). moved n to z) put.is

below_free : (es : List Entry) (k : ℕ) → k < free_in es → is_garbage (kind_in es k) ≡ false
unfolding free_in kind_in object_in
below_free [] k lt = absurd (omega arith)
below_free (e ∷ es) k lt = by_cases (is_garbage e.object.kind) refl (below_free es) k lt
  where
    by_cases : (b : Bool) → is_garbage e.object.kind ≡ b → ((j : ℕ) → j < free_in es → is_garbage (option_map_or (λ (o : Object). o.kind) (option_map (λ (x : Entry). x.object) (slice_get es j)) Garbage) ≡ false)
        → (j : ℕ) → j < cond b 0 (suc (free_in es)) → is_garbage (option_map_or (λ (o : Object). o.kind) (option_map (λ (x : Entry). x.object) (slice_get (e ∷ es) j)) Garbage) ≡ false
    by_cases true q rest j lt = absurd (omega arith)
    by_cases false q rest zero lt = q
    by_cases false q rest (suc j) lt = rest j (omega arith)

grown_mark : (n k : ℕ) (es : List Entry) → mark_in (objects_grown n es) k ≡ mark_in es k
grown_mark n k es = elim (cases_eq n (length es)) [
  | inl e ↦ ap (λ (z : List Entry). mark_in z k) (grown_more n es e) ∙ mark_blank es k
  | inr e ↦ ap (λ (z : List Entry). mark_in z k) (grown_same n es e)
]

-- more numbers may stand among those of the players
pub kept_listed : (slots : List Slot) (lowest told : ℕ) (players more : List ℕ) → ((k : ℕ) → IsAmong players k → IsAmong more k) → IsKept slots lowest told players → IsKept slots lowest told more
kept_listed slots lowest told players more longer kept = record { sound = kept.sound; full = kept.full; unmarked = kept.unmarked; listed = λ k h. longer k (kept.listed k h) }

-- the rule of the type behind a creation
pub kept_created : (old mid new : List Slot) (n to lowest told : ℕ) (players : List ℕ) (kind : Kind) (name : List ℕ) (owner place : Dbref) → create_check kind owner place (entries_of old) ≡ Ok (n, to) → Put old mid n to kind name owner
    → 1 ≤ length name → length name ≤ 80 → entries_of new ≡ moved n to (entries_of mid) → HasOrder new → (is_player kind ≡ true → IsAmong players n) → IsKept old lowest told players → IsKept new (n + 1) told players
kept_created old mid new n to lowest told players kind name owner place passed put some short is order among kept =
    let es : List Entry = entries_of old in
    let m : MayCreate es kind owner n to = may_create kind owner place es (n, to) passed in
    let b : Begins es kind owner n to = begins es kind owner n to m in
    let o : Object = new_object n kind name owner in
    let C : List Entry → Type 0 = λ z. IsConsistent z in
    let kinds : (k : ℕ) → kind_at new k ≡ kind_in (changed_at n (with_object o) (objects_grown n es)) k =
    λ k. sym (kind_in-entries_of new k) ∙ ap (λ (z : List Entry). kind_in z k) is ∙ kind_moved (entries_of mid) n to k ∙ ap (λ (z : List Entry). kind_in z k) put.is in
    let marks : (k : ℕ) → mark_at new k ≡ mark_at old k =
    λ k. sym (mark_in-entries_of new k) ∙ ap (λ (z : List Entry). mark_in z k) is ∙ mark_moved (entries_of mid) n to k ∙ ap (λ (z : List Entry). mark_in z k) put.is ∙ mark_named n k o (objects_grown n es) ∙ grown_mark n k es ∙ mark_in-entries_of old k in
    record {
      sound = record { ends = order.ends; world = subst C (sym (created_from old mid new n to kind name owner put is)) (consistent_created kind name owner place es (n, to) passed kept.sound.world); limits = subst IsWithinLimits (sym (created_from old mid new n to kind name owner put is)) (limits_created n kind name owner to es some short kept.sound.limits) };
      full = λ k lt. elim (cases_eq k n) [
        | inl e ↦ ap is_garbage (kinds k ∙ ap (λ z. kind_in (changed_at n (with_object o) (objects_grown n es)) z) e ∙ named_kind (objects_grown n es) n kind name owner b.known) ∙ standing_alive kind (kind_in es to) (is_vehicle_in es to) m.fits
        | inr e ↦ ap is_garbage (kinds k ∙ other_kind (objects_grown n es) n k o e ∙ grown_kind n k es) ∙ below_free es k (omega (arith, m.free))
      ];
      unmarked = λ k lt. marks k ∙ kept.unmarked k lt;
      listed = λ k h. elim (cases_eq k n) [
        | inl e ↦ subst (IsAmong players) (sym e) (among (sym (ap is_player (kinds k ∙ ap (λ z. kind_in (changed_at n (with_object o) (objects_grown n es)) z) e ∙ named_kind (objects_grown n es) n kind name owner b.known)) ∙ h))
        | inr e ↦ kept.listed k (sym (ap is_player (kinds k ∙ other_kind (objects_grown n es) n k o e ∙ grown_kind n k es ∙ kind_in-entries_of old k)) ∙ h)
      ];
    }

pub put_within : (old : List Slot) (n to : ℕ) (kind : Kind) (owner place : Dbref) → create_check kind owner place (entries_of old) ≡ Ok (n, to) → n ≤ length old
put_within old n to kind owner place passed = omega (arith, (may_create kind owner place (entries_of old) (n, to) passed).free, free_le (entries_of old), length-entries_of old)

pub put_few : (old : List Slot) (n to : ℕ) (kind : Kind) (owner place : Dbref) → create_check kind owner place (entries_of old) ≡ Ok (n, to) → n < 100000
put_few old n to kind owner place passed = (may_create kind owner place (entries_of old) (n, to) passed).few

pub creates : (kind : Kind) (name : List ℕ) (owner : Dbref) (check : Result (ℕ × ℕ) DbFault) (n to : ℕ) (d : Dbref) (old new : List Entry) → check ≡ Ok (n, to) → d ≡ dbref_of n → new ≡ created n kind name owner to old → Creates check kind name owner old new (Ok d)
creates kind name owner check n to d old new e is_d is = let P : Result (ℕ × ℕ) DbFault → Type 0 = λ r. Creates r kind name owner old new (Ok d) in subst P (sym e) (is_d, is)
