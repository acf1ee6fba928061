-- Recycling keeps a world consistent.
use Rattle.std.proofs.Common.{◌≡◌, ℕ, List, [], Option, Some, None, Ok, inl, inr, refl, sym, ◌∙◌, ap, subst, length, Bool, true, false, cond, eqb, not, ◌||◌, map}
use Rattle.muck_laws.proofs.Mapped.{length_map}
use Rattle.muck_laws.proofs.Numbers.{same_place}
use Rattle.muck_model.proofs.Dbrefs.{eq_same, same_eq}
use Rattle.std.proofs.lemmas.Bool.{cases_eq, eqb-true, eqb-false, ne_eqb, false≢true, and_from, and_parts, or_parts, not-true, cases_Bool}
use Rattle.std.proofs.lemmas.Option.{slice_get-map}
use Rattle.std.specs.List.{slice_get}
use Rattle.std.specs.Option.{option_map, option_map_or}
use Rattle.muck_model.specs.declared.dbref.Dbref.{Dbref}
use Rattle.muck_model.specs.declared.dbref.Kind.{Kind}
use Rattle.spec_live.specs.declared.object.Object.{Object}
use Rattle.spec_live.specs.Chain.{Member, IsApart, without_number}
use Rattle.spec_live.specs.Objects.{Entry, dbref_of, same, index_of, is_exit, is_player, may_stand, garbage, object_in, entry_list, list_in, mark_in, kind_in, place_in, fits_in, is_vehicle_in}
use Rattle.spec_live.specs.Moving.{left_out}
use Rattle.spec_live.specs.Recycling.{untied, sent_home, gone_entry, is_exit_of, exit_gone, without_exits, exits_gone, vanished, taken_away, recycled, recycle_check}
use Rattle.spec_live.specs.Saving.{relinked}
use Rattle.spec_live.specs.Consistent.{StandsIn, IsOrdered, IsConsistent}
use Rattle.spec_live.proofs.Chains.{without_gone, without_member, member_without}
use Rattle.spec_live.proofs.Lists.{length_changed, get_changed_same, apart_without}
use Rattle.spec_live.proofs.KindLaws.{none_in_exit, only_exit, player_no_exit, linked_no_exit, home_no_exit}
use Rattle.spec_live.proofs.Readers.{object_change, list_change, object_elsewhere, list_elsewhere, object_left, list_left, kind_is, place_is, kind_alike}
use Rattle.spec_live.proofs.Savings.{length_relinked, object_relinked, list_relinked, mark_relinked}
use Rattle.spec_live.proofs.Ties.{consistent_seen}
use Rattle.spec_live.proofs.Checks.{Passed, checked_ok, index_only}
use Rattle.spec_live.proofs.Fewer.{IsFewer, IsUnspoken, consistent_fewer}
use Rattle.spec_live.proofs.HomeLaws.{IsUntied, is_untied, not_nothing, ordered_untied, IsSent, is_sent, consistent_untied, consistent_sent_home, list_untied, kind_untied, kind_sent_home}

-- The exits of an object.

-- k is an exit of d
unfoldable pub is_exit_at : ℕ → List Entry → ℕ → Bool
is_exit_at d es k = option_map_or (is_exit_of d) (object_in es k) false

pub exit_stands : (d : ℕ) (es : List Entry) (k : ℕ) → is_exit_at d es k ≡ true → StandsIn es true d k
unfolding is_exit_at kind_in place_in
exit_stands d es k h = by_cases (object_in es k) refl h
  where
    by_cases : (o : Option Object) → object_in es k ≡ o → option_map_or (is_exit_of d) o false ≡ true → StandsIn es true d k
    by_cases None e q = absurd (false≢true q)
    by_cases (Some o) e q =
        let both : (is_exit o.kind ≡ true) × (same o.place (dbref_of d) ≡ true) = and_parts (is_exit o.kind) (same o.place (dbref_of d)) q in
        record { place = place_is es k o e ∙ ap (λ z. index_of z) (eq_same o.place (dbref_of d) both.1); kind = ap (λ z. is_exit z) (kind_is es k o e) ∙ both.0 }

place_none : (es : List Entry) (k : ℕ) → object_in es k ≡ None → place_in es k ≡ None
unfolding place_in
place_none es k h = rw h refl

pub stands_exit : (d : ℕ) (es : List Entry) (k : ℕ) → StandsIn es true d k → is_exit_at d es k ≡ true
unfolding is_exit_at
stands_exit d es k s = by_cases (object_in es k) refl
  where
    by_cases : (o : Option Object) → object_in es k ≡ o → option_map_or (is_exit_of d) o false ≡ true
    by_cases None e = absurd (cc (s.place, place_none es k e))
    by_cases (Some o) e =
        and_from (is_exit o.kind) (same o.place (dbref_of d)) (ap (λ z. is_exit z) (sym (kind_is es k o e)) ∙ s.kind) (same_eq o.place (dbref_of d) (index_only o.place d (sym (place_is es k o e) ∙ s.place)))

-- nothing stands in an exit
in_exit : (es : List Entry) → IsOrdered es → (k p : ℕ) → place_in es k ≡ Some p → is_exit (kind_in es p) ≡ true → ⊥
unfolding fits_in
in_exit es c k p h e = none_in_exit (kind_in es k) (is_vehicle_in es p) (let P : Kind → Type 0 = λ z. may_stand (kind_in es k) z (is_vehicle_in es p) ≡ true in subst P (only_exit (kind_in es p) e) (c.kinds k p h))

-- Exits gone, reader by reader.

gone_exit : (d : ℕ) (e : Entry) (b : Bool) → is_exit_of d e.object ≡ b → (exit_gone d e).object ≡ cond b garbage e.object
unfolding gone_entry
gone_exit d e true h = rw h refl
gone_exit d e false h = rw h refl

exits_under : (d k : ℕ) (es : List Entry) → object_in (map (exit_gone d) es) k ≡ option_map (λ o. cond (is_exit_of d o) garbage o) (object_in es k)
unfolding object_in
exits_under d k es = rw (slice_get-map (exit_gone d) es k) (by_cases (slice_get es k))
  where
    by_cases : (o : Option Entry) → option_map (λ (e : Entry). e.object) (option_map (exit_gone d) o) ≡ option_map (λ (x : Object). cond (is_exit_of d x) garbage x) (option_map (λ (e : Entry). e.object) o)
    by_cases None = refl
    by_cases (Some e) = ap (λ z. Some z) (gone_exit d e (is_exit_of d e.object) refl)

exits_object : (d k : ℕ) (es : List Entry) → object_in (exits_gone d es) k ≡ option_map (λ o. cond (is_exit_of d o) garbage o) (object_in es k)
unfolding exits_gone
exits_object d k es = object_change d k without_exits (map (exit_gone d) es) (λ e. refl) ∙ exits_under d k es

pub length_exits_gone : (d : ℕ) (es : List Entry) → length (exits_gone d es) ≡ length es
unfolding exits_gone
length_exits_gone d es = length_changed (map (exit_gone d) es) d without_exits ∙ length_map (exit_gone d) es

pub exits_kept : (d k : ℕ) (es : List Entry) → is_exit_at d es k ≡ false → object_in (exits_gone d es) k ≡ object_in es k
unfolding is_exit_at
exits_kept d k es h = exits_object d k es ∙ by_cases (object_in es k) h
  where
    by_cases : (o : Option Object) → option_map_or (is_exit_of d) o false ≡ false → option_map (λ (x : Object). cond (is_exit_of d x) garbage x) o ≡ o
    by_cases None q = refl
    by_cases (Some o) q = ap (λ z. Some (cond z garbage o)) q

pub exits_left : (d k : ℕ) (es : List Entry) (o : Object) → is_exit_at d es k ≡ true → object_in (exits_gone d es) k ≡ Some o → o ≡ garbage
unfolding is_exit_at
exits_left d k es o h e = by_cases (object_in es k) h (sym (exits_object d k es) ∙ e)
  where
    by_cases : (a : Option Object) → option_map_or (is_exit_of d) a false ≡ true → option_map (λ (x : Object). cond (is_exit_of d x) garbage x) a ≡ Some o → o ≡ garbage
    by_cases None q r = absurd (false≢true q)
    by_cases (Some a) q r = let same : (cond (is_exit_of d a) garbage a) ≡ o = cc (r) in sym same ∙ ap (λ z. cond z garbage a) q

gone_list : (v : Bool) (d : ℕ) (e : Entry) (b : Bool) → is_exit_of d e.object ≡ b → entry_list v (exit_gone d e) ≡ cond b [] (entry_list v e)
unfolding gone_entry
gone_list true d e true h = rw h refl
gone_list false d e true h = rw h refl
gone_list true d e false h = rw h refl
gone_list false d e false h = rw h refl

exits_list_under : (v : Bool) (d k : ℕ) (es : List Entry) → list_in v (map (exit_gone d) es) k ≡ cond (is_exit_at d es k) [] (list_in v es k)
unfolding list_in is_exit_at object_in
exits_list_under v d k es = rw (slice_get-map (exit_gone d) es k) (by_cases (slice_get es k))
  where
    by_cases : (o : Option Entry) → option_map_or (entry_list v) (option_map (exit_gone d) o) [] ≡ cond (option_map_or (is_exit_of d) (option_map (λ (e : Entry). e.object) o) false) [] (option_map_or (entry_list v) o [])
    by_cases None = refl
    by_cases (Some e) = gone_list v d e (is_exit_of d e.object) refl

pub exits_list_here : (d : ℕ) (es : List Entry) → list_in true (exits_gone d es) d ≡ []
unfolding list_in exits_gone
exits_list_here d es = rw (get_changed_same (map (exit_gone d) es) d without_exits) (by_cases (slice_get (map (exit_gone d) es) d))
  where
    by_cases : (o : Option Entry) → option_map_or (entry_list true) (option_map without_exits o) [] ≡ []
    by_cases None = refl
    by_cases (Some e) = refl

pub exits_list : (v : Bool) (d k : ℕ) (es : List Entry) → (v ≡ true → k ≡ d → ⊥) → list_in v (exits_gone d es) k ≡ cond (is_exit_at d es k) [] (list_in v es k)
unfolding exits_gone
exits_list false d k es ne = list_change false d k without_exits (map (exit_gone d) es) (λ e. refl) ∙ exits_list_under false d k es
exits_list true d k es ne = list_elsewhere true d k without_exits (map (exit_gone d) es) (ne refl) ∙ exits_list_under true d k es

nil_member : (xs : List ℕ) (x : ℕ) → xs ≡ [] → Member x xs → ⊥
unfolding Member
nil_member xs x e m = let P : List ℕ → Type 0 = λ l. Member x l in subst P e m

nil_apart : (xs : List ℕ) → xs ≡ [] → IsApart xs
unfolding IsApart
nil_apart xs e = let P : List ℕ → Type 0 = λ l. IsApart l in subst P (sym e) tt

exits_members : (d : ℕ) (es : List Entry) → IsOrdered es → (v : Bool) (p x : ℕ) → (v ≡ true → p ≡ d → ⊥) → Member x (list_in v es p) → is_exit_at d es x ≡ false
exits_members d es c v p x ne m = elim (cases_Bool (is_exit_at d es x)) [
  | inl g ↦
      let s : StandsIn es v p x = c.stands v p x m in
      let t : StandsIn es true d x = exit_stands d es x g in
      absurd (ne (sym s.kind ∙ t.kind) (cc (s.place, t.place)))
  | inr g ↦ g
]

exits_place : (d : ℕ) (es : List Entry) → IsOrdered es → (v : Bool) (p x : ℕ) → Member x (list_in v es p) → is_exit_at d es p ≡ false
exits_place d es c v p x m = elim (cases_Bool (is_exit_at d es p)) [ inl g ↦ absurd (in_exit es c x p (c.stands v p x m).place (exit_stands d es p g).kind) | inr g ↦ g ]

member_cond : (b : Bool) (x : ℕ) (xs : List ℕ) → Member x (cond b [] xs) → Member x xs
unfolding Member
member_cond true x xs m = elim m [ ]
member_cond false x xs m = m

pub fewer_exits : (es : List Entry) (d : ℕ) → IsOrdered es → IsFewer es (exits_gone d es) (is_exit_at d es)
fewer_exits es d c = record {
  same_length = length_exits_gone d es;
  kept = λ k g. exits_kept d k es g;
  left = λ k o g h. exits_left d k es o g h;
  within = λ k p h g. absurd (in_exit es c k p h (exit_stands d es p g).kind);
  members = λ v p x m. elim (same_place v true p d) [
    | inl e ↦
        let P : Bool → ℕ → Type 0 = λ w q. Member x (list_in w (exits_gone d es) q) in
        let A : Bool → Type 0 = λ w. P w p in
        let B : ℕ → Type 0 = λ q. P true q in
        absurd (nil_member (list_in true (exits_gone d es) d) x (exits_list_here d es) (subst B e.1 (subst A e.0 m)))
    | inr e ↦
        let L : List ℕ → Type 0 = λ l. Member x l in
        let was : Member x (list_in v es p) = member_cond (is_exit_at d es p) x (list_in v es p) (subst L (exits_list v d p es e) m) in
        (was, exits_members d es c v p x e was)
  ];
  stays = λ v p x m g.
      let s : StandsIn es v p x = c.stands v p x m in
      let other : v ≡ true → p ≡ d → ⊥ = λ a b. false≢true (sym g ∙ stands_exit d es x (record { place = s.place ∙ ap (λ z. Some z) b; kind = s.kind ∙ a })) in
      rw (exits_list v d p es other, exits_place d es c v p x m) m;
  once = λ v p. elim (same_place v true p d) [
    | inl e ↦ nil_apart (list_in v (exits_gone d es) p) (rw (e.0, e.1) (exits_list_here d es))
    | inr e ↦ rw (exits_list v d p es e) (once_by (is_exit_at d es p) (list_in v es p) (c.once v p))
  ];
  room = elim (cases_Bool (is_exit_at d es 0)) [ inl g ↦ absurd (cc (c.top, (exit_stands d es 0 g).place)) | inr g ↦ g ];
}
  where
    once_by : (b : Bool) (xs : List ℕ) → IsApart xs → IsApart (cond b [] xs)
    once_by true xs h = nil_apart [] refl
    once_by false xs h = h

unspoken_exits : (es : List Entry) (d : ℕ) → IsUnspoken es (is_exit_at d es)
unspoken_exits es d = record {
  player = λ n h. by_kind n (player_no_exit (kind_in es n) h);
  link = λ k n o e q h. by_kind n (linked_no_exit o.kind (kind_in es n) h);
  home = λ k n o e q h. by_kind n (home_no_exit o.kind (kind_in es n) h);
}
  where
    by_kind : (n : ℕ) → is_exit (kind_in es n) ≡ false → is_exit_at d es n ≡ false
    by_kind n h = elim (cases_Bool (is_exit_at d es n)) [ inl g ↦ absurd (false≢true (sym h ∙ (exit_stands d es n g).kind)) | inr g ↦ g ]

pub consistent_exits_gone : (es : List Entry) (d : ℕ) → IsConsistent es → IsConsistent (exits_gone d es)
consistent_exits_gone es d c = consistent_fewer es (exits_gone d es) (is_exit_at d es) (fewer_exits es d c.ordered) (unspoken_exits es d) c

-- d itself isn't an exit of d
not_own_exit : (es : List Entry) (d : ℕ) → IsOrdered es → is_exit_at d es d ≡ false
not_own_exit es d c = elim (cases_Bool (is_exit_at d es d)) [ inl g ↦ absurd (in_exit es c d d (exit_stands d es d g).place (exit_stands d es d g).kind) | inr g ↦ g ]

pub kind_exits_gone : (es : List Entry) (d : ℕ) → IsOrdered es → kind_in (exits_gone d es) d ≡ kind_in es d
kind_exits_gone es d c = kind_alike es (exits_gone d es) d (exits_kept d d es (not_own_exit es d c))

-- what d held is nowhere in it
pub empty_exits_gone : (es : List Entry) (d : ℕ) → list_in false es d ≡ [] → (v : Bool) → list_in v (exits_gone d es) d ≡ []
empty_exits_gone es d e true = exits_list_here d es
empty_exits_gone es d e false = exits_list false d d es (λ a b. false≢true a) ∙ by_cases (is_exit_at d es d)
  where
    by_cases : (b : Bool) → cond b [] (list_in false es d) ≡ []
    by_cases true = refl
    by_cases false = e

blank_untied : (d : ℕ) (o : Object) → o ≡ garbage → (o.home ≡ dbref_of d → ⊥) × (o.link ≡ dbref_of d → ⊥)
unfolding garbage
blank_untied d o e = ((λ h. not_nothing d (sym (ap (λ z. z.home) e) ∙ h)), (λ h. not_nothing d (sym (ap (λ z. z.link) e) ∙ h)))

pub untied_exits_gone : (es : List Entry) (d x : ℕ) → IsUntied d es → IsUntied d (exits_gone x es)
untied_exits_gone es d x u = record {
  home = λ k o h. elim (cases_Bool (is_exit_at x es k)) [ inl g ↦ (blank_untied d o (exits_left x k es o g h)).0 | inr g ↦ u.home k o (sym (exits_kept x k es g) ∙ h) ];
  link = λ k o h. elim (cases_Bool (is_exit_at x es k)) [ inl g ↦ (blank_untied d o (exits_left x k es o g h)).1 | inr g ↦ u.link k o (sym (exits_kept x k es g) ∙ h) ];
}

-- An object that holds nothing vanishes.

vanished_left : (es : List Entry) (d : ℕ) (o : Object) → object_in (vanished d es) d ≡ Some o → o ≡ garbage
unfolding vanished object_in gone_entry
vanished_left es d o h = by_cases (slice_get (map (left_out d) es) d) (sym (ap (λ z. option_map (λ (e : Entry). e.object) z) (get_changed_same (map (left_out d) es) d gone_entry)) ∙ h)
  where
    by_cases : (a : Option Entry) → option_map (λ (e : Entry). e.object) (option_map gone_entry a) ≡ Some o → o ≡ garbage
    by_cases None q = absurd (cc (q))
    by_cases (Some e) q = cc (q)

vanished_kept : (es : List Entry) (d k : ℕ) → (k ≡ d → ⊥) → object_in (vanished d es) k ≡ object_in es k
unfolding vanished
vanished_kept es d k ne = object_elsewhere d k gone_entry (map (left_out d) es) ne ∙ object_left d k es

vanished_list_here : (es : List Entry) (d : ℕ) (v : Bool) → list_in v (vanished d es) d ≡ []
unfolding vanished list_in gone_entry
vanished_list_here es d v = rw (get_changed_same (map (left_out d) es) d gone_entry) (by_cases v (slice_get (map (left_out d) es) d))
  where
    by_cases : (v : Bool) (a : Option Entry) → option_map_or (entry_list v) (option_map gone_entry a) [] ≡ []
    by_cases v None = refl
    by_cases true (Some e) = refl
    by_cases false (Some e) = refl

vanished_list : (es : List Entry) (d : ℕ) (v : Bool) (k : ℕ) → (k ≡ d → ⊥) → list_in v (vanished d es) k ≡ without_number d (list_in v es k)
unfolding vanished
vanished_list es d v k ne = list_elsewhere v d k gone_entry (map (left_out d) es) ne ∙ list_left v d k es

pub length_vanished : (es : List Entry) (d : ℕ) → length (vanished d es) ≡ length es
unfolding vanished
length_vanished es d = length_changed (map (left_out d) es) d gone_entry ∙ length_map (left_out d) es

pub fewer_vanished : (es : List Entry) (d : ℕ) → (d ≡ 0 → ⊥) → ((v : Bool) → list_in v es d ≡ []) → IsOrdered es → IsFewer es (vanished d es) (λ k. eqb k d)
fewer_vanished es d low empty c = record {
  same_length = length_vanished es d;
  kept = λ k g. vanished_kept es d k (eqb-false k d g);
  left = λ k o g h. vanished_left es d o (sym (ap (λ z. object_in (vanished d es) z) (eqb-true k d g)) ∙ h);
  within = λ k p h g.
      let at : place_in es k ≡ Some d = h ∙ ap (λ z. Some z) (eqb-true p d g) in
      absurd (nil_member (list_in (is_exit (kind_in es k)) es d) k (empty (is_exit (kind_in es k))) (c.listed (is_exit (kind_in es k)) d k (record { place = at; kind = refl })));
  members = λ v p x m. elim (cases_eq p d) [
    | inl e ↦ let B : ℕ → Type 0 = λ q. Member x (list_in v (vanished d es) q) in absurd (nil_member (list_in v (vanished d es) d) x (vanished_list_here es d v) (subst B e m))
    | inr e ↦
        let L : List ℕ → Type 0 = λ l. Member x l in
        let was : Member x (without_number d (list_in v es p)) = subst L (vanished_list es d v p e) m in
        let M : ℕ → Type 0 = λ z. Member z (without_number d (list_in v es p)) in
        (without_member d x (list_in v es p) was, ne_eqb x d (λ q. without_gone d (list_in v es p) (subst M q was)))
  ];
  stays = λ v p x m g. elim (cases_eq p d) [
    | inl e ↦ let B : ℕ → Type 0 = λ q. Member x (list_in v es q) in absurd (nil_member (list_in v es d) x (empty v) (subst B e m))
    | inr e ↦ rw (vanished_list es d v p e) (member_without d x (list_in v es p) (eqb-false x d g) m)
  ];
  once = λ v p. elim (cases_eq p d) [
    | inl e ↦ nil_apart (list_in v (vanished d es) p) (ap (λ z. list_in v (vanished d es) z) e ∙ vanished_list_here es d v)
    | inr e ↦ rw (vanished_list es d v p e) (apart_without d (list_in v es p) (c.once v p))
  ];
  room = ne_eqb 0 d (λ e. low (sym e));
}

unspoken_vanished : (es : List Entry) (d : ℕ) → is_player (kind_in es d) ≡ false → IsUntied d es → IsUnspoken es (λ k. eqb k d)
unspoken_vanished es d mortal u = record {
  player = λ n h. ne_eqb n d (λ e. false≢true (sym mortal ∙ ap (λ z. is_player (kind_in es z)) (sym e) ∙ h));
  link = λ k n o h e may. ne_eqb n d (λ q. u.link k o h (e ∙ ap (λ z. dbref_of z) q));
  home = λ k n o h e may. ne_eqb n d (λ q. u.home k o h (e ∙ ap (λ z. dbref_of z) q));
}

pub consistent_vanished : (es : List Entry) (d : ℕ) → (d ≡ 0 → ⊥) → is_player (kind_in es d) ≡ false → ((v : Bool) → list_in v es d ≡ []) → IsUntied d es → IsConsistent es → IsConsistent (vanished d es)
consistent_vanished es d low mortal empty u c = consistent_fewer es (vanished d es) (λ k. eqb k d) (fewer_vanished es d low empty c.ordered) (unspoken_vanished es d mortal u) c

-- The exits of an object go, and then it does: the marks aside.

pub length_taken : (es : List Entry) (d : ℕ) → length (taken_away d es) ≡ length es
unfolding taken_away
length_taken es d = length_relinked es (vanished d (exits_gone d es)) ∙ length_vanished (exits_gone d es) d ∙ length_exits_gone d es

pub object_taken : (es : List Entry) (d k : ℕ) → object_in (taken_away d es) k ≡ object_in (vanished d (exits_gone d es)) k
unfolding taken_away
object_taken es d k = object_relinked es (vanished d (exits_gone d es)) k

pub list_taken : (v : Bool) (es : List Entry) (d k : ℕ) → list_in v (taken_away d es) k ≡ list_in v (vanished d (exits_gone d es)) k
unfolding taken_away
list_taken v es d k = list_relinked v es (vanished d (exits_gone d es)) k

pub mark_taken : (es : List Entry) (d k : ℕ) → mark_in (taken_away d es) k ≡ mark_in (vanished d (exits_gone d es)) k
unfolding taken_away
mark_taken es d k = mark_relinked es (vanished d (exits_gone d es)) k

pub kind_taken : (es : List Entry) (d k : ℕ) → kind_in (taken_away d es) k ≡ kind_in (vanished d (exits_gone d es)) k
kind_taken es d k = kind_alike (vanished d (exits_gone d es)) (taken_away d es) k (object_taken es d k)

-- All steps.

-- what the steps before the last leave
pub record IsLoose (es : List Entry) (d : ℕ) : Type 0 where
  pub empty : (v : Bool) → list_in v es d ≡ []
  pub untied : IsUntied d es

loosened : (es : List Entry) (d : ℕ) → (d ≡ 0 → ⊥) → IsOrdered es → IsLoose (exits_gone d (sent_home (list_in false es d) (untied d es))) d
loosened es d low c =
    let sent : IsSent (sent_home (list_in false es d) (untied d es)) d = is_sent (untied d es) d (list_in false es d) (ordered_untied es d c) (is_untied es d low) low (list_untied false d d es) in
    record { empty = empty_exits_gone (sent_home (list_in false es d) (untied d es)) d sent.empty; untied = untied_exits_gone (sent_home (list_in false es d) (untied d es)) d d sent.untied }

consistent_emptied : (es : List Entry) (d : ℕ) → (d ≡ 0 → ⊥) → IsConsistent es → IsConsistent (sent_home (list_in false es d) (untied d es))
consistent_emptied es d low c = consistent_sent_home (untied d es) d (list_in false es d) (consistent_untied es d c) (is_untied es d low) low (list_untied false d d es)

-- marks change neither objects nor lists
pub consistent_relinked : (before es : List Entry) → IsConsistent es → IsConsistent (relinked before es)
consistent_relinked before es c = consistent_seen es (relinked before es) (length_relinked before es) (object_relinked before es) (λ v k. list_relinked v before es k) c

consistent_gone : (es : List Entry) (d : ℕ) → (d ≡ 0 → ⊥) → is_player (kind_in es d) ≡ false → IsConsistent es → IsConsistent (recycled d es)
unfolding recycled taken_away
consistent_gone es d low mortal c =
    let emptied : List Entry = sent_home (list_in false es d) (untied d es) in
    let before : IsConsistent emptied = consistent_emptied es d low c in
    let loose : IsLoose (exits_gone d emptied) d = loosened es d low c.ordered in
    consistent_relinked emptied (vanished d (exits_gone d emptied)) (consistent_vanished (exits_gone d emptied) d low
    (ap (λ z. is_player z) (kind_exits_gone emptied d before.ordered ∙ kind_sent_home (untied d es) (list_in false es d) d ∙ kind_untied d d es) ∙ mortal) loose.empty loose.untied
    (consistent_exits_gone emptied d before))

pub recycle_checked : (d : Dbref) (es : List Entry) (n : ℕ) → recycle_check d es ≡ Ok n → (n ≡ 0 → ⊥) × (is_player (kind_in es n) ≡ false)
unfolding recycle_check
recycle_checked d es n h =
    let p : Passed es (λ k. not (eqb k 0 || is_player (kind_in es k))) d n = checked_ok _ d es n h in
    let both : (eqb n 0 ≡ false) × (is_player (kind_in es n) ≡ false) = or_parts _ _ (not-true _ p.holds) in
    (eqb-false n 0 both.0, both.1)

pub consistent_recycled : (d : Dbref) (es : List Entry) (n : ℕ) → recycle_check d es ≡ Ok n → IsConsistent es → IsConsistent (recycled n es)
consistent_recycled d es n h c = let p : (n ≡ 0 → ⊥) × (is_player (kind_in es n) ≡ false) = recycle_checked d es n h in consistent_gone es n p.0 p.1 c
