-- Every setter keeps a world consistent.
use Rattle.std.proofs.Common.{◌≡◌, ℕ, ◌<◌, List, [], ◌∷◌, Option, Some, None, Result, Ok, inl, inr, refl, sym, ◌∙◌, ap, subst, length, Bool, true, false, cond, not, ◌&&◌, ◌||◌}
use Rattle.muck_laws.proofs.Truths.{seats_by}
use Rattle.muck_model.proofs.Dbrefs.{eq_same}
use Rattle.std.proofs.lemmas.Bool.{cases_eq, false≢true, and_parts}
use Rattle.std.specs.List.{list_any, slice_get}
use Rattle.std.specs.Option.{option_map}
use Rattle.muck_model.specs.declared.dbref.Dbref.{Dbref}
use Rattle.muck_model.specs.declared.dbref.Flags.{Flags}
use Rattle.muck_model.specs.declared.dbref.Kind.{Kind}
use Rattle.muck_model.specs.declared.dbref.Kind.TheVariants.{Thing, Player}
use Rattle.muck_prop.specs.declared.value.PropValue.{PropValue}
use Rattle.spec_live.specs.declared.object.Object.{Object}
use Rattle.spec_live.specs.declared.fault.DbFault.{DbFault}
use Rattle.spec_live.specs.Chain.{Member}
use Rattle.spec_live.specs.Flags.{has_flag, vehicle}
use Rattle.spec_live.specs.Objects.{Entry, dbref_of, nothing, home, same, entry_list, is_thing, is_exit, is_player, is_garbage, object_in, list_in, kind_in, flags_in, place_in, is_vehicle_in, fits_in, changed_at, on_object}
use Rattle.spec_live.specs.Setting.{checked, checked_both, every_number, set_at, with_name, owner_check, with_owner, may_link, has_link, link_check, with_link, may_live, home_check, with_home, holds_player, keeps_seats, flags_check, with_flags, level_check, with_level, lines_check, with_lines, lines_set, password_check, with_password, with_prop, without_prop}
use Rattle.spec_live.specs.Consistent.{HasLink, HasHome, IsOrdered, IsConsistent}
use Rattle.spec_live.proofs.Lists.{length_changed, get_changed_same}
use Rattle.spec_live.proofs.KindLaws.{stands_still, only_exit}
use Rattle.spec_live.proofs.Readers.{object_there, list_change, object_changed, object_unchanged, list_changed, object_elsewhere, kind_is, flags_is, kind_changed, flags_alike}
use Rattle.spec_live.proofs.Orders.{ordered_kept, ordered_same}
use Rattle.spec_live.proofs.Ties.{SameTies, owner_alike, link_alike, home_alike, consistent_kept, consistent_same, consistent_seen}
use Rattle.spec_live.proofs.Checks.{Passed, PassedBoth, checked_ok, both_ok}

-- Tests.

pub any_true : (test : ℕ → Bool) (d : ℕ) (xs : List ℕ) → Member d xs → test d ≡ true → list_any test xs ≡ true
unfolding Member
any_true test d [] m h = elim m [ ]
any_true test d (x ∷ xs) m h = elim m [
  | inl e ↦ rw (sym (ap test e) ∙ h) refl
  | inr q ↦ rw (any_true test d xs q h) (or_true (test x))
]
  where
    or_true : (b : Bool) → (b || true) ≡ true
    or_true true = refl
    or_true false = refl

-- What no tie speaks of.

pub consistent_checked : (test : ℕ → Bool) (d : Dbref) (es : List Entry) (n : ℕ) (f : Object → Object) → checked test d es ≡ Ok n → ((o : Object) → SameTies o (f o)) → ((o : Object) → (f o).place ≡ o.place) → ((o : Object) → (f o).flags ≡ o.flags)
    → IsConsistent es → IsConsistent (changed_at n (on_object f) es)
consistent_checked test d es n f h ties place flags c = consistent_same es n f ties place flags (checked_ok test d es n h).there.alive c

pub consistent_named : (d : Dbref) (name : List ℕ) (es : List Entry) (n : ℕ) → checked every_number d es ≡ Ok n → IsConsistent es → IsConsistent (set_at (with_name name) n es)
consistent_named d name es n h c = consistent_checked every_number d es n (with_name name) h (λ o. record { kind = refl; owner = refl; link = refl; home = refl }) (λ o. refl) (λ o. refl) c

pub consistent_stored : (d : Dbref) (path : List (List ℕ)) (value : PropValue) (es : List Entry) (n : ℕ) → checked every_number d es ≡ Ok n → IsConsistent es → IsConsistent (set_at (with_prop path value) n es)
consistent_stored d path value es n h c = consistent_checked every_number d es n (with_prop path value) h (λ o. record { kind = refl; owner = refl; link = refl; home = refl }) (λ o. refl) (λ o. refl) c

pub consistent_removed : (d : Dbref) (path : List (List ℕ)) (es : List Entry) (n : ℕ) → checked every_number d es ≡ Ok n → IsConsistent es → IsConsistent (set_at (without_prop path) n es)
consistent_removed d path es n h c = consistent_checked every_number d es n (without_prop path) h (λ o. record { kind = refl; owner = refl; link = refl; home = refl }) (λ o. refl) (λ o. refl) c

pub consistent_leveled : (d : Dbref) (level : ℕ) (es : List Entry) (n : ℕ) → level_check d level es ≡ Ok n → IsConsistent es → IsConsistent (set_at (with_level level) n es)
unfolding level_check
consistent_leveled d level es n h c = consistent_checked _ d es n (with_level level) h (λ o. record { kind = refl; owner = refl; link = refl; home = refl }) (λ o. refl) (λ o. refl) c

pub consistent_password : (d : Dbref) (salt : ℕ) (word : List ℕ) (es : List Entry) (n : ℕ) → password_check d es ≡ Ok n → IsConsistent es → IsConsistent (set_at (with_password salt word) n es)
unfolding password_check
consistent_password d salt word es n h c = consistent_checked _ d es n (with_password salt word) h (λ o. record { kind = refl; owner = refl; link = refl; home = refl }) (λ o. refl) (λ o. refl) c

-- The source, with its mark.

source : List (List ℕ) → Object → Object
source lines o = record o { lines = lines }

lined_list : (v : Bool) (lines : List (List ℕ)) (e : Entry) → entry_list v (with_lines lines e) ≡ entry_list v e
lined_list true lines e = refl
lined_list false lines e = refl

lined_object : (es : List Entry) (n : ℕ) (lines : List (List ℕ)) (k : ℕ) → object_in (changed_at n (with_lines lines) es) k ≡ object_in (changed_at n (on_object (source lines)) es) k
unfolding object_in source
lined_object es n lines k = elim (cases_eq k n) [
  | inl q ↦ rw (q, get_changed_same es n (with_lines lines), get_changed_same es n (on_object (source lines))) (by_cases (slice_get es n))
  | inr q ↦ object_elsewhere n k (with_lines lines) es q ∙ sym (object_unchanged n k (source lines) es q)
]
  where
    by_cases : (o : Option Entry) → option_map (λ (e : Entry). e.object) (option_map (with_lines lines) o) ≡ option_map (λ (e : Entry). e.object) (option_map (on_object (source lines)) o)
    by_cases None = refl
    by_cases (Some e) = refl

pub consistent_lined : (d : Dbref) (lines : List (List ℕ)) (es : List Entry) (n : ℕ) → lines_check d es ≡ Ok n → IsConsistent es → IsConsistent (lines_set lines n es)
unfolding lines_check source
consistent_lined d lines es n h c =
    let mid : IsConsistent (changed_at n (on_object (source lines)) es) = consistent_checked _ d es n (source lines) h (λ o. record { kind = refl; owner = refl; link = refl; home = refl }) (λ o. refl) (λ o. refl) c in
    consistent_seen (changed_at n (on_object (source lines)) es) (changed_at n (with_lines lines) es) (length_changed es n (with_lines lines) ∙ sym (length_changed es n (on_object (source lines)))) (lined_object es n lines)
    (λ v k. list_change v n k (with_lines lines) es (lined_list v lines) ∙ sym (list_changed v n k (source lines) es)) mid

-- The owner.

pub consistent_owned : (d owner : Dbref) (es : List Entry) (n : ℕ) → owner_check d owner es ≡ Ok n → IsConsistent es → IsConsistent (set_at (with_owner owner) n es)
unfolding owner_check
consistent_owned d owner es n h c =
    let p : (t : ℕ) × PassedBoth es (λ n t. not (is_player (kind_in es n)) && is_player (kind_in es t)) d owner n t = both_ok _ d owner es n h in
    let player : is_player (kind_in es p.0) ≡ true = (and_parts (not (is_player (kind_in es n))) (is_player (kind_in es p.0)) p.1.holds).1 in
    consistent_kept es n (with_owner owner) (λ o. refl) (λ o. refl) p.1.there.alive (ordered_same es n (with_owner owner) (λ o. refl) (λ o. refl) (λ o. refl) c.ordered)
    (λ o e t. record {
      owner = (p.0, p.1.other.is, player);
      link = link_alike es es o (with_owner owner o) refl refl (λ m q k. k) t.link;
      home = home_alike es es o (with_owner owner o) refl refl (λ m q k. k) t.home;
    }) c

-- The link.

relinked : (es : List Entry) (n : ℕ) (to : Dbref) → is_garbage (kind_in es n) ≡ false → ((o : Object) → object_in es n ≡ Some o → HasLink es (with_link to o)) → IsConsistent es → IsConsistent (set_at (with_link to) n es)
relinked es n to alive link c =
    consistent_kept es n (with_link to) (λ o. refl) (λ o. refl) alive (ordered_same es n (with_link to) (λ o. refl) (λ o. refl) (λ o. refl) c.ordered)
    (λ o e t. record {
      owner = owner_alike es es o (with_link to o) refl (λ m q k. k) t.owner;
      link = link o e;
      home = home_alike es es o (with_link to o) refl refl (λ m q k. k) t.home;
    }) c

link_by : (d to : Dbref) (es : List Entry) (n : ℕ) (a b : Bool) → same to nothing ≡ a → same to home ≡ b
    → ◌≡◌ {A = Result ℕ DbFault} (cond a (checked (λ n. has_link (kind_in es n)) d es) (cond b (checked (λ n. is_exit (kind_in es n)) d es) (checked_both (λ n t. may_link (kind_in es n) (kind_in es t)) d to es))) (Ok n)
    → IsConsistent es → IsConsistent (set_at (with_link to) n es)
link_by d to es n true b e f h c = relinked es n to (checked_ok _ d es n h).there.alive (λ o q. inl (eq_same to nothing e)) c
link_by d to es n false true e f h c =
    let p : Passed es (λ n. is_exit (kind_in es n)) d n = checked_ok _ d es n h in
    relinked es n to p.there.alive (λ o q. inr (inl (sym (kind_is es n o q) ∙ only_exit (kind_in es n) p.holds, eq_same to home f))) c
link_by d to es n false false e f h c =
    let p : (t : ℕ) × PassedBoth es (λ n t. may_link (kind_in es n) (kind_in es t)) d to n t = both_ok _ d to es n h in
    relinked es n to p.1.there.alive (λ o q. inr (inr (p.0, p.1.other.is, ap (λ z. may_link z (kind_in es p.0)) (sym (kind_is es n o q)) ∙ p.1.holds))) c

pub consistent_linked : (d to : Dbref) (es : List Entry) (n : ℕ) → link_check d to es ≡ Ok n → IsConsistent es → IsConsistent (set_at (with_link to) n es)
unfolding link_check
consistent_linked d to es n h c = link_by d to es n (same to nothing) (same to home) refl refl h c

-- The home.

home_set : (es : List Entry) (o : Object) (k : Kind) (t : ℕ) → o.home ≡ dbref_of t → may_live k (kind_in es t) ≡ true → HasHome es (record o { kind = k })
home_set es o Thing t e h = (t, e, h)
home_set es o Player t e h = (t, e, h)
home_set es o k t e h = absurd (false≢true h)

pub consistent_homed : (d to : Dbref) (es : List Entry) (n : ℕ) → home_check d to es ≡ Ok n → IsConsistent es → IsConsistent (set_at (with_home to) n es)
unfolding home_check
consistent_homed d to es n h c =
    let p : (t : ℕ) × PassedBoth es (λ n t. may_live (kind_in es n) (kind_in es t)) d to n t = both_ok _ d to es n h in
    consistent_kept es n (with_home to) (λ o. refl) (λ o. refl) p.1.there.alive (ordered_same es n (with_home to) (λ o. refl) (λ o. refl) (λ o. refl) c.ordered)
    (λ o e t. record {
      owner = owner_alike es es o (with_home to o) refl (λ m q k. k) t.owner;
      link = link_alike es es o (with_home to o) refl refl (λ m q k. k) t.link;
      home = home_set es (with_home to o) o.kind p.0 p.1.other.is (ap (λ z. may_live z (kind_in es p.0)) (sym (kind_is es n o e)) ∙ p.1.holds);
    }) c

-- The flags: players keep their seats.

seats_kept : (es : List Entry) (flags : Flags) (n x : ℕ) → keeps_seats es flags n ≡ true → IsOrdered es → place_in es x ≡ Some n → kind_in es x ≡ Player → kind_in es n ≡ Thing → is_vehicle_in es n ≡ true → has_flag vehicle flags ≡ true
unfolding keeps_seats holds_player
seats_kept es flags n x h c place player thing seats =
    seats_by (is_thing (kind_in es n)) (is_vehicle_in es n) (has_flag vehicle flags) (list_any (λ x. is_player (kind_in es x)) (list_in false es n)) h (ap (λ z. is_thing z) thing) seats
    (any_true (λ x. is_player (kind_in es x)) x (list_in false es n) (c.listed false n x (record { place = place; kind = ap (λ z. is_exit z) player })) (ap (λ z. is_player z) player))

flagged_fits : (es : List Entry) (flags : Flags) (n x p : ℕ) → n < length es → keeps_seats es flags n ≡ true → IsOrdered es → place_in es x ≡ Some p → fits_in (changed_at n (on_object (with_flags flags)) es) x p ≡ true
unfolding fits_in is_vehicle_in
flagged_fits es flags n x p lt h c place =
    let new : List Entry = changed_at n (on_object (with_flags flags)) es in
    let kinds : (k : ℕ) → kind_in new k ≡ kind_in es k = λ k. kind_changed n k (with_flags flags) es (λ o. refl) in
    rw (kinds x, kinds p) (stands_still (kind_in es x) (kind_in es p) (has_flag vehicle (flags_in es p)) (has_flag vehicle (flags_in new p))
    (λ player thing seats. elim (cases_eq p n) [
      | inl e ↦
          let was : (o : Object) × (object_in es n ≡ Some o) = object_there es n lt in
          let flags_are : flags_in new n ≡ flags = flags_is new n (with_flags flags was.0) (object_changed n (with_flags flags) es ∙ ap (λ z. option_map (with_flags flags) z) was.1) in
          let P : ℕ → Type 0 = λ z. place_in es x ≡ Some z in
          ap (λ z. has_flag vehicle (flags_in new z)) e ∙ ap (λ z. has_flag vehicle z) flags_are
          ∙ seats_kept es flags n x h c (subst P e place) player (sym (ap (λ z. kind_in es z) e) ∙ thing) (sym (ap (λ z. has_flag vehicle (flags_in es z)) e) ∙ seats)
      | inr e ↦ ap (λ z. has_flag vehicle z) (flags_alike es new p (object_unchanged n p (with_flags flags) es e)) ∙ seats
    ]) (c.kinds x p place))

pub consistent_flagged : (d : Dbref) (flags : Flags) (es : List Entry) (n : ℕ) → flags_check d flags es ≡ Ok n → IsConsistent es → IsConsistent (set_at (with_flags flags) n es)
unfolding flags_check
consistent_flagged d flags es n h c =
    let p : Passed es (keeps_seats es flags) d n = checked_ok (keeps_seats es flags) d es n h in
    consistent_kept es n (with_flags flags) (λ o. refl) (λ o. refl) p.there.alive
    (ordered_kept es n (with_flags flags) (λ o. refl) (λ o. refl) (λ x q place. flagged_fits es flags n x q p.there.known p.holds c.ordered place) c.ordered)
    (λ o e t. record {
      owner = owner_alike es es o (with_flags flags o) refl (λ m q k. k) t.owner;
      link = link_alike es es o (with_flags flags o) refl refl (λ m q k. k) t.link;
      home = home_alike es es o (with_flags flags o) refl refl (λ m q k. k) t.home;
    }) c
