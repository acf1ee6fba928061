-- Every change keeps a world within its limits.
use Rattle.std.proofs.Common.{Bor, ◌≡◌, ℕ, ◌<◌, ◌≤◌, ◌^◌, zero, suc, List, [], ◌∷◌, ◌++◌, Option, Some, None, Ok, inl, inr, refl, sym, ◌∙◌, ap, subst, length, arith, Bool, true, false, ◌&&◌, ◌||◌, cond, map}
use Rattle.muck_laws.proofs.Texts.{length-bytes_high}
use Rattle.muck_model.specs.Bytes.{lines_most}
use Rattle.std.specs.Prelude.{nat_lt}
use Rattle.std.proofs.lemmas.Bool.{and_parts, cases_eq}
use Rattle.std.proofs.lemmas.Bool.Decides.{nat_tests}
use Rattle.std.proofs.lemmas.Option.{slice_get-map, option_and_then_some}
use Rattle.std.specs.List.{slice_get}
use Rattle.std.specs.Option.{option_map, option_map_or, option_copied, IfSome}
use Rattle.muck_model.specs.declared.dbref.Dbref.{Dbref}
use Rattle.muck_model.specs.declared.dbref.Flags.{Flags}
use Rattle.muck_model.specs.declared.dbref.Kind.{Kind}
use Rattle.muck_prop.specs.declared.value.PropValue.{PropValue}
use Rattle.spec_live.specs.declared.object.Object.{Object}
use Rattle.spec_live.specs.declared.mark.Mark.{Mark}
use Rattle.spec_live.specs.declared.saving.Saving.{Saving}
use Rattle.spec_live.specs.Objects.{Entry, changed_at, on_object, with_object, garbage, object_in, object_at, number_in, kind_in, is_exit, is_program, is_player}
use Rattle.spec_live.specs.Moving.{left_out, put_first, with_place, set_down, moved}
use Rattle.spec_live.specs.Making.{blank_entry, objects_grown, new_object, created}
use Rattle.spec_live.specs.Marks.{entry_unmarked, marked_from, change_told}
use Rattle.spec_live.specs.Password.{salt_bytes, first_salt, first_password}
use Rattle.spec_live.specs.Stood.{still, stilled}
use Rattle.spec_live.specs.Recycling.{without_ties, untie, untied, way_home, sent_home, gone_entry, is_exit_of, exit_gone, without_exits, exits_gone, vanished, taken_away, recycled}
use Rattle.spec_live.specs.Saving.{relinked, all_saving}
use Rattle.spec_live.specs.Setting.{set_at, with_name, with_owner, with_link, with_home, with_flags, level_check, with_level, with_lines, lines_set, with_password, with_prop, without_prop}
use Rattle.spec_live.specs.Start.{first_digest, room_zero, player_one, first_objects}
use Rattle.spec_live.proofs.Lists.{get_changed_same}
use Rattle.spec_live.proofs.Readers.{object_elsewhere}
use Rattle.spec_live.proofs.Savings.{object_relinked, object_resaved}
use Rattle.spec_live.proofs.Checks.{checked_ok}
use Rattle.spec_live.proofs.CreationLaws.{object_more, object_last, grown_same, grown_more}
use Rattle.muck_db.specs.inner.Limits.{IsDigest, FitsLimits, IsWithinLimits}
use Rattle.muck_db.proofs.Digests.{bytes_high, is_digest}

-- Objects.

-- what the limits speak of is the same
record SameLimits (o p : Object) : Type 0 where
  name : p.name ≡ o.name
  level : p.level ≡ o.level
  flags : p.flags ≡ o.flags
  lines : p.lines ≡ o.lines
  digest : p.digest ≡ o.digest

fits_same : (o p : Object) → SameLimits o p → FitsLimits o → FitsLimits p
fits_same o p s h = record {
  named = rw s.name h.named;
  short = rw s.name h.short;
  level = rw s.level h.level;
  flags = rw s.flags h.flags;
  lines = rw s.lines h.lines;
  digest = subst IsDigest (sym s.digest) h.digest;
}

garbage_fits : FitsLimits garbage
unfolding garbage
garbage_fits = record { named = omega arith; short = omega arith; level = omega arith; flags = omega arith; lines = omega arith; digest = inl refl }

-- Entries.

by_entry : (q : Option Entry) (f : Entry → Entry) → ((e : Entry) → FitsLimits e.object → FitsLimits (f e).object) → ((p : Object) → option_map (λ e. e.object) q ≡ Some p → FitsLimits p)
    → (o : Object) → option_map (λ e. e.object) (option_map f q) ≡ Some o → FitsLimits o
by_entry None f keeps h o e = absurd (cc e)
by_entry (Some x) f keeps h o e = let same : (f x).object ≡ o = cc e in subst FitsLimits same (keeps x (h x.object refl))

limits_map : (f : Entry → Entry) (es : List Entry) → ((e : Entry) → FitsLimits e.object → FitsLimits (f e).object) → IsWithinLimits es → IsWithinLimits (map f es)
unfolding object_in
limits_map f es keeps h k o e = by_entry (slice_get es k) f keeps (h k) o (ap (λ (q : Option Entry). option_map (λ x. x.object) q) (sym (slice_get-map f es k)) ∙ e)

limits_at : (n : ℕ) (f : Entry → Entry) (es : List Entry) → ((e : Entry) → FitsLimits e.object → FitsLimits (f e).object) → IsWithinLimits es → IsWithinLimits (changed_at n f es)
unfolding object_in
limits_at n f es keeps h k o e = elim (cases_eq k n) [
  | inl same ↦ by_entry (slice_get es n) f keeps (h n) o (ap (λ (q : Option Entry). option_map (λ x. x.object) q) (sym (get_changed_same es n f)) ∙ ap (λ z. option_map (λ x. x.object) (slice_get (changed_at n f es) z)) (sym same) ∙ e)
  | inr other ↦ h k o (sym (object_elsewhere n k f es other) ∙ e)
]

limits_more : (es : List Entry) → IsWithinLimits es → IsWithinLimits (es ++ blank_entry ∷ [])
limits_more es h k o e = elim (cases_eq k (length es)) [
  | inl last ↦ let same : garbage ≡ o = cc (object_last es, ap (λ z. object_in (es ++ blank_entry ∷ []) z) last, e) in subst FitsLimits same garbage_fits
  | inr other ↦ h k o (sym (object_more es k other) ∙ e)
]

-- what is found
pub fits_found : (r : Option (Bor Object)) (d : Dbref) (es : List Entry) → IsWithinLimits es → option_copied r ≡ object_at d es → IfSome r (λ o. FitsLimits o.now)
unfolding object_at
fits_found None d es h e = tt
fits_found (Some o) d es h e = option_and_then_some (object_in es) (number_in es d) o.now (sym e) (λ n there at. h n o.now at)

-- Setters.

pub limits_set : (f : Object → Object) (n : ℕ) (es : List Entry) → ((o : Object) → FitsLimits o → FitsLimits (f o)) → IsWithinLimits es → IsWithinLimits (set_at f n es)
limits_set f n es keeps h = limits_at n (on_object f) es (λ e. keeps e.object) h

-- a setter of what no limit speaks of
limits_alike : (f : Object → Object) (n : ℕ) (es : List Entry) → ((o : Object) → SameLimits o (f o)) → IsWithinLimits es → IsWithinLimits (set_at f n es)
limits_alike f n es alike h = limits_set f n es (λ o. fits_same o (f o) (alike o)) h

pub limits_named : (name : List ℕ) (n : ℕ) (es : List Entry) → 1 ≤ length name → length name ≤ 80 → IsWithinLimits es → IsWithinLimits (set_at (with_name name) n es)
limits_named name n es some short h = limits_set (with_name name) n es (λ o l. record { named = some; short = short; level = l.level; flags = l.flags; lines = l.lines; digest = l.digest }) h

pub limits_owned : (owner : Dbref) (n : ℕ) (es : List Entry) → IsWithinLimits es → IsWithinLimits (set_at (with_owner owner) n es)
limits_owned owner n es h = limits_alike (with_owner owner) n es (λ o. record { name = refl; level = refl; flags = refl; lines = refl; digest = refl }) h

pub limits_linked : (to : Dbref) (n : ℕ) (es : List Entry) → IsWithinLimits es → IsWithinLimits (set_at (with_link to) n es)
limits_linked to n es h = limits_alike (with_link to) n es (λ o. record { name = refl; level = refl; flags = refl; lines = refl; digest = refl }) h

pub limits_homed : (to : Dbref) (n : ℕ) (es : List Entry) → IsWithinLimits es → IsWithinLimits (set_at (with_home to) n es)
limits_homed to n es h = limits_alike (with_home to) n es (λ o. record { name = refl; level = refl; flags = refl; lines = refl; digest = refl }) h

pub limits_flagged : (flags : Flags) (n : ℕ) (es : List Entry) → flags.0 < 2 ^ 14 → IsWithinLimits es → IsWithinLimits (set_at (with_flags flags) n es)
limits_flagged flags n es lt h = limits_set (with_flags flags) n es (λ o l. record { named = l.named; short = l.short; level = l.level; flags = lt; lines = l.lines; digest = l.digest }) h

level_checked : (d : Dbref) (level : ℕ) (es : List Entry) (n : ℕ) → level_check d level es ≡ Ok n → level ≤ 3
unfolding level_check
level_checked d level es n passed =
    let test : ((is_program (kind_in es n) || is_player (kind_in es n)) && nat_lt level 4) ≡ true = (checked_ok _ d es n passed).holds in
    let low : nat_lt level 4 ≡ true = (and_parts (is_program (kind_in es n) || is_player (kind_in es n)) (nat_lt level 4) test).1 in
    grind (arith, nat_tests)

pub limits_leveled : (d : Dbref) (level : ℕ) (es : List Entry) (n : ℕ) → level_check d level es ≡ Ok n → IsWithinLimits es → IsWithinLimits (set_at (with_level level) n es)
limits_leveled d level es n passed h =
    limits_set (with_level level) n es (λ o l. record { named = l.named; short = l.short; level = level_checked d level es n passed; flags = l.flags; lines = l.lines; digest = l.digest }) h

pub limits_lined : (lines : List (List ℕ)) (n : ℕ) (es : List Entry) → length lines ≤ lines_most → IsWithinLimits es → IsWithinLimits (lines_set lines n es)
limits_lined lines n es few h =
    limits_at n (with_lines lines) es (λ e l. record { named = l.named; short = l.short; level = l.level; flags = l.flags; lines = few; digest = l.digest }) h

pub limits_stored : (path : List (List ℕ)) (value : PropValue) (n : ℕ) (es : List Entry) → IsWithinLimits es → IsWithinLimits (set_at (with_prop path value) n es)
limits_stored path value n es h = limits_alike (with_prop path value) n es (λ o. record { name = refl; level = refl; flags = refl; lines = refl; digest = refl }) h

pub limits_removed : (path : List (List ℕ)) (n : ℕ) (es : List Entry) → IsWithinLimits es → IsWithinLimits (set_at (without_prop path) n es)
limits_removed path n es h = limits_alike (without_prop path) n es (λ o. record { name = refl; level = refl; flags = refl; lines = refl; digest = refl }) h

pub limits_password : (salt : ℕ) (word : List ℕ) (n : ℕ) (es : List Entry) → IsWithinLimits es → IsWithinLimits (set_at (with_password salt word) n es)
limits_password salt word n es h =
    limits_set (with_password salt word) n es (λ o l. record { named = l.named; short = l.short; level = l.level; flags = l.flags; lines = l.lines; digest = is_digest (salt_bytes salt) word (bytes_high 8 salt) (length-bytes_high 8 salt) }) h

-- Moves.

put_fits : (exits : Bool) (d : ℕ) (e : Entry) → FitsLimits e.object → FitsLimits (put_first exits d e).object
put_fits true d e h = h
put_fits false d e h = h

-- marks have no limit
limits_relinked : (before es : List Entry) → IsWithinLimits es → IsWithinLimits (relinked before es)
limits_relinked before es h k o e = h k o (sym (object_relinked before es k) ∙ e)

pub limits_resaved : (f : Saving → Saving) (es : List Entry) → IsWithinLimits es → IsWithinLimits (all_saving f es)
limits_resaved f es h k o e = h k o (sym (object_resaved f k es) ∙ e)

limits_down : (d to : ℕ) (es : List Entry) → IsWithinLimits es → IsWithinLimits (set_down d to es)
unfolding set_down
limits_down d to es h =
    let left : IsWithinLimits (map (left_out d) es) = limits_map (left_out d) es (λ e l. l) h in
    let put : IsWithinLimits (changed_at to (put_first (is_exit (kind_in es d)) d) (map (left_out d) es)) = limits_at to (put_first (is_exit (kind_in es d)) d) (map (left_out d) es) (put_fits (is_exit (kind_in es d)) d) left in
    limits_alike (with_place to) d _ (λ o. record { name = refl; level = refl; flags = refl; lines = refl; digest = refl }) put

pub limits_moved : (d to : ℕ) (es : List Entry) → IsWithinLimits es → IsWithinLimits (moved d to es)
unfolding moved
limits_moved d to es h = limits_relinked es (set_down d to es) (limits_down d to es h)

-- Creation.

limits_grown : (n : ℕ) (es : List Entry) → IsWithinLimits es → IsWithinLimits (objects_grown n es)
limits_grown n es h = elim (cases_eq n (length es)) [
  | inl next ↦ subst IsWithinLimits (sym (grown_more n es next)) (limits_more es h)
  | inr there ↦ subst IsWithinLimits (sym (grown_same n es there)) h
]

new_fits : (n : ℕ) (kind : Kind) (name : List ℕ) (owner : Dbref) → 1 ≤ length name → length name ≤ 80 → FitsLimits (new_object n kind name owner)
unfolding new_object
new_fits n kind name owner some short = record { named = some; short = short; level = omega arith; flags = omega arith; lines = omega arith; digest = inl refl }

pub limits_created : (n : ℕ) (kind : Kind) (name : List ℕ) (owner : Dbref) (to : ℕ) (es : List Entry) → 1 ≤ length name → length name ≤ 80 → IsWithinLimits es → IsWithinLimits (created n kind name owner to es)
unfolding created
limits_created n kind name owner to es some short h =
    let o : Object = new_object n kind name owner in
    limits_moved n to (changed_at n (with_object o) (objects_grown n es)) (limits_at n (with_object o) (objects_grown n es) (λ e l. new_fits n kind name owner some short) (limits_grown n es h))

-- Recycling.

limits_untied : (d : ℕ) (es : List Entry) → IsWithinLimits es → IsWithinLimits (untied d es)
unfolding untied
limits_untied d es h = limits_map (untie d) es (λ e. fits_same e.object (without_ties d e.object) (record { name = refl; level = refl; flags = refl; lines = refl; digest = refl })) h

pub limits_stilled : (es : List Entry) → IsWithinLimits es → IsWithinLimits (stilled es)
unfolding stilled
limits_stilled es h = limits_map still es (λ e l. l) h

limits_sent_home : (xs : List ℕ) (es : List Entry) → IsWithinLimits es → IsWithinLimits (sent_home xs es)
unfolding sent_home
limits_sent_home [] es h = h
limits_sent_home (x ∷ xs) es h = limits_sent_home xs (moved x (way_home x es) es) (limits_moved x (way_home x es) es h)

gone_fits : (e : Entry) → FitsLimits (gone_entry e).object
unfolding gone_entry
gone_fits e = garbage_fits

exit_fits : (d : ℕ) (e : Entry) → FitsLimits e.object → FitsLimits (exit_gone d e).object
exit_fits d e h = by_cases (is_exit_of d e.object)
  where
    by_cases : (b : Bool) → FitsLimits (cond b (gone_entry e) e).object
    by_cases true = gone_fits e
    by_cases false = h

limits_exits_gone : (d : ℕ) (es : List Entry) → IsWithinLimits es → IsWithinLimits (exits_gone d es)
unfolding exits_gone
limits_exits_gone d es h = limits_at d without_exits (map (exit_gone d) es) (λ e l. l) (limits_map (exit_gone d) es (exit_fits d) h)

limits_vanished : (d : ℕ) (es : List Entry) → IsWithinLimits es → IsWithinLimits (vanished d es)
unfolding vanished
limits_vanished d es h = limits_at d gone_entry (map (left_out d) es) (λ e l. gone_fits e) (limits_map (left_out d) es (λ e l. l) h)

pub limits_recycled : (d : ℕ) (es : List Entry) → IsWithinLimits es → IsWithinLimits (recycled d es)
unfolding recycled taken_away
limits_recycled d es h = limits_relinked _ _ (limits_vanished d _ (limits_exits_gone d _ (limits_sent_home _ (untied d es) (limits_untied d es h))))

-- Telling, and the start.

pub limits_told : (es : List Entry) → IsWithinLimits es → IsWithinLimits (change_told es)
unfolding change_told
limits_told es h = by_cases (marked_from 0 es)
  where
    by_cases : (o : Option (ℕ × Mark)) → IsWithinLimits (option_map_or (λ p. changed_at p.0 entry_unmarked es) o es)
    by_cases None = h
    by_cases (Some p) = limits_at p.0 entry_unmarked es (λ e l. l) h

zero_fits : FitsLimits room_zero
unfolding room_zero
zero_fits = record { named = omega arith; short = omega arith; level = omega arith; flags = omega arith; lines = omega arith; digest = inl refl }

one_fits : FitsLimits player_one
unfolding player_one first_digest
one_fits = record { named = omega arith; short = omega arith; level = omega arith; flags = omega arith; lines = omega arith; digest = is_digest first_salt first_password (bytes_high 8 0) refl }

pub limits_first : IsWithinLimits first_objects
unfolding first_objects object_in
limits_first zero o e = let same : room_zero ≡ o = cc e in subst FitsLimits same zero_fits
limits_first (suc zero) o e = let same : player_one ≡ o = cc e in subst FitsLimits same one_fits
limits_first (suc (suc k)) o e = absurd (cc e)
