-- Which objects are due for the next dump after a change.
use Rattle.std.proofs.Common.{◌≡◌, ℕ, ◌≤◌, List, [], ◌∷◌, ◌++◌, Option, Some, None, inl, inr, refl, ◌∙◌, ap, length, Bool, true, false, cond, eqb, ◌&&◌, ◌||◌, map}
use Rattle.std.proofs.lemmas.Bool.{cases_eq, eqb-true, eq-eqb, ne_eqb, false≢true}
use Rattle.std.proofs.lemmas.Option.{slice_get-map, slice_get_past}
use Rattle.std.specs.List.{slice_get}
use Rattle.std.specs.Option.{option_map, option_and_then, option_map_or}
use Rattle.muck_laws.proofs.Places.{read_mapped, read_more}
use Rattle.spec_live.specs.declared.object.Object.{Object}
use Rattle.spec_live.specs.declared.saving.Saving.{Saving}
use Rattle.spec_live.specs.declared.saving.Saving.TheVariants.{Due}
use Rattle.spec_live.specs.Chain.{follower}
use Rattle.spec_live.specs.Objects.{Entry, is_exit, object_in, list_in, kind_in, place_in, changed_at, on_object}
use Rattle.spec_live.specs.Making.{blank_entry}
use Rattle.spec_live.specs.Moving.{left_out, put_first, with_place, set_down}
use Rattle.spec_live.specs.Recycling.{gone_entry, is_exit_of, exit_gone, without_exits, exits_gone, vanished}
use Rattle.spec_live.specs.Saving.{Links, saving_in, links_in, next_in, first_of_list, is_number, same_links, relinked, all_saving}
use Rattle.spec_live.proofs.Lists.{get_changed_same, get_changed_other}
use Rattle.spec_live.proofs.Savings.{object_relinked, list_relinked, saving_relinked, object_resaved, list_resaved}
use Rattle.spec_live.proofs.Readers.{entry_change, kind_alike, place_alike}
use Rattle.spec_live.proofs.RecyclingLaws.{is_exit_at}

abbrev pub saving_seen : Option Entry → Saving
saving_seen o = option_map_or (λ (e : Entry). e.saving) o Due

pub saving_past : (es : List Entry) (k : ℕ) → length es ≤ k → saving_in es k ≡ Due
unfolding saving_in
saving_past es k le = rw (slice_get_past es k le) refl

-- A change at one place.

pub saving_elsewhere : (n k : ℕ) (f : Entry → Entry) (es : List Entry) → (k ≡ n → ⊥) → saving_in (changed_at n f es) k ≡ saving_in es k
unfolding saving_in
saving_elsewhere n k f es ne = rw (get_changed_other es n k f ne) refl

-- that makes it due
pub saving_here : (n : ℕ) (f : Entry → Entry) (es : List Entry) → ((e : Entry) → (f e).saving ≡ Due) → saving_in (changed_at n f es) n ≡ Due
unfolding saving_in
saving_here n f es h = rw (get_changed_same es n f) (by_cases (slice_get es n))
  where
    by_cases : (o : Option Entry) → saving_seen (option_map f o) ≡ Due
    by_cases None = refl
    by_cases (Some e) = h e

-- that leaves the mark as it is
pub saving_kept : (n k : ℕ) (f : Entry → Entry) (es : List Entry) → ((e : Entry) → (f e).saving ≡ e.saving) → saving_in (changed_at n f es) k ≡ saving_in es k
unfolding saving_in
saving_kept n k f es h = entry_change saving_seen n k f es h

-- seen at any number
pub saving_changed : (n k : ℕ) (f : Entry → Entry) (es : List Entry) → ((e : Entry) → (f e).saving ≡ Due) → saving_in (changed_at n f es) k ≡ cond (eqb k n) Due (saving_in es k)
saving_changed n k f es h = elim (cases_eq k n) [
  | inl q ↦ rw (eq-eqb k n q) (ap (λ z. saving_in (changed_at n f es) z) q ∙ saving_here n f es h)
  | inr q ↦ rw (ne_eqb k n q) (saving_elsewhere n k f es q)
]

-- one more number
pub saving_more : (es : List Entry) (k : ℕ) → saving_in (es ++ blank_entry ∷ []) k ≡ saving_in es k
unfolding saving_in blank_entry
saving_more es k = read_more saving_seen es blank_entry k refl

-- A change of all.

saving_mapped : (f : Entry → Entry) (b : Object → Bool) (es : List Entry) (k : ℕ) → ((e : Entry) → (f e).saving ≡ cond (b e.object) Due e.saving)
    → saving_in (map f es) k ≡ cond (option_map_or b (object_in es k) false) Due (saving_in es k)
unfolding saving_in object_in
saving_mapped f b es k h = rw (slice_get-map f es k) (by_cases (slice_get es k))
  where
    by_cases : (o : Option Entry) → saving_seen (option_map f o) ≡ cond (option_map_or b (option_map (λ (e : Entry). e.object) o) false) Due (saving_seen o)
    by_cases None = refl
    by_cases (Some e) = h e

pub saving_left : (d k : ℕ) (es : List Entry) → saving_in (map (left_out d) es) k ≡ saving_in es k
unfolding saving_in
saving_left d k es = read_mapped saving_seen (left_out d) es k (λ e. refl)

-- A move.

pub put_due : (w : Bool) (d : ℕ) (e : Entry) → (put_first w d e).saving ≡ Due
put_due true d e = refl
put_due false d e = refl

pub saving_down : (es : List Entry) (d to k : ℕ) → saving_in (set_down d to es) k ≡ cond (eqb k d || eqb k to) Due (saving_in es k)
unfolding set_down
saving_down es d to k =
    let w : Bool = is_exit (kind_in es d) in
    saving_changed d k (on_object (with_place to)) (changed_at to (put_first w d) (map (left_out d) es)) (λ e. refl)
    ∙ ap (λ z. cond (eqb k d) Due z) (saving_changed to k (put_first w d) (map (left_out d) es) (put_due w d) ∙ ap (λ z. cond (eqb k to) Due z) (saving_left d k es)) ∙ twice (eqb k d) (eqb k to)
  where
    twice : (a b : Bool) → cond a Due (cond b Due (saving_in es k)) ≡ cond (a || b) Due (saving_in es k)
    twice true b = refl
    twice false b = refl

-- A recycling.

exit_due : (d : ℕ) (e : Entry) (b : Bool) → is_exit_of d e.object ≡ b → (exit_gone d e).saving ≡ cond b Due e.saving
unfolding gone_entry
exit_due d e true h = rw h refl
exit_due d e false h = rw h refl

pub saving_exits : (d k : ℕ) (es : List Entry) → saving_in (exits_gone d es) k ≡ cond (is_exit_at d es k) Due (saving_in es k)
unfolding exits_gone is_exit_at
saving_exits d k es = saving_kept d k without_exits (map (exit_gone d) es) (λ e. refl) ∙ saving_mapped (exit_gone d) (is_exit_of d) es k (λ e. exit_due d e (is_exit_of d e.object) refl)

pub saving_vanished : (es : List Entry) (d k : ℕ) → saving_in (vanished d es) k ≡ cond (eqb k d) Due (saving_in es k)
unfolding vanished gone_entry
saving_vanished es d k = saving_changed d k gone_entry (map (left_out d) es) (λ e. refl) ∙ ap (λ z. cond (eqb k d) Due z) (saving_left d k es)

-- Links.

-- where all objects and lists are alike
pub links_alike : (es fs : List Entry) (k : ℕ) → object_in fs k ≡ object_in es k → ((v : Bool) (j : ℕ) → list_in v fs j ≡ list_in v es j) → links_in fs k ≡ links_in es k
unfolding links_in next_in
links_alike es fs k o l = rw (place_alike es fs k o, kind_alike es fs k o, l false k, l true k) (by_place (place_in es k))
  where
    by_place : (p : Option ℕ) → ◌≡◌ {A = Links} (record { content = first_of_list (list_in false es k); exit = first_of_list (list_in true es k); next = option_and_then (λ p. follower k (list_in (is_exit (kind_in es k)) fs p)) p })
        (record { content = first_of_list (list_in false es k); exit = first_of_list (list_in true es k); next = option_and_then (λ p. follower k (list_in (is_exit (kind_in es k)) es p)) p })
    by_place None = refl
    by_place (Some p) = rw (l (is_exit (kind_in es k)) p) refl

pub links_relinked : (before es : List Entry) (k : ℕ) → links_in (relinked before es) k ≡ links_in es k
links_relinked before es k = links_alike es (relinked before es) k (object_relinked before es k) (λ v j. list_relinked v before es j)

pub links_resaved : (f : Saving → Saving) (k : ℕ) (es : List Entry) → links_in (all_saving f es) k ≡ links_in es k
links_resaved f k es = links_alike es (all_saving f es) k (object_resaved f k es) (λ v j. list_resaved v f j es)

number_itself : (a : Option ℕ) → is_number a a ≡ true
number_itself None = refl
number_itself (Some m) = eq-eqb m m refl

number_equal : (a b : Option ℕ) → is_number a b ≡ true → a ≡ b
number_equal None None h = refl
number_equal (Some m) (Some n) h = ap (λ z. Some z) (eqb-true m n h)
number_equal None (Some n) h = absurd (false≢true h)
number_equal (Some m) None h = absurd (false≢true h)

pub same_itself : (a : Links) → same_links a a ≡ true
same_itself a = rw (number_itself a.content, number_itself a.exit, number_itself a.next) refl

links_equal : (a b : Links) → a.content ≡ b.content → a.exit ≡ b.exit → a.next ≡ b.next → a ≡ b
links_equal a b c e n =
    let make : Option ℕ → Option ℕ → Option ℕ → Links = λ c e n. record { content = c; exit = e; next = n } in
    ap (λ z. make z a.exit a.next) c ∙ ap (λ z. make b.content z a.next) e ∙ ap (λ z. make b.content b.exit z) n

pub same_equal : (a b : Links) → same_links a b ≡ true → a ≡ b
same_equal a b h = by_parts (is_number a.content b.content) (is_number a.exit b.exit) (is_number a.next b.next) refl refl refl h
  where
    by_parts : (p q r : Bool) → is_number a.content b.content ≡ p → is_number a.exit b.exit ≡ q → is_number a.next b.next ≡ r → (p && q && r) ≡ true → a ≡ b
    by_parts true true true c e n h = links_equal a b (number_equal a.content b.content c) (number_equal a.exit b.exit e) (number_equal a.next b.next n)
    by_parts false q r c e n h = absurd (false≢true h)
    by_parts true false r c e n h = absurd (false≢true h)
    by_parts true true false c e n h = absurd (false≢true h)

-- what is linked as before has its mark as it was
pub saving_linked : (before es : List Entry) (k : ℕ) → links_in es k ≡ links_in before k → saving_in (relinked before es) k ≡ saving_in es k
saving_linked before es k h =
    let same : same_links (links_in before k) (links_in es k) ≡ true = ap (λ z. same_links (links_in before k) z) h ∙ same_itself (links_in before k) in
    saving_relinked before es k ∙ rw same refl
