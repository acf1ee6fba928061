-- The children of a directory in their order, and the next of those that pass a test.
use Rattle.std.proofs.Common.{◌≡◌, ◌⊎◌, ◌<◌, ◌≤◌, ℕ, zero, suc, Bool, true, false, cond, ◌&&◌, List, [], ◌∷◌, map, length, take, Option, Some, None, refl, sym, ap, ◌∙◌, subst, arith, inl, inr}
use Rattle.std.specs.Prelude.{T, find}
use Rattle.std.specs.Option.{option_and_then}
use Rattle.std.specs.List.{AllByRecursion, filter}
use Rattle.std.specs.Ordering.{is_lt, ordering_then, ordering_reverse}
use Rattle.std.specs.Cmp.{tied_itself}
use Rattle.std.specs.declared.cmp.Ordering.TheVariants.{Less}
use Rattle.std.specs.FinMap.{keys, entries, entries_sorted, is_sorted, nat_cmp-IsAntisymmetric, slice_cmp-IsAntisymmetric}
use Rattle.std.specs.FinMap.Entries.{below_all}
use Rattle.muck_laws.proofs.Orders.{is_less, then_less}
use Rattle.muck_laws.proofs.Truths.{both_of, is_true}
use Rattle.muck_prop.specs.declared.value.PropValue.{PropValue}
use Rattle.muck_prop.specs.Order.{segment_cmp, path_cmp, path_cmp_total, is_below, child}
use Rattle.muck_prop.specs.Store.{PropMap, is_after, next_among, next_child}
use Rattle.muck_model.specs.declared.dbref.Dbref.{Dbref}
use Rattle.spec_live.specs.declared.object.Object.{Object}
use Rattle.spec_live.specs.Objects.{object_at}
use Rattle.spec_live.specs.Lives.{Live}
use Rattle.spec_rights.specs.declared.act.Actor.{Actor}
use Rattle.spec_prims.specs.PropRows.{may_read, next_read}

abbrev Path : Type 0
Path = List (List ℕ)

-- those of some paths that lead below a directory, each by its child
abbrev pub children : Path → List Path → List Path
children dir ks = map (child dir) (filter (is_below dir) ks)

next_is : (dir : Path) (after : Option Path) (ks : List Path) → next_among dir after ks ≡ find (is_after after) (children dir ks)
next_is dir after [] = refl
next_is dir after (q ∷ ks) =
    elim (is_below dir q) as (λ b. cond (b && is_after after (child dir q)) (Some (child dir q)) (next_among dir after ks) ≡ find (is_after after) (map (child dir) (cond b (q ∷ filter (is_below dir) ks) (filter (is_below dir) ks)))) [
      | true ↦ ap (cond (is_after after (child dir q)) (Some (child dir q))) (next_is dir after ks)
      | false ↦ next_is dir after ks
    ]

kept_step : (dir q : Path) (r : Path → Bool) (fs gs : List Path) (b below : Bool) → r (child dir q) ≡ b → is_below dir q ≡ below → children dir fs ≡ filter r (map (child dir) gs) →
    children dir (cond b (q ∷ fs) fs) ≡ filter r (map (child dir) (cond below (q ∷ gs) gs))
kept_step dir q r fs gs true true e f ih =
    ap (λ z. map (child dir) (cond z (q ∷ filter (is_below dir) fs) (filter (is_below dir) fs))) f
    ∙ ap (λ ys. child dir q ∷ ys) ih
    ∙ sym (ap (λ z. cond z (child dir q ∷ filter r (map (child dir) gs)) (filter r (map (child dir) gs))) e)
kept_step dir q r fs gs true false e f ih =
    ap (λ z. map (child dir) (cond z (q ∷ filter (is_below dir) fs) (filter (is_below dir) fs))) f ∙ ih
kept_step dir q r fs gs false true e f ih =
    ih ∙ sym (ap (λ z. cond z (child dir q ∷ filter r (map (child dir) gs)) (filter r (map (child dir) gs))) e)
kept_step dir q r fs gs false false e f ih = ih

kept_is : (dir : Path) (r : Path → Bool) (ks : List Path) → children dir (filter (λ q. r (child dir q)) ks) ≡ filter r (children dir ks)
kept_is dir r [] = refl
kept_is dir r (q ∷ ks) = kept_step dir q r _ _ (r (child dir q)) (is_below dir q) refl refl (kept_is dir r ks)

-- ---- their order

abbrev Upto : Path → Path → Type 0
Upto x y = (path_cmp x y ≡ Less) ⊎ (x ≡ y)

abbrev Rising : List Path → Type 0
Rising [] = Unit {0}
Rising (x ∷ xs) = AllByRecursion (Upto x) xs × Rising xs

take_upto : (n : ℕ) (xs ys : Path) → path_cmp xs ys ≡ Less → Upto (take n xs) (take n ys)
take_upto zero xs ys h = inr refl
take_upto (suc n) [] [] h = absurd (cc)
take_upto (suc n) [] (y ∷ ys) h = inl refl
take_upto (suc n) (x ∷ xs) [] h = absurd (cc)
take_upto (suc n) (x ∷ xs) (y ∷ ys) h =
    elim (then_less (segment_cmp x y) (path_cmp xs ys) h) as (λ _. Upto (x ∷ take n xs) (y ∷ take n ys)) [
      | inl less ↦ inl (ap (λ r. ordering_then r (path_cmp (take n xs) (take n ys))) less)
      | inr same ↦ elim (take_upto n xs ys same.1) as (λ _. Upto (x ∷ take n xs) (y ∷ take n ys)) [
        | inl less ↦ inl (ap (λ r. ordering_then r (path_cmp (take n xs) (take n ys))) same.0 ∙ less)
        | inr rest ↦ inr (λ i. slice_cmp-IsAntisymmetric nat_cmp-IsAntisymmetric x y same.0 i ∷ rest i)
      ]
    ]

abbrev first : Path × PropValue → Path
first e = e.0

above : (dir q : Path) (es : List (Path × PropValue)) → T (below_all path_cmp q es) → AllByRecursion (Upto (child dir q)) (children dir (map first es))
above dir q [] h = tt
above dir q (e ∷ es) h =
    let parts = both_of (is_lt (path_cmp q e.0)) (below_all path_cmp q es) h in
    elim (is_below dir e.0) as (λ b. AllByRecursion (Upto (child dir q)) (map (child dir) (cond b (e.0 ∷ filter (is_below dir) (map first es)) (filter (is_below dir) (map first es))))) [
      | true ↦ (take_upto (suc (length dir)) q e.0 (is_less (path_cmp q e.0) (is_true _ parts.0)), above dir q es parts.1)
      | false ↦ above dir q es parts.1
    ]

rise : (dir : Path) (es : List (Path × PropValue)) → T (is_sorted path_cmp es) → Rising (children dir (map first es))
rise dir [] h = tt
rise dir (e ∷ es) h =
    let parts = both_of (below_all path_cmp e.0 es) (is_sorted path_cmp es) h in
    elim (is_below dir e.0) as (λ b. Rising (map (child dir) (cond b (e.0 ∷ filter (is_below dir) (map first es)) (filter (is_below dir) (map first es))))) [
      | true ↦ (above dir e.0 es parts.0, rise dir es parts.1)
      | false ↦ rise dir es parts.1
    ]

children_rise : (dir : Path) (m : PropMap) → Rising (children dir (keys m))
children_rise dir m = rise dir (entries m) (entries_sorted m)

later : (after : Option Path) (c y : Path) → is_after after c ≡ true → path_cmp c y ≡ Less → is_after after y ≡ true
later None c y a l = refl
later (Some p) c y a l = ap is_lt (path_cmp_total.trans p c y (is_less (path_cmp p c) a) l)

not_before : (x c : Path) → Upto x c → is_lt (path_cmp c x) ≡ false
not_before x c (inl l) = ap is_lt (path_cmp_total.antisymm c x ∙ ap ordering_reverse l)
not_before x c (inr e) = ap (λ p. is_lt (path_cmp c p)) e ∙ ap is_lt (tied_itself path_cmp_total c)

-- ---- what is found

found_after : (p : Path → Bool) (c : Path) (xs : List Path) → find p xs ≡ Some c → p c ≡ true
found_after p c [] e = absurd (cc)
found_after p c (x ∷ xs) e =
    elim (p x) as (λ b. p x ≡ b → cond b (Some x) (find p xs) ≡ Some c → p c ≡ true) [
      | true ↦ λ h s. let same : x ≡ c = cc in ap p (sym same) ∙ h
      | false ↦ λ h s. found_after p c xs s
    ] refl e

found_upto : (p : Path → Bool) (x c : Path) (xs : List Path) → AllByRecursion (Upto x) xs → find p xs ≡ Some c → Upto x c
found_upto p x c [] h e = absurd (cc)
found_upto p x c (y ∷ ys) (up, rest) e =
    elim (p y) as (λ b. cond b (Some y) (find p ys) ≡ Some c → Upto x c) [
      | true ↦ λ s. let same : y ≡ c = cc in subst (Upto x) same up
      | false ↦ λ s. found_upto p x c ys rest s
    ] e

none_kept : (p r : Path → Bool) (xs : List Path) → find p xs ≡ None → find p (filter r xs) ≡ None
none_kept p r [] e = refl
none_kept p r (x ∷ xs) e =
    elim (p x) as (λ b. p x ≡ b → cond b (Some x) (find p xs) ≡ None → find p (filter r (x ∷ xs)) ≡ None) [
      | true ↦ λ h s. absurd (cc)
      | false ↦ λ h s. elim (r x) as (λ k. find p (cond k (x ∷ filter r xs) (filter r xs)) ≡ None) [
        | true ↦ ap (λ b. cond b (Some x) (find p (filter r xs))) h ∙ none_kept p r xs s
        | false ↦ none_kept p r xs s
      ]
    ] refl e

one_kept : (p r : Path → Bool) (c : Path) (xs : List Path) → find p xs ≡ Some c → r c ≡ true → find p (filter r xs) ≡ Some c
one_kept p r c [] e f = absurd (cc)
one_kept p r c (x ∷ xs) e f =
    elim (p x) as (λ b. p x ≡ b → cond b (Some x) (find p xs) ≡ Some c → find p (filter r (x ∷ xs)) ≡ Some c) [
      | true ↦ λ h s.
          let same : x ≡ c = cc in
          ap (λ k. find p (cond k (x ∷ filter r xs) (filter r xs))) (ap r same ∙ f) ∙ ap (λ b. cond b (Some x) (find p (filter r xs))) h ∙ ap Some same
      | false ↦ λ h s. elim (r x) as (λ k. find p (cond k (x ∷ filter r xs) (filter r xs)) ≡ Some c) [
        | true ↦ ap (λ b. cond b (Some x) (find p (filter r xs))) h ∙ one_kept p r c xs s f
        | false ↦ one_kept p r c xs s f
      ]
    ] refl e

apart : (r : Path → Bool) (c y : Path) → r c ≡ false → r y ≡ true → Upto c y → path_cmp c y ≡ Less
apart r c y h e (inl l) = l
apart r c y h e (inr s) = absurd (let same : r c ≡ r y = ap r s in cc)

-- behind one that doesn't pass, what comes after it is what came after the start
past : (r : Path → Bool) (after : Option Path) (c : Path) (ys : List Path) → is_after after c ≡ true → r c ≡ false → AllByRecursion (Upto c) ys → find (is_after after) (filter r ys) ≡ find (is_after (Some c)) (filter r ys)
past r after c [] a h up = refl
past r after c (y ∷ ys) a h (up, rest) =
    elim (r y) as (λ b. r y ≡ b → find (is_after after) (cond b (y ∷ filter r ys) (filter r ys)) ≡ find (is_after (Some c)) (cond b (y ∷ filter r ys) (filter r ys))) [
      | true ↦ λ e.
          let less : path_cmp c y ≡ Less = apart r c y h e up in
          ap (λ b. cond b (Some y) (find (is_after after) (filter r ys))) (later after c y a less) ∙ sym (ap (λ o. cond (is_lt o) (Some y) (find (is_after (Some c)) (filter r ys))) less)
      | false ↦ λ e. past r after c ys a h rest
    ] refl

skip : (r : Path → Bool) (after : Option Path) (c : Path) (xs : List Path) → Rising xs → find (is_after after) xs ≡ Some c → r c ≡ false → find (is_after after) (filter r xs) ≡ find (is_after (Some c)) (filter r xs)
skip r after c [] h e f = refl
skip r after c (x ∷ xs) (up, rest) e f =
    elim (is_after after x) as (λ b. is_after after x ≡ b → cond b (Some x) (find (is_after after) xs) ≡ Some c → find (is_after after) (filter r (x ∷ xs)) ≡ find (is_after (Some c)) (filter r (x ∷ xs))) [
      | true ↦ λ a s.
          let same : x ≡ c = cc in
          let dropped : filter r (x ∷ xs) ≡ filter r xs = ap (λ b. cond b (x ∷ filter r xs) (filter r xs)) (ap r same ∙ f) in
          ap (find (is_after after)) dropped
          ∙ past r after c xs (ap (is_after after) (sym same) ∙ a) f (subst (λ p. AllByRecursion (Upto p) xs) same up)
          ∙ sym (ap (find (is_after (Some c))) dropped)
      | false ↦ λ a s.
          let before : is_lt (path_cmp c x) ≡ false = not_before x c (found_upto (is_after after) x c xs up s) in
          elim (r x) as (λ k. find (is_after after) (cond k (x ∷ filter r xs) (filter r xs)) ≡ find (is_after (Some c)) (cond k (x ∷ filter r xs) (filter r xs))) [
            | true ↦ ap (λ b. cond b (Some x) (find (is_after after) (filter r xs))) a ∙ skip r after c xs rest s f ∙ sym (ap (λ b. cond b (Some x) (find (is_after (Some c)) (filter r xs))) before)
            | false ↦ skip r after c xs rest s f
          ]
    ] refl e

-- ---- and there are fewer left

fewer_or : (after : Option Path) (c : Path) (xs : List Path) → is_after after c ≡ true → length (filter (is_after (Some c)) xs) ≤ length (filter (is_after after) xs)
fewer_or after c [] a = omega arith
fewer_or after c (x ∷ xs) a =
    let ih : length (filter (is_after (Some c)) xs) ≤ length (filter (is_after after) xs) = fewer_or after c xs a in
    elim (is_lt (path_cmp c x)) as (λ b. is_lt (path_cmp c x) ≡ b → length (cond b (x ∷ filter (is_after (Some c)) xs) (filter (is_after (Some c)) xs)) ≤ length (filter (is_after after) (x ∷ xs))) [
      | true ↦ λ e. subst (λ b. suc (length (filter (is_after (Some c)) xs)) ≤ length (cond b (x ∷ filter (is_after after) xs) (filter (is_after after) xs))) (sym (later after c x a (is_less (path_cmp c x) e))) (omega (arith, ih))
      | false ↦ λ e. elim (is_after after x) as (λ k. length (filter (is_after (Some c)) xs) ≤ length (cond k (x ∷ filter (is_after after) xs) (filter (is_after after) xs))) [
        | true ↦ omega (arith, ih)
        | false ↦ ih
      ]
    ] refl

fewer : (after : Option Path) (c : Path) (xs : List Path) → find (is_after after) xs ≡ Some c → length (filter (is_after (Some c)) xs) < length (filter (is_after after) xs)
fewer after c [] e = absurd (cc)
fewer after c (x ∷ xs) e =
    elim (is_after after x) as (λ b. is_after after x ≡ b → cond b (Some x) (find (is_after after) xs) ≡ Some c → length (filter (is_after (Some c)) (x ∷ xs)) < length (cond b (x ∷ filter (is_after after) xs) (filter (is_after after) xs))) [
      | true ↦ λ a s.
          let same : x ≡ c = cc in
          let itself : is_lt (path_cmp c x) ≡ false = not_before x c (inr same) in
          let least : length (filter (is_after (Some c)) xs) ≤ length (filter (is_after after) xs) = fewer_or after c xs (ap (is_after after) (sym same) ∙ a) in
          subst (λ b. length (cond b (x ∷ filter (is_after (Some c)) xs) (filter (is_after (Some c)) xs)) < suc (length (filter (is_after after) xs))) (sym itself) (omega (arith, least))
      | false ↦ λ a s.
          let ih : length (filter (is_after (Some c)) xs) < length (filter (is_after after) xs) = fewer after c xs s in
          elim (is_lt (path_cmp c x)) as (λ b. is_lt (path_cmp c x) ≡ b → length (cond b (x ∷ filter (is_after (Some c)) xs) (filter (is_after (Some c)) xs)) < length (filter (is_after after) xs)) [
            | true ↦ λ l. absurd (let up : is_after after x ≡ true = later after c x (found_after (is_after after) c xs s) (is_less (path_cmp c x) l) in cc)
            | false ↦ λ l. ih
          ] refl
    ] refl e

-- ---- of a map

-- how many children of a directory are left behind one
pub left : Path → Option Path → PropMap → ℕ
left dir after m = length (filter (is_after after) (children dir (keys m)))

-- the next of those that pass a test
pub next_kept : (Path → Bool) → Path → Option Path → PropMap → Option Path
next_kept r dir after m = next_among dir after (filter (λ q. r (child dir q)) (keys m))

kept : (r : Path → Bool) (dir : Path) (after : Option Path) (m : PropMap) → next_kept r dir after m ≡ find (is_after after) (filter r (children dir (keys m)))
unfolding next_kept
kept r dir after m = next_is dir after (filter (λ q. r (child dir q)) (keys m)) ∙ ap (find (is_after after)) (kept_is dir r (keys m))

pub walk_begins : (a : Actor) (d : Dbref) (w : Live) (dir : Path) (after : Option Path) (o : Object) → Some o ≡ object_at d w.objects → next_read a d (dir, after) w ≡ next_kept (may_read a d w) dir after o.props
unfolding next_kept
walk_begins a d w dir after o e = ap (λ (x : Option Object). option_and_then (λ o. next_among dir after (filter (λ q. may_read a d w (child dir q)) (keys o.props))) x) (sym e)

pub walk_nowhere : (a : Actor) (d : Dbref) (w : Live) (from : Path × Option Path) → None ≡ object_at d w.objects → next_read a d from w ≡ None
walk_nowhere a d w from e = ap (λ (x : Option Object). option_and_then (λ o. next_among from.0 from.1 (filter (λ q. may_read a d w (child from.0 q)) (keys o.props))) x) (sym e)

pub walk_none : (r : Path → Bool) (dir : Path) (after : Option Path) (m : PropMap) → None ≡ next_child dir after m → next_kept r dir after m ≡ None
walk_none r dir after m e = kept r dir after m ∙ none_kept (is_after after) r (children dir (keys m)) (sym (next_is dir after (keys m)) ∙ sym e)

pub walk_one : (r : Path → Bool) (dir : Path) (after : Option Path) (m : PropMap) (c : Path) → Some c ≡ next_child dir after m → true ≡ r c → next_kept r dir after m ≡ Some c
walk_one r dir after m c e h = kept r dir after m ∙ one_kept (is_after after) r c (children dir (keys m)) (sym (next_is dir after (keys m)) ∙ sym e) (sym h)

pub walk_on : (r : Path → Bool) (dir : Path) (after : Option Path) (m : PropMap) (c : Path) → Some c ≡ next_child dir after m → false ≡ r c → next_kept r dir after m ≡ next_kept r dir (Some c) m
walk_on r dir after m c e h =
    kept r dir after m ∙ skip r after c (children dir (keys m)) (children_rise dir m) (sym (next_is dir after (keys m)) ∙ sym e) (sym h) ∙ sym (kept r dir (Some c) m)

pub walk_fewer : (dir : Path) (after : Option Path) (m : PropMap) (c : Path) → Some c ≡ next_child dir after m → left dir (Some c) m < left dir after m
unfolding left
walk_fewer dir after m c e = fewer after c (children dir (keys m)) (sym (next_is dir after (keys m)) ∙ sym e)

pub ruleset walk_steps = (walk_begins, walk_nowhere, walk_none, walk_one, walk_on, walk_fewer)
