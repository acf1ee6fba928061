-- Each step keeps the rule of the lock.
use Rattle.std.proofs.Common.{◌≡◌, ◌≢◌, ◌⊎◌, ℕ, zero, suc, ◌+◌, ◌%◌, ◌^◌, ◌<◌, ◌≤◌, List, [], ◌∷◌, ◌++◌, length, map, set, Some, None, append_assoc, refl, sym, ap, ◌∙◌, subst, inl, inr, ⊎_elim, lt_of_not-le, arith, length-append, mod-eq_of_lt}
use Rattle.std.specs.Prelude.{slice_index, slice_set, Option}
use Rattle.std.proofs.lemmas.List.{append-nil}
use mathlib.Core.Option.{Option as Maybe, some, none, some-ne-none, some-injective}
use mathlib.Core.Logic.{dite}
use native.Mathlib.Decide.{dec_le, ℕ_discrete}
use lib.ListN.{get_elem?}
use Rattle.muck_laws.proofs.Places.{length_set}
use Rattle.atomic_table.specs.Table.{State, Me, keeps, takes, gives, Step, step, Allows, stepped, put_back, rest, opening, Splits, Joins, Final, Seen}
use Rattle.atomic_table.proofs.Lists.{at_set, set_else, at_snoc, at_longer}
use Rattle.turn_lock.specs.declared.view.Taken.{Taken}
use Rattle.turn_lock.specs.declared.view.View.{View}
use Rattle.turn_lock.specs.declared.view.Place.{Place}
use Rattle.turn_lock.specs.declared.view.Place.TheVariants.{Idle, Waits, Holds, Told, Gone}
use Rattle.turn_lock.proofs.Parts.{parted_set, parted_pass, parted_begin, parted_split, parted_join}
use Rattle.turn_lock.specs.Histories.{own_of, Has, IsKnown, StartsWith, AllOf}
use Rattle.turn_lock.specs.inner.Turns.{total, told, told_of, live, live_of, Rooted, spent_view, left_after, newcomer, kept_of, taken_in, HasTicket, Stands, Fits, Each, Apart, InSlot, Kept, drew, looked, passed}

module _ {A : Type 0} (f : A → ℕ) where
  total_set : (xs : List A) (i : ℕ) (v w : A) → get_elem? xs i ≡ some v → total f (set xs i w) + f v ≡ total f xs + f w
  total_set [] i v w at = absurd (some-ne-none v (sym at))
  total_set (x ∷ xs) zero v w at = let e = ap f (some-injective x v at) in omega arith
  total_set (x ∷ xs) (suc i) v w at = let e = total_set xs i v w at in omega arith

  total_few : ((x : A) → f x ≤ 1) → (xs : List A) → total f xs ≤ length xs
  total_few le [] = omega arith
  total_few le (x ∷ xs) = let a = le x in let b = total_few le xs in omega arith

told_le : (p : Place) → told p ≤ 1
told_le Idle = omega arith
told_le Told = omega arith
told_le Gone = omega arith
told_le (Waits n) = omega arith
told_le (Holds n) = omega arith

module _ {E B : Type 0} where
  each_set : (ticket serving : ℕ) (log : List E) (views : List (View E B)) (id : ℕ) (w : View E B)
      → ((j : ℕ) (u : View E B) → j ≢ id → get_elem? views j ≡ some u → Fits ticket serving log u)
      → Fits ticket serving log w → Each ticket serving log (set views id w)
  each_set ticket serving log views id w others mine j u e =
      ⊎_elim
      (λ (x : (j ≡ id) × (w ≡ u)). subst (λ (y : View E B). Fits ticket serving log y) x.1 mine)
      (λ (x : (j ≢ id) × (get_elem? views j ≡ some u)). others j u x.0 x.1)
      (at_set views id j w u e)

  apart_set : (views : List (View E B)) (id : ℕ) (w : View E B) → Apart views
      → ((j n : ℕ) (u : View E B) → j ≢ id → get_elem? views j ≡ some u → HasTicket u.place n → HasTicket w.place n → ⊥)
      → Apart (set views id w)
  apart_set views id w apart new i j n v u ei ej hi hj =
      ⊎_elim
      (λ (x : (i ≡ id) × (w ≡ v)). ⊎_elim
      (λ (y : (j ≡ id) × (w ≡ u)). x.0 ∙ sym y.0)
      (λ (y : (j ≢ id) × (get_elem? views j ≡ some u)). absurd (new j n u y.0 y.1 hj (subst (λ (z : View E B). HasTicket z.place n) (sym x.1) hi)))
      (at_set views id j w u ej))
      (λ (x : (i ≢ id) × (get_elem? views i ≡ some v)). ⊎_elim
      (λ (y : (j ≡ id) × (w ≡ u)). absurd (new i n v x.0 x.1 hi (subst (λ (z : View E B). HasTicket z.place n) (sym y.1) hj)))
      (λ (y : (j ≢ id) × (get_elem? views j ≡ some u)). apart i j n v u x.1 y.1 hi hj)
      (at_set views id j w u ej))
      (at_set views id i w v ei)

  set_there : (views : List (View E B)) (id : ℕ) (v w : View E B) → get_elem? views id ≡ some v → get_elem? (set views id w) id ≡ some w
  set_there [] id v w at = absurd (some-ne-none v (sym at))
  set_there (x ∷ xs) zero v w at = refl
  set_there (x ∷ xs) (suc id) v w at = set_there xs id v w at

  -- a step leaves the first seat's lists
  rooted_set : (views : List (View E B)) (id : ℕ) (v w : View E B) → get_elem? views id ≡ some v
      → live_of w ≡ live_of v → w.given ≡ v.given → w.joined ≡ v.joined → Rooted views → Rooted (set views id w)
  rooted_set views id v w at lives gives_same joins_same (r, at0, up, wide, sums) =
      let l = length_set views id w in
      let t = total_set live_of views id v w at in
      dite (ℕ_discrete id 0)
      (λ here.
      let same : r ≡ v = some-injective r v (sym at0 ∙ sym (ap (λ (k : ℕ). get_elem? views k) here) ∙ at) in
      let g : length w.given ≡ length r.given = ap length (gives_same ∙ sym (ap (λ (u : View E B). u.given) same)) in
      let j : length w.joined ≡ length r.joined = ap length (joins_same ∙ sym (ap (λ (u : View E B). u.joined) same)) in
      (w, subst (λ (k : ℕ). get_elem? (set views id w) k ≡ some w) here (set_there views id v w at), lives ∙ sym (ap live_of same) ∙ up, omega arith, omega arith))
      (λ away. (r, set_else views id 0 w (λ e. away (sym e)) ∙ at0, up, omega arith, omega arith))

module _ {E : Type 0} where
  -- a ticket that is out lies below the next one
  below : (ticket serving : ℕ) (log seen : List E) (p : Place) (n : ℕ) → Stands ticket serving log seen p → HasTicket p n → n < ticket
  below ticket serving log seen Idle n st h = absurd h
  below ticket serving log seen Told n st h = absurd h
  below ticket serving log seen Gone n st h = absurd h
  below ticket serving log seen (Waits m) n st h = let a = st.1 in omega arith
  below ticket serving log seen (Holds m) n st h = let a = st.1 in omega arith

  -- one ticket more
  stands_more : (ticket serving : ℕ) (log seen : List E) (p : Place) → Stands ticket serving log seen p → Stands (ticket + 1) serving log seen p
  stands_more ticket serving log seen Idle st = tt
  stands_more ticket serving log seen Told st = tt
  stands_more ticket serving log seen Gone st = tt
  stands_more ticket serving log seen (Waits m) st = let a = st.1 in (st.0, omega arith, st.2)
  stands_more ticket serving log seen (Holds m) st = let a = st.1 in (st.0, omega arith, st.2, st.3)

module _ {T E B : Type 0} (history : T → List E) (party : E → ℕ) (start : T → B) (allowed : E → Type 0) where
  abbrev any : Step (Option T)
  any = step 0 0 0 0 none

  abbrev Sit : Type 0
  Sit = Me (Option T) (View E B)

  slot_kept : (begin : B) (log : List E) (views : List (View E B)) (slot : Maybe (Option T)) (id : ℕ) (v w : View E B)
      → get_elem? views id ≡ some v → ((n : ℕ) → v.place ≢ Holds n)
      → InSlot history party start begin log views slot → InSlot history party start begin log (set views id w) slot
  slot_kept begin log views (some y) id v w at free kept = kept
  slot_kept begin log views none id v w at free (i, u, n, ati, has) =
      let away : i ≢ id = λ e. free n (ap (λ (z : View E B). z.place) (some-injective v u (sym at ∙ sym (ap (λ (k : ℕ). get_elem? views k) e) ∙ ati)) ∙ has) in
      (i, u, n, set_else views id i w away ∙ ati, has)

  idle_holds : (p : Place) (n : ℕ) → p ≡ Idle → p ≢ Holds n
  idle_holds p n idle has = absurd (subst (λ (q : Place). HasTicket q n) (sym has ∙ idle) refl)

  waits_holds : (p : Place) (m n : ℕ) → p ≡ Waits m → p ≢ Holds n
  waits_holds p m n waits has = absurd (subst IsHeld (sym has ∙ waits) tt)
    where
      IsHeld : Place → Type 0
      IsHeld (Holds k) = Unit {0}
      IsHeld (Waits k) = ⊥
      IsHeld Idle = ⊥
      IsHeld Told = ⊥
      IsHeld Gone = ⊥

  set_at : (views : List (View E B)) (id : ℕ) (v w : View E B) → get_elem? views id ≡ some v → get_elem? (set views id w) id ≡ some w
  set_at [] id v w at = absurd (some-ne-none v (sym at))
  set_at (x ∷ xs) zero v w at = refl
  set_at (x ∷ xs) (suc id) v w at = set_at xs id v w at

  -- a look leaves who has the turn its place
  slot_stays : (begin : B) (log : List E) (views : List (View E B)) (slot : Maybe (Option T)) (id : ℕ) (v w : View E B)
      → get_elem? views id ≡ some v → w.place ≡ v.place
      → InSlot history party start begin log views slot → InSlot history party start begin log (set views id w) slot
  slot_stays begin log views (some y) id v w at same kept = kept
  slot_stays begin log views none id v w at same (i, u, n, ati, has) =
      dite (ℕ_discrete i id)
      (λ e. (id, w, n, set_at views id v w at, same ∙ ap (λ (z : View E B). z.place) (some-injective v u (sym at ∙ sym (ap (λ (k : ℕ). get_elem? views k) e) ∙ ati)) ∙ has))
      (λ away. (i, u, n, set_else views id i w away ∙ ati, has))

  one_ticket : (p : Place) (m n : ℕ) → p ≡ Waits m → p ≡ Waits n → m ≡ n
  one_ticket p m n a b = subst (λ (q : Place). HasTicket q n) a (subst (λ (q : Place). HasTicket q n) (sym b) refl)

  look_stands : (ticket serving : ℕ) (log seen : List E) (p : Place) (n : ℕ) → p ≡ Waits n → Stands ticket serving log seen p → Stands ticket serving log log p
  look_stands ticket serving log seen p n waits st = subst (Stands ticket serving log log) (sym waits) (subst (Stands ticket serving log seen) waits st)

  last_same : (xs : List E) (a b : E) → xs ++ a ∷ [] ≡ xs ++ b ∷ [] → a ≡ b
  last_same [] a b e = ap (λ (l : List E). head_or l a) e
    where
      head_or : List E → E → E
      head_or [] d = d
      head_or (z ∷ zs) d = z
  last_same (x ∷ xs) a b e = last_same xs a b (ap tail e)
    where
      tail : List E → List E
      tail [] = []
      tail (z ∷ zs) = zs

  state_same : (x y : T) → ◌≡◌ {A = List (ℕ × Option T)} ((0, Some x) ∷ []) ((0, Some y) ∷ []) → x ≡ y
  state_same x y e = ap pick e
    where
      pick : List (ℕ × Option T) → T
      pick [] = x
      pick ((n, Some z) ∷ zs) = z
      pick ((n, None) ∷ zs) = x

  draws_with : (id : ℕ) (me : Sit) (s : State (Option T) (View E B)) → me.0.place ≡ Idle → (k : Kept history party start allowed s) → get_elem? s.views id ≡ some me.0
      → (p : Place) → ((n : ℕ) → HasTicket p n → n ≡ k.ticket) → Stands (k.ticket + 1) k.serving k.log k.log p → k.ticket + 1 ≤ 2 ^ 62 + (total told_of s.views + told p) → live p ≡ 1
      → Kept history party start allowed (stepped s 0 ((slice_index s.words 0 + 1) % 2 ^ 64) id me.1 record { party = me.0.party; root = me.0.root; place = p; seen = k.log; own = me.0.own; given = me.0.given; joined = me.0.joined } keeps)
  draws_with id me s idle k at p mine stands room alive =
      let w : View E B = record { party = me.0.party; root = me.0.root; place = p; seen = k.log; own = me.0.own; given = me.0.given; joined = me.0.joined } in
      let few = k.few in
      let drawn = k.drawn in
      let most = total_few told_of (λ (v : View E B). told_le v.place) s.views in
      let next : (k.ticket + 1) % 2 ^ 64 ≡ k.ticket + 1 = mod-eq_of_lt (omega arith) in
      let t = total_set told_of s.views id me.0 w at in
      let none_told : told_of me.0 ≡ 0 = ap told idle in
      record {
        begin = k.begin;
        ticket = k.ticket + 1;
        serving = k.serving;
        log = k.log;
        slot = k.slot;
        words = ap (λ (ws : List ℕ). slice_set ws 0 ((slice_index ws 0 + 1) % 2 ^ 64)) k.words ∙ ap (λ (n : ℕ). n ∷ k.serving ∷ []) next;
        homes = k.homes;
        counted = k.counted;
        served = (let a = k.served in omega arith);
        drawn = omega arith;
        few = (let l = length_set s.views id w in omega arith);
        in_slot = slot_kept k.begin k.log s.views k.slot id me.0 w at (λ n. idle_holds me.0.place n idle) k.in_slot;
        each = each_set (k.ticket + 1) k.serving k.log s.views id w
            (λ j u away atj. let f = k.each j u atj in (f.0, stands_more k.ticket k.serving k.log u.seen u.place f.1))
            (([], sym (append-nil k.log)), stands);
        apart = apart_set s.views id w k.apart
            (λ j n u away atj hu hw. let f = k.each j u atj in let b = below k.ticket k.serving k.log u.seen u.place n f.1 hu in let e = mine n hw in absurd (omega arith));
        rooted = rooted_set s.views id me.0 w at (alive ∙ sym (ap live idle)) refl refl k.rooted;
        parted = parted_set party k.begin k.log s.views id me.0 w at (alive ∙ sym (ap live idle)) refl refl refl (λ n h. h) refl k.parted;
        lawful = k.lawful;
      }

  pub draws : (slots id : ℕ) (me : Sit) → me.0.place ≡ Idle
      → Allows (Kept history party start allowed) slots id me 0 (λ n. (n + 1) % 2 ^ 64) (drew history party start any me)
  draws slots id me idle s k count at small =
      let seen = (k.each id me.0 at).0 in
      let found : slice_index s.words 0 ≡ k.ticket = ap (λ (ws : List ℕ). slice_index ws 0) k.words in
      let drawn = k.drawn in
      let served = k.served in
      dite (dec_le (2 ^ 62) k.ticket)
      (λ late. (
        record { party = me.0.party; root = me.0.root; place = Told; seen = k.log; own = me.0.own; given = me.0.given; joined = me.0.joined },
        keeps,
        tt,
        draws_with id me s idle k at Told (λ n h. absurd h) tt (omega arith) refl,
        ((seen, refl, refl, refl, refl, refl), refl, (λ early. absurd (omega arith)), (λ l. refl)),
      ))
      (λ not_late. let early = lt_of_not-le not_late in (
        record { party = me.0.party; root = me.0.root; place = Waits k.ticket; seen = k.log; own = me.0.own; given = me.0.given; joined = me.0.joined },
        keeps,
        tt,
        draws_with id me s idle k at (Waits k.ticket) (λ n h. sym h) (served, omega arith, early) (omega arith) refl,
        ((seen, refl, refl, refl, refl, refl), refl, (λ e. ap Waits (sym found)), (λ l. absurd (omega arith))),
      ))

  same_words : (s : State (Option T) (View E B)) (k : Kept history party start allowed s) → slice_set s.words 1 (slice_index s.words 1) ≡ k.ticket ∷ k.serving ∷ []
  same_words s k = ap (λ (ws : List ℕ). slice_set ws 1 (slice_index ws 1)) k.words

  -- a look that changes nothing but what was seen
  peeks : (id : ℕ) (me : Sit) (s : State (Option T) (View E B)) (k : Kept history party start allowed s) → get_elem? s.views id ≡ some me.0
      → Stands k.ticket k.serving k.log k.log me.0.place
      → Kept history party start allowed (stepped s 1 (slice_index s.words 1) id me.1 record { party = me.0.party; root = me.0.root; place = me.0.place; seen = k.log; own = me.0.own; given = me.0.given; joined = me.0.joined } keeps)
  peeks id me s k at stands =
      let w : View E B = record { party = me.0.party; root = me.0.root; place = me.0.place; seen = k.log; own = me.0.own; given = me.0.given; joined = me.0.joined } in
      let t = total_set told_of s.views id me.0 w at in
      let drawn = k.drawn in
      let few = k.few in
      record {
        begin = k.begin;
        ticket = k.ticket;
        serving = k.serving;
        log = k.log;
        slot = k.slot;
        words = same_words s k;
        homes = k.homes;
        counted = k.counted;
        served = k.served;
        drawn = omega arith;
        few = (let l = length_set s.views id w in omega arith);
        in_slot = slot_stays k.begin k.log s.views k.slot id me.0 w at refl k.in_slot;
        each = each_set k.ticket k.serving k.log s.views id w (λ j u away atj. k.each j u atj) (([], sym (append-nil k.log)), stands);
        apart = apart_set s.views id w k.apart (λ j n u away atj hu hw. absurd (away (k.apart j id n u me.0 atj at hu hw)));
        rooted = rooted_set s.views id me.0 w at refl refl refl k.rooted;
        parted = parted_set party k.begin k.log s.views id me.0 w at refl refl refl refl (λ n h. h) refl k.parted;
        lawful = k.lawful;
      }

  -- the seat whose ticket is served takes the slot
  takes_turn : (id : ℕ) (me : Sit) (s : State (Option T) (View E B)) (k : Kept history party start allowed s) → get_elem? s.views id ≡ some me.0 → (n : ℕ) → me.0.place ≡ Waits n → me.1 ≡ [] → n ≡ k.serving
      → (x : T) × (get_elem? s.homes 0 ≡ some (some (Some x))) × (history x ≡ k.log) × (start x ≡ k.begin)
      × Kept history party start allowed (stepped s 1 (slice_index s.words 1) id me.1 record { party = me.0.party; root = me.0.root; place = Holds n; seen = k.log; own = me.0.own; given = me.0.given; joined = me.0.joined } (takes 0 (Some x)))
  takes_turn id me s k at n waits empty is = from k.slot refl k.in_slot
    where
      w : View E B
      w = record { party = me.0.party; root = me.0.root; place = Holds n; seen = k.log; own = me.0.own; given = me.0.given; joined = me.0.joined }

      mine : Fits k.ticket k.serving k.log me.0
      mine = k.each id me.0 at

      stood : (k.serving ≤ n) × (n < k.ticket) × (n < 2 ^ 62)
      stood = subst (Stands k.ticket k.serving k.log me.0.seen) waits mine.1

      from : (slot : Maybe (Option T)) → k.slot ≡ slot → InSlot history party start k.begin k.log s.views slot
          → (x : T) × (get_elem? s.homes 0 ≡ some (some (Some x))) × (history x ≡ k.log) × (start x ≡ k.begin)
          × Kept history party start allowed (stepped s 1 (slice_index s.words 1) id me.1 record { party = me.0.party; root = me.0.root; place = Holds n; seen = k.log; own = me.0.own; given = me.0.given; joined = me.0.joined } (takes 0 (Some x)))
      from (some y) e (x, is_x, carries, begins_so) =
          let there : s.homes ≡ some (Some x) ∷ [] = k.homes ∙ ap (λ (h : Maybe (Option T)). h ∷ []) (e ∙ ap some is_x) in
          let t = total_set told_of s.views id me.0 w at in
          let drawn = k.drawn in
          let few = k.few in
          let none_told : told_of me.0 ≡ 0 = ap told waits in (
            x,
            ap (λ (hs : List (Maybe (Option T))). get_elem? hs 0) there,
            carries,
            begins_so,
            record {
              begin = k.begin;
              ticket = k.ticket;
              serving = k.serving;
              log = k.log;
              slot = none;
              words = same_words s k;
              homes = ap (λ (hs : List (Maybe (Option T))). slice_set hs 0 none) there;
              counted = k.counted;
              served = k.served;
              drawn = omega arith;
              few = (let l = length_set s.views id w in omega arith);
              in_slot = (id, w, n, set_at s.views id me.0 w at, refl);
              each = each_set k.ticket k.serving k.log s.views id w (λ j u away atj. k.each j u atj) (([], sym (append-nil k.log)), (is, stood.1, stood.2, refl));
              apart = apart_set s.views id w k.apart (λ j m u away atj hu hw. absurd (away (k.apart j id m u me.0 atj at hu (subst (λ (q : Place). HasTicket q m) (sym waits) hw))));
              rooted = rooted_set s.views id me.0 w at (sym (ap live waits)) refl refl k.rooted;
              parted = parted_set party k.begin k.log s.views id me.0 w at (sym (ap live waits)) refl refl refl (λ n h. h) refl k.parted;
              lawful = k.lawful;
            },
          )
      from none e (i, u, m, ati, has) =
          let theirs : (m ≡ k.serving) × (m < k.ticket) × (m < 2 ^ 62) × (u.seen ≡ k.log) = subst (Stands k.ticket k.serving k.log u.seen) has (k.each i u ati).1 in
          let one : i ≡ id = k.apart i id n u me.0 ati at (subst (λ (q : Place). HasTicket q n) (sym has) (theirs.0 ∙ sym is)) (subst (λ (q : Place). HasTicket q n) (sym waits) refl) in
          let same : u ≡ me.0 = some-injective u me.0 (sym ati ∙ ap (λ (j : ℕ). get_elem? s.views j) one ∙ at) in
          absurd (waits_holds me.0.place n m waits (ap (λ (z : View E B). z.place) (sym same) ∙ has))

  pub looks : (slots id : ℕ) (me : Sit) (n : ℕ) → (me.0.place ≡ Waits n) → me.1 ≡ []
      → Allows (Kept history party start allowed) slots id me 1 (λ m. m) (looked history party start allowed any me)
  looks slots id me n waits empty s k count at small =
      let seen = (k.each id me.0 at).0 in
      let found : slice_index s.words 1 ≡ k.serving = ap (λ (ws : List ℕ). slice_index ws 1) k.words in
      dite (ℕ_discrete n k.serving)
      (λ here. let got = takes_turn id me s k at n waits empty here in (
        record { party = me.0.party; root = me.0.root; place = Holds n; seen = k.log; own = me.0.own; given = me.0.given; joined = me.0.joined },
        takes 0 (Some got.0),
        got.1,
        got.4,
        (
          (seen, refl, refl, refl, refl, refl),
          k.lawful,
          k.counted ∙ sym found,
          (λ done. absurd (subst (λ (q : Place). HasTicket q n) (sym waits ∙ done) refl)),
          (λ m waits' empty'. let e : m ≡ n = one_ticket me.0.place m n waits' waits in (
            (λ f. (ap Holds (sym e), (got.0, ap (λ (c : List (ℕ × Option T)). (0, Some got.0) ∷ c) empty, got.2, ap (λ (b : B). b ∷ []) got.3 ∙ sym (k.parted.begun id me.0 at (ap live waits))), k.parted.mine id me.0 at (ap live waits))),
            (λ away. absurd (away (found ∙ sym here ∙ sym e))),
          )),
        ),
      ))
      (λ away. (
        record { party = me.0.party; root = me.0.root; place = me.0.place; seen = k.log; own = me.0.own; given = me.0.given; joined = me.0.joined },
        keeps,
        tt,
        peeks id me s k at (look_stands k.ticket k.serving k.log me.0.seen me.0.place n waits (k.each id me.0 at).1),
        (
          (seen, refl, refl, refl, refl, refl),
          k.lawful,
          k.counted ∙ sym found,
          (λ done. absurd (subst (λ (q : Place). HasTicket q n) (sym waits ∙ done) refl)),
          (λ m waits' empty'. let e : m ≡ n = one_ticket me.0.place m n waits' waits in
              ((λ f. absurd (away (sym e ∙ sym f ∙ found))), (λ f. (waits', empty')))),
        ),
      ))

  pub looks_on : (slots id : ℕ) (me : Sit) → me.0.place ≡ Told
      → Allows (Kept history party start allowed) slots id me 1 (λ m. m) (looked history party start allowed any me)
  looks_on slots id me done s k count at small =
      let seen = (k.each id me.0 at).0 in
      let found : slice_index s.words 1 ≡ k.serving = ap (λ (ws : List ℕ). slice_index ws 1) k.words in (
        record { party = me.0.party; root = me.0.root; place = me.0.place; seen = k.log; own = me.0.own; given = me.0.given; joined = me.0.joined },
        keeps,
        tt,
        peeks id me s k at (subst (Stands k.ticket k.serving k.log k.log) (sym done) tt),
        ((seen, refl, refl, refl, refl, refl), k.lawful, k.counted ∙ sym found, (λ d. (d, refl)), (λ n waits. absurd (subst (λ (q : Place). HasTicket q n) (sym waits ∙ done) refl))),
      )

  -- who waits still waits once the turn is over
  stands_next : (ticket serving : ℕ) (log log' seen : List E) (p : Place) → ¬ HasTicket p serving → Stands ticket serving log seen p → Stands ticket (serving + 1) log' seen p
  stands_next ticket serving log log' seen Idle other st = tt
  stands_next ticket serving log log' seen Told other st = tt
  stands_next ticket serving log log' seen Gone other st = tt
  stands_next ticket serving log log' seen (Waits m) other st = let a = st.0 in let b : ¬ (m ≡ serving) = other in (lt_of_ne serving m a b, st.1, st.2)
    where
      lt_of_ne : (a b : ℕ) → a ≤ b → ¬ (b ≡ a) → a + 1 ≤ b
      lt_of_ne a b le ne = dite (dec_le (a + 1) b) (λ l. l) (λ n. absurd (ne (omega (arith, lt_of_not-le n))))
  stands_next ticket serving log log' seen (Holds m) other st = absurd (other st.0)

  longer_still : (log seen : List E) (e : E) → StartsWith log seen → StartsWith (log ++ e ∷ []) seen
  longer_still log seen e (more, is) = (more ++ e ∷ [], ap (λ (l : List E). l ++ e ∷ []) is ∙ append_assoc seen more (e ∷ []))

  one_first : (a b : B) → ◌≡◌ {A = List B} (a ∷ []) (b ∷ []) → a ≡ b
  one_first a b e = ap (λ (l : List B). head_or l a) e
    where
      head_or : List B → B → B
      head_or [] d = d
      head_or (z ∷ zs) d = z

  pub passes : (slots id : ℕ) (me : Sit) (n : ℕ) (x : T) (e : E) → me.0.place ≡ Holds n → me.1 ≡ (0, Some x) ∷ [] → history x ≡ me.0.seen ++ e ∷ [] → start x ∷ [] ≡ me.0.root → party e ≡ me.0.party → allowed e
      → Allows (Kept history party start allowed) slots id me 1 (λ m. (m + 1) % 2 ^ 64) (passed history party start allowed any me)
  passes slots id me n x e holds carries is root whose may s k count at small =
      let mine : (n ≡ k.serving) × (n < k.ticket) × (n < 2 ^ 62) × (me.0.seen ≡ k.log) = subst (Stands k.ticket k.serving k.log me.0.seen) holds (k.each id me.0 at).1 in
      let same = mine.0 in
      let low = mine.2 in
      let out = mine.1 in
      let log : List E = k.log ++ e ∷ [] in
      let now : me.0.seen ++ e ∷ [] ≡ log = ap (λ (l : List E). l ++ e ∷ []) mine.3 in
      let w : View E B = record { party = me.0.party; root = me.0.root; place = Idle; seen = me.0.seen ++ e ∷ []; own = me.0.own ++ e ∷ []; given = me.0.given; joined = me.0.joined } in
      let next : (k.serving + 1) % 2 ^ 64 ≡ k.serving + 1 = mod-eq_of_lt (omega arith) in
      let t = total_set told_of s.views id me.0 w at in
      let drawn = k.drawn in
      let few = k.few in
      let counted = k.counted in
      let none_told : told_of me.0 ≡ 0 = ap told holds in (
        w,
        gives,
        tt,
        record {
          begin = k.begin;
          ticket = k.ticket;
          serving = k.serving + 1;
          log = log;
          slot = some (Some x);
          words = ap (λ (ws : List ℕ). slice_set ws 1 ((slice_index ws 1 + 1) % 2 ^ 64)) k.words ∙ ap (λ (m : ℕ). k.ticket ∷ m ∷ []) next;
          homes = ap (λ (c : List (ℕ × Option T)). put_back s.homes c) carries ∙ ap (λ (hs : List (Maybe (Option T))). slice_set hs 0 (some (Some x))) k.homes;
          counted = (let l = length-append k.log (e ∷ []) in omega arith);
          served = omega arith;
          drawn = omega arith;
          few = (let l = length_set s.views id w in omega arith);
          in_slot = (x, refl, is ∙ now, one_first (start x) k.begin (root ∙ k.parted.begun id me.0 at (ap live holds)));
          each = each_set k.ticket (k.serving + 1) log s.views id w
              (λ j u away atj. let f = k.each j u atj in (
                longer_still k.log u.seen e f.0,
                stands_next k.ticket k.serving k.log log u.seen u.place
                    (λ h. away (k.apart j id k.serving u me.0 atj at h (subst (λ (q : Place). HasTicket q k.serving) (sym holds) same)))
                    f.1,
              ))
              (([], sym now ∙ sym (append-nil (me.0.seen ++ e ∷ []))), tt);
          apart = apart_set s.views id w k.apart (λ j m u away atj hu hw. absurd hw);
          rooted = rooted_set s.views id me.0 w at (sym (ap live holds)) refl refl k.rooted;
          parted = parted_pass party k.begin k.log s.views id me.0 e at (ap live holds) whose w refl refl refl refl refl refl k.parted;
          lawful = λ i d ati. ⊎_elim (λ (y : get_elem? k.log i ≡ some d). k.lawful i d y) (λ (y : e ≡ d). subst allowed y may) (at_snoc k.log e d i ati);
        },
        (λ m y d holds' carries' is' root' whose' may'. (
          ap (λ (z : E). record { party = me.0.party; root = me.0.root; place = Idle; seen = me.0.seen ++ z ∷ []; own = me.0.own ++ z ∷ []; given = me.0.given; joined = me.0.joined })
              (last_same me.0.seen e d (sym is ∙ ap history (state_same x y (sym carries ∙ carries')) ∙ is')),
          ap rest carries,
        )),
      )

  pub begins : (start_state : T) (views : View E B) (slots : List (Option T)) → slots ≡ Some start_state ∷ [] → history start_state ≡ [] → views.party ≡ 0 → views.root ≡ start start_state ∷ [] → views.own ≡ [] → views.place ≡ Idle → views.seen ≡ [] → views.given ≡ [] → views.joined ≡ [] → Kept history party start allowed (opening (0 ∷ 0 ∷ []) slots views)
  begins start_state v slots is none_yet is_zero rooted_at unowned idle unseen ungiven unjoined =
      record {
        begin = start start_state;
        ticket = 0;
        serving = 0;
        log = [];
        slot = some (Some start_state);
        words = refl;
        homes = ap (λ (l : List (Option T)). map some l) is;
        counted = refl;
        served = omega arith;
        drawn = omega arith;
        few = omega arith;
        in_slot = (start_state, refl, none_yet, refl);
        each = one;
        apart = two;
        rooted = (v, refl, ap live idle, (let g = ap length ungiven in omega arith), (let g = ap length ungiven in let j = ap length unjoined in let l : live_of v ≡ 1 = ap live idle in omega arith));
        parted = parted_begin party (start start_state) v is_zero (ap live idle) rooted_at unowned unjoined;
        lawful = λ i e at. absurd (some-ne-none e (sym at));
      }
    where
      one : Each 0 0 [] (v ∷ [])
      one zero u e = subst (λ (z : View E B). Fits 0 0 [] z) (some-injective v u e) (([], sym (append-nil v.seen ∙ unseen)), subst (Stands 0 0 [] v.seen) (sym idle) tt)
      one (suc i) u e = absurd (some-ne-none u (sym e))

      two : Apart (v ∷ [])
      two zero zero n a b ea eb ha hb = refl
      two zero (suc j) n a b ea eb ha hb = absurd (some-ne-none b (sym eb))
      two (suc i) j n a b ea eb ha hb = absurd (some-ne-none a (sym ea))

pub carried_again : {S : Type 0} (c : List (ℕ × S)) (x : S) → c ≡ (0, x) ∷ [] → c ≡ (0, x) ∷ rest c
carried_again c x e = e ∙ ap (λ l. (0, x) ∷ l) (sym (ap rest e))

module _ {T E B : Type 0} (history : T → List E) (party : E → ℕ) (start : T → B) (allowed : E → Type 0) where
  -- a new seat stands behind the others
  total_end : {A : Type 0} (f : A → ℕ) (xs : List A) (a : A) → total f (xs ++ a ∷ []) ≡ total f xs + f a
  total_end f [] a = omega arith
  total_end f (x ∷ xs) a = let e = total_end f xs a in omega arith

  at_end : (views : List (View E B)) (w u : View E B) (j : ℕ) → get_elem? (views ++ w ∷ []) j ≡ some u → (get_elem? views j ≡ some u) ⊎ (w ≡ u)
  at_end views w u j e = at_snoc views w u j e

  slot_longer : (begin : B) (log : List E) (views : List (View E B)) (slot : Maybe (Option T)) (w : View E B) → InSlot history party start begin log views slot → InSlot history party start begin log (views ++ w ∷ []) slot
  slot_longer begin log views (some y) w kept = kept
  slot_longer begin log views none w (i, u, n, at, has) = (i, u, n, at_longer views (w ∷ []) i u at, has)

  each_end : (ticket serving : ℕ) (log : List E) (views : List (View E B)) (w : View E B) → Each ticket serving log views → Fits ticket serving log w → Each ticket serving log (views ++ w ∷ [])
  each_end ticket serving log views w each fits j u e =
      ⊎_elim (λ (x : get_elem? views j ≡ some u). each j u x) (λ (x : w ≡ u). subst (λ (y : View E B). Fits ticket serving log y) x fits) (at_end views w u j e)

  apart_end : (views : List (View E B)) (w : View E B) → ((n : ℕ) → ¬ HasTicket w.place n) → Apart views → Apart (views ++ w ∷ [])
  apart_end views w none_has apart i j n v u ei ej hi hj =
      ⊎_elim
      (λ (x : get_elem? views i ≡ some v). ⊎_elim
      (λ (y : get_elem? views j ≡ some u). apart i j n v u x y hi hj)
      (λ (y : w ≡ u). absurd (none_has n (subst (λ (z : View E B). HasTicket z.place n) (sym y) hj)))
      (at_end views w u j ej))
      (λ (x : w ≡ v). absurd (none_has n (subst (λ (z : View E B). HasTicket z.place n) (sym x) hi)))
      (at_end views w v i ei)

  pub splits : (p : ℕ) (v : View E B) → v.place ≡ Idle → length v.given < 9 → ¬ (p ≡ 0) → ¬ (Has v.given p) → Splits (Kept history party start allowed) 0 v (left_after p v) (newcomer p v)
  splits p v idle room not0 fresh s k at =
      let w : View E B = left_after p v in
      let new : View E B = newcomer p v in
      let f = k.each 0 v at in
      let root = k.rooted in
      let same : root.0 ≡ v = some-injective root.0 v (sym root.1 ∙ at) in
      let g : length root.0.given ≡ length v.given = ap (λ (u : View E B). length u.given) same in
      let j : length root.0.joined ≡ length v.joined = ap (λ (u : View E B). length u.joined) same in
      let wide = root.3 in
      let sums = root.4 in
      let up : live_of v ≡ 1 = ap live idle in
      let l = length_set s.views 0 w in
      let more = length-append (set s.views 0 w) (new ∷ []) in
      let t = total_set told_of s.views 0 v w at in
      let t' = total_end told_of (set s.views 0 w) new in
      let u = total_set live_of s.views 0 v w at in
      let u' = total_end live_of (set s.views 0 w) new in
      let n : length (v.given ++ p ∷ []) ≡ length v.given + 1 = length-append v.given (p ∷ []) in
      let drawn = k.drawn in
      record {
        begin = k.begin;
        ticket = k.ticket;
        serving = k.serving;
        log = k.log;
        slot = k.slot;
        words = k.words;
        homes = k.homes;
        counted = k.counted;
        served = k.served;
        drawn = omega arith;
        few = omega arith;
        in_slot = slot_longer k.begin k.log (set s.views 0 w) k.slot new (slot_stays history party start allowed k.begin k.log s.views k.slot 0 v w at refl k.in_slot);
        each = each_end k.ticket k.serving k.log (set s.views 0 w) new
            (each_set k.ticket k.serving k.log s.views 0 w (λ j u away atj. k.each j u atj) f)
            (f.0, tt);
        apart = apart_end (set s.views 0 w) new (λ n h. h)
            (apart_set s.views 0 w k.apart (λ j n u away atj hu hw. absurd (away (k.apart j 0 n u v atj at hu hw))));
        rooted = (w, at_longer (set s.views 0 w) (new ∷ []) 0 w (set_there s.views 0 v w at), up, omega arith, omega arith);
        parted = parted_split party k.begin k.log s.views p v at up not0 fresh k.parted;
        lawful = k.lawful;
      }

  pub quiet : (p : Place) → (p ≡ Idle) ⊎ (p ≡ Told) → ((n : ℕ) → ¬ HasTicket p n) × (live p ≡ 1)
  quiet p (inl e) = ((λ n h. subst (λ (q : Place). HasTicket q n) e h), ap live e)
  quiet p (inr e) = ((λ n h. subst (λ (q : Place). HasTicket q n) e h), ap live e)

  stands_quiet : (ticket serving : ℕ) (log seen : List E) (p : Place) → (p ≡ Idle) ⊎ (p ≡ Told) → Stands ticket serving log seen p
  stands_quiet ticket serving log seen p (inl e) = subst (Stands ticket serving log seen) (sym e) tt
  stands_quiet ticket serving log seen p (inr e) = subst (Stands ticket serving log seen) (sym e) tt

  -- a spent seat has no ticket
  pub joins : (v : View E B) (other : ℕ) (w : View E B) → (v.place ≡ Idle) ⊎ (v.place ≡ Told) → ((n : ℕ) → ¬ HasTicket w.place n) → live_of w ≡ 1
      → Joins (Kept history party start allowed) 0 v other w (taken_in v w) spent_view
  joins v other w idle done alive s k at away ato =
      let both : View E B = taken_in v w in
      let mid = set s.views 0 both in
      let f = k.each 0 v at in
      let root = k.rooted in
      let same : root.0 ≡ v = some-injective root.0 v (sym root.1 ∙ at) in
      let g : length root.0.given ≡ length v.given = ap (λ (u : View E B). length u.given) same in
      let j : length root.0.joined ≡ length v.joined = ap (λ (u : View E B). length u.joined) same in
      let wide = root.3 in
      let sums = root.4 in
      let up : live_of v ≡ 1 = (quiet v.place idle).1 in
      let there : get_elem? s.views other ≡ some w = sym (set_else s.views 0 other both away) ∙ ato in
      let f' = k.each other w there in
      let l = length_set s.views 0 both in
      let l' = length_set mid other spent_view in
      let t = total_set told_of s.views 0 v both at in
      let t' = total_set told_of mid other w spent_view ato in
      let u = total_set live_of s.views 0 v both at in
      let u' = total_set live_of mid other w spent_view ato in
      let n : length (v.joined ++ kept_of w ∷ []) ≡ length v.joined + 1 = length-append v.joined (kept_of w ∷ []) in
      let few_told = told_le w.place in
      let drawn = k.drawn in
      let few = k.few in
      let each1 = each_set k.ticket k.serving k.log s.views 0 both (λ i u away1 ati. k.each i u ati)
      (f.0, stands_quiet k.ticket k.serving k.log v.seen v.place idle) in
      let apart1 : Apart mid = apart_set s.views 0 both k.apart (λ i n u away1 ati hu hw. absurd ((quiet v.place idle).0 n hw)) in
      record {
        begin = k.begin;
        ticket = k.ticket;
        serving = k.serving;
        log = k.log;
        slot = k.slot;
        words = k.words;
        homes = k.homes;
        counted = k.counted;
        served = k.served;
        drawn = omega arith;
        few = omega arith;
        in_slot = slot_kept history party start allowed k.begin k.log mid k.slot other w spent_view ato (λ n e. done n (subst (λ (q : Place). HasTicket q n) (sym e) refl))
            (slot_stays history party start allowed k.begin k.log s.views k.slot 0 v both at refl k.in_slot);
        each = each_set k.ticket k.serving k.log mid other spent_view (λ i u away1 ati. each1 i u ati) ((k.log, refl), tt);
        apart = apart_set mid other spent_view apart1 (λ i n u away1 ati hu hw. absurd hw);
        rooted = (both, set_else mid other 0 spent_view (λ e. away (sym e)) ∙ set_there s.views 0 v both at, up, omega arith, omega arith);
        parted = parted_join party k.begin k.log s.views v other w at up away there alive f'.0 k.parted;
        lawful = k.lawful;
      }

  two_live : (views : List (View E B)) (i : ℕ) (v u : View E B) → get_elem? views 0 ≡ some v → get_elem? views i ≡ some u → ¬ (i ≡ 0) → live_of v + live_of u ≤ total live_of views
  two_live [] i v u a b ne = absurd (some-ne-none v (sym a))
  two_live (x ∷ xs) zero v u a b ne = absurd (ne refl)
  two_live (x ∷ xs) (suc i) v u a b ne =
      let e : live_of x ≡ live_of v = ap live_of (some-injective x v a) in let m = in_total xs i u b in omega arith
    where
      in_total : (ys : List (View E B)) (n : ℕ) (y : View E B) → get_elem? ys n ≡ some y → live_of y ≤ total live_of ys
      in_total [] n y at = absurd (some-ne-none y (sym at))
      in_total (z ∷ zs) zero y at = let q : live_of z ≡ live_of y = ap live_of (some-injective z y at) in omega arith
      in_total (z ∷ zs) (suc n) y at = let q = in_total zs n y at in omega arith

  -- with all seats taken in the slot is at home
  pub at_home : (s : State (Option T) (View E B)) (k : Kept history party start allowed s) (v : View E B) → get_elem? s.views 0 ≡ some v → (v.place ≡ Idle) ⊎ (v.place ≡ Told) → length v.joined ≡ length v.given
      → (x : T) × (get_elem? s.homes 0 ≡ some (some (Some x))) × (history x ≡ k.log) × (start x ≡ k.begin)
  at_home s k v at idle all = from k.slot refl k.in_slot
    where
      root : Rooted s.views
      root = k.rooted

      same : root.0 ≡ v
      same = some-injective root.0 v (sym root.1 ∙ at)

      from : (slot : Maybe (Option T)) → k.slot ≡ slot → InSlot history party start k.begin k.log s.views slot → (x : T) × (get_elem? s.homes 0 ≡ some (some (Some x))) × (history x ≡ k.log) × (start x ≡ k.begin)
      from (some y) e (x, is_x, carries, begins_so) =
          (x, ap (λ (hs : List (Maybe (Option T))). get_elem? hs 0) (k.homes ∙ ap (λ (h : Maybe (Option T)). h ∷ []) (e ∙ ap some is_x)), carries, begins_so)
      from none e (i, u, n, ati, has) =
          let g : length root.0.given ≡ length v.given = ap (λ (z : View E B). length z.given) same in
          let j : length root.0.joined ≡ length v.joined = ap (λ (z : View E B). length z.joined) same in
          let sums = root.4 in
          let up : live_of v ≡ 1 = (quiet v.place idle).1 in
          let down : live_of u ≡ 1 = ap live has in
          dite (ℕ_discrete i 0)
          (λ here. absurd ((quiet v.place idle).0 n (subst (λ (q : Place). HasTicket q n) (sym (ap (λ (z : View E B). z.place) (some-injective v u (sym at ∙ sym (ap (λ (m : ℕ). get_elem? s.views m) here) ∙ ati)) ∙ has)) refl)))
          (λ away. let two = two_live s.views i v u at ati away in absurd (omega arith))

  pub splits_at : (p id : ℕ) (v : View E B) → id ≡ 0 → v.place ≡ Idle → length v.given < 9 → ¬ (p ≡ 0) → ¬ (Has v.given p) → Splits (Kept history party start allowed) id v (left_after p v) (newcomer p v)
  splits_at p id v first idle room not0 fresh = subst (λ (i : ℕ). Splits (Kept history party start allowed) i v (left_after p v) (newcomer p v)) (sym first) (splits p v idle room not0 fresh)

  pub joins_at : (id : ℕ) (v : View E B) (other : ℕ) (w : View E B) → id ≡ 0 → (v.place ≡ Idle) ⊎ (v.place ≡ Told) → (w.place ≡ Idle) ⊎ (w.place ≡ Told)
      → Joins (Kept history party start allowed) id v other w (taken_in v w) spent_view
  joins_at id v other w first idle done =
      let q = quiet w.place done in
      subst (λ (i : ℕ). Joins (Kept history party start allowed) i v other w (taken_in v w) spent_view) (sym first) (joins v other w idle q.0 q.1)

  -- what stands in the slot once the table is closed
  pub record Whole (x : T) (v : View E B) : Type 0 where
    pub seen : StartsWith (history x) v.seen
    pub began : start x ∷ [] ≡ v.root
    pub own : v.own ≡ own_of party v.party (history x)
    pub joined : (i : ℕ) (y : Taken E) → get_elem? v.joined i ≡ some y → Has v.given y.party × (y.own ≡ own_of party y.party (history x)) × StartsWith (history x) y.seen
    pub known : (i : ℕ) (e : E) → get_elem? (history x) i ≡ some e → IsKnown v.given (party e)
    pub allowed_all : AllOf allowed (history x)

  pub closes : (id : ℕ) (v : View E B) (ws : List ℕ) (xs : List (Option T)) → Final (Seen (Kept history party start allowed) id v) ws xs → id ≡ 0 → (v.place ≡ Idle) ⊎ (v.place ≡ Told) → length v.joined ≡ length v.given
      → (x : T) × (get_elem? xs 0 ≡ some (Some x)) × Whole x v
  closes id v ws xs (s, (k, at), same_ws, long, there) first idle all =
      let at0 : get_elem? s.views 0 ≡ some v = subst (λ (i : ℕ). get_elem? s.views i ≡ some v) first at in
      let home = at_home s k v at0 idle all in
      let up : live_of v ≡ 1 = (quiet v.place idle).1 in
      let same : k.parted.first ≡ v = some-injective k.parted.first v (sym k.parted.at0 ∙ at0) in (
        home.0,
        there 0 (Some home.0) home.1,
        record {
          seen = subst (λ (l : List E). StartsWith l v.seen) (sym home.2) (k.each 0 v at0).0;
          began = ap (λ (b : B). b ∷ []) home.3 ∙ sym (k.parted.begun 0 v at0 up);
          own = k.parted.mine 0 v at0 up ∙ ap (λ (l : List E). own_of party v.party l) (sym home.2);
          joined = λ i y ati. let t = k.parted.taken i y (ap (λ (u : View E B). get_elem? u.joined i) same ∙ ati) in
              (subst (λ (u : View E B). Has u.given y.party) same t.0, t.1 ∙ ap (λ (l : List E). own_of party y.party l) (sym home.2), subst (λ (l : List E). StartsWith l y.seen) (sym home.2) t.2);
          known = λ i e ati. subst (λ (u : View E B). IsKnown u.given (party e)) same (k.parted.known i e (sym (ap (λ (l : List E). get_elem? l i) home.2) ∙ ati));
          allowed_all = subst (λ (l : List E). AllOf allowed l) (sym home.2) k.lawful;
        },
      )

  pub one_state : (x y : T) (r : Option T) → r ≡ Some x → r ≡ Some y → y ≡ x
  one_state x y r a b = ap pick (sym b ∙ a)
    where
      pick : Option T → T
      pick (Some z) = z
      pick None = x
