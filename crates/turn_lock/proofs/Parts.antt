-- Whose each entry is, from step to step.
use Rattle.std.proofs.Common.{◌≡◌, ◌≢◌, ℕ, zero, suc, List, [], ◌∷◌, ◌++◌, length, set, Bool, true, false, refl, sym, ap, ◌∙◌, subst, inl, inr, ⊎_elim, arith, append_assoc, eq-eqb, ne_eqb}
use Rattle.std.specs.Prelude.{◌==◌}
use Rattle.std.proofs.lemmas.List.{append-nil}
use mathlib.Core.Option.{some, some-ne-none, some-injective}
use mathlib.Core.Logic.{dite}
use native.Mathlib.Decide.{ℕ_discrete}
use lib.ListN.{get_elem?}
use Rattle.muck_laws.proofs.Places.{set_swap}
use Rattle.atomic_table.proofs.Lists.{at_set, set_else, at_snoc, at_longer}
use Rattle.turn_lock.specs.declared.view.Taken.{Taken}
use Rattle.turn_lock.specs.declared.view.View.{View}
use Rattle.turn_lock.specs.Histories.{StartsWith, entry_kept, own_of, Has, IsKnown}
use Rattle.turn_lock.specs.inner.Turns.{live_of, Parted, left_after, newcomer, kept_of, taken_in, spent_view}

module _ {E : Type 0} (party : E → ℕ) where
  kept_append : (b : Bool) (e : E) (xs ys : List E) → entry_kept b e xs ++ ys ≡ entry_kept b e (xs ++ ys)
  kept_append true e xs ys = refl
  kept_append false e xs ys = refl

  pub own_append : (p : ℕ) (xs ys : List E) → own_of party p (xs ++ ys) ≡ own_of party p xs ++ own_of party p ys
  own_append p [] ys = refl
  own_append p (e ∷ es) ys = ap (entry_kept (party e == p) e) (own_append p es ys) ∙ sym (kept_append (party e == p) e (own_of party p es) (own_of party p ys))

  pub own_one : (p : ℕ) (e : E) → party e ≡ p → own_of party p (e ∷ []) ≡ e ∷ []
  own_one p e is = ap (λ (b : Bool). entry_kept b e []) (eq-eqb (party e) p is)

  pub own_other : (p : ℕ) (e : E) → ¬ (party e ≡ p) → own_of party p (e ∷ []) ≡ []
  own_other p e not = ap (λ (b : Bool). entry_kept b e []) (ne_eqb (party e) p not)

  pub own_mine : (p : ℕ) (log : List E) (e : E) → party e ≡ p → own_of party p (log ++ e ∷ []) ≡ own_of party p log ++ e ∷ []
  own_mine p log e is = own_append p log (e ∷ []) ∙ ap (λ (l : List E). own_of party p log ++ l) (own_one p e is)

  pub own_still : (p : ℕ) (log : List E) (e : E) → ¬ (party e ≡ p) → own_of party p (log ++ e ∷ []) ≡ own_of party p log
  own_still p log e not = own_append p log (e ∷ []) ∙ ap (λ (l : List E). own_of party p log ++ l) (own_other p e not) ∙ append-nil (own_of party p log)

  -- who has no entry
  pub own_none : (p : ℕ) (log : List E) → ((i : ℕ) (e : E) → get_elem? log i ≡ some e → ¬ (party e ≡ p)) → own_of party p log ≡ []
  own_none p [] none_is = refl
  own_none p (e ∷ es) none_is =
      ap (λ (b : Bool). entry_kept b e (own_of party p es)) (ne_eqb (party e) p (none_is 0 e refl)) ∙ own_none p es (λ i d at. none_is (suc i) d at)

-- a front of a history is one of a longer one
still_front : {E : Type 0} (log seen : List E) (e : E) → StartsWith log seen → StartsWith (log ++ e ∷ []) seen
still_front log seen e (more, is) = (more ++ e ∷ [], ap (λ l. l ++ e ∷ []) is ∙ append_assoc seen more (e ∷ []))

pub has_more : {A : Type 0} (xs ys : List A) (x : A) → Has xs x → Has (xs ++ ys) x
has_more xs ys x (i, at) = (i, at_longer xs ys i x at)

pub known_map : (xs ys : List ℕ) (p : ℕ) → ((n : ℕ) → Has xs n → Has ys n) → IsKnown xs p → IsKnown ys p
known_map xs ys p f (inl e) = inl e
known_map xs ys p f (inr h) = inr (f p h)

at_end : {A : Type 0} (xs : List A) (x : A) → Has (xs ++ x ∷ []) x
at_end [] x = (0, refl)
at_end (y ∷ ys) x = let h = at_end ys x in (suc h.0, h.1)

module _ {E B : Type 0} where
  set_there : (views : List (View E B)) (id : ℕ) (v w : View E B) → get_elem? views id ≡ some v → get_elem? (set views id w) id ≡ some w
  set_there [] id v w at = absurd (some-ne-none v (sym at))
  set_there (x ∷ xs) zero v w at = refl
  set_there (x ∷ xs) (suc id) v w at = set_there xs id v w at

  -- A view of a list in which one was changed is like one of the list before.
  pub record Like (u v : View E B) : Type 0 where
    pub live : live_of u ≡ live_of v
    pub party : u.party ≡ v.party

  -- what stood at the place of a changed list
  pub before : (views : List (View E B)) (id : ℕ) (v w : View E B) → get_elem? views id ≡ some v → Like w v
      → (j : ℕ) (u : View E B) → get_elem? (set views id w) j ≡ some u → (o : View E B) × (get_elem? views j ≡ some o) × Like u o
  before views id v w at like j u e =
      ⊎_elim
      (λ (x : (j ≡ id) × (w ≡ u)). (v, (ap (λ (k : ℕ). get_elem? views k) x.0 ∙ at), subst (λ (y : View E B). Like y v) x.1 like))
      (λ (x : (j ≢ id) × (get_elem? views j ≡ some u)). (u, x.1, record { live = refl; party = refl }))
      (at_set views id j w u e)

module _ {E B : Type 0} (party : E → ℕ) where
  -- a step that leaves whose the seat is
  pub parted_set : (begin : B) (log : List E) (views : List (View E B)) (id : ℕ) (v w : View E B) → get_elem? views id ≡ some v
      → live_of w ≡ live_of v → w.party ≡ v.party → w.root ≡ v.root → w.own ≡ v.own → ((p : ℕ) → Has v.given p → Has w.given p) → w.joined ≡ v.joined
      → Parted party begin log views → Parted party begin log (set views id w)
  parted_set begin log views id v w at lives parties roots owns gives joins k =
      dite (ℕ_discrete id 0)
      (λ here.
      let same : k.first ≡ v = some-injective k.first v (sym k.at0 ∙ sym (ap (λ (n : ℕ). get_elem? views n) here) ∙ at) in
      from w (subst (λ (n : ℕ). get_elem? (set views id w) n ≡ some w) here (set_there views id v w at))
      (parties ∙ sym (ap (λ (u : View E B). u.party) same)) (lives ∙ sym (ap live_of same))
      (λ n h. gives n (subst (λ (u : View E B). Has u.given n) same h)) (joins ∙ sym (ap (λ (u : View E B). u.joined) same)))
      (λ away. from k.first (set_else views id 0 w (λ e. away (sym e)) ∙ k.at0) refl refl (λ n h. h) refl)
    where
      like : Like w v
      like = record { live = lives; party = parties }

      from : (f : View E B) → get_elem? (set views id w) 0 ≡ some f → f.party ≡ k.first.party → live_of f ≡ live_of k.first → ((n : ℕ) → Has k.first.given n → Has f.given n) → f.joined ≡ k.first.joined
          → Parted party begin log (set views id w)
      from f at0 p l g j = record {
        first = f;
        at0 = at0;
        zero = p ∙ k.zero;
        up = l ∙ k.up;
        begun = λ i u ati up. ⊎_elim
            (λ (x : (i ≡ id) × (w ≡ u)). subst (λ (y : View E B). y.root ≡ begin ∷ []) x.1 (roots ∙ k.begun id v at (sym lives ∙ ap live_of x.1 ∙ up)))
            (λ (x : (i ≢ id) × (get_elem? views i ≡ some u)). k.begun i u x.1 up)
            (at_set views id i w u ati);
        mine = λ i u ati up. ⊎_elim
            (λ (x : (i ≡ id) × (w ≡ u)). subst (λ (y : View E B). y.own ≡ own_of party y.party log) x.1
            (owns ∙ k.mine id v at (sym lives ∙ ap live_of x.1 ∙ up) ∙ ap (λ (n : ℕ). own_of party n log) (sym parties)))
            (λ (x : (i ≢ id) × (get_elem? views i ≡ some u)). k.mine i u x.1 up)
            (at_set views id i w u ati);
        lone = λ i i' u u' ati ati' up up' e.
            let a = before views id v w at like i u ati in
            let b = before views id v w at like i' u' ati' in
            k.lone i i' a.0 b.0 a.1 b.1 (sym a.2.live ∙ up) (sym b.2.live ∙ up') (sym a.2.party ∙ e ∙ b.2.party);
        named = λ i u ati up.
            let a = before views id v w at like i u ati in
            known_map k.first.given f.given u.party g (subst (λ (n : ℕ). IsKnown k.first.given n) (sym a.2.party) (k.named i a.0 a.1 (sym a.2.live ∙ up)));
        taken = λ i x ati.
            let t = k.taken i x (sym (ap (λ (xs : List (Taken E)). get_elem? xs i) j) ∙ ati) in (
              g x.party t.0,
              t.1,
              t.2,
              (λ i' u ati' up. let a = before views id v w at like i' u ati' in λ e. t.3 i' a.0 a.1 (sym a.2.live ∙ up) (sym a.2.party ∙ e)),
            );
        known = λ i e ati. known_map k.first.given f.given (party e) g (k.known i e ati);
      }

  -- an entry of the seat's party
  pub parted_pass : (begin : B) (log : List E) (views : List (View E B)) (id : ℕ) (v : View E B) (e : E) → get_elem? views id ≡ some v → live_of v ≡ 1 → party e ≡ v.party
      → (w : View E B) → live_of w ≡ 1 → w.party ≡ v.party → w.root ≡ v.root → w.own ≡ v.own ++ e ∷ [] → w.given ≡ v.given → w.joined ≡ v.joined
      → Parted party begin log views → Parted party begin (log ++ e ∷ []) (set views id w)
  parted_pass begin log views id v e at alive whose w lives parties roots owns gives joins k =
      dite (ℕ_discrete id 0)
      (λ here.
      let same : k.first ≡ v = some-injective k.first v (sym k.at0 ∙ sym (ap (λ (n : ℕ). get_elem? views n) here) ∙ at) in
      from w (subst (λ (n : ℕ). get_elem? (set views id w) n ≡ some w) here (set_there views id v w at))
      (parties ∙ sym (ap (λ (u : View E B). u.party) same)) lives
      (gives ∙ sym (ap (λ (u : View E B). u.given) same)) (joins ∙ sym (ap (λ (u : View E B). u.joined) same)))
      (λ away. from k.first (set_else views id 0 w (λ e. away (sym e)) ∙ k.at0) refl k.up refl refl)
    where
      like : Like w v
      like = record { live = lives ∙ sym alive; party = parties }

      from : (f : View E B) → get_elem? (set views id w) 0 ≡ some f → f.party ≡ k.first.party → live_of f ≡ 1 → f.given ≡ k.first.given → f.joined ≡ k.first.joined
          → Parted party begin (log ++ e ∷ []) (set views id w)
      from f at0 p l g j = record {
        first = f;
        at0 = at0;
        zero = p ∙ k.zero;
        up = l;
        begun = λ i u ati up. ⊎_elim
            (λ (x : (i ≡ id) × (w ≡ u)). subst (λ (y : View E B). y.root ≡ begin ∷ []) x.1 (roots ∙ k.begun id v at alive))
            (λ (x : (i ≢ id) × (get_elem? views i ≡ some u)). k.begun i u x.1 up)
            (at_set views id i w u ati);
        mine = λ i u ati up. ⊎_elim
            (λ (x : (i ≡ id) × (w ≡ u)). subst (λ (y : View E B). y.own ≡ own_of party y.party (log ++ e ∷ [])) x.1
            (owns ∙ ap (λ (l : List E). l ++ e ∷ []) (k.mine id v at alive) ∙ sym (own_mine party v.party log e whose) ∙ ap (λ (n : ℕ). own_of party n (log ++ e ∷ [])) (sym parties)))
            (λ (x : (i ≢ id) × (get_elem? views i ≡ some u)). k.mine i u x.1 up
            ∙ sym (own_still party u.party log e (λ is. x.0 (k.lone i id u v x.1 at up alive (sym is ∙ whose)))))
            (at_set views id i w u ati);
        lone = λ i i' u u' ati ati' up up' same.
            let a = before views id v w at like i u ati in
            let b = before views id v w at like i' u' ati' in
            k.lone i i' a.0 b.0 a.1 b.1 (sym a.2.live ∙ up) (sym b.2.live ∙ up') (sym a.2.party ∙ same ∙ b.2.party);
        named = λ i u ati up.
            let a = before views id v w at like i u ati in
            subst (λ (xs : List ℕ). IsKnown xs u.party) (sym g) (subst (λ (n : ℕ). IsKnown k.first.given n) (sym a.2.party) (k.named i a.0 a.1 (sym a.2.live ∙ up)));
        taken = λ i x ati.
            let t = k.taken i x (sym (ap (λ (xs : List (Taken E)). get_elem? xs i) j) ∙ ati) in (
              subst (λ (xs : List ℕ). Has xs x.party) (sym g) t.0,
              (t.1 ∙ sym (own_still party x.party log e (λ is. t.3 id v at alive (sym whose ∙ is)))),
              still_front log x.seen e t.2,
              (λ i' u ati' up. let a = before views id v w at like i' u ati' in λ same. t.3 i' a.0 a.1 (sym a.2.live ∙ up) (sym a.2.party ∙ same)),
            );
        known = λ i d ati. subst (λ (xs : List ℕ). IsKnown xs (party d)) (sym g) (⊎_elim
            (λ (x : get_elem? log i ≡ some d). k.known i d x)
            (λ (x : e ≡ d). subst (λ (y : E). IsKnown k.first.given (party y)) x (subst (λ (n : ℕ). IsKnown k.first.given n) (sym whose) (k.named id v at alive)))
            (at_snoc log e d i ati));
      }

  pub parted_begin : (begin : B) (v : View E B) → v.party ≡ 0 → live_of v ≡ 1 → v.root ≡ begin ∷ [] → v.own ≡ [] → v.joined ≡ [] → Parted party begin [] (v ∷ [])
  parted_begin begin v is_zero alive root own joined = record {
    first = v;
    at0 = refl;
    zero = is_zero;
    up = alive;
    begun = λ i u at up. subst (λ (y : View E B). y.root ≡ begin ∷ []) (one i u at) root;
    mine = λ i u at up. subst (λ (y : View E B). y.own ≡ []) (one i u at) own;
    lone = lone;
    named = λ i u at up. subst (λ (y : View E B). IsKnown v.given y.party) (one i u at) (inl is_zero);
    taken = λ i x at. absurd (some-ne-none x (sym (sym (ap (λ (xs : List (Taken E)). get_elem? xs i) joined) ∙ at)));
    known = λ i e at. absurd (some-ne-none e (sym at));
  }
    where
      one : (i : ℕ) (u : View E B) → get_elem? (v ∷ []) i ≡ some u → v ≡ u
      one zero u at = some-injective v u at
      one (suc i) u at = absurd (some-ne-none u (sym at))

      lone : (i j : ℕ) (a b : View E B) → get_elem? (v ∷ []) i ≡ some a → get_elem? (v ∷ []) j ≡ some b → live_of a ≡ 1 → live_of b ≡ 1 → a.party ≡ b.party → i ≡ j
      lone zero zero a b ea eb la lb e = refl
      lone zero (suc j) a b ea eb la lb e = absurd (some-ne-none b (sym eb))
      lone (suc i) j a b ea eb la lb e = absurd (some-ne-none a (sym ea))

  -- a seat behind the others, for a party that has no seat and no entry
  pub parted_add : (begin : B) (log : List E) (views : List (View E B)) (new : View E B) (k : Parted party begin log views)
      → new.root ≡ begin ∷ [] → new.own ≡ [] → Has k.first.given new.party
      → ((i : ℕ) (e : E) → get_elem? log i ≡ some e → ¬ (party e ≡ new.party))
      → ((i : ℕ) (v : View E B) → get_elem? views i ≡ some v → live_of v ≡ 1 → ¬ (v.party ≡ new.party))
      → ((i : ℕ) (x : Taken E) → get_elem? k.first.joined i ≡ some x → ¬ (new.party ≡ x.party))
      → Parted party begin log (views ++ new ∷ [])
  parted_add begin log views new k root own given silent alone apart = record {
    first = k.first;
    at0 = at_longer views (new ∷ []) 0 k.first k.at0;
    zero = k.zero;
    up = k.up;
    begun = λ i u ati up. ⊎_elim
        (λ (x : get_elem? views i ≡ some u). k.begun i u x up)
        (λ (x : new ≡ u). subst (λ (y : View E B). y.root ≡ begin ∷ []) x root)
        (at_snoc views new u i ati);
    mine = λ i u ati up. ⊎_elim
        (λ (x : get_elem? views i ≡ some u). k.mine i u x up)
        (λ (x : new ≡ u). subst (λ (y : View E B). y.own ≡ own_of party y.party log) x (own ∙ sym (own_none party new.party log silent)))
        (at_snoc views new u i ati);
    lone = λ i j u v ati atj ui uj e. ⊎_elim
        (λ (x : get_elem? views i ≡ some u). ⊎_elim
        (λ (y : get_elem? views j ≡ some v). k.lone i j u v x y ui uj e)
        (λ (y : new ≡ v). absurd (alone i u x ui (e ∙ sym (ap (λ (z : View E B). z.party) y))))
        (at_snoc views new v j atj))
        (λ (x : new ≡ u). ⊎_elim
        (λ (y : get_elem? views j ≡ some v). absurd (alone j v y uj (sym e ∙ sym (ap (λ (z : View E B). z.party) x))))
        (λ (y : new ≡ v). place views alone i u ati ui x ∙ sym (place views alone j v atj uj y))
        (at_snoc views new v j atj))
        (at_snoc views new u i ati);
    named = λ i u ati up. ⊎_elim
        (λ (x : get_elem? views i ≡ some u). k.named i u x up)
        (λ (x : new ≡ u). subst (λ (y : View E B). IsKnown k.first.given y.party) x (inr given))
        (at_snoc views new u i ati);
    taken = λ i x ati. let t = k.taken i x ati in (
      t.0,
      t.1,
      t.2,
      (λ j u atj up. ⊎_elim
          (λ (y : get_elem? views j ≡ some u). t.3 j u y up)
          (λ (y : new ≡ u). λ (e : u.party ≡ x.party). apart i x ati (ap (λ (z : View E B). z.party) y ∙ e))
          (at_snoc views new u j atj)),
    );
    known = k.known;
  }
    where
      -- the new one stands at the end alone, since no other has its party
      place : (xs : List (View E B)) → ((i : ℕ) (v : View E B) → get_elem? xs i ≡ some v → live_of v ≡ 1 → ¬ (v.party ≡ new.party))
          → (i : ℕ) (u : View E B) → get_elem? (xs ++ new ∷ []) i ≡ some u → live_of u ≡ 1 → new ≡ u → i ≡ length xs
      place [] free zero u at up e = refl
      place [] free (suc i) u at up e = absurd (some-ne-none u (sym at))
      place (x ∷ xs) free zero u at up e = absurd (free 0 u at up (sym (ap (λ (z : View E B). z.party) e)))
      place (x ∷ xs) free (suc i) u at up e = ap suc (place xs (λ j v atj. free (suc j) v atj) i u at up e)

  -- a seat is spent
  pub parted_spend : (begin : B) (log : List E) (views : List (View E B)) (id : ℕ) (w : View E B) → id ≢ 0 → ¬ (live_of w ≡ 1)
      → Parted party begin log views → Parted party begin log (set views id w)
  parted_spend begin log views id w away gone k = record {
    first = k.first;
    at0 = set_else views id 0 w (λ e. away (sym e)) ∙ k.at0;
    zero = k.zero;
    up = k.up;
    begun = λ i u ati up. k.begun i u (old i u ati up) up;
    mine = λ i u ati up. k.mine i u (old i u ati up) up;
    lone = λ i j u v ati atj ui uj e. k.lone i j u v (old i u ati ui) (old j v atj uj) ui uj e;
    named = λ i u ati up. k.named i u (old i u ati up) up;
    taken = λ i x ati. let t = k.taken i x ati in (t.0, t.1, t.2, (λ j u atj up. t.3 j u (old j u atj up) up));
    known = k.known;
  }
    where
      old : (i : ℕ) (u : View E B) → get_elem? (set views id w) i ≡ some u → live_of u ≡ 1 → get_elem? views i ≡ some u
      old i u ati up = ⊎_elim
          (λ (x : (i ≡ id) × (w ≡ u)). absurd (gone (ap live_of x.1 ∙ up)))
          (λ (x : (i ≢ id) × (get_elem? views i ≡ some u)). x.1)
          (at_set views id i w u ati)

  -- the first seat keeps the entries of a party that has no seat any more
  pub parted_keep : (begin : B) (log : List E) (views : List (View E B)) (v w : View E B) (n : Taken E) → get_elem? views 0 ≡ some v
      → live_of w ≡ live_of v → w.party ≡ v.party → w.root ≡ v.root → w.own ≡ v.own → w.given ≡ v.given → w.joined ≡ v.joined ++ n ∷ []
      → Has v.given n.party → n.own ≡ own_of party n.party log → StartsWith log n.seen → ((j : ℕ) (u : View E B) → get_elem? views j ≡ some u → live_of u ≡ 1 → ¬ (u.party ≡ n.party))
      → Parted party begin log views → Parted party begin log (set views 0 w)
  parted_keep begin log views v w n at lives parties roots owns gives joins given is front none_has k = record {
    first = w;
    at0 = set_there views 0 v w at;
    zero = parties ∙ sym (ap (λ (u : View E B). u.party) same) ∙ k.zero;
    up = lives ∙ sym (ap live_of same) ∙ k.up;
    begun = λ i u ati up. ⊎_elim
        (λ (x : (i ≡ 0) × (w ≡ u)). subst (λ (y : View E B). y.root ≡ begin ∷ []) x.1 (roots ∙ k.begun 0 v at (sym lives ∙ ap live_of x.1 ∙ up)))
        (λ (x : (i ≢ 0) × (get_elem? views i ≡ some u)). k.begun i u x.1 up)
        (at_set views 0 i w u ati);
    mine = λ i u ati up. ⊎_elim
        (λ (x : (i ≡ 0) × (w ≡ u)). subst (λ (y : View E B). y.own ≡ own_of party y.party log) x.1
        (owns ∙ k.mine 0 v at (sym lives ∙ ap live_of x.1 ∙ up) ∙ ap (λ (n : ℕ). own_of party n log) (sym parties)))
        (λ (x : (i ≢ 0) × (get_elem? views i ≡ some u)). k.mine i u x.1 up)
        (at_set views 0 i w u ati);
    lone = λ i j u u' ati atj ui uj e.
        let a = before views 0 v w at like i u ati in
        let b = before views 0 v w at like j u' atj in
        k.lone i j a.0 b.0 a.1 b.1 (sym a.2.live ∙ ui) (sym b.2.live ∙ uj) (sym a.2.party ∙ e ∙ b.2.party);
    named = λ i u ati up.
        let a = before views 0 v w at like i u ati in
        subst (λ (xs : List ℕ). IsKnown xs u.party) same_given (subst (λ (n : ℕ). IsKnown k.first.given n) (sym a.2.party) (k.named i a.0 a.1 (sym a.2.live ∙ up)));
    taken = λ i x ati. ⊎_elim
        (λ (y : get_elem? v.joined i ≡ some x).
        let t = k.taken i x (ap (λ (u : View E B). get_elem? u.joined i) same ∙ y) in (
          subst (λ (xs : List ℕ). Has xs x.party) same_given t.0,
          t.1,
          t.2,
          (λ j u atj up. let a = before views 0 v w at like j u atj in λ (e : u.party ≡ x.party). t.3 j a.0 a.1 (sym a.2.live ∙ up) (sym a.2.party ∙ e)),
        ))
        (λ (y : n ≡ x). (
          subst (λ (z : Taken E). Has w.given z.party) y (subst (λ (xs : List ℕ). Has xs n.party) (sym gives) given),
          subst (λ (z : Taken E). z.own ≡ own_of party z.party log) y is,
          subst (λ (z : Taken E). StartsWith log z.seen) y front,
          (λ j u atj up. let a = before views 0 v w at like j u atj in λ (e : u.party ≡ x.party). none_has j a.0 a.1 (sym a.2.live ∙ up) (sym a.2.party ∙ e ∙ sym (ap (λ (z : Taken E). z.party) y))),
        ))
        (at_snoc v.joined n x i (sym (ap (λ (xs : List (Taken E)). get_elem? xs i) joins) ∙ ati));
    known = λ i e ati. subst (λ (xs : List ℕ). IsKnown xs (party e)) same_given (k.known i e ati);
  }
    where
      same : k.first ≡ v
      same = some-injective k.first v (sym k.at0 ∙ at)

      same_given : k.first.given ≡ w.given
      same_given = ap (λ (u : View E B). u.given) (some-injective k.first v (sym k.at0 ∙ at)) ∙ sym gives

      like : Like w v
      like = record { live = lives; party = parties }

  -- a seat for a new party
  pub parted_split : (begin : B) (log : List E) (views : List (View E B)) (p : ℕ) (v : View E B) → get_elem? views 0 ≡ some v → live_of v ≡ 1
      → ¬ (p ≡ 0) → ¬ (Has v.given p) → Parted party begin log views → Parted party begin log (set views 0 (left_after p v) ++ newcomer p v ∷ [])
  parted_split begin log views p v at alive not0 fresh k =
      let like : Like (left_after p v) v = record { live = refl; party = refl } in
      let k' = parted_set begin log views 0 v (left_after p v) at refl refl refl refl (λ n h. has_more v.given (p ∷ []) n h) refl k in
      let same' : k'.first ≡ left_after p v = some-injective k'.first (left_after p v) (sym k'.at0 ∙ set_there views 0 v (left_after p v) at) in
      parted_add begin log (set views 0 (left_after p v)) (newcomer p v) k'
      (k.begun 0 v at alive) refl
      (subst (λ (u : View E B). Has u.given p) (sym same') (at_end v.given p))
      (λ i e ati is. unknown (subst (λ (n : ℕ). IsKnown k.first.given n) is (k.known i e ati)))
      (λ i u ati up is. let a = before views 0 v (left_after p v) at like i u ati in unknown (subst (λ (n : ℕ). IsKnown k.first.given n) (sym a.2.party ∙ is) (k.named i a.0 a.1 (sym a.2.live ∙ up))))
      (λ i x ati is. unknown (inr (subst (λ (n : ℕ). Has k.first.given n) (sym is) (k.taken i x (ap (λ (u : View E B). get_elem? u.joined i) same ∙ sym (ap (λ (u : View E B). get_elem? u.joined i) same') ∙ ati)).0)))
    where
      same : k.first ≡ v
      same = some-injective k.first v (sym k.at0 ∙ at)

      unknown : IsKnown k.first.given p → ⊥
      unknown (inl e) = not0 e
      unknown (inr h) = fresh (subst (λ (u : View E B). Has u.given p) same h)

  -- a seat is taken in
  pub parted_join : (begin : B) (log : List E) (views : List (View E B)) (v : View E B) (other : ℕ) (w : View E B) → get_elem? views 0 ≡ some v → live_of v ≡ 1
      → other ≢ 0 → get_elem? views other ≡ some w → live_of w ≡ 1 → StartsWith log w.seen
      → Parted party begin log views → Parted party begin log (set (set views 0 (taken_in v w)) other spent_view)
  parted_join begin log views v other w at alive away ato up front k =
      let gone : ¬ (live_of (spent_view {E = E} {B = B}) ≡ 1) = λ e. absurd (omega arith) in
      let k' = parted_spend begin log views other spent_view away gone k in
      let same : k.first ≡ v = some-injective k.first v (sym k.at0 ∙ at) in
      let known = k.named other w ato up in
      let given : Has v.given w.party = ⊎_elim
      (λ (e : w.party ≡ 0). absurd (away (k.lone other 0 w k.first ato k.at0 up k.up (e ∙ sym k.zero))))
      (λ (h : Has k.first.given w.party). subst (λ (u : View E B). Has u.given w.party) same h)
      known in
      subst (λ (l : List (View E B)). Parted party begin log l) (set_swap views other 0 spent_view (taken_in v w) away)
      (parted_keep begin log (set views other spent_view) v (taken_in v w) (kept_of w) (set_else views other 0 spent_view (λ e. away (sym e)) ∙ at)
      refl refl refl refl refl refl given (k.mine other w ato up) front
      (λ j u atj uj e. ⊎_elim
      (λ (x : (j ≡ other) × (spent_view ≡ u)). gone (ap live_of x.1 ∙ uj))
      (λ (x : (j ≢ other) × (get_elem? views j ≡ some u)). x.0 (k.lone j other u w x.1 ato uj up e))
      (at_set views other j spent_view u atj))
      k')
