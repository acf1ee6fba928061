-- Two files while a batch is written into one of them.
use Rattle.std.proofs.Common.{◌≡◌, ◌⊎◌, inl, inr, ⊎_elim, ℕ, ◌+◌, ◌<◌, ◌≤◌, ◌^◌, Bool, true, false, not, cond, eqb, ltb, ◌||◌, List, length, Option, Some, None, Result, Ok, Err, option_map, option_and_then, refl, sym, ◌∙◌, ap, subst, arith}
use Rattle.std.proofs.lemmas.Bool.{cases_eq, cases_Bool, cond-true, cond-false, eq-eqb, ne_eqb, lt-ltb, le-ltb, ltb-true, ltb-false, and_from, or_left, or_right}
use Rattle.muck_log.specs.Body.{Body, body_bytes}
use Rattle.muck_log.specs.World.{StoredWorld, laid}
use Rattle.muck_log.specs.File.{Held, ReadingEnd, Opened, begin, join, follows, after_number, file_of}
use Rattle.muck_log.specs.Store.{Chosen, Damage, file_loaded, file_picked, store_of, opens_new, target, framed, IsDone, MayBe, pick}
use Rattle.muck_log.specs.Append.{IsEither}
use Rattle.muck_log.proofs.Files.{opened, file_facts, kept_open, kept_start, done_open, done_start, body_reads, head_reads, body_length}

-- the file that is written, and the other, in their order
abbrev pub stored_at : Bool → List ℕ → List ℕ → Result Chosen Damage
stored_at true own other = store_of other own
stored_at false own other = store_of own other

abbrev picked_at : Bool → Option (Option Opened) → Option (Option Opened) → Result Chosen Damage
picked_at true own other = file_picked other own
picked_at false own other = file_picked own other

stored_is : (at : Bool) (own other : List ℕ) → stored_at at own other ≡ picked_at at (file_of own) (file_of other)
unfolding store_of
stored_is true own other = refl
stored_is false own other = refl

abbrev pub IsLower : Option (Option Opened) → ℕ → Type 0
IsLower None g = Unit {0}
IsLower (Some None) g = ⊥
IsLower (Some (Some o)) g = o.generation < g

abbrev chosen_at : Bool → ReadingEnd → Chosen
chosen_at at e = record { second = at; place = e.place; held = e.held }

-- an open file with the greater generation is chosen
wins : (at : Bool) (g : ℕ) (e : ReadingEnd) (other : Option (Option Opened)) → IsLower other g → picked_at at (opened g e) other ≡ Ok (chosen_at at e)
unfolding file_picked
wins true g e None low = refl
wins false g e None low = refl
wins at g e (Some None) low = absurd low
wins true g e (Some (Some o)) low =
    cond-false (eqb o.generation g) _ _ (ne_eqb o.generation g (λ same. omega (arith, same))) ∙ cond-false (ltb g o.generation) _ _ (le-ltb g o.generation (omega arith))
wins false g e (Some (Some o)) low =
    cond-false (eqb g o.generation) _ _ (ne_eqb g o.generation (λ same. omega (arith, same))) ∙ cond-true (ltb o.generation g) _ _ (lt-ltb o.generation g low)

-- what a store that loads is made of: the chosen file and the other one
pub record HoldsAt (x y : List ℕ) (s : Chosen) : Type 0 where
  pub generation : ℕ
  pub own : file_of x ≡ opened generation (record { place = s.place; held = s.held })
  pub other : IsLower (file_of y) generation

abbrev pub Holds : List ℕ → List ℕ → Chosen → Type 0
Holds a b s = HoldsAt (pick s.second a b) (pick s.second b a) s

pub record IsEmpty (a b : List ℕ) (s : Chosen) : Type 0 where
  pub first : file_of a ≡ None
  pub second : file_of b ≡ None
  pub is : s ≡ record { second = false; place = 0; held = begin 1 }

ok_eq : (x y : Chosen) (r : Result Chosen Damage) → r ≡ Ok x → r ≡ Ok y → x ≡ y
ok_eq x y r p q = cc

holds_of : (at : Bool) (g : ℕ) (r : Result ReadingEnd ℕ) (a b : List ℕ) (s : Chosen) → file_of (pick at a b) ≡ Some (Some (record { generation = g; ending = r })) → IsLower (file_of (pick at b a)) g
    → file_loaded at r ≡ Ok s → Holds a b s
holds_of at g (Err n) a b s own low e = cc
holds_of at g (Ok end) a b s own low e = subst (λ (c : Chosen). Holds a b c) (ok_eq (chosen_at at end) s (file_loaded at (Ok end)) refl e) (record { generation = g; own = own; other = low })

views : (a b : List ℕ) (s : Chosen) (fa fb : Option (Option Opened)) → file_of a ≡ fa → file_of b ≡ fb → file_picked fa fb ≡ Ok s → IsEmpty a b s ⊎ Holds a b s
unfolding file_picked
views a b s (Some None) fb ea eb e = cc
views a b s None (Some None) ea eb e = cc
views a b s (Some (Some x)) (Some None) ea eb e = cc
views a b s None None ea eb e = inl (record { first = ea; second = eb; is = sym (ok_eq (record { second = false; place = 0; held = begin 1 }) s (file_picked None None) refl e) })
views a b s (Some (Some x)) None ea eb e = inr (holds_of false x.generation x.ending a b s ea (subst (λ f. IsLower f x.generation) (sym eb) tt) e)
views a b s None (Some (Some y)) ea eb e = inr (holds_of true y.generation y.ending a b s eb (subst (λ f. IsLower f y.generation) (sym ea) tt) e)
views a b s (Some (Some x)) (Some (Some y)) ea eb e = elim (cases_eq x.generation y.generation) [
  | inl same ↦ absurd (err_ok (sym (cond-true (eqb x.generation y.generation) _ _ (eq-eqb _ _ same)) ∙ e))
  | inr differ ↦
      let rest = sym (cond-false (eqb x.generation y.generation) _ _ (ne_eqb _ _ differ)) ∙ e in
      elim (cases_Bool (ltb y.generation x.generation)) [
        | inl less ↦ inr (holds_of false x.generation x.ending a b s ea (subst (λ f. IsLower f x.generation) (sym eb) (ltb-true _ _ less)) (sym (cond-true (ltb y.generation x.generation) _ _ less) ∙ rest))
        | inr more ↦
            let low : x.generation < y.generation = below x.generation y.generation differ (ltb-false _ _ more) in
            inr (holds_of true y.generation y.ending a b s eb (subst (λ f. IsLower f y.generation) (sym ea) low) (sym (cond-false (ltb y.generation x.generation) _ _ more) ∙ rest))
      ]
]
  where
    err_ok : {A B : Type 0} {x : A} {y : B} → Err x ≡ Ok y → ⊥
    err_ok h = cc

    below : (m n : ℕ) → (m ≡ n → ⊥) → m ≤ n → m < n
    below m n ne le = elim (cases_eq m n) [ inl same ↦ absurd (ne same) | inr other ↦ omega (arith, other) ]

pub view : (a b : List ℕ) (s : Chosen) → store_of a b ≡ Ok s → IsEmpty a b s ⊎ Holds a b s
unfolding store_of
view a b s e = views a b s (file_of a) (file_of b) refl refl e

-- a batch that may stand there, and makes this world
pub join_makes : (place : ℕ) (held : Held) (n : ℕ) (payload : List ℕ) (w : StoredWorld) → held.generation < 2 ^ 64 → n < 2 ^ 64 → 4 ≤ length payload
    → (held.count ≡ 0) ⊎ (n ≡ after_number held.number) → laid payload held.world ≡ Some w
    → join place held (body_bytes held.generation n payload) ≡ Some (record { generation = held.generation; number = n; count = held.count + 1; last = place; world = w })
unfolding join follows
join_makes place held n payload w gf nf long may makes =
    ap (λ o. option_and_then (λ (b : Body). cond (follows held b.generation b.number) (option_map (λ v. record { generation = held.generation; number = b.number; count = held.count + 1; last = place; world = v }) (laid b.payload held.world)) None) o) (body_reads held.generation n payload gf nf long)
    ∙ cond-true (follows held held.generation n) _ _ (and_from (eqb held.generation held.generation) _ (eq-eqb held.generation held.generation refl) (either may))
    ∙ ap (λ o. option_map (λ v. record { generation = held.generation; number = n; count = held.count + 1; last = place; world = v }) o) makes
  where
    either : (held.count ≡ 0) ⊎ (n ≡ after_number held.number) → (eqb held.count 0 || eqb n (after_number held.number)) ≡ true
    either (inl none) = or_left (eqb held.count 0) (eqb n (after_number held.number)) (eq-eqb held.count 0 none)
    either (inr next) = or_right (eqb held.count 0) (eqb n (after_number held.number)) (eq-eqb n (after_number held.number) next)

-- the store with a batch in the place that is given
abbrev pub after_at : Chosen → Chosen → List ℕ → StoredWorld → Chosen
after_at t s payload w = record {
  second = t.second;
  place = t.place + 9 + length (body_bytes t.held.generation (after_number s.held.number) payload);
  held = record { generation = t.held.generation; number = after_number s.held.number; count = t.held.count + 1; last = t.place; world = w };
}

abbrev pub body_at : Chosen → Chosen → List ℕ → List ℕ
body_at t s payload = body_bytes t.held.generation (after_number s.held.number) payload

pub record Fits (t s : Chosen) (payload : List ℕ) (w : StoredWorld) : Type 0 where
  pub generation : t.held.generation < 2 ^ 64
  pub number : after_number s.held.number < 2 ^ 64
  pub long : 4 ≤ length payload
  pub short : length payload < 2 ^ 63
  pub makes : laid payload t.held.world ≡ Some w

module _ (s : Chosen) (payload : List ℕ) (w : StoredWorld) where
  size : (t : Chosen) → length (body_at t s payload) ≡ 21 + length payload
  size t = body_length t.held.generation (after_number s.held.number) payload

  same_done : (x y c : List ℕ) → HoldsAt x y s → Fits s s payload w → IsDone s.place (framed (body_at s s payload)) x c → stored_at s.second c y ≡ Ok (after_at s s payload w)
  same_done x y c h f did =
      let body = body_at s s payload in
      let later : Held = record { generation = s.held.generation; number = after_number s.held.number; count = s.held.count + 1; last = s.place; world = w } in
      stored_is s.second c y
      ∙ ap (λ o. picked_at s.second o (file_of y)) (done_open h.generation (record { place = s.place; held = s.held }) x c body later (file_facts h.generation (record { place = s.place; held = s.held }) x h.own) did did.no_shorter
      (join_makes s.place s.held (after_number s.held.number) payload w f.generation f.number f.long (inr refl) f.makes) (omega (arith, size s)) (omega (arith, size s, f.short)))
      ∙ wins s.second h.generation (record { place = s.place + 9 + length body; held = later }) (file_of y) h.other

  -- the same file, with batches
  same_open : (x y c : List ℕ) → HoldsAt x y s → Fits s s payload w → MayBe s.place (framed (body_at s s payload)) x c → IsEither s (after_at s s payload w) (stored_at s.second c y)
  same_open x y c h f (inl kept) =
      inl (stored_is s.second c y ∙ ap (λ o. picked_at s.second o (file_of y)) (kept_open h.generation (record { place = s.place; held = s.held }) x c (file_facts h.generation (record { place = s.place; held = s.held }) x h.own) kept)
      ∙ wins s.second h.generation (record { place = s.place; held = s.held }) (file_of y) h.other)
  same_open x y c h f (inr did) = inr (same_done x y c h f did)

  -- an empty file, or a new generation: the file at whose place 0 the batch stands
  start_done : (at : Bool) (g : ℕ) (x y c : List ℕ) → let t : Chosen = record { second = at; place = 0; held = begin g } in
      Fits t s payload w → IsDone 0 (framed (body_at t s payload)) x c → IsLower (file_of y) g → stored_at at c y ≡ Ok (after_at t s payload w)
  unfolding begin
  start_done at g x y c f did low =
      let t : Chosen = record { second = at; place = 0; held = begin g } in
      let body = body_at t s payload in
      let later : Held = record { generation = g; number = after_number s.held.number; count = 0 + 1; last = 0; world = w } in
      stored_is at c y
      ∙ ap (λ o. picked_at at o (file_of y)) (done_start g x c body later did
      (join_makes 0 (begin g) (after_number s.held.number) payload w f.generation f.number f.long (inl refl) f.makes)
      (head_reads g (after_number s.held.number) payload f.generation f.long) (omega (arith, size t, f.long)) (omega (arith, size t, f.short)))
      ∙ wins at g (record { place = 0 + 9 + length body; held = later }) (file_of y) low

  empty_store : (a b c : List ℕ) → IsEmpty a b s → let t : Chosen = record { second = false; place = 0; held = begin 1 } in
      Fits t s payload w → MayBe 0 (framed (body_at t s payload)) a c → IsEither t (after_at t s payload w) (stored_at false c b)
  unfolding file_picked
  empty_store a b c e f (inr did) = inr (start_done false 1 a b c f did (subst (λ o. IsLower o 1) (sym e.second) tt))
  empty_store a b c e f (inl kept) =
      inl (stored_is false c b ∙ ap (λ o. picked_at false o (file_of b)) (⊎_elim (λ none. none) (λ same. same ∙ e.first) (kept_start a c kept)) ∙ ap (λ o. picked_at false None o) e.second)

  pub swaps : (at : Bool) (x y : List ℕ) → pick at y x ≡ pick (not at) x y
  swaps true x y = refl
  swaps false x y = refl

  flipped : (at : Bool) (p q : Option (Option Opened)) → picked_at (not at) p q ≡ picked_at at q p
  flipped true p q = refl
  flipped false p q = refl

  new_done : (x y c : List ℕ) → HoldsAt x y s → let t : Chosen = record { second = not s.second; place = 0; held = begin (s.held.generation + 1) } in
      Fits t s payload w → IsDone 0 (framed (body_at t s payload)) y c → stored_at (not s.second) c x ≡ Ok (after_at t s payload w)
  new_done x y c h f did =
      let facts = file_facts h.generation (record { place = s.place; held = s.held }) x h.own in
      let less : h.generation < s.held.generation + 1 = omega (arith, facts.ended.generation) in
      start_done (not s.second) (s.held.generation + 1) y x c f did (subst (λ o. IsLower o (s.held.generation + 1)) (sym h.own) less)

  -- a new generation in the other file
  new_open : (x y c : List ℕ) → HoldsAt x y s → let t : Chosen = record { second = not s.second; place = 0; held = begin (s.held.generation + 1) } in
      Fits t s payload w → MayBe 0 (framed (body_at t s payload)) y c → IsEither s (after_at t s payload w) (stored_at (not s.second) c x)
  new_open x y c h f (inl kept) =
      let low : IsLower (file_of c) h.generation = ⊎_elim (λ none. subst (λ o. IsLower o h.generation) (sym none) tt) (λ same. subst (λ o. IsLower o h.generation) (sym same) h.other) (kept_start y c kept) in
      inl (stored_is (not s.second) c x ∙ flipped s.second (file_of c) (file_of x) ∙ ap (λ o. picked_at s.second o (file_of c)) h.own ∙ wins s.second h.generation (record { place = s.place; held = s.held }) (file_of c) low)
  new_open x y c h f (inr did) = inr (new_done x y c h f did)

  pub target_same : opens_new s.held ≡ false → target s ≡ s
  unfolding target
  target_same e = cond-false (opens_new s.held) _ _ e

  pub target_new : opens_new s.held ≡ true → target s ≡ record { second = not s.second; place = 0; held = begin (s.held.generation + 1) }
  unfolding target
  target_new e = cond-true (opens_new s.held) _ _ e

  pub empty_same : (t : Chosen) → t ≡ record { second = false; place = 0; held = begin 1 } → opens_new t.held ≡ false
  unfolding opens_new begin
  empty_same t e = ap (λ (c : Chosen). opens_new c.held) e

  abbrev pub MayAt : Chosen → List ℕ → List ℕ → Type 0
  MayAt t x c = MayBe t.place (framed (body_at t s payload)) x c

  abbrev pub Result_at : Chosen → List ℕ → List ℕ → Type 0
  Result_at t c y = IsEither s (after_at t s payload w) (stored_at t.second c y)

  -- whatever the write of a batch leaves of its file: the store as it was, or with the batch
  pub either : (a b c : List ℕ) → store_of a b ≡ Ok s → (t : Chosen) → target s ≡ t → Fits t s payload w → MayAt t (pick t.second a b) c → Result_at t c (pick t.second b a)
  either a b c e t is f may = elim (view a b s e) [
    | inl empty ↦
        let same : s ≡ t = sym (target_same (empty_same s empty.is)) ∙ is in
        let start : t ≡ record { second = false; place = 0; held = begin 1 } = sym same ∙ empty.is in
        at_empty empty t start f may
    | inr h ↦ elim (cases_Bool (opens_new s.held)) [
      | inr no_new ↦ at_same h t (sym (target_same no_new) ∙ is) f may
      | inl new ↦ at_new h t (sym (target_new new) ∙ is) f may
    ]
  ]
    where
      Goal : Chosen → Type 0
      Goal t = Fits t s payload w → MayBe t.place (framed (body_at t s payload)) (pick t.second a b) c → IsEither s (after_at t s payload w) (stored_at t.second c (pick t.second b a))

      at_same : Holds a b s → (t : Chosen) → s ≡ t → Goal t
      at_same h t same = subst Goal same (λ f may. same_open (pick s.second a b) (pick s.second b a) c h f may)

      at_new : Holds a b s → (t : Chosen) → record { second = not s.second; place = 0; held = begin (s.held.generation + 1) } ≡ t → Goal t
      at_new h t new = subst Goal new (λ f may.
          let fresh : Chosen = record { second = not s.second; place = 0; held = begin (s.held.generation + 1) } in
          subst (λ y. IsEither s (after_at fresh s payload w) (stored_at (not s.second) c y)) (swaps s.second b a)
          (new_open (pick s.second a b) (pick s.second b a) c h f (subst (λ y. MayBe 0 (framed (body_at fresh s payload)) y c) (sym (swaps s.second a b)) may)))

      at_empty : IsEmpty a b s → (t : Chosen) → t ≡ record { second = false; place = 0; held = begin 1 } → Goal t
      at_empty empty t start = subst Goal (sym start) (λ f may.
          let none : Chosen = record { second = false; place = 0; held = begin 1 } in
          subst (λ (v : Chosen). IsEither v (after_at none s payload w) (stored_at false c b)) (sym empty.is) (empty_store a b c empty f may))

  -- once the batch stands whole behind its open gate, the store has it
  pub finished : (a b c : List ℕ) → store_of a b ≡ Ok s → (t : Chosen) → target s ≡ t → Fits t s payload w → IsDone t.place (framed (body_at t s payload)) (pick t.second a b) c → stored_at t.second c (pick t.second b a) ≡ Ok (after_at t s payload w)
  finished a b c e t is f did = elim (view a b s e) [
    | inl empty ↦ at_empty empty t (sym (sym (target_same (empty_same s empty.is)) ∙ is) ∙ empty.is) f did
    | inr h ↦ elim (cases_Bool (opens_new s.held)) [
      | inr no_new ↦ subst Goal (sym (target_same no_new) ∙ is) (λ f did. same_done (pick s.second a b) (pick s.second b a) c h f did) f did
      | inl new ↦ at_new h t (sym (target_new new) ∙ is) f did
    ]
  ]
    where
      Goal : Chosen → Type 0
      Goal t = Fits t s payload w → IsDone t.place (framed (body_at t s payload)) (pick t.second a b) c → stored_at t.second c (pick t.second b a) ≡ Ok (after_at t s payload w)

      at_new : Holds a b s → (t : Chosen) → record { second = not s.second; place = 0; held = begin (s.held.generation + 1) } ≡ t → Goal t
      at_new h t new = subst Goal new (λ f did.
          let fresh : Chosen = record { second = not s.second; place = 0; held = begin (s.held.generation + 1) } in
          subst (λ y. stored_at (not s.second) c y ≡ Ok (after_at fresh s payload w)) (swaps s.second b a)
          (new_done (pick s.second a b) (pick s.second b a) c h f (subst (λ y. IsDone 0 (framed (body_at fresh s payload)) y c) (sym (swaps s.second a b)) did)))

      at_empty : IsEmpty a b s → (t : Chosen) → t ≡ record { second = false; place = 0; held = begin 1 } → Goal t
      at_empty empty t start = subst Goal (sym start) (λ f did. start_done false 1 a b c f did (subst (λ o. IsLower o 1) (sym empty.second) tt))
