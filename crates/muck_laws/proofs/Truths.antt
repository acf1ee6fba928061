-- What is true or false, and one of two.
use Rattle.std.proofs.Common.{Bool, ap, cond, false, if◌then◌else◌, inl, inr, not, refl, subst, sym, true, true≢false, ◌&&◌, ◌||◌, ◌∙◌, ◌≡◌, ◌⊎◌}
use Rattle.std.proofs.lemmas.Bool.{and_parts, false≢true, not-true}
use Rattle.std.specs.Prelude.{T}

pub hand_by : (kind item carried here : Bool) → (item ≡ true → kind ≡ true) → (item && carried) ≡ true → (kind && (carried || here)) ≡ true
hand_by kind true true here f e = rw (f refl) refl
hand_by kind true false here f e = cc
hand_by kind false carried here f e = cc

pub and_rest : (a b : Bool) → a && b ≡ true → b ≡ true
and_rest true b h = h
and_rest false b h = absurd (let e : false ≡ true = h in cc)

pub whether : (b : Bool) (P : Type 0) → (b ≡ true → P) → (b ≡ false → P) → P
whether true P so other = so refl
whether false P so other = other refl

pub is_true : (b : Bool) → T b → b ≡ true
is_true true h = refl
is_true false h = absurd h

pub left_of : (a b : Bool) → T (a && b) → T a
left_of true b h = tt
left_of false b h = h

pub right_of : (a b : Bool) → T (a && b) → T b
right_of true b h = h
right_of false b h = absurd h

pub either_so : (a b : Bool) (P : Type 0) → (a ≡ true → P) → (b ≡ true → P) → (a || b) ≡ true → P
either_so true b P f g h = f refl
either_so false b P f g h = g h

pub double : (b : Bool) → b ≡ true → not (not b) ≡ true
double true e = refl
double false e = cc

pub either_true : (a b : Bool) → (a || b) ≡ true → a ≡ false → b ≡ true
either_true true b e f = cc
either_true false b e f = e

pub and_first : (a b : Bool) → (a && b) ≡ true → a ≡ true
and_first true b h = refl
and_first false b h = h

pub ends_from : (b : Bool) → false ≡ not b → b ≡ true
ends_from true h = refl
ends_from false h = absurd (false≢true h)

pub goes_from : (b : Bool) → true ≡ not b → b ≡ false
goes_from true h = absurd (false≢true (sym h))
goes_from false h = refl

-- where something other than Died is lawful, the world isn't dead
pub alive_where : (dead allowed died : Bool) → cond dead died allowed ≡ true → died ≡ false → dead ≡ false
alive_where true allowed died e other = absurd (differ died e other) where
  differ : (b : Bool) → b ≡ true → b ≡ false → ⊥
  differ b p q = cc
alive_where false allowed died e other = refl

pub and_false : (b : Bool) → (b && false) ≡ false
and_false true = refl
and_false false = refl

pub none : {A : Type 0} {b : Bool} → b ≡ false → b ≡ true → A
none a b = cc

pub plain_free : (x y z : Bool) → not x && (not y && not z) ≡ true → z ≡ false
plain_free true y z h = absurd (false≢true h)
plain_free false true z h = absurd (false≢true h)
plain_free false false true h = absurd (false≢true h)
plain_free false false false h = refl

-- what was done, as it is answered
pub did_so : {A : Type 0} (answer : Bool) (old new : A) → answer ≡ true → (if answer then new else old) ≡ new
did_so answer old new is = ap (λ (b : Bool). if b then new else old) is

pub all_true : (p s d : Bool) → true ≡ (p && (true && (s && not d))) → (p ≡ true) × (s ≡ true) × (d ≡ false)
all_true true true false e = (refl, refl, refl)
all_true true true true e = absurd (true≢false e)
all_true true false d e = absurd (true≢false e)
all_true false s d e = absurd (true≢false e)

pub is_due : (n s d : Bool) → n ≡ false → s ≡ true → d ≡ false → (not n && (s && not d)) ≡ true
is_due true s d a b c = absurd (true≢false a)
is_due false true true a b c = absurd (true≢false c)
is_due false true false a b c = refl
is_due false false d a b c = absurd (true≢false (sym b))

pub none_due : (n s d : Bool) → (n ≡ false → d ≡ false → s ≡ false) → (not n && (s && not d)) ≡ false
none_due true s d f = refl
none_due false true true f = refl
none_due false true false f = f refl refl
none_due false false d f = refl

pub not_all : (p s d : Bool) → false ≡ (p && (true && (s && not d))) → p ≡ true → s ≡ true → d ≡ false → ⊥
not_all true true false e a b c = true≢false (sym e)
not_all true true true e a b c = true≢false c
not_all true false d e a b c = true≢false (sym b)
not_all false s d e a b c = true≢false (sym a)

pub or_false : (b : Bool) → (b || false) ≡ b
or_false true = refl
or_false false = refl

pub both_of : (a b : Bool) → T (a && b) → T a × T b
both_of true b h = (tt, h)
both_of false b h = absurd h

pub none_of_three : (a b c : Bool) → (a || b || c) ≡ false → (a ≡ false) × (b ≡ false) × (c ≡ false)
none_of_three true b c h = cc
none_of_three false true c h = cc
none_of_three false false true h = cc
none_of_three false false false h = (refl, refl, refl)

pub last_of : (a b c : Bool) → (a || b || c) ≡ false → c ≡ true → ⊥
last_of true b c h e = cc
last_of false true c h e = cc
last_of false false c h e = cc

pub or_last : (a b c : Bool) → c ≡ true → (a || (b || c)) ≡ true
or_last true b c e = refl
or_last false true c e = refl
or_last false false c e = e

pub taken_of : (a b r c : Bool) → (b ≡ true → r ≡ true) → (a || (b || c)) ≡ true → (a || (r || c)) ≡ true
taken_of true b r c f h = refl
taken_of false true r c f h = ap (λ x. x || c) (f refl)
taken_of false false r c f h = or_last false r c h

pub waiting_of : (a b c : Bool) → (not a && not b) ≡ false → (a || (b || c)) ≡ true
waiting_of true b c h = refl
waiting_of false true c h = refl
waiting_of false false c h = cc

pub or_assoc : (a b c : Bool) → (a || (b || c)) ≡ ((a || b) || c)
or_assoc true b c = refl
or_assoc false b c = refl

pub opposed : (t : Bool) → t ≡ true → t ≡ false → ⊥
opposed t a b = cc

pub not_so : {A : Type 0} → false ≡ true → A
not_so e = absurd (opposed false e refl)

pub exit_or_not : (e v : Bool) → cond e v (not v) ≡ true → e ≡ v
exit_or_not true true h = refl
exit_or_not true false h = absurd (false≢true h)
exit_or_not false true h = absurd (false≢true h)
exit_or_not false false h = refl

pub exits_agree : (b v : Bool) → b ≡ v → (if b then v else not v) ≡ true
exits_agree true true h = refl
exits_agree true false h = absurd (false≢true (sym h))
exits_agree false true h = absurd (false≢true h)
exits_agree false false h = refl

pub all_five : (a b c d e : Bool) → a ≡ true → b ≡ true → c ≡ true → d ≡ true → e ≡ true → (a && b && c && d && e) ≡ true
all_five a b c d e p q r s t = rw (p, q, r, s, t) refl

pub all_three : (a b c : Bool) → a ≡ true → b ≡ true → c ≡ true → (a && b && c) ≡ true
all_three a b c p q r = rw (p, q, r) refl

pub either_way : (b x y : Bool) → (b ≡ true → x ≡ true) → (b ≡ false → y ≡ true) → (if b then x else y) ≡ true
either_way true x y p q = p refl
either_way false x y p q = q refl

pub one_of_three : (a b c : Bool) → (a ≡ true) ⊎ ((b ≡ true) ⊎ (c ≡ true)) → (a || b || c) ≡ true
one_of_three true b c h = refl
one_of_three false true c h = refl
one_of_three false false c h = elim h [ inl p ↦ absurd (false≢true p) | inr q ↦ elim q [ inl p ↦ absurd (false≢true p) | inr p ↦ p ] ]

pub parts5 : (a b c d e : Bool) → (a && b && c && d && e) ≡ true → (a ≡ true) × (b ≡ true) × (c ≡ true) × (d ≡ true) × (e ≡ true)
parts5 a b c d e h =
    let p = and_parts (a && b && c && d) e h in
    let q = and_parts (a && b && c) d p.0 in
    let r = and_parts (a && b) c q.0 in
    let t = and_parts a b r.0 in
    (t.0, t.1, r.1, q.1, p.1)

pub parts6 : (a b c d e f : Bool) → (a && b && c && d && e && f) ≡ true → (a ≡ true) × (b ≡ true) × (c ≡ true) × (d ≡ true) × (e ≡ true) × (f ≡ true)
parts6 a b c d e f h =
    let p = and_parts (a && b && c && d && e) f h in
    let q = parts5 a b c d e p.0 in
    (q.0, q.1, q.2, q.3, q.4, p.1)

pub and_not : (a b : Bool) → a ≡ true → b ≡ false → (a && not b) ≡ true
and_not true false p q = refl
and_not true true p q = absurd (cc)
and_not false b p q = absurd (cc)

-- what holds of a value holds of the same one
pub moved : {A : Type 0} (P : A → Type 0) (x y : A) → P x → x ≡ y → P y
moved P x y h e = subst P e h

pub none_going : (a stop : Bool) → (stop ≡ false → a ≡ false) → (a && not stop) ≡ false
none_going true true f = refl
none_going false true f = refl
none_going true false f = f refl
none_going false false f = refl

pub none_first : (a b : Bool) → (a || b) ≡ false → a ≡ false
none_first true b e = cc
none_first false b e = refl

pub none_later : (a b : Bool) → (a || b) ≡ false → b ≡ false
none_later true b e = cc
none_later false b e = e

pub due_of : (dead stop b : Bool) → dead ≡ false → cond dead false (b && not stop) ≡ true → b ≡ true
due_of true stop b a e = cc
due_of false stop true a e = refl
due_of false stop false a e = e

pub lost_gone : (dead there claim : Bool) → dead ≡ false → claim ≡ true → there ≡ false → cond dead false (claim && not there) ≡ true
lost_gone true there claim a c t = cc
lost_gone false there claim a c t = ap (λ b. b && not there) c ∙ ap not t

pub slice_there : (dead there claim : Bool) → dead ≡ false → claim ≡ true → there ≡ true → cond dead false (claim && there) ≡ true
slice_there true there claim a c t = cc
slice_there false there claim a c t = ap (λ b. b && there) c ∙ t

pub not_through : (b c : Bool) → (not b && c) ≡ false → b ≡ false → c ≡ false
not_through true c h e = absurd cc
not_through false c h e = h

pub never : false ≡ true → ⊥
never e = cc

pub and_true : (b : Bool) → (b && true) ≡ b
and_true true = refl
and_true false = refl

pub never_turning : (a b : Bool) → a ≡ b → (b && not a) ≡ false
never_turning true b e = and_false b
never_turning false false e = refl
never_turning false true e = absurd (false≢true e)

pub or_swap : (a b : Bool) → (a || b) ≡ (b || a)
or_swap true true = refl
or_swap true false = refl
or_swap false true = refl
or_swap false false = refl

pub never_not : (b : Bool) → not b ≡ true → b ≡ true → ⊥
never_not b e h = false≢true (sym (not-true b e) ∙ h)

-- not both
pub excluded : (a b : Bool) → (not b || not a) ≡ true → a ≡ true → b ≡ false
excluded a false e h = refl
excluded a true e h = absurd (never_not a e h)

pub seats_by : (a b h c : Bool) → not (a && b && not h && c) ≡ true → a ≡ true → b ≡ true → c ≡ true → h ≡ true
seats_by a b true c q x y z = refl
seats_by true true false true q x y z = absurd (false≢true q)
seats_by false b false c q x y z = absurd (false≢true x)
seats_by true false false c q x y z = absurd (false≢true y)
seats_by true true false false q x y z = absurd (false≢true z)

pub second_of : (first b few stop : Bool) → (first && b && few && stop) ≡ true → b ≡ true
second_of true true few stop e = refl
second_of true false few stop e = absurd cc
second_of false b few stop e = absurd cc

-- below level 3 an object that is moved is controlled
pub mover : (b c : Bool) → (b && not c) ≡ false → (not b || c) ≡ true
mover true true e = refl
mover true false e = cc
mover false c e = refl

pub and_all : (b c d : Bool) → b ≡ true → c ≡ true → d ≡ true → (b && (c && (true && d))) ≡ true
and_all b c d e f g = rw (e, f, g) refl

pub and_three : (b c d : Bool) → b ≡ true → c ≡ true → d ≡ true → (b && (c && d)) ≡ true
and_three b c d e f g = rw (e, f, g) refl

pub never_both : {X : Type 0} (b : Bool) → b ≡ true → b ≡ false → X
never_both true h k = absurd cc
never_both false h k = absurd cc

-- what is lawful and isn't Died is allowed
pub allowed_one : (dead died allowed : Bool) → cond dead died allowed ≡ true → died ≡ false → allowed ≡ true
allowed_one true died allowed l alive = absurd (opposed died l alive)
allowed_one false died allowed l alive = l
