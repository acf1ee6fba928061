-- What is told by who moved and by whose connections came or went is what the worlds say.
use Rattle.std.proofs.Common.{◌≡◌, ℕ, ◌+◌, ◌<◌, ◌≤◌, suc, pos, Bool, true, false, cond, int_lt, List, [], ◌∷◌, ◌++◌, length, Option, Some, None, inl, inr, refl, sym, ◌∙◌, ap, subst, arith, append_assoc, append-nil}
use Rattle.std.proofs.lemmas.Bool.{cases_eq, cases_lt, lt-ltb, le-ltb}
use Rattle.std.proofs.lemmas.Option.{slice_get_past}
use Rattle.std.specs.List.{slice_get}
use Rattle.std.specs.Option.{option_map, option_and_then}
use Rattle.muck_laws.proofs.Numbers.{zero_first}
use Rattle.muck_model.specs.declared.dbref.Dbref.{Dbref}
use Rattle.muck_model.proofs.Dbrefs.{same_eq, eq_same}
use Rattle.spec_live.specs.declared.moved.Move.{Move}
use Rattle.spec_live.specs.Objects.{Entry, dbref_of, same, object_in}
use Rattle.spec_live.specs.Stood.{standing, stood_in, stands_in, move_of, moves_from}
use Rattle.spec_live.specs.Lives.{Live}
use Rattle.spec_hooks.specs.declared.cause.Cause.{Cause}
use Rattle.spec_hooks.specs.declared.cause.Cause.TheVariants.{Arrive, Depart, Connect, Disconnect}
use Rattle.spec_hooks.specs.declared.turned.Turned.{Turned}
use Rattle.spec_hooks.specs.declared.turned.Turned.TheVariants.{Nobody, Came, Went}
use Rattle.spec_hooks.specs.Causes.{where_true, moves, has_come, causes_of, causes_from}
use Rattle.spec_hooks.specs.Told.{of_move, of_moves, told, is_gone, is_come, Turns}

-- Lists of moves.

flat_both : (ms ns : List Move) → of_moves (ms ++ ns) ≡ of_moves ms ++ of_moves ns
flat_both [] ns = refl
flat_both (m ∷ ms) ns = ap (λ l. of_move m ++ l) (flat_both ms ns) ∙ sym (append_assoc (of_move m) (of_moves ms) (of_moves ns))

-- the first of them is of this number or a later one
abbrev From : ℕ → List Move → Type 0
From n [] = Unit {0}
From n (m ∷ ms) = (k : ℕ) × (m.player ≡ dbref_of k) × (n ≤ k)

from_later : (n : ℕ) (ms : List Move) → From (suc n) ms → From n ms
from_later n [] h = tt
from_later n (m ∷ ms) h = (h.0, h.1, omega (arith, h.2))

-- one entry tells of its number, or of nothing
data Tells (n : ℕ) (ms : List Move) : Type 0 where
  none : ms ≡ [] → Tells n ms
  one : (m : Move) → m.player ≡ dbref_of n → ms ≡ m ∷ [] → Tells n ms

tells : (n : ℕ) (a b : Option Dbref) → Tells n (move_of n a b)
tells n None b = none refl
tells n (Some a) None = none refl
tells n (Some a) (Some b) = at (same a b)
  where
    at : (t : Bool) → Tells n (cond t [] (record { player = dbref_of n; from = a; to = b } ∷ []))
    at true = none refl
    at false = one (record { player = dbref_of n; from = a; to = b }) refl refl

moves_later : (n : ℕ) (es : List Entry) → From n (moves_from n es)
unfolding moves_from
moves_later n [] = tt
moves_later n (e ∷ es) = at (move_of n e.stood (standing e.object)) (tells n e.stood (standing e.object)) (moves_later (suc n) es)
  where
    at : (ms : List Move) → Tells n ms → From (suc n) (moves_from (suc n) es) → From n (ms ++ moves_from (suc n) es)
    at ms (none h) rest = subst (λ (xs : List Move). From n (xs ++ moves_from (suc n) es)) (sym h) (from_later n (moves_from (suc n) es) rest)
    at ms (one m p h) rest = subst (λ (xs : List Move). From n (xs ++ moves_from (suc n) es)) (sym h) (n, p, omega arith)

-- what one entry tells is what is so of its player
moves_same : (n : ℕ) (a b : Option Dbref) → moves (dbref_of n) a b ≡ of_moves (move_of n a b)
moves_same n None b = refl
moves_same n (Some a) None = refl
moves_same n (Some a) (Some b) = at (same a b)
  where
    at : (t : Bool) → cond t [] (Depart (dbref_of n) a ∷ Arrive (dbref_of n) b ∷ []) ≡ of_moves (cond t [] (record { player = dbref_of n; from = a; to = b } ∷ []))
    at true = refl
    at false = refl

-- Where one is told of, among moves.

before_moves : (p : Dbref) (n : ℕ) (ms : List Move) → p ≡ dbref_of n → From n ms → told (Went p) ms ≡ Disconnect p ∷ of_moves ms
unfolding told
before_moves p n [] is h = refl
before_moves p n (m ∷ ms) is h = ap (λ b. cond b (of_move m ++ told (Went p) ms) (Disconnect p ∷ of_moves (m ∷ ms))) (ap (λ (x : Dbref). int_lt m.player.0 x.0) is ∙ ap (λ (x : Dbref). int_lt x.0 (pos n)) h.1 ∙ le-ltb h.0 n h.2)

behind_moves : (p : Dbref) (n : ℕ) (ms : List Move) → p ≡ dbref_of n → From (suc n) ms → told (Came p) ms ≡ Connect p ∷ of_moves ms
unfolding told
behind_moves p n [] is h = refl
behind_moves p n (m ∷ ms) is h = ap (λ b. cond b (Connect p ∷ of_moves (m ∷ ms)) (of_move m ++ told (Came p) ms)) (ap (λ (x : Dbref). int_lt x.0 m.player.0) is ∙ ap (λ (x : Dbref). int_lt (pos n) x.0) h.1 ∙ lt-ltb n h.0 (omega (arith, h.2)))

went_over : (p : Dbref) (n k : ℕ) (ms ns : List Move) → p ≡ dbref_of k → n < k → Tells n ms → told (Went p) (ms ++ ns) ≡ of_moves ms ++ told (Went p) ns
unfolding told
went_over p n k ms ns is lt (none h) = ap (λ (xs : List Move). told (Went p) (xs ++ ns)) h ∙ sym (ap (λ (xs : List Move). of_moves xs ++ told (Went p) ns) h)
went_over p n k ms ns is lt (one m q h) =
    ap (λ (xs : List Move). told (Went p) (xs ++ ns)) h
    ∙ ap (λ b. cond b (of_move m ++ told (Went p) ns) (Disconnect p ∷ of_moves (m ∷ ns))) (ap (λ (x : Dbref). int_lt m.player.0 x.0) is ∙ ap (λ (x : Dbref). int_lt x.0 (pos k)) q ∙ lt-ltb n k lt)
    ∙ sym (ap (λ (xs : List Move). of_moves xs ++ told (Went p) ns) h)

came_over : (p : Dbref) (n k : ℕ) (ms ns : List Move) → p ≡ dbref_of k → n ≤ k → Tells n ms → told (Came p) (ms ++ ns) ≡ of_moves ms ++ told (Came p) ns
unfolding told
came_over p n k ms ns is le (none h) = ap (λ (xs : List Move). told (Came p) (xs ++ ns)) h ∙ sym (ap (λ (xs : List Move). of_moves xs ++ told (Came p) ns) h)
came_over p n k ms ns is le (one m q h) =
    ap (λ (xs : List Move). told (Came p) (xs ++ ns)) h
    ∙ ap (λ b. cond b (Connect p ∷ of_moves (m ∷ ns)) (of_move m ++ told (Came p) ns)) (ap (λ (x : Dbref). int_lt x.0 m.player.0) is ∙ ap (λ (x : Dbref). int_lt (pos k) x.0) q ∙ le-ltb k n le)
    ∙ sym (ap (λ (xs : List Move). of_moves xs ++ told (Came p) ns) h)

-- From one number on.

module _ (turned : Turned) (before after : Live) (t : Turns turned before after) where
  -- these are the entries from n on
  abbrev Rest : ℕ → List Entry → Type 0
  Rest n es = (k : ℕ) → slice_get es k ≡ slice_get after.objects (n + k)

  rest_next : (n : ℕ) (e : Entry) (es : List Entry) → Rest n (e ∷ es) → Rest (suc n) es
  rest_next n e es h = λ k. h (suc k) ∙ ap (slice_get after.objects) (let q : n + suc k ≡ suc n + k = omega arith in q)

  rest_here : (n : ℕ) (e : Entry) (es : List Entry) → Rest n (e ∷ es) → slice_get after.objects n ≡ Some e
  rest_here n e es h = ap (slice_get after.objects) (let q : n ≡ n + 0 = omega arith in q) ∙ sym (h 0)

  inside : (n : ℕ) (e : Entry) (es : List Entry) → Rest n (e ∷ es) → n < length after.objects
  inside n e es h = elim (cases_lt n (length after.objects)) [ inl lt ↦ lt | inr le ↦ absurd (cc (rest_here n e es h, slice_get_past after.objects n le)) ]

  -- what is told of one
  here : (n : ℕ) (e : Entry) (es : List Entry) → Rest n (e ∷ es) → moves (dbref_of n) (stands_in before.objects n) (stands_in after.objects n) ≡ of_moves (move_of n e.stood (standing e.object))
  unfolding stood_in stands_in object_in
  here n e es h =
      ap (λ x. moves (dbref_of n) x (stands_in after.objects n)) (sym (t.stood n) ∙ stood_there (slice_get after.objects n) (rest_here n e es h))
      ∙ ap (λ x. moves (dbref_of n) e.stood x) (stands_there (slice_get after.objects n) (rest_here n e es h)) ∙ moves_same n e.stood (standing e.object)
    where
      stood_there : (o : Option Entry) → slice_get after.objects n ≡ Some e → stood_in after.objects n ≡ e.stood
      stood_there o at = ap (λ (q : Option Entry). option_and_then (λ (x : Entry). x.stood) q) at

      stands_there : (o : Option Entry) → slice_get after.objects n ≡ Some e → stands_in after.objects n ≡ standing e.object
      stands_there o at = ap (λ (q : Option Entry). option_and_then standing (option_map (λ (x : Entry). x.object) q)) at

  abbrev one_told : ℕ → Bool → Bool → List Cause → List Cause
  one_told n gone come ms = where_true gone (Disconnect (dbref_of n)) ++ (ms ++ where_true come (Connect (dbref_of n)))

  one_is : (n : ℕ) (e : Entry) (es : List Entry) → Rest n (e ∷ es) → causes_of before after n ≡ one_told n (is_gone turned (dbref_of n)) (is_come turned (dbref_of n)) (of_moves (move_of n e.stood (standing e.object)))
  one_is n e es h =
      ap (λ b. one_told n b (has_come before after (dbref_of n)) (moves (dbref_of n) (stands_in before.objects n) (stands_in after.objects n))) (t.gone n (inside n e es h))
      ∙ ap (λ b. one_told n (is_gone turned (dbref_of n)) b (moves (dbref_of n) (stands_in before.objects n) (stands_in after.objects n))) (t.come n (inside n e es h))
      ∙ ap (λ ms. one_told n (is_gone turned (dbref_of n)) (is_come turned (dbref_of n)) ms) (here n e es h)

number_same : (k n : ℕ) → dbref_of k ≡ dbref_of n → k ≡ n
number_same k n e = cc (ap (λ (x : Dbref). x.0) e)

other_numbers : (k n : ℕ) (p : Dbref) → p ≡ dbref_of k → (k ≡ n → ⊥) → same p (dbref_of n) ≡ false
other_numbers k n p is ne = at (same p (dbref_of n)) refl
  where
    at : (b : Bool) → same p (dbref_of n) ≡ b → same p (dbref_of n) ≡ false
    at false e = e
    at true e = absurd (ne (number_same k n (sym is ∙ eq_same p (dbref_of n) e)))

this_number : (n : ℕ) (p : Dbref) → p ≡ dbref_of n → same p (dbref_of n) ≡ true
this_number n p is = same_eq p (dbref_of n) is

-- nobody is told of but who moved
module _ (turned : Turned) (before after : Live) (t : Turns turned before after) where
  quiet_from : (n : ℕ) (es : List Entry) → Rest turned before after t n es → ((m : ℕ) → n ≤ m → (is_gone turned (dbref_of m) ≡ false) × (is_come turned (dbref_of m) ≡ false)) → causes_from before after n es ≡ of_moves (moves_from n es)
  unfolding moves_from
  quiet_from n [] h q = refl
  quiet_from n (e ∷ es) h q =
      let ms : List Move = move_of n e.stood (standing e.object) in
      ap (λ l. l ++ causes_from before after (suc n) es)
      (one_is turned before after t n e es h ∙ ap (λ b. one_told turned before after t n b (is_come turned (dbref_of n)) (of_moves ms)) (q n (omega arith)).0
      ∙ ap (λ b. one_told turned before after t n false b (of_moves ms)) (q n (omega arith)).1 ∙ append-nil (of_moves ms))
      ∙ ap (λ l. of_moves ms ++ l) (quiet_from (suc n) es (rest_next turned before after t n e es h) (λ m le. q m (omega (arith, le)))) ∙ sym (flat_both ms (moves_from (suc n) es))

-- Each of the three.

nobody_from : (before after : Live) (t : Turns Nobody before after) (n : ℕ) (es : List Entry) → Rest Nobody before after t n es → causes_from before after n es ≡ told Nobody (moves_from n es)
unfolding told
nobody_from before after t n es h = quiet_from Nobody before after t n es h (λ m le. (refl, refl))

module _ (p : Dbref) (k : ℕ) (is : p ≡ dbref_of k) (before after : Live) where
  went_from : (t : Turns (Went p) before after) (n : ℕ) (es : List Entry) → Rest (Went p) before after t n es → n ≤ k → k < n + length es → causes_from before after n es ≡ told (Went p) (moves_from n es)
  unfolding moves_from
  went_from t n [] h le lt = absurd (omega (arith, le, lt))
  went_from t n (e ∷ es) h le lt = elim (cases_eq k n) [
    | inl q ↦
        let now : p ≡ dbref_of n = is ∙ ap dbref_of q in
        let ms : List Move = move_of n e.stood (standing e.object) in
        ap (λ l. l ++ causes_from before after (suc n) es)
        (one_is (Went p) before after t n e es h ∙ ap (λ b. one_told (Went p) before after t n b false (of_moves ms)) (this_number n p now) ∙ ap (λ l. Disconnect (dbref_of n) ∷ l) (append-nil (of_moves ms)))
        ∙ ap (λ l. Disconnect (dbref_of n) ∷ (of_moves ms ++ l))
        (quiet_from (Went p) before after t (suc n) es (rest_next (Went p) before after t n e es h) (λ m more. (other_numbers k m p is (λ e. omega (arith, e, q, more)), refl)))
        ∙ ap (λ l. Disconnect (dbref_of n) ∷ l) (sym (flat_both ms (moves_from (suc n) es))) ∙ ap (λ x. Disconnect x ∷ of_moves (ms ++ moves_from (suc n) es)) (sym now)
        ∙ sym (before_moves p n (ms ++ moves_from (suc n) es) now (moves_here n e es))
    | inr ne ↦
        let ms : List Move = move_of n e.stood (standing e.object) in
        ap (λ l. l ++ causes_from before after (suc n) es)
        (one_is (Went p) before after t n e es h ∙ ap (λ b. one_told (Went p) before after t n b false (of_moves ms)) (other_numbers k n p is ne) ∙ append-nil (of_moves ms))
        ∙ ap (λ l. of_moves ms ++ l) (went_from t (suc n) es (rest_next (Went p) before after t n e es h) (omega (arith, le, ne)) (omega (arith, lt)))
        ∙ sym (went_over p n k ms (moves_from (suc n) es) is (omega (arith, le, ne)) (tells n e.stood (standing e.object)))
  ]
    where
      moves_here : (n : ℕ) (e : Entry) (es : List Entry) → From n (move_of n e.stood (standing e.object) ++ moves_from (suc n) es)
      moves_here n e es = moves_later n (e ∷ es)

  came_from : (t : Turns (Came p) before after) (n : ℕ) (es : List Entry) → Rest (Came p) before after t n es → n ≤ k → k < n + length es → causes_from before after n es ≡ told (Came p) (moves_from n es)
  unfolding moves_from
  came_from t n [] h le lt = absurd (omega (arith, le, lt))
  came_from t n (e ∷ es) h le lt = elim (cases_eq k n) [
    | inl q ↦
        let now : p ≡ dbref_of n = is ∙ ap dbref_of q in
        let ms : List Move = move_of n e.stood (standing e.object) in
        ap (λ l. l ++ causes_from before after (suc n) es)
        (one_is (Came p) before after t n e es h ∙ ap (λ b. one_told (Came p) before after t n false b (of_moves ms)) (this_number n p now))
        ∙ append_assoc (of_moves ms) (Connect (dbref_of n) ∷ []) (causes_from before after (suc n) es)
        ∙ ap (λ l. of_moves ms ++ Connect (dbref_of n) ∷ l)
        (quiet_from (Came p) before after t (suc n) es (rest_next (Came p) before after t n e es h) (λ m more. (refl, other_numbers k m p is (λ e. omega (arith, e, q, more)))))
        ∙ ap (λ x. of_moves ms ++ Connect x ∷ of_moves (moves_from (suc n) es)) (sym now)
        ∙ ap (λ l. of_moves ms ++ l) (sym (behind_moves p n (moves_from (suc n) es) now (moves_later (suc n) es)))
        ∙ sym (came_over p n k ms (moves_from (suc n) es) is le (tells n e.stood (standing e.object)))
    | inr ne ↦
        let ms : List Move = move_of n e.stood (standing e.object) in
        ap (λ l. l ++ causes_from before after (suc n) es)
        (one_is (Came p) before after t n e es h ∙ ap (λ b. one_told (Came p) before after t n false b (of_moves ms)) (other_numbers k n p is ne) ∙ append-nil (of_moves ms))
        ∙ ap (λ l. of_moves ms ++ l) (came_from t (suc n) es (rest_next (Came p) before after t n e es h) (omega (arith, le, ne)) (omega (arith, lt)))
        ∙ sym (came_over p n k ms (moves_from (suc n) es) is le (tells n e.stood (standing e.object)))
  ]

-- All of them.

from_first : (es : List Entry) (k : ℕ) → slice_get es k ≡ slice_get es (0 + k)
from_first es k = ap (λ (i : ℕ). slice_get es i) (zero_first k)

pub told_causes : (turned : Turned) (before after : Live) → Turns turned before after → causes_from before after 0 after.objects ≡ told turned (moves_from 0 after.objects)
told_causes Nobody before after t = nobody_from before after t 0 after.objects (from_first after.objects)
told_causes (Went p) before after t = went_from p t.below.0 t.below.1 before after t 0 after.objects (from_first after.objects) (omega arith) (omega (arith, t.below.2))
told_causes (Came p) before after t = came_from p t.below.0 t.below.1 before after t 0 after.objects (from_first after.objects) (omega arith) (omega (arith, t.below.2))
