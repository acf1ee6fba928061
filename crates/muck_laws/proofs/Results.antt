-- What may fail.
use Rattle.std.proofs.Common.{Bool, Err, IfErr, IfOk, Ok, OnErr, OnOk, Result, cond, false, refl, subst, sym, true, ℕ, ◌∙◌, ◌≡◌}
use Rattle.std.specs.Prelude.{IsTrue}

-- a test that did not fail
pub guard_ok : {A : Type 0} (b : Bool) (left : ℕ) (x y : A) → cond b (Err left) (Ok x) ≡ Ok y → (b ≡ false) × (x ≡ y)
guard_ok true left x y e = absurd cc
guard_ok false left x y e = (refl, cc)

pub skip_ok : {A : Type 0} (b : Bool) (left : ℕ) (r : Result A ℕ) (y : A) → cond b (Err left) r ≡ Ok y → (b ≡ false) × (r ≡ Ok y)
skip_ok true left r y e = absurd cc
skip_ok false left r y e = (refl, e)

pub test_ok : {A : Type 0} (b : Bool) (left : ℕ) (x y : A) → cond b (Ok x) (Err left) ≡ Ok y → (b ≡ true) × (x ≡ y)
test_ok true left x y e = (refl, cc)
test_ok false left x y e = absurd cc

pub if_err : {A E : Type 0} (r : Result A E) (P Q : E → Type 0) → IfErr r P → ((e : E) → P e → Q e) → IfErr r Q
if_err (Ok x) P Q p f = tt
if_err (Err e) P Q p f = f e p

-- facts of what a call answered
pub all_ok : {A E : Type 0} (P Q S R : A → Type 0) (r : Result A E) → ((x : A) → P x → Q x → S x → R x) → IfOk r P → IfOk r Q → IfOk r S → IfOk r R
all_ok P Q S R (Ok x) f p q s = f x p q s
all_ok P Q S R (Err e) f p q s = tt

pub on_err : {A E P Q : Type 0} (r : Result A E) → OnErr r P → (P → Q) → OnErr r Q
on_err (Ok x) p f = tt
on_err (Err e) p f = f p

-- what is so by the answer
pub on_ok : {A E P Q : Type 0} (r : Result A E) → OnOk r P → (P → Q) → OnOk r Q
on_ok (Ok x) p f = f p
on_ok (Err e) p f = tt

pub never_ok_err : {A E : Type 0} (r : Result A E) (x : A) (e : E) → r ≡ Ok x → r ≡ Err e → ⊥
never_ok_err r x e p q = cc

-- what is said of an error, of any answer
pub on_error : (A E : Type 0) (r : Result A E) (P : Type 0) → P → OnErr r P
on_error A E (Ok v) P p = tt
on_error A E (Err e) P p = p

pub on_err_given : {T E : Type 0} (r : Result T E) (P : Type 0) → P → OnErr r P
on_err_given (Ok x) P p = tt
on_err_given (Err e) P p = p

pub whatever : {X E P : Type 0} (r : Result X E) → P → IfOk r (λ x. P)
whatever (Ok x) p = p
whatever (Err e) p = tt

-- an error is that one
pub err_is : {T E : Type 0} (r : Result T E) (e f : E) → r ≡ Err e → r ≡ Err f → e ≡ f
err_is r e f one other = let both = sym one ∙ other in cc

-- what is said of an error, of any answer
pub on_err_as : {A E P : Type 0} (r : Result A E) → P → OnErr r P
on_err_as (Ok x) p = tt
on_err_as (Err e) p = p

-- what holds of an answer, so does what follows from it
pub if_ok_as : {X E : Type 0} (r : Result X E) (A B : X → Type 0) → ((x : X) → A x → B x) → IfOk r A → IfOk r B
if_ok_as (Ok x) A B f h = f x h
if_ok_as (Err e) A B f h = h

-- what holds anyway
pub on_ok_turns : {X E : Type 0} (r : Result X E) (P : Type 0) → P → OnOk r P
on_ok_turns (Ok x) P h = h
on_ok_turns (Err e) P h = tt

-- what holds where a call succeeds, so does what follows from it
pub on_ok_as : {X E : Type 0} (r : Result X E) (A B : Type 0) → (A → B) → OnOk r A → OnOk r B
on_ok_as (Ok x) A B f h = f h
on_ok_as (Err e) A B f h = h

-- what an answer is taken for
pub open_where : {E : Type 0} {P Q : Type 0} → (r : Result Bool E) → (P → Q) → IfOk r (λ yes. IsTrue yes → P) → IfOk r (λ yes. IsTrue yes → Q)
open_where (Ok b) f h = λ y. f (h y)
open_where (Err e) f h = h

pub if_ok_mapped : {X E : Type 0} → (P Q : X → Type 0) (r : Result X E) → ((x : X) → P x → Q x) → IfOk r P → IfOk r Q
if_ok_mapped P Q (Ok x) f h = f x h
if_ok_mapped P Q (Err e) f h = h

-- what is known of a result, by what it was
pub over_by : {A E : Type 0} {r : Result A E} {x : A} → (P : A → Type 0) → r ≡ Ok x → IfOk r P → P x
over_by P e h = subst (λ r. IfOk r P) e h
