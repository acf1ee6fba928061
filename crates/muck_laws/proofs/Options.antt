-- What may be nothing.
use Rattle.std.proofs.Common.{Bool, None, Option, Some, ap, arith, cond, false, inl, inr, ltb, ltb-false, not, option_and_then, option_map, refl, subst, suc, sym, true, ℕ, ◌&&◌, ◌+◌, ◌||◌, ◌≡◌, ◌≤◌, ◌⊎◌}
use Rattle.std.proofs.lemmas.Bool.{cond_both}
use Rattle.std.specs.Option.{option_map_or, option_or, unwrap_or}
use Rattle.std.specs.Prelude.{IfSome, is_none, is_some}

pub mapped_zero : (o : Option ℕ) → option_map (λ k. 0 + k) o ≡ o
mapped_zero None = refl
mapped_zero (Some k) = let is : 0 + k ≡ k = omega arith in ap Some is

pub mapped_on : (at : ℕ) (o : Option ℕ) → option_map (λ k. at + k) (option_map suc o) ≡ option_map (λ k. suc at + k) o
mapped_on at None = refl
mapped_on at (Some k) = let is : at + suc k ≡ suc at + k = omega arith in ap Some is

pub or_all : (n m : ℕ) → n ≤ m → unwrap_or (cond (ltb n m) (Some n) None) m ≡ n
or_all n m h = cond_both (ltb n m) (Some n) None (λ o. unwrap_or o m ≡ n) (λ e. refl) (λ e. omega (arith, ltb-false n m e))

-- a text in which the part stands nowhere stays
pub not_mapped : (o : Option ℕ) → option_map suc o ≡ None → o ≡ None
not_mapped None h = refl
not_mapped (Some n) h = absurd (let e : Some (suc n) ≡ None = h in cc)

pub some_is : {A : Type 0} (x y : A) → Some x ≡ Some y → x ≡ y
some_is x y e = cc

pub no_both : (place : Option ℕ) (at : ℕ) → place ≡ None → place ≡ Some at → ⊥
no_both None at a b = cc
no_both (Some k) at a b = cc

pub and_then_some : {A B : Type 0} (f : A → Option B) (o : Option A) (v : B) → option_and_then f o ≡ Some v → (a : A) × (o ≡ Some a) × (f a ≡ Some v)
and_then_some f None v e = cc
and_then_some f (Some a) v e = (a, refl, e)

pub cond_some : {A : Type 0} (t : Bool) (o : Option A) (v : A) → cond t o None ≡ Some v → (t ≡ true) × (o ≡ Some v)
cond_some true o v e = (refl, e)
cond_some false o v e = cc

pub map_some : {A B : Type 0} (f : A → B) (o : Option A) (v : B) → option_map f o ≡ Some v → (a : A) × (o ≡ Some a) × (f a ≡ v)
map_some f None v e = cc
map_some f (Some a) v e = (a, refl, cc)

pub cond_is : (b : Bool) (n k : ℕ) → cond b (Some n) None ≡ Some k → n ≡ k
cond_is true n k h = cc
cond_is false n k h = absurd (cc)

pub on_some : {X Y : Type 0} (r : Option X) (f : X → Y) (P : Y → Type 0) (o : Option Y) → option_map f r ≡ o → IfSome o P → IfSome r (λ x. P (f x))
on_some None f P o e h = tt
on_some (Some x) f P o e h = subst (λ o. IfSome o P) (sym e) h

pub untied_of : (test : ℕ → Bool) (o : Option ℕ) → (false || not (is_some o)) ≡ true → option_map_or test o false ≡ false
untied_of test None h = refl
untied_of test (Some c) h = cc

-- the porter may begin one where none runs
pub porter_cuts : {A : Type 0} (running : Option A) → running ≡ None → (is_none running && true) ≡ true
porter_cuts running idle = ap (λ o. is_none o && true) idle

pub none_where_not_some : {A : Type 0} (o : Option A) → is_some o ≡ false → o ≡ None
none_where_not_some None e = refl
none_where_not_some (Some x) e = absurd cc

pub nowhere_by : (o : Option ℕ) → not (option_map_or (λ n. true) o false) ≡ true → o ≡ None
nowhere_by None h = refl
nowhere_by (Some n) h = cc

pub mapped_none : {X Y : Type 0} (f : X → Y) (o : Option X) → option_map f o ≡ None → o ≡ None
mapped_none f None e = refl
mapped_none f (Some x) e = cc

pub none_where_never : {A : Type 0} → (o : Option A) → ((x : A) → o ≡ Some x → ⊥) → o ≡ None
none_where_never (Some x) h = absurd (h x refl)
none_where_never None h = refl

-- what is there is as it was asked
pub if_some_mapped : {A : Type 0} → (P Q : A → Type 0) (o : Option A) → ((x : A) → P x → Q x) → IfSome o P → IfSome o Q
if_some_mapped P Q (Some x) f h = f x h
if_some_mapped P Q None f h = h

pub some_mapped : {A B : Type 0} → (f : A → B) (o : Option A) → is_some (option_map f o) ≡ is_some o
some_mapped f (Some x) = refl
some_mapped f None = refl

pub or_none : {A : Type 0} → (o : Option A) → (o ≡ None) ⊎ ((x : A) × (o ≡ Some x))
or_none None = inl refl
or_none (Some x) = inr (x, refl)

pub option_or_last : (sh near own : Option ℕ) → option_or (option_or (option_or sh None) near) own ≡ option_or sh (option_or near own)
option_or_last None near own = refl
option_or_last (Some n) near own = refl

pub none_of : {X : Type 0} (o : Option X) → is_none o ≡ true → o ≡ None
none_of None e = refl
none_of (Some x) e = absurd cc

pub some_none : {X : Type 0} (x : X) → ◌≡◌ {A = Option X} (Some x) None → ⊥
some_none x e = cc

pub none_some : {X : Type 0} (x : X) → ◌≡◌ {A = Option X} None (Some x) → ⊥
none_some x e = cc

pub kept_some : (b : Bool) (m n : ℕ) → cond b None (Some m) ≡ Some n → (b ≡ false) × (m ≡ n)
kept_some true m n h = absurd (cc (h))
kept_some false m n h = (refl, cc (h))

-- a reader that f leaves as it is
pub kept_map : {X Y : Type 0} (g : X → Y) (f : X → X) (o : Option X) → ((x : X) → g (f x) ≡ g x) → option_map g (option_map f o) ≡ option_map g o
kept_map g f None h = refl
kept_map g f (Some x) h = ap (λ y. Some y) (h x)

pub kept_then : {X Y : Type 0} (g : X → Option Y) (f : X → X) (o : Option X) → ((x : X) → g (f x) ≡ g x) → option_and_then g (option_map f o) ≡ option_and_then g o
kept_then g f None h = refl
kept_then g f (Some x) h = h x
