-- Induction over locks, and what a fold gives at each kind of lock.
use Rattle.std.proofs.Common.{◌≡◌, ℕ, List, sym, ◌∙◌, ap, subst}
use Rattle.muck_model.specs.declared.dbref.Dbref.{Dbref}
use Rattle.muck_model.specs.declared.lock.Lock.{Lock, Lock-F, fold-Lock, map-Lock, roll-Lock}
use Rattle.muck_model.specs.declared.lock.Lock.TheVariants.{Free, Object, Prop, Not, Both, Either, rolls-Free, rolls-Object, rolls-Prop, rolls-Not, rolls-Both, rolls-Either}
use Rattle.muck_model.specs.declared.lock.Lock.TheFolds.{ind-Lock, fold-roll-Lock}

layer : {X : Type 0} (P : Lock → Type 0) → P Free → ((d : Dbref) → P (Object d)) → ((path value : List ℕ) → P (Prop path value)) → ((a : Lock) → P a → P (Not a))
    → ((a b : Lock) → P a → P b → P (Both a b)) → ((a b : Lock) → P a → P b → P (Either a b))
    → (f : X → Lock) → ((x : X) → P (f x)) → (y : Lock-F X) → P (roll-Lock (map-Lock X Lock f y))
layer P free object prop negation both either f h Lock-F.Free = subst P (sym rolls-Free) free
layer P free object prop negation both either f h (Lock-F.Object d) = subst P (sym (rolls-Object d)) (object d)
layer P free object prop negation both either f h (Lock-F.Prop path value) = subst P (sym (rolls-Prop path value)) (prop path value)
layer P free object prop negation both either f h (Lock-F.Not a) = subst P (sym (rolls-Not (f a))) (negation (f a) (h a))
layer P free object prop negation both either f h (Lock-F.Both a b) = subst P (sym (rolls-Both (f a) (f b))) (both (f a) (f b) (h a) (h b))
layer P free object prop negation both either f h (Lock-F.Either a b) = subst P (sym (rolls-Either (f a) (f b))) (either (f a) (f b) (h a) (h b))

pub each_lock : (P : Lock → Type 0) → P Free → ((d : Dbref) → P (Object d)) → ((path value : List ℕ) → P (Prop path value)) → ((a : Lock) → P a → P (Not a))
    → ((a b : Lock) → P a → P b → P (Both a b)) → ((a b : Lock) → P a → P b → P (Either a b)) → (lock : Lock) → P lock
each_lock P free object prop negation both either =
    ind-Lock P (λ x y is. subst (λ z. P (roll-Lock z)) is (layer P free object prop negation both either (λ e. e.0) (λ e. e.1) y))

pub at_free : {A : Type 0} (step : Lock-F A → A) → fold-Lock A step Free ≡ step Lock-F.Free
at_free {A = A} step = ap (fold-Lock A step) (sym rolls-Free) ∙ fold-roll-Lock A step Lock-F.Free

pub at_object : {A : Type 0} (step : Lock-F A → A) (d : Dbref) → fold-Lock A step (Object d) ≡ step (Lock-F.Object d)
at_object {A = A} step d = ap (fold-Lock A step) (sym (rolls-Object d)) ∙ fold-roll-Lock A step (Lock-F.Object d)

pub at_prop : {A : Type 0} (step : Lock-F A → A) (path value : List ℕ) → fold-Lock A step (Prop path value) ≡ step (Lock-F.Prop path value)
at_prop {A = A} step path value = ap (fold-Lock A step) (sym (rolls-Prop path value)) ∙ fold-roll-Lock A step (Lock-F.Prop path value)

pub at_not : {A : Type 0} (step : Lock-F A → A) (a : Lock) → fold-Lock A step (Not a) ≡ step (Lock-F.Not (fold-Lock A step a))
at_not {A = A} step a = ap (fold-Lock A step) (sym (rolls-Not a)) ∙ fold-roll-Lock A step (Lock-F.Not a)

pub at_both : {A : Type 0} (step : Lock-F A → A) (a b : Lock) → fold-Lock A step (Both a b) ≡ step (Lock-F.Both (fold-Lock A step a) (fold-Lock A step b))
at_both {A = A} step a b = ap (fold-Lock A step) (sym (rolls-Both a b)) ∙ fold-roll-Lock A step (Lock-F.Both a b)

pub at_either : {A : Type 0} (step : Lock-F A → A) (a b : Lock) → fold-Lock A step (Either a b) ≡ step (Lock-F.Either (fold-Lock A step a) (fold-Lock A step b))
at_either {A = A} step a b = ap (fold-Lock A step) (sym (rolls-Either a b)) ∙ fold-roll-Lock A step (Lock-F.Either a b)
