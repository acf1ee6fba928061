-- Changes of the world of a guard, one after another.
use Rattle.std.proofs.Common.{◌≡◌, refl, ◌∙◌, ap, Result, Ok, Err}
use Rattle.muck_model.specs.declared.memory.NoMemory.{NoMemory}
use Rattle.spec_live.specs.Lives.{Change, change_followed}
use Rattle.muck_perm.specs.declared.guard.Guard.{Guard}
use Rattle.muck_perm.specs.inner.Guards.{Same, Kept, Done, Did}

pub kept_itself : (a : Guard) → Kept a a
kept_itself a = (refl, (refl, refl))

pub same_as : (a b : Guard) → b ≡ a → Same a b
same_as a b e = (ap (λ (g : Guard). g.db.ghost_name) e, ap (λ (g : Guard). g.board.ghost_name) e)

pub same_after : (a b c : Guard) → Same a b → Same b c → Same a c
same_after a b c p q = (q.0 ∙ p.0, q.1 ∙ p.1)

pub kept_after : (a b c : Guard) → Kept a b → Kept b c → Kept a c
kept_after a b c p q = (q.0 ∙ p.0, same_after a b c p.1 q.1)

pub done_both : (f g : Change) (a b c : Guard) → Done f a b → Done g b c → Done (change_followed f g) a c
unfolding change_followed
done_both f g a b c p q = (q.0 ∙ ap g p.0, kept_after a b c p.1 q.1)

pub did_both : {X : Type 0} (f g : Change) (a b c : Guard) (r : Result X NoMemory) → Done f a b → Did g b c r → Did (change_followed f g) a c r
did_both f g a b c (Ok x) p q = done_both f g a b c p q
did_both f g a b c (Err e) p q = same_after a b c p.1.1 q
