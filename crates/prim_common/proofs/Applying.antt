-- How the tests of a primitive, its row and what it makes come together.
use Rattle.std.proofs.Common.{◌≡◌, ◌≤◌, ◌<◌, ℕ, false, List, ◌++◌, length, take, drop, Option, Some, None, Result, Ok, Err, refl, sym, ap, ◌∙◌, subst, arith, inl, inr}
use Rattle.std.specs.Prelude.{is_some}
use Rattle.std.proofs.lemmas.Bool.{cond-true, cond-false, lt-ltb, le-ltb}
use Rattle.std.proofs.lemmas.List.{length-take}
use Rattle.std.proofs.Math.Nat.{min-le_left}
use Rattle.spec_live.specs.Lives.{Live}
use Rattle.spec_rights.specs.declared.act.Actor.{Actor}
use Rattle.muf_model.specs.declared.fault.MufFault.{MufFault}
use Rattle.muf_model.specs.declared.fault.MufFault.TheVariants.{NotCompiled, StackFull}
use Rattle.muf_model.specs.declared.prims.Primitive.{Primitive}
use Rattle.muf_model.specs.Answer.{stack_most}
use Rattle.muf_model.specs.Datum.{Datum}
use Rattle.muf_model.specs.Needs.{Needs}
use Rattle.muf_model.specs.Prims.{needs_of, is_usable}
use Rattle.muf_frame.specs.declared.fault.PrimFault.{PrimFault}
use Rattle.muf_frame.specs.declared.fault.PrimFault.TheVariants.{Fault, NoMemory}
use Rattle.muf_frame.specs.inner.Shown.{Shown, flat}
use Rattle.muck_perm.specs.declared.guard.Guard.{Guard}
use Rattle.muck_perm.specs.inner.Guards.{Same, world_of}
use Rattle.muck_perm.proofs.Worlds.{kept_itself, same_as}
use Rattle.spec_prims.specs.Row.{WorldAnswer, gives, refuses, breaks, WorldDoing, row_unless, given_upon}
use Rattle.spec_prims.specs.Shared.{items_taken, first_fault, primitive_done}
use Rattle.spec_prims.proofs.Fits.{Fits, IsFit}
use Rattle.prim_common.specs.inner.Applied.{Untouched, Applied, Makes, Given, items_of, argued_of, does_of}
use Rattle.prim_common.specs.declared.made.Made.{Made}
use Rattle.prim_common.specs.inner.Tests.{Passes}
use Rattle.prim_common.proofs.First.{first_none}

-- After want of memory nothing is said of a row.

pub wants : (row : WorldAnswer) (old new : Guard) → Same old new → Makes row old new (Err NoMemory)
wants (gives items w) old new h = h
wants (refuses f) old new h = h
wants (breaks f w) old new h = h

-- A row behind the tests.

no_needs : (o : Option Needs) → false ≡ is_some o → o ≡ None
no_needs None e = refl
no_needs (Some needs) e = absurd cc

unless_fails : (X : Type 0) (o : Option MufFault) (row : WorldAnswer) (f : MufFault) → Passes {X = X} o (Err f) → row_unless o row ≡ refuses f
unless_fails X None row f h = absurd h
unless_fails X (Some g) row f h = ap refuses (sym h)

unless_passes : {X : Type 0} (o : Option MufFault) (row : WorldAnswer) (x : X) → Passes {X = X} o (Ok x) → row_unless o row ≡ row
unless_passes None row x h = refl
unless_passes (Some g) row x h = absurd h

absent_fault : (X : Type 0) (o : Option MufFault) (f : MufFault) → Passes {X = X} o (Err NotCompiled) → Passes {X = X} o (Err f) → f ≡ NotCompiled
absent_fault X None f h k = absurd h
absent_fault X (Some g) f h k = k ∙ sym h

absent_passes : {X Y : Type 0} (o : Option MufFault) (x : X) → Passes {X = X} o (Err NotCompiled) → Passes {X = X} o (Ok x) → Y
absent_passes None x h k = absurd h
absent_passes (Some g) x h k = absurd k

module _ (p : Primitive) (argued : Option MufFault) (a : Actor) (locked : ℕ) (stack : List Datum) (w : Live) where
  pub fails_first : (doing : Option WorldDoing) (f : MufFault) (r : Result ℕ MufFault) → is_some doing ≡ is_usable p → argued ≡ argued_of doing a (take (items_taken p stack) stack) w → Passes (first_fault p argued a locked stack w) r → r ≡ Err f →
      primitive_done doing p a locked stack w ≡ refuses f
  fails_first None f r there same pass is =
      let missing : Passes {X = ℕ} (first_fault p argued a locked stack w) (Err NotCompiled) = first_none ℕ p argued a locked stack w (no_needs (needs_of p) there) in
      ap refuses (sym (absent_fault ℕ (first_fault p argued a locked stack w) f missing (subst (Passes (first_fault p argued a locked stack w)) is pass)))
  fails_first (Some doing) f r there same pass is =
      unless_fails ℕ _ _ f (subst (λ o. Passes {X = ℕ} (first_fault p o a locked stack w) (Err f)) same (subst (Passes (first_fault p argued a locked stack w)) is pass))

  pub gives_first : (doing : Option WorldDoing) (n : ℕ) (r : Result ℕ MufFault) → is_some doing ≡ is_usable p → argued ≡ argued_of doing a (take (items_taken p stack) stack) w → Passes (first_fault p argued a locked stack w) r → r ≡ Ok n → n ≡ items_taken p stack →
      primitive_done doing p a locked stack w ≡ given_upon (drop n stack) (does_of doing a (take n stack) w)
  gives_first None n r there same pass is count =
      let missing : Passes {X = ℕ} (first_fault p argued a locked stack w) (Err NotCompiled) = first_none ℕ p argued a locked stack w (no_needs (needs_of p) there) in
      absent_passes (first_fault p argued a locked stack w) n missing (subst (Passes (first_fault p argued a locked stack w)) is pass)
  gives_first (Some doing) n r there same pass is count =
      unless_passes {X = ℕ} _ _ n (subst (λ o. Passes {X = ℕ} (first_fault p o a locked stack w) (Ok n)) same (subst (Passes (first_fault p argued a locked stack w)) is pass))
      ∙ ap (λ k. given_upon (drop k stack) (doing.does a (take k stack) w)) (sym count)

-- What is applied.

pub refused_so : (row : WorldAnswer) (f : Shown) (g : Guard) (h : MufFault) → row ≡ refuses h → Applied row f f g g (Err (Fault h))
refused_so row f g h e = subst (λ r. Applied r f f g g (Err (Fault h))) (sym e) (refl, refl, (refl, kept_itself g))

row_wants : (row : WorldAnswer) (f g : Shown) (old new : Guard) → Same old new → Applied row f g old new (Err NoMemory)
row_wants (gives items w) f g old new h = h
row_wants (refuses e) f g old new h = h
row_wants (breaks e w) f g old new h = h

untouched_as : (old new : Guard) → new ≡ old → Untouched old new
untouched_as old new e = (ap (λ (g : Guard). world_of g) e, (ap (λ (g : Guard). g.actor) e, same_as old new e))

makes_fault : (rest : List Datum) (row : WorldAnswer) (f : Shown) (old new : Guard) (h : PrimFault) → Makes row old new (Err h) → Applied (given_upon rest row) f f old new (Err h)
makes_fault rest (gives items w) f old new (Fault h) m = absurd m
makes_fault rest (refuses e) f old new (Fault h) m = (m.0, refl, untouched_as old new m.1)
makes_fault rest (breaks e w) f old new (Fault h) m = (m.0, refl, m.1, m.2)
makes_fault rest row f old new NoMemory m = row_wants (given_upon rest row) f f old new (same row m)
  where
    same : (row : WorldAnswer) → Makes row old new (Err NoMemory) → Same old new
    same (gives items w) m = m
    same (refuses e) m = m
    same (breaks e w) m = m

pub made_fault : (all row : WorldAnswer) (rest : List Datum) (f : Shown) (old new : Guard) (h : PrimFault) (r : Result Made PrimFault) → all ≡ given_upon rest row → Makes row old new r → r ≡ Err h → Applied all f f old new (Err h)
made_fault all row rest f old new h r e m is =
    subst (λ q. Applied q f f old new (Err h)) (sym e) (makes_fault rest row f old new h (subst (Makes row old new) is m))

made_given : (row : WorldAnswer) (n : ℕ) (f g : Shown) (old new : Guard) (made : Made) (r : Result (Unit {0}) MufFault) (x : Unit {0}) → Makes row old new (Ok made) → Given n (items_of made) f g r → r ≡ Ok x → Applied (given_upon (drop n (flat f).stack) row) f g old new (Ok x)
made_given (gives items w) n f g old new made r x m k is =
    let given : Given n items f g (Ok x) = subst (λ q. Given n items f g q) is (subst (λ xs. Given n xs f g r) m.0 k) in
    let room : given_upon (drop n (flat f).stack) (gives items w) ≡ gives (items ++ drop n (flat f).stack) w = cond-false _ _ _ (le-ltb stack_most (length (items ++ drop n (flat f).stack)) given.0) in
    subst (λ q. Applied q f g old new (Ok x)) (sym room) (given.1, m.1, m.2)
made_given (refuses e) n f g old new made r x m k is = absurd m
made_given (breaks e w) n f g old new made r x m k is = absurd m

pub applied_given : (all row : WorldAnswer) (n : ℕ) (f g : Shown) (old new : Guard) (made : Made) (q : Result Made PrimFault) (r : Result (Unit {0}) MufFault) (x : Unit {0}) →
    all ≡ given_upon (drop n (flat f).stack) row → Makes row old new q → q ≡ Ok made → Given n (items_of made) f g r → r ≡ Ok x → Applied all f g old new (Ok x)
applied_given all row n f g old new made q r x e m was k is =
    subst (λ o. Applied o f g old new (Ok x)) (sym e) (made_given row n f g old new made r x (subst (Makes row old new) was m) k is)

made_full : (row : WorldAnswer) (n : ℕ) (f g : Shown) (old new : Guard) (made : Made) (h : MufFault) → Fits (take n (flat f).stack) (world_of old) row → Makes row old new (Ok made) → Given n (items_of made) f g (Err h) → Applied (given_upon (drop n (flat f).stack) row) f g old new (Err (Fault h))
made_full (gives items w) n f g old new made h fits m k =
    let given : Given n items f g (Err h) = subst (λ xs. Given n xs f g (Err h)) m.0 k in
    let full : given_upon (drop n (flat f).stack) (gives items w) ≡ refuses StackFull = cond-true _ _ _ (lt-ltb stack_most (length (items ++ drop n (flat f).stack)) given.1) in
    subst (λ q. Applied q f g old new (Err (Fault h))) (sym full) (given.2, given.3, stays fits given.0)
  where
    stays : Fits (take n (flat f).stack) (world_of old) (gives items w) → n < length items → Untouched old new
    stays (inl few) more =
        let least : length (take n (flat f).stack) ≤ n = subst (λ k. k ≤ n) (sym (length-take n (flat f).stack)) (min-le_left n (length (flat f).stack)) in
        absurd (omega (arith, few, more, least))
    stays (inr same) more = (m.1 ∙ same, m.2)
made_full (refuses e) n f g old new made h fits m k = absurd m
made_full (breaks e w) n f g old new made h fits m k = absurd m

pub applied_full : (all row : WorldAnswer) (n : ℕ) (f g : Shown) (old new : Guard) (made : Made) (q : Result Made PrimFault) (r : Result (Unit {0}) MufFault) (h : MufFault) →
    all ≡ given_upon (drop n (flat f).stack) row → Fits (take n (flat f).stack) (world_of old) row → Makes row old new q → q ≡ Ok made → Given n (items_of made) f g r → r ≡ Err h → Applied all f g old new (Err (Fault h))
applied_full all row n f g old new made q r h e fits m was k is =
    subst (λ o. Applied o f g old new (Err (Fault h))) (sym e) (made_full row n f g old new made h fits (subst (Makes row old new) was m) (subst (Given n (items_of made) f g) is k))

pub fits_of : (doing : Option WorldDoing) (a : Actor) (items : List Datum) (w : Live) → IsFit doing → Fits items w (does_of doing a items w)
fits_of None a items w h = tt
fits_of (Some doing) a items w h = h a items w
