-- One step of reading in one pass leaves the outcome.
use Rattle.std.proofs.Common.{◌≡◌, ℕ, ◌+◌, ◌-◌, ◌<◌, ◌≤◌, true, false, List, [], ◌∷◌, ◌++◌, length, take, drop, reverse, Some, None, Option, Result, Ok, Err, refl, sym, ◌∙◌, ap, subst, arith}
use Rattle.muck_laws.proofs.Parts.{length-from}
use Rattle.muck_laws.proofs.Places.{drop-here, drop-past}
use Rattle.muck_laws.proofs.Truths.{and_first, and_rest}
use Rattle.std.specs.Prelude.{not, ◌&&◌, ◌==◌, if◌then◌else◌, slice_get}
use Rattle.std.specs.List.{before_first, position_or_len}
use Rattle.std.proofs.lemmas.List.{length-drop, reverse-append, length-reverse, drop-drop, drop_all}
use Rattle.std.proofs.lemmas.Bool.{false≢true, eqb-true, not-true, not-false}
use Rattle.std.proofs.lemmas.Option.{slice_get_within}
use Rattle.muck_model.specs.declared.lock.Lock.{Lock}
use Rattle.muck_model.specs.declared.lock.Lock.TheVariants as locks
use Rattle.muck_lock.specs.Naming.{Naming}
use Rattle.muck_lock.specs.Grammar.{LockReading, ends_key, lock_key_of, key_or_fault, key_in, negated, bracket_closed, with_first_lock, sign_followed, locks_joined, term_in, part_reading, whole, lock_of}
use Rattle.muck_lock.specs.inner.Waiting.{ends, filled, widened, resumed, place_behind, outcome_at, outcome_behind, LastStays, GoesOn}
use Rattle.muck_lock.specs.declared.part.Part.{Part}
use Rattle.muck_lock.specs.declared.part.Part.TheVariants.{OneOf, AllOf, Term}
use Rattle.muck_lock.specs.declared.reader.Waiting.{Waiting}
use Rattle.muck_lock.specs.declared.reader.Waiting.TheVariants.{Not, Group, Both, Either}
use Rattle.muck_lock.specs.declared.reader.Next.{Next}
use Rattle.muck_lock.specs.declared.reader.Next.TheVariants.{More, Done}
use Rattle.muck_lock.specs.declared.fault.LockFault.{LockFault}
use Rattle.muck_lock.specs.declared.fault.LockFault.TheVariants.{BadLock, NoMemory}
use Rattle.muck_lock.proofs.Depth.{reading_is}

-- what stands ahead of a text
abbrev ahead_of : List ℕ → Option ℕ
ahead_of [] = None
ahead_of (b ∷ more) = Some b

-- A looser part is read as a term, with what may follow.
one_of_is : (names : Naming) (text : List ℕ) → part_reading names OneOf text ≡ widened names Term OneOf (part_reading names Term text)
one_of_is names text =
    reading_is names OneOf text ∙ ap (λ r. locks_joined 124 locks.Either (part_reading names OneOf) (locks_joined 38 locks.Both (part_reading names AllOf) r)) (sym (reading_is names Term text))

all_of_is : (names : Naming) (text : List ℕ) → part_reading names AllOf text ≡ widened names Term AllOf (part_reading names Term text)
all_of_is names text =
    reading_is names AllOf text ∙ ap (λ r. locks_joined 38 locks.Both (part_reading names AllOf) r) (sym (reading_is names Term text))

-- a fault stays
resumed_fault : (names : Naming) (k : List Waiting) (p : Part) (rest : List ℕ) → resumed names k p (Err rest) ≡ Err rest
resumed_fault names [] Term rest = refl
resumed_fault names [] AllOf rest = refl
resumed_fault names [] OneOf rest = refl
resumed_fault names (Not ∷ k) Term rest = resumed_fault names k Term rest
resumed_fault names (Not ∷ k) AllOf rest = resumed_fault names k Term rest
resumed_fault names (Not ∷ k) OneOf rest = resumed_fault names k Term rest
resumed_fault names (Group ∷ k) Term rest = resumed_fault names k Term rest
resumed_fault names (Group ∷ k) AllOf rest = resumed_fault names k Term rest
resumed_fault names (Group ∷ k) OneOf rest = resumed_fault names k Term rest
resumed_fault names (Both a ∷ k) Term rest = resumed_fault names k AllOf rest
resumed_fault names (Both a ∷ k) AllOf rest = resumed_fault names k AllOf rest
resumed_fault names (Both a ∷ k) OneOf rest = resumed_fault names k AllOf rest
resumed_fault names (Either a ∷ k) Term rest = resumed_fault names k OneOf rest
resumed_fault names (Either a ∷ k) AllOf rest = resumed_fault names k OneOf rest
resumed_fault names (Either a ∷ k) OneOf rest = resumed_fault names k OneOf rest

-- no `&` ahead
abbrev pub NoAnd : Option ℕ → Type 0
NoAnd None = Unit {0}
NoAnd (Some b) = (b == 38) ≡ false

-- no `|` ahead
abbrev pub NoOr : Option ℕ → Type 0
NoOr None = Unit {0}
NoOr (Some b) = (b == 124) ≡ false

not_followed : (sign : ℕ) (join : Lock → Lock → Lock) (more : List ℕ → LockReading) (lock : Lock) (b : ℕ) (rest : List ℕ) → (b == sign) ≡ false → sign_followed sign join more lock (b ∷ rest) ≡ Ok (lock, b ∷ rest)
not_followed sign join more lock b rest h = rw h refl

all_of_alone : (names : Naming) (lock : Lock) (rest : List ℕ) → NoAnd (ahead_of rest) → widened names Term AllOf (Ok (lock, rest)) ≡ Ok (lock, rest)
all_of_alone names lock [] h = refl
all_of_alone names lock (b ∷ rest) h = not_followed 38 locks.Both (part_reading names AllOf) lock b rest h

or_alone : (names : Naming) (lock : Lock) (rest : List ℕ) → NoOr (ahead_of rest) → widened names AllOf OneOf (Ok (lock, rest)) ≡ Ok (lock, rest)
or_alone names lock [] h = refl
or_alone names lock (b ∷ rest) h = not_followed 124 locks.Either (part_reading names OneOf) lock b rest h

one_of_alone : (names : Naming) (lock : Lock) (rest : List ℕ) → NoAnd (ahead_of rest) → NoOr (ahead_of rest) → widened names Term OneOf (Ok (lock, rest)) ≡ Ok (lock, rest)
one_of_alone names lock rest a o =
    ap (λ r. locks_joined 124 locks.Either (part_reading names OneOf) r) (all_of_alone names lock rest a) ∙ or_alone names lock rest o

-- Terms with `&` between are as good as a term where no `&` is ahead.
settled_all : (names : Naming) (k : List Waiting) (lock : Lock) (rest : List ℕ) → NoAnd (ahead_of rest)
    → resumed names k Term (Ok (lock, rest)) ≡ resumed names k AllOf (Ok (lock, rest))
settled_all names [] lock rest a = ap (λ r. locks_joined 124 locks.Either (part_reading names OneOf) r) (all_of_alone names lock rest a)
settled_all names (Not ∷ k) lock rest a = refl
settled_all names (Group ∷ k) lock rest a =
    ap (λ r. resumed names k Term (bracket_closed (locks_joined 124 locks.Either (part_reading names OneOf) r))) (all_of_alone names lock rest a)
settled_all names (Both f ∷ k) lock rest a = ap (λ r. resumed names k AllOf (with_first_lock locks.Both f r)) (all_of_alone names lock rest a)
settled_all names (Either f ∷ k) lock rest a =
    ap (λ r. resumed names k OneOf (with_first_lock locks.Either f (locks_joined 124 locks.Either (part_reading names OneOf) r))) (all_of_alone names lock rest a)

settled_one : (names : Naming) (k : List Waiting) (lock : Lock) (rest : List ℕ) → NoAnd (ahead_of rest) → NoOr (ahead_of rest)
    → resumed names k Term (Ok (lock, rest)) ≡ resumed names k OneOf (Ok (lock, rest))
settled_one names [] lock rest a o = one_of_alone names lock rest a o
settled_one names (Not ∷ k) lock rest a o = refl
settled_one names (Group ∷ k) lock rest a o = ap (λ r. resumed names k Term (bracket_closed r)) (one_of_alone names lock rest a o)
settled_one names (Both f ∷ k) lock rest a o = ap (λ r. resumed names k AllOf (with_first_lock locks.Both f r)) (all_of_alone names lock rest a)
settled_one names (Either f ∷ k) lock rest a o = ap (λ r. resumed names k OneOf (with_first_lock locks.Either f r)) (one_of_alone names lock rest a o)

-- what waits goes on, which takes a `)` where it is a `(`
abbrev pub behind : Waiting → List ℕ → List ℕ
behind Not rest = rest
behind Group rest = drop 1 rest
behind (Both f) rest = rest
behind (Either f) rest = rest

no_and : (o : Option ℕ) (f : Lock) → ends (Both f) o ≡ true → NoAnd o
no_and None f h = tt
no_and (Some b) f h = not-true (b == 38) h

no_and_either : (o : Option ℕ) (f : Lock) → ends (Either f) o ≡ true → NoAnd o
no_and_either None f h = tt
no_and_either (Some b) f h = not-true (b == 38) (and_first (not (b == 38)) (not (b == 124)) h)

no_or : (o : Option ℕ) (f : Lock) → ends (Either f) o ≡ true → NoOr o
no_or None f h = tt
no_or (Some b) f h = not-true (b == 124) (and_rest (not (b == 38)) (not (b == 124)) h)

goes_on : (names : Naming) (w : Waiting) (k : List Waiting) (lock : Lock) (rest : List ℕ) → ends w (ahead_of rest) ≡ true
    → resumed names (w ∷ k) Term (Ok (lock, rest)) ≡ resumed names k Term (Ok (filled w lock, behind w rest))
goes_on names Not k lock rest h = refl
goes_on names Group k lock [] h = absurd (false≢true h)
goes_on names Group k lock (b ∷ rest) h =
    let P : ℕ → Type 0 = λ c. resumed names (Group ∷ k) Term (Ok (lock, c ∷ rest)) ≡ resumed names k Term (Ok (lock, rest)) in
    subst P (sym (eqb-true b 41 h)) refl
goes_on names (Both f) k lock rest h =
    ap (λ r. resumed names k AllOf (with_first_lock locks.Both f r)) (all_of_alone names lock rest (no_and (ahead_of rest) f h))
    ∙ sym (settled_all names k (locks.Both f lock) rest (no_and (ahead_of rest) f h))
goes_on names (Either f) k lock rest h =
    ap (λ r. resumed names k OneOf (with_first_lock locks.Either f r)) (one_of_alone names lock rest (no_and_either (ahead_of rest) f h) (no_or (ahead_of rest) f h))
    ∙ sym (settled_one names k (locks.Either f lock) rest (no_and_either (ahead_of rest) f h) (no_or (ahead_of rest) f h))

-- An `&` ahead begins a part that waits.
and_opens : (names : Naming) (k : List Waiting) (lock : Lock) (rest : List ℕ) → LastStays (Some 38) k
    → resumed names k Term (Ok (lock, 38 ∷ rest)) ≡ resumed names k AllOf (with_first_lock locks.Both lock (part_reading names AllOf rest))
and_opens names [] lock rest stays = refl
and_opens names (Not ∷ k) lock rest stays = absurd (false≢true (sym stays))
and_opens names (Group ∷ k) lock rest stays = refl
and_opens names (Both f ∷ k) lock rest stays = refl
and_opens names (Either f ∷ k) lock rest stays = refl

begins_and : (names : Naming) (k : List Waiting) (lock : Lock) (rest : List ℕ) → LastStays (Some 38) k
    → resumed names k Term (Ok (lock, 38 ∷ rest)) ≡ resumed names (Both lock ∷ k) Term (part_reading names Term rest)
begins_and names k lock rest stays =
    and_opens names k lock rest stays ∙ ap (λ r. resumed names k AllOf (with_first_lock locks.Both lock r)) (all_of_is names rest)

-- So does a `|`.
or_opens : (names : Naming) (k : List Waiting) (lock : Lock) (rest : List ℕ) → LastStays (Some 124) k
    → resumed names k Term (Ok (lock, 124 ∷ rest)) ≡ resumed names k OneOf (with_first_lock locks.Either lock (part_reading names OneOf rest))
or_opens names [] lock rest stays = refl
or_opens names (Not ∷ k) lock rest stays = absurd (false≢true (sym stays))
or_opens names (Group ∷ k) lock rest stays = refl
or_opens names (Both f ∷ k) lock rest stays = absurd (false≢true (sym stays))
or_opens names (Either f ∷ k) lock rest stays = refl

begins_or : (names : Naming) (k : List Waiting) (lock : Lock) (rest : List ℕ) → LastStays (Some 124) k
    → resumed names k Term (Ok (lock, 124 ∷ rest)) ≡ resumed names (Either lock ∷ k) Term (part_reading names Term rest)
begins_or names k lock rest stays =
    or_opens names k lock rest stays ∙ ap (λ r. resumed names k OneOf (with_first_lock locks.Either lock r)) (one_of_is names rest)

-- Anything else ahead is a fault.
is_fault : (names : Naming) (size : ℕ) (k : List Waiting) (lock : Lock) (b : ℕ) (rest : List ℕ) → LastStays (Some b) k → NoAnd (Some b) → NoOr (Some b)
    → whole size (resumed names k Term (Ok (lock, b ∷ rest))) ≡ Err (size - length (b ∷ rest))
is_fault names size [] lock b rest stays a o = ap (whole size) (one_of_alone names lock (b ∷ rest) a o)
is_fault names size (Not ∷ k) lock b rest stays a o = absurd (false≢true (sym stays))
is_fault names size (Group ∷ k) lock b rest stays a o =
    ap (λ r. whole size (resumed names k Term (bracket_closed r))) (one_of_alone names lock (b ∷ rest) a o)
    ∙ ap (λ t. whole size (resumed names k Term (if t then Ok (lock, rest) else Err (b ∷ rest)))) stays
    ∙ ap (whole size) (resumed_fault names k Term (b ∷ rest))
is_fault names size (Both f ∷ k) lock b rest stays a o = absurd (false≢true (sym a ∙ not-false (b == 38) stays))
is_fault names size (Either f ∷ k) lock b rest stays a o = absurd (let e : not (b == 38) && not (b == 124) ≡ true = rw (a, o) refl in false≢true (sym stays ∙ e))

is_open : (names : Naming) (size : ℕ) (w : Waiting) (k : List Waiting) (lock : Lock) → LastStays None (w ∷ k)
    → whole size (resumed names (w ∷ k) Term (Ok (lock, []))) ≡ Err size
is_open names size Not k lock stays = absurd (false≢true (sym stays))
is_open names size Group k lock stays = ap (whole size) (resumed_fault names k Term []) ∙ ap Err (omega arith)
is_open names size (Both f) k lock stays = absurd (false≢true (sym stays))
is_open names size (Either f) k lock stays = absurd (false≢true (sym stays))

ahead_cases : (text : List ℕ) (at : ℕ) (o : Option ℕ) → slice_get text at ≡ o → ahead_of (drop at text) ≡ o
ahead_cases text at None h = ap ahead_of (drop-past text at h)
ahead_cases text at (Some b) h = ap ahead_of (drop-here text at b h)

-- The steps, at a place of the text and a list of what waits, the last at its end.
pub ahead_here : (text : List ℕ) (at : ℕ) → ahead_of (drop at text) ≡ slice_get text at
ahead_here text at = ahead_cases text at (slice_get text at) refl

drop-behind_group : (text : List ℕ) (at : ℕ) (o : Option ℕ) → slice_get text at ≡ o → ends Group (slice_get text at) ≡ true → drop 1 (drop at text) ≡ drop (at + 1) text
drop-behind_group text at None here h = absurd (false≢true (sym (ap (ends Group) here) ∙ h))
drop-behind_group text at (Some b) here h = ap (drop 1) (drop-here text at b here)

drop-behind : (text : List ℕ) (at : ℕ) (w : Waiting) → ends w (slice_get text at) ≡ true → behind w (drop at text) ≡ drop (place_behind w at) text
drop-behind text at Group h = drop-behind_group text at (slice_get text at) refl h
drop-behind text at _ h = refl

pub step_fills : (names : Naming) (text : List ℕ) (old new : List Waiting) (w : Waiting) (lock : Lock) (at : ℕ) → reverse old ≡ w ∷ reverse new → ends w (slice_get text at) ≡ true
    → outcome_behind names text old lock at ≡ outcome_behind names text new (filled w lock) (place_behind w at)
step_fills names text old new w lock at popped h =
    ap (λ k. whole (length text) (resumed names k Term (Ok (lock, drop at text)))) popped
    ∙ ap (whole (length text)) (goes_on names w (reverse new) lock (drop at text) (ap (ends w) (ahead_here text at) ∙ h))
    ∙ ap (λ r. whole (length text) (resumed names (reverse new) Term (Ok (filled w lock, r)))) (drop-behind text at w h)

pub step_and : (names : Naming) (text : List ℕ) (old new : List Waiting) (lock : Lock) (at : ℕ) → LastStays (slice_get text at) (reverse old) → slice_get text at ≡ Some 38
    → new ≡ old ++ Both lock ∷ [] → outcome_at names text new (at + 1) ≡ outcome_behind names text old lock at
step_and names text old new lock at stays here pushed =
    let P : Option ℕ → Type 0 = λ o. LastStays o (reverse old) in
    sym (ap (λ r. whole (length text) (resumed names (reverse old) Term (Ok (lock, r)))) (drop-here text at 38 here)
    ∙ ap (whole (length text)) (begins_and names (reverse old) lock (drop (at + 1) text) (subst P here stays))
    ∙ ap (λ k. whole (length text) (resumed names k Term (part_reading names Term (drop (at + 1) text)))) (sym (ap reverse pushed ∙ reverse-append old (Both lock ∷ []))))

pub step_or : (names : Naming) (text : List ℕ) (old new : List Waiting) (lock : Lock) (at : ℕ) → LastStays (slice_get text at) (reverse old) → slice_get text at ≡ Some 124
    → new ≡ old ++ Either lock ∷ [] → outcome_at names text new (at + 1) ≡ outcome_behind names text old lock at
step_or names text old new lock at stays here pushed =
    let P : Option ℕ → Type 0 = λ o. LastStays o (reverse old) in
    sym (ap (λ r. whole (length text) (resumed names (reverse old) Term (Ok (lock, r)))) (drop-here text at 124 here)
    ∙ ap (whole (length text)) (begins_or names (reverse old) lock (drop (at + 1) text) (subst P here stays))
    ∙ ap (λ k. whole (length text) (resumed names k Term (part_reading names Term (drop (at + 1) text)))) (sym (ap reverse pushed ∙ reverse-append old (Either lock ∷ []))))

pub step_fault : (names : Naming) (text : List ℕ) (old : List Waiting) (lock : Lock) (at b : ℕ) → LastStays (slice_get text at) (reverse old) → slice_get text at ≡ Some b → (b == 38) ≡ false → (b == 124) ≡ false
    → at ≤ length text → outcome_behind names text old lock at ≡ Err at
step_fault names text old lock at b stays here a o le =
    let P : Option ℕ → Type 0 = λ z. LastStays z (reverse old) in
    ap (λ r. whole (length text) (resumed names (reverse old) Term (Ok (lock, r)))) (drop-here text at b here)
    ∙ is_fault names (length text) (reverse old) lock b (drop (at + 1) text) (subst P here stays) a o
    ∙ ap Err (ap (λ l. length text - length l) (sym (drop-here text at b here)) ∙ length-from text at le)

pub step_done : (names : Naming) (text : List ℕ) (old : List Waiting) (lock : Lock) (at : ℕ) → slice_get text at ≡ None → old ≡ [] → outcome_behind names text old lock at ≡ Ok lock
step_done names text old lock at here empty =
    ap (λ k. whole (length text) (resumed names (reverse k) Term (Ok (lock, drop at text)))) empty
    ∙ ap (λ r. whole (length text) (resumed names [] Term (Ok (lock, r)))) (drop-past text at here)

open_where : (names : Naming) (size : ℕ) (k : List Waiting) (lock : Lock) → 0 < length k → LastStays None k → whole size (resumed names k Term (Ok (lock, []))) ≡ Err size
open_where names size [] lock some stays = absurd (omega (arith, some))
open_where names size (w ∷ k) lock some stays = is_open names size w k lock stays

pub step_open : (names : Naming) (text : List ℕ) (old : List Waiting) (lock : Lock) (at : ℕ) → LastStays (slice_get text at) (reverse old) → slice_get text at ≡ None → 0 < length old
    → at ≤ length text → outcome_behind names text old lock at ≡ Err at
step_open names text old lock at stays here some le =
    let P : Option ℕ → Type 0 = λ z. LastStays z (reverse old) in
    let gone : length (drop at text) ≡ 0 = ap length (drop-past text at here) in
    let left : length (drop at text) ≡ length text - at = length-drop at text in
    let size : length (reverse old) ≡ length old = length-reverse old in
    let last : length text ≡ at = omega (arith, gone, left, le) in
    ap (λ r. whole (length text) (resumed names (reverse old) Term (Ok (lock, r)))) (drop-past text at here)
    ∙ open_where names (length text) (reverse old) lock (omega (arith, size, some)) (subst P here stays)
    ∙ ap Err last

-- A term is read: first what stands before the key.
pub step_start : (names : Naming) (text : List ℕ) → 0 < length text → outcome_at names text [] 0 ≡ lock_of names text
step_start names [] some = absurd (omega (arith, some))
step_start names (b ∷ more) some = ap (whole (length (b ∷ more))) (sym (one_of_is names (b ∷ more)))

term_here : (names : Naming) (text : List ℕ) (at b : ℕ) → slice_get text at ≡ Some b → part_reading names Term (drop at text) ≡ term_in names (part_reading names) (b ∷ drop (at + 1) text)
term_here names text at b here = reading_is names Term (drop at text) ∙ ap (term_in names (part_reading names)) (drop-here text at b here)

pub step_not : (names : Naming) (text : List ℕ) (old new : List Waiting) (at : ℕ) → slice_get text at ≡ Some 33 → new ≡ old ++ Not ∷ []
    → outcome_at names text new (at + 1) ≡ outcome_at names text old at
step_not names text old new at here pushed =
    ap (λ k. whole (length text) (resumed names k Term (part_reading names Term (drop (at + 1) text)))) (ap reverse pushed ∙ reverse-append old (Not ∷ []))
    ∙ ap (λ r. whole (length text) (resumed names (reverse old) Term r)) (sym (term_here names text at 33 here))

pub step_group : (names : Naming) (text : List ℕ) (old new : List Waiting) (at : ℕ) → slice_get text at ≡ Some 40 → new ≡ old ++ Group ∷ []
    → outcome_at names text new (at + 1) ≡ outcome_at names text old at
step_group names text old new at here pushed =
    ap (λ k. whole (length text) (resumed names k Term (part_reading names Term (drop (at + 1) text)))) (ap reverse pushed ∙ reverse-append old (Group ∷ []))
    ∙ ap (λ r. whole (length text) (resumed names (reverse old) Term (bracket_closed r))) (sym (one_of_is names (drop (at + 1) text)))
    ∙ ap (λ r. whole (length text) (resumed names (reverse old) Term r)) (sym (term_here names text at 40 here))

key_here : (names : Naming) (text : List ℕ) (at b : ℕ) → slice_get text at ≡ Some b → (b == 33) ≡ false → (b == 40) ≡ false → part_reading names Term (drop at text) ≡ key_in names (drop at text)
key_here names text at b here n g =
    term_here names text at b here
    ∙ ap (λ t. if t then negated (part_reading names Term (drop (at + 1) text)) else if b == 40 then bracket_closed (part_reading names OneOf (drop (at + 1) text)) else key_in names (b ∷ drop (at + 1) text)) n
    ∙ ap (λ t. if t then bracket_closed (part_reading names OneOf (drop (at + 1) text)) else key_in names (b ∷ drop (at + 1) text)) g
    ∙ ap (key_in names) (sym (drop-here text at b here))

pub step_no_key : (names : Naming) (text : List ℕ) (old : List Waiting) (at b : ℕ) → slice_get text at ≡ Some b → (b == 33) ≡ false → (b == 40) ≡ false → at ≤ length text
    → lock_key_of names (before_first ends_key (drop at text)) ≡ None → outcome_at names text old at ≡ Err at
step_no_key names text old at b here n g le none =
    ap (λ r. whole (length text) (resumed names (reverse old) Term r)) (key_here names text at b here n g ∙ ap (λ k. key_or_fault k (drop at text) (drop (position_or_len ends_key (drop at text)) (drop at text))) none)
    ∙ ap (whole (length text)) (resumed_fault names (reverse old) Term (drop at text))
    ∙ ap Err (length-from text at le)

pub step_key : (names : Naming) (text : List ℕ) (old : List Waiting) (at b size : ℕ) (key : Lock) → slice_get text at ≡ Some b → (b == 33) ≡ false → (b == 40) ≡ false
    → size ≡ position_or_len ends_key (drop at text) → lock_key_of names (take size (drop at text)) ≡ Some key → outcome_behind names text old key (at + size) ≡ outcome_at names text old at
step_key names text old at b size key here n g end some =
    sym (ap (λ r. whole (length text) (resumed names (reverse old) Term r))
    (key_here names text at b here n g
    ∙ ap (λ z. key_or_fault (lock_key_of names (take z (drop at text))) (drop at text) (drop z (drop at text))) (sym end)
    ∙ ap (λ k. key_or_fault k (drop at text) (drop size (drop at text))) some
    ∙ ap (λ z. Ok (key, z)) (drop-drop size at text)))

-- the text ends where a term is wanted
pub step_end : (names : Naming) (text : List ℕ) (old : List Waiting) (at : ℕ) → length text ≤ at → at ≤ length text → outcome_at names text old at ≡ Err at
step_end names text old at over le =
    ap (λ r. whole (length text) (resumed names (reverse old) Term r)) (reading_is names Term (drop at text) ∙ ap (term_in names (part_reading names)) (drop_all at text over))
    ∙ ap (whole (length text)) (resumed_fault names (reverse old) Term [])
    ∙ ap Err (omega (arith, over, le))

-- what goes on ends within the text
within_group : (text : List ℕ) (at : ℕ) (o : Option ℕ) → slice_get text at ≡ o → ends Group (slice_get text at) ≡ true → at + 1 ≤ length text
within_group text at None here h = absurd (false≢true (sym (ap (ends Group) here) ∙ h))
within_group text at (Some b) here h = let l : at < length text = slice_get_within text at b here in omega (arith, l)

pub place_behind-within : (text : List ℕ) (w : Waiting) (at : ℕ) → ends w (slice_get text at) ≡ true → at ≤ length text → (at ≤ place_behind w at) × (place_behind w at ≤ length text)
place_behind-within text Not at h le = (omega arith, le)
place_behind-within text Group at h le = (omega arith, within_group text at (slice_get text at) refl h)
place_behind-within text (Both f) at h le = (omega arith, le)
place_behind-within text (Either f) at h le = (omega arith, le)

-- the same outcome from further back
pub goes_on-from : (names : Naming) (text : List ℕ) (o outcome : Result Lock ℕ) (from before : ℕ) (waiting : List Waiting) (r : Result Next LockFault)
    → o ≡ outcome → before ≤ from → GoesOn names text o from waiting r → GoesOn names text outcome before waiting r
goes_on-from names text o outcome from before waiting (Ok (More at)) same le h = (h.0 ∙ same, omega (arith, le, h.1), h.2)
goes_on-from names text o outcome from before waiting (Ok (Done lock)) same le h = sym same ∙ h
goes_on-from names text o outcome from before waiting (Err (BadLock at)) same le h = sym same ∙ h
goes_on-from names text o outcome from before waiting (Err NoMemory) same le h = tt
