-- Texts that grow, and how long they may be.
use Rattle.std.proofs.Common.{◌≡◌, ℕ, ◌<◌, ◌≤◌, Bool, true, false, cond, List, [], ◌∷◌, ◌++◌, length, refl, sym, subst, ap, arith, length-append}
use Rattle.std.specs.Prelude.{Ok, Err, Option, Some, None, IfSome}
use Rattle.std.proofs.lemmas.Bool.{ltb-true, ltb-false, lt-ltb, le-ltb}
use Rattle.muck_model.specs.Bytes.{text_fault, text_most}
use Rattle.mpi.specs.declared.fault.MpiFault.{MpiFault}
use Rattle.mpi.specs.declared.fault.MpiFault.TheVariants.{Unclosed, UnknownFunction, BadCount, BadValue, TooManyCommands, TooLong, Denied, NoMemory}
use Rattle.mpi.specs.Gathering.{gathered_text, list_or_long, longer}
use Rattle.mpi.specs.Hosting.{Means}
use Rattle.mpi.specs.Made.{Inside, is_long, text_or_long, IsGrown}
use Rattle.mpi.proofs.Inside.{text_inside, inside_more, made_is_text, text_short}

pub short_length : (xs : List ℕ) → is_long xs ≡ false → length xs ≤ text_most
unfolding is_long
short_length xs h = omega (arith, ltb-false text_most (length xs) h)

pub is_short : (xs : List ℕ) → length xs ≤ text_most → is_long xs ≡ false
unfolding is_long
is_short xs h = le-ltb text_most (length xs) h

long_length : (xs : List ℕ) → is_long xs ≡ true → text_most < length xs
unfolding is_long
long_length xs h = ltb-true text_most (length xs) h

length_long : (xs : List ℕ) → text_most < length xs → is_long xs ≡ true
unfolding is_long
length_long xs h = lt-ltb text_most (length xs) h

-- what is longer than what is too long is too long
pub longer_long : (xs ys : List ℕ) → length xs ≤ length ys → is_long xs ≡ true → is_long ys ≡ true
longer_long xs ys le h = length_long ys (omega (arith, le, long_length xs h))

pub front_long : (xs ys : List ℕ) → is_long xs ≡ true → is_long (xs ++ ys) ≡ true
front_long xs ys h = longer_long xs (xs ++ ys) (omega (arith, length-append xs ys)) h

pub byte_long : (xs ys : List ℕ) (b : ℕ) → is_long (xs ++ b ∷ []) ≡ true → is_long (xs ++ b ∷ ys) ≡ true
byte_long xs ys b h = longer_long (xs ++ b ∷ []) (xs ++ b ∷ ys) (omega (arith, length-append xs (b ∷ []), length-append xs (b ∷ ys))) h

-- a text that grew too long makes the whole too long
pub long_fails : (old more new whole : List ℕ) (f : MpiFault) → IsGrown old more new (Err f) → (is_long (old ++ more) ≡ true → is_long whole ≡ true) → Means (text_or_long whole) (Err f)
long_fails old more new whole NoMemory h k = tt
long_fails old more new whole TooLong h k = rw (k h.1) refl
long_fails old more new whole Unclosed h k = absurd (let e : Unclosed ≡ TooLong = h.0 in cc)
long_fails old more new whole UnknownFunction h k = absurd (let e : UnknownFunction ≡ TooLong = h.0 in cc)
long_fails old more new whole BadCount h k = absurd (let e : BadCount ≡ TooLong = h.0 in cc)
long_fails old more new whole BadValue h k = absurd (let e : BadValue ≡ TooLong = h.0 in cc)
long_fails old more new whole TooManyCommands h k = absurd (let e : TooManyCommands ≡ TooLong = h.0 in cc)
long_fails old more new whole (Denied rule) h k = absurd (let e : Denied rule ≡ TooLong = h.0 in cc)

pub made_whole : (whole new : List ℕ) → new ≡ whole → is_long whole ≡ false → text_or_long whole ≡ Ok new
made_whole whole new e short = rw short (ap Ok (sym e))

-- a list that is the same, and one that is too long
pub list_same : (list : Option (List ℕ)) → is_long (gathered_text list) ≡ false → list_or_long list ≡ Ok list
list_same list short = rw short refl

list_of_text : (t : Bool) (whole new : List ℕ) → cond t (Err TooLong) (Ok whole) ≡ Ok new → cond t (Err TooLong) (Ok (Some whole)) ≡ Ok (Some new)
list_of_text true whole new h = absurd (let e : Err TooLong ≡ Ok new = h in cc)
list_of_text false whole new h = let e : whole ≡ new = let k : Ok whole ≡ Ok new = h in cc in ap (λ xs. Ok (Some xs)) e

list_of_fault : (t : Bool) (whole : List ℕ) (f : MpiFault) → cond t (Err TooLong) (Ok whole) ≡ Err f → cond t (Err TooLong) (Ok (Some whole)) ≡ Err f
list_of_fault true whole f h = let k : Err TooLong ≡ Err f = h in let e : TooLong ≡ f = cc in ap Err e
list_of_fault false whole f h = absurd (let e : Ok whole ≡ Err f = h in cc)

-- a text as a list that was begun
pub list_made : (whole new : List ℕ) → Means (text_or_long whole) (Ok new) → Means (list_or_long (Some whole)) (Ok (Some new))
list_made whole new h = list_of_text (is_long whole) whole new h

pub list_fails : (whole : List ℕ) (f : MpiFault) → Means (text_or_long whole) (Err f) → Means (list_or_long (Some whole)) (Err f)
list_fails whole NoMemory h = tt
list_fails whole Unclosed h = list_of_fault (is_long whole) whole Unclosed h
list_fails whole UnknownFunction h = list_of_fault (is_long whole) whole UnknownFunction h
list_fails whole BadCount h = list_of_fault (is_long whole) whole BadCount h
list_fails whole BadValue h = list_of_fault (is_long whole) whole BadValue h
list_fails whole TooManyCommands h = list_of_fault (is_long whole) whole TooManyCommands h
list_fails whole TooLong h = list_of_fault (is_long whole) whole TooLong h
list_fails whole (Denied rule) h = list_of_fault (is_long whole) whole (Denied rule) h

inside_longer : (list : Option (List ℕ)) (item : List ℕ) → IfSome list (λ xs. text_fault xs ≡ None) → text_fault item ≡ None → Inside (longer list item)
inside_longer None item h k = text_inside item k
inside_longer (Some list) item h k = inside_more list (13 ∷ item) (text_inside list h) (inside_more (13 ∷ []) item refl (text_inside item k))

short_text : (t : Bool) (whole new : List ℕ) → is_long whole ≡ t → cond t (Err TooLong) (Ok whole) ≡ Ok new → Inside whole → text_fault new ≡ None
short_text true whole new e h inside = absurd (let k : Err TooLong ≡ Ok new = h in cc)
short_text false whole new e h inside =
    let same : whole ≡ new = (let k : Ok whole ≡ Ok new = h in cc) in
    subst (λ xs. text_fault xs ≡ None) same (made_is_text whole inside (short_length whole e))

-- a list that isn't too long is a text
pub longer_is_text : (list : Option (List ℕ)) (item new : List ℕ) → IfSome list (λ xs. text_fault xs ≡ None) → text_fault item ≡ None
    → text_or_long (longer list item) ≡ Ok new → text_fault new ≡ None
longer_is_text list item new h k e = short_text (is_long (longer list item)) (longer list item) new refl e (inside_longer list item h k)

pub ruleset length_steps = (text_short, short_length, is_short, byte_long, long_fails, made_whole, list_same, list_made, list_fails, longer_is_text)
