-- The text of a lock answers as the lock does that it is read as.
use Rattle.std.proofs.Common.{◌≡◌, ℕ, ◌<◌, ◌+◌, arith, zero, suc, Bool, true, false, cond, not, ◌&&◌, ◌||◌, ◌==◌, List, [], ◌∷◌, length, drop, Option, Some, None, Ok, Err, refl, sym, subst, ◌∙◌, ap}
use Rattle.std.specs.Option.{option_map}
use Rattle.std.specs.List.{before_first, position_or_len}
use Rattle.muck_model.specs.declared.dbref.Dbref.{Dbref}
use Rattle.muck_model.specs.declared.lock.Lock.{Lock}
use Rattle.muck_model.specs.declared.lock.Lock.TheVariants.{Object, Prop, Not, Both, Either}
use Rattle.muck_lock.specs.declared.part.Part.{Part}
use Rattle.muck_lock.specs.declared.part.Part.TheVariants.{OneOf, AllOf, Term}
use Rattle.muck_lock.specs.Paths.{is_path}
use Rattle.muck_lock.specs.Grammar.{LockReading, ends_key, object_key, property_key, lock_key_of, key_or_fault, key_in, negated, closed_by, bracket_closed, with_first_lock, sign_followed, locks_joined, term_in, all_of_in, one_of_in, part_of, part_reading, whole_of, whole}
use Rattle.muck_lock.specs.Opens.{Holdings, object_opens, property_opens, opens_step, opens_for}
use Rattle.muck_lock.specs.Answers.{no_names, lock_opens, text_opens}
use Rattle.muck_lock.specs.inner.Answers.{Answer, key_opens, key_answer, negated_answer, closed_pair, closed_answer, joined_by, followed_pair, followed_answer, term_answer, all_answer, one_answer, part_in_answer, part_answer, whole_opens}
use Rattle.muck_lock.proofs.Locks.{at_free, at_object, at_prop, at_not, at_both, at_either}

-- For whom each kind of lock opens.

opens_object : (w : Holdings) (n x : Dbref) → opens_for w (Object n) x ≡ object_opens w n x
opens_object w n x = ap (λ (f : Dbref → Bool). f x) (at_object (opens_step w) n)

opens_prop : (w : Holdings) (path value : List ℕ) (x : Dbref) → opens_for w (Prop path value) x ≡ property_opens w path value x
opens_prop w path value x = ap (λ (f : Dbref → Bool). f x) (at_prop (opens_step w) path value)

opens_not : (w : Holdings) (a : Lock) (x : Dbref) → opens_for w (Not a) x ≡ not (opens_for w a x)
opens_not w a x = ap (λ (f : Dbref → Bool). f x) (at_not (opens_step w) a)

opens_both : (w : Holdings) (x : Dbref) (a b : Lock) → opens_for w (Both a b) x ≡ (opens_for w a x && opens_for w b x)
opens_both w x a b = ap (λ (f : Dbref → Bool). f x) (at_both (opens_step w) a b)

opens_either : (w : Holdings) (x : Dbref) (a b : Lock) → opens_for w (Either a b) x ≡ (opens_for w a x || opens_for w b x)
opens_either w x a b = ap (λ (f : Dbref → Bool). f x) (at_either (opens_step w) a b)

-- Keys.

property_by : (w : Holdings) (x : Dbref) (path value : List ℕ) (b is : Bool) → is ≡ true → b ≡ property_opens w path value x → Some b ≡ option_map (λ lock. opens_for w lock x) (cond is (Some (Prop path value)) None)
property_by w x path value b true is e = ap Some (e ∙ sym (opens_prop w path value x))
property_by w x path value b false is e = absurd cc

pub property_answered : (w : Holdings) (x : Dbref) (path value : List ℕ) (b : Bool) → is_path path ≡ true → b ≡ property_opens w path value x → Some b ≡ option_map (λ lock. opens_for w lock x) (property_key path value)
property_answered w x path value b is e = property_by w x path value b (is_path path) is e

pub object_answered : (w : Holdings) (x n : Dbref) (b : Bool) → b ≡ object_opens w n x → Some b ≡ option_map (λ lock. opens_for w lock x) (object_key no_names (Some n))
object_answered w x n b e = ap Some (e ∙ sym (opens_object w n x))

pub ruleset answers = (property_answered, object_answered)

-- Parts.

-- what was read answers so
abbrev answer_of : Holdings → Dbref → LockReading → Answer
answer_of w x (Ok read) = Some (opens_for w read.0 x, read.1)
answer_of w x (Err rest) = None

key_by : (w : Holdings) (x : Dbref) (o : Option Lock) (text rest : List ℕ) → option_map (λ b. (b, rest)) (option_map (λ lock. opens_for w lock x) o) ≡ answer_of w x (key_or_fault o text rest)
key_by w x None text rest = refl
key_by w x (Some lock) text rest = refl

key_law : (w : Holdings) (x : Dbref) (text : List ℕ) → key_answer w x text ≡ answer_of w x (key_in no_names text)
unfolding key_answer
key_law w x text = key_by w x (lock_key_of no_names (before_first ends_key text)) text (drop (position_or_len ends_key text) text)

negated_law : (w : Holdings) (x : Dbref) (read : LockReading) → negated_answer (answer_of w x read) ≡ answer_of w x (negated read)
negated_law w x (Err rest) = refl
negated_law w x (Ok read) = ap (λ b. Some (b, read.1)) (sym (opens_not w read.0 x))

closed_by_law : (w : Holdings) (x : Dbref) (lock : Lock) (rest : List ℕ) → closed_pair (opens_for w lock x) rest ≡ answer_of w x (closed_by lock rest)
closed_by_law w x lock [] = refl
closed_by_law w x lock (b ∷ more) = elim (b == 41) as (λ is. cond is (Some (opens_for w lock x, more)) None ≡ answer_of w x (cond is (Ok (lock, more)) (Err (b ∷ more)))) [ true ↦ refl | false ↦ refl ]

closed_law : (w : Holdings) (x : Dbref) (read : LockReading) → closed_answer (answer_of w x read) ≡ answer_of w x (bracket_closed read)
closed_law w x (Err rest) = refl
closed_law w x (Ok read) = closed_by_law w x read.0 read.1

with_first_law : (w : Holdings) (x : Dbref) (join : Lock → Lock → Lock) (op : Bool → Bool → Bool) (first : Lock) (read : LockReading) → ((a b : Lock) → opens_for w (join a b) x ≡ op (opens_for w a x) (opens_for w b x)) →
    option_map (λ p. (op (opens_for w first x) p.0, p.1)) (answer_of w x read) ≡ answer_of w x (with_first_lock join first read)
with_first_law w x join op first (Err rest) same = refl
with_first_law w x join op first (Ok read) same = ap (λ b. Some (b, read.1)) (sym (same first read.0))

followed_law : (w : Holdings) (x : Dbref) (sign : ℕ) (join : Lock → Lock → Lock) (op : Bool → Bool → Bool) (more : List ℕ → LockReading) (others : List ℕ → Answer) (first : Lock) (rest : List ℕ) →
    ((a b : Lock) → opens_for w (join a b) x ≡ op (opens_for w a x) (opens_for w b x)) → ((text : List ℕ) → others text ≡ answer_of w x (more text)) →
    followed_pair sign op others (opens_for w first x) rest ≡ answer_of w x (sign_followed sign join more first rest)
followed_law w x sign join op more others first [] same h = refl
followed_law w x sign join op more others first (b ∷ rest) same h =
    elim (b == sign) as (λ is. joined_by op others (opens_for w first x) (b ∷ rest) (cond is (Some rest) None) ≡ answer_of w x (cond is (with_first_lock join first (more rest)) (Ok (first, b ∷ rest)))) [
      | true ↦ ap (λ (a : Answer). option_map (λ p. (op (opens_for w first x) p.0, p.1)) a) (h rest) ∙ with_first_law w x join op first (more rest) same
      | false ↦ refl
    ]

joined_law : (w : Holdings) (x : Dbref) (sign : ℕ) (join : Lock → Lock → Lock) (op : Bool → Bool → Bool) (more : List ℕ → LockReading) (others : List ℕ → Answer) (read : LockReading) →
    ((a b : Lock) → opens_for w (join a b) x ≡ op (opens_for w a x) (opens_for w b x)) → ((text : List ℕ) → others text ≡ answer_of w x (more text)) →
    followed_answer sign op others (answer_of w x read) ≡ answer_of w x (locks_joined sign join more read)
joined_law w x sign join op more others (Err rest) same h = refl
joined_law w x sign join op more others (Ok read) same h = followed_law w x sign join op more others read.0 read.1 same h

term_by : (w : Holdings) (x : Dbref) (bang group : Bool) (a b c : LockReading) (p q r : Answer) → p ≡ answer_of w x a → q ≡ answer_of w x b → r ≡ answer_of w x c → cond bang p (cond group q r) ≡ answer_of w x (cond bang a (cond group b c))
term_by w x true group a b c p q r h i j = h
term_by w x false true a b c p q r h i j = i
term_by w x false false a b c p q r h i j = j

term_law : (w : Holdings) (x : Dbref) (inside : Part → List ℕ → LockReading) (answers_in : Part → List ℕ → Answer) (text : List ℕ) → ((part : Part) (t : List ℕ) → answers_in part t ≡ answer_of w x (inside part t)) →
    term_answer w x answers_in text ≡ answer_of w x (term_in no_names inside text)
term_law w x inside answers_in [] h = refl
term_law w x inside answers_in (b ∷ more) h =
    term_by w x (b == 33) (b == 40) (negated (inside Term more)) (bracket_closed (inside OneOf more)) (key_in no_names (b ∷ more)) (negated_answer (answers_in Term more)) (closed_answer (answers_in OneOf more)) (key_answer w x (b ∷ more))
    (ap (λ (a : Answer). negated_answer a) (h Term more) ∙ negated_law w x (inside Term more))
    (ap (λ (a : Answer). closed_answer a) (h OneOf more) ∙ closed_law w x (inside OneOf more))
    (key_law w x (b ∷ more))

all_law : (w : Holdings) (x : Dbref) (inside : Part → List ℕ → LockReading) (answers_in : Part → List ℕ → Answer) (text : List ℕ) → ((part : Part) (t : List ℕ) → answers_in part t ≡ answer_of w x (inside part t)) →
    all_answer w x answers_in text ≡ answer_of w x (all_of_in no_names inside text)
all_law w x inside answers_in text h =
    ap (λ (a : Answer). followed_answer 38 (λ a b. a && b) (answers_in AllOf) a) (term_law w x inside answers_in text h)
    ∙ joined_law w x 38 Both (λ a b. a && b) (inside AllOf) (answers_in AllOf) (term_in no_names inside text) (opens_both w x) (h AllOf)

one_law : (w : Holdings) (x : Dbref) (inside : Part → List ℕ → LockReading) (answers_in : Part → List ℕ → Answer) (text : List ℕ) → ((part : Part) (t : List ℕ) → answers_in part t ≡ answer_of w x (inside part t)) →
    one_answer w x answers_in text ≡ answer_of w x (one_of_in no_names inside text)
one_law w x inside answers_in text h =
    ap (λ (a : Answer). followed_answer 124 (λ a b. a || b) (answers_in OneOf) a) (all_law w x inside answers_in text h)
    ∙ joined_law w x 124 Either (λ a b. a || b) (inside OneOf) (answers_in OneOf) (all_of_in no_names inside text) (opens_either w x) (h OneOf)

part_law : (w : Holdings) (x : Dbref) (depth : ℕ) (part : Part) (text : List ℕ) → part_answer w x depth part text ≡ answer_of w x (part_of no_names depth part text)
unfolding part_answer part_of
part_law w x zero part text = refl
part_law w x (suc depth) Term text = term_law w x (part_of no_names depth) (part_answer w x depth) text (part_law w x depth)
part_law w x (suc depth) AllOf text = all_law w x (part_of no_names depth) (part_answer w x depth) text (part_law w x depth)
part_law w x (suc depth) OneOf text = one_law w x (part_of no_names depth) (part_answer w x depth) text (part_law w x depth)

-- Whole texts.

whole_of_law : (w : Holdings) (x : Dbref) (size : ℕ) (lock : Lock) (rest : List ℕ) → whole_opens (Some (opens_for w lock x, rest)) ≡ lock_opens w x (whole_of size lock rest)
whole_of_law w x size lock [] = refl
whole_of_law w x size lock (b ∷ rest) = refl

whole_law : (w : Holdings) (x : Dbref) (size : ℕ) (read : LockReading) → whole_opens (answer_of w x read) ≡ lock_opens w x (whole size read)
whole_law w x size (Err rest) = refl
whole_law w x size (Ok read) = whole_of_law w x size read.0 read.1

-- a text that isn't empty opens for x exactly where it does part by part
pub text_law : (w : Holdings) (x : Dbref) (b : ℕ) (more : List ℕ) → text_opens w x (b ∷ more) ≡ whole_opens (part_answer w x (suc (length (b ∷ more))) OneOf (b ∷ more))
unfolding text_opens
text_law w x b more =
    sym (ap (λ (a : Answer). whole_opens a) (part_law w x (suc (length (b ∷ more))) OneOf (b ∷ more)) ∙ whole_law w x (length (b ∷ more)) (part_reading no_names OneOf (b ∷ more)))

-- the empty text is the free lock
pub empty_law : (w : Holdings) (x : Dbref) → text_opens w x [] ≡ true
unfolding text_opens
empty_law w x = ap (λ (f : Dbref → Bool). f x) (at_free (opens_step w))

-- the same by the count of the bytes
pub text_whole : (w : Holdings) (x : Dbref) (text : List ℕ) (count : ℕ) → count ≡ length text → 0 < count → text_opens w x text ≡ whole_opens (part_answer w x (count + 1) OneOf text)
text_whole w x [] count e h = absurd (omega (arith, e, h))
text_whole w x (b ∷ more) count e h =
    let P : ℕ → Type 0 = λ n. text_opens w x (b ∷ more) ≡ whole_opens (part_answer w x n OneOf (b ∷ more)) in
    let same : suc (length (b ∷ more)) ≡ count + 1 = omega (arith, e) in
    subst P same (text_law w x b more)

pub text_empty : (w : Holdings) (x : Dbref) (text : List ℕ) (count : ℕ) → count ≡ length text → count ≡ 0 → text_opens w x text ≡ true
text_empty w x [] count e h = empty_law w x
text_empty w x (b ∷ more) count e h = absurd (omega (arith, e, h))
