-- The grammar without its depth: a part is read by the parts inside, which are shorter.
use Rattle.std.proofs.Common.{◌≡◌, ℕ, ◌+◌, ◌<◌, ◌≤◌, zero, suc, true, false, cond, List, [], ◌∷◌, length, take, drop, Some, None, Option, Ok, Err, refl, ◌∙◌, ap, arith}
use Rattle.std.specs.Prelude.{not, ◌-◌, ◌==◌, if◌then◌else◌}
use Rattle.std.specs.List.{position_or_len}
use Rattle.std.proofs.lemmas.List.{length-drop}
use Rattle.muck_model.specs.declared.lock.Lock.{Lock}
use Rattle.muck_model.specs.declared.lock.Lock.TheVariants.{Both, Either}
use Rattle.muck_lock.specs.Naming.{Naming}
use Rattle.muck_lock.specs.Grammar.{LockReading, ends_key, lock_key_of, key_or_fault, key_in, negated, closed_by, bracket_closed, with_first_lock, sign_followed, locks_joined, term_in, all_of_in, part_in, part_of, part_reading}
use Rattle.muck_lock.specs.declared.part.Part.{Part}
use Rattle.muck_lock.specs.declared.part.Part.TheVariants.{OneOf, AllOf, Term}

-- what is left is shorter than n
abbrev pub IsBelow : ℕ → LockReading → Type 0
IsBelow n (Err rest) = Unit {0}
IsBelow n (Ok read) = length read.1 < n

below-more : (m n : ℕ) (r : LockReading) → m ≤ n → IsBelow m r → IsBelow n r
below-more m n (Err rest) le h = tt
below-more m n (Ok read) le h = omega (arith, h)

below-negated : (n : ℕ) (r : LockReading) → IsBelow n r → IsBelow n (negated r)
below-negated n (Err rest) h = tt
below-negated n (Ok read) h = h

below-with_first : (n : ℕ) (join : Lock → Lock → Lock) (first : Lock) (r : LockReading) → IsBelow n r → IsBelow n (with_first_lock join first r)
below-with_first n join first (Err rest) h = tt
below-with_first n join first (Ok read) h = h

below-closed_by : (n : ℕ) (lock : Lock) (rest : List ℕ) → length rest < n → IsBelow n (closed_by lock rest)
below-closed_by n lock [] h = tt
below-closed_by n lock (b ∷ more) h =
    elim (b == 41) as (λ t. IsBelow n (if t then Ok (lock, more) else Err (b ∷ more))) [ true ↦ omega (arith, h) | false ↦ tt ]

below-closed : (n : ℕ) (r : LockReading) → IsBelow n r → IsBelow n (bracket_closed r)
below-closed n (Err rest) h = tt
below-closed n (Ok read) h = below-closed_by n read.0 read.1 h

below-followed : (n sign : ℕ) (join : Lock → Lock → Lock) (more : List ℕ → LockReading) (first : Lock) (rest : List ℕ)
    → ((t : List ℕ) → IsBelow (length t) (more t)) → length rest < n → IsBelow n (sign_followed sign join more first rest)
below-followed n sign join more first [] shorter h = h
below-followed n sign join more first (b ∷ rest) shorter h =
    elim (b == sign) as (λ t. IsBelow n (if t then with_first_lock join first (more rest) else Ok (first, b ∷ rest))) [
      | true ↦ below-with_first n join first (more rest) (below-more (length rest) n (more rest) (omega (arith, h)) (shorter rest))
      | false ↦ h
    ]

below-joined : (n sign : ℕ) (join : Lock → Lock → Lock) (more : List ℕ → LockReading) (r : LockReading)
    → ((t : List ℕ) → IsBelow (length t) (more t)) → IsBelow n r → IsBelow n (locks_joined sign join more r)
below-joined n sign join more (Err rest) shorter h = tt
below-joined n sign join more (Ok read) shorter h = below-followed n sign join more read.0 read.1 shorter h

below-some : (n : ℕ) (key : Option Lock) (text rest : List ℕ) → length rest < n → IsBelow n (key_or_fault key text rest)
below-some n None text rest h = tt
below-some n (Some key) text rest h = h

-- a key has at least one byte
below-key : (names : Naming) (b : ℕ) (more : List ℕ) → IsBelow (length (b ∷ more)) (key_in names (b ∷ more))
below-key names b more =
    elim (ends_key b) as (λ t. IsBelow (length (b ∷ more)) (key_or_fault (lock_key_of names (take (cond (not t) (1 + position_or_len ends_key more) 0) (b ∷ more))) (b ∷ more) (drop (cond (not t) (1 + position_or_len ends_key more) 0) (b ∷ more)))) [
      | true ↦ tt
      | false ↦ below-some (length (b ∷ more)) (lock_key_of names (take (1 + position_or_len ends_key more) (b ∷ more))) (b ∷ more) (drop (1 + position_or_len ends_key more) (b ∷ more))
          (let e : length (drop (1 + position_or_len ends_key more) (b ∷ more)) ≡ suc (length more) - (1 + position_or_len ends_key more) = length-drop (1 + position_or_len ends_key more) (b ∷ more) in omega (arith, e))
    ]

below-term : (names : Naming) (inside : Part → List ℕ → LockReading) → ((p : Part) (t : List ℕ) → IsBelow (length t) (inside p t)) → (text : List ℕ) → IsBelow (length text) (term_in names inside text)
below-term names inside shorter [] = tt
below-term names inside shorter (b ∷ more) =
    elim (b == 33) as (λ t. IsBelow (length (b ∷ more)) (if t then negated (inside Term more) else if b == 40 then bracket_closed (inside OneOf more) else key_in names (b ∷ more))) [
      | true ↦ below-more (length more) (length (b ∷ more)) (negated (inside Term more)) (omega arith) (below-negated (length more) (inside Term more) (shorter Term more))
      | false ↦ elim (b == 40) as (λ t. IsBelow (length (b ∷ more)) (if t then bracket_closed (inside OneOf more) else key_in names (b ∷ more))) [
        | true ↦ below-more (length more) (length (b ∷ more)) (bracket_closed (inside OneOf more)) (omega arith) (below-closed (length more) (inside OneOf more) (shorter OneOf more))
        | false ↦ below-key names b more
      ]
    ]

below-all_of : (names : Naming) (inside : Part → List ℕ → LockReading) → ((p : Part) (t : List ℕ) → IsBelow (length t) (inside p t)) → (text : List ℕ) → IsBelow (length text) (all_of_in names inside text)
below-all_of names inside shorter text = below-joined (length text) 38 Both (inside AllOf) (term_in names inside text) (shorter AllOf) (below-term names inside shorter text)

below-part : (names : Naming) (inside : Part → List ℕ → LockReading) → ((p : Part) (t : List ℕ) → IsBelow (length t) (inside p t)) → (p : Part) (text : List ℕ) → IsBelow (length text) (part_in names inside p text)
below-part names inside shorter Term text = below-term names inside shorter text
below-part names inside shorter AllOf text = below-all_of names inside shorter text
below-part names inside shorter OneOf text = below-joined (length text) 124 Either (inside OneOf) (all_of_in names inside text) (shorter OneOf) (below-all_of names inside shorter text)

below-part_of : (names : Naming) (depth : ℕ) (p : Part) (text : List ℕ) → IsBelow (length text) (part_of names depth p text)
unfolding part_of
below-part_of names zero p text = tt
below-part_of names (suc depth) p text = below-part names (part_of names depth) (λ q t. below-part_of names depth q t) p text

-- Two readings that agree on shorter texts make the same parts.
same-followed : (n sign : ℕ) (join : Lock → Lock → Lock) (f g : List ℕ → LockReading) (first : Lock) (rest : List ℕ)
    → ((t : List ℕ) → length t < n → f t ≡ g t) → length rest < n → sign_followed sign join f first rest ≡ sign_followed sign join g first rest
same-followed n sign join f g first [] agree h = refl
same-followed n sign join f g first (b ∷ rest) agree h =
    elim (b == sign) as (λ t. (if t then with_first_lock join first (f rest) else Ok (first, b ∷ rest)) ≡ (if t then with_first_lock join first (g rest) else Ok (first, b ∷ rest))) [
      | true ↦ ap (with_first_lock join first) (agree rest (omega (arith, h)))
      | false ↦ refl
    ]

same-joined : (n sign : ℕ) (join : Lock → Lock → Lock) (f g : List ℕ → LockReading) (r : LockReading)
    → ((t : List ℕ) → length t < n → f t ≡ g t) → IsBelow n r → locks_joined sign join f r ≡ locks_joined sign join g r
same-joined n sign join f g (Err rest) agree h = refl
same-joined n sign join f g (Ok read) agree h = same-followed n sign join f g read.0 read.1 agree h

same-term : (names : Naming) (f g : Part → List ℕ → LockReading) (text : List ℕ)
    → ((p : Part) (t : List ℕ) → length t < length text → f p t ≡ g p t) → term_in names f text ≡ term_in names g text
same-term names f g [] agree = refl
same-term names f g (b ∷ more) agree =
    elim (b == 33) as (λ t. (if t then negated (f Term more) else if b == 40 then bracket_closed (f OneOf more) else key_in names (b ∷ more)) ≡ (if t then negated (g Term more) else if b == 40 then bracket_closed (g OneOf more) else key_in names (b ∷ more))) [
      | true ↦ ap negated (agree Term more (omega arith))
      | false ↦ elim (b == 40) as (λ t. (if t then bracket_closed (f OneOf more) else key_in names (b ∷ more)) ≡ (if t then bracket_closed (g OneOf more) else key_in names (b ∷ more))) [
        | true ↦ ap bracket_closed (agree OneOf more (omega arith))
        | false ↦ refl
      ]
    ]

same-all_of : (names : Naming) (f g : Part → List ℕ → LockReading) (text : List ℕ) → ((p : Part) (t : List ℕ) → IsBelow (length t) (f p t))
    → ((p : Part) (t : List ℕ) → length t < length text → f p t ≡ g p t) → all_of_in names f text ≡ all_of_in names g text
same-all_of names f g text shorter agree =
    same-joined (length text) 38 Both (f AllOf) (g AllOf) (term_in names f text) (agree AllOf) (below-term names f shorter text)
    ∙ ap (locks_joined 38 Both (g AllOf)) (same-term names f g text agree)

same-part : (names : Naming) (f g : Part → List ℕ → LockReading) (p : Part) (text : List ℕ) → ((q : Part) (t : List ℕ) → IsBelow (length t) (f q t))
    → ((q : Part) (t : List ℕ) → length t < length text → f q t ≡ g q t) → part_in names f p text ≡ part_in names g p text
same-part names f g Term text shorter agree = same-term names f g text agree
same-part names f g AllOf text shorter agree = same-all_of names f g text shorter agree
same-part names f g OneOf text shorter agree =
    same-joined (length text) 124 Either (f OneOf) (g OneOf) (all_of_in names f text) (agree OneOf) (below-all_of names f shorter text)
    ∙ ap (locks_joined 124 Either (g OneOf)) (same-all_of names f g text shorter agree)

-- any depth beyond the length reads the same
same-depth : (names : Naming) (m n : ℕ) (p : Part) (text : List ℕ) → length text < m → length text < n → part_of names m p text ≡ part_of names n p text
unfolding part_of
same-depth names zero n p text lm ln = absurd (omega (arith, lm))
same-depth names (suc m) zero p text lm ln = absurd (omega (arith, ln))
same-depth names (suc m) (suc n) p text lm ln =
    same-part names (part_of names m) (part_of names n) p text (λ q t. below-part_of names m q t)
    (λ q t less. same-depth names m n q t (omega (arith, lm, less)) (omega (arith, ln, less)))

-- The grammar: a part is read by the parts inside.
pub reading_is : (names : Naming) (p : Part) (text : List ℕ) → part_reading names p text ≡ part_in names (part_reading names) p text
unfolding part_of
reading_is names p text =
    same-part names (part_of names (length text)) (part_reading names) p text (λ q t. below-part_of names (length text) q t)
    (λ q t less. same-depth names (length text) (suc (length t)) q t less (omega arith))
