-- What a text is read as has keys that can be written.
use Rattle.std.proofs.Common.{◌≡◌, ℕ, ◌+◌, zero, suc, Bool, true, false, cond, List, [], ◌∷◌, length, take, drop, Some, None, Option, Ok, Err, refl, sym, ◌∙◌, ap, inl, inr}
use Rattle.std.specs.Prelude.{not, ◌&&◌, ◌==◌, if◌then◌else◌}
use Rattle.std.specs.List.{before_first, position, position_or_len}
use Rattle.std.proofs.lemmas.Bool.{cases_lt, lt-ltb, le-ltb, eq-eqb, false≢true}
use Rattle.muck_model.specs.declared.dbref.Dbref.{Dbref}
use Rattle.muck_model.specs.Numbers.{dbref_written}
use Rattle.muck_model.specs.declared.lock.Lock.{Lock, Lock-F, fold-Lock}
use Rattle.muck_model.specs.declared.lock.Lock.TheVariants.{Object, Prop, Both, Either}
use Rattle.muck_lock.specs.Naming.{Naming}
use Rattle.muck_lock.specs.Paths.{is_path}
use Rattle.muck_lock.specs.Grammar.{LockReading, ends_key, is_colon, object_key, property_key, named_key, lock_key_of, key_or_fault, key_in, negated, closed_by, bracket_closed, with_first_lock, sign_followed, locks_joined, term_in, all_of_in, part_in, part_of}
use Rattle.muck_lock.specs.declared.part.Part.{Part}
use Rattle.muck_lock.specs.declared.part.Part.TheVariants.{OneOf, AllOf, Term}
use Rattle.muck_lock.proofs.Locks.{at_object, at_prop, at_not, at_both, at_either}
use Rattle.muck_lock.proofs.Passes.{Passes, passes-take, passes-drop, passes-front}

abbrev pub lacks : (ℕ → Bool) → List ℕ → Bool
lacks p xs = position_or_len p xs == length xs

-- the first byte is that of a path
abbrev pub begins_path : ℕ → Bool
begins_path b = not (b == 33) && not (b == 40) && not (b == 35) && not (b == 42)

abbrev pub is_path_start : List ℕ → Bool
is_path_start [] = false
is_path_start (b ∷ more) = begins_path b

abbrev pub is_kept_property : List ℕ → List ℕ → Bool
is_kept_property path value = is_path_start path && (lacks ends_key path && (lacks is_colon path && (is_path path && lacks ends_key value)))

abbrev pub is_kept_step : Lock-F Bool → Bool
is_kept_step Lock-F.Free = false
is_kept_step (Lock-F.Object d) = true
is_kept_step (Lock-F.Prop path value) = is_kept_property path value
is_kept_step (Lock-F.Not a) = a
is_kept_step (Lock-F.Both a b) = a && b
is_kept_step (Lock-F.Either a b) = a && b

abbrev pub is_kept : Lock → Bool
is_kept = fold-Lock Bool is_kept_step

kept-object_at : (d : Dbref) (lock : Lock) (t : Bool) → (if t then None else Some (Object d)) ≡ Some lock → is_kept lock ≡ true
kept-object_at d lock true h = absurd (let e : None ≡ Some lock = h in cc)
kept-object_at d lock false h = let e : Object d ≡ lock = cc in ap is_kept (sym e) ∙ at_object is_kept_step d

kept-object : (names : Naming) (o : Option Dbref) (lock : Lock) → object_key names o ≡ Some lock → is_kept lock ≡ true
kept-object names None lock h = absurd (let e : None ≡ Some lock = h in cc)
kept-object names (Some d) lock h = kept-object_at d lock (names.is_program d) h

lacks_from : (p : ℕ → Bool) (xs : List ℕ) → Passes (λ x. not (p x)) xs → lacks p xs ≡ true
lacks_from p xs h = eq-eqb (position_or_len p xs) (length xs) h

start_of : (n b : ℕ) (more : List ℕ) → begins_path b ≡ true → is_path (take n (b ∷ more)) ≡ true → is_path_start (take n (b ∷ more)) ≡ true
start_of zero b more begins h = absurd (false≢true h)
start_of (suc n) b more begins h = begins

kept-property_at : (path value : List ℕ) (lock : Lock) (t : Bool) → is_path path ≡ t → (is_path path ≡ true → is_path_start path ≡ true) → Passes (λ x. not (ends_key x)) path → Passes (λ x. not (is_colon x)) path → Passes (λ x. not (ends_key x)) value
    → (if t then Some (Prop path value) else None) ≡ Some lock → is_kept lock ≡ true
kept-property_at path value lock false e start ends colon value_ends h = absurd (let f : None ≡ Some lock = h in cc)
kept-property_at path value lock true e start ends colon value_ends h =
    let same : Prop path value ≡ lock = cc in
    ap is_kept (sym same) ∙ at_prop is_kept_step path value ∙ rw (start e, lacks_from ends_key path ends, lacks_from is_colon path colon, e, lacks_from ends_key value value_ends) refl

kept-property : (path value : List ℕ) (lock : Lock) → (is_path path ≡ true → is_path_start path ≡ true) → Passes (λ x. not (ends_key x)) path → Passes (λ x. not (is_colon x)) path → Passes (λ x. not (ends_key x)) value
    → property_key path value ≡ Some lock → is_kept lock ≡ true
kept-property path value lock start ends colon value_ends h = kept-property_at path value lock (is_path path) refl start ends colon value_ends h

kept-named : (names : Naming) (b : ℕ) (more : List ℕ) (lock : Lock) → begins_path b ≡ true → Passes (λ x. not (ends_key x)) (b ∷ more)
    → named_key names (b ∷ more) (position is_colon (b ∷ more)) ≡ Some lock → is_kept lock ≡ true
kept-named names b more lock begins ends h =
    elim (cases_lt (position_or_len is_colon (b ∷ more)) (length (b ∷ more))) [
      | inl inside ↦ kept-property (take (position_or_len is_colon (b ∷ more)) (b ∷ more)) (drop (position_or_len is_colon (b ∷ more) + 1) (b ∷ more)) lock
          (start_of (position_or_len is_colon (b ∷ more)) b more begins)
          (passes-take (λ x. not (ends_key x)) (position_or_len is_colon (b ∷ more)) (b ∷ more) ends)
          (passes-front (λ x. not (is_colon x)) (b ∷ more))
          (passes-drop (λ x. not (ends_key x)) (position_or_len is_colon (b ∷ more) + 1) (b ∷ more) ends)
          (ap (λ t. named_key names (b ∷ more) (cond t (Some (position_or_len is_colon (b ∷ more))) None)) (sym (lt-ltb (position_or_len is_colon (b ∷ more)) (length (b ∷ more)) inside)) ∙ h)
      | inr past ↦ kept-object names (names.find (b ∷ more)) lock
          (ap (λ t. named_key names (b ∷ more) (cond t (Some (position_or_len is_colon (b ∷ more))) None)) (sym (le-ltb (position_or_len is_colon (b ∷ more)) (length (b ∷ more)) past)) ∙ h)
    ]

kept-key_at : (s t : Bool) (b : ℕ) → (b == 35) ≡ s → (b == 42) ≡ t → (names : Naming) (more : List ℕ) (lock : Lock) → (b == 33) ≡ false → (b == 40) ≡ false → Passes (λ x. not (ends_key x)) (b ∷ more)
    → (if s then object_key names (dbref_written (b ∷ more)) else if t then object_key names (names.find (b ∷ more)) else named_key names (b ∷ more) (position is_colon (b ∷ more))) ≡ Some lock → is_kept lock ≡ true
kept-key_at true t b es et names more lock n g ends h = kept-object names (dbref_written (b ∷ more)) lock h
kept-key_at false true b es et names more lock n g ends h = kept-object names (names.find (b ∷ more)) lock h
kept-key_at false false b es et names more lock n g ends h = kept-named names b more lock (rw (n, g, es, et) refl) ends h

kept-key : (names : Naming) (b : ℕ) (more : List ℕ) (lock : Lock) → (b == 33) ≡ false → (b == 40) ≡ false → Passes (λ x. not (ends_key x)) (b ∷ more) → lock_key_of names (b ∷ more) ≡ Some lock → is_kept lock ≡ true
kept-key names b more lock n g ends h = kept-key_at (b == 35) (b == 42) b refl refl names more lock n g ends h

abbrev pub IsKeptReading : LockReading → Type 0
IsKeptReading (Err rest) = Unit {0}
IsKeptReading (Ok read) = is_kept read.0 ≡ true

kept-key_or_fault : (key : Option Lock) (text rest : List ℕ) → ((lock : Lock) → key ≡ Some lock → is_kept lock ≡ true) → IsKeptReading (key_or_fault key text rest)
kept-key_or_fault None text rest h = tt
kept-key_or_fault (Some lock) text rest h = h lock refl

-- a key of some bytes begins with the first
kept-front : (names : Naming) (b n : ℕ) (more : List ℕ) (lock : Lock) → (b == 33) ≡ false → (b == 40) ≡ false → Passes (λ x. not (ends_key x)) (take n (b ∷ more)) → lock_key_of names (take n (b ∷ more)) ≡ Some lock → is_kept lock ≡ true
kept-front names b zero more lock e g ends h = absurd (let f : None ≡ Some lock = h in cc)
kept-front names b (suc n) more lock e g ends h = kept-key names b (take n more) lock e g ends h

kept-key_in : (names : Naming) (b : ℕ) (more : List ℕ) → (b == 33) ≡ false → (b == 40) ≡ false → IsKeptReading (key_in names (b ∷ more))
kept-key_in names b more n g =
    kept-key_or_fault (lock_key_of names (before_first ends_key (b ∷ more))) (b ∷ more) (drop (position_or_len ends_key (b ∷ more)) (b ∷ more))
    (λ lock h. kept-front names b (position_or_len ends_key (b ∷ more)) more lock n g (passes-front (λ x. not (ends_key x)) (b ∷ more)) h)

kept-negated : (r : LockReading) → IsKeptReading r → IsKeptReading (negated r)
kept-negated (Err rest) h = tt
kept-negated (Ok read) h = at_not is_kept_step read.0 ∙ h

kept-closed_by : (lock : Lock) (rest : List ℕ) → is_kept lock ≡ true → IsKeptReading (closed_by lock rest)
kept-closed_by lock [] h = tt
kept-closed_by lock (b ∷ more) h = elim (b == 41) as (λ t. IsKeptReading (if t then Ok (lock, more) else Err (b ∷ more))) [ true ↦ h | false ↦ tt ]

kept-closed : (r : LockReading) → IsKeptReading r → IsKeptReading (bracket_closed r)
kept-closed (Err rest) h = tt
kept-closed (Ok read) h = kept-closed_by read.0 read.1 h

Joins : (Lock → Lock → Lock) → Type 0
Joins join = (a b : Lock) → is_kept a ≡ true → is_kept b ≡ true → is_kept (join a b) ≡ true

kept-with_first : (join : Lock → Lock → Lock) (first : Lock) (r : LockReading) → Joins join → is_kept first ≡ true → IsKeptReading r → IsKeptReading (with_first_lock join first r)
unfolding Joins
kept-with_first join first (Err rest) joins f h = tt
kept-with_first join first (Ok read) joins f h = joins first read.0 f h

kept-followed : (sign : ℕ) (join : Lock → Lock → Lock) (more : List ℕ → LockReading) (first : Lock) (rest : List ℕ) → Joins join → ((t : List ℕ) → IsKeptReading (more t)) → is_kept first ≡ true
    → IsKeptReading (sign_followed sign join more first rest)
kept-followed sign join more first [] joins kept h = h
kept-followed sign join more first (b ∷ rest) joins kept h =
    elim (b == sign) as (λ t. IsKeptReading (if t then with_first_lock join first (more rest) else Ok (first, b ∷ rest))) [ true ↦ kept-with_first join first (more rest) joins h (kept rest) | false ↦ h ]

kept-joined : (sign : ℕ) (join : Lock → Lock → Lock) (more : List ℕ → LockReading) (r : LockReading) → Joins join → ((t : List ℕ) → IsKeptReading (more t)) → IsKeptReading r → IsKeptReading (locks_joined sign join more r)
kept-joined sign join more (Err rest) joins kept h = tt
kept-joined sign join more (Ok read) joins kept h = kept-followed sign join more read.0 read.1 joins kept h

both_joins : Joins Both
unfolding Joins
both_joins a b ha hb = at_both is_kept_step a b ∙ rw (ha, hb) refl

either_joins : Joins Either
unfolding Joins
either_joins a b ha hb = at_either is_kept_step a b ∙ rw (ha, hb) refl

kept-term_at : (s t : Bool) (names : Naming) (inside : Part → List ℕ → LockReading) (b : ℕ) (more : List ℕ) → (b == 33) ≡ s → (b == 40) ≡ t → ((p : Part) (text : List ℕ) → IsKeptReading (inside p text))
    → IsKeptReading (if s then negated (inside Term more) else if t then bracket_closed (inside OneOf more) else key_in names (b ∷ more))
kept-term_at true t names inside b more es et kept = kept-negated (inside Term more) (kept Term more)
kept-term_at false true names inside b more es et kept = kept-closed (inside OneOf more) (kept OneOf more)
kept-term_at false false names inside b more es et kept = kept-key_in names b more es et

kept-term : (names : Naming) (inside : Part → List ℕ → LockReading) (text : List ℕ) → ((p : Part) (t : List ℕ) → IsKeptReading (inside p t)) → IsKeptReading (term_in names inside text)
kept-term names inside [] kept = tt
kept-term names inside (b ∷ more) kept = kept-term_at (b == 33) (b == 40) names inside b more refl refl kept

kept-all_of : (names : Naming) (inside : Part → List ℕ → LockReading) (text : List ℕ) → ((p : Part) (t : List ℕ) → IsKeptReading (inside p t)) → IsKeptReading (all_of_in names inside text)
kept-all_of names inside text kept = kept-joined 38 Both (inside AllOf) (term_in names inside text) both_joins (kept AllOf) (kept-term names inside text kept)

kept-part : (names : Naming) (inside : Part → List ℕ → LockReading) (p : Part) (text : List ℕ) → ((q : Part) (t : List ℕ) → IsKeptReading (inside q t)) → IsKeptReading (part_in names inside p text)
kept-part names inside Term text kept = kept-term names inside text kept
kept-part names inside AllOf text kept = kept-all_of names inside text kept
kept-part names inside OneOf text kept = kept-joined 124 Either (inside OneOf) (all_of_in names inside text) either_joins (kept OneOf) (kept-all_of names inside text kept)

pub kept-part_of : (names : Naming) (depth : ℕ) (p : Part) (text : List ℕ) → IsKeptReading (part_of names depth p text)
unfolding part_of
kept-part_of names zero p text = tt
kept-part_of names (suc depth) p text = kept-part names (part_of names depth) p text (λ q t. kept-part_of names depth q t)
