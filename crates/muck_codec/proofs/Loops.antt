-- Things read one after the other, as a loop does.
use Rattle.std.proofs.Common.{◌≡◌, ℕ, suc, ◌-◌, ◌+◌, ◌≤◌, ◌<◌, List, [], ◌∷◌, ◌++◌, Option, Some, Result, Ok, Err, refl, sym, ap, subst, ◌∙◌, append_assoc, length, length-append, drop, get_or, add-one, drop-cons, arith}
use Rattle.std.proofs.lemmas.List.{append-nil, drop_all}
use Rattle.std.specs.Int.{w32}
use Rattle.std.specs.Option.{option_map}
use Rattle.std.specs.Prelude.{slice_get}
use Rattle.muck_laws.proofs.Places.{got_last}
use Rattle.muck_codec.specs.declared.fault.Unread.{Unread}
use Rattle.muck_codec.specs.declared.fault.Unread.TheVariants as unread
use Rattle.muck_model.specs.declared.tune.Tune.{Tune}
use Rattle.muck_model.specs.declared.tune.Parameter.{Parameter}
use Rattle.muck_model.specs.Parameters.{with_parameter}
use Rattle.muck_codec.specs.Reading.{◌>>=◌, Fails, last_key, several, number_at}
use Rattle.muck_codec.specs.Batches.{parameters_at}

-- what was read before, and what is still read
abbrev pub with_front : {A : Type 0} → List A → Result (List A × List ℕ) ℕ → Result (List A × List ℕ) ℕ
with_front front read = read >>= λ x. Ok (front ++ x.0, x.1)

regroup : {A : Type 0} (front : List A) (x : A) (read : Result (List A × List ℕ) ℕ) → with_front front (read >>= λ others. Ok (x ∷ others.0, others.1)) ≡ with_front (front ++ x ∷ []) read
regroup front x (Ok y) = ap (λ xs. Ok (xs, y.1)) (sym (append_assoc front (x ∷ []) y.0))
regroup front x (Err left) = refl

pub last_is : {A K : Type 0} (key : A → K) (xs : List A) (x : A) → last_key key (xs ++ x ∷ []) ≡ Some (key x)
last_is key xs x =
    let at : length (xs ++ x ∷ []) - 1 ≡ length xs = omega (arith, length-append xs (x ∷ [])) in
    ap (λ (k : ℕ). option_map key (slice_get (xs ++ x ∷ []) k)) at ∙ ap (option_map key) (got_last xs x)

pub goes_on : {A K : Type 0} (key : A → K) (part : Option K → List ℕ → Result (A × List ℕ) ℕ) (front : List A) (count i : ℕ) (bytes : List ℕ) (x : A) (after : List ℕ) (total : Result (List A × List ℕ) ℕ)
    → i < count → part (last_key key front) bytes ≡ Ok (x, after) → with_front front (several key part (last_key key front) (count - i) bytes) ≡ total
    → with_front (front ++ x ∷ []) (several key part (last_key key (front ++ x ∷ [])) (count - (i + 1)) after) ≡ total
unfolding several
goes_on {K = K} key part front count i bytes x after total lt h so_far =
    let k : count - i ≡ suc (count - (i + 1)) = omega arith in
    let one : with_front front (several key part (last_key key front) (count - i) bytes) ≡ with_front (front ++ x ∷ []) (several key part (Some (key x)) (count - (i + 1)) after) =
    rw (k, h) (regroup front x (several key part (Some (key x)) (count - (i + 1)) after)) in
    ap (λ (b : Option K). with_front (front ++ x ∷ []) (several key part b (count - (i + 1)) after)) (last_is key front x) ∙ (sym one ∙ so_far)

pub ends : {A K : Type 0} (key : A → K) (part : Option K → List ℕ → Result (A × List ℕ) ℕ) (e : Unread) (front : List A) (count i : ℕ) (bytes : List ℕ) (total : Result (List A × List ℕ) ℕ)
    → i < count → Fails e (part (last_key key front) bytes) → with_front front (several key part (last_key key front) (count - i) bytes) ≡ total → Fails e total
unfolding several
ends key part unread.NoMemory front count i bytes total lt h so_far = tt
ends key part (unread.Left left) front count i bytes total lt h so_far =
    let k : count - i ≡ suc (count - (i + 1)) = omega arith in
    let one : with_front front (several key part (last_key key front) (count - i) bytes) ≡ Err left = rw (k, h) refl in
    sym so_far ∙ one

pub is_done : {A K : Type 0} (key : A → K) (part : Option K → List ℕ → Result (A × List ℕ) ℕ) (front : List A) (count i : ℕ) (bytes : List ℕ) (total : Result (List A × List ℕ) ℕ)
    → count ≤ i → with_front front (several key part (last_key key front) (count - i) bytes) ≡ total → total ≡ Ok (front, bytes)
unfolding several
is_done key part front count i bytes total le so_far =
    let k : count - i ≡ 0 = omega arith in
    let one : with_front front (several key part (last_key key front) (count - i) bytes) ≡ Ok (front, bytes) = rw k (ap (λ xs. Ok (xs, bytes)) (append-nil front)) in
    sym so_far ∙ one

-- the same, where the key of the last one is known under another name

pub goes_on_with : {A K : Type 0} (key : A → K) (part : Option K → List ℕ → Result (A × List ℕ) ℕ) (front : List A) (count i : ℕ) (bytes : List ℕ) (x : A) (after : List ℕ) (total : Result (List A × List ℕ) ℕ) (before : Option K)
    → before ≡ last_key key front → i < count → part before bytes ≡ Ok (x, after) → with_front front (several key part (last_key key front) (count - i) bytes) ≡ total
    → with_front (front ++ x ∷ []) (several key part (last_key key (front ++ x ∷ [])) (count - (i + 1)) after) ≡ total
goes_on_with key part front count i bytes x after total before is lt h so_far =
    goes_on key part front count i bytes x after total lt (ap (λ b. part b bytes) (sym is) ∙ h) so_far

pub ends_with : {A K : Type 0} (key : A → K) (part : Option K → List ℕ → Result (A × List ℕ) ℕ) (e : Unread) (front : List A) (count i : ℕ) (bytes : List ℕ) (total : Result (List A × List ℕ) ℕ) (before : Option K)
    → before ≡ last_key key front → i < count → Fails e (part before bytes) → with_front front (several key part (last_key key front) (count - i) bytes) ≡ total → Fails e total
ends_with key part e front count i bytes total before is lt h so_far =
    ends key part e front count i bytes total lt (subst (λ b. Fails e (part b bytes)) is h) so_far

-- Parameters, read one after the other.

next_of : (ps : List Parameter) (i : ℕ) (p : Parameter) → i < length ps → drop i ps ≡ get_or ps i p ∷ drop (i + 1) ps
next_of ps i p h = rw (add-one, drop-cons ps i p) refl

pub reads_on : (ps : List Parameter) (i : ℕ) (p : Parameter) (tune : Tune) (bytes : List ℕ) (n : ℕ) (after : List ℕ) (total : Result (Tune × List ℕ) ℕ)
    → i < length ps → number_at w32 bytes ≡ Ok (n, after) → parameters_at (drop i ps) tune bytes ≡ total → parameters_at (drop (i + 1) ps) (with_parameter (get_or ps i p) n tune) after ≡ total
reads_on ps i p tune bytes n after total h reads so_far =
    let rest : ℕ × List ℕ → Result (Tune × List ℕ) ℕ = λ k. parameters_at (drop (i + 1) ps) (with_parameter (get_or ps i p) k.0 tune) k.1 in
    let one : parameters_at (drop i ps) tune bytes ≡ rest (n, after) = ap (λ qs. parameters_at qs tune bytes) (next_of ps i p h) ∙ ap (λ r. r >>= rest) reads in
    sym one ∙ so_far

pub reads_fail : (ps : List Parameter) (i : ℕ) (p : Parameter) (tune : Tune) (bytes : List ℕ) (fault : Unread) (total : Result (Tune × List ℕ) ℕ)
    → i < length ps → Fails fault (number_at w32 bytes) → parameters_at (drop i ps) tune bytes ≡ total → Fails fault total
reads_fail ps i p tune bytes unread.NoMemory total h fails so_far = tt
reads_fail ps i p tune bytes (unread.Left left) total h fails so_far =
    let rest : ℕ × List ℕ → Result (Tune × List ℕ) ℕ = λ k. parameters_at (drop (i + 1) ps) (with_parameter (get_or ps i p) k.0 tune) k.1 in
    let one : parameters_at (drop i ps) tune bytes ≡ Err left = ap (λ qs. parameters_at qs tune bytes) (next_of ps i p h) ∙ ap (λ r. r >>= rest) fails in
    sym so_far ∙ one

pub reads_end : (ps : List Parameter) (i : ℕ) (tune : Tune) (bytes : List ℕ) (total : Result (Tune × List ℕ) ℕ) → length ps ≤ i → parameters_at (drop i ps) tune bytes ≡ total → total ≡ Ok (tune, bytes)
reads_end ps i tune bytes total h so_far = sym so_far ∙ ap (λ qs. parameters_at qs tune bytes) (drop_all i ps h)
