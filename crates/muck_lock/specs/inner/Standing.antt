-- The objects in memory that stand in one place are a chain.
use Rattle.std.specs.Prelude.{◌≡◌, refl, ℕ, zero, suc, ◌+◌, Bool, true, false, if◌then◌else◌, List, [], ◌∷◌, drop, slice_get, Some}
use Rattle.muck_model.proofs.Dbrefs.{eq_same}
use Rattle.std.proofs.Common.{ap, sym, ◌∙◌, subst, add-one}
use Rattle.muck_model.specs.declared.dbref.Dbref.{Dbref}
use Rattle.muck_lock.specs.inner.Chain.{IsChain, same}
use Rattle.muck_lock.specs.inner.Memory.{numbered_at, standing_in, first_in, next_at, next_of}
use Rattle.muck_lock.specs.declared.memory.MemObject.{MemObject}

head_of-drop : (objects : List MemObject) (k : ℕ) (o : MemObject) (more : List MemObject) → o ∷ more ≡ drop k objects → (slice_get objects k ≡ Some o) × (more ≡ drop (suc k) objects)
head_of-drop [] zero o more e = absurd (let f : o ∷ more ≡ [] = e in cc)
head_of-drop [] (suc k) o more e = absurd (let f : o ∷ more ≡ [] = e in cc)
head_of-drop (x ∷ xs) zero o more e = let f : o ∷ more ≡ x ∷ xs = e in (let g : x ≡ o = cc in ap Some g, let g : more ≡ xs = cc in g)
head_of-drop (x ∷ xs) (suc k) o more e = head_of-drop xs k o more e

chain_at : (objects : List MemObject) (d : Dbref) (k : ℕ) (o : MemObject) (more : List MemObject) (t : Bool) → same o.place d ≡ t → slice_get objects k ≡ Some o → more ≡ drop (suc k) objects
    → IsChain (next_of objects) (first_in d (suc k) more) (standing_in d (suc k) more)
    → IsChain (next_of objects) (if t then numbered_at k else first_in d (suc k) more) (if t then numbered_at k ∷ standing_in d (suc k) more else standing_in d (suc k) more)
unfolding IsChain
chain_at objects d k o more false here at rest later = later
chain_at objects d k o more true here at rest later =
    let next : next_of objects (numbered_at k) ≡ first_in d (suc k) more =
    ap (next_at objects k) at ∙ ap (λ p. first_in p (k + 1) (drop (k + 1) objects)) (eq_same o.place d here)
    ∙ ap (λ n. first_in d n (drop n objects)) (add-one k) ∙ ap (first_in d (suc k)) (sym rest) in
    (refl, refl, subst (λ z. IsChain (next_of objects) z (standing_in d (suc k) more)) (sym next) later)

chain_from : (objects : List MemObject) (d : Dbref) (k : ℕ) (rest : List MemObject) → rest ≡ drop k objects → IsChain (next_of objects) (first_in d k rest) (standing_in d k rest)
unfolding IsChain
chain_from objects d k [] e = refl
chain_from objects d k (o ∷ more) e =
    let h : (slice_get objects k ≡ Some o) × (more ≡ drop (suc k) objects) = head_of-drop objects k o more e in
    let later : IsChain (next_of objects) (first_in d (suc k) more) (standing_in d (suc k) more) = chain_from objects d (suc k) more h.1 in
    chain_at objects d k o more (same o.place d) refl h.0 h.1 later

pub chained : (objects : List MemObject) (d : Dbref) → IsChain (next_of objects) (first_in d 0 objects) (standing_in d 0 objects)
chained objects d = chain_from objects d 0 objects refl
