-- Lists of the world, met along the records.
use Rattle.std.proofs.Common.{◌≡◌, ℕ, ◌<◌, zero, suc, List, [], ◌∷◌, ◌++◌, Option, Some, inl, inr, refl, sym, ◌∙◌, ap, subst, length, append_assoc, append-nil, arith, Bool, true, false}
use Rattle.std.proofs.lemmas.Bool.{ne_eqb, eq-eqb, false≢true}
use Rattle.std.specs.Option.{option_and_then}
use Rattle.spec_live.specs.Chain.{Member, IsApart, follower}
use Rattle.spec_live.specs.Objects.{Entry, list_in}
use Rattle.spec_live.specs.Consistent.{IsOrdered}
use Rattle.spec_live.proofs.Lists.{has_false}
use Rattle.spec_live.proofs.Readers.{place_known}
use Rattle.muck_codec.specs.declared.stored.Stored.{Stored}
use Rattle.muck_store.specs.Forms.{persist, next_of_stored}
use Rattle.muck_store.specs.Whole.{record_stands_in, chain_met, list_met, held_met}
use Rattle.muck_store.proofs.MetLists.{member_split, apart_below}
use Rattle.muck_store.proofs.StoredForms.{first_of_list, length_persist, first_persist, next_follows, stands_persist}

-- each leads to the one behind it in the list, the last to none
unfoldable pub Links : (ℕ → Option ℕ) → List ℕ → Type 0
Links next [] = Unit {0}
Links next (x ∷ xs) = (next x ≡ first_of_list xs) × Links next xs

links_frame : (f g : ℕ → Option ℕ) (xs : List ℕ) → ((x : ℕ) → Member x xs → g x ≡ f x) → Links f xs → Links g xs
unfolding Links Member
links_frame f g [] same h = tt
links_frame f g (x ∷ xs) same h = (same x (inl refl) ∙ h.0, links_frame f g xs (λ y m. same y (inr m)) h.1)

here : (x : ℕ) (xs : List ℕ) → follower x (x ∷ xs) ≡ first_of_list xs
unfolding follower
here x [] = rw (eq-eqb x x refl) refl
here x (y ∷ ys) = rw (eq-eqb x x refl) refl

past : (d x : ℕ) (xs : List ℕ) → (x ≡ d → ⊥) → follower d (x ∷ xs) ≡ follower d xs
unfolding follower
past d x xs ne = rw (ne_eqb x d ne) refl

links_apart : (xs : List ℕ) → IsApart xs → Links (λ d. follower d xs) xs
unfolding Links IsApart
links_apart [] h = tt
links_apart (x ∷ xs) h =
    let P : ℕ → Type 0 = λ z. Member z xs in
    (here x xs, links_frame (λ d. follower d xs) (λ d. follower d (x ∷ xs)) xs (λ y m. past y x xs (λ e. h.0 (subst P (sym e) m))) (links_apart xs h.1))

-- the chain of a list whose numbers stand where they are looked for, and were not met, is met
chain_through : (n : ℕ) (os : List Stored) (v : Bool) (p : ℕ) (xs met : List ℕ) → length xs < n → Links (next_of_stored os) xs → ((d : ℕ) → Member d xs → record_stands_in os v p d ≡ true) → IsApart xs
    → ((d : ℕ) → Member d xs → Member d met → ⊥) → chain_met n os v p (first_of_list xs) met ≡ Some (met ++ xs)
unfolding chain_met Links Member IsApart
chain_through zero os v p xs met short links stands apart free = absurd (omega arith)
chain_through (suc n) os v p [] met short links stands apart free = ap (λ (l : List ℕ). Some l) (sym (append-nil met))
chain_through (suc n) os v p (x ∷ xs) met short links stands apart free =
    let P : ℕ → Type 0 = λ z. Member z xs in
    let new : (d : ℕ) → Member d xs → Member d (met ++ x ∷ []) → ⊥ = λ d m q. elim (member_split d met (x ∷ []) q) [
      | inl r ↦ free d (inr m) r
      | inr r ↦ elim r [ inl e ↦ apart.0 (subst P e m) | inr z ↦ z ]
    ] in
    rw (stands x (inl refl), has_false x met (free x (inl refl)), links.0)
    (chain_through n os v p xs (met ++ x ∷ []) (omega arith) links.1 (λ d m. stands d (inr m)) apart.1 new ∙ ap (λ (l : List ℕ). Some l) (append_assoc met (x ∷ []) xs))

pub list_links : (es : List Entry) → IsOrdered es → (v : Bool) (p : ℕ) → Links (next_of_stored (persist es)) (list_in v es p)
list_links es c v p =
    links_frame (λ d. follower d (list_in v es p)) (next_of_stored (persist es)) (list_in v es p) (λ d m. next_follows es v p d (c.stands v p d m)) (links_apart (list_in v es p) (c.once v p))

list_short : (es : List Entry) → IsOrdered es → (v : Bool) (p : ℕ) → length (list_in v es p) < suc (length (persist es))
list_short es c v p =
    let le = apart_below (list_in v es p) (length es) (c.once v p) (λ d m. place_known es d p (c.stands v p d m).place) in
    let same = length_persist es in
    omega (arith, le, same)

list_walked : (es : List Entry) → IsOrdered es → (v : Bool) (p : ℕ) (met : List ℕ) → ((d : ℕ) → Member d (list_in v es p) → Member d met → ⊥) → list_met (persist es) v p met ≡ Some (met ++ list_in v es p)
list_walked es c v p met free =
    ap (λ (s : Option ℕ). chain_met (suc (length (persist es))) (persist es) v p s met) (first_persist es v p)
    ∙ chain_through (suc (length (persist es))) (persist es) v p (list_in v es p) met (list_short es c v p) (list_links es c v p) (λ d m. stands_persist es v p d (c.stands v p d m)) (c.once v p) free

-- both lists of an object, none of whose numbers was met
pub held_walked : (es : List Entry) → IsOrdered es → (p : ℕ) (met : List ℕ) → ((v : Bool) (d : ℕ) → Member d (list_in v es p) → Member d met → ⊥) → held_met (persist es) p met ≡ Some ((met ++ list_in false es p) ++ list_in true es p)
held_walked es c p met free =
    let other : (d : ℕ) → Member d (list_in true es p) → Member d (met ++ list_in false es p) → ⊥ = λ d m q. elim (member_split d met (list_in false es p) q) [
      | inl r ↦ free true d m r
      | inr r ↦ false≢true (sym (c.stands false p d r).kind ∙ (c.stands true p d m).kind)
    ] in
    ap (λ (o : Option (List ℕ)). option_and_then (list_met (persist es) true p) o) (list_walked es c false p met (free false)) ∙ list_walked es c true p (met ++ list_in false es p) other
