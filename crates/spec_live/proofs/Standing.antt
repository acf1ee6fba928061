-- What a consistent world is, in plain words: where each object stands, and that places lead up to `#0`.
use Rattle.std.proofs.Common.{◌≡◌, ℕ, List, [], ◌∷◌, Option, Some, None, inl, inr, refl, sym, ◌∙◌, ap, Bool, true, false, not, length, ◌⊎◌}
use Rattle.std.proofs.lemmas.Bool.{false≢true, not-true}
use Rattle.muck_model.specs.declared.dbref.Kind.TheVariants.{Garbage}
use Rattle.spec_live.specs.Chain.{walk, IsChain, Ends, Member}
use Rattle.spec_live.specs.Objects.{Entry, is_exit, is_garbage, list_in, place_in, kind_in, fits_in, places_from, is_vehicle_in}
use Rattle.spec_live.specs.Consistent.{StandsIn, IsConsistent}
use Rattle.spec_live.proofs.KindLaws.{place_alive}
use Rattle.spec_live.proofs.Checks.{alive_known}
use Rattle.spec_live.proofs.Orders.{no_place, nobodys_place}

-- where an object stands: in one list of its place, and in no other
pub record StandsOnce (es : List Entry) (d p : ℕ) : Type 0 where
  pub place : place_in es d ≡ Some p
  pub member : Member d (list_in (is_exit (kind_in es d)) es p)
  pub only : (v : Bool) (q : ℕ) → Member d (list_in v es q) → (v ≡ is_exit (kind_in es d)) × (q ≡ p)

once_by : (es : List Entry) (d : ℕ) → IsConsistent es → (d ≡ 0 → ⊥) → is_garbage (kind_in es d) ≡ false → (o : Option ℕ) → place_in es d ≡ o → (p : ℕ) × StandsOnce es d p
once_by es d c low alive None e = elim (c.placed d e) [ inl q ↦ absurd (low q) | inr q ↦ absurd (false≢true (sym alive ∙ ap (λ z. is_garbage z) q)) ]
once_by es d c low alive (Some p) e = (
  p,
  record {
    place = e;
    member = c.ordered.listed (is_exit (kind_in es d)) p d (record { place = e; kind = refl });
    only = λ v q m. let s : StandsIn es v q d = c.ordered.stands v q d m in (sym s.kind, cc (s.place, e));
  },
)

-- each object but `#0` that isn't garbage stands in one list of its place, and in no other list
pub stands_once : (es : List Entry) (d : ℕ) → IsConsistent es → (d ≡ 0 → ⊥) → is_garbage (kind_in es d) ≡ false → (p : ℕ) × StandsOnce es d p
stands_once es d c low alive = once_by es d c low alive (place_in es d) refl

-- garbage stands in no list, and holds nothing
pub garbage_nowhere : (es : List Entry) (d : ℕ) → IsConsistent es → kind_in es d ≡ Garbage → (v : Bool) (p : ℕ) → Member d (list_in v es p) → ⊥
garbage_nowhere es d c g v p m = cc ((c.ordered.stands v p d m).place, no_place es c.ordered d g)

pub garbage_holds : (es : List Entry) (d : ℕ) → IsConsistent es → kind_in es d ≡ Garbage → (v : Bool) (x : ℕ) → Member x (list_in v es d) → ⊥
garbage_holds es d c g v x m = nobodys_place es c.ordered d x g (c.ordered.stands v d x m).place

-- what leads on among good ones to the end meets the only good one that leads nowhere
chain_top : (n : ℕ) (f : ℕ → Option ℕ) (good : ℕ → Bool) (top : ℕ) → ((y z : ℕ) → good y ≡ true → f y ≡ Some z → good z ≡ true) → ((y : ℕ) → good y ≡ true → f y ≡ None → top ≡ y)
    → (s : Option ℕ) (xs : List ℕ) → IsChain n f s xs → (x : ℕ) → s ≡ Some x → good x ≡ true → Member top xs
unfolding IsChain Member
chain_top n f good top step last s [] h x e g = absurd (cc (h, e))
chain_top n f good top step last s (y ∷ xs) h x e g =
    let same : x ≡ y = cc (h.0, e) in
    let here : good y ≡ true = sym (ap good same) ∙ g in
    next (f y) refl here (λ z q r. chain_top n f good top step last (f y) xs h.2 z q r)
  where
    next : (o : Option ℕ) → f y ≡ o → good y ≡ true → ((z : ℕ) → f y ≡ Some z → good z ≡ true → Member top xs) → (top ≡ y) ⊎ Member top xs
    next None q r rest = inl (last y r q)
    next (Some z) q r rest = inr (rest z q (step y z r q))

-- places lead up to `#0`
pub leads_up : (es : List Entry) (k : ℕ) → IsConsistent es → is_garbage (kind_in es k) ≡ false → Member 0 (places_from es k)
unfolding places_from Ends fits_in
leads_up es k c alive = chain_top (length es) (place_in es) (λ y. not (is_garbage (kind_in es y))) 0
    (λ y z g e. ap (λ b. not b) (place_alive (kind_in es y) (kind_in es z) (is_vehicle_in es z) (c.ordered.kinds y z e)))
    (λ y g e. elim (c.placed y e) [ inl q ↦ sym q | inr q ↦ absurd (false≢true (sym (not-true (is_garbage (kind_in es y)) g) ∙ ap (λ z. is_garbage z) q)) ])
    (Some k) (walk (length es) (place_in es) (Some k)) (c.ordered.up k (alive_known es k alive)) k refl (ap (λ b. not b) alive)
