-- What keeps a world in order where some objects become garbage, on which nothing else rests.
use Rattle.std.proofs.Common.{◌≡◌, ℕ, ◌<◌, List, [], ◌∷◌, Option, Some, None, inl, inr, refl, sym, ◌∙◌, ap, subst, length, arith, Bool, true, false}
use Rattle.std.proofs.lemmas.Bool.{cases_lt, false≢true, cases_Bool}
use Rattle.muck_model.specs.declared.dbref.Kind.TheVariants.{Garbage, Player}
use Rattle.spec_live.specs.declared.object.Object.{Object}
use Rattle.spec_live.specs.Chain.{walk, IsChain, Ends, Member, IsApart}
use Rattle.spec_live.specs.Objects.{Entry, dbref_of, index_of, is_exit, is_player, garbage, object_in, list_in, place_in, kind_in}
use Rattle.spec_live.specs.Setting.{may_link, may_live}
use Rattle.spec_live.specs.Consistent.{StandsIn, IsTied, IsOrdered, IsPlaced, IsConsistent}
use Rattle.spec_live.proofs.Chains.{ends_from}
use Rattle.spec_live.proofs.Readers.{object_there, kind_past, kind_is, place_is, kind_alike, place_alike, flags_alike, vehicle_alike, fits_alike, place_known}
use Rattle.spec_live.proofs.Orders.{up_alone}
use Rattle.spec_live.proofs.Ties.{IsTidy, consistent_tidy, consistent_from, tied_alike, garbage_tied}

-- f keeps to what isn't gone, where g is as f
pub chain_kept : (n : ℕ) (f g : ℕ → Option ℕ) (gone : ℕ → Bool) (s : Option ℕ) (xs : List ℕ) → ((y : ℕ) → s ≡ Some y → gone y ≡ false) → ((y z : ℕ) → gone y ≡ false → f y ≡ Some z → gone z ≡ false)
    → ((y : ℕ) → gone y ≡ false → g y ≡ f y) → IsChain n f s xs → IsChain n g s xs
unfolding IsChain
chain_kept n f g gone s [] first step same h = h
chain_kept n f g gone s (x ∷ xs) first step same h =
    let here : gone x ≡ false = first x h.0 in
    let P : Option ℕ → Type 0 = λ t. IsChain n g t xs in
    (h.0, h.1, subst P (sym (same x here)) (chain_kept n f g gone (f x) xs (λ z e. step x z here e) step same h.2))

-- Of es some are gone in fs: they are garbage there and stand nowhere, and what stood in them is gone too.
pub record IsFewer (es fs : List Entry) (gone : ℕ → Bool) : Type 0 where
  pub same_length : length fs ≡ length es
  pub kept : (k : ℕ) → gone k ≡ false → object_in fs k ≡ object_in es k
  pub left : (k : ℕ) (o : Object) → gone k ≡ true → object_in fs k ≡ Some o → o ≡ garbage
  pub within : (k p : ℕ) → place_in es k ≡ Some p → gone p ≡ true → gone k ≡ true
  pub members : (v : Bool) (p x : ℕ) → Member x (list_in v fs p) → Member x (list_in v es p) × (gone x ≡ false)
  pub stays : (v : Bool) (p x : ℕ) → Member x (list_in v es p) → gone x ≡ false → Member x (list_in v fs p)
  pub once : (v : Bool) (p : ℕ) → IsApart (list_in v fs p)
  pub room : gone 0 ≡ false

gone_place : (es fs : List Entry) (gone : ℕ → Bool) → IsFewer es fs gone → (k p : ℕ) → place_in fs k ≡ Some p → gone k ≡ false
unfolding garbage
gone_place es fs gone f k p h = elim (cases_Bool (gone k)) [
  | inl g ↦
      let o : (x : Object) × (object_in fs k ≡ Some x) = object_there fs k (place_known fs k p h) in
      absurd (cc (h, place_is fs k o.0 o.1, ap (λ (z : Object). index_of z.place) (f.left k o.0 g o.1)))
  | inr g ↦ g
]

pub gone_kind : (es fs : List Entry) (gone : ℕ → Bool) → IsFewer es fs gone → (k : ℕ) → gone k ≡ true → kind_in fs k ≡ Garbage
unfolding garbage
gone_kind es fs gone f k g = elim (cases_lt k (length fs)) [
  | inl lt ↦ let o : (x : Object) × (object_in fs k ≡ Some x) = object_there fs k lt in kind_is fs k o.0 o.1 ∙ ap (λ (z : Object). z.kind) (f.left k o.0 g o.1)
  | inr le ↦ kind_past fs k le
]

gone_not : (es fs : List Entry) (gone : ℕ → Bool) → IsFewer es fs gone → (y z : ℕ) → gone y ≡ false → place_in es y ≡ Some z → gone z ≡ false
gone_not es fs gone f y z h e = elim (cases_Bool (gone z)) [ inl g ↦ absurd (false≢true (sym h ∙ f.within y z e g)) | inr g ↦ g ]

no_place_by : (es fs : List Entry) (gone : ℕ → Bool) → IsFewer es fs gone → (k : ℕ) → gone k ≡ true → (o : Option ℕ) → place_in fs k ≡ o → place_in fs k ≡ None
no_place_by es fs gone f k g None e = e
no_place_by es fs gone f k g (Some p) e = absurd (false≢true (sym (gone_place es fs gone f k p e) ∙ g))

fewer_up : (es fs : List Entry) (gone : ℕ → Bool) → IsFewer es fs gone → IsOrdered es → (d : ℕ) → d < length fs → Ends (length fs) (place_in fs) (Some d)
unfolding Ends
fewer_up es fs gone f c d lt = elim (cases_Bool (gone d)) [
  | inl g ↦ up_alone fs d lt (no_place_by es fs gone f d g (place_in fs d) refl)
  | inr g ↦
      let xs : List ℕ = walk (length es) (place_in es) (Some d) in
      let P : ℕ → Type 0 = λ m. IsChain m (place_in fs) (Some d) xs in
      ends_from (length fs) (place_in fs) (Some d) xs (subst P (sym f.same_length)
      (chain_kept (length es) (place_in es) (place_in fs) gone (Some d) xs (λ y e. let same : d ≡ y = cc (e) in sym (ap gone same) ∙ g) (gone_not es fs gone f)
      (λ y h. place_alike es fs y (f.kept y h)) (c.up d (omega (arith, f.same_length)))))
]

pub ordered_fewer : (es fs : List Entry) (gone : ℕ → Bool) → IsFewer es fs gone → IsOrdered es → IsOrdered fs
ordered_fewer es fs gone f c = record {
  stands = λ v p x m.
      let was : Member x (list_in v es p) × (gone x ≡ false) = f.members v p x m in
      let s : StandsIn es v p x = c.stands v p x was.0 in
      record { place = place_alike es fs x (f.kept x was.1) ∙ s.place; kind = ap (λ z. is_exit z) (kind_alike es fs x (f.kept x was.1)) ∙ s.kind };
  listed = λ v p x s.
      let g : gone x ≡ false = gone_place es fs gone f x p s.place in
      f.stays v p x (c.listed v p x (record { place = sym (place_alike es fs x (f.kept x g)) ∙ s.place; kind = ap (λ z. is_exit z) (sym (kind_alike es fs x (f.kept x g))) ∙ s.kind })) g;
  once = f.once;
  up = fewer_up es fs gone f c;
  kinds = λ x p h.
      let g : gone x ≡ false = gone_place es fs gone f x p h in
      let e : place_in es x ≡ Some p = sym (place_alike es fs x (f.kept x g)) ∙ h in
      let q : gone p ≡ false = gone_not es fs gone f x p g e in
      fits_alike es fs x p (kind_alike es fs x (f.kept x g)) (kind_alike es fs p (f.kept p q)) (vehicle_alike es fs p (flags_alike es fs p (f.kept p q))) ∙ c.kinds x p e;
  top = place_alike es fs 0 (f.kept 0 f.room) ∙ c.top;
  room = kind_alike es fs 0 (f.kept 0 f.room) ∙ c.room;
  few = omega (arith, f.same_length, c.few);
}

-- and of what is gone nothing speaks
pub record IsUnspoken (es : List Entry) (gone : ℕ → Bool) : Type 0 where
  pub player : (n : ℕ) → is_player (kind_in es n) ≡ true → gone n ≡ false
  pub link : (k n : ℕ) (o : Object) → object_in es k ≡ Some o → o.link ≡ dbref_of n → may_link o.kind (kind_in es n) ≡ true → gone n ≡ false
  pub home : (k n : ℕ) (o : Object) → object_in es k ≡ Some o → o.home ≡ dbref_of n → may_live o.kind (kind_in es n) ≡ true → gone n ≡ false

placed_fewer : (es fs : List Entry) (gone : ℕ → Bool) → IsFewer es fs gone → IsPlaced es → IsPlaced fs
placed_fewer es fs gone f h = λ d none. elim (cases_Bool (gone d)) [
  | inl g ↦ inr (gone_kind es fs gone f d g)
  | inr g ↦ elim (h d (sym (place_alike es fs d (f.kept d g)) ∙ none)) [ inl q ↦ inl q | inr q ↦ inr (kind_alike es fs d (f.kept d g) ∙ q) ]
]

tidy_fewer : (es fs : List Entry) (gone : ℕ → Bool) → IsFewer es fs gone → IsUnspoken es gone → IsTidy es → IsTidy fs
tidy_fewer es fs gone f u c =
    let kinds : (n : ℕ) → gone n ≡ false → kind_in fs n ≡ kind_in es n = λ n g. kind_alike es fs n (f.kept n g) in
    let first : kind_in fs 1 ≡ Player = kinds 1 (u.player 1 (ap (λ z. is_player z) c.first)) ∙ c.first in
    record {
      tied = λ k o h. elim (cases_Bool (gone k)) [
        | inl g ↦ let P : Object → Type 0 = λ z. IsTied fs z in subst P (sym (f.left k o g h)) (garbage_tied fs first)
        | inr g ↦
            let was : object_in es k ≡ Some o = sym (f.kept k g) ∙ h in
            tied_alike es fs o o (record { kind = refl; owner = refl; link = refl; home = refl }) (λ n e t. ap (λ z. is_player z) (kinds n (u.player n t)) ∙ t) (λ n e t. ap (λ z. may_link o.kind z) (kinds n (u.link k n o was e t)) ∙ t)
            (λ n e t. ap (λ z. may_live o.kind z) (kinds n (u.home k n o was e t)) ∙ t) (c.tied k o was)
      ];
      blank = λ k o h q. elim (cases_Bool (gone k)) [ inl g ↦ f.left k o g h | inr g ↦ c.blank k o (sym (f.kept k g) ∙ h) q ];
      first = first;
    }

pub consistent_fewer : (es fs : List Entry) (gone : ℕ → Bool) → IsFewer es fs gone → IsUnspoken es gone → IsConsistent es → IsConsistent fs
consistent_fewer es fs gone f u c = consistent_from fs (ordered_fewer es fs gone f c.ordered) (placed_fewer es fs gone f c.placed) (tidy_fewer es fs gone f u (consistent_tidy es c))
