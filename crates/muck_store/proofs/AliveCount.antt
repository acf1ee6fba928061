-- How many objects there are: as many as numbers of objects stand in a list that has each of them once.
use Rattle.std.proofs.Common.{◌≡◌, ◌⊎◌, ℕ, ◌≤◌, ◌+◌, zero, suc, List, [], ◌∷◌, Some, inl, inr, refl, sym, ◌∙◌, ap, length, arith, Bool, true, false, cond}
use Rattle.std.specs.Prelude.{not, if◌then◌else◌}
use Rattle.std.proofs.lemmas.Bool.{false≢true}
use Rattle.std.proofs.lemmas.List.Sums.{sum_by-cons}
use Rattle.std.specs.List.{slice_get, count_by}
use Rattle.muck_laws.proofs.Lists.{count_step}
use Rattle.muck_laws.proofs.Places.{some_at}
use Rattle.spec_live.specs.Chain.{Member, IsApart}
use Rattle.spec_live.specs.Objects.{Entry, is_garbage, kind_in}
use Rattle.muck_codec.specs.declared.stored.Stored.{Stored}
use Rattle.muck_store.specs.Forms.{stored_of, stored_from, persist}
use Rattle.muck_store.proofs.MetLists.{apart_short}
use Rattle.muck_store.proofs.StoredForms.{kind_there, alive_below}

-- the numbers of those that aren't garbage
unfoldable alive_from : ℕ → List Entry → List ℕ
alive_from k [] = []
alive_from k (e ∷ es) = if is_garbage e.object.kind then alive_from (suc k) es else k ∷ alive_from (suc k) es

alive_counted : (es : List Entry) (k : ℕ) (rest : List Entry) → length (alive_from k rest) ≡ count_by (λ (s : Stored). not (is_garbage s.kind)) (stored_from es k rest)
unfolding alive_from stored_from stored_of
alive_counted es k [] = refl
alive_counted es k (e ∷ rest) =
    count_step (is_garbage e.object.kind) k (count_by (λ (s : Stored). not (is_garbage s.kind)) (stored_from es (suc k) rest)) (alive_from (suc k) rest) (alive_counted es (suc k) rest)
    ∙ sym (sum_by-cons (λ (s : Stored). cond (not (is_garbage s.kind)) 1 0) (stored_of es k e) (stored_from es (suc k) rest))

split_by : (b : Bool) (k d : ℕ) (xs : List ℕ) → Member d (cond b xs (k ∷ xs)) → ((b ≡ false) × (d ≡ k)) ⊎ Member d xs
unfolding Member
split_by true k d xs m = inr m
split_by false k d xs m = elim m [ inl e ↦ inl (refl, e) | inr r ↦ inr r ]

here_by : (b : Bool) (k d : ℕ) (xs : List ℕ) → b ≡ false → d ≡ k → Member d (cond b xs (k ∷ xs))
unfolding Member
here_by true k d xs h e = absurd (false≢true (sym h))
here_by false k d xs h e = inl e

there_by : (b : Bool) (k d : ℕ) (xs : List ℕ) → Member d xs → Member d (cond b xs (k ∷ xs))
unfolding Member
there_by true k d xs m = m
there_by false k d xs m = inr m

apart_by : (b : Bool) (k : ℕ) (xs : List ℕ) → (Member k xs → ⊥) → IsApart xs → IsApart (cond b xs (k ∷ xs))
unfolding IsApart
apart_by true k xs new h = h
apart_by false k xs new h = (new, h)

alive_least : (k : ℕ) (rest : List Entry) (d : ℕ) → Member d (alive_from k rest) → k ≤ d
unfolding alive_from Member
alive_least k [] d m = elim m [ ]
alive_least k (e ∷ rest) d m = elim (split_by (is_garbage e.object.kind) k d (alive_from (suc k) rest) m) [
  | inl q ↦ omega (arith, q.1)
  | inr r ↦ omega (arith, alive_least (suc k) rest d r)
]

alive_apart : (k : ℕ) (rest : List Entry) → IsApart (alive_from k rest)
unfolding alive_from IsApart
alive_apart k [] = tt
alive_apart k (e ∷ rest) = apart_by (is_garbage e.object.kind) k (alive_from (suc k) rest) (λ m. omega (arith, alive_least (suc k) rest k m)) (alive_apart (suc k) rest)

alive_member : (k : ℕ) (rest : List Entry) (i d : ℕ) (e : Entry) → k + i ≡ d → slice_get rest i ≡ Some e → is_garbage e.object.kind ≡ false → Member d (alive_from k rest)
unfolding alive_from
alive_member k [] i d e at h alive = absurd (cc (h))
alive_member k (x ∷ rest) zero d e at h alive =
    let q : x ≡ e = cc (h) in
    let same : d ≡ k = omega arith in
    here_by (is_garbage x.object.kind) k d (alive_from (suc k) rest) (ap (λ (z : Entry). is_garbage z.object.kind) q ∙ alive) same
alive_member k (x ∷ rest) (suc i) d e at h alive = there_by (is_garbage x.object.kind) k d (alive_from (suc k) rest) (alive_member (suc k) rest i d e (omega arith) h alive)

member_alive : (k : ℕ) (rest : List Entry) (d : ℕ) → Member d (alive_from k rest) → (i : ℕ) × (e : Entry) × (k + i ≡ d) × (slice_get rest i ≡ Some e) × (is_garbage e.object.kind ≡ false)
unfolding alive_from Member
member_alive k [] d m = elim m [ ]
member_alive k (x ∷ rest) d m = elim (split_by (is_garbage x.object.kind) k d (alive_from (suc k) rest) m) [
  | inl q ↦ (0, x, omega (arith, q.1), refl, q.0)
  | inr r ↦
      let t : (i : ℕ) × (e : Entry) × (suc k + i ≡ d) × (slice_get rest i ≡ Some e) × (is_garbage e.object.kind ≡ false) = member_alive (suc k) rest d r in
      (suc t.0, t.1, omega (arith, t.2), t.3, t.4)
]

alive_in : (es : List Entry) (d : ℕ) → Member d (alive_from 0 es) → is_garbage (kind_in es d) ≡ false
alive_in es d m =
    let t : (i : ℕ) × (e : Entry) × (0 + i ≡ d) × (slice_get es i ≡ Some e) × (is_garbage e.object.kind ≡ false) = member_alive 0 es d m in
    let same : d ≡ t.0 = omega (arith, t.2) in
    ap (λ z. is_garbage (kind_in es z)) same ∙ ap (λ k. is_garbage k) (kind_there es t.0 t.1 t.3) ∙ t.4

in_alive : (es : List Entry) (d : ℕ) → is_garbage (kind_in es d) ≡ false → Member d (alive_from 0 es)
in_alive es d h =
    let s : (x : Entry) × (slice_get es d ≡ Some x) = some_at es d (alive_below es d h) in
    alive_member 0 es d d s.0 (omega arith) s.1 (sym (ap (λ k. is_garbage k) (kind_there es d s.0 s.1)) ∙ h)

pub alive_count : (es : List Entry) (met : List ℕ) → IsApart met → ((d : ℕ) → Member d met → is_garbage (kind_in es d) ≡ false) → ((d : ℕ) → is_garbage (kind_in es d) ≡ false → Member d met)
    → length met ≡ count_by (λ (s : Stored). not (is_garbage s.kind)) (persist es)
unfolding persist
alive_count es met apart alive all =
    let no_longer = apart_short met (alive_from 0 es) apart (λ d m. in_alive es d (alive d m)) in
    let no_shorter = apart_short (alive_from 0 es) met (alive_apart 0 es) (λ d m. all d (alive_in es d m)) in
    let same : length met ≡ length (alive_from 0 es) = omega (arith, no_longer, no_shorter) in
    same ∙ alive_counted es 0 es
