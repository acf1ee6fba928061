-- Records that are judged, one after another.
use Rattle.std.proofs.Common.{◌≡◌, ℕ, ◌+◌, ◌<◌, suc, List, ◌∷◌, sym, ◌∙◌, ap, length, get_or, drop, Bool, true, false, ◌&&◌, add-one}
use Rattle.std.proofs.Math.Seq.{drop-cons, drop-length}
use Rattle.spec_live.specs.Objects.{dbref_of, same}
use Rattle.muck_codec.specs.declared.stored.Stored.{Stored}
use Rattle.muck_store.specs.Whole.{agrees_with_records, all_tied}

drop_at : (os : List Stored) (k : ℕ) (s : Stored) → k < length os → s ≡ get_or os k s → drop k os ≡ s ∷ drop (suc k) os
drop_at os k s h e = drop-cons os k s h ∙ ap (λ (x : Stored). x ∷ drop (suc k) os) (sym e)

judged : (os rest : List Stored) (k : ℕ) (s : Stored) (b : Bool) → (same s.dbref (dbref_of k) && agrees_with_records os k s) ≡ b → all_tied os k (s ∷ rest) ≡ (b && all_tied os (suc k) rest)
unfolding all_tied
judged os rest k s b e = ap (λ (x : Bool). x && all_tied os (suc k) rest) e

pub tied_more : (os : List Stored) (k : ℕ) (s : Stored) → k < length os → s ≡ get_or os k s → (same s.dbref (dbref_of k) && agrees_with_records os k s) ≡ true
    → all_tied os k (drop k os) ≡ all_tied os (k + 1) (drop (k + 1) os)
tied_more os k s h e right =
    ap (all_tied os k) (drop_at os k s h e) ∙ judged os (drop (suc k) os) k s true right
    ∙ ap (λ (j : ℕ). all_tied os j (drop j os)) (sym (add-one k))

pub tied_stops : (os : List Stored) (k : ℕ) (s : Stored) → k < length os → s ≡ get_or os k s → (same s.dbref (dbref_of k) && agrees_with_records os k s) ≡ false
    → all_tied os k (drop k os) ≡ false
tied_stops os k s h e wrong = ap (all_tied os k) (drop_at os k s h e) ∙ judged os (drop (suc k) os) k s false wrong

pub tied_ends : (os : List Stored) (k : ℕ) → k ≡ length os → all_tied os k (drop k os) ≡ true
unfolding all_tied
tied_ends os k e = ap (λ (j : ℕ). all_tied os k (drop j os)) e ∙ ap (all_tied os k) (drop-length os)
