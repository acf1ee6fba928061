-- The offer of a word.
use Rattle.std.proofs.Common.{◌≡◌, ℕ, zero, suc, ◌<◌, ◌≤◌, List, [], ◌∷◌, length, refl, ap, arith}
use Rattle.std.specs.Prelude.{slice_set, slice_index_or}
use Rattle.muf_model.specs.declared.code.Offer.{Offer}
use Rattle.muf_model.specs.declared.code.CodeWord.{CodeWord}
use Rattle.muf_compile.specs.Growth.{widened}
use Rattle.muf_compile.specs.inner.Build.{offered_in}

pub none_there : (n : ℕ) (o : Offer) (ws : List CodeWord) → length ws ≤ n → offered_in n o ws ≡ ws
none_there n o [] h = refl
none_there zero o (w ∷ ws) h = absurd (omega arith)
none_there (suc n) o (w ∷ ws) h = ap (λ l. w ∷ l) (none_there n o ws (omega arith))

pub one_there : (n : ℕ) (o : Offer) (ws : List CodeWord) (w : CodeWord) → n < length ws → w ≡ slice_index_or ws n w → slice_set ws n (record w { offer = widened w.offer o }) ≡ offered_in n o ws
one_there n o [] w h e = absurd (omega arith)
one_there zero o (x ∷ ws) w h e = ap (λ (v : CodeWord). record v { offer = widened v.offer o } ∷ ws) e
one_there (suc n) o (x ∷ ws) w h e = ap (λ l. x ∷ l) (one_there n o ws w (omega arith) e)

pub ruleset offers = (none_there, one_there)
