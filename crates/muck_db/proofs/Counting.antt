-- How many objects there are, and what a digest tells.
use Rattle.std.proofs.Common.{◌≡◌, ◌⊎◌, ℕ, suc, length, List, [], ◌∷◌, inl, inr, refl, ap, sym, ◌∙◌, Bool, true, false, cond, not, map, take, Ok, Err}
use Rattle.std.proofs.lemmas.Bool.{false≢true}
use Rattle.std.specs.Prelude.{bytes_eq}
use Rattle.hex.specs.Hex.{decode_of}
use Rattle.hex.specs.declared.error.FromHexError.{FromHexError}
use Rattle.hex.specs.declared.error.FromHexError.TheVariants.{OutOfMemory}
use Rattle.spec_live.specs.Password.{digest_of, is_digest_of}
use Rattle.std.proofs.lemmas.List.Sums.{length-filter}
use Rattle.std.specs.List.{count_by, filter}
use Rattle.spec_live.specs.Objects.{is_garbage}
use Rattle.muck_db.specs.declared.slot.Slot.{Slot}
use Rattle.muck_db.specs.inner.Slots.{shown, entry_of, entries_of}
use Rattle.muck_db.specs.inner.Shown.{is_there, is_memory}

length_there : (all slots : List Slot) → length (filter (λ s. not (is_garbage (shown s).kind)) slots) ≡ length (filter is_there (map (entry_of all) slots))
unfolding entry_of
length_there all [] = refl
length_there all (s ∷ slots) = by_cases (not (is_garbage (shown s).kind)) (length_there all slots)
  where
    by_cases : (b : Bool) → length (filter (λ s. not (is_garbage (shown s).kind)) slots) ≡ length (filter is_there (map (entry_of all) slots))
        → length (cond b (s ∷ filter (λ s. not (is_garbage (shown s).kind)) slots) (filter (λ s. not (is_garbage (shown s).kind)) slots)) ≡ length (cond b (entry_of all s ∷ filter is_there (map (entry_of all) slots)) (filter is_there (map (entry_of all) slots)))
    by_cases true h = ap suc h
    by_cases false h = h

pub count_entries : (slots : List Slot) → count_by (λ s. not (is_garbage (shown s).kind)) slots ≡ count_by is_there (entries_of slots)
unfolding entries_of
count_entries slots = sym (length-filter (λ s. not (is_garbage (shown s).kind)) slots) ∙ length_there slots slots ∙ length-filter is_there (map (entry_of slots) slots)

-- a digest that begins with a salt, and one that doesn't
pub known_by : (word digest digits salt : List ℕ) → digits ≡ take 16 digest → decode_of digits ≡ Ok salt → is_digest_of word digest ≡ bytes_eq digest (digest_of salt word)
unfolding is_digest_of
known_by word digest digits salt e h = rw (← e, h) refl

pub unknown_by : (word digest digits : List ℕ) (fault : FromHexError) → digits ≡ take 16 digest → (fault ≡ OutOfMemory) ⊎ (decode_of digits ≡ Err fault) → is_memory fault ≡ false → is_digest_of word digest ≡ false
unfolding is_digest_of
unknown_by word digest digits fault e h other = elim h [
  | inl q ↦ absurd (false≢true (sym other ∙ ap (λ f. is_memory f) q))
  | inr q ↦ rw (← e, q) refl
]
