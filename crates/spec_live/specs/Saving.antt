-- How objects stand to the dumps: an object is due where its stored form may have changed since the last Cut of a dump that was stored.
use Rattle.std.specs.Prelude.{◌≡◌, ℕ, suc, ◌==◌, Bool, true, false, not, ◌&&◌, if◌then◌else◌, List, [], ◌∷◌, map, Option, Some, None, slice_get}
use Rattle.std.specs.Option.{option_map_or, option_and_then}
use Rattle.spec_live.specs.declared.saving.Saving.{Saving}
use Rattle.spec_live.specs.declared.saving.Saving.TheVariants.{Done, Pending, Due}
use Rattle.spec_live.specs.Chain.{follower}
use Rattle.spec_live.specs.Objects.{Entry, due, is_exit, kind_in, place_in, object_in, list_in}

-- Readers.

-- what isn't there yet will be due
unfoldable pub saving_in : List Entry → ℕ → Saving
saving_in es k = option_map_or (λ e. e.saving) (slice_get es k) Due

abbrev pub is_due : Saving → Bool
is_due Due = true
is_due s = false

-- What the stored form of an object has beside its fields: where its lists begin, and what stands behind it in the list that it is in.
pub record Links : Type 0 where
  pub content : Option ℕ
  pub exit : Option ℕ
  pub next : Option ℕ

abbrev pub first_of_list : List ℕ → Option ℕ
first_of_list [] = None
first_of_list (x ∷ xs) = Some x

-- what stands behind an object in the list that it is in
unfoldable pub next_in : List Entry → ℕ → Option ℕ
next_in es k = option_and_then (λ p. follower k (list_in (is_exit (kind_in es k)) es p)) (place_in es k)

unfoldable pub links_in : List Entry → ℕ → Links
links_in es k = record { content = first_of_list (list_in false es k); exit = first_of_list (list_in true es k); next = next_in es k }

-- Changes.

-- those at which the test holds are due, where the first number is n
unfoldable pub due_from : ℕ → (ℕ → Bool) → List Entry → List Entry
due_from n test [] = []
due_from n test (e ∷ es) = (if test n then due e else e) ∷ due_from (suc n) test es

abbrev pub is_number : Option ℕ → Option ℕ → Bool
is_number None None = true
is_number (Some m) (Some n) = m == n
is_number a b = false

abbrev pub same_links : Links → Links → Bool
same_links a b = is_number a.content b.content && is_number a.exit b.exit && is_number a.next b.next

-- what is linked otherwise than in the world before is due
unfoldable pub relinked : List Entry → List Entry → List Entry
relinked before es = due_from 0 (λ k. not (same_links (links_in before k) (links_in es k))) es

-- A dump.

-- it begins: what is due is pending
abbrev pub pending : Saving → Saving
pending Due = Pending
pending s = s

-- it was stored
abbrev pub saving_done : Saving → Saving
saving_done Pending = Done
saving_done s = s

-- it failed
abbrev pub due_again : Saving → Saving
due_again Pending = Due
due_again s = s

abbrev pub on_saving : (Saving → Saving) → Entry → Entry
on_saving f e = record e { saving = f e.saving }

unfoldable pub all_saving : (Saving → Saving) → List Entry → List Entry
all_saving f es = map (on_saving f) es

-- The law of marks.

-- an object that wasn't due, with the same fields and links
pub record IsAsBefore (es fs : List Entry) (k : ℕ) : Type 0 where
  pub early : is_due (saving_in es k) ≡ false
  pub object : object_in fs k ≡ object_in es k
  pub links : links_in fs k ≡ links_in es k

-- each object is due, or it is as before
abbrev pub Marked : List Entry → List Entry → Type 0
Marked es fs = (k : ℕ) → is_due (saving_in fs k) ≡ false → IsAsBefore es fs k
