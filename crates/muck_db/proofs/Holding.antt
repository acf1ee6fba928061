-- Whether something in a list passes a test.
use Rattle.std.proofs.Common.{◌≡◌, ℕ, List, Option, Some, None, refl, ◌∙◌, ap, length, Bool, true, false, ◌||◌}
use Rattle.std.specs.List.{list_any}
use Rattle.muck_laws.proofs.Tests.{any_same}
use Rattle.spec_live.specs.Chain.{walk, Ends}
use Rattle.spec_live.specs.Objects.{is_player, kind_in, list_in}
use Rattle.spec_live.specs.Setting.{holds_player}
use Rattle.spec_live.proofs.Chains.{walk_next, walk_none}
use Rattle.muck_db.specs.declared.slot.Slot.{Slot}
use Rattle.muck_db.specs.inner.Slots.{next_at, first_at, kind_at, list_at, entries_of}
use Rattle.muck_db.proofs.Readers.{kind_in-entries_of, list_in-entries_of}

pub any_here : (f : ℕ → Bool) (n : ℕ) (next : ℕ → Option ℕ) (s : Option ℕ) (x : ℕ) → s ≡ Some x → Ends n next s → f x ≡ true → list_any f (walk n next s) ≡ true
any_here f n next s x e h t = ap (λ (l : List ℕ). list_any f l) (walk_next n next s (next x) x e refl h) ∙ ap (λ b. b || list_any f (walk n next (next x))) t

pub any_later : (f : ℕ → Bool) (n : ℕ) (next : ℕ → Option ℕ) (s t : Option ℕ) (x : ℕ) → s ≡ Some x → t ≡ next x → Ends n next s → f x ≡ false → list_any f (walk n next s) ≡ list_any f (walk n next t)
any_later f n next s t x e to h fails = ap (λ (l : List ℕ). list_any f l) (walk_next n next s t x e to h) ∙ ap (λ b. b || list_any f (walk n next t)) fails

pub any_none : (f : ℕ → Bool) (n : ℕ) (next : ℕ → Option ℕ) (s : Option ℕ) → s ≡ None → list_any f (walk n next s) ≡ false
any_none f n next s e = ap (λ (o : Option ℕ). list_any f (walk n next o)) e ∙ ap (λ (l : List ℕ). list_any f l) (walk_none n next)

pub holds_is : (slots : List Slot) (n : ℕ) → holds_player (entries_of slots) n ≡ list_any (λ x. is_player (kind_at slots x)) (walk (length slots) (next_at slots) (first_at false slots n))
unfolding holds_player list_at
holds_is slots n = any_same (λ x. is_player (kind_in (entries_of slots) x)) (λ x. is_player (kind_at slots x)) (list_in false (entries_of slots) n) (λ x. ap is_player (kind_in-entries_of slots x))
    ∙ ap (λ (l : List ℕ). list_any (λ x. is_player (kind_at slots x)) l) (list_in-entries_of false slots n)
