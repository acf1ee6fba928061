-- One more call.
use Rattle.std.proofs.Common.{◌≡◌, ℕ, ◌+◌, List, [], ◌∷◌, ◌++◌, length, reverse, true, sym, ◌∙◌, ap, subst, arith, length-append}
use Rattle.std.proofs.lemmas.List.{take_all, take-append-le, reverse-append}
use Rattle.muck_disk.specs.Images.{Elapses}
use Rattle.muck_disk.specs.inner.Replay.{seen_after, left_after, left_by, left_at}
use Rattle.muck_disk.specs.declared.memory.Call.{Call}
use Rattle.muck_disk.specs.declared.memory.Call.TheVariants.{Synced}

pub newest : (calls : List Call) (x : Call) → reverse (calls ++ x ∷ []) ≡ x ∷ reverse calls
newest calls x = reverse-append calls (x ∷ [])

-- no time passes
pub stands : (first : List ℕ) (calls : List Call) (step : List ℕ → List ℕ → Type 0) → Elapses (length calls) (length calls) (left_at first calls) (left_at first calls) step
stands first calls step = record { later = omega arith; kept = λ t c le left. left; stays = λ t c le left. left; comes = λ t c lt le left. absurd (omega arith) }

pub goes_on : (first : List ℕ) (calls : List Call) (x : Call) (step : List ℕ → List ℕ → Type 0)
    → ((c : List ℕ) → left_by (left_after first (reverse calls)) (seen_after first (reverse calls)) x c → (d : List ℕ) × left_after first (reverse calls) d × step d c)
    → Elapses (length calls) (length (calls ++ x ∷ [])) (left_at first calls) (left_at first (calls ++ x ∷ [])) step
goes_on first calls x step by = record {
  later = omega (arith, size);
  kept = λ t c le left. subst (λ l. left_after first (reverse l) c) (take-append-le t calls (x ∷ []) le) left;
  stays = λ t c le left. subst (λ l. left_after first (reverse l) c) (sym (take-append-le t calls (x ∷ []) le)) left;
  comes = λ t c lt le left.
      let from = by c (subst (λ l. left_after first l c) (ap reverse (take_all t (calls ++ x ∷ []) (omega (arith, size, lt))) ∙ newest calls x) left) in
      (from.0, subst (λ l. left_after first (reverse l) from.0) (sym (take_all (length calls) calls (omega arith))) from.1, from.2);
}
  where
    size : length (calls ++ x ∷ []) ≡ length calls + 1
    size = length-append calls (x ∷ [])

-- the same, of lists that are known by equations
pub goes_to : (first first' : List ℕ) (calls later : List Call) (x : Call) (step : List ℕ → List ℕ → Type 0)
    → first' ≡ first → later ≡ calls ++ x ∷ []
    → ((c : List ℕ) → left_by (left_after first (reverse calls)) (seen_after first (reverse calls)) x c → (d : List ℕ) × left_after first (reverse calls) d × step d c)
    → Elapses (length calls) (length later) (left_at first calls) (left_at first' later) step
goes_to first first' calls later x step same is by =
    subst (λ f. Elapses (length calls) (length later) (left_at first calls) (left_at f later) step) (sym same)
    (subst (λ (l : List Call). Elapses (length calls) (length l) (left_at first calls) (left_at first l) step) (sym is) (goes_on first calls x step by))

-- what a sync leaves at last
pub settled : (first first' : List ℕ) (calls later : List Call) (seen : List ℕ)
    → first' ≡ first → later ≡ calls ++ Synced true ∷ [] → seen ≡ seen_after first (reverse calls)
    → (c : List ℕ) → left_at first' later (length later) c → c ≡ seen
settled first first' calls later seen same is at c left =
    subst (λ l. left_after first l c) (ap reverse (take_all (length later) later (omega arith) ∙ is) ∙ newest calls (Synced true)) (subst (λ f. left_at f later (length later) c) same left) ∙ sym at
