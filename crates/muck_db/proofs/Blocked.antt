-- What is known of the slots of a block by its flags.
use Rattle.std.proofs.Common.{◌≡◌, ◌≢◌, ℕ, ◌+◌, ◌*◌, ◌/◌, ◌%◌, ◌<◌, ◌≤◌, zero, suc, List, [], ◌∷◌, ◌++◌, Some, None, inl, inr, refl, sym, ◌∙◌, ap, subst, length, arith, Bool, true, false, not, Option, ◌||◌}
use Rattle.std.proofs.lemmas.Bool.{cases_eq, cases_lt, false≢true}
use Rattle.std.proofs.lemmas.Nat.{div-add-mod'}
use Rattle.std.proofs.Math.Nat.{mod-lt}
use Rattle.std.specs.List.{slice_get, slice_set}
use Rattle.muck_laws.proofs.Numbers.{same_block}
use Rattle.muck_laws.proofs.Places.{get_elsewhere, get_more}
use Rattle.muck_db.specs.declared.slot.Slot.{Slot}
use Rattle.muck_db.specs.declared.blocks.Flag.{Flag}
use Rattle.muck_db.specs.declared.blocks.Flag.TheVariants.{Unsaved, Garbage, Marked}
use Rattle.muck_db.specs.declared.blocks.Block.{Block}
use Rattle.std.specs.Option.{option_map, option_map_or, option_and_then}
use Rattle.std.proofs.lemmas.Option.{slice_get_cases}
use Rattle.muck_model.specs.declared.dbref.Kind.TheVariants as Kinds
use Rattle.spec_live.specs.declared.object.Object.{Object}
use Rattle.spec_live.specs.declared.saving.Saving.{Saving}
use Rattle.spec_live.specs.declared.saving.Saving.TheVariants.{Due, Pending, Done}
use Rattle.spec_live.specs.Objects.{is_garbage}
use Rattle.muck_db.specs.inner.Slots.{shown, object_at, kind_at, mark_at}
use Rattle.muck_db.specs.inner.Blocks.{full, has, is_done, is_some, is_so, flagged, LacksAt, IsCovered}

-- Writes at one place of a list.

-- The flags of a block that is written.

full_has : (flag : Flag) → has flag full ≡ true
full_has Unsaved = refl
full_has Garbage = refl
full_has Marked = refl

not_full : {X : Type 0} (flag : Flag) → has flag full ≡ false → X
not_full flag h = absurd (false≢true (sym h ∙ full_has flag))

flag_here : (flag : Flag) (blocks : List Block) (j : ℕ) (b : Block) → flagged flag (slice_set blocks j b) j ≡ false → has flag b ≡ false
unfolding flagged
flag_here flag [] j b h = absurd (false≢true (sym h))
flag_here flag (y ∷ ys) zero b h = h
flag_here flag (y ∷ ys) (suc j) b h = flag_here flag ys j b h

flag_elsewhere : (flag : Flag) (blocks : List Block) (j i : ℕ) (b : Block) → (i ≡ j → ⊥) → flagged flag (slice_set blocks j b) i ≡ flagged flag blocks i
unfolding flagged
flag_elsewhere flag [] j i b ne = refl
flag_elsewhere flag (y ∷ ys) zero zero b ne = absurd (ne refl)
flag_elsewhere flag (y ∷ ys) zero (suc i) b ne = refl
flag_elsewhere flag (y ∷ ys) (suc j) zero b ne = refl
flag_elsewhere flag (y ∷ ys) (suc j) (suc i) b ne = flag_elsewhere flag ys j i b (λ e. ne (ap suc e))

flag_more : (flag : Flag) (blocks : List Block) (j : ℕ) → flagged flag (blocks ++ full ∷ []) j ≡ false → flagged flag blocks j ≡ false
unfolding flagged
flag_more flag [] zero h = not_full flag h
flag_more flag [] (suc j) h = h
flag_more flag (y ∷ ys) zero h = h
flag_more flag (y ∷ ys) (suc j) h = flag_more flag ys j h

-- Changes that keep the flags true of the slots.

-- what was said of a block holds of its slots, and the others are as they were
put : (old new : List Slot) (blocks : List Block) (j : ℕ) (b : Block) → ((flag : Flag) (i : ℕ) (s : Slot) → i / 16 ≡ j → slice_get new i ≡ Some s → has flag b ≡ false → is_so flag s ≡ false)
    → ((i : ℕ) → (i / 16 ≡ j → ⊥) → slice_get new i ≡ slice_get old i) → IsCovered old blocks → IsCovered new (slice_set blocks j b)
put old new blocks j b here same covered flag i unflagged s at = elim (cases_eq (i / 16) j) [
  | inl e ↦
      let P : ℕ → Type 0 = λ z. flagged flag (slice_set blocks j b) z ≡ false in
      here flag i s e at (flag_here flag blocks j b (subst P e unflagged))
  | inr ne ↦ covered flag i (sym (flag_elsewhere flag blocks j (i / 16) b ne) ∙ unflagged) s (sym (same i ne) ∙ at)
]

pub written : (slots : List Slot) (blocks : List Block) (k : ℕ) (w : Slot) → IsCovered slots blocks → IsCovered (slice_set slots k w) (slice_set blocks (k / 16) full)
written slots blocks k w =
    put slots (slice_set slots k w) blocks (k / 16) full (λ flag i s e at h. not_full flag h) (λ i ne. get_elsewhere slots k i w (λ e. ne (ap (λ z. z / 16) e)))

pub reviewed : (slots : List Slot) (blocks : List Block) (j : ℕ) (b : Block) → ((flag : Flag) (i : ℕ) (s : Slot) → i / 16 ≡ j → slice_get slots i ≡ Some s → has flag b ≡ false → is_so flag s ≡ false)
    → IsCovered slots blocks → IsCovered slots (slice_set blocks j b)
reviewed slots blocks j b here = put slots slots blocks j b here (λ i ne. refl)

pub opened : (slots : List Slot) (blocks : List Block) → IsCovered slots blocks → IsCovered slots (blocks ++ full ∷ [])
opened slots blocks covered flag i unflagged = covered flag i (flag_more flag blocks (i / 16) unflagged)

pub pushed : (slots : List Slot) (blocks : List Block) (x : Slot) → IsCovered slots blocks → IsCovered (slots ++ x ∷ []) (slice_set blocks (length slots / 16) full)
pushed slots blocks x =
    put slots (slots ++ x ∷ []) blocks (length slots / 16) full (λ flag i s e at h. not_full flag h) (λ i ne. get_more slots x i (λ e. ne (ap (λ z. z / 16) e)))

-- nothing but the flags is new
pub flagged_full : (slots : List Slot) (blocks : List Block) (j : ℕ) → IsCovered slots blocks → IsCovered slots (slice_set blocks j full)
flagged_full slots blocks j = put slots slots blocks j full (λ flag i s e at h. not_full flag h) (λ i ne. refl)

-- The numbers of a block.

pub record IsWithin (k i : ℕ) : Type 0 where
  pub low : k / 16 * 16 ≤ i
  pub high : i < k / 16 * 16 + 16

pub within : (k i : ℕ) → i / 16 ≡ k / 16 → IsWithin k i
within k i e =
    let split : k / 16 * 16 + i % 16 ≡ i = ap (λ z. z * 16 + i % 16) (sym e) ∙ div-add-mod' i 16 in
    let some : 0 < 16 = omega arith in
    let small : i % 16 < 16 = mod-lt i some in
    record { low = omega (arith, split); high = omega (arith, split, small) }

-- Passing over a block whose flag isn't set.

pub passed_over : (flag : Flag) (table slots : List Slot) (blocks : List Block) (from k : ℕ) → table ≡ slots → IsCovered table blocks → flagged flag blocks (k / 16) ≡ false
    → ((i : ℕ) → from ≤ i → i < k → LacksAt flag slots i) → (i : ℕ) → from ≤ i → i < (k / 16 + 1) * 16 → LacksAt flag slots i
passed_over flag table slots blocks from k is covered unflagged before i le lt s at = elim (cases_lt i k) [
  | inl less ↦ before i le less s at
  | inr more ↦ covered flag i (ap (λ j. flagged flag blocks j) (same_block k i more lt) ∙ unflagged) s (ap (λ (z : List Slot). slice_get z i) is ∙ at)
]

-- What a slot without a flag's mark is.

is_some_none : {X : Type 0} (o : Option X) → is_some o ≡ false → o ≡ None
is_some_none None h = refl
is_some_none (Some x) h = absurd (false≢true (sym h))

is_done_done : (s : Saving) → not (is_done s) ≡ false → s ≡ Done
is_done_done Due h = absurd (false≢true (sym h))
is_done_done Pending h = absurd (false≢true (sym h))
is_done_done Done h = refl

pub unmarked : (slots : List Slot) (k : ℕ) → LacksAt Marked slots k → mark_at slots k ≡ None
unfolding mark_at
unmarked slots k lacks = by_cases (slice_get slots k) (λ s at. lacks s at)
  where
    by_cases : (o : Option Slot) → ((s : Slot) → o ≡ Some s → is_some s.mark ≡ false) → option_and_then (λ (s : Slot). s.mark) o ≡ None
    by_cases None h = refl
    by_cases (Some s) h = is_some_none s.mark (h s refl)

pub alive : (slots : List Slot) (k : ℕ) → k < length slots → LacksAt Garbage slots k → is_garbage (kind_at slots k) ≡ false
unfolding kind_at object_at
alive slots k lt lacks = elim (slice_get_cases slots k).1 [
  | inl q ↦ ap (λ (o : Option Slot). is_garbage (option_map_or (λ (x : Object). x.kind) (option_map shown o) Kinds.Garbage)) q.2 ∙ lacks q.0 q.2
  | inr q ↦ absurd (omega (arith, q.0, lt))
]

pub settled : (slots : List Slot) (k : ℕ) (s : Slot) → LacksAt Unsaved slots k → slice_get slots k ≡ Some s → s.saving ≡ Done
settled slots k s lacks at = is_done_done s.saving (lacks s at)

pub covered_by : (slots table : List Slot) (blocks flags : List Block) → slots ≡ table → blocks ≡ flags → IsCovered slots blocks → IsCovered table flags
covered_by slots table blocks flags is so covered =
    let P : List Slot → Type 0 = λ z. IsCovered z flags in
    let Q : List Block → Type 0 = λ z. IsCovered slots z in
    subst P is (subst Q so covered)

-- A walk over the slots of a block, one further.

-- no slot from the first on that was looked at is what a flag tells of that the block lacks
abbrev pub Seen : ℕ → ℕ → List Slot → Block → Type 0
Seen first i slots b = (flag : Flag) (j : ℕ) (s : Slot) → first ≤ j → j < i → slice_get slots j ≡ Some s → has flag b ≡ false → is_so flag s ≡ false

pub seen_slot : (first i : ℕ) (slots : List Slot) (x : Slot) (b c : Block) → slice_get slots i ≡ Some x → ((flag : Flag) → has flag c ≡ has flag b || is_so flag x) → Seen first i slots b → Seen first (i + 1) slots c
seen_slot first i slots x b c here joined seen flag j s le lt at lacks =
    let parts : (has flag b ≡ false) × (is_so flag x ≡ false) = both (has flag b) (is_so flag x) (sym (joined flag) ∙ lacks) in
    elim (cases_lt j i) [
      | inl less ↦ seen flag j s le less at parts.0
      | inr more ↦
          let same : j ≡ i = omega (arith, lt, more) in
          let found : Some x ≡ Some s = sym here ∙ ap (λ k. slice_get slots k) (sym same) ∙ at in
          let is : x ≡ s = cc found in
          subst (λ (y : Slot). is_so flag y ≡ false) is parts.1
    ]
  where
    both : (p q : Bool) → p || q ≡ false → (p ≡ false) × (q ≡ false)
    both true q h = absurd (false≢true (sym h))
    both false q h = (refl, h)

pub seen_none : (first i : ℕ) (slots : List Slot) (b : Block) → slice_get slots i ≡ None → Seen first i slots b → Seen first (i + 1) slots b
seen_none first i slots b none seen flag j s le lt at lacks = elim (cases_lt j i) [
  | inl less ↦ seen flag j s le less at lacks
  | inr more ↦
      let same : j ≡ i = omega (arith, lt, more) in
      let found : None ≡ Some s = sym none ∙ ap (λ k. slice_get slots k) (sym same) ∙ at in
      absurd (cc found)
]
